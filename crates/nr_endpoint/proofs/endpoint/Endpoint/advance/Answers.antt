use Rattle.std.proofs.Common.{◌≤◌, ℕ, length, sym, subst}
use Rattle.nr_wire.specs.Stream.{is_whole}
use Rattle.nr_wire.proofs.Feedings.{bytes_taken_within}
use Rattle.nr_endpoint.proofs.endpoint.Endpoint.advance.Goals as goal
use Rattle.std.proofs.Common.{◌++◌, refl}

pub split_at-requires-2 : goal.split_at-requires-2
split_at-requires-2 c =
    subst (λ (n : ℕ). n ≤ length c.args.left.now) (sym c.step-taken.ensures.taken)
    (bytes_taken_within c.args.self.now.link.awaited c.args.self.now.link.rest c.args.left.now (is_whole c.args.self.now.link.awaited (c.args.self.now.link.rest ++ c.args.left.now)) refl)
