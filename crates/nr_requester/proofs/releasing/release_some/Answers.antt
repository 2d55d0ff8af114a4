use Rattle.std.proofs.Common.{List, ℕ, Option, Some, ap, sym, ◌∙◌}
use Rattle.nr_regions.specs.RegisteredMemory.{Claim}
use Rattle.nr_requester.specs.AfterPiece.{buffer_under}
use Rattle.nr_requester.proofs.OutsideBounds.{released_outside}
use Rattle.nr_requester.proofs.releasing.release_some.Goals as goal

pub returns-in-Some-clause-buffer : goal.returns-in-Some-clause-buffer
returns-in-Some-clause-buffer c =
    ap (λ (bytes : List ℕ). Some bytes) c.release.ensures.bytes
    ∙ sym (ap (λ (x : Option Claim). buffer_under c.args.endpoint.now.link.state.memory x) c.in-Some.is)

pub returns-in-Some-clause-outside : goal.returns-in-Some-clause-outside
returns-in-Some-clause-outside c = released_outside c.args.endpoint.now c.release.new.self c.in-Some.claim.stag c.release.ensures.state c.release.ensures.outside
