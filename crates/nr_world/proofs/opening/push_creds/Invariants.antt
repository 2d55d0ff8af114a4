use Rattle.std.proofs.Common.{◌≡◌, replicate}
use Rattle.nr_rpc.specs.declared.cred.Cred.TheVariants as credentials
use Rattle.nr_world.proofs.opening.push_creds.Given as goal

abbrev pub invariant-loop-at : goal.invariant-loop-at
invariant-loop-at l = l.creds.items ≡ replicate l._at credentials.None
