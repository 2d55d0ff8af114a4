use Rattle.nr_turnstile.specs.Passes.{seen_by}
use Rattle.nr_turnstile.specs.Turns.{pass_of}
use Rattle.nr_requester.specs.Buffers.{bytes_of_buffers}
use Rattle.nr_shared.specs.Histories.{revoke_by}
use Rattle.nr_shared.proofs.turns.revoke_under.Given as goal

abbrev pub ghosts-append_revoke : goal.ghosts-append_revoke
ghosts-append_revoke g a = record { entry = revoke_by (seen_by (pass_of a.turn.now)) a._xid (bytes_of_buffers a._buffers.now.value) }
