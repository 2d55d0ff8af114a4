use Rattle.nr_turnstile.specs.Passes.{seen_by}
use Rattle.nr_turnstile.specs.Turns.{pass_of}
use Rattle.nr_shared.specs.HandedBack.{lost_by}
use Rattle.nr_shared.specs.Histories.{done_by}
use Rattle.nr_shared.proofs.turns.try_take_under.Given as goal

abbrev pub ghosts-append_done : goal.ghosts-append_done
ghosts-append_done g a = record { entry = done_by (seen_by (pass_of a.turn.now)) a._xid a._outcome.now.value }

abbrev pub ghosts-append_lost : goal.ghosts-append_lost
ghosts-append_lost g a = record { entry = lost_by (seen_by (pass_of a.turn.now)) a._end a._xid a._buffers.now.value }
