use Rattle.nr_turnstile.specs.Passes.{seen_by}
use Rattle.nr_turnstile.specs.Turns.{pass_of}
use Rattle.nr_shared.specs.Histories.{forget_by}
use Rattle.nr_shared.proofs.turns.forget_under.Given as goal

abbrev pub ghosts-append_forget : goal.ghosts-append_forget
ghosts-append_forget g a = record { entry = forget_by (seen_by (pass_of a.turn.now)) a._xid }
