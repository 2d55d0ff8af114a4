use Rattle.nr_shared.specs.declared.entry.Entry.TheVariants as entries
use Rattle.nr_shared.specs.Draining.{taken_between}
use Rattle.nr_shared.proofs.turns.drain_under.Given as goal

abbrev pub ghosts-append_wrote : goal.ghosts-append_wrote
ghosts-append_wrote g a = record { entry = entries.Wrote (taken_between a._before.now.value.state a._after.now.value.state) }

abbrev pub ghosts-append_write_failed : goal.ghosts-append_write_failed
ghosts-append_write_failed g a = record { entry = entries.WriteFailed }
