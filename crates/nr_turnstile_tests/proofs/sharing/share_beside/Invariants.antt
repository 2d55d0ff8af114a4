use Rattle.std.proofs.Common.{None, Some}
use Rattle.nr_shared.specs.declared.entry.Entry.TheVariants as entries
use Rattle.nr_turnstile_tests.proofs.sharing.share_beside.Given as goal

abbrev pub ghosts-shared : goal.ghosts-shared
ghosts-shared g a = record { entry = entries.Initial (record { requester = a.requester; sink = record { link = 0; faults = a.sink.inner.faults; taken = Some a.sink.inner.bytes }; tries = None }) }
