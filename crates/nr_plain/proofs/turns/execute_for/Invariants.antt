use Rattle.nr_plain.specs.History.{entry_to_append}
use Rattle.nr_plain.proofs.turns.execute_for.Given as goal

abbrev pub ghosts-append : goal.ghosts-append
ghosts-append g a = record { appended = entry_to_append a._client a._now a._payload.now a._reply.now }
