use Rattle.std.proofs.Common.{[]}
use Rattle.nr_plain.specs.History.{history}
use Rattle.nr_plain.proofs.turns.share.Given as goal

abbrev pub ghosts-put_in : goal.ghosts-put_in
ghosts-put_in a = record { first = history a._first.now [] }
