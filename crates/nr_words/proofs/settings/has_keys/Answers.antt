use Rattle.std.proofs.Common.{arith}
use Rattle.std.proofs.lemmas.Bool.Decides.{nat_tests}
use Rattle.nr_words.proofs.Tables.{count_view}
use Rattle.nr_words.proofs.settings.has_keys.Goals as goal

pub returns : goal.returns
returns c = rw (count_view c.args.table.now.entries, ← c.len.ensures.len) (grind (arith, nat_tests))
