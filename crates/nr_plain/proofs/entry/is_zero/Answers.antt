use Rattle.std.proofs.Common.{sym}
use Rattle.nr_plain.proofs.Entries.{no_word}
use Rattle.nr_plain.proofs.entry.is_zero.Goals as goal

pub returns-in-None : goal.returns-in-None
returns-in-None c = sym (no_word c.args.at c.args.bytes.now c.in-None.ensures.lookup.0)
