use Rattle.std.proofs.Common.{w64}
use Rattle.std.proofs.lemmas.Int.{to_z-of_z}
use Rattle.nr_words.proofs.Tables.{in_range_of}
use Rattle.nr_words.proofs.settings.in_range.Goals as goal

pub returns : goal.returns
returns c =
    let same = to_z-of_z w64 c.args.value c.ranges.value in
    rw same (in_range_of c.args.low c.args.high c.args.value (rw same at c.if-value-lt0.false) (rw same at c.if-value-low.false) (rw same at c.if-value-high.false))
