use Rattle.std.proofs.Common.{refl}
use Rattle.nr_ops_file.proofs.Parts.{part_is}
use Rattle.nr_ops_file.proofs.data.ReadOkPart.new.Goals as goal

pub returns : goal.returns
returns c =
    part_is c.args.file.now c.args.attributes c.args.offset c.args.count c.count_read-count.result _ c.len-size.result c.reaches_end.result c.count_read-count.ensures c.len-size.ensures refl c.reaches_end.ensures
