use Rattle.std.proofs.Common.{Some, None}
use Rattle.nr_nfs_base.proofs.Tags.{tag_is}
use Rattle.nr_nfs_base.proofs.status_union.OptionNumbered.from_number.Goals as goal

pub returns-in-None : goal.returns-in-None
returns-in-None g c = tag_is g.S.Numbered.number g.S.Numbered.all c.args.word None c.if-word-eq0.false c.in-None.ensures

pub returns-in-Some : goal.returns-in-Some
returns-in-Some g c = tag_is g.S.Numbered.number g.S.Numbered.all c.args.word (Some c.in-Some.status) c.if-word-eq0.false c.in-Some.ensures
