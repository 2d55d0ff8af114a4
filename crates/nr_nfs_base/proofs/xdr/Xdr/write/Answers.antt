use Rattle.nr_nfs_base.proofs.ReadingAll.{written_is_read}
use Rattle.nr_nfs_base.proofs.xdr.Xdr.write.Goals as goal

pub returns-clause-reading : goal.returns-clause-reading
returns-clause-reading g c =
    written_is_read g.Self.Xdr.codec c.args.self.now c.new.result c.in_ok-write_to.field-0 c.finish.result c.new.ensures c.finish.ensures c.in_ok-write_to.ensures.exact
