use Rattle.nr_nfs_base.proofs.ReadingAll.{one_value_is}
use Rattle.nr_nfs_base.proofs.laws.one_value.Goals as goal

pub returns : goal.returns
returns g c = λ v w x y more others r s e. one_value_is g.T.Xdr.codec g.met.T.Xdr.lawful v w x y more others r s e
