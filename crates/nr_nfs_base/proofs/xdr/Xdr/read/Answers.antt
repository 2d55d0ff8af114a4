use Rattle.std.proofs.Common.{arith}
use Rattle.nr_nfs_base.proofs.ReadingAll.{is_found, is_only}
use Rattle.nr_nfs_base.proofs.xdr.Xdr.read.Goals as goal

pub returns-clause-found : goal.returns-clause-found
returns-clause-found g c =
    is_found g.Self.Xdr.codec g.met.Self.Xdr.lawful c.args.bytes.now c.read_inner.result (λ i. omega (arith, c.type_inv.bytes i)) c.read_inner.ensures

pub returns-clause-only : goal.returns-clause-only
returns-clause-only g c = λ v encoded.
    is_only g.Self.Xdr.codec g.met.Self.Xdr.lawful c.args.bytes.now c.read_inner.result v c.read_inner.ensures encoded
