use Rattle.std.proofs.Common.{◌≤◌, length}
use Rattle.nr_xdr.specs.Reading.{Takes, opaque_at}
use Rattle.nr_xdr.specs.Item.Item.{Opaque}
use Rattle.nr_xdr.proofs.Cursors.{found_by, only_by}
use Rattle.nr_xdr.proofs.Items.{opaque_takes, opaque_again}
use Rattle.nr_xdr.proofs.reader.Reader.opaque.Goals as goal

pub returns-clause-found : goal.returns-clause-found
returns-clause-found c =
    let old = c.args.self.now in
    let new = c.opaque_inner.new.self in
    found_by (λ s. s.now) c.opaque_inner.result old new (opaque_at c.args.max old) (λ s. Takes old new (Opaque s) × (length s ≤ c.args.max))
    (λ s e. opaque_takes old c.args.max s new c.opaque_inner.ensures.bytes e) c.opaque_inner.ensures.exact

pub returns-clause-only : goal.returns-clause-only
returns-clause-only c = λ bytes after le t.
    only_by (λ s. s.now) c.opaque_inner.result c.args.self.now c.opaque_inner.new.self after (opaque_at c.args.max c.args.self.now) bytes (opaque_again c.args.self.now c.args.max bytes after le t) c.opaque_inner.ensures.exact
