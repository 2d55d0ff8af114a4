use Rattle.std.proofs.Common.{◌≡◌, length}
use Rattle.nr_xdr.specs.Reading.{Takes, fixed_at}
use Rattle.nr_xdr.specs.Item.Item.{Fixed}
use Rattle.nr_xdr.proofs.Cursors.{found_by, only_by}
use Rattle.nr_xdr.proofs.Items.{fixed_takes, fixed_again}
use Rattle.nr_xdr.proofs.reader.Reader.fixed.Goals as goal

pub returns-clause-found : goal.returns-clause-found
returns-clause-found c =
    let old = c.args.self.now in
    let new = c.fixed_inner.new.self in
    found_by (λ s. s.now) c.fixed_inner.result old new (fixed_at c.args.len old) (λ s. Takes old new (Fixed s) × (length s ≡ c.args.len))
    (λ s e. fixed_takes old c.args.len s new e) c.fixed_inner.ensures

pub returns-clause-only : goal.returns-clause-only
returns-clause-only c = λ bytes after len t.
    only_by (λ s. s.now) c.fixed_inner.result c.args.self.now c.fixed_inner.new.self after (fixed_at c.args.len c.args.self.now) bytes (fixed_again c.args.self.now c.args.len bytes after len t) c.fixed_inner.ensures
