use Rattle.nr_xdr.specs.Reading.{Takes, unsigned_at}
use Rattle.nr_xdr.specs.Item.Item.{Unsigned}
use Rattle.nr_xdr.proofs.Cursors.{found_by, only_by}
use Rattle.nr_xdr.proofs.Items.{unsigned_takes, unsigned_again}
use Rattle.nr_xdr.proofs.reader.Reader.u32.Goals as goal

pub returns-clause-found : goal.returns-clause-found
returns-clause-found c =
    let old = c.args.self.now in
    let new = c.u32_inner.new.self in
    found_by (λ n. n) c.u32_inner.result old new (unsigned_at old) (λ n. Takes old new (Unsigned n))
    (λ n e. unsigned_takes old n new c.u32_inner.ensures.bytes e) c.u32_inner.ensures.exact

pub returns-clause-only : goal.returns-clause-only
returns-clause-only c = λ n after t.
    only_by (λ m. m) c.u32_inner.result c.args.self.now c.u32_inner.new.self after (unsigned_at c.args.self.now) n (unsigned_again c.args.self.now n after t) c.u32_inner.ensures.exact
