use Rattle.nr_xdr.specs.Reading.{Takes, boolean_at}
use Rattle.nr_xdr.specs.Item.Item.{Boolean}
use Rattle.nr_xdr.proofs.Cursors.{found_by, only_by}
use Rattle.nr_xdr.proofs.Items.{boolean_takes, boolean_again}
use Rattle.nr_xdr.proofs.reader.Reader.boolean.Goals as goal

pub returns-clause-found : goal.returns-clause-found
returns-clause-found c =
    let old = c.args.self.now in
    let new = c.boolean_inner.new.self in
    found_by (λ n. n) c.boolean_inner.result old new (boolean_at old) (λ n. Takes old new (Boolean n))
    (λ n e. boolean_takes old n new c.boolean_inner.ensures.bytes e) c.boolean_inner.ensures.exact

pub returns-clause-only : goal.returns-clause-only
returns-clause-only c = λ n after t.
    only_by (λ m. m) c.boolean_inner.result c.args.self.now c.boolean_inner.new.self after (boolean_at c.args.self.now) n (boolean_again c.args.self.now n after t) c.boolean_inner.ensures.exact
