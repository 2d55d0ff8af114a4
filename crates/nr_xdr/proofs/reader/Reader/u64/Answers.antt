use Rattle.nr_xdr.specs.Reading.{Takes, hyper_at}
use Rattle.nr_xdr.specs.Item.Item.{Hyper}
use Rattle.nr_xdr.proofs.Cursors.{found_by, only_by}
use Rattle.nr_xdr.proofs.Items.{hyper_takes, hyper_again}
use Rattle.nr_xdr.proofs.reader.Reader.u64.Goals as goal

pub returns-clause-found : goal.returns-clause-found
returns-clause-found c =
    let old = c.args.self.now in
    let new = c.u64_inner.new.self in
    found_by (λ n. n) c.u64_inner.result old new (hyper_at old) (λ n. Takes old new (Hyper n))
    (λ n e. hyper_takes old n new c.u64_inner.ensures.bytes e) c.u64_inner.ensures.exact

pub returns-clause-only : goal.returns-clause-only
returns-clause-only c = λ n after t.
    only_by (λ m. m) c.u64_inner.result c.args.self.now c.u64_inner.new.self after (hyper_at c.args.self.now) n (hyper_again c.args.self.now n after t) c.u64_inner.ensures.exact
