use Rattle.std.proofs.Common.{◌≡◌, ◌++◌, ◌∷◌, [], arith}
use Rattle.std.proofs.lemmas.List.{length_push}
use Rattle.std.proofs.lemmas.Result.{err_from_is_err_and}
use Rattle.nr_nfs_base.specs.Codec.{values_read, with_front}
use Rattle.nr_nfs_base.proofs.Loops.{values_go_on, values_done, values_fail}
use Rattle.nr_nfs_base.proofs.array.push_values.Goals as goal

pub returns-in_err-value-clause-exact : goal.returns-in_err-value-clause-exact
returns-in_err-value-clause-exact g c =
    let p = err_from_is_err_and c.from_residual.result c.from_residual.ensures.1 in
    rw (p.1, p.2) (values_fail g.T.Xdr.codec c.in_err-value.field-0.0 c.loop.values.items c.args.count c.loop.counter c.loop.reader (with_front c.args.values.now.items (values_read g.T.Xdr.codec c.args.count c.args.reader)) c.loop-test.true c.in_err-value.ensures.exact c.loop.invariant.read)

pub loop-preserved : goal.loop-preserved
loop-preserved g c =
    let pushed : c.push.new.self.items ≡ c.loop.values.items ++ c.in_ok-value.value ∷ [] = c.in_ok-push.ensures.items in
    record {
      read = rw pushed (values_go_on g.T.Xdr.codec c.loop.values.items c.args.count c.loop.counter c.loop.reader c.in_ok-value.value c.in_ok-value.behind (with_front c.args.values.now.items (values_read g.T.Xdr.codec c.args.count c.args.reader)) c.loop-test.true c.in_ok-value.ensures.exact c.loop.invariant.read);
      counted = rw pushed (omega (arith, length_push c.loop.values.items c.in_ok-value.value, c.loop.invariant.counted));
    }

pub returns-clause-exact : goal.returns-clause-exact
returns-clause-exact g c =
    values_done g.T.Xdr.codec c.loop.values.items c.args.count c.loop.counter c.loop.reader (with_front c.args.values.now.items (values_read g.T.Xdr.codec c.args.count c.args.reader)) c.loop-test.false c.loop.invariant.read

pub returns-clause-counted : goal.returns-clause-counted
returns-clause-counted g c = omega (arith, c.loop.invariant.counted, c.loop-test.false)
