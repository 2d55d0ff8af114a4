use Rattle.std.proofs.Common.{arith}
use Rattle.std.proofs.lemmas.Result.{err_from_is_err_and}
use Rattle.std.proofs.lemmas.List.{length_push}
use Rattle.nr_rpc.specs.Reading.{numbers_at}
use Rattle.nr_rpc.proofs.Loop.{goes_on, ends, is_done}
use Rattle.nr_rpc.proofs.sys.numbers.Goals as goal

pub returns-in_err-number : goal.returns-in_err-number
returns-in_err-number c =
    let p = err_from_is_err_and c.from_residual.result c.from_residual.ensures.1 in
    rw (p.1, p.2) (ends c.in_err-number.field-0.0.at c.loop.gids c.args.count c.loop.counter c.loop.reader (numbers_at c.args.count c.args.reader.now) c.loop-test.true c.in_err-number.ensures.exact c.loop.invariant.1)

pub loop-preserved : goal.loop-preserved
loop-preserved c =
    let n = c.in_ok-number.field-0 in
    let more = goes_on c.loop.gids c.args.count c.loop.counter c.loop.reader n c.number.new.reader (numbers_at c.args.count c.args.reader.now) c.loop-test.true c.in_ok-number.ensures.exact c.loop.invariant.1 in
    rw c.push.ensures (omega (arith, length_push c.loop.gids n, c.loop.invariant.0), more)

pub returns : goal.returns
returns c = is_done c.loop.gids c.args.count c.loop.counter c.loop.reader (numbers_at c.args.count c.args.reader.now) c.loop-test.false c.loop.invariant.1
