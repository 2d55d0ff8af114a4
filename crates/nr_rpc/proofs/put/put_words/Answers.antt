use Rattle.std.proofs.Common.{get_or, refl}
use Rattle.nr_xdr.proofs.Rooms.{words_begin, words_more, words_done, words_fail, on_refusal}
use Rattle.nr_rpc.proofs.put.put_words.Goals as goal

pub loop-number-init : goal.loop-number-init
loop-number-init c = words_begin c.args.writer.now c.args.numbers.now

pub loop-number-preserved : goal.loop-number-preserved
loop-number-preserved c =
    words_more c.args.writer.now c.loop-number.writer c.u32.new.self c.args.numbers.now c.loop-number.number-index (get_or c.args.numbers.now c.loop-number.number-index 0)
    c.loop-number-test.true refl c.in_ok-u32.ensures.ok c.loop-number.invariant

pub returns-clause-ok : goal.returns-clause-ok
returns-clause-ok c = words_done c.args.writer.now c.loop-number.writer c.args.numbers.now c.loop-number.number-index c.loop-number-test.false c.loop-number.invariant

pub returns-in_err-u32-clause-room : goal.returns-in_err-u32-clause-room
returns-in_err-u32-clause-room c =
    on_refusal c.from_residual.result (words_fail c.args.writer.now c.loop-number.writer c.args.numbers.now c.loop-number.number-index (get_or c.args.numbers.now c.loop-number.number-index 0)
    c.loop-number-test.true refl c.in_err-u32.ensures.room c.loop-number.invariant)
