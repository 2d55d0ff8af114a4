use Rattle.std.proofs.Common.{arith, [], ◌∷◌, ap, ◌∙◌, length, length-append}
use Rattle.std.proofs.lemmas.Result.{err_from_is_err_and}
use Rattle.nr_header.specs.Constants.{WRITE_CHUNKS_MAX}
use Rattle.nr_header.specs.Reading.{write_list_at}
use Rattle.nr_header.proofs.Loop.{chunk_goes, chunks_stop, chunk_fails, chunks_tail, ends_read}
use Rattle.nr_header.proofs.lists.write_list.Goals as goal

pub returns-in_err-chunk : goal.returns-in_err-chunk
returns-in_err-chunk c =
    let p = err_from_is_err_and c.from_residual.result c.from_residual.ensures.1 in
    rw (p.1, p.2) (chunk_fails c.loop.chunks WRITE_CHUNKS_MAX c.loop.counter c.loop.reader (write_list_at WRITE_CHUNKS_MAX c.args.reader.now) c.in_err-chunk.field-0.0.at c.loop-test.true c.in_err-chunk.ensures c.loop.invariant.so_far)

pub returns-in_default : goal.returns-in_default
returns-in_default c =
    let stops = rw c.in_default.is at c.in_ok-chunk.ensures in
    chunks_stop c.loop.chunks WRITE_CHUNKS_MAX c.loop.counter c.loop.reader (write_list_at WRITE_CHUNKS_MAX c.args.reader.now) c.optional_chunk.new.reader c.loop-test.true stops c.loop.invariant.so_far

pub loop-preserved : goal.loop-preserved
loop-preserved c =
    let read = rw c.in-Some.is at c.in_ok-chunk.ensures in
    let more = chunk_goes c.loop.chunks WRITE_CHUNKS_MAX c.loop.counter c.loop.reader (write_list_at WRITE_CHUNKS_MAX c.args.reader.now) c.in-Some.chunk c.optional_chunk.new.reader c.loop-test.true read c.loop.invariant.so_far in
    record {
      room = omega (arith, c.loop.invariant.room, ap length c.push.ensures ∙ length-append c.loop.chunks (c.in-Some.chunk ∷ []));
      so_far = rw c.push.ensures more;
    }

pub returns : goal.returns
returns c =
    let tail = chunks_tail c.loop.chunks WRITE_CHUNKS_MAX c.loop.counter c.loop.reader (write_list_at WRITE_CHUNKS_MAX c.args.reader.now) c.loop-test.false c.loop.invariant.so_far in
    ends_read _ _ c.end.result c.loop.chunks c.end.new.reader c.end.ensures tail
