use Rattle.std.proofs.Common.{arith, [], ◌∷◌, ap, ◌∙◌, length, length-append}
use Rattle.std.proofs.lemmas.Result.{err_from_is_err_and}
use Rattle.nr_header.specs.Reading.{segments_at}
use Rattle.nr_header.proofs.Loop.{segment_goes, segment_fails, segments_end}
use Rattle.nr_header.proofs.lists.segments.Goals as goal

pub returns-in_err-segment : goal.returns-in_err-segment
returns-in_err-segment c =
    let p = err_from_is_err_and c.from_residual.result c.from_residual.ensures.1 in
    let fails = rw c.at-place.ensures at c.in_err-segment.ensures in
    rw (p.1, p.2) (segment_fails c.loop.items c.args.count c.loop.counter c.loop.reader (segments_at c.args.count c.args.reader.now) c.in_err-segment.field-0.0.at c.loop-test.true fails c.loop.invariant.so_far)

pub loop-preserved : goal.loop-preserved
loop-preserved c =
    let read = rw c.at-place.ensures at c.in_ok-segment.ensures in
    let more = segment_goes c.loop.items c.args.count c.loop.counter c.loop.reader (segments_at c.args.count c.args.reader.now) c.in_ok-segment.field-0 c.segment.new.reader c.loop-test.true read c.loop.invariant.so_far in
    record {
      room = omega (arith, c.loop.invariant.room, ap length c.push.ensures ∙ length-append c.loop.items (c.in_ok-segment.field-0 ∷ []));
      so_far = rw c.push.ensures more;
    }

pub returns : goal.returns
returns c = segments_end c.loop.items c.args.count c.loop.counter c.loop.reader (segments_at c.args.count c.args.reader.now) c.loop-test.false c.loop.invariant.so_far
