use Rattle.std.proofs.Common.{arith, [], ◌∷◌, ap, ◌∙◌, length, length-append}
use Rattle.std.proofs.lemmas.Result.{err_from_is_err_and}
use Rattle.nr_header.specs.Constants.{READ_SEGMENTS_MAX}
use Rattle.nr_header.specs.Reading.{read_list_at}
use Rattle.nr_header.proofs.Loop.{entry_goes, list_stops, entry_fails, list_tail, ends_read}
use Rattle.nr_header.proofs.lists.read_list.Goals as goal

pub returns-in_err-entry : goal.returns-in_err-entry
returns-in_err-entry c =
    let p = err_from_is_err_and c.from_residual.result c.from_residual.ensures.1 in
    rw (p.1, p.2) (entry_fails c.loop.entries READ_SEGMENTS_MAX c.loop.counter c.args.zero_allowed c.loop.seen c.loop.reader (read_list_at READ_SEGMENTS_MAX c.args.zero_allowed 0 c.args.reader.now) c.in_err-entry.field-0.0.at c.loop-test.true c.in_err-entry.ensures c.loop.invariant.so_far)

pub returns-in_default : goal.returns-in_default
returns-in_default c =
    let stops = rw c.in_default.is at c.in_ok-entry.ensures in
    list_stops c.loop.entries READ_SEGMENTS_MAX c.loop.counter c.args.zero_allowed c.loop.seen c.loop.reader (read_list_at READ_SEGMENTS_MAX c.args.zero_allowed 0 c.args.reader.now) c.next_entry.new.reader c.loop-test.true stops c.loop.invariant.so_far

pub loop-preserved : goal.loop-preserved
loop-preserved c =
    let read = rw c.in-Some.is at c.in_ok-entry.ensures in
    let more = entry_goes c.loop.entries READ_SEGMENTS_MAX c.loop.counter c.args.zero_allowed c.loop.seen c.loop.reader (read_list_at READ_SEGMENTS_MAX c.args.zero_allowed 0 c.args.reader.now) c.in-Some.entry c.next_entry.new.reader c.loop-test.true read c.loop.invariant.so_far in
    record {
      room = omega (arith, c.loop.invariant.room, ap length c.push.ensures ∙ length-append c.loop.entries (c.in-Some.entry ∷ []));
      so_far = rw (c.push.ensures, c.other_position-seen.ensures) more;
    }

pub returns : goal.returns
returns c =
    let tail = list_tail c.loop.entries READ_SEGMENTS_MAX c.loop.counter c.args.zero_allowed c.loop.seen c.loop.reader (read_list_at READ_SEGMENTS_MAX c.args.zero_allowed 0 c.args.reader.now) c.loop-test.false c.loop.invariant.so_far in
    ends_read _ _ c.end.result c.loop.entries c.end.new.reader c.end.ensures tail
