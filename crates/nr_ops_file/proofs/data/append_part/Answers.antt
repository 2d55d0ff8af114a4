use Rattle.std.proofs.Common.{◌+◌, ◌-◌, ◌%◌, ◌<◌, ◌≤◌, length, take, drop, refl, arith}
use Rattle.nr_tree.specs.Pages.{page_size}
use Rattle.nr_ops_file.proofs.Parts.{left_after, none_left, some_piece}
use Rattle.nr_ops_file.proofs.data.append_part.Goals as goal

pub overflow_add-at : goal.overflow_add-at
overflow_add-at c =
    let some : (0 < length c.read-piece.result.now) × (length c.read-piece.result.now ≤ c.args.end - c.loop-at.at) =
    some_piece c.args.file.now c.read-piece.result.now c.loop-at.at (c.args.end - c.loop-at.at) (page_size - c.loop-at.at % page_size) c.loop-at.invariant.2 c.read-piece.ensures (omega arith) (omega arith) in
    omega arith

pub loop-at-smaller : goal.loop-at-smaller
loop-at-smaller c =
    let some : (0 < length c.read-piece.result.now) × (length c.read-piece.result.now ≤ c.args.end - c.loop-at.at) =
    some_piece c.args.file.now c.read-piece.result.now c.loop-at.at (c.args.end - c.loop-at.at) (page_size - c.loop-at.at % page_size) c.loop-at.invariant.2 c.read-piece.ensures (omega arith) (omega arith) in
    omega arith

pub loop-at-preserved : goal.loop-at-preserved
loop-at-preserved c =
    left_after c.args.file.now c.args.reply.now.items (take (c.args.end - c.args.offset) (drop c.args.offset c.args.file.now)) c.loop-at.reply.items c.extend_from_slice.new.self.items c.read-piece.result.now
    c.args.offset c.loop-at.at (c.loop-at.at + length c.read-piece.result.now) c.args.end (page_size - c.loop-at.at % page_size) c.loop-at-test.true c.loop-at.invariant.1 (omega arith) c.loop-at.invariant.2 c.loop-at.invariant.3 c.read-piece.ensures
    c.in_ok-extend_from_slice.ensures.items refl

pub returns : goal.returns
returns c = none_left c.args.file.now c.args.reply.now.items (take (c.args.end - c.args.offset) (drop c.args.offset c.args.file.now)) c.loop-at.reply.items c.loop-at.at c.args.end c.loop-at-test.false c.loop-at.invariant.3
