use Rattle.std.proofs.Common.{◌∙◌}
use Rattle.nr_world.proofs.GivenBuffers.{joined}
use Rattle.nr_world.proofs.calls.bytes_of.Goals as goal

pub returns : goal.returns
returns c =
    c.from_vec.ensures
    ∙ joined c.args.buffers.now c.new-bytes.result.items c.append.new.bytes.items c.append-2.new.bytes.items c.append-3.new.bytes.items c.slice_of.result.now c.slice_of-2.result.now c.slice_of-3.result.now
    c.new-bytes.ensures.items c.in_ok-append.ensures c.in_ok-append-2.ensures c.in_ok-append-3.ensures c.slice_of.ensures c.slice_of-2.ensures c.slice_of-3.ensures
