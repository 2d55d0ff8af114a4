use Rattle.std.proofs.Common.{◌∙◌, List, length, ap, take, arith}
use Rattle.nr_regions.specs.RegisteredMemory.{RegisteredMemory}
use Rattle.nr_responder.specs.declared.call.ReadEntry.{ReadEntry}
use Rattle.nr_responder.proofs.BegunReads.{opens_at}
use Rattle.nr_responder.proofs.starting.open_new.Goals as goal

pub returns-in-Ok-clause-ok : goal.returns-in-Ok-clause-ok
returns-in-Ok-clause-ok c =
    opens_at c.args.number _ c.args.endpoint.now.link.state.memory.next c.args.read.now c.args.chunks.now c.args.reads.now.items c.push_and_open.new.reads.items c.args.endpoint.now.link c.push_and_open.new.endpoint.link
    (let memory = ap (λ (m : RegisteredMemory). m.next) c.regions.ensures in omega (arith, memory, c.stags_left-next.ensures.sum)) c.in-Ok.ensures.ok

pub returns-in-Err-clause-err : goal.returns-in-Err-clause-err
returns-in-Err-clause-err c =
    (c.in-Err.ensures.err, c.truncate.ensures.items ∙ ap (λ n. take n c.push_and_open.new.reads.items) (ap (λ (rs : List ReadEntry). length rs) c.as_slice-before.ensures.value) ∙ c.in-Err.ensures.front)
