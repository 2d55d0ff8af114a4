use Rattle.std.proofs.Common.{List, length, ap}
use Rattle.nr_responder.specs.declared.call.ReadEntry.{ReadEntry}
use Rattle.nr_responder.specs.private.CallsRead.{lists_of}
use Rattle.nr_responder.proofs.BegunReads.{on_ok, opens_as}
use Rattle.nr_responder.proofs.starting.push_and_open.Goals as goal

pub returns-in-Ok-clause-ok : goal.returns-in-Ok-clause-ok
returns-in-Ok-clause-ok c =
    on_ok c.open_reads.result _ _
    (λ link. opens_as c.args.first.0 c.args.first.1 c.args.read.now c.args.chunks.now c.args.reads.now.items c.push_reads.new.entries.items c.as_slice-in-Ok.result.now _ _ c.args.endpoint.now.link c.open_reads.new.endpoint.link
    (ap (λ (rs : List ReadEntry). length rs) c.as_slice.ensures.value) c.open_count-kept.ensures c.as_slice-in-Ok.ensures.value (c.in-Ok.ensures.ok (lists_of c.args.read.now)) link)
    c.open_reads.ensures.ok
