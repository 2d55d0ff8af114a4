use Rattle.std.proofs.Common.{true, ◌++◌, ◌∙◌}
use Rattle.std.proofs.lemmas.List.{length-append}
use Rattle.nr_wire.specs.Constants.{QUEUE_SEND}
use Rattle.nr_wire.specs.Segment.{segment_header}
use Rattle.nr_wire.specs.Segment.Segment.{Untagged}
use Rattle.nr_endpoint.proofs.Cuts.{send_pushed}
use Rattle.nr_endpoint.proofs.framing.append_send.Goals as goal

pub returns-clause-bytes : goal.returns-clause-bytes
returns-clause-bytes c =
    send_pushed _ c.args.out.now.items c.as_slice.result.now c.args.front.now c.args.stream.now c.segment_tail.result.now c.args.named c.args.msn c.requires.size
    (c.as_slice.ensures.value ∙ c.untagged_header-header.ensures.bytes (c.args.front.now ++ c.args.stream.now) (length-append c.args.front.now c.args.stream.now)
    ∙ (λ i. segment_header (Untagged true (c.send_opening-opcode.ensures.opcode i) (c.send_opening-opcode.ensures.word i) QUEUE_SEND c.args.msn 0 (c.args.front.now ++ c.args.stream.now))))
    c.segment_tail.ensures.bytes
    (c.append-4.ensures.bytes
    ∙ (λ i. c.append-3.ensures.bytes i ++ c.segment_tail.result.now)
    ∙ (λ i. (c.append-2.ensures.bytes i ++ c.args.stream.now) ++ c.segment_tail.result.now)
    ∙ (λ i. ((c.append.ensures.bytes i ++ c.args.front.now) ++ c.args.stream.now) ++ c.segment_tail.result.now))
