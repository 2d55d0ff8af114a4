use Rattle.std.proofs.Common.{◌≡◌, ℕ, sym, ap, ◌∙◌, subst}
use Rattle.nr_wire.specs.Segment.{IsSupported}
use Rattle.nr_wire.specs.Segment.Segment.{Untagged}
use Rattle.nr_wire.specs.View.{segment as plain}
use Rattle.nr_wire.specs.declared.segment.Segment.{Segment}
use Rattle.nr_endpoint.specs.Judging.{segment_end}
use Rattle.nr_endpoint.proofs.FaultList.{message_ends_lem, none_of_lem, any_send_end_lem, request_end_lem, terminate_end_lem, is_terminate}
use Rattle.nr_endpoint.proofs.link.LinkSide.fault.Goals as goal

pub returns-then-is_some : goal.returns-then-is_some
returns-then-is_some c = λ frame at.
    message_ends_lem c.args.self.now.state frame c.in-Untagged.last c.in-Untagged.opcode c.in-Untagged.word c.in-Untagged.queue c.in-Untagged.msn c.in-Untagged.offset c.in-Untagged.payload.now c.message_fault-fault.result at
    (sym c.is_some.ensures ∙ c.if-is_some.true) c.message_fault-fault.ensures
    ∙ ap (λ (segment : Segment). segment_end c.args.self.now.state frame (plain segment)) (sym c.in-Untagged.is)

pub returns-then-is_send : goal.returns-then-is_send
returns-then-is_send c = λ frame at.
    c.send_fault.ensures ∙ any_send_end_lem c.args.self.now.state frame c.in-Untagged.last c.in-Untagged.opcode c.in-Untagged.word c.in-Untagged.queue c.in-Untagged.msn c.in-Untagged.offset c.in-Untagged.payload.now (sym c.is_send.ensures ∙ c.if-is_send.true) at
    (none_of_lem c.message_fault-fault.result _ (sym c.is_some.ensures ∙ c.if-is_some.false) c.message_fault-fault.ensures)
    ∙ ap (λ (segment : Segment). segment_end c.args.self.now.state frame (plain segment)) (sym c.in-Untagged.is)

pub returns-then-opcode-eq-OPCODE_READ_REQUEST : goal.returns-then-opcode-eq-OPCODE_READ_REQUEST
returns-then-opcode-eq-OPCODE_READ_REQUEST c = λ frame at.
    c.request_fault.ensures ∙ request_end_lem c.args.self.now.state frame c.in-Untagged.last c.in-Untagged.word c.in-Untagged.queue c.in-Untagged.msn c.in-Untagged.offset c.in-Untagged.payload.now at
    (none_of_lem c.message_fault-fault.result _ (sym c.is_some.ensures ∙ c.if-is_some.false) c.message_fault-fault.ensures)
    ∙ ap (λ (segment : Segment). segment_end c.args.self.now.state frame (plain segment)) (sym (c.in-Untagged.is ∙ ap (λ (opcode : ℕ). Segment.Untagged c.in-Untagged.last opcode c.in-Untagged.word c.in-Untagged.queue c.in-Untagged.msn c.in-Untagged.offset c.in-Untagged.payload) c.if-opcode-eq-OPCODE_READ_REQUEST.true))

pub returns : goal.returns
returns c = λ frame at.
    let supported : IsSupported (Untagged c.in-Untagged.last c.in-Untagged.opcode c.in-Untagged.word c.in-Untagged.queue c.in-Untagged.msn c.in-Untagged.offset c.in-Untagged.payload.now) =
    subst (λ (segment : Segment). IsSupported (plain segment)) c.in-Untagged.is c.requires.supported in
    let opcode : c.in-Untagged.opcode ≡ 7 = is_terminate c.in-Untagged.opcode supported.0 (sym c.is_send.ensures ∙ c.if-is_send.false) c.if-opcode-eq-OPCODE_READ_REQUEST.false in
    c.terminate_fault.ensures ∙ terminate_end_lem c.args.self.now.state frame c.in-Untagged.last c.in-Untagged.word c.in-Untagged.queue c.in-Untagged.msn c.in-Untagged.offset c.in-Untagged.payload.now at
    (none_of_lem c.message_fault-fault.result _ (sym c.is_some.ensures ∙ c.if-is_some.false) c.message_fault-fault.ensures)
    ∙ ap (λ (segment : Segment). segment_end c.args.self.now.state frame (plain segment)) (sym (c.in-Untagged.is ∙ ap (λ (opcode : ℕ). Segment.Untagged c.in-Untagged.last opcode c.in-Untagged.word c.in-Untagged.queue c.in-Untagged.msn c.in-Untagged.offset c.in-Untagged.payload) opcode))
