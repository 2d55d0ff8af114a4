use Rattle.std.proofs.Common.{◌≡◌, ◌<◌, ℕ, refl, sym, ap, subst, ◌∙◌}
use Rattle.std.specs.Prelude.{None, Option, true}
use Rattle.nr_wire.specs.declared.segment.Segment.{Segment}
use Rattle.nr_wire.specs.Segment.{IsSupported}
use Rattle.nr_wire.specs.Segment.Segment.{Untagged}
use Rattle.nr_wire.specs.View.{segment as plain}
use Rattle.nr_endpoint.specs.LinkState.{LinkState}
use Rattle.nr_endpoint.specs.Judging.{segment_end, with_effect, next_frame, after_frame}
use Rattle.nr_link.specs.ReceiveState.{is_send}
use Rattle.nr_endpoint.specs.ReceiveQueue.{send_segment}
use Rattle.nr_endpoint.proofs.Standing.{on_ok}
use Rattle.nr_endpoint.specs.SendQueue.{output_len}
use Rattle.nr_endpoint.proofs.Queued.{request_queues, on_any_err}
use Rattle.nr_endpoint.proofs.Taken.{same_request, same_send}
use Rattle.nr_endpoint.proofs.Alive.{alive_request, alive_send}
use Rattle.nr_endpoint.proofs.link.LinkSide.take.Goals as goal

pub apply_request-requires-clause-fine : goal.apply_request-requires-clause-fine
apply_request-requires-clause-fine c =
    alive_request c.args.self.now.state (next_frame c.args.self.now.state c.args.frame.now) c.in-Untagged.last c.in-Untagged.word c.in-Untagged.queue c.in-Untagged.msn c.in-Untagged.offset c.in-Untagged.payload.now refl
    (subst (λ (s : Segment). segment_end c.args.self.now.state (next_frame c.args.self.now.state c.args.frame.now) (plain s) ≡ None)
    (c.in-Untagged.is ∙ ap (λ (opcode : ℕ). Segment.Untagged c.in-Untagged.last opcode c.in-Untagged.word c.in-Untagged.queue c.in-Untagged.msn c.in-Untagged.offset c.in-Untagged.payload) c.if-opcode-eq-OPCODE_READ_REQUEST.true) c.requires.lives)

pub apply_send-requires-clause-fine : goal.apply_send-requires-clause-fine
apply_send-requires-clause-fine c =
    let supported : IsSupported (Untagged c.in-Untagged.last c.in-Untagged.opcode c.in-Untagged.word c.in-Untagged.queue c.in-Untagged.msn c.in-Untagged.offset c.in-Untagged.payload.now) =
    subst (λ (segment : Segment). IsSupported (plain segment)) c.in-Untagged.is c.requires.supported in
    (alive_send c.args.self.now.state (next_frame c.args.self.now.state c.args.frame.now) c.in-Untagged.last c.in-Untagged.opcode c.in-Untagged.word c.in-Untagged.queue c.in-Untagged.msn c.in-Untagged.offset c.in-Untagged.payload.now refl
    supported.0 c.if-opcode-eq-OPCODE_READ_REQUEST.false
    (subst (λ (s : Segment). segment_end c.args.self.now.state (next_frame c.args.self.now.state c.args.frame.now) (plain s) ≡ None) c.in-Untagged.is c.requires.lives)).1

pub returns-then-opcode-eq-OPCODE_READ_REQUEST-clause-ok : goal.returns-then-opcode-eq-OPCODE_READ_REQUEST-clause-ok
returns-then-opcode-eq-OPCODE_READ_REQUEST-clause-ok c =
    on_ok c.apply_request.result
    (λ is. is ∙ ap (λ (x : LinkState). record c.args.self.now { state = x }) (ap (after_frame (next_frame c.args.self.now.state c.args.frame.now)) (same_request c.args.self.now.state c.in-Untagged.last c.in-Untagged.word c.in-Untagged.queue c.in-Untagged.msn c.in-Untagged.offset c.in-Untagged.payload.now)
    ∙ ap (λ (segment : Segment). after_frame (next_frame c.args.self.now.state c.args.frame.now) (with_effect (plain segment) c.args.self.now.state)) (sym (c.in-Untagged.is
    ∙ ap (λ (opcode : ℕ). Segment.Untagged c.in-Untagged.last opcode c.in-Untagged.word c.in-Untagged.queue c.in-Untagged.msn c.in-Untagged.offset c.in-Untagged.payload) c.if-opcode-eq-OPCODE_READ_REQUEST.true))))
    c.apply_request.ensures.ok

pub returns-then-opcode-eq-OPCODE_READ_REQUEST-clause-queued : goal.returns-then-opcode-eq-OPCODE_READ_REQUEST-clause-queued
returns-then-opcode-eq-OPCODE_READ_REQUEST-clause-queued c =
    on_any_err c.apply_request.result
    (subst (λ (segment : Segment). output_len c.args.self.now.state.send_queue < output_len (with_effect (plain segment) c.args.self.now.state).send_queue)
    (sym (c.in-Untagged.is ∙ ap (λ (opcode : ℕ). Segment.Untagged c.in-Untagged.last opcode c.in-Untagged.word c.in-Untagged.queue c.in-Untagged.msn c.in-Untagged.offset c.in-Untagged.payload) c.if-opcode-eq-OPCODE_READ_REQUEST.true))
    (request_queues c.args.self.now.state c.in-Untagged.last c.in-Untagged.word c.in-Untagged.queue c.in-Untagged.msn c.in-Untagged.offset c.in-Untagged.payload.now))

pub returns-clause-ok : goal.returns-clause-ok
returns-clause-ok c =
    let supported : IsSupported (Untagged c.in-Untagged.last c.in-Untagged.opcode c.in-Untagged.word c.in-Untagged.queue c.in-Untagged.msn c.in-Untagged.offset c.in-Untagged.payload.now) =
    subst (λ (segment : Segment). IsSupported (plain segment)) c.in-Untagged.is c.requires.supported in
    let opcode : is_send c.in-Untagged.opcode ≡ true =
    (alive_send c.args.self.now.state (next_frame c.args.self.now.state c.args.frame.now) c.in-Untagged.last c.in-Untagged.opcode c.in-Untagged.word c.in-Untagged.queue c.in-Untagged.msn c.in-Untagged.offset c.in-Untagged.payload.now refl
    supported.0 c.if-opcode-eq-OPCODE_READ_REQUEST.false
    (subst (λ (s : Segment). segment_end c.args.self.now.state (next_frame c.args.self.now.state c.args.frame.now) (plain s) ≡ None) c.in-Untagged.is c.requires.lives)).0 in
    c.apply_send.ensures.state ∙ ap (λ (x : LinkState). record c.args.self.now { state = x }) (ap (after_frame (next_frame c.args.self.now.state c.args.frame.now)) (ap (λ (named : Option ℕ). with_effect (send_segment named c.in-Untagged.last c.in-Untagged.payload.now) c.args.self.now.state) c.named_by.ensures
    ∙ same_send c.args.self.now.state c.in-Untagged.last c.in-Untagged.opcode c.in-Untagged.word c.in-Untagged.queue c.in-Untagged.msn c.in-Untagged.offset c.in-Untagged.payload.now opcode)
    ∙ ap (λ (segment : Segment). after_frame (next_frame c.args.self.now.state c.args.frame.now) (with_effect (plain segment) c.args.self.now.state)) (sym c.in-Untagged.is))
