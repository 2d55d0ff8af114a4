use Rattle.std.proofs.Common.{ℕ, List, length, ◌<◌, ◌∷◌, take, sym, ap, subst, ◌∙◌}
use Rattle.std.specs.Prelude.{vec_capacity}
use Rattle.nr_regions.specs.RegisteredMemory.{RegisteredMemory}
use Rattle.nr_endpoint.specs.LinkState.{LinkSide}
use Rattle.nr_endpoint.specs.Receives.{HasBuffer}
use Rattle.nr_endpoint.specs.Views.{delivery}
use Rattle.nr_endpoint.specs.declared.event.Event.{Event}
use Rattle.nr_reduce.specs.KeptCalls.{kept_named, kept_message_verdict}
use Rattle.nr_reduce.specs.KeptClient.{bytes_under}
use Rattle.nr_requester.specs.Judged.{kept_views}
use Rattle.nr_requester.specs.Fed.{CallsSound}
use Rattle.nr_requester.proofs.OneMessage.{next_memory, next_ended, next_receives, next_lent, message_waits, judged_quiet}
use Rattle.nr_requester.proofs.Steps.{message_told}
use Rattle.nr_requester.proofs.FedBounds.{next_bounded, same_bounded}
use Rattle.nr_requester.proofs.pieces.take_event.Goals as goal

pub take_message-requires-clause-live : goal.take_message-requires-clause-live
take_message-requires-clause-live c = ap (λ (l : LinkSide). l.state.ended) c.in-Some-Message.ensures.state ∙ (next_ended c.args.endpoint.now.link ∙ c.requires.ready.live)

pub take_message-requires-clause-buf : goal.take_message-requires-clause-buf
take_message-requires-clause-buf c =
    (subst (λ (e : Event). HasBuffer c.next_event.new.self.link.state.receive_queue.receive_length e) c.in-Some-Message.field-0-is c.in-Some-Message.ensures.buffer).0

pub take_message-requires-clause-lent : goal.take_message-requires-clause-lent
take_message-requires-clause-lent c =
    let w = message_waits c.args.endpoint.now.link c.in-Some-Message.field-0-0 c.in-Some-Message.invalidated (take c.in-Some-Message.len c.in-Some-Message.buf) c.next_event.new.self.link.state.receive_queue.deliveries c.requires.ready.waits (c.in-Some-Message.ensures.event ∙ ap (λ (e : Event). delivery e ∷ c.next_event.new.self.link.state.receive_queue.deliveries) c.in-Some-Message.field-0-is) in
    subst (λ (l : LinkSide). 0 < l.state.receive_queue.lent) (sym c.in-Some-Message.ensures.state) (next_lent c.args.endpoint.now.link w.number c.in-Some-Message.invalidated (take c.in-Some-Message.len c.in-Some-Message.buf) w.is)

pub take_message-requires-clause-calls : goal.take_message-requires-clause-calls
take_message-requires-clause-calls c =
    let memory = ap (λ (l : LinkSide). l.state.memory) c.in-Some-Message.ensures.state ∙ next_memory c.args.endpoint.now.link in
    let receive = ap (λ (l : LinkSide). l.state.receive_queue.receive_length) c.in-Some-Message.ensures.state ∙ next_receives c.args.endpoint.now.link in (
      c.requires.ready.next_xid,
      subst (λ (n : ℕ). CallsSound n c.next_event.new.self.link.state.memory c.requires.ready.next_xid c.args.outstanding.now.items c.args.answered.now.items (vec_capacity c.args.answered.now)) (sym receive)
          (subst (λ (m : RegisteredMemory). CallsSound c.args.endpoint.now.link.state.receive_queue.receive_length m c.requires.ready.next_xid c.args.outstanding.now.items c.args.answered.now.items (vec_capacity c.args.answered.now)) (sym memory) c.requires.ready.calls),
    )

pub returns-in-Some-Message-clause-deliveries : goal.returns-in-Some-Message-clause-deliveries
returns-in-Some-Message-clause-deliveries c = λ wished sends next.
    let w = message_waits c.args.endpoint.now.link c.in-Some-Message.field-0-0 c.in-Some-Message.invalidated (take c.in-Some-Message.len c.in-Some-Message.buf) c.next_event.new.self.link.state.receive_queue.deliveries c.requires.ready.waits (c.in-Some-Message.ensures.event ∙ ap (λ (e : Event). delivery e ∷ c.next_event.new.self.link.state.receive_queue.deliveries) c.in-Some-Message.field-0-is) in
    message_told c.args.endpoint.now.link c.next_event.new.self.link c.take_message.new.endpoint.link c.args.sent wished sends next c.args.grant.now c.args.releases.now c.take_message.new.grant c.take_message.new.releases w.number c.in-Some-Message.invalidated c.args.outstanding.now.items c.take_message.new.outstanding.items c.args.answered.now.items c.take_message.new.answered.items (take c.in-Some-Message.len c.in-Some-Message.buf)
    c.requires.ready.live w.is w.rest c.in-Some-Message.ensures.state c.take_message.ensures.judged

pub returns-in-Some-Message-clause-sound : goal.returns-in-Some-Message-clause-sound
returns-in-Some-Message-clause-sound c = λ most next s.
    let memory = ap (λ (l : LinkSide). l.state.memory) c.in-Some-Message.ensures.state ∙ next_memory c.args.endpoint.now.link in
    c.take_message.ensures.sound most next (subst (λ (m : RegisteredMemory). CallsSound most m next c.args.outstanding.now.items c.args.answered.now.items (vec_capacity c.args.answered.now)) (sym memory) s)

pub returns-in-Some-Message-clause-quiet : goal.returns-in-Some-Message-clause-quiet
returns-in-Some-Message-clause-quiet c =
    let w = message_waits c.args.endpoint.now.link c.in-Some-Message.field-0-0 c.in-Some-Message.invalidated (take c.in-Some-Message.len c.in-Some-Message.buf) c.next_event.new.self.link.state.receive_queue.deliveries c.requires.ready.waits (c.in-Some-Message.ensures.event ∙ ap (λ (e : Event). delivery e ∷ c.next_event.new.self.link.state.receive_queue.deliveries) c.in-Some-Message.field-0-is) in
    judged_quiet c.args.endpoint.now.link c.requires.ready.live w.number c.in-Some-Message.invalidated (take c.in-Some-Message.len c.in-Some-Message.buf) w.is c.requires.ready.none_lent c.requires.ready.no_reads
    (kept_message_verdict (kept_views c.args.sent c.args.outstanding.now.items) (bytes_under c.next_event.new.self.link.state.memory) c.in-Some-Message.invalidated (take c.in-Some-Message.len c.in-Some-Message.buf))
    (kept_named (kept_views c.args.sent c.args.outstanding.now.items) c.in-Some-Message.invalidated (take c.in-Some-Message.len c.in-Some-Message.buf))
    c.next_event.new.self.link c.take_message.new.endpoint.link c.args.outstanding.now.items c.take_message.new.outstanding.items c.args.answered.now.items c.take_message.new.answered.items c.args.grant.now c.take_message.new.grant c.args.releases.now c.take_message.new.releases c.in-Some-Message.ensures.state c.take_message.ensures.judged

pub returns-in-Some-Message-clause-bounded : goal.returns-in-Some-Message-clause-bounded
returns-in-Some-Message-clause-bounded c = λ most sends next bounded.
    c.take_message.ensures.bounded most sends next
    (next_bounded most c.args.sent sends next c.args.outstanding.now.items c.args.answered.now.items c.args.endpoint.now c.next_event.new.self (ap (λ (xs : List ℕ). length xs) c.next_event.ensures.staging) c.next_event.ensures.outside bounded c.in-Some-Message.ensures.state)

pub returns-in-Some-ReadDone-clause-bounded : goal.returns-in-Some-ReadDone-clause-bounded
returns-in-Some-ReadDone-clause-bounded c = λ most sends next bounded.
    next_bounded most c.args.sent sends next c.args.outstanding.now.items c.args.answered.now.items c.args.endpoint.now c.next_event.new.self (ap (λ (xs : List ℕ). length xs) c.next_event.ensures.staging) c.next_event.ensures.outside bounded c.in-Some-ReadDone.ensures.state

pub returns-in-None-clause-bounded : goal.returns-in-None-clause-bounded
returns-in-None-clause-bounded c = λ most sends next bounded.
    same_bounded most c.args.sent sends next c.args.outstanding.now.items c.args.answered.now.items c.args.endpoint.now c.next_event.new.self (ap (λ (xs : List ℕ). length xs) c.next_event.ensures.staging) c.next_event.ensures.outside bounded c.in-None.ensures.state
