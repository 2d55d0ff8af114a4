use Rattle.std.proofs.Common.{rules, ◌≡◌, ℕ, List, [], ◌∷◌, ◌++◌, length, drop, sym, ap, subst, ◌∙◌, refl, arith}
use Rattle.std.specs.Prelude.{map}
use Rattle.nr_endpoint.specs.LinkState.{LinkSide}
use Rattle.nr_endpoint.specs.Calls.{after_calls}
use Rattle.nr_endpoint.specs.Offering.{answer_calls, writes_output}
use Rattle.nr_responder.specs.declared.call.Pending.{Pending}
use Rattle.nr_responder.specs.Answering.{IsPayload, answer_to, message_for, name_for}
use Rattle.nr_responder.specs.Views.{call_view, read_view, sink_view}
use Rattle.nr_responder.specs.ResponderState.{present_word}
use Rattle.nr_responder.specs.Sound.{InBuffer, payloads_of, state_of, xids_of}
use Rattle.nr_responder.proofs.Answered.{answer_link, answered_fed, get_view, same_item, payloads_dropped, xids_dropped}
use Rattle.nr_responder.proofs.Removed.{map_removed}
use Rattle.nr_responder.proofs.HeldSinks.{fetched_removed}
use Rattle.nr_responder.proofs.Sounds.{kept_receive, sound_answered, sound_room_as}
use Rattle.nr_responder.proofs.AnswerMessages.{message_short}
use Rattle.nr_responder.proofs.OutputSteps.{writes_few}
use Rattle.nr_responder.proofs.ReadWindows.{removed_windows}
use Rattle.nr_responder.proofs.server_end.ServerEnd.answer_at.Goals as goal

pub returns-clause-answers : goal.returns-clause-answers
returns-clause-answers c =
    let q = c.in_ok-sent.ensures.queued in
    let p : Pending = c.index-2.result.now in
    let stream : List ℕ = c.ready_payload-target.result.0.now in
    let paid = c.ready_payload-target.ensures.payload in
    let whole : InBuffer p = (kept_receive 0 c.args.self.now.endpoint.link.state c.args.self.now.calls.items c.args.self.now.ready.items c.args.self.now.used.items _ _ _ c.args.at p c.requires.at c.index-2.ensures c.requires.sound.0).1 in
    let own : p.xid ≡ c.args.xid = ap (λ (x : Pending). x.xid) c.index-2.ensures ∙ c.requires.own p in
    let link = q.link ∙ (λ i. after_calls c.args.self.now.endpoint.link (answer_calls q.writes (name_for c.args.self.now.endpoint.link.state.agreed.invalidates (call_view p).lists (answer_to c.args.self.now.endpoint.link.state.agreed.down (call_view p) stream c.args.reply.now)) (message_for (own i) (c.requires.word i) (call_view p).lists (answer_to c.args.self.now.endpoint.link.state.agreed.down (call_view p) stream c.args.reply.now)))) in
    let calls = ap (map call_view) c.take_receive-buf.ensures.items ∙ map_removed call_view c.args.self.now.calls.items c.args.at in
    let ready : c.pop_front.new.self.items ≡ drop 1 c.args.self.now.ready.items = search rules in
    record {
      at = c.args.at;
      call = call_view p;
      place = get_view c.args.self.now.calls.items c.args.at p c.requires.at c.index-2.ensures;
      own = own;
      stream = stream;
      payload = paid.0;
      first = paid.1.0;
      conveyed = subst (λ (x : Pending). IsPayload (call_view x) paid.0 stream) (c.index.ensures ∙ sym (same_item c.args.self.now.calls.items c.args.at c.index.result.now p c.requires.at) ∙ sym c.index-2.ensures) paid.1.1;
      writes = q.writes;
      written = q.written;
      short = message_short c.args.self.now.endpoint.link.state.agreed.down c.args.xid (present_word (state_of c.args.self.now)) (call_view p) stream c.args.reply.now c.requires.limit whole.lists.within;
      few = (let len = ap (λ (bytes : List ℕ). length bytes) q.written in let most = writes_few (call_view p).lists c.args.self.now.endpoint.link.state.agreed.down (call_view p) stream c.args.reply.now refl whole.lists.within c.requires.short in omega (arith, len, most));
      state = λ i. record { link = link i; calls = calls i; ready = (ap xids_of ready ∙ xids_dropped c.args.self.now.ready.items) i; credits = c.args.self.now.credits; fetching = record { reads = map read_view c.args.self.now.reads.items; sinks = map sink_view c.args.self.now.sinks.items; payloads = (ap payloads_of ready ∙ payloads_dropped c.args.self.now.ready.items) i } };
      sent_is = q.sent_is;
    }

pub returns-clause-sound : goal.returns-clause-sound
returns-clause-sound c =
    let q = c.in_ok-sent.ensures.queued in
    let one = kept_receive 0 c.args.self.now.endpoint.link.state c.args.self.now.calls.items c.args.self.now.ready.items c.args.self.now.used.items _ _ _ c.args.at c.index-2.result.now c.requires.at c.index-2.ensures c.requires.sound.0 in (
      sound_room_as 0 c.queue_answer.new.endpoint.link.state c.take_receive-buf.new.calls.items c.pop_front.new.self.items c.push_back_reserved.new.self.items _ _ _ _ _ _ (search rules) (search rules) (search rules) (sound_answered c.args.self.now.endpoint.link.state c.queue_answer.new.endpoint.link.state (writes_output q.writes) _ _ c.args.at c.index-2.result.now c.args.self.now.calls.items c.take_receive-buf.new.calls.items c.args.self.now.ready.items c.pop_front.new.self.items
          c.args.self.now.used.items c.push_back_reserved.new.self.items _ _ _ (ap (λ (l : LinkSide). l.state) (q.link ∙ answer_link c.args.self.now.endpoint.link q.writes _ _ c.requires.live)) c.requires.at one c.take_receive-buf.ensures.items (search rules) c.requires.next (c.push_back_reserved.ensures.items ∙ ap (λ (bytes : List ℕ). c.args.self.now.used.items ++ bytes ∷ []) (c.take_receive-buf.ensures.buffer c.index-2.result.now ∙ ap (λ (x : Pending). x.buf) (sym c.index-2.ensures))) c.requires.sound.0),
      fetched_removed c.args.self.now.endpoint c.queue_answer.new.endpoint c.args.at c.index.result.now c.args.self.now.calls.items c.take_receive-buf.new.calls.items c.args.self.now.reads.items c.args.self.now.sinks.items (ap (λ (l : LinkSide). l.state.memory) (q.link ∙ answer_link c.args.self.now.endpoint.link q.writes _ _ c.requires.live)) c.queue_answer.ensures.outside c.requires.at (c.requires.none c.index.result.now) c.take_receive-buf.ensures.items c.requires.sound.1,
    )

pub returns-clause-fed : goal.returns-clause-fed
returns-clause-fed c =
    let q = c.in_ok-sent.ensures.queued in
    answered_fed c.args.self.now.endpoint.link c.queue_answer.new.endpoint.link q.writes _ _ c.requires.live q.link

pub returns-clause-windows : goal.returns-clause-windows
returns-clause-windows c = λ live. removed_windows c.args.self.now.calls.items c.take_receive-buf.new.calls.items c.args.at c.index.result.now c.args.self.now.reads.items c.take_receive-buf.ensures.items c.requires.at c.requires.windows
