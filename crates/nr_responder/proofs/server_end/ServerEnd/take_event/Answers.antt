use Rattle.std.proofs.Common.{ℕ, List, [], ◌∷◌, length, take, sym, ap, subst, ◌∙◌, arith}
use Rattle.nr_endpoint.specs.declared.event.Event.{Event}
use Rattle.nr_endpoint.specs.LinkState.{LinkSide}
use Rattle.nr_endpoint.specs.Calls.{after_call}
use Rattle.nr_endpoint.specs.Calls.Call.{NextEvent}
use Rattle.nr_endpoint.specs.Receives.{HasBuffer}
use Rattle.nr_endpoint.specs.Views.{delivery}
use Rattle.nr_responder.specs.ResponderState.{ResponderSide}
use Rattle.nr_responder.specs.Sound.{state_of}
use Rattle.nr_responder.specs.private.Handling.{Makes, on_link}
use Rattle.nr_responder.specs.private.ReadsDone.{HandlesRead}
use Rattle.nr_responder.proofs.Handled.{same_fed}
use Rattle.nr_responder.proofs.HeldSinks.{fetched_as}
use Rattle.nr_responder.proofs.Posted.{told_link_lem}
use Rattle.nr_responder.proofs.Sounds.{sound_told, sound_read}
use Rattle.nr_responder.proofs.Staging.{rest_or_none}
use Rattle.nr_responder.proofs.Stepped.{same_message}
use Rattle.nr_responder.proofs.server_end.ServerEnd.take_event.Goals as goal

pub message-requires-clause-sound : goal.message-requires-clause-sound
message-requires-clause-sound c =
    let one = c.in-Some-Message.ensures.event ∙ ap (λ (e : Event). delivery e ∷ c.next_event.new.self.link.state.receive_queue.deliveries) c.in-Some-Message.field-0-is in
    (sound_told c.args.self.now.endpoint.link c.next_event.new.self.link _ _ _ c.next_event.new.self.link.state.receive_queue.deliveries c.args.self.now.calls.items c.args.self.now.ready.items c.args.self.now.used.items _ _ _ c.in-Some-Message.ensures.state one c.requires.sound.0, fetched_as c.args.self.now.endpoint c.next_event.new.self c.args.self.now.calls.items c.args.self.now.reads.items c.args.self.now.sinks.items (told_link_lem c.args.self.now.endpoint.link c.next_event.new.self.link c.in-Some-Message.ensures.state).memory c.next_event.ensures.outside c.requires.sound.1)

pub message-requires-clause-buf : goal.message-requires-clause-buf
message-requires-clause-buf c = (subst (λ (e : Event). HasBuffer c.next_event.new.self.link.state.receive_queue.receive_length e) c.in-Some-Message.field-0-is c.in-Some-Message.ensures.buffer).0

pub message-requires-clause-len : goal.message-requires-clause-len
message-requires-clause-len c =
    let b = subst (λ (e : Event). HasBuffer c.next_event.new.self.link.state.receive_queue.receive_length e) c.in-Some-Message.field-0-is c.in-Some-Message.ensures.buffer in
    let least = b.1.0 in
    let most = b.1.1 in
    let size = b.0 in
    (omega (arith, least), omega (arith, most, size))

pub message-requires-clause-live : goal.message-requires-clause-live
message-requires-clause-live c = (told_link_lem c.args.self.now.endpoint.link c.next_event.new.self.link c.in-Some-Message.ensures.state).live ∙ c.requires.live

pub returns-in-Some-Message-clause-taken : goal.returns-in-Some-Message-clause-taken
returns-in-Some-Message-clause-taken c =
    let one = c.in-Some-Message.ensures.event ∙ ap (λ (e : Event). delivery e ∷ c.next_event.new.self.link.state.receive_queue.deliveries) c.in-Some-Message.field-0-is in
    let bytes : List ℕ = take c.in-Some-Message.len c.in-Some-Message.buf in
    let v : ResponderSide = state_of c.args.self.now in
    let after : ResponderSide = state_of c.message.new.self in
    let made : Makes (on_link v c.next_event.new.self.link) c.in-Some-Message.number bytes after = c.message.ensures.made in
    record {
      none = λ none. absurd (let two = sym one ∙ none in cc);
      some = λ number invalidated m only.
          let same = same_message c.in-Some-Message.number number _ invalidated bytes m c.next_event.new.self.link.state.receive_queue.deliveries [] (sym one ∙ only) in
          subst (λ (n : ℕ). Makes (on_link v (after_call v.link NextEvent)) n m after) same.0 (subst (λ (x : List ℕ). Makes (on_link v (after_call v.link NextEvent)) c.in-Some-Message.number x after) same.1
          (subst (λ (l : LinkSide). Makes (on_link v l) c.in-Some-Message.number bytes after) c.in-Some-Message.ensures.state made));
      read = λ done r rest reads. absurd (let two = sym one ∙ done in cc);
    }

pub returns-in-Some-Message-clause-fed : goal.returns-in-Some-Message-clause-fed
returns-in-Some-Message-clause-fed c =
    let t = told_link_lem c.args.self.now.endpoint.link c.next_event.new.self.link c.in-Some-Message.ensures.state in
    let same = same_fed c.next_event.new.self.link c.message.new.self.endpoint.link c.message.ensures.input in
    omega (arith, same, t.place, ap (λ (xs : List ℕ). length xs) t.rest)

pub read_done-requires-clause-sound : goal.read_done-requires-clause-sound
read_done-requires-clause-sound c = (
  sound_read c.args.self.now.endpoint.link c.next_event.new.self.link c.args.self.now.calls.items c.args.self.now.ready.items c.args.self.now.used.items _ _ _ c.in-Some-ReadDone.ensures.state c.requires.sound.0,
  fetched_as c.args.self.now.endpoint c.next_event.new.self c.args.self.now.calls.items c.args.self.now.reads.items c.args.self.now.sinks.items (told_link_lem c.args.self.now.endpoint.link c.next_event.new.self.link c.in-Some-ReadDone.ensures.state).memory c.next_event.ensures.outside c.requires.sound.1,
)

pub read_done-requires-clause-live : goal.read_done-requires-clause-live
read_done-requires-clause-live c = (told_link_lem c.args.self.now.endpoint.link c.next_event.new.self.link c.in-Some-ReadDone.ensures.state).live ∙ c.requires.live

pub returns-in-Some-ReadDone-clause-taken : goal.returns-in-Some-ReadDone-clause-taken
returns-in-Some-ReadDone-clause-taken c =
    let one = c.in-Some-ReadDone.ensures.event ∙ ap (λ (e : Event). delivery e ∷ c.next_event.new.self.link.state.receive_queue.deliveries) c.in-Some-ReadDone.field-0-is in
    let v : ResponderSide = state_of c.args.self.now in
    let after : ResponderSide = state_of c.read_done.new.self in
    record {
      none = λ none. absurd (let two = sym one ∙ none in cc);
      some = λ number invalidated m only. absurd (let two = sym one ∙ only in cc);
      read = λ done r rest reads. subst (λ (l : LinkSide). HandlesRead (on_link v l) r rest after) c.in-Some-ReadDone.ensures.state (c.read_done.ensures.handled r rest reads);
    }

pub returns-in-Some-ReadDone-clause-fed : goal.returns-in-Some-ReadDone-clause-fed
returns-in-Some-ReadDone-clause-fed c =
    let t = told_link_lem c.args.self.now.endpoint.link c.next_event.new.self.link c.in-Some-ReadDone.ensures.state in
    let same = same_fed c.next_event.new.self.link c.read_done.new.self.endpoint.link c.read_done.ensures.input in
    omega (arith, same, t.place, ap (λ (xs : List ℕ). length xs) t.rest)

pub returns-in-Some-Message-clause-rest : goal.returns-in-Some-Message-clause-rest
returns-in-Some-Message-clause-rest c =
    let t = told_link_lem c.args.self.now.endpoint.link c.next_event.new.self.link c.in-Some-Message.ensures.state in
    rest_or_none c.args.self.now.endpoint.link.rest c.next_event.new.self.link.rest c.message.new.self.endpoint.link.rest t.rest c.message.ensures.input.rest

pub returns-in-Some-ReadDone-clause-rest : goal.returns-in-Some-ReadDone-clause-rest
returns-in-Some-ReadDone-clause-rest c =
    let t = told_link_lem c.args.self.now.endpoint.link c.next_event.new.self.link c.in-Some-ReadDone.ensures.state in
    rest_or_none c.args.self.now.endpoint.link.rest c.next_event.new.self.link.rest c.read_done.new.self.endpoint.link.rest t.rest c.read_done.ensures.input.rest

pub returns-in-Some-Message-clause-heard : goal.returns-in-Some-Message-clause-heard
returns-in-Some-Message-clause-heard c =
    let t = told_link_lem c.args.self.now.endpoint.link c.next_event.new.self.link c.in-Some-Message.ensures.state in
    record { last = c.message.ensures.input.last ∙ t.last; client = c.message.ensures.input.client ∙ t.client }

pub returns-in-Some-ReadDone-clause-heard : goal.returns-in-Some-ReadDone-clause-heard
returns-in-Some-ReadDone-clause-heard c =
    let t = told_link_lem c.args.self.now.endpoint.link c.next_event.new.self.link c.in-Some-ReadDone.ensures.state in
    record { last = c.read_done.ensures.input.last ∙ t.last; client = c.read_done.ensures.input.client ∙ t.client }
