-- A responder stands for one mark more, if it goes on by the events of that mark.
use Rattle.std.proofs.Common.{◌≡◌, ℕ, Bool, true, ◌&&◌, eqb, cond, List, [], ◌∷◌, ◌++◌, length, take, drop, Option, Some, None, refl, sym, ap, subst, ◌∙◌, inl, inr, is_some, append_assoc}
use Rattle.std.specs.Prelude.{map}
use Rattle.std.proofs.lemmas.List.{append-nil, take-append-drop}
use Rattle.nr_wire.specs.declared.hello.Side.TheVariants.{Initiator, Responder}
use Rattle.nr_link.specs.Input.{InputState, input_of, input_after}
use Rattle.nr_link.proofs.Inputs.{input_of_append}
use Rattle.nr_reduce.specs.declared.mark.Mark.{Mark}
use Rattle.nr_reduce.specs.declared.mark.Mark.TheVariants as marks
use Rattle.nr_reduce.specs.declared.mark.Told.{Told}
use Rattle.nr_outside.specs.declared.moment.Moment.{Moment}
use Rattle.nr_reduce.specs.declared.mark.LinkParameters.{LinkParameters}
use Rattle.nr_reduce.specs.History.{ExecutedCall, bytes_received, bytes_sent, written_at, fed_at}
use Rattle.nr_reduce.specs.Events.{RunEvent, if_own}
use Rattle.nr_reduce.specs.Events.RunEvent.{CallExecuted, QueueWritten, ServerTold}
use Rattle.nr_reduce.specs.EndRules.{EndState, end_state_after, output_for_all}
use Rattle.nr_reduce.specs.ServerState.{ReadyCall, ServerState}
use Rattle.nr_reduce.specs.Server.{server_rules}
use Rattle.nr_reduce.specs.Standing.{input_events, ServerRepresents, ServerRunsOut}
use Rattle.nr_reduce.proofs.Standing.{itself, live_before, received_one, sent_one, server_stands, server_runs_out_lem, server_stays_out_lem}
use Rattle.nr_reduce.specs.Run.{server}
use Rattle.nr_reduce.proofs.Steps.{output_for_all_append}
use Rattle.nr_link.specs.declared.end.End.{End}
use Rattle.nr_link.specs.declared.end.End.TheVariants as ends
use Rattle.nr_responder.specs.Granting.{grant_of}
use Rattle.nr_responder.specs.Heard.{Hears, KeepsHeard, SameHeard}
use Rattle.nr_responder.specs.ResponderState.{ResponderSide, queue, queued_bytes, end_of}
use Rattle.nr_responder.specs.Keeping.{Keeps, KeepsEnd, KeepsAgreed}
use Rattle.nr_responder.specs.Standing.{RepresentsServer, ResponderRunsOut, ResponderRepresents}
use Rattle.nr_responder.specs.Steps.{received_events, GoesOn, FedOn, SameCalls, ResponderRanOutAt, Fed, KeepsOutput}
use Rattle.nr_responder.specs.Steps.Fed.{WentOn, RanOut}
use Rattle.nr_responder.proofs.Heard.{fed_heard, same_heard}
use Rattle.nr_responder.proofs.Pieces.{events_parts}
use Rattle.nr_responder.proofs.Fed.{ended_fed_lem, not_ended_lem}
use Rattle.nr_link.specs.declared.agreement.Agreement.{Agreement}
use Rattle.nr_responder.proofs.Frames.{keeps_agreed}

-- one mark more, whose events are these
one_mark_lem : (opened : LinkParameters) (link : ℕ) (run : List Mark) (mark : Mark) (v after : ResponderSide) (fed written : List ℕ) (events : InputState → List RunEvent) →
    fed_at link Responder mark ≡ fed → written_at link Responder mark ≡ written → ((input : InputState) → input_events link Responder input mark ≡ events input) → (h : RepresentsServer opened link run v) →
    KeepsEnd opened (end_state_after (server_rules opened) h.end (events h.input)) (input_after h.input fed) after →
    written ++ queue after ≡ queue v ++ output_for_all (server_rules opened) h.end (events h.input) →
    ((end_state_after (server_rules opened) h.end (events h.input)).ended ≡ None → KeepsHeard link (run ++ mark ∷ []) after.link.state) → RepresentsServer opened link (run ++ mark ∷ []) after
one_mark_lem opened link run mark v after fed written events fed_is written_is events_are h keeps output heard =
    let due : written_at link Responder mark ++ queue after ≡ queue v ++ output_for_all (server_rules opened) h.end (input_events link Responder h.input mark) =
    ap (λ (bytes : List ℕ). bytes ++ queue after) written_is ∙ output ∙ ap (λ (es : List RunEvent). queue v ++ output_for_all (server_rules opened) h.end es) (sym (events_are h.input)) in
    let state : end_state_after (server_rules opened) h.end (input_events link Responder h.input mark) ≡ end_state_after (server_rules opened) h.end (events h.input) = ap (end_state_after (server_rules opened) h.end) (events_are h.input) in
    let input : input_after h.input (fed_at link Responder mark) ≡ input_after h.input fed = ap (input_after h.input) fed_is in
    record {
      end = end_state_after (server_rules opened) h.end (events h.input);
      input = input_after h.input fed;
      stands =
          subst (λ (e : EndState ServerState). ServerRepresents opened link e (input_after h.input fed) (queue after) (run ++ mark ∷ [])) state
          (server_stands opened link h.end h.input (input_after h.input fed) (queue v) (queue after) run mark h.stands due (λ _. sym input));
      keeps = keeps;
      heard = heard;
    }

-- a mark at which nothing is fed leaves what it knows of the frames
quiet_heard : (opened : LinkParameters) (link : ℕ) (run : List Mark) (mark : Mark) (v after : ResponderSide) (es : List RunEvent) → fed_at link Responder mark ≡ [] → (h : RepresentsServer opened link run v) → SameHeard v.link after.link →
    (end_state_after (server_rules opened) h.end es).ended ≡ None → KeepsHeard link (run ++ mark ∷ []) after.link.state
quiet_heard opened link run mark v after es fed h same lives = same_heard link run mark v.link.state after.link.state fed same.last same.client (h.heard (live_before (server_rules opened) h.end es lives))

-- no bytes leave the input of a side that hasn't ended as it was
nothing_fed : (opened : LinkParameters) (link : ℕ) (run : List Mark) (v : ResponderSide) (h : RepresentsServer opened link run v) → h.end.ended ≡ None → input_after h.input [] ≡ h.input
nothing_fed opened link run v h live =
    let stream : List ℕ = bytes_received link Responder run in
    let received : h.input ≡ input_of Initiator stream = h.stands.received (ap (λ (e : EndState ServerState). e.ended) (sym h.stands.keeps) ∙ live) in
    ap (λ (i : InputState). input_after i []) received
    ∙ sym (input_of_append Initiator stream [])
    ∙ ap (λ (bytes : List ℕ). input_of Initiator bytes) (append-nil stream)
    ∙ sym received

-- what an end keeps doesn't depend on its input once it has ended
same_kept : (opened : LinkParameters) (link : ℕ) (run : List Mark) (v after : ResponderSide) (end : EndState ServerState) (h : RepresentsServer opened link run v) → (end.ended ≡ None → h.end.ended ≡ None) → KeepsEnd opened end h.input after → KeepsEnd opened end (input_after h.input []) after
same_kept opened link run v after end h lives (inl live) =
    subst (λ (i : InputState). KeepsEnd opened end i after) (sym (nothing_fed opened link run v h (lives live.0))) (inl live)
same_kept opened link run v after end h lives (inr ended) = inr ended

-- a mark that is no event of it, and at which it writes nothing and is fed nothing
pub no_event_represents : (opened : LinkParameters) (link : ℕ) (run : List Mark) (v : ResponderSide) (mark : Mark) → fed_at link Responder mark ≡ [] → written_at link Responder mark ≡ [] →
    ((input : InputState) → input_events link Responder input mark ≡ []) → RepresentsServer opened link run v → RepresentsServer opened link (run ++ mark ∷ []) v
no_event_represents opened link run v mark fed written events h =
    one_mark_lem opened link run mark v v [] [] (λ (input : InputState). []) fed written events h (same_kept opened link run v v h.end h (λ live. live) h.keeps) (sym (append-nil (queue v)))
    (quiet_heard opened link run mark v v [] fed h (record { last = refl; client = refl }))

own : (link : ℕ) (b : Bool) (es : List RunEvent) → if_own (eqb link link && true) es ≡ es
own link b es = ap (λ (c : Bool). if_own (c && true) es) (itself link)

pub own_bytes : (link : ℕ) (bytes : List ℕ) → cond (eqb link link && true) bytes [] ≡ bytes
own_bytes link bytes = ap (λ (c : Bool). cond (c && true) bytes []) (itself link)

-- a piece was fed
pub fed_represents : (opened : LinkParameters) (link : ℕ) (run : List Mark) (v after : ResponderSide) (piece : List ℕ) → FedOn v piece after → RepresentsServer opened link run v → RepresentsServer opened link (run ++ marks.Fed link Responder piece ∷ []) after
fed_represents opened link run v after piece fed h =
    let goes : GoesOn opened h.end h.input v (received_events h.input piece) (input_after h.input piece) after = fed opened h.end h.input h.keeps in
    let stream : List ℕ = bytes_received link Responder run in
    let heard : (end_state_after (server_rules opened) h.end (received_events h.input piece)).ended ≡ None → KeepsHeard link (run ++ marks.Fed link Responder piece ∷ []) after.link.state =
    λ lives.
    let live : h.end.ended ≡ None = live_before (server_rules opened) h.end (received_events h.input piece) lives in
    let received : h.input ≡ input_of Initiator stream = h.stands.received (ap (λ (e : EndState ServerState). e.ended) (sym h.stands.keeps) ∙ live) in
    fed_heard link run (marks.Fed link Responder piece) piece v.link.state after.link.state (own_bytes link piece) (h.heard live)
    (subst (λ (i : InputState). Hears v.link.state (received_events i piece) after.link.state) received (goes.heard lives)) in
    one_mark_lem opened link run (marks.Fed link Responder piece) v after piece [] (λ (input : InputState). received_events input piece)
    (own_bytes link piece) refl (λ (input : InputState). own link true (received_events input piece)) h goes.keeps goes.output heard

-- a call was executed, at any moment and place
pub executed_stands : (opened : LinkParameters) (link : ℕ) (run : List Mark) (v after : ResponderSide) (xid : ℕ) (moment : Moment) (payload : List ℕ) (place : ℕ) (reply : List ℕ) → (h : RepresentsServer opened link run v) →
    GoesOn opened h.end h.input v (CallExecuted (record { xid = xid; moment = moment; payload = payload; place = place; reply = reply }) ∷ []) h.input after →
    RepresentsServer opened link (run ++ marks.Execute link xid moment payload place reply ∷ []) after
executed_stands opened link run v after xid moment payload place reply h goes =
    let e : ExecutedCall = record { xid = xid; moment = moment; payload = payload; place = place; reply = reply } in
    one_mark_lem opened link run (marks.Execute link xid moment payload place reply) v after [] [] (λ (input : InputState). CallExecuted e ∷ []) refl refl (λ (input : InputState). own link true (CallExecuted e ∷ [])) h
    (same_kept opened link run v after (end_state_after (server_rules opened) h.end (CallExecuted e ∷ [])) h (live_before (server_rules opened) h.end (CallExecuted e ∷ [])) goes.keeps)
    goes.output
    (λ lives. quiet_heard opened link run (marks.Execute link xid moment payload place reply) v after (CallExecuted e ∷ []) refl h (record { last = (goes.heard lives).last; client = (goes.heard lives).client }) lives)

-- it was told something
pub told_represents : (opened : LinkParameters) (link : ℕ) (run : List Mark) (v after : ResponderSide) (what : Told) → (h : RepresentsServer opened link run v) → GoesOn opened h.end h.input v (ServerTold what ∷ []) h.input after →
    RepresentsServer opened link (run ++ marks.Told link what ∷ []) after
told_represents opened link run v after what h goes =
    one_mark_lem opened link run (marks.Told link what) v after [] [] (λ (input : InputState). ServerTold what ∷ []) refl refl (λ (input : InputState). own link true (ServerTold what ∷ [])) h
    (same_kept opened link run v after (end_state_after (server_rules opened) h.end (ServerTold what ∷ [])) h (live_before (server_rules opened) h.end (ServerTold what ∷ [])) goes.keeps)
    goes.output
    (λ lives. quiet_heard opened link run (marks.Told link what) v after (ServerTold what ∷ []) refl h (record { last = (goes.heard lives).last; client = (goes.heard lives).client }) lives)

-- its queue was written from the front
pub wrote_represents : (opened : LinkParameters) (link : ℕ) (run : List Mark) (v after : ResponderSide) (written : List ℕ) → (h : RepresentsServer opened link run v) → written ++ queue after ≡ queue v →
    KeepsEnd opened (end_state_after (server_rules opened) h.end (QueueWritten (length written) ∷ [])) h.input after → output_for_all (server_rules opened) h.end (QueueWritten (length written) ∷ []) ≡ [] → SameHeard v.link after.link →
    RepresentsServer opened link (run ++ marks.Wrote link Responder written ∷ []) after
wrote_represents opened link run v after written h left keeps silent heard =
    let es : List RunEvent = QueueWritten (length written) ∷ [] in
    one_mark_lem opened link run (marks.Wrote link Responder written) v after [] written (λ (input : InputState). es) refl (own_bytes link written) (λ (input : InputState). own link true es) h
    (same_kept opened link run v after (end_state_after (server_rules opened) h.end es) h (live_before (server_rules opened) h.end es) keeps)
    (left ∙ sym (append-nil (queue v)) ∙ sym (ap (λ (bytes : List ℕ). queue v ++ bytes) silent))
    (quiet_heard opened link run (marks.Wrote link Responder written) v after es refl h heard)

-- ---- A side that has ended, or runs out of memory

pub not_live : (o : Option End) → o ≡ None → is_some o ≡ true → ⊥
not_live None e t = absurd cc
not_live (Some end) e t = absurd cc

-- one that ran out of memory stands for a mark more, if what leaves of its queue is written
pub stays_out : (opened : LinkParameters) (link : ℕ) (run : List Mark) (v after : ResponderSide) (mark : Mark) → ResponderRunsOut opened link run v → end_of after ≡ end_of v → SameCalls v after → after.link.state.agreed ≡ v.link.state.agreed → written_at link Responder mark ++ queue after ≡ queue v →
    ResponderRunsOut opened link (run ++ mark ∷ []) after
stays_out opened link run v after mark h end same agreed left = record {
  output = subst (λ (o : Option End). ServerRunsOut opened link o (queue after) (run ++ mark ∷ [])) (sym end) (server_stays_out_lem opened link (end_of v) (queue v) (queue after) run mark h.output left);
  stopped = h.stopped;
  received = (
    h.received.0 ++ fed_at link Responder mark,
    sym (append_assoc (bytes_received link Responder h.stopped) h.received.0 (fed_at link Responder mark))
        ∙ ap (λ (bytes : List ℕ). bytes ++ fed_at link Responder mark) h.received.1
        ∙ sym (received_one link Responder run mark),
  );
  live = h.live;
  queued =
      h.queued
      ∙ ap (λ (bytes : List ℕ). bytes_sent link Responder run ++ bytes) (sym left)
      ∙ sym (append_assoc (bytes_sent link Responder run) (written_at link Responder mark) (queue after))
      ∙ ap (λ (bytes : List ℕ). bytes ++ queue after) (sym (sent_one link Responder run mark));
  calls = same.calls ∙ h.calls;
  ready = same.ready ∙ h.ready;
  credits = same.credits ∙ h.credits;
  agreed = subst (λ (a : Agreement). KeepsAgreed (server opened link h.stopped).state a) (sym agreed) h.agreed;
}

-- what is fed to a side that has ended changes nothing
pub ended_stands : (opened : LinkParameters) (link : ℕ) (run : List Mark) (v : ResponderSide) (piece : List ℕ) → is_some (end_of v) ≡ true → ResponderRepresents opened link run v → ResponderRepresents opened link (run ++ marks.Fed link Responder piece ∷ []) v
ended_stands opened link run v piece over (inl h) = inl (fed_represents opened link run v v piece (ended_fed_lem v piece over) h)
ended_stands opened link run v piece over (inr out) = inr (stays_out opened link run v v (marks.Fed link Responder piece) out refl (record { calls = refl; ready = refl; credits = refl }) refl refl)

-- one that hasn't ended didn't run out of memory
pub represents : (opened : LinkParameters) (link : ℕ) (run : List Mark) (v : ResponderSide) → end_of v ≡ None → ResponderRepresents opened link run v → RepresentsServer opened link run v
represents opened link run v live (inl h) = h
represents opened link run v live (inr out) = absurd (let two : None ≡ Some ends.Memory = sym live ∙ out.output.0 in cc)

-- one that ran out of memory at a frame kept the server before that frame
ran_out : (opened : LinkParameters) (link : ℕ) (run : List Mark) (v after : ResponderSide) (piece : List ℕ) (n : ℕ) → ResponderRanOutAt v piece n after → RepresentsServer opened link run v →
    ServerRunsOut opened link (end_of after) (queue after) (run ++ marks.Fed link Responder piece ∷ []) → ResponderRunsOut opened link (run ++ marks.Fed link Responder piece ∷ []) after
ran_out opened link run v after piece n out r output =
    let part : Mark = marks.Fed link Responder (take n piece) in
    let mark : Mark = marks.Fed link Responder piece in
    let s : RepresentsServer opened link (run ++ part ∷ []) out.stopped = fed_represents opened link run v out.stopped (take n piece) out.fed r in
    let both : (s.end.ended ≡ None) × Keeps opened s.end.state s.input out.stopped = not_ended_lem opened s.end s.input out.stopped out.live s.keeps in
    let stays : KeepsOutput out.stopped.link.state after.link.state = (out.needs opened s.end s.input s.keeps).1.0 in
    let same : queue after ≡ queue out.stopped = ap queued_bytes stays.queue in
    record {
      output = output;
      stopped = run ++ part ∷ [];
      received = (
        drop n piece,
        ap (λ (bytes : List ℕ). bytes ++ drop n piece) (received_one link Responder run part ∙ ap (λ (bytes : List ℕ). bytes_received link Responder run ++ bytes) (own_bytes link (take n piece)))
            ∙ append_assoc (bytes_received link Responder run) (take n piece) (drop n piece)
            ∙ ap (λ (bytes : List ℕ). bytes_received link Responder run ++ bytes) (take-append-drop n piece ∙ sym (own_bytes link piece))
            ∙ sym (received_one link Responder run mark),
      );
      live = sym (ap (λ (e : EndState ServerState). e.ended) s.stands.keeps) ∙ both.0;
      queued =
          sym s.stands.output
          ∙ ap (λ (bytes : List ℕ). bytes ++ queue out.stopped) (sent_one link Responder run part ∙ sym (sent_one link Responder run mark))
          ∙ ap (λ (bytes : List ℕ). bytes_sent link Responder (run ++ mark ∷ []) ++ bytes) (sym same);
      calls = out.same.calls ∙ both.1.calls ∙ ap (λ (e : EndState ServerState). e.state.calls) s.stands.keeps;
      ready = out.same.ready ∙ both.1.ready ∙ ap (λ (e : EndState ServerState). map (λ (q : ReadyCall). q.xid) e.state.ready) s.stands.keeps;
      credits = out.same.credits ∙ both.1.credits ∙ ap (λ (e : EndState ServerState). grant_of e.state) s.stands.keeps;
      agreed =
          subst (λ (e : EndState ServerState). KeepsAgreed e.state after.link.state.agreed) s.stands.keeps
          (subst (λ (a : Agreement). KeepsAgreed s.end.state a) (sym stays.agreed) (keeps_agreed opened s.end.state out.stopped.link.state out.stopped.link.state.place both.1.link both.1.server));
    }

pub fed_stands_lem : (opened : LinkParameters) (link : ℕ) (run : List Mark) (v after : ResponderSide) (piece : List ℕ) → Fed v piece after → end_of v ≡ None → ResponderRepresents opened link run v → ResponderRepresents opened link (run ++ marks.Fed link Responder piece ∷ []) after
fed_stands_lem opened link run v after piece (WentOn fed) live h = inl (fed_represents opened link run v after piece fed (represents opened link run v live h))
fed_stands_lem opened link run v after piece (RanOut n out) live h =
    let r : RepresentsServer opened link run v = represents opened link run v live h in
    let goes : GoesOn opened r.end r.input v (received_events r.input (take n piece)) (input_after r.input (take n piece)) out.stopped = out.fed opened r.end r.input r.keeps in
    let es : List RunEvent = received_events r.input (take n piece) in
    let more : List RunEvent = received_events (input_after r.input (take n piece)) (drop n piece) in
    let all : received_events r.input piece ≡ es ++ more = ap (received_events r.input) (sym (take-append-drop n piece)) ∙ events_parts r.input (take n piece) (drop n piece) in
    let events : input_events link Responder r.input (marks.Fed link Responder piece) ≡ es ++ more = own link true (received_events r.input piece) ∙ all in
    let rest : List ℕ = output_for_all (server_rules opened) (end_state_after (server_rules opened) r.end es) more in
    let first : queue after ++ rest ≡ queue v ++ output_for_all (server_rules opened) r.end (input_events link Responder r.input (marks.Fed link Responder piece)) =
    ap (λ (bytes : List ℕ). bytes ++ rest) (ap queued_bytes (out.needs opened (end_state_after (server_rules opened) r.end es) (input_after r.input (take n piece)) goes.keeps).1.0.queue ∙ goes.output)
    ∙ append_assoc (queue v) (output_for_all (server_rules opened) r.end es) rest
    ∙ ap (λ (bytes : List ℕ). queue v ++ bytes) (sym (output_for_all_append (server_rules opened) r.end es more) ∙ ap (output_for_all (server_rules opened) r.end) (sym events)) in
    let runs = server_runs_out_lem opened link r.end r.input (queue v) (queue after) run (marks.Fed link Responder piece) r.stands (rest, first) in
    inr (ran_out opened link run v after piece n out r (out.ended, runs.1))
