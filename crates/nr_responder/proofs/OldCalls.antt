-- A responder whose next call is refused since it is old: it ends, as the server of a run does that is told so.
use Rattle.std.proofs.Common.{◌≡◌, ◌≢◌, ℕ, ◌+◌, ◌<◌, Bool, true, false, List, [], ◌∷◌, ◌++◌, length, Option, Some, None, refl, sym, ap, subst, ◌∙◌, inl, inr, arith}
use Rattle.std.specs.Prelude.{map}
use Rattle.std.specs.List.{concat}
use Rattle.std.proofs.lemmas.List.{append-nil}
use Rattle.nr_wire.specs.Constants.{REASON_FLAGS}
use Rattle.nr_wire.specs.declared.hello.Side.{Side}
use Rattle.nr_wire.specs.declared.hello.Side.TheVariants.{Initiator, Responder}
use Rattle.nr_wire.specs.declared.stream.Awaited.TheVariants.{Hello as HelloFrom}
use Rattle.nr_wire.specs.Stream.{split}
use Rattle.nr_link.specs.declared.end.End.{End}
use Rattle.nr_link.specs.declared.end.End.TheVariants as ends
use Rattle.nr_link.specs.Ending.{last_output}
use Rattle.nr_link.specs.Frames.{frames_from, frames_of}
use Rattle.nr_link.specs.Input.{InputState, input_of}
use Rattle.nr_link.specs.Reasons.{REASON_OLD}
use Rattle.nr_endpoint.specs.SendQueue.{SendQueue, with_end, writable}
use Rattle.nr_endpoint.specs.LinkState.{LinkState, LinkSide}
use Rattle.nr_endpoint.specs.Judging.{with_end_of}
use Rattle.nr_endpoint.specs.Calls.{after_call, IsStopReason}
use Rattle.nr_endpoint.specs.Calls.Call.{Stop, OutOfMemory}
use Rattle.nr_endpoint.proofs.Standing.{live_state}
use Rattle.nr_reduce.specs.declared.mark.LinkParameters.{LinkParameters}
use Rattle.nr_reduce.specs.declared.mark.Mark.{Mark}
use Rattle.nr_reduce.specs.declared.mark.Mark.TheVariants as marks
use Rattle.nr_reduce.specs.declared.mark.Told.TheVariants.{Old}
use Rattle.nr_reduce.specs.EndRules.{EndState, end_state_after, next_end_state_by, next_end_state_in, output_for_all, output_for_by, output_for_in}
use Rattle.nr_reduce.specs.Events.RunEvent.{ServerTold}
use Rattle.nr_reduce.specs.History.{bytes_sent, bytes_received, fed_at}
use Rattle.nr_reduce.specs.Served.{last_frame_at}
use Rattle.nr_reduce.specs.Run.{server}
use Rattle.nr_reduce.specs.Server.{old_end, server_end, server_rules}
use Rattle.nr_reduce.specs.ServerState.{ReadyCall, ServerState}
use Rattle.nr_reduce.specs.Standing.{input_events}
use Rattle.nr_reduce.proofs.Standing.{received_one, sent_one, server_runs_out_lem}
use Rattle.nr_responder.specs.private.Handling.{out, on_link, OrOut}
use Rattle.nr_responder.specs.Granting.{grant_of}
use Rattle.nr_responder.specs.HeldBytes.{KeptFits}
use Rattle.nr_responder.specs.Keeping.{Begins, Keeps, KeepsAgreed, KeepsEnd}
use Rattle.nr_responder.specs.Keeping.Begins.{BeforeHello, AfterHello}
use Rattle.nr_responder.specs.ResponderState.{ResponderSide, end_of, queue, queued_bytes}
use Rattle.nr_responder.specs.Heard.{KeepsHeard}
use Rattle.nr_responder.specs.Standing.{RepresentsServer, RepresentsSome, ResponderRepresents}
use Rattle.nr_responder.specs.Steps.{GoesOn}
use Rattle.nr_responder.proofs.Answered.{not_zero}
use Rattle.nr_responder.proofs.Fed.{not_ended_lem}
use Rattle.nr_responder.proofs.Frames.{keeps_agreed}
use Rattle.nr_responder.proofs.Marks.{represents, told_represents}
use Rattle.nr_responder.proofs.OutputBounds.{memory_out, stop_out}
use Rattle.nr_responder.proofs.Posted.{ended_as}
use Rattle.nr_responder.proofs.Queues.{last_queue, sendable_ended}
use Rattle.nr_responder.proofs.SinkBounds.{on_link_fits, receives_same}

-- it is a reason for which a responder stops
pub old_stops : (reason : ℕ) → reason ≡ REASON_OLD → IsStopReason reason
old_stops reason is = inr (inr (inr (inr (inr (inr (inr (inr is)))))))

-- What it knows of the frames, while it lives.
pub heard_now : (opened : LinkParameters) (link : ℕ) (run : List Mark) (v : ResponderSide) → end_of v ≡ None → ResponderRepresents opened link run v → KeepsHeard link run v.link.state
heard_now opened link run v live stands =
    let h : RepresentsServer opened link run v = represents opened link run v live stands in
    h.heard (not_ended_lem opened h.end h.input v live h.keeps).0

-- ---- A side with a call that is ready has received the client's hello

keeps_behind : (opened : LinkParameters) (k : ServerState) (so_far : InputState) (v : ResponderSide) → Keeps opened k so_far v → v.ready ≢ [] → 0 < v.link.state.place
keeps_behind opened k so_far v h some = not_zero v.link.state.place (λ zero_place. some (h.quiet zero_place).0)

has_greeted : (l : LinkSide) → Begins l → 0 < l.state.place → l.state.has_hello ≡ true
has_greeted l (BeforeHello place awaited hello none) behind = absurd (omega (arith, place, behind))
has_greeted l (AfterHello place awaited hello) behind = hello

pub ready_behind : (v : ResponderSide) → end_of v ≡ None → v.ready ≢ [] → RepresentsSome v → 0 < v.link.state.place
ready_behind v live some s =
    let h : RepresentsServer s.0 s.1.0 s.1.1.0 v = represents s.0 s.1.0 s.1.1.0 v live s.1.1.1 in
    let both : (h.end.ended ≡ None) × Keeps s.0 h.end.state h.input v = not_ended_lem s.0 h.end h.input v live h.keeps in
    keeps_behind s.0 h.end.state h.input v both.1 some

no_cons : {X : Type 0} (x : X) (xs : List X) → x ∷ xs ≡ [] → ⊥
no_cons x xs is = absurd cc

no_place : (frames : List (List ℕ)) → frames_from 0 frames ≡ [] → length (concat frames) ≡ 0
no_place [] none = refl
no_place (bytes ∷ frames) none = absurd (no_cons _ _ none)

pub ready_heard : (opened : LinkParameters) (link : ℕ) (run : List Mark) (v : ResponderSide) → end_of v ≡ None → v.ready ≢ [] → ResponderRepresents opened link run v → frames_of Initiator (bytes_received link Responder run) ≢ []
unfolding frames_of
ready_heard opened link run v live some stands none =
    let h : RepresentsServer opened link run v = represents opened link run v live stands in
    let both : (h.end.ended ≡ None) × Keeps opened h.end.state h.input v = not_ended_lem opened h.end h.input v live h.keeps in
    let stream : List ℕ = bytes_received link Responder run in
    let received : h.input ≡ input_of Initiator stream = h.stands.received (ap (λ (e : EndState ServerState). e.ended) (sym h.stands.keeps) ∙ both.0) in
    let zero_place : v.link.state.place ≡ 0 = both.1.input.place ∙ ap (λ (i : InputState). i.place) received ∙ no_place (split (HelloFrom Initiator) stream).frames none in
    let behind = keeps_behind opened h.end.state h.input v both.1 some in
    absurd (omega (arith, behind, zero_place))

-- ---- It ends

stopped_side : (l : LinkSide) (reason : ℕ) → l.state.ended ≡ None → after_call l (Stop reason) ≡ record { awaited = l.awaited; rest = []; state = with_end_of (ends.Bad l.state.last reason) l.state }
unfolding after_call
stopped_side l reason live = ap (λ (t : LinkState). record { awaited = l.awaited; rest = []; state = t }) (live_state l.state (with_end_of (ends.Bad l.state.last reason) l.state) live)

out_side : (l : LinkSide) → l.state.ended ≡ None → after_call l OutOfMemory ≡ record { awaited = l.awaited; rest = []; state = record l.state { ended = Some ends.Memory } }
unfolding after_call
out_side l live = ap (λ (t : LinkState). record { awaited = l.awaited; rest = []; state = t }) (live_state l.state (record l.state { ended = Some ends.Memory }) live)

old_ends : (at : ℕ) (ready : List ReadyCall) → map (λ (r : ReadyCall). r.xid) ready ≢ [] → old_end at ready ≡ Some (ends.Bad at REASON_OLD)
old_ends at [] some = absurd (some refl)
old_ends at (r ∷ ready) some = refl

told_ends : (opened : LinkParameters) (k : ServerState) (xid at : ℕ) → map (λ (r : ReadyCall). r.xid) k.ready ≢ [] → server_end opened k (ServerTold (Old xid at)) ≡ Some (ends.Bad at REASON_OLD)
unfolding server_end
told_ends opened k xid at some = old_ends at k.ready some

old_goes : (opened : LinkParameters) (end : EndState ServerState) (so_far : InputState) (v : ResponderSide) (xid : ℕ) → end.ended ≡ None → Keeps opened end.state so_far v → v.ready ≢ [] →
    GoesOn opened end so_far v (ServerTold (Old xid v.link.state.last) ∷ []) so_far (on_link v (after_call v.link (Stop REASON_OLD)))
old_goes opened end so_far v xid is h some =
    let k : ServerState = end.state in
    let s : LinkState = v.link.state in
    let q : SendQueue = s.send_queue in
    let why : End = ends.Bad s.last REASON_OLD in
    let stopped : LinkSide = record { awaited = v.link.awaited; rest = []; state = with_end_of why s } in
    let link : after_call v.link (Stop REASON_OLD) ≡ stopped = stopped_side v.link REASON_OLD h.link.live in
    let there : map (λ (r : ReadyCall). r.xid) k.ready ≢ [] = λ none. some (h.ready ∙ none) in
    let ends_for : server_end opened k (ServerTold (Old xid s.last)) ≡ Some why = told_ends opened k xid s.last there in
    let next : next_end_state_in (server_rules opened) k (ServerTold (Old xid s.last)) end.ended ≡ record { state = k; ended = Some why } =
    ap (λ (o : Option End). next_end_state_in (server_rules opened) k (ServerTold (Old xid s.last)) o) is
    ∙ ap (λ (o : Option End). next_end_state_by (server_rules opened) k (ServerTold (Old xid s.last)) o) ends_for in
    let due : output_for_in (server_rules opened) k (ServerTold (Old xid s.last)) end.ended ≡ last_output Responder why =
    ap (λ (o : Option End). output_for_in (server_rules opened) k (ServerTold (Old xid s.last)) o) is
    ∙ ap (λ (o : Option End). output_for_by (server_rules opened) k (ServerTold (Old xid s.last)) o) ends_for in
    let greeted : s.has_hello ≡ true = has_greeted v.link h.begins (keeps_behind opened k so_far v h some) in
    let keeps : KeepsEnd opened (record { state = k; ended = Some why }) so_far (on_link v stopped) = inr (record {
      over = refl;
      why = refl;
      calls = h.calls;
      ready = h.ready;
      credits = h.credits;
      agreed = keeps_agreed opened k s s.place h.link h.server;
      sendable =
          ap (λ (x : Side). writable s.has_hello (with_end x why q)) h.link.side
          ∙ sendable_ended s.has_hello why q (λ none. absurd (let two : true ≡ false = sym greeted ∙ none in cc))
          ∙ sym (ap (λ (x : Side). queued_bytes (with_end x why q)) h.link.side);
    }) in
    record {
      keeps = subst (λ (l : LinkSide). KeepsEnd opened (end_state_after (server_rules opened) end (ServerTold (Old xid s.last) ∷ [])) so_far (on_link v l)) (sym link) (subst (λ (e : EndState ServerState). KeepsEnd opened e so_far (on_link v stopped)) (sym next) keeps);
      output =
          ap (λ (l : LinkSide). queued_bytes l.state.send_queue) link
          ∙ ap (λ (x : Side). queued_bytes (with_end x why q)) h.link.side
          ∙ last_queue why q (λ (n : ℕ) (e : why ≡ ends.Bad n REASON_FLAGS). absurd (let r : REASON_OLD ≡ REASON_FLAGS = cc in omega (arith, r)))
          ∙ ap (λ (bytes : List ℕ). queue v ++ bytes) (sym due ∙ sym (append-nil (output_for_in (server_rules opened) k (ServerTold (Old xid s.last)) end.ended)));
      heard = λ lives. absurd (let two : Some why ≡ None = sym (ap (λ (e : EndState ServerState). e.ended) next) ∙ lives in cc);
    }

old_stands : (opened : LinkParameters) (link : ℕ) (run : List Mark) (v : ResponderSide) (xid : ℕ) → end_of v ≡ None → v.ready ≢ [] → ResponderRepresents opened link run v →
    ResponderRepresents opened link (run ++ marks.Told link (Old xid (last_frame_at link run)) ∷ []) (on_link v (after_call v.link (Stop REASON_OLD)))
old_stands opened link run v xid live some stands =
    let h : RepresentsServer opened link run v = represents opened link run v live stands in
    let both : (h.end.ended ≡ None) × Keeps opened h.end.state h.input v = not_ended_lem opened h.end h.input v live h.keeps in
    let after : ResponderSide = on_link v (after_call v.link (Stop REASON_OLD)) in
    subst (λ (at : ℕ). ResponderRepresents opened link (run ++ marks.Told link (Old xid at) ∷ []) after) (h.heard both.0).last
    (inl (told_represents opened link run v after (Old xid v.link.state.last) h (old_goes opened h.end h.input v xid both.0 both.1 some)))

-- ---- Or memory runs out for its Terminate

out_stands : (opened : LinkParameters) (link : ℕ) (run : List Mark) (v : ResponderSide) (xid at : ℕ) → end_of v ≡ None → ResponderRepresents opened link run v → ResponderRepresents opened link (run ++ marks.Told link (Old xid at) ∷ []) (out v)
out_stands opened link run v xid at live stands =
    let h : RepresentsServer opened link run v = represents opened link run v live stands in
    let both : (h.end.ended ≡ None) × Keeps opened h.end.state h.input v = not_ended_lem opened h.end h.input v live h.keeps in
    let mark : Mark = marks.Told link (Old xid at) in
    let is : after_call v.link OutOfMemory ≡ record { awaited = v.link.awaited; rest = []; state = record v.link.state { ended = Some ends.Memory } } = out_side v.link live in
    let same : queue (out v) ≡ queue v = ap (λ (l : LinkSide). queued_bytes l.state.send_queue) is in
    let due : List ℕ = output_for_all (server_rules opened) h.end (input_events link Responder h.input mark) in
    let runs = server_runs_out_lem opened link h.end h.input (queue v) (queue (out v)) run mark h.stands (due, ap (λ (bytes : List ℕ). bytes ++ due) same) in
    let sent : bytes_sent link Responder run ≡ bytes_sent link Responder (run ++ mark ∷ []) = sym (sent_one link Responder run mark ∙ append-nil (bytes_sent link Responder run)) in
    inr (record {
      output = (ap (λ (l : LinkSide). l.state.ended) is, runs.1);
      stopped = run;
      received = (fed_at link Responder mark, sym (received_one link Responder run mark));
      live = sym (ap (λ (e : EndState ServerState). e.ended) h.stands.keeps) ∙ both.0;
      queued = sym h.stands.output ∙ (λ i. sent i ++ sym same i);
      calls = both.1.calls ∙ ap (λ (e : EndState ServerState). e.state.calls) h.stands.keeps;
      ready = both.1.ready ∙ ap (λ (e : EndState ServerState). map (λ (q : ReadyCall). q.xid) e.state.ready) h.stands.keeps;
      credits = both.1.credits ∙ ap (λ (e : EndState ServerState). grant_of e.state) h.stands.keeps;
      agreed =
          subst (λ (l : LinkSide). KeepsAgreed (server opened link run).state l.state.agreed) (sym is)
          (subst (λ (e : EndState ServerState). KeepsAgreed e.state v.link.state.agreed) h.stands.keeps (keeps_agreed opened h.end.state v.link.state v.link.state.place both.1.link both.1.server));
    })

-- ---- Either way

pub stops_old : (opened : LinkParameters) (link : ℕ) (run : List Mark) (v after : ResponderSide) (reason xid : ℕ) → reason ≡ REASON_OLD → end_of v ≡ None → v.ready ≢ [] → OrOut v (after_call v.link (Stop reason)) after → ResponderRepresents opened link run v →
    ResponderRepresents opened link (run ++ marks.Told link (Old xid (last_frame_at link run)) ∷ []) after
stops_old opened link run v after reason xid old live some made stands = by made
  where
    goes : ResponderSide → Type 0
    goes w = ResponderRepresents opened link (run ++ marks.Told link (Old xid (last_frame_at link run)) ∷ []) w

    by : OrOut v (after_call v.link (Stop reason)) after → goes after
    by (inl is) = subst goes (sym (is ∙ ap (λ (n : ℕ). on_link v (after_call v.link (Stop n))) old)) (old_stands opened link run v xid live some stands)
    by (inr is) = subst goes (sym is) (out_stands opened link run v xid (last_frame_at link run) live stands)

-- why it has ended
pub stops_for : (v after : ResponderSide) (reason : ℕ) → end_of v ≡ None → OrOut v (after_call v.link (Stop reason)) after → (end_of after ≢ Some ends.Memory → end_of after ≡ Some (ends.Bad v.link.state.last reason)) × (end_of after ≢ None)
stops_for v after reason live (inl is) =
    let ended : end_of after ≡ Some (ends.Bad v.link.state.last reason) = ap end_of is ∙ ap (λ (l : LinkSide). l.state.ended) (stopped_side v.link reason live) in
    ((λ other. ended), (λ none. absurd (let two : Some (ends.Bad v.link.state.last reason) ≡ None = sym ended ∙ none in cc)))
stops_for v after reason live (inr is) =
    let ended : end_of after ≡ Some ends.Memory = ap end_of is ∙ ap (λ (l : LinkSide). l.state.ended) (out_side v.link live) in
    ((λ other. absurd (other ended)), (λ none. absurd (let two : Some ends.Memory ≡ None = sym ended ∙ none in cc)))

-- what it keeps stays within bounds
pub stops_bounded : (v after : ResponderSide) (reason : ℕ) → end_of v ≡ None → OrOut v (after_call v.link (Stop reason)) after → KeptFits v → KeptFits after
stops_bounded v after reason live (inl is) fits =
    let l : LinkSide = after_call v.link (Stop reason) in
    let stays = ended_as v.link l reason (inl refl) in
    subst KeptFits (sym is) (record {
      sinks = on_link_fits v l (receives_same _ _ stays.input.queue) stays.memory (λ e. live) fits.sinks;
      output = stop_out v (on_link v l) reason live refl refl fits.output;
      reads = fits.reads;
    })
stops_bounded v after reason live (inr is) fits =
    let l : LinkSide = after_call v.link OutOfMemory in
    let stays = ended_as v.link l reason (inr refl) in
    subst KeptFits (sym is) (record {
      sinks = on_link_fits v l (receives_same _ _ stays.input.queue) stays.memory (λ e. live) fits.sinks;
      output = memory_out v (on_link v l) live refl refl fits.output;
      reads = fits.reads;
    })
