-- A responder after one step on a piece.
use Rattle.std.proofs.Common.{◌≡◌, ℕ, ◌+◌, ◌<◌, Bool, true, false, List, [], ◌∷◌, ◌++◌, length, take, drop, map, Option, Some, None, refl, sym, ap, subst, ◌∙◌, arith, inl, inr, is_some}
use Rattle.std.proofs.lemmas.List.{append-nil, take_all, take-append-drop}
use Rattle.nr_wire.specs.declared.stream.Awaited.{Awaited}
use Rattle.nr_wire.specs.declared.stream.Awaited.TheVariants.{Hello as HelloFrom, Fpdu}
use Rattle.nr_wire.specs.Stream.{is_whole, frame_len, fields_len, IsPartial, IsFrame}
use Rattle.nr_wire.specs.Feeding.{bytes_taken}
use Rattle.nr_wire.proofs.Frames.{partial_not_whole}
use Rattle.std.proofs.Math.Seq.{take-nil}
use Rattle.nr_wire.proofs.Feedings.{feeding_after_step-whole, feeding_after_step-partial, bytes_taken_partial}
use Rattle.nr_link.specs.declared.end.End.{End}
use Rattle.nr_link.specs.Input.{InputState, input_after}
use Rattle.nr_endpoint.specs.LinkState.{LinkSide, has_ended}
use Rattle.nr_endpoint.specs.Judging.{next_frame, with_frame}
use Rattle.nr_endpoint.specs.Calls.{after_call}
use Rattle.nr_endpoint.specs.Calls.Call.{FeedOne}
use Rattle.nr_endpoint.specs.Laws.{KeepsInput}
use Rattle.nr_endpoint.proofs.StagedFrames.{taken_whole}
use Rattle.nr_reduce.specs.declared.mark.LinkParameters.{LinkParameters}
use Rattle.nr_reduce.specs.Events.{RunEvent}
use Rattle.nr_reduce.specs.Events.RunEvent.{FrameReceived}
use Rattle.nr_reduce.specs.EndRules.{EndState, live, next_end_state, output_for, end_state_after, output_for_all}
use Rattle.nr_reduce.specs.ServerState.{ServerState}
use Rattle.nr_reduce.specs.Server.{server_rules}
use Rattle.nr_responder.specs.ResponderState.{ResponderSide, present_word, queue, end_of}
use Rattle.nr_responder.proofs.ServerSteps.{new_is_read}
use Rattle.nr_responder.specs.Keeping.{Begins, Keeps, KeepsEnd}
use Rattle.nr_responder.proofs.ServerSteps.{new_is_read}
use Rattle.nr_responder.specs.Keeping.Begins.{BeforeHello, AfterHello}
use Rattle.nr_responder.specs.Steps.{received_events, GoesOn, FedOn}
use Rattle.nr_responder.specs.private.Handling.{IsServerOf, IsHandled, on_link}
use Rattle.nr_responder.proofs.Pieces.{fed_parts, IsOneFrame, IsNoFrame, whole_piece, partial_piece}
use Rattle.nr_responder.proofs.FrameCounts.{frame_counts}
use Rattle.nr_responder.specs.Heard.{Hears, SameHeard}
use Rattle.nr_responder.proofs.Frames.{behind, TakesFrame, ended_takes}
use Rattle.nr_responder.proofs.Heard.{frame_heard, same_hears}
use Rattle.nr_responder.proofs.Steps.{frame_takes, link_behind}
use Rattle.nr_responder.proofs.Words.{word_is}

-- ---- The link after one step

pub data StepOf (l : LinkSide) (piece : List ℕ) (m : LinkSide) : Type 0 where
  Part : is_whole l.awaited (l.rest ++ piece) ≡ false → m ≡ record { awaited = l.awaited; rest = l.rest ++ piece; state = l.state } → StepOf l piece m
  WholeFrame : (frame : List ℕ) → is_whole l.awaited (l.rest ++ piece) ≡ true → frame ≡ take (frame_len l.awaited (l.rest ++ piece)) (l.rest ++ piece) → 0 < length frame → m ≡ link_behind l frame → StepOf l piece m

some_fields : (a : Awaited) → 0 < fields_len a
some_fields (HelloFrom side) = omega arith
some_fields Fpdu = omega arith

long_frame : (a : Awaited) (bytes : List ℕ) → IsFrame a bytes → 0 < length bytes
long_frame a bytes f = omega (arith, f.fields, some_fields a)

has_not : (o : Option End) → o ≡ None → is_some o ≡ false
has_not o is = ap (λ (x : Option End). is_some x) is

pub step_of : (l m : LinkSide) (piece : List ℕ) → IsPartial l.awaited l.rest → l.state.ended ≡ None → m ≡ after_call l (FeedOne piece) → StepOf l piece m
unfolding after_call
step_of l m piece p live is = by (is_whole l.awaited (l.rest ++ piece)) refl
  where
    by : (w : Bool) → is_whole l.awaited (l.rest ++ piece) ≡ w → StepOf l piece m
    by false w = Part w (is ∙ feeding_after_step-partial has_ended with_frame l piece (has_not l.state.ended live) w)
    by true w =
        let t = taken_whole l.awaited l.rest piece p w in
        let long : 0 < length (take (frame_len l.awaited (l.rest ++ piece)) (l.rest ++ piece)) = subst (λ (xs : List ℕ). 0 < length xs) t.0 (long_frame l.awaited _ t.1.0) in
        WholeFrame (take (frame_len l.awaited (l.rest ++ piece)) (l.rest ++ piece)) w refl long (is ∙ feeding_after_step-whole has_ended with_frame l piece (has_not l.state.ended live) w)

-- ---- The server after it

abbrev pub input_in : LinkSide → InputState
input_in l = record { awaited = l.awaited; rest = l.rest; place = l.state.place }

-- what the frames of an input bring
no_frame_lem : (opened : LinkParameters) (end : EndState ServerState) (so_far : InputState) (v after : ResponderSide) (x : List ℕ) → IsNoFrame so_far x → KeepsEnd opened end (input_after so_far x) after → queue after ≡ queue v → SameHeard v.link after.link →
    GoesOn opened end so_far v (received_events so_far x) (input_after so_far x) after
no_frame_lem opened end so_far v after x none keeps same heard =
    let events : received_events so_far x ≡ [] = ap (map FrameReceived) none.frames in
    record {
      keeps = subst (λ (es : List RunEvent). KeepsEnd opened (end_state_after (server_rules opened) end es) (input_after so_far x) after) (sym events) keeps;
      output = same ∙ sym (append-nil (queue v)) ∙ ap (λ (es : List RunEvent). queue v ++ output_for_all (server_rules opened) end es) (sym events);
      heard = λ live. subst (λ (es : List RunEvent). Hears v.link.state es after.link.state) (sym events) (record { last = heard.last; client = heard.client });
    }

one_frame_lem : (opened : LinkParameters) (end : EndState ServerState) (so_far : InputState) (v after : ResponderSide) (x frame : List ℕ) → IsOneFrame so_far x frame → end.ended ≡ None → v.link.state.place ≡ so_far.place →
    TakesFrame opened end.state (behind so_far frame) (next_frame v.link.state frame) v after →
    ((next_end_state (server_rules opened) (live end.state) (FrameReceived (next_frame v.link.state frame))).ended ≡ None → Hears v.link.state (FrameReceived (next_frame v.link.state frame) ∷ []) after.link.state) →
    GoesOn opened end so_far v (received_events so_far x) (input_after so_far x) after
one_frame_lem opened end so_far v after x frame one is place takes heard =
    let f = next_frame v.link.state frame in
    let same_end : end ≡ live end.state = λ i. record { state = end.state; ended = is i } in
    let events : received_events so_far x ≡ FrameReceived f ∷ [] =
    ap (map FrameReceived) one.frames ∙ ap (λ (n : ℕ). FrameReceived (record { at = n; end = n + length frame; bytes = frame }) ∷ []) (sym place) in
    let state : end_state_after (server_rules opened) end (received_events so_far x) ≡ next_end_state (server_rules opened) (live end.state) (FrameReceived f) =
    (λ i. end_state_after (server_rules opened) (same_end i) (events i)) in
    let due : output_for_all (server_rules opened) end (received_events so_far x) ≡ output_for (server_rules opened) (live end.state) (FrameReceived f) =
    (λ i. output_for_all (server_rules opened) (same_end i) (events i)) ∙ append-nil (output_for (server_rules opened) (live end.state) (FrameReceived f)) in
    record {
      keeps =
          subst (λ (e : EndState ServerState). KeepsEnd opened e (input_after so_far x) after) (sym state)
          (subst (λ (i : InputState). KeepsEnd opened (next_end_state (server_rules opened) (live end.state) (FrameReceived f)) i after) (sym one.after) takes.keeps);
      output = takes.output ∙ ap (λ (bytes : List ℕ). queue v ++ bytes) (sym due);
      heard = λ lives. subst (λ (es : List RunEvent). Hears v.link.state es after.link.state) (sym events) (heard (ap (λ (e : EndState ServerState). e.ended) (sym state) ∙ lives));
    }

-- a responder that has ended doesn't stand for a server that hasn't
pub not_ended_lem : (opened : LinkParameters) (end : EndState ServerState) (so_far : InputState) (v : ResponderSide) → end_of v ≡ None → KeepsEnd opened end so_far v → (end.ended ≡ None) × Keeps opened end.state so_far v
not_ended_lem opened end so_far v live (inl h) = h
not_ended_lem opened end so_far v live (inr ended) = absurd (never end.ended (sym ended.why ∙ live) ended.over)
  where
    never : (o : Option End) → o ≡ None → is_some o ≡ true → ⊥
    never None e t = absurd cc
    never (Some end) e t = absurd cc

pub same_input : (v : ResponderSide) (so_far : InputState) → KeepsInput v.link so_far → input_in v.link ≡ so_far
same_input v so_far k = λ i. record { awaited = k.awaited i; rest = k.rest i; place = k.place i }

still_begins : (l : LinkSide) (rest : List ℕ) → Begins l → Begins (record { awaited = l.awaited; rest = rest; state = l.state })
still_begins l rest (BeforeHello place awaited hello none) = BeforeHello place awaited hello none
still_begins l rest (AfterHello place awaited hello) = AfterHello place awaited hello

-- the next STag is as before a step
pub step_next : (l m : LinkSide) (piece : List ℕ) → StepOf l piece m → m.state.memory.next ≡ l.state.memory.next
step_next l m piece (Part w is) = ap (λ (x : LinkSide). x.state.memory.next) is
step_next l m piece (WholeFrame frame w frame_is long is) = ap (λ (x : LinkSide). x.state.memory.next) is ∙ (frame_counts l.state l.awaited frame).next

-- a step that doesn't end the side
pub step_goes : (v after : ResponderSide) (piece : List ℕ) (m : LinkSide) → end_of v ≡ None → IsPartial v.link.awaited v.link.rest → StepOf v.link piece m → m.state.ended ≡ None → v.credits.word ≡ present_word v →
    ((k : ServerState) → IsServerOf k (on_link v m) → IsHandled k (on_link v m) after) → SameHeard m after.link → FedOn v (take (bytes_taken v.link.awaited v.link.rest piece) piece) after
step_goes v after piece m live_now p step lives word handled heard opened end so_far keeps =
    let x : List ℕ = take (bytes_taken v.link.awaited v.link.rest piece) piece in
    let both : (end.ended ≡ None) × Keeps opened end.state so_far v = not_ended_lem opened end so_far v live_now keeps in
    let h : Keeps opened end.state so_far v = both.1 in
    let same : input_in v.link ≡ so_far = same_input v so_far h.input in
    let own : Keeps opened end.state (input_in v.link) v = subst (λ (i : InputState). Keeps opened end.state i v) (sym same) h in
    let server : IsServerOf end.state (on_link v m) = record { calls = sym h.calls; credits = sym (word ∙ word_is opened end.state so_far v h); reads = sym h.reads; ready = h.ready; new_read = new_is_read end.state h.server.reads_before; next = sym h.link.next ∙ sym (step_next v.link m piece step); place = v.link.state.place; is_server = h.server } in
    subst (λ (i : InputState). GoesOn opened end i v (received_events i x) (input_after i x) after) same (by opened end both.0 own (handled end.state server) step)
  where
    by : (opened : LinkParameters) (end : EndState ServerState) → end.ended ≡ None → Keeps opened end.state (input_in v.link) v → IsHandled end.state (on_link v m) after → StepOf v.link piece m →
        GoesOn opened end (input_in v.link) v (received_events (input_in v.link) (take (bytes_taken v.link.awaited v.link.rest piece) piece)) (input_after (input_in v.link) (take (bytes_taken v.link.awaited v.link.rest piece) piece)) after
    by opened end is h handled (Part w link) =
        let none : m.state.receive_queue.deliveries ≡ [] = ap (λ (l : LinkSide). l.state.receive_queue.deliveries) link ∙ h.link.told in
        let unchanged : after ≡ on_link v m = handled.none none in
        let part : List ℕ = take (bytes_taken v.link.awaited v.link.rest piece) piece in
        let all : part ≡ piece = ap (λ (n : ℕ). take n piece) (bytes_taken_partial v.link.awaited v.link.rest piece w) ∙ take_all (length piece) piece (omega arith) in
        let still : Keeps opened end.state (record { awaited = v.link.awaited; rest = v.link.rest ++ piece; place = v.link.state.place }) (on_link v (record { awaited = v.link.awaited; rest = v.link.rest ++ piece; state = v.link.state })) = record {
          link = h.link;
          input = record { awaited = refl; rest = refl; place = refl };
          begins = still_begins v.link (v.link.rest ++ piece) h.begins;
          server = h.server;
          calls = h.calls;
          ready = h.ready;
          credits = h.credits;
          reads = h.reads;
          sinks = h.sinks;
          payloads = h.payloads;
          quiet = h.quiet;
        } in
        let pp = partial_piece (input_in v.link) piece w in
        let input : input_after (input_in v.link) part ≡ record { awaited = v.link.awaited; rest = v.link.rest ++ piece; place = v.link.state.place } =
        pp.after ∙ ap (λ (xs : List ℕ). record { awaited = v.link.awaited; rest = v.link.rest ++ xs; place = v.link.state.place }) all in
        let value : after ≡ on_link v (record { awaited = v.link.awaited; rest = v.link.rest ++ piece; state = v.link.state }) = unchanged ∙ ap (λ (l : LinkSide). on_link v l) link in
        no_frame_lem opened end (input_in v.link) v after part pp
        (inl (is, subst (λ (w : ResponderSide). Keeps opened end.state (input_after (input_in v.link) part) w) (sym value) (subst (λ (i : InputState). Keeps opened end.state i (on_link v (record { awaited = v.link.awaited; rest = v.link.rest ++ piece; state = v.link.state }))) (sym input) still)))
        (ap queue value) (subst (λ (w : ResponderSide). SameHeard v.link w.link) (sym value) (record { last = refl; client = refl }))
    by opened end is h handled (WholeFrame frame w frame_is long link) =
        let one = whole_piece (input_in v.link) piece p w in
        let one_now : IsOneFrame (input_in v.link) (take (bytes_taken v.link.awaited v.link.rest piece) piece) frame = subst (λ (xs : List ℕ). IsOneFrame (input_in v.link) (take (bytes_taken v.link.awaited v.link.rest piece) piece) xs) (sym frame_is) one in
        let lives_on : (with_frame v.link.state v.link.awaited frame).ended ≡ None = sym (ap (λ (l : LinkSide). l.state.ended) link) ∙ lives in
        let handled_on : IsHandled end.state (on_link v (link_behind v.link frame)) after = subst (λ (l : LinkSide). IsHandled end.state (on_link v l) after) link handled in
        one_frame_lem opened end (input_in v.link) v after (take (bytes_taken v.link.awaited v.link.rest piece) piece) frame one_now is refl
        (frame_takes opened end.state (input_in v.link) v after frame h long lives_on handled_on)
        (λ _. same_hears v.link.state (FrameReceived (next_frame v.link.state frame) ∷ []) m after.link heard
        (subst (λ (l : LinkSide). Hears v.link.state (FrameReceived (next_frame v.link.state frame) ∷ []) l.state) (sym link) (frame_heard v.link frame h.begins h.link.side lives_on)))

-- ---- A step that ends it

ended_all_lem : (opened : LinkParameters) (s : ServerState) (end : End) (es : List RunEvent) →
    (end_state_after (server_rules opened) (record { state = s; ended = Some end }) es ≡ record { state = s; ended = Some end }) × (output_for_all (server_rules opened) (record { state = s; ended = Some end }) es ≡ [])
ended_all_lem opened s end [] = (refl, refl)
ended_all_lem opened s end (e ∷ es) = ended_all_lem opened s end es

pub ended_events : (opened : LinkParameters) (end : EndState ServerState) (es : List RunEvent) (o : Option End) → end.ended ≡ o → is_some o ≡ true →
    (end_state_after (server_rules opened) end es ≡ end) × (output_for_all (server_rules opened) end es ≡ [])
ended_events opened end es None is some = absurd cc
ended_events opened end es (Some why) is some =
    let same : end ≡ record { state = end.state; ended = Some why } = λ i. record { state = end.state; ended = is i } in
    let all = ended_all_lem opened end.state why es in
    (ap (λ (e : EndState ServerState). end_state_after (server_rules opened) e es) same ∙ all.0 ∙ sym same, ap (λ (e : EndState ServerState). output_for_all (server_rules opened) e es) same ∙ all.1)

pub ended_lives : (o : Option End) → o ≡ None → is_some o ≡ true → ⊥
ended_lives None is over = absurd cc
ended_lives (Some end) is over = absurd cc

-- bytes that come after the end of a side change nothing
pub ended_fed_lem : (v : ResponderSide) (piece : List ℕ) → is_some (end_of v) ≡ true → FedOn v piece v
ended_fed_lem v piece over opened end so_far (inl (is, h)) =
    absurd (let none : is_some (end_of v) ≡ false = ap (λ (o : Option End). is_some o) h.link.live in let two : true ≡ false = sym over ∙ none in cc)
ended_fed_lem v piece over opened end so_far (inr ended) =
    let all = ended_events opened end (received_events so_far piece) end.ended refl ended.over in
    record {
      keeps = subst (λ (e : EndState ServerState). KeepsEnd opened e (input_after so_far piece) v) (sym all.0) (inr ended);
      output = sym (append-nil (queue v)) ∙ ap (λ (bytes : List ℕ). queue v ++ bytes) (sym all.1);
      heard = λ lives. absurd (ended_lives end.ended (ap (λ (e : EndState ServerState). e.ended) (sym all.0) ∙ lives) ended.over);
    }

-- a side that has ended keeps no server that hasn't
still_over : (opened : LinkParameters) (end : EndState ServerState) (so_far : InputState) (v : ResponderSide) (why : End) → end_of v ≡ Some why → end.ended ≡ None → KeepsEnd opened end so_far v → ⊥
still_over opened end so_far v why over lives (inl h) = ended_lives (end_of v) h.1.link.live (ap (λ (o : Option End). is_some o) over)
still_over opened end so_far v why over lives (inr ended) = ended_lives end.ended lives ended.over

pub ended_step : (v : ResponderSide) (piece : List ℕ) (m : LinkSide) (why : End) → end_of v ≡ None → IsPartial v.link.awaited v.link.rest → StepOf v.link piece m → m.state.ended ≡ Some why →
    FedOn v (take (bytes_taken v.link.awaited v.link.rest piece) piece) (on_link v m)
ended_step v piece m why live_now p step ended opened end so_far keeps =
    let x : List ℕ = take (bytes_taken v.link.awaited v.link.rest piece) piece in
    let both : (end.ended ≡ None) × Keeps opened end.state so_far v = not_ended_lem opened end so_far v live_now keeps in
    let h : Keeps opened end.state so_far v = both.1 in
    let same : input_in v.link ≡ so_far = same_input v so_far h.input in
    let own : Keeps opened end.state (input_in v.link) v = subst (λ (i : InputState). Keeps opened end.state i v) (sym same) h in
    subst (λ (i : InputState). GoesOn opened end i v (received_events i x) (input_after i x) (on_link v m)) same (by opened end both.0 own step)
  where
    by : (opened : LinkParameters) (end : EndState ServerState) → end.ended ≡ None → Keeps opened end.state (input_in v.link) v → StepOf v.link piece m →
        GoesOn opened end (input_in v.link) v (received_events (input_in v.link) (take (bytes_taken v.link.awaited v.link.rest piece) piece)) (input_after (input_in v.link) (take (bytes_taken v.link.awaited v.link.rest piece) piece)) (on_link v m)
    by opened end is h (Part w link) = absurd (let two : None ≡ Some why = sym h.link.live ∙ (sym (ap (λ (l : LinkSide). l.state.ended) link) ∙ ended) in cc)
    by opened end is h (WholeFrame frame w frame_is long link) =
        let one = whole_piece (input_in v.link) piece p w in
        let one_now : IsOneFrame (input_in v.link) (take (bytes_taken v.link.awaited v.link.rest piece) piece) frame = subst (λ (xs : List ℕ). IsOneFrame (input_in v.link) (take (bytes_taken v.link.awaited v.link.rest piece) piece) xs) (sym frame_is) one in
        let ended_now : (with_frame v.link.state v.link.awaited frame).ended ≡ Some why = sym (ap (λ (l : LinkSide). l.state.ended) link) ∙ ended in
        let server_over : (e : EndState ServerState) → e.ended ≡ None → KeepsEnd opened e (behind (input_in v.link) frame) (on_link v (link_behind v.link frame)) → ⊥ =
        λ e lives keeps. still_over opened e (behind (input_in v.link) frame) (on_link v (link_behind v.link frame)) why ended_now lives keeps in
        let takes : TakesFrame opened end.state (behind (input_in v.link) frame) (next_frame v.link.state frame) v (on_link v (link_behind v.link frame)) =
        ended_takes opened end.state (input_in v.link) (behind (input_in v.link) frame) v frame why h long ended_now in
        one_frame_lem opened end (input_in v.link) v (on_link v m) (take (bytes_taken v.link.awaited v.link.rest piece) piece) frame one_now is refl
        (subst (λ (l : LinkSide). TakesFrame opened end.state (behind (input_in v.link) frame) (next_frame v.link.state frame) v (on_link v l)) (sym link)
        takes) (λ lives. absurd (server_over (next_end_state (server_rules opened) (live end.state) (FrameReceived (next_frame v.link.state frame))) lives takes.keeps))

-- then all of the piece is taken
pub ended_goes : (v : ResponderSide) (piece : List ℕ) (m : LinkSide) (why : End) → end_of v ≡ None → IsPartial v.link.awaited v.link.rest → StepOf v.link piece m → m.state.ended ≡ Some why → FedOn v piece (on_link v m)
ended_goes v piece m why live_now p step ended =
    let n : ℕ = bytes_taken v.link.awaited v.link.rest piece in
    let over : is_some (end_of (on_link v m)) ≡ true = ap (λ (o : Option End). is_some o) ended in
    subst (λ (bytes : List ℕ). FedOn v bytes (on_link v m)) (take-append-drop n piece)
    (fed_parts v (on_link v m) (on_link v m) (take n piece) (drop n piece) (ended_step v piece m why live_now p step ended) (ended_fed_lem (on_link v m) (drop n piece) over))

-- no bytes change nothing
pub empty_fed : (v : ResponderSide) → IsPartial v.link.awaited v.link.rest → FedOn v [] v
empty_fed v p opened end so_far (inl (is, h)) =
    subst (λ (i : InputState). GoesOn opened end i v (received_events i []) (input_after i []) v) (same_input v so_far h.input)
    (by (subst (λ (i : InputState). Keeps opened end.state i v) (sym (same_input v so_far h.input)) h))
  where
    by : Keeps opened end.state (input_in v.link) v → GoesOn opened end (input_in v.link) v (received_events (input_in v.link) []) (input_after (input_in v.link) []) v
    by own =
        let i : InputState = input_in v.link in
        let w : is_whole v.link.awaited (v.link.rest ++ []) ≡ false = subst (λ (xs : List ℕ). is_whole v.link.awaited xs ≡ false) (sym (append-nil v.link.rest)) (partial_not_whole v.link.awaited v.link.rest p) in
        let none : IsNoFrame i [] = subst (λ (xs : List ℕ). IsNoFrame i xs) (take-nil (bytes_taken v.link.awaited v.link.rest [])) (partial_piece i [] w) in
        let still : input_after i [] ≡ i = none.after ∙ ap (λ (xs : List ℕ). record { awaited = v.link.awaited; rest = xs; place = v.link.state.place }) (append-nil v.link.rest) in
        no_frame_lem opened end i v v [] none (subst (λ (j : InputState). KeepsEnd opened end j v) (sym still) (inl (is, own))) refl (record { last = refl; client = refl })
empty_fed v p opened end so_far (inr ended) = ended_fed_lem v [] (ap (λ (o : Option End). is_some o) ended.why ∙ ended.over) opened end so_far (inr ended)
