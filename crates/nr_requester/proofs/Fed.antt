-- A requester that was fed a piece stands for the marks with that Fed.
use Rattle.std.proofs.Common.{◌≡◌, ℕ, ◌+◌, ◌<◌, ◌≤◌, Bool, true, false, cond, ◌&&◌, List, [], ◌∷◌, ◌++◌, length, take, drop, map, Option, None, Some, inl, inr, refl, sym, ap, subst, ◌∙◌, arith, append_assoc, length-append}
use Rattle.std.specs.Prelude.{is_some}
use Rattle.std.specs.List.{concat}
use Rattle.std.proofs.lemmas.List.{append-nil, take_at, take-append-le, take-append-drop}
use Rattle.std.proofs.lemmas.Bool.{cases_lt}
use Rattle.nr_wire.specs.declared.hello.Side.TheVariants.{Initiator, Responder}
use Rattle.nr_wire.specs.declared.stream.Awaited.{Awaited}
use Rattle.nr_wire.specs.declared.stream.Awaited.TheVariants.{Hello as HelloFrom, Fpdu}
use Rattle.nr_wire.specs.Feeding.{feeding_in, feeding_after_frames, feeding_after}
use Rattle.nr_wire.specs.Stream.{IsFrame, IsPartial, AreFrames, Splits, Split, split, awaited_after}
use Rattle.nr_wire.proofs.Frames.{Whole, is_whole_from, whole_append, partial_not_whole}
use Rattle.nr_wire.proofs.Splits.{split_Splits}
use Rattle.nr_link.specs.declared.end.End.{End}
use Rattle.nr_link.specs.Input.{InputState, input_of, input_count, input_split, input_frames, input_after}
use Rattle.nr_link.proofs.Inputs.{input_of_count}
use Rattle.nr_reduce.specs.declared.mark.LinkParameters.{LinkParameters}
use Rattle.nr_reduce.specs.declared.mark.Mark.{Mark}
use Rattle.nr_reduce.specs.declared.mark.Mark.TheVariants as marks
use Rattle.nr_reduce.specs.History.{AcceptedCall, accepted_calls, bytes_received, fed_at}
use Rattle.nr_reduce.specs.Events.{RunEvent, events_at, events}
use Rattle.nr_reduce.specs.Events.RunEvent.{FrameReceived}
use Rattle.nr_reduce.specs.EndRules.{EndState, end_state_after, output_for_all, live}
use Rattle.nr_reduce.specs.ClientState.{ClientState}
use Rattle.nr_reduce.specs.Client.{client_rules}
use Rattle.nr_reduce.specs.Run.{client}
use Rattle.nr_reduce.specs.KeptClient.{ClientKeeps}
use Rattle.nr_reduce.specs.Standing.{input_events, ClientRepresents}
use Rattle.nr_reduce.specs.StandingLaws.{GoesByInput}
use Rattle.nr_reduce.proofs.Standing.{itself, client_stands, client_by_input_lem, events_input}
use Rattle.nr_reduce.proofs.Steps.{ended_stays}
use Rattle.nr_link.specs.Frames.{frames_completed}
use Rattle.nr_requester.specs.RequesterState.{RequesterState, RequesterFeeding, RequesterSide, feeding_of, queue_of, kept_client, input_kept}
use Rattle.nr_requester.specs.Standing.{LinkKeeps, KeepsClient, AnswersWith}
use Rattle.nr_requester.specs.KeptAnswers.{is_due, client_by, KeepsAnswers}
use Rattle.nr_requester.specs.AfterPiece.{requester_ended, after_frame, after_piece, after_fed}
use Rattle.nr_requester.specs.Laws.{PieceIsAMark}
use Rattle.nr_requester.proofs.Marks.{state_of, lives_as, due_is, own_events}
use Rattle.nr_requester.proofs.FrameMoves.{KeepsLiveClient, KeptEnd}
use Rattle.nr_requester.proofs.CallRegions.{none_if, none_in_frames}
use Rattle.nr_requester.proofs.AnswerSteps.{due_same, by_events}
use Rattle.nr_requester.proofs.FrameAnswers.{ended_answers}
use Rattle.nr_requester.specs.CountedMarks.{has_bytes}
use Rattle.nr_requester.proofs.CountedMarks.{counted_more, own_bytes}
use Rattle.nr_requester.proofs.Feeding.{IsAwaited, IsBeyond, Along, frames_along, frame_some, keeps_later}

-- ---- The frames of a piece

input_awaited : (stream : List ℕ) → IsAwaited (input_of Responder stream).awaited (input_of Responder stream).place
input_awaited stream = by (split (HelloFrom Responder) stream).frames (split_Splits (HelloFrom Responder) stream).each
  where
    by : (frames : List (List ℕ)) → AreFrames (HelloFrom Responder) frames → IsAwaited (awaited_after (HelloFrom Responder) frames) (length (concat frames))
    by [] each = (refl, refl)
    by (f ∷ frames) each = (let some = frame_some (HelloFrom Responder) f each.0 in omega (arith, some, length-append f (concat frames)))

-- a frame that bytes begin is longer than what they had of it before
frame_longer : (a : Awaited) (rest piece frame more : List ℕ) → IsPartial a rest → IsFrame a frame → rest ++ piece ≡ frame ++ more → length rest < length frame
frame_longer a rest piece frame more part is same =
    elim (cases_lt (length rest) (length frame)) [
      | inl lt ↦ lt
      | inr le ↦
          let front : take (length frame) rest ≡ frame =
          sym (take-append-le (length frame) rest piece le) ∙ ap (take (length frame)) same ∙ take_at frame more (length frame) refl in
          let whole : Whole a frame = (let len = is.len in record { fields = is.fields; frame = omega (arith, len) }) in
          let all : Whole a rest = subst (λ (xs : List ℕ). Whole a xs) (ap (λ (xs : List ℕ). xs ++ drop (length frame) rest) (sym front) ∙ take-append-drop (length frame) rest) (whole_append a frame (drop (length frame) rest) whole) in
          absurd (let wrong : true ≡ false = sym (is_whole_from a rest all) ∙ partial_not_whole a rest part in cc)
    ]

piece_beyond : (a : Awaited) (rest piece : List ℕ) (place : ℕ) (s : Split) → IsPartial a rest → Splits a (rest ++ piece) s.frames s.rest → IsBeyond (place + length rest) place s.frames s.rest
piece_beyond a rest piece place s part h = by s.frames h
  where
    by : (frames : List (List ℕ)) → Splits a (rest ++ piece) frames s.rest → IsBeyond (place + length rest) place frames s.rest
    by [] g = (let whole = ap (λ (xs : List ℕ). length xs) g.whole in omega (arith, whole, length-append rest piece))
    by (f ∷ frames) g = (let lt = frame_longer a rest piece f (concat frames ++ s.rest) part g.each.0 (g.whole ∙ append_assoc f (concat frames) s.rest) in omega (arith, lt))

-- one that has ended takes nothing more
fed_ended : (h : RequesterFeeding) (piece : List ℕ) → requester_ended h.state ≡ true → (after_piece h piece).state ≡ h.state
unfolding after_piece feeding_after
fed_ended h piece e = by (split h.awaited (h.rest ++ piece)).frames
  where
    s : Split
    s = split h.awaited (h.rest ++ piece)

    by : (frames : List (List ℕ)) → (feeding_after_frames requester_ended after_frame frames s.rest h.awaited h.state).state ≡ h.state
    by [] = refl
    by (f ∷ frames) = ap (λ (b : Bool). (cond b (feeding_in requester_ended after_frame h.awaited [] h.state) (feeding_after_frames requester_ended after_frame frames s.rest Fpdu (after_frame h.state h.awaited f))).state) e

-- the client after some marks is that after their events
pub client_is : (opened : LinkParameters) (link : ℕ) (run : List Mark) → client opened link run ≡ client_by opened (events link Initiator run)
unfolding client
client_is opened link run = refl

-- ---- A piece

module _ (opened : LinkParameters) (link : ℕ) (h : RequesterSide) (run : List Mark) (piece staging : List ℕ) (s : KeepsClient opened link h run) where
  abbrev pub stream : List ℕ
  stream = bytes_received link Initiator run

  abbrev pub mark : Mark
  mark = marks.Fed link Initiator piece

  abbrev pub input : InputState
  input = input_kept h

  abbrev pub after : RequesterSide
  after = after_fed h piece staging

  fed_is : fed_at link Initiator mark ≡ piece
  fed_is = ap (λ (b : Bool). cond (b && true) piece []) (itself link)

  events_are : input_events link Initiator input mark ≡ map FrameReceived (input_frames input piece)
  events_are = own_events link (map FrameReceived (input_frames input piece))

  -- what holds of a requester after the piece
  pub record Goes : Type 0 where
    pub keeps : KeptEnd opened after.state (end_state_after (client_rules opened) (client opened link run) (input_events link Initiator input mark)) (length stream + length (fed_at link Initiator mark))
    pub queue : queue_of after.state ≡ queue_of h.state ++ output_for_all (client_rules opened) (client opened link run) (input_events link Initiator input mark)
    pub input_is : after.state.side.ended ≡ None → input_kept after ≡ input_after input (fed_at link Initiator mark)
    pub answers : (due : ℕ → Bool) (asked : List AcceptedCall) → KeepsAnswers opened (events link Initiator run) due asked h.state → KeepsAnswers opened (events link Initiator run ++ events_at link Initiator run mark) due asked after.state

  goes_live : (client opened link run).ended ≡ None → Goes
  unfolding after_piece feeding_after
  goes_live none =
      let k = state_of opened link run in
      let count : ℕ = length stream in
      let e_is : client opened link run ≡ live k = lives_as (client opened link run) none in
      let side_live : h.state.side.ended ≡ None = s.kept.keeps.ended ∙ none in
      let kept : KeepsLiveClient opened h.state k count = record {
        client = subst (λ (e : EndState ClientState). ClientKeeps opened (kept_client h.state) e count) e_is s.kept.keeps;
        side = s.side side_live;
        sent = s.sent side_live;
        wished = s.wished;
        due = due_is opened link h run s none;
      } in
      let is : input ≡ input_of Responder stream = s.kept.received none in
      let frames : List (List ℕ) = (input_split input piece).frames in
      let rest : List ℕ = (input_split input piece).rest in
      let all : Splits input.awaited (input.rest ++ piece) frames rest = split_Splits input.awaited (input.rest ++ piece) in
      let part : IsPartial input.awaited input.rest = subst (λ (i : InputState). IsPartial i.awaited i.rest) (sym is) (split_Splits (HelloFrom Responder) stream).partial in
      let at : input_count input ≡ count = ap input_count is ∙ input_of_count Responder stream in
      let beyond : IsBeyond (input_count input) input.place frames rest = piece_beyond input.awaited input.rest piece input.place (input_split input piece) part all in
      let a : Along opened h.state (live k) input.place frames rest input.awaited (after_piece (feeding_of h) piece) =
      frames_along opened frames rest input.awaited h.state k count kept
      (subst (λ (i : InputState). IsAwaited i.awaited i.place) (sym is) (input_awaited stream)) all.each
      (subst (λ (n : ℕ). IsBeyond n input.place frames rest) at beyond) in
      let whole = ap (λ (xs : List ℕ). length xs) all.whole in
      let len : input.place + (length (concat frames) + length rest) ≡ count + length piece = omega (arith, whole, at, length-append input.rest piece, length-append (concat frames) rest) in
      record {
        keeps = subst (λ (bytes : List ℕ). KeptEnd opened after.state (end_state_after (client_rules opened) (client opened link run) (input_events link Initiator input mark)) (count + length bytes)) (sym fed_is)
            (subst (λ (n : ℕ). KeptEnd opened after.state (end_state_after (client_rules opened) (client opened link run) (input_events link Initiator input mark)) n) len
            (subst (λ (es : List RunEvent). KeptEnd opened after.state (end_state_after (client_rules opened) (client opened link run) es) (input.place + (length (concat frames) + length rest))) (sym events_are)
            (subst (λ (e : EndState ClientState). KeptEnd opened after.state (end_state_after (client_rules opened) e (map FrameReceived (input_frames input piece))) (input.place + (length (concat frames) + length rest))) (sym e_is) a.keeps)));
        queue = a.queue ∙ (λ i. queue_of h.state ++ output_for_all (client_rules opened) (sym e_is i) (sym events_are i));
        input_is = λ lives.
            (λ i. record { awaited = a.awaited lives i; rest = a.rest_is lives i; place = a.place_is lives i })
            ∙ ap (λ (bytes : List ℕ). input_after input bytes) (sym fed_is);
        answers = λ due asked k.
            subst (λ (es : List RunEvent). KeepsAnswers opened (events link Initiator run ++ es) due asked after.state)
            (sym events_are ∙ ap (λ (i : InputState). input_events link Initiator i mark) is ∙ events_input link Initiator run mark)
            (a.answers (events link Initiator run) due asked (sym e_is ∙ client_is opened link run) k);
      }

  goes_ended : (end : End) → (client opened link run).ended ≡ Some end → Goes
  goes_ended end ends =
      let k = state_of opened link run in
      let es = input_events link Initiator input mark in
      let e_is : client opened link run ≡ record { state = k; ended = Some end } = ap (λ (x : Option End). record { state = k; ended = x }) ends in
      let stays = ended_stays (client_rules opened) k end es in
      let same : after.state ≡ h.state = fed_ended (feeding_of h) piece (ap (λ (x : Option End). is_some x) (s.kept.keeps.ended ∙ ends)) in
      let later : length stream ≤ length stream + length (fed_at link Initiator mark) = omega arith in
      let here : KeptEnd opened h.state (record { state = k; ended = Some end }) (length stream) = record {
        client = subst (λ (e : EndState ClientState). ClientKeeps opened (kept_client h.state) e (length stream)) e_is s.kept.keeps;
        wished = s.wished;
        live_one = λ none. absurd (let wrong : Some end ≡ None = none in cc);
      } in
      record {
        keeps = subst (λ (r : RequesterState). KeptEnd opened r (end_state_after (client_rules opened) (client opened link run) es) (length stream + length (fed_at link Initiator mark))) (sym same)
            (subst (λ (e : EndState ClientState). KeptEnd opened h.state (end_state_after (client_rules opened) e es) (length stream + length (fed_at link Initiator mark))) (sym e_is)
            (subst (λ (e : EndState ClientState). KeptEnd opened h.state e (length stream + length (fed_at link Initiator mark))) (sym stays.0)
            (keeps_later opened h.state (record { state = k; ended = Some end }) (length stream) (length stream + length (fed_at link Initiator mark)) later here)));
        queue = ap queue_of same ∙ sym (append-nil (queue_of h.state)) ∙ ap (λ (xs : List ℕ). queue_of h.state ++ xs) (sym stays.1 ∙ ap (λ (e : EndState ClientState). output_for_all (client_rules opened) e es) (sym e_is));
        input_is = λ lives. absurd (let wrong : Some end ≡ None = sym (ap (λ (r : RequesterState). r.side.ended) same ∙ s.kept.keeps.ended ∙ ends) ∙ lives in cc);
        answers = λ due asked g.
            subst (λ (r : RequesterState). KeepsAnswers opened (events link Initiator run ++ events_at link Initiator run mark) due asked r) (sym same)
            (ended_answers opened h.state k end (events link Initiator run) (events_at link Initiator run mark) due asked (none_if _ (map FrameReceived (frames_completed Responder stream piece)) (none_in_frames (frames_completed Responder stream piece))) (sym e_is ∙ client_is opened link run) g);
      }

  goes : Goes
  goes = by (client opened link run).ended refl
    where
      by : (x : Option End) → (client opened link run).ended ≡ x → Goes
      by None is = goes_live is
      by (Some end) is = goes_ended end is

  pub fed_client : KeepsClient opened link after (run ++ mark ∷ [])
  fed_client =
      let g : Goes = goes in
      let by_input : GoesByInput (client_rules opened) link Initiator (client opened link) (Rattle.nr_reduce.specs.Run.output_due opened link Initiator) input run mark = client_by_input_lem opened link input run mark s.kept.received in
      let state : client opened link (run ++ mark ∷ []) ≡ end_state_after (client_rules opened) (client opened link run) (input_events link Initiator input mark) = by_input.state in
      let client_stands_on : ClientRepresents opened link (kept_client after.state) (input_kept after) (queue_of after.state) (run ++ mark ∷ []) =
      client_stands opened link (kept_client h.state) (kept_client after.state) input (input_kept after) (queue_of h.state) (queue_of after.state) run mark s.kept
      (record { keeps = g.keeps.client; output = g.queue }) g.input_is in
      let next : after.state.side.ended ≡ None → KeepsLiveClient opened after.state (end_state_after (client_rules opened) (client opened link run) (input_events link Initiator input mark)).state (length stream + length (fed_at link Initiator mark)) =
      λ lives. g.keeps.live_one (sym g.keeps.client.ended ∙ lives) in
      record {
        wished = g.keeps.wished;
        resumes = s.resumes;
        kept = client_stands_on;
        sent = λ lives. (next lives).sent;
        side = λ lives. subst (λ (e : EndState ClientState). LinkKeeps opened after.state.side e.state) (sym state) (next lives).side;
      }

-- its answers
pub fed_answers : (calls : List AcceptedCall) (opened : LinkParameters) (link : ℕ) (h : RequesterSide) (run : List Mark) (piece staging : List ℕ) → KeepsClient opened link h run → AnswersWith calls opened link h run → AnswersWith calls opened link (after_fed h piece staging) (run ++ marks.Fed link Initiator piece ∷ [])
fed_answers calls opened link h run piece staging s k =
    let m : Mark = marks.Fed link Initiator piece in
    by_events calls opened link run m (after_fed h piece staging).state
    (subst (λ (xs : List AcceptedCall). KeepsAnswers opened (events link Initiator run ++ events_at link Initiator run m) (is_due link (run ++ m ∷ [])) xs (after_fed h piece staging).state) (sym (append-nil (calls ++ accepted_calls link run)))
    ((goes opened link h run piece staging s).answers (is_due link (run ++ m ∷ [])) (calls ++ accepted_calls link run)
    (subst (λ (due : ℕ → Bool). KeepsAnswers opened (events link Initiator run) due (calls ++ accepted_calls link run) h.state) (λ i xid. sym (due_same link run m (λ x. refl) xid) i) k)))

pub piece_is_a_mark : PieceIsAMark
piece_is_a_mark h piece staging opened link run s = record {
  keeps = fed_client opened link h run piece staging s.keeps;
  first = s.first;
  answers = fed_answers [] opened link h run piece staging s.keeps s.answers;
  counted = counted_more link run (marks.Fed link Initiator piece) h.marks (has_bytes piece) (own_bytes link piece) s.counted;
}
