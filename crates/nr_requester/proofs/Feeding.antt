-- A piece of the server's stream: frame by frame.
use Rattle.std.proofs.Common.{◌≡◌, ℕ, ◌+◌, ◌<◌, ◌≤◌, Bool, true, false, cond, List, [], ◌∷◌, ◌++◌, length, map, Option, None, Some, refl, sym, ap, subst, ◌∙◌, arith, append_assoc, length-append}
use Rattle.std.specs.Prelude.{is_some}
use Rattle.std.specs.List.{concat}
use Rattle.std.proofs.lemmas.List.{append-nil}
use Rattle.nr_wire.specs.declared.hello.Side.{Side}
use Rattle.nr_wire.specs.declared.hello.Side.TheVariants.{Responder}
use Rattle.nr_wire.specs.declared.stream.Awaited.{Awaited}
use Rattle.nr_wire.specs.declared.stream.Awaited.TheVariants.{Hello as HelloFrom, Fpdu}
use Rattle.nr_wire.specs.Feeding.{Feeding, feeding_in, feeding_after_frames}
use Rattle.nr_wire.specs.Stream.{IsFrame, AreFrames, awaited_after}
use Rattle.nr_wire.proofs.Frames.{fields_some}
use Rattle.nr_link.specs.declared.end.End.{End}
use Rattle.nr_link.specs.Frames.{Frame, frames_from}
use Rattle.nr_endpoint.specs.Judging.{next_frame}
use Rattle.nr_reduce.specs.declared.mark.LinkParameters.{LinkParameters}
use Rattle.nr_reduce.specs.History.{AcceptedCall}
use Rattle.nr_reduce.specs.Events.{RunEvent}
use Rattle.nr_reduce.specs.Events.RunEvent.{FrameReceived}
use Rattle.nr_reduce.specs.EndRules.{EndState, next_end_state, end_state_after, output_for, output_for_all, live}
use Rattle.nr_reduce.specs.ClientState.{ClientState}
use Rattle.nr_reduce.specs.Client.{client_rules}
use Rattle.nr_reduce.proofs.Releasing.{kept_stays}
use Rattle.nr_reduce.proofs.Steps.{ended_stays}
use Rattle.nr_requester.specs.RequesterState.{RequesterState, queue_of, kept_client}
use Rattle.nr_requester.specs.AfterPiece.{requester_ended, after_frame}
use Rattle.nr_requester.proofs.FrameMoves.{KeepsLiveClient, KeptEnd, FrameTaken}
use Rattle.nr_requester.proofs.Frames.{fpdu_taken}
use Rattle.nr_requester.proofs.Greeting.{hello_taken}
use Rattle.nr_requester.specs.KeptAnswers.{client_by, KeepsAnswers}
use Rattle.nr_requester.proofs.CallRegions.{none_in_frames}
use Rattle.nr_requester.proofs.FrameAnswers.{frame_answers, ended_answers, one_more_event}

-- it keeps as much while more bytes are received
pub keeps_later : (opened : LinkParameters) (r : RequesterState) (e : EndState ClientState) (count later : ℕ) → count ≤ later → KeptEnd opened r e count → KeptEnd opened r e later
keeps_later opened r e count later le keeps = record {
  client = kept_stays opened (kept_client r) e count later keeps.client le;
  wished = keeps.wished;
  live_one = λ none. (let k : KeepsLiveClient opened r e.state count = keeps.live_one none in record {
    client = kept_stays opened (kept_client r) (live e.state) count later k.client le;
    side = k.side;
    sent = k.sent;
    wished = k.wished;
    due = k.due;
  });
}

-- a live one, as an end
pub kept_live : (opened : LinkParameters) (r : RequesterState) (k : ClientState) (count : ℕ) → KeepsLiveClient opened r k count → KeptEnd opened r (live k) count
kept_live opened r k count keeps = record { client = keeps.client; wished = keeps.wished; live_one = λ none. keeps }

-- ---- A frame

-- the hello is awaited at the beginning, and an FPDU after it
abbrev pub IsAwaited : Awaited → ℕ → Type 0
IsAwaited (HelloFrom side) place = (side ≡ Responder) × (place ≡ 0)
IsAwaited Fpdu place = 0 < place

-- the place of a side after a frame that doesn't end it
next_awaited : (opened : LinkParameters) (r : RequesterState) (k : ClientState) (count : ℕ) (a : Awaited) (frame : List ℕ) → KeepsLiveClient opened r k count → IsAwaited a r.side.place → count < r.side.place + length frame →
    FrameTaken opened r k (next_frame r.side frame) (after_frame r a frame)
next_awaited opened r k count (HelloFrom side) frame keeps is lt =
    subst (λ (x : Side). FrameTaken opened r k (next_frame r.side frame) (after_frame r (HelloFrom x) frame)) (sym is.0) (hello_taken opened r k count frame keeps lt is.1)
next_awaited opened r k count Fpdu frame keeps is lt = fpdu_taken opened r k count frame keeps lt (λ e. (let h = e in omega (arith, h, is)))

-- ---- Frame after frame

pub frame_some : (a : Awaited) (frame : List ℕ) → IsFrame a frame → 0 < length frame
frame_some a frame f = (let some = fields_some a in let le = f.fields in omega (arith, some, le))

-- one that has ended takes nothing more
ended_taken : (opened : LinkParameters) (r : RequesterState) (k : ClientState) (end : End) (count place : ℕ) (a : Awaited) (frames : List (List ℕ)) (rest : List ℕ) → KeptEnd opened r (record { state = k; ended = Some end }) count → (count2 : ℕ) → count ≤ count2 →
    (KeptEnd opened (feeding_after_frames requester_ended after_frame frames rest a r).state (end_state_after (client_rules opened) (record { state = k; ended = Some end }) (map FrameReceived (frames_from place frames))) count2)
    × (queue_of (feeding_after_frames requester_ended after_frame frames rest a r).state ≡ queue_of r ++ output_for_all (client_rules opened) (record { state = k; ended = Some end }) (map FrameReceived (frames_from place frames)))
    × ((feeding_after_frames requester_ended after_frame frames rest a r).state.side.ended ≡ Some end)
    × ((feeding_after_frames requester_ended after_frame frames rest a r).state ≡ r)
ended_taken opened r k end count place a frames rest keeps count2 le =
    let stays = ended_stays (client_rules opened) k end (map FrameReceived (frames_from place frames)) in
    let same : (feeding_after_frames requester_ended after_frame frames rest a r).state ≡ r = no_change frames (ap (λ (x : Option End). is_some x) keeps.client.ended) in
    let all : KeptEnd opened r (record { state = k; ended = Some end }) count2 = keeps_later opened r (record { state = k; ended = Some end }) count count2 le keeps in (
      subst (λ (x : RequesterState). KeptEnd opened x (end_state_after (client_rules opened) (record { state = k; ended = Some end }) (map FrameReceived (frames_from place frames))) count2) (sym same)
          (subst (λ (e : EndState ClientState). KeptEnd opened r e count2) (sym stays.0) all),
      ap queue_of same ∙ sym (append-nil (queue_of r)) ∙ ap (λ (xs : List ℕ). queue_of r ++ xs) (sym stays.1),
      ap (λ (x : RequesterState). x.side.ended) same ∙ keeps.client.ended,
      same,
    )
  where
    no_change : (fs : List (List ℕ)) → requester_ended r ≡ true → (feeding_after_frames requester_ended after_frame fs rest a r).state ≡ r
    no_change [] e = refl
    no_change (f ∷ fs) e = ap (λ (b : Bool). (cond b (feeding_in requester_ended after_frame a [] r) (feeding_after_frames requester_ended after_frame fs rest Fpdu (after_frame r a f))).state) e

-- ---- A live one

-- the first frame ends after what was received, or else the rest does
abbrev pub IsBeyond : ℕ → ℕ → List (List ℕ) → List ℕ → Type 0
IsBeyond count place [] rest = count ≤ place + length rest
IsBeyond count place (frame ∷ frames) rest = count < place + length frame

pub record Along (opened : LinkParameters) (r : RequesterState) (e : EndState ClientState) (place : ℕ) (frames : List (List ℕ)) (rest : List ℕ) (a : Awaited) (after : Feeding RequesterState) : Type 0 where
  pub keeps : KeptEnd opened after.state (end_state_after (client_rules opened) e (map FrameReceived (frames_from place frames))) (place + (length (concat frames) + length rest))
  pub queue : queue_of after.state ≡ queue_of r ++ output_for_all (client_rules opened) e (map FrameReceived (frames_from place frames))
  pub awaited : after.state.side.ended ≡ None → after.awaited ≡ awaited_after a frames
  pub rest_is : after.state.side.ended ≡ None → after.rest ≡ rest
  pub place_is : after.state.side.ended ≡ None → after.state.side.place ≡ place + length (concat frames)
  pub answers : (past : List RunEvent) (due : ℕ → Bool) (asked : List AcceptedCall) → e ≡ client_by opened past → KeepsAnswers opened past due asked r → KeepsAnswers opened (past ++ map FrameReceived (frames_from place frames)) due asked after.state

awaited_fpdu : (a : Awaited) (frames : List (List ℕ)) → a ≡ Fpdu → awaited_after a frames ≡ Fpdu
awaited_fpdu a [] e = e
awaited_fpdu a (f ∷ frames) e = refl

none_along : (opened : LinkParameters) (r : RequesterState) (k : ClientState) (count : ℕ) (rest : List ℕ) (a : Awaited) → KeepsLiveClient opened r k count → count ≤ r.side.place + length rest → Along opened r (live k) r.side.place [] rest a (feeding_after_frames requester_ended after_frame [] rest a r)
none_along opened r k count rest a keeps le = record {
  keeps = keeps_later opened r (live k) count (r.side.place + (0 + length rest)) (omega (arith, le)) (kept_live opened r k count keeps);
  queue = sym (append-nil (queue_of r));
  awaited = λ e. refl;
  rest_is = λ e. ap (λ (b : Bool). cond b [] rest) (ap (λ (x : Option End). is_some x) keeps.client.ended);
  place_is = λ e. omega arith;
  answers = λ past due asked is h. subst (λ (es : List RunEvent). KeepsAnswers opened es due asked r) (sym (append-nil past)) h;
}

-- the rest of the frames, once the first was taken
then_along : (opened : LinkParameters) (r r1 : RequesterState) (k : ClientState) (count : ℕ) (a : Awaited) (frame : List ℕ) (frames : List (List ℕ)) (rest : List ℕ) (after : Feeding RequesterState) → r.side.ended ≡ None →
    KeepsLiveClient opened r k count → count < r.side.place + length frame → FrameTaken opened r k (next_frame r.side frame) r1 →
    queue_of r1 ≡ queue_of r ++ output_for (client_rules opened) (live k) (FrameReceived (next_frame r.side frame)) →
    Along opened r1 (next_end_state (client_rules opened) (live k) (FrameReceived (next_frame r.side frame))) (r.side.place + length frame) frames rest Fpdu after →
    Along opened r (live k) r.side.place (frame ∷ frames) rest a after
then_along opened r r1 k count a frame frames rest after lives keeps lt taken queue h =
    let all : length (concat (frame ∷ frames)) ≡ length frame + length (concat frames) = length-append frame (concat frames) in
    record {
      keeps = subst (λ (n : ℕ). KeptEnd opened after.state (end_state_after (client_rules opened) (live k) (map FrameReceived (frames_from r.side.place (frame ∷ frames)))) n)
          (let e : (r.side.place + length frame) + (length (concat frames) + length rest) ≡ r.side.place + (length (concat (frame ∷ frames)) + length rest) = omega (arith, all) in e) h.keeps;
      queue =
          h.queue
          ∙ ap (λ (xs : List ℕ). xs ++ output_for_all (client_rules opened) (next_end_state (client_rules opened) (live k) (FrameReceived (next_frame r.side frame))) (map FrameReceived (frames_from (r.side.place + length frame) frames))) queue
          ∙ append_assoc (queue_of r) (output_for (client_rules opened) (live k) (FrameReceived (next_frame r.side frame))) _;
      awaited = λ e. h.awaited e ∙ awaited_fpdu Fpdu frames refl;
      rest_is = h.rest_is;
      place_is = λ e. h.place_is e ∙ omega (arith, all);
      answers = λ past due asked is g.
          let f : Frame = next_frame r.side frame in
          let next : KeepsAnswers opened (past ++ FrameReceived f ∷ []) due asked r1 = frame_answers opened r r1 k count f past due asked is keeps lt taken g in
          let more : next_end_state (client_rules opened) (live k) (FrameReceived f) ≡ client_by opened (past ++ FrameReceived f ∷ []) = one_more_event opened (live k) f past is in
          subst (λ (es : List RunEvent). KeepsAnswers opened es due asked after.state) (append_assoc past (FrameReceived f ∷ []) (map FrameReceived (frames_from (r.side.place + length frame) frames)))
          (h.answers (past ++ FrameReceived f ∷ []) due asked more next);
    }

ended_along : (opened : LinkParameters) (r : RequesterState) (k : ClientState) (end : End) (count place : ℕ) (frames : List (List ℕ)) (rest : List ℕ) (a : Awaited) → KeptEnd opened r (record { state = k; ended = Some end }) count → count ≤ place →
    Along opened r (record { state = k; ended = Some end }) place frames rest a (feeding_after_frames requester_ended after_frame frames rest a r)
ended_along opened r k end count place frames rest a keeps le =
    let t = ended_taken opened r k end count place a frames rest keeps (place + (length (concat frames) + length rest)) (omega (arith, le)) in
    record {
      keeps = t.0;
      queue = t.1;
      awaited = λ e. absurd (let wrong : Some end ≡ None = sym t.2 ∙ e in cc);
      rest_is = λ e. absurd (let wrong : Some end ≡ None = sym t.2 ∙ e in cc);
      place_is = λ e. absurd (let wrong : Some end ≡ None = sym t.2 ∙ e in cc);
      answers = λ past due asked is h. subst (λ (x : RequesterState). KeepsAnswers opened (past ++ map FrameReceived (frames_from place frames)) due asked x) (sym t.3)
          (ended_answers opened r k end past (map FrameReceived (frames_from place frames)) due asked (none_in_frames (frames_from place frames)) is h);
    }

abbrev ended_as : EndState ClientState → Option End → EndState ClientState
ended_as e x = record { state = e.state; ended = x }

pub frames_along : (opened : LinkParameters) (frames : List (List ℕ)) (rest : List ℕ) (a : Awaited) (r : RequesterState) (k : ClientState) (count : ℕ) → KeepsLiveClient opened r k count → IsAwaited a r.side.place → AreFrames a frames → IsBeyond count r.side.place frames rest →
    Along opened r (live k) r.side.place frames rest a (feeding_after_frames requester_ended after_frame frames rest a r)
frames_along opened [] rest a r k count keeps is each beyond = none_along opened r k count rest a keeps beyond
frames_along opened (frame ∷ frames) rest a r k count keeps is each beyond =
    let t : FrameTaken opened r k f r1 = next_awaited opened r k count a frame keeps is beyond in
    subst (λ (b : Bool). Along opened r (live k) r.side.place (frame ∷ frames) rest a (cond b (feeding_in requester_ended after_frame a [] r) (feeding_after_frames requester_ended after_frame frames rest Fpdu r1))) (sym going)
    (then_along opened r r1 k count a frame frames rest (feeding_after_frames requester_ended after_frame frames rest Fpdu r1) keeps.client.ended keeps beyond t t.queue
    (by e1.ended refl t.keeps t.place (λ (k1 : ClientState) (kept : KeepsLiveClient opened r1 k1 f.end) (at : r1.side.place ≡ f.end).
    subst (λ (n : ℕ). Along opened r1 (live k1) n frames rest Fpdu (feeding_after_frames requester_ended after_frame frames rest Fpdu r1)) at
    (frames_along opened frames rest Fpdu r1 k1 f.end kept (let some = frame_some a frame each.0 in omega (arith, at, some)) each.1 (later_beyond frames r1.side.place f.end at each.1)))))
  where
    f : Frame
    f = next_frame r.side frame

    r1 : RequesterState
    r1 = after_frame r a frame

    e1 : EndState ClientState
    e1 = next_end_state (client_rules opened) (live k) (FrameReceived f)

    going : requester_ended r ≡ false
    going = ap (λ (x : Option End). is_some x) keeps.client.ended

    later_beyond : (fs : List (List ℕ)) (place count : ℕ) → place ≡ count → AreFrames Fpdu fs → IsBeyond count place fs rest
    later_beyond [] place count at each = omega (arith, at)
    later_beyond (g ∷ gs) place count at each = (let some = frame_some Fpdu g each.0 in omega (arith, at, some))

    by : (x : Option End) → e1.ended ≡ x → KeptEnd opened r1 e1 f.end → (r1.side.ended ≡ None → r1.side.place ≡ f.end) →
        ((k1 : ClientState) → KeepsLiveClient opened r1 k1 f.end → r1.side.place ≡ f.end → Along opened r1 (live k1) f.end frames rest Fpdu (feeding_after_frames requester_ended after_frame frames rest Fpdu r1)) →
        Along opened r1 e1 f.end frames rest Fpdu (feeding_after_frames requester_ended after_frame frames rest Fpdu r1)
    by None is kept at go =
        subst (λ (x : Option End). Along opened r1 (ended_as e1 x) f.end frames rest Fpdu (feeding_after_frames requester_ended after_frame frames rest Fpdu r1)) (sym is)
        (go e1.state (kept.live_one is) (at (kept.client.ended ∙ is)))
    by (Some end) is kept at go =
        subst (λ (x : Option End). Along opened r1 (ended_as e1 x) f.end frames rest Fpdu (feeding_after_frames requester_ended after_frame frames rest Fpdu r1)) (sym is)
        (ended_along opened r1 e1.state end f.end f.end frames rest Fpdu (subst (λ (x : Option End). KeptEnd opened r1 (ended_as e1 x) f.end) is kept) (omega arith))
