-- A piece, step by step, for the code.
use Rattle.std.proofs.Common.{◌≡◌, ◌≢◌, ℕ, ◌+◌, ◌-◌, ◌^◌, ◌<◌, ◌≤◌, ◌⊎◌, inl, inr, Bool, true, false, ltb, List, [], ◌∷◌, ◌++◌, length, take, drop, Option, None, Some, refl, sym, ap, subst, ◌∙◌, arith}
use Rattle.std.specs.Prelude.{is_some}
use Rattle.std.proofs.lemmas.Bool.{cases_lt}
use Rattle.std.proofs.lemmas.List.{length-drop, length-take, take_all, take-append-drop}
use Rattle.std.proofs.Math.Seq.{take-add}
use Rattle.nr_wire.specs.declared.hello.Side.TheVariants.{Initiator}
use Rattle.nr_wire.specs.Feeding.{bytes_taken, feeding_after_step}
use Rattle.nr_wire.specs.Stream.{is_whole, frame_len, IsPartial}
use Rattle.nr_wire.proofs.Feedings.{feeding_after-append, feeding_after_step-whole, feeding_after_step-partial, bytes_taken_within}
use Rattle.nr_link.specs.declared.end.End.{End}
use Rattle.nr_link.specs.declared.end.End.TheVariants as ends
use Rattle.nr_endpoint.specs.LinkState.{LinkState, LinkSide, has_ended}
use Rattle.nr_endpoint.specs.ReceiveQueue.{DeliveredEvent}
use Rattle.nr_endpoint.specs.ReceiveQueue.DeliveredEvent.{MessageReceived, ReadDone}
use Rattle.nr_endpoint.specs.Judging.{with_frame}
use Rattle.nr_endpoint.specs.Calls.{after_call}
use Rattle.nr_endpoint.specs.Calls.Call.{FeedOne}
use Rattle.nr_endpoint.proofs.OneStep.{frame_not_memory}
use Rattle.nr_endpoint.proofs.FedBytes.{fed_one_within}
use Rattle.nr_endpoint.proofs.Pieces.{step_taken, feeding_none, some_taken, IsBehindFrame, behind}
use Rattle.nr_reduce.specs.ClientMessages.{ReplyVerdict}
use Rattle.nr_reduce.specs.ClientMessages.ReplyVerdict.{EndsLink, GivesOutcome}
use Rattle.nr_reduce.specs.KeptCalls.{kept_named, kept_message_verdict}
use Rattle.nr_reduce.specs.KeptClient.{bytes_under}
use Rattle.nr_reduce.specs.declared.mark.LinkParameters.{LinkParameters}
use Rattle.nr_reduce.specs.declared.mark.Mark.{Mark}
use Rattle.nr_reduce.specs.declared.mark.Mark.TheVariants as marks
use Rattle.nr_requester.specs.RequesterState.{RequesterState, RequesterFeeding, RequesterSide, feeding_of, kept_calls}
use Rattle.nr_requester.specs.CountedMarks.{has_bytes, marks_if}
use Rattle.nr_requester.proofs.CountedMarks.{some_bytes}
use Rattle.nr_requester.specs.OpenCalls.{KeepsTickets}
use Rattle.nr_requester.specs.ReopenedLinks.{StopsAfter}
use Rattle.nr_requester.specs.Standing.{StandsOn, RequesterRepresents, RequesterRunsOut}
use Rattle.nr_requester.specs.AfterPiece.{with_dead, judged, with_deliveries, unless_ended, requester_ended, after_frame, after_piece, after_fed, RanOut}
use Rattle.nr_requester.specs.Fed.{one_step, StepOut, IsStep, QueuesOutput, bytes_fed, taken_by, late_marks, TakesFrames, RequesterRanOutAt}
use Rattle.nr_requester.proofs.Stepping.{link_of, told_of, step_fed, piece_rest}
use Rattle.nr_requester.proofs.RunOut.{fed_out}
use Rattle.nr_requester.proofs.Fed.{piece_is_a_mark}
use Rattle.nr_requester.proofs.AllMarks.{piece_runs_out}
use Rattle.nr_requester.proofs.StopsOn.{piece_stops}

-- ---- A step

-- an event leaves the offset after the last frame
with_deliveries_place : (r : RequesterState) (s : LinkState) (ns : List DeliveredEvent) → (with_deliveries r s ns).side.place ≡ s.place
with_deliveries_place r s [] = refl
with_deliveries_place r s (MessageReceived number invalidated message ∷ ns) = by (kept_message_verdict (kept_calls r) (bytes_under s.memory) invalidated message)
  where
    by : (v : ReplyVerdict) → (judged r (with_dead (kept_named (kept_calls r) invalidated message) s) message v).side.place ≡ s.place
    by (EndsLink reason) = refl
    by (GivesOutcome xid outcome) = refl
with_deliveries_place r s (ReadDone ∷ ns) = refl

told_place : (r : RequesterState) (s : LinkState) (e : Option End) → (unless_ended r s e).side.place ≡ s.place
told_place r s None = with_deliveries_place r s s.receive_queue.deliveries
told_place r s (Some end) = refl

-- it doesn't end a side out of memory
with_deliveries_end : (r : RequesterState) (s : LinkState) (ns : List DeliveredEvent) → s.ended ≡ None → (with_deliveries r s ns).side.ended ≢ Some ends.Memory
with_deliveries_end r s [] e = λ m. (let wrong : None ≡ Some ends.Memory = sym e ∙ m in cc)
with_deliveries_end r s (MessageReceived number invalidated message ∷ ns) e = by (kept_message_verdict (kept_calls r) (bytes_under s.memory) invalidated message)
  where
    by : (v : ReplyVerdict) → (judged r (with_dead (kept_named (kept_calls r) invalidated message) s) message v).side.ended ≢ Some ends.Memory
    by (EndsLink reason) = λ m. cc
    by (GivesOutcome xid outcome) = λ m. (let wrong : None ≡ Some ends.Memory = sym e ∙ m in cc)
with_deliveries_end r s (ReadDone ∷ ns) e = λ m. (let wrong : None ≡ Some ends.Memory = sym e ∙ m in cc)

told_end : (r : RequesterState) (s : LinkState) (e : Option End) → s.ended ≡ e → e ≢ Some ends.Memory → (unless_ended r s e).side.ended ≢ Some ends.Memory
told_end r s None is other = with_deliveries_end r s s.receive_queue.deliveries is
told_end r s (Some end) is other = λ m. other (sym is ∙ m)

live_told : (r : RequesterState) (s : LinkState) (e : Option End) → s.ended ≡ e → (unless_ended r s e).side.ended ≡ None → s.ended ≡ None
live_told r s None is none = is
live_told r s (Some end) is none = none

link_end : (l : LinkSide) (piece : List ℕ) → l.state.ended ≡ None → (after_call l (FeedOne piece)).state.ended ≢ Some ends.Memory
unfolding after_call
link_end l piece lives = by (is_whole l.awaited (l.rest ++ piece)) refl
  where
    going : has_ended l.state ≡ false
    going = ap (λ (x : Option End). is_some x) lives

    by : (w : Bool) → is_whole l.awaited (l.rest ++ piece) ≡ w → (feeding_after_step has_ended with_frame l piece).state.ended ≢ Some ends.Memory
    by true e = λ m. frame_not_memory l.state l.awaited (take (frame_len l.awaited (l.rest ++ piece)) (l.rest ++ piece)) lives (sym (ap (λ (x : LinkSide). x.state.ended) (feeding_after_step-whole has_ended with_frame l piece going e)) ∙ m)
    by false e = λ m. (let wrong : None ≡ Some ends.Memory = sym lives ∙ sym (ap (λ (x : LinkSide). x.state.ended) (feeding_after_step-partial has_ended with_frame l piece going e)) ∙ m in cc)

module _ (h : RequesterFeeding) (piece : List ℕ) (lives : h.state.side.ended ≡ None) (quiet : h.state.side.receive_queue.deliveries ≡ []) (partial : IsPartial h.awaited h.rest) where
  abbrev l : LinkSide
  l = after_call (link_of h) (FeedOne piece)

  told : one_step h piece ≡ told_of h.state l
  told = step_fed h piece (λ e. quiet)

  pub step_not_memory : (one_step h piece).state.side.ended ≢ Some ends.Memory
  step_not_memory = λ m. told_end h.state l.state l.state.ended refl (link_end (link_of h) piece lives) (sym (ap (λ (x : RequesterFeeding). x.state.side.ended) told) ∙ m)

  pub step_within : bytes_fed (one_step h piece) ≤ bytes_fed h + length piece
  step_within =
      let place : (one_step h piece).state.side.place ≡ l.state.place = ap (λ (x : RequesterFeeding). x.state.side.place) told ∙ told_place h.state l.state l.state.ended in
      let rest : length (one_step h piece).rest ≡ length l.rest = ap (λ (x : RequesterFeeding). length x.rest) told in
      let most = fed_one_within (link_of h) piece in
      omega (arith, place, rest, most)

  -- nothing is left over from a frame
  pub step_left : (one_step h piece).state.side.ended ≡ None → bytes_taken h.awaited h.rest piece < length piece → (one_step h piece).rest ≡ []
  step_left none lt = ap (λ (x : RequesterFeeding). x.rest) told ∙ (behind (link_of h) l piece lives partial refl lt).rest

  pub step_bytes : (one_step h piece).state.side.ended ≡ None → bytes_fed (one_step h piece) ≤ bytes_fed h + bytes_taken h.awaited h.rest piece
  step_bytes none =
      let live_link : l.state.ended ≡ None = live_told h.state l.state l.state.ended refl (sym (ap (λ (x : RequesterFeeding). x.state.side.ended) told) ∙ none) in
      let place : (one_step h piece).state.side.place ≡ l.state.place = ap (λ (x : RequesterFeeding). x.state.side.place) told ∙ told_place h.state l.state l.state.ended in
      let rest : length (one_step h piece).rest ≡ length l.rest = ap (λ (x : RequesterFeeding). length x.rest) told in
      elim (cases_lt (bytes_taken h.awaited h.rest piece) (length piece)) [
        | inl lt ↦
            let b : IsBehindFrame (link_of h) l piece = behind (link_of h) l piece lives partial refl lt in
            let at = b.place live_link in
            let none_left = ap (λ (xs : List ℕ). length xs) b.rest in
            omega (arith, place, rest, at, none_left)
        | inr le ↦ (let most = fed_one_within (link_of h) piece in omega (arith, place, rest, most, le))
      ]

  going : requester_ended h.state ≡ false
  going = ap (λ (x : Option End). is_some x) lives

  -- a step is a piece of the bytes that it takes
  pub step_piece : one_step h piece ≡ after_piece h (take (bytes_taken h.awaited h.rest piece) piece)
  unfolding after_piece
  step_piece = step_taken requester_ended after_frame h piece (is_whole h.awaited (h.rest ++ piece)) refl going partial

  -- all of the piece, once it ended the side
  pub step_all : (end : End) → (one_step h piece).state.side.ended ≡ Some end → (one_step h piece).rest ≡ [] → one_step h piece ≡ after_piece h piece
  step_all end e none =
      let after : RequesterFeeding = told_of h.state l in
      let ended : requester_ended after.state ≡ true = ap (λ (x : RequesterFeeding). is_some x.state.side.ended) (sym told) ∙ ap (λ (x : Option End). is_some x) e in
      told
      ∙ (λ i. record { awaited = after.awaited; rest = (ap (λ (x : RequesterFeeding). x.rest) (sym told) ∙ none) i; state = after.state })
      ∙ sym (fed_out after (drop (bytes_taken h.awaited h.rest piece) piece) ended)
      ∙ piece_rest h piece partial (λ e. quiet)

-- ---- Step by step

-- how far a piece was taken: its first bytes, by which the side didn't run out of memory
pub record FedTo (old : RequesterFeeding) (piece : List ℕ) (now : RequesterFeeding) (at : ℕ) : Type 0 where
  pub within : at ≤ length piece
  pub far : now ≡ after_piece old (take at piece)
  pub other : now.state.side.ended ≢ Some ends.Memory
  pub goes : at < length piece → now.state.side.ended ≡ None
  pub fed : at < length piece → bytes_fed now + (length piece - at) ≤ 2 ^ 62
  pub bytes : bytes_fed now ≤ bytes_fed old + at
  pub tickets : KeepsTickets old.state now.state

pub fed_none : (old : RequesterFeeding) (piece : List ℕ) → old.state.side.ended ≡ None → IsPartial old.awaited old.rest → bytes_fed old + length piece ≤ 2 ^ 62 → FedTo old piece old 0
unfolding after_piece
fed_none old piece lives partial within = record {
  within = omega arith;
  far = sym (feeding_none requester_ended after_frame old partial (λ e. absurd (let wrong : false ≡ true = ap (λ (x : Option End). is_some x) (sym lives) ∙ e in cc)));
  other = λ m. (let wrong : None ≡ Some ends.Memory = sym lives ∙ m in cc);
  goes = λ lt. lives;
  fed = λ lt. omega (arith, within);
  bytes = omega arith;
  tickets = λ x. refl;
}

-- what a step says
pub record Stepped (now : RequesterFeeding) (left : List ℕ) (new : RequesterFeeding) (count : ℕ) : Type 0 where
  pub step : IsStep now left new
  pub taken : count ≡ taken_by new.state.side.ended (length left) (bytes_taken now.awaited now.rest left)
  pub partial : IsPartial now.awaited now.rest
  pub quiet : now.state.side.receive_queue.deliveries ≡ []
  pub ended : is_some new.state.side.ended ≡ true → new.rest ≡ []
  pub tickets : KeepsTickets now.state new.state

append_pieces : (old : RequesterFeeding) (x y : List ℕ) → after_piece (after_piece old x) y ≡ after_piece old (x ++ y)
unfolding after_piece
append_pieces old x y = feeding_after-append requester_ended after_frame old x y

-- one that ended for another reason took all
all_taken : (end : End) (len taken : ℕ) → end ≢ ends.Memory → taken_by (Some end) len taken ≡ len
all_taken ends.Memory len taken other = absurd (other refl)
all_taken (ends.Bad at reason) len taken other = refl
all_taken (ends.Denied stag to why) len taken other = refl
all_taken (ends.NoBuffer at) len taken other = refl
all_taken (ends.Terminated reason) len taken other = refl

module _ (old now new : RequesterFeeding) (piece left : List ℕ) (at count : ℕ) (f : FedTo old piece now at) (lt : at < length piece) (is : left ≡ drop at piece) (s : Stepped now left new count) where
  lives : now.state.side.ended ≡ None
  lives = f.goes lt

  long : length left ≡ length piece - at
  long = ap (λ (xs : List ℕ). length xs) is ∙ length-drop at piece

  some_left : 0 < length left
  some_left = omega (arith, lt, long)

  taken_if : (e : Option End) → new.state.side.ended ≡ e → count ≡ taken_by e (length left) (bytes_taken now.awaited now.rest left)
  taken_if e eq = s.taken ∙ ap (λ (x : Option End). taken_by x (length left) (bytes_taken now.awaited now.rest left)) eq

  -- a step that didn't run out of memory
  module _ (same : new ≡ one_step now left) where
    other_end : new.state.side.ended ≢ Some ends.Memory
    other_end = λ m. step_not_memory now left lives s.quiet s.partial (ap (λ (x : RequesterFeeding). x.state.side.ended) (sym same) ∙ m)

    all_if : (end : End) → new.state.side.ended ≡ Some end → count ≡ length left
    all_if end e = taken_if (Some end) e ∙ all_taken end (length left) (bytes_taken now.awaited now.rest left) (λ m. other_end (e ∙ ap (λ (x : End). Some x) m))

    took_some : 0 < count
    took_some = by new.state.side.ended refl
      where
        by : (e : Option End) → new.state.side.ended ≡ e → 0 < count
        by None e = (let t = taken_if None e in let some = some_taken now.awaited now.rest left s.partial some_left in omega (arith, t, some))
        by (Some end) e = (let t = all_if end e in omega (arith, t, some_left))

    joined : (x : List ℕ) → after_piece now x ≡ after_piece old (take at piece ++ x)
    joined x = ap (λ (h : RequesterFeeding). after_piece h x) f.far ∙ append_pieces old (take at piece) x

    goes_on : FedTo old piece new (at + count)
    goes_on = by new.state.side.ended refl
      where
        most : bytes_taken now.awaited now.rest left ≤ length left
        most = bytes_taken_within now.awaited now.rest left (is_whole now.awaited (now.rest ++ left)) refl

        by : (e : Option End) → new.state.side.ended ≡ e → FedTo old piece new (at + count)
        by (Some end) e =
            let t : count ≡ length left = all_if end e in
            let full : at + count ≡ length piece = omega (arith, t, long, lt) in
            let none : (one_step now left).rest ≡ [] = ap (λ (x : RequesterFeeding). x.rest) (sym same) ∙ s.ended (ap (λ (x : Option End). is_some x) e) in
            record {
              within = omega (arith, full);
              far = same ∙ step_all now left lives s.quiet s.partial end (ap (λ (x : RequesterFeeding). x.state.side.ended) (sym same) ∙ e) none
                  ∙ joined left
                  ∙ ap (λ (xs : List ℕ). after_piece old (take at piece ++ xs)) is
                  ∙ ap (after_piece old) (take-append-drop at piece ∙ sym (take_all (at + count) piece (omega (arith, full))));
              other = other_end;
              goes = λ less. absurd (omega (arith, less, full));
              fed = λ less. absurd (omega (arith, less, full));
              bytes = (let w = step_within now left lives s.quiet s.partial in let was = f.bytes in let fed_new : bytes_fed new ≡ bytes_fed (one_step now left) = ap bytes_fed same in omega (arith, w, was, fed_new, t));
              tickets = λ x. s.tickets x ∙ f.tickets x;
            }
        by None e =
            let t : count ≡ bytes_taken now.awaited now.rest left = taken_if None e in
            let bytes = step_bytes now left lives s.quiet s.partial (ap (λ (x : RequesterFeeding). x.state.side.ended) (sym same) ∙ e) in
            let fed_new : bytes_fed new ≡ bytes_fed (one_step now left) = ap bytes_fed same in
            let was = f.fed lt in
            record {
              within = omega (arith, t, most, long, lt);
              far = same ∙ step_piece now left lives s.quiet s.partial
                  ∙ joined (take (bytes_taken now.awaited now.rest left) left)
                  ∙ (λ i. after_piece old (take at piece ++ take (sym t i) (is i)))
                  ∙ ap (after_piece old) (sym (take-add at count piece));
              other = other_end;
              goes = λ less. e;
              fed = λ less. omega (arith, bytes, fed_new, t, was, less);
              bytes = (let before = f.bytes in omega (arith, bytes, fed_new, t, before));
              tickets = λ x. s.tickets x ∙ f.tickets x;
            }

  none_out : StepOut now left new → count ≡ 0
  none_out out = taken_if (Some ends.Memory) out.out.ended

  pub fed_on : 0 < count → FedTo old piece new (at + count)
  fed_on some = by s.step
    where
      by : IsStep now left new → FedTo old piece new (at + count)
      by (inl same) = goes_on same
      by (inr out) = absurd (let none = none_out out in omega (arith, none, some))

  -- nothing is left over from a frame, or all of the piece was taken
  pub rest_on : 0 < count → (new.rest ≡ []) ⊎ (count ≡ length left)
  rest_on some = by s.step new.state.side.ended refl
    where
      by : IsStep now left new → (e : Option End) → new.state.side.ended ≡ e → (new.rest ≡ []) ⊎ (count ≡ length left)
      by step (Some end) e = inl (s.ended (ap (λ (x : Option End). is_some x) e))
      by (inr out) None e = absurd (let none = none_out out in omega (arith, none, some))
      by (inl same) None e =
          let t : count ≡ bytes_taken now.awaited now.rest left = taken_if None e in
          let most : bytes_taken now.awaited now.rest left ≤ length left = bytes_taken_within now.awaited now.rest left (is_whole now.awaited (now.rest ++ left)) refl in
          elim (cases_lt (bytes_taken now.awaited now.rest left) (length left)) [
            | inl lt ↦ inl (ap (λ (x : RequesterFeeding). x.rest) same ∙ step_left now left lives s.quiet s.partial (ap (λ (x : RequesterFeeding). x.state.side.ended) (sym same) ∙ e) lt)
            | inr ge ↦ inr (omega (arith, t, most, ge))
          ]

  -- memory ran out if nothing was taken
  pub ran_out : count ≡ 0 → RequesterRanOutAt old piece at new
  ran_out none = by s.step
    where
      by : IsStep now left new → RequesterRanOutAt old piece at new
      by (inl same) = absurd (let some = took_some same in omega (arith, none, some))
      by (inr out) = record {
        within = omega (arith, lt);
        live = ap (λ (x : RequesterFeeding). x.state.side.ended) (sym f.far) ∙ lives;
        out = subst (λ (x : RequesterFeeding). RanOut x new) f.far out.out;
        whole = (λ i. is_whole (sym f.far i).awaited ((sym f.far i).rest ++ sym is i)) ∙ out.whole;
        queues = subst (λ (x : RequesterFeeding). QueuesOutput x (drop at piece)) f.far (subst (λ (xs : List ℕ). QueuesOutput now xs) is out.queues);
      }

  pub out_bytes : count ≡ 0 → bytes_fed new ≤ bytes_fed old + length piece
  out_bytes none = by s.step
    where
      by : IsStep now left new → bytes_fed new ≤ bytes_fed old + length piece
      by (inl same) = absurd (let some = took_some same in omega (arith, none, some))
      by (inr out) = (let w = out.fed in let was = f.bytes in omega (arith, w, was, long, lt))

  pub out_tickets : KeepsTickets old.state new.state
  out_tickets = λ x. s.tickets x ∙ f.tickets x

-- ---- At the end of the piece

pub all_taken_of : (old now : RequesterFeeding) (piece : List ℕ) (at : ℕ) → FedTo old piece now at → length piece ≤ at → TakesFrames old piece at now
all_taken_of old now piece at f le = inl (f.far ∙ ap (after_piece old) (take_all at piece le), (f.other, (let within = f.within in omega (arith, le, within))))

-- a side that had ended takes nothing
ended_fed : (old : RequesterFeeding) (piece : List ℕ) → is_some old.state.side.ended ≡ true → old.rest ≡ [] → old ≡ after_piece old piece
ended_fed old piece e none = (λ i. record { awaited = old.awaited; rest = none i; state = old.state }) ∙ sym (fed_out old piece e)

-- ---- As contracts see it

-- with these bytes of a piece, and its mark, if it has bytes
abbrev pub CountsPiece : RequesterSide → (taken : List ℕ) → RequesterSide → Type 0
CountsPiece old taken new = new.marks ≡ marks_if (has_bytes taken) old.marks

-- a prefix of a piece has bytes if it isn't none
some_taken_bytes : (n : ℕ) (piece : List ℕ) → n ≤ length piece → ltb 0 n ≡ has_bytes (take n piece)
some_taken_bytes n piece le = (let len : length (take n piece) ≡ n = omega (arith, length-take n piece, le) in ap (λ (m : ℕ). ltb 0 m) (sym len) ∙ sym (some_bytes (take n piece)))

state_fed : (old new : RequesterSide) (piece : List ℕ) → feeding_of new ≡ after_piece (feeding_of old) piece → CountsPiece old piece new → new ≡ after_fed old piece new.staging
state_fed old new piece is counts = λ i. record { awaited = (is i).awaited; rest = (is i).rest; state = (is i).state; staging = new.staging; marks = counts i }

pub stands_fed : (old new : RequesterSide) (piece : List ℕ) → new ≡ after_fed old piece new.staging → StandsOn old (λ link. marks.Fed link Initiator piece) new
stands_fed old new piece is opened link run s = subst (λ (h : RequesterSide). RequesterRepresents opened link h (run ++ marks.Fed link Initiator piece ∷ [])) (sym is) (piece_is_a_mark old piece new.staging opened link run s)

abbrev pub FedOut : RequesterSide → List ℕ → RequesterSide → Type 0
FedOut old piece new = (n : ℕ) × (RequesterRanOutAt (feeding_of old) piece n (feeding_of new)
    × (((opened : LinkParameters) (link : ℕ) (run : List Mark) → RequesterRepresents opened link old run →
    RequesterRunsOut opened link new (run ++ marks.Fed link Initiator (take n piece) ∷ []) (run ++ marks.Fed link Initiator (take n piece) ∷ []))
    × StopsAfter old (take n piece) new))

out_fed : (old new : RequesterSide) (piece : List ℕ) (n : ℕ) → TakesFrames (feeding_of old) piece n (feeding_of new) → new.state.side.ended ≡ Some ends.Memory → (n ≤ length piece → CountsPiece old (take n piece) new) → FedOut old piece new
out_fed old new piece n (inl all) memory counts = absurd (all.1.0 memory)
out_fed old new piece n (inr out) memory counts = (n, (out, ((λ opened link run s. piece_runs_out old new (take n piece) out.live out.out (counts out.within) opened link run s), piece_stops old new (take n piece) out.live out.out (counts out.within))))

taken_fed : (old new : RequesterSide) (piece : List ℕ) (n : ℕ) → TakesFrames (feeding_of old) piece n (feeding_of new) → new.state.side.ended ≢ Some ends.Memory → (n ≤ length piece → CountsPiece old (take n piece) new) → new ≡ after_fed old piece new.staging
taken_fed old new piece n (inl all) other counts =
    state_fed old new piece all.0 (counts (omega (arith, all.1.1)) ∙ ap (λ (xs : List ℕ). marks_if (has_bytes xs) old.marks) (take_all n piece (omega (arith, all.1.1))))
taken_fed old new piece n (inr out) other counts = absurd (other out.out.ended)

-- a piece that comes after the end is a mark
late_is : (end : End) (piece : List ℕ) (n : ℕ) → end ≢ ends.Memory → late_marks end piece n ≡ marks_if (has_bytes piece) n
late_is ends.Memory piece n other = absurd (other refl)
late_is (ends.Bad at reason) piece n other = refl
late_is (ends.Denied stag to why) piece n other = refl
late_is (ends.NoBuffer at) piece n other = refl
late_is (ends.Terminated reason) piece n other = refl

pub late_fed : (old new : RequesterSide) (end : End) (piece : List ℕ) → is_some old.state.side.ended ≡ true → old.rest ≡ [] → new ≡ record old { marks = late_marks end piece old.marks } → end ≢ ends.Memory → new ≡ after_fed old piece new.staging
late_fed old new end piece e none is other =
    state_fed old new piece (ap feeding_of is ∙ ended_fed (feeding_of old) piece e none) (ap (λ (h : RequesterSide). h.marks) is ∙ late_is end piece old.marks other)

-- the frames of a piece were taken, and the mark is counted
module _ (old taken new : RequesterSide) (piece : List ℕ) (n : ℕ) (same : feeding_of new ≡ feeding_of taken) (frames : TakesFrames (feeding_of old) piece n (feeding_of taken)) where
  frames_new : TakesFrames (feeding_of old) piece n (feeding_of new)
  frames_new = subst (λ (h : RequesterFeeding). TakesFrames (feeding_of old) piece n h) (sym same) frames

  counts : taken.marks ≡ old.marks → new.marks ≡ marks_if (ltb 0 n) taken.marks → n ≤ length piece → CountsPiece old (take n piece) new
  counts before is within = is ∙ (λ i. marks_if (some_taken_bytes n piece within i) (before i))

  pub fed_after : new.state.side.ended ≢ Some ends.Memory → taken.marks ≡ old.marks → new.marks ≡ marks_if (ltb 0 n) taken.marks → new ≡ after_fed old piece new.staging
  fed_after other before is = taken_fed old new piece n frames_new other (counts before is)

  pub out_after : new.state.side.ended ≡ Some ends.Memory → taken.marks ≡ old.marks → new.marks ≡ marks_if (ltb 0 n) taken.marks → FedOut old piece new
  out_after memory before is = out_fed old new piece n frames_new memory (counts before is)
