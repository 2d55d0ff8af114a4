-- A call from its Submit to its answer or its end.
use Rattle.std.proofs.Common.{◌≡◌, ◌<◌, ℕ, true, false, is_some, List, [], ◌∷◌, ◌++◌, length, Option, Some, None, arith, inl, inr, ap, subst, sym, ◌∙◌}
use Rattle.std.proofs.lemmas.List.{length-append, length-map, nil_from_length}
use Rattle.nr_requester.specs.AfterCalls.{after_forget, forgotten_call}
use Rattle.nr_rpc.specs.Credential.{CanWriteCred}
use Rattle.nr_reduce.specs.declared.call.Call.{Call}
use Rattle.nr_reduce.specs.declared.call.Outcome.{Outcome}
use Rattle.nr_reduce.specs.declared.call.Form.TheVariants as forms
use Rattle.nr_reduce.specs.declared.call.Submission.TheVariants as submissions
use Rattle.nr_reduce.specs.declared.mark.LinkParameters.{LinkParameters}
use Rattle.nr_reduce.specs.declared.mark.Mark.{Mark}
use Rattle.nr_reduce.specs.declared.mark.Mark.TheVariants as marks
use Rattle.nr_reduce.specs.Opening.{IsOpened}
use Rattle.nr_requester.specs.declared.answer.AnsweredCall.{AnsweredCall}
use Rattle.nr_wire.specs.declared.hello.Side.TheVariants.{Initiator}
use Rattle.nr_reduce.specs.History.{bytes_received}
use Rattle.nr_requester.specs.RequesterState.{RequesterSide, RequesterState, queue_of}
use Rattle.nr_requester.specs.OpenCalls.{found_answer, open_call}
use Rattle.nr_requester.specs.Standing.{StandsOn, StaysOut}
use Rattle.nr_requester.proofs.OwnLaw.{submit_keeps_law}
use Rattle.nr_requester.proofs.OpenTickets.{done_keeps_law, forget_keeps_law, forget_out_keeps_law}
use Rattle.nr_shared.specs.declared.call_end.CallEnd.{CallEnd}
use Rattle.nr_shared.specs.declared.call_end.CallEnd.TheVariants as calls
use Rattle.nr_client.specs.Ending.{LinkCause}
use Rattle.nr_client.specs.Calls.{AddsForget, Answers, Completes, Forgets, GivesUp, HandsOver, IsSent, IsSubmitted, MovesOfCall, NoneCame, RefusesToSubmit, Submits, run_to_submit}
use Rattle.nr_client.specs.Steps.{GoesOn, GoesTo, HasCreditLeft, IsLeft, IsLive, LacksAnswer, ReadsNone, WritesFirst}
use Rattle.nr_client.specs.Transfers.{LinkBytes, Moves}
use Rattle.nr_client.specs.Views.{LinkView}
use Rattle.nr_client.proofs.Unanswered.{none_came}
use Rattle.nr_client.proofs.Moves.{moves_both}
use Rattle.nr_client.proofs.Turns.{ends_there}

-- a link at a moment, no read or write of which failed: a call makes the same of it, whatever its fault counts are
abbrev unfailing : LinkBytes → RequesterSide → LinkView
unfailing b h = record { bytes = b; requester = h; source_faults = 0; sink_faults = 0 }

-- it was submitted
submitted : (call : Call) (xid : ℕ) (h i : RequesterSide) (opened : LinkParameters) (link : ℕ) (run : List Mark) → IsSent xid call h i → CanWriteCred call.cred → IsOpened opened
    → IsLive opened link h run → IsLive opened link i (run ++ marks.Submit link call forms.Auto (submissions.Accepted xid) ∷ [])
submitted call xid h i opened link run sent writable fine live =
    let kept = submit_keeps_law opened link h run call forms.Auto xid live.stands sent.0 fine writable live.asked live.granted in
    record { stands = sent.1 opened link run live.stands; asked = kept.0; granted = kept.1 }

-- its answer is taken
pub hands_over : (xid : ℕ) (h i : RequesterSide) (a : AnsweredCall) → found_answer xid h.state ≡ Some a → StandsOn h (λ link. marks.Done link xid a.outcome) i → HandsOver xid a.outcome h i
hands_over xid h i a found on opened link run live =
    let kept = done_keeps_law opened link h run xid a live.stands found live.asked live.granted in
    record { stands = on opened link run live.stands; asked = kept.0; granted = kept.1 }

pub completes : (xid : ℕ) (outcome : Outcome) (b c : LinkBytes) (h i j : RequesterSide) → GoesOn b c h i → HandsOver xid outcome i j → Completes xid outcome (unfailing b h) (unfailing c j)
completes xid outcome b c h i j goes over opened link run fine live =
    let one = goes opened link run fine live in
    (one.moved, (one.bytes, (one.written, (one.whole, over opened link (run ++ one.moved) one.live))))

-- it is forgotten
forgotten_at : (xid : ℕ) (end : CallEnd) (h i : RequesterSide) (opened : LinkParameters) (link : ℕ) (ahead : List ℕ) (run : List Mark) → StandsOn h (λ link. marks.Forget link xid) i
    → StaysOut h (λ link. marks.Forget link xid) i → is_some (open_call xid h.state) ≡ true → IsLeft end opened link h ahead run → IsLeft end opened link i ahead (run ++ marks.Forget link xid ∷ [])
forgotten_at xid end h i opened link ahead run on out is_open (inl (live, none)) =
    let kept = forget_keeps_law opened link h run xid live.stands is_open live.asked live.granted in
    inl (record { stands = on opened link run live.stands; asked = kept.0; granted = kept.1 }, none)
forgotten_at xid end h i opened link ahead run on out is_open (inr (is, stopped)) =
    let kept = forget_out_keeps_law opened link h stopped.stopped run xid stopped.stands is_open stopped.asked stopped.granted in
    inr (is, record { stopped = stopped.stopped; stands = out opened link stopped.stopped run stopped.stands; asked = kept.0; granted = kept.1 })

none_at : (xid : ℕ) (end : CallEnd) (h : RequesterSide) (opened : LinkParameters) (link : ℕ) (ahead : List ℕ) (run : List Mark) → is_some (open_call xid h.state) ≡ true
    → LacksAnswer end xid h → IsLeft end opened link h ahead run → NoneCame end opened link run xid
none_at xid end h opened link ahead run is_open (inl out) left = inl out
none_at xid end h opened link ahead run is_open (inr none) (inl (live, over)) = inr (none_came opened link h run xid live.stands is_open none)
none_at xid end h opened link ahead run is_open (inr none) (inr (is, stopped)) = inl is

pub forgets : (xid : ℕ) (end : CallEnd) (b c : LinkBytes) (h i j : RequesterSide) → GoesTo end b c h i → LacksAnswer end xid i → StandsOn i (λ link. marks.Forget link xid) j
    → StaysOut i (λ link. marks.Forget link xid) j → is_some (open_call xid i.state) ≡ true → Forgets xid end (unfailing b h) (unfailing c j)
forgets xid end b c h i j goes lacks on out is_open opened link run fine live =
    let one = goes opened link run fine live in (
      one.moved,
      one.ahead,
      (
        one.bytes,
        (
          one.written,
          (
            one.whole,
            (
              one.all,
              (
                none_at xid end i opened link one.ahead (run ++ one.moved) is_open lacks one.left,
                forgotten_at xid end i j opened link one.ahead (run ++ one.moved) on out is_open one.left,
              ),
            ),
          ),
        ),
      ),
    )

-- nothing is read before its Submit if nothing was then
no_bytes : (link : ℕ) (b c : LinkBytes) (moved : List Mark) → Moves link b c [] moved → ReadsNone b c → bytes_received link Initiator moved ≡ []
no_bytes link b c moved moves none = nil_from_length (bytes_received link Initiator moved) (let count = moves.count in let same = none.1.1 in let over = length-append (bytes_received link Initiator moved) [] in omega (arith, count, same, over))

pub submits : (call : Call) (xid : ℕ) (b c : LinkBytes) (h i j : RequesterSide) → CanWriteCred call.cred → h.state.side.ended ≡ None → (HasCreditLeft h → ReadsNone b c)
    → GoesOn b c h i → IsSent xid call i j → Submits (unfailing b h) (unfailing c j) call xid
submits call xid b c h i j writable started at_once goes sent = (
  started,
  λ opened link run fine live.
      (let one = goes opened link run fine live in
      record {
        waits = one.moved;
        bytes = one.bytes;
        at_once = λ credit. no_bytes link b c one.moved one.bytes (at_once credit);
        before = one.written;
        whole = one.whole;
        live = submitted call xid i j opened link (run ++ one.moved) sent writable fine one.live;
      }),
)

-- all of a call
of_call : (call : Call) (xid : ℕ) (b c d : LinkBytes) (h i : RequesterSide) (opened : LinkParameters) (link : ℕ) (run : List Mark) (ahead : List ℕ) (moved : List Mark)
    → (one : IsSubmitted opened link run b c h i call xid) → Moves link c d ahead moved
    → WritesFirst opened link (run_to_submit run link call xid one.waits) moved → MovesOfCall opened link run b d h call xid ahead one.waits moved
of_call call xid b c d h i opened link run ahead moved one more written = record {
  bytes = moves_both link b c d ahead one.waits moved one.bytes more;
  at_once = one.at_once;
  before = one.before;
  whole_before = one.whole;
  written = written;
}

pub answers : (call : Call) (xid : ℕ) (outcome : Outcome) (b c d : LinkBytes) (h i j : RequesterSide) → Submits (unfailing b h) (unfailing c i) call xid → Completes xid outcome (unfailing c i) (unfailing d j) → Answers (unfailing b h) (unfailing d j) call outcome
answers call xid outcome b c d h i j sent completed = (
  sent.0,
  λ opened link run fine live.
      (let one = sent.1 opened link run fine live in
      let (moved, (moves, (written, (whole, done)))) = completed opened link (run_to_submit run link call xid one.waits) fine one.live in
      record { waits = one.waits; xid = xid; moved = moved; moves = of_call call xid b c d h i opened link run [] moved one moves written; whole = whole; live = done }),
)

pub gives_up : (call : Call) (xid : ℕ) (end : CallEnd) (b c d : LinkBytes) (h i j : RequesterSide) → Submits (unfailing b h) (unfailing c i) call xid → Forgets xid end (unfailing c i) (unfailing d j) → LinkCause end d.left d.read j
    → GivesUp (unfailing b h) (unfailing d j) call end
gives_up call xid end b c d h i j sent forgotten cause =
    inr (
      cause,
      λ opened link run fine live.
          (let one = sent.1 opened link run fine live in
          let (moved, ahead, (moves, (written, (whole, (all, (none, left)))))) = forgotten opened link (run_to_submit run link call xid one.waits) fine one.live in
          record {
            waits = one.waits;
            xid = xid;
            moved = moved;
            ahead = ahead;
            moves = of_call call xid b c d h i opened link run ahead moved one moves written;
            whole = whole;
            all = all;
            unanswered = none;
            left = left;
          }),
    )

-- it was not submitted
pub refused : (call : Call) (end : CallEnd) (b c : LinkBytes) (h i j : RequesterSide) → j ≡ i → queue_of i.state ≡ [] → (HasCreditLeft h → ReadsNone b c) → GoesOn b c h i
    → RefusesToSubmit (unfailing b h) (unfailing c j) call end
refused call end b c h i j same none at_once goes =
    (ends_there end b c h j (inr (ap (λ (x : RequesterSide). queue_of x.state) same ∙ none)) (subst (GoesOn b c h) (sym same) goes), at_once)

pub not_sent : (call : Call) (end : CallEnd) (b c : LinkBytes) (h i : RequesterSide) → RefusesToSubmit (unfailing b h) (unfailing c i) call end → GivesUp (unfailing b h) (unfailing c i) call end
not_sent call end b c h i refuses = inl refuses

-- a call is forgotten, whether or not its answer has come
pub forgets_call : (xid : ℕ) (h i : RequesterSide) → StandsOn h (λ link. marks.Forget link xid) i → StaysOut h (λ link. marks.Forget link xid) i → is_some (open_call xid h.state) ≡ true → AddsForget xid h i
forgets_call xid h i on out is_open = (
  λ opened link run live.
      (let kept = forget_keeps_law opened link h run xid live.stands is_open live.asked live.granted in
      record { stands = on opened link run live.stands; asked = kept.0; granted = kept.1 }),
  λ opened link run stopped.
      (let kept = forget_out_keeps_law opened link h stopped.stopped run xid stopped.stands is_open stopped.asked stopped.granted in
      record { stopped = stopped.stopped; stands = out opened link stopped.stopped run stopped.stands; asked = kept.0; granted = kept.1 }),
)

-- it has an answer, so it doesn't lack one
pub lacks_answer : (xid : ℕ) (r : RequesterState) → is_some (found_answer xid r) ≡ true → found_answer xid r ≡ None → ⊥
lacks_answer xid r there none = true_false (sym there ∙ ap is_some none)
  where
    true_false : true ≡ false → ⊥
    true_false e = absurd cc

pub forgotten_ended : (xid : ℕ) (h i : RequesterSide) → i ≡ after_forget h xid → i.state.side.ended ≡ h.state.side.ended
unfolding after_forget
forgotten_ended xid h i is = ap (λ (x : RequesterSide). x.state.side.ended) is

-- a call that is forgotten leaves the cause of its end
pub still_caused : (xid : ℕ) (end : CallEnd) (left : Option (List ℕ)) (read : ℕ) (h i : RequesterSide) → i ≡ after_forget h xid → LinkCause end left read h → LinkCause end left read i
unfolding after_forget
still_caused xid (calls.Ended end) left read h i is cause = ap (λ (x : RequesterSide). x.state.side.ended) is ∙ cause
still_caused xid calls.LinkRead left read h i is cause = (ap (λ (x : RequesterSide). x.state.side.ended) is ∙ cause.0, cause.1)
still_caused xid calls.LinkWrite left read h i is cause = tt
still_caused xid (calls.Tries n) left read h i is cause = absurd cause
still_caused xid calls.DialFault left read h i is cause = absurd cause
still_caused xid calls.Closed left read h i is cause =
    let as_many = ap (λ (x : RequesterSide). length x.state.outstanding) is ∙ length-map h.state.outstanding (forgotten_call xid) in
    let (ended, (at_end, (few, (some, none)))) = cause in
    (ap (λ (x : RequesterSide). x.state.side.ended) is ∙ ended, (at_end, (few, (subst (λ (k : ℕ). 0 < k) (sym as_many) some, ap (λ (x : RequesterSide). queue_of x.state) is ∙ none))))
still_caused xid (calls.Spent left_over need) left read h i is cause = absurd cause
still_caused xid (calls.TooLarge need room) left read h i is cause = absurd cause
still_caused xid (calls.Budget count) left read h i is cause = (ap (λ (x : RequesterSide). x.state.side.ended) is ∙ cause.0, cause.1)
still_caused xid calls.Memory left read h i is cause = absurd cause
