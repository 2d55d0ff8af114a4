-- What a call makes of the marks of a link.
use Rattle.std.proofs.Common.{◌≡◌, ℕ, ◌+◌, Bool, false, cond, not, List, [], ◌∷◌, ◌++◌, length, map, Option, None, Some, Result, Ok, Err, inl, inr, refl, sym, ap, subst, ◌∙◌, append_assoc, append-nil}
use Rattle.std.specs.Prelude.{Contains}
use Rattle.std.specs.List.{AllByRecursion, flat_map}
use Rattle.std.specs.Io.KnownBytes.{Appends}
use Rattle.std.proofs.lemmas.Grind.{flat_map-append}
use Rattle.nr_outside.specs.Content.{HandsOut}
use Rattle.nr_wire.specs.declared.hello.Side.TheVariants.{Initiator}
use Rattle.nr_reduce.specs.declared.call.Call.{Call}
use Rattle.nr_reduce.specs.declared.call.Form.TheVariants as forms
use Rattle.nr_reduce.specs.declared.call.Outcome.{Outcome}
use Rattle.nr_reduce.specs.declared.call.Submission.TheVariants as submissions
use Rattle.nr_reduce.specs.declared.mark.LinkParameters.{LinkParameters}
use Rattle.nr_reduce.specs.declared.mark.Mark.{Mark}
use Rattle.nr_reduce.specs.declared.mark.Mark.TheVariants as marks
use Rattle.nr_reduce.specs.History.{bytes_received, bytes_sent, fed_at, written_at}
use Rattle.nr_reduce.specs.ClientState.{ClientState}
use Rattle.nr_reduce.specs.EndRules.{EndState}
use Rattle.nr_reduce.specs.Run.{client, HasWritten, output_due}
use Rattle.nr_reduce.proofs.Steps.{client_one, output_due_up_one}
use Rattle.nr_requester.specs.RequesterState.{RequesterSide}
use Rattle.nr_shared.specs.declared.call_end.CallEnd.{CallEnd}
use Rattle.nr_client.specs.declared.client_end.ClientEnd.{ClientEnd}
use Rattle.nr_client.specs.declared.client_end.ClientEnd.TheVariants as client
use Rattle.nr_client.specs.Calls.{AddsForget, Answers, Completes, Forgets, GivesUp, NoneCame, RefusesToSubmit, Submits}
use Rattle.nr_client.specs.Reading.{ForgetsCalls}
use Rattle.nr_client.specs.Steps.{HasWrittenAt, IsCutShort, IsLeft, IsLive, WholeIfWrote, WritesFirst, WritesInFull, WritesInFullTo, WritesNothing, WrittenIfFed}
use Rattle.nr_client.specs.Transfers.{IsTransfer, LinkBytes, Moves}
use Rattle.nr_client.specs.Views.{LinkView}
use Rattle.nr_client.proofs.Turns.{cut_after, first_both, whole_both}
use Rattle.nr_service_laws.specs.ClientMarks.{AreMarksOf, IsOwn, IsWholeFor, IsWrittenAt, LacksOutcome, StandsAt, moves_bytes, without_bytes}
use Rattle.nr_service_laws.specs.Exchanges.{Exchange, Exchanges, lost_by, refused_by, given_up_exchanges, giving_up, one}
use Rattle.nr_service_laws.specs.Exchanges.Exchange.{Answered, Forgotten, GivenUp, HandedOver, Submitted}
use Rattle.nr_service_laws.specs.SessionMarks.{Does, Extends, HasDone}
use Rattle.nr_service_laws.proofs.Extending.{exchanges_all, extends_moved, own_all, transfers_none, transfers_own, without_all}

-- a mark of the client that moves no bytes
record Still (link : ℕ) (m : Mark) : Type 0 where
  own : IsOwn link m
  fed : fed_at link Initiator m ≡ []
  wrote : written_at link Initiator m ≡ []
  stays : moves_bytes m ≡ false
  writes : (opened : LinkParameters) (run : List Mark) → WrittenIfFed opened link run m
  whole : (opened : LinkParameters) (run : List Mark) → WholeIfWrote opened link run m
  silent : WritesNothing m

abbrev submit_mark : ℕ → Call → ℕ → Mark
submit_mark link call xid = marks.Submit link call forms.Auto (submissions.Accepted xid)

still_submit : (link : ℕ) (call : Call) (xid : ℕ) → Still link (submit_mark link call xid)
still_submit link call xid = record { own = refl; fed = refl; wrote = refl; stays = refl; writes = λ opened run. tt; whole = λ opened run. tt; silent = tt }

still_done : (link xid : ℕ) (outcome : Outcome) → Still link (marks.Done link xid outcome)
still_done link xid outcome = record { own = refl; fed = refl; wrote = refl; stays = refl; writes = λ opened run. tt; whole = λ opened run. tt; silent = tt }

still_forget : (link xid : ℕ) → Still link (marks.Forget link xid)
still_forget link xid = record { own = refl; fed = refl; wrote = refl; stays = refl; writes = λ opened run. tt; whole = λ opened run. tt; silent = tt }

-- ---- One mark more

flat_one : {X A : Type 0} (f : X → List A) (xs : List X) (m : X) → f m ≡ [] → flat_map f (xs ++ m ∷ []) ≡ flat_map f xs
flat_one f xs m still = flat_map-append f xs (m ∷ []) ∙ ap (λ l. flat_map f xs ++ (l ++ [])) still ∙ append-nil (flat_map f xs)

received_still : (link : ℕ) (run : List Mark) (m : Mark) → fed_at link Initiator m ≡ [] → bytes_received link Initiator (run ++ m ∷ []) ≡ bytes_received link Initiator run
unfolding bytes_received
received_still link run m still = flat_one (fed_at link Initiator) run m still

sent_still : (link : ℕ) (run : List Mark) (m : Mark) → written_at link Initiator m ≡ [] → bytes_sent link Initiator (run ++ m ∷ []) ≡ bytes_sent link Initiator run
unfolding bytes_sent
sent_still link run m still = flat_one (written_at link Initiator) run m still

without_still : (m : Mark) (run : List Mark) → moves_bytes m ≡ false → without_bytes (m ∷ run) ≡ m ∷ without_bytes run
without_still m run stays = ap (λ (b : Bool). cond (not b) (m ∷ without_bytes run) (without_bytes run)) stays

extends_still : (opened : LinkParameters) (link : ℕ) (run : List Mark) (b c : LinkBytes) (ahead : List ℕ) (made then : List Exchange) (more : List Mark) (m : Mark)
    → Extends opened link run b c ahead made more → Still link m → AreMarksOf link then (m ∷ []) → Extends opened link run b c ahead (made ++ then) (more ++ m ∷ [])
extends_still opened link run b c ahead made then more m one still are = record {
  own = own_all link more (m ∷ []) one.own (still.own, tt);
  handed = subst (λ (l : List ℕ). HandsOut b.left b.given c.left c.given (l ++ ahead)) (sym (received_still link more m still.fed)) one.handed;
  taken = subst (Appends b.taken c.taken) (sym (sent_still link more m still.wrote)) one.taken;
  count = ap (λ (l : List ℕ). b.read + length (l ++ ahead)) (received_still link more m still.fed) ∙ one.count;
  first = first_both opened link run more (m ∷ []) one.first (still.writes opened (run ++ more), tt);
  marks_are = subst (λ (l : List Mark). AreMarksOf link (made ++ then) l)
      (ap (λ (l : List Mark). without_bytes more ++ l) (sym (without_still m [] still.stays)) ∙ sym (without_all more (m ∷ [])))
      (exchanges_all link made then (without_bytes more) (m ∷ []) one.marks_are are);
}

-- ---- The marks of a call

flat_around : {X A : Type 0} (f : X → List A) (xs ys : List X) (s l : X) → f s ≡ [] → f l ≡ [] → flat_map f (xs ++ s ∷ (ys ++ l ∷ [])) ≡ flat_map f (xs ++ ys)
flat_around f xs ys s l first last =
    flat_map-append f xs (s ∷ (ys ++ l ∷ []))
    ∙ ap (λ z. flat_map f xs ++ z) (ap (λ z. z ++ flat_map f (ys ++ l ∷ [])) first ∙ flat_one f ys l last)
    ∙ sym (flat_map-append f xs ys)

received_around : (link : ℕ) (waits moved : List Mark) (s l : Mark) → fed_at link Initiator s ≡ [] → fed_at link Initiator l ≡ []
    → bytes_received link Initiator (waits ++ s ∷ (moved ++ l ∷ [])) ≡ bytes_received link Initiator (waits ++ moved)
unfolding bytes_received
received_around link waits moved s l first last = flat_around (fed_at link Initiator) waits moved s l first last

sent_around : (link : ℕ) (waits moved : List Mark) (s l : Mark) → written_at link Initiator s ≡ [] → written_at link Initiator l ≡ []
    → bytes_sent link Initiator (waits ++ s ∷ (moved ++ l ∷ [])) ≡ bytes_sent link Initiator (waits ++ moved)
unfolding bytes_sent
sent_around link waits moved s l first last = flat_around (written_at link Initiator) waits moved s l first last

parts_of : (link : ℕ) (run more : List Mark) → AllByRecursion (IsTransfer link) (run ++ more) → AllByRecursion (IsTransfer link) run × AllByRecursion (IsTransfer link) more
parts_of link [] more own = (tt, own)
parts_of link (m ∷ run) more own = let rest = parts_of link run more own.1 in ((own.0, rest.0), rest.1)

without_around : (link : ℕ) (waits moved : List Mark) (s l : Mark) → AllByRecursion (IsTransfer link) waits → AllByRecursion (IsTransfer link) moved
    → moves_bytes s ≡ false → moves_bytes l ≡ false → without_bytes (waits ++ s ∷ (moved ++ l ∷ [])) ≡ s ∷ l ∷ []
without_around link waits moved s l first second is_s is_l =
    without_all waits (s ∷ (moved ++ l ∷ []))
    ∙ ap (λ (z : List Mark). z ++ without_bytes (s ∷ (moved ++ l ∷ []))) (transfers_none link waits first)
    ∙ without_still s (moved ++ l ∷ []) is_s
    ∙ ap (λ (z : List Mark). s ∷ z) (without_all moved (l ∷ [])
    ∙ ap (λ (z : List Mark). z ++ without_bytes (l ∷ [])) (transfers_none link moved second)
    ∙ without_still l [] is_l)

extends_call : (opened : LinkParameters) (link : ℕ) (run : List Mark) (b c : LinkBytes) (ahead : List ℕ) (made : List Exchange) (waits moved : List Mark) (s l : Mark)
    → Moves link b c ahead (waits ++ moved) → WritesFirst opened link run waits → WritesFirst opened link ((run ++ waits) ++ s ∷ []) moved
    → Still link s → Still link l → AreMarksOf link made (s ∷ l ∷ []) → Extends opened link run b c ahead made (waits ++ s ∷ (moved ++ l ∷ []))
extends_call opened link run b c ahead made waits moved s l moves before written is_s is_l are =
    let own = parts_of link waits moved moves.own in
    record {
      own = own_all link waits (s ∷ (moved ++ l ∷ [])) (transfers_own link waits own.0) (is_s.own, own_all link moved (l ∷ []) (transfers_own link moved own.1) (is_l.own, tt));
      handed = subst (λ (l : List ℕ). HandsOut b.left b.given c.left c.given (l ++ ahead)) (sym (received_around link waits moved s l is_s.fed is_l.fed)) moves.handed;
      taken = subst (Appends b.taken c.taken) (sym (sent_around link waits moved s l is_s.wrote is_l.wrote)) moves.taken;
      count = ap (λ (l : List ℕ). b.read + length (l ++ ahead)) (received_around link waits moved s l is_s.fed is_l.fed) ∙ moves.count;
      first = first_both opened link run waits (s ∷ (moved ++ l ∷ [])) before
          (is_s.writes opened (run ++ waits), first_both opened link ((run ++ waits) ++ s ∷ []) moved (l ∷ []) written (is_l.writes opened (((run ++ waits) ++ s ∷ []) ++ moved), tt));
      marks_are = subst (λ (l : List Mark). AreMarksOf link made l) (sym (without_around link waits moved s l own.0 own.1 is_s.stays is_l.stays)) are;
    }

all_marks : (run waits moved : List Mark) (s l : Mark) → (((run ++ waits) ++ s ∷ []) ++ moved) ++ l ∷ [] ≡ run ++ (waits ++ s ∷ (moved ++ l ∷ []))
all_marks run waits moved s l =
    append_assoc ((run ++ waits) ++ s ∷ []) moved (l ∷ []) ∙ append_assoc (run ++ waits) (s ∷ []) (moved ++ l ∷ []) ∙ append_assoc run waits (s ∷ (moved ++ l ∷ []))

-- ---- Output that was written

whole_still : (opened : LinkParameters) (link : ℕ) (run more : List Mark) (m : Mark) → Still link m → WritesInFull opened link run more → WritesInFull opened link run (more ++ m ∷ [])
whole_still opened link run more m still whole = whole_both opened link run more (m ∷ []) whole (still.whole opened (run ++ more), tt)

whole_around : (opened : LinkParameters) (link : ℕ) (run waits moved : List Mark) (s l : Mark) → Still link s → Still link l → WritesInFull opened link run waits
    → WritesInFull opened link ((run ++ waits) ++ s ∷ []) moved → WritesInFull opened link run (waits ++ s ∷ (moved ++ l ∷ []))
whole_around opened link run waits moved s l is_s is_l first second =
    whole_both opened link run waits (s ∷ (moved ++ l ∷ [])) first (is_s.whole opened (run ++ waits), whole_still opened link ((run ++ waits) ++ s ∷ []) moved l is_l second)

-- marks that write nothing come after a Wrote that falls short
cut_then : (opened : LinkParameters) (link : ℕ) (run more : List Mark) (m : Mark) → WritesNothing m → IsCutShort opened link run more → IsCutShort opened link run (more ++ m ∷ [])
cut_then opened link run more m nothing cut = record {
  first = cut.first;
  bytes = cut.bytes;
  last = cut.last ++ m ∷ [];
  parts = ap (λ (l : List Mark). l ++ m ∷ []) cut.parts ∙ append_assoc cut.first (marks.Wrote link Initiator cut.bytes ∷ cut.last) (m ∷ []);
  whole = cut.whole;
  none_after = each cut.last cut.none_after;
}
  where
    each : (last : List Mark) → AllByRecursion WritesNothing last → AllByRecursion WritesNothing (last ++ m ∷ [])
    each [] none = (nothing, tt)
    each (x ∷ last) none = (none.0, each last none.1)

whole_for : {A : Type 0} (end : CallEnd) (opened : LinkParameters) (link : ℕ) (run moved : List Mark) → WritesInFullTo end opened link run moved → IsWholeFor {A = A} (Err (client.Link end)) opened link run moved
whole_for end opened link run moved (inl failed) = inl (ap (λ (e : CallEnd). Err (client.Link e)) failed.0, failed.1)
whole_for end opened link run moved (inr whole) = inr whole

whole_around_for : {A : Type 0} (end : CallEnd) (opened : LinkParameters) (link : ℕ) (run waits moved : List Mark) (s l : Mark) → Still link s → Still link l → WritesInFull opened link run waits
    → WritesInFullTo end opened link ((run ++ waits) ++ s ∷ []) moved → IsWholeFor {A = A} (Err (client.Link end)) opened link run (waits ++ s ∷ (moved ++ l ∷ []))
whole_around_for end opened link run waits moved s l is_s is_l first (inl failed) = inl (
  ap (λ (e : CallEnd). Err (client.Link e)) failed.0,
  (let submitted : WritesInFull opened link (run ++ waits) (s ∷ []) = (is_s.whole opened (run ++ waits), tt) in
      cut_after opened link run waits (s ∷ (moved ++ l ∷ [])) first
      (cut_after opened link (run ++ waits) (s ∷ []) (moved ++ l ∷ []) submitted (cut_then opened link ((run ++ waits) ++ s ∷ []) moved l is_l.silent failed.1))),
)
whole_around_for end opened link run waits moved s l is_s is_l first (inr second) = inr (whole_around opened link run waits moved s l is_s is_l first second)

whole_given_up : {A : Type 0} (result : Result A ClientEnd) (opened : LinkParameters) (link : ℕ) (run more : List Mark) (m : Mark) → Still link m → IsWholeFor result opened link run more
    → IsWholeFor result opened link run (more ++ m ∷ [])
whole_given_up result opened link run more m still (inl failed) = inl (failed.0, cut_then opened link run more m still.silent failed.1)
whole_given_up result opened link run more m still (inr whole) = inr (whole_still opened link run more m still whole)

pub written_still : (opened : LinkParameters) (link xid : ℕ) (run : List Mark) → HasWritten opened link Initiator run → HasWritten opened link Initiator (run ++ marks.Forget link xid ∷ [])
written_still opened link xid run written =
    sent_still link run (marks.Forget link xid) refl ∙ written
    ∙ sym (output_due_up_one opened link run (marks.Forget link xid) ∙ append-nil (output_due opened link Initiator run))

written_at_forget : (end : CallEnd) (opened : LinkParameters) (link xid : ℕ) (run : List Mark) → HasWrittenAt end opened link run → HasWrittenAt end opened link (run ++ marks.Forget link xid ∷ [])
written_at_forget end opened link xid run (inl failed) = inl failed
written_at_forget end opened link xid run (inr (inl out)) = inr (inl out)
written_at_forget end opened link xid run (inr (inr written)) = inr (inr (written_still opened link xid run written))

pub is_written_still : (unanswered : Option CallEnd) (opened : LinkParameters) (link xid : ℕ) (run : List Mark) → IsWrittenAt unanswered opened link run
    → IsWrittenAt unanswered opened link (run ++ marks.Forget link xid ∷ [])
is_written_still None opened link xid run written = tt
is_written_still (Some end) opened link xid run written = written_at_forget end opened link xid run written

-- a mark of a forgotten call is no event: the client is as before
pub client_still : (opened : LinkParameters) (link xid : ℕ) (run : List Mark) → client opened link (run ++ marks.Forget link xid ∷ []) ≡ client opened link run
client_still opened link xid run = client_one opened link run (marks.Forget link xid)

none_still : (end : CallEnd) (opened : LinkParameters) (link x xid : ℕ) (run : List Mark) → NoneCame end opened link run xid → NoneCame end opened link (run ++ marks.Forget link x ∷ []) xid
none_still end opened link x xid run (inl out) = inl out
none_still end opened link x xid run (inr none) =
    inr (λ c there. none c (subst (λ (e : EndState ClientState). Contains e.state.outcomes c) (client_still opened link x run) there))

lacks_at : (end : CallEnd) (opened : LinkParameters) (link xid : ℕ) (run : List Mark) → NoneCame end opened link run xid
    → LacksOutcome (Some end) opened link (run ++ marks.Forget link xid ∷ [])
lacks_at end opened link xid run none = (xid, run, [], (refl, none_still end opened link xid xid run none))

lacks_still : (lost : Option CallEnd) (opened : LinkParameters) (link x : ℕ) (run : List Mark) → LacksOutcome lost opened link run
    → LacksOutcome lost opened link (run ++ marks.Forget link x ∷ [])
lacks_still None opened link x run lacks = tt
lacks_still (Some end) opened link x run (xid, before, after, (is, none)) = (
  xid,
  before,
  after ++ marks.Forget link x ∷ [],
  (ap (λ (l : List Mark). l ++ marks.Forget link x ∷ []) is ∙ append_assoc before (marks.Forget link xid ∷ after) (marks.Forget link x ∷ []), none_still end opened link x xid run none),
)

stands_left : {A : Type 0} (end : CallEnd) (opened : LinkParameters) (link : ℕ) (h : RequesterSide) (ahead : List ℕ) (run : List Mark)
    → IsLeft end opened link h ahead run → StandsAt {A = A} (Err (client.Link end)) opened link h ahead run
stands_left end opened link h ahead run (inl live) = inl live
stands_left end opened link h ahead run (inr (is, out)) = inr (ap (λ (e : CallEnd). Err (client.Link e)) is, out)

-- ---- Calls

-- a call that was answered
pub does_answers : {A : Type 0} (value : A) (call : Call) (outcome : Outcome) (v w : LinkView) → Answers v w call outcome
    → HasDone {A = A} (Ok value) v w (one (Answered call outcome))
does_answers value call outcome v w answers opened link run fine live =
    let is = answers.1 opened link run fine live in
    let s = submit_mark link call is.xid in
    let l = marks.Done link is.xid outcome in
    record {
      more = is.waits ++ s ∷ (is.moved ++ l ∷ []);
      ahead = [];
      extends = extends_call opened link run v.bytes w.bytes [] (Answered call outcome ∷ []) is.waits is.moved s l is.moves.bytes is.moves.before is.moves.written
          (still_submit link call is.xid) (still_done link is.xid outcome) (is.xid, [], (refl, refl));
      stands = inl (subst (λ (all : List Mark). IsLive opened link w.requester all) (all_marks run is.waits is.moved s l) is.live, refl);
      written = tt;
      lacks = tt;
      whole = inr (whole_around opened link run is.waits is.moved s l (still_submit link call is.xid) (still_done link is.xid outcome) is.moves.whole_before is.whole);
    }

-- a call that was not submitted
pub does_refuses : {A : Type 0} (call : Call) (end : CallEnd) (v w : LinkView) → RefusesToSubmit v w call end
    → HasDone {A = A} (Err (client.Link end)) v w (refused_by end)
does_refuses {A} call end v w refuses opened link run fine live =
    let is = refuses.0 opened link run fine live in
    record {
      more = is.moved;
      ahead = is.ahead;
      extends = extends_moved opened link run v.bytes w.bytes is.ahead is.moved is.bytes is.written;
      stands = stands_left {A = A} end opened link w.requester is.ahead (run ++ is.moved) is.left;
      written = is.all;
      lacks = tt;
      whole = whole_for {A = A} end opened link run is.moved is.whole;
    }

-- a call that has no answer
pub does_gives_up : {A : Type 0} (call : Call) (end : CallEnd) (v w : LinkView) (gives_up : GivesUp v w call end)
    → HasDone {A = A} (Err (client.Link end)) v w (given_up_exchanges v w call end gives_up)
does_gives_up {A} call end v w (inl refuses) opened link run fine live = does_refuses {A = A} call end v w refuses opened link run fine live
does_gives_up {A} call end v w (inr (cause, gone)) opened link run fine live =
    let is = gone opened link run fine live in
    let s = submit_mark link call is.xid in
    let l = marks.Forget link is.xid in
    record {
      more = is.waits ++ s ∷ (is.moved ++ l ∷ []);
      ahead = is.ahead;
      extends = extends_call opened link run v.bytes w.bytes is.ahead (Forgotten call ∷ []) is.waits is.moved s l is.moves.bytes is.moves.before is.moves.written
          (still_submit link call is.xid) (still_forget link is.xid) (is.xid, [], (refl, refl));
      stands = stands_left {A = A} end opened link w.requester is.ahead (run ++ (is.waits ++ s ∷ (is.moved ++ l ∷ [])))
          (subst (λ (all : List Mark). IsLeft end opened link w.requester is.ahead all) (all_marks run is.waits is.moved s l) is.left);
      written = subst (λ (all : List Mark). HasWrittenAt end opened link all) (all_marks run is.waits is.moved s l)
          (written_at_forget end opened link is.xid (((run ++ is.waits) ++ s ∷ []) ++ is.moved) is.all);
      lacks = subst (λ (all : List Mark). LacksOutcome (Some end) opened link all) (all_marks run is.waits is.moved s l)
          (lacks_at end opened link is.xid (((run ++ is.waits) ++ s ∷ []) ++ is.moved) is.unanswered);
      whole = whole_around_for {A = A} end opened link run is.waits is.moved s l (still_submit link call is.xid) (still_forget link is.xid) is.moves.whole_before is.whole;
    }

-- ---- READs of a file

pub does_submits : {A : Type 0} (value : A) (call : Call) (xid : ℕ) (v w : LinkView) → Submits v w call xid
    → HasDone {A = A} (Ok value) v w (one (Submitted xid call))
does_submits value call xid v w submits opened link run fine live =
    let is = submits.1 opened link run fine live in
    let s = submit_mark link call xid in
    record {
      more = is.waits ++ s ∷ [];
      ahead = [];
      extends = extends_still opened link run v.bytes w.bytes [] [] (Submitted xid call ∷ []) is.waits s (extends_moved opened link run v.bytes w.bytes [] is.waits is.bytes is.before) (still_submit link call xid)
          (xid, [], (refl, refl));
      stands = inl (subst (λ (all : List Mark). IsLive opened link w.requester all) (append_assoc run is.waits (s ∷ [])) is.live, refl);
      written = tt;
      lacks = tt;
      whole = inr (whole_still opened link run is.waits s (still_submit link call xid) is.whole);
    }

pub does_completes : {A : Type 0} (value : A) (xid : ℕ) (outcome : Outcome) (v w : LinkView) → Completes xid outcome v w
    → HasDone {A = A} (Ok value) v w (one (HandedOver xid outcome))
does_completes value xid outcome v w completes opened link run fine live =
    let is = completes opened link run fine live in
    let l = marks.Done link xid outcome in
    record {
      more = is.0 ++ l ∷ [];
      ahead = [];
      extends = extends_still opened link run v.bytes w.bytes [] [] (HandedOver xid outcome ∷ []) is.0 l (extends_moved opened link run v.bytes w.bytes [] is.0 is.1.0 is.1.1.0) (still_done link xid outcome)
          (xid, [], (refl, refl));
      stands = inl (subst (λ (all : List Mark). IsLive opened link w.requester all) (append_assoc run is.0 (l ∷ [])) is.1.1.1.1, refl);
      written = tt;
      lacks = tt;
      whole = inr (whole_still opened link run is.0 l (still_done link xid outcome) is.1.1.1.0);
    }

pub does_forgets : {A : Type 0} (xid : ℕ) (end : CallEnd) (v w : LinkView) → Forgets xid end v w
    → HasDone {A = A} (Err (client.Link end)) v w (lost_by (GivenUp xid) end)
does_forgets {A} xid end v w forgets opened link run fine live =
    let is = forgets opened link run fine live in
    let l = marks.Forget link xid in
    record {
      more = is.0 ++ l ∷ [];
      ahead = is.1;
      extends = extends_still opened link run v.bytes w.bytes is.1 [] (GivenUp xid ∷ []) is.0 l (extends_moved opened link run v.bytes w.bytes is.1 is.0 is.2.0 is.2.1.0) (still_forget link xid)
          (xid, [], (refl, refl));
      stands = stands_left {A = A} end opened link w.requester is.1 (run ++ (is.0 ++ l ∷ []))
          (subst (λ (all : List Mark). IsLeft end opened link w.requester is.1 all) (append_assoc run is.0 (l ∷ [])) is.2.1.1.1.1.1);
      written = subst (λ (all : List Mark). HasWrittenAt end opened link all) (append_assoc run is.0 (l ∷ [])) (written_at_forget end opened link xid (run ++ is.0) is.2.1.1.1.0);
      lacks = subst (λ (all : List Mark). LacksOutcome (Some end) opened link all) (append_assoc run is.0 (l ∷ [])) (lacks_at end opened link xid (run ++ is.0) is.2.1.1.1.1.0);
      whole = whole_given_up {A = A} (Err (client.Link end)) opened link run is.0 l (still_forget link xid) (whole_for {A = A} end opened link run is.0 is.2.1.1.0);
    }

-- the calls of these xids are forgotten in the end
forgets_one : {A : Type 0} (result : Result A ClientEnd) (opened : LinkParameters) (link : ℕ) (h i : RequesterSide) (xid : ℕ) (ahead : List ℕ) (run : List Mark)
    → AddsForget xid h i → StandsAt result opened link h ahead run → StandsAt result opened link i ahead (run ++ marks.Forget link xid ∷ [])
forgets_one result opened link h i xid ahead run forgets (inl (live, fed)) = inl (forgets.0 opened link run live, fed)
forgets_one result opened link h i xid ahead run forgets (inr (is, out)) = inr (is, forgets.1 opened link run out)

one_more_given_up : {A : Type 0} (result : Result A ClientEnd) (opened : LinkParameters) (link : ℕ) (run : List Mark) (b c : LinkBytes) (h i : RequesterSide) (xid : ℕ) (made : List Exchange) (unanswered lost : Option CallEnd)
    → AddsForget xid h i → Does result opened link run b c h (record { made = made; unanswered = unanswered; lost = lost })
    → Does result opened link run b c i (record { made = made ++ GivenUp xid ∷ []; unanswered = unanswered; lost = lost })
one_more_given_up result opened link run b c h i xid made unanswered lost forgets done =
    let l = marks.Forget link xid in
    record {
      more = done.more ++ l ∷ [];
      ahead = done.ahead;
      extends = extends_still opened link run b c done.ahead made (GivenUp xid ∷ []) done.more l done.extends (still_forget link xid) (xid, [], (refl, refl));
      stands = subst (λ (all : List Mark). StandsAt result opened link i done.ahead all) (append_assoc run done.more (l ∷ []))
          (forgets_one result opened link h i xid done.ahead (run ++ done.more) forgets done.stands);
      written = subst (λ (all : List Mark). IsWrittenAt unanswered opened link all) (append_assoc run done.more (l ∷ []))
          (is_written_still unanswered opened link xid (run ++ done.more) done.written);
      lacks = subst (λ (all : List Mark). LacksOutcome lost opened link all) (append_assoc run done.more (l ∷ [])) (lacks_still lost opened link xid (run ++ done.more) done.lacks);
      whole = whole_given_up result opened link run done.more l (still_forget link xid) done.whole;
    }

all_given_up : {A : Type 0} (result : Result A ClientEnd) (opened : LinkParameters) (link : ℕ) (run : List Mark) (b : LinkBytes) (v w : LinkView) (xids : List ℕ) (made : List Exchange) (unanswered lost : Option CallEnd)
    → ForgetsCalls xids v w → Does result opened link run b v.bytes v.requester (record { made = made; unanswered = unanswered; lost = lost })
    → Does result opened link run b w.bytes w.requester (record { made = made ++ map GivenUp xids; unanswered = unanswered; lost = lost })
all_given_up result opened link run b v w [] made unanswered lost same done =
    subst (λ (l : List Exchange). Does result opened link run b w.bytes w.requester (record { made = l; unanswered = unanswered; lost = lost })) (sym (append-nil made))
    (subst (λ (x : LinkView). Does result opened link run b x.bytes x.requester (record { made = made; unanswered = unanswered; lost = lost })) (sym same) done)
all_given_up result opened link run b v w (xid ∷ xids) made unanswered lost (mid, (forgets, rest)) done =
    let given_up : List Exchange = made ++ GivenUp xid ∷ [] in
    subst (λ (l : List Exchange). Does result opened link run b w.bytes w.requester (record { made = l; unanswered = unanswered; lost = lost })) (append_assoc made (GivenUp xid ∷ []) (map GivenUp xids))
    (all_given_up result opened link run b mid w xids given_up unanswered lost rest
    (subst (λ (x : LinkBytes). Does result opened link run b x mid.requester (record { made = given_up; unanswered = unanswered; lost = lost })) (sym forgets.1.0)
    (one_more_given_up result opened link run b v.bytes v.requester mid.requester xid made unanswered lost forgets.0 done)))

pub does_giving_up : {A : Type 0} (result : Result A ClientEnd) (u v w : LinkView) (xids : List ℕ) (exchanges : Exchanges)
    → HasDone result u v exchanges → ForgetsCalls xids v w → HasDone result u w (giving_up exchanges xids)
does_giving_up result u v w xids exchanges does forgets opened link run fine live =
    all_given_up result opened link run u.bytes v w xids exchanges.made exchanges.unanswered exchanges.lost forgets (does opened link run fine live)
