-- What a server grants, on every link: from 1 to the credits that it was opened with, while what its owner sets is in range.
use Rattle.std.proofs.Common.{◌≡◌, ℕ, ◌≤◌, Bool, true, false, cond, eqb, eqb-true, min, List, [], ◌∷◌, ◌++◌, map, Option, None, Some, refl, sym, ap, subst, ◌∙◌, arith, append_assoc, append-nil}
use Rattle.std.specs.Prelude.{◌&&◌}
use Rattle.std.specs.List.{AllByRecursion}
use Rattle.std.proofs.Math.Nat.{le-min, min-le_right}
use Rattle.nr_wire.specs.declared.hello.Side.TheVariants.{Initiator, Responder}
use Rattle.nr_link.specs.declared.end.End.{End}
use Rattle.nr_link.specs.Frames.{Frame, frames_completed, is_hello}
use Rattle.nr_reduce.specs.declared.call.Submission.TheVariants as submissions
use Rattle.nr_reduce.specs.declared.mark.Mark.{Mark}
use Rattle.nr_reduce.specs.declared.mark.Mark.TheVariants as marks
use Rattle.nr_reduce.specs.declared.mark.Told.{Told}
use Rattle.nr_reduce.specs.declared.mark.Told.TheVariants.{Granted, Old}
use Rattle.nr_reduce.specs.declared.mark.LinkParameters.{LinkParameters}
use Rattle.nr_reduce.specs.History.{bytes_received, same_side}
use Rattle.nr_reduce.specs.AtEachMark.{AtEachMark}
use Rattle.nr_reduce.specs.Matched.{IsPrefixOf}
use Rattle.nr_reduce.specs.Opening.{IsOpened}
use Rattle.nr_reduce.specs.Events.{RunEvent, events, events_at, if_own}
use Rattle.nr_reduce.specs.Events.RunEvent.{FrameReceived, CallSubmitted, MemoryRevoked, CallExecuted, QueueWritten, ServerTold}
use Rattle.nr_reduce.specs.EndRules.{EndState, next_end_state, next_end_state_by, next_end_state_in, end_state_after}
use Rattle.nr_reduce.specs.ServerState.{ServerState, is_busy, credit_word, credit_told}
use Rattle.nr_reduce.specs.ServerFrames.{frame_effect}
use Rattle.nr_reduce.specs.Server.{server_rules, server_end, server_state_after, initial_server, with_effect, with_own_hello}
use Rattle.nr_reduce.specs.Served.{ToldInRange, ServedMark, ServedSoFar}
use Rattle.nr_reduce.specs.Run.{server}
use Rattle.nr_reduce.specs.RunLaws.{server_by}
use Rattle.nr_reduce.proofs.Steps.{server_one}
use Rattle.nr_reduce.proofs.ToldCredits.{told_in_range}
use Rattle.nr_laws.specs.Grant.{granted_at, last_granted, ServerGrantsInRange, ServerGrantsWhatIsSet}
use Rattle.nr_laws.proofs.EachRun.{server_unended}

-- ---- What it grants at most while it is busy

low_after : (opened : LinkParameters) (k : ServerState) (e : RunEvent) → (server_state_after opened k e).low ≡ k.low
unfolding server_state_after
low_after opened k (FrameReceived f) = by (is_hello f)
  where
    by : (b : Bool) → (cond b (with_own_hello opened k f) (with_effect k f (frame_effect k f))).low ≡ k.low
    by true = refl
    by false = refl
low_after opened k (CallSubmitted p a) = refl
low_after opened k (MemoryRevoked p xid) = refl
low_after opened k (CallExecuted e) = refl
low_after opened k (QueueWritten taken) = refl
low_after opened k (ServerTold what) = refl

low_next : (opened : LinkParameters) (r : EndState ServerState) (e : RunEvent) → (next_end_state (server_rules opened) r e).state.low ≡ r.state.low
low_next opened r e = by r.ended
  where
    by_why : (o : Option End) → (next_end_state_by (server_rules opened) r.state e o).state.low ≡ r.state.low
    by_why None = low_after opened r.state e
    by_why (Some end) = refl

    by : (o : Option End) → (next_end_state_in (server_rules opened) r.state e o).state.low ≡ r.state.low
    by None = by_why (server_end opened r.state e)
    by (Some end) = refl

low_all : (opened : LinkParameters) (r : EndState ServerState) (es : List RunEvent) → (end_state_after (server_rules opened) r es).state.low ≡ r.state.low
low_all opened r [] = refl
low_all opened r (e ∷ es) = low_all opened (next_end_state (server_rules opened) r e) es ∙ low_next opened r e

pub low_of : (opened : LinkParameters) (link : ℕ) (run : List Mark) → (server opened link run).state.low ≡ opened.low
unfolding server
low_of opened link run = low_all opened (initial_server opened) (events link Responder run)

-- ---- The range of its credits

pub record KeepsCredits (opened : LinkParameters) (k : ServerState) : Type 0 where
  pub least : 1 ≤ k.credit
  pub most : k.credit ≤ opened.granted

-- ---- An event

abbrev GrantsWithin : LinkParameters → RunEvent → Type 0
GrantsWithin opened (FrameReceived f) = Unit {0}
GrantsWithin opened (CallSubmitted place a) = Unit {0}
GrantsWithin opened (MemoryRevoked place xid) = Unit {0}
GrantsWithin opened (CallExecuted e) = Unit {0}
GrantsWithin opened (QueueWritten taken) = Unit {0}
GrantsWithin opened (ServerTold what) = ToldInRange opened what

keeps_told : (opened : LinkParameters) (k : ServerState) (what : Told) → ToldInRange opened what → KeepsCredits opened k → KeepsCredits opened (record k { credit = credit_told k.credit what })
keeps_told opened k (Granted credits) range h = record { least = range.0; most = range.1 }
keeps_told opened k (Old xid at) range h = record { least = h.least; most = h.most }

credits_after : (opened : LinkParameters) (k : ServerState) (e : RunEvent) → GrantsWithin opened e → KeepsCredits opened k → KeepsCredits opened (server_state_after opened k e)
unfolding server_state_after
credits_after opened k (FrameReceived f) within h = by (is_hello f)
  where
    by : (b : Bool) → KeepsCredits opened (cond b (with_own_hello opened k f) (with_effect k f (frame_effect k f)))
    by true = record { least = h.least; most = h.most }
    by false = record { least = h.least; most = h.most }
credits_after opened k (CallSubmitted p a) within h = h
credits_after opened k (MemoryRevoked p xid) within h = h
credits_after opened k (CallExecuted e) within h = record { least = h.least; most = h.most }
credits_after opened k (QueueWritten taken) within h = record { least = h.least; most = h.most }
credits_after opened k (ServerTold what) within h = keeps_told opened k what within h

credits_next : (opened : LinkParameters) (r : EndState ServerState) (e : RunEvent) → GrantsWithin opened e → KeepsCredits opened r.state → KeepsCredits opened (next_end_state (server_rules opened) r e).state
credits_next opened r e within h = by r.ended
  where
    by_why : (o : Option End) → KeepsCredits opened (next_end_state_by (server_rules opened) r.state e o).state
    by_why None = credits_after opened r.state e within h
    by_why (Some end) = h

    by : (o : Option End) → KeepsCredits opened (next_end_state_in (server_rules opened) r.state e o).state
    by None = by_why (server_end opened r.state e)
    by (Some end) = h

credits_all : (opened : LinkParameters) (r : EndState ServerState) (es : List RunEvent) → AllByRecursion (GrantsWithin opened) es → KeepsCredits opened r.state → KeepsCredits opened (end_state_after (server_rules opened) r es).state
credits_all opened r [] within h = h
credits_all opened r (e ∷ es) within h = credits_all opened (next_end_state (server_rules opened) r e) es within.1 (credits_next opened r e within.0 h)

-- ---- A mark

own_within : (opened : LinkParameters) (b : Bool) (es : List RunEvent) → AllByRecursion (GrantsWithin opened) es → AllByRecursion (GrantsWithin opened) (if_own b es)
own_within opened true es h = h
own_within opened false es h = tt

frames_within : (opened : LinkParameters) (fs : List Frame) → AllByRecursion (GrantsWithin opened) (map FrameReceived fs)
frames_within opened [] = tt
frames_within opened (f ∷ fs) = (tt, frames_within opened fs)

mark_within : (opened : LinkParameters) (link : ℕ) (before : List Mark) (mark : Mark) → ServedMark IsPrefixOf opened link before mark → AllByRecursion (GrantsWithin opened) (events_at link Responder before mark)
mark_within opened link before (marks.Fed l s bytes) h = own_within opened (eqb l link && same_side s Responder) _ (frames_within opened (frames_completed Initiator (bytes_received link Responder before) bytes))
mark_within opened link before (marks.Wrote l s bytes) h = own_within opened (eqb l link && same_side s Responder) _ (tt, tt)
mark_within opened link before (marks.Submit l call form (submissions.Accepted xid)) h = own_within opened (eqb l link && same_side Initiator Responder) _ (tt, tt)
mark_within opened link before (marks.Submit l call form (submissions.Refused why)) h = tt
mark_within opened link before (marks.Submit l call form submissions.Dropped) h = tt
mark_within opened link before (marks.Execute l xid moment payload place reply) h = own_within opened (eqb l link && same_side Responder Responder) _ (tt, tt)
mark_within opened link before (marks.Revoke l xid bytes) h = own_within opened (eqb l link && same_side Initiator Responder) _ (tt, tt)
mark_within opened link before (marks.Done l xid outcome) h = tt
mark_within opened link before (marks.Lost l xid) h = tt
mark_within opened link before (marks.Forget l xid) h = tt
mark_within opened link before (marks.Drop l) h = tt
mark_within opened link before (marks.Told l what) h = by (eqb l link) refl
  where
    by : (b : Bool) → eqb l link ≡ b → AllByRecursion (GrantsWithin opened) (if_own (b && true) (ServerTold what ∷ []))
    by true is = (told_in_range opened link before what (h (eqb-true l link is)), tt)
    by false is = tt

-- ---- A run

credits_from : (opened : LinkParameters) (link : ℕ) (before run : List Mark) → KeepsCredits opened (server opened link before).state → AtEachMark (ServedMark IsPrefixOf opened link) before run → KeepsCredits opened (server opened link (before ++ run)).state
credits_from opened link before [] h served = subst (λ (r : List Mark). KeepsCredits opened (server opened link r).state) (sym (append-nil before)) h
credits_from opened link before (mark ∷ run) h served =
    let next : KeepsCredits opened (server opened link (before ++ mark ∷ [])).state =
    subst (λ (r : EndState ServerState). KeepsCredits opened r.state) (sym (server_one opened link before mark))
    (credits_all opened (server opened link before) (events_at link Responder before mark) (mark_within opened link before mark served.0) h) in
    subst (λ (r : List Mark). KeepsCredits opened (server opened link r).state) (append_assoc before (mark ∷ []) run) (credits_from opened link (before ++ mark ∷ []) run next served.1)

pub keeps_credits : (opened : LinkParameters) (link : ℕ) (run : List Mark) → IsOpened opened → ServedSoFar opened link run → KeepsCredits opened (server opened link run).state
unfolding server events
keeps_credits opened link run o served = credits_from opened link [] run (record { least = o.granted; most = omega arith }) served

-- so it does once these events were
pub credits_by : (opened : LinkParameters) (link : ℕ) (run : List Mark) (es : List RunEvent) → events link Responder run ≡ es → IsOpened opened → ServedSoFar opened link run → KeepsCredits opened (server_by opened es)
unfolding server
credits_by opened link run es is o served = subst (λ (es : List RunEvent). KeepsCredits opened (server_by opened es)) is (keeps_credits opened link run o served)

-- ---- What it grants

word_range : (opened : LinkParameters) (k : ServerState) → 1 ≤ k.low → KeepsCredits opened k → (1 ≤ credit_word k) × (credit_word k ≤ opened.granted)
unfolding credit_word
word_range opened k some h = by (is_busy k)
  where
    less : min k.low k.credit ≤ k.credit
    less = min-le_right k.low k.credit

    by : (b : Bool) → (1 ≤ cond b (min k.low k.credit) k.credit) × (cond b (min k.low k.credit) k.credit ≤ opened.granted)
    by true = (le-min some h.least, omega (arith, less, h.most))
    by false = (h.least, h.most)

pub server_grants_in_range : ServerGrantsInRange
server_grants_in_range opened link run o low served =
    let kept = low_of opened link run in
    word_range opened (server opened link run).state (omega (arith, low, kept)) (keeps_credits opened link run o served)

-- ---- What its owner set

-- the credits stay as they are
abbrev pub OnlyOthers : RunEvent → Type 0
OnlyOthers (FrameReceived f) = Unit {0}
OnlyOthers (CallSubmitted place a) = Unit {0}
OnlyOthers (MemoryRevoked place xid) = Unit {0}
OnlyOthers (CallExecuted e) = Unit {0}
OnlyOthers (QueueWritten taken) = Unit {0}
OnlyOthers (ServerTold what) = ⊥

same_after : (opened : LinkParameters) (k : ServerState) (e : RunEvent) → OnlyOthers e → (server_state_after opened k e).credit ≡ k.credit
unfolding server_state_after
same_after opened k (FrameReceived f) other = by (is_hello f)
  where
    by : (b : Bool) → (cond b (with_own_hello opened k f) (with_effect k f (frame_effect k f))).credit ≡ k.credit
    by true = refl
    by false = refl
same_after opened k (CallSubmitted p a) other = refl
same_after opened k (MemoryRevoked p xid) other = refl
same_after opened k (CallExecuted e) other = refl
same_after opened k (QueueWritten taken) other = refl
same_after opened k (ServerTold what) other = absurd other

same_next : (opened : LinkParameters) (r : EndState ServerState) (e : RunEvent) → OnlyOthers e → (next_end_state (server_rules opened) r e).state.credit ≡ r.state.credit
same_next opened r e other = by r.ended
  where
    by_why : (o : Option End) → (next_end_state_by (server_rules opened) r.state e o).state.credit ≡ r.state.credit
    by_why None = same_after opened r.state e other
    by_why (Some end) = refl

    by : (o : Option End) → (next_end_state_in (server_rules opened) r.state e o).state.credit ≡ r.state.credit
    by None = by_why (server_end opened r.state e)
    by (Some end) = refl

pub same_all : (opened : LinkParameters) (r : EndState ServerState) (es : List RunEvent) → AllByRecursion OnlyOthers es → (end_state_after (server_rules opened) r es).state.credit ≡ r.state.credit
same_all opened r [] others = refl
same_all opened r (e ∷ es) others = same_all opened (next_end_state (server_rules opened) r e) es others.1 ∙ same_next opened r e others.0

pub own_others : (b : Bool) (es : List RunEvent) → AllByRecursion OnlyOthers es → AllByRecursion OnlyOthers (if_own b es)
own_others true es h = h
own_others false es h = tt

pub frames_others : (fs : List Frame) → AllByRecursion OnlyOthers (map FrameReceived fs)
frames_others [] = tt
frames_others (f ∷ fs) = (tt, frames_others fs)

told_one : (opened : LinkParameters) (r : EndState ServerState) (n : ℕ) → r.ended ≡ None → (end_state_after (server_rules opened) r (ServerTold (Granted n) ∷ [])).state.credit ≡ n
unfolding server_end server_state_after
told_one opened r n stays = ap (λ (o : Option End). (next_end_state_in (server_rules opened) r.state (ServerTold (Granted n)) o).state.credit) stays

-- an old call ends the server, or changes nothing
told_old : (opened : LinkParameters) (r : EndState ServerState) (xid at : ℕ) → (end_state_after (server_rules opened) r (ServerTold (Old xid at) ∷ [])).state.credit ≡ r.state.credit
unfolding server_state_after
told_old opened r xid at = by r.ended
  where
    by_why : (o : Option End) → (next_end_state_by (server_rules opened) r.state (ServerTold (Old xid at)) o).state.credit ≡ r.state.credit
    by_why None = refl
    by_why (Some end) = refl

    by : (o : Option End) → (next_end_state_in (server_rules opened) r.state (ServerTold (Old xid at)) o).state.credit ≡ r.state.credit
    by None = by_why (server_end opened r.state (ServerTold (Old xid at)))
    by (Some end) = refl

set_mark : (opened : LinkParameters) (link : ℕ) (before : List Mark) (mark : Mark) → (server opened link before).ended ≡ None → (server opened link (before ++ mark ∷ [])).state.credit ≡ granted_at link (server opened link before).state.credit mark
set_mark opened link before mark stays = ap (λ (r : EndState ServerState). r.state.credit) (server_one opened link before mark) ∙ by mark
  where
    r : EndState ServerState
    r = server opened link before

    by_link : (n : ℕ) (b : Bool) → (end_state_after (server_rules opened) r (if_own (b && true) (ServerTold (Granted n) ∷ []))).state.credit ≡ cond b n r.state.credit
    by_link n true = told_one opened r n stays
    by_link n false = refl

    by_old : (xid at : ℕ) (b : Bool) → (end_state_after (server_rules opened) r (if_own (b && true) (ServerTold (Old xid at) ∷ []))).state.credit ≡ r.state.credit
    by_old xid at true = told_old opened r xid at
    by_old xid at false = refl

    by : (m : Mark) → (end_state_after (server_rules opened) r (events_at link Responder before m)).state.credit ≡ granted_at link r.state.credit m
    by (marks.Fed l s bytes) = same_all opened r _ (own_others (eqb l link && same_side s Responder) _ (frames_others (frames_completed Initiator (bytes_received link Responder before) bytes)))
    by (marks.Wrote l s bytes) = same_all opened r _ (own_others (eqb l link && same_side s Responder) _ (tt, tt))
    by (marks.Submit l call form (submissions.Accepted xid)) = same_all opened r _ (own_others (eqb l link && same_side Initiator Responder) _ (tt, tt))
    by (marks.Submit l call form (submissions.Refused why)) = refl
    by (marks.Submit l call form submissions.Dropped) = refl
    by (marks.Execute l xid moment payload place reply) = same_all opened r _ (own_others (eqb l link && same_side Responder Responder) _ (tt, tt))
    by (marks.Revoke l xid bytes) = same_all opened r _ (own_others (eqb l link && same_side Initiator Responder) _ (tt, tt))
    by (marks.Done l xid outcome) = refl
    by (marks.Lost l xid) = refl
    by (marks.Forget l xid) = refl
    by (marks.Drop l) = refl
    by (marks.Told l (Granted n)) = by_link n (eqb l link)
    by (marks.Told l (Old xid at)) = by_old xid at (eqb l link)

set_from : (opened : LinkParameters) (link : ℕ) (before run : List Mark) (credits : ℕ) → (server opened link (before ++ run)).ended ≡ None → (server opened link before).state.credit ≡ credits → (server opened link (before ++ run)).state.credit ≡ last_granted link credits run
set_from opened link before [] credits stays is = ap (λ (r : List Mark). (server opened link r).state.credit) (append-nil before) ∙ is
set_from opened link before (mark ∷ run) credits stays is =
    let assoc : (before ++ mark ∷ []) ++ run ≡ before ++ mark ∷ run = append_assoc before (mark ∷ []) run in
    let all : (server opened link ((before ++ mark ∷ []) ++ run)).ended ≡ None = ap (λ (r : List Mark). (server opened link r).ended) assoc ∙ stays in
    let one : (server opened link (before ++ mark ∷ [])).state.credit ≡ granted_at link credits mark =
    set_mark opened link before mark (server_unended opened link before (mark ∷ run) stays) ∙ ap (λ (n : ℕ). granted_at link n mark) is in
    ap (λ (r : List Mark). (server opened link r).state.credit) (sym assoc) ∙ set_from opened link (before ++ mark ∷ []) run (granted_at link credits mark) all one

set_last : (opened : LinkParameters) (link : ℕ) (run : List Mark) → (server opened link run).ended ≡ None → (server opened link run).state.credit ≡ last_granted link opened.granted run
unfolding server events
set_last opened link run stays = set_from opened link [] run opened.granted stays refl

pub server_grants_what_is_set : ServerGrantsWhatIsSet
unfolding credit_word
server_grants_what_is_set opened link run stays =
    let busy = is_busy (server opened link run).state in
    let low = low_of opened link run in
    let last = set_last opened link run stays in
    λ i. cond busy (min (low i) (last i)) (last i)
