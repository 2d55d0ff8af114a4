-- What a Revoke gives back is what stood then, and no later frame changes it.
use Rattle.std.proofs.Common.{◌≡◌, ℕ, ◌+◌, ◌≤◌, ◌<◌, Bool, true, false, cond, ◌&&◌, eqb, ltb, leb, List, [], ◌∷◌, ◌++◌, length, map, Option, None, Some, IfSome, Result, Ok, Err, refl, sym, ap, subst, ◌∙◌, arith, append_assoc, append-nil, length-append, eqb-true}
use Rattle.std.proofs.lemmas.Bool.{lt-leb}
use Rattle.std.specs.List.{find}
use Rattle.nr_wire.specs.declared.hello.Side.TheVariants.{Initiator, Responder}
use Rattle.nr_wire.specs.Segment.{Segment}
use Rattle.nr_regions.specs.Access.{applies}
use Rattle.nr_link.specs.declared.end.End.{End as Stop}
use Rattle.nr_link.specs.Frames.{Frame, is_hello, frames_completed}
use Rattle.nr_link.specs.ReceiveState.{ReadRequest, message_completed, read_request_of}
use Rattle.nr_reduce.specs.declared.call.Submission.TheVariants as submissions
use Rattle.nr_reduce.specs.declared.mark.Mark.{Mark}
use Rattle.nr_reduce.specs.declared.mark.Mark.TheVariants as marks
use Rattle.nr_reduce.specs.declared.mark.LinkParameters.{LinkParameters}
use Rattle.nr_reduce.specs.History.{bytes_received, same_side, fed_at}
use Rattle.nr_reduce.specs.Events.{RunEvent, events, events_at, if_own}
use Rattle.nr_reduce.specs.Events.RunEvent.{FrameReceived, CallSubmitted, MemoryRevoked, CallExecuted, QueueWritten, ServerTold}
use Rattle.nr_reduce.specs.EndRules.{EndState, next_end_state, next_end_state_by, next_end_state_in, end_state_after}
use Rattle.nr_reduce.specs.OfferedRegions.{Region, until_or, until_at, region_grant, closed_if, regions_closed}
use Rattle.nr_reduce.specs.Plans.{Buffer, buffers}
use Rattle.nr_reduce.specs.ClientState.{ClientState, region_of, WaitingCall, waiting_call, waiting_from, waiting_regions}
use Rattle.nr_reduce.specs.Client.{client_segment, client_rules, client_end, client_state_after, outstanding_of, with_message, with_request, with_segment, with_hello, due_with_response, regions_unless_waiting}
use Rattle.nr_reduce.specs.Run.{client}
use Rattle.nr_reduce.proofs.OwnStags.{AreNumbered}
use Rattle.nr_reduce.proofs.Steps.{client_one}
use Rattle.nr_laws.proofs.LaterFrames.{EndBy, frames_by_lem}
use Rattle.nr_reduce.proofs.Standing.{received_one}
use Rattle.nr_laws.proofs.Basics.{and_second}

-- ---- Regions of an STag that are closed

-- the regions of this STag are closed, at this offset at the latest
abbrev pub IsClosedBy : ℕ → Option ℕ → Type 0
IsClosedBy p None = ⊥
IsClosedBy p (Some u) = u ≤ p

abbrev pub OnlyClosed : (stag p : ℕ) → List Region → Type 0
OnlyClosed stag p [] = Unit {0}
OnlyClosed stag p (r ∷ regions) = (r.stag ≡ stag → IsClosedBy p r.until) × OnlyClosed stag p regions

-- so no access to it is allowed by a frame that ends later
pub closed_none : (place stag p end : ℕ) (regions : List Region) → p < end → OnlyClosed stag p regions → find (applies stag end) (map (region_grant place) regions) ≡ None
closed_none place stag p end [] lt h = refl
closed_none place stag p end (r ∷ regions) lt h = by (eqb r.stag stag) refl (closed_none place stag p end regions lt h.1)
  where
    by_until : (u : Option ℕ) → r.until ≡ u → IsClosedBy p u → leb end (until_or place r.until) ≡ false
    by_until None is c = absurd c
    by_until (Some u) is c = ap (λ (o : Option ℕ). leb end (until_or place o)) is ∙ lt-leb end u (omega (arith, c, lt))

    by : (b : Bool) → eqb r.stag stag ≡ b → find (applies stag end) (map (region_grant place) regions) ≡ None → cond (eqb r.stag stag && (ltb r.from end && leb end (until_or place r.until))) (Some (region_grant place r)) (find (applies stag end) (map (region_grant place) regions)) ≡ None
    by true is rest =
        let dead = by_until r.until refl (h.0 (eqb-true r.stag stag is)) in
        (λ i. cond (is i && (and_second (ltb r.from end) (leb end (until_or place r.until)) dead i)) (Some (region_grant place r)) (find (applies stag end) (map (region_grant place) regions))) ∙ rest
    by false is rest = ap (λ (b : Bool). cond (b && (ltb r.from end && leb end (until_or place r.until))) (Some (region_grant place r)) (find (applies stag end) (map (region_grant place) regions))) is ∙ rest

pub only_closed : (test : Region → Bool) (later stag p : ℕ) (regions : List Region) → OnlyClosed stag p regions → OnlyClosed stag p (regions_closed test later regions)
unfolding regions_closed
only_closed test later stag p [] h = tt
only_closed test later stag p (r ∷ regions) h = (by (test r), only_closed test later stag p regions h.1)
  where
    by_until : (u : Option ℕ) → IsClosedBy p u → IsClosedBy p (until_at later u)
    by_until None c = absurd c
    by_until (Some u) c = c

    by : (b : Bool) → (closed_if b later r).stag ≡ stag → IsClosedBy p (closed_if b later r).until
    by true e = by_until r.until (h.0 e)
    by false e = h.0 e

pub only_append : (stag p : ℕ) (xs ys : List Region) → OnlyClosed stag p xs → OnlyClosed stag p ys → OnlyClosed stag p (xs ++ ys)
only_append stag p [] ys h g = g
only_append stag p (x ∷ xs) ys h g = (h.0, only_append stag p xs ys h.1 g)

pub only_above : (stag n p : ℕ) (regions : List Region) → stag < n → AreNumbered n regions → OnlyClosed stag p regions
only_above stag n p [] lt h = tt
only_above stag n p (r ∷ regions) lt h = ((λ e. absurd (let s = h.0 in omega (arith, s, e, lt))), only_above stag (n + 1) p regions (omega (arith, lt)) h.1)

-- ---- Lifetimes so far

abbrev pub UntilBy : ℕ → List Region → Type 0
UntilBy n [] = Unit {0}
UntilBy n (r ∷ regions) = IfSome r.until (λ u. u ≤ n) × UntilBy n regions

some_more : (n m : ℕ) (o : Option ℕ) → n ≤ m → IfSome o (λ u. u ≤ n) → IfSome o (λ u. u ≤ m)
some_more n m None le h = tt
some_more n m (Some u) le h = omega (arith, h, le)

until_more : (n m : ℕ) (regions : List Region) → n ≤ m → UntilBy n regions → UntilBy m regions
until_more n m [] le h = tt
until_more n m (r ∷ regions) le h = (some_more n m r.until le h.0, until_more n m regions le h.1)

until_closed : (test : Region → Bool) (later n : ℕ) (regions : List Region) → later ≤ n → UntilBy n regions → UntilBy n (regions_closed test later regions)
unfolding regions_closed
until_closed test later n [] le h = tt
until_closed test later n (r ∷ regions) le h = (by (test r), until_closed test later n regions le h.1)
  where
    by_until : (u : Option ℕ) → IfSome u (λ u. u ≤ n) → IfSome (until_at later u) (λ u. u ≤ n)
    by_until None c = le
    by_until (Some u) c = c

    by : (b : Bool) → IfSome (closed_if b later r).until (λ u. u ≤ n)
    by true = by_until r.until h.0
    by false = h.0

until_append : (n : ℕ) (xs ys : List Region) → UntilBy n xs → UntilBy n ys → UntilBy n (xs ++ ys)
until_append n [] ys h g = g
until_append n (x ∷ xs) ys h g = (h.0, until_append n xs ys h.1 g)

until_new : (n xid place : ℕ) (bs : List Buffer) → UntilBy n (map (region_of xid place) bs)
until_new n xid place [] = tt
until_new n xid place (b ∷ bs) = (tt, until_new n xid place bs)

pub request_regions : (m : ClientState) (due : ℕ) (o : Option ReadRequest) → (with_request m due o).regions ≡ m.regions
request_regions m due None = refl
request_regions m due (Some q) = refl

-- what a frame does to regions, for a fact that closing keeps
pub frame_regions : (P : List Region → Type 0) (k : ClientState) (f : Frame) → ((test : Region → Bool) → P k.regions → P (regions_closed test f.end k.regions)) → P k.regions → (r : Result Segment ℕ) → P (with_segment k f r).regions
frame_regions P k f closes h (Err reason) = h
frame_regions P k f closes h (Ok s) =
    subst P (sym (request_regions (with_message k f.end (message_completed k.received s)) (due_with_response k f s) (read_request_of s))) (by (message_completed k.received s))
  where
    by : (o : Option (List ℕ)) → P (with_message k f.end o).regions
    by None = h
    by (Some m) = closes (λ r. eqb r.call (Rattle.nr_xdr.specs.Fields.word_at 0 m)) h

-- events that close by an offset
abbrev EventBy : ℕ → RunEvent → Type 0
EventBy n (FrameReceived f) = f.end ≤ n
EventBy n (CallSubmitted q a) = Unit {0}
EventBy n (MemoryRevoked q xid) = q ≤ n
EventBy n (CallExecuted e) = Unit {0}
EventBy n (QueueWritten taken) = Unit {0}
EventBy n (ServerTold what) = Unit {0}

abbrev EventsBy : ℕ → List RunEvent → Type 0
EventsBy n [] = Unit {0}
EventsBy n (e ∷ es) = EventBy n e × EventsBy n es

until_event : (opened : LinkParameters) (n : ℕ) (k : ClientState) (e : RunEvent) → EventBy n e → UntilBy n k.regions → UntilBy n (client_state_after opened k e).regions
unfolding client_state_after
until_event opened n k (FrameReceived f) by h = by_hello (is_hello f)
  where
    by_hello : (b : Bool) → UntilBy n (cond b (with_hello opened k f) (with_segment k f (client_segment k f))).regions
    by_hello true = h
    by_hello false = frame_regions (UntilBy n) k f (λ test g. until_closed test f.end n k.regions by g) h (client_segment k f)
until_event opened n k (CallSubmitted q a) by h = until_append n k.regions (regions_unless_waiting (waiting_call k a.xid) q (outstanding_of k a)) h (new_until (waiting_call k a.xid))
  where
    new_until : (w : Option WaitingCall) → UntilBy n (regions_unless_waiting w q (outstanding_of k a))
    new_until None = until_new n a.xid q (buffers (outstanding_of k a).stag (outstanding_of k a).plan)
    new_until (Some w) = tt
until_event opened n k (MemoryRevoked q xid) by h = until_closed (λ r. eqb r.call xid) q n k.regions by h
until_event opened n k (CallExecuted e) by h = h
until_event opened n k (QueueWritten taken) by h = h
until_event opened n k (ServerTold what) by h = h

until_next : (opened : LinkParameters) (n : ℕ) (k : ClientState) (ended : Option Stop) (e : RunEvent) → EventBy n e → UntilBy n k.regions → UntilBy n (next_end_state_in (client_rules opened) k e ended).state.regions
until_next opened n k (Some end) e by h = h
until_next opened n k None e by h = by_why (client_end k e)
  where
    by_why : (o : Option Stop) → UntilBy n (next_end_state_by (client_rules opened) k e o).state.regions
    by_why None = until_event opened n k e by h
    by_why (Some end) = h

until_all : (opened : LinkParameters) (n : ℕ) (r : EndState ClientState) (es : List RunEvent) → EventsBy n es → UntilBy n r.state.regions → UntilBy n (end_state_after (client_rules opened) r es).state.regions
until_all opened n r [] by h = h
until_all opened n r (e ∷ es) by h = until_all opened n (next_end_state (client_rules opened) r e) es by.1 (until_next opened n r.state r.ended e by.0 h)

events_by : (n : ℕ) (fs : List Frame) → EndBy n fs → EventsBy n (map FrameReceived fs)
events_by n [] h = tt
events_by n (f ∷ fs) h = (h.0, events_by n fs h.1)

if_by : (n : ℕ) (b : Bool) (es : List RunEvent) → EventsBy n es → EventsBy n (if_own b es)
if_by n true es h = h
if_by n false es h = tt

mark_by : (link : ℕ) (before : List Mark) (mark : Mark) → EventsBy (length (bytes_received link Initiator (before ++ mark ∷ []))) (events_at link Initiator before mark)
mark_by link before mark = subst (λ (n : ℕ). EventsBy n (events_at link Initiator before mark)) (ap (λ (xs : List ℕ). length xs) (sym (received_one link Initiator before mark))) (by mark)
  where
    old : List ℕ
    old = bytes_received link Initiator before

    place : (more : List ℕ) → length old ≤ length (old ++ more)
    place more = (let l = length-append old more in omega (arith, l))

    by : (mark : Mark) → EventsBy (length (old ++ fed_at link Initiator mark)) (events_at link Initiator before mark)
    by (marks.Fed l s bytes) = by_own (eqb l link && same_side s Initiator)
      where
        by_own : (b : Bool) → EventsBy (length (old ++ cond b bytes [])) (if_own b (map FrameReceived (frames_completed Responder old bytes)))
        by_own true = events_by (length (old ++ bytes)) (frames_completed Responder old bytes) (frames_by_lem Responder old bytes)
        by_own false = tt
    by (marks.Wrote l s bytes) = if_by (length (old ++ [])) (eqb l link && same_side s Initiator) (QueueWritten (length bytes) ∷ []) (tt, tt)
    by (marks.Submit l call form (submissions.Accepted xid)) = if_by (length (old ++ [])) (eqb l link && true) (CallSubmitted (length old) (record { xid = xid; call = call; form = form }) ∷ []) (tt, tt)
    by (marks.Submit l call form (submissions.Refused why)) = tt
    by (marks.Submit l call form submissions.Dropped) = tt
    by (marks.Execute l xid moment payload at reply) = if_by (length (old ++ [])) (eqb l link && false) (CallExecuted (record { xid = xid; moment = moment; payload = payload; place = at; reply = reply }) ∷ []) (tt, tt)
    by (marks.Revoke l xid bytes) = if_by (length (old ++ [])) (eqb l link && true) (MemoryRevoked (length old) xid ∷ []) (place [], tt)
    by (marks.Done l xid outcome) = tt
    by (marks.Lost l xid) = tt
    by (marks.Forget l xid) = tt
    by (marks.Drop l) = tt
    by (marks.Told l what) = if_by (length (old ++ [])) (eqb l link && false) (ServerTold what ∷ []) (tt, tt)

until_from : (opened : LinkParameters) (link : ℕ) (before run : List Mark) → UntilBy (length (bytes_received link Initiator before)) (client opened link before).state.regions → UntilBy (length (bytes_received link Initiator (before ++ run))) (client opened link (before ++ run)).state.regions
until_from opened link before [] h = subst (λ (b : List Mark). UntilBy (length (bytes_received link Initiator b)) (client opened link b).state.regions) (sym (append-nil before)) h
until_from opened link before (mark ∷ run) h =
    let n = length (bytes_received link Initiator (before ++ mark ∷ [])) in
    let grows = ap (λ (xs : List ℕ). length xs) (received_one link Initiator before mark) ∙ length-append (bytes_received link Initiator before) (fed_at link Initiator mark) in
    let more : UntilBy n (client opened link before).state.regions = until_more (length (bytes_received link Initiator before)) n (client opened link before).state.regions (omega (arith, grows)) h in
    let next : UntilBy n (client opened link (before ++ mark ∷ [])).state.regions =
    subst (λ (r : EndState ClientState). UntilBy n r.state.regions) (sym (client_one opened link before mark)) (until_all opened n (client opened link before) (events_at link Initiator before mark) (mark_by link before mark) more) in
    subst (λ (b : List Mark). UntilBy (length (bytes_received link Initiator b)) (client opened link b).state.regions) (append_assoc before (mark ∷ []) run) (until_from opened link (before ++ mark ∷ []) run next)

-- those of calls that wait to be sent again are open at first
until_first : (n : ℕ) (ws : List WaitingCall) → UntilBy n (waiting_regions ws)
until_first n [] = tt
until_first n (w ∷ ws) = until_append n (map (region_of w.xid 0) (buffers w.stag w.plan)) (waiting_regions ws) (until_new n w.xid 0 (buffers w.stag w.plan)) (until_first n ws)

-- each lifetime that ended had ended by then
pub until_run : (opened : LinkParameters) (link : ℕ) (run : List Mark) → UntilBy (length (bytes_received link Initiator run)) (client opened link run).state.regions
unfolding client events
until_run opened link run = until_from opened link [] run (until_first (length (bytes_received link Initiator [])) (waiting_from opened.first_stag opened.resumed))
