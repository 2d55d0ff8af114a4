-- From a Revoke on no frame changes what the memory of its call holds.
use Rattle.std.proofs.Common.{◌≡◌, ◌≢◌, ℕ, zero, suc, ◌+◌, ◌≤◌, ◌<◌, Bool, true, false, cond, ◌&&◌, eqb, List, [], ◌∷◌, ◌++◌, length, map, Option, None, Some, IfSome, Result, Ok, Err, refl, sym, ap, subst, ◌∙◌, arith, append_assoc, append-nil, length-append, eq-eqb, ne_eqb, eqb-true}
use Rattle.std.specs.List.{find}
use Rattle.nr_wire.specs.declared.hello.Side.TheVariants.{Initiator, Responder}
use Rattle.nr_wire.specs.Segment.{Segment}
use Rattle.nr_wire.specs.Segment.Segment.{Tagged, Untagged}
use Rattle.nr_regions.specs.declared.denied.Denied.TheVariants.{NoStag}
use Rattle.nr_regions.specs.Access.{Grant, TaggedSegment, grant_at, grant_offer, grant_denial, access_of_tagged}
use Rattle.nr_regions.specs.RegisteredMemory.{denial_in}
use Rattle.nr_link.specs.declared.end.End.{End as Stop}
use Rattle.nr_link.specs.Frames.{Frame, is_hello, frames_completed}
use Rattle.nr_link.specs.ReceiveState.{message_completed, read_request_of}
use Rattle.nr_link.specs.Ending.{tagged_access}
use Rattle.nr_reduce.specs.declared.call.Submission.TheVariants as submissions
use Rattle.nr_reduce.specs.declared.mark.Mark.{Mark}
use Rattle.nr_reduce.specs.declared.mark.Mark.TheVariants as marks
use Rattle.nr_reduce.specs.declared.mark.LinkParameters.{LinkParameters}
use Rattle.nr_reduce.specs.History.{bytes_received, same_side, fed_at}
use Rattle.nr_reduce.specs.Events.{RunEvent, events, events_at, if_own}
use Rattle.nr_reduce.specs.Events.RunEvent.{FrameReceived, CallSubmitted, MemoryRevoked, CallExecuted, QueueWritten, ServerTold}
use Rattle.nr_reduce.specs.EndRules.{EndState, next_end_state, next_end_state_by, next_end_state_in, end_state_after}
use Rattle.nr_reduce.specs.OfferedRegions.{Region, region_grant, region_grants, closed_if, regions_closed}
use Rattle.nr_reduce.specs.ClientState.{ClientState, WaitingCall, waiting_call}
use Rattle.nr_reduce.specs.Client.{client_segment, client_rules, client_end, client_state_after, outstanding_of, with_message, with_segment, with_hello, due_with_response, regions_unless_waiting}
use Rattle.nr_reduce.specs.Asked.{AskedSoFar}
use Rattle.nr_reduce.specs.Run.{client, grants_of, placed_bytes}
use Rattle.nr_reduce.proofs.Touches.{client_touched}
use Rattle.nr_reduce.proofs.OwnStags.{AreNumbered, numbered_buffers, client_known, NewStag, stag_is}
use Rattle.nr_reduce.proofs.Steps.{client_one, ended_stays}
use Rattle.nr_laws.specs.Typed.{IsTyped}
use Rattle.nr_laws.specs.Touches.{RevokedMemoryIsFinal}
use Rattle.nr_reduce.specs.Matched.{IsPrefixOf}
use Rattle.nr_laws.specs.Typed.{TypedMark}
use Rattle.nr_reduce.specs.Asked.{AskedMark}
use Rattle.std.specs.Prelude.{slice_index_or}
use Rattle.nr_laws.proofs.OnceByXid.{at_mark, before_mark}
use Rattle.nr_laws.proofs.EventOutputs.{places_after, whole_within}
use Rattle.nr_laws.proofs.ClientRun.{client_goes}
use Rattle.nr_laws.proofs.ClientMemory.{HasRegion, has_closed, find_left, keeps_along}
use Rattle.nr_laws.proofs.Memory.{Part, parts_of, after_parts, after_append, parts_append, Settled, settled_later, held_parts}
use Rattle.nr_laws.proofs.LaterFrames.{EndBehind, frames_behind}
use Rattle.nr_laws.proofs.Revoked.{IsClosedBy, OnlyClosed, closed_none, only_closed, only_append, only_above, frame_regions, UntilBy, until_run}
use Rattle.nr_reduce.proofs.Standing.{received_one}
use Rattle.nr_reduce.proofs.StagsLeft.{request_stag, message_stag}

-- ---- Accesses to other memory

abbrev pub NotTo : ℕ → List TaggedSegment → Type 0
NotTo stag [] = Unit {0}
NotTo stag (a ∷ accesses) = (a.stag ≢ stag) × NotTo stag accesses

not_append : (stag : ℕ) (xs ys : List TaggedSegment) → NotTo stag xs → NotTo stag ys → NotTo stag (xs ++ ys)
not_append stag [] ys h g = g
not_append stag (x ∷ xs) ys h g = (h.0, not_append stag xs ys h.1 g)

pub not_parts : (stag : ℕ) (bytes : List ℕ) (accesses : List TaggedSegment) → NotTo stag accesses → after_parts stag bytes (parts_of accesses) ≡ bytes
not_parts stag bytes [] h = refl
not_parts stag bytes (a ∷ accesses) h =
    ap (λ (b : Bool). after_parts stag (cond b (Rattle.nr_regions.specs.RegisteredMemory.bytes_after_write bytes a.to a.payload) bytes) (parts_of accesses)) (ne_eqb a.stag stag h.0)
    ∙ not_parts stag bytes accesses h.1

-- ---- What stays

pub record Frozen (stag p : ℕ) (bytes : List ℕ) (old : List TaggedSegment) (k : ClientState) : Type 0 where
  pub only : OnlyClosed stag p k.regions
  pub low : stag < k.stag
  pub has : HasRegion k.regions stag bytes
  pub more : List TaggedSegment
  pub accesses : k.accesses_received ≡ old ++ more
  pub none : NotTo stag more

-- an access to the STag by a frame that ends later is refused
no_access : (stag p : ℕ) (k : ClientState) (f : Frame) (s : Segment) → OnlyClosed stag p k.regions → p < f.end → is_hello f ≡ false → client_segment k f ≡ Ok s → client_end k (FrameReceived f) ≡ None → NotTo stag (tagged_access f s)
unfolding grant_denial grant_at region_grants
no_access stag p k f (Tagged last opcode own to payload) only lt behind is stays = (
  (λ e.
      let fine = client_touched k f (Tagged last opcode own to payload) behind is stays in
      let none = ap (λ (n : ℕ). find (Rattle.nr_regions.specs.Access.applies n f.end) (map (region_grant f.end) k.regions)) e ∙ closed_none f.end stag p f.end k.regions lt only in
      let a = access_of_tagged (record { kind = Rattle.nr_link.specs.Ending.kind_of opcode; stag = own; to = to; payload = payload; end = f.end }) in
      let wrong : Some NoStag ≡ None = sym (ap (λ (o : Option Grant). denial_in (grant_offer o) a) none) ∙ fine in cc),
  tt,
)
no_access stag p k f (Untagged last opcode w queue msn offset payload) only lt behind is stays = tt

has_left : (xs ys : List Region) (stag : ℕ) (bytes : List ℕ) → HasRegion xs stag bytes → HasRegion (xs ++ ys) stag bytes
has_left xs ys stag bytes h = record { region = h.region; there = find_left stag xs ys h.region h.there; own = h.own; holds = h.holds }

frozen_segment : (stag p : ℕ) (bytes : List ℕ) (old : List TaggedSegment) (k : ClientState) (f : Frame) → p < f.end → is_hello f ≡ false → client_end k (FrameReceived f) ≡ None → (r : Result Segment ℕ) → client_segment k f ≡ r → Frozen stag p bytes old k → Frozen stag p bytes old (with_segment k f r)
frozen_segment stag p bytes old k f lt behind stays (Err reason) is h = h
frozen_segment stag p bytes old k f lt behind stays (Ok s) is h =
    let own : (with_segment k f (Ok s)).stag ≡ k.stag = request_stag (with_message k f.end (message_completed k.received s)) (due_with_response k f s) (read_request_of s) ∙ message_stag k f.end (message_completed k.received s) in
    let low = h.low in
    record {
      only = frame_regions (OnlyClosed stag p) k f (λ test. only_closed test f.end stag p k.regions) h.only (Ok s);
      low = omega (arith, own, low);
      has = frame_regions (λ (rs : List Region). HasRegion rs stag bytes) k f (λ test. has_closed test f.end k.regions stag bytes) h.has (Ok s);
      more = h.more ++ tagged_access f s;
      accesses = ap (λ (xs : List TaggedSegment). xs ++ tagged_access f s) h.accesses ∙ append_assoc old h.more (tagged_access f s);
      none = not_append stag h.more (tagged_access f s) h.none (no_access stag p k f s h.only lt behind is stays);
    }

-- ---- Events

abbrev pub EventBehind : ℕ → RunEvent → Type 0
EventBehind p (FrameReceived f) = p < f.end
EventBehind p (CallSubmitted q a) = Unit {0}
EventBehind p (MemoryRevoked q xid) = Unit {0}
EventBehind p (CallExecuted e) = Unit {0}
EventBehind p (QueueWritten taken) = Unit {0}
EventBehind p (ServerTold what) = Unit {0}

abbrev pub EventsBehind : ℕ → List RunEvent → Type 0
EventsBehind p [] = Unit {0}
EventsBehind p (e ∷ es) = EventBehind p e × EventsBehind p es

frozen_event : (opened : LinkParameters) (stag p : ℕ) (bytes : List ℕ) (old : List TaggedSegment) (k : ClientState) (e : RunEvent) → EventBehind p e → client_end k e ≡ None → Frozen stag p bytes old k → Frozen stag p bytes old (client_state_after opened k e)
unfolding client_state_after
frozen_event opened stag p bytes old k (FrameReceived f) by stays h = by_hello (is_hello f) refl
  where
    by_hello : (b : Bool) → is_hello f ≡ b → Frozen stag p bytes old (cond b (with_hello opened k f) (with_segment k f (client_segment k f)))
    by_hello true is = record { only = h.only; low = h.low; has = h.has; more = h.more; accesses = h.accesses; none = h.none }
    by_hello false is = frozen_segment stag p bytes old k f by is stays (client_segment k f) refl h
frozen_event opened stag p bytes old k (CallSubmitted q a) by stays h =
    let new : List Region = regions_unless_waiting (waiting_call k a.xid) q (outstanding_of k a) in
    let low = h.low in
    record {
      only = only_append stag p k.regions new h.only (new_only (waiting_call k a.xid) (stag_is k a));
      low = omega (arith, low);
      has = has_left k.regions new stag bytes h.has;
      more = h.more;
      accesses = h.accesses;
      none = h.none;
    }
  where
    new_only : (w : Option WaitingCall) → NewStag k w (outstanding_of k a) → OnlyClosed stag p (regions_unless_waiting w q (outstanding_of k a))
    new_only None own = only_above stag (outstanding_of k a).stag p _ (let low = h.low in omega (arith, low, own)) (numbered_buffers a.xid q (outstanding_of k a).stag (outstanding_of k a).plan)
    new_only (Some w) own = tt
frozen_event opened stag p bytes old k (MemoryRevoked q xid) by stays h =
    record { only = only_closed (λ r. eqb r.call xid) q stag p k.regions h.only; low = h.low; has = has_closed (λ r. eqb r.call xid) q k.regions stag bytes h.has; more = h.more; accesses = h.accesses; none = h.none }
frozen_event opened stag p bytes old k (CallExecuted e) by stays h = h
frozen_event opened stag p bytes old k (QueueWritten taken) by stays h = record { only = h.only; low = h.low; has = h.has; more = h.more; accesses = h.accesses; none = h.none }
frozen_event opened stag p bytes old k (ServerTold what) by stays h = record { only = h.only; low = h.low; has = h.has; more = h.more; accesses = h.accesses; none = h.none }

frozen_next : (opened : LinkParameters) (stag p : ℕ) (bytes : List ℕ) (old : List TaggedSegment) (k : ClientState) (ended : Option Stop) (e : RunEvent) → EventBehind p e → Frozen stag p bytes old k → Frozen stag p bytes old (next_end_state_in (client_rules opened) k e ended).state
frozen_next opened stag p bytes old k (Some end) e by h = h
frozen_next opened stag p bytes old k None e by h = by_why (client_end k e) refl
  where
    by_why : (o : Option Stop) → client_end k e ≡ o → Frozen stag p bytes old (next_end_state_by (client_rules opened) k e o).state
    by_why None is = frozen_event opened stag p bytes old k e by is h
    by_why (Some end) is = h

pub frozen_all : (opened : LinkParameters) (stag p : ℕ) (bytes : List ℕ) (old : List TaggedSegment) (r : EndState ClientState) (es : List RunEvent) → EventsBehind p es → Frozen stag p bytes old r.state → Frozen stag p bytes old (end_state_after (client_rules opened) r es).state
frozen_all opened stag p bytes old r [] by h = h
frozen_all opened stag p bytes old r (e ∷ es) by h = frozen_all opened stag p bytes old (next_end_state (client_rules opened) r e) es by.1 (frozen_next opened stag p bytes old r.state r.ended e by.0 h)

-- ---- Marks

events_behind : (p n : ℕ) (fs : List Frame) → p ≤ n → EndBehind n fs → EventsBehind p (map FrameReceived fs)
events_behind p n [] le h = tt
events_behind p n (f ∷ fs) le h = (let l = h.0 in omega (arith, l, le), events_behind p n fs le h.1)

if_behind : (p : ℕ) (b : Bool) (es : List RunEvent) → EventsBehind p es → EventsBehind p (if_own b es)
if_behind p true es h = h
if_behind p false es h = tt

mark_behind : (p link : ℕ) (before : List Mark) (mark : Mark) → p ≤ length (bytes_received link Initiator before) → EventsBehind p (events_at link Initiator before mark)
mark_behind p link before (marks.Fed l s bytes) le =
    let got = bytes_received link Initiator before in
    if_behind p (eqb l link && same_side s Initiator) (map FrameReceived (frames_completed Responder got bytes)) (events_behind p (length got) (frames_completed Responder got bytes) le (frames_behind Responder got bytes))
mark_behind p link before (marks.Wrote l s bytes) le = if_behind p (eqb l link && same_side s Initiator) (QueueWritten (length bytes) ∷ []) (tt, tt)
mark_behind p link before (marks.Submit l call form (submissions.Accepted xid)) le =
    if_behind p (eqb l link && true) (CallSubmitted (length (bytes_received link Initiator before)) (record { xid = xid; call = call; form = form }) ∷ []) (tt, tt)
mark_behind p link before (marks.Submit l call form (submissions.Refused why)) le = tt
mark_behind p link before (marks.Submit l call form submissions.Dropped) le = tt
mark_behind p link before (marks.Execute l xid moment payload at reply) le =
    if_behind p (eqb l link && false) (CallExecuted (record { xid = xid; moment = moment; payload = payload; place = at; reply = reply }) ∷ []) (tt, tt)
mark_behind p link before (marks.Revoke l xid bytes) le = if_behind p (eqb l link && true) (MemoryRevoked (length (bytes_received link Initiator before)) xid ∷ []) (tt, tt)
mark_behind p link before (marks.Done l xid outcome) le = tt
mark_behind p link before (marks.Lost l xid) le = tt
mark_behind p link before (marks.Forget l xid) le = tt
mark_behind p link before (marks.Drop l) le = tt
mark_behind p link before (marks.Told l what) le = if_behind p (eqb l link && false) (ServerTold what ∷ []) (tt, tt)

pub frozen_from : (opened : LinkParameters) (link stag p : ℕ) (bytes : List ℕ) (old : List TaggedSegment) (before run : List Mark) → p ≤ length (bytes_received link Initiator before)
    → Frozen stag p bytes old (client opened link before).state → Frozen stag p bytes old (client opened link (before ++ run)).state
frozen_from opened link stag p bytes old before [] le h = subst (λ (b : List Mark). Frozen stag p bytes old (client opened link b).state) (sym (append-nil before)) h
frozen_from opened link stag p bytes old before (mark ∷ run) le h =
    let grows = ap (λ (xs : List ℕ). length xs) (received_one link Initiator before mark) ∙ length-append (bytes_received link Initiator before) (fed_at link Initiator mark) in
    let next : Frozen stag p bytes old (client opened link (before ++ mark ∷ [])).state =
    subst (λ (r : EndState ClientState). Frozen stag p bytes old r.state) (sym (client_one opened link before mark)) (frozen_all opened stag p bytes old (client opened link before) (events_at link Initiator before mark) (mark_behind p link before mark le) h) in
    subst (λ (b : List Mark). Frozen stag p bytes old (client opened link b).state) (append_assoc before (mark ∷ []) run) (frozen_from opened link stag p bytes old (before ++ mark ∷ []) run (omega (arith, grows, le)) next)

-- ---- At a Revoke

until_closed_by : (p : ℕ) (u : Option ℕ) → IfSome u (λ n. n ≤ p) → IsClosedBy p (Rattle.nr_reduce.specs.OfferedRegions.until_at p u)
until_closed_by p None h = omega arith
until_closed_by p (Some n) h = h

-- the region under the STag is closed, and no other has it
only_revoked : (xid stag p n : ℕ) (regions : List Region) (r : Region) → AreNumbered n regions → UntilBy p regions → find (λ x. eqb x.stag stag) regions ≡ Some r → r.call ≡ xid → OnlyClosed stag p (regions_closed (λ r. eqb r.call xid) p regions)
unfolding regions_closed
only_revoked xid stag p n [] r numbers low there own = tt
only_revoked xid stag p n (x ∷ regions) r numbers low there own = by (eqb x.stag stag) refl there (λ h. only_revoked xid stag p (n + 1) regions r numbers.1 low.1 h own)
  where
    rest : List Region
    rest = map (λ r. closed_if (eqb r.call xid) p r) regions

    same : (b : Bool) → (closed_if b p x).stag ≡ x.stag
    same true = refl
    same false = refl

    by : (b : Bool) → eqb x.stag stag ≡ b → cond b (Some x) (find (λ x. eqb x.stag stag) regions) ≡ Some r → (find (λ x. eqb x.stag stag) regions ≡ Some r → OnlyClosed stag p rest)
        → OnlyClosed stag p (closed_if (eqb x.call xid) p x ∷ rest)
    by false is e later = ((λ h. absurd (let s = sym (ne_eqb x.stag stag (λ g. let w = sym is ∙ eq-eqb x.stag stag g in cc)) ∙ eq-eqb x.stag stag (sym (same (eqb x.call xid)) ∙ h) in cc)), later e)
    by true is e later =
        let found : x ≡ r = (let t : Some x ≡ Some r = e in cc) in
        let calls : eqb x.call xid ≡ true = eq-eqb x.call xid (ap (λ (q : Region). q.call) found ∙ own) in
        let first = numbers.0 in
        let here = eqb-true x.stag stag is in (
          (λ h. subst (λ (b : Bool). IsClosedBy p (closed_if b p x).until) (sym calls) (until_closed_by p x.until low.0)),
          only_closed (λ r. eqb r.call xid) p stag p regions (only_above stag (n + 1) p regions (omega (arith, first, here)) numbers.1),
        )

pub low_found : (n stag : ℕ) (regions : List Region) (r : Region) → AreNumbered n regions → find (λ x. eqb x.stag stag) regions ≡ Some r → (stag < n + length regions) × (r.stag ≡ stag)
low_found n stag [] r numbers e = absurd cc
low_found n stag (x ∷ regions) r numbers e = by (eqb x.stag stag) refl e (λ h. low_found (n + 1) stag regions r numbers.1 h)
  where
    by : (b : Bool) → eqb x.stag stag ≡ b → cond b (Some x) (find (λ x. eqb x.stag stag) regions) ≡ Some r → (find (λ x. eqb x.stag stag) regions ≡ Some r → (stag < n + 1 + length regions) × (r.stag ≡ stag)) → (stag < n + suc (length regions)) × (r.stag ≡ stag)
    by false is e later = (let l = (later e).0 in omega (arith, l), (later e).1)
    by true is e later =
        let found : x ≡ r = (let t : Some x ≡ Some r = e in cc) in
        let here = eqb-true x.stag stag is in
        let first = numbers.0 in
        (omega (arith, here, first), ap (λ (q : Region). q.stag) (sym found) ∙ here)

-- ---- What memory holds after a run

run_settled : (opened : LinkParameters) (link : ℕ) (run : List Mark) → IsTyped run → AskedSoFar opened link run → Settled (length (bytes_received link Initiator run)) (client opened link run).state.regions (client opened link run).state.accesses_received
unfolding client
run_settled opened link run typed asked =
    let g = client_goes opened link run typed asked in
    let k = keeps_along opened (events link Initiator run) g.goes in
    let at = g.place in
    let within = whole_within link Initiator run in
    settled_later (places_after 0 (events link Initiator run)) (length (bytes_received link Initiator run)) (client opened link run).state.regions (client opened link run).state.accesses_received
    (omega (arith, at, within)) k.keeps.settled

pub run_holds : (opened : LinkParameters) (link stag : ℕ) (bytes : List ℕ) (run : List Mark) → IsTyped run → AskedSoFar opened link run → HasRegion (client opened link run).state.regions stag bytes
    → placed_bytes opened link Initiator run stag ≡ after_parts stag bytes (parts_of (client opened link run).state.accesses_received)
unfolding placed_bytes grants_of
run_holds opened link stag bytes run typed asked h =
    let k = (client opened link run).state in
    held_parts (length (bytes_received link Initiator run)) stag k.regions k.accesses_received h.region (run_settled opened link run typed asked) h.there h.own
    ∙ ap (λ (b : List ℕ). after_parts stag b (parts_of k.accesses_received)) h.holds

pub found_at_lem : (n k : ℕ) (regions : List Region) (r : Region) → AreNumbered n regions → k < length regions → slice_index_or regions k r ≡ r → find (λ x. eqb x.stag r.stag) regions ≡ Some r
found_at_lem n k [] r numbers lt is = absurd (omega (arith, lt))
found_at_lem n zero (x ∷ regions) r numbers lt is =
    ap (λ (b : Bool). cond b (Some x) (find (λ x. eqb x.stag r.stag) regions)) (eq-eqb x.stag r.stag (ap (λ (q : Region). q.stag) is)) ∙ ap (λ (q : Region). Some q) is
found_at_lem n (suc k) (x ∷ regions) r numbers lt is =
    let later = found_at_lem (n + 1) k regions r numbers.1 (omega (arith, lt)) is in
    let above = above_found (n + 1) r.stag regions r numbers.1 later in
    let first = numbers.0 in
    ap (λ (b : Bool). cond b (Some x) (find (λ x. eqb x.stag r.stag) regions)) (ne_eqb x.stag r.stag (λ e. omega (arith, first, e, above))) ∙ later
  where
    above_found : (n stag : ℕ) (regions : List Region) (r : Region) → AreNumbered n regions → find (λ x. eqb x.stag stag) regions ≡ Some r → n ≤ stag
    above_found n stag [] r numbers e = absurd cc
    above_found n stag (x ∷ regions) r numbers e = by (eqb x.stag stag) refl e (λ h. above_found (n + 1) stag regions r numbers.1 h)
      where
        by : (b : Bool) → eqb x.stag stag ≡ b → cond b (Some x) (find (λ x. eqb x.stag stag) regions) ≡ Some r → (find (λ x. eqb x.stag stag) regions ≡ Some r → n + 1 ≤ stag) → n ≤ stag
        by true is e later = (let here = eqb-true x.stag stag is in let first = numbers.0 in omega (arith, here, first))
        by false is e later = (let l = later e in omega (arith, l))

-- ---- From the Revoke on

stays_by : (opened : LinkParameters) (r : EndState ClientState) (es : List RunEvent) (end : Stop) → r.ended ≡ Some end → end_state_after (client_rules opened) r es ≡ r
stays_by opened r es end is =
    ap (λ (o : Option Stop). end_state_after (client_rules opened) (record { state = r.state; ended = o }) es) is
    ∙ (ended_stays (client_rules opened) r.state end es).0 ∙ ap (λ (o : Option Stop). record { state = r.state; ended = o }) (sym is)

pub ended_run : (opened : LinkParameters) (link : ℕ) (before run : List Mark) (end : Stop) → (client opened link before).ended ≡ Some end → client opened link (before ++ run) ≡ client opened link before
ended_run opened link before [] end is = ap (λ (b : List Mark). client opened link b) (append-nil before)
ended_run opened link before (mark ∷ run) end is =
    let one : client opened link (before ++ mark ∷ []) ≡ client opened link before = client_one opened link before mark ∙ stays_by opened (client opened link before) (events_at link Initiator before mark) end is in
    ap (λ (b : List Mark). client opened link b) (sym (append_assoc before (mark ∷ []) run))
    ∙ ended_run opened link (before ++ mark ∷ []) run end (ap (λ (r : EndState ClientState). r.ended) one ∙ is) ∙ one

frozen_state : (opened : LinkParameters) (link : ℕ) (before : List Mark) (xid stag : ℕ) (r : Region) → find (λ x. eqb x.stag stag) (client opened link before).state.regions ≡ Some r → r.call ≡ xid
    → Frozen stag (length (bytes_received link Initiator before)) r.bytes (client opened link before).state.accesses_received
    (client_state_after opened (client opened link before).state (MemoryRevoked (length (bytes_received link Initiator before)) xid))
unfolding client_state_after
frozen_state opened link before xid stag r there own =
    let k = (client opened link before).state in
    let p = length (bytes_received link Initiator before) in
    let numbers = client_known opened link before in
    let low = low_found opened.first_stag stag k.regions r numbers.regions there in
    let under = low.0 in
    let next = numbers.next in
    record {
      only = only_revoked xid stag p opened.first_stag k.regions r numbers.regions (until_run opened link before) there own;
      low = omega (arith, under, next);
      has = has_closed (λ r. eqb r.call xid) p k.regions stag r.bytes (record { region = r; there = there; own = low.1; holds = refl });
      more = [];
      accesses = sym (append-nil k.accesses_received);
      none = tt;
    }

frozen_mark : (opened : LinkParameters) (link : ℕ) (before : List Mark) (xid stag : ℕ) (given : List ℕ) (r : Region) → find (λ x. eqb x.stag stag) (client opened link before).state.regions ≡ Some r → r.call ≡ xid
    → (client opened link before).ended ≡ None
    → Frozen stag (length (bytes_received link Initiator before)) r.bytes (client opened link before).state.accesses_received (client opened link (before ++ marks.Revoke link xid given ∷ [])).state
unfolding client_end
frozen_mark opened link before xid stag given r there own live =
    let c = client opened link before in
    let p = length (bytes_received link Initiator before) in
    let one : client opened link (before ++ marks.Revoke link xid given ∷ []) ≡ next_end_state_in (client_rules opened) c.state (MemoryRevoked p xid) None =
    client_one opened link before (marks.Revoke link xid given)
    ∙ ap (λ (b : Bool). end_state_after (client_rules opened) c (if_own (b && true) (MemoryRevoked p xid ∷ []))) (eq-eqb link link refl)
    ∙ ap (λ (o : Option Stop). next_end_state_in (client_rules opened) c.state (MemoryRevoked p xid) o) live in
    subst (λ (x : EndState ClientState). Frozen stag p r.bytes c.state.accesses_received x.state) (sym one) (frozen_state opened link before xid stag r there own)

record KeepsRevoked (opened : LinkParameters) (link : ℕ) (before run : List Mark) (stag : ℕ) (bytes : List ℕ) : Type 0 where
  has : HasRegion (client opened link run).state.regions stag bytes
  same : after_parts stag bytes (parts_of (client opened link run).state.accesses_received) ≡ after_parts stag bytes (parts_of (client opened link before).state.accesses_received)

kept : (opened : LinkParameters) (link : ℕ) (before after : List Mark) (xid stag : ℕ) (given : List ℕ) (r : Region) → find (λ x. eqb x.stag stag) (client opened link before).state.regions ≡ Some r → r.call ≡ xid
    → (o : Option Stop) → (client opened link before).ended ≡ o → KeepsRevoked opened link before (before ++ marks.Revoke link xid given ∷ after) stag r.bytes
kept opened link before after xid stag given r there own (Some end) is =
    let all = ended_run opened link before (marks.Revoke link xid given ∷ after) end is in
    let numbers = client_known opened link before in
    let low = low_found opened.first_stag stag (client opened link before).state.regions r numbers.regions there in
    record {
      has = subst (λ (x : EndState ClientState). HasRegion x.state.regions stag r.bytes) (sym all) (record { region = r; there = there; own = low.1; holds = refl });
      same = ap (λ (x : EndState ClientState). after_parts stag r.bytes (parts_of x.state.accesses_received)) all;
    }
kept opened link before after xid stag given r there own None is =
    let at : Mark = marks.Revoke link xid given in
    let old = (client opened link before).state.accesses_received in
    let p = length (bytes_received link Initiator before) in
    let grows = ap (λ (xs : List ℕ). length xs) (received_one link Initiator before at) ∙ length-append (bytes_received link Initiator before) (fed_at link Initiator at) in
    let f : Frozen stag p r.bytes old (client opened link (before ++ at ∷ after)).state =
    subst (λ (b : List Mark). Frozen stag p r.bytes old (client opened link b).state) (append_assoc before (at ∷ []) after)
    (frozen_from opened link stag p r.bytes old (before ++ at ∷ []) after (omega (arith, grows)) (frozen_mark opened link before xid stag given r there own is)) in
    record {
      has = f.has;
      same = ap (λ (a : List TaggedSegment). after_parts stag r.bytes (parts_of a)) f.accesses
          ∙ ap (λ (ps : List Part). after_parts stag r.bytes ps) (parts_append old f.more)
          ∙ after_append stag r.bytes (parts_of old) (parts_of f.more)
          ∙ not_parts stag (after_parts stag r.bytes (parts_of old)) f.more f.none;
    }

pub revoke_stands : RevokedMemoryIsFinal
revoke_stands opened link run before xid bytes typed asked at =
    let typed_before : IsTyped before = before_mark TypedMark run before (marks.Revoke link xid bytes) at.after at.is typed in
    let asked_before : AskedSoFar opened link before = before_mark (AskedMark IsPrefixOf opened link) run before (marks.Revoke link xid bytes) at.after at.is asked in
    let revoked = at_mark (AskedMark IsPrefixOf opened link) run before (marks.Revoke link xid bytes) at.after at.is asked refl in
    let k = (client opened link before).state in
    record {
      what_stood = revoked.bytes_are;
      stands = λ r there own.
          let numbers = client_known opened link before in
          let found = found_at_lem opened.first_stag there.0 k.regions r numbers.regions there.1 there.2 in
          let low = low_found opened.first_stag r.stag k.regions r numbers.regions found in
          let s : KeepsRevoked opened link before run r.stag r.bytes =
          subst (λ (b : List Mark). KeepsRevoked opened link before b r.stag r.bytes) (sym at.is) (kept opened link before at.after xid r.stag bytes r found own (client opened link before).ended refl) in
          run_holds opened link r.stag r.bytes run typed asked s.has ∙ s.same
          ∙ sym (run_holds opened link r.stag r.bytes before typed_before asked_before (record { region = r; there = found; own = refl; holds = refl }));
    }
