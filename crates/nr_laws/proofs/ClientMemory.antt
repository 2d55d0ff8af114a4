-- What a client keeps along its events: its outstanding calls are calls that it accepted, their regions are there, and each access is
-- allowed.
use Rattle.std.proofs.Common.{◌≡◌, ℕ, ◌+◌, ◌≤◌, Bool, true, false, cond, not, eqb, List, [], ◌∷◌, ◌++◌, length, map, Option, None, Some, Result, Ok, Err, refl, sym, ap, subst, ◌∙◌, arith, append_assoc, append-nil, eq-eqb, ne_eqb, length-append}
use Rattle.std.specs.List.{filter, find, AllByRecursion}
use Rattle.nr_wire.specs.Segment.{Segment, segment_of}
use Rattle.nr_wire.specs.Segment.Segment.{Tagged, Untagged}
use Rattle.nr_regions.specs.Access.{TaggedSegment}
use Rattle.nr_link.specs.declared.end.End.{End as Stop}
use Rattle.nr_link.specs.Frames.{Frame, is_hello}
use Rattle.nr_link.specs.ReceiveState.{ReadRequest, message_completed, read_request_of}
use Rattle.nr_link.specs.Ending.{tagged_access, missing_access}
use Rattle.nr_reduce.specs.declared.mark.LinkParameters.{LinkParameters}
use Rattle.nr_reduce.specs.History.{AcceptedCall}
use Rattle.nr_reduce.specs.Events.{RunEvent}
use Rattle.nr_reduce.specs.Events.RunEvent.{FrameReceived, CallSubmitted, MemoryRevoked, CallExecuted, QueueWritten, ServerTold}
use Rattle.nr_reduce.specs.EndRules.{EndState, next_end_state, next_end_state_by, next_end_state_in, end_state_after}
use Rattle.nr_reduce.specs.OfferedRegions.{Region, region_grants, closed_if, regions_closed}
use Rattle.nr_reduce.specs.Plans.{Buffer, buffers, regions_needed}
use Rattle.nr_reduce.specs.ClientState.{ClientState, OutstandingCall, region_of, WaitingCall, others_than, waiting_call, waiting_from, waiting_regions, stag_unless}
use Rattle.nr_reduce.specs.Client.{client_segment, client_rules, client_end, client_state_after, outstanding_of, with_message, with_request, with_segment, revoked_call, initial_client, with_hello, due_with_response, revoked_waiting, regions_unless_waiting}
use Rattle.nr_reduce.specs.Server.{tagged_accesses}
use Rattle.nr_reduce.proofs.Touches.{client_touched}
use Rattle.nr_reduce.proofs.OwnStags.{AreNumbered, numbered_buffers, ClientNumbers, client_numbers, kept_after, buffers_length, numbered_append}
use Rattle.nr_laws.proofs.EventOutputs.{IsNext, GoesOn, along, place_after, places_after}
use Rattle.nr_reduce.proofs.Steps.{end_state_after_append}
use Rattle.nr_laws.proofs.ClientSays.{ClientGood, accepted_in, asked, asked_quiet, asked_submit, client_after}
use Rattle.nr_laws.proofs.ReadFrames.{client_read}
use Rattle.nr_laws.proofs.Memory.{Gathering, Settled, settled_later, settled_closed, settled_append, settled_more, revoked_settled}
use Rattle.nr_laws.proofs.WaitingCalls.{first_there, sent_again, others_there}
use Rattle.nr_reduce.specs.declared.mark.ResumedCall.{ResumedCall}

-- ---- Regions

pub record HasRegion (regions : List Region) (stag : ℕ) (bytes : List ℕ) : Type 0 where
  pub region : Region
  pub there : find (λ x. eqb x.stag stag) regions ≡ Some region
  pub own : region.stag ≡ stag
  pub holds : region.bytes ≡ bytes

abbrev pub HasBuffers : List Region → List Buffer → Type 0
HasBuffers regions [] = Unit {0}
HasBuffers regions (b ∷ bs) = HasRegion regions b.stag b.bytes × HasBuffers regions bs

abbrev pub AllBacked : List Region → List OutstandingCall → Type 0
AllBacked regions [] = Unit {0}
AllBacked regions (o ∷ os) = HasBuffers regions (buffers o.stag o.plan) × AllBacked regions os

pub find_left : (stag : ℕ) (xs ys : List Region) (r : Region) → find (λ x. eqb x.stag stag) xs ≡ Some r → find (λ x. eqb x.stag stag) (xs ++ ys) ≡ Some r
find_left stag [] ys r e = absurd cc
find_left stag (x ∷ xs) ys r e = by (eqb x.stag stag) e (λ h. find_left stag xs ys r h)
  where
    by : (b : Bool) → cond b (Some x) (find (λ x. eqb x.stag stag) xs) ≡ Some r → (find (λ x. eqb x.stag stag) xs ≡ Some r → find (λ x. eqb x.stag stag) (xs ++ ys) ≡ Some r) → cond b (Some x) (find (λ x. eqb x.stag stag) (xs ++ ys)) ≡ Some r
    by true e rest = e
    by false e rest = rest e

pub find_right : (stag : ℕ) (xs ys : List Region) → find (λ x. eqb x.stag stag) xs ≡ None → find (λ x. eqb x.stag stag) (xs ++ ys) ≡ find (λ x. eqb x.stag stag) ys
find_right stag [] ys e = refl
find_right stag (x ∷ xs) ys e = by (eqb x.stag stag) e (λ h. find_right stag xs ys h)
  where
    by : (b : Bool) → cond b (Some x) (find (λ x. eqb x.stag stag) xs) ≡ None → (find (λ x. eqb x.stag stag) xs ≡ None → find (λ x. eqb x.stag stag) (xs ++ ys) ≡ find (λ x. eqb x.stag stag) ys) → cond b (Some x) (find (λ x. eqb x.stag stag) (xs ++ ys)) ≡ find (λ x. eqb x.stag stag) ys
    by true e rest = absurd cc
    by false e rest = rest e

pub find_closed : (test : Region → Bool) (place stag : ℕ) (regions : List Region) (r : Region) → find (λ x. eqb x.stag stag) regions ≡ Some r → find (λ x. eqb x.stag stag) (regions_closed test place regions) ≡ Some (closed_if (test r) place r)
unfolding regions_closed
find_closed test place stag [] r e = absurd cc
find_closed test place stag (x ∷ regions) r e = ap (λ (n : ℕ). cond (eqb n stag) (Some (closed_if (test x) place x)) (find (λ x. eqb x.stag stag) (map (λ r. closed_if (test r) place r) regions))) (same (test x)) ∙ by (eqb x.stag stag) e (λ h. find_closed test place stag regions r h)
  where
    same : (b : Bool) → (closed_if b place x).stag ≡ x.stag
    same true = refl
    same false = refl

    by : (b : Bool) → cond b (Some x) (find (λ x. eqb x.stag stag) regions) ≡ Some r → (find (λ x. eqb x.stag stag) regions ≡ Some r → find (λ x. eqb x.stag stag) (map (λ r. closed_if (test r) place r) regions) ≡ Some (closed_if (test r) place r))
        → cond b (Some (closed_if (test x) place x)) (find (λ x. eqb x.stag stag) (map (λ r. closed_if (test r) place r) regions)) ≡ Some (closed_if (test r) place r)
    by true e rest = (let s : x ≡ r = (let t : Some x ≡ Some r = e in cc) in ap (λ (q : Region). Some (closed_if (test q) place q)) s)
    by false e rest = rest e

closed_fields : (b : Bool) (place : ℕ) (r : Region) → ((closed_if b place r).stag ≡ r.stag) × ((closed_if b place r).bytes ≡ r.bytes)
closed_fields true place r = (refl, refl)
closed_fields false place r = (refl, refl)

pub has_closed : (test : Region → Bool) (place : ℕ) (regions : List Region) (stag : ℕ) (bytes : List ℕ) → HasRegion regions stag bytes → HasRegion (regions_closed test place regions) stag bytes
has_closed test place regions stag bytes h =
    let f = closed_fields (test h.region) place h.region in
    record { region = closed_if (test h.region) place h.region; there = find_closed test place stag regions h.region h.there; own = f.0 ∙ h.own; holds = f.1 ∙ h.holds }

buffers_closed : (test : Region → Bool) (place : ℕ) (regions : List Region) (bs : List Buffer) → HasBuffers regions bs → HasBuffers (regions_closed test place regions) bs
buffers_closed test place regions [] h = tt
buffers_closed test place regions (b ∷ bs) h = (has_closed test place regions b.stag b.bytes h.0, buffers_closed test place regions bs h.1)

backed_closed : (test : Region → Bool) (place : ℕ) (regions : List Region) (os : List OutstandingCall) → AllBacked regions os → AllBacked (regions_closed test place regions) os
backed_closed test place regions [] h = tt
backed_closed test place regions (o ∷ os) h = (buffers_closed test place regions (buffers o.stag o.plan) h.0, backed_closed test place regions os h.1)

pub buffers_left : (xs ys : List Region) (bs : List Buffer) → HasBuffers xs bs → HasBuffers (xs ++ ys) bs
buffers_left xs ys [] h = tt
buffers_left xs ys (b ∷ bs) h = (record { region = h.0.region; there = find_left b.stag xs ys h.0.region h.0.there; own = h.0.own; holds = h.0.holds }, buffers_left xs ys bs h.1)

backed_left : (xs ys : List Region) (os : List OutstandingCall) → AllBacked xs os → AllBacked (xs ++ ys) os
backed_left xs ys [] h = tt
backed_left xs ys (o ∷ os) h = (buffers_left xs ys (buffers o.stag o.plan) h.0, backed_left xs ys os h.1)

backed_append : (regions : List Region) (xs ys : List OutstandingCall) → AllBacked regions xs → AllBacked regions ys → AllBacked regions (xs ++ ys)
backed_append regions [] ys h g = g
backed_append regions (x ∷ xs) ys h g = (h.0, backed_append regions xs ys h.1 g)

pub backed_at : (regions : List Region) (xs : List OutstandingCall) (o : OutstandingCall) (ys : List OutstandingCall) → AllBacked regions (xs ++ o ∷ ys) → HasBuffers regions (buffers o.stag o.plan)
backed_at regions [] o ys h = h.0
backed_at regions (x ∷ xs) o ys h = backed_at regions xs o ys h.1

pub none_from : (n stag : ℕ) (regions : List Region) → n + length regions ≤ stag → AreNumbered n regions → find (λ x. eqb x.stag stag) regions ≡ None
none_from n stag [] le h = refl
none_from n stag (r ∷ regions) le h =
    ap (λ (b : Bool). cond b (Some r) (find (λ x. eqb x.stag stag) regions)) (ne_eqb r.stag stag (λ e. let s = h.0 in omega (arith, s, e, le)))
    ∙ none_from (n + 1) stag regions (omega (arith, le)) h.1

new_buffers : (xid place n : ℕ) (front : List Region) (bs : List Buffer) → ((s : ℕ) → n ≤ s → find (λ x. eqb x.stag s) front ≡ None) → AreNumbered n (map (region_of xid place) bs) → HasBuffers (front ++ map (region_of xid place) bs) bs
new_buffers xid place n front [] none h = tt
new_buffers xid place n front (b ∷ bs) none h =
    let r : Region = region_of xid place b in
    let here : find (λ x. eqb x.stag b.stag) (front ++ r ∷ map (region_of xid place) bs) ≡ Some r =
    find_right b.stag front (r ∷ map (region_of xid place) bs) (none b.stag (let s = h.0 in omega (arith, s)))
    ∙ ap (λ (c : Bool). cond c (Some r) (find (λ x. eqb x.stag b.stag) (map (region_of xid place) bs))) (eq-eqb b.stag b.stag refl) in
    let later : (s : ℕ) → n + 1 ≤ s → find (λ x. eqb x.stag s) (front ++ r ∷ []) ≡ None = λ s le.
    find_right s front (r ∷ []) (none s (omega (arith, le))) ∙ ap (λ (c : Bool). cond c (Some r) None) (ne_eqb b.stag s (λ e. let q = h.0 in omega (arith, q, e, le))) in
    let rest = new_buffers xid place (n + 1) (front ++ r ∷ []) bs later h.1 in
    (record { region = r; there = here; own = refl; holds = refl }, subst (λ (rs : List Region). HasBuffers rs bs) (append_assoc front (r ∷ []) (map (region_of xid place) bs)) rest)

-- ---- Outstanding calls

pub record IsAsked (opened : LinkParameters) (es : List RunEvent) (o : OutstandingCall) : Type 0 where
  pub front : List OutstandingCall
  pub own : OutstandingCall
  pub back : List OutstandingCall
  pub is : asked opened es ≡ front ++ own ∷ back
  pub own_xid : o.xid ≡ own.xid
  pub own_call : o.call ≡ own.call
  pub own_plan : o.plan ≡ own.plan
  pub own_stag : o.stag ≡ own.stag

abbrev pub EachAsked : LinkParameters → List RunEvent → List OutstandingCall → Type 0
EachAsked opened es [] = Unit {0}
EachAsked opened es (o ∷ os) = IsAsked opened es o × EachAsked opened es os

pub asked_found : (opened : LinkParameters) (es : List RunEvent) (p : OutstandingCall → Bool) (os : List OutstandingCall) (o : OutstandingCall) → EachAsked opened es os → find p os ≡ Some o → IsAsked opened es o
asked_found opened es p [] o h e = absurd cc
asked_found opened es p (x ∷ os) o h e = by (p x) e (λ g. asked_found opened es p os o h.1 g)
  where
    by : (b : Bool) → cond b (Some x) (find p os) ≡ Some o → (find p os ≡ Some o → IsAsked opened es o) → IsAsked opened es o
    by true e rest = subst (λ (q : OutstandingCall). IsAsked opened es q) (let s : Some x ≡ Some o = e in cc) h.0
    by false e rest = rest e

asked_filter : (opened : LinkParameters) (es : List RunEvent) (p : OutstandingCall → Bool) (os : List OutstandingCall) → EachAsked opened es os → EachAsked opened es (filter p os)
asked_filter opened es p [] h = tt
asked_filter opened es p (o ∷ os) h = by (p o) (asked_filter opened es p os h.1)
  where
    by : (b : Bool) → EachAsked opened es (filter p os) → EachAsked opened es (cond b (o ∷ filter p os) (filter p os))
    by true rest = (h.0, rest)
    by false rest = rest

asked_revoked : (opened : LinkParameters) (es : List RunEvent) (xid : ℕ) (os : List OutstandingCall) → EachAsked opened es os → EachAsked opened es (map (revoked_call xid) os)
asked_revoked opened es xid [] h = tt
asked_revoked opened es xid (o ∷ os) h = (by (eqb o.xid xid), asked_revoked opened es xid os h.1)
  where
    by : (b : Bool) → IsAsked opened es (cond b (record o { is_revoked = true }) o)
    by true = record { front = h.0.front; own = h.0.own; back = h.0.back; is = h.0.is; own_xid = h.0.own_xid; own_call = h.0.own_call; own_plan = h.0.own_plan; own_stag = h.0.own_stag }
    by false = h.0

asked_same : (opened : LinkParameters) (es later : List RunEvent) (os : List OutstandingCall) → asked opened later ≡ asked opened es → EachAsked opened es os → EachAsked opened later os
asked_same opened es later [] e h = tt
asked_same opened es later (o ∷ os) e h =
    (record { front = h.0.front; own = h.0.own; back = h.0.back; is = e ∙ h.0.is; own_xid = h.0.own_xid; own_call = h.0.own_call; own_plan = h.0.own_plan; own_stag = h.0.own_stag }, asked_same opened es later os e h.1)

asked_longer : (opened : LinkParameters) (es later : List RunEvent) (new : OutstandingCall) (os : List OutstandingCall) → asked opened later ≡ asked opened es ++ new ∷ [] → EachAsked opened es os → EachAsked opened later os
asked_longer opened es later new [] e h = tt
asked_longer opened es later new (o ∷ os) e h = (
  record {
    front = h.0.front;
    own = h.0.own;
    back = h.0.back ++ new ∷ [];
    is = e ∙ ap (λ (xs : List OutstandingCall). xs ++ new ∷ []) h.0.is ∙ append_assoc h.0.front (h.0.own ∷ h.0.back) (new ∷ []);
    own_xid = h.0.own_xid;
    own_call = h.0.own_call;
    own_plan = h.0.own_plan;
    own_stag = h.0.own_stag;
  },
  asked_longer opened es later new os e h.1,
)

asked_append : (opened : LinkParameters) (es : List RunEvent) (xs ys : List OutstandingCall) → EachAsked opened es xs → EachAsked opened es ys → EachAsked opened es (xs ++ ys)
asked_append opened es [] ys h g = g
asked_append opened es (x ∷ xs) ys h g = (h.0, asked_append opened es xs ys h.1 g)

-- ---- What is kept

pub record ClientKeeps (opened : LinkParameters) (es : List RunEvent) (place : ℕ) (k : ClientState) : Type 0 where
  pub settled : Settled place k.regions k.accesses_received
  pub owns : EachAsked opened es k.outstanding
  pub backed : AllBacked k.regions (asked opened es)

-- a step that accepts no call
quiet_keeps : (opened : LinkParameters) (es : List RunEvent) (e : RunEvent) (place later : ℕ) (k after : ClientState) → accepted_in (e ∷ []) ≡ [] → Settled later after.regions after.accesses_received → (EachAsked opened es k.outstanding → EachAsked opened es after.outstanding)
    → (AllBacked k.regions (asked opened es) → AllBacked after.regions (asked opened es))
    → ClientKeeps opened es place k → ClientKeeps opened (es ++ e ∷ []) later after
quiet_keeps opened es e place later k after none settled owns backed p =
    let calls : asked opened (es ++ e ∷ []) ≡ asked opened es = asked_quiet opened es (e ∷ []) none in
    record {
      settled = settled;
      owns = asked_same opened es (es ++ e ∷ []) after.outstanding calls (owns p.owns);
      backed = subst (λ (os : List OutstandingCall). AllBacked after.regions os) (sym calls) (backed p.backed);
    }

-- ---- Each event

request_fields : (m : ClientState) (due : ℕ) (o : Option ReadRequest) → ((with_request m due o).regions ≡ m.regions) × ((with_request m due o).outstanding ≡ m.outstanding)
request_fields m due None = (refl, refl)
request_fields m due (Some q) = (refl, refl)

record MessageKeeps (opened : LinkParameters) (es : List RunEvent) (place : ℕ) (k after : ClientState) : Type 0 where
  settled : (accesses : List TaggedSegment) → Settled place k.regions accesses → Settled place after.regions accesses
  owns : EachAsked opened es k.outstanding → EachAsked opened es after.outstanding
  backed : (os : List OutstandingCall) → AllBacked k.regions os → AllBacked after.regions os

message_keeps : (opened : LinkParameters) (es : List RunEvent) (k : ClientState) (place : ℕ) (o : Option (List ℕ)) → MessageKeeps opened es place k (with_message k place o)
message_keeps opened es k place None = record { settled = λ a h. h; owns = λ h. h; backed = λ os h. h }
message_keeps opened es k place (Some message) = record {
  settled = λ a h. settled_closed (λ r. eqb r.call (Rattle.nr_xdr.specs.Fields.word_at 0 message)) place place k.regions a (omega arith) h;
  owns = λ h. asked_filter opened es (λ o. not (eqb o.xid (Rattle.nr_xdr.specs.Fields.word_at 0 message))) k.outstanding h;
  backed = λ os h. backed_closed (λ r. eqb r.call (Rattle.nr_xdr.specs.Fields.word_at 0 message)) place k.regions os h;
}

-- the access of a frame that doesn't end the client
access_settled : (k : ClientState) (f : Frame) (s : Segment) → is_hello f ≡ false → client_segment k f ≡ Ok s → client_end k (FrameReceived f) ≡ None → Settled f.end k.regions (tagged_access f s)
access_settled k f (Tagged last opcode stag to payload) behind is stays =
    let none : missing_access (region_grants f.end k.regions) f (Tagged last opcode stag to payload) ≡ None = client_touched k f (Tagged last opcode stag to payload) behind is stays in
    (omega arith, none, tt)
access_settled k f (Untagged last opcode w queue msn offset payload) behind is stays = tt

segment_keeps : (opened : LinkParameters) (es : List RunEvent) (place : ℕ) (k : ClientState) (f : Frame) → IsNext place (FrameReceived f) → is_hello f ≡ false → client_end k (FrameReceived f) ≡ None → (r : Result Segment ℕ) → client_segment k f ≡ r
    → ClientKeeps opened es place k → ClientKeeps opened (es ++ FrameReceived f ∷ []) f.end (with_segment k f r)
segment_keeps opened es place k f next behind stays (Err reason) is p =
    quiet_keeps opened es (FrameReceived f) place f.end k k refl (settled_later place f.end k.regions k.accesses_received (let l = next.1 in omega (arith, l)) p.settled) (λ h. h) (λ h. h) p
segment_keeps opened es place k f next behind stays (Ok s) is p =
    let m : ClientState = with_message k f.end (message_completed k.received s) in
    let g = message_keeps opened es k f.end (message_completed k.received s) in
    let q = request_fields m (due_with_response k f s) (read_request_of s) in
    let old : Settled f.end k.regions k.accesses_received = settled_later place f.end k.regions k.accesses_received (let l = next.1 in omega (arith, l)) p.settled in
    let all : Settled f.end k.regions (k.accesses_received ++ tagged_access f s) = settled_more f.end k.regions k.accesses_received (tagged_access f s) old (access_settled k f s behind is stays) in
    quiet_keeps opened es (FrameReceived f) place f.end k (with_segment k f (Ok s)) refl
    (subst (λ (rs : List Region). Settled f.end rs (k.accesses_received ++ tagged_access f s)) (sym q.0) (g.settled (k.accesses_received ++ tagged_access f s) all))
    (λ h. subst (λ (os : List OutstandingCall). EachAsked opened es os) (sym q.1) (g.owns h))
    (λ h. subst (λ (rs : List Region). AllBacked rs (asked opened es)) (sym q.0) (g.backed (asked opened es) h)) p

-- ---- What waits to be sent again has its regions

abbrev WaitBacked : List Region → WaitingCall → Type 0
WaitBacked regions w = HasBuffers regions (buffers w.stag w.plan)

abbrev WaitsBacked : List Region → List WaitingCall → Type 0
WaitsBacked regions ws = AllByRecursion (WaitBacked regions) ws

waits_closed : (test : Region → Bool) (place : ℕ) (regions : List Region) (ws : List WaitingCall) → WaitsBacked regions ws → WaitsBacked (regions_closed test place regions) ws
waits_closed test place regions [] h = tt
waits_closed test place regions (w ∷ ws) h = (buffers_closed test place regions (buffers w.stag w.plan) h.0, waits_closed test place regions ws h.1)

waits_left : (xs ys : List Region) (ws : List WaitingCall) → WaitsBacked xs ws → WaitsBacked (xs ++ ys) ws
waits_left xs ys [] h = tt
waits_left xs ys (w ∷ ws) h = (buffers_left xs ys (buffers w.stag w.plan) h.0, waits_left xs ys ws h.1)

waits_revoked : (regions : List Region) (xid : ℕ) (ws : List WaitingCall) → WaitsBacked regions ws → WaitsBacked regions (map (revoked_waiting xid) ws)
waits_revoked regions xid [] h = tt
waits_revoked regions xid (w ∷ ws) h = (by (eqb w.xid xid), waits_revoked regions xid ws h.1)
  where
    by : (b : Bool) → WaitBacked regions (cond b (record w { is_revoked = true }) w)
    by true = h.0
    by false = h.0

waits_frame : (k : ClientState) (f : Frame) (r : Result Segment ℕ) → WaitsBacked k.regions k.waiting → WaitsBacked (with_segment k f r).regions (with_segment k f r).waiting
waits_frame k f (Err reason) h = h
waits_frame k f (Ok s) h = by (message_completed k.received s) (read_request_of s)
  where
    by : (o : Option (List ℕ)) (q : Option ReadRequest) → WaitsBacked (with_request (with_message k f.end o) (due_with_response k f s) q).regions (with_request (with_message k f.end o) (due_with_response k f s) q).waiting
    by None None = h
    by None (Some q) = h
    by (Some message) None = waits_closed (λ r. eqb r.call (Rattle.nr_xdr.specs.Fields.word_at 0 message)) f.end k.regions k.waiting h
    by (Some message) (Some q) = waits_closed (λ r. eqb r.call (Rattle.nr_xdr.specs.Fields.word_at 0 message)) f.end k.regions k.waiting h

waits_event : (opened : LinkParameters) (k : ClientState) (e : RunEvent) → WaitsBacked k.regions k.waiting → WaitsBacked (client_state_after opened k e).regions (client_state_after opened k e).waiting
unfolding client_state_after
waits_event opened k (FrameReceived f) h = by (is_hello f)
  where
    by : (b : Bool) → WaitsBacked (cond b (with_hello opened k f) (with_segment k f (client_segment k f))).regions (cond b (with_hello opened k f) (with_segment k f (client_segment k f))).waiting
    by true = h
    by false = waits_frame k f (client_segment k f) h
waits_event opened k (CallSubmitted q a) h = waits_left k.regions (regions_unless_waiting (waiting_call k a.xid) q (outstanding_of k a)) (others_than k.waiting a.xid) (others_there (WaitBacked k.regions) k.waiting a.xid h)
waits_event opened k (MemoryRevoked q xid) h = waits_revoked (regions_closed (λ r. eqb r.call xid) q k.regions) xid k.waiting (waits_closed (λ r. eqb r.call xid) q k.regions k.waiting h)
waits_event opened k (CallExecuted x) h = h
waits_event opened k (QueueWritten taken) h = h
waits_event opened k (ServerTold what) h = h

waits_first : (first stag : ℕ) (low : List Region) (rs : List ResumedCall) → AreNumbered first low → stag ≡ first + length low → WaitsBacked (low ++ waiting_regions (waiting_from stag rs)) (waiting_from stag rs)
waits_first first stag low [] numbered next = tt
waits_first first stag low (r ∷ rs) numbered next =
    let more : ℕ = stag + regions_needed r.plan in
    let bs : List Buffer = buffers stag r.plan in
    let own : List Region = map (region_of r.xid 0) bs in
    let later : List Region = waiting_regions (waiting_from more rs) in
    let here : HasBuffers (low ++ own) bs = new_buffers r.xid 0 stag low bs (λ s le. none_from first s low (omega (arith, next, le)) numbered) (numbered_buffers r.xid 0 stag r.plan) in
    let count = buffers_length r.xid 0 stag r.plan in
    let rest = waits_first first more (low ++ own) rs (numbered_append first stag low own numbered next (numbered_buffers r.xid 0 stag r.plan)) (let l = length-append low own in omega (arith, l, next, count)) in (
      subst (λ (regions : List Region). HasBuffers regions bs) (append_assoc low own later) (buffers_left (low ++ own) later bs here),
      subst (λ (regions : List Region). WaitsBacked regions (waiting_from more rs)) (append_assoc low own later) rest,
    )

waits_known : (opened : LinkParameters) (es : List RunEvent) → WaitsBacked (client_after opened es).state.regions (client_after opened es).state.waiting
waits_known opened es =
    kept_after (client_rules opened) (λ (k : ClientState). WaitsBacked k.regions k.waiting) (waits_event opened) (initial_client opened) es
    (waits_first opened.first_stag opened.first_stag [] opened.resumed tt (let s : opened.first_stag ≡ opened.first_stag + 0 = omega arith in s))

call_keeps : (opened : LinkParameters) (es : List RunEvent) (place q : ℕ) (k : ClientState) (a : AcceptedCall) → AreNumbered opened.first_stag k.regions → k.stag ≡ opened.first_stag + length k.regions → k ≡ (client_after opened es).state → WaitsBacked k.regions k.waiting → ClientKeeps opened es place k
    → ClientKeeps opened (es ++ CallSubmitted q a ∷ []) place (client_state_after opened k (CallSubmitted q a))
unfolding client_state_after
call_keeps opened es place q k a numbers next at waits p =
    let all : asked opened (es ++ CallSubmitted q a ∷ []) ≡ asked opened es ++ own ∷ [] = asked_submit opened es q a k at in
    let new : List Region = regions_unless_waiting (waiting_call k a.xid) q own in
    record {
      settled = settled_append place k.regions new k.accesses_received p.settled;
      owns = asked_append opened (es ++ CallSubmitted q a ∷ []) k.outstanding (own ∷ []) (asked_longer opened es (es ++ CallSubmitted q a ∷ []) own k.outstanding all p.owns)
          (record { front = asked opened es; own = own; back = []; is = all; own_xid = refl; own_call = refl; own_plan = refl; own_stag = refl }, tt);
      backed = subst (λ (os : List OutstandingCall). AllBacked (k.regions ++ new) os) (sym all)
          (backed_append (k.regions ++ new) (asked opened es) (own ∷ []) (backed_left k.regions new (asked opened es) p.backed) (there (waiting_call k a.xid) refl, tt));
    }
  where
    own : OutstandingCall
    own = outstanding_of k a

    there : (w : Option WaitingCall) → waiting_call k a.xid ≡ w → HasBuffers (k.regions ++ regions_unless_waiting w q own) (buffers own.stag own.plan)
    there None is =
        let stag : own.stag ≡ k.stag = ap (λ (w : Option WaitingCall). stag_unless w k.stag) is in
        new_buffers a.xid q own.stag k.regions (buffers own.stag own.plan) (λ s le. none_from opened.first_stag s k.regions (omega (arith, next, le, stag)) numbers) (numbered_buffers a.xid q own.stag own.plan)
    there (Some w) is =
        let same = sent_again k a w is in
        buffers_left k.regions [] (buffers own.stag own.plan)
        (subst (λ (bs : List Buffer). HasBuffers k.regions bs) (λ i. buffers (sym same.stag i) (sym same.plan i)) (first_there (WaitBacked k.regions) k.waiting a.xid w waits is))

-- a state among those of a client's events
pub record KeepsAt (opened : LinkParameters) (es : List RunEvent) (place : ℕ) (r : EndState ClientState) : Type 0 where
  pub state : r ≡ end_state_after (client_rules opened) (initial_client opened) es
  pub keeps : ClientKeeps opened es place r.state

keeps_same_lem : (opened : LinkParameters) (es : List RunEvent) (e : RunEvent) (place later : ℕ) (k : ClientState) → accepted_in (e ∷ []) ≡ [] → place ≤ later → ClientKeeps opened es place k → ClientKeeps opened (es ++ e ∷ []) later k
keeps_same_lem opened es e place later k none le p = quiet_keeps opened es e place later k k none (settled_later place later k.regions k.accesses_received le p.settled) (λ h. h) (λ h. h) p

frame_keeps : (opened : LinkParameters) (es : List RunEvent) (place : ℕ) (k : ClientState) (f : Frame) → IsNext place (FrameReceived f) → ClientKeeps opened es place k
    → (o : Option Stop) → client_end k (FrameReceived f) ≡ o → ClientKeeps opened (es ++ FrameReceived f ∷ []) f.end (next_end_state_by (client_rules opened) k (FrameReceived f) o).state
unfolding client_state_after
frame_keeps opened es place k f next p (Some end) is = keeps_same_lem opened es (FrameReceived f) place f.end k refl (let l = next.1 in omega (arith, l)) p
frame_keeps opened es place k f next p None is = by (is_hello f) refl
  where
    by : (b : Bool) → is_hello f ≡ b → ClientKeeps opened (es ++ FrameReceived f ∷ []) f.end (cond b (with_hello opened k f) (with_segment k f (client_segment k f)))
    by true first = quiet_keeps opened es (FrameReceived f) place f.end k (with_hello opened k f) refl (settled_later place f.end k.regions k.accesses_received (let l = next.1 in omega (arith, l)) p.settled) (λ h. h) (λ h. h) p
    by false behind = segment_keeps opened es place k f next behind is (client_segment k f) refl p

pub keeps_step : (opened : LinkParameters) (es : List RunEvent) (place : ℕ) (k : ClientState) (ended : Option Stop) (e : RunEvent) → IsNext place e → ClientGood opened (record { state = k; ended = ended }) e
    → AreNumbered opened.first_stag k.regions → k.stag ≡ opened.first_stag + length k.regions → k ≡ (client_after opened es).state → ClientKeeps opened es place k
    → ClientKeeps opened (es ++ e ∷ []) (place_after place e) (next_end_state_in (client_rules opened) k e ended).state
unfolding client_end client_state_after
keeps_step opened es place k None (FrameReceived f) next good numbers after at p = frame_keeps opened es place k f next p (client_end k (FrameReceived f)) refl
keeps_step opened es place k None (CallSubmitted q a) next good numbers after at p =
    call_keeps opened es place q k a numbers after at (subst (λ (x : ClientState). WaitsBacked x.regions x.waiting) (sym at) (waits_known opened es)) p
keeps_step opened es place k None (MemoryRevoked q xid) next good numbers after at p =
    quiet_keeps opened es (MemoryRevoked q xid) place place k (client_state_after opened k (MemoryRevoked q xid)) refl
    (revoked_settled place q k.regions k.accesses_received (λ r. eqb r.call xid) next p.settled) (λ h. asked_revoked opened es xid k.outstanding h) (λ h. backed_closed (λ r. eqb r.call xid) q k.regions (asked opened es) h) p
keeps_step opened es place k None (CallExecuted x) next good numbers after at p = keeps_same_lem opened es (CallExecuted x) place place k refl (omega arith) p
keeps_step opened es place k None (QueueWritten taken) next good numbers after at p =
    quiet_keeps opened es (QueueWritten taken) place place k (client_state_after opened k (QueueWritten taken)) refl p.settled (λ h. h) (λ h. h) p
keeps_step opened es place k None (ServerTold what) next good numbers after at p =
    quiet_keeps opened es (ServerTold what) place place k (client_state_after opened k (ServerTold what)) refl p.settled (λ h. h) (λ h. h) p
keeps_step opened es place k (Some end) (FrameReceived f) next good numbers after at p = keeps_same_lem opened es (FrameReceived f) place f.end k refl (let l = next.1 in omega (arith, l)) p
keeps_step opened es place k (Some end) (CallSubmitted q a) next good numbers after at p = absurd (let s = good.stays in cc)
keeps_step opened es place k (Some end) (MemoryRevoked q xid) next good numbers after at p = keeps_same_lem opened es (MemoryRevoked q xid) place place k refl (omega arith) p
keeps_step opened es place k (Some end) (CallExecuted x) next good numbers after at p = keeps_same_lem opened es (CallExecuted x) place place k refl (omega arith) p
keeps_step opened es place k (Some end) (QueueWritten taken) next good numbers after at p = keeps_same_lem opened es (QueueWritten taken) place place k refl (omega arith) p
keeps_step opened es place k (Some end) (ServerTold what) next good numbers after at p = keeps_same_lem opened es (ServerTold what) place place k refl (omega arith) p

pub client_gathers : (opened : LinkParameters) → Gathering (client_rules opened) (λ (k : ClientState). k.accesses_received)
unfolding client_state_after
client_gathers opened k (FrameReceived f) lives = by (is_hello f) refl
  where
    one : (r : Result Segment ℕ) → (with_segment k f r).accesses_received ≡ k.accesses_received ++ tagged_accesses f r
    one (Ok s) = refl
    one (Err reason) = sym (append-nil k.accesses_received)

    by : (b : Bool) → is_hello f ≡ b → (cond b (with_hello opened k f) (with_segment k f (client_segment k f))).accesses_received ≡ cond b k.accesses_received (k.accesses_received ++ tagged_accesses f (segment_of f.bytes))
    by true first = refl
    by false behind = one (client_segment k f) ∙ ap (λ (r : Result Segment ℕ). k.accesses_received ++ tagged_accesses f r) (client_read k f behind lives)
client_gathers opened k (CallSubmitted p a) lives = refl
client_gathers opened k (MemoryRevoked p xid) lives = refl
client_gathers opened k (CallExecuted e) lives = refl
client_gathers opened k (QueueWritten taken) lives = refl
client_gathers opened k (ServerTold what) lives = refl

pub keeps_nothing : (opened : LinkParameters) → ClientKeeps opened [] 0 (initial_client opened).state
keeps_nothing opened = record { settled = tt; owns = tt; backed = tt }

-- ---- After the events of a client

pub keeps_along : (opened : LinkParameters) (es : List RunEvent) → GoesOn (client_rules opened) (ClientGood opened) 0 (initial_client opened) es → KeepsAt opened es (places_after 0 es) (end_state_after (client_rules opened) (initial_client opened) es)
keeps_along opened es g =
    along (client_rules opened) (λ k e. []) (λ end. []) (ClientGood opened) (λ es place r outs. KeepsAt opened es place r)
    (λ es place r outs e next good p.
    let numbers : ClientNumbers opened r.state = subst (λ (x : EndState ClientState). ClientNumbers opened x.state) (sym p.state) (client_numbers opened es) in
    record {
      state = ap (λ (x : EndState ClientState). next_end_state (client_rules opened) x e) p.state ∙ sym (end_state_after_append (client_rules opened) (initial_client opened) es (e ∷ []));
      keeps = keeps_step opened es place r.state r.ended e next good numbers.regions numbers.next (ap (λ (x : EndState ClientState). x.state) p.state) p.keeps;
    })
    [] 0 (initial_client opened) [] es g (record { state = refl; keeps = keeps_nothing opened })
