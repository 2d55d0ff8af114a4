-- The regions of a call in the state of its client: those that its plan offers, in the order in which they are offered.
use Rattle.std.proofs.Common.{◌≡◌, ℕ, ◌+◌, ◌<◌, ◌≤◌, Bool, true, false, not, cond, eqb, List, [], ◌∷◌, ◌++◌, map, Option, None, Some, Result, Ok, Err, refl, sym, ap, subst, ◌∙◌, arith, append-nil}
use Rattle.std.specs.List.{AllByRecursion, filter}
use Rattle.std.proofs.lemmas.Bool.{eqb-true}
use Rattle.nr_xdr.specs.Fields.{word_at}
use Rattle.nr_wire.specs.Segment.{Segment}
use Rattle.nr_link.specs.declared.end.End.{End}
use Rattle.nr_link.specs.Frames.{Frame, is_hello}
use Rattle.nr_link.specs.ReceiveState.{ReadRequest, message_completed, read_request_of}
use Rattle.nr_reduce.specs.declared.call.Submission.TheVariants as submissions
use Rattle.nr_reduce.specs.declared.mark.Mark.TheVariants as marks
use Rattle.nr_reduce.specs.declared.mark.LinkParameters.{LinkParameters}
use Rattle.nr_reduce.specs.Plans.{Buffer, buffers}
use Rattle.nr_reduce.specs.OfferedRegions.{Region, closed_if, regions_closed}
use Rattle.nr_reduce.specs.History.{AcceptedCall}
use Rattle.nr_reduce.specs.Events.{RunEvent, if_own}
use Rattle.nr_reduce.specs.Events.RunEvent.{FrameReceived, CallSubmitted, MemoryRevoked, CallExecuted, QueueWritten, ServerTold}
use Rattle.nr_reduce.specs.EndRules.{EndState, next_end_state, next_end_state_by, next_end_state_in, end_state_after}
use Rattle.nr_reduce.specs.ClientState.{ClientState, OutstandingCall, region_of}
use Rattle.nr_reduce.specs.Client.{client_rules, client_segment, client_end, client_state_after, outstanding_of, revoked_call, with_message, with_request, with_segment, with_hello, due_with_response}
use Rattle.nr_reduce.proofs.Placing.{segment_next}
use Rattle.nr_reduce.proofs.Standing.{itself}
use Rattle.nr_reduce.specs.KeptCalls.{numbered_from, numbered_calls}
use Rattle.nr_reduce.proofs.Numbered.{numbered_revoked}
use Rattle.nr_requester.specs.CallRegions.{call_stags, AreOfBefore, OffersPlan, CallsOffer}

pick : (b : Bool) (x y : Region) (xs ys : List Region) → x.stag ≡ y.stag → map (λ (r : Region). r.stag) xs ≡ map (λ (r : Region). r.stag) ys →
    map (λ (r : Region). r.stag) (cond b (x ∷ xs) xs) ≡ map (λ (r : Region). r.stag) (cond b (y ∷ ys) ys)
pick true x y xs ys e h = λ i. e i ∷ h i
pick false x y xs ys e h = h

-- ---- Regions that are closed

pub stags_closed : (test : Region → Bool) (place xid : ℕ) (rs : List Region) → call_stags xid (regions_closed test place rs) ≡ call_stags xid rs
unfolding regions_closed
stags_closed test place xid [] = refl
stags_closed test place xid (r ∷ rs) = by (test r) (stags_closed test place xid rs)
  where
    by : (b : Bool) → call_stags xid (map (λ r. closed_if (test r) place r) rs) ≡ call_stags xid rs → call_stags xid (closed_if b place r ∷ map (λ r. closed_if (test r) place r) rs) ≡ call_stags xid (r ∷ rs)
    by true rest = pick (eqb r.call xid) (closed_if true place r) r (filter (λ r. eqb r.call xid) (map (λ r. closed_if (test r) place r) rs)) (filter (λ r. eqb r.call xid) rs) refl rest
    by false rest = pick (eqb r.call xid) r r (filter (λ r. eqb r.call xid) (map (λ r. closed_if (test r) place r) rs)) (filter (λ r. eqb r.call xid) rs) refl rest

before_closed : (test : Region → Bool) (place next : ℕ) (rs : List Region) → AreOfBefore next rs → AreOfBefore next (regions_closed test place rs)
unfolding regions_closed
before_closed test place next [] h = tt
before_closed test place next (r ∷ rs) h = (by (test r), before_closed test place next rs h.1)
  where
    by : (b : Bool) → (closed_if b place r).call < next
    by true = h.0
    by false = h.0

-- ---- Regions more

differ : (a b : ℕ) → a < b → eqb a b ≡ false
differ a b lt = by (eqb a b) refl
  where
    by : (x : Bool) → eqb a b ≡ x → eqb a b ≡ false
    by false is = is
    by true is = absurd (let same : a ≡ b = eqb-true a b is in omega (arith, same, lt))

differ_above : (a b : ℕ) → b < a → eqb a b ≡ false
differ_above a b lt = by (eqb a b) refl
  where
    by : (x : Bool) → eqb a b ≡ x → eqb a b ≡ false
    by false is = is
    by true is = absurd (let same : a ≡ b = eqb-true a b is in omega (arith, same, lt))

none_before : (next xid : ℕ) (rs : List Region) → next ≤ xid → AreOfBefore next rs → call_stags xid rs ≡ []
none_before next xid [] le h = refl
none_before next xid (r ∷ rs) le h =
    ap (λ (b : Bool). map (λ (x : Region). x.stag) (cond b (r ∷ filter (λ x. eqb x.call xid) rs) (filter (λ x. eqb x.call xid) rs))) (differ r.call xid (let lt = h.0 in omega (arith, lt, le)))
    ∙ none_before next xid rs le h.1

stags_append : (xid : ℕ) (xs ys : List Region) → call_stags xid (xs ++ ys) ≡ call_stags xid xs ++ call_stags xid ys
stags_append xid [] ys = refl
stags_append xid (x ∷ xs) ys = by (eqb x.call xid) (stags_append xid xs ys)
  where
    by : (b : Bool) → call_stags xid (xs ++ ys) ≡ call_stags xid xs ++ call_stags xid ys →
        map (λ (r : Region). r.stag) (cond b (x ∷ filter (λ r. eqb r.call xid) (xs ++ ys)) (filter (λ r. eqb r.call xid) (xs ++ ys)))
        ≡ map (λ (r : Region). r.stag) (cond b (x ∷ filter (λ r. eqb r.call xid) xs) (filter (λ r. eqb r.call xid) xs)) ++ call_stags xid ys
    by true rest = ap (λ (ss : List ℕ). x.stag ∷ ss) rest
    by false rest = rest

stags_own : (xid place : ℕ) (bs : List Buffer) → call_stags xid (map (region_of xid place) bs) ≡ map (λ (b : Buffer). b.stag) bs
stags_own xid place [] = refl
stags_own xid place (b ∷ bs) =
    ap (λ (x : Bool). map (λ (r : Region). r.stag) (cond x (region_of xid place b ∷ filter (λ r. eqb r.call xid) (map (region_of xid place) bs)) (filter (λ r. eqb r.call xid) (map (region_of xid place) bs)))) (itself xid)
    ∙ ap (λ (ss : List ℕ). b.stag ∷ ss) (stags_own xid place bs)

stags_other : (own xid place : ℕ) (bs : List Buffer) → eqb own xid ≡ false → call_stags xid (map (region_of own place) bs) ≡ []
stags_other own xid place [] e = refl
stags_other own xid place (b ∷ bs) e =
    ap (λ (x : Bool). map (λ (r : Region). r.stag) (cond x (region_of own place b ∷ filter (λ r. eqb r.call xid) (map (region_of own place) bs)) (filter (λ r. eqb r.call xid) (map (region_of own place) bs)))) e
    ∙ stags_other own xid place bs e

before_more : (next : ℕ) (xs ys : List Region) → AreOfBefore next xs → AreOfBefore (next + 1) ys → AreOfBefore (next + 1) (xs ++ ys)
before_more next [] ys h more = more
before_more next (x ∷ xs) ys h more = ((let lt = h.0 in omega (arith, lt)), before_more next xs ys h.1 more)

before_own : (next place : ℕ) (bs : List Buffer) → AreOfBefore (next + 1) (map (region_of next place) bs)
before_own next place [] = tt
before_own next place (b ∷ bs) = (omega arith, before_own next place bs)

-- ---- What holds of a client

calls_closed : (test : Region → Bool) (place next : ℕ) (rs : List Region) (os : List OutstandingCall) → AllByRecursion (OffersPlan next rs) os → AllByRecursion (OffersPlan next (regions_closed test place rs)) os
calls_closed test place next rs [] h = tt
calls_closed test place next rs (o ∷ os) h = ((h.0.0, stags_closed test place o.xid rs ∙ h.0.1), calls_closed test place next rs os h.1)

calls_without : (xid next : ℕ) (rs : List Region) (os : List OutstandingCall) → AllByRecursion (OffersPlan next rs) os → AllByRecursion (OffersPlan next rs) (filter (λ o. not (eqb o.xid xid)) os)
calls_without xid next rs [] h = tt
calls_without xid next rs (o ∷ os) h = by (not (eqb o.xid xid)) (calls_without xid next rs os h.1)
  where
    by : (b : Bool) → AllByRecursion (OffersPlan next rs) (filter (λ o. not (eqb o.xid xid)) os) → AllByRecursion (OffersPlan next rs) (cond b (o ∷ filter (λ o. not (eqb o.xid xid)) os) (filter (λ o. not (eqb o.xid xid)) os))
    by true rest = (h.0, rest)
    by false rest = rest

calls_revoked : (xid next : ℕ) (rs : List Region) (os : List OutstandingCall) → AllByRecursion (OffersPlan next rs) os → AllByRecursion (OffersPlan next rs) (map (revoked_call xid) os)
calls_revoked xid next rs [] h = tt
calls_revoked xid next rs (o ∷ os) h = (by (eqb o.xid xid), calls_revoked xid next rs os h.1)
  where
    by : (b : Bool) → OffersPlan next rs (cond b (record o { is_revoked = true }) o)
    by true = h.0
    by false = h.0

calls_more : (next place : ℕ) (rs : List Region) (bs : List Buffer) (os : List OutstandingCall) (o : OutstandingCall) → AreOfBefore next rs → o.xid ≡ next → bs ≡ buffers o.stag o.plan → AllByRecursion (OffersPlan next rs) os →
    AllByRecursion (OffersPlan (next + 1) (rs ++ map (region_of next place) bs)) (os ++ o ∷ [])
calls_more next place rs bs [] o before own is h = (
  (
    omega (arith, own),
    ap (λ (x : ℕ). call_stags x (rs ++ map (region_of next place) bs)) own
        ∙ stags_append next rs (map (region_of next place) bs)
        ∙ ap (λ (ss : List ℕ). ss ++ call_stags next (map (region_of next place) bs)) (none_before next next rs (omega arith) before)
        ∙ stags_own next place bs
        ∙ ap (λ (xs : List Buffer). map (λ (b : Buffer). b.stag) xs) is,
  ),
  tt,
)
calls_more next place rs bs (x ∷ xs) o before own is h =
    let lt : x.xid < next = h.0.0 in (
      (
        omega (arith, lt),
        stags_append x.xid rs (map (region_of next place) bs)
            ∙ ap (λ (ss : List ℕ). call_stags x.xid rs ++ ss) (stags_other next x.xid place bs (differ_above next x.xid lt))
            ∙ append-nil (call_stags x.xid rs)
            ∙ h.0.1,
      ),
      calls_more next place rs bs xs o before own is h.1,
    )

-- ---- Its events

all_left : (P : OutstandingCall → Type 0) (xs ys : List OutstandingCall) → AllByRecursion P (xs ++ ys) → AllByRecursion P xs
all_left P [] ys h = tt
all_left P (x ∷ xs) ys h = (h.0, all_left P xs ys h.1)

all_right : (P : OutstandingCall → Type 0) (xs ys : List OutstandingCall) → AllByRecursion P (xs ++ ys) → AllByRecursion P ys
all_right P [] ys h = h
all_right P (x ∷ xs) ys h = all_right P xs ys h.1

all_joined : (P : OutstandingCall → Type 0) (xs ys : List OutstandingCall) → AllByRecursion P xs → AllByRecursion P ys → AllByRecursion P (xs ++ ys)
all_joined P [] ys h g = g
all_joined P (x ∷ xs) ys h g = (h.0, all_joined P xs ys h.1 g)

message_offers : (next : ℕ) (k : ClientState) (place : ℕ) (message : Option (List ℕ)) → CallsOffer next k → CallsOffer next (with_message k place message)
message_offers next k place None h = h
message_offers next k place (Some message) h = record {
  before = before_closed (λ r. eqb r.call (word_at 0 message)) place next k.regions h.before;
  calls = calls_closed (λ r. eqb r.call (word_at 0 message)) place next k.regions (filter (λ o. not (eqb o.xid (word_at 0 message))) k.outstanding ++ numbered_from k.sends k.waiting)
      (all_joined (OffersPlan next k.regions) (filter (λ o. not (eqb o.xid (word_at 0 message))) k.outstanding) (numbered_from k.sends k.waiting)
      (calls_without (word_at 0 message) next k.regions k.outstanding (all_left (OffersPlan next k.regions) k.outstanding (numbered_from k.sends k.waiting) h.calls))
      (all_right (OffersPlan next k.regions) k.outstanding (numbered_from k.sends k.waiting) h.calls));
}

request_offers : (next : ℕ) (k : ClientState) (due : ℕ) (r : Option ReadRequest) → CallsOffer next k → CallsOffer next (with_request k due r)
request_offers next k due None h = h
request_offers next k due (Some r) h = record { before = h.before; calls = h.calls }

segment_offers : (next : ℕ) (k : ClientState) (f : Frame) (r : Result Segment ℕ) → CallsOffer next k → CallsOffer next (with_segment k f r)
segment_offers next k f (Err reason) h = h
segment_offers next k f (Ok segment) h =
    let m = request_offers next (with_message k f.end (message_completed k.received segment)) (due_with_response k f segment) (read_request_of segment)
    (message_offers next k f.end (message_completed k.received segment) h) in record { before = m.before; calls = m.calls }

frame_offers : (opened : LinkParameters) (next : ℕ) (k : ClientState) (f : Frame) (b : Bool) → CallsOffer next k → CallsOffer next (cond b (with_hello opened k f) (with_segment k f (client_segment k f)))
frame_offers opened next k f true h = record { before = h.before; calls = h.calls }
frame_offers opened next k f false h = segment_offers next k f (client_segment k f) h

-- no Submit is among some events
abbrev pub SubmitsNothing : RunEvent → Type 0
SubmitsNothing (FrameReceived f) = Unit {0}
SubmitsNothing (CallSubmitted place a) = ⊥
SubmitsNothing (MemoryRevoked place xid) = Unit {0}
SubmitsNothing (CallExecuted call) = Unit {0}
SubmitsNothing (QueueWritten taken) = Unit {0}
SubmitsNothing (ServerTold what) = Unit {0}

abbrev pub SubmitNothing : List RunEvent → Type 0
SubmitNothing [] = Unit {0}
SubmitNothing (event ∷ es) = SubmitsNothing event × SubmitNothing es

-- what holds after some events
abbrev pub Offers : LinkParameters → ClientState → Type 0
Offers opened k = CallsOffer k.next_xid k

frame_next : (opened : LinkParameters) (k : ClientState) (f : Frame) (b : Bool) → (cond b (with_hello opened k f) (with_segment k f (client_segment k f))).next_xid ≡ k.next_xid
frame_next opened k f true = refl
frame_next opened k f false = segment_next k f (client_segment k f)

pub event_offers : (opened : LinkParameters) (k : ClientState) (event : RunEvent) → SubmitsNothing event → Offers opened k → Offers opened (client_state_after opened k event)
unfolding client_state_after
event_offers opened k (FrameReceived f) none h =
    let after : ClientState = cond (is_hello f) (with_hello opened k f) (with_segment k f (client_segment k f)) in
    subst (λ (n : ℕ). CallsOffer n after) (sym (frame_next opened k f (is_hello f))) (frame_offers opened k.next_xid k f (is_hello f) h)
event_offers opened k (CallSubmitted place a) none h = absurd none
event_offers opened k (MemoryRevoked place xid) none h = record {
  before = before_closed (λ r. eqb r.call xid) place k.next_xid k.regions h.before;
  calls = subst (λ (os : List OutstandingCall). AllByRecursion (OffersPlan k.next_xid (regions_closed (λ r. eqb r.call xid) place k.regions)) os) (numbered_revoked xid k)
      (calls_closed (λ r. eqb r.call xid) place k.next_xid k.regions (map (revoked_call xid) (numbered_calls k)) (calls_revoked xid k.next_xid k.regions (numbered_calls k) h.calls));
}
event_offers opened k (CallExecuted call) none h = h
event_offers opened k (QueueWritten taken) none h = record { before = h.before; calls = h.calls }
event_offers opened k (ServerTold what) none h = h

pub next_offers : (opened : LinkParameters) (r : EndState ClientState) (event : RunEvent) → SubmitsNothing event → Offers opened r.state → Offers opened (next_end_state (client_rules opened) r event).state
next_offers opened r event none h = by_end r.state r.ended h
  where
    by_why : (k : ClientState) (why : Option End) → Offers opened k → Offers opened (next_end_state_by (client_rules opened) k event why).state
    by_why k None g = event_offers opened k event none g
    by_why k (Some end) g = g

    by_end : (k : ClientState) (ended : Option End) → Offers opened k → Offers opened (next_end_state_in (client_rules opened) k event ended).state
    by_end k None g = by_why k (client_end k event) g
    by_end k (Some end) g = g

pub all_offer : (opened : LinkParameters) (r : EndState ClientState) (es : List RunEvent) → SubmitNothing es → Offers opened r.state → Offers opened (end_state_after (client_rules opened) r es).state
all_offer opened r [] none h = h
all_offer opened r (event ∷ es) none h = all_offer opened (next_end_state (client_rules opened) r event) es none.1 (next_offers opened r event none.0 h)

pub none_if : (b : Bool) (es : List RunEvent) → SubmitNothing es → SubmitNothing (if_own b es)
none_if true es h = h
none_if false es h = tt

pub none_in_frames : (fs : List Frame) → SubmitNothing (map FrameReceived fs)
none_in_frames [] = tt
none_in_frames (f ∷ fs) = (tt, none_in_frames fs)

-- a client to which no call waits to be sent again
abbrev pub unwaiting : ClientState → ClientState
unwaiting any = record any { waiting = [] }

unwaiting_offers : (opened : LinkParameters) (any : ClientState) (ended : Option End) (place : ℕ) (a : AcceptedCall) → a.xid ≡ any.next_xid → Offers opened (unwaiting any) →
    Offers opened (next_end_state_in (client_rules opened) (unwaiting any) (CallSubmitted place a) ended).state
unfolding client_state_after client_end
unwaiting_offers opened any None place a own h =
    let k : ClientState = unwaiting any in
    let n : ℕ = k.next_xid in
    let o : OutstandingCall = outstanding_of k a in
    let bs : List Buffer = buffers k.stag o.plan in
    let before : AllByRecursion (OffersPlan n k.regions) k.outstanding = subst (λ (os : List OutstandingCall). AllByRecursion (OffersPlan n k.regions) os) (append-nil k.outstanding) h.calls in
    let more : AllByRecursion (OffersPlan (n + 1) (k.regions ++ map (region_of n place) bs)) (k.outstanding ++ o ∷ []) = calls_more n place k.regions bs k.outstanding o h.before own refl before in
    record {
      before = subst (λ (x : ℕ). AreOfBefore (n + 1) (k.regions ++ map (region_of x place) bs)) (sym own) (before_more n k.regions (map (region_of n place) bs) h.before (before_own n place bs));
      calls = subst (λ (x : ℕ). AllByRecursion (OffersPlan (n + 1) (k.regions ++ map (region_of x place) bs)) ((k.outstanding ++ o ∷ []) ++ [])) (sym own)
          (subst (λ (os : List OutstandingCall). AllByRecursion (OffersPlan (n + 1) (k.regions ++ map (region_of n place) bs)) os) (sym (append-nil (k.outstanding ++ o ∷ []))) more);
    }
unwaiting_offers opened any (Some end) place a own h = h

pub submit_offers : (opened : LinkParameters) (k : ClientState) (ended : Option End) (place : ℕ) (a : AcceptedCall) → k.waiting ≡ [] → a.xid ≡ k.next_xid → Offers opened k →
    Offers opened (next_end_state_in (client_rules opened) k (CallSubmitted place a) ended).state
submit_offers opened k ended place a none own h =
    let same : unwaiting k ≡ k = (λ i. record k { waiting = sym none i }) in
    subst (λ (x : ClientState). Offers opened (next_end_state_in (client_rules opened) x (CallSubmitted place a) ended).state) same
    (unwaiting_offers opened k ended place a own (subst (λ (x : ClientState). Offers opened x) (sym same) h))
