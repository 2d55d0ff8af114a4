-- Each region of a client is a chunk of a call that it accepted, or sends again.
use Rattle.std.proofs.Common.{◌≡◌, ℕ, zero, suc, ◌<◌, Bool, true, false, cond, List, [], ◌∷◌, ◌++◌, length, map, Option, None, Some, refl, sym, ap, subst, ◌∙◌, arith, append_assoc, append-nil, ◌+◌, eqb-true}
use Rattle.std.specs.Prelude.{slice_index_or, Contains}
use Rattle.nr_wire.specs.declared.hello.Side.TheVariants.{Initiator}
use Rattle.nr_link.specs.declared.end.End.{End as Stop}
use Rattle.nr_link.specs.Frames.{Frame, is_hello}
use Rattle.nr_reduce.specs.declared.mark.LinkParameters.{LinkParameters}
use Rattle.nr_reduce.specs.Plans.{Buffer, buffers, regions_needed}
use Rattle.nr_reduce.specs.Events.{RunEvent, events}
use Rattle.nr_reduce.specs.Events.RunEvent.{FrameReceived, CallSubmitted, MemoryRevoked, CallExecuted, QueueWritten, ServerTold}
use Rattle.nr_reduce.specs.EndRules.{EndState, next_end_state, next_end_state_by, next_end_state_in, end_state_after}
use Rattle.nr_reduce.specs.OfferedRegions.{Region, closed_if, regions_closed}
use Rattle.nr_reduce.specs.ClientState.{ClientState, region_of, WaitingCall, first_of, others_than, waiting_call, waiting_from, waiting_regions}
use Rattle.nr_reduce.specs.Client.{client_segment, client_rules, client_end, client_state_after, initial_client, outstanding_of, with_segment, with_hello, due_with_response, revoked_waiting, is_revoked_waiting, regions_unless_waiting}
use Rattle.nr_reduce.specs.Run.{client}
use Rattle.nr_reduce.proofs.Steps.{end_state_after_append}
use Rattle.nr_reduce.proofs.OwnStags.{kept_after}
use Rattle.std.proofs.Common.{not, eqb, inl, inr, ◌⊎◌, Result, Ok, Err}
use Rattle.std.specs.List.{filter}
use Rattle.nr_xdr.specs.Fields.{word_at}
use Rattle.nr_wire.specs.Segment.{Segment}
use Rattle.nr_link.specs.ReceiveState.{ReadRequest, message_completed, read_request_of}
use Rattle.nr_reduce.specs.OfferedRegions.{until_at}
use Rattle.nr_reduce.specs.ClientState.{OutstandingCall}
use Rattle.nr_reduce.specs.Client.{with_message, with_request, revoked_call}
use Rattle.nr_laws.specs.ClientRegions.{IsChunkOfCall, ClientRegionsAreChunks, LiveClientRegionsAreOutstanding, IsChunkOfResumed, HasOutstandingCall}
use Rattle.nr_laws.proofs.Revoked.{frame_regions}
use Rattle.nr_reduce.specs.History.{AcceptedCall}
use Rattle.nr_reduce.specs.declared.mark.ResumedCall.{ResumedCall}

abbrev AllOf : (Region → Type 0) → List Region → Type 0
AllOf P [] = Unit {0}
AllOf P (r ∷ regions) = P r × AllOf P regions

all_append : (P : Region → Type 0) (xs ys : List Region) → AllOf P xs → AllOf P ys → AllOf P (xs ++ ys)
all_append P [] ys h k = k
all_append P (x ∷ xs) ys h k = (h.0, all_append P xs ys h.1 k)

all_map_lem : (P Q : Region → Type 0) → ((r : Region) → P r → Q r) → (xs : List Region) → AllOf P xs → AllOf Q xs
all_map_lem P Q f [] h = tt
all_map_lem P Q f (x ∷ xs) h = (f x h.0, all_map_lem P Q f xs h.1)

all_at : (P : Region → Type 0) (k : ℕ) (xs : List Region) (r : Region) → AllOf P xs → k < length xs → slice_index_or xs k r ≡ r → P r
all_at P k [] r h lt is = absurd (omega (arith, lt))
all_at P zero (x ∷ xs) r h lt is = subst P is h.0
all_at P (suc k) (x ∷ xs) r h lt is = all_at P k xs r h.1 (omega (arith, lt)) is

all_closed_lem : (P : Region → Type 0) → ((b : Bool) (place : ℕ) (r : Region) → P r → P (closed_if b place r)) → (test : Region → Bool) (place : ℕ) (xs : List Region) → AllOf P xs → AllOf P (regions_closed test place xs)
unfolding regions_closed
all_closed_lem P keeps test place [] h = tt
all_closed_lem P keeps test place (x ∷ xs) h = (keeps (test x) place x h.0, all_closed_lem P keeps test place xs h.1)

middle : (pre : List Region) (x : Region) (post : List Region) → Contains (pre ++ x ∷ post) x
middle [] x post = (zero, omega (arith), refl)
middle (p ∷ pre) x post = (let m = middle pre x post in (suc m.0, (let lt = m.1 in omega (arith, lt)), m.2))

new_chunks : (xid place : ℕ) (all pre : List Region) (bs : List Buffer) → all ≡ pre ++ map (region_of xid place) bs → AllOf (λ (r : Region). Contains all (record r { until = None })) (map (region_of xid place) bs)
new_chunks xid place all pre [] is = tt
new_chunks xid place all pre (b ∷ bs) is = (
  subst (λ (xs : List Region). Contains xs (region_of xid place b)) (sym is) (middle pre (region_of xid place b) (map (region_of xid place) bs)),
  new_chunks xid place all (pre ++ region_of xid place b ∷ []) bs (is ∙ sym (append_assoc pre (region_of xid place b ∷ []) (map (region_of xid place) bs))),
)

-- the same of a part of all regions
new_chunks_in : (xid place : ℕ) (all pre post : List Region) (bs : List Buffer) → all ≡ pre ++ (map (region_of xid place) bs ++ post) → AllOf (λ (r : Region). Contains all (record r { until = None })) (map (region_of xid place) bs)
new_chunks_in xid place all pre post [] is = tt
new_chunks_in xid place all pre post (b ∷ bs) is = (
  subst (λ (xs : List Region). Contains xs (region_of xid place b)) (sym is) (middle pre (region_of xid place b) (map (region_of xid place) bs ++ post)),
  new_chunks_in xid place all (pre ++ region_of xid place b ∷ []) post bs (is ∙ sym (append_assoc pre (region_of xid place b ∷ []) (map (region_of xid place) bs ++ post))),
)

resumed_chunks : (all pre : List Region) (ws : List WaitingCall) → all ≡ pre ++ waiting_regions ws → AllOf (λ (r : Region). Contains all (record r { until = None })) (waiting_regions ws)
resumed_chunks all pre [] is = tt
resumed_chunks all pre (w ∷ ws) is =
    let own : List Region = map (region_of w.xid 0) (buffers w.stag w.plan) in
    let later : List Region = waiting_regions ws in
    all_append (λ (r : Region). Contains all (record r { until = None })) own later (new_chunks_in w.xid 0 all pre later (buffers w.stag w.plan) is) (resumed_chunks all (pre ++ own) ws (is ∙ sym (append_assoc pre own later)))

chunk_more : (opened : LinkParameters) (es more : List RunEvent) (r : Region) → IsChunkOfCall opened es r → IsChunkOfCall opened (es ++ more) r
chunk_more opened es more r h = record {
  earlier = h.earlier;
  later = h.later ++ more;
  place = h.place;
  call = h.call;
  is_submitted = ap (λ (xs : List RunEvent). xs ++ more) h.is_submitted ∙ append_assoc h.earlier (CallSubmitted h.place h.call ∷ h.later) more;
  chunk = h.chunk;
}

chunk_closed : (opened : LinkParameters) (es : List RunEvent) (b : Bool) (place : ℕ) (r : Region) → IsChunkOfCall opened es r → IsChunkOfCall opened es (closed_if b place r)
chunk_closed opened es false place r h = h
chunk_closed opened es true place r h = record { earlier = h.earlier; later = h.later; place = h.place; call = h.call; is_submitted = h.is_submitted; chunk = h.chunk }

abbrev IsChunk : LinkParameters → List RunEvent → Region → Type 0
IsChunk opened es r = IsChunkOfCall opened es r ⊎ IsChunkOfResumed opened r

still_chunk : (opened : LinkParameters) (es more : List RunEvent) (r : Region) → IsChunk opened es r → IsChunk opened (es ++ more) r
still_chunk opened es more r (inl h) = inl (chunk_more opened es more r h)
still_chunk opened es more r (inr h) = inr h

closed_chunk : (opened : LinkParameters) (es : List RunEvent) (b : Bool) (place : ℕ) (r : Region) → IsChunk opened es r → IsChunk opened es (closed_if b place r)
closed_chunk opened es b place r (inl h) = inl (chunk_closed opened es b place r h)
closed_chunk opened es false place r (inr h) = inr h
closed_chunk opened es true place r (inr h) = inr h

first_chunks : (opened : LinkParameters) → AllOf (IsChunk opened []) (waiting_regions (waiting_from opened.first_stag opened.resumed))
first_chunks opened =
    let all : List Region = waiting_regions (waiting_from opened.first_stag opened.resumed) in
    all_map_lem (λ (r : Region). Contains all (record r { until = None })) (IsChunk opened []) (λ r c. inr c) all (resumed_chunks all [] (waiting_from opened.first_stag opened.resumed) refl)

abbrev state_at : LinkParameters → List RunEvent → EndState ClientState
state_at opened es = end_state_after (client_rules opened) (initial_client opened) es

one_event : (opened : LinkParameters) (es : List RunEvent) (e : RunEvent) → AllOf (IsChunk opened es) (state_at opened es).state.regions
    → AllOf (IsChunk opened (es ++ e ∷ [])) (next_end_state (client_rules opened) (state_at opened es) e).state.regions
unfolding client_state_after
one_event opened es e h = by_ended (state_at opened es).ended
  where
    k : ClientState
    k = (state_at opened es).state

    P : Region → Type 0
    P = IsChunk opened (es ++ e ∷ [])

    same : AllOf P k.regions
    same = all_map_lem (IsChunk opened es) P (still_chunk opened es (e ∷ [])) k.regions h

    new_ones : (place : ℕ) (a : AcceptedCall) → e ≡ CallSubmitted place a → (w : Option WaitingCall) → waiting_call k a.xid ≡ w → AllOf P (regions_unless_waiting w place (outstanding_of k a))
    new_ones place a is None own =
        let new : List Region = map (region_of a.xid place) (buffers (outstanding_of k a).stag (outstanding_of k a).plan) in
        all_map_lem (λ (r : Region). Contains new (record r { until = None })) P
        (λ r c. inl (record {
          earlier = es;
          later = [];
          place = place;
          call = a;
          is_submitted = ap (λ (x : RunEvent). es ++ x ∷ []) is;
          chunk = subst (λ (w : Option WaitingCall). Contains (regions_unless_waiting w place (outstanding_of k a)) (record r { until = None })) (sym own) c;
        }))
        new (new_chunks a.xid place new [] (buffers (outstanding_of k a).stag (outstanding_of k a).plan) refl)
    new_ones place a is (Some w) own = tt

    by_event : (x : RunEvent) → e ≡ x → AllOf P (client_state_after opened k x).regions
    by_event (FrameReceived f) is = by_hello (is_hello f)
      where
        by_hello : (b : Bool) → AllOf P (cond b (with_hello opened k f) (with_segment k f (client_segment k f))).regions
        by_hello true = same
        by_hello false = frame_regions (AllOf P) k f (λ test g. all_closed_lem P (closed_chunk opened (es ++ e ∷ [])) test f.end k.regions g) same (client_segment k f)
    by_event (CallSubmitted place a) is = all_append P k.regions (regions_unless_waiting (waiting_call k a.xid) place (outstanding_of k a)) same (new_ones place a is (waiting_call k a.xid) refl)
    by_event (MemoryRevoked place xid) is = all_closed_lem P (closed_chunk opened (es ++ e ∷ [])) _ place k.regions same
    by_event (CallExecuted call) is = same
    by_event (QueueWritten taken) is = same
    by_event (ServerTold what) is = same

    by_why : (o : Option Stop) → AllOf P (next_end_state_by (client_rules opened) k e o).state.regions
    by_why None = by_event e refl
    by_why (Some end) = same

    by_ended : (o : Option Stop) → AllOf P (next_end_state_in (client_rules opened) k e o).state.regions
    by_ended None = by_why (client_end k e)
    by_ended (Some end) = same

all_events : (opened : LinkParameters) (front es : List RunEvent) → AllOf (IsChunk opened front) (state_at opened front).state.regions → AllOf (IsChunk opened (front ++ es)) (state_at opened (front ++ es)).state.regions
all_events opened front [] h = subst (λ (xs : List RunEvent). AllOf (IsChunk opened xs) (state_at opened xs).state.regions) (sym (append-nil front)) h
all_events opened front (e ∷ es) h =
    let one = subst (λ (r : EndState ClientState). AllOf (IsChunk opened (front ++ e ∷ [])) r.state.regions) (sym (end_state_after_append (client_rules opened) (initial_client opened) front (e ∷ []))) (one_event opened front e h) in
    subst (λ (xs : List RunEvent). AllOf (IsChunk opened xs) (state_at opened xs).state.regions) (append_assoc front (e ∷ []) es) (all_events opened (front ++ e ∷ []) es one)

pub client_regions_are_chunks : ClientRegionsAreChunks
unfolding client
client_regions_are_chunks opened link run r there =
    all_at (IsChunk opened (events link Initiator run)) there.0 _ r (all_events opened [] (events link Initiator run) (first_chunks opened)) there.1 there.2

-- ---- Until when they are live

abbrev HasCall : ℕ → List OutstandingCall → Type 0
HasCall xid [] = ⊥
HasCall xid (o ∷ os) = ((o.xid ≡ xid) × (o.is_revoked ≡ false)) ⊎ HasCall xid os

abbrev HasWait : ℕ → List WaitingCall → Type 0
HasWait xid [] = ⊥
HasWait xid (w ∷ ws) = ((w.xid ≡ xid) × (w.is_revoked ≡ false)) ⊎ HasWait xid ws

-- a live region is of a call that is outstanding, or waits to be sent again
abbrev IsHad : List OutstandingCall → List WaitingCall → ℕ → Type 0
IsHad os ws xid = HasCall xid os ⊎ HasWait xid ws

abbrev Lives : List OutstandingCall → List WaitingCall → Region → Type 0
Lives os ws r = r.until ≡ None → IsHad os ws r.call

abbrev AllLive : ClientState → Type 0
AllLive k = AllOf (Lives k.outstanding k.waiting) k.regions

has_more : (xid : ℕ) (os more : List OutstandingCall) → HasCall xid os → HasCall xid (os ++ more)
has_more xid [] more h = absurd h
has_more xid (o ∷ os) more (inl h) = inl h
has_more xid (o ∷ os) more (inr h) = inr (has_more xid os more h)

has_last : (xid : ℕ) (os : List OutstandingCall) (o : OutstandingCall) → o.xid ≡ xid → o.is_revoked ≡ false → HasCall xid (os ++ o ∷ [])
has_last xid [] o own kept = inl (own, kept)
has_last xid (x ∷ os) o own kept = inr (has_last xid os o own kept)

-- a call that is sent again is outstanding, and no other leaves
has_moved : (xid x : ℕ) (os : List OutstandingCall) (o : OutstandingCall) (ws : List WaitingCall) → o.xid ≡ x → o.is_revoked ≡ is_revoked_waiting (first_of ws x) → HasWait xid ws → IsHad (os ++ o ∷ []) (others_than ws x) xid
has_moved xid x os o [] own kept h = absurd h
has_moved xid x os o (w ∷ ws) own kept h = by (eqb w.xid x) refl kept h
  where
    by : (b : Bool) → eqb w.xid x ≡ b → o.is_revoked ≡ is_revoked_waiting (cond b (Some w) None) → HasWait xid (w ∷ ws) → IsHad (os ++ o ∷ []) (cond b ws (w ∷ ws)) xid
    by true e kept (inl h) = inl (has_last xid os o (own ∙ sym (eqb-true w.xid x e) ∙ h.0) (kept ∙ h.1))
    by true e kept (inr h) = inr h
    by false e kept h = inr h

has_still_waiting : (w xid : ℕ) (ws : List WaitingCall) → eqb xid w ≡ false → HasWait xid ws → HasWait xid (map (revoked_waiting w) ws)
has_still_waiting w xid [] other h = absurd h
has_still_waiting w xid (x ∷ ws) other (inl h) = inl (by (eqb x.xid w) (ap (λ (n : ℕ). eqb n w) h.0 ∙ other))
  where
    by : (b : Bool) → b ≡ false → ((cond b (record x { is_revoked = true }) x).xid ≡ xid) × ((cond b (record x { is_revoked = true }) x).is_revoked ≡ false)
    by false e = h
    by true e = absurd cc
has_still_waiting w xid (x ∷ ws) other (inr h) = inr (has_still_waiting w xid ws other h)

has_filtered : (w xid : ℕ) (os : List OutstandingCall) → eqb xid w ≡ false → HasCall xid os → HasCall xid (filter (λ o. not (eqb o.xid w)) os)
has_filtered w xid [] other h = absurd h
has_filtered w xid (o ∷ os) other (inl h) = by (eqb o.xid w) (ap (λ (x : ℕ). eqb x w) h.0 ∙ other)
  where
    by : (b : Bool) → b ≡ false → HasCall xid (cond (not b) (o ∷ filter (λ o. not (eqb o.xid w)) os) (filter (λ o. not (eqb o.xid w)) os))
    by false e = inl h
    by true e = absurd cc
has_filtered w xid (o ∷ os) other (inr h) = by (eqb o.xid w) (has_filtered w xid os other h)
  where
    by : (b : Bool) → HasCall xid (filter (λ o. not (eqb o.xid w)) os) → HasCall xid (cond (not b) (o ∷ filter (λ o. not (eqb o.xid w)) os) (filter (λ o. not (eqb o.xid w)) os))
    by false g = inr g
    by true g = g

has_revoked : (w xid : ℕ) (os : List OutstandingCall) → eqb xid w ≡ false → HasCall xid os → HasCall xid (map (revoked_call w) os)
has_revoked w xid [] other h = absurd h
has_revoked w xid (o ∷ os) other (inl h) = inl (by (eqb o.xid w) (ap (λ (x : ℕ). eqb x w) h.0 ∙ other))
  where
    by : (b : Bool) → b ≡ false → ((cond b (record o { is_revoked = true }) o).xid ≡ xid) × ((cond b (record o { is_revoked = true }) o).is_revoked ≡ false)
    by false e = h
    by true e = absurd cc
has_revoked w xid (o ∷ os) other (inr h) = inr (has_revoked w xid os other h)

lives_closed : (os after : List OutstandingCall) (ws then : List WaitingCall) (w place : ℕ) → ((xid : ℕ) → eqb xid w ≡ false → IsHad os ws xid → IsHad after then xid) → (xs : List Region) → AllOf (Lives os ws) xs → AllOf (Lives after then) (regions_closed (λ r. eqb r.call w) place xs)
unfolding regions_closed
lives_closed os after ws then w place keeps [] h = tt
lives_closed os after ws then w place keeps (r ∷ xs) h = (by (eqb r.call w) refl, lives_closed os after ws then w place keeps xs h.1)
  where
    some : (u : Option ℕ) → until_at place u ≡ None → ⊥
    some None e = (let t : Some place ≡ None = e in cc)
    some (Some u) e = (let t : Some u ≡ None = e in cc)

    by : (b : Bool) → eqb r.call w ≡ b → Lives after then (closed_if b place r)
    by true is = λ none. absurd (some r.until none)
    by false is = λ none. keeps r.call is (h.0 none)

lives_new : (os : List OutstandingCall) (ws : List WaitingCall) (xid place : ℕ) (bs : List Buffer) → IsHad os ws xid → AllOf (Lives os ws) (map (region_of xid place) bs)
lives_new os ws xid place [] h = tt
lives_new os ws xid place (b ∷ bs) h = ((λ none. h), lives_new os ws xid place bs h)

-- at first all wait
lives_more : (os : List OutstandingCall) (w : WaitingCall) (ws : List WaitingCall) (r : Region) → Lives os ws r → Lives os (w ∷ ws) r
lives_more os w ws r h none = by (h none)
  where
    by : IsHad os ws r.call → IsHad os (w ∷ ws) r.call
    by (inl out) = inl out
    by (inr waits) = inr (inr waits)

lives_first : (stag : ℕ) (rs : List ResumedCall) → AllOf (Lives [] (waiting_from stag rs)) (waiting_regions (waiting_from stag rs))
lives_first stag [] = tt
lives_first stag (r ∷ rs) =
    let w : WaitingCall = record { xid = r.xid; call = r.call; form = r.form; plan = r.plan; stag = stag; is_revoked = false } in
    let ws : List WaitingCall = waiting_from (stag + regions_needed r.plan) rs in
    all_append (Lives [] (w ∷ ws)) (map (region_of r.xid 0) (buffers stag r.plan)) (waiting_regions ws) (lives_new [] (w ∷ ws) r.xid 0 (buffers stag r.plan) (inr (inl (refl, refl))))
    (all_map_lem (Lives [] ws) (Lives [] (w ∷ ws)) (lives_more [] w ws) (waiting_regions ws) (lives_first (stag + regions_needed r.plan) rs))

lives_message : (k : ClientState) (place : ℕ) (m : Option (List ℕ)) → AllLive k → AllLive (with_message k place m)
lives_message k place None h = h
lives_message k place (Some m) h = lives_closed k.outstanding (filter (λ o. not (eqb o.xid (word_at 0 m))) k.outstanding) k.waiting k.waiting (word_at 0 m) place keeps k.regions h
  where
    keeps : (xid : ℕ) → eqb xid (word_at 0 m) ≡ false → IsHad k.outstanding k.waiting xid → IsHad (filter (λ o. not (eqb o.xid (word_at 0 m))) k.outstanding) k.waiting xid
    keeps xid other (inl g) = inl (has_filtered (word_at 0 m) xid k.outstanding other g)
    keeps xid other (inr g) = inr g

lives_request : (k : ClientState) (due : ℕ) (q : Option ReadRequest) → AllLive k → AllLive (with_request k due q)
lives_request k due None h = h
lives_request k due (Some q) h = h

lives_segment : (k : ClientState) (f : Frame) (r : Result Segment ℕ) → AllLive k → AllLive (with_segment k f r)
lives_segment k f (Err reason) h = h
lives_segment k f (Ok s) h = lives_request (with_message k f.end (message_completed k.received s)) (due_with_response k f s) (read_request_of s) (lives_message k f.end (message_completed k.received s) h)

lives_after : (opened : LinkParameters) (k : ClientState) (e : RunEvent) → AllLive k → AllLive (client_state_after opened k e)
unfolding client_state_after
lives_after opened k (FrameReceived f) h = by (is_hello f)
  where
    by : (b : Bool) → AllLive (cond b (with_hello opened k f) (with_segment k f (client_segment k f)))
    by true = h
    by false = lives_segment k f (client_segment k f) h
lives_after opened k (CallSubmitted place a) h =
    all_append (Lives os ws) k.regions (regions_unless_waiting (waiting_call k a.xid) place (outstanding_of k a)) (all_map_lem (Lives k.outstanding k.waiting) (Lives os ws) (λ r g none. keeps r.call (g none)) k.regions h) (new_ones (waiting_call k a.xid) refl)
  where
    os : List OutstandingCall
    os = k.outstanding ++ outstanding_of k a ∷ []

    ws : List WaitingCall
    ws = others_than k.waiting a.xid

    keeps : (xid : ℕ) → IsHad k.outstanding k.waiting xid → IsHad os ws xid
    keeps xid (inl g) = inl (has_more xid k.outstanding (outstanding_of k a ∷ []) g)
    keeps xid (inr g) = has_moved xid a.xid k.outstanding (outstanding_of k a) k.waiting refl refl g

    new_ones : (w : Option WaitingCall) → waiting_call k a.xid ≡ w → AllOf (Lives os ws) (regions_unless_waiting w place (outstanding_of k a))
    new_ones None own =
        lives_new os ws a.xid place (buffers (outstanding_of k a).stag (outstanding_of k a).plan)
        (inl (has_last a.xid k.outstanding (outstanding_of k a) refl (ap (λ (w : Option WaitingCall). is_revoked_waiting w) own)))
    new_ones (Some w) own = tt
lives_after opened k (MemoryRevoked place xid) h = lives_closed k.outstanding (map (revoked_call xid) k.outstanding) k.waiting (map (revoked_waiting xid) k.waiting) xid place keeps k.regions h
  where
    keeps : (x : ℕ) → eqb x xid ≡ false → IsHad k.outstanding k.waiting x → IsHad (map (revoked_call xid) k.outstanding) (map (revoked_waiting xid) k.waiting) x
    keeps x other (inl g) = inl (has_revoked xid x k.outstanding other g)
    keeps x other (inr g) = inr (has_still_waiting xid x k.waiting other g)
lives_after opened k (CallExecuted call) h = h
lives_after opened k (QueueWritten taken) h = h
lives_after opened k (ServerTold what) h = h

of_outstanding : (xid : ℕ) (os : List OutstandingCall) → HasCall xid os → (o : OutstandingCall) × (Contains os o × ((o.xid ≡ xid) × (o.is_revoked ≡ false)))
of_outstanding xid [] h = absurd h
of_outstanding xid (o ∷ os) (inl h) = (o, ((zero, omega (arith), refl), h))
of_outstanding xid (o ∷ os) (inr h) = (let m = of_outstanding xid os h in (m.0, ((suc m.1.0.0, (let lt = m.1.0.1 in omega (arith, lt)), m.1.0.2), m.1.1)))

of_waiting : (xid : ℕ) (ws : List WaitingCall) → HasWait xid ws → (w : WaitingCall) × (Contains ws w × ((w.xid ≡ xid) × (w.is_revoked ≡ false)))
of_waiting xid [] h = absurd h
of_waiting xid (w ∷ ws) (inl h) = (w, ((zero, omega (arith), refl), h))
of_waiting xid (w ∷ ws) (inr h) = (let m = of_waiting xid ws h in (m.0, ((suc m.1.0.0, (let lt = m.1.0.1 in omega (arith, lt)), m.1.0.2), m.1.1)))

had : (k : ClientState) (xid : ℕ) → IsHad k.outstanding k.waiting xid → HasOutstandingCall k xid
had k xid (inl h) = (let m = of_outstanding xid k.outstanding h in inl (record { call = m.0; there = m.1.0; own = m.1.1.0; kept = m.1.1.1 }))
had k xid (inr h) = (let m = of_waiting xid k.waiting h in inr (record { call = m.0; there = m.1.0; own = m.1.1.0; kept = m.1.1.1 }))

pub live_client_regions_are_outstanding : LiveClientRegionsAreOutstanding
live_client_regions_are_outstanding opened link run earlier later r is there none =
    let k : ClientState = (state_at opened earlier).state in
    let all : AllLive k = kept_after (client_rules opened) AllLive (lives_after opened) (initial_client opened) earlier (lives_first opened.first_stag opened.resumed) in
    had k r.call (all_at (Lives k.outstanding k.waiting) there.0 k.regions r all there.1 there.2 none)
