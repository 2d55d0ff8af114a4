-- A Send that is refused is never executed: nothing of it is ready, and no call of its number is pending, from the frame on that
-- refuses it.
use Rattle.std.proofs.Common.{◌≡◌, ◌≢◌, ℕ, ◌+◌, ◌-◌, ◌≤◌, Bool, true, false, cond, not, ◌&&◌, ◌||◌, eqb, List, [], ◌∷◌, ◌++◌, length, Option, Some, None, Result, Ok, Err, refl, sym, ap, subst, ◌∙◌, arith, inl, inr}
use Rattle.std.proofs.lemmas.Bool.{eq-eqb, ne_eqb, cases_lt}
use Rattle.std.specs.List.{list_any, filter, find}
use Rattle.nr_wire.specs.declared.hello.Side.TheVariants.{Responder}
use Rattle.nr_wire.specs.Segment.{Segment}
use Rattle.nr_wire.specs.Segment.Segment.{Tagged, Untagged}
use Rattle.nr_link.specs.declared.end.End.{End as Stop}
use Rattle.nr_link.specs.Frames.{Frame, is_hello}
use Rattle.nr_link.specs.ReceiveState.{message_completed}
use Rattle.nr_link.specs.Ending.{frame_segment}
use Rattle.nr_reduce.specs.declared.mark.Mark.{Mark}
use Rattle.nr_reduce.specs.declared.mark.LinkParameters.{LinkParameters}
use Rattle.nr_reduce.specs.Events.{RunEvent, events}
use Rattle.nr_reduce.specs.Events.RunEvent.{FrameReceived, CallSubmitted, MemoryRevoked, CallExecuted, QueueWritten, ServerTold}
use Rattle.nr_reduce.specs.EndRules.{EndState, end_state_after, next_end_state, next_end_state_by, next_end_state_in}
use Rattle.nr_reduce.specs.Plans.{one_if}
use Rattle.nr_reduce.specs.ServerState.{ServerState, ReadyCall, PendingRead, PendingCall}
use Rattle.nr_reduce.specs.ServerReads.{is_read, open_reads}
use Rattle.nr_reduce.specs.ServerMessages.{Verdict, CallVerdict, chunk_bytes, verdict, by_payload, pending_payload}
use Rattle.nr_reduce.specs.ServerMessages.Verdict.{EndsLink, OtherVersion, BadChunks, MakesPending}
use Rattle.nr_reduce.specs.ServerMessages.CallVerdict.{Refuses, IsReady}
use Rattle.nr_reduce.specs.ServerFrames.{FrameEffect, no_effect, with_verdict, ready_if_whole, with_refused_call, read_effect, response_effect, call_of_number, is_stream_read, message_effect, by_message, with_access, effect_in, frame_effect}
use Rattle.nr_reduce.specs.Chunks.{is_read_chunk_of_item}
use Rattle.nr_reduce.specs.Server.{with_effect, received_by, server_state_after, server_end, server_rules, initial_server, with_own_hello}
use Rattle.nr_reduce.specs.Run.{server}
use Rattle.nr_reduce.specs.Served.{IsExecuted, next_call}
use Rattle.nr_reduce.specs.RunLaws.{IsStreamRefused, RefusesSend}
use Rattle.nr_reduce.proofs.Steps.{end_state_after_append, ended_stays}
use Rattle.nr_reduce.proofs.Calls.{refused_effect, refused_call_effect}
use Rattle.nr_reduce.proofs.Once.{times_ready, read_for, times_ready_append, times_ready_drop, ready_times_ready, payload_number, found_number, NumberIs, verdict_number, whole_with, after_goes, Sound, Settled, sound_goes, settled_goes, kept, first_times_ready}

-- ---- A number that no pending call has

abbrev pending_of : ℕ → List PendingCall → Bool
pending_of n calls = list_any (λ c. eqb c.number n) calls

pending_append : (n : ℕ) (xs : List PendingCall) (c : PendingCall) → pending_of n xs ≡ false → eqb c.number n ≡ false → pending_of n (xs ++ c ∷ []) ≡ false
pending_append n [] c h e = ap (λ (b : Bool). b || false) e
pending_append n (x ∷ xs) c h e = by (eqb x.number n) h (λ g. pending_append n xs c g e)
  where
    by : (b : Bool) → (b || pending_of n xs) ≡ false → (pending_of n xs ≡ false → pending_of n (xs ++ c ∷ []) ≡ false) → (b || pending_of n (xs ++ c ∷ [])) ≡ false
    by true h more = absurd cc
    by false h more = more h

pending_filter : (n : ℕ) (p : PendingCall → Bool) (xs : List PendingCall) → pending_of n xs ≡ false → pending_of n (filter p xs) ≡ false
pending_filter n p [] h = refl
pending_filter n p (x ∷ xs) h = by (eqb x.number n) refl h (p x) (λ g. pending_filter n p xs g)
  where
    by : (b : Bool) → eqb x.number n ≡ b → (b || pending_of n xs) ≡ false → (q : Bool) → (pending_of n xs ≡ false → pending_of n (filter p xs) ≡ false) → pending_of n (cond q (x ∷ filter p xs) (filter p xs)) ≡ false
    by true is h q more = absurd cc
    by false is h true more = ap (λ (b : Bool). b || pending_of n (filter p xs)) is ∙ more h
    by false is h false more = more h

pending_other : (n number : ℕ) (calls : List PendingCall) (c : PendingCall) → find (λ c. eqb c.number number) calls ≡ Some c → pending_of n calls ≡ false → eqb c.number n ≡ false
pending_other n number [] c e h = absurd cc
pending_other n number (d ∷ calls) c e h = by (eqb d.number number) e (eqb d.number n) refl h (λ f g. pending_other n number calls c f g)
  where
    by : (b : Bool) → cond b (Some d) (find (λ c. eqb c.number number) calls) ≡ Some c → (q : Bool) → eqb d.number n ≡ q → (q || pending_of n calls) ≡ false
        → (find (λ c. eqb c.number number) calls ≡ Some c → pending_of n calls ≡ false → eqb c.number n ≡ false) → eqb c.number n ≡ false
    by b e true is h more = absurd cc
    by true e false is h more = (let s : d ≡ c = (let t : Some d ≡ Some c = e in cc) in ap (λ (x : PendingCall). eqb x.number n) (sym s) ∙ is)
    by false e false is h more = more e h

-- the calls of a number that were filtered out
pending_dropped : (n : ℕ) (calls : List PendingCall) → pending_of n (filter (λ other. not (eqb other.number n)) calls) ≡ false
pending_dropped n [] = refl
pending_dropped n (x ∷ calls) = by (eqb x.number n) refl (pending_dropped n calls)
  where
    rest : List PendingCall
    rest = filter (λ other. not (eqb other.number n)) calls

    by : (b : Bool) → eqb x.number n ≡ b → pending_of n rest ≡ false → pending_of n (cond (not b) (x ∷ rest) rest) ≡ false
    by true is more = more
    by false is more = ap (λ (b : Bool). b || pending_of n rest) is ∙ more

-- ---- What a frame leaves of such a number

record Left (n : ℕ) (s : FrameEffect) : Type 0 where
  pub ready : times_ready n s.ready ≡ 0
  pub calls : pending_of n s.calls ≡ false

left_if : (n : ℕ) (b : Bool) (s t : FrameEffect) → Left n s → Left n t → Left n (cond b s t)
left_if n true s t h g = h
left_if n false s t h g = g

same_calls : (o : CallVerdict) (s : FrameEffect) → (with_verdict o s).calls ≡ s.calls
same_calls (Refuses reason) s = refl
same_calls (IsReady r) s = refl

left_whole : (n : ℕ) (k : ServerState) (place : ℕ) (c : PendingCall) (s : FrameEffect) → eqb c.number n ≡ false → s.ready ≡ [] → pending_of n s.calls ≡ false → Left n (ready_if_whole k place c s)
left_whole n k place c s other idle h = left_if n (is_read s.reads c.number) (with_verdict o s) s
    (record {
      ready = (let a = ready_times_ready n c.number o s idle (payload_number c (pending_payload k place c)) in let b = ap one_if other in omega (arith, a, b));
      calls = ap (λ (cs : List PendingCall). pending_of n cs) (same_calls o s) ∙ h;
    })
    (record { ready = ap (λ (xs : List ReadyCall). times_ready n xs) idle; calls = h })
  where
    o : CallVerdict
    o = by_payload c (pending_payload k place c)

left_message : (n : ℕ) (k : ServerState) (place : ℕ) (message : List ℕ) (v : Verdict) → n ≤ k.received.sends → pending_of n k.calls ≡ false → NumberIs (k.received.sends + 1) v → Left n (message_effect k place message v)
left_message n k place message (EndsLink reason) sent h is = record { ready = refl; calls = h }
left_message n k place message OtherVersion sent h is = record { ready = refl; calls = h }
left_message n k place message BadChunks sent h is = record { ready = refl; calls = h }
left_message n k place message (MakesPending c) sent h is =
    let other = ne_eqb c.number n (λ e. omega (arith, e, sent, is)) in
    left_whole n k place c _ other refl (pending_append n k.calls c h other)

left_read : (n : ℕ) (k : ServerState) (place : ℕ) (r : PendingRead) (o : Option PendingCall) (s : FrameEffect) → ((c : PendingCall) → o ≡ Some c → eqb c.number n ≡ false) → s.ready ≡ [] → pending_of n s.calls ≡ false
    → Left n (read_effect k place r o s)
left_read n k place r None s other idle h = record { ready = ap (λ (xs : List ReadyCall). times_ready n xs) idle; calls = h }
left_read n k place r (Some c) s other idle h =
    left_if n (is_stream_read c r s.reads && not (is_read_chunk_of_item (chunk_bytes k place c 0) c.lists.read)) (with_refused_call k c s) (ready_if_whole k place c s)
    (record { ready = ap (λ (xs : List ReadyCall). times_ready n xs) idle; calls = pending_filter n (λ d. not (eqb d.number c.number)) s.calls h })
    (left_whole n k place c s (other c refl) idle h)

left_none : (n : ℕ) (k : ServerState) → pending_of n k.calls ≡ false → Left n (no_effect k)
left_none n k h = record { ready = refl; calls = h }

left_response : (n : ℕ) (k : ServerState) (place : ℕ) (reads : List PendingRead) → pending_of n k.calls ≡ false → Left n (response_effect k place reads)
left_response n k place [] h = left_none n k h
left_response n k place (r ∷ reads) h = left_read n k place r (call_of_number k r.number) _ (λ c is. pending_other n r.number k.calls c is h) refl h

left_by_message : (n : ℕ) (k : ServerState) (place : ℕ) (o : Option (List ℕ)) → n ≤ k.received.sends → pending_of n k.calls ≡ false → Left n (by_message k place o)
left_by_message n k place None sent h = left_none n k h
left_by_message n k place (Some message) sent h = left_message n k place message (verdict k message) sent h (verdict_number k message)

left_effect : (n : ℕ) (k : ServerState) (f : Frame) (r : Result Segment ℕ) → n ≤ k.received.sends → pending_of n k.calls ≡ false → Left n (effect_in k f r)
left_effect n k f (Err reason) sent h = left_none n k h
left_effect n k f (Ok (Tagged last opcode stag to payload)) sent h =
    let t : ServerState = with_access k f (Tagged last opcode stag to payload) in
    left_if n (eqb opcode 2 && last) (response_effect t f.end t.reads) (no_effect t) (left_response n t f.end t.reads h) (left_none n t h)
left_effect n k f (Ok (Untagged last opcode w queue msn offset payload)) sent h = left_by_message n k f.end (message_completed k.received (Untagged last opcode w queue msn offset payload)) sent h

left_frame : (n : ℕ) (k : ServerState) (f : Frame) → n ≤ k.received.sends → pending_of n k.calls ≡ false → Left n (frame_effect k f)
unfolding frame_effect
left_frame n k f sent h = left_effect n k f (frame_segment f) sent h

-- ---- Along a run

-- a Send of which no call is pending or ready
record Dropped (n : ℕ) (k : ServerState) : Type 0 where
  pub number_sent : n ≤ k.received.sends
  pub ready : times_ready n k.ready ≡ 0
  pub calls : pending_of n k.calls ≡ false

after_dropped : (opened : LinkParameters) (n : ℕ) (k : ServerState) (event : RunEvent) → Dropped n k → Dropped n (server_state_after opened k event)
unfolding server_state_after
after_dropped opened n k event d = record {
  number_sent = (let a = d.number_sent in let b = (after_goes opened k event).rises in omega (arith, a, b));
  ready = by_ready event;
  calls = by_calls event;
}
  where
    by_ready : (event : RunEvent) → times_ready n (server_state_after opened k event).ready ≡ 0
    by_ready (FrameReceived f) = by (is_hello f)
      where
        by : (b : Bool) → times_ready n (cond b (with_own_hello opened k f) (with_effect k f (frame_effect k f))).ready ≡ 0
        by true = d.ready
        by false = (let a = times_ready_append n k.ready (frame_effect k f).ready in let b = d.ready in let c = (left_frame n k f d.number_sent d.calls).ready in omega (arith, a, b, c))
    by_ready (CallSubmitted place a) = d.ready
    by_ready (MemoryRevoked place xid) = d.ready
    by_ready (CallExecuted e) = (let a = times_ready_drop n k.ready in let b = d.ready in omega (arith, a, b))
    by_ready (QueueWritten taken) = d.ready
    by_ready (ServerTold what) = d.ready

    by_calls : (event : RunEvent) → pending_of n (server_state_after opened k event).calls ≡ false
    by_calls (FrameReceived f) = by (is_hello f)
      where
        by : (b : Bool) → pending_of n (cond b (with_own_hello opened k f) (with_effect k f (frame_effect k f))).calls ≡ false
        by true = d.calls
        by false = (left_frame n k f d.number_sent d.calls).calls
    by_calls (CallSubmitted place a) = d.calls
    by_calls (MemoryRevoked place xid) = d.calls
    by_calls (CallExecuted e) = pending_filter n (λ c. not (eqb c.xid e.xid)) k.calls d.calls
    by_calls (QueueWritten taken) = d.calls
    by_calls (ServerTold what) = d.calls

events_dropped : (opened : LinkParameters) (n : ℕ) (r : EndState ServerState) (es : List RunEvent) → Dropped n r.state → Dropped n (end_state_after (server_rules opened) r es).state
events_dropped opened n r [] d = d
events_dropped opened n r (event ∷ es) d = events_dropped opened n (next_end_state (server_rules opened) r event) es (one r.state r.ended d)
  where
    by_why : (k : ServerState) (why : Option Stop) → Dropped n k → Dropped n (next_end_state_by (server_rules opened) k event why).state
    by_why k None d = after_dropped opened n k event d
    by_why k (Some end) d = d

    one : (k : ServerState) (ended : Option Stop) → Dropped n k → Dropped n (next_end_state_in (server_rules opened) k event ended).state
    one k None d = by_why k (server_end opened k event) d
    one k (Some end) d = d

events_sound : (opened : LinkParameters) (es : List RunEvent) → Sound (end_state_after (server_rules opened) (initial_server opened) es).state
events_sound opened es = kept opened Sound sound_goes (initial_server opened) es (record { once = λ n. omega arith; number_sent = λ n lt. omega arith })

-- ---- The frame that refuses it

-- a message that is refused is settled at once
settled_message : (opened : LinkParameters) (k : ServerState) (f : Frame) (segment : Segment) (message : List ℕ) (answer : List (List ℕ)) → is_hello f ≡ false → frame_segment f ≡ Ok segment → message_completed k.received segment ≡ Some message
    → frame_effect k f ≡ record (no_effect k) { errors = answer } → Sound k → Settled (k.received.sends + 1) (server_state_after opened k (FrameReceived f))
unfolding server_state_after
settled_message opened k f segment message answer later is whole effect s =
    subst (λ (b : Bool). Settled n (cond b (with_own_hello opened k f) (with_effect k f (frame_effect k f)))) (sym later)
    (subst (λ (e : FrameEffect). Settled n (with_effect k f e)) (sym effect) there)
  where
    n : ℕ
    n = k.received.sends + 1

    sends : (received_by k.received (frame_segment f)).sends ≡ n
    sends = ap (λ (r : Result Segment ℕ). (received_by k.received r).sends) is ∙ whole_with k.received segment message whole

    there : Settled n (with_effect k f (record (no_effect k) { errors = answer }))
    there = record {
      number_sent = omega (arith, sends);
      none = (let a = times_ready_append n k.ready [] in let b = s.number_sent n (omega arith) in omega (arith, a, b));
    }

-- a call that is refused is pending no longer, and as it was read it wasn't ready
dropped_call : (opened : LinkParameters) (k : ServerState) (f : Frame) (segment : Segment) (c : PendingCall) → is_hello f ≡ false → frame_segment f ≡ Ok segment → IsStreamRefused k f segment c → Sound k
    → Dropped c.number (server_state_after opened k (FrameReceived f))
unfolding server_state_after
dropped_call opened k f segment c later is h s = record {
  number_sent = (let a = (after_goes opened k (FrameReceived f)).rises in omega (arith, a, sent));
  ready = ap (λ (q : ServerState). times_ready c.number q.ready) after ∙ (let a = times_ready_append c.number k.ready [] in omega (arith, a, idle));
  calls = ap (λ (q : ServerState). pending_of c.number q.calls) after ∙ pending_dropped c.number k.calls;
}
  where
    effect : FrameEffect
    effect = with_refused_call (with_access k f segment) c (record (no_effect (with_access k f segment)) { reads = h.others; kept = length (open_reads k) - 1 })

    after : server_state_after opened k (FrameReceived f) ≡ with_effect k f effect
    after = ap (λ (b : Bool). cond b (with_own_hello opened k f) (with_effect k f (frame_effect k f))) later ∙ ap (λ (e : FrameEffect). with_effect k f e) (refused_call_effect k f segment c is h)

    own : eqb h.read.number c.number ≡ true
    own = eq-eqb h.read.number c.number (sym (found_number h.read.number k.calls c h.call))

    read : one_if (read_for c.number k.reads) ≡ 1
    read = ap (λ (rs : List PendingRead). one_if (read_for c.number rs)) h.reads ∙ ap (λ (b : Bool). one_if (b || read_for c.number h.others)) own

    idle : times_ready c.number k.ready ≡ 0
    idle = (let a = s.once c.number in omega (arith, a, read))

    sent : c.number ≤ k.received.sends
    sent = elim (cases_lt k.received.sends c.number) [
      | inl lt ↦ (let a = s.number_sent c.number lt in absurd (omega (arith, a, read)))
      | inr le ↦ le
    ]

-- ---- What follows for a run

ended_back : (opened : LinkParameters) (k : ServerState) (ended : Option Stop) (es : List RunEvent) → (end_state_after (server_rules opened) (record { state = k; ended = ended }) es).ended ≡ None → ended ≡ None
ended_back opened k None es e = refl
ended_back opened k (Some end) es e = (let t : Some end ≡ None = sym (ap (λ (r : EndState ServerState). r.ended) (ended_stays (server_rules opened) k end es).0) ∙ e in absurd cc)

next_state_lem : (opened : LinkParameters) (P : ServerState → Type 0) (k : ServerState) (ended : Option Stop) (event : RunEvent) → (next_end_state_in (server_rules opened) k event ended).ended ≡ None → P (server_state_after opened k event)
    → P (next_end_state_in (server_rules opened) k event ended).state
next_state_lem opened P k (Some end) event e p = absurd cc
next_state_lem opened P k None event e p = by (server_end opened k event) e
  where
    by : (why : Option Stop) → (next_end_state_by (server_rules opened) k event why).ended ≡ None → P (next_end_state_by (server_rules opened) k event why).state
    by None e = p
    by (Some end) e = absurd cc

-- if the server hasn't ended by then, nothing of the Send is ready
none_ready : (opened : LinkParameters) (r : EndState ServerState) (f : Frame) (later : List RunEvent) (segment : Segment) (n : ℕ) → is_hello f ≡ false → frame_segment f ≡ Ok segment → Sound r.state → RefusesSend r.state f segment n
    → (end_state_after (server_rules opened) r (FrameReceived f ∷ later)).ended ≡ None → times_ready n (end_state_after (server_rules opened) r (FrameReceived f ∷ later)).state.ready ≡ 0
none_ready opened r f later segment n behind is s refused stays = by refused
  where
    next : EndState ServerState
    next = next_end_state (server_rules opened) r (FrameReceived f)

    live_then : next.ended ≡ None
    live_then = ended_back opened next.state next.ended later stays

    settled : Settled n (server_state_after opened r.state (FrameReceived f)) → times_ready n (end_state_after (server_rules opened) next later).state.ready ≡ 0
    settled t =
        let all = kept opened (Settled n) (settled_goes n) next later (next_state_lem opened (Settled n) r.state r.ended (FrameReceived f) live_then t) in
        let a = all.none in
        omega (arith, a)

    message : (m : List ℕ) (answer : List (List ℕ)) → message_completed r.state.received segment ≡ Some m → n ≡ r.state.received.sends + 1 → frame_effect r.state f ≡ record (no_effect r.state) { errors = answer }
        → times_ready n (end_state_after (server_rules opened) next later).state.ready ≡ 0
    message m answer whole number effect =
        settled (subst (λ (x : ℕ). Settled x (server_state_after opened r.state (FrameReceived f))) (sym number) (settled_message opened r.state f segment m answer behind is whole effect s))

    by : RefusesSend r.state f segment n → times_ready n (end_state_after (server_rules opened) next later).state.ready ≡ 0
    by (inl (m, (whole, (number, inl e)))) = message m _ whole number (refused_effect r.state f segment m BadChunks is whole e)
    by (inl (m, (whole, (number, inr e)))) = message m _ whole number (refused_effect r.state f segment m OtherVersion is whole e)
    by (inr (c, (h, number))) =
        let t : Dropped n (server_state_after opened r.state (FrameReceived f)) =
        subst (λ (x : ℕ). Dropped x (server_state_after opened r.state (FrameReceived f))) (sym number) (dropped_call opened r.state f segment c behind is h s) in
        (events_dropped opened n next later (next_state_lem opened (Dropped n) r.state r.ended (FrameReceived f) live_then t)).ready

pub refused_never : (opened : LinkParameters) (link : ℕ) (before : List Mark) (earlier later : List RunEvent) (f : Frame) (segment : Segment) (number : ℕ) →
    events link Responder before ≡ earlier ++ FrameReceived f ∷ later → is_hello f ≡ false → frame_segment f ≡ Ok segment →
    RefusesSend (end_state_after (server_rules opened) (initial_server opened) earlier).state f segment number →
    (xid : ℕ) (payload : List ℕ) (h : IsExecuted opened link before xid payload) → h.call.number ≢ number
unfolding next_call server
refused_never opened link before earlier later f segment number so behind is refused xid payload h same =
    let r = end_state_after (server_rules opened) (initial_server opened) earlier in
    let whole : server opened link before ≡ end_state_after (server_rules opened) r (FrameReceived f ∷ later) =
    ap (λ (es : List RunEvent). end_state_after (server_rules opened) (initial_server opened) es) so ∙ end_state_after_append (server_rules opened) (initial_server opened) earlier (FrameReceived f ∷ later) in
    let t = first_times_ready (server opened link before).state.ready (server opened link before).ended h.call h.is_next in
    let none = none_ready opened r f later segment number behind is (events_sound opened earlier) refused (sym (ap (λ (q : EndState ServerState). q.ended) whole) ∙ t.0) in
    let a = t.1 in
    let b = ap (λ (n : ℕ). times_ready n (server opened link before).state.ready) same in
    let c = ap (λ (q : EndState ServerState). times_ready number q.state.ready) whole in
    omega (arith, a, b, c, none)
