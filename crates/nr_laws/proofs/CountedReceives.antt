-- The receives in use of a server: one for each Send that is begun or complete, until its answer is completely written.
use Rattle.std.proofs.Common.{◌≡◌, ℕ, suc, ◌+◌, Bool, true, false, not, cond, ◌&&◌, ◌||◌, eqb, List, [], ◌∷◌, ◌++◌, length, Option, None, Some, Result, Ok, Err, refl, sym, ap, subst, ◌∙◌, arith, append_assoc, append-nil, length-append, eqb-true}
use Rattle.std.specs.List.{filter, find, list_any}
use Rattle.std.proofs.lemmas.Bool.{ne_eqb}
use Rattle.nr_wire.specs.declared.hello.Side.TheVariants.{Responder}
use Rattle.nr_wire.specs.Constants.{OPCODE_READ_REQUEST}
use Rattle.nr_wire.specs.Segment.{Segment}
use Rattle.nr_wire.specs.Segment.Segment.{Tagged, Untagged}
use Rattle.nr_link.specs.declared.end.End.{End as Stop}
use Rattle.nr_link.specs.Frames.{Frame, is_hello}
use Rattle.nr_link.specs.ReceiveState.{ReceiveState, is_send, begun_bytes, send_continued, received_after, message_completed}
use Rattle.nr_link.specs.Ending.{frame_segment}
use Rattle.nr_reduce.specs.declared.mark.Mark.{Mark}
use Rattle.nr_reduce.specs.declared.mark.LinkParameters.{LinkParameters}
use Rattle.nr_reduce.specs.History.{ExecutedCall}
use Rattle.nr_reduce.specs.Events.{RunEvent, events}
use Rattle.nr_reduce.specs.Events.RunEvent.{FrameReceived, CallSubmitted, MemoryRevoked, CallExecuted, QueueWritten, ServerTold}
use Rattle.nr_reduce.specs.EndRules.{EndState, next_end_state, next_end_state_by, next_end_state_in, end_state_after}
use Rattle.nr_reduce.specs.ServerState.{ServerState, PendingCall, receives_in_use}
use Rattle.nr_reduce.specs.ServerMessages.{Verdict, verdict}
use Rattle.nr_reduce.specs.ServerMessages.Verdict.{EndsLink, OtherVersion, BadChunks, MakesPending}
use Rattle.nr_reduce.specs.ServerReads.{reads_of, regions_of}
use Rattle.nr_reduce.specs.ServerFrames.{FrameEffect, frame_effect, effect_in, no_effect, message_effect, by_message, with_refused_call, with_access, call_of_number}
use Rattle.nr_reduce.specs.Server.{server_rules, server_end, server_state_after, initial_server, with_effect, with_own_hello, received_by, send_ends_from}
use Rattle.nr_reduce.specs.RunLaws.{server_by}
use Rattle.nr_reduce.specs.Served.{ServedSoFar}
use Rattle.nr_reduce.specs.Run.{server}
use Rattle.nr_reduce.proofs.Steps.{end_state_after_append}
use Rattle.nr_laws.specs.Typed.{IsTyped}
use Rattle.nr_laws.specs.ServerItems.{ReceivesFollowSends}
use Rattle.nr_laws.proofs.AgreeingEnds.{not_refused_lem}
use Rattle.nr_laws.proofs.BoundedSides.{uses, whole_same, found_number, wrong_frame}
use Rattle.nr_laws.proofs.EachEffect.{EffectCase, effect_case, read_over}
use Rattle.nr_laws.proofs.EachEffect.EffectCase.{Unchanged, OfMessage, OfRead, OfRefusal, OfCall}
use Rattle.nr_laws.proofs.EndsWaiting.{left_waiting, sends_length}
use Rattle.nr_laws.proofs.ItemsOfServer.{server_written_items}
use Rattle.nr_laws.proofs.KeptAtServer.{kept_at_server}
use Rattle.nr_laws.proofs.LinkInvariants.{IsUnused, AreDistinct, PendingAgree}
use Rattle.nr_laws.proofs.PendingRuns.{executes_pending}

-- ---- The one element of a key

unused_stays : {X : Type 0} (key : X → ℕ) (n : ℕ) (xs : List X) → IsUnused key n xs → length (filter (λ y. not (eqb (key y) n)) xs) ≡ length xs
unused_stays {X} key n [] h = refl
unused_stays {X} key n (x ∷ xs) h = (λ i. length (cond (not (ne_eqb (key x) n h.0 i)) (x ∷ rest) rest)) ∙ ap (λ (m : ℕ). suc m) (unused_stays key n xs h.1)
  where
    rest : List X
    rest = filter (λ y. not (eqb (key y) n)) xs

one_less_lem : {X : Type 0} (key : X → ℕ) (n : ℕ) (xs : List X) → AreDistinct key xs → list_any (λ y. eqb (key y) n) xs ≡ true → length (filter (λ y. not (eqb (key y) n)) xs) + 1 ≡ length xs
one_less_lem {X} key n [] apart e = absurd (let wrong : false ≡ true = e in cc)
one_less_lem {X} key n (x ∷ xs) apart e = by (eqb (key x) n) refl e (λ h. one_less_lem key n xs apart.1 h)
  where
    rest : List X
    rest = filter (λ y. not (eqb (key y) n)) xs

    by : (b : Bool) → eqb (key x) n ≡ b → (b || list_any (λ y. eqb (key y) n) xs) ≡ true → (list_any (λ y. eqb (key y) n) xs ≡ true → length rest + 1 ≡ length xs) → length (cond (not b) (x ∷ rest) rest) + 1 ≡ suc (length xs)
    by true is e more = (let all = unused_stays key n xs (subst (λ (m : ℕ). IsUnused key m xs) (eqb-true (key x) n is) apart.0) in omega (arith, all))
    by false is e more = (let h = more e in omega (arith, h))

found_any : {X : Type 0} (p : X → Bool) (xs : List X) (x : X) → find p xs ≡ Some x → list_any p xs ≡ true
found_any {X} p [] x e = absurd (let wrong : None ≡ Some x = e in cc)
found_any {X} p (y ∷ xs) x e = by (p y) e (λ h. found_any p xs x h)
  where
    by : (b : Bool) → cond b (Some y) (find p xs) ≡ Some x → (find p xs ≡ Some x → list_any p xs ≡ true) → (b || list_any p xs) ≡ true
    by true e more = refl
    by false e more = more e

-- ---- What a frame adds

-- a message that a segment completes
abbrev came : Option (List ℕ) → ℕ
came None = 0
came (Some message) = 1

sends_by : (h : ReceiveState) (a last other : Bool) (payload : List ℕ) → (cond a (send_continued h last payload) (cond other (record { sends = h.sends; begun = h.begun; requests = h.requests + 1 }) h)).sends ≡ h.sends + came (cond (a && last) (Some (begun_bytes h.begun ++ payload)) None)
sends_by h true true other payload = refl
sends_by h true false other payload = omega arith
sends_by h false last true payload = omega arith
sends_by h false last false payload = omega arith

sends_after : (h : ReceiveState) (s : Segment) → (received_after h s).sends ≡ h.sends + came (message_completed h s)
sends_after h (Tagged last opcode stag to payload) = omega arith
sends_after h (Untagged last opcode w queue msn offset payload) = sends_by h (is_send opcode) last (eqb opcode OPCODE_READ_REQUEST) payload

message_adds : (k : ServerState) (place : ℕ) (message : List ℕ) (v : Verdict) → (message_effect k place message v).refusal ≡ None → uses (message_effect k place message v) ≡ length k.calls + 1
message_adds k place message (EndsLink reason) none = absurd (let wrong : Some reason ≡ None = none in cc)
message_adds k place message OtherVersion none = refl
message_adds k place message BadChunks none = refl
message_adds k place message (MakesPending c) none =
    let regions = k.regions ++ regions_of k place c in
    let e : FrameEffect = record (no_effect k) { calls = k.calls ++ c ∷ []; reads = k.reads ++ reads_of regions c; regions = regions } in
    let w = whole_same k place c e in
    let a = ap (λ (cs : List PendingCall). length cs) w.0 in
    let b = ap (λ (es : List (List ℕ)). length es) w.1 in
    let l = length-append k.calls (c ∷ []) in
    omega (arith, a, b, l)

by_message_adds : (k : ServerState) (place : ℕ) (o : Option (List ℕ)) → (by_message k place o).refusal ≡ None → uses (by_message k place o) ≡ length k.calls + came o
by_message_adds k place None none = refl
by_message_adds k place (Some message) none = message_adds k place message (verdict k message) none

refused_same : (k : ServerState) (n : ℕ) (c : PendingCall) (s : FrameEffect) → AreDistinct (λ (x : PendingCall). x.number) k.calls → s.calls ≡ k.calls → call_of_number k n ≡ Some c → uses (with_refused_call k c s) ≡ length k.calls
refused_same k n c s apart same found =
    let number = found_number n k.calls c found in
    let less = one_less_lem (λ (x : PendingCall). x.number) n k.calls apart (found_any (λ (x : PendingCall). eqb x.number n) k.calls c found) in
    let kept : length (filter (λ (x : PendingCall). not (eqb x.number c.number)) s.calls) ≡ length (filter (λ (x : PendingCall). not (eqb x.number n)) k.calls) = (λ i. length (filter (λ (x : PendingCall). not (eqb x.number (number i))) (same i))) in
    omega (arith, less, kept)

tagged_same : (k : ServerState) (f : Frame) (s : Segment) (e : FrameEffect) → AreDistinct (λ (x : PendingCall). x.number) k.calls → message_completed k.received s ≡ None → EffectCase k f s e → uses e ≡ length k.calls
tagged_same k f s e apart none (Unchanged is) = (let u = ap (λ (x : FrameEffect). uses x) is in omega (arith, u))
tagged_same k f s e apart none (OfMessage m whole is) = absurd (let wrong : None ≡ Some m = sym none ∙ whole in cc)
tagged_same k f s e apart none (OfRead r reads last reads_are is) = (let u = ap (λ (x : FrameEffect). uses x) is in omega (arith, u))
tagged_same k f s e apart none (OfRefusal r reads c last reads_are found test is) = (let u = ap (λ (x : FrameEffect). uses x) is in let same = refused_same k r.number c (read_over k reads) apart refl found in omega (arith, u, same))
tagged_same k f s e apart none (OfCall r reads c last reads_are found is) =
    let u = ap (λ (x : FrameEffect). uses x) is in
    let w = whole_same (with_access k f s) f.end c (read_over k reads) in
    let a = ap (λ (cs : List PendingCall). length cs) w.0 in
    let b = ap (λ (es : List (List ℕ)). length es) w.1 in
    omega (arith, u, a, b)

frame_adds : (k : ServerState) (f : Frame) (s : Segment) → AreDistinct (λ (x : PendingCall). x.number) k.calls → frame_segment f ≡ Ok s → (frame_effect k f).refusal ≡ None → uses (frame_effect k f) ≡ length k.calls + came (message_completed k.received s)
unfolding frame_effect
frame_adds k f (Tagged last opcode stag to payload) apart is none =
    (let same = tagged_same k f (Tagged last opcode stag to payload) (frame_effect k f) apart refl (effect_case k f (Tagged last opcode stag to payload) is) in omega (arith, same))
frame_adds k f (Untagged last opcode w queue msn offset payload) apart is none =
    let own : frame_effect k f ≡ by_message k f.end (message_completed k.received (Untagged last opcode w queue msn offset payload)) = ap (λ (r : Result Segment ℕ). effect_in k f r) is in
    ap (λ (e : FrameEffect). uses e) own
    ∙ by_message_adds k f.end (message_completed k.received (Untagged last opcode w queue msn offset payload)) (ap (λ (e : FrameEffect). e.refusal) (sym own) ∙ none)

-- ---- Each event

-- each complete Send has its call pending or its answer queued, and each queued message has its end
record AreCounted (k : ServerState) : Type 0 where
  calls : k.messages_queued + length k.calls ≡ k.received.sends
  ends : length k.message_ends ≡ k.messages_queued

counted_effect : (k : ServerState) (f : Frame) (s : Segment) (e : FrameEffect) → frame_segment f ≡ Ok s → uses e ≡ length k.calls + came (message_completed k.received s) → AreCounted k → AreCounted (with_effect k f e)
counted_effect k f s e is adds h =
    let ends = send_ends_from k.due (k.messages_queued + 1) e.errors in
    let calls = h.calls in
    let old = h.ends in
    let sends : (received_by k.received (frame_segment f)).sends ≡ k.received.sends + came (message_completed k.received s) = ap (λ (r : Result Segment ℕ). (received_by k.received r).sends) is ∙ sends_after k.received s in
    let more = length-append k.message_ends ends in
    let new = sends_length k.due (k.messages_queued + 1) e.errors in
    record { calls = omega (arith, adds, calls, sends); ends = omega (arith, old, more, new) }

counted_frame : (opened : LinkParameters) (k : ServerState) (f : Frame) → server_end opened k (FrameReceived f) ≡ None → AreDistinct (λ (x : PendingCall). x.number) k.calls → AreCounted k → AreCounted (server_state_after opened k (FrameReceived f))
unfolding server_state_after
counted_frame opened k f stays apart h = by (is_hello f) refl
  where
    by_segment : is_hello f ≡ false → (r : Result Segment ℕ) → frame_segment f ≡ r → AreCounted (with_effect k f (frame_effect k f))
    by_segment behind (Err reason) is = absurd (wrong_frame opened k f reason behind is stays)
    by_segment behind (Ok s) is = counted_effect k f s (frame_effect k f) is (frame_adds k f s apart is (not_refused_lem opened k f behind stays)) h

    by : (b : Bool) → is_hello f ≡ b → AreCounted (cond b (with_own_hello opened k f) (with_effect k f (frame_effect k f)))
    by true behind = record { calls = h.calls; ends = h.ends }
    by false behind = by_segment behind (frame_segment f) refl

counted_step : (opened : LinkParameters) (k : ServerState) (event : RunEvent) → server_end opened k event ≡ None → AreDistinct (λ (x : PendingCall). x.number) k.calls → AreDistinct (λ (x : PendingCall). x.xid) k.calls
    → ((e : ExecutedCall) → event ≡ CallExecuted e → list_any (λ (c : PendingCall). eqb c.xid e.xid) k.calls ≡ true) → AreCounted k → AreCounted (server_state_after opened k event)
unfolding server_state_after
counted_step opened k (FrameReceived f) stays numbers xids pending h = counted_frame opened k f stays numbers h
counted_step opened k (CallSubmitted p a) stays numbers xids pending h = h
counted_step opened k (MemoryRevoked p xid) stays numbers xids pending h = h
counted_step opened k (CallExecuted e) stays numbers xids pending h =
    let less = one_less_lem (λ (x : PendingCall). x.xid) e.xid k.calls xids (pending e refl) in
    let calls = h.calls in
    let ends = h.ends in
    let t = server_state_after opened k (CallExecuted e) in
    let more : length t.message_ends ≡ length k.message_ends + 1 = length-append k.message_ends _ in
    record { calls = omega (arith, less, calls); ends = omega (arith, ends, more) }
counted_step opened k (QueueWritten taken) stays numbers xids pending h = record { calls = h.calls; ends = h.ends }
counted_step opened k (ServerTold what) stays numbers xids pending h = record { calls = h.calls; ends = h.ends }

counted_next : (opened : LinkParameters) (r : EndState ServerState) (event : RunEvent) → PendingAgree r.state → ((e : ExecutedCall) → event ≡ CallExecuted e → list_any (λ (c : PendingCall). eqb c.xid e.xid) r.state.calls ≡ true)
    → AreCounted r.state → AreCounted (next_end_state (server_rules opened) r event).state
counted_next opened r event agree pending h = by_end r.ended
  where
    by_why : (o : Option Stop) → server_end opened r.state event ≡ o → AreCounted (next_end_state_by (server_rules opened) r.state event o).state
    by_why None is = counted_step opened r.state event is agree.numbers agree.xids pending h
    by_why (Some end) is = h

    by_end : (o : Option Stop) → AreCounted (next_end_state_in (server_rules opened) r.state event o).state
    by_end None = by_why (server_end opened r.state event) refl
    by_end (Some end) = h

counted_all : (opened : LinkParameters) (link : ℕ) (run : List Mark) → IsTyped run → ServedSoFar opened link run → (more es : List RunEvent) → events link Responder run ≡ es ++ more → AreCounted (server_by opened es) → AreCounted (server_by opened (es ++ more))
counted_all opened link run typed served [] es is h = subst (λ (xs : List RunEvent). AreCounted (server_by opened xs)) (sym (append-nil es)) h
counted_all opened link run typed served (event ∷ more) es is h =
    let next : AreCounted (server_by opened (es ++ event ∷ [])) =
    subst (λ (r : EndState ServerState). AreCounted r.state) (sym (end_state_after_append (server_rules opened) (initial_server opened) es (event ∷ [])))
    (counted_next opened (end_state_after (server_rules opened) (initial_server opened) es) event (kept_at_server opened link run typed served es (event ∷ more) is).agree
    (λ e own. executes_pending opened link run typed served es e more (is ∙ ap (λ (x : RunEvent). es ++ x ∷ more) own)) h) in
    subst (λ (xs : List RunEvent). AreCounted (server_by opened xs)) (append_assoc es (event ∷ []) more)
    (counted_all opened link run typed served more (es ++ event ∷ []) (is ∙ sym (append_assoc es (event ∷ []) more)) next)

counted_run : (opened : LinkParameters) (link : ℕ) (run : List Mark) → IsTyped run → ServedSoFar opened link run → AreCounted (server opened link run).state
unfolding server
counted_run opened link run typed served = counted_all opened link run typed served (events link Responder run) [] refl (record { calls = refl; ends = refl })

-- ---- The law

pub receives_follow_sends : ReceivesFollowSends
unfolding receives_in_use
receives_follow_sends opened link run typed served stays =
    let k : ServerState = (server opened link run).state in
    let h = counted_run opened link run typed served in
    let calls = h.calls in
    let ends = h.ends in
    let written = server_written_items opened link run typed served stays in
    let all = left_waiting k.written k.message_ends in
    omega (arith, calls, ends, written, all)
