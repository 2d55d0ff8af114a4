-- All output of a server that is due is its hello, and then items; and the ends of messages that its state keeps are those of items.
use Rattle.std.proofs.Common.{◌≡◌, ℕ, ◌+◌, ◌≤◌, ◌<◌, Bool, true, false, cond, ltb, not, eqb, List, [], ◌∷◌, ◌++◌, length, Option, None, Some, Result, Ok, Err, refl, sym, ap, subst, ◌∙◌, arith, append_assoc, append-nil, length-append}
use Rattle.std.proofs.lemmas.Bool.{ne_eqb, eq-eqb}
use Rattle.nr_wire.specs.Constants.{REASON_FLAGS, REASON_OPCODE, DDP_VERSION, RDMAP_VERSION}
use Rattle.nr_wire.specs.declared.hello.Side.TheVariants.{Initiator, Responder}
use Rattle.nr_wire.specs.Hello.{hello_of, value_unless}
use Rattle.nr_wire.specs.Segment.{Segment, segment_of, frame_reason, segment_by_form, is_tagged, ulpdu_len, ddp_header_len, ddp_version, rdmap_version, opcode_of, queue_of, is_supported, is_of_other_form, is_of_other_queue}
use Rattle.nr_link.specs.declared.end.End.{End}
use Rattle.nr_link.specs.declared.end.End.TheVariants as ends
use Rattle.nr_link.specs.Frames.{Frame, is_hello}
use Rattle.nr_link.specs.Ending.{frame_segment, frame_end, frame_end_by, hello_end, is_not_taken, rejection, segment_taken}
use Rattle.nr_link.specs.Output.{refusing_hello}
use Rattle.nr_link.specs.OutputItem.{OutputItem, items_encoding, is_send_item, item_ends, items_written}
use Rattle.nr_link.specs.OutputItem.OutputItem.{LastItem}
use Rattle.nr_reduce.specs.Hellos.{server_hello}
use Rattle.nr_reduce.specs.declared.mark.LinkParameters.{LinkParameters}
use Rattle.nr_reduce.specs.History.{bytes_sent}
use Rattle.nr_reduce.specs.Written.{ends_written, ends_waiting}
use Rattle.nr_reduce.specs.OfferedRegions.{region_grants}
use Rattle.nr_reduce.specs.Events.{RunEvent, events}
use Rattle.nr_reduce.specs.Events.RunEvent.{FrameReceived, CallSubmitted, MemoryRevoked, CallExecuted, QueueWritten, ServerTold}
use Rattle.nr_reduce.specs.EndRules.{EndState, live, next_end_state, next_end_state_by, end_state_after, output_for_by, output_for, output_for_in, output_for_all}
use Rattle.nr_reduce.specs.ServerState.{ServerState, ReadyCall, credit_told}
use Rattle.nr_reduce.specs.declared.mark.Told.{Told}
use Rattle.nr_reduce.specs.declared.mark.Told.TheVariants.{Granted, Old}
use Rattle.nr_reduce.specs.Server.{server_rules, server_end, server_output, server_state_after, initial_server, server_readiness, or_refusal, old_end}
use Rattle.nr_reduce.specs.Run.{server, output_due}
use Rattle.nr_reduce.specs.DueItems.{server_items_at, server_hello_at, due_for_by, due_for_in, due_for, due_for_all, items_due, hello_due}
use Rattle.nr_reduce.proofs.Steps.{ended_stays}
use Rattle.nr_reduce.proofs.CountedBytes.{some_none, server_bytes_written}
use Rattle.nr_reduce.proofs.OutputItems.{encoding_append, ends_append, left_items, waiting_items}
use Rattle.nr_reduce.proofs.ServerItems.{server_encoded, server_last, server_sends, server_more}
use Rattle.nr_reduce.specs.declared.mark.Mark.{Mark}
use Rattle.nr_reduce.specs.Served.{ServedSoFar}
use Rattle.nr_laws.specs.Typed.{IsTyped}
use Rattle.nr_laws.specs.ServerItems.{ServerOutputIsItems, ServerCountsItems}
use Rattle.nr_laws.proofs.EventOutputs.{IsNext, GoesOn, place_after}
use Rattle.nr_laws.proofs.ServerAlong.{ServerPlain}
use Rattle.nr_laws.proofs.ServerEnds.{BigEnd, segment_ends, told_big}
use Rattle.nr_laws.proofs.ServerSide.{server_goes}

-- ---- Only a hello is rejected

abbrev AtLeast5 : Option ℕ → Type 0
AtLeast5 None = Unit {0}
AtLeast5 (Some reason) = 5 ≤ reason

six_big : (a b c d e f : Bool) → AtLeast5 (cond a (Some 5) (cond b (Some 6) (cond c (Some 7) (cond d (Some 8) (cond e (Some 9) (cond f (Some 10) None))))))
six_big true b c d e f = omega arith
six_big false true c d e f = omega arith
six_big false false true d e f = omega arith
six_big false false false true e f = omega arith
six_big false false false false true f = omega arith
six_big false false false false false true = omega arith
six_big false false false false false false = tt

flaw_big : (bytes : List ℕ) → AtLeast5 (frame_reason bytes)
unfolding frame_reason
flaw_big bytes =
    six_big (ltb (ulpdu_len bytes) (ddp_header_len (is_tagged bytes))) (not (eqb (ddp_version bytes) DDP_VERSION)) (not (eqb (rdmap_version bytes) RDMAP_VERSION)) (not (is_supported (opcode_of bytes))) (is_of_other_form (is_tagged bytes) (opcode_of bytes))
    (is_of_other_queue (is_tagged bytes) (opcode_of bytes) (queue_of bytes))

read_big : (f : Frame) (reason : ℕ) → segment_of f.bytes ≡ Err reason → 5 ≤ reason
unfolding segment_of
read_big f reason is = by (frame_reason f.bytes) (flaw_big f.bytes) is
  where
    by : (o : Option ℕ) → AtLeast5 o → value_unless o (segment_by_form (is_tagged f.bytes) f.bytes) ≡ Err reason → 5 ≤ reason
    by None h e = absurd cc
    by (Some r) h e = subst (λ (n : ℕ). 5 ≤ n) (let s : r ≡ reason = cc in s) h

segment_big : (f : Frame) (reason : ℕ) → frame_segment f ≡ Err reason → 5 ≤ reason
unfolding frame_segment segment_taken
segment_big f reason is = by (is_not_taken false f.bytes (segment_of f.bytes)) is
  where
    by : (b : Bool) → cond b (Err REASON_OPCODE) (segment_of f.bytes) ≡ Err reason → 5 ≤ reason
    by true e = (let same : REASON_OPCODE ≡ reason = cc in omega (arith, same))
    by false e = read_big f reason e

ends_big : (opened : LinkParameters) (k : ServerState) (f : Frame) → is_hello f ≡ false → BigEnd (server_end opened k (FrameReceived f))
unfolding server_end frame_end
ends_big opened k f behind = by (frame_segment f) refl
  where
    by : (r : Result Segment ℕ) → frame_segment f ≡ r → BigEnd (server_end opened k (FrameReceived f))
    by (Ok s) is = segment_ends opened k f s behind is
    by (Err reason) is =
        let whole : server_end opened k (FrameReceived f) ≡ Some (ends.Bad f.at reason) =
        (λ i. cond (behind i) (hello_end (hello_of Initiator f.bytes)) (or_refusal k f (frame_end_by (server_readiness opened k) (region_grants f.end k.regions) f (is i)))) in
        subst (λ (o : Option End). BigEnd o) (sym whole) (segment_big f reason is)

not_rejected : (end : End) → BigEnd (Some end) → rejection Responder end ≡ []
not_rejected (ends.Bad at reason) h = ap (λ (b : Bool). cond b refusing_hello []) (ne_eqb reason REASON_FLAGS (λ e. omega (arith, e, h)))
not_rejected (ends.Denied stag offset why) h = refl
not_rejected (ends.NoBuffer msn) h = refl
not_rejected (ends.Terminated reason) h = refl
not_rejected ends.Memory h = refl

-- ---- After the hello

abbrev items_of : LinkParameters → EndState ServerState → List RunEvent → List OutputItem
items_of opened r es = due_for_all (server_rules opened) (server_items_at opened) (λ end. LastItem end ∷ []) r es

abbrev hellos_of : LinkParameters → EndState ServerState → List RunEvent → List ℕ
hellos_of opened r es = due_for_all (server_rules opened) (λ k event. server_hello_at opened event) (rejection Responder) r es

behind_first_lem : (place : ℕ) (f : Frame) → IsNext place (FrameReceived f) → 0 < place → is_hello f ≡ false
behind_first_lem place f next some = ne_eqb f.at 0 (λ e. omega (arith, e, next.0, some))

hello_none : (opened : LinkParameters) (place : ℕ) (e : RunEvent) → IsNext place e → 0 < place → server_hello_at opened e ≡ []
hello_none opened place (FrameReceived f) next some = ap (λ (b : Bool). cond b (server_hello opened f) []) (behind_first_lem place f next some)
hello_none opened place (CallSubmitted p a) next some = refl
hello_none opened place (MemoryRevoked p xid) next some = refl
hello_none opened place (CallExecuted e) next some = refl
hello_none opened place (QueueWritten taken) next some = refl
hello_none opened place (ServerTold what) next some = refl

event_big : (opened : LinkParameters) (place : ℕ) (k : ServerState) (e : RunEvent) → IsNext place e → 0 < place → BigEnd (server_end opened k e)
unfolding server_end
event_big opened place k (FrameReceived f) next some = ends_big opened k f (behind_first_lem place f next some)
event_big opened place k (CallSubmitted p a) next some = tt
event_big opened place k (MemoryRevoked p xid) next some = tt
event_big opened place k (CallExecuted e) next some = tt
event_big opened place k (QueueWritten taken) next some = tt
event_big opened place k (ServerTold what) next some = told_big k what

place_some : (place : ℕ) (e : RunEvent) → IsNext place e → 0 < place → 0 < place_after place e
place_some place (FrameReceived f) next some = omega (arith, next.1)
place_some place (CallSubmitted p a) next some = some
place_some place (MemoryRevoked p xid) next some = some
place_some place (CallExecuted e) next some = some
place_some place (QueueWritten taken) next some = some
place_some place (ServerTold what) next some = some

behind_one : (opened : LinkParameters) (place : ℕ) (r : EndState ServerState) (e : RunEvent) → IsNext place e → 0 < place
    → (due_for (server_rules opened) (λ k event. server_hello_at opened event) (rejection Responder) r e ≡ [])
    × (output_for (server_rules opened) r e ≡ items_encoding (due_for (server_rules opened) (server_items_at opened) (λ end. LastItem end ∷ []) r e))
behind_one opened place r e next some = by_ended r.ended
  where
    k : ServerState
    k = r.state

    by : (o : Option End) → server_end opened k e ≡ o → (due_for_by (server_rules opened) (λ k event. server_hello_at opened event) (rejection Responder) k e o ≡ [])
        × (output_for_by (server_rules opened) k e o ≡ items_encoding (due_for_by (server_rules opened) (server_items_at opened) (λ end. LastItem end ∷ []) k e o))
    by None is =
        let none = hello_none opened place e next some in
        (none, server_encoded opened k e ∙ ap (λ (hs : List ℕ). hs ++ items_encoding (server_items_at opened k e)) none)
    by (Some end) is =
        let none = not_rejected end (subst (λ (o : Option End). BigEnd o) is (event_big opened place k e next some)) in
        (none, server_last end ∙ ap (λ (hs : List ℕ). hs ++ items_encoding (LastItem end ∷ [])) none)

    by_ended : (o : Option End) → (due_for_in (server_rules opened) (λ k event. server_hello_at opened event) (rejection Responder) k e o ≡ [])
        × (output_for_in (server_rules opened) k e o ≡ items_encoding (due_for_in (server_rules opened) (server_items_at opened) (λ end. LastItem end ∷ []) k e o))
    by_ended None = by (server_end opened k e) refl
    by_ended (Some end) = (refl, refl)

behind_output : (opened : LinkParameters) (place : ℕ) (r : EndState ServerState) (es : List RunEvent) → GoesOn (server_rules opened) ServerPlain place r es → 0 < place
    → (hellos_of opened r es ≡ []) × (output_for_all (server_rules opened) r es ≡ items_encoding (items_of opened r es))
behind_output opened place r [] g some = (refl, refl)
behind_output opened place r (e ∷ es) g some =
    let one = behind_one opened place r e g.0 some in
    let rest = behind_output opened (place_after place e) (next_end_state (server_rules opened) r e) es g.2 (place_some place e g.0 some) in (
      (λ i. one.0 i ++ rest.0 i),
      (λ i. one.1 i ++ rest.1 i)
          ∙ sym (encoding_append (due_for (server_rules opened) (server_items_at opened) (λ end. LastItem end ∷ []) r e) (items_of opened (next_end_state (server_rules opened) r e) es)),
    )

behind_ends : (opened : LinkParameters) (place : ℕ) (k : ServerState) (es : List RunEvent) → GoesOn (server_rules opened) ServerPlain place (live k) es → 0 < place → (end_state_after (server_rules opened) (live k) es).ended ≡ None
    → (end_state_after (server_rules opened) (live k) es).state.message_ends ≡ k.message_ends ++ item_ends is_send_item k.due (items_of opened (live k) es)
behind_ends opened place k [] g some stays = sym (append-nil k.message_ends)
behind_ends opened place k (e ∷ es) g some stays = by (λ next live_still. behind_ends opened (place_after place e) (server_state_after opened k e) es next (place_some place e g.0 some) live_still) (server_end opened k e) g.2 stays
  where
    t : ServerState
    t = server_state_after opened k e

    rest : List OutputItem
    rest = items_of opened (live t) es

    by : (GoesOn (server_rules opened) ServerPlain (place_after place e) (live t) es → (end_state_after (server_rules opened) (live t) es).ended ≡ None → (end_state_after (server_rules opened) (live t) es).state.message_ends ≡ t.message_ends ++ item_ends is_send_item t.due rest)
        → (o : Option End) → GoesOn (server_rules opened) ServerPlain (place_after place e) (next_end_state_by (server_rules opened) k e o) es → (end_state_after (server_rules opened) (next_end_state_by (server_rules opened) k e o) es).ended ≡ None
        → (end_state_after (server_rules opened) (next_end_state_by (server_rules opened) k e o) es).state.message_ends
        ≡ k.message_ends ++ item_ends is_send_item k.due (due_for_by (server_rules opened) (server_items_at opened) (λ end. LastItem end ∷ []) k e o ++ items_of opened (next_end_state_by (server_rules opened) k e o) es)
    by later None next live_still =
        let more : t.due ≡ k.due + length (items_encoding (server_items_at opened k e)) = omega (arith, server_more opened k e, ap (λ (hs : List ℕ). length hs) (hello_none opened place e g.0 some)) in
        later next live_still
        ∙ (λ i. server_sends opened k e i ++ item_ends is_send_item (more i) rest)
        ∙ append_assoc k.message_ends (item_ends is_send_item k.due (server_items_at opened k e)) (item_ends is_send_item (k.due + length (items_encoding (server_items_at opened k e))) rest)
        ∙ ap (λ (xs : List ℕ). k.message_ends ++ xs) (sym (ends_append is_send_item k.due (server_items_at opened k e) rest))
    by later (Some end) next ended = absurd (some_none end (sym (ap (λ (r : EndState ServerState). r.ended) (ended_stays (server_rules opened) k end es).0) ∙ ended))

-- ---- From the start

none_ready : (k : ServerState) (call : ReadyCall) (others : List ReadyCall) → k.ready ≡ [] → k.ready ≡ call ∷ others → ⊥
none_ready k call others none some = (let e : [] ≡ call ∷ others = sym none ∙ some in absurd cc)

-- no call is old before a call is ready
told_none : (opened : LinkParameters) (k : ServerState) (what : Told) → k.ready ≡ [] → server_end opened k (ServerTold what) ≡ None
unfolding server_end
told_none opened k (Granted n) none = refl
told_none opened k (Old xid at) none = ap (old_end at) none

told_output : (opened : LinkParameters) (k : ServerState) (what : Told) (es : List RunEvent) → k.ready ≡ []
    → (let t : ServerState = record k { credit = credit_told k.credit what } in
    (GoesOn (server_rules opened) ServerPlain 0 (live t) es → output_for_all (server_rules opened) (live t) es ≡ hellos_of opened (live t) es ++ items_encoding (items_of opened (live t) es)))
    → GoesOn (server_rules opened) ServerPlain 0 (next_end_state (server_rules opened) (live k) (ServerTold what)) es
    → output_for_all (server_rules opened) (live k) (ServerTold what ∷ es) ≡ hellos_of opened (live k) (ServerTold what ∷ es) ++ items_encoding (items_of opened (live k) (ServerTold what ∷ es))
unfolding server_output server_state_after server_items_at
told_output opened k what es none rest g = by (server_end opened k e) (told_none opened k what none) g
  where
    e : RunEvent
    e = ServerTold what

    by : (o : Option End) → o ≡ None → GoesOn (server_rules opened) ServerPlain 0 (next_end_state_by (server_rules opened) k e o) es
        → output_for_by (server_rules opened) k e o ++ output_for_all (server_rules opened) (next_end_state_by (server_rules opened) k e o) es
        ≡ (due_for_by (server_rules opened) (λ k event. server_hello_at opened event) (rejection Responder) k e o ++ hellos_of opened (next_end_state_by (server_rules opened) k e o) es)
        ++ items_encoding (due_for_by (server_rules opened) (server_items_at opened) (λ end. LastItem end ∷ []) k e o ++ items_of opened (next_end_state_by (server_rules opened) k e o) es)
    by None is next = rest next
    by (Some end) is next = absurd (some_none end is)

frame_output : (opened : LinkParameters) (k : ServerState) (f : Frame) (es : List RunEvent) → 0 < f.end → GoesOn (server_rules opened) ServerPlain f.end (next_end_state (server_rules opened) (live k) (FrameReceived f)) es
    → output_for_all (server_rules opened) (live k) (FrameReceived f ∷ es) ≡ hellos_of opened (live k) (FrameReceived f ∷ es) ++ items_encoding (items_of opened (live k) (FrameReceived f ∷ es))
frame_output opened k f es some g = by (server_end opened k (FrameReceived f)) g
  where
    e : RunEvent
    e = FrameReceived f

    one : (o : Option End) → output_for_by (server_rules opened) k e o ≡ due_for_by (server_rules opened) (λ k event. server_hello_at opened event) (rejection Responder) k e o ++ items_encoding (due_for_by (server_rules opened) (server_items_at opened) (λ end. LastItem end ∷ []) k e o)
    one None = server_encoded opened k e
    one (Some end) = server_last end

    by : (o : Option End) → GoesOn (server_rules opened) ServerPlain f.end (next_end_state_by (server_rules opened) k e o) es
        → output_for_by (server_rules opened) k e o ++ output_for_all (server_rules opened) (next_end_state_by (server_rules opened) k e o) es
        ≡ (due_for_by (server_rules opened) (λ k event. server_hello_at opened event) (rejection Responder) k e o ++ hellos_of opened (next_end_state_by (server_rules opened) k e o) es)
        ++ items_encoding (due_for_by (server_rules opened) (server_items_at opened) (λ end. LastItem end ∷ []) k e o ++ items_of opened (next_end_state_by (server_rules opened) k e o) es)
    by o next =
        let r = next_end_state_by (server_rules opened) k e o in
        let hello : List ℕ = due_for_by (server_rules opened) (λ k event. server_hello_at opened event) (rejection Responder) k e o in
        let items : List OutputItem = due_for_by (server_rules opened) (server_items_at opened) (λ end. LastItem end ∷ []) k e o in
        let rest = behind_output opened f.end r es next some in
        (λ i. one o i ++ rest.1 i)
        ∙ append_assoc hello (items_encoding items) (items_encoding (items_of opened r es))
        ∙ ap (λ (bs : List ℕ). hello ++ bs) (sym (encoding_append items (items_of opened r es)))
        ∙ ap (λ (hs : List ℕ). hs ++ items_encoding (items ++ items_of opened r es)) (sym (append-nil hello) ∙ ap (λ (hs : List ℕ). hello ++ hs) (sym rest.0))

start_output : (opened : LinkParameters) (k : ServerState) (es : List RunEvent) → GoesOn (server_rules opened) ServerPlain 0 (live k) es → k.ready ≡ []
    → output_for_all (server_rules opened) (live k) es ≡ hellos_of opened (live k) es ++ items_encoding (items_of opened (live k) es)
unfolding server_end server_output server_state_after server_items_at
start_output opened k [] g none = refl
start_output opened k (CallSubmitted p a ∷ es) g none = start_output opened k es g.2 none
start_output opened k (MemoryRevoked p xid ∷ es) g none = start_output opened k es g.2 none
start_output opened k (CallExecuted e ∷ es) g none = absurd (none_ready k g.1.call g.1.others none g.1.is_next)
start_output opened k (QueueWritten taken ∷ es) g none = start_output opened (record k { written = k.written + taken }) es g.2 none
start_output opened k (ServerTold what ∷ es) g none = told_output opened k what es none (λ next. start_output opened (record k { credit = credit_told k.credit what }) es next none) g.2
start_output opened k (FrameReceived f ∷ es) g none = frame_output opened k f es g.0.1 g.2

frame_ends : (opened : LinkParameters) (k : ServerState) (f : Frame) (es : List RunEvent) → f.at ≡ 0 → 0 < f.end → GoesOn (server_rules opened) ServerPlain f.end (next_end_state (server_rules opened) (live k) (FrameReceived f)) es → k.due ≡ 0 → k.message_ends ≡ []
    → (end_state_after (server_rules opened) (live k) (FrameReceived f ∷ es)).ended ≡ None
    → (end_state_after (server_rules opened) (live k) (FrameReceived f ∷ es)).state.message_ends ≡ item_ends is_send_item (length (hellos_of opened (live k) (FrameReceived f ∷ es))) (items_of opened (live k) (FrameReceived f ∷ es))
unfolding server_items_at
frame_ends opened k f es first some g zero empty stays = by (server_end opened k (FrameReceived f)) g stays
  where
    e : RunEvent
    e = FrameReceived f

    no_items : server_items_at opened k e ≡ []
    no_items = ap (λ (b : Bool). cond b [] (Rattle.nr_reduce.specs.DueItems.effect_items k (Rattle.nr_reduce.specs.ServerFrames.frame_effect k f))) (eq-eqb f.at 0 first)

    by : (o : Option End) → GoesOn (server_rules opened) ServerPlain f.end (next_end_state_by (server_rules opened) k e o) es → (end_state_after (server_rules opened) (next_end_state_by (server_rules opened) k e o) es).ended ≡ None
        → (end_state_after (server_rules opened) (next_end_state_by (server_rules opened) k e o) es).state.message_ends
        ≡ item_ends is_send_item (length (due_for_by (server_rules opened) (λ k event. server_hello_at opened event) (rejection Responder) k e o ++ hellos_of opened (next_end_state_by (server_rules opened) k e o) es))
        (due_for_by (server_rules opened) (server_items_at opened) (λ end. LastItem end ∷ []) k e o ++ items_of opened (next_end_state_by (server_rules opened) k e o) es)
    by None next live_still =
        let t : ServerState = server_state_after opened k e in
        let rest : List OutputItem = items_of opened (live t) es in
        let hello : List ℕ = server_hello_at opened e in
        let quiet = behind_output opened f.end (live t) es next some in
        let nothing : t.message_ends ≡ [] =
        server_sends opened k e ∙ (λ i. empty i ++ item_ends is_send_item k.due (no_items i)) in
        let due : t.due ≡ length (hello ++ hellos_of opened (live t) es) =
        omega (arith, zero, server_more opened k e, ap (λ (xs : List OutputItem). length (items_encoding xs)) no_items, length-append hello (hellos_of opened (live t) es), ap (λ (hs : List ℕ). length hs) quiet.0) in
        behind_ends opened f.end t es next some live_still
        ∙ (λ i. nothing i ++ item_ends is_send_item (due i) rest)
        ∙ ap (λ (xs : List OutputItem). item_ends is_send_item (length (hello ++ hellos_of opened (live t) es)) (xs ++ rest)) (sym no_items)
    by (Some end) next ended = absurd (some_none end (sym (ap (λ (r : EndState ServerState). r.ended) (ended_stays (server_rules opened) k end es).0) ∙ ended))

told_ends : (opened : LinkParameters) (k : ServerState) (what : Told) (es : List RunEvent) → k.ready ≡ []
    → (let t : ServerState = record k { credit = credit_told k.credit what } in
    (GoesOn (server_rules opened) ServerPlain 0 (live t) es → (end_state_after (server_rules opened) (live t) es).ended ≡ None
    → (end_state_after (server_rules opened) (live t) es).state.message_ends ≡ item_ends is_send_item (length (hellos_of opened (live t) es)) (items_of opened (live t) es)))
    → GoesOn (server_rules opened) ServerPlain 0 (next_end_state (server_rules opened) (live k) (ServerTold what)) es → (end_state_after (server_rules opened) (live k) (ServerTold what ∷ es)).ended ≡ None
    → (end_state_after (server_rules opened) (live k) (ServerTold what ∷ es)).state.message_ends ≡ item_ends is_send_item (length (hellos_of opened (live k) (ServerTold what ∷ es))) (items_of opened (live k) (ServerTold what ∷ es))
unfolding server_state_after server_items_at
told_ends opened k what es none rest g stays = by (server_end opened k e) (told_none opened k what none) g stays
  where
    e : RunEvent
    e = ServerTold what

    by : (o : Option End) → o ≡ None → GoesOn (server_rules opened) ServerPlain 0 (next_end_state_by (server_rules opened) k e o) es → (end_state_after (server_rules opened) (next_end_state_by (server_rules opened) k e o) es).ended ≡ None
        → (end_state_after (server_rules opened) (next_end_state_by (server_rules opened) k e o) es).state.message_ends
        ≡ item_ends is_send_item (length (due_for_by (server_rules opened) (λ k event. server_hello_at opened event) (rejection Responder) k e o ++ hellos_of opened (next_end_state_by (server_rules opened) k e o) es))
        (due_for_by (server_rules opened) (server_items_at opened) (λ end. LastItem end ∷ []) k e o ++ items_of opened (next_end_state_by (server_rules opened) k e o) es)
    by None is next live_still = rest next live_still
    by (Some end) is next live_still = absurd (some_none end is)

start_ends : (opened : LinkParameters) (k : ServerState) (es : List RunEvent) → GoesOn (server_rules opened) ServerPlain 0 (live k) es → k.ready ≡ [] → k.due ≡ 0 → k.message_ends ≡ [] → (end_state_after (server_rules opened) (live k) es).ended ≡ None
    → (end_state_after (server_rules opened) (live k) es).state.message_ends ≡ item_ends is_send_item (length (hellos_of opened (live k) es)) (items_of opened (live k) es)
unfolding server_end server_state_after server_items_at
start_ends opened k [] g none zero empty stays = empty
start_ends opened k (CallSubmitted p a ∷ es) g none zero empty stays = start_ends opened k es g.2 none zero empty stays
start_ends opened k (MemoryRevoked p xid ∷ es) g none zero empty stays = start_ends opened k es g.2 none zero empty stays
start_ends opened k (CallExecuted e ∷ es) g none zero empty stays = absurd (none_ready k g.1.call g.1.others none g.1.is_next)
start_ends opened k (QueueWritten taken ∷ es) g none zero empty stays = start_ends opened (record k { written = k.written + taken }) es g.2 none zero empty stays
start_ends opened k (ServerTold what ∷ es) g none zero empty stays = told_ends opened k what es none (λ next live_still. start_ends opened (record k { credit = credit_told k.credit what }) es next none zero empty live_still) g.2 stays
start_ends opened k (FrameReceived f ∷ es) g none zero empty stays = frame_ends opened k f es g.0.0 g.0.1 g.2 zero empty stays

-- ---- The laws

pub server_output_items : ServerOutputIsItems
unfolding output_due items_due hello_due
server_output_items opened link run typed served =
    start_output opened (initial_server opened).state (events link Responder run) (server_goes opened link run typed served).goes refl

pub server_counts_items : ServerCountsItems
unfolding server items_due hello_due
server_counts_items opened link run typed served stays =
    let es = events link Responder run in
    let kept = start_ends opened (initial_server opened).state es (server_goes opened link run typed served).goes refl refl refl stays in
    let written = server_bytes_written opened link run stays in
    (λ i. ends_waiting (written i) (kept i))
    ∙ waiting_items is_send_item (length (hellos_of opened (initial_server opened) es)) (length (bytes_sent link Responder run)) (items_of opened (initial_server opened) es)

pub server_written_items : (opened : LinkParameters) (link : ℕ) (run : List Mark) → IsTyped run → ServedSoFar opened link run → (server opened link run).ended ≡ None
    → ends_written (server opened link run).state.written (server opened link run).state.message_ends
    ≡ items_written is_send_item (length (hello_due opened link Responder run)) (length (bytes_sent link Responder run)) (items_due opened link Responder run)
unfolding server items_due hello_due
server_written_items opened link run typed served stays =
    let es = events link Responder run in
    let kept = start_ends opened (initial_server opened).state es (server_goes opened link run typed served).goes refl refl refl stays in
    let written = server_bytes_written opened link run stays in
    (λ i. ends_written (written i) (kept i))
    ∙ left_items is_send_item (length (hellos_of opened (initial_server opened) es)) (length (bytes_sent link Responder run)) (items_of opened (initial_server opened) es)
