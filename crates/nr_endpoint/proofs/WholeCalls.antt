-- Several calls at once: from the side's new state to the list of calls.
use Rattle.std.proofs.Common.{◌≡◌, ℕ, ◌+◌, ◌<◌, Bool, true, false, cond, List, [], ◌∷◌, ◌++◌, length, drop, get_or, map, Option, None, Some, IfSome, Result, Ok, Err, refl, sym, ap, subst, ◌∙◌, append_assoc}
use Rattle.std.specs.Prelude.{IfOk, OnOk}
use Rattle.std.proofs.lemmas.List.{append-nil, drop_more}
use Rattle.nr_regions.specs.declared.right.Right.{Right}
use Rattle.nr_regions.specs.declared.right.Right.TheVariants.{Fetch, Fill}
use Rattle.nr_regions.specs.RegisteredMemory.{RegisteredMemory, Claim, IsHeld, after_register}
use Rattle.nr_regions.specs.Events.MemoryEvent.{Register as RegisterRegion}
use Rattle.nr_regions.specs.Events.{after_event}
use Rattle.nr_regions.proofs.Holding.{held_after_register, held_after_event}
use Rattle.nr_link.specs.Output.{write}
use Rattle.nr_endpoint.specs.declared.offering.Offered.{Offered}
use Rattle.nr_endpoint.specs.declared.offering.Claims.{Claims}
use Rattle.nr_endpoint.specs.declared.framing.RemoteWrite.{RemoteWrite}
use Rattle.nr_endpoint.specs.declared.sharing.SharedWrite.{SharedWrite}
use Rattle.nr_endpoint.specs.SendQueue.{SendQueue, with_send, with_send_by, with_held, with_fpdus, with_write}
use Rattle.nr_endpoint.specs.LinkState.{LinkSide, LinkState, has_ended}
use Rattle.std.specs.Ordering.{nat_cmp}
use Rattle.std.specs.FinMap.{FinMap}
use Rattle.nr_regions.specs.RegisteredMemory.{Outside}
use Rattle.nr_endpoint.specs.OperationSegments.{cut_room, writes_room}
use Rattle.nr_endpoint.specs.EndpointState.{EndpointState}
use Rattle.nr_endpoint.specs.Calls.{Call, after_call, after_calls, with_state, unless_ended}
use Rattle.nr_endpoint.specs.Calls.Call.{Send, Hold}
use Rattle.nr_endpoint.specs.Offering.{offer_calls, register_call, with_buffer, claim_if, with_read, with_write_buffer, with_offered, claims_of, AreHeld, after_offer, hold_calls, after_hold, write_call, send_call, answer_calls, writes_output, after_answer, shared_call, shared_calls, shared_output, after_shared}

-- what holds of the fields holds of the value
pub seen_all : {room : ℕ} {outside : FinMap nat_cmp Outside} (before : LinkSide) (staging : List ℕ) (now : EndpointState) (after : LinkSide) (calls : List Call) → record { link = before; staging = staging; room = room; outside = outside } ≡ now →
    after ≡ after_calls before calls → after ≡ after_calls now.link calls
seen_all before staging now after calls view is = is ∙ ap (λ (e : EndpointState). after_calls e.link calls) view

-- ---- A Send and the buffers that it offers

-- the state, with another memory
abbrev remembers : LinkState → RegisteredMemory → LinkState
remembers s m = record s { memory = m }

registered_all_lem : (l : LinkSide) (read write reply : Option (List ℕ)) →
    with_state (remembers l.state (with_buffer (with_buffer (with_buffer l.state.memory Fetch read) Fill write) Fill reply)) l
    ≡ after_calls l (register_call Fetch read ++ (register_call Fill write ++ register_call Fill reply))
unfolding after_calls after_call
registered_all_lem l None None None = refl
registered_all_lem l None None (Some c) = refl
registered_all_lem l None (Some b) None = refl
registered_all_lem l None (Some b) (Some c) = refl
registered_all_lem l (Some a) None None = refl
registered_all_lem l (Some a) None (Some c) = refl
registered_all_lem l (Some a) (Some b) None = refl
registered_all_lem l (Some a) (Some b) (Some c) = refl

abbrev after_sent : List ℕ → LinkState → LinkState
after_sent message s = unless_ended s (record s { send_queue = with_send message s.send_queue })

sent : (l : LinkSide) (message : List ℕ) → with_state (after_sent message l.state) l ≡ after_call l (Send message)
unfolding after_call
sent l message = refl

first_call : (l : LinkSide) (call : Call) (calls : List Call) → after_calls l (call ∷ calls) ≡ after_calls (after_call l call) calls
unfolding after_calls
first_call l call calls = refl

no_calls_lem : (l : LinkSide) → after_calls l [] ≡ l
unfolding after_calls
no_calls_lem l = refl

in_order_lem : (s : LinkState) (queue : SendQueue) (o : Offered) (b : Bool) →
    record s { memory = with_offered s.memory o; send_queue = cond b s.send_queue queue }
    ≡ remembers (cond b s (record s { send_queue = queue })) (with_offered (cond b s (record s { send_queue = queue })).memory o)
in_order_lem s queue o true = refl
in_order_lem s queue o false = refl

pub offered_state : (l : LinkSide) (t : LinkState) (message : List ℕ) (o : Offered) → t ≡ after_offer message o l.state → with_state t l ≡ after_calls l (offer_calls message o)
offered_state l t message o is =
    let others : List Call = register_call Fetch o.read ++ (register_call Fill o.write ++ register_call Fill o.reply) in
    ap (λ (s : LinkState). with_state s l) (is ∙ in_order_lem l.state (with_send message l.state.send_queue) o (has_ended l.state))
    ∙ registered_all_lem (with_state (after_sent message l.state) l) o.read o.write o.reply
    ∙ ap (λ (k : LinkSide). after_calls k others) (sent l message)
    ∙ sym (first_call l (Send message) others)

abbrev after_held : List ℕ → LinkState → LinkState
after_held message s = unless_ended s (record s { send_queue = with_held message s.send_queue })

held : (l : LinkSide) (message : List ℕ) → with_state (after_held message l.state) l ≡ after_call l (Hold message)
unfolding after_call
held l message = refl

pub held_state : (l : LinkSide) (t : LinkState) (message : List ℕ) (o : Offered) → t ≡ after_hold message o l.state → with_state t l ≡ after_calls l (hold_calls message o)
held_state l t message o is =
    let others : List Call = register_call Fetch o.read ++ (register_call Fill o.write ++ register_call Fill o.reply) in
    ap (λ (s : LinkState). with_state s l) (is ∙ in_order_lem l.state (with_held message l.state.send_queue) o (has_ended l.state))
    ∙ registered_all_lem (with_state (after_held message l.state) l) o.read o.write o.reply
    ∙ ap (λ (k : LinkSide). after_calls k others) (held l message)
    ∙ sym (first_call l (Hold message) others)

-- each registration is held
claim_held : (m : RegisteredMemory) (right : Right) (buf : Option (List ℕ)) → IfSome (claim_if m buf) (IsHeld (with_buffer m right buf))
claim_held m right None = tt
claim_held m right (Some buf) = held_after_register m right buf

register_keeps : (m : RegisteredMemory) (right : Right) (buf : List ℕ) (claim : Claim) → IsHeld m claim → IsHeld (after_register m right buf) claim
unfolding after_event
register_keeps m right buf claim held = held_after_event m claim (RegisterRegion right buf) held tt

claim_stays : (m : RegisteredMemory) (claim : Option Claim) (right : Right) (buf : Option (List ℕ)) → IfSome claim (IsHeld m) → IfSome claim (IsHeld (with_buffer m right buf))
claim_stays m None right buf held = tt
claim_stays m (Some claim) right None held = held
claim_stays m (Some claim) right (Some buf) held = register_keeps m right buf claim held

pub offered_held : (m : RegisteredMemory) (o : Offered) → AreHeld (with_offered m o) (claims_of m o)
offered_held m o = (
  claim_stays (with_write_buffer m o) (claim_if m o.read) Fill o.reply (claim_stays (with_read m o) (claim_if m o.read) Fill o.write (claim_held m Fetch o.read)),
  (
    claim_stays (with_write_buffer m o) (claim_if (with_read m o) o.write) Fill o.reply (claim_held (with_read m o) Fill o.write),
    claim_held (with_write_buffer m o) Fill o.reply,
  ),
)

pub held_of : (r : Result Claims Offered) (m n : RegisteredMemory) (o : Offered) → IfOk r (λ claims. claims ≡ claims_of m o) → OnOk r (n ≡ with_offered m o) → IfOk r (AreHeld n)
held_of (Ok claims) m n o is same =
    subst (λ (k : RegisteredMemory). AreHeld k claims) (sym same) (subst (λ (given : Claims). AreHeld (with_offered m o) given) (sym is) (offered_held m o))
held_of (Err e) m n o is same = tt

-- ---- RDMA Writes and a Send

-- the state, with another queue of output
abbrev queued : LinkState → SendQueue → LinkState
queued s q = record s { send_queue = q }

sent_call : (l : LinkSide) (named : Option ℕ) (message : List ℕ) →
    after_call l (send_call named message) ≡ with_state (cond (has_ended l.state) l.state (queued l.state (with_send_by named message l.state.send_queue))) l
unfolding after_call
sent_call l None message = refl
sent_call l (Some stag) message = refl

answered_live : (writes : List RemoteWrite) (l : LinkSide) (named : Option ℕ) (message : List ℕ) → has_ended l.state ≡ false →
    with_state (queued l.state (with_send_by named message (with_fpdus (writes_output writes) l.state.send_queue))) l ≡ after_calls l (answer_calls writes named message)
unfolding after_call
answered_live [] l named message live =
    let q : SendQueue = l.state.send_queue in
    ap (λ (bytes : List ℕ). with_state (queued l.state (with_send_by named message (record q { fpdus = bytes }))) l) (append-nil q.fpdus)
    ∙ sym (ap (λ (b : Bool). with_state (cond b l.state (queued l.state (with_send_by named message q))) l) live)
    ∙ sym (sent_call l named message)
    ∙ sym (no_calls_lem (after_call l (send_call named message)))
    ∙ sym (first_call l (send_call named message) [])
answered_live (w ∷ writes) l named message live =
    let q : SendQueue = l.state.send_queue in
    let one : LinkSide = with_state (queued l.state (with_write w.stag w.to w.bytes.now q)) l in
    let first : after_call l (write_call w) ≡ one = ap (λ (b : Bool). with_state (cond b l.state (queued l.state (with_write w.stag w.to w.bytes.now q))) l) live in
    ap (λ (bytes : List ℕ). with_state (queued l.state (with_send_by named message (record q { fpdus = bytes }))) l) (sym (append_assoc q.fpdus (write w.stag w.to w.bytes.now) (writes_output writes)))
    ∙ answered_live writes one named message live
    ∙ ap (λ (k : LinkSide). after_calls k (answer_calls writes named message)) (sym first)
    ∙ sym (first_call l (write_call w) (answer_calls writes named message))

answered_ended : (writes : List RemoteWrite) (l : LinkSide) (named : Option ℕ) (message : List ℕ) → has_ended l.state ≡ true → l ≡ after_calls l (answer_calls writes named message)
unfolding after_call
answered_ended [] l named message over =
    sym (ap (λ (b : Bool). with_state (cond b l.state (queued l.state (with_send_by named message l.state.send_queue))) l) over)
    ∙ sym (sent_call l named message)
    ∙ sym (no_calls_lem (after_call l (send_call named message)))
    ∙ sym (first_call l (send_call named message) [])
answered_ended (w ∷ writes) l named message over =
    let first : after_call l (write_call w) ≡ l = ap (λ (b : Bool). with_state (cond b l.state (queued l.state (with_write w.stag w.to w.bytes.now l.state.send_queue))) l) over in
    answered_ended writes l named message over
    ∙ ap (λ (k : LinkSide). after_calls k (answer_calls writes named message)) (sym first)
    ∙ sym (first_call l (write_call w) (answer_calls writes named message))

pub answered_state : (l : LinkSide) (t : LinkState) (writes : List RemoteWrite) (named : Option ℕ) (message : List ℕ) → t ≡ after_answer writes named message l.state →
    with_state t l ≡ after_calls l (answer_calls writes named message)
answered_state l t writes named message is = ap (λ (s : LinkState). with_state s l) is ∙ by (has_ended l.state) refl
  where
    after : LinkState
    after = queued l.state (with_send_by named message (with_fpdus (writes_output writes) l.state.send_queue))

    by : (b : Bool) → has_ended l.state ≡ b → with_state (cond (has_ended l.state) l.state after) l ≡ after_calls l (answer_calls writes named message)
    by true over = ap (λ (b : Bool). with_state (cond b l.state after) l) over ∙ answered_ended writes l named message over
    by false live = ap (λ (b : Bool). with_state (cond b l.state after) l) live ∙ answered_live writes l named message live

-- ---- RDMA Writes of shared bytes: those of the same bytes, wherever they are

abbrev plain : SharedWrite → RemoteWrite
plain w = record { stag = w.stag; to = w.to; bytes = record { ref_ptr = (0, 0); now = w.bytes } }

plain_output : (writes : List SharedWrite) → shared_output writes ≡ writes_output (map plain writes)
plain_output [] = refl
plain_output (w ∷ writes) = ap (λ (bytes : List ℕ). write w.stag w.to w.bytes ++ bytes) (plain_output writes)

plain_calls : (writes : List SharedWrite) (named : Option ℕ) (message : List ℕ) → answer_calls (map plain writes) named message ≡ shared_calls writes named message
plain_calls [] named message = refl
plain_calls (w ∷ writes) named message = ap (λ (calls : List Call). shared_call w ∷ calls) (plain_calls writes named message)

pub shared_state : (l : LinkSide) (t : LinkState) (writes : List SharedWrite) (named : Option ℕ) (message : List ℕ) → t ≡ after_shared writes named message l.state →
    with_state t l ≡ after_calls l (shared_calls writes named message)
shared_state l t writes named message is =
    answered_state l t (map plain writes) named message
    (is ∙ ap (λ (bytes : List ℕ). cond (has_ended l.state) l.state (queued l.state (with_send_by named message (with_fpdus bytes l.state.send_queue)))) (plain_output writes))
    ∙ ap (λ (calls : List Call). after_calls l calls) (plain_calls writes named message)

-- ---- RDMA Writes, one at a time

pub write_goes : (writes : List RemoteWrite) (i : ℕ) (d : RemoteWrite) (total now after : List ℕ) → i < length writes →
    now ++ writes_output (drop i writes) ≡ total → after ≡ now ++ write (get_or writes i d).stag (get_or writes i d).to (get_or writes i d).bytes.now → after ++ writes_output (drop (i + 1) writes) ≡ total
write_goes writes i d total now after lt so_far e =
    let w : RemoteWrite = get_or writes i d in
    let others : List RemoteWrite = drop (i + 1) writes in
    let left : drop i writes ≡ w ∷ others = drop_more writes i d lt in
    ap (λ (bytes : List ℕ). bytes ++ writes_output others) e
    ∙ append_assoc now (write w.stag w.to w.bytes.now) (writes_output others)
    ∙ ap (λ (ws : List RemoteWrite). now ++ writes_output ws) (sym left)
    ∙ so_far

-- the room of the next one, and of those after it
pub writes_room_next : (framing : ℕ) (writes : List RemoteWrite) (i : ℕ) (d : RemoteWrite) → i < length writes →
    writes_room framing (drop i writes) ≡ cut_room framing (get_or writes i d).bytes.now + writes_room framing (drop (i + 1) writes)
writes_room_next framing writes i d lt = ap (writes_room framing) (drop_more writes i d lt)

-- ---- RDMA Writes of shared bytes, one at a time

pub shared_goes : (writes : List SharedWrite) (i : ℕ) (w : SharedWrite) (total now after : List ℕ) → i < length writes → w ≡ get_or writes i w →
    now ++ shared_output (drop i writes) ≡ total → after ≡ now ++ write w.stag w.to w.bytes → after ++ shared_output (drop (i + 1) writes) ≡ total
shared_goes writes i w total now after lt is so_far e =
    let others : List SharedWrite = drop (i + 1) writes in
    let left : drop i writes ≡ w ∷ others = drop_more writes i w lt ∙ ap (λ (x : SharedWrite). x ∷ others) (sym is) in
    ap (λ (bytes : List ℕ). bytes ++ shared_output others) e
    ∙ append_assoc now (write w.stag w.to w.bytes) (shared_output others)
    ∙ ap (λ (ws : List SharedWrite). now ++ shared_output ws) (sym left)
    ∙ so_far
