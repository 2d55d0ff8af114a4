-- A call that was sent by its plan: what is kept, as the definitions see it.
use Rattle.std.proofs.Common.{◌≡◌, ℕ, ◌+◌, Bool, true, false, cond, Option, None, List, [], ◌∷◌, ◌++◌, map, replicate, Some, refl, sym, ap, ◌∙◌, arith}
use Rattle.std.specs.Prelude.{is_some}
use Rattle.nr_regions.specs.declared.right.Right.{Right}
use Rattle.nr_regions.specs.declared.right.Right.TheVariants.{Fetch, Fill}
use Rattle.nr_regions.specs.RegisteredMemory.{RegisteredMemory, after_register}
use Rattle.nr_link.specs.declared.end.End.{End}
use Rattle.nr_endpoint.specs.declared.offering.Offered.{Offered}
use Rattle.nr_endpoint.specs.LinkState.{LinkState, LinkSide}
use Rattle.nr_endpoint.specs.SendQueue.{with_send}
use Rattle.nr_endpoint.specs.Calls.{with_state, after_calls}
use Rattle.nr_endpoint.proofs.WholeCalls.{offered_state}
use Rattle.nr_endpoint.specs.Offering.{offer_calls, after_offer, with_buffer, with_offered, with_read, with_write_buffer, claim_if, claims_of, offered_count, one_of}
use Rattle.nr_reduce.specs.declared.outline.Plan.{Plan}
use Rattle.nr_header.specs.declared.header.ChunkLists.{ChunkLists}
use Rattle.nr_header.specs.Header.{header_encoding}
use Rattle.nr_reduce.specs.Plans.{body_by, lists_of, Buffer, buffers, buffer_if, regions_needed, has_segment, one_if, total, call_message, read_stag, write_stag, reply_stag}
use Rattle.nr_reduce.specs.KeptClient.{registered_all}
use Rattle.nr_requester.specs.AfterCalls.{submitted}
use Rattle.nr_requester.specs.Sending.{some_if, offered_of}
use Rattle.nr_requester.specs.RequesterState.{stag_of, stags_of}

-- ---- Its regions

one_registered : (m : RegisteredMemory) (b : Bool) (stag : ℕ) (right : Right) (bytes : List ℕ) → registered_all m (buffer_if b stag right bytes) ≡ with_buffer m right (some_if b bytes)
one_registered m true stag right bytes = refl
one_registered m false stag right bytes = refl

registered_append : (xs ys : List Buffer) (m : RegisteredMemory) → registered_all m (xs ++ ys) ≡ registered_all (registered_all m xs) ys
registered_append [] ys m = refl
registered_append (b ∷ xs) ys m = registered_append xs ys (after_register m b.right b.bytes)

pub registered_offered : (m : RegisteredMemory) (stag : ℕ) (p : Plan) → registered_all m (buffers stag p) ≡ with_offered m (offered_of p)
unfolding buffers
registered_offered m stag p =
    let r : List Buffer = buffer_if (has_segment (Some p.read)) (read_stag stag p) Fetch p.region in
    let w : List Buffer = buffer_if (has_segment p.write) (write_stag stag p) Fill (replicate (total p.write) 0) in
    let y : List Buffer = buffer_if (has_segment p.reply) (reply_stag stag p) Fill (replicate (total p.reply) 0) in
    registered_append r (w ++ y) m
    ∙ ap (λ (x : RegisteredMemory). registered_all x (w ++ y)) (one_registered m (has_segment (Some p.read)) (read_stag stag p) Fetch p.region)
    ∙ registered_append w y (with_read m (offered_of p))
    ∙ ap (λ (x : RegisteredMemory). registered_all x y) (one_registered (with_read m (offered_of p)) (has_segment p.write) (write_stag stag p) Fill (replicate (total p.write) 0))
    ∙ one_registered (with_write_buffer m (offered_of p)) (has_segment p.reply) (reply_stag stag p) Fill (replicate (total p.reply) 0)

pub next_buffer : (m : RegisteredMemory) (right : Right) (b : Bool) (bytes : List ℕ) → (with_buffer m right (some_if b bytes)).next ≡ m.next + one_if b
unfolding after_register
next_buffer m right true bytes = refl
next_buffer m right false bytes = omega arith

-- the STag after those of a plan
pub registered_next : (m : RegisteredMemory) (p : Plan) → (registered_all m (buffers m.next p)).next ≡ m.next + regions_needed p
unfolding regions_needed
registered_next m p =
    let a = next_buffer m Fetch (has_segment (Some p.read)) p.region in
    let b = next_buffer (with_read m (offered_of p)) Fill (has_segment p.write) (replicate (total p.write) 0) in
    let c = next_buffer (with_write_buffer m (offered_of p)) Fill (has_segment p.reply) (replicate (total p.reply) 0) in
    let all : (with_offered m (offered_of p)).next ≡ m.next + (one_if (has_segment (Some p.read)) + one_if (has_segment p.write) + one_if (has_segment p.reply)) = omega (arith, a, b, c) in
    ap (λ (x : RegisteredMemory). x.next) (registered_offered m m.next p) ∙ all

count_one : (b : Bool) (bytes : List ℕ) → one_of (some_if b bytes) ≡ one_if b
count_one true bytes = refl
count_one false bytes = refl

pub count_offered : (p : Plan) → offered_count (offered_of p) ≡ regions_needed p
unfolding regions_needed
count_offered p =
    let a = count_one (has_segment (Some p.read)) p.region in
    let b = count_one (has_segment p.write) (replicate (total p.write) 0) in
    let c = count_one (has_segment p.reply) (replicate (total p.reply) 0) in
    omega (arith, a, b, c)

-- the buffers of a plan, one by one
pub offered_parts : (p : Plan) (read write reply : Option (List ℕ)) → read ≡ some_if (has_segment (Some p.read)) p.region → write ≡ some_if (has_segment p.write) (replicate (total p.write) 0) → reply ≡ some_if (has_segment p.reply) (replicate (total p.reply) 0) →
    record { read = read; write = write; reply = reply } ≡ offered_of p
offered_parts p read write reply a b d = λ i. record { read = a i; write = b i; reply = d i }

-- ---- Its STags

one_stag : (m : RegisteredMemory) (b : Bool) (stag : ℕ) (right : Right) (bytes : List ℕ) → m.next ≡ stag → stag_of (claim_if m (some_if b bytes)) ≡ map (λ x. x.stag) (buffer_if b stag right bytes)
one_stag m true stag right bytes e = ap (λ (n : ℕ). n ∷ []) e
one_stag m false stag right bytes e = refl

map_both : (xs ys : List Buffer) → map (λ x. x.stag) (xs ++ ys) ≡ map (λ x. x.stag) xs ++ map (λ x. x.stag) ys
map_both [] ys = refl
map_both (b ∷ xs) ys = ap (λ (ss : List ℕ). b.stag ∷ ss) (map_both xs ys)

pub stags_are_lem : (m : RegisteredMemory) (p : Plan) → stags_of (claims_of m (offered_of p)) ≡ map (λ b. b.stag) (buffers m.next p)
unfolding buffers
stags_are_lem m p =
    let r : List Buffer = buffer_if (has_segment (Some p.read)) (read_stag m.next p) Fetch p.region in
    let w : List Buffer = buffer_if (has_segment p.write) (write_stag m.next p) Fill (replicate (total p.write) 0) in
    let y : List Buffer = buffer_if (has_segment p.reply) (reply_stag m.next p) Fill (replicate (total p.reply) 0) in
    let second : (with_read m (offered_of p)).next ≡ write_stag m.next p = next_buffer m Fetch (has_segment (Some p.read)) p.region in
    let third : (with_write_buffer m (offered_of p)).next ≡ reply_stag m.next p = next_buffer (with_read m (offered_of p)) Fill (has_segment p.write) (replicate (total p.write) 0) ∙ ap (λ (n : ℕ). n + one_if (has_segment p.write)) second in
    (λ i. one_stag m (has_segment (Some p.read)) m.next Fetch p.region refl i
    ++ (one_stag (with_read m (offered_of p)) (has_segment p.write) (write_stag m.next p) Fill (replicate (total p.write) 0) second i
    ++ one_stag (with_write_buffer m (offered_of p)) (has_segment p.reply) (reply_stag m.next p) Fill (replicate (total p.reply) 0) third i))
    ∙ ap (λ (ss : List ℕ). map (λ (x : Buffer). x.stag) r ++ ss) (sym (map_both w y))
    ∙ sym (map_both r (w ++ y))

-- ---- Its message

pub message_by : (xid credit stag : ℕ) (p : Plan) (lists : ChunkLists) (front sent stream : List ℕ) → sent ≡ front → front ++ stream ≡ header_encoding (record { xid = xid; credit = credit; body = body_by p.read_at lists }) ++ p.inline → lists ≡ lists_of stag p → sent ++ stream ≡ call_message xid credit stag p
unfolding call_message
message_by xid credit stag p lists front sent stream same is are = (λ i. same i ++ stream) ∙ is ∙ ap (λ (l : ChunkLists). header_encoding (record { xid = xid; credit = credit; body = body_by p.read_at l }) ++ p.inline) are

-- ---- The side of the link

pub offered_view : (link link2 : LinkSide) (xid credit : ℕ) (p : Plan) (message : List ℕ) (offered : Offered) → link.state.ended ≡ None → link2 ≡ after_calls link (offer_calls message offered) →
    message ≡ call_message xid credit link.state.memory.next p → offered ≡ offered_of p →
    link2 ≡ with_state (submitted link.state (call_message xid credit link.state.memory.next p) (buffers link.state.memory.next p)) link
offered_view link link2 xid credit p message offered lives is said are =
    let s : LinkState = link.state in
    let live_side : is_some s.ended ≡ false = ap (λ (x : Option End). is_some x) lives in
    is
    ∙ sym (offered_state link (after_offer message offered s) message offered refl)
    ∙ (λ i. with_state (record s { memory = with_offered s.memory (are i); send_queue = cond (live_side i) s.send_queue (with_send (said i) s.send_queue) }) link)
    ∙ ap (λ (m : RegisteredMemory). with_state (record s { memory = m; send_queue = with_send (call_message xid credit s.memory.next p) s.send_queue }) link) (sym (registered_offered s.memory s.memory.next p))

-- its memory, also if it has ended
pub offered_memory : (link link2 : LinkSide) (message : List ℕ) (offered : Offered) → link2 ≡ after_calls link (offer_calls message offered) → link2.state.memory ≡ with_offered link.state.memory offered
offered_memory link link2 message offered is =
    ap (λ (l : LinkSide). l.state.memory) (is ∙ sym (offered_state link (after_offer message offered link.state) message offered refl))
