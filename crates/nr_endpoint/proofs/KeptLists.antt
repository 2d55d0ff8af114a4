-- How long the lists of a side are: the receives and the messages, the Sends that wait, the regions.
use Rattle.std.proofs.Common.{◌≡◌, ℕ, ◌+◌, ◌-◌, ◌<◌, ◌≤◌, Bool, true, false, cond, List, [], ◌∷◌, ◌++◌, length, Option, Some, None, Result, Ok, Err, is_some, refl, sym, ap, ◌∙◌, inl, inr, eqb, arith, length-append}
use Rattle.std.proofs.lemmas.Bool.{cases_lt}
use Rattle.std.proofs.lemmas.List.{length-drop}
use Rattle.std.specs.Ordering.{nat_cmp}
use Rattle.std.specs.Cmp.{nat_cmp_total}
use Rattle.std.specs.FinMap.{FinMap, get, remove, len, get-empty, len-empty, empty_of_len, len-insert, len-remove}
use Rattle.nr_wire.specs.Constants.{OPCODE_READ_RESPONSE}
use Rattle.nr_wire.specs.declared.hello.Side.{Side}
use Rattle.nr_wire.specs.declared.stream.Awaited.{Awaited}
use Rattle.nr_wire.specs.declared.stream.Awaited.TheVariants.{Hello as HelloFrom, Fpdu}
use Rattle.nr_wire.specs.Hello.{Hello, hello_of}
use Rattle.nr_wire.specs.Segment.{Segment}
use Rattle.nr_wire.specs.Segment.Segment.{Tagged, Untagged}
use Rattle.nr_regions.specs.declared.right.Right.{Right}
use Rattle.nr_regions.specs.RegisteredMemory.{Region, RegisteredMemory, after_invalidate, after_invalidate_by, after_place, after_place_in, after_register, after_release, bytes_after_write, bytes_at, held_region, initial_memory, is_dead, live_region}
use Rattle.nr_regions.proofs.Holding.{get_insert_other, get_remove_other}
use Rattle.nr_link.specs.declared.end.End.{End}
use Rattle.nr_link.specs.Frames.{Frame}
use Rattle.nr_link.specs.Ending.{final_output}
use Rattle.nr_link.specs.Limits.{open_reads_max}
use Rattle.nr_link.specs.Output.{read_request, read_response, write}
use Rattle.nr_link.specs.ReceiveState.{ReadRequest, read_request_of}
use Rattle.nr_link.specs.declared.agreement.SideTerms.{SideTerms}
use Rattle.nr_link.specs.declared.agreement.Agreement.{Agreement}
use Rattle.nr_endpoint.specs.SendQueue.{SendQueue, ends_left, next_number, send_output, with_send_by, with_write, with_request, with_end, written}
use Rattle.nr_endpoint.specs.ReceiveQueue.{receives_kept}
use Rattle.nr_endpoint.specs.LinkState.{LinkState, LinkSide, has_ended, initial_link}
use Rattle.nr_endpoint.specs.Judging.{segment_end, next_frame, with_frame, with_segment_by, with_fpdu, with_peer_hello, with_effect, with_read_request, with_read_response, fetch_access, next_segment}
use Rattle.nr_endpoint.specs.Calls.{Call, after_call, after_calls}
use Rattle.nr_endpoint.specs.Calls.Call.{Feed, FeedOne, NextEvent, Post, Stop, OutOfMemory, Send, WriteRemote, ReadRemote, Drain, Register, Release, SendInvalidate, Hold, SendHeld, Invalidate}
use Rattle.nr_endpoint.specs.KeptLists.{ListsFit, WaitingSendsHaveBytes, registered, released, count_calls, IsHeldRelease, AreHeldReleases, HeldRegionsAreRegistered}
use Rattle.nr_endpoint.proofs.AlongFrames.{feed_keeps, feed_one_keeps}
use Rattle.nr_endpoint.proofs.ItemEnds.{left_gone, left_twice}
use Rattle.nr_endpoint.proofs.Queued.{send_by_some}
use Rattle.nr_endpoint.proofs.SendQueues.{ends_left_append, ends_left_fewer}
use Rattle.nr_endpoint.proofs.HellosFrom.{hello_from}

pub lists_fit : (s : LinkState) → receives_kept s.receive_queue + s.receive_queue.lent ≡ s.receive_queue.receives → length s.receive_queue.deliveries ≤ s.place → length s.reads ≤ open_reads_max → ListsFit s
lists_fit s receives events reads = record { receives = omega (arith, receives); events = events; reads = reads }

-- ---- The Sends that wait

-- from any offset on, the FPDUs have a byte for each Send that ends after it
abbrev SendsFit : SendQueue → Type 0
SendsFit q = (length q.send_ends ≤ length q.fpdus) × ((k : ℕ) → length (ends_left k q.send_ends) ≤ length q.fpdus - k)

longer : (q r : SendQueue) → r.send_ends ≡ q.send_ends → length q.fpdus ≤ length r.fpdus → SendsFit q → SendsFit r
longer q r same more fit = (
  omega (arith, fit.0, more, ap (λ (ends : List ℕ). length ends) same),
  λ k. omega (arith, fit.1 k, more, ap (λ (ends : List ℕ). length (ends_left k ends)) same),
)

one_more : (k end n : ℕ) (ends : List ℕ) → n < end → length (ends_left k ends) ≤ n - k → length (ends_left k (ends ++ end ∷ [])) ≤ end - k
one_more k end n ends lt fit =
    let both : length (ends_left k (ends ++ end ∷ [])) ≡ length (ends_left k ends) + length (ends_left k (end ∷ [])) =
    ap (λ (xs : List ℕ). length xs) (ends_left_append k ends (end ∷ [])) ∙ length-append (ends_left k ends) (ends_left k (end ∷ [])) in
    elim (cases_lt k end) [
      | inl before ↦ omega (arith, both, fit, lt, before, ends_left_fewer k (end ∷ []))
      | inr after ↦ omega (arith, both, fit, lt, after, ap (λ (xs : List ℕ). length xs) (left_gone k end [] after))
    ]

sent : (named : Option ℕ) (message : List ℕ) (q : SendQueue) → SendsFit q → SendsFit (with_send_by named message q)
sent named message q fit =
    let fpdus : List ℕ = q.fpdus ++ send_output q named message in
    let longer : length q.fpdus < length fpdus = omega (arith, length-append q.fpdus (send_output q named message), send_by_some named (next_number q.last_send) message) in (
      omega (arith, fit.0, longer, length-append q.send_ends (length fpdus ∷ [])),
      λ k. one_more k (length fpdus) (length q.fpdus) q.send_ends longer (fit.1 k),
    )

drained : (n : ℕ) (q : SendQueue) → SendsFit q → SendsFit (written n q)
unfolding written
drained n q fit =
    let j : ℕ = n - length q.hello in (
      omega (arith, fit.1 j, length-drop j q.fpdus),
      λ k. omega (arith, fit.1 (j + k), length-drop j q.fpdus, ap (λ (xs : List ℕ). length xs) (left_twice j k q.send_ends)),
    )

ended : (s : LinkState) (end : End) → SendsFit s.send_queue → SendsFit (with_end s.side end s.send_queue)
unfolding with_end
ended s end fit = longer s.send_queue (with_end s.side end s.send_queue) refl (omega (arith, length-append s.send_queue.fpdus (final_output end))) fit

responded : (r : Option ReadRequest) (m : RegisteredMemory) (q : SendQueue) → SendsFit q → SendsFit (with_read_request r m q)
responded None m q fit = fit
responded (Some r) m q fit = longer q (with_read_request (Some r) m q) refl (omega (arith, length-append q.fpdus (read_response r.sink r.sink_to (bytes_at m (fetch_access r))))) fit

-- ---- The regions

-- no STag that wasn't given is held, and n are
abbrev Counts : ℕ → RegisteredMemory → Type 0
Counts n m = ((stag : ℕ) → m.next ≤ stag → is_some (get m.held stag) ≡ false) × (len m.held ≡ n)

none_held : (o : Option Region) (region : Region) → o ≡ Some region → is_some o ≡ false → ⊥
none_held o region there none = absurd (let wrong : true ≡ false = ap (λ (p : Option Region). is_some p) (sym there) ∙ none in cc)

-- bytes that are placed stay in the region that is held
placed_in : (o : Option Region) (n : ℕ) (m : RegisteredMemory) (stag to : ℕ) (payload : List ℕ) → get m.held stag ≡ o → Counts n m → Counts n (after_place_in o m stag to payload)
placed_in None n m stag to payload there counts = counts
placed_in (Some region) n m stag to payload there counts =
    let after : Region = record { right = region.right; buf = bytes_after_write region.buf to payload } in (
      λ other le. ap (λ (o : Option Region). is_some o) (get_insert_other m.held stag after other (λ e. none_held (get m.held stag) region there (counts.0 stag (omega (arith, e, le))))) ∙ counts.0 other le,
      len-insert nat_cmp_total m.held stag after ∙ ap (λ (o : Option Region). cond (is_some o) (len m.held) (len m.held + 1)) there ∙ counts.1,
    )

placed_by : (b : Bool) (n : ℕ) (m : RegisteredMemory) (stag to : ℕ) (payload : List ℕ) → Counts n m → Counts n (after_place_in (cond b None (get m.held stag)) m stag to payload)
placed_by true n m stag to payload counts = counts
placed_by false n m stag to payload counts = placed_in (get m.held stag) n m stag to payload refl counts

placed : (n : ℕ) (m : RegisteredMemory) (stag to : ℕ) (payload : List ℕ) → Counts n m → Counts n (after_place m stag to payload)
unfolding after_place live_region held_region
placed n m stag to payload counts = placed_by (is_dead m stag) n m stag to payload counts

died_counts : (o : Option Region) (n : ℕ) (m : RegisteredMemory) (stag : ℕ) → Counts n m → Counts n (after_invalidate_by o m stag)
died_counts None n m stag counts = counts
died_counts (Some region) n m stag counts = counts

-- a region that dies is held
invalidate_counts : (n : ℕ) (m : RegisteredMemory) (stag : ℕ) → Counts n m → Counts n (after_invalidate m stag)
unfolding after_invalidate
invalidate_counts n m stag counts = died_counts (live_region m stag) n m stag counts

register_counts : (n : ℕ) (m : RegisteredMemory) (right : Right) (buf : List ℕ) → Counts n m → Counts (n + 1) (after_register m right buf)
unfolding after_register
register_counts n m right buf counts =
    let region : Region = record { right = right; buf = buf } in (
      λ other le. ap (λ (o : Option Region). is_some o) (get_insert_other m.held m.next region other (λ e. omega (arith, e, le))) ∙ counts.0 other (omega (arith, le)),
      len-insert nat_cmp_total m.held m.next region ∙ ap (λ (b : Bool). cond b (len m.held) (len m.held + 1)) (counts.0 m.next (omega arith)) ∙ ap (λ (k : ℕ). k + 1) counts.1,
    )

-- ---- A frame

-- what a frame keeps
record Keeps (s t : LinkState) : Type 0 where
  sends : SendsFit s.send_queue → SendsFit t.send_queue
  regions : (n : ℕ) → Counts n s.memory → Counts n t.memory

tagged_keeps : (s : LinkState) (f : Frame) (b last : Bool) (stag to : ℕ) (payload : List ℕ) →
    Keeps s (record (cond b (with_read_response last (length payload) (record s { memory = after_place s.memory stag to payload })) (record s { memory = after_place s.memory stag to payload })) { last = f.at; place = f.end })
tagged_keeps s f true last stag to payload = record { sends = λ fit. fit; regions = λ n counts. placed n s.memory stag to payload counts }
tagged_keeps s f false last stag to payload = record { sends = λ fit. fit; regions = λ n counts. placed n s.memory stag to payload counts }

segment_keeps : (s : LinkState) (f : Frame) (segment : Segment) (e : Option End) → Keeps s (with_segment_by f segment e s)
unfolding with_effect
segment_keeps s f segment (Some end) = record { sends = λ fit. ended s end fit; regions = λ n counts. counts }
segment_keeps s f (Tagged last opcode stag to payload) None = tagged_keeps s f (eqb opcode OPCODE_READ_RESPONSE) last stag to payload
segment_keeps s f (Untagged last opcode w queue msn offset payload) None = record {
  sends = λ fit. responded (read_request_of (Untagged last opcode w queue msn offset payload)) s.memory s.send_queue fit;
  regions = λ n counts. counts;
}

fpdu_keeps : (s : LinkState) (f : Frame) (r : Result Segment ℕ) → Keeps s (with_fpdu f r s)
unfolding with_fpdu
fpdu_keeps s f (Ok segment) = segment_keeps s f segment (segment_end s f segment)
fpdu_keeps s f (Err reason) = record { sends = λ fit. ended s _ fit; regions = λ n counts. counts }

hello_keeps : (s : LinkState) (f : Frame) (r : Result Hello ℕ) → Keeps s (with_peer_hello f r s)
unfolding with_peer_hello
hello_keeps s f (Ok hello) = record { sends = λ fit. fit; regions = λ n counts. counts }
hello_keeps s f (Err reason) = record { sends = λ fit. ended s _ fit; regions = λ n counts. counts }

frame_keeps : (s : LinkState) (a : Awaited) (frame : List ℕ) → Keeps s (with_frame s a frame)
frame_keeps s (HelloFrom side) frame =
    hello_from (Keeps s) side (next_frame s frame) (hello_of side frame) s (hello_keeps s (next_frame s frame) (hello_of side frame)) (record { sends = λ fit. fit; regions = λ n counts. counts })
frame_keeps s Fpdu frame = fpdu_keeps s (next_frame s frame) (next_segment s frame)

-- ---- Calls

either : (P : LinkState → Type 0) (s after : LinkState) (b : Bool) → P s → P after → P (cond b s after)
either P s after true now later = now
either P s after false now later = later

call_sends : (link : LinkSide) (call : Call) → SendsFit link.state.send_queue → SendsFit (after_call link call).state.send_queue
unfolding after_call
call_sends link (Feed piece) fit = feed_keeps (λ a s. SendsFit s.send_queue) (λ a s frame live now. (frame_keeps s a frame).sends now) link piece fit
call_sends link (FeedOne piece) fit = feed_one_keeps (λ a s. SendsFit s.send_queue) (λ a s frame live now. (frame_keeps s a frame).sends now) link piece fit
call_sends link NextEvent fit = fit
call_sends link Post fit = fit
call_sends link (Stop reason) fit = either (λ s. SendsFit s.send_queue) link.state _ (has_ended link.state) fit (ended link.state _ fit)
call_sends link OutOfMemory fit = either (λ s. SendsFit s.send_queue) link.state _ (has_ended link.state) fit fit
call_sends link (Send message) fit = either (λ s. SendsFit s.send_queue) link.state _ (has_ended link.state) fit (sent None message link.state.send_queue fit)
call_sends link (SendInvalidate stag message) fit = either (λ s. SendsFit s.send_queue) link.state _ (has_ended link.state) fit (sent (Some stag) message link.state.send_queue fit)
call_sends link (Hold message) fit = either (λ s. SendsFit s.send_queue) link.state _ (has_ended link.state) fit fit
call_sends link (SendHeld message) fit = either (λ s. SendsFit s.send_queue) link.state _ (has_ended link.state) fit (sent None message link.state.send_queue fit)
call_sends link (WriteRemote stag to bytes) fit =
    either (λ s. SendsFit s.send_queue) link.state _ (has_ended link.state) fit
    (longer link.state.send_queue (with_write stag to bytes link.state.send_queue) refl (omega (arith, length-append link.state.send_queue.fpdus (write stag to bytes))) fit)
call_sends link (ReadRemote sink at stag to n) fit =
    either (λ s. SendsFit s.send_queue) link.state _ (has_ended link.state) fit
    (longer link.state.send_queue (with_request sink at n stag to link.state.send_queue) refl (omega (arith, length-append link.state.send_queue.fpdus (read_request (next_number link.state.send_queue.last_request) sink at n stag to))) fit)
call_sends link (Drain count) fit = drained count link.state.send_queue fit
call_sends link (Register buf right) fit = fit
call_sends link (Release stag) fit = fit
call_sends link (Invalidate stag) fit = fit

calls_send : (link : LinkSide) (calls : List Call) → SendsFit link.state.send_queue → SendsFit (after_calls link calls).state.send_queue
unfolding after_calls
calls_send link [] fit = fit
calls_send link (call ∷ calls) fit = calls_send (after_call link call) calls (call_sends link call fit)

initial_sends : (side : Side) (receives first_stag : ℕ) (terms : SideTerms) (earlier : Option Agreement) → SendsFit (initial_link side receives first_stag terms earlier).state.send_queue
unfolding initial_link
initial_sends side receives first_stag terms earlier = (omega arith, λ k. omega arith)

pub waiting_sends_have_bytes : WaitingSendsHaveBytes
waiting_sends_have_bytes side receives first_stag terms earlier calls = (calls_send (initial_link side receives first_stag terms earlier) calls (initial_sends side receives first_stag terms earlier)).0

-- n regions are held before a call, and m after it
abbrev Moves : LinkSide → Call → ℕ → Type 0
Moves link call n = (m : ℕ) × Counts m (after_call link call).state.memory × (m + released call ≡ n + registered call)

still : (link : LinkSide) (call : Call) (n : ℕ) → Counts n (after_call link call).state.memory → released call ≡ 0 → registered call ≡ 0 → Moves link call n
still link call n counts none other = (n, counts, omega (arith, none, other))

some_held : (m : FinMap nat_cmp Region) (stag : ℕ) → is_some (get m stag) ≡ true → 1 ≤ len m
some_held m stag there =
    elim (cases_lt 0 (len m)) [
      | inl some ↦ omega (arith, some)
      | inr none ↦ absurd (let wrong : true ≡ false = sym there ∙ ap (λ (k : FinMap nat_cmp Region). is_some (get k stag)) (empty_of_len m (omega (arith, none))) ∙ ap (λ (o : Option Region). is_some o) (get-empty nat_cmp stag) in cc)
    ]

release_counts : (n : ℕ) (m : RegisteredMemory) (stag : ℕ) → is_some (held_region m stag) ≡ true → Counts n m → (k : ℕ) × Counts k (after_release m stag) × (k + 1 ≡ n)
unfolding after_release held_region
release_counts n m stag there counts =
    let less : len (remove m.held stag) ≡ len m.held - 1 = len-remove nat_cmp_total m.held stag ∙ ap (λ (b : Bool). cond b (len m.held - 1) (len m.held)) there in (
      len (remove m.held stag),
      (λ other le. ap (λ (o : Option Region). is_some o) (get_remove_other m.held stag other (λ e. differs other le e)) ∙ counts.0 other le, refl),
      omega (arith, less, some_held m.held stag there, counts.1),
    )
  where
    differs : (other : ℕ) → m.next ≤ other → other ≡ stag → ⊥
    differs other le e = absurd (let wrong : true ≡ false = sym there ∙ counts.0 stag (omega (arith, e, le)) in cc)

call_counts : (link : LinkSide) (call : Call) (n : ℕ) → IsHeldRelease link call → Counts n link.state.memory → Moves link call n
unfolding after_call
call_counts link (Feed piece) n may counts = still link (Feed piece) n (feed_keeps (λ a s. Counts n s.memory) (λ a s frame live now. (frame_keeps s a frame).regions n now) link piece counts) refl refl
call_counts link (FeedOne piece) n may counts = still link (FeedOne piece) n (feed_one_keeps (λ a s. Counts n s.memory) (λ a s frame live now. (frame_keeps s a frame).regions n now) link piece counts) refl refl
call_counts link NextEvent n may counts = still link NextEvent n counts refl refl
call_counts link Post n may counts = still link Post n counts refl refl
call_counts link (Stop reason) n may counts = still link (Stop reason) n (either (λ s. Counts n s.memory) link.state _ (has_ended link.state) counts counts) refl refl
call_counts link OutOfMemory n may counts = still link OutOfMemory n (either (λ s. Counts n s.memory) link.state _ (has_ended link.state) counts counts) refl refl
call_counts link (Send message) n may counts = still link (Send message) n (either (λ s. Counts n s.memory) link.state _ (has_ended link.state) counts counts) refl refl
call_counts link (SendInvalidate stag message) n may counts = still link (SendInvalidate stag message) n (either (λ s. Counts n s.memory) link.state _ (has_ended link.state) counts counts) refl refl
call_counts link (Hold message) n may counts = still link (Hold message) n (either (λ s. Counts n s.memory) link.state _ (has_ended link.state) counts counts) refl refl
call_counts link (SendHeld message) n may counts = still link (SendHeld message) n (either (λ s. Counts n s.memory) link.state _ (has_ended link.state) counts counts) refl refl
call_counts link (WriteRemote stag to bytes) n may counts = still link (WriteRemote stag to bytes) n (either (λ s. Counts n s.memory) link.state _ (has_ended link.state) counts counts) refl refl
call_counts link (ReadRemote sink at stag to k) n may counts = still link (ReadRemote sink at stag to k) n (either (λ s. Counts n s.memory) link.state _ (has_ended link.state) counts counts) refl refl
call_counts link (Drain count) n may counts = still link (Drain count) n counts refl refl
call_counts link (Register buf right) n may counts = (n + 1, register_counts n link.state.memory right buf counts, omega arith)
call_counts link (Release stag) n may counts = (let less = release_counts n link.state.memory stag may counts in (less.0, less.1, omega (arith, less.2)))
call_counts link (Invalidate stag) n may counts = still link (Invalidate stag) n (invalidate_counts n link.state.memory stag counts) refl refl

calls_count : (link : LinkSide) (calls : List Call) (n : ℕ) → AreHeldReleases link calls → Counts n link.state.memory →
    len (after_calls link calls).state.memory.held + count_calls released calls ≡ n + count_calls registered calls
unfolding after_calls
calls_count link [] n may counts = omega (arith, counts.1)
calls_count link (call ∷ calls) n may counts =
    let moved = call_counts link call n may.0 counts in
    omega (arith, moved.2, calls_count (after_call link call) calls moved.0 may.1 moved.1)

initial_counts : (side : Side) (receives first_stag : ℕ) (terms : SideTerms) (earlier : Option Agreement) → Counts 0 (initial_link side receives first_stag terms earlier).state.memory
unfolding initial_link initial_memory
initial_counts side receives first_stag terms earlier = (λ stag le. ap (λ (o : Option Region). is_some o) (get-empty nat_cmp stag), len-empty nat_cmp Region)

pub held_regions_are_registered : HeldRegionsAreRegistered
held_regions_are_registered side receives first_stag terms earlier calls may =
    omega (arith, calls_count (initial_link side receives first_stag terms earlier) calls 0 may (initial_counts side receives first_stag terms earlier))
