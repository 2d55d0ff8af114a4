-- What an event makes due at a server: its hello, or items; and the ends that it adds are those of the items.
use Rattle.std.proofs.Common.{◌≡◌, ℕ, ◌+◌, Bool, true, false, cond, eqb, List, [], ◌∷◌, ◌++◌, length, take, drop, Option, None, Some, refl, sym, ap, ◌∙◌, arith, append-nil, length-append}
use Rattle.std.specs.Prelude.{min}
use Rattle.nr_header.specs.declared.header.ChunkLists.{ChunkLists}
use Rattle.nr_header.specs.declared.header.RdmaSegment.{RdmaSegment}
use Rattle.nr_rpc.specs.Reading.{call_of, target_of}
use Rattle.nr_wire.specs.declared.hello.Side.TheVariants.{Responder}
use Rattle.nr_link.specs.declared.end.End.{End}
use Rattle.nr_link.specs.Frames.{Frame, is_hello}
use Rattle.nr_link.specs.Ending.{final_output, rejection, last_output}
use Rattle.nr_link.specs.Output.{cut, msn_word, send, send_by, send_invalidating, read_request, write}
use Rattle.nr_wire.specs.Constants.{OPCODE_SEND_INVALIDATE, QUEUE_SEND}
use Rattle.nr_wire.specs.Segment.Segment.{Untagged}
use Rattle.nr_link.specs.OutputItem.{OutputItem, item_encoding, items_encoding, is_send_item, item_ends}
use Rattle.nr_link.specs.OutputItem.OutputItem.{WriteItem, LastItem}
use Rattle.nr_reduce.specs.Hellos.{server_hello}
use Rattle.nr_reduce.specs.declared.mark.LinkParameters.{LinkParameters}
use Rattle.nr_reduce.specs.History.{ExecutedCall}
use Rattle.nr_reduce.specs.Holds.{Answer, answer_writes, answer_message, chunk_error, writes_into, first_chunk, no_segments}
use Rattle.nr_reduce.specs.Events.{RunEvent}
use Rattle.nr_reduce.specs.Events.RunEvent.{FrameReceived, CallSubmitted, MemoryRevoked, CallExecuted, QueueWritten, ServerTold}
use Rattle.nr_reduce.specs.ServerState.{PendingRead, ServerState, credit_word}
use Rattle.nr_reduce.specs.ServerFrames.{frame_effect}
use Rattle.nr_reduce.specs.Server.{server_state_after, server_output, sends_from, send_ends_from, requests_from, newly_open_reads, effect_output, offer_of, answer_of_target, answer_output, execution_output, stag_named, with_effect, with_own_hello}
use Rattle.nr_reduce.specs.DueItems.{message_items, request_items, effect_items, send_item_by, write_items, answer_items, execution_items, server_items_at, server_hello_at}
use Rattle.nr_reduce.proofs.WholeWrotes.{server_due}
use Rattle.nr_reduce.proofs.OutputItems.{encoding_append, ends_append, send_word, request_word}

messages_encoded : (number : ℕ) (ms : List (List ℕ)) → sends_from number ms ≡ items_encoding (message_items number ms)
messages_encoded number [] = refl
messages_encoded number (m ∷ ms) = (λ i. send_word number m i ++ messages_encoded (number + 1) ms i)

requests_encoded : (number : ℕ) (reads : List PendingRead) → requests_from number reads ≡ items_encoding (request_items number reads)
requests_encoded number [] = refl
requests_encoded number (r ∷ reads) = (λ i. request_word number r.sink r.at r.size r.stag r.to i ++ requests_encoded (number + 1) reads i)

writes_encoded : (chunk : List RdmaSegment) (bytes : List ℕ) → writes_into chunk bytes ≡ items_encoding (write_items chunk bytes)
writes_encoded [] bytes = refl
writes_encoded (s ∷ chunk) bytes = by (eqb (min s.length (length bytes)) 0) (writes_encoded chunk (drop s.length bytes))
  where
    rest : List OutputItem
    rest = write_items chunk (drop s.length bytes)

    one : OutputItem
    one = WriteItem s.handle s.offset (take s.length bytes)

    by : (b : Bool) → writes_into chunk (drop s.length bytes) ≡ items_encoding rest
        → cond b [] (write s.handle s.offset (take s.length bytes)) ++ writes_into chunk (drop s.length bytes) ≡ items_encoding (cond b [] (one ∷ []) ++ rest)
    by true h = h
    by false h = ap (λ (bs : List ℕ). write s.handle s.offset (take s.length bytes) ++ bs) h

-- a Send of either kind, with its number as a word
send_by_word : (named : Option ℕ) (number : ℕ) (message : List ℕ) → send_by named number message ≡ item_encoding (send_item_by named number message)
unfolding send_invalidating
send_by_word None number message = send_word number message
send_by_word (Some stag) number message =
    let same : msn_word number ≡ msn_word (msn_word number) = omega arith in
    ap (λ (m : ℕ). cut (λ last offset payload. Untagged last OPCODE_SEND_INVALIDATE (cond last stag 0) QUEUE_SEND m offset payload) message) same

one_end : (due : ℕ) (named : Option ℕ) (number : ℕ) (message : List ℕ) →
    (due + length (item_encoding (send_item_by named number message))) ∷ [] ≡ item_ends is_send_item due (send_item_by named number message ∷ [])
one_end due None number message = refl
one_end due (Some stag) number message = refl

answer_encoded : (k : ServerState) (xid : ℕ) (offer : ChunkLists) (o : Option Answer) → answer_output k xid offer o ≡ items_encoding (answer_items k xid offer o)
unfolding answer_writes
answer_encoded k xid offer None =
    let error = chunk_error xid (credit_word k) in
    send_word (k.messages_queued + 1) error ∙ sym (append-nil (send (msn_word (k.messages_queued + 1)) error))
answer_encoded k xid offer (Some a) =
    (λ i. writes i ++ (send_by_word named (k.messages_queued + 1) message ∙ sym (append-nil (item_encoding (send_item_by named (k.messages_queued + 1) message)))) i)
    ∙ sym (encoding_append (moved ++ long a.long) (send_item_by named (k.messages_queued + 1) message ∷ []))
  where
    named : Option ℕ
    named = stag_named k.invalidates offer

    message : List ℕ
    message = answer_message xid (credit_word k) offer a

    moved : List OutputItem
    moved = write_items (first_chunk offer.write) a.moved

    long : Bool → List OutputItem
    long b = cond b (write_items (no_segments offer.reply) a.stream) []

    by : (b : Bool) → cond b (writes_into (no_segments offer.reply) a.stream) [] ≡ items_encoding (long b)
    by true = writes_encoded (no_segments offer.reply) a.stream
    by false = refl

    writes : writes_into (first_chunk offer.write) a.moved ++ cond a.long (writes_into (no_segments offer.reply) a.stream) [] ≡ items_encoding (moved ++ long a.long)
    writes = (λ i. writes_encoded (first_chunk offer.write) a.moved i ++ by a.long i) ∙ sym (encoding_append moved (long a.long))

execution_encoded : (k : ServerState) (e : ExecutedCall) → execution_output k e ≡ items_encoding (execution_items k e)
unfolding execution_output execution_items
execution_encoded k e = answer_encoded k e.xid (offer_of k e.xid) (answer_of_target (offer_of k e.xid) k.down_max e.reply (target_of (call_of e.payload)))

effect_encoded : (k : ServerState) (f : Frame) → effect_output k (frame_effect k f) ≡ items_encoding (effect_items k (frame_effect k f))
effect_encoded k f =
    (λ i. messages_encoded (k.messages_queued + 1) (frame_effect k f).errors i ++ requests_encoded (k.requests_sent + 1) (newly_open_reads (frame_effect k f)) i)
    ∙ sym (encoding_append (message_items (k.messages_queued + 1) (frame_effect k f).errors) (request_items (k.requests_sent + 1) (newly_open_reads (frame_effect k f))))

pub server_encoded : (opened : LinkParameters) (k : ServerState) (e : RunEvent) → server_output opened k e ≡ server_hello_at opened e ++ items_encoding (server_items_at opened k e)
unfolding server_output server_items_at
server_encoded opened k (FrameReceived f) = by (is_hello f)
  where
    by : (b : Bool) → cond b (server_hello opened f) (effect_output k (frame_effect k f)) ≡ cond b (server_hello opened f) [] ++ items_encoding (cond b [] (effect_items k (frame_effect k f)))
    by true = sym (append-nil (server_hello opened f))
    by false = effect_encoded k f
server_encoded opened k (CallSubmitted place a) = refl
server_encoded opened k (MemoryRevoked place xid) = refl
server_encoded opened k (CallExecuted e) = execution_encoded k e
server_encoded opened k (QueueWritten taken) = refl
server_encoded opened k (ServerTold what) = refl

pub server_last : (end : End) → last_output Responder end ≡ rejection Responder end ++ items_encoding (LastItem end ∷ [])
server_last end = ap (λ (bs : List ℕ). rejection Responder end ++ bs) (sym (append-nil (final_output end)))

-- ---- The ends of messages

messages_end : (due number : ℕ) (ms : List (List ℕ)) → send_ends_from due number ms ≡ item_ends is_send_item due (message_items number ms)
messages_end due number [] = refl
messages_end due number (m ∷ ms) =
    ap (λ (ends : List ℕ). (due + length (send number m)) ∷ ends) (messages_end (due + length (send number m)) (number + 1) ms)
    ∙ ap (λ (bs : List ℕ). (due + length bs) ∷ item_ends is_send_item (due + length bs) (message_items (number + 1) ms)) (send_word number m)

requests_none : (due number : ℕ) (reads : List PendingRead) → item_ends is_send_item due (request_items number reads) ≡ []
requests_none due number [] = refl
requests_none due number (r ∷ reads) = requests_none (due + length (read_request (msn_word number) r.sink r.at r.size r.stag r.to)) (number + 1) reads

writes_none : (due : ℕ) (chunk : List RdmaSegment) (bytes : List ℕ) → item_ends is_send_item due (write_items chunk bytes) ≡ []
writes_none due [] bytes = refl
writes_none due (s ∷ chunk) bytes = by (λ n. writes_none n chunk (drop s.length bytes)) (eqb (min s.length (length bytes)) 0)
  where
    by : ((n : ℕ) → item_ends is_send_item n (write_items chunk (drop s.length bytes)) ≡ []) → (b : Bool)
        → item_ends is_send_item due (cond b [] (WriteItem s.handle s.offset (take s.length bytes) ∷ []) ++ write_items chunk (drop s.length bytes)) ≡ []
    by rest true = rest due
    by rest false = rest (due + length (write s.handle s.offset (take s.length bytes)))

-- an answer has one Send, at its end
answer_ends : (k : ServerState) (xid : ℕ) (offer : ChunkLists) (o : Option Answer) (due : ℕ) → (due + length (answer_output k xid offer o)) ∷ [] ≡ item_ends is_send_item due (answer_items k xid offer o)
unfolding answer_writes
answer_ends k xid offer None due = ap (λ (bs : List ℕ). (due + length bs) ∷ []) (send_word (k.messages_queued + 1) (chunk_error xid (credit_word k)))
answer_ends k xid offer (Some a) due =
    let place = due + length (items_encoding (moved ++ long a.long)) in
    let same : length (send_by named (k.messages_queued + 1) message) ≡ length last = ap (λ (bs : List ℕ). length bs) (send_by_word named (k.messages_queued + 1) message) in
    ap (λ (n : ℕ). n ∷ []) (let e : due + length (answer_writes offer a ++ send_by named (k.messages_queued + 1) message) ≡ place + length last = omega (arith, length-append (answer_writes offer a) (send_by named (k.messages_queued + 1) message), ap (λ (bs : List ℕ). length bs) spelled, same) in e)
    ∙ ap (λ (ends : List ℕ). ends ++ (place + length last) ∷ []) (sym none)
    ∙ ap (λ (ends : List ℕ). item_ends is_send_item due (moved ++ long a.long) ++ ends) (one_end place named (k.messages_queued + 1) message)
    ∙ sym (ends_append is_send_item due (moved ++ long a.long) (send_item_by named (k.messages_queued + 1) message ∷ []))
  where
    named : Option ℕ
    named = stag_named k.invalidates offer

    message : List ℕ
    message = answer_message xid (credit_word k) offer a

    last : List ℕ
    last = item_encoding (send_item_by named (k.messages_queued + 1) message)

    moved : List OutputItem
    moved = write_items (first_chunk offer.write) a.moved

    long : Bool → List OutputItem
    long b = cond b (write_items (no_segments offer.reply) a.stream) []

    by : (b : Bool) → cond b (writes_into (no_segments offer.reply) a.stream) [] ≡ items_encoding (long b)
    by true = writes_encoded (no_segments offer.reply) a.stream
    by false = refl

    spelled : answer_writes offer a ≡ items_encoding (moved ++ long a.long)
    spelled = (λ i. writes_encoded (first_chunk offer.write) a.moved i ++ by a.long i) ∙ sym (encoding_append moved (long a.long))

    long_none : (n : ℕ) (b : Bool) → item_ends is_send_item n (long b) ≡ []
    long_none n true = writes_none n (no_segments offer.reply) a.stream
    long_none n false = refl

    none : item_ends is_send_item due (moved ++ long a.long) ≡ []
    none = ends_append is_send_item due moved (long a.long) ∙ (λ i. writes_none due (first_chunk offer.write) a.moved i ++ long_none (due + length (items_encoding moved)) a.long i)

execution_ends : (k : ServerState) (e : ExecutedCall) → (k.due + length (execution_output k e)) ∷ [] ≡ item_ends is_send_item k.due (execution_items k e)
unfolding execution_output execution_items
execution_ends k e = answer_ends k e.xid (offer_of k e.xid) (answer_of_target (offer_of k e.xid) k.down_max e.reply (target_of (call_of e.payload))) k.due

effect_ends : (k : ServerState) (f : Frame) → send_ends_from k.due (k.messages_queued + 1) (frame_effect k f).errors ≡ item_ends is_send_item k.due (effect_items k (frame_effect k f))
effect_ends k f =
    let messages = message_items (k.messages_queued + 1) (frame_effect k f).errors in
    let requests = request_items (k.requests_sent + 1) (newly_open_reads (frame_effect k f)) in
    messages_end k.due (k.messages_queued + 1) (frame_effect k f).errors
    ∙ sym (append-nil (item_ends is_send_item k.due messages))
    ∙ ap (λ (ends : List ℕ). item_ends is_send_item k.due messages ++ ends) (sym (requests_none (k.due + length (items_encoding messages)) (k.requests_sent + 1) (newly_open_reads (frame_effect k f))))
    ∙ sym (ends_append is_send_item k.due messages requests)

pub server_sends : (opened : LinkParameters) (k : ServerState) (e : RunEvent) → (server_state_after opened k e).message_ends ≡ k.message_ends ++ item_ends is_send_item k.due (server_items_at opened k e)
unfolding server_state_after server_items_at
server_sends opened k (FrameReceived f) = by (is_hello f)
  where
    by : (b : Bool) → (cond b (with_own_hello opened k f) (with_effect k f (frame_effect k f))).message_ends ≡ k.message_ends ++ item_ends is_send_item k.due (cond b [] (effect_items k (frame_effect k f)))
    by true = sym (append-nil k.message_ends)
    by false = ap (λ (ends : List ℕ). k.message_ends ++ ends) (effect_ends k f)
server_sends opened k (CallSubmitted place a) = sym (append-nil k.message_ends)
server_sends opened k (MemoryRevoked place xid) = sym (append-nil k.message_ends)
server_sends opened k (CallExecuted e) = ap (λ (ends : List ℕ). k.message_ends ++ ends) (execution_ends k e)
server_sends opened k (QueueWritten taken) = sym (append-nil k.message_ends)
server_sends opened k (ServerTold what) = sym (append-nil k.message_ends)

pub server_more : (opened : LinkParameters) (k : ServerState) (e : RunEvent) → (server_state_after opened k e).due ≡ k.due + (length (server_hello_at opened e) + length (items_encoding (server_items_at opened k e)))
server_more opened k e =
    server_due opened k e ∙ ap (λ (xs : List ℕ). k.due + length xs) (server_encoded opened k e)
    ∙ ap (λ (n : ℕ). k.due + n) (length-append (server_hello_at opened e) (items_encoding (server_items_at opened k e)))
