-- The RDMA Writes of an answer: one for each segment that it returns with a length above 0, and as many bytes as it returns.
use Rattle.std.proofs.Common.{◌≡◌, ℕ, zero, suc, ◌+◌, ◌-◌, ◌≤◌, ◌<◌, min, Bool, true, false, cond, ◌&&◌, eqb, List, [], ◌∷◌, ◌++◌, length, take, drop, Option, None, Some, refl, sym, ap, ◌∙◌, arith, append_assoc, append-nil, length-append, inl, inr, ◌⊎◌}
use Rattle.std.proofs.lemmas.Bool.{cases_lt}
use Rattle.std.proofs.lemmas.List.{take_all, take-append-le, drop-append-le}
use Rattle.std.proofs.lemmas.List.Sums.{sum_by-cons}
use Rattle.nr_xdr.specs.Item.{IsBytes}
use Rattle.nr_header.specs.declared.header.RdmaSegment.{RdmaSegment}
use Rattle.nr_header.specs.declared.header.ChunkLists.{ChunkLists}
use Rattle.nr_rpc.specs.declared.head.CallTarget.{CallTarget}
use Rattle.nr_rpc.specs.Reading.{call_of, target_of}
use Rattle.nr_wire.specs.declared.hello.Side.TheVariants.{Responder}
use Rattle.nr_link.specs.declared.end.End.{End as Stop}
use Rattle.nr_link.specs.OutputItem.{OutputItem}
use Rattle.nr_link.specs.OutputItem.OutputItem.{WriteItem, LastItem}
use Rattle.nr_reduce.specs.declared.item.Of.TheVariants.{Reply}
use Rattle.nr_reduce.specs.declared.mark.LinkParameters.{LinkParameters}
use Rattle.nr_reduce.specs.declared.mark.Mark.{Mark}
use Rattle.nr_reduce.specs.declared.mark.Mark.TheVariants as marks
use Rattle.nr_outside.specs.declared.moment.Moment.{Moment}
use Rattle.nr_reduce.specs.History.{ExecutedCall}
use Rattle.nr_reduce.specs.Chunks.{chunk_total, filled_chunk}
use Rattle.nr_reduce.specs.Holds.{Answer, parts_in, answer_for, answer_message, written_chunks, first_chunk, no_segments}
use Rattle.nr_reduce.specs.ChunkBytes.{chunk_segments, answer_segments}
use Rattle.nr_reduce.specs.Matched.{IsPrefixOf}
use Rattle.nr_reduce.specs.Events.{RunEvent, events, events_at, if_own}
use Rattle.nr_reduce.specs.Events.RunEvent.{CallExecuted}
use Rattle.nr_reduce.specs.EndRules.{EndState, end_state_after}
use Rattle.nr_reduce.specs.ServerState.{ServerState, ReadyCall, credit_word}
use Rattle.nr_reduce.specs.Server.{server_rules, server_end, initial_server, offer_of, answer_of_target, stag_named}
use Rattle.nr_reduce.specs.Served.{ServedMark, IsExecuted, first_ready, next_call}
use Rattle.nr_reduce.specs.Run.{server}
use Rattle.nr_reduce.specs.DueItems.{server_items_at, write_items, answer_items, execution_items, due_for_all, items_due, send_item_by}
use Rattle.nr_reduce.proofs.Calls.{execute_answered}
use Rattle.nr_reduce.proofs.Steps.{events_one}
use Rattle.nr_reduce.proofs.Standing.{itself}
use Rattle.nr_reduce.proofs.WroteItems.{due_append}
use Rattle.nr_laws.specs.Typed.{TypedMark}
use Rattle.nr_laws.specs.AnswersConvey.{payloads_of, moved_returned, stream_returned, returned_segments, segment_writes, AnswersConvey}
use Rattle.nr_laws.proofs.ConveyedForms.{no_bytes_lem}
use Rattle.nr_laws.proofs.ConveyingAnswers.{IsMadeFor, made, made_answer, payloads_append, short_drop, chunk_payloads, filled_total, first_filled, conveys_by}
use Rattle.nr_laws.proofs.OnceByXid.{at_mark}

-- ---- The Writes of a chunk are those of its returned segments

take_min_lem : (n : ℕ) (xs : List ℕ) → take (min n (length xs)) xs ≡ take n xs
take_min_lem n xs = by (cases_lt n (length xs))
  where
    by : (n < length xs) ⊎ (length xs ≤ n) → take (min n (length xs)) xs ≡ take n xs
    by (inl lt) = ap (λ (k : ℕ). take k xs) (let e : min n (length xs) ≡ n = omega (arith, lt) in e)
    by (inr le) = ap (λ (k : ℕ). take k xs) (let e : min n (length xs) ≡ length xs = omega (arith, le) in e) ∙ take_all (length xs) xs (omega arith) ∙ sym (take_all n xs le)

drop_min_lem : (n : ℕ) (xs : List ℕ) → drop (min n (length xs)) xs ≡ drop n xs
drop_min_lem n xs = by (cases_lt n (length xs))
  where
    by : (n < length xs) ⊎ (length xs ≤ n) → drop (min n (length xs)) xs ≡ drop n xs
    by (inl lt) = ap (λ (k : ℕ). drop k xs) (let e : min n (length xs) ≡ n = omega (arith, lt) in e)
    by (inr le) = ap (λ (k : ℕ). drop k xs) (let e : min n (length xs) ≡ length xs = omega (arith, le) in e) ∙ short_drop (length xs) xs (omega arith) ∙ sym (short_drop n xs le)

dropped : (n : ℕ) (xs : List ℕ) → length (drop n xs) ≡ length xs - n
dropped zero xs = omega arith
dropped (suc n) [] = omega arith
dropped (suc n) (x ∷ xs) = (let h = dropped n xs in omega (arith, h))

filled_writes : (chunk : List RdmaSegment) (bytes : List ℕ) → write_items chunk bytes ≡ segment_writes (filled_chunk chunk (length bytes)) bytes
filled_writes [] bytes = refl
filled_writes (s ∷ chunk) bytes =
    let n : ℕ = min s.length (length bytes) in
    let len : length (drop s.length bytes) ≡ length bytes - n = (let d = dropped s.length bytes in omega (arith, d)) in
    let rest : write_items chunk (drop s.length bytes) ≡ segment_writes (filled_chunk chunk (length bytes - n)) (drop n bytes) =
    filled_writes chunk (drop s.length bytes) ∙ (λ i. segment_writes (filled_chunk chunk (len i)) (sym (drop_min_lem s.length bytes) i)) in
    (λ i. cond (eqb n 0) [] (WriteItem s.handle s.offset (sym (take_min_lem s.length bytes) i) ∷ []) ++ rest i)

writes_append : (xs ys : List RdmaSegment) (bs cs : List ℕ) → chunk_total xs ≡ length bs → segment_writes (xs ++ ys) (bs ++ cs) ≡ segment_writes xs bs ++ segment_writes ys cs
unfolding chunk_total
writes_append [] ys bs cs size = ap (λ (xs : List ℕ). segment_writes ys (xs ++ cs)) (no_bytes_lem bs (sym size))
writes_append (s ∷ xs) ys bs cs size =
    let all = sum_by-cons (λ (x : RdmaSegment). x.length) s xs in
    let low : s.length ≤ length bs = omega (arith, size, all) in
    let left = dropped s.length bs in
    let one : List OutputItem = cond (eqb s.length 0) [] (WriteItem s.handle s.offset (take s.length bs) ∷ []) in
    (λ i. cond (eqb s.length 0) [] (WriteItem s.handle s.offset (take-append-le s.length bs cs low i) ∷ []) ++ segment_writes (xs ++ ys) (drop-append-le s.length bs cs low i))
    ∙ ap (λ (items : List OutputItem). one ++ items) (writes_append xs ys (drop s.length bs) cs (omega (arith, size, all, left)))
    ∙ sym (append_assoc one (segment_writes xs (drop s.length bs)) (segment_writes ys cs))

-- ---- What an answer returns, and what its Writes bring

module _ (offer : ChunkLists) (prog vers proc : ℕ) (reply : List ℕ) (a : Answer) (m : IsMadeFor offer prog vers proc reply a) where
  filled : List RdmaSegment
  filled = filled_chunk (no_segments offer.reply) (length a.stream)

  payloads_are : payloads_of (answer_segments offer a) ≡ a.moved ++ cond a.long a.stream []
  payloads_are =
      payloads_append (chunk_segments (first_chunk offer.write) a.moved) (cond a.long (chunk_segments (no_segments offer.reply) a.stream) [])
      ∙ (λ i. first i ++ tail a.long m.long i)
    where
      first : payloads_of (chunk_segments (first_chunk offer.write) a.moved) ≡ a.moved
      first = chunk_payloads (first_chunk offer.write) a.moved ∙ take_all (chunk_total (first_chunk offer.write)) a.moved m.of.room

      tail : (b : Bool) → (b ≡ true → length a.stream ≤ chunk_total (no_segments offer.reply)) → payloads_of (cond b (chunk_segments (no_segments offer.reply) a.stream) []) ≡ cond b a.stream []
      tail true room = chunk_payloads (no_segments offer.reply) a.stream ∙ take_all (chunk_total (no_segments offer.reply)) a.stream (room refl)
      tail false room = refl

  stream_returned_lem : a.long ≡ true → stream_returned offer a ≡ length a.stream
  stream_returned_lem long =
      (λ i. chunk_total (no_segments (cond (long i) (Some (filled_chunk (no_segments offer.reply) (length a.stream))) None)))
      ∙ filled_total (no_segments offer.reply) (length a.stream) (m.long long)

  pub all_brought : length (payloads_of (answer_segments offer a)) ≡ moved_returned offer a + cond a.long (stream_returned offer a) 0
  all_brought = ap (λ (xs : List ℕ). length xs) payloads_are ∙ length-append a.moved (cond a.long a.stream []) ∙ by a.long refl
    where
      moved : moved_returned offer a ≡ length a.moved
      moved = first_filled offer.write (length a.moved) m.of.room

      by : (b : Bool) → a.long ≡ b → length a.moved + length (cond b a.stream []) ≡ moved_returned offer a + cond b (stream_returned offer a) 0
      by true long = (let s = stream_returned_lem long in omega (arith, moved, s))
      by false long = omega (arith, moved)

  pub answer_writes : write_items (first_chunk offer.write) a.moved ++ cond a.long (write_items (no_segments offer.reply) a.stream) [] ≡ segment_writes (returned_segments offer a) (payloads_of (answer_segments offer a))
  answer_writes =
      (λ i. filled_writes (first_chunk offer.write) a.moved i ++ long_writes a.long i)
      ∙ sym (writes_append (filled_chunk (first_chunk offer.write) (length a.moved)) (long_segments a.long) a.moved (cond a.long a.stream []) (filled_total (first_chunk offer.write) (length a.moved) m.of.room))
      ∙ (λ i. segment_writes (sym (first_is offer.write) i ++ sym (long_is a.long) i) (sym payloads_are i))
    where
      long_segments : Bool → List RdmaSegment
      long_segments b = cond b (filled_chunk (no_segments offer.reply) (length a.stream)) []

      long_writes : (b : Bool) → cond b (write_items (no_segments offer.reply) a.stream) [] ≡ segment_writes (cond b (filled_chunk (no_segments offer.reply) (length a.stream)) []) (cond b a.stream [])
      long_writes true = filled_writes (no_segments offer.reply) a.stream
      long_writes false = refl

      first_is : (chunks : List (List RdmaSegment)) → first_chunk (written_chunks chunks (length a.moved)) ≡ filled_chunk (first_chunk chunks) (length a.moved)
      first_is [] = refl
      first_is (chunk ∷ chunks) = refl

      long_is : (b : Bool) → cond b (no_segments (cond b (Some (filled_chunk (no_segments offer.reply) (length a.stream))) None)) [] ≡ cond b (filled_chunk (no_segments offer.reply) (length a.stream)) []
      long_is true = refl
      long_is false = refl

-- ---- What an execution makes due

execute_one : (opened : LinkParameters) (k : ServerState) (ended : Option Stop) (e : ExecutedCall) → ended ≡ None
    → due_for_all (server_rules opened) (server_items_at opened) (λ end. LastItem end ∷ []) (record { state = k; ended = ended }) (CallExecuted e ∷ []) ≡ execution_items k e
unfolding server_end server_items_at
execute_one opened k None e is = append-nil (execution_items k e)
execute_one opened k (Some end) e is = absurd (let wrong : Some end ≡ None = is in cc)

not_ended_lem : (ready : List ReadyCall) (ended : Option Stop) (r : ReadyCall) → first_ready ready ended ≡ Some r → ended ≡ None
not_ended_lem ready None r e = refl
not_ended_lem ready (Some end) r e = absurd (let wrong : None ≡ Some r = e in cc)

execute_items : (opened : LinkParameters) (link : ℕ) (run : List Mark) (xid : ℕ) (moment : Moment) (payload : List ℕ) (place : ℕ) (reply : List ℕ) → IsExecuted opened link run xid payload
    → items_due opened link Responder (run ++ marks.Execute link xid moment payload place reply ∷ [])
    ≡ items_due opened link Responder run ++ execution_items (server opened link run).state (record { xid = xid; moment = moment; payload = payload; place = place; reply = reply })
unfolding items_due server next_call
execute_items opened link run xid moment payload place reply h =
    let rules = server_rules opened in
    let mark : Mark = marks.Execute link xid moment payload place reply in
    let e : ExecutedCall = record { xid = xid; moment = moment; payload = payload; place = place; reply = reply } in
    let es = events link Responder run in
    let r : EndState ServerState = end_state_after rules (initial_server opened) es in
    let old : List OutputItem = due_for_all rules (server_items_at opened) (λ end. LastItem end ∷ []) (initial_server opened) es in
    ap (λ (all : List RunEvent). due_for_all rules (server_items_at opened) (λ end. LastItem end ∷ []) (initial_server opened) all) (events_one link Responder run mark)
    ∙ due_append rules (server_items_at opened) (λ end. LastItem end ∷ []) (initial_server opened) es (events_at link Responder run mark)
    ∙ ap (λ (b : Bool). old ++ due_for_all rules (server_items_at opened) (λ end. LastItem end ∷ []) r (if_own (b && true) (CallExecuted e ∷ []))) (itself link)
    ∙ ap (λ (items : List OutputItem). old ++ items) (execute_one opened r.state r.ended e (not_ended_lem r.state.ready r.ended h.call h.is_next))

-- ---- The law

-- an answer that an offer holds is made so, for the procedure of its call
record HasMade (offer : ChunkLists) (reply : List ℕ) (a : Answer) : Type 0 where
  prog : ℕ
  vers : ℕ
  proc : ℕ
  made_for : IsMadeFor offer prog vers proc reply a

made_for_lem : (offer : ChunkLists) (down prog vers proc : ℕ) (reply : List ℕ) (a : Answer) → IsBytes reply → answer_for offer down prog vers proc reply ≡ Some a → IsMadeFor offer prog vers proc reply a
unfolding answer_for
made_for_lem offer down prog vers proc reply a fits e =
    made_answer offer down prog vers proc reply (parts_in (Reply prog vers proc) offer.write reply) a (λ p is. made prog vers proc offer.write reply p fits is) e

made_by : (offer : ChunkLists) (down : ℕ) (reply : List ℕ) (o : Option CallTarget) (a : Answer) → IsBytes reply → answer_of_target offer down reply o ≡ Some a → HasMade offer reply a
made_by offer down reply None a bytes e = record { prog = 0; vers = 0; proc = 0; made_for = made_for_lem offer down 0 0 0 reply a bytes e }
made_by offer down reply (Some t) a bytes e = record { prog = t.prog; vers = t.vers; proc = t.proc; made_for = made_for_lem offer down t.prog t.vers t.proc reply a bytes e }

pub answers_convey : AnswersConvey
unfolding execution_items
answers_convey opened link run before xid moment payload place reply answer typed served at held =
    let mark : Mark = marks.Execute link xid moment payload place reply in
    let k : ServerState = (server opened link before).state in
    let offer : ChunkLists = offer_of k xid in
    let x : IsExecuted opened link before xid payload = at_mark (ServedMark IsPrefixOf opened link) run before mark at.after at.is served refl in
    let bytes : IsBytes reply = at_mark TypedMark run before mark at.after at.is typed in
    let m = made_by offer k.down_max reply (target_of (call_of payload)) answer bytes held in
    let old : List OutputItem = items_due opened link Responder before in
    let last : List OutputItem = send_item_by (stag_named k.invalidates offer) (k.messages_queued + 1) (answer_message xid (credit_word k) offer answer) ∷ [] in
    record {
      answered = record { answer = answer; is_held = held; due = (execute_answered opened link before xid moment payload place reply x).0 answer held };
      writes = execute_items opened link before xid moment payload place reply x
          ∙ ap (λ (o : Option Answer). old ++ answer_items k xid offer o) held
          ∙ ap (λ (items : List OutputItem). old ++ (items ++ last)) (answer_writes offer m.prog m.vers m.proc reply answer m.made_for);
      all = all_brought offer m.prog m.vers m.proc reply answer m.made_for;
      conveys = conveys_by offer k.down_max reply (target_of (call_of payload)) answer bytes held;
    }
