-- What is due is the encodings of items, and the ends that a state keeps are those of items.
use Rattle.std.proofs.Common.{◌≡◌, ℕ, ◌+◌, ◌^◌, Bool, true, false, cond, ◌&&◌, leb, ltb, List, [], ◌∷◌, ◌++◌, length, Option, None, Some, Result, Ok, Err, refl, sym, ap, ◌∙◌, arith, append_assoc, append-nil, length-append}
use Rattle.std.specs.List.{filter}
use Rattle.std.proofs.Math.Nat.{mod-mod}
use Rattle.nr_wire.specs.declared.hello.Side.TheVariants.{Initiator}
use Rattle.nr_xdr.specs.Item.{word, hyper}
use Rattle.nr_wire.specs.Constants.{OPCODE_READ_REQUEST, OPCODE_SEND, QUEUE_SEND, QUEUE_READ_REQUEST}
use Rattle.nr_wire.specs.Segment.{Segment, encoding}
use Rattle.nr_wire.specs.Segment.Segment.{Untagged}
use Rattle.nr_link.specs.declared.end.End.{End}
use Rattle.nr_link.specs.Frames.{is_hello}
use Rattle.nr_link.specs.Ending.{final_output}
use Rattle.nr_link.specs.Output.{msn_word, cut, send, read_request}
use Rattle.nr_link.specs.OutputItem.{OutputItem, item_encoding, items_encoding, is_send_item, is_response_item, one_if_true, item_ends, items_written, items_left}
use Rattle.nr_link.specs.OutputItem.OutputItem.{LastItem}
use Rattle.nr_link.specs.ReceiveState.{ReadRequest, message_completed, read_request_of}
use Rattle.nr_reduce.specs.Hellos.{client_hello}
use Rattle.nr_reduce.specs.declared.mark.LinkParameters.{LinkParameters}
use Rattle.nr_reduce.specs.Events.{RunEvent, events}
use Rattle.nr_reduce.specs.Events.RunEvent.{FrameReceived, CallSubmitted, MemoryRevoked, CallExecuted, QueueWritten, ServerTold}
use Rattle.nr_reduce.specs.EndRules.{EndMachine, EndState, live, next_end_state, next_end_state_by, end_state_after, output_for_by, output_for_in, output_for_all}
use Rattle.nr_reduce.specs.Written.{ends_written, ends_waiting}
use Rattle.nr_reduce.specs.Plans.{call_message}
use Rattle.nr_reduce.specs.ClientState.{OutstandingCall, ClientState}
use Rattle.nr_reduce.specs.Client.{client_rules, client_state_after, client_output, initial_client, call_output, calls_output, call_ends, response_output, segment_request, outstanding_of, due_with_response, with_hello, with_message, with_request, with_segment, client_segment}
use Rattle.nr_reduce.specs.Run.{client, output_due}
use Rattle.nr_reduce.specs.DueItems.{sent_call_item, sent_call_items, response_items, client_items_at, due_for_by, due_for_in, due_for_all, items_due, hello_due}
use Rattle.nr_reduce.specs.OutputLaws.{ClientOutputIsItems, ClientBytes, ServerBytes, ClientCountsItems}
use Rattle.nr_reduce.proofs.Steps.{ended_stays}
use Rattle.nr_reduce.proofs.WholeWrotes.{client_due}
use Rattle.nr_reduce.proofs.CountedBytes.{some_none, client_bytes_written, client_bytes_due, server_bytes_written, server_bytes_due}

-- ---- Lists of items

pub encoding_append : (xs ys : List OutputItem) → items_encoding (xs ++ ys) ≡ items_encoding xs ++ items_encoding ys
encoding_append [] ys = refl
encoding_append (x ∷ xs) ys = ap (λ (bs : List ℕ). item_encoding x ++ bs) (encoding_append xs ys) ∙ sym (append_assoc (item_encoding x) (items_encoding xs) (items_encoding ys))

pub ends_append : (p : OutputItem → Bool) (at : ℕ) (xs ys : List OutputItem) → item_ends p at (xs ++ ys) ≡ item_ends p at xs ++ item_ends p (at + length (items_encoding xs)) ys
ends_append p at [] ys = ap (λ (n : ℕ). item_ends p n ys) (let e : at ≡ at + 0 = omega arith in e)
ends_append p at (x ∷ xs) ys =
    let here : List ℕ = cond (p x) ((at + length (item_encoding x)) ∷ []) [] in
    let place : (at + length (item_encoding x)) + length (items_encoding xs) ≡ at + length (item_encoding x ++ items_encoding xs) = omega (arith, length-append (item_encoding x) (items_encoding xs)) in
    ap (λ (ends : List ℕ). here ++ ends) (ends_append p (at + length (item_encoding x)) xs ys ∙ ap (λ (n : ℕ). item_ends p (at + length (item_encoding x)) xs ++ item_ends p n ys) place)
    ∙ sym (append_assoc here (item_ends p (at + length (item_encoding x)) xs) (item_ends p (at + length (item_encoding x ++ items_encoding xs)) ys))

pub left_items : (p : OutputItem → Bool) (at n : ℕ) (items : List OutputItem) → ends_written n (item_ends p at items) ≡ items_written p at n items
left_items p at n [] = refl
left_items p at n (x ∷ items) = by (p x) (leb end n) (left_items p end n items)
  where
    end : ℕ
    end = at + length (item_encoding x)

    rest : List ℕ
    rest = filter (λ e. leb e n) (item_ends p end items)

    by_left : (c : Bool) → length rest ≡ items_written p end n items → length (cond c (end ∷ rest) rest) ≡ one_if_true (true && c) + items_written p end n items
    by_left true h = omega (arith, h)
    by_left false h = omega (arith, h)

    by : (b c : Bool) → length rest ≡ items_written p end n items → length (filter (λ e. leb e n) (cond b (end ∷ []) [] ++ item_ends p end items)) ≡ one_if_true (b && leb end n) + items_written p end n items
    by true c h = by_left (leb end n) h
    by false c h = omega (arith, h)

pub waiting_items : (p : OutputItem → Bool) (at n : ℕ) (items : List OutputItem) → ends_waiting n (item_ends p at items) ≡ items_left p at n items
waiting_items p at n [] = refl
waiting_items p at n (x ∷ items) = by (p x) (waiting_items p end n items)
  where
    end : ℕ
    end = at + length (item_encoding x)

    rest : List ℕ
    rest = filter (ltb n) (item_ends p end items)

    by_left : (c : Bool) → length rest ≡ items_left p end n items → length (cond c (end ∷ rest) rest) ≡ one_if_true (true && c) + items_left p end n items
    by_left true h = omega (arith, h)
    by_left false h = omega (arith, h)

    by : (b : Bool) → length rest ≡ items_left p end n items → length (filter (ltb n) (cond b (end ∷ []) [] ++ item_ends p end items)) ≡ one_if_true (b && ltb n end) + items_left p end n items
    by true h = by_left (ltb n end) h
    by false h = omega (arith, h)

-- ---- Along events

module _ {S : Type 0} (rules : EndMachine S) (items_at : S → RunEvent → List OutputItem) (step : (s : S) (e : RunEvent) → rules.output_at s e ≡ items_encoding (items_at s e)) (last : (end : End) → rules.final_output end ≡ final_output end) where
  pub items_along : (r : EndState S) (es : List RunEvent) → output_for_all rules r es ≡ items_encoding (due_for_all rules items_at (λ end. LastItem end ∷ []) r es)
  items_along r [] = refl
  items_along r (e ∷ es) =
      (λ i. by_ended r.ended i ++ items_along (next_end_state rules r e) es i)
      ∙ sym (encoding_append (due_for_in rules items_at (λ end. LastItem end ∷ []) r.state e r.ended) (due_for_all rules items_at (λ end. LastItem end ∷ []) (next_end_state rules r e) es))
    where
      by : (o : Option End) → output_for_by rules r.state e o ≡ items_encoding (due_for_by rules items_at (λ end. LastItem end ∷ []) r.state e o)
      by None = step r.state e
      by (Some end) = last end ∙ sym (append-nil (final_output end))

      by_ended : (o : Option End) → output_for_in rules r.state e o ≡ items_encoding (due_for_in rules items_at (λ end. LastItem end ∷ []) r.state e o)
      by_ended None = by (rules.end_at r.state e)
      by_ended (Some end) = refl

module _ {S : Type 0} (rules : EndMachine S) (items_at : S → RunEvent → List OutputItem) (p : OutputItem → Bool) (due : S → ℕ) (ends : S → List ℕ)
    (more : (s : S) (e : RunEvent) → due (rules.state_after s e) ≡ due s + length (items_encoding (items_at s e)))
    (step : (s : S) (e : RunEvent) → ends (rules.state_after s e) ≡ ends s ++ item_ends p (due s) (items_at s e)) where
  pub ends_along : (s : S) (es : List RunEvent) → (end_state_after rules (live s) es).ended ≡ None
      → ends (end_state_after rules (live s) es).state ≡ ends s ++ item_ends p (due s) (due_for_all rules items_at (λ end. LastItem end ∷ []) (live s) es)
  ends_along s [] stays = sym (append-nil (ends s))
  ends_along s (e ∷ es) stays = by (λ live_still. ends_along (rules.state_after s e) es live_still) (rules.end_at s e) stays
    where
      t : S
      t = rules.state_after s e

      rest : List OutputItem
      rest = due_for_all rules items_at (λ end. LastItem end ∷ []) (live t) es

      by : ((end_state_after rules (live t) es).ended ≡ None → ends (end_state_after rules (live t) es).state ≡ ends t ++ item_ends p (due t) rest)
          → (o : Option End) → (end_state_after rules (next_end_state_by rules s e o) es).ended ≡ None
          → ends (end_state_after rules (next_end_state_by rules s e o) es).state
          ≡ ends s ++ item_ends p (due s) (due_for_by rules items_at (λ end. LastItem end ∷ []) s e o ++ due_for_all rules items_at (λ end. LastItem end ∷ []) (next_end_state_by rules s e o) es)
      by later None live_still =
          later live_still
          ∙ (λ i. step s e i ++ item_ends p (more s e i) rest)
          ∙ append_assoc (ends s) (item_ends p (due s) (items_at s e)) (item_ends p (due s + length (items_encoding (items_at s e))) rest)
          ∙ ap (λ (xs : List ℕ). ends s ++ xs) (sym (ends_append p (due s) (items_at s e) rest))
      by later (Some end) ended = absurd (some_none end (sym (ap (λ (r : EndState S). r.ended) (ended_stays rules s end es).0) ∙ ended))

-- ---- A number counts modulo 2 ^ 32

pub send_word : (number : ℕ) (message : List ℕ) → send number message ≡ send (msn_word number) message
unfolding send
send_word number message = ap (λ (w : ℕ). cut (λ last offset payload. Untagged last OPCODE_SEND 0 QUEUE_SEND w offset payload) message) (sym (mod-mod number (2 ^ 32)))

pub request_word : (number sink sink_to size stag to : ℕ) → read_request number sink sink_to size stag to ≡ read_request (msn_word number) sink sink_to size stag to
unfolding read_request
request_word number sink sink_to size stag to =
    ap (λ (w : ℕ). encoding (Untagged true OPCODE_READ_REQUEST 0 QUEUE_READ_REQUEST w 0 (word sink ++ (hyper sink_to ++ (word size ++ (word stag ++ hyper to)))))) (sym (mod-mod number (2 ^ 32)))

-- ---- Of a client

call_word : (opened : LinkParameters) (number : ℕ) (o : OutstandingCall) → call_output opened number o ≡ item_encoding (sent_call_item opened number o)
call_word opened number o = send_word number (call_message o.xid opened.wished o.stag o.plan)

calls_encoded : (opened : LinkParameters) (number : ℕ) (os : List OutstandingCall) → calls_output opened number os ≡ items_encoding (sent_call_items opened number os)
calls_encoded opened number [] = refl
calls_encoded opened number (o ∷ os) = (λ i. call_word opened number o i ++ calls_encoded opened (number + 1) os i)

client_encoded : (opened : LinkParameters) (k : ClientState) (e : RunEvent) → client_output opened k e ≡ items_encoding (client_items_at opened k e)
unfolding client_output client_items_at
client_encoded opened k (FrameReceived f) = by (is_hello f)
  where
    by_request : (q : Option ReadRequest) → response_output k f.end q ≡ items_encoding (response_items k f.end q)
    by_request None = refl
    by_request (Some r) = sym (append-nil (response_output k f.end (Some r)))

    by : (b : Bool) → cond b (calls_output opened 1 k.outstanding) (response_output k f.end (segment_request (client_segment k f))) ≡ items_encoding (cond b (sent_call_items opened 1 k.outstanding) (response_items k f.end (segment_request (client_segment k f))))
    by true = calls_encoded opened 1 k.outstanding
    by false = by_request (segment_request (client_segment k f))
client_encoded opened k (CallSubmitted place a) = by k.has_hello
  where
    by : (b : Bool) → cond b (call_output opened (k.sends + 1) (outstanding_of k a)) [] ≡ items_encoding (cond b (sent_call_item opened (k.sends + 1) (outstanding_of k a) ∷ []) [])
    by true = call_word opened (k.sends + 1) (outstanding_of k a) ∙ sym (append-nil (item_encoding (sent_call_item opened (k.sends + 1) (outstanding_of k a))))
    by false = refl
client_encoded opened k (MemoryRevoked place xid) = refl
client_encoded opened k (CallExecuted call) = refl
client_encoded opened k (QueueWritten taken) = refl
client_encoded opened k (ServerTold what) = refl

client_more : (opened : LinkParameters) (k : ClientState) (e : RunEvent) → (client_state_after opened k e).due ≡ k.due + length (items_encoding (client_items_at opened k e))
client_more opened k e = client_due opened k e ∙ ap (λ (xs : List ℕ). k.due + length xs) (client_encoded opened k e)

calls_end : (opened : LinkParameters) (due number : ℕ) (os : List OutstandingCall) → call_ends opened due number os ≡ item_ends is_send_item due (sent_call_items opened number os)
calls_end opened due number [] = refl
calls_end opened due number (o ∷ os) =
    ap (λ (ends : List ℕ). (due + length (call_output opened number o)) ∷ ends) (calls_end opened (due + length (call_output opened number o)) (number + 1) os)
    ∙ ap (λ (bs : List ℕ). (due + length bs) ∷ item_ends is_send_item (due + length bs) (sent_call_items opened (number + 1) os)) (call_word opened number o)

no_responses : (opened : LinkParameters) (due number : ℕ) (os : List OutstandingCall) → item_ends is_response_item due (sent_call_items opened number os) ≡ []
no_responses opened due number [] = refl
no_responses opened due number (o ∷ os) = no_responses opened (due + length (item_encoding (sent_call_item opened number o))) (number + 1) os

client_sends : (opened : LinkParameters) (k : ClientState) (e : RunEvent) → (client_state_after opened k e).send_ends ≡ k.send_ends ++ item_ends is_send_item k.due (client_items_at opened k e)
unfolding client_state_after client_items_at
client_sends opened k (FrameReceived f) = by (is_hello f)
  where
    by_request : (m : Option (List ℕ)) (due : ℕ) (q : Option ReadRequest) → (with_request (with_message k f.end m) due q).send_ends ≡ k.send_ends ++ item_ends is_send_item k.due (response_items k f.end q)
    by_request None due None = sym (append-nil k.send_ends)
    by_request None due (Some q) = sym (append-nil k.send_ends)
    by_request (Some m) due None = sym (append-nil k.send_ends)
    by_request (Some m) due (Some q) = sym (append-nil k.send_ends)

    by_segment : (r : Result Segment ℕ) → (with_segment k f r).send_ends ≡ k.send_ends ++ item_ends is_send_item k.due (response_items k f.end (segment_request r))
    by_segment (Err reason) = sym (append-nil k.send_ends)
    by_segment (Ok segment) = by_request (message_completed k.received segment) (due_with_response k f segment) (read_request_of segment)

    by : (b : Bool) → (cond b (with_hello opened k f) (with_segment k f (client_segment k f))).send_ends
        ≡ k.send_ends ++ item_ends is_send_item k.due (cond b (sent_call_items opened 1 k.outstanding) (response_items k f.end (segment_request (client_segment k f))))
    by true = ap (λ (ends : List ℕ). k.send_ends ++ ends) (calls_end opened k.due 1 k.outstanding)
    by false = by_segment (client_segment k f)
client_sends opened k (CallSubmitted place a) = by k.has_hello
  where
    one : List ℕ
    one = call_output opened (k.sends + 1) (outstanding_of k a)

    by : (b : Bool) → k.send_ends ++ cond b ((k.due + length (cond b one [])) ∷ []) [] ≡ k.send_ends ++ item_ends is_send_item k.due (cond b (sent_call_item opened (k.sends + 1) (outstanding_of k a) ∷ []) [])
    by true = ap (λ (bs : List ℕ). k.send_ends ++ (k.due + length bs) ∷ []) (call_word opened (k.sends + 1) (outstanding_of k a))
    by false = refl
client_sends opened k (MemoryRevoked place xid) = sym (append-nil k.send_ends)
client_sends opened k (CallExecuted call) = sym (append-nil k.send_ends)
client_sends opened k (QueueWritten taken) = sym (append-nil k.send_ends)
client_sends opened k (ServerTold what) = sym (append-nil k.send_ends)

client_responses : (opened : LinkParameters) (k : ClientState) (e : RunEvent) → (client_state_after opened k e).response_ends ≡ k.response_ends ++ item_ends is_response_item k.due (client_items_at opened k e)
unfolding client_state_after client_items_at
client_responses opened k (FrameReceived f) = by (is_hello f)
  where
    by_request : (m : Option (List ℕ)) (q : Option ReadRequest) → (with_request (with_message k f.end m) (k.due + length (response_output k f.end q)) q).response_ends ≡ k.response_ends ++ item_ends is_response_item k.due (response_items k f.end q)
    by_request None None = sym (append-nil k.response_ends)
    by_request None (Some q) = refl
    by_request (Some m) None = sym (append-nil k.response_ends)
    by_request (Some m) (Some q) = refl

    by_segment : (r : Result Segment ℕ) → (with_segment k f r).response_ends ≡ k.response_ends ++ item_ends is_response_item k.due (response_items k f.end (segment_request r))
    by_segment (Err reason) = sym (append-nil k.response_ends)
    by_segment (Ok segment) = by_request (message_completed k.received segment) (read_request_of segment)

    by : (b : Bool) → (cond b (with_hello opened k f) (with_segment k f (client_segment k f))).response_ends
        ≡ k.response_ends ++ item_ends is_response_item k.due (cond b (sent_call_items opened 1 k.outstanding) (response_items k f.end (segment_request (client_segment k f))))
    by true = sym (append-nil k.response_ends) ∙ ap (λ (ends : List ℕ). k.response_ends ++ ends) (sym (no_responses opened k.due 1 k.outstanding))
    by false = by_segment (client_segment k f)
client_responses opened k (CallSubmitted place a) = by k.has_hello
  where
    by : (b : Bool) → k.response_ends ≡ k.response_ends ++ item_ends is_response_item k.due (cond b (sent_call_item opened (k.sends + 1) (outstanding_of k a) ∷ []) [])
    by true = sym (append-nil k.response_ends)
    by false = sym (append-nil k.response_ends)
client_responses opened k (MemoryRevoked place xid) = sym (append-nil k.response_ends)
client_responses opened k (CallExecuted call) = sym (append-nil k.response_ends)
client_responses opened k (QueueWritten taken) = sym (append-nil k.response_ends)
client_responses opened k (ServerTold what) = sym (append-nil k.response_ends)

pub client_output_items : ClientOutputIsItems
unfolding output_due items_due hello_due
client_output_items opened link run =
    ap (λ (xs : List ℕ). client_hello opened ++ xs) (items_along (client_rules opened) (client_items_at opened) (client_encoded opened) (λ end. refl) (initial_client opened) (events link Initiator run))

pub client_bytes : ClientBytes
client_bytes opened link run stays = (client_bytes_due opened link run stays, client_bytes_written opened link run stays)

pub server_bytes : ServerBytes
server_bytes opened link run stays = (server_bytes_due opened link run stays, server_bytes_written opened link run stays)

client_send_ends : (opened : LinkParameters) (es : List RunEvent) → (end_state_after (client_rules opened) (initial_client opened) es).ended ≡ None
    → (end_state_after (client_rules opened) (initial_client opened) es).state.send_ends ≡ item_ends is_send_item (length (client_hello opened)) (due_for_all (client_rules opened) (client_items_at opened) (λ end. LastItem end ∷ []) (initial_client opened) es)
client_send_ends opened es stays =
    ends_along (client_rules opened) (client_items_at opened) is_send_item (λ (k : ClientState). k.due) (λ (k : ClientState). k.send_ends) (client_more opened) (client_sends opened) (initial_client opened).state es stays

client_response_ends : (opened : LinkParameters) (es : List RunEvent) → (end_state_after (client_rules opened) (initial_client opened) es).ended ≡ None
    → (end_state_after (client_rules opened) (initial_client opened) es).state.response_ends ≡ item_ends is_response_item (length (client_hello opened)) (due_for_all (client_rules opened) (client_items_at opened) (λ end. LastItem end ∷ []) (initial_client opened) es)
client_response_ends opened es stays =
    ends_along (client_rules opened) (client_items_at opened) is_response_item (λ (k : ClientState). k.due) (λ (k : ClientState). k.response_ends) (client_more opened) (client_responses opened) (initial_client opened).state es stays

pub client_counts_items : ClientCountsItems
unfolding client items_due hello_due
client_counts_items opened link run stays =
    let es = events link Initiator run in
    let items = due_for_all (client_rules opened) (client_items_at opened) (λ end. LastItem end ∷ []) (initial_client opened) es in
    let at = length (client_hello opened) in
    let written = client_bytes_written opened link run stays in (
      (λ i. ends_written (written i) (client_send_ends opened es stays i)) ∙ left_items is_send_item at _ items,
      (λ i. ends_waiting (written i) (client_response_ends opened es stays i)) ∙ waiting_items is_response_item at _ items,
    )
