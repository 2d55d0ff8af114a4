-- The side of the link, as a sink takes bytes, as a call is accepted, and as the memory of a call is revoked.
use Rattle.std.proofs.Common.{◌≡◌, ℕ, ◌+◌, ◌-◌, ◌^◌, ◌<◌, ◌≤◌, Bool, true, false, cond, eqb, List, [], ◌∷◌, ◌++◌, length, map, drop, Option, None, Some, Result, Ok, refl, sym, ap, subst, ◌∙◌, arith, append_assoc, length-append}
use Rattle.std.proofs.lemmas.Bool.{eq-eqb}
use Rattle.std.proofs.lemmas.List.{append-nil, length-drop}
use Rattle.nr_regions.specs.RegisteredMemory.{RegisteredMemory}
use Rattle.nr_link.specs.Output.{msn_word, send}
use Rattle.nr_endpoint.specs.LinkState.{LinkState}
use Rattle.nr_endpoint.specs.SendQueue.{SendQueue, writable, written, with_send, with_held_sent, next_number, send_output, ends_left}
use Rattle.nr_reduce.specs.declared.mark.LinkParameters.{LinkParameters}
use Rattle.nr_reduce.specs.declared.outline.Plan.{Plan}
use Rattle.nr_reduce.specs.History.{AcceptedCall}
use Rattle.nr_reduce.specs.Plans.{TooLarge, buffers, call_message, plan_of}
use Rattle.nr_reduce.specs.KeptClient.{registered_all}
use Rattle.nr_reduce.specs.Events.RunEvent.{CallSubmitted, MemoryRevoked}
use Rattle.nr_reduce.specs.Written as reduce
use Rattle.nr_reduce.specs.ClientState.{OutstandingCall, WaitingCall, ClientState, first_of, others_than, waiting_call, stag_unless, plan_unless, plan_for, call_payload}
use Rattle.nr_reduce.specs.Client.{client_state_after, client_output, call_output, calls_output, call_ends, outstanding_of, plan_or, revoked_waiting}
use Rattle.nr_reduce.proofs.LaterSends.{calls_later}
use Rattle.nr_requester.specs.Standing.{HasEnds, sends_ends, LinkKeeps, waiting_message}
use Rattle.nr_requester.specs.AfterCalls.{submitted, drained}
use Rattle.nr_requester.proofs.Ends.{ends_drained, ends_added, left_or_waiting, all_wait}
use Rattle.nr_requester.proofs.Queues.{next_word, word_word, send_word, output_append, output_revoked, ends_append, ends_many, ends_revoked}

-- ---- How many Sends have left

pub sent_is : (opened : LinkParameters) (s : LinkState) (k : ClientState) → LinkKeeps opened s k → k.written ≤ k.due → s.send_queue.sends_left ≡ reduce.ends_written k.written k.send_ends
sent_is opened s k keeps le = by k.has_hello refl
  where
    by : (b : Bool) → k.has_hello ≡ b → s.send_queue.sends_left ≡ reduce.ends_written k.written k.send_ends
    by true is =
        let many : length k.send_ends ≡ k.sends = ap (λ (b : Bool). length (sends_ends b opened k)) (sym is) ∙ keeps.numbered in
        let waits : length s.send_queue.send_ends ≡ reduce.ends_waiting k.written k.send_ends = keeps.sends.count ∙ ap (λ (b : Bool). reduce.ends_waiting k.written (sends_ends b opened k)) is in
        let left = keeps.left in
        omega (arith, many, waits, left, left_or_waiting k.written k.send_ends)
    by false is =
        let none : reduce.ends_written k.written k.send_ends ≡ 0 = ap (reduce.ends_written k.written) (keeps.none_due is) in
        let many : length (call_ends opened k.due 1 k.outstanding) ≡ k.sends = ap (λ (b : Bool). length (sends_ends b opened k)) (sym is) ∙ keeps.numbered in
        let waits : length s.send_queue.send_ends ≡ reduce.ends_waiting k.written (call_ends opened k.due 1 k.outstanding) = keeps.sends.count ∙ ap (λ (b : Bool). reduce.ends_waiting k.written (sends_ends b opened k)) is in
        let all = all_wait k.written (call_ends opened k.due 1 k.outstanding) (calls_later opened k.written k.due 1 k.outstanding le) in
        let left = keeps.left in
        omega (arith, none, many, waits, left, all)

-- ---- A sink takes bytes

ends_fewer : (n : ℕ) (xs : List ℕ) → length (ends_left n xs) ≤ length xs
ends_fewer n xs = (let both = left_or_waiting n xs in let many = Rattle.nr_requester.proofs.Ends.left_count n xs in omega (arith, both, many))

-- the Sends that left and those that wait are the same
left_same : (n left : ℕ) (ends : List ℕ) → left + length ends ≤ 2 ^ 32 → Rattle.std.proofs.Common.min (left + (length ends - length (ends_left n ends))) (2 ^ 64 - 1) + length (ends_left n ends) ≡ left + length ends
left_same n left ends le = (let few = ends_fewer n ends in omega (arith, few, le))

sends_same : (opened : LinkParameters) (k : ClientState) (n : ℕ) (b : Bool) → sends_ends b opened (record k { written = k.written + n }) ≡ sends_ends b opened k
sends_same opened k n true = refl
sends_same opened k n false = refl

waits_on : (h : Bool) (n : ℕ) (q : SendQueue) → h ≡ false → n ≤ length (writable h q) → drop (n - length q.hello) q.fpdus ≡ q.fpdus
waits_on true n q e le = absurd cc
waits_on false n q e le =
    (let all : length (q.hello ++ []) ≡ length q.hello = ap (λ (xs : List ℕ). length xs) (append-nil q.hello) in
    let none : n - length q.hello ≡ 0 = omega (arith, le, all) in
    ap (λ (m : ℕ). drop m q.fpdus) none)

pub link_drained : (opened : LinkParameters) (s : LinkState) (k : ClientState) (n : ℕ) → n ≤ length (writable s.has_hello s.send_queue) → k.sends ≤ 2 ^ 32 → LinkKeeps opened s k → LinkKeeps opened (drained n s) (record k { written = k.written + n })
unfolding written
link_drained opened s k n le few keeps =
    let hello : List ℕ = s.send_queue.hello in
    let len : length hello - n ≡ length (drop n hello) = sym (length-drop n hello) in
    record {
      side = keeps.side;
      has_hello = keeps.has_hello;
      receive_length = keeps.receive_length;
      message_max = keeps.message_max;
      fits = keeps.fits;
      terms = keeps.terms;
      received = keeps.received;
      receive = keeps.receive;
      none_lent = keeps.none_lent;
      none_waits = keeps.none_waits;
      no_reads = keeps.no_reads;
      number = keeps.number;
      waiting = λ none. waits_on s.has_hello n s.send_queue (keeps.has_hello ∙ none) le ∙ keeps.waiting none;
      none_due = keeps.none_due;
      sends = subst (λ (xs : List ℕ). HasEnds (k.written + n) (length (drop n hello)) xs (ends_left (n - length hello) s.send_queue.send_ends)) (sym (sends_same opened k n k.has_hello))
          (subst (λ (m : ℕ). HasEnds (k.written + n) m (sends_ends k.has_hello opened k) (ends_left (n - length hello) s.send_queue.send_ends)) len
          (ends_drained n k.written (length hello) (sends_ends k.has_hello opened k) s.send_queue.send_ends keeps.sends));
      responses = subst (λ (m : ℕ). HasEnds (k.written + n) m k.response_ends (ends_left (n - length hello) s.send_queue.response_ends)) len
          (ends_drained n k.written (length hello) k.response_ends s.send_queue.response_ends keeps.responses);
      left = left_same (n - length hello) s.send_queue.sends_left s.send_queue.send_ends (let l = keeps.left in omega (arith, l, few)) ∙ keeps.left;
      numbered = ap (λ (xs : List ℕ). length xs) (sends_same opened k n k.has_hello) ∙ keeps.numbered;
      held = keeps.held;
      greeted = keeps.greeted;
      granted = keeps.granted;
      client_terms = keeps.client_terms;
    }

-- ---- A call is accepted

pub planned : (k : ClientState) (a : AcceptedCall) (plan : Plan) → plan_for k a.xid a.call a.form ≡ Ok plan → (outstanding_of k a).plan ≡ plan
planned k a plan is = ap (λ (r : Result Plan TooLarge). plan_or (call_payload a.xid a.call) r) is

-- the Send of the call, as it is queued
sent_by : (opened : LinkParameters) (s : LinkState) (k : ClientState) (o : OutstandingCall) → s.send_queue.last_send ≡ msn_word k.sends →
    send (next_number s.send_queue.last_send) (call_message o.xid opened.wished o.stag o.plan) ≡ call_output opened (k.sends + 1) o
sent_by opened s k o number =
    send_word (next_number s.send_queue.last_send) (k.sends + 1) (call_message o.xid opened.wished o.stag o.plan)
    (ap (λ (n : ℕ). msn_word (msn_word (n + 1))) number ∙ ap msn_word (next_word k.sends) ∙ word_word (k.sends + 1))

-- a new call has the next STag, while none waits to be sent again
new_stag : (k : ClientState) (a : AcceptedCall) → k.waiting ≡ [] → (outstanding_of k a).stag ≡ k.stag
new_stag k a unwaited = ap (λ (ws : List WaitingCall). stag_unless (first_of ws a.xid) k.stag) unwaited

message_sent : (opened : LinkParameters) (s : LinkState) (k : ClientState) (a : AcceptedCall) (plan : Plan) → s.send_queue.last_send ≡ msn_word k.sends → plan_for k a.xid a.call a.form ≡ Ok plan → k.waiting ≡ [] →
    send_output s.send_queue None (call_message a.xid opened.wished k.stag plan) ≡ call_output opened (k.sends + 1) (outstanding_of k a)
message_sent opened s k a plan number is unwaited =
    (λ i. send (next_number s.send_queue.last_send) (call_message a.xid opened.wished (sym (new_stag k a unwaited) i) (sym (planned k a plan is) i))) ∙ sent_by opened s k (outstanding_of k a) number

-- the first n ends and one more, with the bytes that are queued
pub ends_more : (written hello due : ℕ) (fpdus out all queued : List ℕ) → HasEnds written hello all queued → due ≡ written + hello + length fpdus → 0 < length out →
    HasEnds written hello (all ++ (due + length out) ∷ []) (queued ++ length (fpdus ++ out) ∷ [])
ends_more written hello due fpdus out all queued h due_is some =
    let at : due + length out - (written + hello) ≡ length (fpdus ++ out) = omega (arith, due_is, length-append fpdus out) in
    subst (λ (e : ℕ). HasEnds written hello (all ++ (due + length out) ∷ []) (queued ++ e ∷ [])) at
    (ends_added written hello (due + length out) all queued h (omega (arith, due_is, some)))

output_some : (opened : LinkParameters) (msn : ℕ) (o : OutstandingCall) → 0 < length (call_output opened msn o)
output_some opened msn o = (let later = (calls_later opened 0 0 msn (o ∷ []) (omega arith)).0 in omega (arith, later))

-- a Send of a call is queued, after which these are held back
abbrev pub queue_sent : List ℕ → List (List ℕ) → SendQueue → SendQueue
queue_sent message held q = record (with_send message q) { held = held }

module _ (opened : LinkParameters) (s : LinkState) (k : ClientState) (count : ℕ) (a : AcceptedCall) (message : List ℕ) (held : List (List ℕ)) (m : RegisteredMemory) (keeps : LinkKeeps opened s k) (queued : send_output s.send_queue None message ≡ call_output opened (k.sends + 1) (outstanding_of k a)) (due_is : k.due ≡ k.written + length (writable s.has_hello s.send_queue)) (left : held ≡ map (waiting_message opened) (others_than k.waiting a.xid)) where
  abbrev pub o : OutstandingCall
  o = outstanding_of k a

  abbrev pub out : List ℕ
  out = call_output opened (k.sends + 1) o

  abbrev pub k2 : ClientState
  k2 = client_state_after opened k (CallSubmitted count a)

  abbrev pub all_ends : Bool → List ℕ
  all_ends b = sends_ends b opened k

  -- all that may be written, and more that may not before the hello
  due_by : (b : Bool) → k.has_hello ≡ b → k.due ≡ k.written + length (writable b s.send_queue)
  due_by b e = due_is ∙ ap (λ (x : Bool). k.written + length (writable x s.send_queue)) (keeps.has_hello ∙ e)

  sends_by : (b : Bool) → k.has_hello ≡ b →
      sends_ends b opened (record k { due = k.due + length (cond b out []); send_ends = k.send_ends ++ cond b ((k.due + length (cond b out [])) ∷ []) []; outstanding = k.outstanding ++ o ∷ [] })
      ≡ all_ends b ++ (k.written + length s.send_queue.hello + length s.send_queue.fpdus + length out) ∷ []
  sends_by true e =
      (let due = due_by true e in
      let at : k.due + length out ≡ k.written + length s.send_queue.hello + length s.send_queue.fpdus + length out = omega (arith, due, length-append s.send_queue.hello s.send_queue.fpdus) in
      ap (λ (x : ℕ). k.send_ends ++ x ∷ []) at)
  sends_by false e =
      (let due = due_by false e in
      let none : length (s.send_queue.hello ++ []) ≡ length s.send_queue.hello = ap (λ (xs : List ℕ). length xs) (append-nil s.send_queue.hello) in
      let zero_more : k.due + 0 ≡ k.due = omega arith in
      let many : 1 + length k.outstanding ≡ k.sends + 1 = (let n : length (call_ends opened k.due 1 k.outstanding) ≡ k.sends = ap (λ (b : Bool). length (sends_ends b opened k)) (sym e) ∙ keeps.numbered in omega (arith, n, ends_many opened k.due 1 k.outstanding)) in
      let queue : length s.send_queue.fpdus ≡ length (calls_output opened 1 k.outstanding) = ap (λ (xs : List ℕ). length xs) (keeps.waiting e) in
      let at : k.due + length (calls_output opened 1 k.outstanding) + length (call_output opened (1 + length k.outstanding) o) ≡ k.written + length s.send_queue.hello + length s.send_queue.fpdus + length out =
      ap (λ (n : ℕ). k.due + length (calls_output opened 1 k.outstanding) + length (call_output opened n o)) many ∙ omega (arith, due, none, queue) in
      ap (λ (d : ℕ). call_ends opened d 1 (k.outstanding ++ o ∷ [])) zero_more
      ∙ ends_append opened k.due 1 k.outstanding o
      ∙ ap (λ (x : ℕ). call_ends opened k.due 1 k.outstanding ++ x ∷ []) at)

  pub link_sent : LinkKeeps opened (record s { memory = m; send_queue = queue_sent message held s.send_queue }) (client_state_after opened k (CallSubmitted count a))
  unfolding client_state_after
  link_sent =
      let ends_are : sends_ends k.has_hello opened k2 ≡ all_ends k.has_hello ++ (k.written + length s.send_queue.hello + length s.send_queue.fpdus + length out) ∷ [] = same k.has_hello ∙ sends_by k.has_hello refl in
      let more : HasEnds k.written (length s.send_queue.hello) (all_ends k.has_hello ++ (k.written + length s.send_queue.hello + length s.send_queue.fpdus + length out) ∷ []) (s.send_queue.send_ends ++ length (s.send_queue.fpdus ++ out) ∷ []) =
      ends_more k.written (length s.send_queue.hello) (k.written + length s.send_queue.hello + length s.send_queue.fpdus) s.send_queue.fpdus out (all_ends k.has_hello) s.send_queue.send_ends keeps.sends refl (output_some opened (k.sends + 1) o) in
      record {
        side = keeps.side;
        has_hello = keeps.has_hello;
        receive_length = keeps.receive_length;
        message_max = keeps.message_max;
        fits = keeps.fits;
        terms = keeps.terms;
        received = keeps.received;
        receive = keeps.receive;
        none_lent = keeps.none_lent;
        none_waits = keeps.none_waits;
        no_reads = keeps.no_reads;
        number = ap (λ (n : ℕ). msn_word (n + 1)) keeps.number ∙ next_word k.sends;
        waiting = λ none.
            (λ i. keeps.waiting none i ++ queued i)
            ∙ ap (λ (n : ℕ). calls_output opened 1 k.outstanding ++ call_output opened n o) (let many : length (call_ends opened k.due 1 k.outstanding) ≡ k.sends = ap (λ (b : Bool). length (sends_ends b opened k)) (sym none) ∙ keeps.numbered in omega (arith, many, ends_many opened k.due 1 k.outstanding))
            ∙ sym (output_append opened 1 k.outstanding o);
        none_due = λ none. (λ i. k.send_ends ++ cond (none i) ((k.due + length (cond (none i) out [])) ∷ []) []) ∙ append-nil k.send_ends ∙ keeps.none_due none;
        sends = subst (λ (xs : List ℕ). HasEnds k.written (length s.send_queue.hello) xs (s.send_queue.send_ends ++ length (s.send_queue.fpdus ++ send_output s.send_queue None message) ∷ [])) (sym ends_are)
            (subst (λ (xs : List ℕ). HasEnds k.written (length s.send_queue.hello) (all_ends k.has_hello ++ (k.written + length s.send_queue.hello + length s.send_queue.fpdus + length out) ∷ []) (s.send_queue.send_ends ++ length (s.send_queue.fpdus ++ xs) ∷ [])) (sym queued) more);
        responses = keeps.responses;
        left = (let l = keeps.left in omega (arith, l, length-append s.send_queue.send_ends (length (s.send_queue.fpdus ++ send_output s.send_queue None message) ∷ [])));
        numbered = ap (λ (xs : List ℕ). length xs) ends_are ∙ (let n = keeps.numbered in omega (arith, n, length-append (all_ends k.has_hello) ((k.written + length s.send_queue.hello + length s.send_queue.fpdus + length out) ∷ [])));
        held = left;
        greeted = keeps.greeted;
        granted = keeps.granted;
        client_terms = keeps.client_terms;
      }
    where
      same : (b : Bool) → sends_ends b opened (client_state_after opened k (CallSubmitted count a)) ≡ sends_ends b opened (record k { due = k.due + length (cond k.has_hello out []); send_ends = k.send_ends ++ cond k.has_hello ((k.due + length (cond k.has_hello out [])) ∷ []) []; outstanding = k.outstanding ++ o ∷ [] })
      same true = refl
      same false = refl

  -- what is due for it is what may be written more
  pub output_sent : writable s.has_hello (queue_sent message held s.send_queue) ≡ writable s.has_hello s.send_queue ++ client_output opened k (CallSubmitted count a)
  unfolding client_output
  output_sent =
      ap (λ (h : Bool). writable h (queue_sent message held s.send_queue)) keeps.has_hello
      ∙ by k.has_hello
      ∙ ap (λ (h : Bool). writable h s.send_queue ++ cond k.has_hello out []) (sym keeps.has_hello)
    where
      by : (h : Bool) → writable h (queue_sent message held s.send_queue) ≡ writable h s.send_queue ++ cond h out []
      by true = (λ i. s.send_queue.hello ++ (s.send_queue.fpdus ++ queued i)) ∙ sym (append_assoc s.send_queue.hello s.send_queue.fpdus out)
      by false = sym (append-nil (s.send_queue.hello ++ []))

-- ---- A new call, while none waits to be sent again

module _ (opened : LinkParameters) (s : LinkState) (k : ClientState) (count : ℕ) (a : AcceptedCall) (plan : Plan) (keeps : LinkKeeps opened s k) (is : plan_for k a.xid a.call a.form ≡ Ok plan) (due_is : k.due ≡ k.written + length (writable s.has_hello s.send_queue)) (unwaited : k.waiting ≡ []) where
  none_held : s.send_queue.held ≡ map (waiting_message opened) (others_than k.waiting a.xid)
  none_held = keeps.held ∙ ap (λ (ws : List WaitingCall). map (waiting_message opened) ws) unwaited ∙ sym (ap (λ (ws : List WaitingCall). map (waiting_message opened) (others_than ws a.xid)) unwaited)

  pub link_submitted : LinkKeeps opened (submitted s (call_message a.xid opened.wished k.stag plan) (buffers k.stag plan)) (client_state_after opened k (CallSubmitted count a))
  link_submitted = link_sent opened s k count a (call_message a.xid opened.wished k.stag plan) s.send_queue.held (registered_all s.memory (buffers k.stag plan)) keeps (message_sent opened s k a plan keeps.number is unwaited) due_is none_held

  -- what is due for it is what may be written more
  pub queue_submitted : writable s.has_hello (with_send (call_message a.xid opened.wished k.stag plan) s.send_queue) ≡ writable s.has_hello s.send_queue ++ client_output opened k (CallSubmitted count a)
  queue_submitted = output_sent opened s k count a (call_message a.xid opened.wished k.stag plan) s.send_queue.held s.memory keeps (message_sent opened s k a plan keeps.number is unwaited) due_is none_held

-- ---- The first call that waits is sent again

-- it has its plan and its STag
waits_plan : (k : ClientState) (w : WaitingCall) (ws : List WaitingCall) → k.waiting ≡ w ∷ ws → waiting_call k w.xid ≡ Some w
waits_plan k w ws first = ap (λ (xs : List WaitingCall). first_of xs w.xid) first ∙ ap (λ (b : Bool). cond b (Some w) None) (eq-eqb w.xid w.xid refl)

abbrev pub accepted_again : WaitingCall → AcceptedCall
accepted_again w = record { xid = w.xid; call = w.call; form = w.form }

message_again : (opened : LinkParameters) (s : LinkState) (k : ClientState) (w : WaitingCall) (ws : List WaitingCall) → k.waiting ≡ w ∷ ws → s.send_queue.last_send ≡ msn_word k.sends →
    send_output s.send_queue None (waiting_message opened w) ≡ call_output opened (k.sends + 1) (outstanding_of k (accepted_again w))
unfolding plan_for
message_again opened s k w ws first number =
    let a : AcceptedCall = accepted_again w in
    let found : waiting_call k w.xid ≡ Some w = waits_plan k w ws first in
    let plan : w.plan ≡ (outstanding_of k a).plan = sym (planned k a w.plan (ap (λ (o : Option WaitingCall). plan_unless o (plan_of (call_payload w.xid w.call) w.form k.up_max k.down_max)) found)) in
    let stag : w.stag ≡ (outstanding_of k a).stag = sym (ap (λ (o : Option WaitingCall). stag_unless o k.stag) found) in
    (λ i. send (next_number s.send_queue.last_send) (call_message w.xid opened.wished (stag i) (plan i))) ∙ sent_by opened s k (outstanding_of k a) number

others_wait : (opened : LinkParameters) (held : List (List ℕ)) (k : ClientState) (w : WaitingCall) (ws : List WaitingCall) → k.waiting ≡ w ∷ ws → held ≡ map (waiting_message opened) k.waiting → drop 1 held ≡ map (waiting_message opened) (others_than k.waiting w.xid)
others_wait opened held k w ws first is =
    ap (λ (xs : List (List ℕ)). drop 1 xs) (is ∙ ap (λ (xs : List WaitingCall). map (waiting_message opened) xs) first)
    ∙ sym (ap (λ (xs : List WaitingCall). map (waiting_message opened) (others_than xs w.xid)) first ∙ ap (λ (b : Bool). map (waiting_message opened) (cond b ws (w ∷ ws))) (eq-eqb w.xid w.xid refl))

module _ (opened : LinkParameters) (s : LinkState) (k : ClientState) (count : ℕ) (w : WaitingCall) (ws : List WaitingCall) (keeps : LinkKeeps opened s k) (first : k.waiting ≡ w ∷ ws) (due_is : k.due ≡ k.written + length (writable s.has_hello s.send_queue)) where
  pub link_resent : LinkKeeps opened (record s { send_queue = with_held_sent (waiting_message opened w) s.send_queue }) (client_state_after opened k (CallSubmitted count (accepted_again w)))
  link_resent = link_sent opened s k count (accepted_again w) (waiting_message opened w) (drop 1 s.send_queue.held) s.memory keeps (message_again opened s k w ws first keeps.number) due_is (others_wait opened s.send_queue.held k w ws first keeps.held)

  -- what is due for it is what may be written more
  pub queue_resent : writable s.has_hello (with_held_sent (waiting_message opened w) s.send_queue) ≡ writable s.has_hello s.send_queue ++ client_output opened k (CallSubmitted count (accepted_again w))
  queue_resent = output_sent opened s k count (accepted_again w) (waiting_message opened w) (drop 1 s.send_queue.held) s.memory keeps (message_again opened s k w ws first keeps.number) due_is (others_wait opened s.send_queue.held k w ws first keeps.held)

-- ---- The memory of a call is revoked

-- the message of a call stays if its memory is revoked
messages_stay : (opened : LinkParameters) (xid : ℕ) (ws : List WaitingCall) → map (waiting_message opened) ws ≡ map (waiting_message opened) (map (revoked_waiting xid) ws)
messages_stay opened xid [] = refl
messages_stay opened xid (w ∷ ws) = λ i. by (eqb w.xid xid) i ∷ messages_stay opened xid ws i
  where
    by : (b : Bool) → waiting_message opened w ≡ waiting_message opened (cond b (record w { is_revoked = true }) w)
    by true = refl
    by false = refl

pub link_revoked : (opened : LinkParameters) (s : LinkState) (k : ClientState) (count xid : ℕ) (m : RegisteredMemory) → LinkKeeps opened s k → LinkKeeps opened (record s { memory = m }) (client_state_after opened k (MemoryRevoked count xid))
unfolding client_state_after
link_revoked opened s k count xid m keeps = record {
  side = keeps.side;
  has_hello = keeps.has_hello;
  receive_length = keeps.receive_length;
  message_max = keeps.message_max;
  fits = keeps.fits;
  terms = keeps.terms;
  received = keeps.received;
  receive = keeps.receive;
  none_lent = keeps.none_lent;
  none_waits = keeps.none_waits;
  no_reads = keeps.no_reads;
  number = keeps.number;
  waiting = λ none. keeps.waiting none ∙ sym (output_revoked opened xid 1 k.outstanding);
  none_due = keeps.none_due;
  sends = subst (λ (xs : List ℕ). HasEnds k.written (length s.send_queue.hello) xs s.send_queue.send_ends) (sym (same k.has_hello)) keeps.sends;
  responses = keeps.responses;
  left = keeps.left;
  numbered = ap (λ (xs : List ℕ). length xs) (same k.has_hello) ∙ keeps.numbered;
  held = keeps.held ∙ messages_stay opened xid k.waiting;
  greeted = keeps.greeted;
  granted = keeps.granted;
  client_terms = keeps.client_terms;
}
  where
    same : (b : Bool) → sends_ends b opened (client_state_after opened k (MemoryRevoked count xid)) ≡ sends_ends b opened k
    same true = refl
    same false = ends_revoked opened xid k.due 1 k.outstanding
