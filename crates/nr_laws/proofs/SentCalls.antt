-- The Sends due at a client are those of its calls, in order; so a call is sent if and only if its Send is written completely.
use Rattle.std.proofs.Common.{◌≡◌, ℕ, zero, suc, ◌+◌, ◌≤◌, ◌<◌, Bool, true, false, cond, ◌&&◌, eqb, leb, List, [], ◌∷◌, ◌++◌, length, map, Option, None, Some, Result, Ok, Err, refl, sym, ap, subst, ◌∙◌, arith, append_assoc, append-nil, length-append, inl, inr, ◌⊎◌, lt-ltb, eqb-true}
use Rattle.std.specs.Prelude.{Contains}
use Rattle.std.specs.List.{filter, slice_get, AllByRecursion}
use Rattle.std.proofs.lemmas.Bool.{ltb-true, lt-leb, le-leb, eq-eqb, cases_lt}
use Rattle.std.proofs.lemmas.List.Elements.{filter-append, All-contains, All-from_recursion}
use Rattle.std.proofs.lemmas.Option.{slice_get_within}
use Rattle.nr_wire.specs.declared.hello.Side.TheVariants.{Initiator}
use Rattle.nr_wire.specs.Segment.{Segment}
use Rattle.nr_link.specs.declared.end.End.{End as Stop}
use Rattle.nr_link.specs.Frames.{Frame, is_hello}
use Rattle.nr_link.specs.OutputItem.{OutputItem, item_encoding, is_send_item, one_if_true, items_written}
use Rattle.nr_link.specs.OutputItem.OutputItem.{LastItem}
use Rattle.nr_link.specs.ReceiveState.{ReadRequest, message_completed, read_request_of}
use Rattle.nr_reduce.specs.declared.mark.Mark.{Mark}
use Rattle.nr_reduce.specs.declared.mark.LinkParameters.{LinkParameters}
use Rattle.nr_reduce.specs.History.{AcceptedCall, bytes_sent}
use Rattle.nr_reduce.specs.Written.{ends_written}
use Rattle.nr_reduce.specs.Events.{RunEvent, events}
use Rattle.nr_reduce.specs.Events.RunEvent.{FrameReceived, CallSubmitted, MemoryRevoked, CallExecuted, QueueWritten, ServerTold}
use Rattle.nr_reduce.specs.EndRules.{EndState, live, next_end_state_by, end_state_after}
use Rattle.nr_reduce.specs.ClientState.{ClientState, OutstandingCall, is_sent}
use Rattle.nr_reduce.specs.Client.{client_segment, client_rules, client_end, client_state_after, initial_client, outstanding_of, revoked_call, segment_request, with_hello, with_segment, with_message, with_request, due_with_response}
use Rattle.nr_reduce.specs.DueItems.{sent_call_item, sent_call_items, response_items, client_items_at, due_for_by, due_for_all, items_due, hello_due}
use Rattle.nr_reduce.specs.Run.{client}
use Rattle.nr_reduce.proofs.CountedBytes.{some_none}
use Rattle.nr_reduce.proofs.OutputItems.{client_counts_items}
use Rattle.nr_reduce.proofs.Placing.{segment_sends}
use Rattle.nr_reduce.proofs.Steps.{ended_stays}
use Rattle.nr_reduce.specs.Asked.{AskedSoFar}
use Rattle.nr_laws.specs.Typed.{IsTyped}
use Rattle.nr_laws.specs.SentCalls.{complete_items, complete_sends, SentCallsAreWritten}
use Rattle.nr_laws.proofs.EventOutputs.{IsNext, GoesOn, place_after}
use Rattle.nr_laws.proofs.Basics.{each_all, each_append, each_kept}
use Rattle.nr_laws.proofs.CallNumbers.{NumberedBy, numbered_push, numbered_map}
use Rattle.nr_laws.proofs.ClientRun.{client_goes}
use Rattle.nr_laws.proofs.ClientSays.{ClientGood, HasHello}
use Rattle.nr_laws.proofs.OwnXids.{segment_out}

-- ---- Positions in a list

get_first : {X : Type 0} (xs : List X) (x : X) (ys : List X) → slice_get (xs ++ x ∷ ys) (length xs) ≡ Some x
get_first [] x ys = refl
get_first (y ∷ xs) x ys = get_first xs x ys

get_more : {X : Type 0} (xs ys : List X) (i : ℕ) (x : X) → slice_get xs i ≡ Some x → slice_get (xs ++ ys) i ≡ Some x
get_more [] ys i x e = absurd (let wrong : None ≡ Some x = e in cc)
get_more (y ∷ xs) ys zero x e = e
get_more (y ∷ xs) ys (suc i) x e = get_more xs ys i x e

get_less : {X : Type 0} (xs ys : List X) (i : ℕ) → i < length xs → slice_get (xs ++ ys) i ≡ slice_get xs i
get_less [] ys i lt = absurd (omega (arith, lt))
get_less (y ∷ xs) ys zero lt = refl
get_less (y ∷ xs) ys (suc i) lt = get_less xs ys i (omega (arith, lt))

get_none : {X : Type 0} (i : ℕ) (x : X) → slice_get [] i ≡ Some x → ⊥
get_none i x e = (let wrong : None ≡ Some x = e in cc)

-- ---- The complete items are the first ones

none_complete : (at n : ℕ) (items : List OutputItem) → n < at → complete_items at n items ≡ []
none_complete at n [] lt = refl
none_complete at n (x ∷ items) lt =
    (λ i. cond (lt-leb (at + length (item_encoding x)) n (let l : n < at + length (item_encoding x) = omega (arith, lt) in l) i) (x ∷ []) [] ++ none_complete (at + length (item_encoding x)) n items (omega (arith, lt)) i)

record AreFirst (at n : ℕ) (items : List OutputItem) : Type 0 where
  more : List OutputItem
  is : items ≡ complete_items at n items ++ more

are_first : (at n : ℕ) (items : List OutputItem) → AreFirst at n items
are_first at n [] = record { more = []; is = refl }
are_first at n (x ∷ items) = by (cases_lt n end) (are_first end n items)
  where
    end : ℕ
    end = at + length (item_encoding x)

    by : (n < end) ⊎ (end ≤ n) → AreFirst end n items → AreFirst at n (x ∷ items)
    by (inr le) h = record {
      more = h.more;
      is = ap (λ (xs : List OutputItem). x ∷ xs) h.is ∙ ap (λ (b : Bool). (cond b (x ∷ []) [] ++ complete_items end n items) ++ h.more) (sym (le-leb end n le));
    }
    by (inl lt) h = record {
      more = x ∷ items;
      is = sym (λ i. (cond (lt-leb end n lt i) (x ∷ []) [] ++ none_complete end n items lt i) ++ x ∷ items);
    }

complete_count : (p : OutputItem → Bool) (at n : ℕ) (items : List OutputItem) → length (filter p (complete_items at n items)) ≡ items_written p at n items
complete_count p at n [] = refl
complete_count p at n (x ∷ items) = by (p x) refl (leb end n) (complete_count p end n items)
  where
    end : ℕ
    end = at + length (item_encoding x)

    rest : List OutputItem
    rest = complete_items end n items

    one : (b : Bool) → p x ≡ b → length (filter p (x ∷ rest)) ≡ one_if_true (b && true) + length (filter p rest)
    one b is = ap (λ (c : Bool). length (cond c (x ∷ filter p rest) (filter p rest))) is ∙ by_one b
      where
        by_one : (b : Bool) → length (cond b (x ∷ filter p rest) (filter p rest)) ≡ one_if_true (b && true) + length (filter p rest)
        by_one true = omega arith
        by_one false = omega arith

    none : (b : Bool) → one_if_true (b && false) ≡ 0
    none true = refl
    none false = refl

    by : (b : Bool) → p x ≡ b → (c : Bool) → length (filter p rest) ≡ items_written p end n items → length (filter p (cond c (x ∷ []) [] ++ rest)) ≡ one_if_true (p x && c) + items_written p end n items
    by b is true h = one (p x) refl ∙ ap (λ (m : ℕ). one_if_true (p x && true) + m) h
    by b is false h = (let z = none (p x) in omega (arith, h, z))

-- ---- The Sends due are those of the calls, in order

abbrev HasSend : LinkParameters → List OutputItem → OutstandingCall → Type 0
HasSend opened sends o = slice_get sends o.send ≡ Some (sent_call_item opened (o.send + 1) o)

record SendsAreDue (opened : LinkParameters) (place : ℕ) (k : ClientState) (sends : List OutputItem) : Type 0 where
  greeted : HasHello place k.has_hello
  silent : k.has_hello ≡ false → sends ≡ []
  waiting : k.has_hello ≡ false → NumberedBy (λ (o : OutstandingCall). o.send) (λ n. n) 0 k.outstanding × (length k.outstanding ≡ k.sends)
  count : k.has_hello ≡ true → length sends ≡ k.sends
  own : k.has_hello ≡ true → AllByRecursion (HasSend opened sends) k.outstanding

abbrev send_items : List OutputItem → List OutputItem
send_items items = filter is_send_item items

calls_are_sends : (opened : LinkParameters) (n : ℕ) (os : List OutstandingCall) → send_items (sent_call_items opened n os) ≡ sent_call_items opened n os
calls_are_sends opened n [] = refl
calls_are_sends opened n (o ∷ os) = ap (λ (xs : List OutputItem). sent_call_item opened n o ∷ xs) (calls_are_sends opened (n + 1) os)

calls_count : (opened : LinkParameters) (n : ℕ) (os : List OutstandingCall) → length (sent_call_items opened n os) ≡ length os
calls_count opened n [] = refl
calls_count opened n (o ∷ os) = ap (λ (m : ℕ). suc m) (calls_count opened (n + 1) os)

hello_sends : (opened : LinkParameters) (front : List OutputItem) (os : List OutstandingCall) → NumberedBy (λ (o : OutstandingCall). o.send) (λ n. n) (length front) os → AllByRecursion (HasSend opened (front ++ sent_call_items opened (length front + 1) os)) os
hello_sends opened front [] h = tt
hello_sends opened front (o ∷ os) h =
    let at : o.send ≡ length front = h.0 in
    let x : OutputItem = sent_call_item opened (length front + 1) o in
    let l : length (front ++ x ∷ []) ≡ length front + 1 = length-append front (x ∷ []) in
    let rest : AllByRecursion (HasSend opened ((front ++ x ∷ []) ++ sent_call_items opened (length (front ++ x ∷ []) + 1) os)) os =
    hello_sends opened (front ++ x ∷ []) os (subst (λ (n : ℕ). NumberedBy (λ (o : OutstandingCall). o.send) (λ n. n) n os) (sym l) h.1) in (
      (λ i. slice_get (front ++ sent_call_items opened (length front + 1) (o ∷ os)) (at i)) ∙ get_first front x (sent_call_items opened (length front + 1 + 1) os) ∙ ap (λ (n : ℕ). Some (sent_call_item opened (n + 1) o)) (sym at),
      subst (λ (xs : List OutputItem). AllByRecursion (HasSend opened xs) os) (append_assoc front (x ∷ []) (sent_call_items opened (length (front ++ x ∷ []) + 1) os) ∙ ap (λ (n : ℕ). front ++ x ∷ sent_call_items opened (n + 1) os) l) rest,
    )

no_sends : (k : ClientState) (place : ℕ) (q : Option ReadRequest) → send_items (response_items k place q) ≡ []
no_sends k place None = refl
no_sends k place (Some r) = refl

place_zero : (place : ℕ) (b : Bool) → HasHello place b → place ≡ 0 → b ≡ false
place_zero place b (inl h) first = h.1
place_zero place b (inr h) first = absurd (let some = h.0 in omega (arith, some, first))

place_some : (place : ℕ) (b : Bool) → HasHello place b → (place ≡ 0 → ⊥) → b ≡ true
place_some place b (inl h) some = absurd (some h.0)
place_some place b (inr h) some = h.1

clash : {W : Type 0} (b : Bool) → b ≡ true → b ≡ false → W
clash b is_so isnt = absurd (let wrong : true ≡ false = sym is_so ∙ isnt in cc)

kept_hello : (k : ClientState) (f : Frame) (r : Result Segment ℕ) → (with_segment k f r).has_hello ≡ k.has_hello
kept_hello k f (Err reason) = refl
kept_hello k f (Ok segment) = by (message_completed k.received segment) (due_with_response k f segment) (read_request_of segment)
  where
    by : (m : Option (List ℕ)) (due : ℕ) (q : Option ReadRequest) → (with_request (with_message k f.end m) due q).has_hello ≡ k.has_hello
    by None due None = refl
    by None due (Some q) = refl
    by (Some m) due None = refl
    by (Some m) due (Some q) = refl

has_revoked : (opened : LinkParameters) (sends : List OutputItem) (xid : ℕ) (os : List OutstandingCall) → AllByRecursion (HasSend opened sends) os → AllByRecursion (HasSend opened sends) (map (revoked_call xid) os)
has_revoked opened sends xid [] h = tt
has_revoked opened sends xid (o ∷ os) h = (by (eqb o.xid xid), has_revoked opened sends xid os h.1)
  where
    by : (b : Bool) → HasSend opened sends (cond b (record o { is_revoked = true }) o)
    by true = h.0
    by false = h.0

revoked_send : (xid : ℕ) (o : OutstandingCall) → (revoked_call xid o).send ≡ o.send
revoked_send xid o = by (eqb o.xid xid)
  where
    by : (b : Bool) → (cond b (record o { is_revoked = true }) o).send ≡ o.send
    by true = refl
    by false = refl

revoked_length : (xid : ℕ) (os : List OutstandingCall) → length (map (revoked_call xid) os) ≡ length os
revoked_length xid [] = refl
revoked_length xid (o ∷ os) = ap (λ (m : ℕ). suc m) (revoked_length xid os)

hello_step : (opened : LinkParameters) (place end : ℕ) (k : ClientState) (f : Frame) (sends : List OutputItem) → place ≡ 0 → place < end → SendsAreDue opened place k sends → SendsAreDue opened end (with_hello opened k f) (sends ++ send_items (sent_call_items opened 1 k.outstanding))
hello_step opened place end k f sends first lt h =
    let quiet = place_zero place k.has_hello h.greeted first in
    let w = h.waiting quiet in
    let all : sends ++ send_items (sent_call_items opened 1 k.outstanding) ≡ sent_call_items opened 1 k.outstanding = (λ i. h.silent quiet i ++ calls_are_sends opened 1 k.outstanding i) in
    let count = calls_count opened 1 k.outstanding in
    let accepted = w.1 in
    let size = ap (λ (xs : List OutputItem). length xs) all in
    record {
      greeted = inr ((omega (arith, lt)), refl);
      silent = λ wrong. absurd (let e : true ≡ false = wrong in cc);
      waiting = λ wrong. absurd (let e : true ≡ false = wrong in cc);
      count = λ is_so. omega (arith, size, count, accepted);
      own = λ is_so. subst (λ (xs : List OutputItem). AllByRecursion (HasSend opened xs) k.outstanding) (sym all)
          (hello_sends opened [] k.outstanding w.0);
    }

segment_step : (opened : LinkParameters) (place end : ℕ) (k : ClientState) (f : Frame) (r : Result Segment ℕ) (sends : List OutputItem) → (place ≡ 0 → ⊥) → place < end → SendsAreDue opened place k sends
    → SendsAreDue opened end (with_segment k f r) (sends ++ send_items (response_items k f.end (segment_request r)))
segment_step opened place end k f r sends some lt h =
    let greeted = place_some place k.has_hello h.greeted some in
    let still = kept_hello k f r ∙ greeted in
    let same : sends ++ send_items (response_items k f.end (segment_request r)) ≡ sends = ap (λ (xs : List OutputItem). sends ++ xs) (no_sends k f.end (segment_request r)) ∙ append-nil sends in
    let count = h.count greeted in
    let accepted = segment_sends k f r in
    let size = ap (λ (xs : List OutputItem). length xs) same in
    let held = h.own greeted in
    record {
      greeted = inr ((omega (arith, lt)), still);
      silent = λ wrong. clash (with_segment k f r).has_hello still wrong;
      waiting = λ wrong. clash (with_segment k f r).has_hello still wrong;
      count = λ is_so. omega (arith, size, count, accepted);
      own = λ is_so. subst (λ (xs : List OutputItem). AllByRecursion (HasSend opened xs) (with_segment k f r).outstanding) (sym same) (left (segment_out k f r) held);
    }
  where
    left : ((with_segment k f r).outstanding ≡ k.outstanding) ⊎ ((p : OutstandingCall → Bool) × ((with_segment k f r).outstanding ≡ filter p k.outstanding)) → AllByRecursion (HasSend opened sends) k.outstanding → AllByRecursion (HasSend opened sends) (with_segment k f r).outstanding
    left (inl e) held = subst (AllByRecursion (HasSend opened sends)) (sym e) held
    left (inr e) held = subst (AllByRecursion (HasSend opened sends)) (sym e.1) (each_kept (HasSend opened sends) e.0 k.outstanding held)

submit_step : (opened : LinkParameters) (place p : ℕ) (k : ClientState) (a : AcceptedCall) (sends : List OutputItem) → SendsAreDue opened place k sends
    → SendsAreDue opened place (client_state_after opened k (CallSubmitted p a)) (sends ++ send_items (cond k.has_hello (sent_call_item opened (k.sends + 1) (outstanding_of k a) ∷ []) []))
unfolding client_state_after
submit_step opened place p k a sends h = by k.has_hello refl
  where
    o : OutstandingCall
    o = outstanding_of k a

    x : OutputItem
    x = sent_call_item opened (k.sends + 1) o

    t : ClientState
    t = client_state_after opened k (CallSubmitted p a)

    by : (b : Bool) → k.has_hello ≡ b → SendsAreDue opened place t (sends ++ send_items (cond b (x ∷ []) []))
    by true is =
        let count = h.count is in
        let more = length-append sends (x ∷ []) in
        let here : k.sends ≡ length sends = sym count in
        record {
          greeted = h.greeted;
          silent = λ wrong. clash k.has_hello is wrong;
          waiting = λ wrong. clash k.has_hello is wrong;
          count = λ is_so. omega (arith, count, more);
          own = λ is_so. each_append (HasSend opened (sends ++ x ∷ [])) k.outstanding (o ∷ [])
              (each_all (HasSend opened sends) (HasSend opened (sends ++ x ∷ [])) k.outstanding (λ y e. get_more sends (x ∷ []) y.send (sent_call_item opened (y.send + 1) y) e) (h.own is))
              ((λ i. slice_get (sends ++ x ∷ []) (here i)) ∙ get_first sends x [], tt);
        }
    by false is =
        let w = h.waiting is in
        let accepted = w.1 in
        let more = length-append k.outstanding (o ∷ []) in
        record {
          greeted = h.greeted;
          silent = λ quiet. append-nil sends ∙ h.silent quiet;
          waiting = λ quiet. (numbered_push (λ (y : OutstandingCall). y.send) (λ n. n) 0 k.outstanding o w.0 (omega (arith, accepted)), omega (arith, more, accepted));
          count = λ wrong. clash k.has_hello wrong is;
          own = λ wrong. clash k.has_hello wrong is;
        }

event_step : (opened : LinkParameters) (place : ℕ) (k : ClientState) (e : RunEvent) (items : List OutputItem) → IsNext place e → ClientGood opened (live k) e → SendsAreDue opened place k (send_items items)
    → SendsAreDue opened (place_after place e) (client_state_after opened k e) (send_items items ++ send_items (client_items_at opened k e))
unfolding client_state_after client_items_at
event_step opened place k (FrameReceived f) items next good h = by (is_hello f) refl
  where
    by : (b : Bool) → is_hello f ≡ b → SendsAreDue opened f.end (cond b (with_hello opened k f) (with_segment k f (client_segment k f)))
        (send_items items ++ send_items (cond b (sent_call_items opened 1 k.outstanding) (response_items k f.end (segment_request (client_segment k f)))))
    by true is = (let e = eqb-true f.at 0 is in let at = next.0 in hello_step opened place f.end k f (send_items items) (omega (arith, e, at)) next.1 h)
    by false is = segment_step opened place f.end k f (client_segment k f) (send_items items) (λ first. clash (is_hello f) (eq-eqb f.at 0 (next.0 ∙ first)) is) next.1 h
event_step opened place k (CallSubmitted p a) items next good h = submit_step opened place p k a (send_items items) h
event_step opened place k (MemoryRevoked p xid) items next good h =
    let same : send_items items ++ [] ≡ send_items items = append-nil (send_items items) in
    let size = revoked_length xid k.outstanding in
    subst (SendsAreDue opened place (client_state_after opened k (MemoryRevoked p xid))) (sym same) (record {
      greeted = h.greeted;
      silent = h.silent;
      waiting = λ quiet. (let w = h.waiting quiet in let accepted = w.1 in (numbered_map (λ (o : OutstandingCall). o.send) (revoked_call xid) (λ n. n) 0 k.outstanding (revoked_send xid) w.0, omega (arith, size, accepted)));
      count = h.count;
      own = λ is_so. has_revoked opened (send_items items) xid k.outstanding (h.own is_so);
    })
event_step opened place k (CallExecuted c) items next good h = subst (SendsAreDue opened place k) (sym (append-nil (send_items items))) h
event_step opened place k (QueueWritten taken) items next good h =
    subst (SendsAreDue opened place (client_state_after opened k (QueueWritten taken))) (sym (append-nil (send_items items)))
    (record { greeted = h.greeted; silent = h.silent; waiting = h.waiting; count = h.count; own = h.own })
event_step opened place k (ServerTold what) items next good h =
    subst (SendsAreDue opened place (client_state_after opened k (ServerTold what))) (sym (append-nil (send_items items)))
    (record { greeted = h.greeted; silent = h.silent; waiting = h.waiting; count = h.count; own = h.own })

abbrev items_of : LinkParameters → EndState ClientState → List RunEvent → List OutputItem
items_of opened r es = due_for_all (client_rules opened) (client_items_at opened) (λ end. LastItem end ∷ []) r es

record DueAfter (opened : LinkParameters) (k : ClientState) (sends : List OutputItem) : Type 0 where
  place : ℕ
  due : SendsAreDue opened place k sends

due_along : (opened : LinkParameters) (place : ℕ) (k : ClientState) (es : List RunEvent) (items : List OutputItem) → GoesOn (client_rules opened) (ClientGood opened) place (live k) es → (end_state_after (client_rules opened) (live k) es).ended ≡ None
    → SendsAreDue opened place k (send_items items) → DueAfter opened (end_state_after (client_rules opened) (live k) es).state (send_items (items ++ items_of opened (live k) es))
due_along opened place k [] items g stays h = record { place = place; due = subst (λ (xs : List OutputItem). SendsAreDue opened place k (send_items xs)) (sym (append-nil items)) h }
due_along opened place k (e ∷ es) items g stays h = by (λ next live_still. due_along opened (place_after place e) t es (items ++ new) next live_still one) (client_end k e) g.2 stays
  where
    t : ClientState
    t = client_state_after opened k e

    new : List OutputItem
    new = client_items_at opened k e

    one : SendsAreDue opened (place_after place e) t (send_items (items ++ new))
    one = subst (SendsAreDue opened (place_after place e) t) (sym (filter-append is_send_item items new)) (event_step opened place k e items g.0 g.1 h)

    by : (GoesOn (client_rules opened) (ClientGood opened) (place_after place e) (live t) es → (end_state_after (client_rules opened) (live t) es).ended ≡ None → DueAfter opened (end_state_after (client_rules opened) (live t) es).state (send_items ((items ++ new) ++ items_of opened (live t) es)))
        → (o : Option Stop) → GoesOn (client_rules opened) (ClientGood opened) (place_after place e) (next_end_state_by (client_rules opened) k e o) es → (end_state_after (client_rules opened) (next_end_state_by (client_rules opened) k e o) es).ended ≡ None
        → DueAfter opened (end_state_after (client_rules opened) (next_end_state_by (client_rules opened) k e o) es).state
        (send_items (items ++ (due_for_by (client_rules opened) (client_items_at opened) (λ end. LastItem end ∷ []) k e o ++ items_of opened (next_end_state_by (client_rules opened) k e o) es)))
    by later None next live_still =
        subst (λ (xs : List OutputItem). DueAfter opened (end_state_after (client_rules opened) (live t) es).state (send_items xs)) (append_assoc items new (items_of opened (live t) es)) (later next live_still)
    by later (Some end) next ended = absurd (some_none end (sym (ap (λ (r : EndState ClientState). r.ended) (ended_stays (client_rules opened) k end es).0) ∙ ended))

due_run : (opened : LinkParameters) (link : ℕ) (run : List Mark) → IsTyped run → AskedSoFar opened link run → (client opened link run).ended ≡ None
    → DueAfter opened (client opened link run).state (send_items (items_due opened link Initiator run))
unfolding client items_due
due_run opened link run typed asked stays =
    due_along opened 0 (initial_client opened).state (events link Initiator run) [] (client_goes opened link run typed asked).goes stays
    (record { greeted = inl (refl, refl); silent = λ quiet. refl; waiting = λ quiet. (tt, refl); count = λ wrong. absurd (let e : false ≡ true = wrong in cc); own = λ wrong. absurd (let e : false ≡ true = wrong in cc) })

-- ---- The law

element_all : {X : Type 0} (P : X → Type 0) (xs : List X) (x : X) → Contains xs x → AllByRecursion P xs → P x
element_all P xs x there h = All-contains P xs x (All-from_recursion P xs h) there

pub sent_calls_are_written : SentCallsAreWritten
sent_calls_are_written opened link run o typed asked stays there = (to, from)
  where
    k : ClientState
    k = (client opened link run).state

    at : ℕ
    at = length (hello_due opened link Initiator run)

    n : ℕ
    n = length (bytes_sent link Initiator run)

    items : List OutputItem
    items = items_due opened link Initiator run

    position : ℕ
    position = o.send

    counted : ends_written k.written k.send_ends ≡ length (complete_sends opened link run)
    counted = (client_counts_items opened link run stays).0 ∙ sym (complete_count is_send_item at n items)

    from : slice_get (complete_sends opened link run) position ≡ Some (sent_call_item opened (position + 1) o) → is_sent k o ≡ true
    from e =
        let within = slice_get_within (complete_sends opened link run) position (sent_call_item opened (position + 1) o) e in
        lt-ltb o.send (ends_written k.written k.send_ends) (omega (arith, within, counted))

    by : (b : Bool) → k.has_hello ≡ b → DueAfter opened k (send_items items) → position < length (complete_sends opened link run) → slice_get (complete_sends opened link run) position ≡ Some (sent_call_item opened (position + 1) o)
    by true greeted d low =
        let f = are_first at n items in
        let all : send_items items ≡ complete_sends opened link run ++ send_items f.more = ap send_items f.is ∙ filter-append is_send_item (complete_items at n items) f.more in
        sym (get_less (complete_sends opened link run) (send_items f.more) position low) ∙ ap (λ (xs : List OutputItem). slice_get xs position) (sym all)
        ∙ element_all (HasSend opened (send_items items)) k.outstanding o there (d.due.own greeted)
    by false quiet d low =
        let f = are_first at n items in
        let all : send_items items ≡ complete_sends opened link run ++ send_items f.more = ap send_items f.is ∙ filter-append is_send_item (complete_items at n items) f.more in
        let none = ap (λ (xs : List OutputItem). length xs) (sym (d.due.silent quiet) ∙ all) ∙ length-append (complete_sends opened link run) (send_items f.more) in
        absurd (let z : 0 ≡ length (complete_sends opened link run) + length (send_items f.more) = none in omega (arith, z, low))

    to : is_sent k o ≡ true → slice_get (complete_sends opened link run) position ≡ Some (sent_call_item opened (position + 1) o)
    to e =
        let low = ltb-true o.send (ends_written k.written k.send_ends) e in
        by k.has_hello refl (due_run opened link run typed asked stays) (omega (arith, low, counted))
