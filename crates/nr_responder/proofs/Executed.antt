-- What a responder keeps after a call was answered, and after its queue was written.
use Rattle.std.proofs.Common.{◌≡◌, ◌≢◌, ℕ, ◌+◌, ◌-◌, ◌≤◌, Bool, true, false, not, ◌&&◌, ◌||◌, eqb, cond, List, [], ◌∷◌, ◌++◌, length, drop, Some, refl, sym, ap, subst, ◌∙◌, arith, length-append, is_some, Option, None}
use Rattle.std.specs.List.{AllByRecursion, list_any, filter}
use Rattle.std.proofs.lemmas.Bool.{eqb-true, eqb-false}
use Rattle.nr_link.specs.Output.{send_by}
use Rattle.nr_endpoint.specs.SendQueue.{SendQueue, output_len, send_output, with_fpdus, with_send, with_send_by, written}
use Rattle.nr_endpoint.specs.LinkState.{LinkState}
use Rattle.nr_reduce.specs.declared.mark.LinkParameters.{LinkParameters}
use Rattle.nr_reduce.specs.History.{ExecutedCall}
use Rattle.nr_reduce.specs.OfferedRegions.{Region}
use Rattle.nr_reduce.specs.Events.RunEvent.{CallExecuted}
use Rattle.nr_reduce.specs.ServerState.{PendingCall, PendingRead, ReadyCall, ServerState}
use Rattle.nr_reduce.specs.ServerReads.{is_read, is_read_at, is_over}
use Rattle.nr_reduce.specs.Server.{server_state_after, execution_output}
use Rattle.nr_responder.specs.ResponderState.{unsent, drained_posted, left_by}
use Rattle.nr_responder.specs.Keeping.{OwnNumbers, OwnXids, OwnReady, IsReadyOf, HasPayload, ArePayloads, IsServer, LinkKeeps}
use Rattle.nr_responder.proofs.Ends.{ends_fewer}
use Rattle.nr_responder.proofs.Queues.{answered_has, drained_has}

-- ---- The call of an xid is taken out

abbrev pub other_call : ℕ → PendingCall → Bool
other_call x c = not (eqb c.xid x)

abbrev pub without_call : ℕ → List PendingCall → List PendingCall
without_call x calls = filter (other_call x) calls

pub none_out_lem : (x : ℕ) (calls : List PendingCall) → list_any (λ c. eqb c.xid x) calls ≡ false → without_call x calls ≡ calls
none_out_lem x [] none = refl
none_out_lem x (c ∷ calls) none = by (none_out_lem x calls) (eqb c.xid x) refl none
  where
    by : (list_any (λ d. eqb d.xid x) calls ≡ false → without_call x calls ≡ calls) → (b : Bool) → eqb c.xid x ≡ b → (b || list_any (λ d. eqb d.xid x) calls) ≡ false →
        cond (not (eqb c.xid x)) (c ∷ without_call x calls) (without_call x calls) ≡ c ∷ calls
    by others true is h = absurd cc
    by others false is h = ap (λ (b : Bool). cond (not b) (c ∷ without_call x calls) (without_call x calls)) is ∙ ap (λ (cs : List PendingCall). c ∷ cs) (others h)

pub one_out_lem : (x : ℕ) (calls : List PendingCall) → OwnXids calls → list_any (λ c. eqb c.xid x) calls ≡ true → length (without_call x calls) + 1 ≡ length calls
one_out_lem x [] own there = absurd cc
one_out_lem x (c ∷ calls) own there = by (one_out_lem x calls own.1) (eqb c.xid x) refl there
  where
    by : (list_any (λ d. eqb d.xid x) calls ≡ true → length (without_call x calls) + 1 ≡ length calls) → (b : Bool) → eqb c.xid x ≡ b → (b || list_any (λ d. eqb d.xid x) calls) ≡ true → length (cond (not (eqb c.xid x)) (c ∷ without_call x calls) (without_call x calls)) + 1 ≡ length (c ∷ calls)
    by others true is h =
        let same : c.xid ≡ x = eqb-true c.xid x is in
        let left : cond (not (eqb c.xid x)) (c ∷ without_call x calls) (without_call x calls) ≡ calls =
        ap (λ (b : Bool). cond (not b) (c ∷ without_call x calls) (without_call x calls)) is
        ∙ none_out_lem x calls (ap (λ (y : ℕ). list_any (λ d. eqb d.xid y) calls) (sym same) ∙ own.0) in
        let n : length (cond (not (eqb c.xid x)) (c ∷ without_call x calls) (without_call x calls)) ≡ length calls = ap (λ (cs : List PendingCall). length cs) left in
        omega (arith, n)
    by others false is h =
        let left : length (cond (not (eqb c.xid x)) (c ∷ without_call x calls) (without_call x calls)) ≡ length (c ∷ without_call x calls) =
        ap (λ (b : Bool). length (cond (not b) (c ∷ without_call x calls) (without_call x calls))) is in
        omega (arith, left, others h)

all_out : (P : PendingCall → Type 0) (x : ℕ) (calls : List PendingCall) → AllByRecursion P calls → AllByRecursion P (without_call x calls)
all_out P x [] h = tt
all_out P x (c ∷ calls) h = by (all_out P x calls h.1) (not (eqb c.xid x))
  where
    by : AllByRecursion P (without_call x calls) → (b : Bool) → AllByRecursion P (cond b (c ∷ without_call x calls) (without_call x calls))
    by others true = (h.0, others)
    by others false = others

any_out : (p : PendingCall → Bool) (x : ℕ) (calls : List PendingCall) → list_any p calls ≡ false → list_any p (without_call x calls) ≡ false
any_out p x [] h = refl
any_out p x (c ∷ calls) h = by (any_out p x calls) (p c) refl h
  where
    rest : list_any p (without_call x calls) ≡ false → (b : Bool) → p c ≡ false → list_any p (cond b (c ∷ without_call x calls) (without_call x calls)) ≡ false
    rest none true is = ap (λ (b : Bool). b || list_any p (without_call x calls)) is ∙ none
    rest none false is = none

    by : (list_any p calls ≡ false → list_any p (without_call x calls) ≡ false) → (b : Bool) → p c ≡ b → (b || list_any p calls) ≡ false →
        list_any p (cond (not (eqb c.xid x)) (c ∷ without_call x calls) (without_call x calls)) ≡ false
    by others true is h = absurd cc
    by others false is h = rest (others h) (not (eqb c.xid x)) is

own_out : (x : ℕ) (calls : List PendingCall) → OwnXids calls → OwnXids (without_call x calls)
own_out x [] own = tt
own_out x (c ∷ calls) own = by (own_out x calls own.1) (not (eqb c.xid x))
  where
    by : OwnXids (without_call x calls) → (b : Bool) → OwnXids (cond b (c ∷ without_call x calls) (without_call x calls))
    by others true = (any_out (λ (d : PendingCall). eqb d.xid c.xid) x calls own.0, others)
    by others false = others

numbers_out : (x : ℕ) (calls : List PendingCall) → OwnNumbers calls → OwnNumbers (without_call x calls)
numbers_out x [] own = tt
numbers_out x (c ∷ calls) own = by (numbers_out x calls own.1) (not (eqb c.xid x))
  where
    by : OwnNumbers (without_call x calls) → (b : Bool) → OwnNumbers (cond b (c ∷ without_call x calls) (without_call x calls))
    by others true = (any_out (λ (d : PendingCall). eqb d.number c.number) x calls own.0, others)
    by others false = others

-- a call of another xid stays
stays : (x y : ℕ) (calls : List PendingCall) → y ≢ x → list_any (λ c. eqb c.xid y) calls ≡ true → list_any (λ c. eqb c.xid y) (without_call x calls) ≡ true
stays x y [] ne h = absurd cc
stays x y (c ∷ calls) ne h = by (stays x y calls ne) (eqb c.xid x) refl (eqb c.xid y) refl h
  where
    left : List PendingCall
    left = without_call x calls

    by : (list_any (λ c. eqb c.xid y) calls ≡ true → list_any (λ c. eqb c.xid y) left ≡ true) → (a : Bool) → eqb c.xid x ≡ a → (b : Bool) → eqb c.xid y ≡ b → (b || list_any (λ d. eqb d.xid y) calls) ≡ true → list_any (λ d. eqb d.xid y) (cond (not (eqb c.xid x)) (c ∷ left) left) ≡ true
    by others true out true is h = absurd (ne (sym (eqb-true c.xid y is) ∙ eqb-true c.xid x out))
    by others true out false is h = ap (λ (a : Bool). list_any (λ d. eqb d.xid y) (cond (not a) (c ∷ left) left)) out ∙ others h
    by others false out true is h = ap (λ (a : Bool). list_any (λ d. eqb d.xid y) (cond (not a) (c ∷ left) left)) out ∙ ap (λ (b : Bool). b || list_any (λ d. eqb d.xid y) left) is
    by others false out false is h =
        ap (λ (a : Bool). list_any (λ d. eqb d.xid y) (cond (not a) (c ∷ left) left)) out ∙ ap (λ (b : Bool). b || list_any (λ d. eqb d.xid y) left) is ∙ others h

ready_out : (x : ℕ) (calls : List PendingCall) (reads : List PendingRead) (ready : List ReadyCall) → list_any (λ q. eqb q.xid x) ready ≡ false → AllByRecursion (IsReadyOf calls reads) ready →
    AllByRecursion (IsReadyOf (without_call x calls) reads) ready
ready_out x calls reads [] none h = tt
ready_out x calls reads (q ∷ ready) none h = by (λ (e : list_any (λ p. eqb p.xid x) ready ≡ false). ready_out x calls reads ready e h.1) (eqb q.xid x) refl none
  where
    by : (list_any (λ p. eqb p.xid x) ready ≡ false → AllByRecursion (IsReadyOf (without_call x calls) reads) ready) → (b : Bool) → eqb q.xid x ≡ b → (b || list_any (λ p. eqb p.xid x) ready) ≡ false → AllByRecursion (IsReadyOf (without_call x calls) reads) (q ∷ ready)
    by others true is e = absurd cc
    by others false is e = (
      record {
        pending = stays x q.xid calls (eqb-false q.xid x is) h.0.pending;
        own = all_out (λ c. c.xid ≡ q.xid → c.number ≡ q.number) x calls h.0.own;
        read = h.0.read;
      },
      others e,
    )

-- the number that is gone is that of the call
gone : (x n m : ℕ) (calls : List PendingCall) → list_any (λ c. eqb c.number n) calls ≡ true → list_any (λ c. eqb c.number n) (without_call x calls) ≡ false →
    AllByRecursion (λ c. c.xid ≡ x → c.number ≡ m) calls → n ≡ m
gone x n m [] there out own = absurd cc
gone x n m (c ∷ calls) there out own = by (λ (h : list_any (λ c. eqb c.number n) calls ≡ true) (none : list_any (λ c. eqb c.number n) (without_call x calls) ≡ false). gone x n m calls h none own.1) (eqb c.xid x) refl (eqb c.number n) refl there out
  where
    left : List PendingCall
    left = without_call x calls

    by : (list_any (λ c. eqb c.number n) calls ≡ true → list_any (λ c. eqb c.number n) left ≡ false → n ≡ m) → (a : Bool) → eqb c.xid x ≡ a → (b : Bool) → eqb c.number n ≡ b → (b || list_any (λ d. eqb d.number n) calls) ≡ true →
        list_any (λ d. eqb d.number n) (cond (not (eqb c.xid x)) (c ∷ left) left) ≡ false → n ≡ m
    by others true out true is h none = sym (eqb-true c.number n is) ∙ own.0 (eqb-true c.xid x out)
    by others true out false is h none = others h (sym (ap (λ (a : Bool). list_any (λ d. eqb d.number n) (cond (not a) (c ∷ left) left)) out) ∙ none)
    by others false out true is h none =
        absurd (let two : true ≡ false = sym (ap (λ (a : Bool). list_any (λ d. eqb d.number n) (cond (not a) (c ∷ left) left)) out ∙ ap (λ (b : Bool). b || list_any (λ d. eqb d.number n) left) is) ∙ none in cc)
    by others false out false is h none =
        others h (sym (ap (λ (a : Bool). list_any (λ d. eqb d.number n) (cond (not a) (c ∷ left) left)) out ∙ ap (λ (b : Bool). b || list_any (λ d. eqb d.number n) left) is) ∙ none)

over_out : (x m : ℕ) (calls : List PendingCall) (reads : List PendingRead) (g : Region) → AllByRecursion (λ c. c.xid ≡ x → c.number ≡ m) calls → is_read reads m ≡ true →
    is_over (without_call x calls) reads g ≡ true → is_over calls reads g ≡ true
over_out x m calls reads g own read over = by (list_any (λ c. eqb c.number g.call) calls) refl (list_any (λ c. eqb c.number g.call) (without_call x calls)) refl
  where
    whole : Bool → Bool
    whole b = cond b (is_read reads g.call) (is_read_at reads g.call g.position)

    by : (a : Bool) → list_any (λ c. eqb c.number g.call) calls ≡ a → (b : Bool) → list_any (λ c. eqb c.number g.call) (without_call x calls) ≡ b → is_over calls reads g ≡ true
    by true is true left = ap whole is ∙ (sym (ap whole left) ∙ over)
    by true is false left = ap whole is ∙ (ap (λ (n : ℕ). is_read reads n) (gone x g.call m calls is left own) ∙ read)
    by false is b left = ap whole is ∙ (sym (ap whole (any_out (λ c. eqb c.number g.call) x calls is)) ∙ over)

not_false : (b : Bool) → not b ≡ true → b ≡ false
not_false true e = absurd cc
not_false false e = refl

none_at : (n p : ℕ) (reads : List PendingRead) → list_any (λ r. eqb r.number n) reads ≡ false → list_any (λ r. eqb r.number n && eqb r.position p) reads ≡ false
none_at n p [] none = refl
none_at n p (r ∷ reads) none = step (none_at n p reads) (eqb r.number n) refl none
  where
    step : (list_any (λ x. eqb x.number n) reads ≡ false → list_any (λ x. eqb x.number n && eqb x.position p) reads ≡ false) → (b : Bool) → eqb r.number n ≡ b → (b || list_any (λ x. eqb x.number n) reads) ≡ false →
        ((eqb r.number n && eqb r.position p) || list_any (λ x. eqb x.number n && eqb x.position p) reads) ≡ false
    step rest true is h = absurd cc
    step rest false is h = ap (λ (b : Bool). (b && eqb r.position p) || list_any (λ x. eqb x.number n && eqb x.position p) reads) is ∙ rest h

-- if nothing is left to be read for a call, nothing is for any of its chunks
pub read_at_each : (reads : List PendingRead) (n p : ℕ) → is_read reads n ≡ true → is_read_at reads n p ≡ true
read_at_each reads n p read = ap (λ (b : Bool). not b) (none_at n p reads (not_false (list_any (λ r. eqb r.number n) reads) read))

still_over : (x : ℕ) (calls : List PendingCall) (reads : List PendingRead) (g : Region) → is_over calls reads g ≡ true → is_over (without_call x calls) reads g ≡ true
still_over x calls reads g over = by (list_any (λ c. eqb c.number g.call) calls) refl (list_any (λ c. eqb c.number g.call) (without_call x calls)) refl
  where
    whole : Bool → Bool
    whole b = cond b (is_read reads g.call) (is_read_at reads g.call g.position)

    by : (a : Bool) → list_any (λ c. eqb c.number g.call) calls ≡ a → (b : Bool) → list_any (λ c. eqb c.number g.call) (without_call x calls) ≡ b → is_over (without_call x calls) reads g ≡ true
    by true is true left = ap whole left ∙ (sym (ap whole is) ∙ over)
    by true is false left = ap whole left ∙ read_at_each reads g.call g.position (sym (ap whole is) ∙ over)
    by false is b left = ap whole (any_out (λ c. eqb c.number g.call) x calls is) ∙ (sym (ap whole is) ∙ over)

pub both_ways : (a b : Bool) → (a ≡ true → b ≡ true) → (b ≡ true → a ≡ true) → a ≡ b
both_ways true b there back = sym (there refl)
both_ways false true there back = back refl
both_ways false false there back = refl

closed_out : (x m : ℕ) (calls : List PendingCall) (reads : List PendingRead) (regions : List Region) → AllByRecursion (λ c. c.xid ≡ x → c.number ≡ m) calls → is_read reads m ≡ true →
    AllByRecursion (λ r. is_some r.until ≡ is_over calls reads r) regions → AllByRecursion (λ r. is_some r.until ≡ is_over (without_call x calls) reads r) regions
closed_out x m calls reads [] own read h = tt
closed_out x m calls reads (g ∷ regions) own read h =
    (h.0 ∙ both_ways (is_over calls reads g) (is_over (without_call x calls) reads g) (still_over x calls reads g) (over_out x m calls reads g own read), closed_out x m calls reads regions own read h.1)

-- the payloads of those that are still ready
payload_out : (x : ℕ) (calls : List PendingCall) (q : ReadyCall) (p : Option (List ℕ)) → HasPayload calls q p → HasPayload (without_call x calls) q p
payload_out x calls q None h = all_out (λ c. c.xid ≡ q.xid → c.inline ≡ Some q.payload) x calls h
payload_out x calls q (Some payload) h = h

pub payloads_out : (x : ℕ) (calls : List PendingCall) (ready : List ReadyCall) (payloads : List (Option (List ℕ))) → ArePayloads calls ready payloads → ArePayloads (without_call x calls) ready payloads
payloads_out x calls [] [] h = tt
payloads_out x calls [] (p ∷ payloads) h = absurd h
payloads_out x calls (q ∷ ready) [] h = absurd h
payloads_out x calls (q ∷ ready) (p ∷ payloads) h = (payload_out x calls q p h.0, payloads_out x calls ready payloads h.1)

-- ---- A call was answered

abbrev pub executed : ServerState → ℕ → List ℕ → ServerState
executed k xid out = record k {
  calls = without_call xid k.calls;
  ready = drop 1 k.ready;
  messages_queued = k.messages_queued + 1;
  due = k.due + length out;
  message_ends = k.message_ends ++ (k.due + length out) ∷ [];
}

pub executed_is : (opened : LinkParameters) (k : ServerState) (e : ExecutedCall) → server_state_after opened k (CallExecuted e) ≡ executed k e.xid (execution_output k e)
unfolding server_state_after
executed_is opened k e = refl

-- the side with one more Send queued, and with RDMA Writes before it
abbrev pub with_message : LinkState → List ℕ → LinkState
with_message s message = record s { send_queue = with_send message s.send_queue }

abbrev pub with_answer : LinkState → (writes : List ℕ) → (named : Option ℕ) → (message : List ℕ) → LinkState
with_answer s writes named message = record s { send_queue = with_send_by named message (with_fpdus writes s.send_queue) }

pub answered_keeps : (opened : LinkParameters) (k : ServerState) (s : LinkState) (writes : List ℕ) (named : Option ℕ) (message : List ℕ) (r : ReadyCall) (rest : List ReadyCall) → k.ready ≡ r ∷ rest → LinkKeeps opened k s → IsServer k s.place →
    LinkKeeps opened (executed k r.xid (writes ++ send_by named (k.messages_queued + 1) message)) (with_answer s writes named message)
answered_keeps opened k s writes named message r rest first h is =
    let ready : AllByRecursion (IsReadyOf k.calls k.reads) (r ∷ rest) = subst (λ (rs : List ReadyCall). AllByRecursion (IsReadyOf k.calls k.reads) rs) first is.ready in
    let fewer : length (without_call r.xid k.calls) + 1 ≡ length k.calls = one_out_lem r.xid k.calls is.xids ready.0.pending in
    let q : SendQueue = with_fpdus writes s.send_queue in
    let one : length (s.send_queue.send_ends ++ length (q.fpdus ++ send_output q named message) ∷ []) ≡ unsent s + 1 =
    length-append s.send_queue.send_ends (length (q.fpdus ++ send_output q named message) ∷ []) in
    record {
      live = h.live;
      side = h.side;
      received = h.received;
      receive_length = h.receive_length;
      message_max = h.message_max;
      fits = h.fits;
      terms = h.terms;
      up = h.up;
      down = h.down;
      invalidates = h.invalidates;
      free = omega (arith, h.free, fewer, one);
      lent = omega (arith, h.lent, fewer, one);
      told = h.told;
      reads = h.reads;
      memory = h.memory;
      none_dead = h.none_dead;
      next = h.next;
      queue = answered_has named k.written k.due k.messages_queued k.requests_sent k.message_ends writes message s.send_queue h.queue;
    }

pub answered_server : (k : ServerState) (place : ℕ) (out : List ℕ) (r : ReadyCall) (rest : List ReadyCall) → k.ready ≡ r ∷ rest → IsServer k place → IsServer (executed k r.xid out) place
answered_server k place out r rest first is =
    let ready : AllByRecursion (IsReadyOf k.calls k.reads) (r ∷ rest) = subst (λ (rs : List ReadyCall). AllByRecursion (IsReadyOf k.calls k.reads) rs) first is.ready in
    let own : OwnReady (r ∷ rest) = subst OwnReady first is.ready_xids in
    let left : drop 1 k.ready ≡ rest = ap (λ (rs : List ReadyCall). drop 1 rs) first in
    record {
      offered = is.offered;
      accesses = is.accesses;
      numbered = is.numbered;
      sinks = is.sinks;
      calls_before = all_out (λ c. c.number ≤ k.received.sends) r.xid k.calls is.calls_before;
      reads_before = is.reads_before;
      regions_before = is.regions_before;
      closed = closed_out r.xid r.number k.calls k.reads k.regions ready.0.own ready.0.read is.closed;
      numbers = numbers_out r.xid k.calls is.numbers;
      xids = own_out r.xid k.calls is.xids;
      ready_xids = subst OwnReady (sym left) own.1;
      ready = subst (λ (rs : List ReadyCall). AllByRecursion (IsReadyOf (without_call r.xid k.calls) k.reads) rs) (sym left) (ready_out r.xid k.calls k.reads rest own.0 ready.1);
      idle = is.idle;
      up = is.up;
      down = is.down;
    }

-- ---- The queue was written

abbrev pub drained : ServerState → ℕ → ServerState
drained k n = record k { written = k.written + n }

pub fewer_wait : (s : LinkState) (n : ℕ) → length (written n s.send_queue).send_ends ≤ unsent s
unfolding written
fewer_wait s n = ends_fewer (n - length s.send_queue.hello) s.send_queue.send_ends

pub drained_keeps : (opened : LinkParameters) (k : ServerState) (n : ℕ) (s : LinkState) → n ≤ output_len s.send_queue → LinkKeeps opened k s → LinkKeeps opened (drained k n) (drained_posted s n (left_by s n))
drained_keeps opened k n s within h =
    let few : length (written n s.send_queue).send_ends ≤ unsent s = fewer_wait s n in
    record {
      live = h.live;
      side = h.side;
      received = h.received;
      receive_length = h.receive_length;
      message_max = h.message_max;
      fits = h.fits;
      terms = h.terms;
      up = h.up;
      down = h.down;
      invalidates = h.invalidates;
      free = omega (arith, h.free, few);
      lent = omega (arith, h.lent, few);
      told = h.told;
      reads = h.reads;
      memory = h.memory;
      none_dead = h.none_dead;
      next = h.next;
      queue = drained_has k.written k.due k.messages_queued k.requests_sent n k.message_ends s.send_queue within h.queue;
    }

pub drained_server : (k : ServerState) (place n : ℕ) → IsServer k place → IsServer (drained k n) place
drained_server k place n is = record {
  offered = is.offered;
  accesses = is.accesses;
  numbered = is.numbered;
  sinks = is.sinks;
  calls_before = is.calls_before;
  reads_before = is.reads_before;
  regions_before = is.regions_before;
  closed = is.closed;
  numbers = is.numbers;
  xids = is.xids;
  ready_xids = is.ready_xids;
  ready = is.ready;
  idle = is.idle;
  up = is.up;
  down = is.down;
}
