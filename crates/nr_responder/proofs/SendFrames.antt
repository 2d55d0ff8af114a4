-- What a responder's side of the link keeps after a segment of a Send that doesn't end it, and after a Send that was delivered.
use Rattle.std.proofs.Common.{◌≡◌, ℕ, ◌+◌, ◌-◌, ◌<◌, ◌≤◌, Bool, true, false, not, ◌||◌, eqb, cond, List, [], ◌∷◌, ◌++◌, length, Option, Some, None, Result, Ok, refl, sym, ap, ◌∙◌, arith, length-append}
use Rattle.std.specs.List.{AllByRecursion, list_any}
use Rattle.std.proofs.lemmas.List.{append-nil}
use Rattle.std.proofs.lemmas.Bool.{ne_eqb, eqb-false, eqb-true, eq-eqb}
use Rattle.nr_wire.specs.declared.stream.Awaited.TheVariants.{Fpdu}
use Rattle.nr_wire.specs.Segment.{Segment}
use Rattle.nr_wire.specs.Segment.Segment.{Untagged}
use Rattle.nr_wire.specs.Constants.{OPCODE_SEND}
use Rattle.nr_wire.specs.declared.hello.Side.{Side}
use Rattle.nr_wire.specs.declared.hello.Side.TheVariants.{Responder}
use Rattle.nr_link.specs.declared.end.End.{End}
use Rattle.nr_endpoint.specs.Hellos.{receive_length_for, takes_invalidate}
use Rattle.nr_link.specs.ReceiveState.{ReceiveState, begun_bytes, send_continued}
use Rattle.nr_link.specs.KeptSends.{begun_within, received_within}
use Rattle.nr_link.specs.SegmentFaults.{is_begun}
use Rattle.nr_link.proofs.BegunSends.{kept_alike}
use Rattle.nr_link.specs.Ending.{segment_taken}
use Rattle.nr_endpoint.specs.ReceiveQueue.{DeliveredEvent, with_segment}
use Rattle.nr_endpoint.specs.ReceiveQueue.DeliveredEvent.{MessageReceived}
use Rattle.nr_endpoint.specs.LinkState.{LinkState}
use Rattle.nr_endpoint.specs.Judging.{segment_end, next_frame, next_segment, with_frame, with_fpdu, with_segment_by, with_effect, after_frame}
use Rattle.nr_endpoint.proofs.ReceiveQueueBytes.{kept_short}
use Rattle.nr_reduce.specs.declared.mark.LinkParameters.{LinkParameters}
use Rattle.nr_reduce.specs.Plans.{one_if}
use Rattle.nr_reduce.specs.OfferedRegions.{Region}
use Rattle.nr_reduce.specs.ServerState.{PendingCall, PendingRead, ReadyCall, ServerState, is_pending}
use Rattle.nr_reduce.proofs.MemorySteps.{holds_later, received_later, offered_later}
use Rattle.nr_responder.specs.Keeping.{OwnNumbers, OwnXids, OwnReady, IsReadyOf, HasPayload, ArePayloads, IsServer, LinkKeeps}
use Rattle.nr_responder.specs.ResponderState.{unsent}
use Rattle.nr_responder.proofs.ServerSteps.{with_received, with_inline_call, ready_call, none_of_number, over_pushed}

-- ---- A frame that doesn't end the side

abbrev pub framed : LinkState → List ℕ → Segment → LinkState
framed s bytes segment = after_frame (next_frame s bytes) (with_effect segment s)

-- a server takes no Send with Invalidate
pub server_reads : (s : LinkState) (bytes : List ℕ) → s.side ≡ Responder → next_segment s bytes ≡ segment_taken false bytes
server_reads s bytes side = ap (λ (x : Side). segment_taken (takes_invalidate x s.agreed) bytes) side

pub frame_lives : (s : LinkState) (bytes : List ℕ) (segment : Segment) → s.side ≡ Responder → segment_taken false bytes ≡ Ok segment → (with_frame s Fpdu bytes).ended ≡ None →
    (segment_end s (next_frame s bytes) segment ≡ None) × (with_frame s Fpdu bytes ≡ framed s bytes segment)
unfolding with_fpdu
frame_lives s bytes segment side is lives =
    let same : with_frame s Fpdu bytes ≡ with_segment_by (next_frame s bytes) segment (segment_end s (next_frame s bytes) segment) s = ap (λ (r : Result Segment ℕ). with_fpdu (next_frame s bytes) r s) (server_reads s bytes side ∙ is) in
    by (segment_end s (next_frame s bytes) segment) refl same
  where
    by : (e : Option End) → segment_end s (next_frame s bytes) segment ≡ e → with_frame s Fpdu bytes ≡ with_segment_by (next_frame s bytes) segment e s →
        (segment_end s (next_frame s bytes) segment ≡ None) × (with_frame s Fpdu bytes ≡ framed s bytes segment)
    by None e same = (e, same)
    by (Some end) e same = absurd (let h : Some end ≡ None = sym (ap (λ (t : LinkState). t.ended) same) ∙ lives in cc)

-- ---- What is kept of a begun Send

same_begun : (n : ℕ) (b : Option (List ℕ)) → is_begun (begun_within n b) ≡ is_begun b
same_begun n None = refl
same_begun n (Some bytes) = refl

-- the bytes of a message that fits its receive are all kept
pub message_kept : (n : ℕ) (b : Option (List ℕ)) (payload : List ℕ) → length (begun_bytes b) ≤ n → begun_bytes (begun_within n b) ++ payload ≡ begun_bytes b ++ payload
message_kept n None payload le = refl
message_kept n (Some bytes) payload le = ap (λ (xs : List ℕ). xs ++ payload) (kept_short n bytes le)

-- ---- A segment of a Send, and another

pub begun_fine : (opened : LinkParameters) (k : ServerState) (s : LinkState) → LinkKeeps opened k s → is_begun s.receive_queue.received.begun ≡ is_begun k.received.begun
begun_fine opened k s h = ap (λ (r : ReceiveState). is_begun r.begun) h.received ∙ same_begun (receive_length_for opened.server) k.received.begun

free_less : (b c : Bool) (free rest receives : ℕ) → b ≡ c → free + (rest + one_if c) ≡ receives → (b ≡ false → 0 < free) → cond (not b) (free - 1) free + (rest + 1) ≡ receives
free_less true true free rest receives same is some = is
free_less false false free rest receives same is some = (let lt : 0 < free = some refl in omega (arith, is, lt))
free_less true false free rest receives same is some = absurd (let h : true ≡ false = same in cc)
free_less false true free rest receives same is some = absurd (let h : false ≡ true = same in cc)

-- the side after a segment of a Send, with these deliveries
abbrev pub send_framed : LinkState → List ℕ → ReceiveState → ℕ → ℕ → List DeliveredEvent → LinkState
send_framed s bytes received free lent deliveries = record {
  side = s.side;
  has_hello = s.has_hello;
  last = s.place;
  place = s.place + length bytes;
  ended = s.ended;
  receive_queue = record { receives = s.receive_queue.receives; receive_length = s.receive_queue.receive_length; received = received; free = free; lent = lent; deliveries = deliveries };
  reads = s.reads;
  memory = s.memory;
  send_queue = s.send_queue;
  terms = s.terms;
  private = s.private;
  agreed = s.agreed;
  message_max = s.message_max;
  client = s.client;
  earlier = s.earlier;
}

pub part_framed : (s : LinkState) (bytes : List ℕ) (w queue msn offset : ℕ) (payload : List ℕ) →
    framed s bytes (Untagged false OPCODE_SEND w queue msn offset payload)
    ≡ send_framed s bytes (received_within s.receive_queue.receive_length (send_continued s.receive_queue.received false payload)) (cond (not (is_begun s.receive_queue.received.begun)) (s.receive_queue.free - 1) s.receive_queue.free) s.receive_queue.lent (s.receive_queue.deliveries ++ [])
unfolding with_effect with_segment
part_framed s bytes w queue msn offset payload = refl

pub last_framed : (s : LinkState) (bytes : List ℕ) (w queue msn offset : ℕ) (payload : List ℕ) →
    framed s bytes (Untagged true OPCODE_SEND w queue msn offset payload)
    ≡ send_framed s bytes (record { sends = s.receive_queue.received.sends + 1; begun = None; requests = s.receive_queue.received.requests }) (cond (not (is_begun s.receive_queue.received.begun)) (s.receive_queue.free - 1) s.receive_queue.free) s.receive_queue.lent
    (s.receive_queue.deliveries ++ MessageReceived (s.receive_queue.received.sends + 1) None (begun_bytes s.receive_queue.received.begun ++ payload) ∷ [])
unfolding with_effect with_segment
last_framed s bytes w queue msn offset payload = refl

-- a segment that isn't the last of its Send
pub part_keeps : (opened : LinkParameters) (k : ServerState) (s : LinkState) (bytes payload : List ℕ) → LinkKeeps opened k s → IsServer k s.place →
    (is_begun s.receive_queue.received.begun ≡ false → 0 < s.receive_queue.free) →
    LinkKeeps opened (with_received (send_continued k.received false payload) k)
    (send_framed s bytes (received_within s.receive_queue.receive_length (send_continued s.receive_queue.received false payload)) (cond (not (is_begun s.receive_queue.received.begun)) (s.receive_queue.free - 1) s.receive_queue.free) s.receive_queue.lent (s.receive_queue.deliveries ++ []))
part_keeps opened k s bytes payload h is some = record {
  live = h.live;
  side = h.side;
  received =
      (λ i. received_within (h.receive_length i) (send_continued (h.received i) false payload))
      ∙ kept_alike (receive_length_for opened.server) k.received (Untagged false OPCODE_SEND 0 0 0 0 payload);
  receive_length = h.receive_length;
  message_max = h.message_max;
  fits = h.fits;
  terms = h.terms;
  up = h.up;
  down = h.down;
  invalidates = h.invalidates;
  free = free_less (is_begun s.receive_queue.received.begun) (is_begun k.received.begun) s.receive_queue.free (unsent s + length k.calls) opened.receives (begun_fine opened k s h) h.free some;
  lent = h.lent;
  told = append-nil s.receive_queue.deliveries ∙ h.told;
  reads = h.reads;
  memory = holds_later k.regions k.accesses_received s.place (s.place + length bytes) s.memory (omega arith) is.accesses h.memory;
  none_dead = h.none_dead;
  next = h.next;
  queue = h.queue;
}

-- a complete Send that was delivered, whose call is pending
pub told_keeps : (opened : LinkParameters) (k : ServerState) (s : LinkState) (bytes : List ℕ) (c : PendingCall) (stream : List ℕ) → LinkKeeps opened k s → IsServer k s.place →
    (is_begun s.receive_queue.received.begun ≡ false → 0 < s.receive_queue.free) →
    LinkKeeps opened (with_inline_call k (record { sends = k.received.sends + 1; begun = None; requests = k.received.requests }) c stream)
    (send_framed s bytes (record { sends = s.receive_queue.received.sends + 1; begun = None; requests = s.receive_queue.received.requests })
    (cond (not (is_begun s.receive_queue.received.begun)) (s.receive_queue.free - 1) s.receive_queue.free) (s.receive_queue.lent + 1) [])
told_keeps opened k s bytes c stream h is some =
    let more : length (k.calls ++ c ∷ []) ≡ length k.calls + 1 = length-append k.calls (c ∷ []) in
    let free : cond (not (is_begun s.receive_queue.received.begun)) (s.receive_queue.free - 1) s.receive_queue.free + (unsent s + length k.calls + 1) ≡ opened.receives =
    free_less (is_begun s.receive_queue.received.begun) (is_begun k.received.begun) s.receive_queue.free (unsent s + length k.calls) opened.receives (begun_fine opened k s h) h.free some in
    record {
      live = h.live;
      side = h.side;
      received = λ i. record { sends = (h.received i).sends + 1; begun = None; requests = (h.received i).requests };
      receive_length = h.receive_length;
      message_max = h.message_max;
      fits = h.fits;
      terms = h.terms;
      up = h.up;
      down = h.down;
      invalidates = h.invalidates;
      free = omega (arith, free, more);
      lent = omega (arith, h.lent, more);
      told = refl;
      reads = h.reads;
      memory = holds_later k.regions k.accesses_received s.place (s.place + length bytes) s.memory (omega arith) is.accesses h.memory;
      none_dead = h.none_dead;
      next = h.next;
      queue = h.queue;
    }

-- ---- The server goes on

pub calls_later : (n m : ℕ) (calls : List PendingCall) → n ≤ m → AllByRecursion (λ c. c.number ≤ n) calls → AllByRecursion (λ c. c.number ≤ m) calls
calls_later n m [] le h = tt
calls_later n m (c ∷ calls) le h = ((let a = h.0 in omega (arith, a, le)), calls_later n m calls le h.1)

pub reads_later : (n m : ℕ) (reads : List PendingRead) → n ≤ m → AllByRecursion (λ r. r.number ≤ n) reads → AllByRecursion (λ r. r.number ≤ m) reads
reads_later n m [] le h = tt
reads_later n m (r ∷ reads) le h = ((let a = h.0 in omega (arith, a, le)), reads_later n m reads le h.1)

pub regions_later : (n m : ℕ) (regions : List Region) → n ≤ m → AllByRecursion (λ r. r.call ≤ n) regions → AllByRecursion (λ r. r.call ≤ m) regions
regions_later n m [] le h = tt
regions_later n m (r ∷ regions) le h = ((let a = h.0 in omega (arith, a, le)), regions_later n m regions le h.1)

pub calls_pushed : (n : ℕ) (calls : List PendingCall) (c : PendingCall) → c.number ≤ n → AllByRecursion (λ x. x.number ≤ n) calls → AllByRecursion (λ x. x.number ≤ n) (calls ++ c ∷ [])
calls_pushed n [] c le h = (le, tt)
calls_pushed n (x ∷ calls) c le h = (h.0, calls_pushed n calls c le h.1)

pub part_server : (k : ServerState) (place later : ℕ) (payload : List ℕ) → place ≤ later → IsServer k place → IsServer (with_received (send_continued k.received false payload) k) later
part_server k place later payload le is = record {
  offered = offered_later place later k.regions le is.offered;
  accesses = received_later place later k.accesses_received le is.accesses;
  numbered = is.numbered;
  sinks = is.sinks;
  calls_before = is.calls_before;
  reads_before = is.reads_before;
  regions_before = is.regions_before;
  closed = is.closed;
  numbers = is.numbers;
  xids = is.xids;
  ready_xids = is.ready_xids;
  ready = is.ready;
  idle = is.idle;
  up = is.up;
  down = is.down;
}

-- ---- A call more

same_xid : (m n : ℕ) → eqb m n ≡ false → eqb n m ≡ false
same_xid m n is = ne_eqb n m (λ e. eqb-false m n is (sym e))

none_more : {X : Type 0} (p : X → Bool) (xs : List X) (c : X) → list_any p xs ≡ false → p c ≡ false → list_any p (xs ++ c ∷ []) ≡ false
none_more p [] c h e = ap (λ (b : Bool). b || false) e
none_more p (x ∷ xs) c h e = by (λ (n : list_any p xs ≡ false). none_more p xs c n e) (p x) refl h
  where
    by : (list_any p xs ≡ false → list_any p (xs ++ c ∷ []) ≡ false) → (b : Bool) → p x ≡ b → (b || list_any p xs) ≡ false → (p x || list_any p (xs ++ c ∷ [])) ≡ false
    by others true is h = absurd cc
    by others false is h = ap (λ (b : Bool). b || list_any p (xs ++ c ∷ [])) is ∙ others h

some_more : {X : Type 0} (p : X → Bool) (xs : List X) (c : X) → list_any p xs ≡ true → list_any p (xs ++ c ∷ []) ≡ true
some_more p [] c h = absurd cc
some_more p (x ∷ xs) c h = by (some_more p xs c) (p x) refl h
  where
    by : (list_any p xs ≡ true → list_any p (xs ++ c ∷ []) ≡ true) → (b : Bool) → p x ≡ b → (b || list_any p xs) ≡ true → (p x || list_any p (xs ++ c ∷ [])) ≡ true
    by others true is h = ap (λ (b : Bool). b || list_any p (xs ++ c ∷ [])) is
    by others false is h = ap (λ (b : Bool). b || list_any p (xs ++ c ∷ [])) is ∙ others h

pub last_more : {X : Type 0} (p : X → Bool) (xs : List X) (c : X) → p c ≡ true → list_any p (xs ++ c ∷ []) ≡ true
last_more p [] c e = ap (λ (b : Bool). b || false) e
last_more p (x ∷ xs) c e = by (last_more p xs c e) (p x)
  where
    by : list_any p (xs ++ c ∷ []) ≡ true → (b : Bool) → (b || list_any p (xs ++ c ∷ [])) ≡ true
    by others true = refl
    by others false = others

pub xids_pushed : (calls : List PendingCall) (c : PendingCall) → list_any (λ d. eqb d.xid c.xid) calls ≡ false → OwnXids calls → OwnXids (calls ++ c ∷ [])
xids_pushed [] c none own = (refl, tt)
xids_pushed (x ∷ calls) c none own = by (λ (n : list_any (λ d. eqb d.xid c.xid) calls ≡ false). xids_pushed calls c n own.1) (eqb x.xid c.xid) refl none
  where
    by : (list_any (λ d. eqb d.xid c.xid) calls ≡ false → OwnXids (calls ++ c ∷ [])) → (b : Bool) → eqb x.xid c.xid ≡ b → (b || list_any (λ d. eqb d.xid c.xid) calls) ≡ false → OwnXids ((x ∷ calls) ++ c ∷ [])
    by others true is h = absurd cc
    by others false is h = (none_more (λ (d : PendingCall). eqb d.xid x.xid) calls c own.0 (same_xid x.xid c.xid is), others h)

not_ready : (calls : List PendingCall) (reads : List PendingRead) (x : ℕ) (ready : List ReadyCall) → list_any (λ c. eqb c.xid x) calls ≡ false → AllByRecursion (IsReadyOf calls reads) ready →
    list_any (λ q. eqb q.xid x) ready ≡ false
not_ready calls reads x [] none h = refl
not_ready calls reads x (r ∷ ready) none h = by (not_ready calls reads x ready none h.1) (eqb r.xid x) refl
  where
    by : list_any (λ q. eqb q.xid x) ready ≡ false → (b : Bool) → eqb r.xid x ≡ b → (eqb r.xid x || list_any (λ q. eqb q.xid x) ready) ≡ false
    by others true is = absurd (let same : r.xid ≡ x = eqb-true r.xid x is in let two : true ≡ false = sym h.0.pending ∙ (ap (λ (y : ℕ). list_any (λ c. eqb c.xid y) calls) same ∙ none) in cc)
    by others false is = ap (λ (b : Bool). b || list_any (λ q. eqb q.xid x) ready) is ∙ others

pub ready_pushed : (ready : List ReadyCall) (r : ReadyCall) → list_any (λ q. eqb q.xid r.xid) ready ≡ false → OwnReady ready → OwnReady (ready ++ r ∷ [])
ready_pushed [] r none own = (refl, tt)
ready_pushed (x ∷ ready) r none own = by (λ (n : list_any (λ q. eqb q.xid r.xid) ready ≡ false). ready_pushed ready r n own.1) (eqb x.xid r.xid) refl none
  where
    by : (list_any (λ q. eqb q.xid r.xid) ready ≡ false → OwnReady (ready ++ r ∷ [])) → (b : Bool) → eqb x.xid r.xid ≡ b → (b || list_any (λ d. eqb d.xid r.xid) ready) ≡ false → OwnReady ((x ∷ ready) ++ r ∷ [])
    by others true is h = absurd cc
    by others false is h = (none_more (λ (q : ReadyCall). eqb q.xid x.xid) ready r own.0 (same_xid x.xid r.xid is), others h)

own_pushed : (x n : ℕ) (calls : List PendingCall) (c : PendingCall) → (c.xid ≡ x → c.number ≡ n) → AllByRecursion (λ d. d.xid ≡ x → d.number ≡ n) calls → AllByRecursion (λ d. d.xid ≡ x → d.number ≡ n) (calls ++ c ∷ [])
own_pushed x n [] c e h = (e, tt)
own_pushed x n (y ∷ calls) c e h = (h.0, own_pushed x n calls c e h.1)

pub no_call_lem : (x n : ℕ) (calls : List PendingCall) → list_any (λ d. eqb d.xid x) calls ≡ false → AllByRecursion (λ d. d.xid ≡ x → d.number ≡ n) calls
no_call_lem x n [] none = tt
no_call_lem x n (y ∷ calls) none = by (no_call_lem x n calls) (eqb y.xid x) refl none
  where
    by : (list_any (λ d. eqb d.xid x) calls ≡ false → AllByRecursion (λ d. d.xid ≡ x → d.number ≡ n) calls) → (b : Bool) → eqb y.xid x ≡ b → (b || list_any (λ d. eqb d.xid x) calls) ≡ false → AllByRecursion (λ d. d.xid ≡ x → d.number ≡ n) (y ∷ calls)
    by others true is h = absurd cc
    by others false is h = ((λ e. absurd (eqb-false y.xid x is e)), others h)

payload_pushed : (x : ℕ) (payload : List ℕ) (calls : List PendingCall) (c : PendingCall) → (c.xid ≡ x → c.inline ≡ Some payload) → AllByRecursion (λ d. d.xid ≡ x → d.inline ≡ Some payload) calls → AllByRecursion (λ d. d.xid ≡ x → d.inline ≡ Some payload) (calls ++ c ∷ [])
payload_pushed x payload [] c e h = (e, tt)
payload_pushed x payload (y ∷ calls) c e h = (h.0, payload_pushed x payload calls c e h.1)

no_payload : (x : ℕ) (payload : List ℕ) (calls : List PendingCall) → list_any (λ d. eqb d.xid x) calls ≡ false → AllByRecursion (λ d. d.xid ≡ x → d.inline ≡ Some payload) calls
no_payload x payload [] none = tt
no_payload x payload (y ∷ calls) none = by (no_payload x payload calls) (eqb y.xid x) refl none
  where
    by : (list_any (λ d. eqb d.xid x) calls ≡ false → AllByRecursion (λ d. d.xid ≡ x → d.inline ≡ Some payload) calls) → (b : Bool) → eqb y.xid x ≡ b → (b || list_any (λ d. eqb d.xid x) calls) ≡ false → AllByRecursion (λ d. d.xid ≡ x → d.inline ≡ Some payload) (y ∷ calls)
    by others true is h = absurd cc
    by others false is h = ((λ e. absurd (eqb-false y.xid x is e)), others h)

pub still_ready : (calls : List PendingCall) (reads : List PendingRead) (c : PendingCall) (ready : List ReadyCall) → list_any (λ d. eqb d.xid c.xid) calls ≡ false → AllByRecursion (IsReadyOf calls reads) ready →
    AllByRecursion (IsReadyOf (calls ++ c ∷ []) reads) ready
still_ready calls reads c [] none h = tt
still_ready calls reads c (r ∷ ready) none h = (
  record {
    pending = some_more (λ (d : PendingCall). eqb d.xid r.xid) calls c h.0.pending;
    own = own_pushed r.xid r.number calls c (λ e. absurd (let two : true ≡ false = sym h.0.pending ∙ (ap (λ (y : ℕ). list_any (λ d. eqb d.xid y) calls) (sym e) ∙ none) in cc)) h.0.own;
    read = h.0.read;
  },
  still_ready calls reads c ready none h.1,
)

pub ready_last : (P : ReadyCall → Type 0) (ready : List ReadyCall) (r : ReadyCall) → P r → AllByRecursion P ready → AllByRecursion P (ready ++ r ∷ [])
ready_last P [] r p h = (p, tt)
ready_last P (x ∷ ready) r p h = (h.0, ready_last P ready r p h.1)

-- the payloads of those that are ready, with one more
still_payload : (calls : List PendingCall) (reads : List PendingRead) (c : PendingCall) (r : ReadyCall) (p : Option (List ℕ)) → list_any (λ d. eqb d.xid c.xid) calls ≡ false → IsReadyOf calls reads r → HasPayload calls r p → HasPayload (calls ++ c ∷ []) r p
still_payload calls reads c r None none known h =
    payload_pushed r.xid r.payload calls c (λ e. absurd (let two : true ≡ false = sym known.pending ∙ (ap (λ (y : ℕ). list_any (λ d. eqb d.xid y) calls) (sym e) ∙ none) in cc)) h
still_payload calls reads c r (Some payload) none known h = h

-- with one more call that isn't ready
pub payloads_pushed : (calls : List PendingCall) (reads : List PendingRead) (c : PendingCall) (ready : List ReadyCall) (payloads : List (Option (List ℕ))) → list_any (λ d. eqb d.xid c.xid) calls ≡ false → AllByRecursion (IsReadyOf calls reads) ready →
    ArePayloads calls ready payloads → ArePayloads (calls ++ c ∷ []) ready payloads
payloads_pushed calls reads c [] [] none known h = tt
payloads_pushed calls reads c [] (p ∷ payloads) none known h = absurd h
payloads_pushed calls reads c (r ∷ ready) [] none known h = absurd h
payloads_pushed calls reads c (r ∷ ready) (p ∷ payloads) none known h = (still_payload calls reads c r p none known.0 h.0, payloads_pushed calls reads c ready payloads none known.1 h.1)

-- with one more that is ready
pub payloads_ready : (calls : List PendingCall) (r : ReadyCall) (p : Option (List ℕ)) (ready : List ReadyCall) (payloads : List (Option (List ℕ))) → HasPayload calls r p → ArePayloads calls ready payloads →
    ArePayloads calls (ready ++ r ∷ []) (payloads ++ p ∷ [])
payloads_ready calls r p [] [] has h = (has, tt)
payloads_ready calls r p [] (q ∷ payloads) has h = absurd h
payloads_ready calls r p (x ∷ ready) [] has h = absurd h
payloads_ready calls r p (x ∷ ready) (q ∷ payloads) has h = (h.0, payloads_ready calls r p ready payloads has h.1)

pub payloads_told : (calls : List PendingCall) (reads : List PendingRead) (c : PendingCall) (stream : List ℕ) (ready : List ReadyCall) (payloads : List (Option (List ℕ))) → c.inline ≡ Some stream → list_any (λ d. eqb d.xid c.xid) calls ≡ false → AllByRecursion (IsReadyOf calls reads) ready →
    ArePayloads calls ready payloads → ArePayloads (calls ++ c ∷ []) (ready ++ ready_call c stream ∷ []) (payloads ++ None ∷ [])
payloads_told calls reads c stream ready payloads inline none known h =
    payloads_ready (calls ++ c ∷ []) (ready_call c stream) None ready payloads (payload_pushed c.xid stream calls c (λ _. inline) (no_payload c.xid stream calls none)) (payloads_pushed calls reads c ready payloads none known h)

pub numbers_pushed : (n : ℕ) (calls : List PendingCall) (c : PendingCall) → c.number ≡ n + 1 → AllByRecursion (λ x. x.number ≤ n) calls → OwnNumbers calls → OwnNumbers (calls ++ c ∷ [])
numbers_pushed n [] c is h own = (refl, tt)
numbers_pushed n (x ∷ calls) c is h own =
    (none_more (λ (d : PendingCall). eqb d.number x.number) calls c own.0 (ne_eqb c.number x.number (λ e. (let le : x.number ≤ n = h.0 in omega (arith, e, is, le)))), numbers_pushed n calls c is h.1 own.1)

pub told_server : (k : ServerState) (place later : ℕ) (c : PendingCall) (stream : List ℕ) → place ≤ later → c.number ≡ k.received.sends + 1 → is_pending k c.xid ≡ false → IsServer k place →
    IsServer (with_inline_call k (record { sends = k.received.sends + 1; begun = None; requests = k.received.requests }) c stream) later
told_server k place later c stream le own none is =
    let n : ℕ = k.received.sends in
    record {
      offered = offered_later place later k.regions le is.offered;
      accesses = received_later place later k.accesses_received le is.accesses;
      numbered = is.numbered;
      sinks = is.sinks;
      calls_before = calls_pushed (n + 1) k.calls c (omega (arith, own)) (calls_later n (n + 1) k.calls (omega arith) is.calls_before);
      reads_before = reads_later n (n + 1) k.reads (omega arith) is.reads_before;
      regions_before = regions_later n (n + 1) k.regions (omega arith) is.regions_before;
      closed = over_pushed k.calls c k.reads n k.regions own is.regions_before is.closed;
      numbers = numbers_pushed n k.calls c own is.calls_before is.numbers;
      xids = xids_pushed k.calls c none is.xids;
      ready_xids = ready_pushed k.ready (ready_call c stream) (not_ready k.calls k.reads c.xid k.ready none is.ready) is.ready_xids;
      ready = ready_last (IsReadyOf (k.calls ++ c ∷ []) k.reads) k.ready (ready_call c stream)
          (record {
            pending = last_more (λ (d : PendingCall). eqb d.xid c.xid) k.calls c (eq-eqb c.xid c.xid refl);
            own = own_pushed c.xid c.number k.calls c (λ _. refl) (no_call_lem c.xid c.number k.calls none);
            read = ap (λ (b : Bool). not b) (let e : c.number ≡ n + 1 = own in ap (λ (m : ℕ). list_any (λ r. eqb r.number m) k.reads) e ∙ none_of_number n k.reads is.reads_before);
          })
          (still_ready k.calls k.reads c k.ready none is.ready);
      idle = is.idle;
      up = is.up;
      down = is.down;
    }
