-- A call that is ready with a payload that is completed in the buffer of its sink.
use Rattle.std.proofs.Common.{◌≡◌, ℕ, ◌+◌, ◌<◌, ◌≤◌, Bool, true, false, cond, eqb, ◌&&◌, List, [], ◌∷◌, ◌++◌, length, take, drop, get_or, set, map, Option, Some, None, All, refl, sym, ap, subst, ◌∙◌, arith, length-append}
use Rattle.std.specs.Prelude.{find}
use Rattle.std.specs.List.{list_any}
use Rattle.std.specs.FinMap.{FinMap, get}
use Rattle.std.specs.Ordering.{nat_cmp}
use Rattle.std.proofs.Math.Seq.{drop-append_seam, take-append_seam}
use Rattle.std.proofs.lemmas.Bool.{eqb-true}
use Rattle.std.proofs.lemmas.List.{length-set, map-append}
use Rattle.std.proofs.lemmas.List.Elements.{All-set}
use Rattle.nr_header.specs.Constants.{PAYLOAD_MAX}
use Rattle.nr_regions.specs.RegisteredMemory.{Outside, RegisteredMemory, IsHeld, buffer_around, bytes_in, held_region, outside_len, AreHeldFrom}
use Rattle.nr_endpoint.specs.EndpointState.{EndpointState}
use Rattle.nr_endpoint.specs.LinkState.{LinkState, LinkSide}
use Rattle.nr_reduce.specs.declared.item.Item.{Item}
use Rattle.nr_reduce.specs.declared.item.Of.TheVariants as of
use Rattle.nr_reduce.specs.Chunks.{call_stream, whole}
use Rattle.nr_reduce.specs.ServerState.{PendingRead}
use Rattle.nr_reduce.specs.ServerReads.{is_read, is_read_at}
use Rattle.nr_responder.specs.declared.call.Pending.{Pending}
use Rattle.nr_responder.specs.declared.call.Ready.{Ready}
use Rattle.nr_responder.specs.declared.call.ReadEntry.{ReadEntry}
use Rattle.nr_responder.specs.declared.call.OpenSink.{OpenSink}
use Rattle.nr_responder.specs.declared.server_end.ServerEnd.{ServerEnd}
use Rattle.nr_responder.specs.Fetching.{SinkRegion, is_sink}
use Rattle.nr_responder.specs.ResponderState.{ResponderSide}
use Rattle.nr_responder.specs.private.DoneReads.{IsPlaced}
use Rattle.nr_responder.specs.private.Reading.{bytes_of_sink, is_sink_over, left_sinks, opening, over_sinks, sink_bytes, with_opened, with_released}
use Rattle.nr_responder.specs.private.ReadsDone.{read_payload, reading_on}
use Rattle.nr_responder.specs.Sound.{AreFetched, HasOutside, HasRoom, HasWindow, InBuffer, InReceive, KeepsOutside, QueuesInvariant, around_of, claims_of, payloads_of, room_len, state_of, xids_of}
use Rattle.nr_responder.specs.Views.{call_view, inline_of, read_view, sink_view}
use Rattle.nr_responder.proofs.HeldSinks.{held_at, read_has_room}
use Rattle.nr_responder.proofs.JoinedPayloads.{conveyed_is}
use Rattle.nr_responder.proofs.Windows.{any_at, around_set, keeps_as, keeps_on, rooms_closed, same_outside}

-- what is known of a call and its sink
pub record Placed (r : ServerEnd) (p : Pending) (item : Item) (k : OpenSink) : Type 0 where
  pub outside : Outside
  pub there : get r.endpoint.outside k.registration.stag ≡ Some outside
  pub front : length outside.front ≡ item.pos
  pub size : outside_len outside ≡ p.around
  pub around_is : p.stream_at + p.around ≡ p.len + 3
  pub within : p.stream_at + item.pos ≤ p.len
  pub number : k.number ≡ p.number
  pub held : length (bytes_in (held_region r.endpoint.link.state.memory k.registration.stag)) ≡ k.registration.len
  pub bytes : sink_bytes r.endpoint.link.state.memory (map sink_view r.sinks.items) p.number item.pos ≡ bytes_in (held_region r.endpoint.link.state.memory k.registration.stag)
  pub payload : read_payload (state_of r) (call_view p) ≡ whole of.Call (drop p.stream_at (take p.len p.buf)) (Some (bytes_in (held_region r.endpoint.link.state.memory k.registration.stag)))

found_number : (n position : ℕ) (sinks : List SinkRegion) (s : SinkRegion) → find (is_sink n position) sinks ≡ Some s → s.number ≡ n
found_number n position [] s is = absurd (let wrong : None ≡ Some s = is in cc)
found_number n position (x ∷ sinks) s is = by (λ e. found_number n position sinks s e) (eqb x.number n) refl (eqb x.position position) is
  where
    by : (find (is_sink n position) sinks ≡ Some s → s.number ≡ n) → (a : Bool) → eqb x.number n ≡ a → (b : Bool) → cond (a && b) (Some x) (find (is_sink n position) sinks) ≡ Some s → s.number ≡ n
    by rest true e true h = (let same : x ≡ s = cc in ap (λ (y : SinkRegion). y.number) (sym same) ∙ eqb-true x.number n e)
    by rest true e false h = rest h
    by rest false e b h = rest h

pub is_placed : (r : ServerEnd) (p : Pending) (item : Item) (place : ℕ) (d : OpenSink) → HasWindow r.endpoint.outside r.sinks.items p → IsPlaced r.sinks.items p item place → AreHeldFrom r.endpoint.link.state.memory 0 (claims_of r.sinks.items) → Placed r p item (get_or r.sinks.items place d)
is_placed r p item place d w q held =
    let k : OpenSink = get_or r.sinks.items place d in
    let m : RegisteredMemory = r.endpoint.link.state.memory in
    let sinks : List SinkRegion = map sink_view r.sinks.items in
    let stream : List ℕ = drop p.stream_at (take p.len p.buf) in
    let chunk : ℕ → List ℕ = sink_bytes m sinks p.number in
    let items : Some (Some w.item) ≡ Some (Some item) = sym w.item_is ∙ q.item_is in
    let same : w.item ≡ item = cc in
    let found : find (is_sink p.number item.pos) sinks ≡ Some (sink_view k) = q.found d in
    let both : Some w.sink ≡ Some (sink_view k) = sym w.found ∙ ap (λ (i : Item). find (is_sink p.number i.pos) sinks) same ∙ found in
    let sink : w.sink ≡ sink_view k = cc in
    let one : IsHeld m k.registration = held_at m 0 r.sinks.items place d q.within held in
    record {
      outside = w.outside;
      there = ap (λ (s : SinkRegion). get r.endpoint.outside s.stag) (sym sink) ∙ w.there;
      front = w.front ∙ ap (λ (i : Item). i.pos) same;
      size = w.size;
      around_is = w.around_is;
      within = (let within = w.within in let pos = ap (λ (i : Item). i.pos) same in omega (arith, within, pos));
      number = found_number p.number item.pos sinks (sink_view k) found;
      held = ap (λ o. length (bytes_in o)) one.there ∙ one.len;
      bytes = ap (λ (o : Option SinkRegion). bytes_of_sink m o) found;
      payload =
          sym (conveyed_is (call_view p).inline (call_view p).lists.read chunk (Some item.pos) (ap (λ (i : Item). Some i.pos) (sym same) ∙ sym w.position))
          ∙ ap (λ (b : Bool). whole of.Call (call_stream (inline_of b stream) chunk) (Some (chunk item.pos))) w.inline
          ∙ ap (λ (o : Option SinkRegion). whole of.Call stream (Some (bytes_of_sink m o))) found;
    }

-- what is judged is its payload
pub placed_read : (r : ServerEnd) (p : Pending) (item : Item) (place : ℕ) (d : OpenSink) (given later : List OpenSink) (moved : List ℕ) → HasWindow r.endpoint.outside r.sinks.items p → IsPlaced given p item place → given ≡ r.sinks.items → later ≡ r.sinks.items →
    AreHeldFrom r.endpoint.link.state.memory 0 (claims_of r.sinks.items) → moved ≡ sink_bytes r.endpoint.link.state.memory (map sink_view later) p.number item.pos → read_payload (state_of r) (call_view p) ≡ whole of.Call (drop p.stream_at (take p.len p.buf)) (Some moved)
placed_read r p item place d given later moved w q same same_later held is =
    let h : Placed r p item (get_or r.sinks.items place d) = is_placed r p item place d w (subst (λ (ss : List OpenSink). IsPlaced ss p item place) same q) held in
    h.payload
    ∙ ap (λ (bytes : List ℕ). whole of.Call (drop p.stream_at (take p.len p.buf)) (Some bytes))
    (sym (is ∙ ap (λ (ss : List OpenSink). sink_bytes r.endpoint.link.state.memory (map sink_view ss) p.number item.pos) same_later ∙ h.bytes))

pub placed_len : (r : ServerEnd) (p : Pending) (item : Item) (place : ℕ) (d : OpenSink) (given later : List OpenSink) (moved : List ℕ) → HasWindow r.endpoint.outside r.sinks.items p → IsPlaced given p item place → given ≡ r.sinks.items → later ≡ r.sinks.items →
    AreHeldFrom r.endpoint.link.state.memory 0 (claims_of r.sinks.items) → moved ≡ sink_bytes r.endpoint.link.state.memory (map sink_view later) p.number item.pos → length moved ≡ (get_or r.sinks.items place d).registration.len
placed_len r p item place d given later moved w q same same_later held is =
    let h : Placed r p item (get_or r.sinks.items place d) = is_placed r p item place d w (subst (λ (ss : List OpenSink). IsPlaced ss p item place) same q) held in
    ap (λ (bytes : List ℕ). length bytes) (is ∙ ap (λ (ss : List OpenSink). sink_bytes r.endpoint.link.state.memory (map sink_view ss) p.number item.pos) same_later ∙ h.bytes) ∙ h.held

-- all of the call is read: its sink is over
pub placed_over : (calls given : List Pending) (reads given_reads : List ReadEntry) (k : OpenSink) (at : ℕ) (d : Pending) → at < length calls → k.number ≡ (get_or calls at d).number → is_read (map read_view reads) (get_or calls at d).number ≡ true → given ≡ calls → given_reads ≡ reads →
    is_sink_over (map call_view given) (map read_view given_reads) (sink_view k) ≡ true
placed_over calls given reads given_reads k at d lt number read same same_reads =
    (λ i. is_sink_over (map call_view (same i)) (map read_view (same_reads i)) (sink_view k))
    ∙ ap (λ (b : Bool). cond b (is_read (map read_view reads) k.number) (is_read_at (map read_view reads) k.number k.position)) (ap (λ (n : ℕ). list_any (λ c. eqb c.number n) (map call_view calls)) number ∙ any_at calls at d lt)
    ∙ ap (λ (n : ℕ). is_read (map read_view reads) n) number ∙ read

-- its buffer
pub placed_buffer : (r : ServerEnd) (p : Pending) (item : Item) (k : OpenSink) (f : EndpointState) (moved : ℕ) (buffer : List ℕ) → Placed r p item k → f.outside ≡ r.endpoint.outside → f.link.state.memory ≡ r.endpoint.link.state.memory → moved ≡ k.registration.len →
    buffer ≡ buffer_around (get f.outside k.registration.stag) (bytes_in (held_region f.link.state.memory k.registration.stag)) →
    (take moved (drop item.pos buffer) ≡ bytes_in (held_region r.endpoint.link.state.memory k.registration.stag)) × (length buffer ≡ p.around + moved)
placed_buffer r p item k f moved buffer h outside memory len is =
    let bytes : List ℕ = bytes_in (held_region r.endpoint.link.state.memory k.registration.stag) in
    let all : buffer ≡ h.outside.front ++ (bytes ++ h.outside.rest) =
    is ∙ (λ i. buffer_around (get (outside i) k.registration.stag) (bytes_in (held_region (memory i) k.registration.stag))) ∙ ap (λ (o : Option Outside). buffer_around o bytes) h.there in
    let count : moved ≡ length bytes = len ∙ sym h.held in (
      (λ i. take (count i) (drop (sym h.front i) (all i))) ∙ ap (λ (xs : List ℕ). take (length bytes) xs) (drop-append_seam h.outside.front (bytes ++ h.outside.rest)) ∙ take-append_seam bytes h.outside.rest,
      (let one = ap (λ (xs : List ℕ). length xs) all ∙ length-append h.outside.front (bytes ++ h.outside.rest) in let two = length-append bytes h.outside.rest in let size = h.size in omega (arith, one, two, size, count)),
    )

-- the call at a place, with that buffer
pub record InPlace (r : ServerEnd) (p : Pending) (item : Item) (k : OpenSink) (moved : ℕ) (buffer : List ℕ) : Type 0 where
  pub call : Placed r p item k
  pub bytes : take moved (drop item.pos buffer) ≡ bytes_in (held_region r.endpoint.link.state.memory k.registration.stag)
  pub len : length buffer ≡ p.around + moved

pub in_place : (r : ServerEnd) (at place moved : ℕ) (p : Pending) (item : Item) (d : OpenSink) (f : EndpointState) (opened : List PendingRead) (buffer : List ℕ) → ((x : Pending) → HasWindow r.endpoint.outside r.sinks.items (get_or r.calls.items at x)) →
    ((x : Pending) → IsPlaced r.sinks.items (get_or r.calls.items at x) item place) → AreHeldFrom r.endpoint.link.state.memory 0 (claims_of r.sinks.items) → p ≡ get_or r.calls.items at p → f.link ≡ with_opened opened r.endpoint.link → f.outside ≡ r.endpoint.outside →
    moved ≡ (get_or r.sinks.items place d).registration.len →
    buffer ≡ buffer_around (get f.outside (get_or r.sinks.items place d).registration.stag) (bytes_in (held_region f.link.state.memory (get_or r.sinks.items place d).registration.stag)) → InPlace r p item (get_or r.sinks.items place d) moved buffer
in_place r at place moved p item d f opened buffer window placed held same link outside len is =
    let k : OpenSink = get_or r.sinks.items place d in
    let h : Placed r p item k =
    is_placed r p item place d (subst (λ (x : Pending). HasWindow r.endpoint.outside r.sinks.items x) (sym same) (window p)) (subst (λ (x : Pending). IsPlaced r.sinks.items x item place) (sym same) (placed p)) held in
    let b = placed_buffer r p item k f moved buffer h outside (ap (λ (l : LinkSide). l.state.memory) link) len is in
    record { call = h; bytes = b.0; len = b.1 }

-- ---- What is made of the responder

pub placed_state : (r : ServerEnd) (f g : LinkSide) (calls : List Pending) (sinks : List OpenSink) (ready : List Ready) (kept xid : ℕ) (payload : List ℕ) → f ≡ with_opened (opening kept (map read_view r.reads.items)) r.endpoint.link →
    g ≡ with_released (over_sinks (map call_view r.calls.items) (map read_view r.reads.items) (map sink_view r.sinks.items)) f → map call_view calls ≡ map call_view r.calls.items → map sink_view sinks ≡ left_sinks (map call_view r.calls.items) (map read_view r.reads.items) (map sink_view r.sinks.items) →
    ready ≡ r.ready.items ++ record { xid = xid; payload = Some payload } ∷ [] →
    ◌≡◌ {A = ResponderSide} (record { link = g; calls = map call_view calls; ready = xids_of ready; credits = r.credits; fetching = record { reads = map read_view r.reads.items; sinks = map sink_view sinks; payloads = payloads_of ready } })
    (reading_on (state_of r) r.endpoint.link.state (map call_view r.calls.items) (map read_view r.reads.items) kept (xid ∷ []) (Some payload ∷ []))
placed_state r f g calls sinks ready kept xid payload opened closed calls_are sinks_are is =
    let over : List SinkRegion = over_sinks (map call_view r.calls.items) (map read_view r.reads.items) (map sink_view r.sinks.items) in
    let link : g ≡ with_released over (with_opened (opening kept (map read_view r.reads.items)) r.endpoint.link) = closed ∙ ap (λ (l : LinkSide). with_released over l) opened in
    λ i. record {
      link = link i;
      calls = calls_are i;
      ready = (ap xids_of is ∙ map-append (λ (q : Ready). q.xid) r.ready.items (record { xid = xid; payload = Some payload } ∷ [])) i;
      credits = r.credits;
      fetching = record {
        reads = map read_view r.reads.items;
        sinks = sinks_are i;
        payloads = (ap payloads_of is ∙ map-append (λ (q : Ready). q.payload) r.ready.items (record { xid = xid; payload = Some payload } ∷ [])) i;
      };
    }

-- ---- What is kept

pub emptied_around : (p new : Pending) → new ≡ record p { around = 0 } → InBuffer p → InBuffer new
emptied_around p new is h = subst InBuffer (sym is) (record { buf = h.buf; len = h.len; at = h.at; lists = h.lists; target = h.target; item = h.item })

pub readied_queues : (s : LinkState) (at : ℕ) (new : Pending) (calls later : List Pending) (ready readied : List Ready) (q : Ready) (used : List (List ℕ)) (a b later_b c : ℕ) → InReceive s.receive_queue.receive_length new → later ≡ set calls at new → readied ≡ ready ++ q ∷ [] → length ready < length calls → later_b ≡ b →
    QueuesInvariant 0 s calls ready used a b c → QueuesInvariant 0 s later readied used a later_b c
readied_queues s at new calls later ready readied q used a b later_b c whole is ready_is few room h =
    let count : length later ≡ length calls = ap (λ (xs : List Pending). length xs) is ∙ length-set calls at new in
    let one : length readied ≡ length ready + 1 = ap (λ (xs : List Ready). length xs) ready_is ∙ length-append ready (q ∷ []) in
    record {
      unsent_is = h.unsent_is;
      lent = omega (arith, h.lent, count);
      few = omega (arith, few, count, one);
      bufs = subst (λ (xs : List Pending). All (InReceive s.receive_queue.receive_length) xs) (sym is) (All-set (InReceive s.receive_queue.receive_length) calls at new whole h.bufs);
      used_bufs = h.used_bufs;
      calls_fit = h.calls_fit;
      ready_fit = omega (arith, h.ready_fit, room);
      used_fit = h.used_fit;
      limit = h.limit;
    }

pub placed_fetched : (e f g : EndpointState) (at stag : ℕ) (p new : Pending) (o : Outside) (opened : List PendingRead) (calls later : List Pending) (reads : List ReadEntry) (sinks left : List OpenSink) → f.link ≡ with_opened opened e.link → f.outside ≡ e.outside →
    AreHeldFrom g.link.state.memory 0 (claims_of left) → All (λ s. s.registration.len ≤ PAYLOAD_MAX) left → ((n : ℕ) → get f.outside stag ≡ Some o → HasOutside f (outside_len o + n) → HasOutside g n) → KeepsOutside f g →
    map sink_view left ≡ left_sinks (map call_view calls) (map read_view reads) (map sink_view sinks) → at < length calls → p ≡ get_or calls at p → new ≡ record p { around = 0 } → later ≡ set calls at new → get e.outside stag ≡ Some o → outside_len o ≡ p.around → is_read (map read_view reads) p.number ≡ true →
    AreFetched e calls reads sinks → AreFetched g later reads left
placed_fetched e f g at stag p new o opened calls later reads sinks left link outside held short fewer keeps sinks_are lt place new_is later_is there size read h =
    let memory : f.link.state.memory ≡ e.link.state.memory = ap (λ (l : LinkSide). l.state.memory) link in
    let around : new.around ≡ 0 = ap (λ (x : Pending). x.around) new_is in
    let room : room_len new.room ≡ room_len p.room = ap (λ (x : Pending). room_len x.room) new_is in
    let few = (h.rooms at p lt).few in
    let of_call : HasRoom g.outside left reads new =
    read_has_room g.outside left reads new (ap (λ (x : Pending). is_read (map read_view reads) x.number) new_is ∙ read) around (let same = ap (λ (x : Pending). room_len x.room) place in omega (arith, room, same, few)) in
    let sum : outside_len o + around_of later ≡ around_of calls =
    (let total = around_set calls at new p lt in let set_is = ap (λ (cs : List Pending). around_of cs) later_is in let own = ap (λ (x : Pending). x.around) place in omega (arith, total, set_is, own, size, around)) in
    record {
      held = held;
      short = short;
      rooms = subst (λ (cs : List Pending). All (HasRoom g.outside left reads) cs) (sym later_is)
          (All-set (HasRoom g.outside left reads) calls at new of_call (rooms_closed e g calls reads sinks left (keeps_on e f g (keeps_as e f memory outside) keeps) sinks_are held h.rooms));
      outside = fewer (around_of later) (ap (λ (m : FinMap nat_cmp Outside). get m stag) outside ∙ there) (same_outside e f (outside_len o + around_of later) (ap (λ (m : RegisteredMemory). m.next) memory) outside (subst (λ (n : ℕ). HasOutside e n) (sym sum) h.outside));
    }
