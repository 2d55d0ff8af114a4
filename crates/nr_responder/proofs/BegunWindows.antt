-- The reads of a call begin whose payload is completed in the buffer of its sink.
use Rattle.std.proofs.Common.{◌≡◌, ◌≢◌, ℕ, ◌+◌, ◌-◌, ◌≤◌, cond, ◌&&◌, List, [], ◌∷◌, ◌++◌, length, take, drop, replicate, get_or, map, Option, Some, None, refl, sym, ap, subst, ◌∙◌, arith, append-nil}
use Rattle.std.specs.Prelude.{find}
use Rattle.std.specs.Option.{option_or}
use Rattle.std.specs.List.{AllByRecursion}
use Rattle.std.specs.FinMap.{FinMap, get, insert}
use Rattle.std.specs.Ordering.{nat_cmp}
use Rattle.std.proofs.lemmas.Bool.{eq-eqb}
use Rattle.std.proofs.lemmas.List.{drop_all, drop-replicate, length-drop, length-replicate, length-take, take-replicate}
use Rattle.std.proofs.lemmas.List.Folds.{find-append}
use Rattle.nr_header.specs.declared.header.ReadSegment.{ReadSegment}
use Rattle.nr_regions.specs.declared.right.Right.TheVariants.{Sink}
use Rattle.nr_regions.specs.RegisteredMemory.{Outside, claim_of, outside_len, outside_window, window_bytes}
use Rattle.nr_regions.proofs.Holding.{get_insert_here}
use Rattle.nr_endpoint.specs.EndpointState.{EndpointState}
use Rattle.nr_endpoint.specs.LinkState.{LinkSide}
use Rattle.nr_endpoint.specs.Calls.{after_call}
use Rattle.nr_endpoint.specs.Calls.Call.{Register}
use Rattle.nr_reduce.specs.Chunks.{item_position}
use Rattle.nr_responder.specs.Fetching.{SinkRegion, open_sinks, is_sink}
use Rattle.nr_responder.specs.declared.call.Pending.{Pending}
use Rattle.nr_responder.specs.declared.call.ReadEntry.{ReadEntry}
use Rattle.nr_responder.specs.declared.call.OpenSink.{OpenSink}
use Rattle.nr_responder.specs.private.CallsRead.{sink_buffer, sinks_from, with_registered}
use Rattle.nr_responder.specs.private.Starting.{BeginsOutside, BeginsReads, FitsWindow, with_around}
use Rattle.nr_responder.specs.Sound.{HasOutside, HasRoom, HasWindow, InBuffer, room_len}
use Rattle.nr_responder.specs.Views.{call_view, read_view, sink_view}
use Rattle.nr_responder.proofs.RegisteredSinks.{link_step, registered_kept, registered_next, sinks_step}
use Rattle.nr_responder.proofs.Windows.{same_outside}

-- the region of a buffer of zeros
pub window_zeros : (start around len : ℕ) (buf : List ℕ) → start ≤ around → buf ≡ replicate (around + len) 0 → window_bytes start len buf ≡ replicate len 0
window_zeros start around len buf le is =
    ap (λ (bs : List ℕ). take len (drop start bs)) is ∙ ap (λ (bs : List ℕ). take len bs) (drop-replicate start (around + len) 0) ∙ take-replicate len (around + len - start) 0 (omega (arith, le))

zeros_outside : (start around len : ℕ) (buf : List ℕ) → start ≤ around → buf ≡ replicate (around + len) 0 → (length (outside_window start len buf).front ≡ start) × (outside_len (outside_window start len buf) ≡ around)
zeros_outside start around len buf le is =
    let all : length buf ≡ around + len = ap (λ (bs : List ℕ). length bs) is ∙ length-replicate (around + len) 0 in
    let one = length-take start buf in
    let two = length-drop (start + len) buf in
    (omega (arith, all, one, le), omega (arith, all, one, two, le))

-- one sink is registered
pub registered_one : (number : ℕ) (read : List ReadSegment) (chunks : List ℕ) (l m : LinkSide) (buf : List ℕ) → length chunks ≡ 1 → m ≡ after_call l (Register buf Sink) → buf ≡ sink_buffer read (get_or chunks 0 0) → m ≡ with_registered (sinks_from number l.state.memory.next read chunks) l
registered_one number read chunks l m buf one is bytes =
    ap (λ (ps : List ℕ). with_registered (sinks_from number m.state.memory.next read ps) m) (sym (drop_all 1 chunks (omega (arith, one))))
    ∙ link_step number read chunks 0 l m l (sinks_from number l.state.memory.next read chunks) buf (omega (arith, one)) is bytes refl

pub sinks_one : (number : ℕ) (read : List ReadSegment) (chunks : List ℕ) (l m : LinkSide) (sinks later : List OpenSink) (buf : List ℕ) → length chunks ≡ 1 → m ≡ after_call l (Register buf Sink) → buf ≡ sink_buffer read (get_or chunks 0 0) →
    later ≡ sinks ++ record { number = number; position = get_or chunks 0 0; registration = claim_of l.state.memory buf } ∷ [] → map sink_view later ≡ map sink_view sinks ++ open_sinks (sinks_from number l.state.memory.next read chunks)
sinks_one number read chunks l m sinks later buf one is bytes more =
    let s : OpenSink = record { number = number; position = get_or chunks 0 0; registration = claim_of l.state.memory buf } in
    sym (append-nil (map sink_view later))
    ∙ ap (λ (ps : List ℕ). map sink_view later ++ open_sinks (sinks_from number m.state.memory.next read ps)) (sym (drop_all 1 chunks (omega (arith, one))))
    ∙ sinks_step number read chunks 0 l m sinks later (map sink_view sinks ++ open_sinks (sinks_from number l.state.memory.next read chunks)) buf s (omega (arith, one)) (registered_next l m buf Sink is) bytes (λ i. s) more refl

pub begins_outside : (e mid f : EndpointState) (start around len : ℕ) (buf : List ℕ) → mid.link.state.memory.next ≡ e.link.state.memory.next → mid.outside ≡ e.outside → buf ≡ replicate (around + len) 0 → start ≤ around →
    f.outside ≡ insert mid.outside mid.link.state.memory.next (outside_window start len buf) → ((n : ℕ) → HasOutside mid n → HasOutside f (n + outside_len (outside_window start len buf))) → BeginsOutside e f start around
begins_outside e mid f start around len buf next same is le there more =
    let z = zeros_outside start around len buf le is in
    record {
      more = λ n h. subst (λ (k : ℕ). HasOutside f (n + k)) z.1 (more n (same_outside e mid n next same h));
      kept = λ stag lt. registered_kept mid f (outside_window start len buf) there stag (omega (arith, lt, next)) ∙ ap (λ (m : FinMap nat_cmp Outside). get m stag) same;
      outside = outside_window start len buf;
      there = ap (λ (k : ℕ). get f.outside k) (sym next) ∙ ap (λ (m : FinMap nat_cmp Outside). get m mid.link.state.memory.next) there ∙ get_insert_here mid.outside mid.link.state.memory.next (outside_window start len buf);
      front = z.0;
      size = z.1;
    }

-- ---- Its call

-- the sink of a call at the position of its only chunk
found_new : (number start next : ℕ) (read : List ReadSegment) (sinks : List SinkRegion) → find (is_sink number start) sinks ≡ None →
    find (is_sink number start) (sinks ++ open_sinks (sinks_from number next read (start ∷ []))) ≡ Some (record { number = number; position = start; stag = next; len = length (sink_buffer read start) })
found_new number start next read sinks none =
    let s : SinkRegion = record { number = number; position = start; stag = next; len = length (sink_buffer read start) } in
    find-append (is_sink number start) sinks (s ∷ [])
    ∙ ap (λ (o : Option SinkRegion). option_or o (find (is_sink number start) (s ∷ []))) none
    ∙ (λ i. cond (eq-eqb number number refl i && eq-eqb start start refl i) (Some s) None)

pub begun_window : (e f : EndpointState) (sinks after : List OpenSink) (read : List ReadSegment) (chunks : List ℕ) (call : Pending) (start around : ℕ) → FitsWindow sinks read chunks call start → BeginsOutside e f start around → read ≡ (call_view call).lists.read → call.stream_at + around ≡ call.len + 3 →
    map sink_view after ≡ map sink_view sinks ++ open_sinks (sinks_from call.number e.link.state.memory.next read chunks) → HasWindow f.outside after (with_around call around)
begun_window e f sinks after read chunks call start around w o lists size is = record {
  inline = w.inline;
  item = w.item;
  item_is = w.item_is;
  position = ap item_position (sym lists) ∙ w.position ∙ ap (λ (n : ℕ). Some n) (sym w.start_is);
  within = (let within = w.within in let start_is = w.start_is in omega (arith, within, start_is));
  sink = record { number = call.number; position = start; stag = e.link.state.memory.next; len = length (sink_buffer read start) };
  found =
      ap (λ (n : ℕ). find (is_sink call.number n) (map sink_view after)) w.start_is
      ∙ ap (λ (ss : List SinkRegion). find (is_sink call.number start) ss) is
      ∙ ap (λ (ps : List ℕ). find (is_sink call.number start) (map sink_view sinks ++ open_sinks (sinks_from call.number e.link.state.memory.next read ps))) w.chunks_are
      ∙ found_new call.number start e.link.state.memory.next read (map sink_view sinks) w.none;
  outside = o.outside;
  there = o.there;
  front = o.front ∙ sym w.start_is;
  size = o.size;
  around_is = size;
}

pub window_room : (e f : EndpointState) (sinks after : List OpenSink) (old new : List ReadEntry) (before later : LinkSide) (read : List ReadSegment) (chunks : List ℕ) (call : Pending) (start around : ℕ) → InBuffer call → call.room ≡ None → FitsWindow sinks read chunks call start → BeginsOutside e f start around →
    read ≡ (call_view call).lists.read → call.stream_at + around ≡ call.len + 3 → before ≡ e.link → BeginsReads call.number read chunks old new sinks after before later → AllByRecursion (λ r. r.number ≡ call.number → r.position ≢ 0) (map read_view new) → HasRoom f.outside after new (with_around call around)
window_room e f sinks after old new before later read chunks call start around whole none w o lists size same b apart = record {
  space = λ unread. record {
    room = λ zero. absurd (let within = w.within in omega (arith, zero, size, within));
    window = λ some. begun_window e f sinks after read chunks call start around w o lists size (b.sinks_are ∙ ap (λ (l : LinkSide). map sink_view sinks ++ open_sinks (sinks_from call.number l.state.memory.next read chunks)) same);
  };
  apart = λ some. apart;
  few = (let len = whole.len in let most = whole.buf in let room = ap room_len none in omega (arith, size, len, most, room));
}
