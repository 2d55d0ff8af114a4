-- The reads of a call begin: what the code makes of a responder is what a Send with a read list makes of it.
use Rattle.std.proofs.Common.{◌≡◌, ◌≢◌, ℕ, zero, suc, ◌+◌, ◌*◌, ◌<◌, ◌≤◌, Bool, true, false, not, cond, eqb, ◌||◌, ◌&&◌, List, [], ◌∷◌, ◌++◌, length, take, get_or, map, Option, Some, Result, Ok, Err, All, OnOk, refl, sym, ap, subst, ◌∙◌, arith, inl, length-append}
use Rattle.std.specs.Prelude.{find, min}
use Rattle.std.specs.Option.{option_or}
use Rattle.std.specs.List.{AllByRecursion, list_all, list_any}
use Rattle.std.specs.FinMap.{FinMap, get}
use Rattle.std.specs.Ordering.{nat_cmp}
use Rattle.std.proofs.lemmas.Bool.{eq-eqb, eqb-true, ne_eqb}
use Rattle.std.proofs.lemmas.List.Folds.{find-append}
use Rattle.nr_regions.specs.RegisteredMemory.{Outside, RegisteredMemory, AreHeldFrom}
use Rattle.std.proofs.lemmas.List.{length-take, length-map}
use Rattle.nr_wire.specs.Constants.{UNITS_MAX}
use Rattle.nr_header.specs.Constants.{PAYLOAD_MAX}
use Rattle.nr_header.specs.WithinLimits.{read_total}
use Rattle.nr_header.specs.declared.header.ReadSegment.{ReadSegment}
use Rattle.nr_link.specs.Limits.{open_reads_max, send_unit}
use Rattle.nr_endpoint.specs.EndpointState.{EndpointState}
use Rattle.nr_endpoint.specs.LinkState.{LinkState, LinkSide}
use Rattle.nr_endpoint.specs.ReceiveQueue.{ReceiveQueue}
use Rattle.nr_reduce.specs.Chunks.{call_stream, total_at}
use Rattle.nr_reduce.specs.OfferedRegions.{Region}
use Rattle.nr_reduce.specs.ServerState.{PendingCall, PendingRead}
use Rattle.nr_reduce.specs.ServerReads.{chunks_of, reads_from, read_of, is_read}
use Rattle.nr_responder.specs.declared.call.Pending.{Pending}
use Rattle.nr_responder.specs.declared.call.Ready.{Ready}
use Rattle.nr_responder.specs.declared.call.ReadEntry.{ReadEntry}
use Rattle.nr_responder.specs.declared.call.OpenSink.{OpenSink}
use Rattle.nr_responder.specs.declared.server_end.ServerEnd.{ServerEnd}
use Rattle.nr_responder.specs.Fetching.{SinkRegion, open_sinks, is_sink}
use Rattle.nr_responder.specs.ResponderState.{ResponderSide}
use Rattle.nr_responder.specs.private.CallsRead.{chunk_positions, reading_call, reads_with, opened_with, sinks_from, sinks_of, with_registered}
use Rattle.nr_responder.specs.private.Handling.{out}
use Rattle.nr_responder.specs.private.Reading.{opening, with_opened}
use Rattle.nr_responder.specs.private.Starting.{BeginsReads, OpensReads, reads_more, with_around, with_room}
use Rattle.nr_responder.specs.HeldBytes.{sinks_share}
use Rattle.nr_responder.specs.Sound.{AreFetched, QueuesInvariant, HasOutside, HasRoom, HasWindow, InBuffer, InReceive, SameInput, around_of, claims_of, payloads_of, state_of, xids_of}
use Rattle.nr_responder.specs.Views.{call_view, read_view, sink_view}
use Rattle.nr_responder.proofs.ListedReads.{same_sinks}
use Rattle.nr_responder.proofs.ReadEffects.{requests_ends}
use Rattle.nr_responder.proofs.Removed.{all_pushed_lem}
use Rattle.nr_responder.proofs.HeldSinks.{fetched_as}
use Rattle.nr_responder.proofs.PayloadRooms.{new_room, none_there, room_beside}
use Rattle.nr_responder.proofs.Windows.{around_pushed, found_held, moved_window}
use Rattle.nr_responder.proofs.Sounds.{bufs_as, used_as, limit_as}

pub on_ok : {T E : Type 0} (r : Result T E) (P Q : Type 0) → (P → Q) → OnOk r P → OnOk r Q
on_ok (Ok x) P Q f h = f h
on_ok (Err e) P Q f h = h

-- ---- The code's steps

pub opens_as : (number next : ℕ) (read : List ReadSegment) (chunks : List ℕ) (old new now : List ReadEntry) (count kept : ℕ) (before after : LinkSide) → count ≡ length old → kept ≡ min count open_reads_max → now ≡ new →
    map read_view new ≡ reads_more old number next read chunks → after ≡ with_opened (opening kept (map read_view now)) before → OpensReads number next read chunks old new before after
opens_as number next read chunks old new now count kept before after counted is same reads link = record {
  reads = reads;
  link = link ∙ (λ i. with_opened (opening ((is ∙ ap (λ (n : ℕ). min n open_reads_max) counted) i) (map read_view (same i))) before);
}

pub opens_at : (number next at : ℕ) (read : List ReadSegment) (chunks : List ℕ) (old new : List ReadEntry) (before after : LinkSide) → next ≡ at → OpensReads number next read chunks old new before after → OpensReads number at read chunks old new before after
opens_at number next at read chunks old new before after is h = subst (λ (n : ℕ). OpensReads number n read chunks old new before after) is h

-- a link with other Read Requests has the same memory
opened_memory : (reads : List PendingRead) (before after : LinkSide) → after ≡ with_opened reads before → after.state.memory ≡ before.state.memory
opened_memory reads before after is = ap (λ (l : LinkSide). l.state.memory) is

pub record HasOpened (old : List ReadEntry) (new : List ReadEntry) (before after : LinkSide) : Type 0 where
  pub memory : after.state.memory ≡ before.state.memory
  pub link : after ≡ with_opened (opening (min (length old) open_reads_max) (map read_view new)) before

pub has_opened : (number next : ℕ) (read : List ReadSegment) (chunks : List ℕ) (old new : List ReadEntry) (first before after : LinkSide) → before ≡ first → OpensReads number next read chunks old new before after → HasOpened old new first after
has_opened number next read chunks old new first before after same h = record {
  memory = opened_memory (opening (min (length old) open_reads_max) (map read_view new)) before after h.link ∙ ap (λ (l : LinkSide). l.state.memory) same;
  link = h.link ∙ ap (λ (l : LinkSide). with_opened (opening (min (length old) open_reads_max) (map read_view new)) l) same;
}

pub begins_as : (number : ℕ) (read : List ReadSegment) (chunks : List ℕ) (old new : List ReadEntry) (sinks now later : List OpenSink) (first before mid after : LinkSide) → before ≡ first → now ≡ sinks → OpensReads number before.state.memory.next read chunks old new before mid →
    after ≡ with_registered (sinks_from number mid.state.memory.next read chunks) mid → map sink_view later ≡ map sink_view now ++ open_sinks (sinks_from number mid.state.memory.next read chunks) → BeginsReads number read chunks old new sinks later first after
begins_as number read chunks old new sinks now later first before mid after same same_sinks_now o link sinks_are =
    let h : HasOpened old new first mid = has_opened number before.state.memory.next read chunks old new first before mid same o in
    record {
      reads = o.reads ∙ ap (λ (l : LinkSide). reads_more old number l.state.memory.next read chunks) same;
      sinks_are = sinks_are ∙ (λ i. map sink_view (same_sinks_now i) ++ open_sinks (sinks_from number (h.memory i).next read chunks));
      link = link ∙ (λ i. with_registered (sinks_from number (h.memory i).next read chunks) (h.link i));
    }

-- ---- No read of another call is new

any_left : {X : Type 0} (f : X → Bool) (xs ys : List X) → list_any f ys ≡ false → list_any f (xs ++ ys) ≡ list_any f xs
any_left f [] ys none = none
any_left f (x ∷ xs) ys none = ap (λ (b : Bool). f x || b) (any_left f xs ys none)

other_reads : (regions : List Region) (number other : ℕ) (before read : List ReadSegment) → number ≢ other → list_any (λ (r : PendingRead). eqb r.number other) (reads_from regions number before read) ≡ false
other_reads regions number other before [] ne = refl
other_reads regions number other before (r ∷ read) ne = by (eqb r.length 0) (other_reads regions number other (before ++ r ∷ []) read ne)
  where
    by : (b : Bool) → list_any (λ (q : PendingRead). eqb q.number other) (reads_from regions number (before ++ r ∷ []) read) ≡ false →
        list_any (λ (q : PendingRead). eqb q.number other) (cond b [] (read_of regions number (total_at r.position before) r ∷ []) ++ reads_from regions number (before ++ r ∷ []) read) ≡ false
    by true rest = rest
    by false rest = (λ i. ne_eqb number other ne i || rest i)

not_any : {X : Type 0} (f : X → Bool) (xs : List X) (k : ℕ) (d : X) → k < length xs → list_any f xs ≡ false → f (get_or xs k d) ≡ false
not_any f [] k d lt none = absurd (omega (arith, lt))
not_any f (x ∷ xs) zero d lt none = by (f x) (list_any f xs) none
  where
    by : (a b : Bool) → (a || b) ≡ false → a ≡ false
    by true b e = absurd (let wrong : true ≡ false = e in cc)
    by false b e = refl
not_any f (x ∷ xs) (suc k) d lt none = not_any f xs k d (omega (arith, lt)) (by (f x) (list_any f xs) none)
  where
    by : (a b : Bool) → (a || b) ≡ false → b ≡ false
    by true b e = absurd (let wrong : true ≡ false = e in cc)
    by false b e = e

all_joined : {X : Type 0} (P : X → Type 0) (xs ys : List X) → AllByRecursion P xs → AllByRecursion P ys → AllByRecursion P (xs ++ ys)
all_joined P [] ys first rest = rest
all_joined P (x ∷ xs) ys first rest = (first.0, all_joined P xs ys first.1 rest)

-- no read of these is at position 0 and of the call with this number
abbrev pub Apart : ℕ → PendingRead → Type 0
Apart n r = r.number ≡ n → r.position ≢ 0

others_apart : (regions : List Region) (number n : ℕ) (before read : List ReadSegment) → number ≢ n → AllByRecursion (Apart n) (reads_from regions number before read)
others_apart regions number n before [] ne = tt
others_apart regions number n before (r ∷ read) ne = by (eqb r.length 0) (others_apart regions number n (before ++ r ∷ []) read ne)
  where
    by : (b : Bool) → AllByRecursion (Apart n) (reads_from regions number (before ++ r ∷ []) read) →
        AllByRecursion (Apart n) (cond b [] (read_of regions number (total_at r.position before) r ∷ []) ++ reads_from regions number (before ++ r ∷ []) read)
    by true rest = rest
    by false rest = ((λ same. absurd (ne same)), rest)

placed_apart : (regions : List Region) (number n start : ℕ) (before read : List ReadSegment) → start ≢ 0 → list_all (λ r. eqb r.position start) read ≡ true → AllByRecursion (Apart n) (reads_from regions number before read)
placed_apart regions number n start before [] some each = tt
placed_apart regions number n start before (r ∷ read) some each = by (eqb r.length 0) (placed_apart regions number n start (before ++ r ∷ []) read some (and_rest (eqb r.position start) (list_all (λ q. eqb q.position start) read) each))
  where
    and_rest : (a b : Bool) → (a && b) ≡ true → b ≡ true
    and_rest true b e = e
    and_rest false b e = absurd (let wrong : false ≡ true = e in cc)

    and_first : (a b : Bool) → (a && b) ≡ true → a ≡ true
    and_first true b e = refl
    and_first false b e = absurd (let wrong : false ≡ true = e in cc)

    here : r.position ≡ start
    here = eqb-true r.position start (and_first (eqb r.position start) (list_all (λ q. eqb q.position start) read) each)

    by : (b : Bool) → AllByRecursion (Apart n) (reads_from regions number (before ++ r ∷ []) read) →
        AllByRecursion (Apart n) (cond b [] (read_of regions number (total_at r.position before) r ∷ []) ++ reads_from regions number (before ++ r ∷ []) read)
    by true rest = rest
    by false rest = ((λ same none. some (sym here ∙ none)), rest)

none_of_call : (n : ℕ) (reads : List PendingRead) → is_read reads n ≡ true → AllByRecursion (Apart n) reads
none_of_call n [] fresh = tt
none_of_call n (r ∷ reads) fresh = by (λ e. none_of_call n reads e) (eqb r.number n) refl fresh
  where
    by : (is_read reads n ≡ true → AllByRecursion (Apart n) reads) → (b : Bool) → eqb r.number n ≡ b → not (b || list_any (λ q. eqb q.number n) reads) ≡ true → AllByRecursion (Apart n) (r ∷ reads)
    by rest true e f = absurd (let wrong : false ≡ true = f in cc)
    by rest false e f = ((λ same. absurd (let two : true ≡ false = sym (eq-eqb r.number n same) ∙ e in cc)), rest f)

-- the reads of a call whose payload is completed in the buffer of its sink
pub window_apart : (old new : List ReadEntry) (number next start : ℕ) (read : List ReadSegment) (chunks : List ℕ) → map read_view new ≡ reads_more old number next read chunks → is_read (map read_view old) number ≡ true → start ≢ 0 → list_all (λ r. eqb r.position start) read ≡ true →
    AllByRecursion (Apart number) (map read_view new)
window_apart old new number next start read chunks is fresh some each =
    subst (λ (rs : List PendingRead). AllByRecursion (Apart number) rs) (sym is)
    (all_joined (Apart number) (map read_view old) (reads_from (sinks_from number next read chunks) number [] read) (none_of_call number (map read_view old) fresh) (placed_apart (sinks_from number next read chunks) number number start [] read some each))

-- the rooms of the calls before: there are reads and sinks more, and the bytes outside of the regions before are as they were
rooms_more : (m : RegisteredMemory) (around later : FinMap nat_cmp Outside) (sinks after : List OpenSink) (more : List SinkRegion) (old new : List ReadEntry) (number next : ℕ) (read : List ReadSegment) (chunks : List ℕ) (calls : List Pending) →
    list_any (λ (c : Pending). eqb c.number number) calls ≡ false → map read_view new ≡ reads_more old number next read chunks → map sink_view after ≡ map sink_view sinks ++ more → ((n : ℕ) → number ≢ n → sinks_share n more ≡ 0) → AreHeldFrom m 0 (claims_of sinks) →
    ((stag : ℕ) → stag < m.next → get later stag ≡ get around stag) →
    All (HasRoom around sinks old) calls → All (HasRoom later after new) calls
rooms_more m around later sinks after more old new number next read chunks calls none is sinks_are others held kept h = λ k d lt. one (get_or calls k d) (differ k d lt) (h k d lt)
  where
    differ : (k : ℕ) (d : Pending) → k < length calls → number ≢ (get_or calls k d).number
    differ k d lt e = (let no_match : eqb (get_or calls k d).number number ≡ false = not_any (λ (c : Pending). eqb c.number number) calls k d lt none in let one : true ≡ false = sym (eq-eqb (get_or calls k d).number number (sym e)) ∙ no_match in absurd cc)

    same : (n : ℕ) → number ≢ n → is_read (map read_view old) n ≡ is_read (map read_view new) n
    same n ne =
        ap not (sym (any_left (λ (r : PendingRead). eqb r.number n) (map read_view old) (reads_from (sinks_from number next read chunks) number [] read) (other_reads (sinks_from number next read chunks) number n [] read ne)))
        ∙ ap (λ (rs : List PendingRead). is_read rs n) (sym is)

    window : (c : Pending) → HasWindow around sinks c → HasWindow later after c
    window c w =
        let found : find (is_sink c.number w.item.pos) (map sink_view after) ≡ Some w.sink =
        ap (λ (ss : List SinkRegion). find (is_sink c.number w.item.pos) ss) sinks_are ∙ find-append (is_sink c.number w.item.pos) (map sink_view sinks) more ∙ ap (λ (o : Option SinkRegion). option_or o (find (is_sink c.number w.item.pos) more)) w.found in
        moved_window around later sinks after c w found (kept w.sink.stag (found_held m 0 sinks (is_sink c.number w.item.pos) w.sink w.found held).1)

    one : (c : Pending) → number ≢ c.number → HasRoom around sinks old c → HasRoom later after new c
    one c ne room = record {
      space = λ unread. (let s = room.space (same c.number ne ∙ unread) in record {
        room = λ own. room_beside (map sink_view sinks) more (map sink_view after) (call_view c) c.room sinks_are (others c.number ne) (s.room own);
        window = λ some. window c (s.window some);
      });
      apart = λ some.
          subst (λ (rs : List PendingRead). AllByRecursion (Apart c.number) rs) (sym is)
          (all_joined (Apart c.number) (map read_view old) (reads_from (sinks_from number next read chunks) number [] read) (room.apart some) (others_apart (sinks_from number next read chunks) number c.number [] read ne));
      few = room.few;
    }

-- ---- What is kept

pub started_fetched : (e f : EndpointState) (old new : List ReadEntry) (number next : ℕ) (read : List ReadSegment) (chunks : List ℕ) (calls later : List Pending) (one : Pending) (sinks after : List OpenSink) (more : List SinkRegion) →
    AreHeldFrom f.link.state.memory 0 (claims_of after) → All (λ (s : OpenSink). s.registration.len ≤ PAYLOAD_MAX) after → HasOutside f (around_of calls + one.around) → list_any (λ (c : Pending). eqb c.number number) calls ≡ false → map read_view new ≡ reads_more old number next read chunks →
    map sink_view after ≡ map sink_view sinks ++ more → ((n : ℕ) → number ≢ n → sinks_share n more ≡ 0) → ((stag : ℕ) → stag < e.link.state.memory.next → get f.outside stag ≡ get e.outside stag) → HasRoom f.outside after new one → later ≡ calls ++ one ∷ [] → AreFetched e calls old sinks → AreFetched f later new after
started_fetched e f old new number next read chunks calls later one sinks after more held short outside none is sinks_are others kept room later_is h = record {
  held = held;
  short = short;
  rooms = subst (λ (cs : List Pending). All (HasRoom f.outside after new) cs) (sym later_is)
      (all_pushed_lem (HasRoom f.outside after new) calls one (rooms_more e.link.state.memory e.outside f.outside sinks after more old new number next read chunks calls none is sinks_are others h.held kept h.rooms) room);
  outside = subst (λ (n : ℕ). HasOutside f n) (sym (around_pushed calls later one later_is)) outside;
}

-- a call with a room of its own
pub own_room : (around : FinMap nat_cmp Outside) (sinks after : List OpenSink) (reads : List ReadEntry) (call : Pending) (next stream room : ℕ) (read : List ReadSegment) (chunks : List ℕ) → call.around ≡ 0 → list_any (λ (s : OpenSink). eqb s.number call.number) sinks ≡ false →
    map sink_view after ≡ map sink_view sinks ++ open_sinks (sinks_from call.number next read chunks) → read ≡ (call_view call).lists.read → chunks ≡ chunk_positions (call_view call).lists.read → read_total read ≤ PAYLOAD_MAX →
    stream ≡ length (call_stream (call_view call).inline (λ position. [])) → stream ≤ send_unit * UNITS_MAX → room ≡ stream + read_total read + 3 → HasRoom around after reads (with_room call room)
own_room around sinks after reads call next stream room read chunks none no_sink sinks_are lists are most stream_is short is = record {
  space = λ unread. record {
    room = λ own. new_room call.number next read chunks (map sink_view sinks) (map sink_view after) (call_view call) room refl (none_there call.number sinks no_sink) (are ∙ ap chunk_positions (sym lists)) sinks_are (omega (arith, is, stream_is));
    window = λ some. absurd (some none);
  };
  apart = λ some. absurd (some none);
  few = omega (arith, is, none, most, short);
}

pub kept_fetched : (e f : EndpointState) (old new : List ReadEntry) (calls : List Pending) (sinks later : List OpenSink) → f.link ≡ e.link → f.outside ≡ e.outside → new ≡ old → later ≡ sinks → AreFetched e calls old sinks → AreFetched f calls new later
kept_fetched e f old new calls sinks later link outside reads same h =
    subst (λ (ss : List OpenSink). AreFetched f calls new ss) (sym same)
    (subst (λ (rs : List ReadEntry). AreFetched f calls rs sinks) (sym reads) (fetched_as e f calls old sinks (ap (λ (l : LinkSide). l.state.memory) link) outside h))

pub in_buffer : (c : Pending) (room : ℕ) → InBuffer c → InBuffer (with_room c room)
in_buffer c room h = record { buf = h.buf; len = h.len; at = h.at; lists = h.lists; target = h.target; item = h.item }

pub around_in_buffer : (c : Pending) (around : ℕ) → InBuffer c → InBuffer (with_around c around)
around_in_buffer c around h = record { buf = h.buf; len = h.len; at = h.at; lists = h.lists; target = h.target; item = h.item }

started_link : (number : ℕ) (read : List ReadSegment) (chunks : List ℕ) (old new : List ReadEntry) (sinks later : List OpenSink) (before after : LinkSide) → BeginsReads number read chunks old new sinks later before after →
    (after.state.receive_queue ≡ before.state.receive_queue) × (after.state.send_queue.send_ends ≡ before.state.send_queue.send_ends)
started_link number read chunks old new sinks later before after b = (
  ap (λ (l : LinkSide). l.state.receive_queue) b.link,
  ap (λ (l : LinkSide). l.state.send_queue.send_ends) b.link ∙ requests_ends (opening (min (length old) open_reads_max) (map read_view new)) before.state.send_queue,
)

pub started_input : (number : ℕ) (read : List ReadSegment) (chunks : List ℕ) (old new : List ReadEntry) (sinks later : List OpenSink) (before after : LinkSide) → BeginsReads number read chunks old new sinks later before after → SameInput before after
started_input number read chunks old new sinks later before after b = record {
  queue = ap (λ (l : LinkSide). l.state.receive_queue) b.link;
  place = ap (λ (l : LinkSide). l.state.place) b.link;
  awaited = ap (λ (l : LinkSide). l.awaited) b.link;
  rest = inl (ap (λ (l : LinkSide). l.rest) b.link);
  last = ap (λ (l : LinkSide). l.state.last) b.link;
  client = ap (λ (l : LinkSide). l.state.client) b.link;
}

pub started_sound : (number : ℕ) (read : List ReadSegment) (chunks : List ℕ) (old new : List ReadEntry) (sinks after_sinks : List OpenSink) (before after : LinkSide) (calls later : List Pending) (one : Pending) (ready : List Ready) (used : List (List ℕ)) (a b c a2 : ℕ) →
    BeginsReads number read chunks old new sinks after_sinks before after → InReceive before.state.receive_queue.receive_length one → later ≡ calls ++ one ∷ [] → a2 ≡ a → QueuesInvariant 1 before.state calls ready used a b c → QueuesInvariant 0 after.state later ready used a2 b c
started_sound number read chunks old new sinks after_sinks before after calls later one ready used a b c a2 begins whole later_is cap h =
    let same : (after.state.receive_queue ≡ before.state.receive_queue) × (after.state.send_queue.send_ends ≡ before.state.send_queue.send_ends) = started_link number read chunks old new sinks after_sinks before after begins in
    let count : length later ≡ length calls + 1 = ap (λ (xs : List Pending). length xs) later_is ∙ length-append calls (one ∷ []) in
    let lent : after.state.receive_queue.lent ≡ before.state.receive_queue.lent = ap (λ (q : ReceiveQueue). q.lent) same.0 in
    let receives : after.state.receive_queue.receives ≡ before.state.receive_queue.receives = ap (λ (q : ReceiveQueue). q.receives) same.0 in
    record {
      unsent_is = h.unsent_is ∙ ap (λ (xs : List ℕ). length xs) (sym same.1);
      lent = omega (arith, count, h.lent, lent);
      few = omega (arith, count, h.few);
      bufs = bufs_as _ _ _ (ap (λ (q : ReceiveQueue). q.receive_length) same.0) (subst (λ (xs : List Pending). All (InReceive before.state.receive_queue.receive_length) xs) (sym later_is) (all_pushed_lem (InReceive before.state.receive_queue.receive_length) calls one h.bufs whole));
      used_bufs = used_as _ _ _ (ap (λ (q : ReceiveQueue). q.receive_length) same.0) h.used_bufs;
      calls_fit = omega (arith, h.calls_fit, receives, cap);
      ready_fit = omega (arith, h.ready_fit, receives);
      used_fit = omega (arith, h.used_fit, receives);
      limit = limit_as _ _ (ap (λ (q : ReceiveQueue). q.receive_length) same.0) h.limit;
    }

-- there is room for a call more
pub call_fits : (s : LinkState) (calls : List Pending) (ready : List Ready) (used : List (List ℕ)) (a b c : ℕ) → s.receive_queue.lent ≤ s.receive_queue.receives → QueuesInvariant 1 s calls ready used a b c → length calls < a
call_fits s calls ready used a b c le h = omega (arith, le, h.lent, h.calls_fit)

-- ---- The state

counted : (reads : List ReadEntry) → min (length reads) open_reads_max ≡ length (take open_reads_max (map read_view reads))
counted reads = (let e = length-take open_reads_max (map read_view reads) in let m = length-map reads read_view in omega (arith, e, m))

pub started_is : (r s : ServerEnd) (call one : Pending) (chunks : List ℕ) → call_view one ≡ call_view call → chunks ≡ chunk_positions (call_view call).lists.read → BeginsReads call.number (call_view call).lists.read chunks r.reads.items s.reads.items r.sinks.items s.sinks.items r.endpoint.link s.endpoint.link →
    s.calls.items ≡ r.calls.items ++ one ∷ [] → s.ready.items ≡ r.ready.items → s.credits ≡ r.credits → state_of s ≡ reading_call (state_of r) (call_view call)
started_is r s call one chunks view are b calls ready credits =
    λ i. record {
      link = link i;
      calls = calls_are i;
      ready = xids_of (ready i);
      credits = credits i;
      fetching = record { reads = reads i; sinks = sinks i; payloads = payloads_of (ready i) };
    }
  where
    v : ResponderSide
    v = state_of r

    next : ℕ
    next = r.endpoint.link.state.memory.next

    same : sinks_from call.number next (call_view call).lists.read chunks ≡ sinks_of v.link.state (call_view call)
    same = ap (λ (ps : List ℕ). sinks_from call.number next (call_view call).lists.read ps) are ∙ sym (same_sinks call.number next (call_view call).lists (chunks_of (call_view call).lists))

    reads : map read_view s.reads.items ≡ reads_with v (call_view call)
    reads = b.reads ∙ ap (λ (rs : List Region). map read_view r.reads.items ++ reads_from rs call.number [] (call_view call).lists.read) same

    opened : opening (min (length r.reads.items) open_reads_max) (map read_view s.reads.items) ≡ opened_with v (call_view call)
    opened = λ i. opening (counted r.reads.items i) (reads i)

    link : s.endpoint.link ≡ (reading_call v (call_view call)).link
    link = b.link ∙ (λ i. with_registered (same i) (with_opened (opened i) r.endpoint.link))

    sinks : map sink_view s.sinks.items ≡ map sink_view r.sinks.items ++ open_sinks (sinks_of v.link.state (call_view call))
    sinks = b.sinks_are ∙ ap (λ (rs : List Region). map sink_view r.sinks.items ++ open_sinks rs) same

    views : (cs : List Pending) → map call_view (cs ++ one ∷ []) ≡ map call_view cs ++ call_view call ∷ []
    views [] = ap (λ (v : PendingCall). v ∷ []) view
    views (c ∷ cs) = ap (λ (vs : List PendingCall). call_view c ∷ vs) (views cs)

    calls_are : map call_view s.calls.items ≡ map call_view r.calls.items ++ call_view call ∷ []
    calls_are = ap (λ (cs : List Pending). map call_view cs) calls ∙ views r.calls.items

-- nothing changed, and memory ran out
pub stopped_is : (r s : ServerEnd) (after : ResponderSide) → s.endpoint.link ≡ r.endpoint.link → s.reads.items ≡ r.reads.items → s.sinks.items ≡ r.sinks.items → s.calls.items ≡ r.calls.items → s.ready.items ≡ r.ready.items → s.credits ≡ r.credits → after ≡ out (state_of s) → after ≡ out (state_of r)
stopped_is r s after link reads sinks calls ready credits is =
    is ∙ (λ i. out (record {
      link = link i;
      calls = map call_view (calls i);
      ready = xids_of (ready i);
      credits = credits i;
      fetching = record { reads = map read_view (reads i); sinks = map sink_view (sinks i); payloads = payloads_of (ready i) };
    }))
