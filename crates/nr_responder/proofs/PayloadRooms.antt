-- The room of a payload has the bytes that its call needs: those of the sinks of the call are at most those of its read list.
use Rattle.std.proofs.Common.{◌≡◌, ◌≢◌, ℕ, ◌+◌, ◌≤◌, Bool, true, false, not, cond, eqb, ◌||◌, ◌&&◌, List, [], ◌∷◌, ◌++◌, length, map, Option, Some, None, refl, sym, ap, subst, ◌∙◌, arith}
use Rattle.std.specs.Prelude.{find}
use Rattle.std.specs.List.{list_any}
use Rattle.std.proofs.lemmas.Bool.{eqb-true, eq-eqb, ne_eqb}
use Rattle.nr_regions.specs.RegisteredMemory.{Region, RegisteredMemory, bytes_in, AreHeldFrom}
use Rattle.nr_header.specs.declared.header.ReadSegment.{ReadSegment}
use Rattle.nr_header.specs.WithinLimits.{read_total}
use Rattle.nr_reduce.specs.Chunks.{call_stream, item_position, position_of}
use Rattle.nr_reduce.specs.ServerState.{PendingCall, PendingRead}
use Rattle.nr_responder.specs.Fetching.{SinkRegion, is_sink, open_sinks}
use Rattle.nr_responder.specs.HeldBytes.{sinks_share, sinks_total}
use Rattle.nr_responder.specs.declared.call.OpenSink.{OpenSink}
use Rattle.nr_responder.specs.private.CallsRead.{chunk_positions, lists_of, sinks_from}
use Rattle.nr_responder.specs.private.Reading.{bytes_of_sink, is_sink_over, left_sinks, sink_bytes}
use Rattle.nr_responder.specs.Sound.{IsRoom, claims_of, room_for}
use Rattle.nr_responder.specs.Views.{sink_view}
use Rattle.nr_responder.proofs.ChunkTotals.{own_share, sinks_within}
use Rattle.nr_responder.proofs.Shares.{share_append, share_filtered}

-- ---- What a call's sinks bring

abbrev len_of : Option SinkRegion → ℕ
len_of None = 0
len_of (Some s) = s.len

abbrev len_at : (number position : ℕ) → List SinkRegion → ℕ
len_at number position sinks = len_of (find (is_sink number position) sinks)

one_within : (n p : ℕ) (sinks : List SinkRegion) → len_at n p sinks ≤ sinks_share n sinks
one_within n p [] = omega arith
one_within n p (s ∷ sinks) = by (eqb s.number n) (eqb s.position p) (one_within n p sinks)
  where
    by : (b c : Bool) → len_at n p sinks ≤ sinks_share n sinks → len_of (cond (b && c) (Some s) (find (is_sink n p) sinks)) ≤ cond b s.len 0 + sinks_share n sinks
    by true true rest = omega arith
    by true false rest = omega (arith, rest)
    by false c rest = omega (arith, rest)

two_within : (n p q : ℕ) (sinks : List SinkRegion) → p ≢ q → len_at n p sinks + len_at n q sinks ≤ sinks_share n sinks
two_within n p q [] ne = omega arith
two_within n p q (s ∷ sinks) ne = by (eqb s.number n) (eqb s.position p) refl (eqb s.position q) refl (one_within n p sinks) (one_within n q sinks) (two_within n p q sinks ne)
  where
    by : (b c : Bool) → eqb s.position p ≡ c → (d : Bool) → eqb s.position q ≡ d → len_at n p sinks ≤ sinks_share n sinks → len_at n q sinks ≤ sinks_share n sinks → len_at n p sinks + len_at n q sinks ≤ sinks_share n sinks →
        len_of (cond (b && c) (Some s) (find (is_sink n p) sinks)) + len_of (cond (b && d) (Some s) (find (is_sink n q) sinks)) ≤ cond b s.len 0 + sinks_share n sinks
    by true true e true f first second both = absurd (ne (sym (eqb-true s.position p e) ∙ eqb-true s.position q f))
    by true true e false f first second both = omega (arith, second)
    by true false e true f first second both = omega (arith, first)
    by true false e false f first second both = omega (arith, both)
    by false c e d f first second both = omega (arith, both)

-- a sink has as many bytes as its region
sink_len : (m : RegisteredMemory) (low n p : ℕ) (sinks : List OpenSink) → AreHeldFrom m low (claims_of sinks) → length (sink_bytes m (map sink_view sinks) n p) ≡ len_at n p (map sink_view sinks)
sink_len m low n p [] h = omega arith
sink_len m low n p (s ∷ sinks) h = by (eqb s.number n && eqb s.position p) (sink_len m (s.registration.stag + 1) n p sinks h.1.1)
  where
    by : (b : Bool) → length (sink_bytes m (map sink_view sinks) n p) ≡ len_at n p (map sink_view sinks) →
        length (bytes_of_sink m (cond b (Some (sink_view s)) (find (is_sink n p) (map sink_view sinks)))) ≡ len_of (cond b (Some (sink_view s)) (find (is_sink n p) (map sink_view sinks)))
    by true rest = ap (λ (r : Option Region). length (bytes_in r)) h.1.0.there ∙ h.1.0.len
    by false rest = rest

pub both_within : (inline : Option (List ℕ)) (m : RegisteredMemory) (n p : ℕ) (sinks : List OpenSink) → AreHeldFrom m 0 (claims_of sinks) → p ≢ 0 →
    length (call_stream inline (sink_bytes m (map sink_view sinks) n)) + length (sink_bytes m (map sink_view sinks) n p) ≤ length (call_stream inline (λ position. [])) + sinks_share n (map sink_view sinks)
both_within (Some stream) m n p sinks held ne = (let len = sink_len m 0 n p sinks held in let within = one_within n p (map sink_view sinks) in omega (arith, len, within))
both_within None m n p sinks held ne =
    let first = sink_len m 0 n 0 sinks held in
    let second = sink_len m 0 n p sinks held in
    let within = two_within n 0 p (map sink_view sinks) (λ e. ne (sym e)) in
    omega (arith, first, second, within)

pub stream_within : (inline : Option (List ℕ)) (m : RegisteredMemory) (n : ℕ) (sinks : List OpenSink) → AreHeldFrom m 0 (claims_of sinks) →
    length (call_stream inline (sink_bytes m (map sink_view sinks) n)) ≤ length (call_stream inline (λ position. [])) + sinks_share n (map sink_view sinks)
stream_within (Some stream) m n sinks held = omega arith
stream_within None m n sinks held = (let len = sink_len m 0 n 0 sinks held in let within = one_within n 0 (map sink_view sinks) in omega (arith, len, within))

-- the position of an item isn't 0
pub item_somewhere : (read : List ReadSegment) (p : ℕ) → item_position read ≡ Some p → p ≢ 0
unfolding item_position
item_somewhere read p is = by read is
  where
    by : (read : List ReadSegment) → position_of (find (λ r. not (eqb r.position 0)) read) ≡ Some p → p ≢ 0
    by [] e = absurd cc
    by (r ∷ read) e = here (by read) (eqb r.position 0) refl e
      where
        here : (position_of (find (λ r. not (eqb r.position 0)) read) ≡ Some p → p ≢ 0) → (b : Bool) → eqb r.position 0 ≡ b → position_of (cond (not b) (Some r) (find (λ r. not (eqb r.position 0)) read)) ≡ Some p → p ≢ 0
        here rest true f e = rest e
        here rest false f e = λ none. absurd (let same : r.position ≡ p = cc in let two : true ≡ false = sym (eq-eqb r.position 0 (same ∙ none)) ∙ f in cc)

-- ---- The room stays

pub room_taken : (sinks : List SinkRegion) (c : PendingCall) (o : Option ℕ) (room : ℕ) → o ≡ Some room → IsRoom sinks c o → room_for c (sinks_share c.number sinks) ≤ room
room_taken sinks c o room is h = subst (λ (x : Option ℕ). IsRoom sinks c x) is h

pub no_room : (sinks : List SinkRegion) (c : PendingCall) (o : Option ℕ) → o ≡ None → IsRoom sinks c o → ⊥
no_room sinks c o is h = subst (λ (x : Option ℕ). IsRoom sinks c x) is h

-- for fewer bytes
room_less : (sinks left : List SinkRegion) (c : PendingCall) (o : Option ℕ) → sinks_share c.number left ≤ sinks_share c.number sinks → IsRoom sinks c o → IsRoom left c o
room_less sinks left c None le h = h
room_less sinks left c (Some room) le h = omega (arith, le, h)

-- sinks that are over are closed
pub room_left : (calls : List PendingCall) (reads : List PendingRead) (sinks left : List SinkRegion) (c : PendingCall) (o : Option ℕ) → left ≡ left_sinks calls reads sinks → IsRoom sinks c o → IsRoom left c o
room_left calls reads sinks left c o is h =
    let fewer = share_filtered (λ (s : SinkRegion). s.number) (λ (s : SinkRegion). s.len) c.number (λ s. not (is_sink_over calls reads s)) sinks in
    let same = ap (λ (ss : List SinkRegion). sinks_share c.number ss) is in
    room_less sinks left c o (omega (arith, fewer, same)) h

-- sinks of another call are opened
pub room_beside : (sinks more after : List SinkRegion) (c : PendingCall) (o : Option ℕ) → after ≡ sinks ++ more → sinks_share c.number more ≡ 0 → IsRoom sinks c o → IsRoom after c o
room_beside sinks more after c o is none h =
    let sum = share_append (λ (s : SinkRegion). s.number) (λ (s : SinkRegion). s.len) c.number sinks more in
    let same = ap (λ (ss : List SinkRegion). sinks_share c.number ss) is in
    room_less sinks after c o (omega (arith, sum, same, none)) h

-- ---- The sinks of a new call

pub none_there : (n : ℕ) (sinks : List OpenSink) → list_any (λ s. eqb s.number n) sinks ≡ false → sinks_share n (map sink_view sinks) ≡ 0
none_there n [] none = omega arith
none_there n (s ∷ sinks) none = by (eqb s.number n) (none_there n sinks) none
  where
    by : (b : Bool) → (list_any (λ s. eqb s.number n) sinks ≡ false → sinks_share n (map sink_view sinks) ≡ 0) → (b || list_any (λ s. eqb s.number n) sinks) ≡ false → cond b s.registration.len 0 + sinks_share n (map sink_view sinks) ≡ 0
    by true rest e = absurd (let wrong : true ≡ false = e in cc)
    by false rest e = (let none = rest e in omega (arith, none))

pub others_none : (number next n : ℕ) (read : List ReadSegment) (chunks : List ℕ) → number ≢ n → sinks_share n (open_sinks (sinks_from number next read chunks)) ≡ 0
others_none number next n read chunks ne =
    let own = own_share number 0 next n (lists_of read) chunks in
    let none = ap (λ (b : Bool). cond b (sinks_total (open_sinks (sinks_from number next read chunks))) 0) (ne_eqb number n ne) in
    omega (arith, own, none)

new_share : (number next : ℕ) (read : List ReadSegment) → sinks_share number (open_sinks (sinks_from number next read (chunk_positions read))) ≤ read_total read
new_share number next read =
    let own = own_share number 0 next number (lists_of read) (chunk_positions read) in
    let most = sinks_within number 0 next (lists_of read) in
    let is = ap (λ (b : Bool). cond b (sinks_total (open_sinks (sinks_from number next read (chunk_positions read)))) 0) (eq-eqb number number refl) in
    omega (arith, own, most, is)

-- the room of a call whose sinks are opened
pub new_room : (number next : ℕ) (read : List ReadSegment) (chunks : List ℕ) (sinks after : List SinkRegion) (c : PendingCall) (room : ℕ) → c.number ≡ number → sinks_share number sinks ≡ 0 → chunks ≡ chunk_positions read → after ≡ sinks ++ open_sinks (sinks_from number next read chunks) →
    room ≡ room_for c (read_total read) → IsRoom after c (Some room)
new_room number next read chunks sinks after c room own none are is len =
    let more = subst (λ (ps : List ℕ). sinks_share number (open_sinks (sinks_from number next read ps)) ≤ read_total read) (sym are) (new_share number next read) in
    let sum = share_append (λ (s : SinkRegion). s.number) (λ (s : SinkRegion). s.len) number sinks (open_sinks (sinks_from number next read chunks)) in
    let same : sinks_share c.number after ≡ sinks_share number (sinks ++ open_sinks (sinks_from number next read chunks)) = (λ i. sinks_share (own i) (is i)) in
    omega (arith, more, sum, same, none, len)
