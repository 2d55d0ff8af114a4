-- The calls whose payloads are completed in the buffers of their sinks keep them, and no other bytes are outside of regions.
use Rattle.std.proofs.Common.{◌≡◌, ◌≢◌, ℕ, zero, suc, ◌+◌, ◌-◌, ◌*◌, ◌⊎◌, ◌<◌, ◌≤◌, Bool, true, false, not, cond, eqb, ◌||◌, ◌&&◌, List, [], ◌∷◌, ◌++◌, length, get_or, set, map, Some, None, is_some, All, refl, sym, ap, subst, ◌∙◌, arith, inl, inr}
use Rattle.std.specs.Prelude.{find, sum_by}
use Rattle.std.specs.List.{AllByRecursion, list_any, remove}
use Rattle.std.specs.FinMap.{FinMap, get}
use Rattle.std.specs.FinMap.{remove as remove_key}
use Rattle.std.specs.Ordering.{nat_cmp}
use Rattle.std.proofs.lemmas.Bool.{cases_eq, eqb-true, eq-eqb}
use Rattle.std.proofs.lemmas.List.Sums.{sum_by-append, sum_by-cons}
use Rattle.nr_regions.proofs.Holding.{get_remove_other, release_here, release_other}
use Rattle.nr_regions.proofs.Totals.{sound_release}
use Rattle.nr_regions.specs.RegisteredMemory.{RegisteredMemory, Outside, after_release, held_region, outside_len, AreHeldFrom}
use Rattle.nr_regions.specs.Table.{IsTotal}
use Rattle.nr_endpoint.specs.EndpointState.{EndpointState}
use Rattle.nr_reduce.specs.ServerState.{PendingCall, PendingRead}
use Rattle.nr_reduce.specs.ServerReads.{is_read}
use Rattle.nr_responder.specs.Fetching.{SinkRegion, is_sink}
use Rattle.nr_responder.specs.declared.call.Pending.{Pending}
use Rattle.nr_responder.specs.declared.call.ReadEntry.{ReadEntry}
use Rattle.nr_responder.specs.declared.call.OpenSink.{OpenSink}
use Rattle.nr_responder.specs.private.Reading.{is_sink_over, left_sinks}
use Rattle.nr_responder.specs.Rooms.{payload_room}
use Rattle.nr_responder.specs.Sound.{HasOutside, HasRoom, HasSpace, HasWindow, KeepsOutside, around_of, claims_of, room_len}
use Rattle.nr_responder.specs.Views.{call_view, read_view, sink_view}
use Rattle.nr_responder.proofs.PayloadRooms.{room_left}

-- ---- The sum of the bytes outside

pub more_outside : (e : EndpointState) (m n : ℕ) → m ≤ n → HasOutside e m → HasOutside e n
more_outside e m n le h = record { total = h.total; sum = h.sum; most = (let most = h.most in omega (arith, most, le)) }

pub same_outside : (e f : EndpointState) (n : ℕ) → f.link.state.memory.next ≡ e.link.state.memory.next → f.outside ≡ e.outside → HasOutside e n → HasOutside f n
same_outside e f n next is h = record {
  total = h.total;
  sum = subst (λ (k : ℕ). IsTotal outside_len k h.total f.outside) (sym next) (subst (λ (m : FinMap nat_cmp Outside). IsTotal outside_len e.link.state.memory.next h.total m) (sym is) h.sum);
  most = h.most;
}

pub less_outside : (e f : EndpointState) (stag n : ℕ) (o : Outside) → f.link.state.memory.next ≡ e.link.state.memory.next → f.outside ≡ remove_key e.outside stag → get e.outside stag ≡ Some o → HasOutside e (outside_len o + n) → HasOutside f n
less_outside e f stag n o next is there h = record {
  total = h.total - outside_len o;
  sum = subst (λ (k : ℕ). IsTotal outside_len k (h.total - outside_len o) f.outside) (sym next)
      (subst (λ (m : FinMap nat_cmp Outside). IsTotal outside_len e.link.state.memory.next (h.total - outside_len o) m) (sym is) (sound_release outside_len e.link.state.memory.next h.total e.outside stag o h.sum there));
  most = (let most = h.most in omega (arith, most));
}

-- ---- The bytes outside of a region that is still held

pub keeps_on : (e f g : EndpointState) → KeepsOutside e f → KeepsOutside f g → KeepsOutside e g
keeps_on e f g first later = λ stag held.
    let l = later stag held in
    let k = first stag l.0 in
    (k.0, l.1 ∙ k.1)

pub keeps_as : (e f : EndpointState) → f.link.state.memory ≡ e.link.state.memory → f.outside ≡ e.outside → KeepsOutside e f
keeps_as e f memory outside = λ stag held.
    (ap (λ (m : RegisteredMemory). is_some (held_region m stag)) (sym memory) ∙ held, ap (λ (m : FinMap nat_cmp Outside). get m stag) outside)

pub released_keeps : (e f : EndpointState) (stag : ℕ) → f.link.state.memory ≡ after_release e.link.state.memory stag → f.outside ≡ remove_key e.outside stag → KeepsOutside e f
released_keeps e f stag memory outside = λ q held. by q held (cases_eq q stag)
  where
    by : (q : ℕ) → is_some (held_region f.link.state.memory q) ≡ true → (q ≡ stag) ⊎ (q ≢ stag) → (is_some (held_region e.link.state.memory q) ≡ true) × (get f.outside q ≡ get e.outside q)
    by q held (inl same) =
        absurd (let wrong : true ≡ false = sym held ∙ ap (λ (m : RegisteredMemory). is_some (held_region m q)) memory ∙ ap (λ (k : ℕ). is_some (held_region (after_release e.link.state.memory stag) k)) same ∙ ap is_some (release_here e.link.state.memory stag) in cc)
    by q held (inr ne) = (
      ap is_some (sym (release_other e.link.state.memory stag q ne)) ∙ ap (λ (m : RegisteredMemory). is_some (held_region m q)) (sym memory) ∙ held,
      ap (λ (m : FinMap nat_cmp Outside). get m q) outside ∙ get_remove_other e.outside stag q ne,
    )

-- a sink that is found is held
pub found_held : (m : RegisteredMemory) (low : ℕ) (sinks : List OpenSink) (p : SinkRegion → Bool) (s : SinkRegion) → find p (map sink_view sinks) ≡ Some s → AreHeldFrom m low (claims_of sinks) → (is_some (held_region m s.stag) ≡ true) × (s.stag < m.next)
found_held m low [] p s is h = absurd (let wrong : None ≡ Some s = is in cc)
found_held m low (x ∷ sinks) p s is h = by (λ (e : find p (map sink_view sinks) ≡ Some s). found_held m (x.registration.stag + 1) sinks p s e h.1.1) (p (sink_view x)) is
  where
    by : (find p (map sink_view sinks) ≡ Some s → (is_some (held_region m s.stag) ≡ true) × (s.stag < m.next)) → (b : Bool) → cond b (Some (sink_view x)) (find p (map sink_view sinks)) ≡ Some s → (is_some (held_region m s.stag) ≡ true) × (s.stag < m.next)
    by rest true e =
        let same : sink_view x ≡ s = cc in
        subst (λ (r : SinkRegion). (is_some (held_region m r.stag) ≡ true) × (r.stag < m.next)) same (ap is_some h.1.0.there, h.1.0.given)
    by rest false e = rest e

-- ---- Sinks that are over are released

and_first : (a b : Bool) → (a && b) ≡ true → a ≡ true
and_first true b e = refl
and_first false b e = absurd (let wrong : false ≡ true = e in cc)

-- the sink of a call that isn't read is found as before
find_left : (calls : List PendingCall) (reads : List PendingRead) (number position : ℕ) (sinks : List SinkRegion) (s : SinkRegion) → list_any (λ c. eqb c.number number) calls ≡ true → is_read reads number ≡ false → find (is_sink number position) sinks ≡ Some s →
    find (is_sink number position) (left_sinks calls reads sinks) ≡ Some s
find_left calls reads number position [] s there unread is = absurd (let wrong : None ≡ Some s = is in cc)
find_left calls reads number position (x ∷ sinks) s there unread is = by (λ (e : find (is_sink number position) sinks ≡ Some s). find_left calls reads number position sinks s there unread e) (is_sink number position x) refl is (is_sink_over calls reads x) refl
  where
    by : (find (is_sink number position) sinks ≡ Some s → find (is_sink number position) (left_sinks calls reads sinks) ≡ Some s) → (b : Bool) → is_sink number position x ≡ b → cond b (Some x) (find (is_sink number position) sinks) ≡ Some s → (over : Bool) → is_sink_over calls reads x ≡ over →
        find (is_sink number position) (cond (not over) (x ∷ left_sinks calls reads sinks) (left_sinks calls reads sinks)) ≡ Some s
    by rest true e first over o =
        let same : x.number ≡ number = eqb-true x.number number (and_first (eqb x.number number) (eqb x.position position) e) in
        let stays : is_sink_over calls reads x ≡ false =
        ap (λ (n : ℕ). cond (list_any (λ c. eqb c.number n) calls) (is_read reads n) (not (list_any (λ r. eqb r.number n && eqb r.position x.position) reads))) same
        ∙ ap (λ (b : Bool). cond b (is_read reads number) (not (list_any (λ r. eqb r.number number && eqb r.position x.position) reads))) there ∙ unread in
        ap (λ (b : Bool). find (is_sink number position) (cond (not b) (x ∷ left_sinks calls reads sinks) (left_sinks calls reads sinks))) (sym o ∙ stays)
        ∙ ap (λ (b : Bool). cond b (Some x) (find (is_sink number position) (left_sinks calls reads sinks))) e ∙ first
    by rest false e later true o = rest later
    by rest false e later false o =
        ap (λ (b : Bool). cond b (Some x) (find (is_sink number position) (left_sinks calls reads sinks))) e ∙ rest later

pub any_at : (calls : List Pending) (k : ℕ) (d : Pending) → k < length calls → list_any (λ c. eqb c.number (get_or calls k d).number) (map call_view calls) ≡ true
any_at [] k d lt = absurd (omega (arith, lt))
any_at (c ∷ calls) zero d lt = ap (λ (b : Bool). b || list_any (λ x. eqb x.number c.number) (map call_view calls)) (eq-eqb c.number c.number refl)
any_at (c ∷ calls) (suc k) d lt = by (eqb c.number (get_or calls k d).number) (any_at calls k d (omega (arith, lt)))
  where
    by : (b : Bool) → list_any (λ x. eqb x.number (get_or calls k d).number) (map call_view calls) ≡ true → (b || list_any (λ x. eqb x.number (get_or calls k d).number) (map call_view calls)) ≡ true
    by true rest = refl
    by false rest = rest

-- what a call has stays, if its sink is found with the same bytes outside
pub moved_window : (around later : FinMap nat_cmp Outside) (sinks left : List OpenSink) (c : Pending) (w : HasWindow around sinks c) → find (is_sink c.number w.item.pos) (map sink_view left) ≡ Some w.sink → get later w.sink.stag ≡ get around w.sink.stag → HasWindow later left c
moved_window around later sinks left c w found kept = record {
  inline = w.inline;
  item = w.item;
  item_is = w.item_is;
  position = w.position;
  within = w.within;
  sink = w.sink;
  found = found;
  outside = w.outside;
  there = kept ∙ w.there;
  front = w.front;
  size = w.size;
  around_is = w.around_is;
}

pub rooms_closed : (e g : EndpointState) (calls : List Pending) (reads : List ReadEntry) (sinks left : List OpenSink) → KeepsOutside e g → map sink_view left ≡ left_sinks (map call_view calls) (map read_view reads) (map sink_view sinks) → AreHeldFrom g.link.state.memory 0 (claims_of left) →
    All (HasRoom e.outside sinks reads) calls → All (HasRoom g.outside left reads) calls
rooms_closed e g calls reads sinks left keeps is held h = λ k d lt. one (get_or calls k d) (any_at calls k d lt) (h k d lt)
  where
    window : (c : Pending) → list_any (λ x. eqb x.number c.number) (map call_view calls) ≡ true → is_read (map read_view reads) c.number ≡ false → HasWindow e.outside sinks c → HasWindow g.outside left c
    window c there unread w =
        let found : find (is_sink c.number w.item.pos) (map sink_view left) ≡ Some w.sink =
        ap (λ (ss : List SinkRegion). find (is_sink c.number w.item.pos) ss) is ∙ find_left (map call_view calls) (map read_view reads) c.number w.item.pos (map sink_view sinks) w.sink there unread w.found in
        moved_window e.outside g.outside sinks left c w found (keeps w.sink.stag (found_held g.link.state.memory 0 left (is_sink c.number w.item.pos) w.sink found held).0).1

    one : (c : Pending) → list_any (λ x. eqb x.number c.number) (map call_view calls) ≡ true → HasRoom e.outside sinks reads c → HasRoom g.outside left reads c
    one c there room = record {
      space = λ unread. (let s = room.space unread in record {
        room = λ none. room_left (map call_view calls) (map read_view reads) (map sink_view sinks) (map sink_view left) (call_view c) c.room is (s.room none);
        window = λ some. window c there unread (s.window some);
      });
      apart = room.apart;
      few = room.few;
    }

-- ---- Calls

pub around_pushed : (calls later : List Pending) (c : Pending) → later ≡ calls ++ c ∷ [] → around_of later ≡ around_of calls + c.around
around_pushed calls later c is =
    ap (λ (cs : List Pending). around_of cs) is ∙ sum_by-append (λ (x : Pending). x.around) calls (c ∷ []) ∙ ap (λ (n : ℕ). around_of calls + n) (sum_by-cons (λ (x : Pending). x.around) c [] ∙ omega arith)

pub around_removed : (calls : List Pending) (at : ℕ) (d : Pending) → at < length calls → (get_or calls at d).around ≡ 0 → around_of (remove calls at) ≡ around_of calls
around_removed [] at d lt none = absurd (omega (arith, lt))
around_removed (c ∷ calls) zero d lt none = (let sum = sum_by-cons (λ (x : Pending). x.around) c calls in omega (arith, sum, none))
around_removed (c ∷ calls) (suc at) d lt none =
    let rest = around_removed calls at d (omega (arith, lt)) none in
    let one = sum_by-cons (λ (x : Pending). x.around) c (remove calls at) in
    let two = sum_by-cons (λ (x : Pending). x.around) c calls in
    omega (arith, rest, one, two)

pub around_set : (calls : List Pending) (at : ℕ) (c d : Pending) → at < length calls → around_of (set calls at c) + (get_or calls at d).around ≡ around_of calls + c.around
around_set [] at c d lt = absurd (omega (arith, lt))
around_set (x ∷ calls) zero c d lt = (let one = sum_by-cons (λ (y : Pending). y.around) c calls in let two = sum_by-cons (λ (y : Pending). y.around) x calls in omega (arith, one, two))
around_set (x ∷ calls) (suc at) c d lt =
    let rest = around_set calls at c d (omega (arith, lt)) in
    let one = sum_by-cons (λ (y : Pending). y.around) x (set calls at c) in
    let two = sum_by-cons (λ (y : Pending). y.around) x calls in
    omega (arith, rest, one, two)

-- the rooms of calls, and the bytes outside of their regions
pub rooms_few : (around : FinMap nat_cmp Outside) (sinks : List OpenSink) (reads : List ReadEntry) (calls : List Pending) → All (HasRoom around sinks reads) calls → sum_by (λ c. room_len c.room) calls + around_of calls ≤ payload_room * length calls
rooms_few around sinks reads [] h = omega arith
rooms_few around sinks reads (c ∷ calls) h =
    let first = (h 0 c (omega arith)).few in
    let rest = rooms_few around sinks reads calls (λ k d lt. h (suc k) d (omega (arith, lt))) in
    let one = sum_by-cons (λ (x : Pending). room_len x.room) c calls in
    let two = sum_by-cons (λ (x : Pending). x.around) c calls in
    omega (arith, first, rest, one, two)

-- ---- Reads

-- one read fewer
pub rest_rooms : (around : FinMap nat_cmp Outside) (sinks : List OpenSink) (reads later : List ReadEntry) (first : ReadEntry) (calls : List Pending) → map read_view reads ≡ read_view first ∷ map read_view later → All (HasRoom around sinks reads) calls → All (HasRoom around sinks later) calls
rest_rooms around sinks reads later first calls is h = λ k d lt. one (get_or calls k d) (h k d lt)
  where
    left : (n : ℕ) → is_read (map read_view later) n ≡ false → is_read (map read_view reads) n ≡ false
    left n unread = ap (λ (rs : List PendingRead). is_read rs n) is ∙ by (eqb first.number n) (list_any (λ r. eqb r.number n) (map read_view later)) unread
      where
        by : (a b : Bool) → not b ≡ false → not (a || b) ≡ false
        by true b e = refl
        by false b e = e

    one : (c : Pending) → HasRoom around sinks reads c → HasRoom around sinks later c
    one c room = record {
      space = λ unread. room.space (left c.number unread);
      apart = λ some. (subst (λ (rs : List PendingRead). AllByRecursion (λ r. r.number ≡ c.number → r.position ≢ 0) rs) is (room.apart some)).1;
      few = room.few;
    }

-- the first read, which is of this call
pub first_of : (around : FinMap nat_cmp Outside) (sinks : List OpenSink) (reads later : List ReadEntry) (first : ReadEntry) (c : Pending) → map read_view reads ≡ read_view first ∷ map read_view later → c.number ≡ first.number → HasRoom around sinks reads c →
    HasSpace around sinks c × (c.around ≢ 0 → first.position ≢ 0)
first_of around sinks reads later first c is own room = (
  room.space (ap (λ (rs : List PendingRead). is_read rs c.number) is ∙ ap (λ (b : Bool). not (b || list_any (λ r. eqb r.number c.number) (map read_view later))) (eq-eqb first.number c.number (sym own))),
  (λ some. (subst (λ (rs : List PendingRead). AllByRecursion (λ r. r.number ≡ c.number → r.position ≢ 0) rs) is (room.apart some)).0 (sym own)),
)
