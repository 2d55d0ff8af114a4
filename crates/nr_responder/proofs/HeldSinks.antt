-- The sinks that are open stay held, and each call that is read keeps the room of its payload.
use Rattle.std.proofs.Common.{◌≡◌, ◌≢◌, ℕ, zero, suc, ◌+◌, ◌<◌, ◌≤◌, true, false, List, [], ◌∷◌, ◌++◌, length, get_or, map, Option, Some, None, All, refl, sym, ap, subst, ◌∙◌, arith, inl, inr}
use Rattle.std.specs.List.{remove}
use Rattle.std.specs.FinMap.{FinMap, empty, get, same_map, nat_cmp-IsAntisymmetric}
use Rattle.std.specs.FinMap.{remove as remove_key}
use Rattle.std.specs.Cmp.{nat_cmp_total}
use Rattle.std.proofs.lemmas.Bool.{cases_eq}
use Rattle.nr_regions.proofs.Holding.{get_remove_here, get_remove_other, release_other}
use Rattle.nr_responder.specs.Fetching.{SinkRegion}
use Rattle.nr_responder.specs.private.Reading.{with_released}
use Rattle.std.specs.Ordering.{nat_cmp}
use Rattle.std.proofs.lemmas.List.Elements.{All-nil}
use Rattle.nr_regions.specs.RegisteredMemory.{RegisteredMemory, Outside, Claim, IsHeld, after_release, outside_len, outside_held, initial_memory, AreHeldFrom}
use Rattle.nr_regions.specs.Table.{IsTotal}
use Rattle.nr_regions.proofs.Totals.{sound_initial}
use Rattle.nr_wire.specs.declared.hello.Side.TheVariants.{Responder}
use Rattle.nr_link.specs.declared.end.End.{End}
use Rattle.nr_link.specs.declared.end.End.TheVariants as ends
use Rattle.nr_endpoint.specs.EndpointState.{EndpointState}
use Rattle.nr_endpoint.specs.LinkState.{LinkSide, initial_link}
use Rattle.nr_endpoint.specs.Calls.{Call, after_call, after_calls}
use Rattle.nr_endpoint.specs.Calls.Call.{FeedOne, OutOfMemory, Release}
use Rattle.nr_endpoint.proofs.ClaimLaws.{claims_stay_lem}
use Rattle.nr_wire.specs.Stream.{IsPartial}
use Rattle.nr_reduce.specs.ServerReads.{is_read}
use Rattle.nr_responder.specs.declared.call.Pending.{Pending}
use Rattle.nr_responder.specs.declared.call.ReadEntry.{ReadEntry}
use Rattle.nr_responder.specs.declared.call.OpenSink.{OpenSink}
use Rattle.nr_responder.specs.Sound.{AreFetched, HasOutside, HasRoom, around_of, claims_of}
use Rattle.nr_responder.specs.Rooms.{payload_room}
use Rattle.nr_responder.specs.Sound.{room_len}
use Rattle.nr_responder.specs.Views.{read_view}
use Rattle.nr_responder.proofs.Fed.{step_of}
use Rattle.nr_responder.proofs.Handled.{step_counts}
use Rattle.nr_responder.proofs.Posted.{memory_as}
use Rattle.nr_responder.proofs.Removed.{all_removed, all_pushed_lem}
use Rattle.nr_responder.proofs.Windows.{around_pushed, around_removed, less_outside, more_outside, same_outside}
use Rattle.nr_link.specs.declared.agreement.SideTerms.{SideTerms}

-- ---- The memory stays

pub fetched_as : (e f : EndpointState) (calls : List Pending) (reads : List ReadEntry) (sinks : List OpenSink) → f.link.state.memory ≡ e.link.state.memory → f.outside ≡ e.outside → AreFetched e calls reads sinks → AreFetched f calls reads sinks
fetched_as e f calls reads sinks memory outside h = record {
  held = subst (λ (m : RegisteredMemory). AreHeldFrom m 0 (claims_of sinks)) (sym memory) h.held;
  short = h.short;
  rooms = subst (λ (m : FinMap nat_cmp Outside). All (HasRoom m sinks reads) calls) (sym outside) h.rooms;
  outside = same_outside e f (around_of calls) (ap (λ (m : RegisteredMemory). m.next) memory) outside h.outside;
}

-- ---- A step on a piece

pub held_still : (m n : RegisteredMemory) (low : ℕ) (cs : List Claim) → ((c : Claim) → IsHeld m c → IsHeld n c) → n.next ≡ m.next → AreHeldFrom m low cs → AreHeldFrom n low cs
held_still m n low [] keeps next h = omega (arith, next, h)
held_still m n low (c ∷ cs) keeps next h = (h.0, (keeps c h.1.0, held_still m n (c.stag + 1) cs keeps next h.1.1))

no_release : (piece : List ℕ) (stag : ℕ) → All (λ call. call ≢ Release stag) (FeedOne piece ∷ [])
no_release piece stag = λ k d lt. by k d lt
  where
    by : (k : ℕ) (d : Call) → k < 1 → get_or (FeedOne piece ∷ []) k d ≢ Release stag
    by zero d lt = λ e. absurd cc
    by (suc k) d lt = absurd (omega (arith, lt))

one_call : (l : LinkSide) (call : Call) → after_calls l (call ∷ []) ≡ after_call l call
unfolding after_calls
one_call l call = refl

pub stays_held : (l m : LinkSide) (piece : List ℕ) (c : Claim) → m ≡ after_call l (FeedOne piece) → IsHeld l.state.memory c → IsHeld m.state.memory c
stays_held l m piece c is h =
    subst (λ (x : LinkSide). IsHeld x.state.memory c) (one_call l (FeedOne piece) ∙ sym is) (claims_stay_lem l c (FeedOne piece ∷ []) h (no_release piece c.stag))

pub fetched_step : (e f : EndpointState) (piece : List ℕ) (calls : List Pending) (reads : List ReadEntry) (sinks : List OpenSink) → f.link.state.memory.next ≡ e.link.state.memory.next → f.link ≡ after_call e.link (FeedOne piece) → f.outside ≡ e.outside →
    AreFetched e calls reads sinks → AreFetched f calls reads sinks
fetched_step e f piece calls reads sinks next is outside h = record {
  held = held_still e.link.state.memory f.link.state.memory 0 (claims_of sinks) (λ c held. stays_held e.link f.link piece c is held) next h.held;
  short = h.short;
  rooms = subst (λ (m : FinMap nat_cmp Outside). All (HasRoom m sinks reads) calls) (sym outside) h.rooms;
  outside = same_outside e f (around_of calls) next outside h.outside;
}

-- the side ended, or ran out of memory, in a step
pub fetched_failed : (e f : EndpointState) (piece : List ℕ) (end : End) (calls : List Pending) (reads : List ReadEntry) (sinks : List OpenSink) → e.link.state.ended ≡ None → IsPartial e.link.awaited e.link.rest →
    (end ≢ ends.Memory → f.link ≡ after_call e.link (FeedOne piece)) → (end ≡ ends.Memory → f.link ≡ after_call e.link OutOfMemory) → f.outside ≡ e.outside → AreFetched e calls reads sinks → AreFetched f calls reads sinks
fetched_failed e f piece end calls reads sinks live p fed out outside h = by end fed out
  where
    went : f.link ≡ after_call e.link (FeedOne piece) → AreFetched f calls reads sinks
    went is = fetched_step e f piece calls reads sinks (step_counts e.link f.link piece (step_of e.link f.link piece p live is)).next is outside h

    by : (end : End) → (end ≢ ends.Memory → f.link ≡ after_call e.link (FeedOne piece)) → (end ≡ ends.Memory → f.link ≡ after_call e.link OutOfMemory) → AreFetched f calls reads sinks
    by (ends.Bad at reason) fed out = went (fed (λ e. absurd cc))
    by (ends.Denied stag offset why) fed out = went (fed (λ e. absurd cc))
    by (ends.NoBuffer msn) fed out = went (fed (λ e. absurd cc))
    by (ends.Terminated reason) fed out = went (fed (λ e. absurd cc))
    by ends.Memory fed out = fetched_as e f calls reads sinks (memory_as e.link f.link (out refl)).memory outside h

-- ---- As it is opened

first_next : (credits : ℕ) (terms : SideTerms) → (initial_link Responder credits 1 terms None).state.memory.next ≡ 1
unfolding initial_link initial_memory
first_next credits terms = refl

pub fetched_first : (e : EndpointState) (credits : ℕ) (terms : SideTerms) (calls : List Pending) → e.link ≡ initial_link Responder credits 1 terms None → e.outside ≡ empty → calls ≡ [] → AreFetched e calls [] []
fetched_first e credits terms calls is none no_calls =
    let next : e.link.state.memory.next ≡ 1 = ap (λ (l : LinkSide). l.state.memory.next) is ∙ first_next credits terms in
    record {
      held = omega (arith, next);
      short = All-nil _;
      rooms = subst (λ (cs : List Pending). All (HasRoom e.outside [] []) cs) (sym no_calls) (All-nil _);
      outside = record {
        total = 0;
        sum = subst (λ (n : ℕ). IsTotal outside_len n 0 e.outside) (sym next) (subst (λ (m : FinMap nat_cmp Outside). IsTotal outside_len 1 0 m) (sym none) (sound_initial outside_len 1 (omega arith)));
        most = omega arith;
      };
    }

pub empty_fetched : (e : EndpointState) (calls : List Pending) (reads : List ReadEntry) (sinks : List OpenSink) → reads ≡ [] → sinks ≡ [] → AreFetched e calls [] [] → AreFetched e calls reads sinks
empty_fetched e calls reads sinks none no_sinks h =
    subst (λ (rs : List ReadEntry). AreFetched e calls rs sinks) (sym none) (subst (λ (ss : List OpenSink). AreFetched e calls [] ss) (sym no_sinks) h)

-- ---- Calls

pub fetched_pushed : (e : EndpointState) (calls later : List Pending) (call : Pending) (reads : List ReadEntry) (sinks : List OpenSink) → HasRoom e.outside sinks reads call → later ≡ calls ++ call ∷ [] → AreFetched e calls reads sinks → AreFetched e later reads sinks
fetched_pushed e calls later call reads sinks room is h = record {
  held = h.held;
  short = h.short;
  rooms = subst (λ (cs : List Pending). All (HasRoom e.outside sinks reads) cs) (sym is) (all_pushed_lem (HasRoom e.outside sinks reads) calls call h.rooms room);
  outside = more_outside e (around_of calls) (around_of later) (let more = around_pushed calls later call is in omega (arith, more)) h.outside;
}

pub fetched_removed : (e f : EndpointState) (at : ℕ) (d : Pending) (calls later : List Pending) (reads : List ReadEntry) (sinks : List OpenSink) → f.link.state.memory ≡ e.link.state.memory → f.outside ≡ e.outside → at < length calls → (get_or calls at d).around ≡ 0 → later ≡ remove calls at →
    AreFetched e calls reads sinks → AreFetched f later reads sinks
fetched_removed e f at d calls later reads sinks memory outside lt none is h =
    fetched_as e f later reads sinks memory outside (record {
      held = h.held;
      short = h.short;
      rooms = subst (λ (cs : List Pending). All (HasRoom e.outside sinks reads) cs) (sym is) (all_removed (HasRoom e.outside sinks reads) calls at h.rooms);
      outside = subst (λ (n : ℕ). HasOutside e n) (sym (ap (λ (cs : List Pending). around_of cs) is ∙ around_removed calls at d lt none)) h.outside;
    })

-- a call for which nothing is left to be read needs no room
pub read_has_room : (around : FinMap nat_cmp Outside) (sinks : List OpenSink) (reads : List ReadEntry) (c : Pending) → is_read (map read_view reads) c.number ≡ true → c.around ≡ 0 → room_len c.room ≤ payload_room → HasRoom around sinks reads c
read_has_room around sinks reads c read none few = record {
  space = λ left. absurd (let two : true ≡ false = sym read ∙ left in cc);
  apart = λ some. absurd (some none);
  few = omega (arith, none, few);
}

pub outside_most : (e : EndpointState) (n : ℕ) → HasOutside e n → outside_held e.outside ≤ n
unfolding outside_held
outside_most e n h = (let sum = h.sum.bytes_are in let most = h.most in omega (arith, sum, most))

-- ---- A sink is released

release_next : (m : RegisteredMemory) (s : ℕ) → (after_release m s).next ≡ m.next
unfolding after_release
release_next m s = refl

still_held : (m : RegisteredMemory) (s : ℕ) (c : Claim) → c.stag ≢ s → IsHeld m c → IsHeld (after_release m s) c
still_held m s c ne h = record { region = h.region; there = release_other m s c.stag ne ∙ h.there; len = h.len; given = (let g = h.given in let n = release_next m s in omega (arith, g, n)) }

from_lower : (m : RegisteredMemory) (low lower : ℕ) (cs : List Claim) → lower ≤ low → AreHeldFrom m low cs → AreHeldFrom m lower cs
from_lower m low lower [] le h = omega (arith, le, h)
from_lower m low lower (c ∷ cs) le h = ((let at = h.0 in omega (arith, le, at)), h.1)

-- the region under an STag below these is released
pub held_above : (m : RegisteredMemory) (low s : ℕ) (cs : List Claim) → s < low → AreHeldFrom m low cs → AreHeldFrom (after_release m s) low cs
held_above m low s [] lt h = (let n = release_next m s in omega (arith, n, h))
held_above m low s (c ∷ cs) lt h = (h.0, (still_held m s c (λ e. (let at = h.0 in omega (arith, lt, at, e))) h.1.0, held_above m (c.stag + 1) s cs (let at = h.0 in omega (arith, lt, at)) h.1.1))

held_at_least : (m : RegisteredMemory) (low : ℕ) (sinks : List OpenSink) (at : ℕ) (d : OpenSink) → at < length sinks → AreHeldFrom m low (claims_of sinks) → low ≤ (get_or sinks at d).registration.stag
held_at_least m low [] at d lt h = absurd (omega (arith, lt))
held_at_least m low (s ∷ sinks) zero d lt h = h.0
held_at_least m low (s ∷ sinks) (suc at) d lt h = (let more = held_at_least m (s.registration.stag + 1) sinks at d (omega (arith, lt)) h.1.1 in let first = h.0 in omega (arith, more, first))

pub held_at : (m : RegisteredMemory) (low : ℕ) (sinks : List OpenSink) (at : ℕ) (d : OpenSink) → at < length sinks → AreHeldFrom m low (claims_of sinks) → IsHeld m (get_or sinks at d).registration
held_at m low [] at d lt h = absurd (omega (arith, lt))
held_at m low (s ∷ sinks) zero d lt h = h.1.0
held_at m low (s ∷ sinks) (suc at) d lt h = held_at m (s.registration.stag + 1) sinks at d (omega (arith, lt)) h.1.1

pub released_held : (m : RegisteredMemory) (low : ℕ) (sinks : List OpenSink) (at : ℕ) (d : OpenSink) → at < length sinks → AreHeldFrom m low (claims_of sinks) → AreHeldFrom (after_release m (get_or sinks at d).registration.stag) low (claims_of (remove sinks at))
released_held m low [] at d lt h = absurd (omega (arith, lt))
released_held m low (s ∷ sinks) zero d lt h =
    from_lower (after_release m s.registration.stag) (s.registration.stag + 1) low (claims_of sinks) (let at = h.0 in omega (arith, at)) (held_above m (s.registration.stag + 1) s.registration.stag (claims_of sinks) (omega arith) h.1.1)
released_held m low (s ∷ sinks) (suc at) d lt h =
    (h.0, (still_held m (get_or sinks at d).registration.stag s.registration (λ e. (let more = held_at_least m (s.registration.stag + 1) sinks at d (omega (arith, lt)) h.1.1 in omega (arith, more, e))) h.1.0, released_held m (s.registration.stag + 1) sinks at d (omega (arith, lt)) h.1.1))

not_there : (stag : ℕ) (outside : FinMap nat_cmp Outside) → get outside stag ≡ None → remove_key outside stag ≡ outside
not_there stag outside none =
    same_map nat_cmp_total nat_cmp-IsAntisymmetric (remove_key outside stag) outside (λ q. elim (cases_eq q stag) [
      | inl e ↦ ap (λ (k : ℕ). get (remove_key outside stag) k) e ∙ get_remove_here outside stag ∙ sym none ∙ ap (λ (k : ℕ). get outside k) (sym e)
      | inr ne ↦ get_remove_other outside stag q ne
    ])

pub released_link : (l m : LinkSide) (s : SinkRegion) (stag : ℕ) → m ≡ after_call l (Release stag) → stag ≡ s.stag → m ≡ with_released (s ∷ []) l
unfolding after_call
released_link l m s stag is same = is ∙ ap (λ (n : ℕ). with_memory_of (after_release l.state.memory n) l) same
  where
    with_memory_of : RegisteredMemory → LinkSide → LinkSide
    with_memory_of m l = record { awaited = l.awaited; rest = l.rest; state = record l.state { memory = m } }

pub released_outside : (e f : EndpointState) (stag n : ℕ) → f.link.state.memory.next ≡ e.link.state.memory.next → f.outside ≡ remove_key e.outside stag → HasOutside e n → HasOutside f n
released_outside e f stag n next is h = by (get e.outside stag) refl
  where
    by : (o : Option Outside) → get e.outside stag ≡ o → HasOutside f n
    by None there = same_outside e f n next (is ∙ not_there stag e.outside there) h
    by (Some o) there = less_outside e f stag n o next is there (more_outside e n (outside_len o + n) (omega arith) h)

pub released_memory : (l m : LinkSide) (s : SinkRegion) → m ≡ with_released (s ∷ []) l → (m.state.memory ≡ after_release l.state.memory s.stag) × (m.state.memory.next ≡ l.state.memory.next)
released_memory l m s is = (ap (λ (x : LinkSide). x.state.memory) is, ap (λ (x : LinkSide). x.state.memory.next) is ∙ release_next l.state.memory s.stag)
