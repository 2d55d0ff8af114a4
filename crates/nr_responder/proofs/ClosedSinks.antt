-- The sinks that are over are released, and the others stay.
use Rattle.std.proofs.Common.{◌≡◌, ℕ, zero, suc, ◌+◌, ◌<◌, ◌≤◌, Bool, true, false, not, cond, List, [], ◌∷◌, ◌++◌, length, take, drop, get_or, map, None, sym, ap, ◌∙◌, ◌⊎◌, ◌≢◌, inl, inr, arith, append-nil}
use Rattle.std.proofs.lemmas.List.{length-map, take_all, drop_all}
use Rattle.std.specs.List.{remove}
use Rattle.std.specs.FinMap.{FinMap, get, same_map, nat_cmp-IsAntisymmetric}
use Rattle.std.specs.FinMap.{remove as remove_key}
use Rattle.std.specs.Cmp.{nat_cmp_total}
use Rattle.std.specs.Ordering.{nat_cmp}
use Rattle.std.proofs.lemmas.Bool.{cases_eq}
use Rattle.nr_regions.specs.RegisteredMemory.{RegisteredMemory, after_release}
use Rattle.nr_regions.proofs.Holding.{get_remove_here, get_remove_other}
use Rattle.nr_endpoint.specs.LinkState.{LinkSide}
use Rattle.nr_reduce.specs.ServerState.{PendingCall, PendingRead}
use Rattle.nr_responder.specs.Fetching.{SinkRegion}
use Rattle.nr_responder.specs.declared.call.OpenSink.{OpenSink}
use Rattle.nr_responder.specs.Views.{sink_view}
use Rattle.nr_responder.specs.private.Reading.{is_sink_over, left_sinks, over_sinks, released, with_released}

-- the sink at a place is over
pub over_left : (calls : List PendingCall) (reads : List PendingRead) (sinks : List OpenSink) (at : ℕ) (d : OpenSink) → at < length sinks → is_sink_over calls reads (sink_view (get_or sinks at d)) ≡ true →
    (take at (map sink_view (remove sinks at)) ++ left_sinks calls reads (drop at (map sink_view (remove sinks at))) ≡ take at (map sink_view sinks) ++ left_sinks calls reads (drop at (map sink_view sinks)))
    × (over_sinks calls reads (drop at (map sink_view sinks)) ≡ sink_view (get_or sinks at d) ∷ over_sinks calls reads (drop at (map sink_view (remove sinks at))))
over_left calls reads [] at d lt over = absurd (omega (arith, lt))
over_left calls reads (s ∷ sinks) zero d lt over = (
  sym (ap (λ (b : Bool). cond (not b) (sink_view s ∷ left_sinks calls reads (map sink_view sinks)) (left_sinks calls reads (map sink_view sinks))) over),
  ap (λ (b : Bool). cond b (sink_view s ∷ over_sinks calls reads (map sink_view sinks)) (over_sinks calls reads (map sink_view sinks))) over,
)
over_left calls reads (s ∷ sinks) (suc at) d lt over =
    let more = over_left calls reads sinks at d (omega (arith, lt)) over in
    (ap (λ (ss : List SinkRegion). sink_view s ∷ ss) more.0, more.1)

-- or it stays
pub kept_left : (calls : List PendingCall) (reads : List PendingRead) (sinks : List OpenSink) (at : ℕ) (d : OpenSink) → at < length sinks → is_sink_over calls reads (sink_view (get_or sinks at d)) ≡ false →
    (take (suc at) (map sink_view sinks) ++ left_sinks calls reads (drop (suc at) (map sink_view sinks)) ≡ take at (map sink_view sinks) ++ left_sinks calls reads (drop at (map sink_view sinks)))
    × (over_sinks calls reads (drop at (map sink_view sinks)) ≡ over_sinks calls reads (drop (suc at) (map sink_view sinks)))
kept_left calls reads [] at d lt over = absurd (omega (arith, lt))
kept_left calls reads (s ∷ sinks) zero d lt over = (
  sym (ap (λ (b : Bool). cond (not b) (sink_view s ∷ left_sinks calls reads (map sink_view sinks)) (left_sinks calls reads (map sink_view sinks))) over),
  ap (λ (b : Bool). cond b (sink_view s ∷ over_sinks calls reads (map sink_view sinks)) (over_sinks calls reads (map sink_view sinks))) over,
)
kept_left calls reads (s ∷ sinks) (suc at) d lt over =
    let more = kept_left calls reads sinks at d (omega (arith, lt)) over in
    (ap (λ (ss : List SinkRegion). sink_view s ∷ ss) more.0, more.1)

-- ---- Once each was looked at

pub all_left : (calls : List PendingCall) (reads : List PendingRead) (sinks : List OpenSink) (at : ℕ) (all : List SinkRegion) → length sinks ≤ at → take at (map sink_view sinks) ++ left_sinks calls reads (drop at (map sink_view sinks)) ≡ all → map sink_view sinks ≡ all
all_left calls reads sinks at all le is =
    let len : length (map sink_view sinks) ≡ length sinks = length-map sinks sink_view in
    sym (append-nil (map sink_view sinks))
    ∙ sym ((λ i. take_all at (map sink_view sinks) (omega (arith, le, len)) i ++ left_sinks calls reads (drop_all at (map sink_view sinks) (omega (arith, le, len)) i)))
    ∙ is

pub all_released : (calls : List PendingCall) (reads : List PendingRead) (sinks : List OpenSink) (at : ℕ) (l m : LinkSide) → length sinks ≤ at → with_released (over_sinks calls reads (drop at (map sink_view sinks))) l ≡ m → l ≡ m
all_released calls reads sinks at l m le is =
    let len : length (map sink_view sinks) ≡ length sinks = length-map sinks sink_view in
    sym (ap (λ (ss : List SinkRegion). with_released (over_sinks calls reads ss) l) (drop_all at (map sink_view sinks) (omega (arith, le, len)))) ∙ is

-- ---- The sink at one place

abbrev left_at : List PendingCall → List PendingRead → ℕ → List SinkRegion → List SinkRegion
left_at calls reads at sinks = take at sinks ++ left_sinks calls reads (drop at sinks)

abbrev over_at : List PendingCall → List PendingRead → ℕ → List SinkRegion → LinkSide → LinkSide
over_at calls reads at sinks l = with_released (over_sinks calls reads (drop at sinks)) l

pub next_left : (calls : List PendingCall) (reads : List PendingRead) (sinks : List OpenSink) (at : ℕ) (d : OpenSink) (l : LinkSide) → at < length sinks → is_sink_over calls reads (sink_view (get_or sinks at d)) ≡ false →
    (left_at calls reads (at + 1) (map sink_view sinks) ≡ left_at calls reads at (map sink_view sinks)) × (over_at calls reads (at + 1) (map sink_view sinks) l ≡ over_at calls reads at (map sink_view sinks) l)
next_left calls reads sinks at d l lt over =
    let one : at + 1 ≡ suc at = omega arith in
    let k = kept_left calls reads sinks at d lt over in (
      ap (λ (n : ℕ). left_at calls reads n (map sink_view sinks)) one ∙ k.0,
      ap (λ (n : ℕ). over_at calls reads n (map sink_view sinks) l) one ∙ ap (λ (ss : List SinkRegion). with_released ss l) (sym k.1),
    )

pub same_left : (calls : List PendingCall) (reads : List PendingRead) (sinks later : List OpenSink) (at : ℕ) (d : OpenSink) (l m : LinkSide) → at < length sinks → is_sink_over calls reads (sink_view (get_or sinks at d)) ≡ true → later ≡ remove sinks at →
    m ≡ with_released (sink_view (get_or sinks at d) ∷ []) l → (left_at calls reads at (map sink_view later) ≡ left_at calls reads at (map sink_view sinks)) × (over_at calls reads at (map sink_view later) m ≡ over_at calls reads at (map sink_view sinks) l)
same_left calls reads sinks later at d l m lt over is link =
    let k = over_left calls reads sinks at d lt over in (
      ap (λ (ss : List OpenSink). left_at calls reads at (map sink_view ss)) is ∙ k.0,
      (λ i. over_at calls reads at (map sink_view (is i)) (link i)) ∙ ap (λ (ss : List SinkRegion). with_released ss l) (sym k.1),
    )

-- ---- One sink is released before the others

removed_twice : {A : Type 0} (m : FinMap nat_cmp A) (a b q : ℕ) → get (remove_key (remove_key m a) b) q ≡ get (remove_key (remove_key m b) a) q
removed_twice {A = A} m a b q = by (cases_eq q b) (cases_eq q a)
  where
    gone : (n : FinMap nat_cmp A) (k : ℕ) → q ≡ k → get (remove_key n k) q ≡ None
    gone n k same = ap (λ (p : ℕ). get (remove_key n k) p) same ∙ get_remove_here n k

    by : (q ≡ b) ⊎ (q ≢ b) → (q ≡ a) ⊎ (q ≢ a) → get (remove_key (remove_key m a) b) q ≡ get (remove_key (remove_key m b) a) q
    by (inl last) (inl first) = gone (remove_key m a) b last ∙ sym (gone (remove_key m b) a first)
    by (inl last) (inr other) = gone (remove_key m a) b last ∙ sym (get_remove_other (remove_key m b) a q other ∙ gone m b last)
    by (inr other) (inl first) = get_remove_other (remove_key m a) b q other ∙ gone m a first ∙ sym (gone (remove_key m b) a first)
    by (inr other) (inr others) = get_remove_other (remove_key m a) b q other ∙ get_remove_other m a q others ∙ sym (get_remove_other (remove_key m b) a q others ∙ get_remove_other m b q other)

released_twice : (m : RegisteredMemory) (a b : ℕ) → after_release (after_release m a) b ≡ after_release (after_release m b) a
unfolding after_release
released_twice m a b =
    let held : remove_key (remove_key m.held a) b ≡ remove_key (remove_key m.held b) a = same_map nat_cmp_total nat_cmp-IsAntisymmetric (remove_key (remove_key m.held a) b) (remove_key (remove_key m.held b) a) (λ q. removed_twice m.held a b q) in
    let dead : remove_key (remove_key m.dead a) b ≡ remove_key (remove_key m.dead b) a = same_map nat_cmp_total nat_cmp-IsAntisymmetric (remove_key (remove_key m.dead a) b) (remove_key (remove_key m.dead b) a) (λ q. removed_twice m.dead a b q) in
    λ i. record { next = m.next; held = held i; dead = dead i }

over_released : (calls : List PendingCall) (reads : List PendingRead) (sinks : List OpenSink) (at : ℕ) (d : OpenSink) (m : RegisteredMemory) → at < length sinks → is_sink_over calls reads (sink_view (get_or sinks at d)) ≡ true →
    (released (over_sinks calls reads (map sink_view (remove sinks at))) (after_release m (get_or sinks at d).registration.stag) ≡ released (over_sinks calls reads (map sink_view sinks)) m)
    × (left_sinks calls reads (map sink_view (remove sinks at)) ≡ left_sinks calls reads (map sink_view sinks))
over_released calls reads [] at d m lt over = absurd (omega (arith, lt))
over_released calls reads (s ∷ sinks) zero d m lt over = (
  sym (ap (λ (b : Bool). released (cond b (sink_view s ∷ over_sinks calls reads (map sink_view sinks)) (over_sinks calls reads (map sink_view sinks))) m) over),
  sym (ap (λ (b : Bool). cond (not b) (sink_view s ∷ left_sinks calls reads (map sink_view sinks)) (left_sinks calls reads (map sink_view sinks))) over),
)
over_released calls reads (s ∷ sinks) (suc at) d m lt over = by (λ n. over_released calls reads sinks at d n (omega (arith, lt)) over) (is_sink_over calls reads (sink_view s))
  where
    stag : ℕ
    stag = (get_or sinks at d).registration.stag

    fewer : List SinkRegion
    fewer = over_sinks calls reads (map sink_view (remove sinks at))

    all : List SinkRegion
    all = over_sinks calls reads (map sink_view sinks)

    by : ((n : RegisteredMemory) → (released fewer (after_release n stag) ≡ released all n) × (left_sinks calls reads (map sink_view (remove sinks at)) ≡ left_sinks calls reads (map sink_view sinks))) → (b : Bool) →
        (released (cond b (sink_view s ∷ fewer) fewer) (after_release m stag) ≡ released (cond b (sink_view s ∷ all) all) m)
        × (cond (not b) (sink_view s ∷ left_sinks calls reads (map sink_view (remove sinks at))) (left_sinks calls reads (map sink_view (remove sinks at))) ≡ cond (not b) (sink_view s ∷ left_sinks calls reads (map sink_view sinks)) (left_sinks calls reads (map sink_view sinks)))
    by rest true = (ap (λ (n : RegisteredMemory). released fewer n) (released_twice m stag s.registration.stag) ∙ (rest (after_release m s.registration.stag)).0, (rest m).1)
    by rest false = ((rest m).0, ap (λ (ss : List SinkRegion). sink_view s ∷ ss) (rest m).1)

pub closed_with : (calls : List PendingCall) (reads : List PendingRead) (sinks later : List OpenSink) (at : ℕ) (d : OpenSink) (l m : LinkSide) → at < length sinks → is_sink_over calls reads (sink_view (get_or sinks at d)) ≡ true → later ≡ remove sinks at →
    m ≡ with_released (sink_view (get_or sinks at d) ∷ []) l →
    (with_released (over_sinks calls reads (map sink_view later)) m ≡ with_released (over_sinks calls reads (map sink_view sinks)) l) × (left_sinks calls reads (map sink_view later) ≡ left_sinks calls reads (map sink_view sinks))
closed_with calls reads sinks later at d l m lt over is link =
    let k = over_released calls reads sinks at d l.state.memory lt over in (
      (λ i. with_released (over_sinks calls reads (map sink_view (is i))) (link i))
          ∙ ap (λ (n : RegisteredMemory). record { awaited = l.awaited; rest = l.rest; state = record l.state { memory = n } }) k.0,
      ap (λ (ss : List OpenSink). left_sinks calls reads (map sink_view ss)) is ∙ k.1,
    )

-- some sink, if none is at hand
pub no_sink : OpenSink
no_sink = record { number = 0; position = 0; registration = record { stag = 0; len = 0 } }
