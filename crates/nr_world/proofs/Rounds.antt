-- Rounds, link by link.
use Rattle.std.specs.Prelude.{◌&&◌, ◌-◌, slice_index_or}
use Rattle.std.specs.List.{list_all, range_with_len}
use Rattle.std.proofs.Common.{◌≡◌, ℕ, suc, ◌+◌, ◌<◌, ◌≤◌, add-one, arith, true, List, [], ◌∷◌, length, drop, refl, sym, ap, subst, ◌∙◌}
use Rattle.std.proofs.Math.Seq.{drop-cons}
use Rattle.std.proofs.Math.ListN.{drop_of_length-le}
use Rattle.nr_reduce.specs.declared.mark.LinkParameters.{LinkParameters}
use Rattle.nr_tree.specs.Tree.{Tree}
use Rattle.nr_texts.specs.declared.opening.Opening.{Opening}
use Rattle.nr_drill.specs.Drill.{Setting, Drill, last_link, setting_now, after_moves, after_round, after_opening, after_openings}
use Rattle.nr_drill.specs.Follows.{is_still}
use Rattle.nr_drill.proofs.Followed.{moves_adds}
use Rattle.nr_world.specs.declared.world.World.{World}
use Rattle.nr_world.specs.private.Stands.{Steps, WorldStands, drill_setting}

-- the numbers of the links from a place on: the first, and those after it
pub numbers_from : (clients at : ℕ) → at < clients → range_with_len (at + 1) (clients - at) ≡ (at + 1) ∷ range_with_len (at + 1 + 1) (clients - (at + 1))
numbers_from clients at lt =
    let more : clients - at ≡ suc (clients - (at + 1)) = omega arith in
    ap (λ (n : ℕ). range_with_len (at + 1) n) more

pub no_numbers : (clients at : ℕ) → clients ≤ at → range_with_len (at + 1) (clients - at) ≡ []
no_numbers clients at le =
    let none : clients - at ≡ 0 = omega arith in
    ap (λ (n : ℕ). range_with_len (at + 1) n) none

pub openings_from : (s : Setting) (clients at : ℕ) (d : Drill) → at < clients →
    after_openings s (range_with_len (at + 1 + 1) (clients - (at + 1))) (after_opening s (at + 1) d) ≡ after_openings s (range_with_len (at + 1) (clients - at)) d
openings_from s clients at d lt = sym (ap (λ (links : List ℕ). after_openings s links d) (numbers_from clients at lt))

pub openings_end : (s : Setting) (clients at : ℕ) (d : Drill) → clients ≤ at → d ≡ after_openings s (range_with_len (at + 1) (clients - at)) d
openings_end s clients at d le = sym (ap (λ (links : List ℕ). after_openings s links d) (no_numbers clients at le))

-- ---- The last links of all clients, from a place on: the first, and those after it

pub links_from : (links : List ℕ) (at : ℕ) → at < length links → drop at links ≡ slice_index_or links (at + 1 - 1) (at + 1) ∷ drop (at + 1) links
links_from links at lt =
    let one : suc at ≡ at + 1 = omega arith in
    let left : drop at links ≡ slice_index_or links at (at + 1) ∷ drop (at + 1) links =
    drop-cons links at (at + 1) lt ∙ ap (λ (n : ℕ). slice_index_or links at (at + 1) ∷ drop n links) one in
    let place : at + 1 - 1 ≡ at = omega arith in
    left ∙ sym (ap (λ (i : ℕ). slice_index_or links i (at + 1) ∷ drop (at + 1) links) place)

pub no_links : (links : List ℕ) (at : ℕ) → length links ≤ at → drop at links ≡ []
no_links links at le = drop_of_length-le links le

-- what links are opened with, and the last link of each client, are as they were
abbrev pub KeepsLinks : Drill → Drill → Type 0
KeepsLinks old new = (new.opened ≡ old.opened) × (new.last_links ≡ old.last_links)

abbrev OverLinks : Setting → (Setting → List ℕ → Type 0) → Drill → Type 0
OverLinks s P d = P (setting_now s d) d.last_links

pub over_links : (s : Setting) (P : Setting → List ℕ → Type 0) (d mid : Drill) → KeepsLinks d mid → OverLinks s P mid → OverLinks s P d
over_links s P d mid keeps h =
    subst (λ (all : List LinkParameters). P (record s { opened = λ link. slice_index_or (s.opened 0 ∷ all) link (s.opened link) }) d.last_links) keeps.0
    (subst (λ (links : List ℕ). P (setting_now s mid) links) keeps.1 h)

pub round_keeps : (t : Setting) (links : List ℕ) (d : Drill) → KeepsLinks d (after_round t links d)
round_keeps t [] d = (refl, refl)
round_keeps t (link ∷ links) d =
    let x = moves_adds t link d in
    let rest = round_keeps t links (after_moves t link d) in
    (rest.0 ∙ x.opened, rest.1 ∙ x.last_links)

-- ---- A round, of the links of the first clients so far

abbrev pub RoundSoFar : World → World → ℕ → Type 0
RoundSoFar old now at = (tree : Tree) (opening : Opening) (d : Drill) → WorldStands tree opening d old →
    (mid : Drill) × WorldStands tree opening mid now × KeepsLinks d mid
    × (after_round (setting_now (drill_setting tree opening) d) (drop at d.last_links) mid ≡ after_round (setting_now (drill_setting tree opening) d) d.last_links d)

pub round_begin : (w : World) → RoundSoFar w w 0
round_begin w tree opening d h = (d, h, (refl, refl), refl)

pub round_on : (old now next : World) (at : ℕ) → at < length now.links.items → RoundSoFar old now at → Steps (λ s d. after_moves (setting_now s d) (last_link (at + 1) d) d) now next → RoundSoFar old next (at + 1)
round_on old now next at lt so_far steps tree opening d h =
    let s : Setting = drill_setting tree opening in
    let t : Setting = setting_now s d in
    let (mid, stands, keeps, rest) = so_far tree opening d h in
    let below : at < length d.last_links = omega (arith, lt, stands.opened.count, h.frame.count) in
    let link : ℕ = last_link (at + 1) d in
    let after : WorldStands tree opening (after_moves t link mid) next =
    over_links s (λ u links. WorldStands tree opening (after_moves u (slice_index_or links (at + 1 - 1) (at + 1)) mid) next) d mid keeps (steps tree opening mid stands) in
    let x = moves_adds t link mid in
    (after_moves t link mid, after, (x.opened ∙ keeps.0, x.last_links ∙ keeps.1), sym (ap (λ (links : List ℕ). after_round t links mid) (links_from d.last_links at below)) ∙ rest)

pub round_end : (old now : World) (at : ℕ) → length now.links.items ≤ at → RoundSoFar old now at →
    (tree : Tree) (opening : Opening) (d : Drill) → WorldStands tree opening d old → WorldStands tree opening (after_round (setting_now (drill_setting tree opening) d) d.last_links d) now
round_end old now at le so_far tree opening d h =
    let t : Setting = setting_now (drill_setting tree opening) d in
    let (mid, stands, keeps, rest) = so_far tree opening d h in
    let none : drop at d.last_links ≡ [] = no_links d.last_links at (omega (arith, le, stands.opened.count, h.frame.count)) in
    subst (λ (x : Drill). WorldStands tree opening x now) (sym (ap (λ (links : List ℕ). after_round t links mid) none) ∙ rest) stands

-- ---- Whether all links are still, from a place on

pub still_from : (t : Setting) (d : Drill) (links : List ℕ) (at : ℕ) → at < length links →
    list_all (is_still t d) (drop at links) ≡ is_still t d (slice_index_or links (at + 1 - 1) (at + 1)) && list_all (is_still t d) (drop (at + 1) links)
still_from t d links at lt = ap (λ (ls : List ℕ). list_all (is_still t d) ls) (links_from links at lt)

pub still_end : (t : Setting) (d : Drill) (links : List ℕ) (at : ℕ) → length links ≤ at → list_all (is_still t d) (drop at links) ≡ true
still_end t d links at le = ap (λ (ls : List ℕ). list_all (is_still t d) ls) (no_links links at le)
