-- What the links of a world came to.
use Rattle.std.proofs.Common.{◌≡◌, Bool, ℕ, ◌+◌, ◌<◌, ◌≤◌, arith, List, [], ◌∷◌, ◌++◌, length, map, Option, refl, sym, ap, subst, ◌∙◌, append-nil, append_assoc, drop}
use Rattle.nr_link.specs.declared.end.End.{End}
use Rattle.nr_reduce.specs.declared.mark.Mark.{Mark}
use Rattle.nr_tree.specs.Tree.{Tree}
use Rattle.nr_texts.specs.declared.opening.Opening.{Opening}
use Rattle.nr_drill.specs.declared.report.LinkEnds.{LinkEnds}
use Rattle.nr_drill.specs.declared.report.Report.{Report}
use Rattle.nr_drill.specs.Drill.{Setting, Drill, client_of, last_link, links_of, setting_now}
use Rattle.nr_drill.specs.DrillSetup.{drill_setup, server_of}
use Rattle.nr_drill.specs.LinkEnds.{ends_of, ReportsRuns}
use Rattle.nr_world.specs.declared.world.World.{World}
use Rattle.nr_world.specs.private.Stands.{drill_setting, WorldStands}
use Rattle.nr_world.specs.private.Results.{AreEndsOf, ReportsWorld}
use Rattle.nr_world.proofs.Rounds.{links_from, no_links}

abbrev pub ends_from : Option End → Option End → Bool → LinkEnds
ends_from client server dropped = record { client = client; server = server; dropped = dropped }

-- the ends of the links of the first clients, and what is left
abbrev pub EndsSoFar : World → List LinkEnds → ℕ → Type 0
EndsSoFar w ends at = (tree : Tree) (opening : Opening) (d : Drill) → WorldStands tree opening d w →
    ends ++ map (ends_of (setting_now (drill_setting tree opening) d) d.marks) (drop at d.last_links) ≡ map (ends_of (setting_now (drill_setting tree opening) d) d.marks) d.last_links

pub ends_begin : (w : World) (ends : List LinkEnds) → ends ≡ [] → EndsSoFar w ends 0
ends_begin w ends none tree opening d h = ap (λ (xs : List LinkEnds). xs ++ map (ends_of (setting_now (drill_setting tree opening) d) d.marks) d.last_links) none

-- what a link came to, part by part
pub same_ends : {a b c e : Option End} {x y : Bool} → a ≡ b → c ≡ e → x ≡ y → ends_from a c x ≡ ends_from b e y
same_ends p q r = λ i. ends_from (p i) (q i) (r i)

pub ends_on : (w : World) (ends : List LinkEnds) (at : ℕ) (e : LinkEnds) → at < length w.links.items → EndsSoFar w ends at →
    ((tree : Tree) (opening : Opening) (d : Drill) → WorldStands tree opening d w → e ≡ ends_of (setting_now (drill_setting tree opening) d) d.marks (last_link (at + 1) d)) → EndsSoFar w (ends ++ e ∷ []) (at + 1)
ends_on w ends at e lt so_far is tree opening d h =
    let f = ends_of (setting_now (drill_setting tree opening) d) d.marks in
    let below : at < length d.last_links = omega (arith, lt, h.opened.count, h.frame.count) in
    let rest : List LinkEnds = map f (drop (at + 1) d.last_links) in
    let left : map f (drop at d.last_links) ≡ e ∷ rest = ap (λ (links : List ℕ). map f links) (links_from d.last_links at below) ∙ ap (λ (x : LinkEnds). x ∷ rest) (sym (is tree opening d h)) in
    append_assoc ends (e ∷ []) rest ∙ sym (ap (λ (xs : List LinkEnds). ends ++ xs) left) ∙ so_far tree opening d h

pub ends_all : (w : World) (ends : List LinkEnds) (at : ℕ) → length w.links.items ≤ at → EndsSoFar w ends at → AreEndsOf w ends
ends_all w ends at le so_far tree opening d h =
    let f = ends_of (setting_now (drill_setting tree opening) d) d.marks in
    let none : map f (drop at d.last_links) ≡ [] = ap (λ (links : List ℕ). map f links) (no_links d.last_links at (omega (arith, le, h.opened.count, h.frame.count))) in
    sym (append-nil ends) ∙ sym (ap (λ (xs : List LinkEnds). ends ++ xs) none) ∙ so_far tree opening d h

pub tells_world : (w : World) (run : List Mark) (clients : List ℕ) (ends : List LinkEnds) (report : Report) → run ≡ w.marks → clients ≡ w.owners.items → AreEndsOf w ends → ReportsRuns run clients ends report → ReportsWorld w report
tells_world w run clients ends report same owners are tells tree script d h is drill last_is =
    let server = server_of (drill_setup tree script.opening) in
    let s : Setting = drill_setting tree script.opening in
    let of_drill : ReportsRuns d.marks clients ends report = subst (λ (r : List Mark). ReportsRuns r clients ends report) (same ∙ h.opened.marks) tells in
    of_drill server script is drill refl
    (owners ∙ h.owners ∙ (λ i. map (client_of (setting_now s (sym last_is i))) (links_of (length (sym last_is i).opened))))
    (are tree script.opening d h ∙ (λ i. map (ends_of (setting_now s (sym last_is i)) d.marks) (sym last_is i).last_links))
