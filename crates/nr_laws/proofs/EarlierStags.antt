-- The STags of a link are above those of each link that it goes on from, so an access by one of these ends its client.
use Rattle.std.proofs.Common.{◌≡◌, ℕ, ◌+◌, ◌≤◌, ◌<◌, List, [], ◌∷◌, ◌++◌, length, map, ap, subst, arith, ◌⊎◌, inl, inr}
use Rattle.std.specs.Prelude.{Contains}
use Rattle.std.specs.List.{AllByRecursion}
use Rattle.std.proofs.lemmas.List.Elements.{All-contains, All-from_recursion}
use Rattle.nr_regions.specs.Access.{Grant, Allowed}
use Rattle.nr_reduce.specs.declared.mark.LinkParameters.{LinkParameters}
use Rattle.nr_reduce.specs.declared.mark.Mark.{Mark}
use Rattle.nr_reduce.specs.OfferedRegions.{Region, region_grant, region_grants}
use Rattle.nr_reduce.specs.EndRules.{EndState, end_state_after}
use Rattle.nr_reduce.specs.Client.{client_rules, initial_client}
use Rattle.nr_reduce.specs.ClientState.{ClientState}
use Rattle.nr_reduce.specs.Reopening.{reopened}
use Rattle.nr_reduce.specs.Run.{client}
use Rattle.nr_reduce.proofs.LeftClients.{client_left}
use Rattle.nr_reduce.proofs.OwnStags.{AreNumbered, client_numbers, client_known}
use Rattle.nr_laws.specs.OnceEach.{BegunLink, IsNextLink, GoesOn}
use Rattle.nr_laws.specs.Reopened.{EarlierStagsAreDead}
use Rattle.nr_laws.specs.Touches.{StopsAt}
use Rattle.nr_laws.proofs.Basics.{each_all}
use Rattle.nr_laws.proofs.Touched.{client_touched}

-- ---- Consecutive STags

-- each is the first one at least
grants_from : (place n : ℕ) (regions : List Region) → AreNumbered n regions → AllByRecursion (λ (g : Grant). n ≤ g.stag) (map (region_grant place) regions)
grants_from place n [] h = tt
grants_from place n (r ∷ regions) h =
    let own = h.0 in
    (omega (arith, own), each_all (λ (g : Grant). n + 1 ≤ g.stag) (λ (g : Grant). n ≤ g.stag) (map (region_grant place) regions) (λ g le. omega (arith, le)) (grants_from place (n + 1) regions h.1))

-- and below the next one
regions_below : (n : ℕ) (regions : List Region) → AreNumbered n regions → AllByRecursion (λ (r : Region). r.stag < n + length regions) regions
regions_below n [] h = tt
regions_below n (r ∷ regions) h =
    let own = h.0 in
    (omega (arith, own), each_all (λ (q : Region). q.stag < n + 1 + length regions) (λ (q : Region). q.stag < n + length (r ∷ regions)) regions (λ q lt. omega (arith, lt)) (regions_below (n + 1) regions h.1))

allowed_from : (opened : LinkParameters) (k : ClientState) (place stag : ℕ) (g : Grant) → AreNumbered opened.first_stag k.regions → Contains (region_grants place k.regions) g → g.stag ≡ stag → opened.first_stag ≤ stag
unfolding region_grants
allowed_from opened k place stag g numbered there same =
    let least = All-contains (λ (x : Grant). opened.first_stag ≤ x.stag) (map (region_grant place) k.regions) g
    (All-from_recursion (λ (x : Grant). opened.first_stag ≤ x.stag) (map (region_grant place) k.regions) (grants_from place opened.first_stag k.regions numbered)) there in
    omega (arith, least, same)

offered_below : (opened : LinkParameters) (link : ℕ) (run : List Mark) (r : Region) → Contains (client opened link run).state.regions r → r.stag < (client opened link run).state.stag
offered_below opened link run r there =
    let k : ClientState = (client opened link run).state in
    let known = client_known opened link run in
    let next = known.next in
    let lt = All-contains (λ (q : Region). q.stag < opened.first_stag + length k.regions) k.regions r
    (All-from_recursion (λ (q : Region). q.stag < opened.first_stag + length k.regions) k.regions (regions_below opened.first_stag k.regions known.regions)) there in
    omega (arith, lt, next)

-- ---- From link to link

first_stag : (opened : ℕ → LinkParameters) (run : List Mark) (old link : BegunLink) → IsNextLink opened run old link → (opened link.link).first_stag ≡ (client (opened old.link) old.link link.began).state.stag
unfolding reopened
first_stag opened run old link n = ap (λ (o : LinkParameters). o.first_stag) n.reopened.next

stags_above : (opened : ℕ → LinkParameters) (run : List Mark) (first : ℕ) (link old : BegunLink) (links : List BegunLink) → GoesOn opened run first link (old ∷ links) → (client (opened first) first run).state.stag ≤ (opened link.link).first_stag
stags_above opened run first link old [] (n, same) =
    let left = (client_left (opened old.link) (opened link.link) old.link run link.began n.reopened).0 in
    let next = first_stag opened run old link n in
    let here : (client (opened old.link) old.link run).state.stag ≤ (opened link.link).first_stag = omega (arith, left, next) in
    subst (λ (l : ℕ). (client (opened l) l run).state.stag ≤ (opened link.link).first_stag) same here
stags_above opened run first link old (older ∷ links) (n, g) =
    let below = stags_above opened run first old older links g in
    let more = (client_known (opened old.link) old.link link.began).next in
    let next = first_stag opened run old link n in
    omega (arith, below, more, next)

pub earlier_stags_are_dead : EarlierStagsAreDead
earlier_stags_are_dead opened first last old links run offered earlier later f segment access goes there same is live behind own asks =
    by (client_touched (opened last.link) last.link run earlier later f segment access is live behind own asks)
  where
    before : EndState ClientState
    before = end_state_after (client_rules (opened last.link)) (initial_client (opened last.link)) earlier

    by : Allowed (region_grants f.end before.state.regions) access f.end ⊎ StopsAt (client_rules (opened last.link)) before f (client (opened last.link) last.link run) → StopsAt (client_rules (opened last.link)) before f (client (opened last.link) last.link run)
    by (inr stops) = stops
    by (inl allowed) =
        let least = allowed_from (opened last.link) before.state f.end access.stag allowed.grant (client_numbers (opened last.link) earlier).regions allowed.there allowed.stag in
        let below = offered_below (opened first) first run offered there in
        let above = stags_above opened run first last old links goes in
        absurd (omega (arith, least, below, above, same))
