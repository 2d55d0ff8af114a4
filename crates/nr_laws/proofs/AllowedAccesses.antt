-- The memory of a client allows an access to what a call offers, while no message answers that call.
use Rattle.std.proofs.Common.{◌≡◌, ℕ, ◌+◌, ◌≤◌, ◌<◌, List, [], ◌∷◌, map, Option, None, ap, ◌∙◌, arith, inl, inr}
use Rattle.std.specs.Prelude.{find}
use Rattle.std.specs.List.{AllByRecursion}
use Rattle.nr_regions.specs.declared.right.Right.{Right}
use Rattle.nr_regions.specs.RegisteredMemory.{denial_in}
use Rattle.nr_regions.specs.Access.{Grant, applies, grant_at, grant_offer, grant_denial}
use Rattle.nr_reduce.specs.OfferedRegions.{Region, region_grant, region_grants}
use Rattle.nr_reduce.proofs.OwnStags.{AreNumbered}
use Rattle.nr_laws.proofs.AnsweredCalls.{times}
use Rattle.nr_laws.proofs.Sinks.{found, skipped}
use Rattle.nr_laws.proofs.OfferedAccesses.{IsOffered, IsLive, IsEarly}

stag_least : (xid stag : ℕ) (right : Right) (n first : ℕ) (regions : List Region) → AreNumbered first regions → IsOffered xid stag right n regions → first ≤ stag
stag_least xid stag right n first [] numbered h = absurd h
stag_least xid stag right n first (g ∷ regions) numbered (inl h) = omega (arith, numbered.0, h.own_stag)
stag_least xid stag right n first (g ∷ regions) numbered (inr h) = omega (arith, stag_least xid stag right n (first + 1) regions numbered.1 h)

live_region_lem : (answered : List ℕ) (xid : ℕ) (g : Region) → times xid answered ≡ 0 → g.call ≡ xid → IsLive answered g → g.until ≡ None
live_region_lem answered xid g none own (inl h) = h
live_region_lem answered xid g none own (inr h) = absurd (omega (arith, none, h, ap (λ (x : ℕ). times x answered) own))

pub offered_granted : (place end first xid stag : ℕ) (right : Right) (to n : ℕ) (answered : List ℕ) (regions : List Region) → AreNumbered first regions → times xid answered ≡ 0 → AllByRecursion (IsLive answered) regions → AllByRecursion (IsEarly place) regions → place < end
    → IsOffered xid stag right (to + n) regions → grant_denial (region_grants end regions) (record { right = right; stag = stag; to = to; len = n }) end ≡ None
unfolding grant_denial grant_at region_grants
offered_granted place end first xid stag right to n answered [] numbered none lives early lt h = absurd h
offered_granted place end first xid stag right to n answered (g ∷ regions) numbered none lives early lt (inl h) =
    found end right stag to n g (find (applies stag end) (map (region_grant end) regions)) h.own_stag (live_region_lem answered xid g none h.own_call lives.0) h.own_right (omega (arith, early.0, lt)) h.room
offered_granted place end first xid stag right to n answered (g ∷ regions) numbered none lives early lt (inr h) =
    ap (λ (o : Option Grant). denial_in (grant_offer o) (record { right = right; stag = stag; to = to; len = n }))
    (skipped end stag g (find (applies stag end) (map (region_grant end) regions)) (λ same. omega (arith, same, numbered.0, stag_least xid stag right (to + n) (first + 1) regions numbered.1 h)))
    ∙ offered_granted place end (first + 1) xid stag right to n answered regions numbered.1 none lives.1 early.1 lt h
