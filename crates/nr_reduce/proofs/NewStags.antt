-- The STags of a link are above those of the link that its client left.
use Rattle.std.proofs.Common.{◌≡◌, ℕ, ◌+◌, ◌<◌, ◌≤◌, inl, inr, List, [], ◌∷◌, length, ap, arith}
use Rattle.std.specs.List.{Contains}
use Rattle.std.proofs.lemmas.List.Elements.{Contains-append_cases}
use Rattle.nr_reduce.specs.declared.mark.Mark.{Mark}
use Rattle.nr_reduce.specs.declared.mark.LinkParameters.{LinkParameters}
use Rattle.nr_reduce.specs.OfferedRegions.{Region}
use Rattle.nr_reduce.specs.Run.{client}
use Rattle.nr_reduce.specs.Reopening.{IsReopened, reopened}
use Rattle.nr_reduce.specs.ReopenedLinks.{ReopenedStagsAreNew}
use Rattle.nr_reduce.proofs.OwnStags.{AreNumbered, client_known}
use Rattle.nr_reduce.proofs.GoingOn.{no_element, one_element}
use Rattle.nr_reduce.proofs.LeftClients.{client_left}

-- consecutive STags lie between the first one and the next one
within : (n : ℕ) (regions : List Region) (r : Region) → AreNumbered n regions → Contains regions r → (n ≤ r.stag) × (r.stag < n + length regions)
within n [] r h c = absurd (no_element r c)
within n (q ∷ regions) r h c = elim (Contains-append_cases (q ∷ []) regions r c) [
  | inl own ↦ (let e = ap (λ (x : Region). x.stag) (one_element r q own) in let s = h.0 in (omega (arith, e, s), omega (arith, e, s)))
  | inr more ↦ (let both = within (n + 1) regions r h.1 more in let low = both.0 in let high = both.1 in (omega (arith, low), omega (arith, high)))
]

first_stag : (opened next_opened : LinkParameters) (link : ℕ) (run before : List Mark) → IsReopened opened next_opened link run before → next_opened.first_stag ≡ (client opened link before).state.stag
unfolding reopened
first_stag opened next_opened link run before is = ap (λ (o : LinkParameters). o.first_stag) is.next

pub stags_are_new : ReopenedStagsAreNew
stags_are_new opened next_opened link next run before later earlier r is old new =
    let first = first_stag opened next_opened link run before is in
    let left = (client_left opened next_opened link run before is).0 in
    let below = (within opened.first_stag (client opened link run).state.regions earlier (client_known opened link run).regions old).1 in
    let end = (client_known opened link run).next in
    let above = (within next_opened.first_stag (client next_opened next later).state.regions r (client_known next_opened next later).regions new).0 in
    omega (arith, first, left, below, end, above)
