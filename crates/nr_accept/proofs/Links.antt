-- Links that are taken one after another.
use Rattle.std.proofs.Common.{◌≡◌, ℕ, ◌≤◌, List, [], ◌∷◌, ◌++◌, Option, None, Some, inl, inr, refl, sym, ap, subst, ◌∙◌, append_assoc, append-nil, arith}
use Rattle.nr_outside.specs.Faults.{Rises}
use Rattle.nr_links.specs.Links.{EndedLink}
use Rattle.nr_accept.specs.Accepting.{BackCount, Between, HandsBack, Serves, ServesAll, ServesLink, StartsLink, TakesLink, TakesOne, between, end_of_link, ends_of}

module _ {V E : Type 0} (Makes : V → V → Type 0) (Served : V → EndedLink → EndedLink → ℕ → ℕ → E → V → Type 0) where
  takes_more : (before mid after : Between V) (links : List (Option E)) (link : Option E) → ServesAll Makes Served before links mid → TakesLink Makes Served mid link after
      → ServesAll Makes Served before (links ++ link ∷ []) after
  takes_more before mid after [] link none one = (after, (subst (λ (b : Between V). TakesLink Makes Served b link after) none one, refl))
  takes_more before mid after (first ∷ links) link (next, (took, rest)) one = (next, (took, takes_more next mid after links link rest one))

module _ {E : Type 0} where
  ends_more : (links : List (Option E)) (link : Option E) → ends_of (links ++ link ∷ []) ≡ ends_of links ++ end_of_link link
  ends_more [] link = append-nil (end_of_link link)
  ends_more (first ∷ links) link =
      ap (λ (l : List E). end_of_link first ++ l) (ends_more links link) ∙ sym (append_assoc (end_of_link first) (ends_of links) (end_of_link link))

module _ {V E : Type 0} (Makes : V → V → Type 0) (Served : V → EndedLink → EndedLink → ℕ → ℕ → E → V → Type 0) where
  -- one link more
  pub serves_more : (before mid after : Between V) (ends ends' : List E) → Serves Makes Served before ends mid → TakesOne Makes Served mid ends ends' after
      → Serves Makes Served before ends' after
  serves_more before mid after ends ends' s t = record {
    links = s.links ++ t.link ∷ [];
    ends_are = ends_more s.links t.link ∙ ap (λ (l : List E). l ++ end_of_link t.link) s.ends_are ∙ sym t.ends_are;
    all = takes_more Makes Served before mid after s.links t.link s.all t.takes;
  }

  -- no link yet
  pub serves_none : (before : Between V) (ends : List E) → ends ≡ [] → Serves Makes Served before ends before
  serves_none before ends none = record { links = []; ends_are = sym none; all = refl }

  -- what was not taken changes nothing
  pub serves_kept : (before mid after : Between V) (ends ends' : List E) → ends' ≡ ends → after ≡ mid → Serves Makes Served before ends mid → Serves Makes Served before ends' after
  serves_kept before mid after ends ends' kept same s =
      subst (λ (l : List E). Serves Makes Served before l after) (sym kept) (subst (λ (b : Between V). Serves Makes Served before ends b) (sym same) s)

  -- ===== one link

  pub started_by : (before after : Between V) (link : Option E) → link ≡ None → TakesLink Makes Served before link after → StartsLink Makes before after
  started_by before after link none takes = subst (λ (l : Option E). TakesLink Makes Served before l after) none takes

  pub served_by : (before after : Between V) (link : Option E) (end : E) → link ≡ Some end → TakesLink Makes Served before link after → ServesLink Served before after end
  served_by before after link end is takes = subst (λ (l : Option E). TakesLink Makes Served before l after) is takes

  pub takes_started : (before after : Between V) (link : Option E) (ends ends' : List E) → link ≡ None → ends' ≡ ends → TakesLink Makes Served before link after
      → TakesOne Makes Served before ends ends' after
  takes_started before after link ends ends' none same takes = record {
    link = None;
    ends_are = same ∙ sym (append-nil ends);
    takes = started_by before after link none takes;
  }

  pub takes_served : (before after : Between V) (link : Option E) (end : E) (ends ends' : List E) → link ≡ Some end → ends' ≡ ends ++ end ∷ []
      → TakesLink Makes Served before link after → TakesOne Makes Served before ends ends' after
  takes_served before after link end ends ends' is items takes = record {
    link = Some end;
    ends_are = items;
    takes = served_by before after link end is takes;
  }

-- ===== the count of the spawner, if it started the job, or handed it back

pub rises_on : (first old new : ℕ) → first ≤ old → Rises old new → Rises first new
rises_on first old new low (inl more) = inl (omega (arith, low, more))
rises_on first old new low (inr last) = inr last

module _ {E : Type 0} where
  back_same : (ends : List E) (first old new : ℕ) → new ≡ old → BackCount ends first old → BackCount ends first new
  back_same ends first old new same count = subst (λ (n : ℕ). BackCount ends first n) (sym same) count

  back_rises : (ends : List E) (first old new : ℕ) → first ≤ old → Rises old new → BackCount ends first new
  back_rises ends first old new low rises = inr (rises_on first old new low rises)

  pub back_started : (link : Option E) (ends ends' : List E) (first old new : ℕ) → link ≡ None → ends' ≡ ends → HandsBack link old new → BackCount ends first old → BackCount ends' first new
  back_started link ends ends' first old new none kept back count =
      let same : new ≡ old = subst (λ (l : Option E). HandsBack l old new) none back in
      subst (λ (l : List E). BackCount l first new) (sym kept) (back_same ends first old new same count)

  pub back_served : (link : Option E) (end : E) (ends : List E) (first old new : ℕ) → link ≡ Some end → HandsBack link old new → first ≤ old → BackCount ends first new
  back_served link end ends first old new is back low =
      let rises : Rises old new = subst (λ (l : Option E). HandsBack l old new) is back in
      back_rises ends first old new low rises

-- ===== the same, of a part of what makes the jobs

-- what is known of a part of it
abbrev pub seen_as : {S V : Type 0} → (S → V) → Between S → Between V
seen_as view_of b = between b.ended b.lost b.started (view_of b.view)

-- `Keeps` is so of each state of what makes the jobs, if it is so at first
module _ {S V E : Type 0} (view_of : S → V) (Keeps : S → Type 0) (Makes : S → S → Type 0) (Served : S → EndedLink → EndedLink → ℕ → ℕ → E → S → Type 0) (Makes' : V → V → Type 0) (Served' : V → EndedLink → EndedLink → ℕ → ℕ → E → V → Type 0)
    (makes_as : (p q : S) → Keeps p → Makes p q → Keeps q × Makes' (view_of p) (view_of q))
    (served_as : (p q : S) (opened closed : EndedLink) (source_faults sink_faults : ℕ) (end : E) → Keeps p → Served p opened closed source_faults sink_faults end q
    → Keeps q × Served' (view_of p) opened closed source_faults sink_faults end (view_of q)) where
  takes_as : (before after : Between S) (link : Option E) → Keeps before.view → TakesLink Makes Served before link after
      → Keeps after.view × TakesLink Makes' Served' (seen_as view_of before) link (seen_as view_of after)
  takes_as before after None keeps s =
      let (kept, view) = makes_as before.view after.view keeps s.view in
      (kept, record { made = s.made; lost = s.lost; started = s.started; view = view })
  takes_as before after (Some end) keeps s =
      let (kept, served) = served_as before.view after.view s.opened s.closed s.source_faults s.sink_faults end keeps s.served in (
        kept,
        record {
          opened = s.opened;
          closed = s.closed;
          log = s.log;
          source_faults = s.source_faults;
          sink_faults = s.sink_faults;
          fresh = s.fresh;
          told = s.told;
          numbered = s.numbered;
          same_number = s.same_number;
          served = served;
          made = s.made;
          hung_up = s.hung_up;
          lost = s.lost;
          started = s.started;
        },
      )

  all_as : (before after : Between S) (links : List (Option E)) → Keeps before.view → ServesAll Makes Served before links after
      → ServesAll Makes' Served' (seen_as view_of before) links (seen_as view_of after)
  all_as before after [] keeps none = ap (λ (b : Between S). seen_as view_of b) none
  all_as before after (link ∷ links) keeps (mid, (one, rest)) =
      let (kept, took) = takes_as before mid link keeps one in
      (seen_as view_of mid, (took, all_as mid after links kept rest))

  pub serves_as : (before after : Between S) (ends : List E) → Keeps before.view → Serves Makes Served before ends after → Serves Makes' Served' (seen_as view_of before) ends (seen_as view_of after)
  serves_as before after ends keeps s = record { links = s.links; ends_are = s.ends_are; all = all_as before after s.links keeps s.all }
