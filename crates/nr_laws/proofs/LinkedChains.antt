-- Links that one link goes on from, and those that go on from it: both make one chain, if the client of the link between submitted a call.
use Rattle.std.proofs.Common.{◌≡◌, ℕ, List, [], ◌∷◌, ◌++◌, refl, sym, ap, subst, ◌∙◌, append_assoc, ◌⊎◌, inl, inr, length}
use Rattle.nr_wire.specs.declared.hello.Side.TheVariants.{Initiator}
use Rattle.nr_reduce.specs.declared.call.Call.{Call}
use Rattle.nr_reduce.specs.declared.call.Form.{Form}
use Rattle.nr_reduce.specs.declared.call.Submission.TheVariants as submissions
use Rattle.nr_reduce.specs.declared.mark.LinkParameters.{LinkParameters}
use Rattle.nr_reduce.specs.declared.mark.Mark.{Mark}
use Rattle.nr_reduce.specs.declared.mark.Mark.TheVariants as marks
use Rattle.nr_reduce.specs.Events.{RunEvent, events}
use Rattle.nr_reduce.specs.Events.RunEvent.{CallSubmitted}
use Rattle.nr_reduce.specs.History.{bytes_received}
use Rattle.nr_reduce.specs.Reopening.{IsReopened}
use Rattle.nr_laws.specs.OnceEach.{BegunLink, IsNextLink, GoesOn, IsEarlier}
use Rattle.nr_laws.proofs.EarlierLinks.{InFirst, AfterFirst, mark_in_first, event_at_mark, submit_event, none_is, submitted_in_time}

-- a link goes on from another one, which isn't it
pub record IsLater (opened : ℕ → LinkParameters) (run : List Mark) (first link : ℕ) : Type 0 where
  pub began : List Mark
  pub old : BegunLink
  pub links : List BegunLink
  pub goes_on : GoesOn opened run first (record { link = link; began = began }) (old ∷ links)

pub later_earlier : (opened : ℕ → LinkParameters) (run : List Mark) (first link : ℕ) → IsLater opened run first link → IsEarlier opened run first link
later_earlier opened run first link l = record { began = l.began; links = l.old ∷ l.links; goes_on = l.goes_on }

-- it is it, or goes on from it
pub same_or_later : (opened : ℕ → LinkParameters) (run : List Mark) (first link : ℕ) → IsEarlier opened run first link → (link ≡ first) ⊎ IsLater opened run first link
same_or_later opened run first link e = by e.links e.goes_on
  where
    by : (links : List BegunLink) → GoesOn opened run first (record { link = link; began = e.began }) links → (link ≡ first) ⊎ IsLater opened run first link
    by [] same = inl same
    by (old ∷ links) g = inr (record { began = e.began; old = old; links = links; goes_on = g })

module _ (opened : ℕ → LinkParameters) (run : List Mark) (mid : ℕ) (front back : List Mark) (call : Call) (form : Form) (xid : ℕ) (here : run ≡ front ++ marks.Submit mid call form (submissions.Accepted xid) ∷ back) where
  -- a link that goes on from it begins after that call, and so after it began
  begun_before : (began : List Mark) (old : BegunLink) → IsNextLink opened run old (record { link = mid; began = began }) → (x last : BegunLink) → x.link ≡ mid → IsNextLink opened run x last → (gap : List Mark) × (last.began ≡ began ++ gap)
  begun_before began old m x last same n = by (mark_in_first run began m.reopened.after front submit back m.reopened.is_cut here)
    where
      submit : Mark
      submit = marks.Submit mid call form (submissions.Accepted xid)

      left : IsReopened (opened mid) (opened last.link) mid run last.began
      left = subst (λ (l : ℕ). IsReopened (opened l) (opened last.link) l run last.began) same n.reopened

      in_time : InFirst last.began front submit
      in_time = submitted_in_time (opened mid) (opened last.link) mid run last.began front back call form xid left here

      by : InFirst began front submit ⊎ AfterFirst began front → (gap : List Mark) × (last.began ≡ began ++ gap)
      by (inl f) =
          let event : RunEvent = CallSubmitted (length (bytes_received mid Initiator front)) (record { xid = xid; call = call; form = form }) in
          let all = event_at_mark mid Initiator front submit event f.rest (submit_event mid front call form xid) in
          absurd (none_is (events mid Initiator front) event all.0 (sym all.1 ∙ ap (λ (r : List Mark). events mid Initiator r) (sym f.is) ∙ m.fresh.0))
      by (inr a) = (
        a.between ++ submit ∷ in_time.rest,
        in_time.is ∙ ap (λ (r : List Mark). r ++ submit ∷ in_time.rest) a.is ∙ append_assoc began a.between (submit ∷ in_time.rest),
      )

  module _ (first : ℕ) (began : List Mark) (old : BegunLink) (links : List BegunLink) (own : GoesOn opened run first (record { link = mid; began = began }) (old ∷ links)) where
    abbrev between : BegunLink
    between = record { link = mid; began = began }

    next_again : (x last : BegunLink) → x.link ≡ mid → IsNextLink opened run x last → IsNextLink opened run between last
    next_again x last same n =
        let gap = begun_before began old own.0 x last same n in
        record { gap = gap.0; later = gap.1; reopened = subst (λ (l : ℕ). IsReopened (opened l) (opened last.link) l run last.began) same n.reopened; fresh = n.fresh }

    -- a chain that ends at the link goes on to the first one
    record Longer (last : BegunLink) : Type 0 where
      newest : BegunLink
      others : List BegunLink
      goes_on : GoesOn opened run first last (newest ∷ others)

    longer : (last x : BegunLink) (others : List BegunLink) → GoesOn opened run mid last (x ∷ others) → Longer last
    longer last x [] (n, same) = record { newest = between; others = old ∷ links; goes_on = (next_again x last same n, own) }
    longer last x (y ∷ others) (n, g) = (let more = longer x y others g in record { newest = x; others = more.newest ∷ more.others; goes_on = (n, more.goes_on) })

    longer_to : (link : ℕ) → IsEarlier opened run mid link → IsLater opened run first link
    longer_to link e = by e.links e.goes_on
      where
        last : BegunLink
        last = record { link = link; began = e.began }

        by : (more : List BegunLink) → GoesOn opened run mid last more → IsLater opened run first link
        by [] same = record { began = began; old = old; links = links; goes_on = subst (λ (l : ℕ). GoesOn opened run first (record { link = l; began = began }) (old ∷ links)) (sym same) own }
        by (x ∷ others) g = (let more = longer last x others g in record { began = e.began; old = more.newest; links = more.others; goes_on = more.goes_on })

  -- so a link that goes on from this one goes on from those that this one goes on from
  pub later_than : (first link : ℕ) → IsLater opened run first mid → IsEarlier opened run mid link → IsLater opened run first link
  later_than first link l e = longer_to first l.began l.old l.links l.goes_on link e

  pub earlier_than : (first link : ℕ) → IsEarlier opened run first mid → IsEarlier opened run mid link → IsEarlier opened run first link
  earlier_than first link e next = by (same_or_later opened run first mid e)
    where
      by : (mid ≡ first) ⊎ IsLater opened run first mid → IsEarlier opened run first link
      by (inl same) = subst (λ (l : ℕ). IsEarlier opened run l link) same next
      by (inr l) = later_earlier opened run first link (later_than first link l next)
