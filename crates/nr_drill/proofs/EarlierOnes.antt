-- The links of a client in a drill, as the laws of numbered clients say it: of two of them one goes on from the other, each goes on from those alone
-- that have a smaller number, and two links whose servers heard the same number are of one client.
use Rattle.std.specs.List.{AllByRecursion}
use Rattle.std.proofs.Common.{◌≡◌, ◌≢◌, ℕ, zero, suc, ◌+◌, ◌≤◌, ◌<◌, arith, List, [], ◌∷◌, ◌++◌, refl, sym, ap, subst, ◌∙◌, ◌⊎◌, inl, inr}
use Rattle.nr_wire.specs.declared.hello.Side.TheVariants.{Initiator}
use Rattle.nr_link.specs.Frames.{frames_of}
use Rattle.nr_wire.specs.Stream.{split}
use Rattle.nr_reduce.specs.declared.mark.Mark.{Mark}
use Rattle.nr_reduce.specs.declared.mark.LinkParameters.{LinkParameters}
use Rattle.nr_reduce.specs.Events.{events}
use Rattle.nr_reduce.specs.NumberedJournal.{number_in_frames, number_heard}
use Rattle.nr_reduce.proofs.LeftClients.{nothing_late}
use Rattle.nr_laws.proofs.Following.{events_more}
use Rattle.nr_laws.specs.OnceEach.{BegunLink, IsNextLink, GoesOn, IsEarlier, OneClientEach}
use Rattle.nr_drill.specs.Drill.{link_of, Setting, client_of}
use Rattle.nr_drill.proofs.Links.{NoMarkOf, map_all, none_sent}
use Rattle.nr_drill.proofs.BegunLinks.{next_number, numbered_owner}
use Rattle.nr_drill.proofs.BegunOrder.{LinksInOrder, IsIn, step_is_next, none_begun, le_or}

-- ===== lists

abbrev pub first_or : {X : Type 0} → List X → X → X
first_or [] other = other
first_or (x ∷ xs) other = x

abbrev pub rest_of : {X : Type 0} → List X → List X
rest_of [] = []
rest_of (x ∷ xs) = xs

-- one of two fronts of a list is a front of the other
front_or : {X : Type 0} (xs ys us vs : List X) → xs ++ us ≡ ys ++ vs → ((m : List X) × (xs ≡ ys ++ m)) ⊎ ((m : List X) × (ys ≡ xs ++ m))
front_or [] ys us vs e = inr (ys, refl)
front_or (x ∷ xs) [] us vs e = inl (x ∷ xs, refl)
front_or {X = X} (x ∷ xs) (y ∷ ys) us vs e = by (ap (λ (all : List X). first_or all x) e) (front_or xs ys us vs (ap (λ (all : List X). rest_of all) e))
  where
    by : x ≡ y → ((m : List X) × (xs ≡ ys ++ m)) ⊎ ((m : List X) × (ys ≡ xs ++ m)) → ((m : List X) × (x ∷ xs ≡ y ∷ (ys ++ m))) ⊎ ((m : List X) × (y ∷ ys ≡ x ∷ (xs ++ m)))
    by same (inl p) = inl (p.0, (λ i. same i ∷ p.1 i))
    by same (inr p) = inr (p.0, (λ i. sym same i ∷ p.1 i))

pub front_none : (link : ℕ) (run more : List Mark) → NoMarkOf link (run ++ more) → NoMarkOf link run
front_none link [] more h = tt
front_none link (mark ∷ run) more h = (h.0, front_none link run more h.1)

none_first : {X : Type 0} (xs ys : List X) → xs ++ ys ≡ [] → xs ≡ []
none_first [] ys e = refl
none_first (x ∷ xs) ys e = absurd cc

-- ===== a drill whose links are in order

module _ (t : Setting) (clients links : ℕ) (lasts : List ℕ) (run : List Mark) (h : LinksInOrder t clients links lasts run)
    (wrote : (link : ℕ) → IsIn links link → events link Initiator run ≢ [])
    (outside : (link : ℕ) → (IsIn links link → ⊥) → ((t.opened link).client.number ≡ 0) ⊎ (clients < (t.opened link).client.number)) where
  abbrev begun : ℕ → BegunLink
  begun link = record { link = link; began = h.began link }

  pub next_of : (link : ℕ) → IsIn links link → clients < link → IsNextLink t.opened run (begun (h.before link)) (begun link)
  next_of link is more =
      let f = h.follows link is more in
      step_is_next t.opened run (h.before link) link (h.began (h.before link)) (h.began link) f.0 f.1 (h.steps link is more)

  -- ===== a later link of a client goes on from an earlier one

  chain : (fuel link other : ℕ) → other ≤ fuel → IsIn links link → IsIn links other → client_of t link ≡ client_of t other → link ≤ other → (olds : List BegunLink) × GoesOn t.opened run link (begun other) olds
  chain zero link other few is other_is same le = absurd (let low = other_is.0 in omega (arith, low, few))
  chain (suc fuel) link other few is other_is same le = by (le_or other link) (le_or other clients) (λ more le_old. chain fuel link (h.before other) (lower more) is (h.older other other_is more).0 (same ∙ sym (h.older other other_is more).2) le_old)
    where
      lower : clients < other → h.before other ≤ fuel
      lower more = (let lt = (h.older other other_is more).1 in omega (arith, lt, few))

      by : (other ≤ link) ⊎ (link < other) → (other ≤ clients) ⊎ (clients < other) →
          (clients < other → link ≤ h.before other → (olds : List BegunLink) × GoesOn t.opened run link (begun (h.before other)) olds) → (olds : List BegunLink) × GoesOn t.opened run link (begun other) olds
      by (inl at_most) place rest = ([], (let at : other ≡ link = omega (arith, at_most, le) in at))
      by (inr lt) (inl first) rest =
          let own = (h.firsts other other_is first).0 in
          let mine = (h.firsts link is (omega (arith, lt, first))).0 in
          absurd (omega (arith, own, mine, same, lt))
      by (inr lt) (inr more) rest =
          let p = rest more (h.between link other is other_is more lt same) in
          (begun (h.before other) ∷ p.0, (next_of other other_is more, p.1))

  pub earlier_one : (link other : ℕ) → IsIn links link → IsIn links other → client_of t link ≡ client_of t other → link ≤ other → IsEarlier t.opened run link other
  earlier_one link other is other_is same le =
      let p = chain other link other (omega arith) is other_is same le in
      record { began = h.began other; links = p.0; goes_on = p.1 }

  -- ===== and from no other one

  -- a link with the number of a client of the drill is one of the drill
  within_or : (link : ℕ) → IsIn links link ⊎ (IsIn links link → ⊥)
  within_or link = by (le_or 1 link) (le_or link links)
    where
      by : (1 ≤ link) ⊎ (link < 1) → (link ≤ links) ⊎ (links < link) → IsIn links link ⊎ (IsIn links link → ⊥)
      by (inl some) (inl few) = inl (some, few)
      by (inr none) few = inr (λ is. (let low = is.0 in omega (arith, low, none)))
      by (inl some) (inr many) = inr (λ is. (let most = is.1 in omega (arith, most, many)))

  record IsOld (old link : ℕ) : Type 0 where
    is : IsIn links old
    same : client_of t old ≡ client_of t link
    lower : old < link

  next_rises : (old next : BegunLink) → IsNextLink t.opened run old next → IsIn links next.link → IsOld old.link next.link
  next_rises old next n is = by (within_or old.link)
    where
      number : (t.opened next.link).client.number ≡ (t.opened old.link).client.number
      number = ap (λ (o : LinkParameters). o.client.number) n.reopened.next ∙ next_number (t.opened old.link) old.link next.began

      some : (t.opened next.link).client.number ≢ 0
      some none = n.reopened.numbered (sym number ∙ none)

      owner : client_of t next.link ≡ (t.opened next.link).client.number
      owner = numbered_owner (t.opened next.link) next.link some

      old_owner : client_of t old.link ≡ (t.opened old.link).client.number
      old_owner = numbered_owner (t.opened old.link) old.link n.reopened.numbered

      one_client : client_of t old.link ≡ client_of t next.link
      one_client = old_owner ∙ sym number ∙ sym owner

      not_outside : ((t.opened old.link).client.number ≡ 0) ⊎ (clients < (t.opened old.link).client.number) → ⊥
      not_outside (inl none) = n.reopened.numbered none
      not_outside (inr more) = (let high = (h.owners next.link is).1 in omega (arith, high, owner, number, more))

      -- an older link that began later would have had events before it was left
      later : IsIn links old.link → next.link < old.link → ⊥
      later old_is lt = cases (le_or old.link clients)
        where
          after : clients < old.link → ⊥
          after more = fronts (front_or next.began (h.began old.link) n.reopened.after (h.steps old.link old_is more).after (sym n.reopened.is_cut ∙ (h.steps old.link old_is more).is_cut))
            where
              fronts : ((m : List Mark) × (next.began ≡ h.began old.link ++ m)) ⊎ ((m : List Mark) × (h.began old.link ≡ next.began ++ m)) → ⊥
              fronts (inl p) =
                  let rest = events_more next.link Initiator (h.began old.link) p.0 in
                  h.wrote next.link old.link is old_is more lt
                  (none_first (events next.link Initiator (h.began old.link)) rest.0 (sym rest.1 ∙ ap (λ (r : List Mark). events next.link Initiator r) (sym p.1) ∙ n.fresh.0))
              fronts (inr p) =
                  let none : NoMarkOf old.link next.began = front_none old.link next.began p.0 (subst (NoMarkOf old.link) p.1 (h.steps old.link old_is more).fresh) in
                  wrote old.link old_is (nothing_late (t.opened old.link) (t.opened next.link) old.link run next.began n.reopened (none_begun old.link next.began none).0)

          cases : (old.link ≤ clients) ⊎ (clients < old.link) → ⊥
          cases (inl first) =
              let own = (h.firsts old.link old_is first).0 in
              let mine = (h.firsts next.link is (omega (arith, lt, first))).0 in
              omega (arith, own, mine, one_client, lt)
          cases (inr more) = after more

      -- one link doesn't go on from itself
      itself_not : next.link ≡ old.link → ⊥
      itself_not same = wrote next.link is
          (ap (λ (l : ℕ). events l Initiator run) same
          ∙ nothing_late (t.opened old.link) (t.opened next.link) old.link run next.began n.reopened (ap (λ (l : ℕ). events l Initiator next.began) (sym same) ∙ n.fresh.0))

      place : IsIn links old.link → (next.link ≤ old.link) ⊎ (old.link < next.link) → (old.link ≤ next.link) ⊎ (next.link < old.link) → IsOld old.link next.link
      place old_is (inr lt) other = record { is = old_is; same = one_client; lower = lt }
      place old_is (inl le) (inl back) = absurd (itself_not (omega (arith, le, back)))
      place old_is (inl le) (inr gt) = absurd (later old_is gt)

      by : IsIn links old.link ⊎ (IsIn links old.link → ⊥) → IsOld old.link next.link
      by (inr not) = absurd (not_outside (outside old.link not))
      by (inl old_is) = place old_is (le_or next.link old.link) (le_or old.link next.link)

  pub record IsOlder (first link : ℕ) : Type 0 where
    pub is : IsIn links first
    pub same : client_of t first ≡ client_of t link
    pub lower : first ≤ link

  older_than : (first : ℕ) (link : BegunLink) (olds : List BegunLink) → GoesOn t.opened run first link olds → IsIn links link.link → IsOlder first link.link
  older_than first link [] g is = record { is = subst (IsIn links) g is; same = ap (client_of t) (sym g); lower = (let same = g in omega (arith, same)) }
  older_than first link (old ∷ olds) g is =
      let o = next_rises old link g.0 is in
      let rest = older_than first old olds g.1 o.is in
      let lower = rest.lower in
      let lt = o.lower in
      record { is = rest.is; same = rest.same ∙ o.same; lower = omega (arith, lower, lt) }

  pub earlier_is : (first link : ℕ) → IsIn links link → IsEarlier t.opened run first link → IsOlder first link
  earlier_is first link is e = older_than first (record { link = link; began = e.began }) e.links e.goes_on is

  -- ===== order

  pub earlier_order : (a b link : ℕ) → IsIn links link → IsEarlier t.opened run a link → IsEarlier t.opened run b link → IsEarlier t.opened run a b ⊎ IsEarlier t.opened run b a
  earlier_order a b link is ea eb = by (le_or a b)
    where
      oa : IsOlder a link
      oa = earlier_is a link is ea

      ob : IsOlder b link
      ob = earlier_is b link is eb

      same : client_of t a ≡ client_of t b
      same = oa.same ∙ sym ob.same

      by : (a ≤ b) ⊎ (b < a) → IsEarlier t.opened run a b ⊎ IsEarlier t.opened run b a
      by (inl le) = inl (earlier_one a b oa.is ob.is same le)
      by (inr lt) = inr (earlier_one b a ob.is oa.is (sym same) (omega (arith, lt)))

  pub earlier_further : (a b link : ℕ) → IsIn links link → IsEarlier t.opened run a b → IsEarlier t.opened run b link → IsEarlier t.opened run a link
  earlier_further a b link is ea eb =
      let ob = earlier_is b link is eb in
      let oa = earlier_is a b ob.is ea in
      let one = oa.lower in
      let two = ob.lower in
      earlier_one a link oa.is is (oa.same ∙ ob.same) (omega (arith, one, two))

  -- ===== one client each

  -- the servers of the links heard the numbers of their clients, and there are marks of such links alone
  module _ (numbers : (link : ℕ) → IsIn links link → number_heard run link ≡ (t.opened link).client.number) (within : AllByRecursion (λ (mark : Mark). IsIn links (link_of mark)) run) where
    none_number : number_in_frames (frames_of Initiator []) ≡ 0
    unfolding frames_of split
    none_number = refl

    none_heard : (link : ℕ) → (IsIn links link → ⊥) → number_heard run link ≡ 0
    unfolding number_heard
    none_heard link not =
        let apart : NoMarkOf link run = map_all (λ (mark : Mark). IsIn links (link_of mark)) (λ (mark : Mark). link_of mark ≢ link) run (λ mark is same. not (subst (IsIn links) same is)) within in
        ap (λ (xs : List ℕ). number_in_frames (frames_of Initiator xs)) (none_sent link run apart).3 ∙ none_number

    pub heard_within : (link : ℕ) → number_heard run link ≢ 0 → IsIn links link
    heard_within link some = by (within_or link)
      where
        by : IsIn links link ⊎ (IsIn links link → ⊥) → IsIn links link
        by (inl is) = is
        by (inr not) = absurd (some (none_heard link not))

    pub heard_owner : (link : ℕ) → IsIn links link → number_heard run link ≢ 0 → client_of t link ≡ number_heard run link
    heard_owner link is some = numbered_owner (t.opened link) link (λ none. some (numbers link is ∙ none)) ∙ sym (numbers link is)

    pub one_client_each : OneClientEach t.opened run
    one_client_each link other some same = by (le_or link other)
      where
        other_some : number_heard run other ≢ 0
        other_some none = some (same ∙ none)

        is : IsIn links link
        is = heard_within link some

        other_is : IsIn links other
        other_is = heard_within other other_some

        one : client_of t link ≡ client_of t other
        one = heard_owner link is some ∙ same ∙ sym (heard_owner other other_is other_some)

        by : (link ≤ other) ⊎ (other < link) → IsEarlier t.opened run link other ⊎ IsEarlier t.opened run other link
        by (inl le) = inl (earlier_one link other is other_is one le)
        by (inr lt) = inr (earlier_one other link other_is is (sym one) (omega (arith, lt)))
