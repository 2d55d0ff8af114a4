-- Nothing happens on a link once a later one of its client began. So its server executes no call once its client has left it.
use Rattle.std.specs.List.{AllByRecursion}
use Rattle.std.proofs.Common.{◌≡◌, ◌≢◌, ℕ, zero, suc, ◌≤◌, ◌<◌, arith, List, [], ◌∷◌, ◌++◌, refl, sym, ap, subst, ◌∙◌, append_assoc, ◌⊎◌, inl, inr}
use Rattle.std.proofs.lemmas.List.{append_cancel_left}
use Rattle.nr_wire.specs.declared.hello.Side.TheVariants.{Initiator, Responder}
use Rattle.nr_reduce.specs.declared.mark.Mark.{Mark}
use Rattle.nr_reduce.specs.declared.mark.Mark.TheVariants as marks
use Rattle.nr_reduce.specs.Events.{events}
use Rattle.nr_laws.specs.OnceEach.{ExecutesUntilLeft}
use Rattle.nr_drill.specs.Drill.{link_of, Setting, client_of}
use Rattle.nr_drill.proofs.Links.{NoMarkOf, map_all}
use Rattle.nr_drill.proofs.BegunOrder.{LinksInOrder, IsIn, none_begun, le_or}
use Rattle.nr_drill.proofs.EarlierOnes.{first_or, rest_of, front_none, IsOlder, earlier_is}

rest_none : (link : ℕ) (front rest : List Mark) → NoMarkOf link (front ++ rest) → NoMarkOf link rest
rest_none link [] rest none = none
rest_none link (mark ∷ front) rest none = rest_none link front rest none.1

-- a mark of a link that has no mark in a rest stands before that rest
before_rest : (link : ℕ) (front rest before after : List Mark) (mark : Mark) → front ++ rest ≡ before ++ mark ∷ after → NoMarkOf link rest → link_of mark ≡ link → (mid : List Mark) × (front ≡ before ++ mid)
before_rest link [] rest before after mark e none own = absurd ((rest_none link before (mark ∷ after) (subst (NoMarkOf link) e none)).0 own)
before_rest link (m ∷ front) rest [] after mark e none own = (m ∷ front, refl)
before_rest link (m ∷ front) rest (b ∷ before) after mark e none own =
    let same : m ≡ b = ap (λ (all : List Mark). first_or all m) e in
    let p = before_rest link front rest before after mark (ap (λ (all : List Mark). rest_of all) e) none own in
    (p.0, (λ i. same i ∷ p.1 i))

module _ (t : Setting) (clients links : ℕ) (lasts : List ℕ) (run : List Mark) (h : LinksInOrder t clients links lasts run) where
  -- a later link of a client is none of the first ones
  not_first : (link other : ℕ) → IsIn links link → IsIn links other → client_of t link ≡ client_of t other → link < other → clients < other
  not_first link other is other_is same lt = by (le_or other clients)
    where
      by : (other ≤ clients) ⊎ (clients < other) → clients < other
      by (inl first) =
          let own = (h.firsts other other_is first).0 in
          let mine = (h.firsts link is (omega (arith, lt, first))).0 in
          absurd (omega (arith, own, mine, same, lt))
      by (inr more) = more

  -- since a link began the run has no mark of this one
  record IsQuietSince (link other : ℕ) : Type 0 where
    rest : List Mark
    is : run ≡ h.began other ++ rest
    quiet : NoMarkOf link rest

  quiet_within : (fuel link other : ℕ) → other ≤ fuel → IsIn links link → IsIn links other → client_of t link ≡ client_of t other → link < other → IsQuietSince link other
  quiet_within zero link other few is other_is same lt = absurd (omega (arith, lt, few))
  quiet_within (suc fuel) link other few is other_is same lt =
      by (le_or (h.before other) link) (λ further. quiet_within fuel link (h.before other) lower is old.0 (same ∙ sym old.2) further)
    where
      more : clients < other
      more = not_first link other is other_is same lt

      old : IsIn links (h.before other) × (h.before other < other) × (client_of t (h.before other) ≡ client_of t other)
      old = h.older other other_is more

      lower : h.before other ≤ fuel
      lower = (let less = old.1 in omega (arith, less, few))

      by : (h.before other ≤ link) ⊎ (link < h.before other) → (link < h.before other → IsQuietSince link (h.before other)) → IsQuietSince link other
      by (inl le) rest =
          let least = h.between link other is other_is more lt same in
          let own : h.before other ≡ link = omega (arith, le, least) in
          let st = h.steps other other_is more in
          record { rest = st.after; is = st.is_cut; quiet = subst (λ (l : ℕ). NoMarkOf l st.after) own st.quiet }
      by (inr further) rest =
          let q = rest further in
          let st = h.steps other other_is more in
          let f = h.follows other other_is more in
          let cut : run ≡ h.began (h.before other) ++ (f.0 ++ st.after) = st.is_cut ∙ ap (λ (r : List Mark). r ++ st.after) f.1 ∙ append_assoc (h.began (h.before other)) f.0 st.after in
          let same_rest = append_cancel_left (h.began (h.before other)) q.rest (f.0 ++ st.after) (sym q.is ∙ cut) in
          record { rest = st.after; is = st.is_cut; quiet = rest_none link f.0 st.after (subst (NoMarkOf link) same_rest q.quiet) }

  quiet_since : (link other : ℕ) → IsIn links link → IsIn links other → client_of t link ≡ client_of t other → link < other → IsQuietSince link other
  quiet_since link other is other_is same lt = quiet_within other link other (omega arith) is other_is same lt

  -- ===== of the marks of a drill

  module _ (wrote : (link : ℕ) → IsIn links link → events link Initiator run ≢ []) (outside : (link : ℕ) → (IsIn links link → ⊥) → ((t.opened link).client.number ≡ 0) ⊎ (clients < (t.opened link).client.number))
      (within : AllByRecursion (λ (mark : Mark). IsIn links (link_of mark)) run) where
    -- a link on which something happened is one of the drill
    pub happened_within : (link : ℕ) (before after : List Mark) → run ≡ before ++ after → events link Responder before ≢ [] → IsIn links link
    happened_within link before after cut some = by (le_or 1 link) (le_or link links)
      where
        none : (IsIn links link → ⊥) → ⊥
        none not =
            let apart : NoMarkOf link run = map_all (λ (mark : Mark). IsIn links (link_of mark)) (λ (mark : Mark). link_of mark ≢ link) run (λ mark is same. not (subst (IsIn links) same is)) within in
            some (none_begun link before (front_none link before after (subst (NoMarkOf link) cut apart))).1

        by : (1 ≤ link) ⊎ (link < 1) → (link ≤ links) ⊎ (links < link) → IsIn links link
        by (inl low) (inl few) = (low, few)
        by (inr below) few = absurd (none (λ is. (let low = is.0 in omega (arith, low, below))))
        by (inl low) (inr more) = absurd (none (λ is. (let most = is.1 in omega (arith, most, more))))

    pub executes_until_left : (link : ℕ) → ExecutesUntilLeft t.opened run link
    executes_until_left link before xid moment payload place reply at left = by (le_or left.next link)
      where
        mark : Mark
        mark = marks.Execute link xid moment payload place reply

        is : IsIn links left.next
        is = happened_within left.next before (mark ∷ at.after) at.is left.begun

        older : IsOlder t clients links lasts run h wrote outside link left.next
        older = earlier_is t clients links lasts run h wrote outside link left.next is left.goes_on

        by : (left.next ≤ link) ⊎ (link < left.next) → ⊥
        by (inl le) = left.other (let lower = older.lower in omega (arith, le, lower))
        by (inr lt) =
            let q = quiet_since link left.next older.is is older.same lt in
            let front = before_rest link (h.began left.next) q.rest before at.after mark (sym q.is ∙ at.is) q.quiet refl in
            let fresh = (h.steps left.next is (not_first link left.next older.is is older.same lt)).fresh in
            left.begun (none_begun left.next before (front_none left.next before front.0 (subst (NoMarkOf left.next) front.1 fresh))).1
