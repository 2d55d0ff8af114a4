-- Each entry of the one journal was added by an Execute of a new call, at the journal's end.
use Rattle.std.proofs.Common.{◌≡◌, ℕ, zero, suc, ◌+◌, ◌<◌, Bool, true, false, cond, ◌&&◌, eqb, eqb-true, leb, List, [], ◌∷◌, ◌++◌, length, map, Option, None, Some, refl, sym, ap, subst, ◌∙◌, arith, append_assoc, append-nil, ◌⊎◌, inl, inr}
use Rattle.std.specs.Prelude.{slice_get}
use Rattle.std.proofs.lemmas.Bool.{and_parts}
use Rattle.nr_outside.specs.declared.moment.Moment.{Moment}
use Rattle.nr_reduce.specs.declared.mark.Entry.{Entry}
use Rattle.nr_reduce.specs.declared.mark.Mark.{Mark}
use Rattle.nr_reduce.specs.declared.mark.Mark.TheVariants as marks
use Rattle.nr_reduce.specs.declared.mark.TaggedEntry.{TaggedEntry}
use Rattle.nr_reduce.specs.Limits.{window}
use Rattle.nr_reduce.specs.KeepsCalls.{AddsOneAtMost}
use Rattle.nr_reduce.specs.NumberedJournal.{Standing, standing, standing_for, top_of, place_from, place_of_entry, kept_or_new, tagged, added_by, tagged_by, tagged_from}
use Rattle.nr_reduce.specs.NumberedJournal.Standing.{Old, Kept, New}
use Rattle.nr_laws.specs.PlainLinks.{server_with}

-- ---- Elements of two lists

pub get_left : {X : Type 0} (xs ys : List X) (i : ℕ) (x : X) → slice_get xs i ≡ Some x → slice_get (xs ++ ys) i ≡ Some x
get_left [] ys i x e = absurd (let wrong : None ≡ Some x = e in cc)
get_left (y ∷ xs) ys zero x e = e
get_left (y ∷ xs) ys (suc i) x e = get_left xs ys i x e

pub get_last : {X : Type 0} (xs : List X) (x : X) (ys : List X) → slice_get (xs ++ x ∷ ys) (length xs) ≡ Some x
get_last [] x ys = refl
get_last (y ∷ xs) x ys = get_last xs x ys

record InSecond {X : Type 0} (xs ys : List X) (i : ℕ) (x : X) : Type 0 where
  at : ℕ
  is : i ≡ length xs + at
  there : slice_get ys at ≡ Some x

get_either : {X : Type 0} (xs ys : List X) (i : ℕ) (x : X) → slice_get (xs ++ ys) i ≡ Some x → (slice_get xs i ≡ Some x) ⊎ InSecond xs ys i x
get_either [] ys i x e = inr (record { at = i; is = omega arith; there = e })
get_either (y ∷ xs) ys zero x e = inl e
get_either (y ∷ xs) ys (suc i) x e = by (get_either xs ys i x e)
  where
    by : (slice_get xs i ≡ Some x) ⊎ InSecond xs ys i x → (slice_get xs i ≡ Some x) ⊎ InSecond (y ∷ xs) ys (suc i) x
    by (inl h) = inl h
    by (inr h) = inr (record { at = h.at; is = (let same = h.is in omega (arith, same)); there = h.there })

-- the first of two parts by its length
pub same_front : {X : Type 0} (xs : List X) (x : X) (ys zs : List X) (z : X) (ws : List X) → xs ++ x ∷ ys ≡ zs ++ z ∷ ws → length xs ≡ length zs → (xs ≡ zs) × (x ≡ z)
same_front [] x ys [] z ws e n = (refl, cc)
same_front [] x ys (y ∷ zs) z ws e n = absurd (omega (arith, n))
same_front (y ∷ xs) x ys [] z ws e n = absurd (omega (arith, n))
same_front (y ∷ xs) x ys (w ∷ zs) z ws e n =
    let rest = same_front xs x ys zs z ws (let tails : xs ++ x ∷ ys ≡ zs ++ z ∷ ws = cc in tails) (omega (arith, n)) in
    let head : y ≡ w = cc in
    ((λ i. head i ∷ rest.0 i), rest.1)

module _ (reply_to : List Entry → Moment → List ℕ → Option (List ℕ)) (adds : Moment → List ℕ → List ℕ → List Entry) (number : ℕ → ℕ) where
  abbrev pub journal_from : List TaggedEntry → List Mark → List TaggedEntry
  journal_from T run = tagged_from (server_with reply_to adds) number T run

  -- ---- The journal of more marks

  pub journal_parts : (T : List TaggedEntry) (run more : List Mark) → journal_from T (run ++ more) ≡ journal_from (journal_from T run) more
  journal_parts T [] more = refl
  journal_parts T (mark ∷ run) more = journal_parts (T ++ tagged_by (server_with reply_to adds) number T mark) run more

  pub journal_more : (T : List TaggedEntry) (run : List Mark) → (rest : List TaggedEntry) × (journal_from T run ≡ T ++ rest)
  journal_more T [] = ([], sym (append-nil T))
  journal_more T (mark ∷ run) =
      let own : List TaggedEntry = tagged_by (server_with reply_to adds) number T mark in
      let later = journal_more (T ++ own) run in
      (own ++ later.0, later.1 ∙ append_assoc T own later.0)

  -- ---- The Execute that added an entry

  pub record AddedBy (T : List TaggedEntry) (run : List Mark) (place : ℕ) (t : TaggedEntry) : Type 0 where
    pub before : List Mark
    pub after : List Mark
    pub link : ℕ
    pub xid : ℕ
    pub moment : Moment
    pub payload : List ℕ
    pub at : ℕ
    pub reply : List ℕ
    pub entry : Entry
    pub is : run ≡ before ++ marks.Execute link xid moment payload at reply ∷ after
    pub new : standing_for (journal_from T before) (number link) xid ≡ New
    pub adds_it : adds moment payload reply ≡ entry ∷ []
    pub own : t ≡ tagged (number link) xid entry
    pub place_is : place ≡ length (journal_from T before)

  added_later : (T : List TaggedEntry) (mark : Mark) (run : List Mark) (place : ℕ) (t : TaggedEntry) → AddedBy (T ++ tagged_by (server_with reply_to adds) number T mark) run place t → AddedBy T (mark ∷ run) place t
  added_later T mark run place t h = record {
    before = mark ∷ h.before;
    after = h.after;
    link = h.link;
    xid = h.xid;
    moment = h.moment;
    payload = h.payload;
    at = h.at;
    reply = h.reply;
    entry = h.entry;
    is = ap (λ (r : List Mark). mark ∷ r) h.is;
    new = h.new;
    adds_it = h.adds_it;
    own = h.own;
    place_is = h.place_is;
  }

  none_here : (T : List TaggedEntry) (mark : Mark) (run : List Mark) (place : ℕ) (t : TaggedEntry) (own : List TaggedEntry) → own ≡ [] → InSecond T own place t → AddedBy T (mark ∷ run) place t
  none_here T mark run place t own none h = absurd (let wrong : None ≡ Some t = sym (ap (λ (xs : List TaggedEntry). slice_get xs h.at) none) ∙ h.there in cc)

  added_here : (T : List TaggedEntry) (mark : Mark) (run : List Mark) (place : ℕ) (t : TaggedEntry) → AddsOneAtMost adds → InSecond T (tagged_by (server_with reply_to adds) number T mark) place t → AddedBy T (mark ∷ run) place t
  added_here T (marks.Execute link xid moment payload at reply) run place t few h = by (standing_for T (number link) xid) refl h
    where
      mark : Mark
      mark = marks.Execute link xid moment payload at reply

      one : (es : List Entry) → adds moment payload reply ≡ es → length es < 2 → standing_for T (number link) xid ≡ New → InSecond T (map (tagged (number link) xid) es) place t → AddedBy T (mark ∷ run) place t
      one [] is lt new h = none_here T mark run place t [] refl h
      one (e ∷ f ∷ es) is lt new h = absurd (omega (arith, lt))
      one (e ∷ []) is lt new h = by_place h.at refl
        where
          by_place : (i : ℕ) → h.at ≡ i → AddedBy T (mark ∷ run) place t
          by_place (suc i) at_is = absurd (let wrong : None ≡ Some t = sym (ap (λ (n : ℕ). slice_get (tagged (number link) xid e ∷ []) n) at_is) ∙ h.there in cc)
          by_place zero at_is =
              let same : Some (tagged (number link) xid e) ≡ Some t = sym (ap (λ (n : ℕ). slice_get (tagged (number link) xid e ∷ []) n) at_is) ∙ h.there in
              let place_is = h.is in
              record {
                before = [];
                after = run;
                link = link;
                xid = xid;
                moment = moment;
                payload = payload;
                at = at;
                reply = reply;
                entry = e;
                is = refl;
                new = new;
                adds_it = is;
                own = (let own : tagged (number link) xid e ≡ t = cc in sym own);
                place_is = omega (arith, place_is, at_is);
              }

      by : (s : Standing) → standing_for T (number link) xid ≡ s → InSecond T (added_by s (map (tagged (number link) xid) (adds moment payload reply))) place t → AddedBy T (mark ∷ run) place t
      by (Old top) is h = none_here T mark run place t [] refl h
      by (Kept place') is h = none_here T mark run place t [] refl h
      by New is h = one (adds moment payload reply) refl (few moment payload reply) is h
  added_here T (marks.Submit l call form answer) run place t few h = none_here T (marks.Submit l call form answer) run place t [] refl h
  added_here T (marks.Wrote l side bytes) run place t few h = none_here T (marks.Wrote l side bytes) run place t [] refl h
  added_here T (marks.Fed l side bytes) run place t few h = none_here T (marks.Fed l side bytes) run place t [] refl h
  added_here T (marks.Done l xid outcome) run place t few h = none_here T (marks.Done l xid outcome) run place t [] refl h
  added_here T (marks.Lost l xid) run place t few h = none_here T (marks.Lost l xid) run place t [] refl h
  added_here T (marks.Forget l xid) run place t few h = none_here T (marks.Forget l xid) run place t [] refl h
  added_here T (marks.Revoke l xid bytes) run place t few h = none_here T (marks.Revoke l xid bytes) run place t [] refl h
  added_here T (marks.Drop l) run place t few h = none_here T (marks.Drop l) run place t [] refl h
  added_here T (marks.Told l what) run place t few h = none_here T (marks.Told l what) run place t [] refl h

  pub added_by_mark : (T : List TaggedEntry) (run : List Mark) (place : ℕ) (t : TaggedEntry) → AddsOneAtMost adds → slice_get (journal_from T run) place ≡ Some t → (slice_get T place ≡ Some t) ⊎ AddedBy T run place t
  added_by_mark T [] place t few there = inl there
  added_by_mark T (mark ∷ run) place t few there = by (added_by_mark (T ++ tagged_by (server_with reply_to adds) number T mark) run place t few there)
    where
      own : List TaggedEntry
      own = tagged_by (server_with reply_to adds) number T mark

      here : (slice_get T place ≡ Some t) ⊎ InSecond T own place t → (slice_get T place ≡ Some t) ⊎ AddedBy T (mark ∷ run) place t
      here (inl old) = inl old
      here (inr new) = inr (added_here T mark run place t few new)

      by : (slice_get (T ++ own) place ≡ Some t) ⊎ AddedBy (T ++ own) run place t → (slice_get T place ≡ Some t) ⊎ AddedBy T (mark ∷ run) place t
      by (inl old) = here (get_either T own place t old)
      by (inr later) = inr (added_later T mark run place t later)

-- ---- The entry of a kept call

pub record EntryAt (T : List TaggedEntry) (client xid place : ℕ) : Type 0 where
  pub own : TaggedEntry
  pub there : slice_get T place ≡ Some own
  pub client_is : own.client ≡ client
  pub xid_is : own.xid ≡ xid

record EntryFrom (at : ℕ) (T : List TaggedEntry) (client xid place : ℕ) : Type 0 where
  offset : ℕ
  is : place ≡ at + offset
  entry : EntryAt T client xid offset

entry_from : (at client xid : ℕ) (T : List TaggedEntry) (place : ℕ) → place_from at client xid T ≡ Some place → EntryFrom at T client xid place
entry_from at client xid [] place e = absurd cc
entry_from at client xid (t ∷ T) place e = by (eqb t.client client && eqb t.xid xid) refl e (entry_from (at + 1) client xid T place)
  where
    by : (b : Bool) → (eqb t.client client && eqb t.xid xid) ≡ b → cond b (Some at) (place_from (at + 1) client xid T) ≡ Some place → (place_from (at + 1) client xid T ≡ Some place → EntryFrom (at + 1) T client xid place) → EntryFrom at (t ∷ T) client xid place
    by true is e later =
        let both = and_parts (eqb t.client client) (eqb t.xid xid) is in
        let same : at ≡ place = cc in
        record { offset = 0; is = omega (arith, same); entry = record { own = t; there = refl; client_is = eqb-true t.client client both.0; xid_is = eqb-true t.xid xid both.1 } }
    by false is e later =
        let h = later e in
        let more = h.is in
        record { offset = suc h.offset; is = omega (arith, more); entry = record { own = h.entry.own; there = h.entry.there; client_is = h.entry.client_is; xid_is = h.entry.xid_is } }

kept_place : (T : List TaggedEntry) (client xid place : ℕ) → standing T client xid ≡ Kept place → place_from 0 client xid T ≡ Some place
unfolding standing place_of_entry
kept_place T client xid place is = by (leb (xid + window) (top_of T client)) (place_from 0 client xid T) refl is
  where
    by : (b : Bool) (p : Option ℕ) → place_from 0 client xid T ≡ p → cond b (Old (top_of T client)) (kept_or_new p) ≡ Kept place → place_from 0 client xid T ≡ Some place
    by true p own is = absurd cc
    by false None own is = absurd cc
    by false (Some at) own is = (let same : at ≡ place = cc in own ∙ ap (λ (n : ℕ). Some n) same)

pub kept_entry : (T : List TaggedEntry) (client xid place : ℕ) → standing_for T client xid ≡ Kept place → EntryAt T client xid place
kept_entry T client xid place is = by (eqb client 0) is
  where
    by : (b : Bool) → cond b New (standing T client xid) ≡ Kept place → EntryAt T client xid place
    by true is = absurd cc
    by false is =
        let h = entry_from 0 client xid T place (kept_place T client xid place is) in
        let more = h.is in
        subst (EntryAt T client xid) (let same : h.offset ≡ place = omega (arith, more) in same) h.entry
