-- A path that is walked by LOOKUPs leads to the handle of the last.
use Rattle.std.proofs.Common.{◌≡◌, ℕ, ◌≤◌, Bool, true, false, cond, ltb, List, [], ◌∷◌, ◌++◌, length, Some, Result, Ok, Err, refl, ap, sym, ◌∙◌, subst, arith, append_assoc, append-nil}
use Rattle.std.specs.Prelude.{⊤}
use Rattle.std.proofs.lemmas.Bool.{ltb-false}
use Rattle.nr_nfs_base.specs.Limits.{name_length_max}
use Rattle.nr_reduce.specs.declared.call.Outcome.{Outcome}
use Rattle.nr_reduce.specs.declared.mark.Entry.{Entry}
use Rattle.nr_plain.specs.Journal.{tree_at}
use Rattle.nr_plain.specs.Setup.{Setup}
use Rattle.nr_client.specs.declared.client_end.ClientEnd.{ClientEnd}
use Rattle.nr_client.specs.declared.client_end.ClientEnd.TheVariants as client
use Rattle.nr_client.specs.Following.{go_on}
use Rattle.nr_client.specs.Following.Next.{Returns}
use Rattle.nr_client.specs.Paths.{component_max, components_of, names_in, path_names, with_name}
use Rattle.nr_client.specs.Requests.{lookup_call}
use Rattle.nr_client.specs.Walking.{object_result, parent_from, walk_from}
use Rattle.nr_reply_laws.specs.Replies.{AreIds}
use Rattle.nr_pair_laws.specs.FilesAt.{KeepPath, handle_along, handle_in}
use Rattle.nr_pair_laws.specs.Pairs.{place_after}
use Rattle.nr_pair_laws.specs.PutThenGet.{AnsweredInOrder, AnsweredSince, root_handle}
use Rattle.nr_pair_laws.proofs.Calls.{looked_up}
use Rattle.nr_pair_laws.proofs.Kept.{kept}
use Rattle.nr_pair_laws.proofs.Paths.{along_name}

-- ---- Names

-- each name of a path is short enough
abbrev pub AreShort : List (List ℕ) → Type 0
AreShort [] = ⊤
AreShort (name ∷ names) = (length name ≤ name_length_max) × AreShort names

names_short : (components : List (ℕ × List ℕ)) (names : List (List ℕ)) → names_in components ≡ Ok names → AreShort names
names_short [] names is = let none : [] ≡ names = cc in subst AreShort none tt
names_short (component ∷ rest) names is = by (ltb component_max (length component.1)) refl (names_in rest) refl is (λ others same. names_short rest others same)
  where
    by : (b : Bool) → ltb component_max (length component.1) ≡ b → (r : Result (List (List ℕ)) ClientEnd) → names_in rest ≡ r
        → cond b (Err (client.BadPath component.0)) (with_name component.1 r) ≡ Ok names → ((others : List (List ℕ)) → names_in rest ≡ Ok others → AreShort others) → AreShort names
    by true long r same bad rest_of = absurd cc
    by false short (Ok others) same good rest_of =
        let all : component.1 ∷ others ≡ names = cc in
        subst AreShort all (ltb-false component_max (length component.1) short, rest_of others same)
    by false short (Err end) same bad rest_of = absurd cc

pub path_short : (path : List ℕ) (names : List (List ℕ)) → path_names path ≡ Ok names → AreShort names
path_short path names is = names_short (components_of path) names is

module _ (s : Setup) (J : List Entry) (uid gid : ℕ) (ids : AreIds uid gid) (all : List (List ℕ)) where
  -- ---- In order, up to the directory that has the last name

  -- where a walk up to the last name has come
  pub record IsAbove (walked : List (List ℕ)) (dir name : List ℕ) (place : ℕ) : Type 0 where
    pub leads : handle_along (tree_at s J place) root_handle walked ≡ Some dir
    pub long : length dir ≡ 8
    pub short : length name ≤ name_length_max

  pub record EndsAbove (dir name : List ℕ) (place : ℕ) : Type 0 where
    pub walked : List (List ℕ)
    pub whole : walked ++ name ∷ [] ≡ all
    pub above : IsAbove walked dir name place

  pub step_leads : (walked rest : List (List ℕ)) (name dir g : List ℕ) (from place : ℕ) → walked ++ name ∷ rest ≡ all → handle_along (tree_at s J from) root_handle walked ≡ Some dir → from ≤ place
      → KeepPath s J root_handle all from place → handle_in (tree_at s J place) dir name ≡ Some g → handle_along (tree_at s J place) root_handle (walked ++ name ∷ []) ≡ Some g
  step_leads walked rest name dir g from place whole leads rises keeps found =
      along_name (tree_at s J place) root_handle walked name dir g ((kept s J root_handle all from place rises keeps).leads walked (name ∷ rest) whole ∙ leads) found

  step_whole : (walked : List (List ℕ)) (name next : List ℕ) (rest : List (List ℕ)) → walked ++ name ∷ next ∷ rest ≡ all → (walked ++ name ∷ []) ++ next ∷ rest ≡ all
  step_whole walked name next rest whole = append_assoc walked (name ∷ []) (next ∷ rest) ∙ whole

  pub parent_walked : (rest : List (List ℕ)) (walked : List (List ℕ)) (dir name : List ℕ) (os : List Outcome) (from to : ℕ) (last : List ℕ × List ℕ) → AreShort rest → walked ++ name ∷ rest ≡ all
      → IsAbove walked dir name from → AnsweredInOrder s J (KeepPath s J root_handle all) (parent_from uid gid dir name rest) os from to → parent_from uid gid dir name rest os ≡ Returns (Ok last)
      → EndsAbove last.0 last.1 to
  parent_walked [] walked dir name [] from to last few whole above same ends =
      let is : (dir, name) ≡ last = cc in
      subst (λ (p : List ℕ × List ℕ). EndsAbove p.0 p.1 to) is (subst (λ (k : ℕ). EndsAbove dir name k) (sym same) (record { walked = walked; whole = whole; above = above }))
  parent_walked [] walked dir name (o ∷ os) from to last few whole above made ends = absurd made
  parent_walked (next ∷ rest) walked dir name [] from to last few whole above same ends = absurd cc
  parent_walked (next ∷ rest) walked dir name (o ∷ os) from to last few whole above (place, answered, (rises, (keeps, later))) ends =
      by (object_result o) refl ends later
      (λ g goes calls good. parent_walked rest (walked ++ name ∷ []) g next os (place_after s J (lookup_call uid gid dir name) o place answered) to last few.1 (step_whole walked name next rest whole) goes calls good)
    where
      by : (r : Result (List ℕ) ClientEnd) → object_result o ≡ r → go_on r (λ object. parent_from uid gid object next rest os) ≡ Returns (Ok last)
          → AnsweredInOrder s J (KeepPath s J root_handle all) (λ more. go_on r (λ object. parent_from uid gid object next rest more)) os (place_after s J (lookup_call uid gid dir name) o place answered) to
          → ((g : List ℕ) → IsAbove (walked ++ name ∷ []) g next (place_after s J (lookup_call uid gid dir name) o place answered)
          → AnsweredInOrder s J (KeepPath s J root_handle all) (parent_from uid gid g next rest) os (place_after s J (lookup_call uid gid dir name) o place answered) to
          → parent_from uid gid g next rest os ≡ Returns (Ok last) → EndsAbove last.0 last.1 to)
          → EndsAbove last.0 last.1 to
      by (Err end) found bad calls rest_of = absurd cc
      by (Ok g) found good calls rest_of =
          let at = looked_up s J uid gid ids dir name o place (omega (arith, above.long)) above.short answered g found in
          rest_of g
          (subst (λ (k : ℕ). IsAbove (walked ++ name ∷ []) g next k) (sym at.1.1)
          (record { leads = step_leads walked (next ∷ rest) name dir g from place whole above.leads rises keeps at.0; long = at.1.0; short = few.0 }))
          calls good

  -- ---- Each since a place, up to the file

  pub walk_found : (rest : List (List ℕ)) (walked : List (List ℕ)) (dir : List ℕ) (os : List Outcome) (from : ℕ) (file : List ℕ) → AreShort rest → walked ++ rest ≡ all
      → handle_along (tree_at s J from) root_handle walked ≡ Some dir → length dir ≡ 8 → AnsweredSince s J (KeepPath s J root_handle all) (walk_from uid gid dir rest) os from
      → walk_from uid gid dir rest os ≡ Returns (Ok file) → (handle_along (tree_at s J from) root_handle all ≡ Some file) × (length file ≡ 8)
  walk_found [] walked dir [] from file few whole leads long made ends =
      let is : dir ≡ file = cc in
      let all_is : walked ≡ all = sym (append-nil walked) ∙ whole in
      (ap (λ (l : List (List ℕ)). handle_along (tree_at s J from) root_handle l) (sym all_is) ∙ leads ∙ ap (λ (h : List ℕ). Some h) is, subst (λ (h : List ℕ). length h ≡ 8) is long)
  walk_found [] walked dir (o ∷ os) from file few whole leads long made ends = absurd made
  walk_found (name ∷ rest) walked dir [] from file few whole leads long made ends = absurd cc
  walk_found (name ∷ rest) walked dir (o ∷ os) from file few whole leads long (place, answered, (rises, (keeps, later))) ends =
      by (object_result o) refl ends later
      (λ g goes more calls good. walk_found rest (walked ++ name ∷ []) g os from file few.1 (append_assoc walked (name ∷ []) rest ∙ whole) goes more calls good)
    where
      by : (r : Result (List ℕ) ClientEnd) → object_result o ≡ r → go_on r (λ object. walk_from uid gid object rest os) ≡ Returns (Ok file)
          → AnsweredSince s J (KeepPath s J root_handle all) (λ more. go_on r (λ object. walk_from uid gid object rest more)) os from
          → ((g : List ℕ) → handle_along (tree_at s J from) root_handle (walked ++ name ∷ []) ≡ Some g → length g ≡ 8
          → AnsweredSince s J (KeepPath s J root_handle all) (walk_from uid gid g rest) os from → walk_from uid gid g rest os ≡ Returns (Ok file)
          → (handle_along (tree_at s J from) root_handle all ≡ Some file) × (length file ≡ 8))
          → (handle_along (tree_at s J from) root_handle all ≡ Some file) × (length file ≡ 8)
      by (Err end) found bad calls rest_of = absurd cc
      by (Ok g) found good calls rest_of =
          let at = looked_up s J uid gid ids dir name o place (omega (arith, long)) few.0 answered g found in
          let back = (kept s J root_handle all from place rises keeps).leads (walked ++ name ∷ []) rest (append_assoc walked (name ∷ []) rest ∙ whole) in
          rest_of g (sym back ∙ step_leads walked rest name dir g from place whole leads rises keeps at.0) at.1.0 calls good
