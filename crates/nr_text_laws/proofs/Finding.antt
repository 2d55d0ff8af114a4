-- What is found along a path, by the trees alone.
use Rattle.std.proofs.Common.{◌≡◌, ℕ, zero, suc, ◌+◌, ◌-◌, ◌≤◌, List, [], ◌∷◌, ◌++◌, length, Some, Result, Ok, Err, refl, sym, ap, subst, ◌∙◌, arith, append_assoc, append-nil}
use Rattle.std.specs.Prelude.{nat_eq, nat_lt}
use Rattle.std.specs.Cmp.Lexicographic.{pointwise}
use Rattle.nr_nfs_base.specs.Limits.{name_length_max}
use Rattle.nr_nfs_base.specs.declared.caller.Caller.{Caller}
use Rattle.nr_reduce.specs.declared.mark.Entry.{Entry}
use Rattle.nr_tree.specs.Tree.{Tree}
use Rattle.nr_plain.specs.Journal.{tree_at}
use Rattle.nr_plain.specs.Setup.{Setup}
use Rattle.nr_words.specs.Limits.{mount_path_max}
use Rattle.nr_client.specs.declared.client_end.ClientEnd.{ClientEnd}
use Rattle.nr_client.specs.Paths.{path_names}
use Rattle.nr_pair_laws.specs.FilesAt.{KeepPath, handle_along}
use Rattle.nr_pair_laws.specs.PutThenGet.{root_handle}
use Rattle.nr_pair_laws.proofs.Kept.{kept}
use Rattle.nr_pair_laws.proofs.Paths.{along_name}
use Rattle.nr_pair_laws.proofs.Walked.{AreShort, path_short}
use Rattle.nr_text_laws.specs.CommandTexts.{ArePlaces, FoundFilesAreThere, FoundParentsAreThere, IsParentThere, KeepTree, PathsInOneTree, TextsInOneTree, file_of, object_along, object_in, on_value, parent_after, parent_along, parent_of, root_of}
use Rattle.nr_text_laws.proofs.Parts.{root_is, root_long}
use Rattle.nr_text_laws.proofs.Replies.{object_found}

-- a value that follows from another
pub value_on : {A B : Type 0} (r : Result A ClientEnd) (next : A → Result B ClientEnd) (v : B) → on_value r next ≡ Ok v → (a : A) × ((r ≡ Ok a) × (next a ≡ Ok v))
value_on (Ok a) next v is = (a, (refl, is))
value_on (Err end) next v is = absurd (let wrong = is in cc)

-- ---- The lengths of handles and names

object_long : (names : List (List ℕ)) (trees : ℕ → Tree) (c : Caller) (dir h : List ℕ) → length dir ≡ 8 → object_along trees c dir names ≡ Ok h → length h ≡ 8
object_long [] trees c dir h long is = let same : dir ≡ h = cc in subst (λ (k : List ℕ). length k ≡ 8) same long
object_long (name ∷ names) trees c dir h long is =
    let o = value_on (object_in (trees 0) c dir name) (λ object. object_along (λ i. trees (suc i)) c object names) h is in
    object_long names (λ i. trees (suc i)) c o.0 h (object_found (trees 0) c dir name o.0 o.1.0).1 o.1.1

pub file_long : (served export path : List ℕ) (c : Caller) (trees : ℕ → Tree) (h : List ℕ) → file_of served export path c trees ≡ Ok h → length h ≡ 8
file_long served export path c trees h is =
    let root = value_on (root_of served export) (λ root. on_value (path_names path) (λ names. object_along trees c root names)) h is in
    let names = value_on (path_names path) (λ names. object_along trees c root.0 names) h root.1.1 in
    object_long names.0 trees c root.0 h (root_long (nat_lt mount_path_max (length export)) (pointwise nat_eq export served) root.0 (sym root.1.0)) names.1.1

-- the handle of a directory and a name in it are short enough to be sent
abbrev pub IsShort : List ℕ × List ℕ → Type 0
IsShort at = (length at.0 ≡ 8) × (length at.1 ≤ name_length_max)

parent_short : (names : List (List ℕ)) (trees : ℕ → Tree) (c : Caller) (dir name : List ℕ) (at : List ℕ × List ℕ) → length dir ≡ 8 → length name ≤ name_length_max → AreShort names
    → parent_after trees c dir name names ≡ Ok at → IsShort at
parent_short [] trees c dir name at long short few is = let same : (dir, name) ≡ at = cc in subst IsShort same (long, short)
parent_short (next ∷ names) trees c dir name at long short few is =
    let o = value_on (object_in (trees 0) c dir name) (λ object. parent_after (λ i. trees (suc i)) c object next names) at is in
    parent_short names (λ i. trees (suc i)) c o.0 next at (object_found (trees 0) c dir name o.0 o.1.0).1 few.0 few.1 o.1.1

named_short : (names : List (List ℕ)) (trees : ℕ → Tree) (c : Caller) (dir : List ℕ) (end : ℕ) (at : List ℕ × List ℕ) → length dir ≡ 8 → AreShort names → parent_along trees c dir end names ≡ Ok at → IsShort at
named_short [] trees c dir end at long few is = absurd (let wrong = is in cc)
named_short (name ∷ names) trees c dir end at long few is = parent_short names trees c dir name at long few.0 few.1 is

pub parent_is_short : (served export path : List ℕ) (c : Caller) (trees : ℕ → Tree) (at : List ℕ × List ℕ) → parent_of served export path c trees ≡ Ok at → IsShort at
parent_is_short served export path c trees at is =
    let root = value_on (root_of served export) (λ root. on_value (path_names path) (λ names. parent_along trees c root (length path) names)) at is in
    let names = value_on (path_names path) (λ names. parent_along trees c root.0 (length path) names) at root.1.1 in
    named_short names.0 trees c root.0 (length path) at (root_long (nat_lt mount_path_max (length export)) (pointwise nat_eq export served) root.0 (sym root.1.0)) (path_short path names.0 names.1.0) names.1.1

-- ---- In the same trees

same_on : {A B : Type 0} (r : Result A ClientEnd) (f g : A → Result B ClientEnd) → ((a : A) → f a ≡ g a) → on_value r f ≡ on_value r g
same_on (Ok a) f g same = same a
same_on (Err end) f g same = refl

object_same : (names : List (List ℕ)) (trees others : ℕ → Tree) → ((i : ℕ) → trees i ≡ others i) → (c : Caller) (dir : List ℕ) → object_along trees c dir names ≡ object_along others c dir names
object_same [] trees others same c dir = refl
object_same (name ∷ names) trees others same c dir =
    ap (λ (t : Tree). on_value (object_in t c dir name) (λ object. object_along (λ i. trees (suc i)) c object names)) (same 0)
    ∙ same_on (object_in (others 0) c dir name) (λ object. object_along (λ i. trees (suc i)) c object names) (λ object. object_along (λ i. others (suc i)) c object names)
    (λ object. object_same names (λ i. trees (suc i)) (λ i. others (suc i)) (λ i. same (suc i)) c object)

parent_same : (names : List (List ℕ)) (trees others : ℕ → Tree) → ((i : ℕ) → trees i ≡ others i) → (c : Caller) (dir name : List ℕ) → parent_after trees c dir name names ≡ parent_after others c dir name names
parent_same [] trees others same c dir name = refl
parent_same (next ∷ names) trees others same c dir name =
    ap (λ (t : Tree). on_value (object_in t c dir name) (λ object. parent_after (λ i. trees (suc i)) c object next names)) (same 0)
    ∙ same_on (object_in (others 0) c dir name) (λ object. parent_after (λ i. trees (suc i)) c object next names) (λ object. parent_after (λ i. others (suc i)) c object next names)
    (λ object. parent_same names (λ i. trees (suc i)) (λ i. others (suc i)) (λ i. same (suc i)) c object next)

named_same : (names : List (List ℕ)) (trees others : ℕ → Tree) → ((i : ℕ) → trees i ≡ others i) → (c : Caller) (dir : List ℕ) (at : ℕ) → parent_along trees c dir at names ≡ parent_along others c dir at names
named_same [] trees others same c dir at = refl
named_same (name ∷ names) trees others same c dir at = parent_same names trees others same c dir name

pub paths_in_one_tree_lem : PathsInOneTree
paths_in_one_tree_lem served export path c trees t same = (
  same_on (root_of served export) (λ root. on_value (path_names path) (λ names. object_along trees c root names)) (λ root. on_value (path_names path) (λ names. object_along (λ i. t) c root names))
      (λ root. same_on (path_names path) (λ names. object_along trees c root names) (λ names. object_along (λ i. t) c root names) (λ names. object_same names trees (λ i. t) same c root)),
  same_on (root_of served export) (λ root. on_value (path_names path) (λ names. parent_along trees c root (length path) names))
      (λ root. on_value (path_names path) (λ names. parent_along (λ i. t) c root (length path) names))
      (λ root. same_on (path_names path) (λ names. parent_along trees c root (length path) names) (λ names. parent_along (λ i. t) c root (length path) names)
      (λ names. named_same names trees (λ i. t) same c root (length path))),
)

-- ---- Between places

pub at_least : (J : List Entry) (from : ℕ) (places : ℕ → ℕ) (last : ℕ) → ArePlaces J from places last → (i : ℕ) → from ≤ places i
at_least J from places last are zero = are.first
at_least J from places last are (suc i) = let low = at_least J from places last are i in let up = are.rise i in omega (arith, low, up)

tree_kept_for : (s : Setup) (J : List Entry) (from n : ℕ) → KeepTree s J from (from + n) → tree_at s J (from + n) ≡ tree_at s J from
tree_kept_for s J from zero keeps = let sum : from + 0 ≡ from = omega arith in ap (λ (k : ℕ). tree_at s J k) sum
tree_kept_for s J from (suc n) keeps =
    let sum : from + suc n ≡ suc (from + n) = omega arith in
    ap (λ (k : ℕ). tree_at s J k) sum ∙ keeps (from + n) (omega arith) (omega arith) ∙ tree_kept_for s J from n (λ k low high. keeps k low (omega (arith, high)))

tree_kept : (s : Setup) (J : List Entry) (from to : ℕ) → from ≤ to → KeepTree s J from to → tree_at s J to ≡ tree_at s J from
tree_kept s J from to rises keeps =
    let sum : from + (to - from) ≡ to = omega (arith, rises) in
    ap (λ (k : ℕ). tree_at s J k) (sym sum) ∙ tree_kept_for s J from (to - from) (λ k low high. keeps k low (omega (arith, high, sum)))

pub texts_in_one_tree_lem : TextsInOneTree
texts_in_one_tree_lem s J from served export path c places last are keeps =
    paths_in_one_tree_lem served export path c (λ i. tree_at s J (places i)) (tree_at s J last)
    (λ i. sym (tree_kept s J (places i) last (are.ends i) (λ k low high. keeps k (let least = at_least J from places last are i in omega (arith, least, low)) high)))

-- ---- Where the path leads

module _ (s : Setup) (J : List Entry) (c : Caller) (all : List (List ℕ)) (from last : ℕ) (keeps : KeepPath s J root_handle all from last) where
  -- one name more, seen from the first place
  leads_on : (walked rest : List (List ℕ)) (name dir g : List ℕ) (place : ℕ) → walked ++ name ∷ rest ≡ all → handle_along (tree_at s J from) root_handle walked ≡ Some dir → from ≤ place → place ≤ last
      → object_in (tree_at s J place) c dir name ≡ Ok g → handle_along (tree_at s J from) root_handle (walked ++ name ∷ []) ≡ Some g
  leads_on walked rest name dir g place whole leads low high found =
      let same = kept s J root_handle all from place low (λ k least below. keeps k least (omega (arith, below, high))) in
      sym (same.leads (walked ++ name ∷ []) rest (append_assoc walked (name ∷ []) rest ∙ whole))
      ∙ along_name (tree_at s J place) root_handle walked name dir g (same.leads walked (name ∷ rest) whole ∙ leads) (object_found (tree_at s J place) c dir name g found).0

  file_leads : (rest walked : List (List ℕ)) (dir file : List ℕ) (places : ℕ → ℕ) → walked ++ rest ≡ all → handle_along (tree_at s J from) root_handle walked ≡ Some dir
      → ((i : ℕ) → (from ≤ places i) × (places i ≤ last)) → object_along (λ i. tree_at s J (places i)) c dir rest ≡ Ok file → handle_along (tree_at s J from) root_handle all ≡ Some file
  file_leads [] walked dir file places whole leads between is =
      let same : dir ≡ file = cc in
      ap (λ (l : List (List ℕ)). handle_along (tree_at s J from) root_handle l) (sym whole ∙ append-nil walked) ∙ leads ∙ ap (λ (h : List ℕ). Some h) same
  file_leads (name ∷ rest) walked dir file places whole leads between is =
      let o = value_on (object_in (tree_at s J (places 0)) c dir name) (λ object. object_along (λ i. tree_at s J (places (suc i))) c object rest) file is in
      file_leads rest (walked ++ name ∷ []) o.0 file (λ i. places (suc i)) (append_assoc walked (name ∷ []) rest ∙ whole)
      (leads_on walked rest name dir o.0 (places 0) whole leads (between 0).0 (between 0).1 o.1.0) (λ i. between (suc i)) o.1.1

  parent_leads : (rest walked : List (List ℕ)) (dir name : List ℕ) (at : List ℕ × List ℕ) (places : ℕ → ℕ) → walked ++ name ∷ rest ≡ all → handle_along (tree_at s J from) root_handle walked ≡ Some dir
      → ((i : ℕ) → (from ≤ places i) × (places i ≤ last)) → parent_after (λ i. tree_at s J (places i)) c dir name rest ≡ Ok at → IsParentThere (tree_at s J from) all at
  parent_leads [] walked dir name at places whole leads between is =
      let same : (dir, name) ≡ at = cc in subst (λ (p : List ℕ × List ℕ). IsParentThere (tree_at s J from) all p) same (record { above = walked; whole = whole; leads = leads })
  parent_leads (next ∷ rest) walked dir name at places whole leads between is =
      let o = value_on (object_in (tree_at s J (places 0)) c dir name) (λ object. parent_after (λ i. tree_at s J (places (suc i))) c object next rest) at is in
      parent_leads rest (walked ++ name ∷ []) o.0 next at (λ i. places (suc i)) (append_assoc walked (name ∷ []) (next ∷ rest) ∙ whole)
      (leads_on walked (next ∷ rest) name dir o.0 (places 0) whole leads (between 0).0 (between 0).1 o.1.0) (λ i. between (suc i)) o.1.1

  named_leads : (names : List (List ℕ)) (end : ℕ) (at : List ℕ × List ℕ) (places : ℕ → ℕ) → names ≡ all → ((i : ℕ) → (from ≤ places i) × (places i ≤ last))
      → parent_along (λ i. tree_at s J (places i)) c root_handle end names ≡ Ok at → IsParentThere (tree_at s J from) all at
  named_leads [] end at places whole between is = absurd (let wrong = is in cc)
  named_leads (name ∷ names) end at places whole between is = parent_leads names [] root_handle name at places whole refl between is

pub found_files_are_there_lem : FoundFilesAreThere
found_files_are_there_lem s J from served export path names c places last file are are_names keeps is =
    let root = value_on (root_of served export) (λ root. on_value (path_names path) (λ names. object_along (λ i. tree_at s J (places i)) c root names)) file is in
    let found = value_on (path_names path) (λ names. object_along (λ i. tree_at s J (places i)) c root.0 names) file root.1.1 in
    let same : found.0 ≡ names = (let both : ◌≡◌ {A = Result (List (List ℕ)) ClientEnd} (Ok found.0) (Ok names) = sym found.1.0 ∙ are_names in cc) in
    let root_same : root.0 ≡ root_handle = root_is (nat_lt mount_path_max (length export)) (pointwise nat_eq export served) root.0 (sym root.1.0) in
    let walk : object_along (λ i. tree_at s J (places i)) c root_handle names ≡ Ok file =
    ap (λ (h : List ℕ). object_along (λ i. tree_at s J (places i)) c h names) (sym root_same) ∙ ap (λ (l : List (List ℕ)). object_along (λ i. tree_at s J (places i)) c root.0 l) (sym same) ∙ found.1.1 in
    let low : from ≤ last = (let first = are.first in let end = are.ends 0 in omega (arith, first, end)) in
    (kept s J root_handle names from last low keeps).leads names [] (append-nil names)
    ∙ file_leads s J c names from last keeps names [] root_handle file places refl refl (λ i. (at_least J from places last are i, are.ends i)) walk

pub found_parents_are_there_lem : FoundParentsAreThere
found_parents_are_there_lem s J from served export path names c places last at are are_names keeps is =
    let root = value_on (root_of served export) (λ root. on_value (path_names path) (λ names. parent_along (λ i. tree_at s J (places i)) c root (length path) names)) at is in
    let found = value_on (path_names path) (λ names. parent_along (λ i. tree_at s J (places i)) c root.0 (length path) names) at root.1.1 in
    let same : found.0 ≡ names = (let both : ◌≡◌ {A = Result (List (List ℕ)) ClientEnd} (Ok found.0) (Ok names) = sym found.1.0 ∙ are_names in cc) in
    let root_same : root.0 ≡ root_handle = root_is (nat_lt mount_path_max (length export)) (pointwise nat_eq export served) root.0 (sym root.1.0) in
    let walk : parent_along (λ i. tree_at s J (places i)) c root_handle (length path) names ≡ Ok at =
    ap (λ (h : List ℕ). parent_along (λ i. tree_at s J (places i)) c h (length path) names) (sym root_same)
    ∙ ap (λ (l : List (List ℕ)). parent_along (λ i. tree_at s J (places i)) c root.0 (length path) l) (sym same) ∙ found.1.1 in
    let low : from ≤ last = (let first = are.first in let end = are.ends 0 in omega (arith, first, end)) in
    let there = named_leads s J c names from last keeps names (length path) at places refl (λ i. (at_least J from places last are i, are.ends i)) walk in
    record {
      above = there.above;
      whole = there.whole;
      leads = (kept s J root_handle names from last low keeps).leads there.above (at.1 ∷ []) there.whole ∙ there.leads;
    }
