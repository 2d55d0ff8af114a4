-- A `put` leaves a file with the bytes of its input, other entries keep it, and a `get` gives its bytes.
use Rattle.std.proofs.Common.{◌≡◌, ℕ, ◌<◌, ◌≤◌, ◌^◌, List, [], ◌∷◌, length, Some, Result, Ok, refl, ap, sym, ◌∙◌, subst, arith}
use Rattle.nr_reduce.specs.declared.mark.Entry.{Entry}
use Rattle.nr_tree.specs.Rules.{number_of_handle}
use Rattle.nr_tree.specs.Sane.{IsSane, IsValidContent, file_size_max}
use Rattle.nr_tree.specs.declared.node.Content.TheVariants.{Regular}
use Rattle.nr_tree.proofs.PassedRules.{got}
use Rattle.nr_plain.specs.Journal.{tree_at}
use Rattle.nr_plain.specs.Setup.{Setup}
use Rattle.nr_plain.proofs.Lengths.{length_handle}
use Rattle.nr_plain.proofs.SaneTrees.{tree_sane}
use Rattle.nr_client.specs.declared.client_end.ClientEnd.{ClientEnd}
use Rattle.nr_client.specs.Following.{go_on}
use Rattle.nr_client.specs.Following.Next.{Returns}
use Rattle.nr_client.specs.Walking.{parent_along, walk_from}
use Rattle.nr_pair_laws.specs.FilesAt.{KeepPath, content_at}
use Rattle.nr_pair_laws.specs.PutThenGet.{AnsweredInOrder, AnsweredSince, GetsGiveTheFile, GetsGiveWhatWasPut, OtherEntriesKeepTheFile, PutsLeaveTheFile, root_handle}
use Rattle.nr_pair_laws.proofs.FileReads.{file_read}
use Rattle.nr_pair_laws.proofs.FileWrites.{input_written}
use Rattle.nr_pair_laws.proofs.Kept.{file_kept, kept}
use Rattle.nr_pair_laws.proofs.Mounts.{mounted_at}
use Rattle.nr_pair_laws.proofs.Paths.{content_node}
use Rattle.nr_pair_laws.proofs.Walked.{AreShort, EndsAbove, parent_walked, path_short, walk_found}

pub put_leaves : PutsLeaveTheFile
put_leaves s J uid gid export path names input from to sane fit ids p =
    let root_is : p.root ≡ root_handle = (mounted_at s J uid gid ids export p.mounted p.mounts.0 p.mounts.1 p.root p.root_is).0 in
    let above = by names refl
    (subst (λ (r : Result (List (List ℕ)) ClientEnd). AnsweredInOrder s J (KeepPath s J root_handle names) (λ os. go_on r (λ ns. parent_along uid gid p.root (length path) ns os)) p.found p.mounted_at p.found_at) p.names_are p.finds)
    (ap (λ (r : Result (List (List ℕ)) ClientEnd). go_on r (λ ns. parent_along uid gid p.root (length path) ns p.found)) (sym p.names_are) ∙ p.place_is)
    root_is in
    input_written s J uid gid ids names p.dir p.name input above.walked p.written p.found_at to sane fit above.whole above.above.leads (omega (arith, above.above.long)) above.above.short p.writes p.done
  where
    by : (ns : List (List ℕ)) → ns ≡ names → AnsweredInOrder s J (KeepPath s J root_handle names) (parent_along uid gid p.root (length path) ns) p.found p.mounted_at p.found_at
        → parent_along uid gid p.root (length path) ns p.found ≡ Returns (Ok (p.dir, p.name)) → p.root ≡ root_handle → EndsAbove s J uid gid ids names p.dir p.name p.found_at
    by [] same made ends root_is = absurd cc
    by (name ∷ rest) same made ends root_is =
        let few : AreShort (name ∷ rest) = subst AreShort (sym same) (path_short path names p.names_are) in
        parent_walked s J uid gid ids names rest [] p.root name p.found p.mounted_at p.found_at (p.dir, p.name) few.1 same
        (record { leads = ap (λ (h : List ℕ). Some h) (sym root_is); long = ap length root_is ∙ length_handle 1; short = few.0 })
        made ends

pub others_keep : OtherEntriesKeepTheFile
others_keep s J names bytes from to rises keeps h =
    let there = file_kept root_handle names (tree_at s J from) (tree_at s J to) h.file (Regular bytes) (kept s J root_handle names from to rises keeps) h.leads h.holds in
    record { file = h.file; leads = there.0; holds = there.1 }

-- a file has fewer bytes than a READ can name
pub file_few : (s : Setup) (J : List Entry) (place : ℕ) (file bytes : List ℕ) → IsSane s.tree → content_at (tree_at s J place) file ≡ Some (Regular bytes) → length bytes < 2 ^ 64
file_few s J place file bytes sane holds =
    let v = content_node (tree_at s J place) file (Regular bytes) holds in
    let valid = (tree_sane s J place sane).contents (number_of_handle file) v.0 (got (tree_at s J place) file v.0 v.1.0) in
    let few : length bytes ≤ file_size_max = subst IsValidContent v.1.1 valid in
    omega (arith, few)

pub get_gives : GetsGiveTheFile
get_gives s J uid gid export path names bytes from outcomes sane ids h g =
    let root_is : g.root ≡ root_handle = (mounted_at s J uid gid ids export g.mounted g.mounts.0 g.mounts.1 g.root g.root_is).0 in
    let found = walk_found s J uid gid ids names names [] g.root g.found from g.file (path_short path names g.names_are) refl (ap (λ (h : List ℕ). Some h) (sym root_is)) (ap length root_is ∙ length_handle 1)
    (subst (λ (r : Result (List (List ℕ)) ClientEnd). AnsweredSince s J (KeepPath s J root_handle names) (λ os. go_on r (λ ns. walk_from uid gid g.root ns os)) g.found from) g.names_are g.finds)
    (ap (λ (r : Result (List (List ℕ)) ClientEnd). go_on r (λ ns. walk_from uid gid g.root ns g.found)) (sym g.names_are) ∙ g.file_is) in
    let same : h.file ≡ g.file = (let both : Some h.file ≡ Some g.file = sym h.leads ∙ found.0 in cc) in
    file_read s J uid gid ids names g.file bytes from (omega (arith, found.1)) (file_few s J from h.file bytes sane h.holds) found.0 (subst (λ (f : List ℕ). content_at (tree_at s J from) f ≡ Some (Regular bytes)) same h.holds) outcomes g.reads g.done

pub put_then_get : GetsGiveWhatWasPut
put_then_get s J uid gid other_uid other_gid export other_export path other_path names input from to outcomes sane fit ids other_ids p g =
    get_gives s J other_uid other_gid other_export other_path names input to outcomes sane other_ids (put_leaves s J uid gid export path names input from to sane fit ids p) g
