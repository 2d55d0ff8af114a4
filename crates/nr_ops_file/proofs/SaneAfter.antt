-- The procedures that change a file leave a sane tree sane.
use Rattle.std.proofs.Common.{◌≡◌, ℕ, ◌+◌, ◌≤◌, ◌&&◌, true, false, not, ltb, length, Option, None, Some, refl, ap, sym, ◌∙◌}
use Rattle.std.specs.Prelude.{is_some}
use Rattle.std.specs.Option.{option_map_or}
use Rattle.std.specs.FinMap.{get}
use Rattle.std.proofs.lemmas.Bool.{not-false, ltb-false}
use Rattle.nr_nfs_base.specs.declared.caller.Caller.{Caller}
use Rattle.nr_nfs_base.specs.declared.set_attributes.SetAttributes.{SetAttributes}
use Rattle.nr_nfs_base.specs.declared.status.Status.TheVariants.{Inval, Fbig}
use Rattle.nr_nfs_base.specs.declared.time.Time.{Time}
use Rattle.nr_nfs_args.specs.declared.attributes.SetattrArgs.{SetattrArgs}
use Rattle.nr_nfs_args.specs.declared.bytes.WriteArgs.{WriteArgs}
use Rattle.nr_tree.specs.Changes.{tree_with_bytes}
use Rattle.nr_tree.specs.Rules.{first, ◌⇒◌, on, node_of_handle, number_of_handle, size_rule}
use Rattle.nr_tree.specs.Sane.{IsSane, file_size_max}
use Rattle.nr_tree.specs.Steps.{is_regular_at, links_at}
use Rattle.nr_tree.specs.Tree.{Tree, is_regular}
use Rattle.nr_tree.specs.declared.node.Node.{Node}
use Rattle.nr_tree.specs.declared.rules.Space.{Space}
use Rattle.nr_tree.proofs.PassedRules.{AllClear, all_clear, clear, got, handled, sane_after}
use Rattle.nr_tree.proofs.SkeletonChanges.{value_at_at}
use Rattle.nr_tree.proofs.StepLemmas.{sane_write, sane_set_size, sane_set_metadata}
use Rattle.nr_ops_file.specs.Attributes.{value_rules, setattr_of, setattr_rules, setattr_done, setattr_tree, metadata_after, tree_with_size_given, tree_with_attributes}
use Rattle.nr_ops_file.specs.Bytes.{piece_written, regular_rules, piece_rules, write_of, write_rules, write_tree}
use Rattle.nr_ops_file.proofs.Sizes.{links_with_size}

-- ===== SETATTR

-- a size that no rule refuses is that of a regular file
sized : (a : SetAttributes) (v : Node) (size : ℕ) → a.size ≡ Some size → first (value_rules a v) ≡ None → (is_regular v ≡ true) × (size ≤ file_size_max)
sized a v size given none =
    let all : AllClear (value_rules a v) = all_clear (value_rules a v) none in
    let kind : not (is_regular v) ≡ false = clear (not (is_regular v)) Inval (ap (λ (o : Option ℕ). (is_some o && not (is_regular v)) ⇒ Inval) (sym given) ∙ all.1.0) in
    let few : size_rule (Some size) ≡ None = ap size_rule (sym given) ∙ all.1.1.1.0 in
    (not-false (is_regular v) kind, ltb-false file_size_max size (clear (ltb file_size_max size) Fbig few))

record IsSized (t u : Tree) (n : ℕ) : Type 0 where
  sane : IsSane u
  links : links_at u n ≡ links_at t n

size_given : (t : Tree) (now : Time) (n : ℕ) (o : Option ℕ) → IsSane t → ((size : ℕ) → o ≡ Some size → (is_regular_at t n ≡ true) × (size ≤ file_size_max)) → IsSized t (tree_with_size_given t now n o) n
size_given t now n None sane may = record { sane = sane; links = refl }
size_given t now n (Some size) sane may =
    let ok : (is_regular_at t n ≡ true) × (size ≤ file_size_max) = may size refl in
    record { sane = sane_set_size t now n size sane ok.0 ok.1; links = links_with_size t now n size }

attributes_by : (t : Tree) (c : Caller) (now : Time) (a : SetattrArgs) (o : Option Node) → node_of_handle t a.object ≡ o → IsSane t → first (on o (setattr_of c a)) ≡ None
    → IsSane (option_map_or (λ (node : Node). tree_with_attributes t now (number_of_handle a.object) a.attributes node.metadata) o t)
attributes_by t c now a None e sane none = sane
attributes_by t c now a (Some v) e sane none =
    let n : ℕ = number_of_handle a.object in
    let all : AllClear (setattr_of c a v) = all_clear (setattr_of c a v) none in
    let here : get t.nodes n ≡ Some v = got t a.object v e in
    let u : Tree = tree_with_size_given t now n a.attributes.size in
    let ok : IsSized t u n =
    size_given t now n a.attributes.size sane (λ size given. (let may : (is_regular v ≡ true) × (size ≤ file_size_max) = sized a.attributes v size given all.1.1.0 in (value_at_at is_regular false t.nodes n v here ∙ may.0, may.1))) in
    sane_set_metadata u n (metadata_after now a.attributes v.metadata) ok.sane (sym (ok.links ∙ value_at_at (λ (node : Node). node.metadata.links) 0 t.nodes n v here))

pub setattr_sane : (t : Tree) (c : Caller) (space : Space) (now : Time) (a : SetattrArgs) → IsSane t → IsSane (setattr_tree t c space now a)
setattr_sane t c space now a sane =
    sane_after t (setattr_done t now a) (first (setattr_rules t c space a)) sane
    (λ none. (let all : AllClear (setattr_rules t c space a) = all_clear (setattr_rules t c space a) none in attributes_by t c now a (node_of_handle t a.object) refl sane all.1.0))

-- ===== WRITE

written : (t : Tree) (c : Caller) (space : Space) (now : Time) (a : WriteArgs) → IsSane t → first (write_rules t c space a) ≡ None
    → IsSane (tree_with_bytes t now (number_of_handle a.file) a.offset (piece_written a))
written t c space now a sane none =
    let n : ℕ = number_of_handle a.file in
    let all : AllClear (write_rules t c space a) = all_clear (write_rules t c space a) none in
    let v : (v : Node) × (node_of_handle t a.file ≡ Some v) = handled t a.file all.0 in
    let of : AllClear (write_of c a v.0) = all_clear (write_of c a v.0) (ap (λ (o : Option Node). first (on o (write_of c a))) (sym v.1) ∙ all.1.0) in
    let kind : AllClear (regular_rules v.0) = all_clear (regular_rules v.0) of.0 in
    let piece : AllClear (piece_rules a) = all_clear (piece_rules a) of.1.1.0 in
    let le : a.offset + length (piece_written a) ≤ file_size_max = ltb-false file_size_max (a.offset + length (piece_written a)) (clear (ltb file_size_max (a.offset + length (piece_written a))) Fbig piece.1.0) in
    let regular : is_regular v.0 ≡ true = not-false (is_regular v.0) (clear (not (is_regular v.0)) Inval kind.1.0) in
    sane_write t now n a.offset (piece_written a) sane (value_at_at is_regular false t.nodes n v.0 (got t a.file v.0 v.1) ∙ regular) le

pub write_sane : (t : Tree) (c : Caller) (space : Space) (now : Time) (a : WriteArgs) → IsSane t → IsSane (write_tree t c space now a)
write_sane t c space now a sane =
    sane_after t (tree_with_bytes t now (number_of_handle a.file) a.offset (piece_written a)) (first (write_rules t c space a)) sane (λ none. written t c space now a sane none)
