-- What the plain server's results say of the tree: of LOOKUP, CREATE, WRITE, READ and GETATTR.
use Rattle.std.proofs.Common.{◌≡◌, ℕ, ◌+◌, ◌≤◌, min, List, [], length, take, drop, Option, None, Some, refl, ap, sym, ◌∙◌, arith, length-take, unwrap_or}
use Rattle.std.specs.Prelude.{is_none, nat_le}
use Rattle.std.specs.Option.{option_and_then, option_map, option_map_or}
use Rattle.std.proofs.lemmas.List.{take_all}
use Rattle.nr_nfs_base.specs.Limits.{handle_max, transfer_max}
use Rattle.nr_nfs_base.specs.declared.attributes.Attributes.{Attributes}
use Rattle.nr_nfs_base.specs.declared.caller.Caller.{Caller}
use Rattle.nr_nfs_base.specs.declared.status.Status.{Status}
use Rattle.nr_nfs_base.specs.declared.status.Status.TheVariants.{Noent}
use Rattle.nr_nfs_base.specs.declared.status_union.StatusUnion.{StatusUnion}
use Rattle.nr_nfs_base.specs.declared.status_union.StatusUnion.TheVariants.{Done, Failed}
use Rattle.nr_nfs_base.specs.declared.time.Time.{Time}
use Rattle.nr_nfs_args.specs.declared.attributes.GetattrArgs.{GetattrArgs}
use Rattle.nr_nfs_args.specs.declared.bytes.ReadArgs.{ReadArgs}
use Rattle.nr_nfs_args.specs.declared.bytes.WriteArgs.{WriteArgs}
use Rattle.nr_nfs_args.specs.declared.create.CreateArgs.{CreateArgs}
use Rattle.nr_nfs_args.specs.declared.lookup.LookupArgs.{LookupArgs}
use Rattle.nr_nfs_res.specs.declared.bytes.ReadOk.{ReadOk}
use Rattle.nr_nfs_res.specs.declared.bytes.WriteOk.{WriteOk}
use Rattle.nr_nfs_res.specs.declared.create.CreateOk.{CreateOk}
use Rattle.nr_nfs_res.specs.declared.lookup.LookupOk.{LookupOk}
use Rattle.nr_tree.specs.Changes.{tree_with_bytes}
use Rattle.nr_tree.specs.Replies.{attributes_at, wcc_data}
use Rattle.nr_tree.specs.Rules.{after, answer, first, handle_of, node_of_handle, number_of_handle}
use Rattle.nr_tree.specs.Tree.{Tree, attributes_of, bytes_of}
use Rattle.nr_tree.specs.declared.node.Content.{Content}
use Rattle.nr_tree.specs.declared.node.Content.TheVariants.{Regular}
use Rattle.nr_tree.specs.declared.node.Node.{Node}
use Rattle.nr_tree.specs.declared.rules.Space.{Space}
use Rattle.nr_tree.proofs.PassedRules.{AllClear, all_clear, clear, handled, on_some, there}
use Rattle.nr_ops_file.specs.Attributes.{getattr_done, getattr_reply, getattr_rules}
use Rattle.nr_ops_file.specs.Bytes.{bytes_at, piece_read, read_done, read_reply, read_rules, write_ok, write_reply, write_rules, write_tree}
use Rattle.nr_ops_dir.specs.Create.{create_reply, create_rules, create_tree}
use Rattle.nr_ops_dir.specs.Creation.{create_ok}
use Rattle.nr_ops_list.specs.Lookup.{found_by, lookup_in, lookup_ok, lookup_reply, lookup_rules, number_of_name}
use Rattle.nr_plain.proofs.Lengths.{length_handle}
use Rattle.nr_pair_laws.specs.FilesAt.{content_at}
use Rattle.nr_pair_laws.proofs.Paths.{content_node}

-- a success is one that no rule refuses
pub answer_done : {D F : Type 0} (o : Option Status) (fail : Status → F) (x d : D) → answer {R = StatusUnion D F Status} o (λ s. Failed s (fail s)) (Done x) ≡ Done d → (o ≡ None) × (x ≡ d)
answer_done None fail x d e = (refl, cc)
answer_done (Some s) fail x d e = absurd cc

-- ---- LOOKUP

pub lookup_found : (t : Tree) (c : Caller) (a : LookupArgs) (d : LookupOk) → lookup_reply t c a ≡ Done d → (n : ℕ) × ((found_by t a ≡ Some n) × (d.object ≡ handle_of n))
lookup_found t c a d is =
    let passed = answer_done (first (lookup_rules t c a)) (λ s. attributes_at t a.dir) (lookup_ok t a.dir (unwrap_or (found_by t a) 0)) d is in
    let all : AllClear (lookup_rules t c a) = all_clear (lookup_rules t c a) passed.0 in
    let v : (v : Node) × (node_of_handle t a.dir ≡ Some v) = handled t a.dir all.0 in
    let rules : AllClear (lookup_in c (number_of_handle a.dir) a.name v.0) = on_some (node_of_handle t a.dir) v.0 (lookup_in c (number_of_handle a.dir) a.name) v.1 all.1 in
    let n : (n : ℕ) × (number_of_name (number_of_handle a.dir) a.name v.0 ≡ Some n) =
    there (number_of_name (number_of_handle a.dir) a.name v.0) (clear (is_none (number_of_name (number_of_handle a.dir) a.name v.0)) Noent rules.1.1.1.0) in
    let found : found_by t a ≡ Some n.0 = ap (λ (o : Option Node). option_and_then (λ (dir : Node). number_of_name (number_of_handle a.dir) a.name dir) o) v.1 ∙ n.1 in
    (n.0, (found, sym (ap (λ (x : LookupOk). x.object) passed.1) ∙ ap (λ (o : Option ℕ). handle_of (unwrap_or o 0)) found))

pub lookup_short : (t : Tree) (c : Caller) (a : LookupArgs) (d : LookupOk) → lookup_reply t c a ≡ Done d → length d.object ≤ handle_max
lookup_short t c a d is = let n = lookup_found t c a d is in let long = length_handle n.0 in omega (arith, long, ap length n.1.1)

-- ---- CREATE

pub create_done : (t : Tree) (c : Caller) (space : Space) (now : Time) (a : CreateArgs) (d : CreateOk) → create_reply t c space now a ≡ Done d
    → (first (create_rules t c space a) ≡ None) × (create_ok t (create_tree t c space now a) a.dir a.name ≡ d)
create_done t c space now a d is = answer_done (first (create_rules t c space a)) (λ s. wcc_data t t a.dir) (create_ok t (create_tree t c space now a) a.dir a.name) d is

-- ---- WRITE

pub write_done : (t : Tree) (c : Caller) (space : Space) (now : Time) (a : WriteArgs) (d : WriteOk) → write_reply t c space now a ≡ Done d → length a.bytes ≤ transfer_max
    → (d.count ≡ length a.bytes) × (write_tree t c space now a ≡ tree_with_bytes t now (number_of_handle a.file) a.offset a.bytes)
write_done t c space now a d is few =
    let passed = answer_done (first (write_rules t c space a)) (λ s. _) (write_ok t (write_tree t c space now a) space a) d is in
    let whole : take transfer_max a.bytes ≡ a.bytes = take_all transfer_max a.bytes few in (
      sym (ap (λ (x : WriteOk). x.count) passed.1) ∙ ap length whole,
      ap (λ (o : Option Status). after o t (tree_with_bytes t now (number_of_handle a.file) a.offset (take transfer_max a.bytes))) passed.0
          ∙ ap (λ (l : List ℕ). tree_with_bytes t now (number_of_handle a.file) a.offset l) whole,
    )

-- ---- READ and GETATTR of a regular file

file_bytes : (t : Tree) (h bytes : List ℕ) → content_at t h ≡ Some (Regular bytes) → bytes_at t h ≡ bytes
file_bytes t h bytes is =
    let v = content_node t h (Regular bytes) is in
    ap (λ (o : Option Node). option_map_or (λ (node : Node). bytes_of node.content) o []) v.1.0 ∙ ap (λ (c : Content). bytes_of c) v.1.1

pub read_is : (t : Tree) (c : Caller) (a : ReadArgs) (d : ReadOk) (bytes : List ℕ) → content_at t a.file ≡ Some (Regular bytes) → read_reply t c a ≡ Done d
    → (d.bytes ≡ piece_read bytes a.offset a.count) × (d.eof ≡ nat_le (length bytes) (a.offset + length (piece_read bytes a.offset a.count)))
read_is t c a d bytes holds is =
    let passed = answer_done (first (read_rules t c a)) (λ s. attributes_at t a.file) (read_done t a) d is in
    let same = file_bytes t a.file bytes holds in (
      sym (ap (λ (x : ReadOk). x.bytes) passed.1) ∙ ap (λ (l : List ℕ). piece_read l a.offset a.count) same,
      sym (ap (λ (x : ReadOk). x.eof) passed.1) ∙ ap (λ (l : List ℕ). nat_le (length l) (a.offset + length (piece_read l a.offset a.count))) same,
    )

pub read_short : (t : Tree) (c : Caller) (a : ReadArgs) (d : ReadOk) → read_reply t c a ≡ Done d → length d.bytes ≤ transfer_max
read_short t c a d is =
    let passed = answer_done (first (read_rules t c a)) (λ s. attributes_at t a.file) (read_done t a) d is in
    let cut = length-take (min a.count transfer_max) (drop a.offset (bytes_at t a.file)) in
    let same = ap (λ (x : ReadOk). length x.bytes) passed.1 in omega (arith, cut, same)

pub getattr_is : (t : Tree) (a : GetattrArgs) (d : Attributes) (bytes : List ℕ) → content_at t a.object ≡ Some (Regular bytes) → getattr_reply t a ≡ Done d → d.size ≡ length bytes
getattr_is t a d bytes holds is =
    let v = content_node t a.object (Regular bytes) holds in
    let attributes : attributes_at t a.object ≡ Some (attributes_of (number_of_handle a.object) v.0) = ap (λ (o : Option Node). option_map (attributes_of (number_of_handle a.object)) o) v.1.0 in
    let known : answer (first (getattr_rules t a)) (λ s. Failed s tt) (Done (attributes_of (number_of_handle a.object) v.0)) ≡ Done d =
    sym (ap (λ (o : Option Attributes). answer (first (getattr_rules t a)) (λ s. Failed s tt) (getattr_done o)) attributes) ∙ is in
    let passed = answer_done (first (getattr_rules t a)) (λ s. tt) (attributes_of (number_of_handle a.object) v.0) d known in
    sym (ap (λ (x : Attributes). x.size) passed.1) ∙ ap (λ (c : Content). length (bytes_of c)) v.1.1
