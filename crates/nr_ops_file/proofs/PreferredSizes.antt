-- What FSINFO says of sizes holds of READ, WRITE and the files.
use Rattle.std.proofs.Common.{◌≡◌, ℕ, ◌+◌, ◌*◌, ◌/◌, ◌<◌, ◌≤◌, min, Bool, true, false, not, ltb, List, [], ◌∷◌, length, take, drop, Option, None, Some, refl, sym, ap, ◌∙◌, arith, ◌↔◌}
use Rattle.std.proofs.lemmas.Bool.{ltb-true, ltb-false, lt-ltb, le-ltb, eq-eqb}
use Rattle.std.proofs.lemmas.List.{take_all, length-take}
use Rattle.std.specs.Option.{option_map_or}
use Rattle.nr_nfs_base.specs.declared.attributes.Attributes.{Attributes}
use Rattle.nr_nfs_base.specs.declared.status.Status.{Status}
use Rattle.nr_nfs_base.specs.declared.status.Status.TheVariants.{Fbig, Inval}
use Rattle.nr_nfs_base.specs.Limits.{listing_max, transfer_max}
use Rattle.nr_nfs_args.specs.declared.bytes.ReadArgs.{ReadArgs}
use Rattle.nr_nfs_args.specs.declared.bytes.WriteArgs.{WriteArgs}
use Rattle.nr_tree.specs.Rules.{first, or_else, ◌⇒◌, size_rule, node_of_handle, number_of_handle}
use Rattle.nr_tree.specs.Sane.{IsSane, IsValidContent, file_size_max}
use Rattle.nr_tree.specs.Tree.{Tree, bytes_of}
use Rattle.nr_tree.specs.declared.node.Node.{Node}
use Rattle.nr_tree.specs.declared.node.Content.{Content}
use Rattle.nr_tree.specs.declared.node.Content.TheVariants.{Regular, Directory, Block, Character, Link, Socket, Fifo}
use Rattle.nr_tree.proofs.PassedRules.{got}
use Rattle.nr_ops_file.specs.Bytes.{bytes_at, read_done, piece_written, piece_rules}
use Rattle.nr_ops_file.specs.FileSystem.{fsinfo_ok, transfer_multiple}

pub read_all : (t : Tree) (args : ReadArgs) (o : Option Attributes) → args.count ≤ (fsinfo_ok o).rtmax → (read_done t args).bytes ≡ take args.count (drop args.offset (bytes_at t args.file))
read_all t args o le = ap (λ (n : ℕ). take n (drop args.offset (bytes_at t args.file))) (let is : min args.count transfer_max ≡ args.count = omega (arith, le) in is)

pub read_most : (t : Tree) (args : ReadArgs) (o : Option Attributes) → (fsinfo_ok o).rtmax ≤ args.count → (read_done t args).bytes ≡ take (fsinfo_ok o).rtmax (drop args.offset (bytes_at t args.file))
read_most t args o le = ap (λ (n : ℕ). take n (drop args.offset (bytes_at t args.file))) (let is : min args.count transfer_max ≡ transfer_max = omega (arith, le) in is)

pub write_all : (args : WriteArgs) (o : Option Attributes) → length args.bytes ≤ (fsinfo_ok o).wtmax → piece_written args ≡ args.bytes
write_all args o le = take_all transfer_max args.bytes le

pub write_most : (args : WriteArgs) (o : Option Attributes) → (fsinfo_ok o).wtmax ≤ length args.bytes
    → (piece_written args ≡ take (fsinfo_ok o).wtmax args.bytes) × (length (piece_written args) ≡ (fsinfo_ok o).wtmax)
write_most args o le = (refl, (let n = length-take transfer_max args.bytes in omega (arith, n, le)))

pub are_limits : (o : Option Attributes) → ((fsinfo_ok o).rtmax ≡ transfer_max) × ((fsinfo_ok o).wtmax ≡ transfer_max) × ((fsinfo_ok o).dtpref ≡ listing_max) × ((fsinfo_ok o).maxfilesize ≡ file_size_max)
are_limits o = (refl, refl, refl, refl)

pub are_preferred : (o : Option Attributes) → ((fsinfo_ok o).rtpref ≡ (fsinfo_ok o).rtmax) × ((fsinfo_ok o).wtpref ≡ (fsinfo_ok o).wtmax)
are_preferred o = (refl, refl)

pub are_multiples : (o : Option Attributes) → ((n : ℕ) × ((fsinfo_ok o).rtmax ≡ n * (fsinfo_ok o).rtmult)) × ((n : ℕ) × ((fsinfo_ok o).wtmax ≡ n * (fsinfo_ok o).wtmult))
are_multiples o = ((transfer_max / transfer_multiple, refl), (transfer_max / transfer_multiple, refl))

-- ---- The size of a file

content_short : (content : Content) → IsValidContent content → length (bytes_of content) ≤ file_size_max
content_short (Regular bytes) h = h
content_short (Directory entries) h = omega arith
content_short (Block device) h = omega arith
content_short (Character device) h = omega arith
content_short (Link path) h = (let short = h.1 in omega (arith, short))
content_short Socket h = omega arith
content_short Fifo h = omega arith

pub file_short : (t : Tree) (handle : List ℕ) (o : Option Attributes) → IsSane t → length (bytes_at t handle) ≤ (fsinfo_ok o).maxfilesize
file_short t handle o sane = by (node_of_handle t handle) refl
  where
    by : (n : Option Node) → node_of_handle t handle ≡ n → length (option_map_or (λ node. bytes_of node.content) n []) ≤ file_size_max
    by None is = omega arith
    by (Some node) is = content_short node.content (sane.contents (number_of_handle handle) node (got t handle node is))

-- a number that is tested against the largest
within_by : (b : Bool) → (b ⇒ Fbig ≡ None) ↔ (b ≡ false)
within_by true = ((λ e. absurd cc), (λ e. absurd cc))
within_by false = ((λ e. refl), (λ e. refl))

past_by : (b : Bool) → (b ⇒ Fbig ≡ Some Fbig) ↔ (b ≡ true)
past_by true = ((λ e. refl), (λ e. refl))
past_by false = ((λ e. absurd cc), (λ e. absurd cc))

pub size_within : (size : ℕ) (o : Option Attributes) → (size_rule (Some size) ≡ None) ↔ (size ≤ (fsinfo_ok o).maxfilesize)
size_within size o =
    let by = within_by (ltb file_size_max size) in
    ((λ e. ltb-false file_size_max size (by.0 e)), (λ le. by.1 (le-ltb file_size_max size le)))

pub size_past : (size : ℕ) (o : Option Attributes) → (size_rule (Some size) ≡ Some Fbig) ↔ ((fsinfo_ok o).maxfilesize < size)
size_past size o =
    let by = past_by (ltb file_size_max size) in
    ((λ e. ltb-true file_size_max size (by.0 e)), (λ lt. by.1 (lt-ltb file_size_max size lt)))

-- the rules of a piece whose count is that of its data: that of its size
piece_rule : (args : WriteArgs) → args.count ≡ length args.bytes → first (piece_rules args) ≡ size_rule (Some (args.offset + length (piece_written args)))
piece_rule args is =
    ap (λ (b : Bool). or_else (not b ⇒ Inval) (first (size_rule (Some (args.offset + length (piece_written args))) ∷ []))) (eq-eqb args.count (length args.bytes) is)
    ∙ alone (size_rule (Some (args.offset + length (piece_written args))))
  where
    alone : (o : Option Status) → first (o ∷ []) ≡ o
    alone None = refl
    alone (Some s) = refl

pub write_within : (args : WriteArgs) (o : Option Attributes) → args.count ≡ length args.bytes
    → (first (piece_rules args) ≡ None) ↔ (args.offset + length (piece_written args) ≤ (fsinfo_ok o).maxfilesize)
write_within args o is =
    let rule = piece_rule args is in
    let by = size_within (args.offset + length (piece_written args)) o in
    ((λ e. by.0 (sym rule ∙ e)), (λ le. rule ∙ by.1 le))

pub write_past : (args : WriteArgs) (o : Option Attributes) → args.count ≡ length args.bytes
    → (first (piece_rules args) ≡ Some Fbig) ↔ ((fsinfo_ok o).maxfilesize < args.offset + length (piece_written args))
write_past args o is =
    let rule = piece_rule args is in
    let by = size_past (args.offset + length (piece_written args)) o in
    ((λ e. by.0 (sym rule ∙ e)), (λ lt. rule ∙ by.1 lt))
