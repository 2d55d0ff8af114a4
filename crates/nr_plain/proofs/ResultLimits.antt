-- The results of each procedure are within the limit of its replies.
use Rattle.std.proofs.Common.{◌≡◌, ℕ, ◌+◌, ◌≤◌, Bool, true, false, cond, not, List, [], ◌∷◌, ◌++◌, length, drop, min, Option, None, Some, Ok, refl, ap, sym, ◌∙◌, subst, arith}
use Rattle.std.specs.Prelude.{max, ◌&&◌, unwrap_or}
use Rattle.std.specs.Option.{option_map, option_map_or}
use Rattle.std.proofs.Math.Nat.{min-le_left, le-max_left, le-max_right}
use Rattle.std.proofs.lemmas.List.{length-take}
use Rattle.std.proofs.lemmas.Bool.{leb-true}
use Rattle.nr_xdr.specs.Item.{IsBytes, pad_len}
use Rattle.nr_xdr.specs.Items.{encodings}
use Rattle.nr_xdr.proofs.Chains.{standing}
use Rattle.nr_nfs_base.specs.Codec.{optional, void, read_all}
use Rattle.nr_nfs_base.specs.Attributes.{attributes_codec}
use Rattle.nr_nfs_base.specs.Procedures.{nfs_procedure_number}
use Rattle.nr_nfs_base.specs.WeakCache.{wcc_data_codec}
use Rattle.nr_nfs_base.specs.declared.attributes.Attributes.{Attributes}
use Rattle.nr_nfs_base.specs.declared.caller.Caller.{Caller}
use Rattle.nr_nfs_base.specs.declared.procedure.NfsProcedure.{NfsProcedure}
use Rattle.nr_nfs_base.specs.declared.procedure.NfsProcedure.TheVariants as nfs
use Rattle.nr_nfs_base.specs.declared.status.Status.{Status}
use Rattle.nr_nfs_base.specs.declared.status.Status.TheVariants.{Inval, Toosmall}
use Rattle.nr_nfs_base.specs.declared.mount_status.MountStatus.TheVariants.{Noent}
use Rattle.nr_nfs_base.specs.declared.status_union.StatusUnion.{StatusUnion}
use Rattle.nr_nfs_base.specs.declared.status_union.StatusUnion.TheVariants.{Done, Failed}
use Rattle.nr_nfs_base.specs.declared.time.Time.{Time}
use Rattle.nr_nfs_base.specs.declared.weak_cache.WccData.{WccData}
use Rattle.nr_nfs_args.specs.Arguments.{NfsArguments, nfs_arguments_codec}
use Rattle.nr_nfs_args.specs.declared.bytes.ReadArgs.{ReadArgs}
use Rattle.nr_nfs_args.specs.declared.lookup.ReadlinkArgs.{ReadlinkArgs}
use Rattle.nr_nfs_args.specs.declared.readdir.ReaddirArgs.{ReaddirArgs}
use Rattle.nr_nfs_args.specs.declared.readdir.ReaddirplusArgs.{ReaddirplusArgs}
use Rattle.nr_nfs_res.specs.Attributes.{access_ok_codec}
use Rattle.nr_nfs_res.specs.Bytes.{commit_ok_codec, read_ok_codec, write_ok_codec}
use Rattle.nr_nfs_res.specs.Create.{create_ok_codec}
use Rattle.nr_nfs_res.specs.FileSystem.{fsinfo_ok_codec, fsstat_ok_codec, pathconf_ok_codec}
use Rattle.nr_nfs_res.specs.Lookup.{lookup_ok_codec, readlink_ok_codec}
use Rattle.nr_nfs_res.specs.Null.{null_res_codec}
use Rattle.nr_nfs_res.specs.Readdir.{readdir_ok_codec, readdirplus_ok_codec}
use Rattle.nr_nfs_res.specs.Remove.{link_wcc_codec, rename_wcc_codec}
use Rattle.nr_nfs_res.specs.Results.{getattr_res_codec, nfs_results_codec, mnt_res_codec}
use Rattle.nr_nfs_res.specs.declared.lookup.LookupOk.{LookupOk}
use Rattle.nr_reduce.specs.Largest.{nfs_reply_max, by_count, read_reply_max, readdir_reply_max, limit_of, read_count, readdir_count, readdirplus_count}
use Rattle.nr_tree.specs.Entries.{Entry}
use Rattle.nr_tree.specs.Replies.{attributes_at}
use Rattle.nr_tree.specs.Rules.{answer, first, handle_of, node_of_handle, number_of_handle}
use Rattle.nr_tree.specs.Sane.{IsSane, IsValidContent}
use Rattle.nr_tree.specs.Tree.{Tree, bytes_of}
use Rattle.nr_tree.specs.declared.node.Node.{Node}
use Rattle.nr_tree.specs.declared.node.Content.{Content}
use Rattle.nr_tree.specs.declared.node.Content.TheVariants.{Regular, Directory, Block, Character, Link, Socket, Fifo}
use Rattle.nr_tree.specs.declared.rules.Space.{Space}
use Rattle.nr_tree.proofs.PassedRules.{AllClear, all_clear, clear, handled, on_some, got}
use Rattle.nr_ops_file.specs.Attributes.{getattr_reply, setattr_reply, access_reply}
use Rattle.nr_ops_file.specs.Bytes.{read_rules, read_done, piece_read, bytes_at, write_reply, commit_reply}
use Rattle.nr_ops_file.specs.FileSystem.{fsstat_reply, fsinfo_reply, pathconf_reply}
use Rattle.nr_ops_file.specs.Links.{is_link, readlink_of, readlink_rules, readlink_done}
use Rattle.nr_ops_dir.specs.Creation.{create_ok, mkdir_rules, mkdir_tree, symlink_rules, symlink_tree, mknod_rules, mknod_tree}
use Rattle.nr_ops_dir.specs.Create.{create_rules, create_tree}
use Rattle.nr_ops_dir.specs.Entries.{number_of_entry}
use Rattle.nr_ops_dir.specs.Links.{link_reply}
use Rattle.nr_ops_list.specs.Lookup.{lookup_rules, lookup_ok, found_by}
use Rattle.nr_ops_list.specs.Readdir.{longest, room_rules, readdir_ok, readdir_fits, readdir_left, readdir_taken, readdir_in, readdir_rules, readdirplus_ok, readdirplus_fits, readdirplus_left, readdirplus_taken, readdirplus_in, readdirplus_rules}
use Rattle.nr_ops_dir.specs.Removal.{remove_reply, rmdir_reply}
use Rattle.nr_ops_dir.specs.Renaming.{rename_reply}
use Rattle.nr_ops_list.proofs.Sizes.{items_size, length_encodings, attributes_size, readdir_size, readdirplus_size}
use Rattle.nr_plain.specs.ReplySizes.{HandleFits, results_max}
use Rattle.nr_plain.specs.Programs.{nfs_results}
use Rattle.nr_plain.proofs.Lengths.{some_attributes, wcc_size, padded_rises, length_handle, lookup_size, access_size, readlink_size, read_size, write_size, commit_size, create_size, rename_size, link_size, fsstat_size, fsinfo_size, pathconf_size, mount_size, answer_fits, union_fits, done_size, failed_size, mounted_size, not_mounted_size}
use Rattle.nr_plain.proofs.Readings.{read_counted, readdir_counted, readdirplus_counted}
use Rattle.nr_nfs_base.specs.Limits.{link_target_max, listing_max, transfer_max}

-- ===== READLINK: a path is short

path_by : (c : Content) → not (is_link c) ≡ false → IsValidContent c → length (bytes_of c) ≤ link_target_max
path_by (Regular bytes) e fits = absurd cc
path_by (Directory entries) e fits = absurd cc
path_by (Block device) e fits = absurd cc
path_by (Character device) e fits = absurd cc
path_by (Link path) e fits = fits.1
path_by Socket e fits = absurd cc
path_by Fifo e fits = absurd cc

pub path_short : (t : Tree) (a : ReadlinkArgs) → IsSane t → first (readlink_rules t a) ≡ None → length (readlink_done t a).path ≤ link_target_max
path_short t a sane none =
    let all : AllClear (readlink_rules t a) = all_clear (readlink_rules t a) none in
    let v : (v : Node) × (node_of_handle t a.symlink ≡ Some v) = handled t a.symlink all.0 in
    let of_node : AllClear (readlink_of v.0) = on_some (node_of_handle t a.symlink) v.0 readlink_of v.1 all.1 in
    subst (λ (o : Option Node). length (option_map_or (λ node. bytes_of node.content) o []) ≤ link_target_max) (sym v.1)
    (path_by v.0.content (clear (not (is_link v.0.content)) Inval of_node.0) (sane.contents (number_of_handle a.symlink) v.0 (got t a.symlink v.0 v.1)))

-- ===== READ: at most n bytes

pub piece_short : (bytes : List ℕ) (offset count : ℕ) → length (piece_read bytes offset count) ≤ min count transfer_max
piece_short bytes offset count =
    omega (arith, length-take (min count transfer_max) (drop offset bytes), min-le_left (min count transfer_max) (length (drop offset bytes)))

-- ===== READDIR and READDIRPLUS: within the count

longest_fits_by : (fits : List Entry → Bool) (taken more rest : List Entry) (b : Bool) → fits more ≡ b → fits taken ≡ true → (fits more ≡ true → fits rest ≡ true) → fits (cond b rest taken) ≡ true
longest_fits_by fits taken more rest true is e others = others is
longest_fits_by fits taken more rest false is e others = e

longest_fits : (fits : List Entry → Bool) (taken left : List Entry) → fits taken ≡ true → fits (longest fits taken left) ≡ true
longest_fits fits taken [] e = e
longest_fits fits taken (x ∷ left) e =
    longest_fits_by fits taken (taken ++ x ∷ []) (longest fits (taken ++ x ∷ []) left) (fits (taken ++ x ∷ [])) refl e (λ is. longest_fits fits (taken ++ x ∷ []) left is)

is_true : (b : Bool) → not b ≡ false → b ≡ true
is_true true e = refl
is_true false e = absurd cc

taken_fits : (fits : List Entry → Bool) (left : List Entry) → first (room_rules fits left) ≡ None → fits (longest fits [] left) ≡ true
taken_fits fits left none =
    let all : AllClear (room_rules fits left) = all_clear (room_rules fits left) none in
    longest_fits fits [] left (is_true (fits []) (clear (not (fits [])) Toosmall all.0))

both : (a b : Bool) → (a && b) ≡ true → a ≡ true
both true b e = refl
both false b e = absurd cc

module _ (t : Tree) (c : Caller) where
  readdir_short : (a : ReaddirArgs) (eof : Bool) → first (readdir_rules t c a) ≡ None → items_size (readdir_ok_codec.items (readdir_ok t a.dir (readdir_taken t a) eof)) ≤ min a.count listing_max
  readdir_short a eof none =
      let all : AllClear (readdir_rules t c a) = all_clear (readdir_rules t c a) none in
      let v : (v : Node) × (node_of_handle t a.dir ≡ Some v) = handled t a.dir all.0 in
      let of_dir : AllClear (readdir_in t c a v.0) = on_some (node_of_handle t a.dir) v.0 (readdir_in t c a) v.1 all.1 in
      let fits = leb-true (length (encodings (readdir_ok_codec.items (readdir_ok t a.dir (readdir_taken t a) false)))) (min a.count listing_max) (taken_fits (readdir_fits t a) (readdir_left t a) of_dir.1.0) in
      omega (
        arith,
        fits,
        length_encodings (readdir_ok_codec.items (readdir_ok t a.dir (readdir_taken t a) eof)),
        readdir_size t a.dir v.0 (readdir_taken t a) false v.1,
        readdir_size t a.dir v.0 (readdir_taken t a) eof v.1,
      )

  readdirplus_short : (a : ReaddirplusArgs) (eof : Bool) → first (readdirplus_rules t c a) ≡ None → items_size (readdirplus_ok_codec.items (readdirplus_ok t a.dir (readdirplus_taken t a) eof)) ≤ min a.maxcount listing_max
  readdirplus_short a eof none =
      let all : AllClear (readdirplus_rules t c a) = all_clear (readdirplus_rules t c a) none in
      let v : (v : Node) × (node_of_handle t a.dir ≡ Some v) = handled t a.dir all.0 in
      let of_dir : AllClear (readdirplus_in t c a v.0) = on_some (node_of_handle t a.dir) v.0 (readdirplus_in t c a) v.1 all.1 in
      let fits = leb-true (length (encodings (readdirplus_ok_codec.items (readdirplus_ok t a.dir (readdirplus_taken t a) false)))) (min a.maxcount listing_max)
      (both _ _ (taken_fits (readdirplus_fits t a) (readdirplus_left t a) of_dir.1.0)) in
      omega (
        arith,
        fits,
        length_encodings (readdirplus_ok_codec.items (readdirplus_ok t a.dir (readdirplus_taken t a) eof)),
        readdirplus_size t a.dir v.0 (readdirplus_taken t a) false v.1,
        readdirplus_size t a.dir v.0 (readdirplus_taken t a) eof v.1,
      )

-- ===== handles of what was made

made_handle : (o : Option ℕ) → HandleFits (option_map handle_of o)
made_handle None = tt
made_handle (Some n) = omega (arith, length_handle n)

-- ===== each procedure

getattr_fits : (r : StatusUnion Attributes (Unit {0}) Status) → length (encodings (getattr_res_codec.items r)) ≤ 88
getattr_fits (Done d) = omega (arith, done_size attributes_codec void d, attributes_size d)
getattr_fits (Failed s f) = omega (arith, failed_size attributes_codec void s f)

pub mnt_fits : (b : Bool) → length (encodings (mnt_res_codec.items (cond b (Done (record { handle = handle_of 1; flavors = 1 ∷ 0 ∷ [] })) (Failed Noent tt)))) ≤ 84
mnt_fits true =
    omega (arith, length_handle 1, mounted_size (record { handle = handle_of 1; flavors = 1 ∷ 0 ∷ [] }), mount_size (handle_of 1) (omega (arith, length_handle 1)))
mnt_fits false = omega (arith, not_mounted_size Noent tt)

pub wcc_part : (n : ℕ) → 120 ≤ n → (d : WccData) → 4 + items_size (wcc_data_codec.items d) ≤ n
wcc_part n le d = omega (arith, le, wcc_size d)

-- the objects that CREATE, MKDIR, SYMLINK and MKNOD make
pub make_fits : (o : Option Status) (wcc : WccData) (t u : Tree) (dir name : List ℕ)
    → length (encodings ((nfs_results_codec nfs.Create).items (answer o (λ s. Failed s wcc) (Done (create_ok t u dir name))))) ≤ results_max
make_fits o wcc t u dir name =
    answer_fits create_ok_codec wcc_data_codec o wcc (create_ok t u dir name) results_max (wcc_part results_max (omega arith) wcc)
    (λ none. omega (arith, create_size (create_ok t u dir name) (made_handle (number_of_entry u (number_of_handle dir) name))))

module _ (t : Tree) (c : Caller) (space : Space) (now : Time) (sane : IsSane t) where
  abbrev Fits : (p : NfsProcedure) → NfsArguments p → ℕ → Type 0
  Fits p a n = length (encodings ((nfs_results_codec p).items (nfs_results t c space now p a))) ≤ n

  attributes_part : (n : ℕ) → 92 ≤ n → (d : Option Attributes) → 4 + items_size ((optional attributes_codec).items d) ≤ n
  attributes_part n le d = omega (arith, le, some_attributes d)

  null_fits : (a : NfsArguments nfs.Null) → Fits nfs.Null a 0
  unfolding null_res_codec
  null_fits a = omega arith

  read_fits : (a : ReadArgs) → Fits nfs.Read a (104 + (min a.count transfer_max + pad_len (min a.count transfer_max)))
  read_fits a =
      let n : ℕ = min a.count transfer_max in
      answer_fits read_ok_codec (optional attributes_codec) (first (read_rules t c a)) (attributes_at t a.file) (read_done t a) (104 + (n + pad_len n))
      (attributes_part (104 + (n + pad_len n)) (omega arith) (attributes_at t a.file))
      (λ none. omega (arith, read_size (read_done t a), padded_rises (length (read_done t a).bytes) n (piece_short (bytes_at t a.file) a.offset a.count)))

  readlink_fits : (a : ReadlinkArgs) → Fits nfs.Readlink a 1120
  unfolding pad_len
  readlink_fits a =
      answer_fits readlink_ok_codec (optional attributes_codec) (first (readlink_rules t a)) (attributes_at t a.symlink) (readlink_done t a) 1120
      (attributes_part 1120 (omega arith) (attributes_at t a.symlink))
      (λ none. omega (arith, readlink_size (readlink_done t a), padded_rises (length (readlink_done t a).path) link_target_max (path_short t a sane none)))

  readdir_within : (a : ReaddirArgs) → Fits nfs.Readdir a (max 92 (4 + min a.count listing_max))
  readdir_within a =
      let n : ℕ = max 92 (4 + min a.count listing_max) in
      let eof : Bool = _ in
      answer_fits readdir_ok_codec (optional attributes_codec) (first (readdir_rules t c a)) (attributes_at t a.dir) (readdir_ok t a.dir (readdir_taken t a) eof) n
      (attributes_part n (le-max_left 92 (4 + min a.count listing_max)) (attributes_at t a.dir))
      (λ none. omega (arith, readdir_short t c a eof none, le-max_right 92 (4 + min a.count listing_max)))

  readdirplus_within : (a : ReaddirplusArgs) → Fits nfs.Readdirplus a (max 92 (4 + min a.maxcount listing_max))
  readdirplus_within a =
      let n : ℕ = max 92 (4 + min a.maxcount listing_max) in
      let eof : Bool = _ in
      answer_fits readdirplus_ok_codec (optional attributes_codec) (first (readdirplus_rules t c a)) (attributes_at t a.dir) (readdirplus_ok t a.dir (readdirplus_taken t a) eof) n
      (attributes_part n (le-max_left 92 (4 + min a.maxcount listing_max)) (attributes_at t a.dir))
      (λ none. omega (arith, readdirplus_short t c a eof none, le-max_right 92 (4 + min a.maxcount listing_max)))

  -- a reply's head has 24 bytes
  module _ (place : ℕ) (args : List ℕ) (bytes : IsBytes args) where
    abbrev Within : (p : NfsProcedure) → NfsArguments p → Type 0
    Within p a = 24 + length (encodings ((nfs_results_codec p).items (nfs_results t c space now p a))) ≤ nfs_reply_max (nfs_procedure_number p) (standing place args)

    -- a procedure whose replies have one limit
    one : (p : NfsProcedure) (a : NfsArguments p) (n : ℕ) → Fits p a n → 24 + n ≤ nfs_reply_max (nfs_procedure_number p) (standing place args) → Within p a
    one p a n fits le = omega (arith, fits, le)

    counted : (p : NfsProcedure) (a : NfsArguments p) (n : ℕ) (most : ℕ → ℕ) (count : Option ℕ) (asked : ℕ) → count ≡ Some asked → nfs_reply_max (nfs_procedure_number p) (standing place args) ≡ by_count most count → Fits p a n → 24 + n ≤ most asked → Within p a
    counted p a n most count asked is by fits le =
        let limit : nfs_reply_max (nfs_procedure_number p) (standing place args) ≡ most asked = by ∙ ap (by_count most) is in
        omega (arith, limit, fits, le)

    most_listed : (n : ℕ) → 24 + max 92 (4 + n) ≤ max 116 (28 + n)
    most_listed n = omega arith

    pub results_within : (p : NfsProcedure) (a : NfsArguments p) → read_all (nfs_arguments_codec p) args ≡ Ok a → Within p a
    unfolding limit_of
    results_within nfs.Null a e = one nfs.Null a 0 (null_fits a) (omega arith)
    results_within nfs.Getattr a e = one nfs.Getattr a 88 (getattr_fits (getattr_reply t a)) (omega arith)
    results_within nfs.Setattr a e = one nfs.Setattr a 120 (union_fits wcc_data_codec wcc_data_codec (setattr_reply t c space now a) 120 (wcc_part 120 (omega arith)) (wcc_part 120 (omega arith))) (omega arith)
    results_within nfs.Lookup a e =
        let d : LookupOk = lookup_ok t a.dir (unwrap_or (found_by t a) 0) in
        one nfs.Lookup a 248
        (answer_fits lookup_ok_codec (optional attributes_codec) (first (lookup_rules t c a)) (attributes_at t a.dir) d 248 (attributes_part 248 (omega arith) (attributes_at t a.dir))
        (λ none. omega (arith, lookup_size d (omega (arith, length_handle (unwrap_or (found_by t a) 0))))))
        (omega arith)
    results_within nfs.Access a e =
        one nfs.Access a 96 (union_fits access_ok_codec (optional attributes_codec) (access_reply t c a) 96 (attributes_part 96 (omega arith)) (λ d. omega (arith, access_size d))) (omega arith)
    results_within nfs.Readlink a e = one nfs.Readlink a 1120 (readlink_fits a) (omega arith)
    results_within nfs.Read a e =
        counted nfs.Read a (104 + (min a.count transfer_max + pad_len (min a.count transfer_max))) read_reply_max (read_count (standing place args)) a.count (read_counted place args bytes a e) refl (read_fits a) (omega arith)
    results_within nfs.Write a e = one nfs.Write a 136 (union_fits write_ok_codec wcc_data_codec (write_reply t c space now a) 136 (wcc_part 136 (omega arith)) (λ d. omega (arith, write_size d))) (omega arith)
    results_within nfs.Create a e = one nfs.Create a results_max (make_fits (first (create_rules t c space a)) _ t (create_tree t c space now a) a.dir a.name) (omega arith)
    results_within nfs.Mkdir a e = one nfs.Mkdir a results_max (make_fits (first (mkdir_rules t c space a)) _ t (mkdir_tree t c space now a) a.dir a.name) (omega arith)
    results_within nfs.Symlink a e = one nfs.Symlink a results_max (make_fits (first (symlink_rules t c space a)) _ t (symlink_tree t c space now a) a.dir a.name) (omega arith)
    results_within nfs.Mknod a e = one nfs.Mknod a results_max (make_fits (first (mknod_rules t c space a)) _ t (mknod_tree t c space now a) a.dir a.name) (omega arith)
    results_within nfs.Remove a e = one nfs.Remove a 120 (union_fits wcc_data_codec wcc_data_codec (remove_reply t c space now a) 120 (wcc_part 120 (omega arith)) (wcc_part 120 (omega arith))) (omega arith)
    results_within nfs.Rmdir a e = one nfs.Rmdir a 120 (union_fits wcc_data_codec wcc_data_codec (rmdir_reply t c space now a) 120 (wcc_part 120 (omega arith)) (wcc_part 120 (omega arith))) (omega arith)
    results_within nfs.Rename a e = one nfs.Rename a 236 (union_fits rename_wcc_codec rename_wcc_codec (rename_reply t c space now a) 236 (λ d. omega (arith, rename_size d)) (λ d. omega (arith, rename_size d))) (omega arith)
    results_within nfs.Link a e = one nfs.Link a 208 (union_fits link_wcc_codec link_wcc_codec (link_reply t c space now a) 208 (λ d. omega (arith, link_size d)) (λ d. omega (arith, link_size d))) (omega arith)
    results_within nfs.Readdir a e =
        counted nfs.Readdir a (max 92 (4 + min a.count listing_max)) readdir_reply_max (readdir_count (standing place args)) a.count (readdir_counted place args bytes a e) refl (readdir_within a) (most_listed (min a.count listing_max))
    results_within nfs.Readdirplus a e =
        counted nfs.Readdirplus a (max 92 (4 + min a.maxcount listing_max)) readdir_reply_max (readdirplus_count (standing place args)) a.maxcount (readdirplus_counted place args bytes a e) refl (readdirplus_within a) (most_listed (min a.maxcount listing_max))
    results_within nfs.Fsstat a e =
        one nfs.Fsstat a 144 (union_fits fsstat_ok_codec (optional attributes_codec) (fsstat_reply t space a) 144 (attributes_part 144 (omega arith)) (λ d. omega (arith, fsstat_size d))) (omega arith)
    results_within nfs.Fsinfo a e =
        one nfs.Fsinfo a 140 (union_fits fsinfo_ok_codec (optional attributes_codec) (fsinfo_reply t a) 140 (attributes_part 140 (omega arith)) (λ d. omega (arith, fsinfo_size d))) (omega arith)
    results_within nfs.Pathconf a e =
        one nfs.Pathconf a 116 (union_fits pathconf_ok_codec (optional attributes_codec) (pathconf_reply t a) 116 (attributes_part 116 (omega arith)) (λ d. omega (arith, pathconf_size d))) (omega arith)
    results_within nfs.Commit a e = one nfs.Commit a 128 (union_fits commit_ok_codec wcc_data_codec (commit_reply t space a) 128 (wcc_part 128 (omega arith)) (λ d. omega (arith, commit_size d))) (omega arith)
