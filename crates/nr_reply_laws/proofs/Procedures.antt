-- What is read of the results of each procedure that a command calls.
use Rattle.std.proofs.Common.{◌≡◌, ℕ, suc, ◌+◌, ◌-◌, ◌<◌, ◌≤◌, ◌^◌, min, Bool, true, false, not, cond, eqb, ◌||◌, ◌&&◌, List, [], ◌∷◌, ◌++◌, length, map, drop, Option, None, Some, refl, sym, ap, subst, ◌∙◌, arith, length-take, length-drop, eqb-true, le-ltb, le-leb, ne_eqb, unwrap_or}
use Rattle.std.specs.Prelude.{◌==◌, nat_lt, nat_le}
use Rattle.std.specs.Option.{option_map, option_map_or}
use Rattle.std.specs.List.{AllByRecursion}
use Rattle.std.specs.FinMap.{get}
use Rattle.nr_nfs_base.specs.Attributes.{attributes_codec}
use Rattle.nr_nfs_base.specs.Codec.{Codec, optional, void}
use Rattle.nr_nfs_base.specs.Limits.{handle_max, name_length_max, transfer_max}
use Rattle.nr_nfs_base.specs.Status.{each_status, status_not_ok, status_number, statuses}
use Rattle.nr_nfs_base.specs.WeakCache.{wcc_data_codec}
use Rattle.nr_nfs_base.specs.declared.attributes.Attributes.{Attributes}
use Rattle.nr_nfs_base.specs.declared.caller.Caller.{Caller}
use Rattle.nr_nfs_base.specs.declared.status.Status.{Status}
use Rattle.nr_nfs_base.specs.declared.status.Status.TheVariants.{Perm, Noent, Io, Nxio, Acces, Exist, Xdev, Nodev, Notdir, Isdir, Inval, Fbig, Nospc, Rofs, Mlink, Nametoolong, Notempty, Dquot, Stale, Remote, Badhandle, NotSync, BadCookie, Notsupp, Toosmall, Serverfault, Badtype, Jukebox}
use Rattle.nr_nfs_base.specs.declared.status_union.StatusUnion.{StatusUnion}
use Rattle.nr_nfs_base.specs.declared.status_union.StatusUnion.TheVariants.{Done, Failed}
use Rattle.nr_nfs_base.specs.declared.time.Time.{Time}
use Rattle.nr_nfs_args.specs.declared.attributes.GetattrArgs.{GetattrArgs}
use Rattle.nr_nfs_args.specs.declared.bytes.ReadArgs.{ReadArgs}
use Rattle.nr_nfs_args.specs.declared.bytes.WriteArgs.{WriteArgs}
use Rattle.nr_nfs_args.specs.declared.create.CreateArgs.{CreateArgs}
use Rattle.nr_nfs_args.specs.declared.create.MkdirArgs.{MkdirArgs}
use Rattle.nr_nfs_args.specs.declared.lookup.LookupArgs.{LookupArgs}
use Rattle.nr_nfs_args.specs.declared.lookup.ReadlinkArgs.{ReadlinkArgs}
use Rattle.nr_nfs_args.specs.declared.readdir.ReaddirArgs.{ReaddirArgs}
use Rattle.nr_nfs_args.specs.declared.remove.RemoveArgs.{RemoveArgs}
use Rattle.nr_nfs_args.specs.declared.special.SymlinkArgs.{SymlinkArgs}
use Rattle.nr_nfs_res.specs.Bytes.{read_ok_codec, write_ok_codec}
use Rattle.nr_nfs_res.specs.Create.{create_ok_codec}
use Rattle.nr_nfs_res.specs.Lookup.{lookup_ok_codec, readlink_ok_codec}
use Rattle.nr_nfs_res.specs.Readdir.{ReaddirOk, readdir_ok_codec}
use Rattle.nr_nfs_res.specs.Results.{nfs_result}
use Rattle.nr_nfs_res.specs.declared.bytes.ReadOk.{ReadOk}
use Rattle.nr_nfs_res.specs.declared.bytes.WriteOk.{WriteOk}
use Rattle.nr_nfs_res.specs.declared.create.CreateOk.{CreateOk}
use Rattle.nr_nfs_res.specs.declared.lookup.LookupOk.{LookupOk}
use Rattle.nr_nfs_res.specs.declared.readdir.Entry.{Entry as ListedEntry}
use Rattle.nr_tree.specs.Entries.{Entry, NamesAreValid}
use Rattle.nr_tree.specs.Listing.{entries_after}
use Rattle.nr_tree.specs.Replies.{attributes_at, wcc_data}
use Rattle.nr_tree.specs.Rules.{answer, after, first, handle_of, node_of_handle, number_of_handle, on}
use Rattle.nr_tree.specs.Sane.{IsSane, IsValidContent}
use Rattle.nr_tree.specs.Tree.{Tree, entries_in, entries_of}
use Rattle.nr_tree.specs.declared.node.Content.{Content}
use Rattle.nr_tree.specs.declared.node.Content.TheVariants.{Regular, Directory, Block, Character, Link, Socket, Fifo}
use Rattle.nr_tree.specs.declared.node.Node.{Node}
use Rattle.nr_tree.specs.declared.rules.Space.{Space}
use Rattle.nr_tree.proofs.PassedRules.{AllClear, all_clear, clear}
use Rattle.nr_ops_file.specs.Attributes.{getattr_done, getattr_reply, getattr_rules}
use Rattle.nr_ops_file.specs.Bytes.{bytes_at, piece_read, read_done, read_reply, read_rules, write_ok, write_reply, write_rules, write_tree}
use Rattle.nr_ops_file.specs.Links.{readlink_done, readlink_reply, readlink_rules}
use Rattle.nr_ops_file.proofs.PreferredSizes.{file_short}
use Rattle.nr_ops_list.specs.Lookup.{found_by, lookup_ok, lookup_reply, lookup_rules}
use Rattle.nr_ops_list.specs.Readdir.{entries_behind, goes_on, listed, longest, readdir_fits, readdir_left, readdir_ok, readdir_in, readdir_reply, readdir_rules, readdir_taken, room_rules}
use Rattle.nr_ops_dir.specs.Create.{create_reply, create_rules, create_tree, new_file, tree_with_file}
use Rattle.nr_ops_dir.specs.Creation.{create_ok, mkdir_reply, mkdir_rules, mkdir_tree, symlink_reply, symlink_rules, symlink_tree}
use Rattle.nr_ops_dir.specs.Entries.{number_of_entry}
use Rattle.nr_ops_dir.specs.Removal.{remove_reply, remove_rules, remove_tree}
use Rattle.nr_ops_dir.proofs.CanCreate.{can_make_file}
use Rattle.nr_ops_dir.proofs.NamesAfter.{named_after_addition, named_after_create}
use Rattle.nr_plain.proofs.Lengths.{length_handle}
use Rattle.nr_client.specs.Listing.{is_stuck}
use Rattle.nr_client.specs.Reading.{is_bad_read}
use Rattle.nr_reply_laws.specs.Replies.{AnyValue, IsHandle, ListsOn}
use Rattle.nr_reply_laws.proofs.Decoding.{Any, IsRead, UnionIs, done_is, failed_is, weaker}
use Rattle.nr_reply_laws.proofs.Values.{attributes_any, create_ok_none, create_ok_some, lookup_ok_is, read_ok_is, readdir_ok_is, readlink_ok_any, some_attributes, void_any, wcc_any, write_ok_is}

pub status_fits : (s : Status) → status_number s < 2 ^ 32
status_fits Perm = omega arith
status_fits Noent = omega arith
status_fits Io = omega arith
status_fits Nxio = omega arith
status_fits Acces = omega arith
status_fits Exist = omega arith
status_fits Xdev = omega arith
status_fits Nodev = omega arith
status_fits Notdir = omega arith
status_fits Isdir = omega arith
status_fits Inval = omega arith
status_fits Fbig = omega arith
status_fits Nospc = omega arith
status_fits Rofs = omega arith
status_fits Mlink = omega arith
status_fits Nametoolong = omega arith
status_fits Notempty = omega arith
status_fits Dquot = omega arith
status_fits Stale = omega arith
status_fits Remote = omega arith
status_fits Badhandle = omega arith
status_fits NotSync = omega arith
status_fits BadCookie = omega arith
status_fits Notsupp = omega arith
status_fits Toosmall = omega arith
status_fits Serverfault = omega arith
status_fits Badtype = omega arith
status_fits Jukebox = omega arith

-- results are read with this property of the part after status 0
abbrev pub Reads : {D F : Type 0} → Codec D → Codec F → (D → Type 0) → StatusUnion D F Status → Type 0
Reads done failed P results = IsRead (nfs_result done failed) ((nfs_result done failed).items results) (UnionIs P)

of_done : {D F : Type 0} (done : Codec D) (failed : Codec F) (P : D → Type 0) (d : D) → IsRead done (done.items d) P → Reads done failed P (Done d)
of_done done failed P d reads = done_is status_number statuses status_not_ok each_status status_fits done failed d P reads

of_failed : {D F : Type 0} (done : Codec D) (failed : Codec F) (P : D → Type 0) (s : Status) (part : F) → IsRead failed (failed.items part) Any → Reads done failed P (Failed s part)
of_failed done failed P s part reads = failed_is status_number statuses status_not_ok each_status status_fits done failed s part P reads

answered : {D F : Type 0} (done : Codec D) (failed : Codec F) (P : D → Type 0) (o : Option Status) (part : F) (results : StatusUnion D F Status) → IsRead failed (failed.items part) Any → (o ≡ None → Reads done failed P results)
    → Reads done failed P (answer o (λ s. Failed s part) results)
answered done failed P None part results fails reads = reads refl
answered done failed P (Some s) part results fails reads = of_failed done failed P s part fails

-- ---- GETATTR, LOOKUP, READLINK, REMOVE

getattr_done_read : (o : Option Attributes) → Reads attributes_codec void AnyValue (getattr_done o)
getattr_done_read None = of_failed attributes_codec void AnyValue Serverfault tt void_any
getattr_done_read (Some a) = of_done attributes_codec void AnyValue a (attributes_any a)

pub getattr_read : (t : Tree) (a : GetattrArgs) → Reads attributes_codec void AnyValue (getattr_reply t a)
getattr_read t a = answered attributes_codec void AnyValue (first (getattr_rules t a)) tt (getattr_done (attributes_at t a.object)) void_any (λ none. getattr_done_read (attributes_at t a.object))

handle_short : (n : ℕ) → length (handle_of n) ≤ handle_max
handle_short n = omega (arith, length_handle n)

pub lookup_read : (t : Tree) (c : Caller) (a : LookupArgs) → Reads lookup_ok_codec (optional attributes_codec) (λ w. IsHandle w.object) (lookup_reply t c a)
lookup_read t c a =
    let v = lookup_ok t a.dir (unwrap_or (found_by t a) 0) in
    answered lookup_ok_codec (optional attributes_codec) (λ w. IsHandle w.object) (first (lookup_rules t c a)) (attributes_at t a.dir) (Done v) (some_attributes (attributes_at t a.dir))
    (λ none. of_done lookup_ok_codec (optional attributes_codec) (λ w. IsHandle w.object) v (by v (handle_short (unwrap_or (found_by t a) 0))))
  where
    by : (v : LookupOk) → length v.object ≤ handle_max → IsRead lookup_ok_codec (lookup_ok_codec.items v) (λ w. IsHandle w.object)
    by v short = weaker lookup_ok_codec (lookup_ok_codec.items v) (λ w. w.object ≡ v.object) (λ w. IsHandle w.object) (λ w is. subst (λ (h : List ℕ). length h ≤ handle_max) (sym is) short) (lookup_ok_is v short)

pub readlink_read : (t : Tree) (a : ReadlinkArgs) → IsSane t → Reads readlink_ok_codec (optional attributes_codec) AnyValue (readlink_reply t a)
readlink_read t a sane =
    answered readlink_ok_codec (optional attributes_codec) AnyValue (first (readlink_rules t a)) (attributes_at t a.symlink) (Done (readlink_done t a)) (some_attributes (attributes_at t a.symlink))
    (λ none. of_done readlink_ok_codec (optional attributes_codec) AnyValue (readlink_done t a) (readlink_ok_any (readlink_done t a) (let short = file_short t a.symlink None sane in omega (arith, short))))

pub remove_read : (t : Tree) (c : Caller) (space : Space) (now : Time) (a : RemoveArgs) → Reads wcc_data_codec wcc_data_codec AnyValue (remove_reply t c space now a)
remove_read t c space now a =
    answered wcc_data_codec wcc_data_codec AnyValue (first (remove_rules t c space a)) (wcc_data t t a.dir) (Done (wcc_data t (remove_tree t c space now a) a.dir)) (wcc_any (wcc_data t t a.dir))
    (λ none. of_done wcc_data_codec wcc_data_codec AnyValue (wcc_data t (remove_tree t c space now a) a.dir) (wcc_any (wcc_data t (remove_tree t c space now a) a.dir)))

-- ---- MKDIR, SYMLINK, CREATE

made_any : (v : CreateOk) (o : Option ℕ) → v.object ≡ option_map handle_of o → IsRead create_ok_codec (create_ok_codec.items v) AnyValue
made_any v None is = create_ok_none v is
made_any v (Some n) is = weaker create_ok_codec (create_ok_codec.items v) (λ w. w.object ≡ Some (handle_of n)) AnyValue (λ w same. tt) (create_ok_some v (handle_of n) is (handle_short n))

made_read : (t new : Tree) (o : Option Status) (dir name : List ℕ) → Reads create_ok_codec wcc_data_codec AnyValue (answer o (λ s. Failed s (wcc_data t t dir)) (Done (create_ok t new dir name)))
made_read t new o dir name =
    answered create_ok_codec wcc_data_codec AnyValue o (wcc_data t t dir) (Done (create_ok t new dir name)) (wcc_any (wcc_data t t dir))
    (λ none. of_done create_ok_codec wcc_data_codec AnyValue (create_ok t new dir name) (made_any (create_ok t new dir name) (number_of_entry new (number_of_handle dir) name) refl))

pub mkdir_read : (t : Tree) (c : Caller) (space : Space) (now : Time) (a : MkdirArgs) → Reads create_ok_codec wcc_data_codec AnyValue (mkdir_reply t c space now a)
mkdir_read t c space now a = made_read t (mkdir_tree t c space now a) (first (mkdir_rules t c space a)) a.dir a.name

pub symlink_read : (t : Tree) (c : Caller) (space : Space) (now : Time) (a : SymlinkArgs) → Reads create_ok_codec wcc_data_codec AnyValue (symlink_reply t c space now a)
symlink_read t c space now a = made_read t (symlink_tree t c space now a) (first (symlink_rules t c space a)) a.dir a.name

-- a file that was created, or was there, has its name
abbrev pub HasHandle : CreateOk → Type 0
HasHandle w = (h : List ℕ) × ((w.object ≡ Some h) × IsHandle h)

named : (t : Tree) (c : Caller) (space : Space) (now : Time) (a : CreateArgs) → IsSane t → first (create_rules t c space a) ≡ None → (o : Option ℕ) → number_of_entry t (number_of_handle a.dir) a.name ≡ o
    → (n : ℕ) × (number_of_entry (tree_with_file t c now a o) (number_of_handle a.dir) a.name ≡ Some n)
named t c space now a sane none None free =
    (t.next, named_after_addition t now (number_of_handle a.dir) a.name (new_file c now (number_of_handle a.dir) a.how) sane (can_make_file t c space now a none free))
named t c space now a sane none (Some n) found = (n, named_after_create t now a.how n (number_of_handle a.dir) a.name ∙ found)

pub create_read : (t : Tree) (c : Caller) (space : Space) (now : Time) (a : CreateArgs) → IsSane t → Reads create_ok_codec wcc_data_codec HasHandle (create_reply t c space now a)
create_read t c space now a sane =
    answered create_ok_codec wcc_data_codec HasHandle (first (create_rules t c space a)) (wcc_data t t a.dir) (Done (create_ok t (create_tree t c space now a) a.dir a.name)) (wcc_any (wcc_data t t a.dir))
    (λ none. of_done create_ok_codec wcc_data_codec HasHandle (create_ok t (create_tree t c space now a) a.dir a.name) (by none))
  where
    by : first (create_rules t c space a) ≡ None → IsRead create_ok_codec (create_ok_codec.items (create_ok t (create_tree t c space now a) a.dir a.name)) HasHandle
    by none =
        let o = number_of_entry t (number_of_handle a.dir) a.name in
        let is = named t c space now a sane none o refl in
        let tree : create_tree t c space now a ≡ tree_with_file t c now a o = ap (λ (r : Option Status). after r t (tree_with_file t c now a o)) none in
        let object : (create_ok t (create_tree t c space now a) a.dir a.name).object ≡ Some (handle_of is.0) =
        ap (λ (u : Tree). option_map handle_of (number_of_entry u (number_of_handle a.dir) a.name)) tree ∙ ap (λ (p : Option ℕ). option_map handle_of p) is.1 in
        let v = create_ok t (create_tree t c space now a) a.dir a.name in
        weaker create_ok_codec (create_ok_codec.items v) (λ w. w.object ≡ Some (handle_of is.0)) HasHandle (λ w same. (handle_of is.0, (same, handle_short is.0)))
        (create_ok_some v (handle_of is.0) object (handle_short is.0))

-- ---- READ and WRITE

neither : (a b : Bool) → a ≡ false → b ≡ false → (a || b) ≡ false
neither false b x y = y
neither true b x y = absurd cc

-- it gives no more than is asked for, and if it gives nothing, the file ends there
good_read : (bytes : List ℕ) (offset count : ℕ) (w : ReadOk) → 0 < count → w.bytes ≡ piece_read bytes offset count → w.eof ≡ nat_le (length bytes) (offset + length (piece_read bytes offset count)) → is_bad_read count w ≡ false
good_read bytes offset count w some same eof =
    neither (nat_lt count (length w.bytes)) (length w.bytes == 0 && not w.eof) (le-ltb count (length w.bytes) (omega (arith, size, ap length same))) (by (eqb (length w.bytes) 0) refl)
  where
    size : length (piece_read bytes offset count) ≡ min (min count transfer_max) (length bytes - offset)
    size = let cut = length-take (min count transfer_max) (drop offset bytes) in let left = length-drop offset bytes in omega (arith, cut, left)

    by : (b : Bool) → eqb (length w.bytes) 0 ≡ b → (b && not w.eof) ≡ false
    by false is = refl
    by true is =
        let none : length w.bytes ≡ 0 = eqb-true (length w.bytes) 0 is in
        let ends : nat_le (length bytes) (offset + length (piece_read bytes offset count)) ≡ true = le-leb (length bytes) (offset + length (piece_read bytes offset count)) (omega (arith, size, none, ap length same, some)) in
        ap (λ (b : Bool). not b) (eof ∙ ends)

pub read_read : (t : Tree) (c : Caller) (a : ReadArgs) (count : ℕ) → a.count ≡ count → 0 < count → Reads read_ok_codec (optional attributes_codec) (λ w. is_bad_read count w ≡ false) (read_reply t c a)
read_read t c a count is some =
    answered read_ok_codec (optional attributes_codec) (λ w. is_bad_read count w ≡ false) (first (read_rules t c a)) (attributes_at t a.file) (Done (read_done t a)) (some_attributes (attributes_at t a.file))
    (λ none. of_done read_ok_codec (optional attributes_codec) (λ w. is_bad_read count w ≡ false) (read_done t a)
    (weaker read_ok_codec (read_ok_codec.items (read_done t a)) (λ w. (w.bytes ≡ (read_done t a).bytes) × (w.eof ≡ (read_done t a).eof)) (λ w. is_bad_read count w ≡ false)
    (λ w same. subst (λ (n : ℕ). is_bad_read n w ≡ false) is (good_read (bytes_at t a.file) a.offset a.count w (omega (arith, is, some)) same.0 same.1))
    (read_ok_is (read_done t a) (let cut = length-take (min a.count transfer_max) (drop a.offset (bytes_at t a.file)) in omega (arith, cut)))))

good_write : (sent : ℕ) (w : WriteOk) → 0 < sent → w.count ≡ sent → (w.count == 0 || nat_lt sent w.count) ≡ false
good_write sent w some is = neither (w.count == 0) (nat_lt sent w.count) (by (eqb w.count 0) refl) (le-ltb sent w.count (omega (arith, is)))
  where
    by : (b : Bool) → eqb w.count 0 ≡ b → b ≡ false
    by false e = refl
    by true e = absurd (omega (arith, some, is, eqb-true w.count 0 e))

pub write_read : (t : Tree) (c : Caller) (space : Space) (now : Time) (a : WriteArgs) (bytes : List ℕ) → a.bytes ≡ bytes → 0 < length bytes → length bytes ≤ transfer_max
    → Reads write_ok_codec wcc_data_codec (λ w. (w.count == 0 || nat_lt (length bytes) w.count) ≡ false) (write_reply t c space now a)
write_read t c space now a bytes is some few =
    let v = write_ok t (write_tree t c space now a) space a in
    let size : v.count ≡ length bytes = (let cut = length-take transfer_max a.bytes in omega (arith, cut, ap length is, few)) in
    answered write_ok_codec wcc_data_codec (λ w. (w.count == 0 || nat_lt (length bytes) w.count) ≡ false) (first (write_rules t c space a)) (wcc_data t t a.file) (Done v) (wcc_any (wcc_data t t a.file))
    (λ none. of_done write_ok_codec wcc_data_codec (λ w. (w.count == 0 || nat_lt (length bytes) w.count) ≡ false) v
    (weaker write_ok_codec (write_ok_codec.items v) (λ w. w.count ≡ v.count) (λ w. (w.count == 0 || nat_lt (length bytes) w.count) ≡ false)
    (λ w same. good_write (length bytes) w some (same ∙ size)) (write_ok_is v (omega (arith, size, few)))))

-- ---- READDIR

abbrev IsShort : Entry → Type 0
IsShort e = length e.name ≤ name_length_max

valid_short : (es : List Entry) → NamesAreValid es → AllByRecursion IsShort es
valid_short [] valid = tt
valid_short (e ∷ es) valid = (valid.1, valid_short es valid.3)

after_short : (cookie : ℕ) (es : List Entry) → AllByRecursion IsShort es → AllByRecursion IsShort (entries_after cookie es)
after_short cookie [] all = tt
after_short cookie (e ∷ es) all = by (nat_lt cookie e.cookie) (after_short cookie es all.1)
  where
    by : (b : Bool) → AllByRecursion IsShort (entries_after cookie es) → AllByRecursion IsShort (cond b (e ∷ entries_after cookie es) (entries_after cookie es))
    by true rest = (all.0, rest)
    by false rest = rest

last_short : (xs : List Entry) (e : Entry) → AllByRecursion IsShort xs → IsShort e → AllByRecursion IsShort (xs ++ e ∷ [])
last_short [] e all is = (is, tt)
last_short (x ∷ xs) e all is = (all.0, last_short xs e all.1 is)

longest_short : (fits : List Entry → Bool) (taken es : List Entry) → AllByRecursion IsShort taken → AllByRecursion IsShort es → AllByRecursion IsShort (longest fits taken es)
longest_short fits taken [] all left = all
longest_short fits taken (e ∷ es) all left = by (fits (taken ++ e ∷ [])) (longest_short fits (taken ++ e ∷ []) es (last_short taken e all left.0) left.1)
  where
    by : (b : Bool) → AllByRecursion IsShort (longest fits (taken ++ e ∷ []) es) → AllByRecursion IsShort (cond b (longest fits (taken ++ e ∷ []) es) taken)
    by true more = more
    by false more = all

listed_short : (es : List Entry) → AllByRecursion IsShort es → AllByRecursion (λ (e : ListedEntry). length e.name < 2 ^ 32) (map listed es)
listed_short [] all = tt
listed_short (e ∷ es) all = (let short = all.0 in omega (arith, short), listed_short es all.1)

content_short : (c : Content) → IsValidContent c → AllByRecursion IsShort (entries_of c)
content_short (Regular bytes) valid = tt
content_short (Directory entries) valid = valid_short entries.list valid.1
content_short (Block device) valid = tt
content_short (Character device) valid = tt
content_short (Link path) valid = tt
content_short Socket valid = tt
content_short Fifo valid = tt

node_there : (t : Tree) (h : List ℕ) (node : Node) → node_of_handle t h ≡ Some node → get t.nodes (number_of_handle h) ≡ Some node
node_there t h node is = by (eqb (length h) 8) is
  where
    by : (b : Bool) → cond b (get t.nodes (number_of_handle h)) None ≡ Some node → get t.nodes (number_of_handle h) ≡ Some node
    by true e = e
    by false e = absurd cc

behind_short : (t : Tree) (h : List ℕ) (cookie : ℕ) → IsSane t → AllByRecursion IsShort (entries_behind t h cookie)
behind_short t h cookie sane = by (node_of_handle t h) refl
  where
    by : (o : Option Node) → node_of_handle t h ≡ o → AllByRecursion IsShort (option_map_or (λ dir. entries_after cookie (entries_in dir)) o [])
    by None is = tt
    by (Some node) is = after_short cookie (entries_in node) (content_short node.content (sane.contents (number_of_handle h) node (node_there t h node is)))

-- the directory ends there, or something is listed
lists_on : (taken left : List Entry) (w : ReaddirOk) → goes_on taken left ≡ true → length w.entries ≡ length (map listed taken) → w.eof ≡ (length taken == length left) → ListsOn w
lists_on [] [] w goes count eof = by w.entries (count)
  where
    by : (es : List ListedEntry) → length es ≡ 0 → is_stuck (record w { entries = es }) ≡ false
    by [] none = ap (λ (b : Bool). not b) eof
    by (e ∷ es) none = refl
lists_on [] (x ∷ left) w goes count eof =
    let apart : eqb (suc (length left)) 0 ≡ false = ne_eqb (suc (length left)) 0 (λ e. omega (arith, e)) in
    absurd (let wrong : false ≡ true = sym (ap (λ (b : Bool). b || false) apart) ∙ goes in cc)
lists_on (e ∷ taken) left w goes count eof = by w.entries count
  where
    by : (es : List ListedEntry) → length es ≡ suc (length (map listed taken)) → is_stuck (record w { entries = es }) ≡ false
    by [] none = absurd (omega (arith, none))
    by (x ∷ es) none = refl

not_not : (b : Bool) → not b ≡ false → b ≡ true
not_not true is = refl
not_not false is = absurd (let wrong : true ≡ false = is in cc)

room_passed : (fits : List Entry → Bool) (left : List Entry) → first (room_rules fits left) ≡ None → goes_on (longest fits [] left) left ≡ true
room_passed fits left none =
    let all : AllClear (room_rules fits left) = all_clear (room_rules fits left) none in
    not_not (goes_on (longest fits [] left) left) (clear (not (goes_on (longest fits [] left) left)) Toosmall all.1.0)

listing_goes_on : (t : Tree) (c : Caller) (a : ReaddirArgs) → first (readdir_rules t c a) ≡ None → goes_on (readdir_taken t a) (readdir_left t a) ≡ true
listing_goes_on t c a none = by (node_of_handle t a.dir) refl
  where
    all : AllClear (readdir_rules t c a)
    all = all_clear (readdir_rules t c a) none

    by : (o : Option Node) → node_of_handle t a.dir ≡ o → goes_on (readdir_taken t a) (readdir_left t a) ≡ true
    by None is =
        subst (λ (o : Option Node). goes_on (longest (readdir_fits t a) [] (option_map_or (λ dir. entries_after a.cookie (entries_in dir)) o [])) (option_map_or (λ dir. entries_after a.cookie (entries_in dir)) o []) ≡ true) (sym is) refl
    by (Some dir) is =
        let rules : AllClear (readdir_in t c a dir) = subst (λ (o : Option Node). AllClear (on o (readdir_in t c a))) is all.1 in
        room_passed (readdir_fits t a) (readdir_left t a) rules.1.0

pub readdir_read : (t : Tree) (c : Caller) (a : ReaddirArgs) → IsSane t → Reads readdir_ok_codec (optional attributes_codec) ListsOn (readdir_reply t c a)
readdir_read t c a sane =
    let taken = readdir_taken t a in
    let left = readdir_left t a in
    let v = readdir_ok t a.dir taken (length taken == length left) in
    answered readdir_ok_codec (optional attributes_codec) ListsOn (first (readdir_rules t c a)) (attributes_at t a.dir) (Done v) (some_attributes (attributes_at t a.dir))
    (λ none. of_done readdir_ok_codec (optional attributes_codec) ListsOn v
    (weaker readdir_ok_codec (readdir_ok_codec.items v) (λ w. (length w.entries ≡ length v.entries) × (w.eof ≡ v.eof)) ListsOn
    (λ w same. lists_on taken left w (listing_goes_on t c a none) same.0 same.1)
    (readdir_ok_is v (listed_short taken (longest_short (readdir_fits t a) [] left tt (behind_short t a.dir a.cookie sane))))))
