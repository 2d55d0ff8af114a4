-- What a client reads of the plain server's reply to a call at its place, and what the call makes of the tree.
use Rattle.std.proofs.Common.{◌≡◌, ℕ, suc, ◌+◌, ◌<◌, ◌≤◌, ◌^◌, Bool, true, false, cond, List, [], ◌∷◌, length, take, drop, Option, None, Some, Result, Ok, Err, refl, ap, sym, ◌∙◌, subst, arith}
use Rattle.std.specs.Prelude.{◌==◌, ◌||◌, nat_le, nat_lt}
use Rattle.std.specs.Option.{option_map}
use Rattle.nr_xdr.specs.Items.{encodings}
use Rattle.nr_rpc.specs.declared.cred.Cred.TheVariants as creds
use Rattle.nr_nfs_base.specs.Attributes.{attributes_codec, special_data_codec}
use Rattle.nr_nfs_base.specs.Codec.{boolean, enumeration, hyper, opaque, optional, read_all, void, word}
use Rattle.nr_nfs_base.specs.FileType.{each_file_type, file_type_codec, file_type_number, file_types}
use Rattle.nr_nfs_base.specs.Laws.{hyper_lawful}
use Rattle.nr_nfs_base.specs.Limits.{handle_max, name_length_max, transfer_max}
use Rattle.nr_nfs_base.specs.SetAttributes.{set_attributes_codec, set_time_codec, time_how_codec}
use Rattle.nr_nfs_base.specs.Stable.{stable_how_codec}
use Rattle.nr_nfs_base.specs.Time.{time_codec}
use Rattle.nr_nfs_base.specs.WeakCache.{wcc_data_codec}
use Rattle.nr_nfs_base.specs.declared.attributes.Attributes.{Attributes}
use Rattle.nr_nfs_base.specs.declared.file_type.FileType.{FileType}
use Rattle.nr_nfs_base.specs.declared.file_type.FileType.TheVariants as types
use Rattle.nr_nfs_base.specs.declared.time.Time.{Time}
use Rattle.nr_nfs_base.specs.declared.procedure.NfsProcedure.TheVariants as nfs
use Rattle.nr_nfs_base.specs.declared.stable.StableHow.TheVariants as stable
use Rattle.nr_nfs_base.specs.declared.status_union.StatusUnion.TheVariants.{Done}
use Rattle.nr_nfs_args.specs.Attributes.{getattr_args_codec, getattr_args_lawful}
use Rattle.nr_nfs_args.specs.Bytes.{read_args_codec, read_args_lawful, write_args_codec, write_args_lawful}
use Rattle.nr_nfs_args.specs.Create.{create_args_codec, create_args_lawful, create_how_codec}
use Rattle.nr_nfs_args.specs.CreateMode.{create_mode_codec}
use Rattle.nr_nfs_args.specs.Lookup.{lookup_args_codec, lookup_args_lawful}
use Rattle.nr_nfs_args.specs.declared.attributes.GetattrArgs.{GetattrArgs}
use Rattle.nr_nfs_args.specs.declared.bytes.ReadArgs.{ReadArgs}
use Rattle.nr_nfs_args.specs.declared.bytes.WriteArgs.{WriteArgs}
use Rattle.nr_nfs_args.specs.declared.create.CreateArgs.{CreateArgs}
use Rattle.nr_nfs_args.specs.declared.lookup.LookupArgs.{LookupArgs}
use Rattle.nr_nfs_res.specs.Bytes.{read_ok_codec, write_ok_codec}
use Rattle.nr_nfs_res.specs.Create.{create_ok_codec}
use Rattle.nr_nfs_res.specs.Lookup.{lookup_ok_codec}
use Rattle.nr_nfs_res.specs.Results.{NfsResults}
use Rattle.nr_nfs_res.specs.declared.bytes.ReadOk.{ReadOk}
use Rattle.nr_nfs_res.specs.declared.bytes.WriteOk.{WriteOk}
use Rattle.nr_nfs_res.specs.declared.create.CreateOk.{CreateOk}
use Rattle.nr_nfs_res.specs.declared.lookup.LookupOk.{LookupOk}
use Rattle.nr_reduce.specs.ClientState.{call_payload}
use Rattle.nr_reduce.specs.declared.call.Outcome.{Outcome}
use Rattle.nr_reduce.specs.declared.call.Outcome.TheVariants as outcomes
use Rattle.nr_reduce.specs.declared.mark.Entry.{Entry}
use Rattle.nr_tree.specs.Changes.{tree_with_bytes}
use Rattle.nr_tree.specs.Rules.{handle_of, number_of_handle}
use Rattle.nr_tree.specs.Sane.{IsSane}
use Rattle.nr_tree.specs.Tree.{Tree}
use Rattle.nr_tree.specs.declared.node.Content.TheVariants.{Regular}
use Rattle.nr_ops_file.specs.Bytes.{piece_read}
use Rattle.nr_plain.specs.Added.{entries_of_call}
use Rattle.nr_plain.specs.Journal.{state_of, tree_at}
use Rattle.nr_plain.specs.Programs.{is_change}
use Rattle.nr_plain.specs.Replies.{Answer, entries_if}
use Rattle.nr_plain.specs.Setup.{Setup, caller_of, space_of, time_of}
use Rattle.nr_plain.proofs.Lengths.{length_handle}
use Rattle.nr_plain.proofs.SaneTrees.{tree_sane}
use Rattle.nr_client.specs.declared.client_end.ClientEnd.{ClientEnd}
use Rattle.nr_client.specs.Reading.{checked_read, is_bad_read, read_call, read_result, results_offset}
use Rattle.nr_client.specs.Requests.{create_result, getattr_call, getattr_result, lookup_call, lookup_result, machine, nfs_reads}
use Rattle.nr_client.specs.Walking.{object_in, object_result}
use Rattle.nr_client.specs.Writing.{checked_write, create_call, created_file, created_handle, handle_or, write_call, write_result}
use Rattle.nr_reply_laws.specs.Replies.{AreIds}
use Rattle.nr_reply_laws.proofs.Decoding.{Any, IsRead, enumeration_is, hyper_any, lawful_read, pair_is, structure_is, weaker, word_any}
use Rattle.nr_reply_laws.proofs.Values.{create_ok_some, lookup_ok_is, read_ok_is, some_attributes, void_any, wcc_any, write_ok_is}
use Rattle.nr_pair_laws.specs.FilesAt.{content_at, handle_in}
use Rattle.nr_pair_laws.specs.Pairs.{IsAnsweredAt, place_after}
use Rattle.nr_pair_laws.proofs.AtPlace.{answered_at, entry_by, results_at, tree_after_call, tree_by}
use Rattle.nr_pair_laws.proofs.Created.{IsCreated, create_args, created}
use Rattle.nr_pair_laws.proofs.ReadBack.{Gave, read_as_done, written_read}
use Rattle.nr_pair_laws.proofs.Results.{create_done, getattr_is, lookup_found, lookup_short, read_is, read_short, write_done}

-- ---- Arguments

pub lookup_args_read : (dir name : List ℕ) → length dir ≤ handle_max → length name ≤ name_length_max
    → read_all lookup_args_codec (encodings (lookup_args_codec.items (record { dir = dir; name = name }))) ≡ Ok (record { dir = dir; name = name })
unfolding lookup_args_codec opaque
lookup_args_read dir name short few =
    written_read lookup_args_codec (record { dir = dir; name = name }) lookup_args_lawful (short, omega (arith, few)) (omega (arith, short), (omega (arith, few), tt))

pub getattr_args_read : (file : List ℕ) → length file ≤ handle_max → read_all getattr_args_codec (encodings (getattr_args_codec.items (record { object = file }))) ≡ Ok (record { object = file })
unfolding getattr_args_codec opaque
getattr_args_read file short = written_read getattr_args_codec (record { object = file }) getattr_args_lawful short (omega (arith, short), tt)

pub read_args_read : (file : List ℕ) (offset count : ℕ) → length file ≤ handle_max → offset < 2 ^ 64 → count < 2 ^ 32
    → read_all read_args_codec (encodings (read_args_codec.items (record { file = file; offset = offset; count = count }))) ≡ Ok (record { file = file; offset = offset; count = count })
unfolding read_args_codec opaque hyper word
read_args_read file offset count short at few =
    written_read read_args_codec (record { file = file; offset = offset; count = count }) read_args_lawful ((short, tt), tt) (omega (arith, short), (at, (few, tt)))

write_args_of : (file : List ℕ) → ℕ → List ℕ → WriteArgs
write_args_of file offset bytes = record { file = file; offset = offset; count = length bytes; stable = stable.FileSync; bytes = bytes }

write_args_read : (file : List ℕ) (offset : ℕ) (bytes : List ℕ) → length file ≤ handle_max → offset < 2 ^ 64 → length bytes < 2 ^ 32
    → read_all write_args_codec (encodings (write_args_codec.items (record { file = file; offset = offset; count = length bytes; stable = stable.FileSync; bytes = bytes })))
    ≡ Ok (record { file = file; offset = offset; count = length bytes; stable = stable.FileSync; bytes = bytes })
unfolding write_args_codec opaque hyper word stable_how_codec enumeration
write_args_read file offset bytes short at few =
    written_read write_args_codec (record { file = file; offset = offset; count = length bytes; stable = stable.FileSync; bytes = bytes }) write_args_lawful
    ((short, (tt, (tt, tt))), omega (arith, few)) (omega (arith, short), (at, (few, (omega arith, (few, tt)))))

create_args_read : (dir name : List ℕ) → length dir ≤ handle_max → length name ≤ name_length_max
    → read_all create_args_codec (encodings (create_args_codec.items (create_args dir name))) ≡ Ok (create_args dir name)
unfolding create_args_codec create_how_codec create_mode_codec set_attributes_codec set_time_codec time_how_codec opaque hyper word boolean enumeration optional
create_args_read dir name short few =
    written_read create_args_codec (create_args dir name) create_args_lawful
    (short, (omega (arith, few), (tt, ((tt, tt), ((tt, tt), ((tt, tt), ((tt, tt), ((tt, tt), (tt, tt)))))))))
    (omega (arith, short), (omega (arith, few), (omega arith, (tt, (omega arith, (tt, (tt, (tt, (omega arith, (omega arith, (omega arith, tt)))))))))))

-- ---- The calls

pub same_outcome : {A : Type 0} (reads : Outcome → Result A ClientEnd) (o : Outcome) (reply reply' : List ℕ) (r : Result A ClientEnd) → o ≡ outcomes.Reply reply → reply ≡ reply' → reads o ≡ r → reads (outcomes.Reply reply') ≡ r
same_outcome reads o reply reply' r is same e = sym (ap reads is ∙ ap (λ (l : List ℕ). reads (outcomes.Reply l)) same) ∙ e

object_read : (r : Result LookupOk ClientEnd) (g : List ℕ) → object_in r ≡ Ok g → (w : LookupOk) × ((r ≡ Ok w) × (w.object ≡ g))
object_read (Ok w) g e = (w, (refl, cc))
object_read (Err end) g e = absurd cc

not_bad : {A : Type 0} (b : Bool) (end : ClientEnd) (value w : A) → Gave (cond b (Err end) (Ok value)) w → value ≡ w
not_bad true end value w e = absurd cc
not_bad false end value w e = cc

-- the entry of a call, which stands at its place
placed : (J : List Entry) (place : ℕ) (es : List Entry) (e : Entry) → es ≡ e ∷ [] → take (length es) (drop place J) ≡ es → take 1 (drop place J) ≡ e ∷ []
placed J place es e is at = ap (λ (l : List Entry). take (length l) (drop place J)) (sym is) ∙ at ∙ is

some_object : (d : CreateOk) (h : List ℕ) → d.object ≡ Some h → length h ≤ handle_max → IsRead create_ok_codec (create_ok_codec.items d) (λ w. w.object ≡ d.object)
some_object d h is short = weaker create_ok_codec (create_ok_codec.items d) (λ w. w.object ≡ Some h) (λ w. w.object ≡ d.object) (λ w same. same ∙ sym is) (create_ok_some d h is short)

moved_to : (t u u' : Tree) (dir name file : List ℕ) (c : IsCreated t u dir name) → u ≡ u' → file ≡ handle_of c.number → {P : Type 0} → P
    → (c' : IsCreated t u' dir name) × ((file ≡ handle_of c'.number) × P)
moved_to t u u' dir name file c same is {P} p = subst (λ (x : Tree). (c' : IsCreated t x dir name) × ((file ≡ handle_of c'.number) × P)) same (c, (is, p))

handle_short : (n : ℕ) → length (handle_of n) ≤ handle_max
handle_short n = let long = length_handle n in omega (arith, long)

hyper_is : (n : ℕ) → n < 2 ^ 64 → IsRead hyper (hyper.items n) (λ m. m ≡ n)
unfolding hyper
hyper_is n fits = lawful_read hyper n hyper_lawful tt (fits, tt)

file_type_read : (v : FileType) → IsRead file_type_codec (file_type_codec.items v) (λ w. w ≡ v)
unfolding file_type_codec
file_type_read v = enumeration_is file_type_number file_types v each_file_type (fits v)
  where
    fits : (w : FileType) → file_type_number w < 2 ^ 32
    fits types.Reg = omega arith
    fits types.Dir = omega arith
    fits types.Blk = omega arith
    fits types.Chr = omega arith
    fits types.Lnk = omega arith
    fits types.Sock = omega arith
    fits types.Fifo = omega arith

time_read : (v : Time) → IsRead time_codec (time_codec.items v) Any
unfolding time_codec
time_read v = structure_is _ _ _ _ _ Any (λ w is. tt) (pair_is word word _ _ Any Any (word_any v.seconds) (word_any v.nanoseconds))

-- the size in attributes is read, whatever the other fields are
attributes_size : (v : Attributes) → v.size < 2 ^ 64 → IsRead attributes_codec (attributes_codec.items v) (λ w. w.size ≡ v.size)
unfolding attributes_codec special_data_codec time_codec
attributes_size v fits =
    structure_is _ _ _ _ _ _ (λ w is. is.1.1.1.1.1.0)
    (pair_is file_type_codec _ _ _ _ _ (file_type_read v.file_type)
    (pair_is word _ _ _ _ _ (word_any v.mode)
    (pair_is word _ _ _ _ _ (word_any v.nlink)
    (pair_is word _ _ _ _ _ (word_any v.uid)
    (pair_is word _ _ _ _ _ (word_any v.gid)
    (pair_is hyper _ _ _ _ _ (hyper_is v.size fits)
    (pair_is hyper _ _ _ _ _ (hyper_any v.used)
    (pair_is special_data_codec _ _ _ _ _ (structure_is _ _ _ _ _ Any (λ w is. tt) (pair_is word word _ _ Any Any (word_any v.rdev.major) (word_any v.rdev.minor)))
    (pair_is hyper _ _ _ _ _ (hyper_any v.fsid)
    (pair_is hyper _ _ _ _ _ (hyper_any v.fileid)
    (pair_is time_codec _ _ _ _ _ (time_read v.atime)
    (pair_is time_codec time_codec _ _ _ _ (time_read v.mtime) (time_read v.ctime)))))))))))))

module _ (s : Setup) (J : List Entry) (uid gid : ℕ) (ids : AreIds uid gid) where
  pub looked_up : (dir name : List ℕ) (o : Outcome) (place : ℕ) → length dir ≤ handle_max → length name ≤ name_length_max → (a : IsAnsweredAt s J (lookup_call uid gid dir name) o place) → (g : List ℕ)
      → object_result o ≡ Ok g → (handle_in (tree_at s J place) dir name ≡ Some g) × ((length g ≡ 8) × (place_after s J (lookup_call uid gid dir name) o place a ≡ place))
  looked_up dir name o place short few a g is =
      let v : LookupArgs = record { dir = dir; name = name } in
      let args : List ℕ = encodings (lookup_args_codec.items v) in
      let both = answered_at s uid gid a.xid ids a.fits nfs.Lookup args v J place a.moment a.reply (lookup_args_read dir name short few) a.at.replied in
      let read = object_read (lookup_result o) g is in
      let d = read_as_done a.xid a.fits lookup_ok_codec (optional attributes_codec) (λ d w. w.object ≡ d.object) (results_at s uid gid nfs.Lookup args v J place a.moment) read.0 some_attributes
      (λ d same. lookup_ok_is d (lookup_short (tree_at s J place) (caller_of (creds.Sys 0 machine uid gid [])) v d same))
      (same_outcome lookup_result o a.reply _ (Ok read.0) a.is (ap (λ (x : Answer). x.reply) both) read.1.0) in
      let n = lookup_found (tree_at s J place) (caller_of (creds.Sys 0 machine uid gid [])) v d.0 d.1.0 in
      let g_is : g ≡ handle_of n.0 = sym read.1.1 ∙ d.1.1 ∙ n.1.1 in
      let none = ap (λ (x : Answer). length x.entries) both in (
        ap (λ (p : Option ℕ). option_map handle_of p) n.1.0 ∙ ap (λ (h : List ℕ). Some h) (sym g_is),
        (ap length g_is ∙ length_handle n.0, omega (arith, none)),
      )

  -- ---- CREATE

  handle_read : (at : ℕ) (r : Result CreateOk ClientEnd) (file : List ℕ) → created_handle at r ≡ Ok file → (w : CreateOk) × ((r ≡ Ok w) × (w.object ≡ Some file))
  handle_read at (Ok w) file e = by w.object refl e
    where
      by : (p : Option (List ℕ)) → w.object ≡ p → Gave (handle_or at p) file → (x : CreateOk) × (Gave {A = CreateOk} (Ok w) x × (x.object ≡ Some file))
      by None is none = absurd cc
      by (Some h) is some = let same : h ≡ file = cc in (w, (refl, is ∙ ap (λ (k : List ℕ). Some k) same))
  handle_read at (Err end) file e = absurd cc

  -- the name leads to a new file without bytes, or to the file that was there, whose bytes are gone
  pub created_at : (dir name : List ℕ) (o : Outcome) (place : ℕ) → IsSane s.tree → (tree_at s J place).next < 2 ^ 64 → length dir ≤ handle_max → length name ≤ name_length_max
      → (a : IsAnsweredAt s J (create_call uid gid dir name) o place) → (file : List ℕ) → created_file o ≡ Ok file
      → (c : IsCreated (tree_at s J place) (tree_at s J (suc place)) dir name) × ((file ≡ handle_of c.number) × (place_after s J (create_call uid gid dir name) o place a ≡ suc place))
  created_at dir name o place sane below short few a file is =
      let v : CreateArgs = create_args dir name in
      let t : Tree = tree_at s J place in
      let args : List ℕ = encodings (create_args_codec.items v) in
      let args_read = create_args_read dir name short few in
      let both = answered_at s uid gid a.xid ids a.fits nfs.Create args v J place a.moment a.reply args_read a.at.replied in
      let read = handle_read (results_offset o) (create_result o) file is in
      let made : (d : CreateOk) → results_at s uid gid nfs.Create args v J place a.moment ≡ Done d → (c : IsCreated t (tree_by s uid gid nfs.Create args v J place a.moment) dir name) × (d.object ≡ Some (handle_of c.number)) =
      λ d same.
      let passed = create_done t (caller_of (creds.Sys 0 machine uid gid [])) (space_of s.parameters (state_of s (take place J)) args) (time_of a.moment) v d same in
      let c = created t (caller_of (creds.Sys 0 machine uid gid [])) (space_of s.parameters (state_of s (take place J)) args) (time_of a.moment) dir name (tree_sane s J place sane) below passed.0 in
      (c, sym (ap (λ (x : CreateOk). x.object) passed.1) ∙ ap (λ (p : Option ℕ). option_map handle_of p) c.named) in
      let d = read_as_done a.xid a.fits create_ok_codec wcc_data_codec (λ d w. w.object ≡ d.object) (results_at s uid gid nfs.Create args v J place a.moment) read.0 wcc_any
      (λ d same. let m = made d same in some_object d (handle_of m.0.number) m.1 (handle_short m.0.number))
      (same_outcome create_result o a.reply _ (Ok read.0) a.is (ap (λ (x : Answer). x.reply) both) read.1.0) in
      let m = made d.0 d.1.0 in
      let entries : entries_of_call a.moment (call_payload a.xid (create_call uid gid dir name)) a.reply ≡ entry_by uid gid a.moment nfs.Create args ∷ [] =
      ap (λ (x : Answer). x.entries) both ∙ ap (λ (r : NfsResults nfs.Create). entries_if (is_change nfs.Create r) (entry_by uid gid a.moment nfs.Create args)) d.1.0 in
      let tree : tree_at s J (suc place) ≡ tree_by s uid gid nfs.Create args v J place a.moment =
      tree_after_call s uid gid nfs.Create args v J place a.moment args_read (placed J place _ _ entries a.at.entry) in
      let file_is : Some file ≡ Some (handle_of m.0.number) = sym read.1.1 ∙ d.1.1 ∙ m.1 in
      moved_to t (tree_by s uid gid nfs.Create args v J place a.moment) (tree_at s J (suc place)) dir name file m.0 (sym tree) (let same : file ≡ handle_of m.0.number = cc in same)
      (let one = ap length entries in omega (arith, one))

  -- ---- WRITE

  count_read : (sent at : ℕ) (r : Result WriteOk ClientEnd) (count : ℕ) → checked_write sent at r ≡ Ok count → (w : WriteOk) × ((r ≡ Ok w) × (w.count ≡ count))
  count_read sent at (Ok w) count e = (w, (refl, not_bad (w.count == 0 || nat_lt sent w.count) _ w.count count e))
  count_read sent at (Err end) count e = absurd cc

  -- all that was sent was written, at the offset
  pub written_at : (file : List ℕ) (offset : ℕ) (bytes : List ℕ) (o : Outcome) (place : ℕ) → length file ≤ handle_max → offset < 2 ^ 64 → length bytes ≤ transfer_max
      → (a : IsAnsweredAt s J (write_call uid gid file offset bytes) o place) → (count : ℕ) → write_result (length bytes) o ≡ Ok count
      → (count ≡ length bytes) × ((tree_at s J (suc place) ≡ tree_with_bytes (tree_at s J place) (time_of a.moment) (number_of_handle file) offset bytes)
      × (place_after s J (write_call uid gid file offset bytes) o place a ≡ suc place))
  written_at file offset bytes o place short at few a count is =
      let v : WriteArgs = record { file = file; offset = offset; count = length bytes; stable = stable.FileSync; bytes = bytes } in
      let args : List ℕ = encodings (write_args_codec.items v) in
      let args_read = write_args_read file offset bytes short at (omega (arith, few)) in
      let both = answered_at s uid gid a.xid ids a.fits nfs.Write args v J place a.moment a.reply args_read a.at.replied in
      let read = count_read (length bytes) (results_offset o) (nfs_reads write_ok_codec wcc_data_codec o) count is in
      let d = read_as_done a.xid a.fits write_ok_codec wcc_data_codec (λ d w. w.count ≡ d.count) (results_at s uid gid nfs.Write args v J place a.moment) read.0 wcc_any
      (λ d same. write_ok_is d (let w = write_done (tree_at s J place) (caller_of (creds.Sys 0 machine uid gid [])) (space_of s.parameters (state_of s (take place J)) args) (time_of a.moment) v d same few in omega (arith, w.0, few)))
      (same_outcome (nfs_reads write_ok_codec wcc_data_codec) o a.reply _ (Ok read.0) a.is (ap (λ (x : Answer). x.reply) both) read.1.0) in
      let w = write_done (tree_at s J place) (caller_of (creds.Sys 0 machine uid gid [])) (space_of s.parameters (state_of s (take place J)) args) (time_of a.moment) v d.0 d.1.0 few in
      let entries : entries_of_call a.moment (call_payload a.xid (write_call uid gid file offset bytes)) a.reply ≡ entry_by uid gid a.moment nfs.Write args ∷ [] =
      ap (λ (x : Answer). x.entries) both ∙ ap (λ (r : NfsResults nfs.Write). entries_if (is_change nfs.Write r) (entry_by uid gid a.moment nfs.Write args)) d.1.0 in
      let tree : tree_at s J (suc place) ≡ tree_by s uid gid nfs.Write args v J place a.moment =
      tree_after_call s uid gid nfs.Write args v J place a.moment args_read (placed J place _ _ entries a.at.entry) in
      (sym read.1.1 ∙ d.1.1 ∙ w.0, (tree ∙ w.1, (let one = ap length entries in omega (arith, one))))

  -- ---- READ and GETATTR

  data_read : (count at : ℕ) (r : Result ReadOk ClientEnd) (w : ReadOk) → checked_read count at r ≡ Ok w → r ≡ Ok w
  data_read count at (Ok x) w e = ap (λ (y : ReadOk). Ok y) (not_bad (is_bad_read count x) _ x w e)
  data_read count at (Err end) w e = absurd cc

  pub data_at : (file : List ℕ) (offset count : ℕ) (o : Outcome) (place : ℕ) (bytes : List ℕ) → length file ≤ handle_max → offset < 2 ^ 64 → count < 2 ^ 32
      → content_at (tree_at s J place) file ≡ Some (Regular bytes) → (a : IsAnsweredAt s J (read_call uid gid file offset count) o place) → (w : ReadOk) → read_result count o ≡ Ok w
      → (w.bytes ≡ piece_read bytes offset count) × (w.eof ≡ nat_le (length bytes) (offset + length (piece_read bytes offset count)))
  data_at file offset count o place bytes short at few holds a w is =
      let v : ReadArgs = record { file = file; offset = offset; count = count } in
      let args : List ℕ = encodings (read_args_codec.items v) in
      let both = answered_at s uid gid a.xid ids a.fits nfs.Read args v J place a.moment a.reply (read_args_read file offset count short at few) a.at.replied in
      let read = data_read count (results_offset o) (nfs_reads read_ok_codec (optional attributes_codec) o) w is in
      let d = read_as_done a.xid a.fits read_ok_codec (optional attributes_codec) (λ d w. (w.bytes ≡ d.bytes) × (w.eof ≡ d.eof)) (results_at s uid gid nfs.Read args v J place a.moment) w some_attributes
      (λ d same. read_ok_is d (let short = read_short (tree_at s J place) (caller_of (creds.Sys 0 machine uid gid [])) v d same in omega (arith, short)))
      (same_outcome (nfs_reads read_ok_codec (optional attributes_codec)) o a.reply _ (Ok w) a.is (ap (λ (x : Answer). x.reply) both) read) in
      let is = read_is (tree_at s J place) (caller_of (creds.Sys 0 machine uid gid [])) v d.0 bytes holds d.1.0 in
      (d.1.1.0 ∙ is.0, d.1.1.1 ∙ is.1)

  pub size_at : (file : List ℕ) (o : Outcome) (place : ℕ) (bytes : List ℕ) → length file ≤ handle_max → length bytes < 2 ^ 64 → content_at (tree_at s J place) file ≡ Some (Regular bytes)
      → (a : IsAnsweredAt s J (getattr_call uid gid file) o place) → (w : Attributes) → getattr_result o ≡ Ok w → w.size ≡ length bytes
  size_at file o place bytes short few holds a w is =
      let v : GetattrArgs = record { object = file } in
      let args : List ℕ = encodings (getattr_args_codec.items v) in
      let both = answered_at s uid gid a.xid ids a.fits nfs.Getattr args v J place a.moment a.reply (getattr_args_read file short) a.at.replied in
      let d = read_as_done a.xid a.fits attributes_codec void (λ d w. w.size ≡ d.size) (results_at s uid gid nfs.Getattr args v J place a.moment) w (λ part. void_any)
      (λ d same. attributes_size d (let size = getattr_is (tree_at s J place) v d bytes holds same in omega (arith, size, few)))
      (same_outcome getattr_result o a.reply _ (Ok w) a.is (ap (λ (x : Answer). x.reply) both) is) in
      d.1.1 ∙ getattr_is (tree_at s J place) v d.0 bytes holds d.1.0
