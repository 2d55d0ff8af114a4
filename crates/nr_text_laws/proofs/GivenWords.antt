-- What is read of a call of 32-bit words: the user and the group of its credential, and the attributes that it sets.
use Rattle.std.proofs.Common.{◌≡◌, ℕ, ◌<◌, ◌^◌, Bool, true, false, cond, eqb, not, ◌&&◌, List, [], ◌∷◌, ◌++◌, drop, Option, None, Some, Result, Ok, Err, refl, subst, arith}
use Rattle.std.specs.List.{AllByRecursion}
use Rattle.nr_xdr.specs.Item.{IsBytes, Item}
use Rattle.nr_xdr.specs.Item.Item.{Opaque}
use Rattle.nr_xdr.specs.Items.{AllFit, ReadsAll}
use Rattle.nr_xdr.proofs.WordBytes.{IsBytes_drop}
use Rattle.nr_outside.specs.declared.moment.Moment.{Moment}
use Rattle.nr_rpc.specs.Credential.{Auth, ReadsCred, sys_items}
use Rattle.nr_rpc.specs.Reading.{call_of}
use Rattle.nr_rpc.specs.declared.cred.Cred.{Cred}
use Rattle.nr_rpc.specs.declared.cred.Cred.TheVariants as creds
use Rattle.nr_rpc.specs.declared.head.CallHead.{CallHead}
use Rattle.nr_rpc.specs.declared.head.CallHead.TheVariants as calls
use Rattle.nr_rpc.proofs.Calls.{call_begins}
use Rattle.nr_nfs_base.specs.Codec.{Codec, Lawful, boolean, hyper, opaque, optional, read_all, word}
use Rattle.nr_nfs_base.specs.FileType.{file_type_codec}
use Rattle.nr_nfs_base.specs.Attributes.{special_data_codec}
use Rattle.nr_nfs_base.specs.SetAttributes.{set_attributes_codec, set_time_codec}
use Rattle.nr_nfs_base.specs.Time.{time_codec}
use Rattle.nr_nfs_base.specs.declared.caller.Caller.{Caller}
use Rattle.nr_nfs_base.specs.declared.file_type.FileType.TheVariants as types
use Rattle.nr_nfs_base.specs.declared.procedure.NfsProcedure.{NfsProcedure}
use Rattle.nr_nfs_base.specs.declared.set_attributes.SetAttributes.{SetAttributes}
use Rattle.nr_nfs_base.proofs.ReadingAll.{found_all}
use Rattle.nr_nfs_args.specs.Attributes.{setattr_args_codec, setattr_args_lawful}
use Rattle.nr_nfs_args.specs.Create.{create_args_codec, create_args_lawful, create_how_codec, mkdir_args_codec, mkdir_args_lawful}
use Rattle.nr_nfs_args.specs.CreateMode.{create_mode_codec}
use Rattle.nr_nfs_args.specs.Special.{device_data_codec, mknod_args_codec, mknod_args_lawful, mknod_data_codec, symlink_args_codec, symlink_args_lawful}
use Rattle.nr_nfs_args.specs.declared.attributes.SetattrArgs.{SetattrArgs}
use Rattle.nr_nfs_args.specs.declared.create.CreateArgs.{CreateArgs}
use Rattle.nr_nfs_args.specs.declared.create.CreateHow.{CreateHow}
use Rattle.nr_nfs_args.specs.declared.create.CreateHow.TheVariants.{Unchecked, Guarded, Exclusive}
use Rattle.nr_nfs_args.specs.declared.create.MkdirArgs.{MkdirArgs}
use Rattle.nr_nfs_args.specs.declared.create_mode.CreateMode.TheVariants as modes
use Rattle.nr_nfs_args.specs.declared.special.DeviceData.{DeviceData}
use Rattle.nr_nfs_args.specs.declared.special.MknodArgs.{MknodArgs}
use Rattle.nr_nfs_args.specs.declared.special.MknodData.{MknodData}
use Rattle.nr_nfs_args.specs.declared.special.MknodData.TheVariants as data_of
use Rattle.nr_nfs_args.specs.declared.special.SymlinkArgs.{SymlinkArgs}
use Rattle.nr_reduce.specs.declared.mark.Entry.{Entry}
use Rattle.nr_ops_dir.specs.Create.{given_attributes}
use Rattle.nr_ops_dir.specs.Creation.{nothing_given, special_attributes}
use Rattle.nr_plain.specs.Added.{entries_by_call, entries_by_cred, entries_by_procedure, entries_by_program, has_succeeded}
use Rattle.nr_plain.specs.History.{IsOfCall}
use Rattle.nr_plain.specs.Journal.{nfs_procedure_of}
use Rattle.nr_plain.specs.Programs.{only_reads}
use Rattle.nr_plain.specs.Replies.{cred_refusal, entries_if}
use Rattle.nr_plain.specs.Setup.{Setup, caller_of}

-- the user and the group of a caller are words
pub record IsOfWords (c : Caller) : Type 0 where
  pub uid : c.uid < 2 ^ 32
  pub gid : c.gid < 2 ^ 32

-- so are those that a call sets
pub record GivesWords (a : SetAttributes) : Type 0 where
  pub uid : (n : ℕ) → a.uid ≡ Some n → n < 2 ^ 32
  pub gid : (n : ℕ) → a.gid ≡ Some n → n < 2 ^ 32

-- the arguments of an entry are bytes, and its caller is of words
pub record IsWorded (e : Entry) : Type 0 where
  pub bytes : IsBytes e.args
  pub user : IsOfWords (caller_of e.cred)

-- ---- Items

all_fit : (items : List Item) (bytes : List ℕ) → ReadsAll items bytes → AllFit items
all_fit [] bytes r = tt
all_fit (item ∷ items) bytes (front, rest, one, others, is) = (one.fits, all_fit items rest others)

left : (xs ys : List Item) → AllFit (xs ++ ys) → AllFit xs
left [] ys h = tt
left (x ∷ xs) ys h = (h.0, left xs ys h.1)

right : (xs ys : List Item) → AllFit (xs ++ ys) → AllFit ys
right [] ys h = h
right (x ∷ xs) ys h = right xs ys h.1

-- what is read fits
value_fits : {A : Type 0} (c : Codec A) → Lawful c → (bytes : List ℕ) (v : A) → IsBytes bytes → read_all c bytes ≡ Ok v → AllFit (c.items v)
value_fits c lawful bytes v h e = all_fit (c.items v) bytes (found_all c lawful bytes v h e).1

optional_fits : (o : Option ℕ) (n : ℕ) → AllFit ((optional word).items o) → o ≡ Some n → n < 2 ^ 32
unfolding optional boolean word
optional_fits None n h e = absurd cc
optional_fits (Some m) n h e = let same : m ≡ n = cc in subst (λ (x : ℕ). x < 2 ^ 32) same h.1.0

attributes_give : (a : SetAttributes) → AllFit (set_attributes_codec.items a) → GivesWords a
unfolding set_attributes_codec
attributes_give a h =
    let times : List Item = set_time_codec.items a.atime ++ set_time_codec.items a.mtime in
    let from_size : List Item = (optional hyper).items a.size ++ times in
    let from_gid : List Item = (optional word).items a.gid ++ from_size in
    let from_uid : List Item = (optional word).items a.uid ++ from_gid in
    let uids : AllFit from_uid = right ((optional word).items a.mode) from_uid h in
    let gids : AllFit from_gid = right ((optional word).items a.uid) from_gid uids in
    record {
      uid = λ n e. optional_fits a.uid n (left ((optional word).items a.uid) from_gid uids) e;
      gid = λ n e. optional_fits a.gid n (left ((optional word).items a.gid) from_size gids) e;
    }

none_given : GivesWords nothing_given
none_given = record { uid = λ n e. absurd cc; gid = λ n e. absurd cc }

-- ---- Arguments

setattr_items : (a : SetattrArgs) → AllFit (setattr_args_codec.items a) → GivesWords a.attributes
unfolding setattr_args_codec opaque
setattr_items a h = attributes_give a.attributes (left (set_attributes_codec.items a.attributes) ((optional time_codec).items a.guard) h.1)

pub setattr_gives : (args : List ℕ) (a : SetattrArgs) → IsBytes args → read_all setattr_args_codec args ≡ Ok a → GivesWords a.attributes
setattr_gives args a bytes e = setattr_items a (value_fits setattr_args_codec setattr_args_lawful args a bytes e)

how_items : (how : CreateHow) → AllFit (create_how_codec.items how) → GivesWords (given_attributes how)
unfolding create_how_codec
how_items (Unchecked a) h = attributes_give a (right (create_mode_codec.items modes.Unchecked) (set_attributes_codec.items a) h)
how_items (Guarded a) h = attributes_give a (right (create_mode_codec.items modes.Guarded) (set_attributes_codec.items a) h)
how_items (Exclusive verifier) h = none_given

create_items : (a : CreateArgs) → AllFit (create_args_codec.items a) → GivesWords (given_attributes a.how)
unfolding create_args_codec opaque
create_items a h = how_items a.how h.1.1

pub create_gives : (args : List ℕ) (a : CreateArgs) → IsBytes args → read_all create_args_codec args ≡ Ok a → GivesWords (given_attributes a.how)
create_gives args a bytes e = create_items a (value_fits create_args_codec create_args_lawful args a bytes e)

mkdir_items : (a : MkdirArgs) → AllFit (mkdir_args_codec.items a) → GivesWords a.attributes
unfolding mkdir_args_codec opaque
mkdir_items a h = attributes_give a.attributes h.1.1

pub mkdir_gives : (args : List ℕ) (a : MkdirArgs) → IsBytes args → read_all mkdir_args_codec args ≡ Ok a → GivesWords a.attributes
mkdir_gives args a bytes e = mkdir_items a (value_fits mkdir_args_codec mkdir_args_lawful args a bytes e)

symlink_items : (a : SymlinkArgs) → AllFit (symlink_args_codec.items a) → GivesWords a.attributes
unfolding symlink_args_codec opaque
symlink_items a h = attributes_give a.attributes (left (set_attributes_codec.items a.attributes) (Opaque a.path ∷ []) h.1.1)

pub symlink_gives : (args : List ℕ) (a : SymlinkArgs) → IsBytes args → read_all symlink_args_codec args ≡ Ok a → GivesWords a.attributes
symlink_gives args a bytes e = symlink_items a (value_fits symlink_args_codec symlink_args_lawful args a bytes e)

device_items : (d : DeviceData) → AllFit (device_data_codec.items d) → GivesWords d.attributes
unfolding device_data_codec
device_items d h = attributes_give d.attributes (left (set_attributes_codec.items d.attributes) (special_data_codec.items d.device) h)

what_items : (what : MknodData) → AllFit (mknod_data_codec.items what) → GivesWords (special_attributes what)
unfolding mknod_data_codec
what_items data_of.Reg h = none_given
what_items data_of.Dir h = none_given
what_items (data_of.Blk d) h = device_items d (right (file_type_codec.items types.Blk) (device_data_codec.items d) h)
what_items (data_of.Chr d) h = device_items d (right (file_type_codec.items types.Chr) (device_data_codec.items d) h)
what_items data_of.Lnk h = none_given
what_items (data_of.Sock a) h = attributes_give a (right (file_type_codec.items types.Sock) (set_attributes_codec.items a) h)
what_items (data_of.Fifo a) h = attributes_give a (right (file_type_codec.items types.Fifo) (set_attributes_codec.items a) h)

mknod_items : (a : MknodArgs) → AllFit (mknod_args_codec.items a) → GivesWords (special_attributes a.what)
unfolding mknod_args_codec opaque
mknod_items a h = what_items a.what h.1.1

pub mknod_gives : (args : List ℕ) (a : MknodArgs) → IsBytes args → read_all mknod_args_codec args ≡ Ok a → GivesWords (special_attributes a.what)
mknod_gives args a bytes e = mknod_items a (value_fits mknod_args_codec mknod_args_lawful args a bytes e)

-- ---- Credentials

user_of_words : (cred : Cred) (auth : Auth) → ReadsCred cred auth → IsOfWords (caller_of cred)
user_of_words creds.None auth r = record { uid = omega arith; gid = omega arith }
user_of_words (creds.Sys stamp machine uid gid gids) auth r =
    let fits = all_fit (sys_items stamp machine uid gid gids) auth.body r.1.items in
    record { uid = fits.1.1.0; gid = fits.1.1.1.0 }
user_of_words (creds.Other flavor) auth r = record { uid = omega arith; gid = omega arith }

-- ---- The entries that a call adds

entry_if : (b : Bool) (e : Entry) → IsWorded e → AllByRecursion IsWorded (entries_if b e)
entry_if true e h = (h, tt)
entry_if false e h = tt

by_procedure : (o : Option NfsProcedure) (reply : List ℕ) (e : Entry) → IsWorded e → AllByRecursion IsWorded (entries_by_procedure o reply e)
by_procedure None reply e h = tt
by_procedure (Some p) reply e h = entry_if (not (only_reads p) && has_succeeded reply) e h

by_program : (b : Bool) (reply : List ℕ) (e : Entry) → IsWorded e → AllByRecursion IsWorded (cond b (entries_by_procedure (nfs_procedure_of e.proc) reply e) [])
by_program true reply e h = by_procedure (nfs_procedure_of e.proc) reply e h
by_program false reply e h = tt

by_cred : (o : Option ℕ) (es : List Entry) → AllByRecursion IsWorded es → AllByRecursion IsWorded (entries_by_cred o es)
by_cred None es h = h
by_cred (Some stat) es h = tt

by_head : (m : Moment) (payload reply : List ℕ) (r : Result CallHead ℕ) → call_of payload ≡ r → IsBytes payload → AllByRecursion IsWorded (entries_by_call m payload reply r)
by_head m payload reply (Ok (calls.Version2 xid prog vers proc cred args_at)) read h =
    let e : Entry = record { moment = m; cred = cred; proc = proc; args = drop args_at payload } in
    let (front, rest, reads, is) = call_begins payload (calls.Version2 xid prog vers proc cred args_at) h read in
    let (auth, verifier, auth_max, verifier_max, cred_read, items, at_is) = reads in
    let own : IsWorded e = record { bytes = IsBytes_drop args_at payload h; user = user_of_words cred auth cred_read } in
    by_cred (cred_refusal cred) (entries_by_program prog vers reply e) (by_program (eqb prog 100003 && eqb vers 3) reply e own)
by_head m payload reply (Ok (calls.Other xid rpcvers)) read h = tt
by_head m payload reply (Err at) read h = tt

pub worded : (s : Setup) (J : List Entry) (e : Entry) → IsOfCall s J e → IsWorded e
worded s J e one = (subst (λ (es : List Entry). AllByRecursion IsWorded es) one.adds (by_head one.moment one.payload one.reply (call_of one.payload) refl one.bytes)).0
