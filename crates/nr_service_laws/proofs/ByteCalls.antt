-- The calls of a session are of bytes if what they name is.
use Rattle.std.proofs.Common.{ℕ, ◌^◌, ◌<◌, List, [], length, None, Some, refl, arith}
use Rattle.nr_xdr.specs.Item.{Item, IsBytes}
use Rattle.nr_xdr.specs.Items.{encodings}
use Rattle.nr_rpc.specs.declared.cred.Cred.TheVariants as creds
use Rattle.nr_rpc.specs.Credential.{CredFits}
use Rattle.nr_nfs_base.specs.Codec.{boolean, enumeration, hyper, opaque, optional, word}
use Rattle.nr_nfs_base.specs.Limits.{listing_max}
use Rattle.nr_nfs_base.specs.Procedures.{mount_procedure_number, mount_program, mount_version, nfs_procedure_number, nfs_program, nfs_version}
use Rattle.nr_nfs_base.specs.SetAttributes.{set_attributes_codec, set_time_codec, time_how_codec}
use Rattle.nr_nfs_base.specs.Stable.{stable_how_codec}
use Rattle.nr_nfs_base.specs.Verifier.{verifier_codec}
use Rattle.nr_nfs_base.specs.declared.procedure.MountProcedure.TheVariants as mount
use Rattle.nr_nfs_base.specs.declared.procedure.NfsProcedure.TheVariants as nfs
use Rattle.nr_nfs_base.specs.declared.stable.StableHow.TheVariants as stable
use Rattle.nr_nfs_base.specs.declared.verifier.Verifier.{Verifier}
use Rattle.nr_nfs_args.specs.Attributes.{getattr_args_codec}
use Rattle.nr_nfs_args.specs.Bytes.{read_args_codec, write_args_codec}
use Rattle.nr_nfs_args.specs.Create.{create_args_codec, create_how_codec, mkdir_args_codec}
use Rattle.nr_nfs_args.specs.CreateMode.{create_mode_codec}
use Rattle.nr_nfs_args.specs.Lookup.{lookup_args_codec, readlink_args_codec}
use Rattle.nr_nfs_args.specs.Mount.{mnt_args_codec}
use Rattle.nr_nfs_args.specs.Readdir.{readdir_args_codec}
use Rattle.nr_nfs_args.specs.Remove.{remove_args_codec}
use Rattle.nr_nfs_args.specs.Special.{symlink_args_codec}
use Rattle.nr_nfs_args.specs.declared.create.CreateHow.TheVariants as hows
use Rattle.nr_reduce.specs.declared.call.Call.{Call}
use Rattle.nr_reduce.specs.ClientState.{call_payload}
use Rattle.nr_laws.specs.Typed.{IsTypedCall}
use Rattle.nr_script.proofs.ByteLists.{AreOfBytes, decided, items_bytes}
use Rattle.nr_byte_laws.proofs.CallBytes.{payload_is_bytes}
use Rattle.nr_client.specs.Listing.{readdir_call}
use Rattle.nr_client.specs.Reading.{read_call}
use Rattle.nr_client.specs.Requests.{client_call, directory_mode, getattr_call, lookup_call, machine, mkdir_call, mnt_call, only_mode, readlink_call, remove_call, symlink_call}
use Rattle.nr_client.specs.Writing.{create_call, new_file, write_call}

-- the numbers of a call are 32-bit words, and its payload is bytes, under any xid
abbrev pub IsByteCall : Call → Type 0
IsByteCall call = IsTypedCall call × ((xid : ℕ) → IsBytes (call_payload xid call))

-- a user and a group that are 32-bit words
abbrev pub AreWords : ℕ → ℕ → Type 0
AreWords uid gid = (uid < 2 ^ 32) × (gid < 2 ^ 32)

machine_bytes : IsBytes machine
machine_bytes = decided machine refl

call_is : (prog vers proc uid gid : ℕ) (items : List Item) → prog < 2 ^ 32 → vers < 2 ^ 32 → proc < 2 ^ 32 → AreWords uid gid → AreOfBytes items → IsByteCall (client_call prog vers proc uid gid (encodings items))
call_is prog vers proc uid gid items p v q words args =
    let cred : CredFits (creds.Sys 0 machine uid gid []) = (omega arith, (omega arith, (words.0, (words.1, (omega arith, tt))))) in
    ((p, v, q, cred), λ xid. payload_is_bytes xid (client_call prog vers proc uid gid (encodings items)) (machine_bytes, cred) (items_bytes items args))

nfs_is : (proc uid gid : ℕ) (items : List Item) → proc < 2 ^ 32 → AreWords uid gid → AreOfBytes items → IsByteCall (client_call nfs_program nfs_version proc uid gid (encodings items))
nfs_is proc uid gid items q words args = call_is nfs_program nfs_version proc uid gid items (omega arith) (omega arith) q words args

pub mnt_is : (uid gid : ℕ) (export : List ℕ) → AreWords uid gid → IsBytes export → IsByteCall (mnt_call uid gid export)
unfolding mnt_args_codec opaque
mnt_is uid gid export words e = call_is mount_program mount_version (mount_procedure_number mount.Mnt) uid gid (mnt_args_codec.items (record { dirpath = export })) (omega arith) (omega arith) (omega arith) words (e, tt)

pub getattr_is : (uid gid : ℕ) (file : List ℕ) → AreWords uid gid → IsBytes file → IsByteCall (getattr_call uid gid file)
unfolding getattr_args_codec opaque
getattr_is uid gid file words f = nfs_is (nfs_procedure_number nfs.Getattr) uid gid (getattr_args_codec.items (record { object = file })) (omega arith) words (f, tt)

pub lookup_is : (uid gid : ℕ) (dir name : List ℕ) → AreWords uid gid → IsBytes dir → IsBytes name → IsByteCall (lookup_call uid gid dir name)
unfolding lookup_args_codec opaque
lookup_is uid gid dir name words d n = nfs_is (nfs_procedure_number nfs.Lookup) uid gid (lookup_args_codec.items (record { dir = dir; name = name })) (omega arith) words (d, (n, tt))

pub readlink_is : (uid gid : ℕ) (file : List ℕ) → AreWords uid gid → IsBytes file → IsByteCall (readlink_call uid gid file)
unfolding readlink_args_codec opaque
readlink_is uid gid file words f = nfs_is (nfs_procedure_number nfs.Readlink) uid gid (readlink_args_codec.items (record { symlink = file })) (omega arith) words (f, tt)

pub remove_is : (uid gid : ℕ) (dir name : List ℕ) → AreWords uid gid → IsBytes dir → IsBytes name → IsByteCall (remove_call uid gid dir name)
unfolding remove_args_codec opaque
remove_is uid gid dir name words d n = nfs_is (nfs_procedure_number nfs.Remove) uid gid (remove_args_codec.items (record { dir = dir; name = name })) (omega arith) words (d, (n, tt))

pub mkdir_is : (uid gid : ℕ) (dir name : List ℕ) → AreWords uid gid → IsBytes dir → IsBytes name → IsByteCall (mkdir_call uid gid dir name)
unfolding mkdir_args_codec set_attributes_codec set_time_codec time_how_codec enumeration optional boolean opaque word hyper
mkdir_is uid gid dir name words d n = nfs_is (nfs_procedure_number nfs.Mkdir) uid gid (mkdir_args_codec.items (record { dir = dir; name = name; attributes = only_mode (Some directory_mode) })) (omega arith) words (d, (n, (tt, (tt, (tt, (tt, (tt, (tt, (tt, tt)))))))))

pub symlink_is : (uid gid : ℕ) (dir name path : List ℕ) → AreWords uid gid → IsBytes dir → IsBytes name → IsBytes path → IsByteCall (symlink_call uid gid dir name path)
unfolding symlink_args_codec set_attributes_codec set_time_codec time_how_codec enumeration optional boolean opaque word hyper
symlink_is uid gid dir name path words d n p = nfs_is (nfs_procedure_number nfs.Symlink) uid gid (symlink_args_codec.items (record { dir = dir; name = name; attributes = only_mode None; path = path })) (omega arith) words (d, (n, (tt, (tt, (tt, (tt, (tt, (tt, (p, tt)))))))))

pub create_is : (uid gid : ℕ) (dir name : List ℕ) → AreWords uid gid → IsBytes dir → IsBytes name → IsByteCall (create_call uid gid dir name)
unfolding create_args_codec create_how_codec create_mode_codec set_attributes_codec set_time_codec time_how_codec enumeration optional boolean opaque word hyper
create_is uid gid dir name words d n = nfs_is (nfs_procedure_number nfs.Create) uid gid (create_args_codec.items (record { dir = dir; name = name; how = hows.Unchecked new_file })) (omega arith) words (d, (n, (tt, (tt, (tt, (tt, (tt, (tt, (tt, (tt, (tt, tt)))))))))))

pub read_is : (uid gid : ℕ) (file : List ℕ) (offset count : ℕ) → AreWords uid gid → IsBytes file → IsByteCall (read_call uid gid file offset count)
unfolding read_args_codec opaque hyper word
read_is uid gid file offset count words f = nfs_is (nfs_procedure_number nfs.Read) uid gid (read_args_codec.items (record { file = file; offset = offset; count = count })) (omega arith) words (f, (tt, (tt, tt)))

pub write_is : (uid gid : ℕ) (file : List ℕ) (offset : ℕ) (bytes : List ℕ) → AreWords uid gid → IsBytes file → IsBytes bytes → IsByteCall (write_call uid gid file offset bytes)
unfolding write_args_codec stable_how_codec enumeration opaque hyper word
write_is uid gid file offset bytes words f b = nfs_is (nfs_procedure_number nfs.Write) uid gid (write_args_codec.items (record { file = file; offset = offset; count = length bytes; stable = stable.FileSync; bytes = bytes })) (omega arith) words (f, (tt, (tt, (tt, (b, tt)))))

pub readdir_is : (uid gid : ℕ) (dir : List ℕ) (cookie : ℕ) (verifier : Verifier) → AreWords uid gid → IsBytes dir → IsByteCall (readdir_call uid gid dir cookie verifier)
unfolding readdir_args_codec verifier_codec opaque hyper word
readdir_is uid gid dir cookie verifier words d = nfs_is (nfs_procedure_number nfs.Readdir) uid gid (readdir_args_codec.items (record { dir = dir; cookie = cookie; verifier = verifier; count = listing_max })) (omega arith) words (d, (tt, (tt, (tt, tt))))
