-- The calls of a session, and their results.
use Rattle.std.specs.Prelude.{◌≡◌, ℕ, ◌⊎◌, List, [], ◌∷◌, Option, Some, None, Result, Ok, Err}
use Rattle.nr_rpc.specs.declared.cred.Cred.TheVariants as creds
use Rattle.nr_xdr.specs.Items.{encodings}
use Rattle.nr_nfs_args.specs.Attributes.{getattr_args_codec}
use Rattle.nr_nfs_args.specs.Create.{mkdir_args_codec}
use Rattle.nr_nfs_args.specs.Lookup.{lookup_args_codec, readlink_args_codec}
use Rattle.nr_nfs_args.specs.Mount.{mnt_args_codec}
use Rattle.nr_nfs_args.specs.Remove.{remove_args_codec}
use Rattle.nr_nfs_args.specs.Special.{symlink_args_codec}
use Rattle.nr_nfs_base.specs.declared.set_attributes.SetAttributes.{SetAttributes}
use Rattle.nr_nfs_base.specs.declared.set_attributes.SetTime.TheVariants as times
use Rattle.nr_nfs_base.specs.WeakCache.{wcc_data_codec}
use Rattle.nr_nfs_base.specs.declared.weak_cache.WccData.{WccData}
use Rattle.nr_nfs_res.specs.Create.{create_ok_codec}
use Rattle.nr_nfs_res.specs.Lookup.{lookup_ok_codec, readlink_ok_codec}
use Rattle.nr_nfs_res.specs.declared.create.CreateOk.{CreateOk}
use Rattle.nr_nfs_res.specs.declared.lookup.LookupOk.{LookupOk}
use Rattle.nr_nfs_res.specs.declared.lookup.ReadlinkOk.{ReadlinkOk}
use Rattle.nr_nfs_base.specs.Attributes.{attributes_codec}
use Rattle.nr_nfs_base.specs.Codec.{Codec, optional, void}
use Rattle.nr_nfs_base.specs.MountStatus.{mount_status_number, mount_statuses}
use Rattle.nr_nfs_base.specs.Status.{status_number, statuses}
use Rattle.nr_nfs_base.specs.StatusUnion.{status_union_codec}
use Rattle.nr_nfs_base.specs.Procedures.{mount_procedure_number, mount_program, mount_version, nfs_procedure_number, nfs_program, nfs_version}
use Rattle.nr_nfs_base.specs.declared.attributes.Attributes.{Attributes}
use Rattle.nr_nfs_base.specs.declared.procedure.MountProcedure.TheVariants as mount
use Rattle.nr_nfs_base.specs.declared.procedure.NfsProcedure.TheVariants as nfs
use Rattle.nr_nfs_res.specs.Mount.{mount_ok_codec}
use Rattle.nr_nfs_res.specs.declared.mount.MountOk.{MountOk}
use Rattle.nr_reduce.specs.declared.call.Call.{Call}
use Rattle.nr_reduce.specs.declared.call.Outcome.{Outcome}
use Rattle.nr_shared.specs.declared.call_end.CallEnd.{CallEnd}
use Rattle.nr_client.specs.declared.client_end.ClientEnd.{ClientEnd}
use Rattle.nr_client.specs.declared.client_end.ClientEnd.TheVariants as client
use Rattle.nr_client.specs.Calls.{link_relations}
use Rattle.nr_client.specs.Ending.{SinkCountAt, SourceCountAt}
use Rattle.nr_client.specs.Relations.{CallRelations}
use Rattle.nr_client.specs.Results.{Gives, mount_done, nfs_done, result_of_outcome}
use Rattle.nr_client.specs.Views.{LinkView}

-- the credential of each call (RFC 5531 appendix A): stamp 0, machine "nfsrdma", and no further groups
abbrev pub machine : List ℕ
machine = 110 ∷ 102 ∷ 115 ∷ 114 ∷ 100 ∷ 109 ∷ 97 ∷ []

abbrev pub client_call : (prog vers proc uid gid : ℕ) → List ℕ → Call
client_call prog vers proc uid gid args = record { prog = prog; vers = vers; proc = proc; cred = creds.Sys 0 machine uid gid []; args = args }

-- GETATTR of a file (RFC 1813 section 3.3.1), and MNT of an export (RFC 1813 section 5.2.1)
abbrev pub getattr_call : (uid gid : ℕ) → List ℕ → Call
getattr_call uid gid file =
    client_call nfs_program nfs_version (nfs_procedure_number nfs.Getattr) uid gid (encodings (getattr_args_codec.items (record { object = file })))

abbrev pub mnt_call : (uid gid : ℕ) → List ℕ → Call
mnt_call uid gid export =
    client_call mount_program mount_version (mount_procedure_number mount.Mnt) uid gid (encodings (mnt_args_codec.items (record { dirpath = export })))

-- LOOKUP of a name in a directory (RFC 1813 section 3.3.3), READLINK of a link (section 3.3.5), and REMOVE of a name (section 3.3.12)
abbrev pub lookup_call : (uid gid : ℕ) → (dir name : List ℕ) → Call
lookup_call uid gid dir name =
    client_call nfs_program nfs_version (nfs_procedure_number nfs.Lookup) uid gid (encodings (lookup_args_codec.items (record { dir = dir; name = name })))

abbrev pub readlink_call : (uid gid : ℕ) → List ℕ → Call
readlink_call uid gid file =
    client_call nfs_program nfs_version (nfs_procedure_number nfs.Readlink) uid gid (encodings (readlink_args_codec.items (record { symlink = file })))

abbrev pub remove_call : (uid gid : ℕ) → (dir name : List ℕ) → Call
remove_call uid gid dir name =
    client_call nfs_program nfs_version (nfs_procedure_number nfs.Remove) uid gid (encodings (remove_args_codec.items (record { dir = dir; name = name })))

-- a mode and no other attribute
abbrev pub only_mode : Option ℕ → SetAttributes
only_mode mode = record { mode = mode; uid = None; gid = None; size = None; atime = times.Leave; mtime = times.Leave }

-- the mode of a new directory: 0755
abbrev pub directory_mode : ℕ
directory_mode = 493

-- MKDIR of a name in a directory (RFC 1813 section 3.3.9), and SYMLINK of a name with a path (section 3.3.10)
abbrev pub mkdir_call : (uid gid : ℕ) → (dir name : List ℕ) → Call
mkdir_call uid gid dir name =
    client_call nfs_program nfs_version (nfs_procedure_number nfs.Mkdir) uid gid
    (encodings (mkdir_args_codec.items (record { dir = dir; name = name; attributes = only_mode (Some directory_mode) })))

abbrev pub symlink_call : (uid gid : ℕ) → (dir name path : List ℕ) → Call
symlink_call uid gid dir name path =
    client_call nfs_program nfs_version (nfs_procedure_number nfs.Symlink) uid gid
    (encodings (symlink_args_codec.items (record { dir = dir; name = name; attributes = only_mode None; path = path })))

-- their results, by the outcome of the call: of a procedure of NFS those after the status 0
abbrev pub getattr_result : Outcome → Result Attributes ClientEnd
getattr_result outcome = nfs_done (result_of_outcome (status_union_codec status_number statuses attributes_codec void) outcome)

abbrev pub nfs_reads : {D F : Type 0} → Codec D → Codec F → Outcome → Result D ClientEnd
nfs_reads done failed outcome = nfs_done (result_of_outcome (status_union_codec status_number statuses done failed) outcome)

abbrev pub lookup_result : Outcome → Result LookupOk ClientEnd
lookup_result = nfs_reads lookup_ok_codec (optional attributes_codec)

abbrev pub readlink_result : Outcome → Result ReadlinkOk ClientEnd
readlink_result = nfs_reads readlink_ok_codec (optional attributes_codec)

abbrev pub remove_result : Outcome → Result WccData ClientEnd
remove_result = nfs_reads wcc_data_codec wcc_data_codec

abbrev pub create_result : Outcome → Result CreateOk ClientEnd
create_result = nfs_reads create_ok_codec wcc_data_codec

abbrev pub handle_of : Result MountOk ClientEnd → Result (List ℕ) ClientEnd
handle_of (Ok results) = Ok results.handle
handle_of (Err end) = Err end

abbrev pub mnt_result : Outcome → Result (List ℕ) ClientEnd
mnt_result outcome = handle_of (mount_done (result_of_outcome (status_union_codec mount_status_number mount_statuses mount_ok_codec void) outcome))

-- A request was made: its call was answered, and its result is what the outcome is read as; or the call has no answer; or memory ran out before
-- it was made, and nothing changed.
abbrev pub AsksOver : {A V : Type 0} → CallRelations V → (Outcome → Result A ClientEnd) → Call → (v w : V) → Result A ClientEnd → Type 0
AsksOver rel reads call v w result =
    ((outcome : Outcome) × (rel.answers v w call outcome × Gives result (reads outcome)))
    ⊎ (((end : CallEnd) × ((result ≡ Err (client.Link end)) × rel.gives_up v w call end))
    ⊎ ((result ≡ Err client.Memory) × (w ≡ v)))

abbrev pub Asks : {A : Type 0} → (Outcome → Result A ClientEnd) → Call → (v w : LinkView) → Result A ClientEnd → Type 0
Asks reads call v w result = AsksOver link_relations reads call v w result

-- the fault counts rise only if a call has no answer for that
abbrev pub CountsFaultsOver : {A V : Type 0} → (rel : CallRelations V) → Result A ClientEnd → (v w : V) → Type 0
CountsFaultsOver rel (Err (client.Link end)) v w = rel.counts end (rel.faults v) (rel.faults w)
CountsFaultsOver rel result v w = rel.faults w ≡ rel.faults v

-- the fault counts of the source and of the sink, likewise
abbrev pub SourceFaults : {A : Type 0} → Result A ClientEnd → ℕ → ℕ → Type 0
SourceFaults (Err (client.Link end)) before after = SourceCountAt end before after
SourceFaults result before after = after ≡ before

abbrev pub SinkFaults : {A : Type 0} → Result A ClientEnd → ℕ → ℕ → Type 0
SinkFaults (Err (client.Link end)) before after = SinkCountAt end before after
SinkFaults result before after = after ≡ before
