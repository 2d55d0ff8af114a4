-- What is read of the plain server's reply to a call of NFS is what the procedure answered.
use Rattle.std.proofs.Common.{◌≡◌, ℕ, ◌<◌, ◌^◌, List, [], Result, Ok, sym, ap, ◌∙◌, append-nil}
use Rattle.nr_xdr.specs.Items.{encodings}
use Rattle.nr_xdr.specs.Reading.{Cursor}
use Rattle.nr_xdr.specs.Sequencing.{◌>>=◌}
use Rattle.nr_xdr.proofs.Chains.{standing}
use Rattle.nr_nfs_base.specs.Attributes.{attributes_codec, attributes_lawful}
use Rattle.nr_nfs_base.specs.Codec.{Codec, Lawful, optional, read_all, value_at_end, void}
use Rattle.nr_nfs_base.specs.Laws.{optional_lawful, void_lawful}
use Rattle.nr_nfs_base.specs.Status.{each_status, status_not_ok, status_number, statuses}
use Rattle.nr_nfs_base.specs.StatusUnion.{status_union_lawful}
use Rattle.nr_nfs_base.specs.WeakCache.{wcc_data_codec, wcc_data_lawful}
use Rattle.nr_nfs_base.specs.declared.procedure.NfsProcedure.{NfsProcedure}
use Rattle.nr_nfs_base.specs.declared.procedure.NfsProcedure.TheVariants as nfs
use Rattle.nr_nfs_args.specs.Arguments.{nfs_arguments_codec}
use Rattle.nr_nfs_args.specs.Attributes.{access_args_lawful, getattr_args_lawful, setattr_args_lawful}
use Rattle.nr_nfs_args.specs.Bytes.{commit_args_lawful, read_args_lawful, write_args_lawful}
use Rattle.nr_nfs_args.specs.Create.{create_args_lawful, mkdir_args_lawful}
use Rattle.nr_nfs_args.specs.FileSystem.{fsinfo_args_lawful, fsstat_args_lawful, pathconf_args_lawful}
use Rattle.nr_nfs_args.specs.Lookup.{lookup_args_lawful, readlink_args_lawful}
use Rattle.nr_nfs_args.specs.Null.{null_args_lawful}
use Rattle.nr_nfs_args.specs.Readdir.{readdir_args_lawful, readdirplus_args_lawful}
use Rattle.nr_nfs_args.specs.Remove.{link_args_lawful, remove_args_lawful, rename_args_lawful, rmdir_args_lawful}
use Rattle.nr_nfs_args.specs.Special.{mknod_args_lawful, symlink_args_lawful}
use Rattle.nr_nfs_res.specs.Attributes.{access_ok_codec, access_ok_lawful}
use Rattle.nr_nfs_res.specs.Bytes.{commit_ok_codec, commit_ok_lawful, read_ok_codec, read_ok_lawful, write_ok_codec, write_ok_lawful}
use Rattle.nr_nfs_res.specs.Create.{create_ok_codec, create_ok_lawful}
use Rattle.nr_nfs_res.specs.FileSystem.{fsinfo_ok_codec, fsinfo_ok_lawful, fsstat_ok_codec, fsstat_ok_lawful, pathconf_ok_codec, pathconf_ok_lawful}
use Rattle.nr_nfs_res.specs.Lookup.{lookup_ok_codec, lookup_ok_lawful, readlink_ok_codec, readlink_ok_lawful}
use Rattle.nr_nfs_res.specs.Null.{null_res_lawful}
use Rattle.nr_nfs_res.specs.Readdir.{entry_codec, entry_lawful, entry_plus_codec, entry_plus_lawful, listing_lawful, readdir_ok_codec, readdirplus_ok_codec}
use Rattle.nr_nfs_res.specs.Remove.{link_wcc_codec, link_wcc_lawful, rename_wcc_codec, rename_wcc_lawful}
use Rattle.nr_nfs_res.specs.Results.{NfsResults, nfs_result, nfs_results_codec}
use Rattle.nr_reduce.specs.declared.call.Outcome.{Outcome}
use Rattle.nr_plain.specs.Replies.{Answer, results_reply}
use Rattle.nr_client.specs.Results.{result_of_outcome, result_of_reply}
use Rattle.nr_reply_laws.proofs.Decoding.{lawful_read}
use Rattle.nr_reply_laws.proofs.Replied.{results_read}
use Rattle.nr_pair_laws.specs.ReadResults.{IsEncodable, ResultsAreRead, encoded_arguments, results_there}
use Rattle.nr_pair_laws.proofs.AtPlace.{answered_at}

-- ---- Each encoding is read as what it encodes

arguments_lawful : (p : NfsProcedure) → Lawful (nfs_arguments_codec p)
arguments_lawful nfs.Null = null_args_lawful
arguments_lawful nfs.Getattr = getattr_args_lawful
arguments_lawful nfs.Setattr = setattr_args_lawful
arguments_lawful nfs.Lookup = lookup_args_lawful
arguments_lawful nfs.Access = access_args_lawful
arguments_lawful nfs.Readlink = readlink_args_lawful
arguments_lawful nfs.Read = read_args_lawful
arguments_lawful nfs.Write = write_args_lawful
arguments_lawful nfs.Create = create_args_lawful
arguments_lawful nfs.Mkdir = mkdir_args_lawful
arguments_lawful nfs.Symlink = symlink_args_lawful
arguments_lawful nfs.Mknod = mknod_args_lawful
arguments_lawful nfs.Remove = remove_args_lawful
arguments_lawful nfs.Rmdir = rmdir_args_lawful
arguments_lawful nfs.Rename = rename_args_lawful
arguments_lawful nfs.Link = link_args_lawful
arguments_lawful nfs.Readdir = readdir_args_lawful
arguments_lawful nfs.Readdirplus = readdirplus_args_lawful
arguments_lawful nfs.Fsstat = fsstat_args_lawful
arguments_lawful nfs.Fsinfo = fsinfo_args_lawful
arguments_lawful nfs.Pathconf = pathconf_args_lawful
arguments_lawful nfs.Commit = commit_args_lawful

union_lawful : {D F : Type 0} (done : Codec D) (failed : Codec F) → Lawful done → Lawful failed → Lawful (nfs_result done failed)
union_lawful done failed = status_union_lawful status_number statuses status_not_ok each_status done failed

optional_attributes : Lawful (optional attributes_codec)
optional_attributes = optional_lawful attributes_codec attributes_lawful

results_lawful : (p : NfsProcedure) → Lawful (nfs_results_codec p)
results_lawful nfs.Null = null_res_lawful
results_lawful nfs.Getattr = union_lawful attributes_codec void attributes_lawful void_lawful
results_lawful nfs.Setattr = union_lawful wcc_data_codec wcc_data_codec wcc_data_lawful wcc_data_lawful
results_lawful nfs.Lookup = union_lawful lookup_ok_codec (optional attributes_codec) lookup_ok_lawful optional_attributes
results_lawful nfs.Access = union_lawful access_ok_codec (optional attributes_codec) access_ok_lawful optional_attributes
results_lawful nfs.Readlink = union_lawful readlink_ok_codec (optional attributes_codec) readlink_ok_lawful optional_attributes
results_lawful nfs.Read = union_lawful read_ok_codec (optional attributes_codec) read_ok_lawful optional_attributes
results_lawful nfs.Write = union_lawful write_ok_codec wcc_data_codec write_ok_lawful wcc_data_lawful
results_lawful nfs.Create = union_lawful create_ok_codec wcc_data_codec create_ok_lawful wcc_data_lawful
results_lawful nfs.Mkdir = union_lawful create_ok_codec wcc_data_codec create_ok_lawful wcc_data_lawful
results_lawful nfs.Symlink = union_lawful create_ok_codec wcc_data_codec create_ok_lawful wcc_data_lawful
results_lawful nfs.Mknod = union_lawful create_ok_codec wcc_data_codec create_ok_lawful wcc_data_lawful
results_lawful nfs.Remove = union_lawful wcc_data_codec wcc_data_codec wcc_data_lawful wcc_data_lawful
results_lawful nfs.Rmdir = union_lawful wcc_data_codec wcc_data_codec wcc_data_lawful wcc_data_lawful
results_lawful nfs.Rename = union_lawful rename_wcc_codec rename_wcc_codec rename_wcc_lawful rename_wcc_lawful
results_lawful nfs.Link = union_lawful link_wcc_codec link_wcc_codec link_wcc_lawful link_wcc_lawful
results_lawful nfs.Readdir = union_lawful readdir_ok_codec (optional attributes_codec) (listing_lawful entry_codec entry_lawful) optional_attributes
results_lawful nfs.Readdirplus = union_lawful readdirplus_ok_codec (optional attributes_codec) (listing_lawful entry_plus_codec entry_plus_lawful) optional_attributes
results_lawful nfs.Fsstat = union_lawful fsstat_ok_codec (optional attributes_codec) fsstat_ok_lawful optional_attributes
results_lawful nfs.Fsinfo = union_lawful fsinfo_ok_codec (optional attributes_codec) fsinfo_ok_lawful optional_attributes
results_lawful nfs.Pathconf = union_lawful pathconf_ok_codec (optional attributes_codec) pathconf_ok_lawful optional_attributes
results_lawful nfs.Commit = union_lawful commit_ok_codec wcc_data_codec commit_ok_lawful wcc_data_lawful

-- what is read of the encoding of a value that fits its fields
read_again : {A : Type 0} (codec : Codec A) (v : A) → Lawful codec → IsEncodable codec v → read_all codec (encodings (codec.items v)) ≡ Ok v
read_again {A} codec v lawful fits =
    let bytes = encodings (codec.items v) in
    let f = (lawful_read codec v lawful fits.0 fits.1).at 0 [] in
    ap (λ (l : List ℕ). ◌>>=◌ {A = A × Cursor} {B = A} (codec.read (standing 0 l)) value_at_end) (sym (append-nil bytes))
    ∙ ap (λ (r : Result (A × Cursor) ℕ). ◌>>=◌ {A = A × Cursor} {B = A} r value_at_end) f.is
    ∙ ap (λ (x : A). Ok x) f.holds

-- ---- The reply

reply_read : (xid : ℕ) → xid < 2 ^ 32 → (p : NfsProcedure) (results : NfsResults p) (reply : List ℕ) → IsEncodable (nfs_results_codec p) results → reply ≡ results_reply xid (nfs_results_codec p) results
    → result_of_reply (nfs_results_codec p) reply ≡ Ok results
reply_read xid xid_fits p results reply fits is =
    let codec = nfs_results_codec p in
    let read = results_read xid xid_fits codec results (λ w. w ≡ results) (lawful_read codec results (results_lawful p) fits.0 fits.1) in
    ap (λ (l : List ℕ). result_of_reply codec l) is ∙ read.1.0 ∙ ap (λ (w : NfsResults p). Ok w) read.1.1

pub results_are_read_lem : ResultsAreRead
results_are_read_lem s J uid gid p a o place answered ids arguments_fit results_fit =
    let results = results_there s J place answered.moment uid gid p a in
    let at = answered_at s uid gid answered.xid ids answered.fits p (encoded_arguments p a) a J place answered.moment answered.reply (read_again (nfs_arguments_codec p) a (arguments_lawful p) arguments_fit) answered.at.replied in
    ap (λ (x : Outcome). result_of_outcome (nfs_results_codec p) x) answered.is
    ∙ reply_read answered.xid answered.fits p results answered.reply results_fit (ap (λ (x : Answer). x.reply) at)
