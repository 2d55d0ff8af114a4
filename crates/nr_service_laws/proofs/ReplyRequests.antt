-- What each request makes of replies is no end for ERR_CHUNK or for another version.
use Rattle.std.proofs.Common.{ℕ, ◌+◌, Bool, true, false, cond, List, [], ◌∷◌, ◌++◌, length, map, Option, None, Some, Result, Ok, Err}
use Rattle.std.specs.Prelude.{◌==◌, ◌||◌, nat_lt, ltb, fold, take}
use Rattle.nr_outside.specs.Whole.{input_max}
use Rattle.nr_nfs_base.specs.Attributes.{attributes_codec}
use Rattle.nr_nfs_base.specs.Codec.{Codec, optional, void}
use Rattle.nr_nfs_base.specs.MountStatus.{mount_status_number, mount_statuses}
use Rattle.nr_nfs_base.specs.Status.{status_number, statuses}
use Rattle.nr_nfs_base.specs.StatusUnion.{status_union_codec}
use Rattle.nr_nfs_base.specs.WeakCache.{wcc_data_codec}
use Rattle.nr_nfs_base.specs.declared.attributes.Attributes.{Attributes}
use Rattle.nr_nfs_res.specs.Bytes.{read_ok_codec, write_ok_codec}
use Rattle.nr_nfs_res.specs.Create.{create_ok_codec}
use Rattle.nr_nfs_res.specs.Lookup.{lookup_ok_codec, readlink_ok_codec}
use Rattle.nr_nfs_res.specs.Mount.{mount_ok_codec}
use Rattle.nr_nfs_res.specs.Readdir.{ReaddirOk, readdir_ok_codec}
use Rattle.nr_nfs_res.specs.declared.bytes.ReadOk.{ReadOk}
use Rattle.nr_nfs_res.specs.declared.bytes.WriteOk.{WriteOk}
use Rattle.nr_nfs_res.specs.declared.create.CreateOk.{CreateOk}
use Rattle.nr_nfs_res.specs.declared.lookup.LookupOk.{LookupOk}
use Rattle.nr_nfs_res.specs.declared.mount.MountOk.{MountOk}
use Rattle.nr_nfs_res.specs.declared.readdir.Entry.{Entry}
use Rattle.nr_reduce.specs.declared.call.Outcome.{Outcome}
use Rattle.nr_client.specs.declared.client_end.ClientEnd.{ClientEnd}
use Rattle.nr_client.specs.declared.client_end.ClientEnd.TheVariants as client
use Rattle.nr_client.specs.Following.{Next, go_on}
use Rattle.nr_client.specs.Following.Next.{Calls, Returns}
use Rattle.nr_client.specs.Listing.{entries_max, eof_offset, is_stuck, list_from, list_next, listed_after, listed_or, listed_with, no_progress, none_listed, readdir_call, readdir_result}
use Rattle.nr_client.specs.Paths.{component_max, components_of, names_in, path_names, with_name}
use Rattle.nr_client.specs.Reading.{FileRead, after_reply, checked_read, file_read, is_bad_read, next_read, piece_left, post_op_attr_len, read_call, read_result, reading, results_offset, with_data, with_size}
use Rattle.nr_client.specs.Reading.FileRead.{NothingKnown, ReadEnds, SizeKnown}
use Rattle.nr_client.specs.Requests.{create_result, getattr_result, handle_of, lookup_result, mnt_result, nfs_reads, readlink_result, remove_result}
use Rattle.nr_client.specs.Results.{mount_done, result_of_outcome}
use Rattle.nr_client.specs.Walking.{object_in, object_result, parent_along, parent_from, parent_next, walk_from, walk_next}
use Rattle.nr_client.specs.Writing.{FileWrite, after_write_reply, checked_write, created_file, created_handle, file_write, handle_or, next_write, piece_at, wcc_data_len, with_count, with_handle, write_call, write_end, write_result, writing}
use Rattle.nr_client.specs.Writing.FileWrite.{Created, NotCreated, WriteEnds}
use Rattle.nr_service_laws.specs.CommandEnds.{AreReplies, ResultCanFollowReplies, CanFollowReplies, IsReplyOutcome}
use Rattle.nr_service_laws.proofs.ReplyResults.{ReadsReplies, either_fine, mount_fine, nfs_fine, outcome_fine}

-- ---- One call

pub nfs_reads_fine : {D F : Type 0} (done : Codec D) (failed : Codec F) → ReadsReplies (nfs_reads done failed)
nfs_reads_fine done failed outcome is =
    nfs_fine (result_of_outcome (status_union_codec status_number statuses done failed) outcome) (outcome_fine (status_union_codec status_number statuses done failed) outcome is)

pub getattr_fine : ReadsReplies getattr_result
getattr_fine = nfs_reads_fine attributes_codec void

pub lookup_fine : ReadsReplies lookup_result
lookup_fine = nfs_reads_fine lookup_ok_codec (optional attributes_codec)

pub readlink_fine : ReadsReplies readlink_result
readlink_fine = nfs_reads_fine readlink_ok_codec (optional attributes_codec)

pub remove_fine : ReadsReplies remove_result
remove_fine = nfs_reads_fine wcc_data_codec wcc_data_codec

pub create_fine : ReadsReplies create_result
create_fine = nfs_reads_fine create_ok_codec wcc_data_codec

handle_fine : (r : Result MountOk ClientEnd) → ResultCanFollowReplies r → ResultCanFollowReplies (handle_of r)
handle_fine (Ok results) fine = tt
handle_fine (Err end) fine = fine

pub mnt_fine : ReadsReplies mnt_result
mnt_fine outcome is =
    let codec = status_union_codec mount_status_number mount_statuses mount_ok_codec void in
    handle_fine (mount_done (result_of_outcome codec outcome)) (mount_fine (result_of_outcome codec outcome) (outcome_fine codec outcome is))

-- ---- Several calls

abbrev pub NextFine : {A : Type 0} → Next A → Type 0
NextFine (Calls call) = Unit {0}
NextFine (Returns result) = ResultCanFollowReplies result

abbrev pub RequestFine : {A : Type 0} → (List Outcome → Next A) → Type 0
RequestFine request = (outcomes : List Outcome) → AreReplies outcomes → NextFine (request outcomes)

go_on_fine : {A B : Type 0} (r : Result B ClientEnd) (next : B → Next A) → ResultCanFollowReplies r → ((value : B) → NextFine (next value)) → NextFine (go_on r next)
go_on_fine (Ok value) next fine goes = goes value
go_on_fine (Err end) next fine goes = fine

either_next : {A : Type 0} (b : Bool) (x y : Next A) → NextFine x → NextFine y → NextFine (cond b x y)
either_next true x y f g = f
either_next false x y f g = g

object_fine : (r : Result LookupOk ClientEnd) → ResultCanFollowReplies r → ResultCanFollowReplies (object_in r)
object_fine (Ok found) fine = tt
object_fine (Err end) fine = fine

walk_from_fine : (uid gid : ℕ) (dir : List ℕ) (names : List (List ℕ)) → RequestFine (walk_from uid gid dir names)
walk_from_fine uid gid dir [] outcomes are = tt
walk_from_fine uid gid dir (name ∷ names) [] are = tt
walk_from_fine uid gid dir (name ∷ names) (outcome ∷ later) (is, are) =
    go_on_fine (object_result outcome) (λ object. walk_from uid gid object names later) (object_fine (lookup_result outcome) (lookup_fine outcome is))
    (λ object. walk_from_fine uid gid object names later are)

parent_from_fine : (uid gid : ℕ) (dir name : List ℕ) (names : List (List ℕ)) → RequestFine (parent_from uid gid dir name names)
parent_from_fine uid gid dir name [] outcomes are = tt
parent_from_fine uid gid dir name (next ∷ names) [] are = tt
parent_from_fine uid gid dir name (next ∷ names) (outcome ∷ later) (is, are) =
    go_on_fine (object_result outcome) (λ object. parent_from uid gid object next names later) (object_fine (lookup_result outcome) (lookup_fine outcome is))
    (λ object. parent_from_fine uid gid object next names later are)

parent_along_fine : (uid gid : ℕ) (dir : List ℕ) (at : ℕ) (names : List (List ℕ)) → RequestFine (parent_along uid gid dir at names)
parent_along_fine uid gid dir at [] outcomes are = tt
parent_along_fine uid gid dir at (name ∷ names) outcomes are = parent_from_fine uid gid dir name names outcomes are

name_fine : (name : List ℕ) (r : Result (List (List ℕ)) ClientEnd) → ResultCanFollowReplies r → ResultCanFollowReplies (with_name name r)
name_fine name (Ok names) fine = tt
name_fine name (Err end) fine = fine

names_fine : (components : List (ℕ × List ℕ)) → ResultCanFollowReplies (names_in components)
names_fine [] = tt
names_fine (component ∷ rest) =
    either_fine (ltb component_max (length component.1)) (Err (client.BadPath component.0)) (with_name component.1 (names_in rest)) tt (name_fine component.1 (names_in rest) (names_fine rest))

pub walk_fine : (uid gid : ℕ) (root path : List ℕ) → RequestFine (walk_next uid gid root path)
walk_fine uid gid root path outcomes are =
    go_on_fine (path_names path) (λ names. walk_from uid gid root names outcomes) (names_fine (components_of path)) (λ names. walk_from_fine uid gid root names outcomes are)

pub parent_fine : (uid gid : ℕ) (root path : List ℕ) → RequestFine (parent_next uid gid root path)
parent_fine uid gid root path outcomes are =
    go_on_fine (path_names path) (λ names. parent_along uid gid root (length path) names outcomes) (names_fine (components_of path))
    (λ names. parent_along_fine uid gid root (length path) names outcomes are)

-- ---- A list

listed_with_fine : (listed : _) (listing : ReaddirOk) (at : ℕ) → ResultCanFollowReplies (listed_with listed listing at)
listed_with_fine listed listing at =
    either_fine (ltb entries_max (length (listed.names ++ map (λ (entry : Entry). entry.name) listing.entries))) _ _ tt (either_fine (is_stuck listing) _ _ tt tt)

listed_or_fine : (listed : _) (at : ℕ) (r : Result ReaddirOk ClientEnd) → ResultCanFollowReplies r → ResultCanFollowReplies (listed_or listed at r)
listed_or_fine listed at (Ok listing) fine = listed_with_fine listed listing at
listed_or_fine listed at (Err end) fine = fine

list_from_fine : (uid gid : ℕ) (dir : List ℕ) (listed : _) → RequestFine (list_from uid gid dir listed)
list_from_fine uid gid dir listed [] are = either_next listed.eof (Returns (Ok listed.names)) (Calls (readdir_call uid gid dir listed.cookie listed.verifier)) tt tt
list_from_fine uid gid dir listed (outcome ∷ later) (is, are) =
    go_on_fine (listed_after listed outcome) (λ more. list_from uid gid dir more later)
    (listed_or_fine listed (eof_offset outcome) (readdir_result outcome) (nfs_reads_fine readdir_ok_codec (optional attributes_codec) outcome is))
    (λ more. list_from_fine uid gid dir more later are)

pub list_fine : (uid gid : ℕ) (dir : List ℕ) → RequestFine (list_next uid gid dir)
list_fine uid gid dir = list_from_fine uid gid dir none_listed

-- ---- A file that is read

abbrev ReadFine : FileRead → Type 0
ReadFine NothingKnown = Unit {0}
ReadFine (SizeKnown size at bytes) = Unit {0}
ReadFine (ReadEnds end bytes) = CanFollowReplies end

size_fine : (r : Result Attributes ClientEnd) → ResultCanFollowReplies r → ReadFine (with_size r)
size_fine (Ok attributes) fine = tt
size_fine (Err end) fine = fine

data_fine : (size at : ℕ) (bytes : List ℕ) (r : Result ReadOk ClientEnd) → ResultCanFollowReplies r → ReadFine (with_data size at bytes r)
data_fine size at bytes (Ok results) fine = tt
data_fine size at bytes (Err end) fine = fine

checked_fine : (count results_at : ℕ) (r : Result ReadOk ClientEnd) → ResultCanFollowReplies r → ResultCanFollowReplies (checked_read count results_at r)
checked_fine count results_at (Ok results) fine =
    either_fine (is_bad_read count results) (Err (client.BadReply (results_at + (12 + post_op_attr_len results.attributes)) no_progress)) (Ok results) tt tt
checked_fine count results_at (Err end) fine = fine

one_read_fine : (file : FileRead) (outcome : Outcome) → IsReplyOutcome outcome → ReadFine file → ReadFine (after_reply file outcome)
one_read_fine NothingKnown outcome is fine = size_fine (getattr_result outcome) (getattr_fine outcome is)
one_read_fine (SizeKnown size at bytes) outcome is fine =
    data_fine size at bytes (read_result (piece_left size at) outcome)
    (checked_fine (piece_left size at) (results_offset outcome) (nfs_reads read_ok_codec (optional attributes_codec) outcome)
    (nfs_reads_fine read_ok_codec (optional attributes_codec) outcome is))
one_read_fine (ReadEnds end bytes) outcome is fine = fine

read_fine : (file : FileRead) (outcomes : List Outcome) → AreReplies outcomes → ReadFine file → ReadFine (fold after_reply file outcomes)
read_fine file [] are fine = fine
read_fine file (outcome ∷ later) (is, are) fine = read_fine (after_reply file outcome) later are (one_read_fine file outcome is fine)

next_read_fine : (uid gid : ℕ) (name : List ℕ) (file : FileRead) → ReadFine file → NextFine (next_read uid gid name file)
next_read_fine uid gid name NothingKnown fine = tt
next_read_fine uid gid name (SizeKnown size at bytes) fine =
    either_next (nat_lt at size) (Calls (read_call uid gid name at (piece_left size at))) (Returns (Ok tt)) tt tt
next_read_fine uid gid name (ReadEnds end bytes) fine = fine

pub file_fine : (uid gid : ℕ) (file : List ℕ) → RequestFine (reading uid gid file)
file_fine uid gid file outcomes are = next_read_fine uid gid file (file_read outcomes) (read_fine NothingKnown outcomes are tt)

-- ---- A file that is written

abbrev WriteFine : FileWrite → Type 0
WriteFine NotCreated = Unit {0}
WriteFine (Created file at) = Unit {0}
WriteFine (WriteEnds end) = CanFollowReplies end

handle_or_fine : (results_at : ℕ) (object : Option (List ℕ)) → ResultCanFollowReplies (handle_or results_at object)
handle_or_fine results_at (Some handle) = tt
handle_or_fine results_at None = tt

created_fine : (results_at : ℕ) (r : Result CreateOk ClientEnd) → ResultCanFollowReplies r → ResultCanFollowReplies (created_handle results_at r)
created_fine results_at (Ok results) fine = handle_or_fine results_at results.object
created_fine results_at (Err end) fine = fine

with_handle_fine : (r : Result (List ℕ) ClientEnd) → ResultCanFollowReplies r → WriteFine (with_handle r)
with_handle_fine (Ok file) fine = tt
with_handle_fine (Err end) fine = fine

count_fine : (sent results_at : ℕ) (r : Result WriteOk ClientEnd) → ResultCanFollowReplies r → ResultCanFollowReplies (checked_write sent results_at r)
count_fine sent results_at (Ok results) fine =
    either_fine (results.count == 0 || nat_lt sent results.count) (Err (client.BadReply (results_at + (4 + wcc_data_len results.wcc)) no_progress)) (Ok results.count) tt tt
count_fine sent results_at (Err end) fine = fine

with_count_fine : (file : List ℕ) (at : ℕ) (r : Result ℕ ClientEnd) → ResultCanFollowReplies r → WriteFine (with_count file at r)
with_count_fine file at (Ok count) fine = tt
with_count_fine file at (Err end) fine = fine

one_write_fine : (input : List ℕ) (file : FileWrite) (outcome : Outcome) → IsReplyOutcome outcome → WriteFine file → WriteFine (after_write_reply input file outcome)
one_write_fine input NotCreated outcome is fine =
    with_handle_fine (created_file outcome) (created_fine (results_offset outcome) (create_result outcome) (create_fine outcome is))
one_write_fine input (Created file at) outcome is fine =
    with_count_fine file at (write_result (length (piece_at input at)) outcome)
    (count_fine (length (piece_at input at)) (results_offset outcome) (nfs_reads write_ok_codec wcc_data_codec outcome) (nfs_reads_fine write_ok_codec wcc_data_codec outcome is))
one_write_fine input (WriteEnds end) outcome is fine = fine

write_fine : (input : List ℕ) (file : FileWrite) (outcomes : List Outcome) → AreReplies outcomes → WriteFine file → WriteFine (fold (after_write_reply input) file outcomes)
write_fine input file [] are fine = fine
write_fine input file (outcome ∷ later) (is, are) fine = write_fine input (after_write_reply input file outcome) later are (one_write_fine input file outcome is fine)

next_write_fine : (uid gid : ℕ) (dir name input : List ℕ) (file : FileWrite) → WriteFine file → NextFine (next_write uid gid dir name input file)
next_write_fine uid gid dir name input NotCreated fine = tt
next_write_fine uid gid dir name input (Created file at) fine =
    either_next (nat_lt at (length (take input_max input))) (Calls (write_call uid gid file at (piece_at input at))) (Returns (write_end input)) tt
    (either_fine (nat_lt input_max (length input)) (Err (client.Budget input_max)) (Ok tt) tt tt)
next_write_fine uid gid dir name input (WriteEnds end) fine = fine

pub writing_fine : (uid gid : ℕ) (dir name input : List ℕ) → RequestFine (writing uid gid dir name input)
writing_fine uid gid dir name input outcomes are = next_write_fine uid gid dir name input (file_write input outcomes) (write_fine input NotCreated outcomes are tt)
