-- How a file is written: CREATE makes it, and WRITEs give it the bytes of an input, in order.
use Rattle.std.specs.Prelude.{◌≡◌, ℕ, ◌+◌, ◌<◌, ◌≤◌, ◌||◌, ◌==◌, nat_lt, ⊤, if◌then◌else◌, ◌⊎◌, List, [], ◌++◌, length, take, drop, fold, Option, Some, None, IfSome, Result, Ok, Err}
use Rattle.nr_xdr.specs.Items.{encodings}
use Rattle.nr_nfs_base.specs.Limits.{transfer_max}
use Rattle.nr_nfs_base.specs.Procedures.{nfs_procedure_number, nfs_program, nfs_version}
use Rattle.nr_nfs_base.specs.WeakCache.{wcc_data_codec}
use Rattle.nr_nfs_base.specs.declared.procedure.NfsProcedure.TheVariants as nfs
use Rattle.nr_nfs_base.specs.declared.set_attributes.SetAttributes.{SetAttributes}
use Rattle.nr_nfs_base.specs.declared.set_attributes.SetTime.TheVariants as times
use Rattle.nr_nfs_base.specs.declared.stable.StableHow.TheVariants as stable
use Rattle.nr_nfs_base.specs.declared.weak_cache.WccAttributes.{WccAttributes}
use Rattle.nr_nfs_base.specs.declared.weak_cache.WccData.{WccData}
use Rattle.nr_nfs_args.specs.Bytes.{write_args_codec}
use Rattle.nr_nfs_args.specs.Create.{create_args_codec}
use Rattle.nr_nfs_args.specs.declared.create.CreateHow.TheVariants as hows
use Rattle.nr_nfs_res.specs.Bytes.{write_ok_codec}
use Rattle.nr_nfs_res.specs.declared.bytes.WriteOk.{WriteOk}
use Rattle.nr_nfs_res.specs.declared.create.CreateOk.{CreateOk}
use Rattle.nr_outside.specs.Whole.{input_max}
use Rattle.nr_outside.specs.Content.{HandsOut}
use Rattle.nr_reduce.specs.declared.call.Call.{Call}
use Rattle.nr_reduce.specs.declared.call.Outcome.{Outcome}
use Rattle.nr_client.specs.declared.client_end.ClientEnd.{ClientEnd}
use Rattle.nr_client.specs.declared.client_end.ClientEnd.TheVariants as client
use Rattle.nr_client.specs.Calls.{link_relations}
use Rattle.nr_client.specs.Following.{FollowsOver, MakesCallsOver, Next}
use Rattle.nr_client.specs.Following.Next.{Calls, Returns}
use Rattle.nr_client.specs.Listing.{no_progress}
use Rattle.nr_client.specs.Reading.{post_op_attr_len, results_offset}
use Rattle.nr_client.specs.Relations.{CallRelations}
use Rattle.nr_client.specs.Requests.{client_call, create_result, nfs_reads}
use Rattle.nr_client.specs.Views.{LinkView}

-- ---- CREATE (RFC 1813 section 3.3.8)

-- a new file: mode 0644 (in octal), no bytes, and no other attribute
abbrev pub new_file : SetAttributes
new_file = record { mode = Some 420; uid = None; gid = None; size = Some 0; atime = times.Leave; mtime = times.Leave }

-- CREATE of a name in a directory, UNCHECKED: a file that exists loses its bytes
abbrev pub create_call : (uid gid : ℕ) → (dir name : List ℕ) → Call
create_call uid gid dir name =
    client_call nfs_program nfs_version (nfs_procedure_number nfs.Create) uid gid
    (encodings (create_args_codec.items (record { dir = dir; name = name; how = hows.Unchecked new_file })))

-- A reply without a handle is bad: at the flag of the handle, which comes after the status.
abbrev pub handle_or : ℕ → Option (List ℕ) → Result (List ℕ) ClientEnd
handle_or results_at (Some handle) = Ok handle
handle_or results_at None = Err (client.BadReply (results_at + 4) no_progress)

abbrev pub created_handle : ℕ → Result CreateOk ClientEnd → Result (List ℕ) ClientEnd
created_handle results_at (Ok results) = handle_or results_at results.object
created_handle results_at (Err end) = Err end

-- the handle of the file, by the outcome of CREATE
abbrev pub created_file : Outcome → Result (List ℕ) ClientEnd
created_file outcome = created_handle (results_offset outcome) (create_result outcome)

-- ---- WRITE (RFC 1813 section 3.3.7)

-- a WRITE of these bytes at an offset, FILE_SYNC
abbrev pub write_call : (uid gid : ℕ) → (file : List ℕ) → ℕ → List ℕ → Call
write_call uid gid file offset bytes =
    client_call nfs_program nfs_version (nfs_procedure_number nfs.Write) uid gid
    (encodings (write_args_codec.items (record { file = file; offset = offset; count = length bytes; stable = stable.FileSync; bytes = bytes })))

-- the lengths of pre_op_attr and wcc_data in bytes: a flag, and wcc_attr if it is 1; this, and post_op_attr (RFC 1813 section 2.5)
abbrev pub pre_op_attr_len : Option WccAttributes → ℕ
pre_op_attr_len None = 4
pre_op_attr_len (Some attributes) = 28

abbrev pub wcc_data_len : WccData → ℕ
wcc_data_len wcc = pre_op_attr_len wcc.before + post_op_attr_len wcc.after

-- A reply whose count is 0, or more than was sent, is bad: at the count, which comes after the status and wcc_data.
abbrev pub checked_write : (sent results_at : ℕ) → Result WriteOk ClientEnd → Result ℕ ClientEnd
checked_write sent results_at (Ok results) =
    if results.count == 0 || nat_lt sent results.count then Err (client.BadReply (results_at + (4 + wcc_data_len results.wcc)) no_progress) else Ok results.count
checked_write sent results_at (Err end) = Err end

-- how many bytes were written, by the outcome of a WRITE of `sent` bytes
abbrev pub write_result : ℕ → Outcome → Result ℕ ClientEnd
write_result sent outcome = checked_write sent (results_offset outcome) (nfs_reads write_ok_codec wcc_data_codec outcome)

-- ---- The bytes of an input

-- What the replies so far say: nothing; the handle of the file, and how many bytes were written; or why no more is written.
pub data FileWrite : Type 0 where
  NotCreated : FileWrite
  Created : (file : List ℕ) → (at : ℕ) → FileWrite
  WriteEnds : (end : ClientEnd) → FileWrite

-- what a WRITE at this offset sends: the next bytes of the input, up to its maximum, as many as one WRITE moves
abbrev pub piece_at : List ℕ → ℕ → List ℕ
piece_at input at = take transfer_max (drop at (take input_max input))

abbrev pub with_handle : Result (List ℕ) ClientEnd → FileWrite
with_handle (Ok file) = Created file 0
with_handle (Err end) = WriteEnds end

-- the next WRITE goes on after the count that was answered
abbrev pub with_count : List ℕ → ℕ → Result ℕ ClientEnd → FileWrite
with_count file at (Ok count) = Created file (at + count)
with_count file at (Err end) = WriteEnds end

abbrev pub after_write_reply : List ℕ → FileWrite → Outcome → FileWrite
after_write_reply input NotCreated outcome = with_handle (created_file outcome)
after_write_reply input (Created file at) outcome = with_count file at (write_result (length (piece_at input at)) outcome)
after_write_reply input (WriteEnds end) outcome = WriteEnds end

abbrev pub file_write : List ℕ → List Outcome → FileWrite
file_write input outcomes = fold (after_write_reply input) NotCreated outcomes

-- all was written, of an input that is within the maximum
abbrev pub write_end : List ℕ → Result (Unit {0}) ClientEnd
write_end input = if nat_lt input_max (length input) then Err (client.Budget input_max) else Ok tt

-- What comes next: CREATE; then WRITEs, up to the end of the input or its maximum.
abbrev pub next_write : (uid gid : ℕ) → (dir name input : List ℕ) → FileWrite → Next (Unit {0})
next_write uid gid dir name input NotCreated = Calls (create_call uid gid dir name)
next_write uid gid dir name input (Created file at) =
    if nat_lt at (length (take input_max input)) then Calls (write_call uid gid file at (piece_at input at)) else Returns (write_end input)
next_write uid gid dir name input (WriteEnds end) = Returns (Err end)

abbrev pub writing : (uid gid : ℕ) → (dir name input : List ℕ) → List Outcome → Next (Unit {0})
writing uid gid dir name input outcomes = next_write uid gid dir name input (file_write input outcomes)

-- what was read of the input: all of it if all was written, and more than the maximum if that is why it ends
abbrev pub IsRead : Result (Unit {0}) ClientEnd → (handed rest : List ℕ) → Type 0
IsRead (Ok done) handed rest = rest ≡ []
IsRead (Err (client.Budget count)) handed rest = input_max < length handed
IsRead (Err end) handed rest = ⊤

-- By these replies an input of which these bytes were read was not read too far: at most one piece beyond the bytes that were written, and the replies
-- didn't end the request.
abbrev pub IsReadAhead : FileWrite → List ℕ → Type 0
IsReadAhead NotCreated handed = length handed ≤ transfer_max
IsReadAhead (Created file at) handed = length handed ≤ at + transfer_max
IsReadAhead (WriteEnds end) handed = ⊥

-- How the calls end by which a file is written from an input, of which these bytes were read and these not. They follow from all its bytes and the
-- replies, and by some first of the replies the bytes were not read too far. Or the first calls were made and answered, and then a read failed. When
-- each read of the input was made, between which calls, isn't said.
pub data EndsWritingOver {V : Type 0} (rel : CallRelations V) (uid gid : ℕ) (dir name handed rest : List ℕ) (v w : V) (result : Result (Unit {0}) ClientEnd) : Type 0 where
  FollowsInput : (follows : FollowsOver rel (writing uid gid dir name (handed ++ rest)) v w result) → (count : ℕ)
      → IsReadAhead (file_write (handed ++ rest) (take count follows.outcomes)) handed → EndsWritingOver rel uid gid dir name handed rest v w result
  InputFails : (outcomes : List Outcome) → result ≡ Err client.InputFault → MakesCallsOver rel (writing uid gid dir name (handed ++ rest)) outcomes v w
      → IsReadAhead (file_write (handed ++ rest) outcomes) handed → EndsWritingOver rel uid gid dir name handed rest v w result

-- A file was written from an input, which is all the bytes that were read and the rest. If anything was done on the link, what the first WRITE sends
-- was read, before or after it.
pub record WritesFileOver {V : Type 0} (rel : CallRelations V) (uid gid : ℕ) (dir name : List ℕ) (v w : V) (left given left' given' : Option (List ℕ)) (result : Result (Unit {0}) ClientEnd) : Type 0 where
  pub handed : List ℕ
  pub rest : List ℕ
  pub hands_out : HandsOut left given left' given' handed
  pub is_rest : IfSome left' (λ known. rest ≡ known)
  pub is_read : IsRead result handed rest
  pub begins : (w ≡ v) ⊎ (length (piece_at (handed ++ rest) 0) ≤ length handed)
  pub calls : EndsWritingOver rel uid gid dir name handed rest v w result

-- ---- Over a link that one caller has

abbrev pub EndsWriting : (uid gid : ℕ) (dir name handed rest : List ℕ) (v w : LinkView) → Result (Unit {0}) ClientEnd → Type 0
EndsWriting uid gid dir name handed rest v w result = EndsWritingOver link_relations uid gid dir name handed rest v w result

abbrev pub WritesFile : (uid gid : ℕ) (dir name : List ℕ) (v w : LinkView) (left given left' given' : Option (List ℕ)) → Result (Unit {0}) ClientEnd → Type 0
WritesFile uid gid dir name v w left given left' given' result = WritesFileOver link_relations uid gid dir name v w left given left' given' result

-- ---- A read of the input that failed

-- Nothing was read of a source once a read of it had failed: while its fault count stood still, it came to what it has at last.
pub record IsStopped {N : Type 0} (faults : N → ℕ) (left given : N → Option (List ℕ)) (before after : N) : Type 0 where
  pub failed : N
  pub unrisen : faults failed ≡ faults before
  pub nothing : HandsOut (left failed) (given failed) (left after) (given after) []

-- so it is of an input that ends a request
abbrev pub StopsAtFault : {N : Type 0} → (faults : N → ℕ) → (left given : N → Option (List ℕ)) → Result (Unit {0}) ClientEnd → (before after : N) → Type 0
StopsAtFault faults left given (Err client.InputFault) before after = IsStopped faults left given before after
StopsAtFault faults left given result before after = ⊤
