-- How a file is read: GETATTR gives its size, and READs give its bytes, several at a time.
use Rattle.std.specs.Prelude.{◌≡◌, ℕ, ◌+◌, ◌-◌, ◌%◌, ◌<◌, ◌≤◌, Bool, not, ◌&&◌, ◌||◌, ◌==◌, nat_lt, min, if◌then◌else◌, ◌⊎◌, List, [], ◌∷◌, ◌++◌, length, map, take, fold, true, false, Option, Some, None, Result, Ok, Err}
use Rattle.std.specs.Io.KnownBytes.{Appends}
use Rattle.nr_xdr.specs.Items.{encodings}
use Rattle.nr_rpc.specs.declared.head.ReplyHead.{ReplyHead}
use Rattle.nr_rpc.specs.declared.head.ReplyHead.TheVariants as heads
use Rattle.nr_rpc.specs.Reading.{reply_of}
use Rattle.nr_nfs_base.specs.Attributes.{attributes_codec}
use Rattle.nr_nfs_base.specs.Codec.{optional}
use Rattle.nr_nfs_base.specs.Limits.{transfer_max}
use Rattle.nr_nfs_base.specs.Procedures.{nfs_procedure_number, nfs_program, nfs_version}
use Rattle.nr_nfs_base.specs.declared.attributes.Attributes.{Attributes}
use Rattle.nr_nfs_base.specs.declared.procedure.NfsProcedure.TheVariants as nfs
use Rattle.nr_nfs_args.specs.Bytes.{read_args_codec}
use Rattle.nr_nfs_res.specs.Bytes.{read_ok_codec}
use Rattle.nr_nfs_res.specs.declared.bytes.ReadOk.{ReadOk}
use Rattle.nr_outside.specs.Faults.{Rises}
use Rattle.nr_reduce.specs.declared.call.Call.{Call}
use Rattle.nr_reduce.specs.declared.call.Outcome.{Outcome}
use Rattle.nr_reduce.specs.declared.call.Outcome.TheVariants as outcomes
use Rattle.nr_shared.specs.declared.call_end.CallEnd.{CallEnd}
use Rattle.nr_client.specs.declared.client_end.ClientEnd.{ClientEnd}
use Rattle.nr_client.specs.declared.client_end.ClientEnd.TheVariants as client
use Rattle.nr_client.specs.Calls.{link_relations}
use Rattle.nr_client.specs.Following.{Next, UnansweredOver}
use Rattle.nr_client.specs.Following.Next.{Calls, Returns}
use Rattle.nr_client.specs.Listing.{no_progress}
use Rattle.nr_client.specs.Relations.{CallRelations}
use Rattle.nr_client.specs.Requests.{client_call, getattr_call, getattr_result, nfs_reads}
use Rattle.nr_client.specs.Views.{LinkView}

-- ---- READ (RFC 1813 section 3.3.6)

-- the offset of the results in a reply, after its head; 0 if it has none
abbrev pub results_offset_by : Result ReplyHead ℕ → ℕ
results_offset_by (Ok (heads.Accepted xid stat results_at)) = results_at
results_offset_by head = 0

abbrev pub results_offset : Outcome → ℕ
results_offset (outcomes.Reply payload) = results_offset_by (reply_of payload)
results_offset outcome = 0

-- the length of post_op_attr in bytes: a flag, and fattr3 if it is 1 (RFC 1813 section 2.5)
abbrev pub post_op_attr_len : Option Attributes → ℕ
post_op_attr_len None = 4
post_op_attr_len (Some attributes) = 88

-- a READ of `count` bytes at an offset
abbrev pub read_call : (uid gid : ℕ) → (file : List ℕ) → (offset count : ℕ) → Call
read_call uid gid file offset count =
    client_call nfs_program nfs_version (nfs_procedure_number nfs.Read) uid gid
    (encodings (read_args_codec.items (record { file = file; offset = offset; count = count })))

-- its data are more than the count, or they are no bytes and the file doesn't end there
abbrev pub is_bad_read : ℕ → ReadOk → Bool
is_bad_read count results = nat_lt count (length results.bytes) || (length results.bytes == 0 && not results.eof)

-- A reply to it whose data are such is bad: at the length of the data, which comes after the status, the attributes, the count and eof.
abbrev pub checked_read : (count results_at : ℕ) → Result ReadOk ClientEnd → Result ReadOk ClientEnd
checked_read count results_at (Ok results) =
    if is_bad_read count results then Err (client.BadReply (results_at + (12 + post_op_attr_len results.attributes)) no_progress) else Ok results
checked_read count results_at (Err end) = Err end

-- the result of a READ of `count` bytes, by its outcome
abbrev pub read_result : ℕ → Outcome → Result ReadOk ClientEnd
read_result count outcome = checked_read count (results_offset outcome) (nfs_reads read_ok_codec (optional attributes_codec) outcome)

-- ---- The bytes of a file

-- What the replies so far say of a file: nothing; its size, at which offset the next READ begins, and the bytes that came; or why no more
-- of it is read.
pub data FileRead : Type 0 where
  NothingKnown : FileRead
  SizeKnown : (size at : ℕ) → (bytes : List ℕ) → FileRead
  ReadEnds : (end : ClientEnd) → (bytes : List ℕ) → FileRead

-- A file is read in pieces of this many bytes, the last of which ends at the size. A READ asks for what is left of its piece.
abbrev pub piece_left : (size at : ℕ) → ℕ
piece_left size at = min (transfer_max - at % transfer_max) (size - at)

-- the next READ goes on after the data; if the file ends there, it begins the next piece
abbrev pub offset_after : (size at : ℕ) → ReadOk → ℕ
offset_after size at results = at + (if results.eof then piece_left size at else length results.bytes)

abbrev pub with_size : Result Attributes ClientEnd → FileRead
with_size (Ok attributes) = SizeKnown attributes.size 0 []
with_size (Err end) = ReadEnds end []

abbrev pub with_data : (size at : ℕ) → List ℕ → Result ReadOk ClientEnd → FileRead
with_data size at bytes (Ok results) = SizeKnown size (offset_after size at results) (bytes ++ results.bytes)
with_data size at bytes (Err end) = ReadEnds end bytes

-- what one more reply says
abbrev pub after_reply : FileRead → Outcome → FileRead
after_reply NothingKnown outcome = with_size (getattr_result outcome)
after_reply (SizeKnown size at bytes) outcome = with_data size at bytes (read_result (piece_left size at) outcome)
after_reply (ReadEnds end bytes) outcome = ReadEnds end bytes

abbrev pub file_read : List Outcome → FileRead
file_read outcomes = fold after_reply NothingKnown outcomes

-- the bytes that came in these replies
abbrev pub bytes_of : FileRead → List ℕ
bytes_of NothingKnown = []
bytes_of (SizeKnown size at bytes) = bytes
bytes_of (ReadEnds end bytes) = bytes

abbrev pub bytes_read : List Outcome → List ℕ
bytes_read outcomes = bytes_of (file_read outcomes)

-- What comes next: GETATTR; then READs, up to the size.
abbrev pub next_read : (uid gid : ℕ) → (file : List ℕ) → FileRead → Next (Unit {0})
next_read uid gid file NothingKnown = Calls (getattr_call uid gid file)
next_read uid gid file (SizeKnown size at bytes) =
    if nat_lt at size then Calls (read_call uid gid file at (piece_left size at)) else Returns (Ok tt)
next_read uid gid file (ReadEnds end bytes) = Returns (Err end)

abbrev pub reading : (uid gid : ℕ) → (file : List ℕ) → List Outcome → Next (Unit {0})
reading uid gid file outcomes = next_read uid gid file (file_read outcomes)

-- ---- READs that are outstanding

-- a READ that is outstanding: its xid, and its call
pub record OpenRead : Type 0 where
  pub xid : ℕ
  pub call : Call

abbrev pub xids_of : List OpenRead → List ℕ
xids_of reads = map (λ (read : OpenRead). read.xid) reads

-- A file that is being read: the replies, in order of offset; the READs that are outstanding, in that order too; and the link.
pub record ReadingOver (V : Type 0) : Type 0 where
  pub outcomes : List Outcome
  pub waiting : List OpenRead
  pub link : V

abbrev pub starts_at : {V : Type 0} → V → ReadingOver V
starts_at v = record { outcomes = []; waiting = []; link = v }

-- where the piece begins that comes after these READs, each of what is left of its piece
abbrev pub offset_ahead : (size at : ℕ) → List OpenRead → ℕ
offset_ahead size at [] = at
offset_ahead size at (read ∷ reads) = offset_ahead size (at + piece_left size at) reads

-- the replies reach the beginning of a piece
abbrev pub is_at_piece : FileRead → Bool
is_at_piece NothingKnown = false
is_at_piece (SizeKnown size at bytes) = at % transfer_max == 0
is_at_piece (ReadEnds end bytes) = false

-- the READ of the first piece, before the size, of which none is outstanding
abbrev pub read_ahead : (uid gid : ℕ) → (file : List ℕ) → FileRead → List OpenRead → Option Call
read_ahead uid gid file NothingKnown reads = None
read_ahead uid gid file (SizeKnown size at bytes) reads =
    let next = offset_ahead size at reads in
    if nat_lt next size then Some (read_call uid gid file next (piece_left size next)) else None
read_ahead uid gid file (ReadEnds end bytes) reads = None

-- GETATTR, and a READ of the rest of a piece of which a READ gave less than it asked for, are made alone: no other call is submitted until the
-- answer has come.
abbrev pub IsMadeAlone : {V : Type 0} → (uid gid : ℕ) → (file : List ℕ) → ReadingOver V → Call → Type 0
IsMadeAlone uid gid file s call = (reading uid gid file s.outcomes ≡ Calls call) × (is_at_piece (file_read s.outcomes) ≡ false)

-- the most READs of a file that are outstanding
abbrev pub reads_max : ℕ
reads_max = 2

-- The READ of a piece is submitted while fewer than the maximum are outstanding, if a call may be submitted. If none is outstanding, it waits for that.
abbrev pub IsMadeAheadOver : {V : Type 0} → CallRelations V → (uid gid : ℕ) → (file : List ℕ) → ReadingOver V → Call → Type 0
IsMadeAheadOver rel uid gid file s call =
    (is_at_piece (file_read s.outcomes) ≡ true) × ((read_ahead uid gid file (file_read s.outcomes) s.waiting ≡ Some call) × ((s.waiting ≡ []) ⊎ (rel.has_credit s.link × (length s.waiting < reads_max))))

-- no call may be submitted, or a READ of each piece up to the size is outstanding, or the maximum of READs is
abbrev pub NoneIsMadeAheadOver : {V : Type 0} → CallRelations V → (uid gid : ℕ) → (file : List ℕ) → ReadingOver V → Type 0
NoneIsMadeAheadOver rel uid gid file s = (read_ahead uid gid file (file_read s.outcomes) s.waiting ≡ None) ⊎ (rel.lacks_credit s.link ⊎ (reads_max ≤ length s.waiting))

-- A step: a call was made alone; or a READ was submitted ahead; or, when none is, the oldest READ was answered, which is the one that follows from
-- the replies before; or the link was asked whether a call can be submitted.
pub data ReadStepOver {V : Type 0} (rel : CallRelations V) (uid gid : ℕ) (file : List ℕ) (s t : ReadingOver V) : Type 0 where
  MakesAlone : (call : Call) (outcome : Outcome) → IsMadeAlone uid gid file s call → rel.answers s.link t.link call outcome
      → t.outcomes ≡ s.outcomes ++ outcome ∷ [] → t.waiting ≡ s.waiting → ReadStepOver rel uid gid file s t
  AsksAhead : (read : OpenRead) → IsMadeAheadOver rel uid gid file s read.call → rel.submits s.link t.link read.call read.xid
      → t.outcomes ≡ s.outcomes → t.waiting ≡ s.waiting ++ read ∷ [] → ReadStepOver rel uid gid file s t
  TakesOldest : (read : OpenRead) (outcome : Outcome) → NoneIsMadeAheadOver rel uid gid file s → reading uid gid file s.outcomes ≡ Calls read.call
      → rel.completes read.xid outcome s.link t.link → t.outcomes ≡ s.outcomes ++ outcome ∷ [] → s.waiting ≡ read ∷ t.waiting → ReadStepOver rel uid gid file s t
  Looks : rel.looks s.link t.link → t.outcomes ≡ s.outcomes → t.waiting ≡ s.waiting → ReadStepOver rel uid gid file s t

-- Steps lead from one state to another, by these states between, the last one first.
abbrev pub LeadsOver : {V : Type 0} → CallRelations V → (uid gid : ℕ) → (file : List ℕ) → (first : ReadingOver V) → List (ReadingOver V) → (last : ReadingOver V) → Type 0
LeadsOver rel uid gid file first [] last = last ≡ first
LeadsOver rel uid gid file first (s ∷ states) last = ReadStepOver rel uid gid file s last × LeadsOver rel uid gid file first states s

-- ---- The output

-- The output took the bytes that came in the replies; or memory ran out for the last reply, and it took those that came before.
abbrev pub TakesRead : Result (Unit {0}) ClientEnd → List Outcome → (taken taken' : Option (List ℕ)) → Type 0
TakesRead given outcomes taken taken' =
    Appends taken taken' (bytes_read outcomes)
    ⊎ ((given ≡ Err client.Memory) × ((before : List Outcome) × (last : Outcome) × ((outcomes ≡ before ++ last ∷ []) × Appends taken taken' (bytes_read before))))

-- It failed: it took all bytes but the last ones of the last reply, at least one.
abbrev pub TakesPart : List Outcome → (taken taken' : Option (List ℕ)) → Type 0
TakesPart outcomes taken taken' =
    (before : List Outcome) × (last : Outcome) × (n : ℕ) ×
    ((outcomes ≡ before ++ last ∷ []) × ((length (bytes_read before) ≤ n) × ((n < length (bytes_read outcomes)) × Appends taken taken' (take n (bytes_read outcomes)))))

-- ---- The end

-- It ends by these replies: with its result, or memory ran out; or the output failed.
abbrev pub EndsAtReply : (uid gid : ℕ) → (file : List ℕ) → List Outcome → (taken taken' : Option (List ℕ)) → Result (Unit {0}) ClientEnd → Type 0
EndsAtReply uid gid file outcomes taken taken' given =
    (((given ≡ Err client.Memory) ⊎ (reading uid gid file outcomes ≡ Returns given)) × TakesRead given outcomes taken taken')
    ⊎ ((given ≡ Err client.OutputFault) × TakesPart outcomes taken taken')

-- How it ends after these replies, with these READs still outstanding: with its result, or memory ran out; or the output failed; or the next call
-- has no answer, or could not be submitted; or the oldest READ has no answer, and is forgotten.
pub data EndsReadingOver {V : Type 0} (rel : CallRelations V) (uid gid : ℕ) (file : List ℕ) (s : ReadingOver V) (left : List OpenRead) (w : V) (taken taken' : Option (List ℕ)) (given : Result (Unit {0}) ClientEnd) : Type 0 where
  EndsByReplies : w ≡ s.link → (given ≡ Err client.Memory) ⊎ (reading uid gid file s.outcomes ≡ Returns given)
      → left ≡ s.waiting → TakesRead given s.outcomes taken taken' → EndsReadingOver rel uid gid file s left w taken taken' given
  OutputFails : given ≡ Err client.OutputFault → w ≡ s.link → left ≡ s.waiting → TakesPart s.outcomes taken taken'
      → EndsReadingOver rel uid gid file s left w taken taken' given
  NotAnswered : (call : Call) (end : ClientEnd) → IsMadeAlone uid gid file s call → given ≡ Err end → UnansweredOver rel call s.link w end → left ≡ s.waiting
      → TakesRead given s.outcomes taken taken' → EndsReadingOver rel uid gid file s left w taken taken' given
  NotSubmitted : (call : Call) (end : CallEnd) → IsMadeAheadOver rel uid gid file s call → given ≡ Err (client.Link end)
      → rel.refuses s.link w call end → left ≡ s.waiting
      → TakesRead given s.outcomes taken taken' → EndsReadingOver rel uid gid file s left w taken taken' given
  OldestForgotten : (read : OpenRead) (end : CallEnd) → NoneIsMadeAheadOver rel uid gid file s → reading uid gid file s.outcomes ≡ Calls read.call → given ≡ Err (client.Link end)
      → rel.forgets read.xid end s.link w → s.waiting ≡ read ∷ left
      → TakesRead given s.outcomes taken taken' → EndsReadingOver rel uid gid file s left w taken taken' given

-- these calls are forgotten, one after another
abbrev pub ForgetsCallsOver : {V : Type 0} → CallRelations V → List ℕ → (v w : V) → Type 0
ForgetsCallsOver rel [] v w = w ≡ v
ForgetsCallsOver {V} rel (xid ∷ xids) v w = (mid : V) × (rel.forgets_call xid v mid × ForgetsCallsOver rel xids mid w)

-- A file was read into an output: its calls were made, several at a time, and the bytes of their replies were written in order. At an end
-- the READs that are still outstanding are forgotten.
pub record ReadsFileOver {V : Type 0} (rel : CallRelations V) (uid gid : ℕ) (file : List ℕ) (v w : V) (taken taken' : Option (List ℕ)) (given : Result (Unit {0}) ClientEnd) : Type 0 where
  pub between : List (ReadingOver V)
  pub last : ReadingOver V
  pub made : LeadsOver rel uid gid file (starts_at v) between last
  pub left : List OpenRead
  pub ended : V
  pub ends : EndsReadingOver rel uid gid file last left ended taken taken' given
  pub forgets : ForgetsCallsOver rel (xids_of left) ended w

-- ---- Over a link that one caller has

abbrev pub ReadingAt : Type 0
ReadingAt = ReadingOver LinkView

abbrev pub ReadStep : (uid gid : ℕ) (file : List ℕ) (s t : ReadingAt) → Type 0
ReadStep uid gid file s t = ReadStepOver link_relations uid gid file s t

abbrev pub LeadsBy : (uid gid : ℕ) (file : List ℕ) (first : ReadingAt) → List ReadingAt → (last : ReadingAt) → Type 0
LeadsBy uid gid file first states last = LeadsOver link_relations uid gid file first states last

abbrev pub EndsReading : (uid gid : ℕ) (file : List ℕ) (s : ReadingAt) → List OpenRead → LinkView → (taken taken' : Option (List ℕ)) → Result (Unit {0}) ClientEnd → Type 0
EndsReading uid gid file s left w taken taken' given = EndsReadingOver link_relations uid gid file s left w taken taken' given

abbrev pub ForgetsCalls : List ℕ → (v w : LinkView) → Type 0
ForgetsCalls xids v w = ForgetsCallsOver link_relations xids v w

abbrev pub ReadsFile : (uid gid : ℕ) (file : List ℕ) (v w : LinkView) (taken taken' : Option (List ℕ)) → Result (Unit {0}) ClientEnd → Type 0
ReadsFile uid gid file v w taken taken' given = ReadsFileOver link_relations uid gid file v w taken taken' given

-- ---- Fault counts

-- the fault count of the output rises at OutputFault alone, and that of an input at InputFault alone
abbrev pub OutputFaults : {A : Type 0} → Result A ClientEnd → ℕ → ℕ → Type 0
OutputFaults (Err client.OutputFault) before after = Rises before after
OutputFaults given before after = after ≡ before

abbrev pub InputFaults : {A : Type 0} → Result A ClientEnd → ℕ → ℕ → Type 0
InputFaults (Err client.InputFault) before after = Rises before after
InputFaults given before after = after ≡ before
