-- A file that is being read, by the tickets of the READs that are outstanding.
use Rattle.std.specs.Prelude.{◌≡◌, ◌≢◌, ⊤, ℕ, ◌+◌, ◌%◌, ◌<◌, ◌≤◌, ◌⊎◌, true, if◌then◌else◌, List, [], ◌∷◌, length, take, Option, is_some, Result, Ok, Err}
use Rattle.std.specs.List.{AllByRecursion}
use Rattle.std.specs.Io.KnownBytes.{Appends}
use Rattle.nr_nfs_base.specs.Limits.{transfer_max}
use Rattle.nr_nfs_res.specs.declared.bytes.ReadOk.{ReadOk}
use Rattle.nr_reduce.specs.declared.call.Outcome.{Outcome}
use Rattle.nr_client.specs.declared.client_end.ClientEnd.{ClientEnd}
use Rattle.nr_client.specs.declared.client_end.ClientEnd.TheVariants as client
use Rattle.nr_client.specs.Reading.{EndsReadingOver, LeadsOver, OpenRead, ReadingOver, file_read, piece_left, read_call, read_result, reads_max, xids_of}
use Rattle.nr_client.specs.Reading.FileRead.{SizeKnown}
use Rattle.nr_client.specs.Relations.{CallRelations}
use Rattle.nr_client.specs.Results.{Gives}

-- calls of all these xids, which differ, are open
abbrev pub AreOpen : {V : Type 0} → CallRelations V → V → List ℕ → Type 0
AreOpen rel v [] = ⊤
AreOpen rel v (xid ∷ xids) = (is_some (rel.open_call v xid) ≡ true) × (AllByRecursion (λ x. x ≢ xid) xids × AreOpen rel v xids)

-- the READs of the pieces from an offset on, under these xids, and the offset after these
abbrev pub reads_from : (uid gid : ℕ) → (file : List ℕ) → (size from : ℕ) → List ℕ → List OpenRead
reads_from uid gid file size from [] = []
reads_from uid gid file size from (xid ∷ xids) =
    record { xid = xid; call = read_call uid gid file from (piece_left size from) } ∷ reads_from uid gid file size (from + piece_left size from) xids

abbrev pub next_offset : (size from : ℕ) → List ℕ → ℕ
next_offset size from [] = from
next_offset size from (xid ∷ xids) = next_offset size (from + piece_left size from) xids

-- the replies reach the beginning of a piece, or the size
abbrev pub IsAtPiece : (size at : ℕ) → Type 0
IsAtPiece size at = (at % transfer_max ≡ 0) ⊎ (size ≤ at)

-- the replies reach the end of a piece, or are within it
abbrev pub IsInPiece : (size at end : ℕ) → Type 0
IsInPiece size at end = (at ≡ end) ⊎ ((at < end) × ((at % transfer_max ≢ 0) × (at + piece_left size at ≡ end)))

-- READs of the pieces from an offset on are outstanding, under these xids, and the next one begins here
pub record ReadsAhead {V : Type 0} (rel : CallRelations V) (v : V) (size at next : ℕ) (xids : List ℕ) : Type 0 where
  pub piece : IsAtPiece size at
  pub next_is : next ≡ next_offset size at xids
  pub open_all : AreOpen rel v xids

-- the next piece is asked for; or it is not, since all are, or no call may be submitted, or the maximum of READs is outstanding
abbrev pub MayAsk : {V : Type 0} → CallRelations V → (size next : ℕ) → List ℕ → V → Type 0
MayAsk rel size next xids v = (next < size) × ((xids ≡ []) ⊎ (rel.has_credit v × (length xids < reads_max)))

abbrev pub IsFull : {V : Type 0} → CallRelations V → (size next : ℕ) → List ℕ → V → Type 0
IsFull rel size next xids v = (size ≤ next) ⊎ ((0 < length xids) × (rel.lacks_credit v ⊎ (reads_max ≤ length xids)))

-- the size is known, these bytes came and were written, and READs are outstanding
pub record ReadSoFar {V : Type 0} (rel : CallRelations V) (uid gid : ℕ) (file : List ℕ) (size : ℕ) (first : ReadingOver V) (taken : Option (List ℕ)) (at from : ℕ) (xids : List ℕ) (b : V) (taken' : Option (List ℕ)) : Type 0 where
  pub between : List (ReadingOver V)
  pub outcomes : List Outcome
  pub bytes : List ℕ
  pub made : LeadsOver rel uid gid file first between (record { outcomes = outcomes; waiting = reads_from uid gid file size from xids; link = b })
  pub state : file_read outcomes ≡ SizeKnown size at bytes
  pub appends : Appends taken taken' bytes

-- it goes on so
abbrev pub ReadsOn : {V : Type 0} → CallRelations V → (uid gid : ℕ) → (file : List ℕ) → (size at from : ℕ) → List ℕ → (at' from' : ℕ) → List ℕ → (b b' : V) → (t t' : Option (List ℕ)) → Type 0
ReadsOn {V} rel uid gid file size at from xids at' from' xids' b b' t t' =
    (first : ReadingOver V) (taken : Option (List ℕ)) → ReadSoFar rel uid gid file size first taken at from xids b t → ReadSoFar rel uid gid file size first taken at' from' xids' b' t'

-- it has ended, and READs under these xids are still outstanding
pub record HasEnded {V : Type 0} (rel : CallRelations V) (uid gid : ℕ) (file : List ℕ) (first : ReadingOver V) (taken : Option (List ℕ)) (xids : List ℕ) (b : V) (taken' : Option (List ℕ)) (given : Result (Unit {0}) ClientEnd) : Type 0 where
  pub between : List (ReadingOver V)
  pub last : ReadingOver V
  pub made : LeadsOver rel uid gid file first between last
  pub left : List OpenRead
  pub same : xids_of left ≡ xids
  pub ends : EndsReadingOver rel uid gid file last left b taken taken' given

abbrev pub EndsSo : {V : Type 0} → CallRelations V → (uid gid : ℕ) → (file : List ℕ) → (size at from : ℕ) → (xids xids' : List ℕ) → (b b' : V) → (t t' : Option (List ℕ)) → Result (Unit {0}) ClientEnd → Type 0
EndsSo {V} rel uid gid file size at from xids xids' b b' t t' given =
    (first : ReadingOver V) (taken : Option (List ℕ)) → ReadSoFar rel uid gid file size first taken at from xids b t → HasEnded rel uid gid file first taken xids' b' t' given

-- The data of a reply to a READ of `count` bytes were written, and the next READ begins so many bytes further; or there are none, or the output
-- failed.
abbrev pub GivesData : ℕ → Outcome → ℕ → (t t' : Option (List ℕ)) → Type 0
GivesData count outcome step t t' =
    (results : ReadOk) × ((read_result count outcome ≡ Ok results) × ((step ≡ (if results.eof then count else length results.bytes)) × Appends t t' results.bytes))

abbrev pub GivesNone : ℕ → Outcome → ClientEnd → (t t' : Option (List ℕ)) → Type 0
GivesNone count outcome end t t' =
    (Gives {A = ReadOk} (Err end) (read_result count outcome) × Appends t t' [])
    ⊎ ((end ≡ client.OutputFault) × ((results : ReadOk) × (n : ℕ) × ((read_result count outcome ≡ Ok results) × ((n < length results.bytes) × Appends t t' (take n results.bytes)))))
