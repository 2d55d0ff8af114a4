-- What a `Records` keeps, and the stream that it stands for.
use Rattle.std.specs.Prelude.{◌≡◌, ℕ, ◌+◌, ◌^◌, ◌<◌, ◌≤◌, Bool, List, [], ◌∷◌, ◌++◌, length, drop, Option, None, Some, ◌⊎◌}
use Rattle.std.specs.List.{concat, AllByRecursion}
use mathlib.Core.Option.{some}
use lib.ListN.{get_elem?}
use Rattle.nr_xdr.specs.Item.{IsBytes}
use Rattle.nr_record.specs.declared.fault.RecordFault.{RecordFault}
use Rattle.nr_record.specs.declared.fault.RecordFault.TheVariants.{Bad, Memory}
use Rattle.nr_record.specs.declared.records.Records.{Records}
use Rattle.nr_record.specs.declared.records.WaitingRecord.{WaitingRecord}
use Rattle.nr_record.specs.Constants.{RECORD_MAX, HEADER_LEN, REASON_RECORD}
use Rattle.nr_record.specs.Records.{IsAboveAt, header, fragments, Cut, content, encoding, encodings}

-- `start` is the offset of the record that is begun, `count` that of the next byte, `payload` what came of the record that is begun,
-- `head` the bytes of a header that is begun, `left` how many bytes of a fragment are missing, `last` whether it is the last
pub record RecordsState : Type 0 where
  pub waiting : List WaitingRecord
  pub start : ℕ
  pub count : ℕ
  pub payload : List ℕ
  pub head : List ℕ
  pub last : Bool
  pub left : ℕ
  pub fault : Option RecordFault

abbrev pub kept : Records → RecordsState
kept r = record { waiting = r.waiting.items; start = r.start; count = r.count; payload = r.payload.items; head = r.head.items; last = r.last; left = r.left; fault = r.fault }

-- memory ran out
abbrev pub IsOutOfMemory : RecordsState → Type 0
IsOutOfMemory k = k.fault ≡ Some Memory

-- no record that waits is lost or changed between these two moments: more may wait after them
abbrev pub KeepsWaiting : RecordsState → RecordsState → Type 0
KeepsWaiting k l = (more : List WaitingRecord) × (l.waiting ≡ k.waiting ++ more)

-- x is at this index of the list
abbrev pub IsAt : List (List ℕ) → ℕ → List ℕ → Type 0
IsAt xs k x = get_elem? xs k ≡ some x

-- the record is within the limit
abbrev pub IsInLimit : List ℕ → Type 0
IsInLimit bytes = length bytes ≤ RECORD_MAX

abbrev pub IsContentInLimit : Cut → Type 0
IsContentInLimit c = IsInLimit (content c)

-- the records of these encodings, the first of them at this offset
abbrev pub waiting_from : ℕ → List Cut → List WaitingRecord
waiting_from at [] = []
waiting_from at (c ∷ cuts) = record { at = at; bytes = content c } ∷ waiting_from (at + length (encoding c)) cuts

-- a header is begun, or nothing
pub record InHeader (payload head : List ℕ) (left : ℕ) (begun : List (List ℕ)) (partial : List ℕ) : Type 0 where
  pub none_left : left ≡ 0
  pub short : length head < HEADER_LEN
  pub bytes : IsBytes head
  pub partial_is : partial ≡ head
  pub payload_is : payload ≡ concat begun

-- a fragment has its header, and some of its payload
pub record InFragment (payload head : List ℕ) (last : Bool) (left : ℕ) (begun : List (List ℕ)) (partial : List ℕ) : Type 0 where
  pub came : List ℕ
  pub no_head : head ≡ []
  pub partial_is : partial ≡ header last (length came + left) ++ came
  pub payload_is : payload ≡ concat begun ++ came
  pub within : length payload + left ≤ RECORD_MAX

-- less than a fragment is begun
abbrev pub IsLess : RecordsState → List (List ℕ) → List ℕ → Type 0
IsLess k begun partial =
    InHeader k.payload k.head k.left begun partial ⊎ ((0 < k.left) × InFragment k.payload k.head k.last k.left begun partial)

-- a header is there, whose length takes its record above the limit
pub record IsAbove (begun : List (List ℕ)) (partial : List ℕ) : Type 0 where
  pub last : Bool
  pub len : ℕ
  pub short : len < 2 ^ 31
  pub partial_is : partial ≡ header last len
  pub above : RECORD_MAX < length (concat begun) + len

-- what is kept of the record that is begun, by the fault. Without one all bytes were read.
abbrev pub IsState : Option RecordFault → RecordsState → List (List ℕ) → List ℕ → List ℕ → ℕ → Type 0
IsState None k begun partial unread place = (unread ≡ []) × IsLess k begun partial
IsState (Some Memory) k begun partial unread place = IsLess k begun partial
IsState (Some (Bad at reason)) k begun partial unread place = (at ≡ place) × (reason ≡ REASON_RECORD) × IsAbove begun partial

-- The stream is the encodings of the records, the fragments of a record that is begun, less than a fragment, and what was not read.
-- `taken` of the records are no longer kept.
pub record Stands (State : List (List ℕ) → List ℕ → List ℕ → ℕ → Type 0) (k : RecordsState) (stream : List ℕ) (taken : ℕ) : Type 0 where
  pub cuts : List Cut
  pub begun : List (List ℕ)
  pub partial : List ℕ
  pub unread : List ℕ
  pub within : AllByRecursion IsContentInLimit cuts
  pub begun_within : length (concat begun) ≤ RECORD_MAX
  pub stream_is : stream ≡ (encodings cuts ++ (fragments begun ++ partial)) ++ unread
  pub taken_some : taken ≤ length cuts
  pub waiting_is : k.waiting ≡ drop taken (waiting_from 0 cuts)
  pub start_is : k.start ≡ length (encodings cuts)
  pub count_is : k.count ≡ length (encodings cuts ++ (fragments begun ++ partial))
  pub state : State begun partial unread (length (encodings cuts ++ fragments begun))

-- the value stands for this stream, with this number of its records taken
abbrev pub RepresentsStream : RecordsState → List ℕ → ℕ → Type 0
RepresentsStream k stream taken = Stands (IsState k.fault k) k stream taken

-- the bytes that were read, and those after the complete records
module _ {State : List (List ℕ) → List ℕ → List ℕ → ℕ → Type 0} {k : RecordsState} {stream : List ℕ} {taken : ℕ} where
  abbrev pub read_in : Stands State k stream taken → List ℕ
  read_in s = encodings s.cuts ++ (fragments s.begun ++ s.partial)

  abbrev pub rest_in : Stands State k stream taken → List ℕ
  rest_in s = fragments s.begun ++ s.partial

-- The fault of a stream: its first fragment above the limit. Nothing is said of memory.
abbrev pub IsFaultOf : List ℕ → RecordFault → Type 0
IsFaultOf stream (Bad at reason) = (reason ≡ REASON_RECORD) × IsAboveAt stream at × ((other : ℕ) → IsAboveAt stream other → at ≤ other)
IsFaultOf stream Memory = Unit {0}
