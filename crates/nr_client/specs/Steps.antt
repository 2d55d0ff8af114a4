-- What a step of a call makes of the marks that a requester stands for.
use Rattle.std.specs.Prelude.{◌≡◌, ⊤, ℕ, ◌≤◌, ◌⊎◌, true, false, List, [], ◌∷◌, ◌++◌, take, Option, None}
use Rattle.std.specs.List.{AllByRecursion}
use Rattle.nr_link.specs.declared.end.End.TheVariants as ends
use Rattle.nr_wire.specs.declared.hello.Side.TheVariants.{Initiator}
use Rattle.nr_reduce.specs.declared.mark.LinkParameters.{LinkParameters}
use Rattle.nr_reduce.specs.declared.mark.Mark.{Mark}
use Rattle.nr_reduce.specs.declared.mark.Mark.TheVariants as marks
use Rattle.nr_reduce.specs.Asked.{AskedSoFar, IsAll}
use Rattle.nr_reduce.specs.AtEachMark.{AtEachMark}
use Rattle.nr_reduce.specs.Credits.{KeepsGrant}
use Rattle.nr_reduce.specs.History.{bytes_sent}
use Rattle.nr_reduce.specs.Opening.{IsOpened}
use Rattle.nr_reduce.specs.Run.{HasWritten, output_due}
use Rattle.nr_requester.specs.MaySubmit.{may_submit}
use Rattle.nr_requester.specs.RequesterState.{RequesterSide, queue_of}
use Rattle.nr_requester.specs.Standing.{RequesterRepresents, RequesterRunsOut}
use Rattle.nr_requester.specs.Fed.{fed_bytes}
use Rattle.nr_requester.specs.OpenCalls.{found_answer}
use Rattle.nr_links.specs.Limits.{piece_max, read_max}
use Rattle.nr_shared.specs.declared.call_end.CallEnd.{CallEnd}
use Rattle.nr_shared.specs.declared.call_end.CallEnd.TheVariants as calls
use Rattle.nr_client.specs.Transfers.{LinkBytes, Moves, link_bytes}

-- A requester stands for these marks, which keep the law of its side and the last grant.
pub record IsLive (opened : LinkParameters) (link : ℕ) (h : RequesterSide) (run : List Mark) : Type 0 where
  pub stands : RequesterRepresents opened link h run
  pub asked : AskedSoFar opened link run
  pub granted : KeepsGrant opened link run

-- The same of one that ran out of memory.
pub record IsOut (opened : LinkParameters) (link : ℕ) (h : RequesterSide) (run : List Mark) : Type 0 where
  pub stopped : List Mark
  pub stands : RequesterRunsOut opened link h stopped run
  pub asked : AskedSoFar opened link run
  pub granted : KeepsGrant opened link run

-- Bytes are left over, read and fed in no mark, only if memory ran out for a frame.
abbrev pub IsLeft : CallEnd → LinkParameters → ℕ → RequesterSide → List ℕ → List Mark → Type 0
IsLeft end opened link h ahead run = (IsLive opened link h run × (ahead ≡ [])) ⊎ ((end ≡ calls.Ended ends.Memory) × IsOut opened link h run)

-- if a mark that follows these feeds bytes, all output of the client is written
abbrev pub WrittenIfFed : LinkParameters → ℕ → List Mark → Mark → Type 0
WrittenIfFed opened link run (marks.Fed l Initiator bytes) = HasWritten opened link Initiator run
WrittenIfFed opened link run mark = ⊤

-- Each time that these marks, which follow a run, feed bytes, all output of the client was written before.
abbrev pub WritesFirst : LinkParameters → ℕ → (run moved : List Mark) → Type 0
WritesFirst opened link run moved = AtEachMark (WrittenIfFed opened link) run moved

-- a mark that follows these and writes bytes of the client writes all its output that is due
abbrev pub WholeIfWrote : LinkParameters → ℕ → List Mark → Mark → Type 0
WholeIfWrote opened link run (marks.Wrote l Initiator bytes) = IsAll (bytes_sent link Initiator run ++ bytes) (output_due opened link Initiator run)
WholeIfWrote opened link run mark = ⊤

-- Each time that these marks, which follow a run, write bytes, they write all output of the client that is due.
abbrev pub WritesInFull : LinkParameters → ℕ → (run moved : List Mark) → Type 0
WritesInFull opened link run moved = AtEachMark (WholeIfWrote opened link) run moved

-- a mark that writes nothing
abbrev pub WritesNothing : Mark → Type 0
WritesNothing (marks.Wrote l side bytes) = ⊥
WritesNothing mark = ⊤

-- Of these marks, which follow a run, the last Wrote may fall short: each before it writes all output of the client that is due.
pub record IsCutShort (opened : LinkParameters) (link : ℕ) (run moved : List Mark) : Type 0 where
  pub first : List Mark
  pub bytes : List ℕ
  pub last : List Mark
  pub parts : moved ≡ first ++ marks.Wrote link Initiator bytes ∷ last
  pub whole : WritesInFull opened link run first
  pub none_after : AllByRecursion WritesNothing last

-- so it is up to an end, where only the Wrote may fall short whose write failed
abbrev pub WritesInFullTo : CallEnd → LinkParameters → ℕ → (run moved : List Mark) → Type 0
WritesInFullTo end opened link run moved = ((end ≡ calls.LinkWrite) × IsCutShort opened link run moved) ⊎ WritesInFull opened link run moved

-- At an end of a call all output of the client is written, unless a write failed, or memory ran out for a frame.
abbrev pub HasWrittenAt : CallEnd → LinkParameters → ℕ → List Mark → Type 0
HasWrittenAt end opened link run = (end ≡ calls.LinkWrite) ⊎ ((end ≡ calls.Ended ends.Memory) ⊎ HasWritten opened link Initiator run)

-- Bytes moved after these marks, and a requester stands for the marks of that too.
pub record HasMoved (opened : LinkParameters) (link : ℕ) (run : List Mark) (b b' : LinkBytes) (h' : RequesterSide) : Type 0 where
  pub moved : List Mark
  pub bytes : Moves link b b' [] moved
  pub written : WritesFirst opened link run moved
  pub whole : WritesInFull opened link run moved
  pub live : IsLive opened link h' (run ++ moved)

-- The same, up to an end.
pub record HasMovedTo (end : CallEnd) (opened : LinkParameters) (link : ℕ) (run : List Mark) (b b' : LinkBytes) (h' : RequesterSide) : Type 0 where
  pub moved : List Mark
  pub ahead : List ℕ
  pub bytes : Moves link b b' ahead moved
  pub written : WritesFirst opened link run moved
  pub whole : WritesInFullTo end opened link run moved
  pub all : HasWrittenAt end opened link (run ++ moved)
  pub left : IsLeft end opened link h' ahead (run ++ moved)

-- so it is for all marks that the requester stood for
abbrev pub GoesOn : (b b' : LinkBytes) (h h' : RequesterSide) → Type 0
GoesOn b b' h h' = (opened : LinkParameters) (link : ℕ) (run : List Mark) → IsOpened opened → IsLive opened link h run → HasMoved opened link run b b' h'

abbrev pub GoesTo : CallEnd → (b b' : LinkBytes) (h h' : RequesterSide) → Type 0
GoesTo end b b' h h' = (opened : LinkParameters) (link : ℕ) (run : List Mark) → IsOpened opened → IsLive opened link h run → HasMovedTo end opened link run b b' h'

-- nothing is read
abbrev pub ReadsNone : (b b' : LinkBytes) → Type 0
ReadsNone b b' = (b'.left ≡ b.left) × ((b'.given ≡ b.given) × (b'.read ≡ b.read))

-- A call may be submitted: a credit is left, and, if the client has a number, the next xid isn't too far above the least one.
abbrev pub HasCreditLeft : RequesterSide → Type 0
HasCreditLeft h = may_submit h.state ≡ true

-- no call may be submitted: no credit is left, or the next xid is too far above the least one
abbrev pub LacksCredit : RequesterSide → Type 0
LacksCredit h = may_submit h.state ≡ false

-- all that may be written is written, unless a write failed
abbrev pub IsDrained : CallEnd → RequesterSide → Type 0
IsDrained end h = (end ≡ calls.LinkWrite) ⊎ (queue_of h.state ≡ [])

-- bytes are written, and none read
abbrev pub Writes : (taken taken' : Option (List ℕ)) (h h' : RequesterSide) → Type 0
Writes taken taken' h h' = (left given : Option (List ℕ)) (read : ℕ) → GoesOn (link_bytes left given taken read) (link_bytes left given taken' read) h h'

-- the same, up to an end
abbrev pub WritesTo : CallEnd → (taken taken' : Option (List ℕ)) (h h' : RequesterSide) → Type 0
WritesTo end taken taken' h h' = (left given : Option (List ℕ)) (read : ℕ) → GoesTo end (link_bytes left given taken read) (link_bytes left given taken' read) h h'

-- bytes are read and fed, and none written; the same, up to an end
abbrev pub Reads : (left given left' given' : Option (List ℕ)) (read read' : ℕ) (h h' : RequesterSide) → Type 0
Reads left given left' given' read read' h h' = (taken : Option (List ℕ)) → GoesOn (link_bytes left given taken read) (link_bytes left' given' taken read') h h'

abbrev pub ReadsTo : CallEnd → (left given left' given' : Option (List ℕ)) (read read' : ℕ) (h h' : RequesterSide) → Type 0
ReadsTo end left given left' given' read read' h h' = (taken : Option (List ℕ)) → GoesTo end (link_bytes left given taken read) (link_bytes left' given' taken read') h h'

-- memory ran out for a frame of a piece
abbrev pub FeedsOut : List ℕ → (h h' : RequesterSide) → Type 0
FeedsOut piece h h' =
    (n : ℕ) × ((opened : LinkParameters) (link : ℕ) (run : List Mark) → RequesterRepresents opened link h run →
    RequesterRunsOut opened link h' (run ++ marks.Fed link Initiator (take n piece) ∷ []) (run ++ marks.Fed link Initiator (take n piece) ∷ []))

-- no answer came in a step that ended so, unless memory ran out for a frame
abbrev pub AnswersNone : CallEnd → (h h' : RequesterSide) → Type 0
AnswersNone end h h' = (end ≡ calls.Ended ends.Memory) ⊎ ((xid : ℕ) → found_answer xid h'.state ≡ found_answer xid h.state)

-- a call has no answer at an end, unless memory ran out for a frame
abbrev pub LacksAnswer : CallEnd → ℕ → RequesterSide → Type 0
LacksAnswer end xid h = (end ≡ calls.Ended ends.Memory) ⊎ (found_answer xid h.state ≡ None)

-- what a caller keeps between two steps: its bytes within the maximum, and its buffer
pub record Fits (h : RequesterSide) (read room : ℕ) : Type 0 where
  pub within : read ≤ read_max
  pub fed : fed_bytes h ≤ read
  pub room_is : room ≡ piece_max
