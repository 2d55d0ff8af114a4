-- A responder keeps the law of its side of a link.
use Rattle.std.specs.Prelude.{◌≡◌, ℕ, ◌≤◌, false, List, [], ◌∷◌, ◌++◌, length, take}
use Rattle.nr_wire.specs.declared.hello.Side.TheVariants.{Responder}
use Rattle.nr_outside.specs.declared.moment.Moment.{Moment}
use Rattle.nr_reduce.specs.declared.mark.LinkParameters.{LinkParameters}
use Rattle.nr_reduce.specs.declared.mark.Mark.{Mark}
use Rattle.nr_reduce.specs.declared.mark.Mark.TheVariants as marks
use Rattle.nr_reduce.specs.declared.mark.Told.{Told}
use Rattle.nr_reduce.specs.History.{bytes_sent}
use Rattle.nr_reduce.specs.Run.{output_due}
use Rattle.nr_reduce.specs.Asked.{IsAll}
use Rattle.nr_reduce.specs.AtEachMark.{AtEachMark}
use Rattle.nr_reduce.specs.Concerns.{concerns}
use Rattle.nr_reduce.specs.Served.{ServedMark, ServedSoFar, IsExecuted, IsTold}
use Rattle.nr_responder.specs.ResponderState.{ResponderSide, queue, may_write}
use Rattle.nr_responder.specs.Standing.{RepresentsServer, ResponderRepresents}

-- A mark that doesn't concern a link's server: of another link, of the client's side, what a caller does, or a drop.
abbrev pub IsOfOthers : ℕ → Mark → Type 0
IsOfOthers link mark = concerns link Responder mark ≡ false

-- It leaves a responder as it is.
abbrev pub OthersLeaveIt : Type 0
OthersLeaveIt = (opened : LinkParameters) (link : ℕ) (v : ResponderSide) (run : List Mark) (mark : Mark) → IsOfOthers link mark → ResponderRepresents opened link run v → ResponderRepresents opened link (run ++ mark ∷ []) v

-- ---- The law so far: what is written is a prefix of the output due

-- No marks keep it,
abbrev pub LawBegins : Type 0
LawBegins = (opened : LinkParameters) (link : ℕ) → ServedSoFar opened link []

-- and it is kept by a mark of others,
abbrev pub OthersKeepLaw : Type 0
OthersKeepLaw = (opened : LinkParameters) (link : ℕ) (run : List Mark) (mark : Mark) → IsOfOthers link mark → ServedSoFar opened link run → ServedSoFar opened link (run ++ mark ∷ [])

-- by a piece,
abbrev pub PieceKeepsLaw : Type 0
PieceKeepsLaw = (opened : LinkParameters) (link : ℕ) (run : List Mark) (piece : List ℕ) → ServedSoFar opened link run → ServedSoFar opened link (run ++ marks.Fed link Responder piece ∷ [])

-- by the answer to the next call with its payload, at any moment and place,
abbrev pub ExecuteKeepsLaw : Type 0
ExecuteKeepsLaw = (opened : LinkParameters) (link : ℕ) (run : List Mark) (xid : ℕ) (moment : Moment) (payload : List ℕ) (place : ℕ) (reply : List ℕ) → IsExecuted opened link run xid payload →
    ServedSoFar opened link run → ServedSoFar opened link (run ++ marks.Execute link xid moment payload place reply ∷ [])

-- by what it is told: from 1 to all of the credits that it was opened with, or that the next call is old,
abbrev pub ToldKeepsLaw : Type 0
ToldKeepsLaw = (opened : LinkParameters) (link : ℕ) (run : List Mark) (what : Told) → IsTold opened link run what → ServedSoFar opened link run → ServedSoFar opened link (run ++ marks.Told link what ∷ [])

-- and by a drain of which a sink took n bytes, also if it ran out of memory.
abbrev pub DrainKeepsLaw : Type 0
DrainKeepsLaw = (opened : LinkParameters) (link : ℕ) (v : ResponderSide) (run : List Mark) (n : ℕ) → n ≤ length (may_write v) → ResponderRepresents opened link run v →
    ServedSoFar opened link run → ServedSoFar opened link (run ++ marks.Wrote link Responder (take n (may_write v)) ∷ [])

-- ---- The law of each mark in full: each Wrote writes all output due

abbrev pub ServedInFull : LinkParameters → ℕ → List Mark → Type 0
ServedInFull opened link run = AtEachMark (ServedMark IsAll opened link) [] run

abbrev pub FullBegins : Type 0
FullBegins = (opened : LinkParameters) (link : ℕ) → ServedInFull opened link []

abbrev pub OthersKeepFull : Type 0
OthersKeepFull = (opened : LinkParameters) (link : ℕ) (run : List Mark) (mark : Mark) → IsOfOthers link mark → ServedInFull opened link run → ServedInFull opened link (run ++ mark ∷ [])

abbrev pub PieceKeepsFull : Type 0
PieceKeepsFull = (opened : LinkParameters) (link : ℕ) (run : List Mark) (piece : List ℕ) → ServedInFull opened link run → ServedInFull opened link (run ++ marks.Fed link Responder piece ∷ [])

abbrev pub ExecuteKeepsFull : Type 0
ExecuteKeepsFull = (opened : LinkParameters) (link : ℕ) (run : List Mark) (xid : ℕ) (moment : Moment) (payload : List ℕ) (place : ℕ) (reply : List ℕ) → IsExecuted opened link run xid payload →
    ServedInFull opened link run → ServedInFull opened link (run ++ marks.Execute link xid moment payload place reply ∷ [])

abbrev pub ToldKeepsFull : Type 0
ToldKeepsFull = (opened : LinkParameters) (link : ℕ) (run : List Mark) (what : Told) → IsTold opened link run what → ServedInFull opened link run → ServedInFull opened link (run ++ marks.Told link what ∷ [])

-- A side that didn't run out of memory has all that is due in its queue, and hasn't written it.
abbrev pub QueueIsAllDue : Type 0
QueueIsAllDue = (opened : LinkParameters) (link : ℕ) (v : ResponderSide) (run : List Mark) → RepresentsServer opened link run v → IsAll (bytes_sent link Responder run ++ queue v) (output_due opened link Responder run)

-- All of that queue may be written,
abbrev pub AllMayBeWritten : Type 0
AllMayBeWritten = (opened : LinkParameters) (link : ℕ) (v : ResponderSide) (run : List Mark) → RepresentsServer opened link run v → may_write v ≡ queue v

-- and a drain of all of it keeps the law in full.
abbrev pub DrainKeepsFull : Type 0
DrainKeepsFull = (opened : LinkParameters) (link : ℕ) (v : ResponderSide) (run : List Mark) → RepresentsServer opened link run v →
    ServedInFull opened link run → ServedInFull opened link (run ++ marks.Wrote link Responder (may_write v) ∷ [])
