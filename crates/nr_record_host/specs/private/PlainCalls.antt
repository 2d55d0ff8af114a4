-- What the plain server and the clock do for a record connection.
use Rattle.std.specs.Prelude.{◌≡◌, ⊤, List, [], ◌++◌, length, Option, None, Some}
use Rattle.nr_outside.specs.declared.moment.Moment.{Moment}
use Rattle.nr_plain.specs.History.{Answered, Over, PassView}
use Rattle.nr_record_loop.specs.Connections.{Exchange, Unanswered}
use Rattle.nr_record_loop.specs.declared.answering.NoReply.{NoReply}
use Rattle.nr_record_loop.specs.declared.answering.NoReply.TheVariants as reasons
use Rattle.nr_record_loop.specs.declared.loop_end.LoopEnd.{LoopEnd}
use Rattle.nr_record_loop.specs.declared.loop_end.LoopEnd.TheVariants as loops
use Rattle.nr_record_host.specs.RecordRuns.{GivesAll, exchanges_of, moments}
use Rattle.nr_record_host.specs.declared.record_end.RecordEnd.{RecordEnd}
use Rattle.nr_record_host.specs.declared.record_end.RecordEnd.TheVariants as ends

-- the server leaves a call with a head without a reply only if memory runs out
abbrev pub IsServerReason : NoReply → Type 0
IsServerReason reasons.NotCall = ⊤
IsServerReason reasons.Memory = ⊤
IsServerReason reasons.Other = ⊥

-- the moments that were given for a call that has no reply: one, if there is such a call
abbrev pub GivenFor : Option Unanswered → List Moment → Type 0
GivenFor None given = given ≡ []
GivenFor (Some x) given = (length given ≡ 1) × IsServerReason x.reason

-- These calls were executed by the pass, in order, and the clock gave their moments and those for `more`.
pub record PlainDid (gave gave' : Option (List Moment)) (view view' : PassView) (xs : List Exchange) (more : Option Unanswered) : Type 0 where
  pub answered : List Answered
  pub exchanges_are : xs ≡ exchanges_of answered
  pub given : List Moment
  pub given_for : GivenFor more given
  pub over : Over view answered view'
  pub gives : GivesAll gave gave' (moments answered ++ given)

-- the end of a connection, by that of the loop, which never ends for another cause than these
abbrev pub record_end : LoopEnd → RecordEnd
record_end loops.Closed = ends.Closed
record_end (loops.Cut at) = ends.Cut at
record_end loops.LinkRead = ends.LinkRead
record_end loops.LinkWrite = ends.LinkWrite
record_end (loops.Bad at reason) = ends.Bad at reason
record_end (loops.Budget read) = ends.Budget read
record_end loops.Memory = ends.Memory
record_end loops.Unanswered = ends.Memory
