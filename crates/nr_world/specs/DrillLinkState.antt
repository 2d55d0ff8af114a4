-- What contracts see of a link of a drill.
use Rattle.std.specs.Prelude.{ℕ, Bool, List}
use Rattle.nr_reduce.specs.History.{AcceptedCall}
use Rattle.nr_requester.specs.RequesterState.{RequesterSide}
use Rattle.nr_responder.specs.ResponderState.{ResponderSide}
use Rattle.nr_drill.specs.Drill.{Pipes}

-- a call line whose call is awaited: the xid of the call, and how many lines its client had before it
pub record AwaitedLine : Type 0 where
  pub xid : ℕ
  pub index : ℕ

-- Its number, its two ends, the bytes that wait in its pipes, whether it was dropped, how many call lines its client had, those whose
-- calls are awaited, in order, these calls, and the calls that wait to be sent again.
pub record DrillLinkState : Type 0 where
  pub number : ℕ
  pub client : RequesterSide
  pub server : ResponderSide
  pub pipes : Pipes
  pub is_dropped : Bool
  pub lines : ℕ
  pub awaited : List AwaitedLine
  pub calls : List AcceptedCall
  pub waiting : List AcceptedCall
