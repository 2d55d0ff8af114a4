-- What follows for a link that a client went on over, from the link before it.
use Rattle.std.specs.Prelude.{◌≡◌, ℕ, ◌<◌, true, false, List, [], ◌∷◌, ◌++◌, Contains}
use Rattle.std.specs.List.{AllByRecursion}
use Rattle.nr_wire.specs.declared.hello.Side.TheVariants.{Initiator}
use Rattle.nr_reduce.specs.declared.call.Call.{Call}
use Rattle.nr_reduce.specs.declared.mark.Mark.{Mark}
use Rattle.nr_reduce.specs.declared.mark.LinkParameters.{LinkParameters}
use Rattle.nr_reduce.specs.declared.mark.ResumedCall.{ResumedCall}
use Rattle.nr_reduce.specs.declared.outline.Plan.{Plan}
use Rattle.nr_reduce.specs.Events.{events_at}
use Rattle.nr_reduce.specs.History.{abandons, is_abandoned}
use Rattle.nr_reduce.specs.OfferedRegions.{Region}
use Rattle.nr_reduce.specs.ClientState.{OutstandingCall, WaitingCall}
use Rattle.nr_reduce.specs.Run.{client}
use Rattle.nr_reduce.specs.Asked.{AskedSoFar}
use Rattle.nr_reduce.specs.Opening.{IsOpened}
use Rattle.nr_reduce.specs.Reopening.{reopened, HasAnswer, IsLate, IsReopened}

-- What a client offers on a link has a larger STag than all that it offered on the link before: an access to that finds no region.
abbrev pub ReopenedStagsAreNew : Type 0
ReopenedStagsAreNew = (opened next_opened : LinkParameters) (link next : ℕ) (run before later : List Mark) (earlier r : Region) → IsReopened opened next_opened link run before →
    Contains (client opened link run).state.regions earlier → Contains (client next_opened next later).state.regions r → earlier.stag < r.stag

-- A link that its client left stays so by a mark more that is no event of the client there, or gives back the memory of a call whose answer came. A call
-- that it gives up has its answer.
abbrev pub LeftLinksStay : Type 0
LeftLinksStay = (opened next_opened : LinkParameters) (link : ℕ) (run before : List Mark) (mark : Mark) → IsReopened opened next_opened link run before →
    AllByRecursion (IsLate opened link before) (events_at link Initiator run mark) → ((xid : ℕ) → abandons link xid mark ≡ true → HasAnswer opened link before xid) →
    IsReopened opened next_opened link (run ++ mark ∷ []) before

-- the next link sends this call again, as it is and by its plan
pub record GoesOn (opened : LinkParameters) (link : ℕ) (run : List Mark) (xid : ℕ) (call : Call) (plan : Plan) : Type 0 where
  pub resumed : ResumedCall
  pub is_resumed : Contains (reopened opened link run).resumed resumed
  pub xid_is : resumed.xid ≡ xid
  pub call_is : resumed.call ≡ call
  pub plan_is : resumed.plan ≡ plan

-- No call is lost as a client goes on over another link: it sends each call again that was outstanding or waited, unless it was given up.
abbrev pub ReopenedCallsGoOn : Type 0
ReopenedCallsGoOn = (opened : LinkParameters) (link : ℕ) (run : List Mark) → IsOpened opened → AskedSoFar opened link run →
    ((o : OutstandingCall) → Contains (client opened link run).state.outstanding o → is_abandoned link o.xid run ≡ false → GoesOn opened link run o.xid o.call o.plan)
    × ((w : WaitingCall) → Contains (client opened link run).state.waiting w → is_abandoned link w.xid run ≡ false → GoesOn opened link run w.xid w.call w.plan)
