-- Why a side of a matched link ends first.
use Rattle.std.specs.Prelude.{◌≡◌, ◌≢◌, ℕ, true, List, [], ◌++◌, None, Some, ◌⊎◌}
use Rattle.nr_wire.specs.declared.hello.Side.TheVariants.{Initiator, Responder}
use Rattle.nr_regions.specs.declared.denied.Denied.{Denied}
use Rattle.nr_link.specs.declared.end.End.{End}
use Rattle.nr_link.specs.declared.end.End.TheVariants as ends
use Rattle.nr_link.specs.Reasons.{REASON_HEAD, REASON_XID}
use Rattle.nr_reduce.specs.declared.mark.Mark.{Mark}
use Rattle.nr_reduce.specs.declared.mark.Mark.TheVariants as marks
use Rattle.nr_reduce.specs.declared.mark.LinkParameters.{LinkParameters}
use Rattle.nr_reduce.specs.Opening.{IsOpened}
use Rattle.nr_reduce.specs.Run.{end_of_side}
use Rattle.nr_reduce.specs.AtEachMark.{AtEachMark}
use Rattle.nr_reduce.specs.Credits.{KeepsGrant}
use Rattle.nr_reduce.specs.Matched.{Matched}
use Rattle.nr_reduce.specs.Asked.{AskedMark, IsAll}
use Rattle.nr_reduce.specs.Served.{ServedMark}
use Rattle.nr_laws.specs.Typed.{IsTyped}
use Rattle.nr_reduce.specs.declared.mark.Told.TheVariants.{Old}
use Rattle.nr_reduce.specs.Client.{has_same_sizes}
use Rattle.nr_reduce.specs.Hellos.{client_private}
use Rattle.nr_link.specs.Agreement.{agreement, responder_private}

-- both sides of a link keep their laws at each mark: each Wrote writes all output due
pub record KeepLaws (opened : LinkParameters) (link : ℕ) (run : List Mark) : Type 0 where
  pub client : AtEachMark (AskedMark IsAll opened link) [] run
  pub server : AtEachMark (ServedMark IsAll opened link) [] run
  pub matched : Matched link run
  pub grant : KeepsGrant opened link run

-- They kept them at the first marks of a run too: so what follows from these laws is said of each side up to its end.
abbrev pub LawsKeptBefore : Type 0
LawsKeptBefore = (opened : LinkParameters) (link : ℕ) (run more : List Mark) → KeepLaws opened link (run ++ more) → KeepLaws opened link run

-- what a server makes of a call may end it for one reason: a payload without an RPC call head
abbrev pub IsCallEnd : End → Type 0
IsCallEnd end = (at : ℕ) × (end ≡ ends.Bad at REASON_HEAD)

-- what a client makes of a message may end it for these: a payload without an RPC reply head, a head with another xid
abbrev pub IsReplyReason : ℕ → Type 0
IsReplyReason reason = (reason ≡ REASON_HEAD) ⊎ (reason ≡ REASON_XID)

abbrev pub IsReplyEnd : End → Type 0
IsReplyEnd end = (at : ℕ) × (reason : ℕ) × (end ≡ ends.Bad at reason) × IsReplyReason reason

-- or an access to its memory is denied
abbrev pub IsDenied : End → Type 0
IsDenied end = (stag : ℕ) × (offset : ℕ) × (why : Denied) × (end ≡ ends.Denied stag offset why)

-- the server was told that a call is old
abbrev pub NotOldMark : ℕ → List Mark → Mark → Type 0
NotOldMark link before (marks.Told l (Old xid at)) = l ≢ link
NotOldMark link before mark = Unit {0}

abbrev pub HasNoOldCall : ℕ → List Mark → Type 0
HasNoOldCall link run = AtEachMark (NotOldMark link) [] run

-- What the hellos of both sides agree on is what an earlier hello to the client agreed on, if there was one.
abbrev pub AgreesAgain : LinkParameters → Type 0
AgreesAgain opened = has_same_sizes opened.agreed (agreement (client_private opened) (responder_private opened.server (client_private opened))) ≡ true

-- On a matched link whose client hasn't ended, and whose server wasn't told that a call is old, the server ends only if a call conveys a payload
-- without an RPC call head: no segment of the
-- client breaks a rule of the link, finds no receive, or is denied by the server's memory; each message is of a kind that a client sends,
-- none has the xid of a call that is pending, and a payload with a head has the xid of its message.
abbrev pub ServerEndsForCalls : Type 0
ServerEndsForCalls = (opened : LinkParameters) (link : ℕ) (run : List Mark) → IsOpened opened → IsTyped run → KeepLaws opened link run → HasNoOldCall link run →
    end_of_side opened link Initiator run ≡ None → (end : End) → end_of_side opened link Responder run ≡ Some end → IsCallEnd end

-- On a matched link whose server hasn't ended, the client ends only for what a reply is, or for an access that its memory denies: no segment
-- of the server breaks a rule of the link, each message can be read, it answers a call that is outstanding and whose Send is written, and
-- its lists suit what that call offered.
abbrev pub ClientEndsForReplies : Type 0
ClientEndsForReplies = (opened : LinkParameters) (link : ℕ) (run : List Mark) → IsOpened opened → AgreesAgain opened → IsTyped run → KeepLaws opened link run →
    end_of_side opened link Responder run ≡ None → (end : End) → end_of_side opened link Initiator run ≡ Some end → IsReplyEnd end ⊎ IsDenied end
