-- That what the sides of a link have to write are bytes, the payloads of the calls that a server has complete, and the replies of a client.
use Rattle.std.specs.Prelude.{ℕ, List}
use Rattle.std.specs.List.{AllByRecursion}
use Rattle.nr_xdr.specs.Item.{IsBytes}
use Rattle.nr_wire.specs.declared.hello.Side.{Side}
use Rattle.nr_wire.specs.declared.hello.Side.TheVariants.{Initiator, Responder}
use Rattle.nr_reduce.specs.History.{CompletedCall}
use Rattle.nr_reduce.specs.Run.{client, output_due, server}
use Rattle.nr_reduce.specs.ServerState.{ReadyCall}
use Rattle.nr_reduce.specs.declared.call.Outcome.{Outcome}
use Rattle.nr_reduce.specs.declared.call.Outcome.TheVariants as outcomes
use Rattle.nr_reduce.specs.declared.mark.LinkParameters.{LinkParameters}
use Rattle.nr_reduce.specs.declared.mark.ResumedCall.{ResumedCall}
use Rattle.nr_reduce.specs.declared.mark.Mark.{Mark}
use Rattle.nr_laws.specs.Typed.{IsTyped}

-- what a client sends of a call again are bytes: in its Send, and from its read chunk
abbrev pub ResumedInBytes : ResumedCall → Type 0
ResumedInBytes r = IsBytes r.plan.inline × IsBytes r.plan.region

abbrev pub AreInBytes : Side → LinkParameters → Type 0
AreInBytes Initiator opened = AllByRecursion ResumedInBytes opened.resumed
AreInBytes Responder opened = Unit {0}

-- On every link of a run that is of its types, what a side has to write are bytes, if what a client sends again are.
abbrev pub DueOutputIsBytes : Side → Type 0
DueOutputIsBytes side = (opened : LinkParameters) (link : ℕ) (run : List Mark) → AreInBytes side opened → IsTyped run → IsBytes (output_due opened link side run)

-- So are the payloads of the calls that its server has complete.
abbrev pub ReadyPayloadsAreBytes : Type 0
ReadyPayloadsAreBytes = (opened : LinkParameters) (link : ℕ) (run : List Mark) → IsTyped run → AllByRecursion (λ (call : ReadyCall). IsBytes call.payload) (server opened link run).state.ready

-- the payload of a reply is bytes
abbrev pub OutcomeIsBytes : Outcome → Type 0
OutcomeIsBytes (outcomes.Reply payload) = IsBytes payload
OutcomeIsBytes outcomes.Chunk = Unit {0}
OutcomeIsBytes (outcomes.Version low high) = Unit {0}

abbrev pub CompletedInBytes : CompletedCall → Type 0
CompletedInBytes call = OutcomeIsBytes call.outcome

-- So are the replies among the outcomes that messages brought to its client, if what it sends again are bytes.
abbrev pub OutcomesAreBytes : Type 0
OutcomesAreBytes = (opened : LinkParameters) (link : ℕ) (run : List Mark) → AreInBytes Initiator opened → IsTyped run → AllByRecursion CompletedInBytes (client opened link run).state.outcomes
