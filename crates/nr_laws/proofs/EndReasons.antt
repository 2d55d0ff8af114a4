-- The reasons for which a side may end by what it makes of a message, before it is known what each message of a matched link conveys.
use Rattle.std.specs.Prelude.{◌≡◌, ℕ, List, None, Some, ◌⊎◌}
use Rattle.nr_wire.specs.declared.hello.Side.TheVariants.{Initiator, Responder}
use Rattle.nr_link.specs.declared.end.End.{End}
use Rattle.nr_link.specs.declared.end.End.TheVariants as ends
use Rattle.nr_link.specs.Reasons.{REASON_HEAD, REASON_XID, REASON_CHUNKS, REASON_INVALIDATED}
use Rattle.nr_reduce.specs.declared.mark.Mark.{Mark}
use Rattle.nr_reduce.specs.declared.mark.LinkParameters.{LinkParameters}
use Rattle.nr_reduce.specs.Opening.{IsOpened}
use Rattle.nr_reduce.specs.Run.{end_of_side}
use Rattle.nr_laws.specs.EndCauses.{KeepLaws, IsReplyReason, IsDenied, AgreesAgain, HasNoOldCall}
use Rattle.nr_laws.specs.Typed.{IsTyped}

-- a call's payload without an RPC call head, or a head with another xid
abbrev pub IsCallReason : ℕ → Type 0
IsCallReason reason = (reason ≡ REASON_HEAD) ⊎ (reason ≡ REASON_XID)

abbrev pub EndsForCall : End → Type 0
EndsForCall end = (at : ℕ) × (reason : ℕ) × (end ≡ ends.Bad at reason) × IsCallReason reason

-- a message's lists that weren't offered, or what its reply is
abbrev pub IsMessageReason : ℕ → Type 0
IsMessageReason reason = (reason ≡ REASON_CHUNKS) ⊎ IsReplyReason reason

-- or the STag that it names
abbrev pub IsVerdictReason : ℕ → Type 0
IsVerdictReason reason = IsMessageReason reason ⊎ (reason ≡ REASON_INVALIDATED)

abbrev pub EndsForMessage : End → Type 0
EndsForMessage end = (at : ℕ) × (reason : ℕ) × (end ≡ ends.Bad at reason) × IsVerdictReason reason

-- of a matched link the side that ends first ends so
abbrev pub FirstServerEnd : Type 0
FirstServerEnd = (opened : LinkParameters) (link : ℕ) (run : List Mark) → IsOpened opened → IsTyped run → KeepLaws opened link run → HasNoOldCall link run →
    end_of_side opened link Initiator run ≡ None → (end : End) → end_of_side opened link Responder run ≡ Some end → EndsForCall end

abbrev pub FirstClientEnd : Type 0
FirstClientEnd = (opened : LinkParameters) (link : ℕ) (run : List Mark) → IsOpened opened → AgreesAgain opened → IsTyped run → KeepLaws opened link run →
    end_of_side opened link Responder run ≡ None → (end : End) → end_of_side opened link Initiator run ≡ Some end → EndsForMessage end ⊎ IsDenied end
