-- The marks of the client of a link, by what it exchanges.
use Rattle.std.specs.Prelude.{◌≡◌, ⊤, ℕ, Bool, true, false, not, ◌⊎◌, List, [], ◌∷◌, ◌++◌, Option, None, Some, Result, Err}
use Rattle.std.specs.List.{filter}
use Rattle.nr_link.specs.declared.end.End.TheVariants as ends
use Rattle.nr_wire.specs.declared.hello.Side.TheVariants.{Initiator}
use Rattle.nr_reduce.specs.declared.call.Form.TheVariants as forms
use Rattle.nr_reduce.specs.declared.call.Submission.TheVariants as submissions
use Rattle.nr_reduce.specs.declared.mark.LinkParameters.{LinkParameters}
use Rattle.nr_reduce.specs.declared.mark.Mark.{Mark}
use Rattle.nr_reduce.specs.declared.mark.Mark.TheVariants as marks
use Rattle.nr_requester.specs.RequesterState.{RequesterSide}
use Rattle.nr_shared.specs.declared.call_end.CallEnd.{CallEnd}
use Rattle.nr_shared.specs.declared.call_end.CallEnd.TheVariants as calls
use Rattle.nr_client.specs.declared.client_end.ClientEnd.{ClientEnd}
use Rattle.nr_client.specs.declared.client_end.ClientEnd.TheVariants as client
use Rattle.nr_client.specs.Calls.{NoneCame}
use Rattle.nr_client.specs.Steps.{HasWrittenAt, IsCutShort, IsLive, IsOut, WritesInFull}
use Rattle.nr_service_laws.specs.Exchanges.{Exchange}
use Rattle.nr_service_laws.specs.Exchanges.Exchange.{Answered, Forgotten, GivenUp, HandedOver, Submitted}

-- A mark of the client of this link: bytes move; a call is accepted in the form that fits it best; its outcome is handed over, or it is forgotten.
abbrev pub IsOwn : ℕ → Mark → Type 0
IsOwn link (marks.Wrote l Initiator bytes) = l ≡ link
IsOwn link (marks.Fed l Initiator bytes) = l ≡ link
IsOwn link (marks.Submit l call forms.Auto (submissions.Accepted xid)) = l ≡ link
IsOwn link (marks.Done l xid outcome) = l ≡ link
IsOwn link (marks.Forget l xid) = l ≡ link
IsOwn link mark = ⊥

-- the marks of an exchange, the call under this xid
abbrev pub exchange_marks : ℕ → Exchange → ℕ → List Mark
exchange_marks link (Answered call outcome) xid = marks.Submit link call forms.Auto (submissions.Accepted xid) ∷ marks.Done link xid outcome ∷ []
exchange_marks link (Forgotten call) xid = marks.Submit link call forms.Auto (submissions.Accepted xid) ∷ marks.Forget link xid ∷ []
exchange_marks link (Submitted number call) xid = marks.Submit link call forms.Auto (submissions.Accepted number) ∷ []
exchange_marks link (HandedOver number outcome) xid = marks.Done link number outcome ∷ []
exchange_marks link (GivenUp number) xid = marks.Forget link number ∷ []

-- marks are those of these exchanges, one after another, and no others
abbrev pub AreMarksOf : ℕ → List Exchange → List Mark → Type 0
AreMarksOf link [] run = run ≡ []
AreMarksOf link (exchange ∷ exchanges) run =
    (xid : ℕ) × (rest : List Mark) × ((run ≡ exchange_marks link exchange xid ++ rest) × AreMarksOf link exchanges rest)

-- marks without those of bytes
abbrev pub moves_bytes : Mark → Bool
moves_bytes (marks.Wrote l side bytes) = true
moves_bytes (marks.Fed l side bytes) = true
moves_bytes mark = false

abbrev pub without_bytes : List Mark → List Mark
without_bytes run = filter (λ mark. not (moves_bytes mark)) run

-- The requester stands for these marks, which keep the law of its side and the last grant, and all bytes that were read are fed in them; or
-- memory ran out for a frame, and it stands for them as one that ran out of memory.
abbrev pub StandsAt : {A : Type 0} → Result A ClientEnd → LinkParameters → ℕ → RequesterSide → (ahead : List ℕ) → List Mark → Type 0
StandsAt result opened link h ahead run =
    (IsLive opened link h run × (ahead ≡ [])) ⊎ ((result ≡ Err (client.Link (calls.Ended ends.Memory))) × IsOut opened link h run)

-- Each time that these marks, which follow a run, write bytes, they write all output that is due; only the Wrote may fall short whose write failed,
-- which is the last one.
abbrev pub IsWholeFor : {A : Type 0} → Result A ClientEnd → LinkParameters → ℕ → (run more : List Mark) → Type 0
IsWholeFor result opened link run more = ((result ≡ Err (client.Link calls.LinkWrite)) × IsCutShort opened link run more) ⊎ WritesInFull opened link run more

-- all output is written if a call has no answer, unless a write failed or memory ran out for a frame
abbrev pub IsWrittenAt : Option CallEnd → LinkParameters → ℕ → List Mark → Type 0
IsWrittenAt (Some end) opened link run = HasWrittenAt end opened link run
IsWrittenAt None opened link run = ⊤

-- a call that is forgotten for an end of the link had no outcome by these marks, unless memory ran out for a frame
abbrev pub LacksOutcome : Option CallEnd → LinkParameters → ℕ → List Mark → Type 0
LacksOutcome (Some end) opened link run =
    (xid : ℕ) × (before : List Mark) × (after : List Mark) × ((run ≡ before ++ marks.Forget link xid ∷ after) × NoneCame end opened link run xid)
LacksOutcome None opened link run = ⊤
