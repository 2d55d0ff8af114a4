-- On a matched link of a client without a number no call is old: its server heard no number.
use Rattle.std.proofs.Common.{◌≡◌, ℕ, ◌^◌, ◌<◌, List, [], ◌∷◌, ◌++◌, ◌∙◌, arith, ◌⊎◌, inl, inr}
use Rattle.nr_reduce.specs.declared.mark.LinkParameters.{LinkParameters}
use Rattle.nr_reduce.specs.declared.mark.Mark.{Mark}
use Rattle.nr_reduce.specs.declared.mark.Mark.TheVariants as marks
use Rattle.nr_reduce.specs.declared.mark.Told.TheVariants.{Granted, Old}
use Rattle.nr_reduce.specs.Matched.{IsPrefixOf}
use Rattle.nr_reduce.specs.NumberedJournal.{number_heard}
use Rattle.nr_reduce.specs.Served.{ServedMark, IsRefusedAsOld}
use Rattle.nr_laws.specs.EndCauses.{NotOldMark, HasNoOldCall}
use Rattle.nr_laws.specs.MatchedSoFar.{MatchedSoFar}
use Rattle.nr_laws.specs.Typed.{TypedMark, IsTyped}
use Rattle.nr_laws.proofs.Following.{far_before}
use Rattle.nr_laws.proofs.NumbersHeard.{heard_or_none}
use Rattle.nr_laws.proofs.OnceByXid.{at_mark, before_mark}
use Rattle.nr_laws.proofs.PlacedLinks.{each_is}

none_heard : (opened : LinkParameters) (link : ℕ) (run : List Mark) → IsTyped run → MatchedSoFar opened link run → opened.client.number ≡ 0 → number_heard run link ≡ 0
none_heard opened link run typed far none = by (heard_or_none opened link run typed far (let fits : opened.client.number < 2 ^ 64 = omega (arith, none) in fits))
  where
    by : (number_heard run link ≡ 0) ⊎ (number_heard run link ≡ opened.client.number) → number_heard run link ≡ 0
    by (inl zero) = zero
    by (inr own) = own ∙ none

pub no_old_call : (opened : LinkParameters) (link : ℕ) (run : List Mark) → IsTyped run → MatchedSoFar opened link run → opened.client.number ≡ 0 → HasNoOldCall link run
no_old_call opened link run typed far none = each_is (NotOldMark link) run [] mark
  where
    mark : (before : List Mark) (m : Mark) (after : List Mark) → run ≡ before ++ m ∷ after → NotOldMark link before m
    mark before (marks.Told l (Old xid at)) after is = λ own.
        (let m : Mark = marks.Told l (Old xid at) in
        let refused : IsRefusedAsOld opened link before xid at = at_mark (ServedMark IsPrefixOf opened link) run before m after is far.served own in
        refused.numbered (none_heard opened link before (before_mark TypedMark run before m after is typed) (far_before opened link run before m after is far) none))
    mark before (marks.Told l (Granted credits)) after is = tt
    mark before (marks.Submit l call form answer) after is = tt
    mark before (marks.Wrote l side bytes) after is = tt
    mark before (marks.Fed l side bytes) after is = tt
    mark before (marks.Execute l xid moment payload place reply) after is = tt
    mark before (marks.Done l xid outcome) after is = tt
    mark before (marks.Lost l xid) after is = tt
    mark before (marks.Forget l xid) after is = tt
    mark before (marks.Revoke l xid bytes) after is = tt
    mark before (marks.Drop l) after is = tt
