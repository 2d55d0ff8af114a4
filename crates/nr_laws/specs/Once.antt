-- Nothing is done twice.
use Rattle.std.specs.Prelude.{◌≡◌, ◌≢◌, ℕ, List, ◌∷◌, ◌++◌, Some}
use Rattle.nr_reduce.specs.declared.call.Outcome.{Outcome}
use Rattle.nr_outside.specs.declared.moment.Moment.{Moment}
use Rattle.nr_reduce.specs.declared.mark.Mark.{Mark}
use Rattle.nr_reduce.specs.declared.mark.Mark.TheVariants as marks
use Rattle.nr_reduce.specs.declared.mark.LinkParameters.{LinkParameters}
use Rattle.nr_reduce.specs.ServerState.{ReadyCall}
use Rattle.nr_reduce.specs.Asked.{AskedSoFar}
use Rattle.nr_reduce.specs.Served.{ServedSoFar, next_call}
use Rattle.nr_laws.specs.MatchedSoFar.{MatchedSoFar}
use Rattle.nr_laws.specs.MarkAt.{MarkAt}
use Rattle.nr_laws.specs.Typed.{IsTyped}

-- On every link of which the server keeps its law, whatever its client sends, two Executes are of two Sends: their Sends have
-- different numbers.
abbrev pub NoSendTwice : Type 0
NoSendTwice = (opened : LinkParameters) (link : ℕ) (run before between : List Mark) (xid other_xid : ℕ) (moment other_moment : Moment)
    (payload other_payload : List ℕ) (place other_place : ℕ) (reply other_reply : List ℕ) →
    ServedSoFar opened link run →
    MarkAt run (before ++ marks.Execute link xid moment payload place reply ∷ between) (marks.Execute link other_xid other_moment other_payload other_place other_reply) →
    (first second : ReadyCall) → next_call opened link before ≡ Some first →
    next_call opened link (before ++ marks.Execute link xid moment payload place reply ∷ between) ≡ Some second → first.number ≢ second.number

-- On every link of which the client keeps its law, whatever its server sends, two Dones are of two calls.
abbrev pub NoCallTwice : Type 0
NoCallTwice = (opened : LinkParameters) (link : ℕ) (run before between : List Mark) (xid other_xid : ℕ) (outcome other_outcome : Outcome) →
    AskedSoFar opened link run → MarkAt run (before ++ marks.Done link xid outcome ∷ between) (marks.Done link other_xid other_outcome) → xid ≢ other_xid

-- On a matched link two Executes are of two xids.
abbrev pub NoXidTwice : Type 0
NoXidTwice = (opened : LinkParameters) (link : ℕ) (run before between : List Mark) (xid other_xid : ℕ) (moment other_moment : Moment)
    (payload other_payload : List ℕ) (place other_place : ℕ) (reply other_reply : List ℕ) →
    IsTyped run → MatchedSoFar opened link run →
    MarkAt run (before ++ marks.Execute link xid moment payload place reply ∷ between) (marks.Execute link other_xid other_moment other_payload other_place other_reply) →
    xid ≢ other_xid
