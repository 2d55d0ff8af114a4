-- A law of shared requesters.
use Rattle.std.specs.Prelude.{◌≡◌, ℕ, List, [], Some}
use Rattle.nr_reduce.specs.declared.mark.LinkParameters.{LinkParameters}
use Rattle.nr_reduce.specs.Opening.{IsOpened}
use Rattle.nr_requester.specs.Standing.{RequesterRepresents}
use Rattle.nr_shared.specs.declared.entry.Entry.{Entry}
use Rattle.nr_shared.specs.declared.entry.InitialState.{InitialState}
use Rattle.nr_shared.specs.Histories.{initial_of, rejoins}
use Rattle.nr_shared.specs.LinkRuns.{AreNew, FitsHistory}

-- The initial state of this history is a requester that stands for no marks: then the history fits each link that this requester was opened for,
-- with no marks before.
abbrev pub FitsFromOpening : Type 0
FitsFromOpening = (history : List Entry) (initial : InitialState) (opened : LinkParameters) (numbers : ℕ → ℕ) → initial_of history ≡ Some initial → IsOpened opened → AreNew numbers (rejoins history) [] → RequesterRepresents opened (numbers 0) initial.requester [] →
    FitsHistory history opened numbers []
