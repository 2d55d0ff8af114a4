-- The run of a history over one link, which was never left.
use Rattle.std.specs.Prelude.{◌≡◌, ℕ, take, List, [], ◌∷◌, ◌++◌, Some}
use Rattle.std.specs.List.{flat_map}
use Rattle.nr_wire.specs.declared.hello.Side.TheVariants.{Initiator}
use Rattle.nr_reduce.specs.declared.call.Submission.TheVariants as submissions
use Rattle.nr_reduce.specs.declared.mark.LinkParameters.{LinkParameters}
use Rattle.nr_reduce.specs.declared.mark.Mark.{Mark}
use Rattle.nr_reduce.specs.declared.mark.Mark.TheVariants as marks
use Rattle.nr_reduce.specs.Opening.{IsOpened}
use Rattle.nr_shared.specs.declared.entry.Entry.{Entry}
use Rattle.nr_shared.specs.declared.entry.Entry.TheVariants as entries
use Rattle.nr_shared.specs.declared.entry.InitialState.{InitialState}
use Rattle.nr_shared.specs.Histories.{initial_of}
use Rattle.nr_shared.specs.LinkRuns.{LinkRun}
use Rattle.nr_shared.specs.Marks.{IsLive}

-- `n` is how many bytes were fed of the piece at which memory ran out, if it did.
abbrev pub mark_at : (n link : ℕ) → Entry → List Mark
mark_at n link (entries.Initial initial) = []
mark_at n link (entries.Submit call form xid) = marks.Submit link call form (submissions.Accepted xid) ∷ []
mark_at n link (entries.Wrote bytes) = marks.Wrote link Initiator bytes ∷ []
mark_at n link (entries.Fed bytes previous) = marks.Fed link Initiator bytes ∷ []
mark_at n link (entries.Done xid outcome submit) = marks.Done link xid outcome ∷ []
mark_at n link (entries.Lost xid submit) = marks.Lost link xid ∷ []
mark_at n link (entries.Forget xid submit) = marks.Forget link xid ∷ []
mark_at n link (entries.Revoke xid bytes submit) = marks.Revoke link xid bytes ∷ []
mark_at n link entries.WriteFailed = []
mark_at n link (entries.Stopped cause previous) = []
mark_at n link (entries.OutOfMemory piece previous) = marks.Fed link Initiator (take n piece) ∷ []
mark_at n link (entries.Rejoin sink previous) = []

-- the run of a history, as that of the link with this number, after the marks that the requester had made before it was shared
unfoldable pub run_of : (before : List Mark) → (n link : ℕ) → List Entry → List Mark
run_of before n link history = before ++ flat_map (mark_at n link) history

-- its links: this one alone
abbrev pub one_link : LinkParameters → (link : ℕ) → (before : List Mark) → (n : ℕ) → List Entry → LinkRun
one_link opened link before n history = record { at = record { opened = opened; link = link }; left = []; run = run_of before n link history }

-- The link was opened with these parameters, and the requester stood for these marks when it was shared, which keep the law of its side.
pub record FitsOneState (initial : InitialState) (opened : LinkParameters) (link : ℕ) (before : List Mark) : Type 0 where
  pub opens : IsOpened opened
  pub live : IsLive opened link initial.requester before

abbrev pub FitsOneLink : List Entry → LinkParameters → ℕ → List Mark → Type 0
FitsOneLink history opened link before = (initial : InitialState) × (initial_of history ≡ Some initial) × FitsOneState initial opened link before
