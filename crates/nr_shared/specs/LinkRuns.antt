-- The run of a history whose link may be dialled again: links that follow on one another, and the marks of all of them.
use Rattle.std.specs.Prelude.{◌≡◌, ◌≢◌, ℕ, suc, ◌<◌, ◌≤◌, nat_lt, ◌||◌, ◌==◌, take, Bool, not, if◌then◌else◌, List, [], ◌∷◌, ◌++◌, length, Some}
use Rattle.std.specs.List.{AllByRecursion, list_any}
use Rattle.nr_wire.specs.declared.hello.Side.TheVariants.{Initiator}
use Rattle.nr_reduce.specs.declared.call.Submission.TheVariants as submissions
use Rattle.nr_reduce.specs.declared.mark.LinkParameters.{LinkParameters}
use Rattle.nr_reduce.specs.declared.mark.Mark.{Mark}
use Rattle.nr_reduce.specs.declared.mark.Mark.TheVariants as marks
use Rattle.nr_reduce.specs.Opening.{IsFirstLink, IsOpened}
use Rattle.nr_reduce.specs.Reopening.{reopened}
use Rattle.nr_reduce.specs.Resending.{resends_after}
use Rattle.nr_requester.specs.Reopening.{HasNoMark}
use Rattle.nr_shared.specs.declared.entry.Entry.{Entry}
use Rattle.nr_shared.specs.declared.entry.Entry.TheVariants as entries
use Rattle.nr_shared.specs.declared.entry.InitialState.{InitialState}
use Rattle.nr_shared.specs.Histories.{initial_of, rejoins}
use Rattle.nr_shared.specs.Marks.{IsLive}

-- a link: what it was opened with, and its number
pub record OpenedLink : Type 0 where
  pub opened : LinkParameters
  pub link : ℕ

-- The link at hand; those that were left, the last one first; and the marks of all of them so far.
pub record LinkRun : Type 0 where
  pub at : OpenedLink
  pub left : List OpenedLink
  pub run : List Mark

-- ---- The link of a call

-- A link that was reopened carries the calls that it sends again, and those that are new there.
abbrev pub carries : LinkParameters → (xid : ℕ) → Bool
carries opened xid = list_any (λ r. r.xid == xid) opened.resumed || not (nat_lt xid opened.first_xid)

-- A call belongs to the last link that carries it, and to the first one if none of the others does. So its outcome came there, if one came.
abbrev pub last_carrier : OpenedLink → (left : List OpenedLink) → (xid : ℕ) → OpenedLink
last_carrier at [] xid = at
last_carrier at (e ∷ left) xid = if carries at.opened xid then at else last_carrier e left xid

abbrev pub call_link : LinkRun → (xid : ℕ) → OpenedLink
call_link l xid = last_carrier l.at l.left xid

-- whether the call of an xid belongs to the link with this number
abbrev pub is_of : LinkRun → (link : ℕ) → (xid : ℕ) → Bool
is_of l link xid = (call_link l xid).link == link

-- ---- The marks of an entry

-- After a Fed the calls are sent again that can be. `n` is how many bytes were fed of the piece at which memory ran out, if it did.
abbrev pub marks_at : (n : ℕ) → LinkRun → Entry → List Mark
marks_at n l (entries.Initial initial) = []
marks_at n l (entries.Submit call form xid) = marks.Submit l.at.link call form (submissions.Accepted xid) ∷ []
marks_at n l (entries.Wrote bytes) = marks.Wrote l.at.link Initiator bytes ∷ []
marks_at n l (entries.Fed bytes previous) = marks.Fed l.at.link Initiator bytes ∷ resends_after l.at.opened l.at.link (l.run ++ marks.Fed l.at.link Initiator bytes ∷ [])
marks_at n l (entries.Done xid outcome submit) = marks.Done (call_link l xid).link xid outcome ∷ []
marks_at n l (entries.Lost xid submit) = marks.Lost (call_link l xid).link xid ∷ []
marks_at n l (entries.Forget xid submit) = marks.Forget (call_link l xid).link xid ∷ []
marks_at n l (entries.Revoke xid bytes submit) = marks.Revoke (call_link l xid).link xid bytes ∷ []
marks_at n l entries.WriteFailed = []
marks_at n l (entries.Stopped cause previous) = []
marks_at n l (entries.OutOfMemory piece previous) = marks.Fed l.at.link Initiator (take n piece) ∷ []
marks_at n l (entries.Rejoin sink previous) = []

-- ---- The links of a history

-- the link is left: the next one, with this number, is opened with what goes on of it
abbrev pub next_link : (next : ℕ) → LinkRun → LinkRun
next_link next l = record {
  at = record { opened = reopened l.at.opened l.at.link l.run; link = next };
  left = l.at ∷ l.left;
  run = l.run;
}

abbrev pub link_after : (n next : ℕ) → LinkRun → Entry → LinkRun
link_after n next l (entries.Rejoin sink previous) = next_link next l
link_after n next l entry = record l { run = l.run ++ marks_at n l entry }

-- after these entries; the link that follows on k others has the number `numbers k`
abbrev pub links_after : (n : ℕ) → (numbers : ℕ → ℕ) → LinkRun → List Entry → LinkRun
links_after n numbers l [] = l
links_after n numbers l (e ∷ es) = links_after n numbers (link_after n (numbers (suc (length l.left))) l e) es

-- the first link, with the marks that the requester had made before it was shared
abbrev pub first_link : LinkParameters → (numbers : ℕ → ℕ) → (before : List Mark) → LinkRun
first_link opened numbers before = record { at = record { opened = opened; link = numbers 0 }; left = []; run = before }

unfoldable pub links_of : LinkParameters → (numbers : ℕ → ℕ) → (before : List Mark) → (n : ℕ) → List Entry → LinkRun
links_of opened numbers before n history = links_after n numbers (first_link opened numbers before) history

-- ---- What its first link was opened with

-- so many links that follow on the first one have numbers of their own, of which these marks have none
pub record AreNew (numbers : ℕ → ℕ) (most : ℕ) (before : List Mark) : Type 0 where
  pub apart : (j k : ℕ) → j < k → k ≤ most → numbers j ≢ numbers k
  pub unused : (k : ℕ) → 0 < k → k ≤ most → HasNoMark (numbers k) before

-- The first link was opened with these parameters, and the requester stood for these marks when it was shared, which keep the law of its side. So many
-- links follow on it.
pub record FitsInitialState (initial : InitialState) (most : ℕ) (opened : LinkParameters) (numbers : ℕ → ℕ) (before : List Mark) : Type 0 where
  pub opens : IsOpened opened
  pub first : IsFirstLink opened
  pub live : IsLive opened (numbers 0) initial.requester before
  pub new : AreNew numbers most before

abbrev pub FitsHistory : List Entry → LinkParameters → (ℕ → ℕ) → List Mark → Type 0
FitsHistory history opened numbers before = (initial : InitialState) × (initial_of history ≡ Some initial) × FitsInitialState initial (rejoins history) opened numbers before

-- ---- What is said of the links of a history, whatever its first link was opened with

-- such is so of the links of the history; `n` is how many bytes were fed of the piece at which memory ran out, if it did
abbrev pub OnLinks : (n : ℕ) → List Entry → (LinkRun → Type 0) → Type 0
OnLinks n history Says = (opened : LinkParameters) (numbers : ℕ → ℕ) (before : List Mark) → FitsHistory history opened numbers before → Says (links_of opened numbers before n history)

-- of the link at hand
abbrev pub OnLink : (n : ℕ) → List Entry → (LinkParameters → ℕ → List Mark → Type 0) → Type 0
OnLink n history Says = OnLinks n history (λ l. Says l.at.opened l.at.link l.run)

-- of the link of a call
abbrev pub OnCallLink : (n xid : ℕ) → List Entry → (LinkParameters → ℕ → List Mark → Type 0) → Type 0
OnCallLink n xid history Says = OnLinks n history (λ l. Says (call_link l xid).opened (call_link l xid).link l.run)

-- of the link at hand, and of each that was left
abbrev pub AllLinks : (LinkParameters → ℕ → List Mark → Type 0) → LinkRun → Type 0
AllLinks Says l = Says l.at.opened l.at.link l.run × AllByRecursion (λ e. Says e.opened e.link l.run) l.left

abbrev pub OnEachLink : (n : ℕ) → List Entry → (LinkParameters → ℕ → List Mark → Type 0) → Type 0
OnEachLink n history Says = OnLinks n history (AllLinks Says)
