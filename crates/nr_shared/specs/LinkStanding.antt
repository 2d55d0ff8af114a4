-- A requester, the marks of all links of its history, and the law of its side on each of them.
use Rattle.std.specs.Prelude.{ℕ, List}
use Rattle.std.specs.List.{AllByRecursion}
use Rattle.nr_reduce.specs.declared.mark.LinkParameters.{LinkParameters}
use Rattle.nr_reduce.specs.declared.mark.Mark.{Mark}
use Rattle.nr_reduce.specs.Asked.{AskedSoFar}
use Rattle.nr_reduce.specs.Credits.{KeepsGrant}
use Rattle.nr_reduce.specs.Opening.{IsOpened}
use Rattle.nr_requester.specs.RequesterState.{RequesterSide}
use Rattle.nr_requester.specs.ReopenedLinks.{KeepsEarlier, RequesterKeeps, RequesterStops}
use Rattle.nr_requester.specs.Reopening.{AgreedInRange}
use Rattle.nr_shared.specs.LinkRuns.{LinkRun, OpenedLink, is_of}

-- the law of the client's side, and the last grant, on one link
pub record KeepsLinkLaw (opened : LinkParameters) (link : ℕ) (run : List Mark) : Type 0 where
  pub asked : AskedSoFar opened link run
  pub granted : KeepsGrant opened link run

-- The requester keeps the answers of a link that was left, whose marks keep the law.
pub record IsLeft (l : LinkRun) (h : RequesterSide) (e : OpenedLink) : Type 0 where
  pub keeps : KeepsEarlier (is_of l e.link) e.opened e.link h l.run
  pub opens : IsOpened e.opened
  pub law : KeepsLinkLaw e.opened e.link l.run

-- The requester stands for the marks of the link at hand, which was opened in range, and keeps the answers of those that were left. `earlier` is how many marks it had made when the
-- link at hand began.
pub record IsLiveOn (l : LinkRun) (h : RequesterSide) : Type 0 where
  pub earlier : ℕ
  pub keeps : RequesterKeeps (is_of l l.at.link) earlier l.at.opened l.at.link h l.run
  pub opens : IsOpened l.at.opened
  pub in_range : AgreedInRange l.at.opened
  pub law : KeepsLinkLaw l.at.opened l.at.link l.run
  pub left : AllByRecursion (IsLeft l h) l.left

-- The same of one that ran out of memory.
pub record IsOutOn (l : LinkRun) (h : RequesterSide) : Type 0 where
  pub earlier : ℕ
  pub stopped : List Mark
  pub keeps : RequesterStops (is_of l l.at.link) earlier l.at.opened l.at.link h stopped l.run
  pub law : KeepsLinkLaw l.at.opened l.at.link l.run
  pub left : AllByRecursion (IsLeft l h) l.left
