use Rattle.std.proofs.Common.{◌≡◌, ◌≤◌, take}
use Rattle.std.specs.Prelude.{count_by}
use Rattle.nr_drill.specs.private.Drafts.{is_submit_of}
use Rattle.nr_drill.proofs.draft.submits_of.Given as goal

abbrev pub invariant-loop-at : goal.invariant-loop-at
invariant-loop-at l = (l.count ≡ count_by (is_submit_of l.clients l.client) (take l.at l.marks)) × (l.count ≤ l.at)
