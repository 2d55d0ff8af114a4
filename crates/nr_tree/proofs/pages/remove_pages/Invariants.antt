use Rattle.std.proofs.Common.{◌≡◌, ℕ, ◌<◌, ◌≤◌, None}
use Rattle.nr_tree.specs.Paged.{page}
use Rattle.nr_tree.proofs.pages.remove_pages.Given as goal

abbrev pub invariant-loop-number : goal.invariant-loop-number
invariant-loop-number l =
    ((p : ℕ) → p < l.first → page l.pages.entries p ≡ page l.fn.pages.entries p) × ((p : ℕ) → l.first ≤ p → p < l.number-counter → page l.pages.entries p ≡ None)
    × ((p : ℕ) → l.end ≤ p → page l.pages.entries p ≡ page l.fn.pages.entries p)
