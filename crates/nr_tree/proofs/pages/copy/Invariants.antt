use Rattle.std.proofs.Common.{◌≡◌, ℕ, ◌+◌, ◌/◌, ◌<◌, ◌≤◌, length, is_some, true}
use Rattle.nr_tree.specs.Pages.{page_size}
use Rattle.nr_tree.specs.Paged.{Pages, page, AreSized, AreSet, WritesOver}
use Rattle.nr_tree.proofs.pages.copy.Given as goal

-- what is written over what stands gives all, and each page that is written has a byte
abbrev pub invariant-loop-rest : goal.invariant-loop-rest
invariant-loop-rest l = record {
  sized : AreSized l.pages.entries;
  left : l.at + length l.rest ≡ l.offset + length l.piece;
  from : l.offset ≤ l.at;
  kept : (i : ℕ) → l.at ≤ i → i < l.at + length l.rest → is_some (page l.pages.entries (i / page_size)) ≡ true;
  over : (qs : Pages) → WritesOver l.pages.entries qs l.at l.rest → WritesOver l.fn.pages.entries qs l.offset l.piece;
  set : AreSet l.pages.entries l.offset l.at;
}

abbrev pub decreases-loop-rest : goal.decreases-loop-rest
decreases-loop-rest l = length l.rest
