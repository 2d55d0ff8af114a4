use Rattle.std.proofs.Common.{◌+◌, ◌≤◌, length}
use Rattle.nr_ops_list.proofs.Counting.{IsCounted}
use Rattle.nr_ops_list.proofs.Live.{AreFrom}
use Rattle.nr_ops_list.proofs.listings.count_within.Given as goal

abbrev pub invariant-counting : goal.invariant-counting
invariant-counting l = IsCounted l.tree l.limits l.dir.list l.place l.entries l.names l.count × AreFrom l.tree l.dir.list (l.place + l.count) l.left × (l.count ≤ l.entries)

abbrev pub decreases-counting : goal.decreases-counting
decreases-counting l = length l.left
