-- The numbers of the nodes in the trees of a server's journal.
use Rattle.std.specs.Prelude.{◌<◌, ◌^◌, List, []}
use Rattle.nr_nfs_base.specs.declared.time.Time.{Time}
use Rattle.nr_reduce.specs.declared.mark.Entry.{Entry}
use Rattle.nr_tree.specs.Roots.{root_only}
use Rattle.nr_tree.specs.Steps.{IsBelow}
use Rattle.nr_plain.specs.History.{AreOfCalls}
use Rattle.nr_plain.specs.Setup.{Setup}
use Rattle.nr_pair_laws.specs.FilesAt.{NumbersFit}

-- Each entry of a journal is that of a call. The next number and the next cookies of the first tree are below 2^62, and
-- the journal may cost less than 2^63. Then the number of each node fits in a handle, at each place: each entry costs 64
-- at least, and raises the next number by one at most.
abbrev pub NumbersOfCallsFit : Type 0
NumbersOfCallsFit = (s : Setup) (J : List Entry) → AreOfCalls s [] J → IsBelow (2 ^ 62) s.tree → s.parameters.capacity < 2 ^ 63 → NumbersFit s J

-- So it is of a root alone, at any moment.
abbrev pub RootsAreBelow : Type 0
RootsAreBelow = (now : Time) → IsBelow (2 ^ 62) (root_only now)
