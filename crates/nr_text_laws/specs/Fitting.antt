-- The numbers that `stat` prints, and those of the entries that `ls` reads, fit their fields in each tree of a server's journal.
use Rattle.std.specs.Prelude.{◌≡◌, ℕ, ◌<◌, ◌^◌, List, [], Some}
use Rattle.std.specs.FinMap.{get}
use Rattle.nr_nfs_base.specs.declared.time.Time.{Time}
use Rattle.nr_reduce.specs.declared.mark.Entry.{Entry}
use Rattle.nr_tree.specs.Roots.{root_only}
use Rattle.nr_tree.specs.Sane.{IsSane}
use Rattle.nr_tree.specs.Steps.{IsBelow}
use Rattle.nr_tree.specs.Tree.{Tree}
use Rattle.nr_tree.specs.declared.node.Metadata.{Metadata}
use Rattle.nr_tree.specs.declared.node.Node.{Node}
use Rattle.nr_plain.specs.History.{AreOfCalls}
use Rattle.nr_plain.specs.Setup.{Setup}
use Rattle.nr_text_laws.specs.CommandTexts.{AttributesFit}
use Rattle.nr_text_laws.specs.Listings.{EntriesFit}

-- a mode, a user and a group are 32-bit words (RFC 1813 section 2.5, mode3, uid3 and gid3)
pub record HasWords (m : Metadata) : Type 0 where
  pub mode : m.mode < 2 ^ 32
  pub uid : m.uid < 2 ^ 32
  pub gid : m.gid < 2 ^ 32

-- those of each node of a tree are
abbrev pub IsInWords : Tree → Type 0
IsInWords t = (n : ℕ) (node : Node) → get t.nodes n ≡ Some node → HasWords node.metadata

-- Each entry of a journal is that of a call, the next number and the next cookies of the first tree are below 2^62, and the journal may cost less than 2^63.
-- Then the cookies and the numbers of the entries of each directory fit in eight bytes, at each place.
abbrev pub EntriesOfCallsFit : Type 0
EntriesOfCallsFit = (s : Setup) (J : List Entry) → IsSane s.tree → AreOfCalls s [] J → IsBelow (2 ^ 62) s.tree → s.parameters.capacity < 2 ^ 63 → EntriesFit s J

-- If the modes, users and groups of the first tree are words too, the attributes of each node fit their fields, at each place.
abbrev pub AttributesOfCallsFit : Type 0
AttributesOfCallsFit =
    (s : Setup) (J : List Entry) → IsSane s.tree → IsInWords s.tree → AreOfCalls s [] J → IsBelow (2 ^ 62) s.tree → s.parameters.capacity < 2 ^ 63 → AttributesFit s J

-- So are those of a root alone, at any moment.
abbrev pub RootsAreInWords : Type 0
RootsAreInWords = (now : Time) → IsInWords (root_only now)
