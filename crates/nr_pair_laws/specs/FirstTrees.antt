-- The first tree of a server of a configuration: a root alone, made at the moment at which the server was opened.
use Rattle.nr_nfs_base.specs.declared.time.Time.{Time}
use Rattle.nr_tree.specs.Roots.{root_only}
use Rattle.nr_tree.specs.Sane.{IsSane}
use Rattle.nr_byte_laws.specs.InBytes.{IsInBytes}

-- It is sane and holds bytes, at any moment.
abbrev pub RootsAreSane : Type 0
RootsAreSane = (now : Time) → IsSane (root_only now) × IsInBytes (root_only now)
