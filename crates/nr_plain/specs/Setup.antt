-- What a server is opened with, and what its journal makes of it.
use Rattle.std.specs.Prelude.{ℕ, List, length, []}
use Rattle.nr_rpc.specs.declared.cred.Cred.{Cred}
use Rattle.nr_rpc.specs.declared.cred.Cred.TheVariants as creds
use Rattle.nr_nfs_base.specs.declared.caller.Caller.{Caller}
use Rattle.nr_nfs_base.specs.declared.time.Time.{Time}
use Rattle.nr_nfs_base.specs.declared.verifier.Verifier.{Verifier}
use Rattle.nr_outside.specs.declared.moment.Moment.{Moment}
use Rattle.nr_tree.specs.Tree.{Tree}
use Rattle.nr_tree.specs.declared.rules.Space.{Space}

-- what the journal may cost, the write verifier, and the path that may be mounted
pub record Parameters : Type 0 where
  pub capacity : ℕ
  pub verifier : Verifier
  pub export : List ℕ

-- the first tree, and these
pub record Setup : Type 0 where
  pub tree : Tree
  pub parameters : Parameters

-- the tree after some entries of the journal, and their cost
pub record State : Type 0 where
  pub tree : Tree
  pub cost : ℕ

-- AUTH_NONE acts as uid and gid 65534
abbrev pub nobody : ℕ
nobody = 65534

-- who calls (RFC 5531 appendix A). A call of another flavor is refused before its procedure
abbrev pub caller_of : Cred → Caller
caller_of creds.None = record { uid = nobody; gid = nobody; gids = [] }
caller_of (creds.Sys stamp machine uid gid gids) = record { uid = uid; gid = gid; gids = gids }
caller_of (creds.Other flavor) = record { uid = nobody; gid = nobody; gids = [] }

abbrev pub time_of : Moment → Time
time_of m = record { seconds = m.seconds; nanoseconds = m.nanos }

-- what a call with these arguments finds beside the tree
abbrev pub space_of : Parameters → State → List ℕ → Space
space_of s st args = record { capacity = s.capacity; used = st.cost; arguments = length args; verifier = s.verifier }
