-- The journal: the changes that succeeded, in order. The tree after some of its entries, and their cost.
use Rattle.std.specs.Prelude.{ℕ, ◌+◌, List, [], ◌∷◌, length, take, Option, None, Some, Result, Ok, Err}
use Rattle.nr_nfs_base.specs.Codec.{value_with_number, read_all}
use Rattle.nr_nfs_base.specs.Procedures.{nfs_procedure_number, nfs_procedures}
use Rattle.nr_nfs_base.specs.declared.procedure.NfsProcedure.{NfsProcedure}
use Rattle.nr_nfs_args.specs.Arguments.{NfsArguments, nfs_arguments_codec}
use Rattle.nr_reduce.specs.declared.mark.Entry.{Entry}
use Rattle.nr_tree.specs.Tree.{Tree}
use Rattle.nr_tree.specs.Rules.{entry_cost}
use Rattle.nr_plain.specs.Setup.{Parameters, Setup, State, caller_of, time_of, space_of}
use Rattle.nr_plain.specs.Programs.{nfs_tree}

-- the procedure of NFS with a number
abbrev pub nfs_procedure_of : ℕ → Option NfsProcedure
nfs_procedure_of n = value_with_number nfs_procedure_number nfs_procedures n

-- the tree after an entry: its call is done again (an entry whose arguments can't be read changes nothing; none is ever added)
abbrev pub tree_by_arguments : Parameters → State → Entry → (p : NfsProcedure) → Result (NfsArguments p) ℕ → Tree
tree_by_arguments s st e p (Ok a) = nfs_tree st.tree (caller_of e.cred) (space_of s st e.args) (time_of e.moment) p a
tree_by_arguments s st e p (Err at) = st.tree

abbrev pub tree_by_procedure : Parameters → State → Entry → Option NfsProcedure → Tree
tree_by_procedure s st e None = st.tree
tree_by_procedure s st e (Some p) = tree_by_arguments s st e p (read_all (nfs_arguments_codec p) e.args)

unfoldable pub next_state : Parameters → State → Entry → State
next_state s st e = record {
  tree = tree_by_procedure s st e (nfs_procedure_of e.proc);
  cost = st.cost + (entry_cost + length e.args);
}

abbrev pub state_after : Parameters → State → List Entry → State
state_after s st [] = st
state_after s st (e ∷ es) = state_after s (next_state s st e) es

-- the state after all entries of a journal, and after the first k
abbrev pub first_state : Setup → State
first_state s = record { tree = s.tree; cost = 0 }

abbrev pub state_of : Setup → List Entry → State
state_of s J = state_after s.parameters (first_state s) J

abbrev pub tree_at : Setup → List Entry → ℕ → Tree
tree_at s J k = (state_of s (take k J)).tree

abbrev pub cost_of : Setup → List Entry → ℕ → ℕ
cost_of s J k = (state_of s (take k J)).cost
