-- Each procedure leaves a sane tree sane, and so does each entry of a journal.
use Rattle.std.proofs.Common.{ℕ, List, [], ◌∷◌, take, Option, None, Some, Result, Ok, Err}
use Rattle.nr_nfs_base.specs.Codec.{read_all}
use Rattle.nr_nfs_base.specs.declared.caller.Caller.{Caller}
use Rattle.nr_nfs_base.specs.declared.procedure.NfsProcedure.{NfsProcedure}
use Rattle.nr_nfs_base.specs.declared.procedure.NfsProcedure.TheVariants as nfs
use Rattle.nr_nfs_base.specs.declared.time.Time.{Time}
use Rattle.nr_nfs_args.specs.Arguments.{NfsArguments, nfs_arguments_codec}
use Rattle.nr_reduce.specs.declared.mark.Entry.{Entry}
use Rattle.nr_tree.specs.Tree.{Tree}
use Rattle.nr_tree.specs.Sane.{IsSane}
use Rattle.nr_tree.specs.declared.rules.Space.{Space}
use Rattle.nr_ops_file.proofs.SaneAfter.{setattr_sane, write_sane}
use Rattle.nr_ops_dir.proofs.SaneAfter.{create_sane, mkdir_sane, symlink_sane, mknod_sane, remove_sane, rmdir_sane, rename_sane, link_sane}
use Rattle.nr_plain.specs.Setup.{Parameters, Setup, State, caller_of, time_of, space_of}
use Rattle.nr_plain.specs.Programs.{nfs_tree}
use Rattle.nr_plain.specs.Journal.{nfs_procedure_of, tree_by_arguments, tree_by_procedure, next_state, state_after, first_state, tree_at}

-- ===== by the procedure

pub procedure_sane : (t : Tree) (c : Caller) (space : Space) (now : Time) (p : NfsProcedure) (a : NfsArguments p) → IsSane t → IsSane (nfs_tree t c space now p a)
procedure_sane t c space now nfs.Null a sane = sane
procedure_sane t c space now nfs.Getattr a sane = sane
procedure_sane t c space now nfs.Setattr a sane = setattr_sane t c space now a sane
procedure_sane t c space now nfs.Lookup a sane = sane
procedure_sane t c space now nfs.Access a sane = sane
procedure_sane t c space now nfs.Readlink a sane = sane
procedure_sane t c space now nfs.Read a sane = sane
procedure_sane t c space now nfs.Write a sane = write_sane t c space now a sane
procedure_sane t c space now nfs.Create a sane = create_sane t c space now a sane
procedure_sane t c space now nfs.Mkdir a sane = mkdir_sane t c space now a sane
procedure_sane t c space now nfs.Symlink a sane = symlink_sane t c space now a sane
procedure_sane t c space now nfs.Mknod a sane = mknod_sane t c space now a sane
procedure_sane t c space now nfs.Remove a sane = remove_sane t c space now a sane
procedure_sane t c space now nfs.Rmdir a sane = rmdir_sane t c space now a sane
procedure_sane t c space now nfs.Rename a sane = rename_sane t c space now a sane
procedure_sane t c space now nfs.Link a sane = link_sane t c space now a sane
procedure_sane t c space now nfs.Readdir a sane = sane
procedure_sane t c space now nfs.Readdirplus a sane = sane
procedure_sane t c space now nfs.Fsstat a sane = sane
procedure_sane t c space now nfs.Fsinfo a sane = sane
procedure_sane t c space now nfs.Pathconf a sane = sane
procedure_sane t c space now nfs.Commit a sane = sane

-- ===== by the entry

arguments_sane : (prm : Parameters) (st : State) (e : Entry) (p : NfsProcedure) (r : Result (NfsArguments p) ℕ) → IsSane st.tree → IsSane (tree_by_arguments prm st e p r)
arguments_sane prm st e p (Ok a) sane = procedure_sane st.tree (caller_of e.cred) (space_of prm st e.args) (time_of e.moment) p a sane
arguments_sane prm st e p (Err at) sane = sane

number_sane : (prm : Parameters) (st : State) (e : Entry) (o : Option NfsProcedure) → IsSane st.tree → IsSane (tree_by_procedure prm st e o)
number_sane prm st e None sane = sane
number_sane prm st e (Some p) sane = arguments_sane prm st e p (read_all (nfs_arguments_codec p) e.args) sane

entry_sane : (prm : Parameters) (st : State) (e : Entry) → IsSane st.tree → IsSane (next_state prm st e).tree
unfolding next_state
entry_sane prm st e sane = number_sane prm st e (nfs_procedure_of e.proc) sane

-- ===== by the journal

state_sane : (prm : Parameters) (st : State) (es : List Entry) → IsSane st.tree → IsSane (state_after prm st es).tree
state_sane prm st [] sane = sane
state_sane prm st (e ∷ es) sane = state_sane prm (next_state prm st e) es (entry_sane prm st e sane)

pub tree_sane : (s : Setup) (J : List Entry) (k : ℕ) → IsSane s.tree → IsSane (tree_at s J k)
tree_sane s J k sane = state_sane s.parameters (first_state s) (take k J) sane
