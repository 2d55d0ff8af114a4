-- What a name leads to after a `mkdir`, an `ln` or an `rm` that was done.
use Rattle.std.specs.Prelude.{◌≡◌, ℕ, suc, List, [], None, Some, Result, Ok}
use Rattle.nr_rpc.specs.declared.cred.Cred.TheVariants as creds
use Rattle.nr_nfs_base.specs.declared.procedure.NfsProcedure.TheVariants as nfs
use Rattle.nr_reduce.specs.declared.mark.Entry.{Entry}
use Rattle.nr_tree.specs.Rules.{handle_of}
use Rattle.nr_tree.specs.Sane.{IsSane}
use Rattle.nr_tree.specs.Tree.{Tree}
use Rattle.nr_tree.specs.declared.node.Content.{Content}
use Rattle.nr_tree.specs.declared.node.Content.TheVariants.{Link}
use Rattle.nr_ops_dir.specs.Creation.{empty_directory}
use Rattle.nr_plain.specs.Journal.{tree_at}
use Rattle.nr_plain.specs.Setup.{Setup, caller_of}
use Rattle.nr_client.specs.declared.client_end.ClientEnd.{ClientEnd}
use Rattle.nr_client.specs.Requests.{machine}
use Rattle.nr_pair_laws.specs.FilesAt.{NumbersFit, content_at, handle_in}
use Rattle.nr_pair_laws.specs.ReadResults.{results_there}
use Rattle.nr_text_laws.specs.CommandTexts.{ChangesTree, mkdir_of, parent_of, remove_of, silent, symlink_of, tree_there, within_target}

-- In a directory a name leads to a node with this content.
pub record HasNode (t : Tree) (at : List ℕ × List ℕ) (content : Content) : Type 0 where
  pub number : ℕ
  pub leads : handle_in t at.0 at.1 ≡ Some (handle_of number)
  pub holds : content_at t (handle_of number) ≡ Some content

-- This holds of the directory that was found with the last name of the path.
pub record OfParent (found : Result (List ℕ × List ℕ) ClientEnd) (Holds : List ℕ × List ℕ → Type 0) : Type 0 where
  pub at : List ℕ × List ℕ
  pub is_found : found ≡ Ok at
  pub holds : Holds at

-- After a `mkdir` that was done the name leads to a directory without entries.
abbrev pub MadeDirectoriesAreThere : Type 0
MadeDirectoriesAreThere =
    (s : Setup) (J : List Entry) (from uid gid : ℕ) (export path text : List ℕ) (c : ChangesTree s J from (parent_of s.parameters.export export path (caller_of (creds.Sys 0 machine uid gid [])))
    (λ place m at. silent (results_there s J place m uid gid nfs.Mkdir (mkdir_of at))) (λ place m at. tree_there s J place m uid gid nfs.Mkdir (mkdir_of at)) (Ok text)) → IsSane s.tree → NumbersFit s J →
    OfParent (parent_of s.parameters.export export path (caller_of (creds.Sys 0 machine uid gid [])) (λ i. tree_at s J (c.of_trees.places i)))
    (λ at. HasNode (tree_at s J (suc c.of_trees.last)) at empty_directory)

-- After an `ln` that was done the name leads to a symbolic link with the target.
abbrev pub MadeLinksAreThere : Type 0
MadeLinksAreThere =
    (s : Setup) (J : List Entry) (from uid gid : ℕ) (export path target text : List ℕ) (c : ChangesTree s J from (parent_of s.parameters.export export path (caller_of (creds.Sys 0 machine uid gid [])))
    (λ place m at. within_target target (silent (results_there s J place m uid gid nfs.Symlink (symlink_of target at)))) (λ place m at. tree_there s J place m uid gid nfs.Symlink (symlink_of target at)) (Ok text)) →
    IsSane s.tree → NumbersFit s J →
    OfParent (parent_of s.parameters.export export path (caller_of (creds.Sys 0 machine uid gid [])) (λ i. tree_at s J (c.of_trees.places i)))
    (λ at. HasNode (tree_at s J (suc c.of_trees.last)) at (Link target))

-- After an `rm` that was done the name leads to nothing.
abbrev pub RemovedNamesAreGone : Type 0
RemovedNamesAreGone =
    (s : Setup) (J : List Entry) (from uid gid : ℕ) (export path text : List ℕ) (c : ChangesTree s J from (parent_of s.parameters.export export path (caller_of (creds.Sys 0 machine uid gid [])))
    (λ place m at. silent (results_there s J place m uid gid nfs.Remove (remove_of at))) (λ place m at. tree_there s J place m uid gid nfs.Remove (remove_of at)) (Ok text)) → IsSane s.tree →
    OfParent (parent_of s.parameters.export export path (caller_of (creds.Sys 0 machine uid gid [])) (λ i. tree_at s J (c.of_trees.places i)))
    (λ at. handle_in (tree_at s J (suc c.of_trees.last)) at.0 at.1 ≡ None)
