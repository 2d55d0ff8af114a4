-- The tree with a root alone: mode 0777, uid 0, gid 0.
use Rattle.std.specs.Prelude.{[], None}
use Rattle.std.specs.FinMap.{empty, insert}
use Rattle.nr_nfs_base.specs.declared.time.Time.{Time}
use Rattle.nr_tree.specs.Tree.{Tree}
use Rattle.nr_tree.specs.declared.node.Node.{Node}
use Rattle.nr_tree.specs.declared.node.Content.TheVariants.{Directory}

abbrev pub root_node : Time → Node
root_node now = record {
  metadata = record { mode = 511; links = 2; uid = 0; gid = 0; atime = now; mtime = now; ctime = now };
  parent = 1;
  verifier = None;
  content = Directory (record { next_cookie = 1; list = [] });
}

abbrev pub root_only : Time → Tree
root_only now = record { next = 2; nodes = insert empty 1 (root_node now) }
