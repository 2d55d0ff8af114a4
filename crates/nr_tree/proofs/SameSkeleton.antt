-- What leaves the skeleton alone keeps a tree sane: WRITE, and SETATTR.
use Rattle.std.proofs.Common.{◌≡◌, ℕ, true, false, [], None, Some, refl, ap, sym, ◌∙◌, subst}
use Rattle.std.specs.FinMap.{get}
use Rattle.nr_tree.specs.DirectoryGraph.{DirectoryGraph, IsConsistent}
use Rattle.nr_tree.specs.Tree.{Tree, nodes_with_change, is_dir, entries_in}
use Rattle.nr_tree.specs.Sane.{IsSane, IsValidContent, skeleton_of}
use Rattle.nr_tree.specs.declared.node.Node.{Node}
use Rattle.nr_tree.proofs.SkeletonChanges.{value_at_metadata, with_change_at}
use Rattle.nr_tree.proofs.Contents.{fit_with_change}

-- as another node sees it, the node is the same
pub record IsSameInSkeleton (v w : Node) : Type 0 where
  pub dir : is_dir w ≡ is_dir v
  pub entries : entries_in w ≡ entries_in v
  pub parent : w.parent ≡ v.parent
  pub links : w.metadata.links ≡ v.metadata.links
  pub fit : IsValidContent w.content

pub sane_same_skeleton : (t : Tree) (k : ℕ) (v : Node) (change : Node → Node) → IsSane t → get t.nodes k ≡ Some v → IsSameInSkeleton v (change v) → IsSane (record t { nodes = nodes_with_change t.nodes k change })
sane_same_skeleton t k v change sane e same_skeleton =
    let still : skeleton_of t.next t.nodes ≡ skeleton_of t.next (nodes_with_change t.nodes k change) = sym (ap (skeleton_of t.next) (with_change_at t.nodes k v change e) ∙ λ i. record {
      next = t.next;
      live = value_at_metadata (λ node. true) false t.nodes k v (change v) e refl i;
      dir = value_at_metadata is_dir false t.nodes k v (change v) e same_skeleton.dir i;
      entries = value_at_metadata entries_in [] t.nodes k v (change v) e same_skeleton.entries i;
      parent = value_at_metadata (λ node. node.parent) 0 t.nodes k v (change v) e same_skeleton.parent i;
      links = value_at_metadata (λ node. node.metadata.links) 0 t.nodes k v (change v) e same_skeleton.links i;
    }) in
    record {
      contents = fit_with_change t.nodes k v change e sane.contents (λ f. same_skeleton.fit);
      skeleton = subst (λ (b : DirectoryGraph). IsConsistent b None) still sane.skeleton;
    }
