use Rattle.std.proofs.Common.{◌≡◌, ◌-◌}
use Rattle.nr_nfs_base.specs.Codec.{linked_list_read, with_front}
use Rattle.nr_nfs_base.proofs.linked_list.push_values.Given as goal

abbrev pub invariant-loop : goal.invariant-loop
invariant-loop g l =
    with_front l.values.items (linked_list_read g.T.Xdr.codec (l.most - l.counter) l.reader) ≡ with_front l.fn.values.items (linked_list_read g.T.Xdr.codec l.most l.fn.reader)
