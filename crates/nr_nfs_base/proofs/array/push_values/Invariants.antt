use Rattle.std.proofs.Common.{◌≡◌, ◌-◌, ◌+◌, length}
use Rattle.nr_nfs_base.specs.Codec.{values_read, with_front}
use Rattle.nr_nfs_base.proofs.array.push_values.Given as goal

abbrev pub invariant-loop : goal.invariant-loop
invariant-loop g l = record {
  read : with_front l.values.items (values_read g.T.Xdr.codec (l.count - l.counter) l.reader) ≡ with_front l.fn.values.items (values_read g.T.Xdr.codec l.count l.fn.reader);
  counted : length l.values.items ≡ length l.fn.values.items + l.counter;
}
