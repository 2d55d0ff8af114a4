use Rattle.std.proofs.Common.{◌-◌}
use Rattle.nr_ops_list.proofs.Written.{AreLeft, items}
use Rattle.nr_ops_list.proofs.listed.write_entries.Given as goal

abbrev pub invariant-entries : goal.invariant-entries
invariant-entries g l =
    AreLeft g.E.Xdr.codec (g.E.Listed.said l.tree) l.fn.writer.bytes l.writer.bytes (items g.E.Xdr.codec (g.E.Listed.said l.tree) l.count l.fn.left) (l.count - l.counter) l.left
