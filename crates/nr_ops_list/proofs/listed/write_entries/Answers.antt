use Rattle.nr_tree.specs.Entries.{Entry}
use Rattle.nr_ops_list.proofs.Written.{items, left_begin, left_some, left_short, left_next, left_end}
use Rattle.nr_ops_list.proofs.listed.write_entries.Goals as goal

pub entries-init : goal.entries-init
entries-init g c = left_begin g.E.Xdr.codec (g.E.Listed.said c.args.tree.now) c.args.writer.bytes c.args.count c.args.left.now c.requires.count c.requires.names

pub next_entry-requires : goal.next_entry-requires
next_entry-requires g c = left_some g.E.Xdr.codec (g.E.Listed.said c.args.tree.now) c.args.writer.bytes c.entries.writer.bytes (items g.E.Xdr.codec (g.E.Listed.said c.args.tree.now) c.args.count c.args.left.now) c.args.count c.entries.counter c.entries.left c.entries-test.true c.entries.invariant

pub write_entry-requires : goal.write_entry-requires
write_entry-requires g c =
    let e : Entry = record { cookie = c.next_entry.result.1.cookie; name = c.next_entry.result.0.now; number = c.next_entry.result.1.number } in
    left_short g.E.Xdr.codec (g.E.Listed.said c.args.tree.now) c.args.writer.bytes c.entries.writer.bytes (items g.E.Xdr.codec (g.E.Listed.said c.args.tree.now) c.args.count c.args.left.now) c.args.count c.entries.counter e c.entries.left c.next_entry.new.left c.entries-test.true c.next_entry.ensures c.entries.invariant

pub entries-preserved : goal.entries-preserved
entries-preserved g c =
    let e : Entry = record { cookie = c.next_entry.result.1.cookie; name = c.next_entry.result.0.now; number = c.next_entry.result.1.number } in
    left_next g.E.Xdr.codec (g.E.Listed.said c.args.tree.now) c.args.writer.bytes c.entries.writer.bytes (items g.E.Xdr.codec (g.E.Listed.said c.args.tree.now) c.args.count c.args.left.now) c.args.count c.entries.counter e c.entries.left c.next_entry.new.left c.entries-test.true c.next_entry.ensures c.entries.invariant
    c.in_ok-writer.writer.bytes c.in_ok-writer-2.writer.bytes c.in_ok-writer.ensures.exact.appended.is c.in_ok-writer-2.ensures

pub returns : goal.returns
returns g c =
    left_end g.E.Xdr.codec (g.E.Listed.said c.args.tree.now) c.args.writer c.entries.writer (items g.E.Xdr.codec (g.E.Listed.said c.args.tree.now) c.args.count c.args.left.now) c.args.count c.entries.counter c.entries.left c.write_to-2.result c.entries-test.false c.entries.invariant c.write_to-2.ensures.exact
