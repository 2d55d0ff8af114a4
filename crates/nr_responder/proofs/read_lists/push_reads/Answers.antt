use Rattle.std.proofs.Common.{map, arith}
use Rattle.nr_reduce.specs.ServerReads.{regions_from}
use Rattle.nr_responder.specs.Views.{read_view}
use Rattle.nr_responder.proofs.ListedReads.{front_kept, no_entry, reads_step}
use Rattle.nr_responder.proofs.read_lists.push_reads.Goals as goal

pub entries-preserved : goal.entries-preserved
entries-preserved c = record {
  reads = λ lists.
      reads_step (regions_from c.args.number 0 c.args.next lists c.args.chunks.now) c.args.number c.args.read.now c.entries.i no_entry (map read_view c.entries.entries.items) (map read_view c.push_read.new.entries.items) _ c.entries-test.true
      (c.entries.invariant.reads lists) (c.in_ok-push_read.ensures.ok no_entry lists);
  front = front_kept c.args.entries.now.items c.entries.entries.items c.push_read.new.entries.items c.entries.invariant.front c.entries.invariant.more c.push_read.ensures.front;
  more = (let a = c.entries.invariant.more in let b = c.push_read.ensures.more in omega (arith, a, b));
}
