use Rattle.std.proofs.Common.{arith}
use Rattle.nr_reduce.specs.History.{bytes_sent, bytes_received}
use Rattle.nr_marks.specs.Views.{mark_seen}
use Rattle.nr_drill.proofs.TellingMarks.{log_more}
use Rattle.nr_drill.proofs.reporting.link_log.Goals as goal

pub loop-at-init : goal.loop-at-init
unfolding bytes_sent bytes_received
loop-at-init c = λ i. record { client_wrote = c.new.ensures i; server_wrote = c.new-2.ensures i; client_was_fed = c.new-3.ensures i; server_was_fed = c.new-4.ensures i }

pub loop-at-preserved : goal.loop-at-preserved
loop-at-preserved c =
    log_more c.args.marks.now c.loop-at.at (mark_seen c.mark.result) c.args.link c.loop-at.log c.add_to_log.new.log (omega arith) (c.mark.ensures (mark_seen c.mark.result)) c.in_ok-add_to_log.ensures
    c.loop-at.invariant
