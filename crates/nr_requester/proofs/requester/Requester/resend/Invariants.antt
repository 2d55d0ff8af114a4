use Rattle.std.proofs.Common.{◌≡◌, length, None}
use Rattle.nr_requester.specs.Resends.{with_resends}
use Rattle.nr_requester.proofs.requester.Requester.resend.Given as goal

abbrev pub invariant-resends : goal.invariant-resends
invariant-resends l = record {
  same : with_resends l.self ≡ with_resends l.fn.self;
  lives : l.self.state.side.ended ≡ None;
}

abbrev pub decreases-resends : goal.decreases-resends
decreases-resends l = length l.self.state.side.send_queue.held
