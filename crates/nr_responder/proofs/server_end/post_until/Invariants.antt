use Rattle.std.proofs.Common.{◌≡◌, ◌+◌, length, All}
use Rattle.std.specs.VecDeque.{deque_capacity}
use Rattle.nr_endpoint.specs.Receives.{IsReceive}
use Rattle.nr_responder.specs.ResponderState.{posted_times}
use Rattle.nr_responder.proofs.server_end.post_until.Given as goal

abbrev pub invariant-posts : goal.invariant-posts
invariant-posts l = record {
  left_are : length l.used.items + l.i ≡ length l.fn.used.items;
  link : l.endpoint.link ≡ posted_times l.i l.fn.endpoint.link;
  bufs : All (IsReceive l.fn.endpoint.link.state.receive_queue.receive_length) l.used.items;
  room : deque_capacity l.used ≡ deque_capacity l.fn.used;
  outside : l.endpoint.outside ≡ l.fn.endpoint.outside;
  staging : l.endpoint.staging ≡ l.fn.endpoint.staging;
}
