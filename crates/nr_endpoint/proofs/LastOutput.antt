-- A side that has ended queues nothing.
use Rattle.std.proofs.Common.{◌≡◌, Bool, true, false, cond, [], ◌∷◌, Option, refl, ap, ◌∙◌, Some, is_some}
use Rattle.nr_wire.proofs.Feedings.{feeding_after-ended, feeding_after_step-ended}
use Rattle.nr_link.specs.declared.end.End.{End}
use Rattle.nr_endpoint.specs.SendQueue.{with_end, SendQueue}
use Rattle.nr_endpoint.specs.LinkState.{LinkState, LinkSide, has_ended}
use Rattle.nr_endpoint.specs.Judging.{with_frame}
use Rattle.nr_endpoint.specs.Calls.{Call, after_call, after_calls}
use Rattle.nr_endpoint.specs.Calls.Call.{Feed, FeedOne, NextEvent, Post, Stop, OutOfMemory, Send, WriteRemote, ReadRemote, Drain, Register, Release, SendInvalidate, Hold, SendHeld, Invalidate}
use Rattle.nr_endpoint.proofs.Standing.{live_state}
use Rattle.nr_link.specs.declared.end.End.TheVariants as ends
use Rattle.nr_endpoint.specs.Laws.{queue_drained, queue_drained_by, EndedQueuesNothing, StopQueuesLast, OutOfMemoryQueuesNothing, EndIsKept}

abbrev IsDrained : LinkSide → Call → LinkSide → Type 0
IsDrained link call after = (has_ended after.state ≡ true) × (after.state.send_queue ≡ queue_drained call link.state.send_queue)

-- the state is as it was
abbrev Unchanged : LinkState → LinkState → Type 0
Unchanged s after = (has_ended after ≡ true) × (after.send_queue ≡ s.send_queue)

unchanged : (s after : LinkState) → has_ended s ≡ true → after ≡ s → Unchanged s after
unchanged s after gone is = (ap (λ (t : LinkState). has_ended t) is ∙ gone, ap (λ (t : LinkState). t.send_queue) is)

unless_unchanged : (s after : LinkState) → has_ended s ≡ true → Unchanged s (cond (has_ended s) s after)
unless_unchanged s after gone = unchanged s (cond (has_ended s) s after) gone (ap (λ (b : Bool). cond b s after) gone)

call_drained : (link : LinkSide) (call : Call) → has_ended link.state ≡ true → IsDrained link call (after_call link call)
unfolding after_call
call_drained link (Feed piece) gone = unchanged link.state _ gone (ap (λ (l : LinkSide). l.state) (feeding_after-ended has_ended with_frame link piece gone))
call_drained link (FeedOne piece) gone = unchanged link.state _ gone (ap (λ (l : LinkSide). l.state) (feeding_after_step-ended has_ended with_frame link piece gone))
call_drained link NextEvent gone = (gone, refl)
call_drained link Post gone = (gone, refl)
call_drained link (Stop reason) gone = unless_unchanged link.state _ gone
call_drained link OutOfMemory gone = unless_unchanged link.state _ gone
call_drained link (Send message) gone = unless_unchanged link.state _ gone
call_drained link (SendInvalidate stag message) gone = unless_unchanged link.state _ gone
call_drained link (Hold message) gone = unless_unchanged link.state _ gone
call_drained link (SendHeld message) gone = unless_unchanged link.state _ gone
call_drained link (WriteRemote stag to bytes) gone = unless_unchanged link.state _ gone
call_drained link (ReadRemote sink at stag to len) gone = unless_unchanged link.state _ gone
call_drained link (Drain count) gone = (gone, refl)
call_drained link (Register buf right) gone = (gone, refl)
call_drained link (Release stag) gone = (gone, refl)
call_drained link (Invalidate stag) gone = (gone, refl)

pub ended_queues_nothing : EndedQueuesNothing
unfolding after_calls
ended_queues_nothing link [] gone = refl
ended_queues_nothing link (call ∷ calls) gone =
    let drained : IsDrained link call (after_call link call) = call_drained link call gone in
    ended_queues_nothing (after_call link call) calls drained.0 ∙ ap (λ (q : SendQueue). queue_drained_by calls q) drained.1

pub stop_queues_last : StopQueuesLast
unfolding after_call with_end
stop_queues_last link reason none = ap (λ (s : LinkState). s.send_queue.fpdus) (live_state link.state _ none)

pub out_of_memory_queues_nothing : OutOfMemoryQueuesNothing
unfolding after_call
out_of_memory_queues_nothing link = by (has_ended link.state)
  where
    by : (b : Bool) → (cond b link.state (record link.state { ended = Some ends.Memory })).send_queue ≡ link.state.send_queue
    by true = refl
    by false = refl

kept_by_lem : (s after : LinkState) → has_ended s ≡ true → (cond (has_ended s) s after).ended ≡ s.ended
kept_by_lem s after gone = ap (λ (b : Bool). (cond b s after).ended) gone

ended_kept : (link : LinkSide) (call : Call) → has_ended link.state ≡ true → (after_call link call).state.ended ≡ link.state.ended
unfolding after_call
ended_kept link (Feed piece) gone = ap (λ (l : LinkSide). l.state.ended) (feeding_after-ended has_ended with_frame link piece gone)
ended_kept link (FeedOne piece) gone = ap (λ (l : LinkSide). l.state.ended) (feeding_after_step-ended has_ended with_frame link piece gone)
ended_kept link NextEvent gone = refl
ended_kept link Post gone = refl
ended_kept link (Stop reason) gone = kept_by_lem link.state _ gone
ended_kept link OutOfMemory gone = kept_by_lem link.state _ gone
ended_kept link (Send message) gone = kept_by_lem link.state _ gone
ended_kept link (SendInvalidate stag message) gone = kept_by_lem link.state _ gone
ended_kept link (Hold message) gone = kept_by_lem link.state _ gone
ended_kept link (SendHeld message) gone = kept_by_lem link.state _ gone
ended_kept link (WriteRemote stag to bytes) gone = kept_by_lem link.state _ gone
ended_kept link (ReadRemote sink at stag to len) gone = kept_by_lem link.state _ gone
ended_kept link (Drain count) gone = refl
ended_kept link (Register buf right) gone = refl
ended_kept link (Release stag) gone = refl
ended_kept link (Invalidate stag) gone = refl

pub end_is_kept : EndIsKept
unfolding after_calls
end_is_kept link [] gone = refl
end_is_kept link (call ∷ calls) gone =
    let kept : (after_call link call).state.ended ≡ link.state.ended = ended_kept link call gone in
    end_is_kept (after_call link call) calls (ap (λ (e : Option End). is_some e) kept ∙ gone) ∙ kept
