-- What a server keeps when it executes a call, writes, and is told something.
use Rattle.std.proofs.Common.{◌≡◌, ℕ, ◌+◌, List, [], ◌∷◌, ◌++◌, refl}
use Rattle.nr_rpc.specs.Reading.{call_of, target_of}
use Rattle.nr_reduce.specs.declared.mark.Told.{Told}
use Rattle.nr_reduce.specs.declared.mark.LinkParameters.{LinkParameters}
use Rattle.nr_reduce.specs.History.{ExecutedCall}
use Rattle.nr_reduce.specs.Events.RunEvent.{CallExecuted, QueueWritten, ServerTold}
use Rattle.nr_reduce.specs.ClientState.{ClientState}
use Rattle.nr_reduce.specs.ServerState.{ServerState, ReadyCall}
use Rattle.nr_reduce.specs.Server.{offer_of, answer_of_target, server_state_after}
use Rattle.nr_laws.proofs.FrameContents.{server_frames}
use Rattle.nr_laws.proofs.LinkInvariants.{Transit, TotalsAgree, PendingAgree}
use Rattle.nr_laws.proofs.TotalsAtServer.{totals_executes, totals_writes_down}
use Rattle.nr_laws.proofs.ReadsAtClient.{reads_says_down, reads_writes_down, none_answered}
use Rattle.nr_laws.proofs.PendingExecuted.{pending_agree_executes, executed_there}
use Rattle.nr_laws.proofs.ServerInvariant.{ServerAgrees}
use Rattle.nr_reduce.proofs.WholeWrotes.{ServerEnds}

-- the call that waits first is executed
pub server_executes : (opened : LinkParameters) (k : ClientState) (s : ServerState) (w : Transit) (place : ℕ) (e : ExecutedCall) (r : ReadyCall) (rest : List ReadyCall) → ServerAgrees opened k s w place → s.ready ≡ r ∷ rest → e.xid ≡ r.xid
    → ServerAgrees opened k (server_state_after opened s (CallExecuted e)) (record { queued_up = w.queued_up; up = w.up; queued_down = w.queued_down ++ server_frames opened s (CallExecuted e); down = w.down }) place
unfolding server_state_after server_frames
server_executes opened k s w place e r rest j first own =
    let t = server_state_after opened s (CallExecuted e) in
    record {
      counts = totals_executes opened k s w e j.counts j.waits.xids (executed_there s e.xid r rest j.waits first own);
      reads = reads_says_down s t w (server_frames opened s (CallExecuted e)) j.reads refl refl (none_answered s e.xid (offer_of s e.xid) (answer_of_target (offer_of s e.xid) s.down_max e.reply (target_of (call_of e.payload))));
      waits = pending_agree_executes opened s e r rest j.waits first own;
      sinks = j.sinks;
      regions = record { stags = j.regions.stags; calls = j.regions.calls };
      limits = record { up = j.limits.up; down = j.limits.down };
    }

pub server_writes : (opened : LinkParameters) (k : ClientState) (s : ServerState) (w : Transit) (place taken : ℕ) → s.written + taken ≡ s.due → ServerEnds s → ServerAgrees opened k s w place
    → ServerAgrees opened k (server_state_after opened s (QueueWritten taken)) (record { queued_up = w.queued_up; up = w.up; queued_down = []; down = w.down ++ w.queued_down }) place
unfolding server_state_after
server_writes opened k s w place taken all ends j =
    let moved = reads_writes_down s w j.reads in
    record {
      counts = totals_writes_down opened k s w taken all ends j.counts;
      reads = record { answered = moved.answered; asked = moved.asked; parts = moved.parts; answers = moved.answers; requests = moved.requests };
      waits = record { numbers = j.waits.numbers; xids = j.waits.xids; calls_below = j.waits.calls_below; reads_below = j.waits.reads_below; ready_apart = j.waits.ready_apart; ready_calls = j.waits.ready_calls; whole_calls = j.waits.whole_calls };
      sinks = j.sinks;
      regions = record { stags = j.regions.stags; calls = j.regions.calls };
      limits = record { up = j.limits.up; down = j.limits.down };
    }

-- what it is told changes its credits alone
pub totals_told : (opened : LinkParameters) (k : ClientState) (s : ServerState) (w : Transit) (what : Told) → TotalsAgree k s w → TotalsAgree k (server_state_after opened s (ServerTold what)) w
unfolding server_state_after
totals_told opened k s w what c = record {
  hello = c.hello;
  calls_up = c.calls_up;
  messages_down = c.messages_down;
  sends = c.sends;
  messages = c.messages;
  all_sends = c.all_sends;
  within_up = c.within_up;
  within_down = c.within_down;
  out = c.out;
  waiting = c.waiting;
  whole_up = c.whole_up;
  whole_down = c.whole_down;
  reads = c.reads;
  responses = c.responses;
}

pub pending_told : (opened : LinkParameters) (s : ServerState) (what : Told) → PendingAgree s → PendingAgree (server_state_after opened s (ServerTold what))
unfolding server_state_after
pending_told opened s what h =
    record { numbers = h.numbers; xids = h.xids; calls_below = h.calls_below; reads_below = h.reads_below; ready_apart = h.ready_apart; ready_calls = h.ready_calls; whole_calls = h.whole_calls }

pub server_told : (opened : LinkParameters) (k : ClientState) (s : ServerState) (w : Transit) (place : ℕ) (what : Told) → ServerAgrees opened k s w place → ServerAgrees opened k (server_state_after opened s (ServerTold what)) w place
unfolding server_state_after
server_told opened k s w place what j = record {
  counts = totals_told opened k s w what j.counts;
  reads = record { answered = j.reads.answered; asked = j.reads.asked; parts = j.reads.parts; answers = j.reads.answers; requests = j.reads.requests };
  waits = pending_told opened s what j.waits;
  sinks = j.sinks;
  regions = record { stags = j.regions.stags; calls = j.regions.calls };
  limits = record { up = j.limits.up; down = j.limits.down };
}
