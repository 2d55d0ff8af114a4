-- A message that names an STag is judged as one that names none, unless the STag isn't of its call.
use Rattle.std.proofs.Common.{◌≡◌, ◌≢◌, ℕ, Bool, true, false, cond, List, Option, None, Result, sym, ap}
use Rattle.nr_wire.specs.Segment.{Segment}
use Rattle.nr_link.specs.declared.end.End.{End as Stop}
use Rattle.nr_link.specs.Frames.{Frame}
use Rattle.nr_link.specs.Reasons.{REASON_INVALIDATED}
use Rattle.nr_reduce.specs.ClientState.{ClientState}
use Rattle.nr_reduce.specs.ClientMessages.{ReplyVerdict, reply_verdict, invalidates_another, message_verdict}
use Rattle.nr_reduce.specs.ClientMessages.ReplyVerdict.{EndsLink}
use Rattle.nr_reduce.specs.Client.{client_message_end, end_of_verdict, segment_message, segment_names}

-- why a client ends for the message that a segment completes
abbrev pub message_end_in : ClientState → Frame → Result Segment ℕ → Option Stop
message_end_in k f r = client_message_end k f (segment_names r) (segment_message k r)

other_reason : (b : Bool) (v : ReplyVerdict) (reason : ℕ) → reason ≢ REASON_INVALIDATED → cond b (EndsLink REASON_INVALIDATED) v ≡ EndsLink reason → v ≡ EndsLink reason
other_reason true v reason other is = absurd (other (let same : REASON_INVALIDATED ≡ reason = cc in sym same))
other_reason false v reason other is = is

pub ends_as_plain : (k : ClientState) (place : ℕ) (named : Option ℕ) (message : List ℕ) (reason : ℕ) → reason ≢ REASON_INVALIDATED → message_verdict k place named message ≡ EndsLink reason → reply_verdict k place message ≡ EndsLink reason
unfolding message_verdict
ends_as_plain k place named message reason other is = other_reason (invalidates_another k named message) (reply_verdict k place message) reason other is

no_end : (f : Frame) (b : Bool) (v : ReplyVerdict) → end_of_verdict f (cond b (EndsLink REASON_INVALIDATED) v) ≡ None → end_of_verdict f v ≡ None
no_end f true v is = absurd cc
no_end f false v is = is

-- one that doesn't end the client doesn't as one that names none
pub stays_as_plain : (k : ClientState) (f : Frame) (named : Option ℕ) (message : List ℕ) → end_of_verdict f (message_verdict k f.end named message) ≡ None → end_of_verdict f (reply_verdict k f.end message) ≡ None
unfolding message_verdict
stays_as_plain k f named message is = no_end f (invalidates_another k named message) (reply_verdict k f.end message) is

-- and one that names an STag of its call, or none, is judged as it is
pub judged_as_plain : (k : ClientState) (place : ℕ) (named : Option ℕ) (message : List ℕ) → invalidates_another k named message ≡ false → message_verdict k place named message ≡ reply_verdict k place message
unfolding message_verdict
judged_as_plain k place named message own = ap (λ (b : Bool). cond b (EndsLink REASON_INVALIDATED) (reply_verdict k place message)) own
