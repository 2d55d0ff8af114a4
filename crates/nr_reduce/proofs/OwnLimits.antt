-- The limits of Sends in each reachable state are from one unit to UNITS_MAX of them.
use Rattle.std.proofs.Common.{◌≡◌, ℕ, Bool, true, false, cond, eqb, List, [], ◌∷◌, Option, None, Some, Result, Ok, Err, sym, ◌∙◌, arith}
use Rattle.std.proofs.lemmas.Bool.{eq-eqb}
use Rattle.nr_wire.specs.declared.hello.Side.TheVariants.{Initiator, Responder}
use Rattle.nr_wire.specs.Segment.{Segment}
use Rattle.nr_link.specs.Frames.{Frame, is_hello}
use Rattle.nr_link.specs.ReceiveState.{ReadRequest, message_completed, read_request_of}
use Rattle.nr_reduce.specs.declared.mark.Mark.{Mark}
use Rattle.nr_reduce.specs.declared.mark.LinkParameters.{LinkParameters}
use Rattle.nr_reduce.specs.declared.call.Call.{Call}
use Rattle.nr_reduce.specs.declared.call.Form.{Form}
use Rattle.nr_reduce.specs.declared.outline.Plan.{Plan}
use Rattle.nr_link.specs.Agreement.{IsSendLimit}
use Rattle.nr_link.proofs.Agreements.{agreements_bounded}
use Rattle.nr_reduce.specs.Hellos.{client_private, private_of, server_private, client_agreement, server_agreement}
use Rattle.nr_reduce.specs.Limits.{send_unit}
use Rattle.nr_reduce.specs.Plans.{plan_of}
use Rattle.nr_reduce.specs.Events.{RunEvent, events}
use Rattle.nr_reduce.specs.Events.RunEvent.{FrameReceived, CallSubmitted, MemoryRevoked, CallExecuted, QueueWritten, ServerTold}
use Rattle.nr_reduce.specs.EndRules.{end_state_after}
use Rattle.nr_reduce.specs.ClientState.{WaitingCall, ClientState, first_of, call_payload, plan_unless, plan_for}
use Rattle.nr_reduce.specs.SubmitAnswer.{first_xid_or, next_sent_xid}
use Rattle.nr_reduce.specs.Asked.{IsPlannedAs, IsResent}
use Rattle.nr_reduce.specs.Client.{client_rules, client_state_after, initial_client, with_hello, with_message, with_request, with_segment, due_with_response, client_segment}
use Rattle.nr_reduce.specs.ServerState.{ServerState}
use Rattle.nr_reduce.specs.Server.{server_rules, server_state_after, initial_server, with_own_hello, with_effect}
use Rattle.nr_reduce.specs.ServerFrames.{frame_effect}
use Rattle.nr_reduce.specs.Run.{client, server}
use Rattle.nr_reduce.proofs.OwnStags.{kept_after}

one_unit : IsSendLimit send_unit
one_unit = (omega arith, omega arith)

pub record ClientLimits (k : ClientState) : Type 0 where
  pub up : IsSendLimit k.up_max
  pub down : IsSendLimit k.down_max

pub record ServerLimits (k : ServerState) : Type 0 where
  pub up : IsSendLimit k.up_max
  pub down : IsSendLimit k.down_max

request_limits : (m : ClientState) (due : ℕ) (o : Option ReadRequest) → ClientLimits m → ClientLimits (with_request m due o)
request_limits m due None h = h
request_limits m due (Some q) h = record { up = h.up; down = h.down }

message_limits : (k : ClientState) (place : ℕ) (o : Option (List ℕ)) → ClientLimits k → ClientLimits (with_message k place o)
message_limits k place None h = h
message_limits k place (Some m) h = record { up = h.up; down = h.down }

segment_limits : (k : ClientState) (f : Frame) (r : Result Segment ℕ) → ClientLimits k → ClientLimits (with_segment k f r)
segment_limits k f (Err reason) h = h
segment_limits k f (Ok s) h =
    let m = request_limits (with_message k f.end (message_completed k.received s)) (due_with_response k f s) (read_request_of s) (message_limits k f.end (message_completed k.received s) h) in
    record { up = m.up; down = m.down }

client_event : (opened : LinkParameters) (k : ClientState) (e : RunEvent) → ClientLimits k → ClientLimits (client_state_after opened k e)
unfolding client_state_after client_agreement
client_event opened k (FrameReceived f) h = by (is_hello f)
  where
    by : (b : Bool) → ClientLimits (cond b (with_hello opened k f) (with_segment k f (client_segment k f)))
    by true = (let a = agreements_bounded (client_private opened) (private_of f) in record { up = a.0; down = a.1 })
    by false = segment_limits k f (client_segment k f) h
client_event opened k (CallSubmitted p a) h = record { up = h.up; down = h.down }
client_event opened k (MemoryRevoked p xid) h = record { up = h.up; down = h.down }
client_event opened k (CallExecuted e) h = h
client_event opened k (QueueWritten taken) h = record { up = h.up; down = h.down }
client_event opened k (ServerTold what) h = record { up = h.up; down = h.down }

pub client_limits : (opened : LinkParameters) (es : List RunEvent) → ClientLimits (end_state_after (client_rules opened) (initial_client opened) es).state
client_limits opened es = kept_after (client_rules opened) ClientLimits (client_event opened) (initial_client opened) es (record { up = one_unit; down = one_unit })

pub client_limits_of : (opened : LinkParameters) (link : ℕ) (run : List Mark) → ClientLimits (client opened link run).state
unfolding client
client_limits_of opened link run = client_limits opened (events link Initiator run)

pub server_event : (opened : LinkParameters) (k : ServerState) (e : RunEvent) → ServerLimits k → ServerLimits (server_state_after opened k e)
unfolding server_state_after server_agreement
server_event opened k (FrameReceived f) h = by (is_hello f)
  where
    by : (b : Bool) → ServerLimits (cond b (with_own_hello opened k f) (with_effect k f (frame_effect k f)))
    by true = (let a = agreements_bounded (private_of f) (server_private opened f) in record { up = a.0; down = a.1 })
    by false = record { up = h.up; down = h.down }
server_event opened k (CallSubmitted p a) h = h
server_event opened k (MemoryRevoked p xid) h = h
server_event opened k (CallExecuted e) h = record { up = h.up; down = h.down }
server_event opened k (QueueWritten taken) h = record { up = h.up; down = h.down }
server_event opened k (ServerTold what) h = record { up = h.up; down = h.down }

pub server_limits : (opened : LinkParameters) (es : List RunEvent) → ServerLimits (end_state_after (server_rules opened) (initial_server opened) es).state
server_limits opened es = kept_after (server_rules opened) ServerLimits (server_event opened) (initial_server opened) es (record { up = one_unit; down = one_unit })

pub server_limits_of : (opened : LinkParameters) (link : ℕ) (run : List Mark) → ServerLimits (server opened link run).state
unfolding server
server_limits_of opened link run = server_limits opened (events link Responder run)

-- The plan of the call that is sent next is for lengths within these limits: for those of the state, or those for which it was planned before.
pub planned_as : (k : ClientState) (xid : ℕ) (call : Call) (form : Form) (plan : Plan) → ClientLimits k → xid ≡ next_sent_xid k → IsResent k.has_hello k.next_xid k.waiting call form → plan_for k xid call form ≡ Ok plan → IsPlannedAs xid call form plan
unfolding plan_for
planned_as k xid call form plan limits own again is = by k.waiting own again is
  where
    by : (ws : List WaitingCall) → xid ≡ first_xid_or k.next_xid ws → IsResent k.has_hello k.next_xid ws call form → plan_unless (first_of ws xid) (plan_of (call_payload xid call) form k.up_max k.down_max) ≡ Ok plan → IsPlannedAs xid call form plan
    by [] own again is = record { up = k.up_max; down = k.down_max; up_fits = limits.up; down_fits = limits.down; planned = is }
    by (w ∷ ws) own again is = same (eqb w.xid xid) (eq-eqb w.xid xid (sym own)) is
      where
        same : (b : Bool) → b ≡ true → plan_unless (cond b (Some w) None) (plan_of (call_payload xid call) form k.up_max k.down_max) ≡ Ok plan → IsPlannedAs xid call form plan
        same true e is =
            let first = again.planned in record {
              up = first.up;
              down = first.down;
              up_fits = first.up_fits;
              down_fits = first.down_fits;
              planned = (λ i. plan_of (call_payload (own i) (again.call_is i)) (again.form_is i) first.up first.down) ∙ first.planned ∙ is;
            }
        same false e is = absurd cc
