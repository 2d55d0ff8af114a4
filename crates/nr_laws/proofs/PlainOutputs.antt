-- No segment that a client writes is of a Send with Invalidate, and none that a server writes for a frame.
use Rattle.std.proofs.Common.{◌≡◌, ℕ, ◌+◌, Bool, true, false, cond, ◌&&◌, eqb, List, [], ◌∷◌, ◌++◌, map, take, drop, Option, None, Some, refl, ap, subst}
use Rattle.std.specs.List.{range_with_len}
use Rattle.nr_wire.specs.declared.hello.Side.TheVariants.{Initiator}
use Rattle.nr_wire.specs.Constants.{OPCODE_SEND_INVALIDATE}
use Rattle.nr_wire.specs.Segment.{Segment, opcode_in}
use Rattle.nr_wire.specs.Segment.Segment.{Tagged, Untagged}
use Rattle.nr_link.specs.declared.end.End.{End as Stop}
use Rattle.nr_link.specs.declared.end.End.TheVariants as ends
use Rattle.nr_link.specs.Frames.{is_hello}
use Rattle.nr_link.specs.Output.{segment_count}
use Rattle.nr_link.specs.ReceiveState.{ReadRequest, stag_invalidated}
use Rattle.nr_link.specs.Ending.{is_hello_reason}
use Rattle.nr_reduce.specs.declared.mark.Mark.{Mark}
use Rattle.nr_reduce.specs.declared.mark.LinkParameters.{LinkParameters}
use Rattle.nr_reduce.specs.Events.{RunEvent, events}
use Rattle.nr_reduce.specs.Events.RunEvent.{FrameReceived, CallSubmitted, MemoryRevoked, CallExecuted, QueueWritten, ServerTold}
use Rattle.nr_reduce.specs.EndRules.{EndState, next_end_state}
use Rattle.nr_reduce.specs.ClientState.{ClientState, OutstandingCall, client_memory_at}
use Rattle.nr_reduce.specs.ServerState.{PendingRead, ServerState}
use Rattle.nr_reduce.specs.ServerFrames.{FrameEffect}
use Rattle.nr_reduce.specs.Server.{newly_open_reads}
use Rattle.nr_reduce.specs.Client.{client_segment, client_rules, client_end, initial_client, segment_request, outstanding_of}
use Rattle.nr_laws.specs.MessageSegments.{message_segment}
use Rattle.nr_laws.proofs.Outputs.{Output, message_outputs, message_of_call, call_sends, message_sends, one_response, response_outputs, request_outputs, effect_outputs, terminate_segment, final_outputs, client_says}
use Rattle.nr_laws.proofs.Outputs.Output.{AHello, ASegment}
use Rattle.nr_laws.proofs.EventOutputs.{outputs_by, outputs_in, outputs_for, outputs_all}
use Rattle.nr_laws.proofs.ClientRun.{client_outs}

abbrev pub IsPlain : Segment → Type 0
IsPlain s = eqb (opcode_in s) OPCODE_SEND_INVALIDATE ≡ false

abbrev pub ArePlain : List Output → Type 0
ArePlain [] = Unit {0}
ArePlain (AHello bytes ∷ outs) = ArePlain outs
ArePlain (ASegment s ∷ outs) = IsPlain s × ArePlain outs

plain_append : (xs ys : List Output) → ArePlain xs → ArePlain ys → ArePlain (xs ++ ys)
plain_append [] ys h g = g
plain_append (AHello bytes ∷ xs) ys h g = plain_append xs ys h g
plain_append (ASegment s ∷ xs) ys h g = (h.0, plain_append xs ys h.1 g)

pub plain_first : (xs ys : List Output) → ArePlain (xs ++ ys) → ArePlain xs
plain_first [] ys h = tt
plain_first (AHello bytes ∷ xs) ys h = plain_first xs ys h
plain_first (ASegment s ∷ xs) ys h = (h.0, plain_first xs ys h.1)

plain_made : (f : ℕ → Segment) (is : List ℕ) → ((i : ℕ) → IsPlain (f i)) → ArePlain (map ASegment (map f is))
plain_made f [] each = tt
plain_made f (i ∷ is) each = (each i, plain_made f is each)

pub plain_message : (msn : ℕ) (message : List ℕ) → ArePlain (message_outputs msn message)
plain_message msn message = plain_made (message_segment msn message) (range_with_len 0 (segment_count message)) (λ i. refl)

plain_calls : (opened : LinkParameters) (msn : ℕ) (os : List OutstandingCall) → ArePlain (call_sends opened msn os)
plain_calls opened msn [] = tt
plain_calls opened msn (o ∷ os) = plain_append (message_outputs msn (message_of_call opened o)) (call_sends opened (msn + 1) os) (plain_message msn (message_of_call opened o)) (plain_calls opened (msn + 1) os)

plain_response : (k : ClientState) (place : ℕ) (o : Option ReadRequest) → ArePlain (response_outputs k place o)
plain_response k place None = tt
plain_response k place (Some r) =
    let held : List ℕ = take r.size (drop r.to (client_memory_at k place r.stag)) in
    plain_made (one_response r.sink r.sink_to held) (range_with_len 0 (segment_count held)) (λ i. refl)

plain_final : (end : Stop) → ArePlain (final_outputs end)
plain_final (ends.Bad at reason) = by (is_hello_reason reason)
  where
    by : (b : Bool) → ArePlain (cond b [] (ASegment (terminate_segment reason) ∷ []))
    by true = tt
    by false = (refl, tt)
plain_final (ends.Denied stag offset why) = (refl, tt)
plain_final (ends.NoBuffer msn) = (refl, tt)
plain_final (ends.Terminated reason) = tt
plain_final ends.Memory = tt

plain_says : (opened : LinkParameters) (k : ClientState) (e : RunEvent) → ArePlain (client_says opened k e)
unfolding client_says
plain_says opened k (FrameReceived f) = by (is_hello f)
  where
    by : (b : Bool) → ArePlain (cond b (call_sends opened 1 k.outstanding) (response_outputs k f.end (segment_request (client_segment k f))))
    by true = plain_calls opened 1 k.outstanding
    by false = plain_response k f.end (segment_request (client_segment k f))
plain_says opened k (CallSubmitted place a) = by k.has_hello
  where
    by : (b : Bool) → ArePlain (cond b (message_outputs (k.sends + 1) (message_of_call opened (outstanding_of k a))) [])
    by true = plain_message (k.sends + 1) (message_of_call opened (outstanding_of k a))
    by false = tt
plain_says opened k (MemoryRevoked place xid) = tt
plain_says opened k (CallExecuted call) = tt
plain_says opened k (QueueWritten taken) = tt
plain_says opened k (ServerTold what) = tt

plain_by : (opened : LinkParameters) (k : ClientState) (e : RunEvent) (o : Option Stop) → ArePlain (outputs_by (client_rules opened) (client_says opened) final_outputs k e o)
plain_by opened k e None = plain_says opened k e
plain_by opened k e (Some end) = plain_final end

plain_in : (opened : LinkParameters) (k : ClientState) (e : RunEvent) (ended : Option Stop) → ArePlain (outputs_in (client_rules opened) (client_says opened) final_outputs k e ended)
plain_in opened k e None = plain_by opened k e (client_end k e)
plain_in opened k e (Some end) = tt

plain_all : (opened : LinkParameters) (r : EndState ClientState) (es : List RunEvent) → ArePlain (outputs_all (client_rules opened) (client_says opened) final_outputs r es)
plain_all opened r [] = tt
plain_all opened r (e ∷ es) =
    plain_append (outputs_for (client_rules opened) (client_says opened) final_outputs r e) (outputs_all (client_rules opened) (client_says opened) final_outputs (next_end_state (client_rules opened) r e) es)
    (plain_in opened r.state e r.ended) (plain_all opened (next_end_state (client_rules opened) r e) es)

pub client_plain : (opened : LinkParameters) (link : ℕ) (run : List Mark) → ArePlain (client_outs opened link run)
unfolding client_outs
client_plain opened link run = plain_all opened (initial_client opened) (events link Initiator run)

-- ---- A server, for a frame

plain_sends : (msn : ℕ) (ms : List (List ℕ)) → ArePlain (message_sends msn ms)
plain_sends msn [] = tt
plain_sends msn (m ∷ ms) = plain_append (message_outputs msn m) (message_sends (msn + 1) ms) (plain_message msn m) (plain_sends (msn + 1) ms)

plain_requests : (msn : ℕ) (reads : List PendingRead) → ArePlain (request_outputs msn reads)
plain_requests msn [] = tt
plain_requests msn (r ∷ reads) = (refl, plain_requests (msn + 1) reads)

pub plain_effect : (k : ServerState) (s : FrameEffect) → ArePlain (effect_outputs k s)
plain_effect k s =
    plain_append (message_sends (k.messages_queued + 1) s.errors) (request_outputs (k.requests_sent + 1) (newly_open_reads s)) (plain_sends (k.messages_queued + 1) s.errors) (plain_requests (k.requests_sent + 1) (newly_open_reads s))

-- such a segment names no STag
names_no_stag : (s : Segment) → IsPlain s → stag_invalidated s ≡ None
names_no_stag (Tagged last opcode stag to payload) h = refl
names_no_stag (Untagged last opcode w queue msn offset payload) h = ap (λ (b : Bool). cond (b && last) (Some w) None) h

plain_one : (pre : List Output) (s : Segment) (post : List Output) → ArePlain (pre ++ ASegment s ∷ post) → IsPlain s
plain_one [] s post h = h.0
plain_one (AHello bytes ∷ pre) s post h = plain_one pre s post h
plain_one (ASegment x ∷ pre) s post h = plain_one pre s post h.1

pub names_none_at : (outs pre : List Output) (s : Segment) (post : List Output) → outs ≡ pre ++ ASegment s ∷ post → ArePlain outs → stag_invalidated s ≡ None
names_none_at outs pre s post is h = names_no_stag s (plain_one pre s post (subst ArePlain is h))
