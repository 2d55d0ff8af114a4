-- While a side hasn't ended, its state counts the bytes that it wrote and the bytes of its output that are due.
use Rattle.std.proofs.Common.{◌≡◌, ℕ, ◌+◌, Bool, true, false, cond, ◌&&◌, eqb, List, [], ◌∷◌, ◌++◌, length, map, Option, None, Some, Result, Ok, Err, refl, sym, ap, ◌∙◌, arith, length-append}
use Rattle.std.specs.List.{flat_map}
use Rattle.nr_wire.specs.declared.hello.Side.{Side}
use Rattle.nr_wire.specs.declared.hello.Side.TheVariants.{Initiator, Responder}
use Rattle.nr_wire.specs.Segment.{Segment}
use Rattle.nr_link.specs.declared.end.End.{End}
use Rattle.nr_link.specs.Frames.{Frame, is_hello, frames_completed}
use Rattle.nr_link.specs.ReceiveState.{ReadRequest, message_completed, read_request_of}
use Rattle.nr_reduce.specs.Hellos.{client_hello}
use Rattle.nr_reduce.specs.declared.call.Submission.TheVariants as submissions
use Rattle.nr_reduce.specs.declared.mark.Mark.{Mark}
use Rattle.nr_reduce.specs.declared.mark.Mark.TheVariants as marks
use Rattle.nr_reduce.specs.declared.mark.LinkParameters.{LinkParameters}
use Rattle.nr_wire.specs.Hello.{peer}
use Rattle.nr_reduce.specs.History.{same_side, written_at, bytes_sent, bytes_received}
use Rattle.nr_reduce.specs.Events.{RunEvent, if_own, events_at, events_from, events}
use Rattle.nr_reduce.specs.Events.RunEvent.{FrameReceived, CallSubmitted, MemoryRevoked, CallExecuted, QueueWritten, ServerTold}
use Rattle.nr_reduce.specs.EndRules.{EndMachine, EndState, live, next_end_state_by, end_state_after, output_for_by, output_for_all}
use Rattle.nr_reduce.specs.ClientState.{ClientState}
use Rattle.nr_reduce.specs.Client.{client_rules, client_state_after, initial_client, due_with_response, with_hello, with_message, with_request, with_segment, client_segment}
use Rattle.nr_reduce.specs.ServerState.{ServerState}
use Rattle.nr_reduce.specs.Server.{server_rules, server_state_after, initial_server, with_effect, with_own_hello}
use Rattle.nr_reduce.specs.ServerFrames.{frame_effect}
use Rattle.nr_reduce.specs.Run.{client, server, output_due}
use Rattle.nr_reduce.proofs.Steps.{ended_stays}
use Rattle.nr_reduce.proofs.OwnStags.{kept_after}
use Rattle.nr_reduce.proofs.WholeWrotes.{ClientEnds, ServerEnds, client_ends, server_ends, client_due, server_due}

pub some_none : (end : End) → Some end ≡ None → ⊥
some_none end e = absurd cc

-- ---- What is due

module _ {S : Type 0} (rules : EndMachine S) (due : S → ℕ) (step : (s : S) (e : RunEvent) → due (rules.state_after s e) ≡ due s + length (rules.output_at s e)) where
  pub due_along : (s : S) (es : List RunEvent) → (end_state_after rules (live s) es).ended ≡ None → due (end_state_after rules (live s) es).state ≡ due s + length (output_for_all rules (live s) es)
  due_along s [] stays = omega arith
  due_along s (e ∷ es) stays = by (λ live_still. due_along (rules.state_after s e) es live_still) (rules.end_at s e) stays
    where
      t : S
      t = rules.state_after s e

      by : ((end_state_after rules (live t) es).ended ≡ None → due (end_state_after rules (live t) es).state ≡ due t + length (output_for_all rules (live t) es))
          → (o : Option End) → (end_state_after rules (next_end_state_by rules s e o) es).ended ≡ None
          → due (end_state_after rules (next_end_state_by rules s e o) es).state ≡ due s + length (output_for_by rules s e o ++ output_for_all rules (next_end_state_by rules s e o) es)
      by later None live_still = omega (arith, later live_still, step s e, length-append (rules.output_at s e) (output_for_all rules (live t) es))
      by later (Some end) ended = absurd (some_none end (sym (ap (λ (r : EndState S). r.ended) (ended_stays rules s end es).0) ∙ ended))

-- ---- What is written

abbrev taken_by : RunEvent → ℕ
taken_by (FrameReceived f) = 0
taken_by (CallSubmitted place a) = 0
taken_by (MemoryRevoked place xid) = 0
taken_by (CallExecuted call) = 0
taken_by (QueueWritten taken) = taken
taken_by (ServerTold what) = 0

abbrev taken_in : List RunEvent → ℕ
taken_in [] = 0
taken_in (e ∷ es) = taken_by e + taken_in es

module _ {S : Type 0} (rules : EndMachine S) (written : S → ℕ) (step : (s : S) (e : RunEvent) → written (rules.state_after s e) ≡ written s + taken_by e) where
  written_along : (s : S) (es : List RunEvent) → (end_state_after rules (live s) es).ended ≡ None → written (end_state_after rules (live s) es).state ≡ written s + taken_in es
  written_along s [] stays = omega arith
  written_along s (e ∷ es) stays = by (λ live_still. written_along (rules.state_after s e) es live_still) (rules.end_at s e) stays
    where
      t : S
      t = rules.state_after s e

      by : ((end_state_after rules (live t) es).ended ≡ None → written (end_state_after rules (live t) es).state ≡ written t + taken_in es)
          → (o : Option End) → (end_state_after rules (next_end_state_by rules s e o) es).ended ≡ None
          → written (end_state_after rules (next_end_state_by rules s e o) es).state ≡ written s + (taken_by e + taken_in es)
      by later None live_still = omega (arith, later live_still, step s e)
      by later (Some end) ended = absurd (some_none end (sym (ap (λ (r : EndState S). r.ended) (ended_stays rules s end es).0) ∙ ended))

taken_append : (es fs : List RunEvent) → taken_in (es ++ fs) ≡ taken_in es + taken_in fs
taken_append [] fs = omega arith
taken_append (e ∷ es) fs = omega (arith, taken_append es fs)

none_taken_lem : (b : Bool) (es : List RunEvent) → taken_in es ≡ 0 → taken_in (if_own b es) ≡ 0
none_taken_lem true es h = h
none_taken_lem false es h = refl

frames_taken : (fs : List Frame) → taken_in (map FrameReceived fs) ≡ 0
frames_taken [] = refl
frames_taken (f ∷ fs) = omega (arith, frames_taken fs)

taken_at : (link : ℕ) (side : Side) (before : List Mark) (mark : Mark) → taken_in (events_at link side before mark) ≡ length (written_at link side mark)
taken_at link side before (marks.Fed l s bytes) =
    let fs = frames_completed (peer side) (bytes_received link side before) bytes in
    none_taken_lem (eqb l link && same_side s side) (map FrameReceived fs) (frames_taken fs)
taken_at link side before (marks.Wrote l s bytes) = by (eqb l link && same_side s side)
  where
    by : (b : Bool) → taken_in (if_own b (QueueWritten (length bytes) ∷ [])) ≡ length (cond b bytes [])
    by true = omega arith
    by false = refl
taken_at link side before (marks.Submit l call form (submissions.Accepted xid)) =
    none_taken_lem (eqb l link && same_side Initiator side) (CallSubmitted (length (bytes_received link side before)) (record { xid = xid; call = call; form = form }) ∷ []) refl
taken_at link side before (marks.Submit l call form (submissions.Refused why)) = refl
taken_at link side before (marks.Submit l call form submissions.Dropped) = refl
taken_at link side before (marks.Execute l xid moment payload at reply) =
    none_taken_lem (eqb l link && same_side Responder side) (CallExecuted (record { xid = xid; moment = moment; payload = payload; place = at; reply = reply }) ∷ []) refl
taken_at link side before (marks.Revoke l xid bytes) = none_taken_lem (eqb l link && same_side Initiator side) (MemoryRevoked (length (bytes_received link side before)) xid ∷ []) refl
taken_at link side before (marks.Done l xid outcome) = refl
taken_at link side before (marks.Lost l xid) = refl
taken_at link side before (marks.Forget l xid) = refl
taken_at link side before (marks.Drop l) = refl
taken_at link side before (marks.Told l what) = none_taken_lem (eqb l link && same_side Responder side) (ServerTold what ∷ []) refl

taken_from : (link : ℕ) (side : Side) (before run : List Mark) → taken_in (events_from link side before run) ≡ length (flat_map (written_at link side) run)
taken_from link side before [] = refl
taken_from link side before (m ∷ run) =
    taken_append (events_at link side before m) (events_from link side (before ++ m ∷ []) run)
    ∙ omega (arith, taken_at link side before m, taken_from link side (before ++ m ∷ []) run, length-append (written_at link side m) (flat_map (written_at link side) run))

taken_sent : (link : ℕ) (side : Side) (run : List Mark) → taken_in (events link side run) ≡ length (bytes_sent link side run)
unfolding events bytes_sent
taken_sent link side run = taken_from link side [] run

-- ---- Of a client

client_writes : (opened : LinkParameters) (k : ClientState) (e : RunEvent) → (client_state_after opened k e).written ≡ k.written + taken_by e
unfolding client_state_after
client_writes opened k (FrameReceived f) = by (is_hello f)
  where
    by_message : (m : Option (List ℕ)) (due : ℕ) (q : Option ReadRequest) → (with_request (with_message k f.end m) due q).written ≡ k.written + 0
    by_message None due None = omega arith
    by_message None due (Some q) = omega arith
    by_message (Some m) due None = omega arith
    by_message (Some m) due (Some q) = omega arith

    by_segment : (r : Result Segment ℕ) → (with_segment k f r).written ≡ k.written + 0
    by_segment (Err reason) = omega arith
    by_segment (Ok segment) = by_message (message_completed k.received segment) (due_with_response k f segment) (read_request_of segment)

    by : (b : Bool) → (cond b (with_hello opened k f) (with_segment k f (client_segment k f))).written ≡ k.written + 0
    by true = omega arith
    by false = by_segment (client_segment k f)
client_writes opened k (CallSubmitted place a) = omega arith
client_writes opened k (MemoryRevoked place xid) = omega arith
client_writes opened k (CallExecuted call) = omega arith
client_writes opened k (QueueWritten taken) = refl
client_writes opened k (ServerTold what) = omega arith

pub client_bytes_written : (opened : LinkParameters) (link : ℕ) (run : List Mark) → (client opened link run).ended ≡ None → (client opened link run).state.written ≡ length (bytes_sent link Initiator run)
unfolding client
client_bytes_written opened link run stays =
    let all = written_along (client_rules opened) (λ (k : ClientState). k.written) (client_writes opened) (initial_client opened).state (events link Initiator run) stays in
    omega (arith, all, taken_sent link Initiator run)

pub client_bytes_due : (opened : LinkParameters) (link : ℕ) (run : List Mark) → (client opened link run).ended ≡ None → (client opened link run).state.due ≡ length (output_due opened link Initiator run)
unfolding client output_due
client_bytes_due opened link run stays =
    due_along (client_rules opened) (λ (k : ClientState). k.due) (client_due opened) (initial_client opened).state (events link Initiator run) stays
    ∙ sym (length-append (client_hello opened) (output_for_all (client_rules opened) (initial_client opened) (events link Initiator run)))

pub client_ends_within : (opened : LinkParameters) (link : ℕ) (run : List Mark) → ClientEnds (client opened link run).state
unfolding client
client_ends_within opened link run = kept_after (client_rules opened) ClientEnds (client_ends opened) (initial_client opened) (events link Initiator run) (record { sends = tt; responses = tt })

-- ---- Of a server

server_writes : (opened : LinkParameters) (k : ServerState) (e : RunEvent) → (server_state_after opened k e).written ≡ k.written + taken_by e
unfolding server_state_after
server_writes opened k (FrameReceived f) = by (is_hello f)
  where
    by : (b : Bool) → (cond b (with_own_hello opened k f) (with_effect k f (frame_effect k f))).written ≡ k.written + 0
    by true = omega arith
    by false = omega arith
server_writes opened k (CallSubmitted place a) = omega arith
server_writes opened k (MemoryRevoked place xid) = omega arith
server_writes opened k (CallExecuted e) = omega arith
server_writes opened k (QueueWritten taken) = refl
server_writes opened k (ServerTold what) = omega arith

pub server_bytes_written : (opened : LinkParameters) (link : ℕ) (run : List Mark) → (server opened link run).ended ≡ None → (server opened link run).state.written ≡ length (bytes_sent link Responder run)
unfolding server
server_bytes_written opened link run stays =
    let all = written_along (server_rules opened) (λ (k : ServerState). k.written) (server_writes opened) (initial_server opened).state (events link Responder run) stays in
    omega (arith, all, taken_sent link Responder run)

pub server_bytes_due : (opened : LinkParameters) (link : ℕ) (run : List Mark) → (server opened link run).ended ≡ None → (server opened link run).state.due ≡ length (output_due opened link Responder run)
unfolding server output_due
server_bytes_due opened link run stays =
    let all = due_along (server_rules opened) (λ (k : ServerState). k.due) (server_due opened) (initial_server opened).state (events link Responder run) stays in
    omega (arith, all)

pub server_ends_within : (opened : LinkParameters) (link : ℕ) (run : List Mark) → ServerEnds (server opened link run).state
unfolding server
server_ends_within opened link run = kept_after (server_rules opened) ServerEnds (server_ends opened) (initial_server opened) (events link Responder run) (record { messages = tt })
