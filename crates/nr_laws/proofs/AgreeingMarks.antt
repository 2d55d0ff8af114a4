-- Each mark keeps what holds between both ends of a link.
use Rattle.std.proofs.Common.{◌≡◌, ◌≢◌, ℕ, ◌+◌, ◌≤◌, ◌<◌, eqb, List, [], ◌∷◌, ◌++◌, length, Option, Some, None, refl, sym, ap, subst, ◌∙◌, arith, append-nil, length-append}
use Rattle.std.specs.Prelude.{slice_get}
use Rattle.nr_xdr.specs.Item.{IsBytes}
use Rattle.nr_wire.specs.declared.hello.Side.TheVariants.{Initiator, Responder}
use Rattle.nr_wire.specs.declared.stream.Awaited.TheVariants.{Hello as HelloFrom}
use Rattle.nr_wire.specs.Stream.{split}
use Rattle.nr_link.specs.declared.end.End.{End}
use Rattle.nr_link.specs.Frames.{Frame}
use Rattle.nr_reduce.proofs.OwnLimits.{ClientLimits, ServerLimits, client_limits_of, server_limits_of}
use Rattle.nr_reduce.specs.declared.call.Call.{Call}
use Rattle.nr_reduce.specs.declared.call.Form.{Form}
use Rattle.nr_reduce.specs.declared.call.Submission.TheVariants as submissions
use Rattle.nr_outside.specs.declared.moment.Moment.{Moment}
use Rattle.nr_reduce.specs.declared.mark.Mark.{Mark}
use Rattle.nr_reduce.specs.declared.mark.Mark.TheVariants as marks
use Rattle.nr_reduce.specs.declared.mark.LinkParameters.{LinkParameters}
use Rattle.nr_reduce.specs.declared.mark.Told.{Told}
use Rattle.nr_reduce.specs.History.{AcceptedCall, ExecutedCall, bytes_sent, bytes_received, written_at, fed_at}
use Rattle.nr_reduce.specs.Events.{RunEvent, events_at}
use Rattle.nr_reduce.specs.Events.RunEvent.{FrameReceived, CallSubmitted, MemoryRevoked, CallExecuted, QueueWritten, ServerTold}
use Rattle.nr_reduce.specs.EndRules.{EndMachine, EndState, live, next_end_state_by, end_state_after, output_for_by, output_for_all}
use Rattle.nr_reduce.specs.ClientState.{ClientState, plan_for, stag_for}
use Rattle.nr_reduce.specs.Limits.{numbers_end}
use Rattle.nr_reduce.specs.Plans.{regions_needed}
use Rattle.nr_reduce.specs.ServerState.{ServerState, ReadyCall}
use Rattle.nr_reduce.specs.Client.{client_rules, client_end, client_state_after, client_output}
use Rattle.nr_reduce.specs.Server.{server_rules, server_end, server_state_after, server_output, told_end}
use Rattle.nr_reduce.specs.Run.{client, server, output_due}
use Rattle.nr_reduce.proofs.WholeWrotes.{ClientEnds, ServerEnds}
use Rattle.nr_reduce.proofs.CountedBytes.{client_bytes_written, client_bytes_due, client_ends_within, server_bytes_written, server_bytes_due, server_ends_within}
use Rattle.nr_reduce.specs.Opening.{IsOpened}
use Rattle.nr_reduce.specs.Credits.{WithinGrant, calls_outstanding, credits_granted}
use Rattle.nr_reduce.specs.Asked.{IsAccepted, IsResent}
use Rattle.nr_reduce.specs.Served.{IsExecuted, ToldInRange, first_ready, next_call}
use Rattle.nr_laws.proofs.FrameContents.{FrameContent, output_bytes, total_of, sends_in, requests_in, hellos_in}
use Rattle.nr_laws.proofs.FrameContents.FrameContent.{HelloFrame, PartFrame, SendFrame, RequestFrame, TaggedFrame}
use Rattle.nr_laws.proofs.LinkInvariants.{Transit}
use Rattle.nr_laws.proofs.PendingExecuted.{executed_there}
use Rattle.nr_laws.proofs.TotalsAtClient.{up_more}
use Rattle.nr_laws.proofs.Writable.{IsOutput, stream_left}
use Rattle.nr_laws.proofs.AgreeingEnds.{EndsAgree}
use Rattle.nr_laws.proofs.OwnEvents.{submitted, revoked, written_up, executed, written_down, told_linked, some_calls}
use Rattle.nr_laws.proofs.Guards.{Guards}
use Rattle.nr_laws.specs.Typed.{TypedMark}
use Rattle.nr_laws.specs.Stays.{NotRevokedMark}
use Rattle.nr_laws.proofs.OfferedAccesses.{AccessesAgree}
use Rattle.nr_laws.proofs.AccessesAtClient.{accessed_submit, accessed_written_up}
use Rattle.nr_laws.proofs.AccessesAtServer.{accessed_execute, accessed_written_down, accessed_told}
use Rattle.nr_laws.proofs.AccessSteps.{pending_unanswered}
use Rattle.nr_laws.proofs.GuardsAtEvents.{guards_submit, guards_revoke, guards_written_up, guards_execute, guards_written_down, guards_told}
use Rattle.nr_laws.proofs.AgreeingRuns.{RunAgrees, MarkAgrees, place_of, guards_up, guards_down, same_up_lem, same_down_lem, accesses_up, accesses_down, own_bytes, other_bytes, own_events, other_events}
use Rattle.nr_reduce.specs.SubmitAnswer.{next_sent_xid}
use Rattle.nr_laws.proofs.WaitingCalls.{accepted_stags}
use Rattle.nr_reduce.proofs.Steps.{server_one}

pub record OneEvent {S : Type 0} (rules : EndMachine S) (s : S) (event : RunEvent) : Type 0 where
  pub state : end_state_after rules (live s) (event ∷ []) ≡ live (rules.state_after s event)
  pub output : output_for_all rules (live s) (event ∷ []) ≡ rules.output_at s event

one_event : {S : Type 0} (rules : EndMachine S) (s : S) (event : RunEvent) → rules.end_at s event ≡ None → OneEvent rules s event
one_event rules s event none = record {
  state = ap (λ (x : Option End). next_end_state_by rules s event x) none;
  output = append-nil (output_for_by rules s event (rules.end_at s event)) ∙ ap (λ (x : Option End). output_for_by rules s event x) none;
}

pub client_event : (opened : LinkParameters) (k : ClientState) (event : RunEvent) → ((f : Frame) → event ≢ FrameReceived f) → OneEvent (client_rules opened) k event
unfolding client_end
client_event opened k (FrameReceived f) other = absurd (other f refl)
client_event opened k (CallSubmitted place a) other = one_event (client_rules opened) k (CallSubmitted place a) refl
client_event opened k (MemoryRevoked place xid) other = one_event (client_rules opened) k (MemoryRevoked place xid) refl
client_event opened k (CallExecuted call) other = one_event (client_rules opened) k (CallExecuted call) refl
client_event opened k (QueueWritten taken) other = one_event (client_rules opened) k (QueueWritten taken) refl
client_event opened k (ServerTold what) other = one_event (client_rules opened) k (ServerTold what) refl

-- what a server is told doesn't end it
abbrev pub IsQuietFor : ServerState → RunEvent → Type 0
IsQuietFor s (FrameReceived f) = Unit {0}
IsQuietFor s (CallSubmitted place a) = Unit {0}
IsQuietFor s (MemoryRevoked place xid) = Unit {0}
IsQuietFor s (CallExecuted call) = Unit {0}
IsQuietFor s (QueueWritten taken) = Unit {0}
IsQuietFor s (ServerTold what) = told_end s what ≡ None

pub server_event : (opened : LinkParameters) (s : ServerState) (event : RunEvent) → ((f : Frame) → event ≢ FrameReceived f) → IsQuietFor s event → OneEvent (server_rules opened) s event
unfolding server_end
server_event opened s (FrameReceived f) other quiet = absurd (other f refl)
server_event opened s (CallSubmitted place a) other quiet = one_event (server_rules opened) s (CallSubmitted place a) refl
server_event opened s (MemoryRevoked place xid) other quiet = one_event (server_rules opened) s (MemoryRevoked place xid) refl
server_event opened s (CallExecuted call) other quiet = one_event (server_rules opened) s (CallExecuted call) refl
server_event opened s (QueueWritten taken) other quiet = one_event (server_rules opened) s (QueueWritten taken) refl
server_event opened s (ServerTold what) other quiet = one_event (server_rules opened) s (ServerTold what) quiet

-- ---- A mark of which one side has one event, and that brings no bytes

none_more : (xs more : List ℕ) → more ≡ [] → xs ++ more ≡ xs
none_more xs more e = ap (λ (ys : List ℕ). xs ++ ys) e ∙ append-nil xs

client_preserves : (opened : LinkParameters) (link : ℕ) (run : List Mark) (mark : Mark) (j : RunAgrees opened link run) (event : RunEvent) (said : List FrameContent) (w : Transit) → ((f : Frame) → event ≢ FrameReceived f)
    → EndsAgree opened (client_state_after opened j.k event) j.s j.u j.d (j.all_up ++ said) j.all_down w → client_output opened j.k event ≡ output_bytes opened Initiator (total_of sends_in j.all_up) (total_of requests_in j.all_up) said
    → events_at link Initiator run mark ≡ event ∷ [] → events_at link Responder run mark ≡ [] → fed_at link Initiator mark ≡ [] → fed_at link Responder mark ≡ [] → written_at link Responder mark ≡ []
    → bytes_sent link Initiator run ++ written_at link Initiator mark ≡ output_bytes opened Initiator 0 0 (j.u ++ w.up) → w.down ≡ j.w.down
    → (IsOpened opened → WithinGrant opened link run mark → Guards opened j.k j.s j.u j.d j.all_up j.all_down j.w (place_of opened j.u) → Guards opened (client_state_after opened j.k event) j.s j.u j.d (j.all_up ++ said) j.all_down w (place_of opened j.u))
    → (TypedMark run mark → NotRevokedMark link run mark → AccessesAgree opened j.k j.s j.d j.all_up j.all_down (length (bytes_received link Initiator run))
    → AccessesAgree opened (client_state_after opened j.k event) j.s j.d (j.all_up ++ said) j.all_down (length (bytes_received link Initiator run)))
    → MarkAgrees opened link run mark j
client_preserves opened link run mark j event said w other linked output own theirs fed_i fed_r wrote_r sent same guarded accessed =
    let one = client_event opened j.k event other in
    record {
      k = client_state_after opened j.k event;
      s = j.s;
      u = j.u;
      d = j.d;
      said_up = said;
      said_down = [];
      w = w;
      linked = same_up_lem opened (client_state_after opened j.k event) j.s j.u j.d (j.all_up ++ said) j.all_down w linked;
      client = ap (λ (es : List RunEvent). end_state_after (client_rules opened) (live j.k) es) own ∙ one.state;
      server = ap (λ (es : List RunEvent). end_state_after (server_rules opened) (live j.s) es) theirs;
      output_up = ap (λ (es : List RunEvent). output_for_all (client_rules opened) (live j.k) es) own ∙ one.output ∙ output;
      output_down = ap (λ (es : List RunEvent). output_for_all (server_rules opened) (live j.s) es) theirs;
      frames_up = ap (λ (xs : List ℕ). (split (HelloFrom Initiator) xs).frames) (none_more (bytes_received link Responder run) (fed_at link Responder mark) fed_r) ∙ j.frames_up;
      frames_down = ap (λ (xs : List ℕ). (split (HelloFrom Responder) xs).frames) (none_more (bytes_received link Initiator run) (fed_at link Initiator mark) fed_i) ∙ j.frames_down;
      sent_up = sent;
      sent_down = none_more (bytes_sent link Responder run) (written_at link Responder mark) wrote_r ∙ j.sent_down ∙ ap (λ (ps : List FrameContent). output_bytes opened Responder 0 0 (j.d ++ ps)) (sym same);
      bytes_up = subst IsBytes (sym (none_more (bytes_received link Responder run) (fed_at link Responder mark) fed_r)) j.bytes_up;
      bytes_down = subst IsBytes (sym (none_more (bytes_received link Initiator run) (fed_at link Initiator mark) fed_i)) j.bytes_down;
      guarded = λ o within g. guards_up opened (client_state_after opened j.k event) j.s j.u j.d (j.all_up ++ said) j.all_down w (place_of opened j.u) (guarded o within g);
      accessed = λ o typed kept g h. accesses_up opened (client_state_after opened j.k event) j.s j.d (j.all_up ++ said) j.all_down (length (bytes_received link Initiator run)) (accessed typed kept h);
    }

server_preserves : (opened : LinkParameters) (link : ℕ) (run : List Mark) (mark : Mark) (j : RunAgrees opened link run) (event : RunEvent) (said : List FrameContent) (w : Transit) → ((f : Frame) → event ≢ FrameReceived f) → IsQuietFor j.s event
    → EndsAgree opened j.k (server_state_after opened j.s event) j.u j.d j.all_up (j.all_down ++ said) w → server_output opened j.s event ≡ output_bytes opened Responder (total_of sends_in j.all_down) (total_of requests_in j.all_down) said
    → events_at link Initiator run mark ≡ [] → events_at link Responder run mark ≡ event ∷ [] → fed_at link Initiator mark ≡ [] → fed_at link Responder mark ≡ [] → written_at link Initiator mark ≡ []
    → bytes_sent link Responder run ++ written_at link Responder mark ≡ output_bytes opened Responder 0 0 (j.d ++ w.down) → w.up ≡ j.w.up
    → (IsOpened opened → Guards opened j.k j.s j.u j.d j.all_up j.all_down j.w (place_of opened j.u) → Guards opened j.k (server_state_after opened j.s event) j.u j.d j.all_up (j.all_down ++ said) w (place_of opened j.u))
    → (Guards opened j.k j.s j.u j.d j.all_up j.all_down j.w (place_of opened j.u) → AccessesAgree opened j.k j.s j.d j.all_up j.all_down (length (bytes_received link Initiator run))
    → AccessesAgree opened j.k (server_state_after opened j.s event) j.d j.all_up (j.all_down ++ said) (length (bytes_received link Initiator run)))
    → MarkAgrees opened link run mark j
server_preserves opened link run mark j event said w other quiet linked output theirs own fed_i fed_r wrote_i sent same guarded accessed =
    let one = server_event opened j.s event other quiet in
    record {
      k = j.k;
      s = server_state_after opened j.s event;
      u = j.u;
      d = j.d;
      said_up = [];
      said_down = said;
      w = w;
      linked = same_down_lem opened j.k (server_state_after opened j.s event) j.u j.d j.all_up (j.all_down ++ said) w linked;
      client = ap (λ (es : List RunEvent). end_state_after (client_rules opened) (live j.k) es) theirs;
      server = ap (λ (es : List RunEvent). end_state_after (server_rules opened) (live j.s) es) own ∙ one.state;
      output_up = ap (λ (es : List RunEvent). output_for_all (client_rules opened) (live j.k) es) theirs;
      output_down = ap (λ (es : List RunEvent). output_for_all (server_rules opened) (live j.s) es) own ∙ one.output ∙ output;
      frames_up = ap (λ (xs : List ℕ). (split (HelloFrom Initiator) xs).frames) (none_more (bytes_received link Responder run) (fed_at link Responder mark) fed_r) ∙ j.frames_up;
      frames_down = ap (λ (xs : List ℕ). (split (HelloFrom Responder) xs).frames) (none_more (bytes_received link Initiator run) (fed_at link Initiator mark) fed_i) ∙ j.frames_down;
      sent_up = none_more (bytes_sent link Initiator run) (written_at link Initiator mark) wrote_i ∙ j.sent_up ∙ ap (λ (ps : List FrameContent). output_bytes opened Initiator 0 0 (j.u ++ ps)) (sym same);
      sent_down = sent;
      bytes_up = subst IsBytes (sym (none_more (bytes_received link Responder run) (fed_at link Responder mark) fed_r)) j.bytes_up;
      bytes_down = subst IsBytes (sym (none_more (bytes_received link Initiator run) (fed_at link Initiator mark) fed_i)) j.bytes_down;
      guarded = λ o within g. guards_down opened j.k (server_state_after opened j.s event) j.u j.d j.all_up (j.all_down ++ said) w (place_of opened j.u) (guarded o g);
      accessed = λ o typed kept g h. accesses_down opened j.k (server_state_after opened j.s event) j.d j.all_up (j.all_down ++ said) (length (bytes_received link Initiator run)) (accessed g h);
    }

-- ---- Each

room_of : (opened : LinkParameters) (link : ℕ) (run : List Mark) (j : RunAgrees opened link run) → calls_outstanding opened link run < credits_granted opened link run → length j.k.outstanding < j.k.grant
unfolding calls_outstanding credits_granted
room_of opened link run j lt = subst (λ (r : EndState ClientState). length r.state.outstanding < r.state.grant) j.client_is lt

pub submit_preserves : (opened : LinkParameters) (link : ℕ) (run : List Mark) (call : Call) (form : Form) (xid : ℕ) (j : RunAgrees opened link run) → IsAccepted opened link run call form xid
    → MarkAgrees opened link run (marks.Submit link call form (submissions.Accepted xid)) j
submit_preserves opened link run call form xid j h =
    let a : AcceptedCall = record { xid = xid; call = call; form = form } in
    let place = length (bytes_received link Initiator run) in
    let own : xid ≡ next_sent_xid j.k = h.next ∙ ap (λ (r : EndState ClientState). next_sent_xid r.state) j.client_is in
    let again : IsResent j.k.has_hello j.k.next_xid j.k.waiting call form = subst (λ (r : EndState ClientState). IsResent r.state.has_hello r.state.next_xid r.state.waiting call form) j.client_is h.resent in
    let planned = ap (λ (r : EndState ClientState). plan_for r.state xid call form) (sym j.client_is) ∙ h.planned in
    let limits : ClientLimits j.k = subst (λ (r : EndState ClientState). ClientLimits r.state) j.client_is (client_limits_of opened link run) in
    let m = submitted opened j.k j.s j.u j.d j.all_up j.all_down j.w place a h.plan j.linked own again planned limits in
    client_preserves opened link run (marks.Submit link call form (submissions.Accepted xid)) j (CallSubmitted place a) m.said (up_more j.w m.said) (λ f e. absurd cc) m.linked m.output
    (own_events link (CallSubmitted place a ∷ [])) (other_events (eqb link link) (CallSubmitted (length (bytes_received link Responder run)) a ∷ [])) refl refl refl
    (append-nil (bytes_sent link Initiator run) ∙ j.sent_up) refl
    (λ o within g.
    let room : length j.k.outstanding < j.k.grant = room_of opened link run j (within refl) in
    subst (λ (ps : List FrameContent). Guards opened (client_state_after opened j.k (CallSubmitted place a)) j.s j.u j.d (j.all_up ++ ps) j.all_down (up_more j.w ps) (place_of opened j.u)) (sym m.said_is)
    (guards_submit opened j.k j.s j.u j.d j.all_up j.all_down j.w (place_of opened j.u) place a h.plan j.linked g planned own again h.xids room))
    (λ typed kept agree.
    let stags : stag_for j.k xid + regions_needed h.plan ≤ numbers_end = subst (λ (r : EndState ClientState). stag_for r.state xid + regions_needed h.plan ≤ numbers_end) j.client_is (accepted_stags opened link run call form xid h) in
    subst (λ (ps : List FrameContent). AccessesAgree opened (client_state_after opened j.k (CallSubmitted place a)) j.s j.d (j.all_up ++ ps) j.all_down place) (sym m.said_is)
    (accessed_submit opened j.k j.s j.d j.all_up j.all_down place a h.plan agree planned own again h.xids stags typed.0 typed.1 limits))

-- a Wrote of all that is due
takes_all_up : (opened : LinkParameters) (link : ℕ) (run : List Mark) (bytes : List ℕ) (k : ClientState) → client opened link run ≡ live k → bytes_sent link Initiator run ++ bytes ≡ output_due opened link Initiator run → k.written + length bytes ≡ k.due
takes_all_up opened link run bytes k is all =
    let stays = ap (λ (r : EndState ClientState). r.ended) is in
    let written : k.written ≡ length (bytes_sent link Initiator run) = ap (λ (r : EndState ClientState). r.state.written) (sym is) ∙ client_bytes_written opened link run stays in
    let due : k.due ≡ length (output_due opened link Initiator run) = ap (λ (r : EndState ClientState). r.state.due) (sym is) ∙ client_bytes_due opened link run stays in
    omega (arith, written, due, length-append (bytes_sent link Initiator run) bytes, ap (λ (xs : List ℕ). length xs) all)

takes_all_down : (opened : LinkParameters) (link : ℕ) (run : List Mark) (bytes : List ℕ) (s : ServerState) → server opened link run ≡ live s → bytes_sent link Responder run ++ bytes ≡ output_due opened link Responder run → s.written + length bytes ≡ s.due
takes_all_down opened link run bytes s is all =
    let stays = ap (λ (r : EndState ServerState). r.ended) is in
    let written : s.written ≡ length (bytes_sent link Responder run) = ap (λ (r : EndState ServerState). r.state.written) (sym is) ∙ server_bytes_written opened link run stays in
    let due : s.due ≡ length (output_due opened link Responder run) = ap (λ (r : EndState ServerState). r.state.due) (sym is) ∙ server_bytes_due opened link run stays in
    omega (arith, written, due, length-append (bytes_sent link Responder run) bytes, ap (λ (xs : List ℕ). length xs) all)

pub wrote_up_preserves : (opened : LinkParameters) (link : ℕ) (run : List Mark) (bytes : List ℕ) (j : RunAgrees opened link run) → bytes_sent link Initiator run ++ bytes ≡ output_due opened link Initiator run
    → MarkAgrees opened link run (marks.Wrote link Initiator bytes) j
unfolding client_output
wrote_up_preserves opened link run bytes j all =
    let n = length bytes in
    let takes = takes_all_up opened link run bytes j.k j.client_is all in
    let ends : ClientEnds j.k = subst (λ (r : EndState ClientState). ClientEnds r.state) j.client_is (client_ends_within opened link run) in
    let l = subst (λ (ps : List FrameContent). EndsAgree opened (client_state_after opened j.k (QueueWritten (length bytes))) j.s j.u j.d ps j.all_down (record { queued_up = []; up = j.w.up ++ j.w.queued_up; queued_down = j.w.queued_down; down = j.w.down }))
    (sym (append-nil j.all_up)) (written_up opened j.k j.s j.u j.d j.all_up j.all_down j.w n takes ends j.linked) in
    client_preserves opened link run (marks.Wrote link Initiator bytes) j (QueueWritten (length bytes)) [] (record { queued_up = []; up = j.w.up ++ j.w.queued_up; queued_down = j.w.queued_down; down = j.w.down }) (λ f e. absurd cc) l refl
    (own_events link (QueueWritten (length bytes) ∷ [])) (other_events (eqb link link) (QueueWritten (length bytes) ∷ [])) refl refl (other_bytes (eqb link link) bytes)
    (ap (λ (xs : List ℕ). bytes_sent link Initiator run ++ xs) (own_bytes link bytes) ∙ all ∙ j.due_up ∙ ap (λ (ps : List FrameContent). output_bytes opened Initiator 0 0 ps) (sym j.linked.parts_up)) refl
    (λ o within g.
    guards_down opened (client_state_after opened j.k (QueueWritten (length bytes))) j.s j.u j.d j.all_up j.all_down (record { queued_up = []; up = j.w.up ++ j.w.queued_up; queued_down = j.w.queued_down; down = j.w.down }) (place_of opened j.u)
    (guards_written_up opened j.k j.s j.u j.d j.all_up j.all_down j.w (place_of opened j.u) n takes ends g))
    (λ typed kept agree.
    accesses_down opened (client_state_after opened j.k (QueueWritten (length bytes))) j.s j.d j.all_up j.all_down (length (bytes_received link Initiator run))
    (accessed_written_up n opened j.k j.s j.d j.all_up j.all_down (length (bytes_received link Initiator run)) agree))

pub revoke_preserves : (opened : LinkParameters) (link : ℕ) (run : List Mark) (xid : ℕ) (bytes : List ℕ) (j : RunAgrees opened link run) → MarkAgrees opened link run (marks.Revoke link xid bytes) j
unfolding client_output
revoke_preserves opened link run xid bytes j =
    let place = length (bytes_received link Initiator run) in
    let l = subst (λ (ps : List FrameContent). EndsAgree opened (client_state_after opened j.k (MemoryRevoked place xid)) j.s j.u j.d ps j.all_down j.w) (sym (append-nil j.all_up))
    (revoked opened j.k j.s j.u j.d j.all_up j.all_down j.w place xid j.linked) in
    client_preserves opened link run (marks.Revoke link xid bytes) j (MemoryRevoked place xid) [] j.w (λ f e. absurd cc) l refl
    (own_events link (MemoryRevoked place xid ∷ [])) (other_events (eqb link link) (MemoryRevoked (length (bytes_received link Responder run)) xid ∷ [])) refl refl refl
    (append-nil (bytes_sent link Initiator run) ∙ j.sent_up) refl
    (λ o within g.
    guards_down opened (client_state_after opened j.k (MemoryRevoked place xid)) j.s j.u j.d j.all_up j.all_down j.w (place_of opened j.u) (guards_revoke opened j.k j.s j.u j.d j.all_up j.all_down j.w (place_of opened j.u) place xid g))
    (λ typed kept agree. absurd (kept refl))

pub wrote_down_preserves : (opened : LinkParameters) (link : ℕ) (run : List Mark) (bytes : List ℕ) (j : RunAgrees opened link run) → bytes_sent link Responder run ++ bytes ≡ output_due opened link Responder run
    → MarkAgrees opened link run (marks.Wrote link Responder bytes) j
unfolding server_output
wrote_down_preserves opened link run bytes j all =
    let n = length bytes in
    let takes = takes_all_down opened link run bytes j.s j.server_is all in
    let ends : ServerEnds j.s = subst (λ (r : EndState ServerState). ServerEnds r.state) j.server_is (server_ends_within opened link run) in
    let l = subst (λ (ps : List FrameContent). EndsAgree opened j.k (server_state_after opened j.s (QueueWritten (length bytes))) j.u j.d j.all_up ps (record { queued_up = j.w.queued_up; up = j.w.up; queued_down = []; down = j.w.down ++ j.w.queued_down }))
    (sym (append-nil j.all_down)) (written_down opened j.k j.s j.u j.d j.all_up j.all_down j.w n takes ends j.linked) in
    server_preserves opened link run (marks.Wrote link Responder bytes) j (QueueWritten (length bytes)) [] (record { queued_up = j.w.queued_up; up = j.w.up; queued_down = []; down = j.w.down ++ j.w.queued_down }) (λ f e. absurd cc) tt l refl
    (other_events (eqb link link) (QueueWritten (length bytes) ∷ [])) (own_events link (QueueWritten (length bytes) ∷ [])) refl refl (other_bytes (eqb link link) bytes)
    (ap (λ (xs : List ℕ). bytes_sent link Responder run ++ xs) (own_bytes link bytes) ∙ all ∙ j.due_down ∙ ap (λ (ps : List FrameContent). output_bytes opened Responder 0 0 ps) (sym j.linked.parts_down)) refl
    (λ o g.
    guards_up opened j.k (server_state_after opened j.s (QueueWritten (length bytes))) j.u j.d j.all_up j.all_down (record { queued_up = j.w.queued_up; up = j.w.up; queued_down = []; down = j.w.down ++ j.w.queued_down }) (place_of opened j.u)
    (guards_written_down opened j.k j.s j.u j.d j.all_up j.all_down j.w (place_of opened j.u) n takes ends g))
    (λ g agree.
    accesses_up opened j.k (server_state_after opened j.s (QueueWritten (length bytes))) j.d j.all_up j.all_down (length (bytes_received link Initiator run))
    (accessed_written_down n opened j.k j.s j.d j.all_up j.all_down (length (bytes_received link Initiator run)) agree))

first_is : (ready : List ReadyCall) (r : ReadyCall) → slice_get ready 0 ≡ Some r → (rest : List ReadyCall) × (ready ≡ r ∷ rest)
first_is [] r e = absurd cc
first_is (x ∷ rest) r e = (rest, (let same : x ≡ r = cc in ap (λ (y : ReadyCall). y ∷ rest) same))

-- some Send was received after the hello
begun : (ps : List FrameContent) → IsOutput ps → 0 < total_of sends_in ps → 0 < total_of hellos_in ps
begun [] h some = absurd (omega (arith, some))
begun (HelloFrame ∷ ps) h some = omega arith
begun (PartFrame named offset payload ∷ ps) h some = absurd h
begun (SendFrame message ∷ ps) h some = absurd h
begun (RequestFrame sink at size stag to ∷ ps) h some = absurd h
begun (TaggedFrame last opcode stag to payload ∷ ps) h some = absurd h

pub execute_preserves : (opened : LinkParameters) (link : ℕ) (run : List Mark) (xid : ℕ) (moment : Moment) (payload : List ℕ) (place : ℕ) (reply : List ℕ) (j : RunAgrees opened link run) → IsExecuted opened link run xid payload
    → MarkAgrees opened link run (marks.Execute link xid moment payload place reply) j
unfolding next_call
execute_preserves opened link run xid moment payload place reply j h =
    let e : ExecutedCall = record { xid = xid; moment = moment; payload = payload; place = place; reply = reply } in
    let ready : slice_get j.s.ready 0 ≡ Some h.call = ap (λ (r : EndState ServerState). first_ready r.state.ready r.ended) (sym j.server_is) ∙ h.is_next in
    let first = first_is j.s.ready h.call ready in
    let there = executed_there j.s xid h.call first.0 j.linked.waits first.1 h.own in
    let sends : 0 < total_of sends_in j.u = omega (arith, some_calls xid j.s.calls there, j.linked.counts.waiting, j.linked.sends_up) in
    let hellos = begun j.u (stream_left j.u (j.w.up ++ j.w.queued_up) (subst IsOutput (sym j.linked.parts_up) j.linked.stream_up)) sends in
    let m = executed opened j.k j.s j.u j.d j.all_up j.all_down j.w e h.call first.0 j.linked first.1 h.own (omega (arith, hellos, j.linked.hellos_down)) (subst (λ (r : EndState ServerState). ServerLimits r.state) j.server_is (server_limits_of opened link run)) in
    server_preserves opened link run (marks.Execute link xid moment payload place reply) j (CallExecuted e) m.said (record { queued_up = j.w.queued_up; up = j.w.up; queued_down = j.w.queued_down ++ m.said; down = j.w.down }) (λ f x. absurd cc) tt m.linked m.output
    (other_events (eqb link link) (CallExecuted e ∷ [])) (own_events link (CallExecuted e ∷ [])) refl refl refl
    (append-nil (bytes_sent link Responder run) ∙ j.sent_down) refl
    (λ o g.
    subst (λ (ps : List FrameContent). Guards opened j.k (server_state_after opened j.s (CallExecuted e)) j.u j.d j.all_up (j.all_down ++ ps) (record { queued_up = j.w.queued_up; up = j.w.up; queued_down = j.w.queued_down ++ ps; down = j.w.down }) (place_of opened j.u)) (sym m.said_is)
    (guards_execute opened j.k j.s j.u j.d j.all_up j.all_down j.w (place_of opened j.u) e h.call first.0 o j.linked g j.linked.fits first.1 h.own))
    (λ g agree.
    subst (λ (ps : List FrameContent). AccessesAgree opened j.k (server_state_after opened j.s (CallExecuted e)) j.d j.all_up (j.all_down ++ ps) (length (bytes_received link Initiator run))) (sym m.said_is)
    (accessed_execute opened j.k j.s j.d j.all_up j.all_down (length (bytes_received link Initiator run)) e h.call first.0 agree first.1 h.own j.linked.waits.whole_calls g.answered.rise g.numbers
    (pending_unanswered xid j.all_down j.s.calls g.answered.once there)))

told_stays : (opened : LinkParameters) (s : ServerState) (what : Told) → (next_end_state_by (server_rules opened) s (ServerTold what) (told_end s what)).ended ≡ None → told_end s what ≡ None
told_stays opened s what h = by (told_end s what) h
  where
    by : (o : Option End) → (next_end_state_by (server_rules opened) s (ServerTold what) o).ended ≡ None → o ≡ None
    by None h = refl
    by (Some end) h = absurd cc

pub told_preserves : (opened : LinkParameters) (link : ℕ) (run : List Mark) (what : Told) (j : RunAgrees opened link run) → ToldInRange opened what → (server opened link (run ++ marks.Told link what ∷ [])).ended ≡ None → MarkAgrees opened link run (marks.Told link what) j
unfolding server_output server_end
told_preserves opened link run what j granted down =
    let stays : (next_end_state_by (server_rules opened) j.s (ServerTold what) (told_end j.s what)).ended ≡ None =
    ap (λ (x : EndState ServerState). x.ended) (sym (server_one opened link run (marks.Told link what) ∙ (λ i. end_state_after (server_rules opened) (j.server_is i) (own_events link (ServerTold what ∷ []) i)))) ∙ down in
    let l = subst (λ (ps : List FrameContent). EndsAgree opened j.k (server_state_after opened j.s (ServerTold what)) j.u j.d j.all_up ps j.w) (sym (append-nil j.all_down))
    (told_linked opened j.k j.s j.u j.d j.all_up j.all_down j.w what j.linked) in
    server_preserves opened link run (marks.Told link what) j (ServerTold what) [] j.w (λ f e. absurd cc) (told_stays opened j.s what stays) l refl
    (other_events (eqb link link) (ServerTold what ∷ [])) (own_events link (ServerTold what ∷ [])) refl refl refl
    (append-nil (bytes_sent link Responder run) ∙ j.sent_down) refl
    (λ o g.
    guards_up opened j.k (server_state_after opened j.s (ServerTold what)) j.u j.d j.all_up j.all_down j.w (place_of opened j.u)
    (guards_told opened j.k j.s j.u j.d j.all_up j.all_down j.w (place_of opened j.u) what granted g))
    (λ g agree.
    accesses_up opened j.k (server_state_after opened j.s (ServerTold what)) j.d j.all_up j.all_down (length (bytes_received link Initiator run))
    (accessed_told opened j.k j.s j.d j.all_up j.all_down (length (bytes_received link Initiator run)) what agree))
