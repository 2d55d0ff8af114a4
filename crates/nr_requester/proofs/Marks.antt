-- A requester stands for the marks of its owner's calls.
use Rattle.std.proofs.Common.{◌≡◌, ℕ, ◌+◌, ◌^◌, ◌≤◌, Bool, true, cond, ◌&&◌, eqb, List, [], ◌∷◌, ◌++◌, length, map, take, drop, Option, None, refl, sym, ap, subst, ◌∙◌, arith, append-nil, take-append-drop, length-append}
use Rattle.std.specs.Prelude.{is_some}
use Rattle.std.proofs.lemmas.List.{length-take}
use Rattle.nr_wire.specs.declared.hello.Side.TheVariants.{Initiator, Responder}
use Rattle.nr_link.specs.declared.end.End.{End}
use Rattle.nr_link.specs.Input.{InputState, initial_input}
use Rattle.nr_link.specs.Output.{hello_with}
use Rattle.nr_link.specs.declared.agreement.SideTerms.{SideTerms}
use Rattle.nr_link.specs.Agreement.{initiator_private}
use Rattle.nr_link.specs.Limits.{send_unit}
use Rattle.nr_reduce.specs.Hellos.{client_hello}
use Rattle.nr_endpoint.specs.Hellos.{receive_length_for}
use Rattle.nr_endpoint.specs.LinkState.{LinkState}
use Rattle.nr_endpoint.specs.SendQueue.{written}
use Rattle.nr_reduce.specs.declared.mark.LinkParameters.{LinkParameters}
use Rattle.nr_reduce.specs.declared.mark.Mark.{Mark}
use Rattle.nr_reduce.specs.declared.mark.Mark.TheVariants as marks
use Rattle.nr_reduce.specs.History.{bytes_sent, bytes_received, written_at, fed_at}
use Rattle.nr_reduce.specs.Events.{RunEvent, if_own, events_at, events}
use Rattle.nr_reduce.specs.Events.RunEvent.{MemoryRevoked, QueueWritten}
use Rattle.nr_reduce.specs.EndRules.{EndState, next_end_state, next_end_state_by, end_state_after, live}
use Rattle.nr_reduce.specs.Written as reduce
use Rattle.nr_reduce.specs.ClientState.{ClientState, waiting_from}
use Rattle.nr_reduce.specs.Client.{client_rules, client_end, client_state_after}
use Rattle.nr_reduce.specs.Run.{client, output_due}
use Rattle.nr_regions.specs.RegisteredMemory.{initial_memory}
use Rattle.nr_reduce.specs.KeptClient.{KeptClient, kept_sent, kept_revoked, released_all, resumed_kept, resumed_memory, opened_client, CanResume}
use Rattle.nr_reduce.specs.Standing.{ClientRepresents, ClientRunsOut}
use Rattle.nr_reduce.proofs.Steps.{client_one}
use Rattle.nr_reduce.proofs.Standing.{itself, client_stays_out_lem, client_begins_lem}
use Rattle.nr_reduce.proofs.KeptMarks.{revoke_stands_lem, revoke_stays_out, wrote_stands, other_stands}
use Rattle.nr_reduce.proofs.XidsFollow.{next_xid_follows}
use Rattle.nr_reduce.proofs.CountedBytes.{client_bytes_written, client_bytes_due}
use Rattle.nr_requester.specs.RequesterState.{RequesterSide, queue_of, kept_client, input_kept}
use Rattle.nr_requester.specs.Standing.{LinkKeeps, KeepsClient, waiting_message}
use Rattle.nr_requester.specs.AfterCalls.{opened_as, drained, after_drain, after_revoke, stags_for}
use Rattle.nr_requester.proofs.Queues.{written_writable}
use Rattle.nr_requester.proofs.Links.{sent_is, link_drained, link_revoked}
use Rattle.nr_requester.proofs.KeptCalls.{sent_after, kept_drained, ended_drained, kept_after_revoke}
use Rattle.nr_reduce.specs.Opening.{IsFirstLink}
use Rattle.nr_reduce.specs.declared.mark.ResumedCall.{ResumedCall}

-- ---- What a requester knows of its client

abbrev pub state_of : LinkParameters → ℕ → List Mark → ClientState
state_of opened link run = (client opened link run).state

abbrev pub ended_as : EndState ClientState → Option End → EndState ClientState
ended_as e x = record { state = e.state; ended = x }

pub lives_as : (e : EndState ClientState) → e.ended ≡ None → e ≡ live e.state
lives_as e none = ap (λ (x : Option End). ended_as e x) none

pub lives : (opened : LinkParameters) (link : ℕ) (h : RequesterSide) (run : List Mark) → KeepsClient opened link h run → h.state.side.ended ≡ None → (client opened link run).ended ≡ None
lives opened link h run s none = sym s.kept.keeps.ended ∙ none

-- the bytes that are due are those that were written, and the queue
pub due_is : (opened : LinkParameters) (link : ℕ) (h : RequesterSide) (run : List Mark) → KeepsClient opened link h run → (client opened link run).ended ≡ None →
    (state_of opened link run).due ≡ (state_of opened link run).written + length (queue_of h.state)
due_is opened link h run s none =
    let due = client_bytes_due opened link run none in
    let wrote = client_bytes_written opened link run none in
    let all : length (bytes_sent link Initiator run ++ queue_of h.state) ≡ length (output_due opened link Initiator run) = ap (λ (xs : List ℕ). length xs) s.kept.output in
    omega (arith, due, wrote, all, length-append (bytes_sent link Initiator run) (queue_of h.state))

-- it counts the Sends that have a number
pub numbers : (opened : LinkParameters) (link : ℕ) (h : RequesterSide) (run : List Mark) → KeepsClient opened link h run → h.state.sends ≡ (state_of opened link run).sends
numbers opened link h run s = s.kept.keeps.sends

pub own_events : (link : ℕ) (es : List RunEvent) → if_own (eqb link link && true) es ≡ es
own_events link es = ap (λ (b : Bool). if_own (b && true) es) (itself link)

-- the state of a client that hasn't ended, after a mark with this event, which doesn't end it
pub state_next : (opened : LinkParameters) (link : ℕ) (run : List Mark) (mark : Mark) (event : RunEvent) → (client opened link run).ended ≡ None → events_at link Initiator run mark ≡ event ∷ [] → client_end (state_of opened link run) event ≡ None →
    state_of opened link (run ++ mark ∷ []) ≡ client_state_after opened (state_of opened link run) event
state_next opened link run mark event none is goes_on =
    ap (λ (e : EndState ClientState). e.state)
    (client_one opened link run mark
    ∙ ap (λ (es : List RunEvent). end_state_after (client_rules opened) (client opened link run) es) is
    ∙ ap (λ (x : Option End). next_end_state (client_rules opened) (ended_as (client opened link run) x) event) none
    ∙ ap (λ (x : Option End). next_end_state_by (client_rules opened) (state_of opened link run) event x) goes_on)

-- ---- How many Sends have a number

few_above : (r : ResumedCall) (rs : List ResumedCall) (next : ℕ) → CanResume (r ∷ rs) next → r.xid + 1 + length rs ≤ next
few_above r [] next can = (let lt = can.1.0 in omega (arith, lt))
few_above r (q ∷ rs) next can = (let later = few_above q rs next can.1.1.1 in let lt = can.1.1.0.0 in omega (arith, later, lt))

-- the xids of the calls that are sent again are below the first new one, and no two are the same
resumed_few : (rs : List ResumedCall) (next : ℕ) → CanResume rs next → length rs ≤ next
resumed_few [] next can = omega arith
resumed_few (r ∷ rs) next can = (let few = few_above r rs next can in omega (arith, few))

-- ---- A drain

pub wrote_state : (opened : LinkParameters) (link : ℕ) (run : List Mark) (bytes : List ℕ) → (client opened link run).ended ≡ None →
    state_of opened link (run ++ marks.Wrote link Initiator bytes ∷ []) ≡ record (state_of opened link run) { written = (state_of opened link run).written + length bytes }
unfolding client_end client_state_after
wrote_state opened link run bytes none =
    state_next opened link run (marks.Wrote link Initiator bytes) (QueueWritten (length bytes)) none (own_events link (QueueWritten (length bytes) ∷ [])) refl

drain_ended : (h : RequesterSide) (n : ℕ) → (after_drain n h).state.side.ended ≡ h.state.side.ended
unfolding after_drain
drain_ended h n = refl

drain_side : (h : RequesterSide) (n : ℕ) → (after_drain n h).state.side ≡ drained n h.state.side
unfolding after_drain
drain_side h n = refl

drain_input : (h : RequesterSide) (n : ℕ) → input_kept (after_drain n h) ≡ input_kept h
unfolding after_drain
drain_input h n = refl

drain_wished : (h : RequesterSide) (n : ℕ) → (after_drain n h).state.wished ≡ h.state.wished
unfolding after_drain
drain_wished h n = refl

drain_queue : (h : RequesterSide) (n : ℕ) → queue_of (after_drain n h).state ≡ drop n (queue_of h.state)
unfolding after_drain
drain_queue h n = written_writable h.state.side.has_hello n h.state.side.send_queue

live_sent : (h : RequesterSide) (n : ℕ) → h.state.side.ended ≡ None → (after_drain n h).state.sent ≡ (written n h.state.side.send_queue).sends_left
unfolding after_drain
live_sent h n none = ap (λ (x : Option End). cond (is_some x) h.state.sent (written n h.state.side.send_queue).sends_left) none

drained_sent : (h : RequesterSide) (n : ℕ) → h.state.side.ended ≡ None → sent_after n h ≡ (drained n h.state.side).send_queue.sends_left
drained_sent h n none = ap (λ (x : Option End). cond (is_some x) h.state.sent (written n h.state.side.send_queue).sends_left) none

taken_len : (n : ℕ) (xs : List ℕ) → n ≤ length xs → length (take n xs) ≡ n
taken_len n xs le = omega (arith, length-take n xs, le)

pub drain_stands : (h : RequesterSide) (n : ℕ) → n ≤ length (queue_of h.state) → h.state.next_xid ≤ 2 ^ 32 → (opened : LinkParameters) (link : ℕ) (run : List Mark) → KeepsClient opened link h run →
    KeepsClient opened link (after_drain n h) (run ++ marks.Wrote link Initiator (take n (queue_of h.state)) ∷ [])
drain_stands h n le fits opened link run s = record {
  wished = drain_wished h n ∙ s.wished;
  resumes = s.resumes;
  kept = subst (λ (k : KeptClient). ClientRepresents opened link k (input_kept (after_drain n h)) (queue_of (after_drain n h).state) (run ++ mark ∷ [])) (kept_drained h n)
      (subst (λ (i : InputState). ClientRepresents opened link (kept_sent (sent_after n h) (kept_client h.state)) i (queue_of (after_drain n h).state) (run ++ mark ∷ [])) (sym (drain_input h n))
      (subst (λ (q : List ℕ). ClientRepresents opened link (kept_sent (sent_after n h) (kept_client h.state)) (input_kept h) q (run ++ mark ∷ [])) (sym (drain_queue h n))
      (wrote_stands opened link (kept_client h.state) (input_kept h) (take n queue) (drop n queue) run (sent_after n h) parts many)));
  sent = λ none. live_sent h n (sym (drain_ended h n) ∙ none) ∙ sym (ap (λ (x : LinkState). x.send_queue.sends_left) (drain_side h n));
  side = λ none. kept (sym (drain_ended h n) ∙ none);
}
  where
    queue : List ℕ
    queue = queue_of h.state

    mark : Mark
    mark = marks.Wrote link Initiator (take n queue)

    k : ClientState
    k = state_of opened link run

    parts : ClientRepresents opened link (kept_client h.state) (input_kept h) (take n queue ++ drop n queue) run
    parts = subst (λ (q : List ℕ). ClientRepresents opened link (kept_client h.state) (input_kept h) q run) (sym (take-append-drop n queue)) s.kept

    few : k.sends ≤ 2 ^ 32
    few = (let number = s.kept.keeps.xid in let follows = next_xid_follows opened link run in let count = resumed_few opened.resumed opened.first_xid s.resumes in omega (arith, number, follows, count, fits))

    next : h.state.side.ended ≡ None → LinkKeeps opened (drained n h.state.side) (record k { written = k.written + n })
    next none = link_drained opened h.state.side k n le few (s.side none)

    many : (client opened link run).ended ≡ None → sent_after n h ≡ reduce.ends_written (k.written + length (take n queue)) k.send_ends
    many none =
        let live_side : h.state.side.ended ≡ None = s.kept.keeps.ended ∙ none in
        let due = due_is opened link h run s none in
        drained_sent h n live_side
        ∙ sent_is opened (drained n h.state.side) (record k { written = k.written + n }) (next live_side) (omega (arith, due, le))
        ∙ ap (λ (m : ℕ). reduce.ends_written (k.written + m) k.send_ends) (sym (taken_len n queue le))

    kept : h.state.side.ended ≡ None → LinkKeeps opened (after_drain n h).state.side (state_of opened link (run ++ mark ∷ []))
    kept none =
        subst (λ (x : LinkState). LinkKeeps opened x (state_of opened link (run ++ mark ∷ []))) (sym (drain_side h n))
        (subst (λ (x : ClientState). LinkKeeps opened (drained n h.state.side) x) (sym (wrote_state opened link run (take n queue) (lives opened link h run s none) ∙ ap (λ (m : ℕ). record k { written = k.written + m }) (taken_len n queue le)))
        (next none))

-- ---- Also of one that ran out of memory

taken_is : (link : ℕ) (taken : List ℕ) → written_at link Initiator (marks.Wrote link Initiator taken) ≡ taken
taken_is link taken = ap (λ (b : Bool). cond (b && true) taken []) (itself link)

pub drain_stays_out : (h : RequesterSide) (n : ℕ) → (opened : LinkParameters) (link : ℕ) (stopped run : List Mark) → ClientRunsOut opened link (kept_client h.state) (queue_of h.state) stopped run →
    ClientRunsOut opened link (kept_client (after_drain n h).state) (queue_of (after_drain n h).state) stopped (run ++ marks.Wrote link Initiator (take n (queue_of h.state)) ∷ [])
drain_stays_out h n opened link stopped run out =
    let queue = queue_of h.state in
    let mark : Mark = marks.Wrote link Initiator (take n queue) in
    let queued : written_at link Initiator mark ++ drop n queue ≡ queue = ap (λ (xs : List ℕ). xs ++ drop n queue) (taken_is link (take n queue)) ∙ take-append-drop n queue in
    subst (λ (k : KeptClient). ClientRunsOut opened link k (queue_of (after_drain n h).state) stopped (run ++ mark ∷ [])) (sym (ended_drained h n (ap (λ (x : Option End). is_some x) out.ended)))
    (subst (λ (q : List ℕ). ClientRunsOut opened link (kept_client h.state) q stopped (run ++ mark ∷ [])) (sym (drain_queue h n))
    (client_stays_out_lem opened link (kept_client h.state) queue (drop n queue) stopped run mark out queued))

-- ---- A revoke

revoke_side : (h : RequesterSide) (xid : ℕ) → (after_revoke h xid).state.side ≡ record h.state.side { memory = released_all h.state.side.memory (stags_for xid h.state.outstanding) }
unfolding after_revoke
revoke_side h xid = refl

-- what it leaves
record RevokeLeaves (h : RequesterSide) (xid : ℕ) : Type 0 where
  pub wished : (after_revoke h xid).state.wished ≡ h.state.wished
  pub sent : (after_revoke h xid).state.sent ≡ h.state.sent
  pub ended : (after_revoke h xid).state.side.ended ≡ h.state.side.ended
  pub sends_left : (after_revoke h xid).state.side.send_queue.sends_left ≡ h.state.side.send_queue.sends_left
  pub queue : queue_of (after_revoke h xid).state ≡ queue_of h.state
  pub input : input_kept (after_revoke h xid) ≡ input_kept h

revoke_leaves : (h : RequesterSide) (xid : ℕ) → RevokeLeaves h xid
unfolding after_revoke
revoke_leaves h xid = record { wished = refl; sent = refl; ended = refl; sends_left = refl; queue = refl; input = refl }

pub revoke_state : (opened : LinkParameters) (link : ℕ) (run : List Mark) (xid : ℕ) (bytes : List ℕ) → (client opened link run).ended ≡ None →
    state_of opened link (run ++ marks.Revoke link xid bytes ∷ []) ≡ client_state_after opened (state_of opened link run) (MemoryRevoked (length (bytes_received link Initiator run)) xid)
unfolding client_end
revoke_state opened link run xid bytes none =
    state_next opened link run (marks.Revoke link xid bytes) (MemoryRevoked (length (bytes_received link Initiator run)) xid) none (own_events link (MemoryRevoked (length (bytes_received link Initiator run)) xid ∷ [])) refl

pub revoke_stands : (opened : LinkParameters) (link : ℕ) (h : RequesterSide) (run : List Mark) (xid : ℕ) (bytes : List ℕ) → KeepsClient opened link h run → KeepsClient opened link (after_revoke h xid) (run ++ marks.Revoke link xid bytes ∷ [])
revoke_stands opened link h run xid bytes s =
    let l : RevokeLeaves h xid = revoke_leaves h xid in
    let mark : Mark = marks.Revoke link xid bytes in
    record {
      wished = l.wished ∙ s.wished;
      resumes = s.resumes;
      kept = subst (λ (k : KeptClient). ClientRepresents opened link k (input_kept (after_revoke h xid)) (queue_of (after_revoke h xid).state) (run ++ mark ∷ [])) (kept_after_revoke h xid)
          (subst (λ (i : InputState). ClientRepresents opened link (kept_revoked (kept_client h.state) xid) i (queue_of (after_revoke h xid).state) (run ++ mark ∷ [])) (sym l.input)
          (subst (λ (q : List ℕ). ClientRepresents opened link (kept_revoked (kept_client h.state) xid) (input_kept h) q (run ++ mark ∷ [])) (sym l.queue)
          (revoke_stands_lem opened link (kept_client h.state) (input_kept h) (queue_of h.state) run xid bytes s.kept)));
      sent = λ none. l.sent ∙ s.sent (sym l.ended ∙ none) ∙ sym l.sends_left;
      side = λ none.
          subst (λ (x : LinkState). LinkKeeps opened x (state_of opened link (run ++ mark ∷ []))) (sym (revoke_side h xid))
          (subst (λ (x : ClientState). LinkKeeps opened (record h.state.side { memory = released_all h.state.side.memory (stags_for xid h.state.outstanding) }) x) (sym (revoke_state opened link run xid bytes (lives opened link h run s (sym l.ended ∙ none))))
          (link_revoked opened h.state.side (state_of opened link run) (length (bytes_received link Initiator run)) xid (released_all h.state.side.memory (stags_for xid h.state.outstanding)) (s.side (sym l.ended ∙ none))));
    }

pub revoke_stays_out_lem : (opened : LinkParameters) (link : ℕ) (h : RequesterSide) (stopped run : List Mark) (xid : ℕ) (bytes : List ℕ) → ClientRunsOut opened link (kept_client h.state) (queue_of h.state) stopped run →
    ClientRunsOut opened link (kept_client (after_revoke h xid).state) (queue_of (after_revoke h xid).state) (stopped ++ marks.Revoke link xid bytes ∷ []) (run ++ marks.Revoke link xid bytes ∷ [])
revoke_stays_out_lem opened link h stopped run xid bytes out =
    let l : RevokeLeaves h xid = revoke_leaves h xid in
    let mark : Mark = marks.Revoke link xid bytes in
    subst (λ (k : KeptClient). ClientRunsOut opened link k (queue_of (after_revoke h xid).state) (stopped ++ mark ∷ []) (run ++ mark ∷ [])) (kept_after_revoke h xid)
    (subst (λ (q : List ℕ). ClientRunsOut opened link (kept_revoked (kept_client h.state) xid) q (stopped ++ mark ∷ []) (run ++ mark ∷ [])) (sym l.queue)
    (revoke_stays_out opened link (kept_client h.state) (queue_of h.state) stopped run xid bytes out))

-- ---- A mark that is no event

pub others_leave_client : (opened : LinkParameters) (link : ℕ) (h : RequesterSide) (run : List Mark) (mark : Mark) → KeepsClient opened link h run →
    events_at link Initiator run mark ≡ [] → written_at link Initiator mark ≡ [] → fed_at link Initiator mark ≡ [] → KeepsClient opened link h (run ++ mark ∷ [])
others_leave_client opened link h run mark s no_events no_write no_feed =
    let same : state_of opened link (run ++ mark ∷ []) ≡ state_of opened link run =
    ap (λ (e : EndState ClientState). e.state) (client_one opened link run mark ∙ ap (λ (es : List RunEvent). end_state_after (client_rules opened) (client opened link run) es) no_events) in
    record {
      wished = s.wished;
      resumes = s.resumes;
      kept = other_stands opened link (kept_client h.state) (input_kept h) (queue_of h.state) run mark s.kept no_events no_write no_feed;
      sent = s.sent;
      side = λ none. subst (λ (x : ClientState). LinkKeeps opened h.state.side x) (sym same) (s.side none);
    }

-- ---- As it is opened

none_rise : (rs : List ResumedCall) (next : ℕ) → rs ≡ [] → CanResume rs next
none_rise rs next none = subst (λ (xs : List ResumedCall). CanResume xs next) (sym none) tt

kept_opened : (opened : LinkParameters) (staging : List ℕ) → IsFirstLink opened → opened_client opened ≡ kept_client (opened_as opened.first_xid opened.first_stag opened.wished opened.client staging).state
unfolding opened_as
kept_opened opened staging first = λ i. record (opened_client opened) {
  outstanding = length (first.resumed i);
  calls = resumed_kept 0 opened.first_stag (first.resumed i);
  memory = resumed_memory (initial_memory opened.first_stag) (first.resumed i);
  agreed = first.agreed i;
}

pub some_units : (terms : SideTerms) → send_unit ≤ receive_length_for terms
some_units terms = omega arith

link_opened : (opened : LinkParameters) (link : ℕ) (staging : List ℕ) → IsFirstLink opened → LinkKeeps opened (opened_as opened.first_xid opened.first_stag opened.wished opened.client staging).state.side (state_of opened link [])
unfolding client events opened_as client_hello
link_opened opened link staging first = record {
  side = refl;
  has_hello = refl;
  receive_length = refl;
  message_max = refl;
  fits = some_units opened.client;
  terms = refl;
  received = refl;
  receive = refl;
  none_lent = refl;
  none_waits = refl;
  no_reads = refl;
  number = refl;
  waiting = λ e. refl;
  none_due = λ e. refl;
  sends = record { ends = refl; count = refl };
  responses = record { ends = refl; count = refl };
  left = refl;
  numbered = refl;
  held = sym (ap (λ (resumed : List ResumedCall). map (waiting_message opened) (waiting_from opened.first_stag resumed)) first.resumed);
  greeted = refl;
  granted = λ e. refl;
  client_terms = refl;
}

-- its queue is its hello
queue_opened : (opened : LinkParameters) (staging : List ℕ) → client_hello opened ≡ queue_of (opened_as opened.first_xid opened.first_stag opened.wished opened.client staging).state
unfolding opened_as client_hello
queue_opened opened staging = sym (append-nil (hello_with Initiator (initiator_private opened.client)))

pub begins_client : (opened : LinkParameters) (link : ℕ) (staging : List ℕ) → IsFirstLink opened → KeepsClient opened link (opened_as opened.first_xid opened.first_stag opened.wished opened.client staging) []
unfolding opened_as
begins_client opened link staging first = record {
  wished = refl;
  resumes = none_rise opened.resumed opened.first_xid first.resumed;
  kept = subst (λ (k : KeptClient). ClientRepresents opened link k (initial_input Responder) (queue_of (opened_as opened.first_xid opened.first_stag opened.wished opened.client staging).state) []) (kept_opened opened staging first)
      (subst (λ (q : List ℕ). ClientRepresents opened link (opened_client opened) (initial_input Responder) q []) (queue_opened opened staging) (client_begins_lem opened link (none_rise opened.resumed opened.first_xid first.resumed)));
  sent = λ none. refl;
  side = λ none. link_opened opened link staging first;
}
