-- An end that stands for some marks stands for one mark more, if it goes along: a piece, a drain, or a mark of another kind.
use Rattle.std.proofs.Common.{◌≡◌, ℕ, ◌+◌, eqb, List, [], ◌∷◌, ◌++◌, length, take, Option, None, Some, refl, sym, ap, subst, ◌∙◌, append_assoc, append-nil, length-append, true}
use Rattle.std.proofs.lemmas.Bool.{eq-eqb}
use Rattle.std.specs.List.{flat_map}
use Rattle.std.proofs.lemmas.Grind.{flat_map-append}
use Rattle.nr_wire.specs.declared.hello.Side.{Side}
use Rattle.nr_wire.specs.declared.hello.Side.TheVariants.{Initiator, Responder}
use Rattle.nr_link.specs.Input.{InputState, input_of, initial_input, input_after}
use Rattle.nr_link.proofs.Inputs.{input_of_append, input_of_count, input_of_frames, input_of_none}
use Rattle.nr_reduce.specs.Hellos.{client_hello}
use Rattle.nr_reduce.specs.declared.mark.Mark.{Mark}
use Rattle.nr_reduce.specs.declared.mark.Mark.TheVariants as marks
use Rattle.nr_reduce.specs.declared.mark.LinkParameters.{LinkParameters}
use Rattle.nr_wire.specs.Hello.{peer}
use Rattle.nr_reduce.specs.History.{bytes_sent, bytes_received, written_at, fed_at}
use Rattle.nr_link.specs.declared.end.End.{End}
use Rattle.nr_reduce.specs.Events.{RunEvent, mark_events, events_at, events}
use Rattle.nr_reduce.specs.EndRules.{EndMachine, EndState, end_state_after, output_for_all}
use Rattle.nr_reduce.specs.ServerState.{ServerState}
use Rattle.nr_reduce.specs.Client.{client_rules}
use Rattle.nr_reduce.specs.Server.{server_rules, initial_server}
use Rattle.nr_reduce.specs.Run.{client, server, output_due}
use Rattle.nr_reduce.specs.AtEachMark.{AtEachMark}
use Rattle.nr_reduce.specs.Matched.{IsPrefixOf}
use Rattle.nr_reduce.specs.Asked.{IsAll}
use Rattle.nr_reduce.specs.KeptClient.{KeptClient, ClientKeeps, opened_client, CanResume}
use Rattle.nr_reduce.specs.Standing.{input_events, RepresentsMarks, IsState, ClientRepresents, ServerRepresents}
use Rattle.nr_reduce.specs.StandingLaws.{GoesOn, GoesByInput, ClientGoesByInput, ServerGoesByInput, ClientStandsOn, ServerStandsOn, ClientRunsOutAt, ServerRunsOutAt, ClientStaysOut, ServerStaysOut, ClientQueueIsDue, ServerQueueIsDue}
use Rattle.nr_reduce.proofs.Steps.{client_one, output_due_up_one, server_one, output_due_down_one, ended_stays}
use Rattle.nr_reduce.proofs.OpenedClients.{keeps_begins}

pub AtEachMark_more : (P : List Mark → Mark → Type 0) (before run : List Mark) (mark : Mark) → AtEachMark P before run → P (before ++ run) mark → AtEachMark P before (run ++ mark ∷ [])
AtEachMark_more P before [] mark h p = (let at : P before mark = rw append-nil at p in at, tt)
AtEachMark_more P before (m ∷ run) mark h p =
    (h.0, AtEachMark_more P (before ++ m ∷ []) run mark h.1 (rw (append_assoc before (m ∷ []) run) p))

pub itself : (link : ℕ) → eqb link link ≡ true
itself link = eq-eqb link link refl

pub one_more : {X A : Type 0} (f : X → List A) (xs : List X) (x : X) → flat_map f (xs ++ x ∷ []) ≡ flat_map f xs ++ f x
one_more f xs x = flat_map-append f xs (x ∷ []) ∙ ap (λ (zs : List _). flat_map f xs ++ zs) (append-nil (f x))

pub received_one : (link : ℕ) (side : Side) (run : List Mark) (mark : Mark) → bytes_received link side (run ++ mark ∷ []) ≡ bytes_received link side run ++ fed_at link side mark
unfolding bytes_received
received_one link side run mark = one_more (fed_at link side) run mark

pub sent_one : (link : ℕ) (side : Side) (run : List Mark) (mark : Mark) → bytes_sent link side (run ++ mark ∷ []) ≡ bytes_sent link side run ++ written_at link side mark
unfolding bytes_sent
sent_one link side run mark = one_more (written_at link side) run mark

-- the events of a mark follow from the input
pub events_input : (link : ℕ) (side : Side) (run : List Mark) (mark : Mark) →
    input_events link side (input_of (peer side) (bytes_received link side run)) mark ≡ events_at link side run mark
events_input link side run mark =
    let stream = bytes_received link side run in
    λ i. mark_events link side (input_of_count (peer side) stream i) (λ (more : List ℕ). input_of_frames (peer side) stream more i) mark

-- ---- One mark more

-- the state after some events, and the output that is due for them, are those of others
pub record SameAfter {S : Type 0} (rules : EndMachine S) (r : EndState S) (es fs : List RunEvent) : Type 0 where
  pub state : end_state_after rules r es ≡ end_state_after rules r fs
  pub output : output_for_all rules r es ≡ output_for_all rules r fs

-- which events they are doesn't matter once an end has ended
pub same_after_lem : {S : Type 0} (rules : EndMachine S) (r : EndState S) (es fs : List RunEvent) → (r.ended ≡ None → es ≡ fs) → SameAfter rules r es fs
same_after_lem rules r es fs same = by r.ended refl
  where
    by : (x : Option End) → r.ended ≡ x → SameAfter rules r es fs
    by None is = record { state = ap (end_state_after rules r) (same is); output = ap (output_for_all rules r) (same is) }
    by (Some end) is =
        let stays = ended_stays rules r.state end es in
        let stays2 = ended_stays rules r.state end fs in
        subst (λ (x : Option End). SameAfter rules (record { state = r.state; ended = x }) es fs) (sym is)
        (record { state = stays.0 ∙ sym stays2.0; output = stays.1 ∙ sym stays2.1 })

-- an end that hasn't ended after some events had not before
pub live_before : {S : Type 0} (rules : EndMachine S) (r : EndState S) (es : List RunEvent) → (end_state_after rules r es).ended ≡ None → r.ended ≡ None
live_before rules r es lives = by r.ended refl
  where
    by : (x : Option End) → r.ended ≡ x → r.ended ≡ None
    by None is = is
    by (Some end) is =
        absurd (let wrong : Some end ≡ None =
        ap (λ (q : EndState _). q.ended) (sym (ended_stays rules r.state end es).0)
        ∙ sym (ap (λ (x : Option End). (end_state_after rules (record { state = r.state; ended = x }) es).ended) is)
        ∙ lives in
        cc)

module _ {K S : Type 0} (Keeps : K → EndState S → ℕ → Type 0) (rules : EndMachine S) (link : ℕ) (side : Side) (state_of : List Mark → EndState S) (due : List Mark → List ℕ) (run : List Mark) (mark : Mark) where
  abbrev StateGoes : Type 0
  StateGoes = state_of (run ++ mark ∷ []) ≡ end_state_after rules (state_of run) (events_at link side run mark)

  abbrev DueGoes : Type 0
  DueGoes = due (run ++ mark ∷ []) ≡ due run ++ output_for_all rules (state_of run) (events_at link side run mark)

  by_input : (kept : K) (input : InputState) (queue : List ℕ) → RepresentsMarks Keeps link side state_of due kept input queue run →
      SameAfter rules (state_of run) (input_events link side input mark) (events_at link side run mark)
  by_input kept input queue s =
      same_after_lem rules (state_of run) (input_events link side input mark) (events_at link side run mark)
      (λ lives. ap (λ (i : InputState). input_events link side i mark) (s.received lives) ∙ events_input link side run mark)

  count_one : length (bytes_received link side run) + length (fed_at link side mark) ≡ length (bytes_received link side (run ++ mark ∷ []))
  count_one = sym (ap (λ (xs : List ℕ). length xs) (received_one link side run mark) ∙ length-append (bytes_received link side run) (fed_at link side mark))

  sent_left : (queue left more : List ℕ) → bytes_sent link side run ++ queue ≡ due run → DueGoes → output_for_all rules (state_of run) (events_at link side run mark) ≡ more →
      written_at link side mark ++ left ≡ queue ++ more → bytes_sent link side (run ++ mark ∷ []) ++ left ≡ due (run ++ mark ∷ [])
  sent_left queue left more output due_one more_is queued =
      let sent = bytes_sent link side run in
      ap (λ (xs : List ℕ). xs ++ left) (sent_one link side run mark)
      ∙ append_assoc sent (written_at link side mark) left
      ∙ ap (λ (xs : List ℕ). sent ++ xs) queued
      ∙ sym (append_assoc sent queue more)
      ∙ (λ i. output i ++ sym more_is i)
      ∙ sym due_one

  pub stands_on : (kept next : K) (input next_input : InputState) (queue left : List ℕ) → StateGoes → DueGoes → RepresentsMarks Keeps link side state_of due kept input queue run →
      GoesOn Keeps rules link side next input queue left mark (state_of run) (length (bytes_received link side run)) →
      ((end_state_after rules (state_of run) (input_events link side input mark)).ended ≡ None → next_input ≡ input_after input (fed_at link side mark)) →
      RepresentsMarks Keeps link side state_of due next next_input left (run ++ mark ∷ [])
  stands_on kept next input next_input queue left state_one due_one s goes fed =
      let same = by_input kept input queue s in
      let after : end_state_after rules (state_of run) (input_events link side input mark) ≡ state_of (run ++ mark ∷ []) = same.state ∙ sym state_one in
      record {
        keeps = subst (λ (n : ℕ). Keeps next (state_of (run ++ mark ∷ [])) n) count_one
            (subst (λ (r : EndState S). Keeps next r (length (bytes_received link side run) + length (fed_at link side mark))) after goes.keeps);
        received = λ lives.
            (let lives_by : (end_state_after rules (state_of run) (input_events link side input mark)).ended ≡ None = ap (λ (r : EndState S). r.ended) after ∙ lives in
            let lived : (state_of run).ended ≡ None = live_before rules (state_of run) (input_events link side input mark) lives_by in
            fed lives_by
            ∙ ap (λ (i : InputState). input_after i (fed_at link side mark)) (s.received lived)
            ∙ sym (input_of_append (peer side) (bytes_received link side run) (fed_at link side mark))
            ∙ ap (λ (stream : List ℕ). input_of (peer side) stream) (sym (received_one link side run mark)));
        output = sent_left queue left (output_for_all rules (state_of run) (input_events link side input mark)) s.output due_one (sym same.output) goes.output;
      }

  -- what an end writes that runs out of memory is due
  pub runs_out : (kept : K) (input : InputState) (queue left : List ℕ) → DueGoes → RepresentsMarks Keeps link side state_of due kept input queue run →
      IsPrefixOf (written_at link side mark ++ left) (queue ++ output_for_all rules (state_of run) (input_events link side input mark)) →
      IsPrefixOf (bytes_sent link side (run ++ mark ∷ []) ++ left) (due (run ++ mark ∷ []))
  runs_out kept input queue left due_one s first =
      let same = by_input kept input queue s in (
        first.0,
        append_assoc (bytes_sent link side (run ++ mark ∷ [])) left first.0
            ∙ sent_left queue (left ++ first.0) (output_for_all rules (state_of run) (input_events link side input mark)) s.output due_one (sym same.output)
            (sym (append_assoc (written_at link side mark) left first.0) ∙ first.1),
      )

  pub stays_out : (queue left : List ℕ) → DueGoes → IsPrefixOf (bytes_sent link side run ++ queue) (due run) → written_at link side mark ++ left ≡ queue →
      IsPrefixOf (bytes_sent link side (run ++ mark ∷ []) ++ left) (due (run ++ mark ∷ []))
  stays_out queue left due_one first queued =
      let sent = bytes_sent link side run in
      let more = output_for_all rules (state_of run) (events_at link side run mark) in (
        first.0 ++ more,
        ap (λ (xs : List ℕ). (xs ++ left) ++ (first.0 ++ more)) (sent_one link side run mark)
            ∙ ap (λ (xs : List ℕ). xs ++ (first.0 ++ more)) (append_assoc sent (written_at link side mark) left ∙ ap (λ (xs : List ℕ). sent ++ xs) queued)
            ∙ sym (append_assoc (sent ++ queue) first.0 more)
            ∙ ap (λ (xs : List ℕ). xs ++ more) first.1
            ∙ sym due_one,
      )

-- ---- Whatever is kept

pub preserved_by_input : {S : Type 0} (rules : EndMachine S) (link : ℕ) (side : Side) (state_of : List Mark → EndState S) (due : List Mark → List ℕ) (run : List Mark) (mark : Mark) (input : InputState) →
    state_of (run ++ mark ∷ []) ≡ end_state_after rules (state_of run) (events_at link side run mark) →
    due (run ++ mark ∷ []) ≡ due run ++ output_for_all rules (state_of run) (events_at link side run mark) →
    ((state_of run).ended ≡ None → input ≡ input_of (peer side) (bytes_received link side run)) →
    GoesByInput rules link side state_of due input run mark
preserved_by_input rules link side state_of due run mark input state_one due_one is =
    let es = input_events link side input mark in
    let same : SameAfter rules (state_of run) es (events_at link side run mark) =
    same_after_lem rules (state_of run) es (events_at link side run mark)
    (λ lives. ap (λ (i : InputState). input_events link side i mark) (is lives) ∙ events_input link side run mark) in
    record {
      state = state_one ∙ sym same.state;
      output = due_one ∙ ap (λ (xs : List ℕ). due run ++ xs) (sym same.output);
      sent = sent_one link side run mark;
      received = received_one link side run mark;
      next_input = λ lives.
          (let lives_by : (end_state_after rules (state_of run) es).ended ≡ None = ap (λ (r : EndState _). r.ended) (same.state ∙ sym state_one) ∙ lives in
          let lived : (state_of run).ended ≡ None = live_before rules (state_of run) es lives_by in
          ap (λ (i : InputState). input_after i (fed_at link side mark)) (is lived)
          ∙ sym (input_of_append (peer side) (bytes_received link side run) (fed_at link side mark))
          ∙ ap (λ (stream : List ℕ). input_of (peer side) stream) (sym (received_one link side run mark)));
    }

-- ---- Clients and servers

pub client_stands : ClientStandsOn
client_stands opened link kept next input next_input queue left run mark s on fed =
    stands_on (ClientKeeps opened) (client_rules opened) link Initiator (client opened link) (output_due opened link Initiator) run mark kept next input next_input queue left
    (client_one opened link run mark) (output_due_up_one opened link run mark) s on
    (λ lives. fed (on.keeps.ended ∙ lives))

pub client_by_input_lem : ClientGoesByInput
client_by_input_lem opened link input run mark is =
    preserved_by_input (client_rules opened) link Initiator (client opened link) (output_due opened link Initiator) run mark input
    (client_one opened link run mark) (output_due_up_one opened link run mark) is

pub server_by_input_lem : ServerGoesByInput
server_by_input_lem opened link input run mark is =
    preserved_by_input (server_rules opened) link Responder (server opened link) (output_due opened link Responder) run mark input
    (server_one opened link run mark) (output_due_down_one opened link run mark) is

pub server_stands : ServerStandsOn
server_stands opened link end input next_input queue left run mark s queued fed =
    let e : end ≡ server opened link run = s.keeps in
    stands_on IsState (server_rules opened) link Responder (server opened link) (output_due opened link Responder) run mark end
    (end_state_after (server_rules opened) end (input_events link Responder input mark)) input next_input queue left
    (server_one opened link run mark) (output_due_down_one opened link run mark) s
    (record {
      keeps = ap (λ (r : EndState ServerState). end_state_after (server_rules opened) r (input_events link Responder input mark)) e;
      output = queued ∙ ap (λ (r : EndState ServerState). queue ++ output_for_all (server_rules opened) r (input_events link Responder input mark)) e;
    })
    (λ lives. fed (ap (λ (r : EndState ServerState). (end_state_after (server_rules opened) r (input_events link Responder input mark)).ended) e ∙ lives))

fed_writes : (link : ℕ) (run : List Mark) (piece : List ℕ) → bytes_sent link Initiator (run ++ marks.Fed link Initiator piece ∷ []) ≡ bytes_sent link Initiator run
fed_writes link run piece = sent_one link Initiator run (marks.Fed link Initiator piece) ∙ append-nil (bytes_sent link Initiator run)

first_more_lem : (sent queued left due : List ℕ) → sent ++ queued ≡ due → IsPrefixOf queued left → IsPrefixOf due (sent ++ left)
first_more_lem sent queued left due is first =
    (first.0, ap (λ (xs : List ℕ). xs ++ first.0) (sym is) ∙ append_assoc sent queued first.0 ∙ ap (λ (xs : List ℕ). sent ++ xs) first.1)

pub client_runs_out_lem : ClientRunsOutAt
client_runs_out_lem opened link kept next input queue queued left run piece n s on queues first out =
    let part : Mark = marks.Fed link Initiator (take n piece) in
    let mark : Mark = marks.Fed link Initiator piece in
    let live_next : KeptClient = record next { ended = None } in
    let at : ClientRepresents opened link live_next (input_after input (fed_at link Initiator part)) queued (run ++ part ∷ []) =
    client_stands opened link kept live_next input (input_after input (fed_at link Initiator part)) queue queued run part s on (λ lives. refl) in
    let due : bytes_sent link Initiator run ++ queued ≡ output_due opened link Initiator (run ++ part ∷ []) =
    ap (λ (xs : List ℕ). xs ++ queued) (sym (fed_writes link run (take n piece))) ∙ at.output in
    record {
      ended = out;
      keeps = at.keeps;
      queued = subst (λ (xs : List ℕ). IsPrefixOf (output_due opened link Initiator (run ++ part ∷ [])) (xs ++ left)) (sym (fed_writes link run piece))
          (first_more_lem (bytes_sent link Initiator run) queued left (output_due opened link Initiator (run ++ part ∷ [])) due queues);
      output = runs_out (ClientKeeps opened) (client_rules opened) link Initiator (client opened link) (output_due opened link Initiator) run mark kept input queue left (output_due_up_one opened link run mark) s first;
    }

pub server_runs_out_lem : ServerRunsOutAt
server_runs_out_lem opened link end input queue left run mark s first =
    let e : end ≡ server opened link run = s.keeps in (
      refl,
      runs_out IsState (server_rules opened) link Responder (server opened link) (output_due opened link Responder) run mark end input queue left (output_due_down_one opened link run mark) s
          (subst (λ (r : EndState ServerState). IsPrefixOf (written_at link Responder mark ++ left) (queue ++ output_for_all (server_rules opened) r (input_events link Responder input mark))) e first),
    )

sent_still : (link : ℕ) (queue left : List ℕ) (run : List Mark) (mark : Mark) → written_at link Initiator mark ++ left ≡ queue →
    bytes_sent link Initiator run ++ queue ≡ bytes_sent link Initiator (run ++ mark ∷ []) ++ left
sent_still link queue left run mark queued =
    ap (λ (xs : List ℕ). bytes_sent link Initiator run ++ xs) (sym queued)
    ∙ sym (append_assoc (bytes_sent link Initiator run) (written_at link Initiator mark) left)
    ∙ ap (λ (xs : List ℕ). xs ++ left) (sym (sent_one link Initiator run mark))

pub client_stays_out_lem : ClientStaysOut
client_stays_out_lem opened link kept queue left stopped run mark out queued = record {
  ended = out.ended;
  keeps = out.keeps;
  queued = subst (λ (xs : List ℕ). IsPrefixOf (output_due opened link Initiator stopped) xs) (sent_still link queue left run mark queued) out.queued;
  output = stays_out (ClientKeeps opened) (client_rules opened) link Initiator (client opened link) (output_due opened link Initiator) run mark queue left (output_due_up_one opened link run mark) out.output queued;
}

pub server_stays_out_lem : ServerStaysOut
server_stays_out_lem opened link ended queue left run mark out queued =
    (out.0, stays_out IsState (server_rules opened) link Responder (server opened link) (output_due opened link Responder) run mark queue left (output_due_down_one opened link run mark) out.1 queued)

pub client_begins_lem : (opened : LinkParameters) (link : ℕ) → CanResume opened.resumed opened.first_xid → ClientRepresents opened link (opened_client opened) (initial_input Responder) (client_hello opened) []
unfolding client events bytes_received bytes_sent output_due
client_begins_lem opened link rise = record {
  keeps = keeps_begins opened rise;
  received = λ lives. sym (input_of_none Responder);
  output = sym (append-nil (client_hello opened));
}

pub server_begins_lem : (opened : LinkParameters) (link : ℕ) → ServerRepresents opened link (initial_server opened) (initial_input Initiator) [] []
unfolding server events bytes_received bytes_sent output_due
server_begins_lem opened link = record {
  keeps = refl;
  received = λ lives. sym (input_of_none Initiator);
  output = refl;
}

-- ---- What is written from a queue is due, and all of it if nothing is left

due_queue : (sent taken left due : List ℕ) → sent ++ (taken ++ left) ≡ due → IsPrefixOf (sent ++ taken) due × (left ≡ [] → IsAll (sent ++ taken) due)
due_queue sent taken left due is = (
  (left, append_assoc sent taken left ∙ is),
  λ none. sym (append-nil (sent ++ taken)) ∙ ap (λ (xs : List ℕ). (sent ++ taken) ++ xs) (sym none) ∙ append_assoc sent taken left ∙ is,
)

due_out : (sent taken left due : List ℕ) → IsPrefixOf (sent ++ (taken ++ left)) due → IsPrefixOf (sent ++ taken) due
due_out sent taken left due first = (
  left ++ first.0,
  sym (append_assoc (sent ++ taken) left first.0) ∙ ap (λ (xs : List ℕ). xs ++ first.0) (append_assoc sent taken left) ∙ first.1,
)

pub client_queue_lem : ClientQueueIsDue
client_queue_lem opened link kept input taken left stopped run = (
  λ s. due_queue (bytes_sent link Initiator run) taken left (output_due opened link Initiator run) s.output,
  λ out. due_out (bytes_sent link Initiator run) taken left (output_due opened link Initiator run) out.output,
)

pub server_queue_lem : ServerQueueIsDue
server_queue_lem opened link end ended input taken left run = (
  λ s. due_queue (bytes_sent link Responder run) taken left (output_due opened link Responder run) s.output,
  λ out. due_out (bytes_sent link Responder run) taken left (output_due opened link Responder run) out.1,
)
