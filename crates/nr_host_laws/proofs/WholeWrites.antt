-- A run of a connection in which each Wrote writes all that is due: what several wrote before a piece is written by one.
use Rattle.std.proofs.Common.{◌≡◌, ℕ, ◌+◌, List, [], ◌∷◌, ◌++◌, length, None, refl, sym, ap, ◌∙◌, append_assoc, append-nil, eqb, true, Some, Option}
use Rattle.std.proofs.lemmas.Bool.{eq-eqb}
use Rattle.std.proofs.lemmas.Option.{none-some}
use Rattle.nr_wire.specs.declared.hello.Side.TheVariants.{Initiator, Responder}
use Rattle.nr_link.specs.declared.end.End.{End}
use Rattle.nr_link.specs.Frames.{frames_completed}
use Rattle.nr_reduce.specs.declared.mark.Mark.{Mark}
use Rattle.nr_reduce.specs.declared.mark.Mark.TheVariants as marks
use Rattle.nr_reduce.specs.declared.mark.LinkParameters.{LinkParameters}
use Rattle.nr_reduce.specs.EndRules.{EndState, end_state_after, next_end_state, next_end_state_by, next_end_state_in, output_for, output_for_all, output_for_by, output_for_in}
use Rattle.nr_reduce.specs.Events.{RunEvent, events_at, mark_events}
use Rattle.nr_reduce.specs.Events.RunEvent.{QueueWritten}
use Rattle.nr_reduce.specs.History.{bytes_received, bytes_sent, fed_at, written_at}
use Rattle.nr_reduce.specs.Run.{output_due, server}
use Rattle.nr_reduce.specs.Server.{server_end, server_output, server_rules, server_state_after}
use Rattle.nr_reduce.specs.ServerState.{ServerState}
use Rattle.nr_reduce.proofs.CountedBytes.{server_bytes_written}
use Rattle.nr_reduce.proofs.Standing.{itself, received_one, sent_one}
use Rattle.nr_reduce.proofs.Steps.{ended_stays, output_due_down_one, server_one}
use Rattle.nr_host.specs.Connections.{handled_by, handled_in}
use Rattle.nr_host.specs.Turns.{Handled}
use Rattle.nr_host.proofs.Marks.{handled_more}

-- ---- The server, but for what it has written

abbrev with_written : ℕ → EndState ServerState → EndState ServerState
with_written n e = record { state = record e.state { written = n }; ended = e.ended }

after_live : (opened : LinkParameters) (e : EndState ServerState) (event : RunEvent) → e.ended ≡ None → server_end opened e.state event ≡ None
    → next_end_state (server_rules opened) e event ≡ record { state = server_state_after opened e.state event; ended = None }
after_live opened e event live none =
    (λ i. next_end_state_in (server_rules opened) e.state event (live i)) ∙ (λ i. next_end_state_by (server_rules opened) e.state event (none i))

out_live : (opened : LinkParameters) (e : EndState ServerState) (event : RunEvent) → e.ended ≡ None → server_end opened e.state event ≡ None
    → output_for (server_rules opened) e event ≡ server_output opened e.state event
out_live opened e event live none =
    (λ i. output_for_in (server_rules opened) e.state event (live i)) ∙ (λ i. output_for_by (server_rules opened) e.state event (none i))

writes_same : (opened : LinkParameters) (e : EndState ServerState) (n k : ℕ) → e.ended ≡ None
    → with_written n (next_end_state (server_rules opened) e (QueueWritten k)) ≡ with_written n e
unfolding server_end server_state_after
writes_same opened e n k live = ap (with_written n) (after_live opened e (QueueWritten k) live refl) ∙ (λ i. record { state = record e.state { written = n }; ended = sym live i })

writes_nothing : (opened : LinkParameters) (e : EndState ServerState) (k : ℕ) → e.ended ≡ None → output_for (server_rules opened) e (QueueWritten k) ≡ []
unfolding server_end server_output
writes_nothing opened e k live = out_live opened e (QueueWritten k) live refl

next_written : (opened : LinkParameters) (e : EndState ServerState) (k : ℕ) → e.ended ≡ None → next_end_state (server_rules opened) e (QueueWritten k) ≡ with_written (e.state.written + k) e
unfolding server_end server_state_after
next_written opened e k live = after_live opened e (QueueWritten k) live refl ∙ (λ i. record { state = record e.state { written = e.state.written + k }; ended = sym live i })

-- an end that has ended
ended_state : (opened : LinkParameters) (e : EndState ServerState) (end : End) (es : List RunEvent) → e.ended ≡ Some end → end_state_after (server_rules opened) e es ≡ e
ended_state opened e end es is =
    ap (λ (x : Option End). end_state_after (server_rules opened) (record { state = e.state; ended = x }) es) is ∙ (ended_stays (server_rules opened) e.state end es).0
    ∙ (λ i. record { state = e.state; ended = sym is i })

ended_out : (opened : LinkParameters) (e : EndState ServerState) (end : End) (es : List RunEvent) → e.ended ≡ Some end → output_for_all (server_rules opened) e es ≡ []
ended_out opened e end es is =
    ap (λ (x : Option End). output_for_all (server_rules opened) (record { state = e.state; ended = x }) es) is ∙ (ended_stays (server_rules opened) e.state end es).1

-- ---- One run has marks of which the other has not written all

pub record IsSame (opened : LinkParameters) (link : ℕ) (run run' : List Mark) : Type 0 where
  pub state : server opened link run' ≡ server opened link run
  pub due : output_due opened link Responder run' ≡ output_due opened link Responder run
  pub sent : bytes_sent link Responder run' ≡ bytes_sent link Responder run
  pub received : bytes_received link Responder run' ≡ bytes_received link Responder run
  pub handled : handled_in run' ≡ handled_in run

pub record IsBehind (opened : LinkParameters) (link : ℕ) (run run' : List Mark) (left : List ℕ) : Type 0 where
  pub written : ℕ
  pub state : server opened link run' ≡ with_written written (server opened link run)
  pub due : output_due opened link Responder run' ≡ output_due opened link Responder run
  pub kept : (end : End) → (server opened link run).ended ≡ Some end → written ≡ (server opened link run).state.written
  pub sent : bytes_sent link Responder run' ++ left ≡ bytes_sent link Responder run
  pub received : bytes_received link Responder run' ≡ bytes_received link Responder run
  pub handled : handled_in run' ≡ handled_in run

module _ (opened : LinkParameters) (link : ℕ) where
  -- a run that goes on with some marks, of which the server's state stays
  pub stays : (run : List Mark) (mark : Mark) (end : End) → (server opened link run).ended ≡ Some end → server opened link (run ++ mark ∷ []) ≡ server opened link run
  stays run mark end is = server_one opened link run mark ∙ ended_state opened (server opened link run) end (events_at link Responder run mark) is

  pub due_stays : (run : List Mark) (mark : Mark) (end : End) → (server opened link run).ended ≡ Some end → output_due opened link Responder (run ++ mark ∷ []) ≡ output_due opened link Responder run
  due_stays run mark end is =
      output_due_down_one opened link run mark
      ∙ ap (λ (o : List ℕ). output_due opened link Responder run ++ o) (ended_out opened (server opened link run) end (events_at link Responder run mark) is)
      ∙ append-nil (output_due opened link Responder run)

  pub same_behind : (run run' : List Mark) → IsSame opened link run run' → IsBehind opened link run run' []
  same_behind run run' h = record {
    written = (server opened link run).state.written;
    state = h.state;
    kept = λ end is. refl;
    due = h.due;
    sent = append-nil (bytes_sent link Responder run') ∙ h.sent;
    received = h.received;
    handled = h.handled;
  }

  pub same_more : (run run' : List Mark) (mark : Mark) → IsSame opened link run run' → IsSame opened link (run ++ mark ∷ []) (run' ++ mark ∷ [])
  same_more run run' mark h = record {
    state = server_one opened link run' mark
        ∙ (λ i. end_state_after (server_rules opened) (h.state i) (mark_events link Responder (length (h.received i)) (frames_completed Initiator (h.received i)) mark))
        ∙ sym (server_one opened link run mark);
    due = output_due_down_one opened link run' mark
        ∙ (λ i. h.due i ++ output_for_all (server_rules opened) (h.state i) (mark_events link Responder (length (h.received i)) (frames_completed Initiator (h.received i)) mark))
        ∙ sym (output_due_down_one opened link run mark);
    sent = sent_one link Responder run' mark ∙ ap (λ (l : List ℕ). l ++ written_at link Responder mark) h.sent ∙ sym (sent_one link Responder run mark);
    received = received_one link Responder run' mark ∙ ap (λ (l : List ℕ). l ++ fed_at link Responder mark) h.received ∙ sym (received_one link Responder run mark);
    handled = handled_more run' mark ∙ ap (λ (l : List Handled). l ++ handled_by mark) h.handled ∙ sym (handled_more run mark);
  }

  pub wrote_more : (run run' : List Mark) (left bytes : List ℕ) (l : ℕ) → l ≡ link → IsBehind opened link run run' left
      → IsBehind opened link (run ++ marks.Wrote l Responder bytes ∷ []) run' (left ++ bytes)
  wrote_more run run' left bytes l e h = by (server opened link run).ended refl
    where
      is_link : eqb l link ≡ true
      is_link = eq-eqb l link e

      sent : bytes_sent link Responder (run ++ marks.Wrote l Responder bytes ∷ []) ≡ bytes_sent link Responder run ++ bytes
      sent = sent_one link Responder run (marks.Wrote l Responder bytes) ∙ rw (is_link) refl

      with_server : ((n : ℕ) → with_written n (server opened link (run ++ marks.Wrote l Responder bytes ∷ [])) ≡ with_written n (server opened link run))
          → output_due opened link Responder (run ++ marks.Wrote l Responder bytes ∷ []) ≡ output_due opened link Responder run
          → ((end : End) → (server opened link (run ++ marks.Wrote l Responder bytes ∷ [])).ended ≡ Some end → h.written ≡ (server opened link (run ++ marks.Wrote l Responder bytes ∷ [])).state.written)
          → IsBehind opened link (run ++ marks.Wrote l Responder bytes ∷ []) run' (left ++ bytes)
      with_server state due kept = record {
        written = h.written;
        state = h.state ∙ sym (state h.written);
        due = h.due ∙ sym due;
        kept = kept;
        sent = sym (append_assoc (bytes_sent link Responder run') left bytes) ∙ ap (λ (xs : List ℕ). xs ++ bytes) h.sent ∙ sym sent;
        received = h.received ∙ sym (received_one link Responder run (marks.Wrote l Responder bytes) ∙ append-nil (bytes_received link Responder run));
        handled = h.handled ∙ sym (handled_more run (marks.Wrote l Responder bytes) ∙ append-nil (handled_in run));
      }

      its : events_at link Responder run (marks.Wrote l Responder bytes) ≡ QueueWritten (length bytes) ∷ []
      its = rw (is_link) refl

      by : (x : Option End) → (server opened link run).ended ≡ x → IsBehind opened link (run ++ marks.Wrote l Responder bytes ∷ []) run' (left ++ bytes)
      by None live =
          let next : server opened link (run ++ marks.Wrote l Responder bytes ∷ []) ≡ next_end_state (server_rules opened) (server opened link run) (QueueWritten (length bytes)) =
          server_one opened link run (marks.Wrote l Responder bytes) ∙ ap (λ (es : List RunEvent). end_state_after (server_rules opened) (server opened link run) es) its in
          let goes : (n : ℕ) → with_written n (server opened link (run ++ marks.Wrote l Responder bytes ∷ [])) ≡ with_written n (server opened link run) =
          λ n. ap (with_written n) next ∙ writes_same opened (server opened link run) n (length bytes) live in
          with_server goes
          (output_due_down_one opened link run (marks.Wrote l Responder bytes)
          ∙ ap (λ (es : List RunEvent). output_due opened link Responder run ++ output_for_all (server_rules opened) (server opened link run) es) its
          ∙ ap (λ (o : List ℕ). output_due opened link Responder run ++ (o ++ [])) (writes_nothing opened (server opened link run) (length bytes) live)
          ∙ append-nil (output_due opened link Responder run))
          (λ end is. absurd (none-some end (sym (ap (λ (x : EndState ServerState). x.ended) (goes 0) ∙ live) ∙ is)))
      by (Some end) out =
          let same : server opened link (run ++ marks.Wrote l Responder bytes ∷ []) ≡ server opened link run = stays run (marks.Wrote l Responder bytes) end out in
          with_server (λ n. ap (with_written n) same) (due_stays run (marks.Wrote l Responder bytes) end out)
          (λ end' is. h.kept end out ∙ ap (λ (x : EndState ServerState). x.state.written) (sym same))

  -- a Wrote of what is left
  pub all_written : (run run' : List Mark) (left : List ℕ) → IsBehind opened link run run' left → IsSame opened link run (run' ++ marks.Wrote link Responder left ∷ [])
  all_written run run' left h = by (server opened link run).ended refl
    where
      sent : bytes_sent link Responder (run' ++ marks.Wrote link Responder left ∷ []) ≡ bytes_sent link Responder run' ++ left
      sent = sent_one link Responder run' (marks.Wrote link Responder left) ∙ rw (itself link) refl

      its : events_at link Responder run' (marks.Wrote link Responder left) ≡ QueueWritten (length left) ∷ []
      its = rw (itself link) refl

      with_server : server opened link (run' ++ marks.Wrote link Responder left ∷ []) ≡ server opened link run
          → output_due opened link Responder (run' ++ marks.Wrote link Responder left ∷ []) ≡ output_due opened link Responder run
          → IsSame opened link run (run' ++ marks.Wrote link Responder left ∷ [])
      with_server state due = record {
        state = state;
        due = due;
        sent = sent ∙ h.sent;
        received = received_one link Responder run' (marks.Wrote link Responder left) ∙ append-nil (bytes_received link Responder run') ∙ h.received;
        handled = handled_more run' (marks.Wrote link Responder left) ∙ append-nil (handled_in run') ∙ h.handled;
      }

      by : (x : Option End) → (server opened link run).ended ≡ x → IsSame opened link run (run' ++ marks.Wrote link Responder left ∷ [])
      by None live =
          let step : server opened link (run' ++ marks.Wrote link Responder left ∷ []) ≡ with_written (h.written + length left) (server opened link run) =
          server_one opened link run' (marks.Wrote link Responder left) ∙ (λ i. end_state_after (server_rules opened) (h.state i) (its i))
          ∙ next_written opened (with_written h.written (server opened link run)) (length left) live in
          let live' : (server opened link (run' ++ marks.Wrote link Responder left ∷ [])).ended ≡ None = ap (λ (e : EndState ServerState). e.ended) step ∙ live in
          let count : h.written + length left ≡ (server opened link run).state.written =
          sym (ap (λ (e : EndState ServerState). e.state.written) step) ∙ server_bytes_written opened link (run' ++ marks.Wrote link Responder left ∷ []) live'
          ∙ ap (λ (xs : List ℕ). length xs) (sent ∙ h.sent) ∙ sym (server_bytes_written opened link run live) in
          with_server (step ∙ (λ i. with_written (count i) (server opened link run)))
          (output_due_down_one opened link run' (marks.Wrote link Responder left)
          ∙ (λ i. h.due i ++ output_for_all (server_rules opened) (h.state i) (its i))
          ∙ ap (λ (o : List ℕ). output_due opened link Responder run ++ (o ++ [])) (writes_nothing opened (with_written h.written (server opened link run)) (length left) live)
          ∙ append-nil (output_due opened link Responder run))
      by (Some end) out =
          let kept : h.written ≡ (server opened link run).state.written = h.kept end out in
          let state : server opened link run' ≡ server opened link run = h.state ∙ (λ i. with_written (kept i) (server opened link run)) in
          let out' : (server opened link run').ended ≡ Some end = ap (λ (e : EndState ServerState). e.ended) state ∙ out in
          with_server (stays run' (marks.Wrote link Responder left) end out' ∙ state) (due_stays run' (marks.Wrote link Responder left) end out' ∙ h.due)
