-- What a client keeps stands for one mark more: a revoke, a write, and a mark that is no event of it.
use Rattle.std.proofs.Common.{◌≡◌, ℕ, ◌+◌, ◌&&◌, eqb, cond, Bool, true, List, [], ◌∷◌, ◌++◌, length, map, Option, None, Some, refl, sym, ap, subst, ◌∙◌, arith, append-nil}
use Rattle.nr_wire.specs.declared.hello.Side.TheVariants.{Initiator, Responder}
use Rattle.nr_link.specs.declared.end.End.{End}
use Rattle.nr_link.specs.Input.{InputState, input_of, input_count, input_after}
use Rattle.nr_link.proofs.Inputs.{input_of_append, input_of_count}
use Rattle.nr_reduce.specs.declared.mark.Mark.{Mark}
use Rattle.nr_reduce.specs.KeptCalls.{KeptCall, numbered_calls}
use Rattle.std.specs.List.{AllByRecursion, find}
use Rattle.nr_reduce.specs.declared.mark.Mark.TheVariants as marks
use Rattle.nr_reduce.specs.declared.mark.LinkParameters.{LinkParameters}
use Rattle.nr_reduce.specs.History.{bytes_sent, bytes_received, written_at, fed_at}
use Rattle.nr_reduce.specs.Written.{ends_written}
use Rattle.nr_reduce.specs.Events.{RunEvent, if_own, events_at}
use Rattle.nr_reduce.specs.Events.RunEvent.{MemoryRevoked, QueueWritten}
use Rattle.nr_reduce.specs.EndRules.{EndState, next_end_state, output_for, output_for_in, end_state_after, output_for_all, live}
use Rattle.nr_reduce.specs.ClientState.{OutstandingCall, ClientState}
use Rattle.nr_reduce.specs.Client.{client_rules, client_end, client_output}
use Rattle.nr_reduce.specs.Run.{client, output_due}
use Rattle.nr_reduce.specs.Matched.{IsPrefixOf}
use Rattle.nr_reduce.specs.KeptClient.{KeptClient, ClientKeeps, IsWaiting, HasRegionsOf, kept_revoked, sent_kept, kept_sent}
use Rattle.nr_reduce.specs.Standing.{input_events, ClientRepresents, ClientRunsOut}
use Rattle.nr_reduce.specs.StandingLaws.{RevokeStands, RevokeStaysOut, WroteStands, OtherMarkStands}
use Rattle.nr_reduce.proofs.Steps.{client_one, output_due_up_one}
use Rattle.nr_reduce.proofs.Standing.{itself, received_one, events_input, SameAfter, same_after_lem, live_before, stands_on, client_stays_out_lem}
use Rattle.nr_reduce.proofs.Releasing.{kept_revokes}
use Rattle.nr_reduce.proofs.Submits.{kept_writes, rising_sent, opens_sent, holds_sent}

-- events after which no output is due
revoke_output : (opened : LinkParameters) (e : EndState ClientState) (place xid : ℕ) → output_for (client_rules opened) e (MemoryRevoked place xid) ≡ []
unfolding client_end client_output
revoke_output opened e place xid = by e.ended refl
  where
    by : (x : Option End) → e.ended ≡ x → output_for_in (client_rules opened) e.state (MemoryRevoked place xid) e.ended ≡ []
    by None is = ap (λ (x : Option End). output_for_in (client_rules opened) e.state (MemoryRevoked place xid) x) is
    by (Some end) is = ap (λ (x : Option End). output_for_in (client_rules opened) e.state (MemoryRevoked place xid) x) is

wrote_output : (opened : LinkParameters) (e : EndState ClientState) (taken : ℕ) → output_for (client_rules opened) e (QueueWritten taken) ≡ []
unfolding client_end client_output
wrote_output opened e taken = by e.ended refl
  where
    by : (x : Option End) → e.ended ≡ x → output_for_in (client_rules opened) e.state (QueueWritten taken) e.ended ≡ []
    by None is = ap (λ (x : Option End). output_for_in (client_rules opened) e.state (QueueWritten taken) x) is
    by (Some end) is = ap (λ (x : Option End). output_for_in (client_rules opened) e.state (QueueWritten taken) x) is

one_output : (opened : LinkParameters) (e : EndState ClientState) (event : RunEvent) → output_for (client_rules opened) e event ≡ [] → output_for_all (client_rules opened) e (event ∷ []) ≡ []
one_output opened e event none = ap (λ (xs : List ℕ). xs ++ []) none

none_more : (n : ℕ) (xs : List ℕ) → xs ≡ [] → n + length xs ≡ n
none_more n xs none = ap (λ (ys : List ℕ). n + length ys) none ∙ omega arith

-- the input stays if nothing is fed
same_input : (link : ℕ) (run : List Mark) (input : InputState) (fed : List ℕ) → fed ≡ [] → input ≡ input_of Responder (bytes_received link Initiator run) → input ≡ input_after input fed
same_input link run input fed none is =
    let stream = bytes_received link Initiator run in
    is
    ∙ ap (λ (xs : List ℕ). input_of Responder xs) (sym (append-nil stream))
    ∙ input_of_append Responder stream []
    ∙ (λ i. input_after (sym is i) (sym none i))

-- a mark with events that don't end the client, at which nothing is fed
stands_unfed : (opened : LinkParameters) (link : ℕ) (kept next : KeptClient) (input : InputState) (queue left : List ℕ) (run : List Mark) (mark : Mark) (es : List RunEvent) → ClientRepresents opened link kept input queue run →
    fed_at link Initiator mark ≡ [] → ((client opened link run).ended ≡ None → input_events link Initiator input mark ≡ es) →
    ClientKeeps opened next (end_state_after (client_rules opened) (client opened link run) es) (length (bytes_received link Initiator run)) →
    written_at link Initiator mark ++ left ≡ queue ++ output_for_all (client_rules opened) (client opened link run) es →
    ClientRepresents opened link next input left (run ++ mark ∷ [])
stands_unfed opened link kept next input queue left run mark es s none events_are keeps output =
    let e = client opened link run in
    let count = length (bytes_received link Initiator run) in
    let same : SameAfter (client_rules opened) e (input_events link Initiator input mark) es = same_after_lem (client_rules opened) e (input_events link Initiator input mark) es events_are in
    stands_on (ClientKeeps opened) (client_rules opened) link Initiator (client opened link) (output_due opened link Initiator) run mark kept next input input queue left
    (client_one opened link run mark) (output_due_up_one opened link run mark) s
    (record {
      keeps = subst (λ (n : ℕ). ClientKeeps opened next (end_state_after (client_rules opened) e (input_events link Initiator input mark)) n) (sym (none_more count (fed_at link Initiator mark) none))
          (subst (λ (r : EndState ClientState). ClientKeeps opened next r count) (sym same.state) keeps);
      output = output ∙ ap (λ (xs : List ℕ). queue ++ xs) (sym same.output);
    })
    (λ lives. same_input link run input (fed_at link Initiator mark) none (s.received (lived e (input_events link Initiator input mark) lives)))
  where
    lived : (e : EndState ClientState) (es : List RunEvent) → (end_state_after (client_rules opened) e es).ended ≡ None → e.ended ≡ None
    lived e es lives = live_before (client_rules opened) e es lives

own_events : (link : ℕ) (es : List RunEvent) → if_own (eqb link link && true) es ≡ es
own_events link es = ap (λ (b : Bool). if_own (b && true) es) (itself link)

pub revoke_stands_lem : RevokeStands
revoke_stands_lem opened link kept input queue run xid bytes s =
    let e = client opened link run in
    let count = length (bytes_received link Initiator run) in
    let mark : Mark = marks.Revoke link xid bytes in
    let event : RunEvent = MemoryRevoked count xid in
    stands_unfed opened link kept (kept_revoked kept xid) input queue queue run mark (event ∷ []) s refl
    (λ lives. own_events link (MemoryRevoked (input_count input) xid ∷ []) ∙ ap (λ (n : ℕ). MemoryRevoked n xid ∷ []) (ap input_count (s.received lives) ∙ input_of_count Responder (bytes_received link Initiator run)))
    (kept_revokes opened kept e count xid s.keeps)
    (sym (append-nil queue) ∙ ap (λ (xs : List ℕ). queue ++ xs) (sym (one_output opened e event (revoke_output opened e count xid))))

-- a mark of revoke at which nothing is due, as the run says
revoke_at : (link : ℕ) (run : List Mark) (xid : ℕ) (bytes : List ℕ) → events_at link Initiator run (marks.Revoke link xid bytes) ≡ MemoryRevoked (length (bytes_received link Initiator run)) xid ∷ []
revoke_at link run xid bytes = own_events link (MemoryRevoked (length (bytes_received link Initiator run)) xid ∷ [])

revoke_due : (opened : LinkParameters) (link : ℕ) (run : List Mark) (xid : ℕ) (bytes : List ℕ) → output_due opened link Initiator (run ++ marks.Revoke link xid bytes ∷ []) ≡ output_due opened link Initiator run
revoke_due opened link run xid bytes =
    let e = client opened link run in
    let event : RunEvent = MemoryRevoked (length (bytes_received link Initiator run)) xid in
    output_due_up_one opened link run (marks.Revoke link xid bytes)
    ∙ ap (λ (es : List RunEvent). output_due opened link Initiator run ++ output_for_all (client_rules opened) e es) (revoke_at link run xid bytes)
    ∙ ap (λ (xs : List ℕ). output_due opened link Initiator run ++ xs) (one_output opened e event (revoke_output opened e (length (bytes_received link Initiator run)) xid))
    ∙ append-nil (output_due opened link Initiator run)

revoked_still : (opened : LinkParameters) (kept : KeptClient) (e : EndState ClientState) (count xid : ℕ) →
    ClientKeeps opened (kept_revoked (record kept { ended = None }) xid) e count → ClientKeeps opened (record (kept_revoked kept xid) { ended = None }) e count
unfolding kept_revoked
revoked_still opened kept e count xid keeps = keeps

revoked_ended : (kept : KeptClient) (xid : ℕ) → (kept_revoked kept xid).ended ≡ kept.ended
unfolding kept_revoked
revoked_ended kept xid = refl

pub revoke_stays_out : RevokeStaysOut
revoke_stays_out opened link kept queue stopped run xid bytes out =
    let mark : Mark = marks.Revoke link xid bytes in
    let e = client opened link stopped in
    let count = length (bytes_received link Initiator stopped) in
    let after : client opened link (stopped ++ mark ∷ []) ≡ next_end_state (client_rules opened) e (MemoryRevoked count xid) =
    client_one opened link stopped mark ∙ ap (λ (es : List RunEvent). end_state_after (client_rules opened) e es) (revoke_at link stopped xid bytes) in
    let counts : length (bytes_received link Initiator (stopped ++ mark ∷ [])) ≡ count =
    ap (λ (xs : List ℕ). length xs) (received_one link Initiator stopped mark ∙ append-nil (bytes_received link Initiator stopped)) in
    let stays : ClientRunsOut opened link kept queue stopped (run ++ mark ∷ []) = client_stays_out_lem opened link kept queue queue stopped run mark out refl in
    record {
      ended = revoked_ended kept xid ∙ out.ended;
      keeps = revoked_still opened kept (client opened link (stopped ++ mark ∷ [])) (length (bytes_received link Initiator (stopped ++ mark ∷ []))) xid
          (subst (λ (m : ℕ). ClientKeeps opened (kept_revoked (record kept { ended = None }) xid) (client opened link (stopped ++ mark ∷ [])) m) (sym counts)
          (subst (λ (r : EndState ClientState). ClientKeeps opened (kept_revoked (record kept { ended = None }) xid) r count) (sym after)
          (kept_revokes opened (record kept { ended = None }) e count xid out.keeps)));
      queued = subst (λ (xs : List ℕ). IsPrefixOf xs (bytes_sent link Initiator (run ++ mark ∷ []) ++ queue)) (sym (revoke_due opened link stopped xid bytes)) stays.queued;
      output = stays.output;
    }

waits_sent : (sent : ℕ) (os : List OutstandingCall) (cs : List KeptCall) → AllByRecursion (IsWaiting os) cs → AllByRecursion (IsWaiting os) (map (sent_kept sent) cs)
waits_sent sent os [] h = tt
waits_sent sent os (c ∷ cs) h = (one (find (λ (p : OutstandingCall). eqb p.xid c.xid) os) h.0, waits_sent sent os cs h.1)
  where
    one : (o : Option OutstandingCall) → HasRegionsOf c o → HasRegionsOf (sent_kept sent c) o
    one None h = h
    one (Some o) h = record { call = h.call; stags = h.stags }

-- of a client that has ended it doesn't matter which Sends have left
writes_ended : (opened : LinkParameters) (kept : KeptClient) (k : ClientState) (end : End) (count sent : ℕ) → ClientKeeps opened kept (record { state = k; ended = Some end }) count → ClientKeeps opened (kept_sent sent kept) (record { state = k; ended = Some end }) count
unfolding kept_sent
writes_ended opened kept k end count sent keeps = record {
  ended = keeps.ended;
  xid = keeps.xid;
  sends = keeps.sends;
  grant = keeps.grant;
  up = keeps.up;
  down = keeps.down;
  invalidates = keeps.invalidates;
  opening = keeps.opening;
  outstanding = keeps.outstanding;
  calls = λ e. absurd cc;
  memory = λ e. absurd cc;
  waits = waits_sent sent (numbered_calls k) kept.calls keeps.waits;
  rising = rising_sent sent kept.calls kept.next_xid keeps.rising;
  opens = opens_sent sent k.regions kept.calls keeps.opens;
  accesses = keeps.accesses;
  holds = holds_sent sent kept.memory k count kept.calls keeps.holds;
}

writes : (opened : LinkParameters) (kept : KeptClient) (e : EndState ClientState) (count sent taken : ℕ) → (e.ended ≡ None → sent ≡ ends_written (e.state.written + taken) e.state.send_ends) → ClientKeeps opened kept e count →
    ClientKeeps opened (kept_sent sent kept) (next_end_state (client_rules opened) e (QueueWritten taken)) count
writes opened kept e count sent taken many keeps = by e.ended refl
  where
    by : (x : Option End) → e.ended ≡ x → ClientKeeps opened (kept_sent sent kept) (next_end_state (client_rules opened) e (QueueWritten taken)) count
    by None is =
        subst (λ (y : Option End). ClientKeeps opened (kept_sent sent kept) (next_end_state (client_rules opened) (record { state = e.state; ended = y }) (QueueWritten taken)) count) (sym is)
        (subst (λ (m : ℕ). ClientKeeps opened (kept_sent m kept) (next_end_state (client_rules opened) (live e.state) (QueueWritten taken)) count) (sym (many is))
        (kept_writes opened kept e.state count taken (subst (λ (y : Option End). ClientKeeps opened kept (record { state = e.state; ended = y }) count) is keeps)))
    by (Some end) is =
        subst (λ (y : Option End). ClientKeeps opened (kept_sent sent kept) (next_end_state (client_rules opened) (record { state = e.state; ended = y }) (QueueWritten taken)) count) (sym is)
        (writes_ended opened kept e.state end count sent (subst (λ (y : Option End). ClientKeeps opened kept (record { state = e.state; ended = y }) count) is keeps))

taken_is : (link : ℕ) (taken : List ℕ) → written_at link Initiator (marks.Wrote link Initiator taken) ≡ taken
taken_is link taken = ap (λ (b : Bool). cond (b && true) taken []) (itself link)

pub wrote_stands : WroteStands
wrote_stands opened link kept input taken left run sent s many =
    let e = client opened link run in
    let count = length (bytes_received link Initiator run) in
    let mark : Mark = marks.Wrote link Initiator taken in
    let event : RunEvent = QueueWritten (length taken) in
    stands_unfed opened link kept (kept_sent sent kept) input (taken ++ left) left run mark (event ∷ []) s refl
    (λ lives. own_events link (event ∷ []))
    (writes opened kept e count sent (length taken) many s.keeps)
    (ap (λ (xs : List ℕ). xs ++ left) (taken_is link taken) ∙ sym (append-nil (taken ++ left)) ∙ ap (λ (xs : List ℕ). (taken ++ left) ++ xs) (sym (one_output opened e event (wrote_output opened e (length taken)))))

pub other_stands : OtherMarkStands
other_stands opened link kept input queue run mark s no_events no_write no_feed =
    let e = client opened link run in
    stands_unfed opened link kept kept input queue queue run mark [] s no_feed
    (λ lives. ap (λ (i : InputState). input_events link Initiator i mark) (s.received lives) ∙ events_input link Initiator run mark ∙ no_events)
    s.keeps
    (ap (λ (xs : List ℕ). xs ++ queue) no_write ∙ sym (append-nil queue))
