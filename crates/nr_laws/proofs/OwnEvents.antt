-- What holds between both ends of a link is kept when a call is submitted or executed, memory is revoked, a queue is written, and the server
-- is told something.
use Rattle.std.proofs.Common.{◌≡◌, ℕ, ◌+◌, ◌<◌, Bool, true, false, cond, not, eqb, List, [], ◌∷◌, ◌++◌, length, Result, Ok, refl, sym, ap, subst, ◌∙◌, arith, append_assoc, append-nil, None}
use Rattle.std.specs.List.{list_any}
use Rattle.std.proofs.lemmas.List.{length-map}
use Rattle.nr_wire.specs.declared.hello.Side.TheVariants.{Initiator, Responder}
use Rattle.nr_rpc.specs.Reading.{call_of, target_of}
use Rattle.nr_link.specs.ReceiveState.{ReceiveState}
use Rattle.nr_reduce.proofs.OwnLimits.{ClientLimits, ServerLimits}
use Rattle.nr_reduce.specs.declared.mark.Told.{Told}
use Rattle.nr_reduce.specs.declared.mark.LinkParameters.{LinkParameters}
use Rattle.nr_reduce.specs.declared.outline.Plan.{Plan}
use Rattle.nr_reduce.specs.Plans.{TooLarge, call_message}
use Rattle.nr_reduce.specs.History.{AcceptedCall, ExecutedCall}
use Rattle.nr_reduce.specs.Events.RunEvent.{CallSubmitted, MemoryRevoked, CallExecuted, QueueWritten, ServerTold}
use Rattle.nr_reduce.specs.ClientState.{ClientState, OutstandingCall, plan_for, stag_for}
use Rattle.nr_reduce.specs.ServerState.{ServerState, PendingCall, ReadyCall}
use Rattle.nr_reduce.specs.Client.{client_state_after, client_output, call_output, outstanding_of, plan_or, revoked_call}
use Rattle.nr_reduce.specs.Server.{server_state_after, server_output, offer_of, answer_of_target}
use Rattle.nr_laws.proofs.PlannedSizes.{short_call}
use Rattle.nr_laws.proofs.FrameContents.{FrameContent, output_bytes, total_of, sends_in, requests_in, hellos_in, client_frames, server_frames, send_frames}
use Rattle.nr_laws.proofs.LinkInvariants.{Transit, TotalsAgree}
use Rattle.nr_laws.proofs.Totals.{total_append}
use Rattle.nr_laws.proofs.TotalsAtClient.{totals_accepts, totals_writes_up, up_more}
use Rattle.nr_laws.proofs.TotalsAtServer.{totals_executes, totals_writes_down, answer_counts}
use Rattle.nr_laws.proofs.EventsAtServer.{totals_told, pending_told}
use Rattle.nr_laws.proofs.PendingExecuted.{pending_agree_executes, executed_there}
use Rattle.nr_laws.proofs.OwnXids.{OwnXids, own_xids_accepts, own_xids_revokes, own_xids_writes}
use Rattle.nr_laws.proofs.Writable.{AreWritable, stream_more}
use Rattle.nr_laws.proofs.ServerOutput.{execution_frames, execution_proper, execution_said, short_proper}
use Rattle.nr_laws.proofs.AgreeingEnds.{EndsAgree, messages_said}
use Rattle.nr_laws.proofs.ClientFrame.{calls_said}
use Rattle.nr_laws.proofs.Outputs.{IsShort, CallsShort, CallShort, message_of_call}
use Rattle.nr_laws.proofs.ClientSays.{short_revoked}
use Rattle.nr_reduce.proofs.WholeWrotes.{ClientEnds, ServerEnds}
use Rattle.nr_laws.proofs.Basics.{each_kept, each_append}
use Rattle.nr_laws.proofs.ServerOutputs.{CallFits}
use Rattle.nr_laws.proofs.SendFrames.{send_counts}
use Rattle.nr_laws.proofs.OutputFrames.{message_said}
use Rattle.nr_reduce.specs.SubmitAnswer.{next_sent_xid}
use Rattle.nr_reduce.specs.Asked.{IsResent}

-- ---- Of a client

-- it sends more, and its calls stay
up_linked : (opened : LinkParameters) (k t : ClientState) (s : ServerState) (u d all_up all_down : List FrameContent) (w : Transit) (said : List FrameContent) → EndsAgree opened k s u d all_up all_down w
    → TotalsAgree t s (up_more w said) → OwnXids opened t → CallsShort opened t.outstanding → t.received ≡ k.received → AreWritable said → total_of hellos_in said ≡ 0 → total_of requests_in said ≡ 0
    → EndsAgree opened t s u d (all_up ++ said) all_down (up_more w said)
up_linked opened k t s u d all_up all_down w said l counts outs short received proper hellos reads = record {
  parts_up =
      ap (λ (ps : List FrameContent). u ++ ps) (sym (append_assoc w.up w.queued_up said)) ∙ sym (append_assoc u (w.up ++ w.queued_up) said) ∙ ap (λ (ps : List FrameContent). ps ++ said) l.parts_up;
  parts_down = l.parts_down;
  counts = counts;
  waits = l.waits;
  outs = outs;
  fits = l.fits;
  short = short;
  stream_up = stream_more all_up said l.stream_up l.begins_up proper;
  begins_up = omega (arith, l.begins_up, total_append hellos_in all_up said);
  stream_down = l.stream_down;
  hellos_down = l.hellos_down;
  no_reads = omega (arith, l.no_reads, reads, total_append requests_in all_up said);
  sends_up = l.sends_up;
  requests_up = l.requests_up;
  sends_down = ap (λ (h : ReceiveState). h.sends) received ∙ l.sends_down;
  requests_down = ap (λ (h : ReceiveState). h.requests) received ∙ l.requests_down;
  requests_sent = l.requests_sent;
  bytes_up = l.bytes_up;
}

pub planned : (payload : List ℕ) (r : Result Plan TooLarge) (p : Plan) → r ≡ Ok p → plan_or payload r ≡ p
planned payload r p e = ap (λ (x : Result Plan TooLarge). plan_or payload x) e

pub record Submitted (opened : LinkParameters) (k : ClientState) (s : ServerState) (u d all_up all_down : List FrameContent) (w : Transit) (place : ℕ) (a : AcceptedCall) : Type 0 where
  pub said : List FrameContent
  pub said_is : said ≡ client_frames opened k (CallSubmitted place a)
  pub output : client_output opened k (CallSubmitted place a) ≡ output_bytes opened Initiator (total_of sends_in all_up) (total_of requests_in all_up) said
  pub linked : EndsAgree opened (client_state_after opened k (CallSubmitted place a)) s u d (all_up ++ said) all_down (up_more w said)

pub submitted : (opened : LinkParameters) (k : ClientState) (s : ServerState) (u d all_up all_down : List FrameContent) (w : Transit) (place : ℕ) (a : AcceptedCall) (plan : Plan) → EndsAgree opened k s u d all_up all_down w
    → a.xid ≡ next_sent_xid k → IsResent k.has_hello k.next_xid k.waiting a.call a.form → plan_for k a.xid a.call a.form ≡ Ok plan → ClientLimits k → Submitted opened k s u d all_up all_down w place a
unfolding client_state_after client_frames client_output
submitted opened k s u d all_up all_down w place a plan l own again is limits = by k.has_hello refl
  where
    short : IsShort (call_message a.xid opened.wished (stag_for k a.xid) (outstanding_of k a).plan)
    short = short_call opened k a plan own again is limits

    message : List ℕ
    message = message_of_call opened (outstanding_of k a)

    frames : List FrameContent
    frames = send_frames None message

    calls : (b : Bool) → k.has_hello ≡ b → total_of sends_in all_up ≡ cond b k.sends 0
    calls b e = calls_said opened k s u d all_up all_down w l ∙ ap (λ (x : Bool). cond x k.sends 0) e

    with_said : (said : List FrameContent) → cond k.has_hello frames [] ≡ said → client_output opened k (CallSubmitted place a) ≡ output_bytes opened Initiator (total_of sends_in all_up) (total_of requests_in all_up) said → AreWritable said → total_of hellos_in said ≡ 0 → total_of requests_in said ≡ 0
        → Submitted opened k s u d all_up all_down w place a
    with_said said says output proper hellos reads = record {
      said = said;
      said_is = sym says;
      output = output;
      linked =
          up_linked opened k (client_state_after opened k (CallSubmitted place a)) s u d all_up all_down w said l
          (subst (λ (ps : List FrameContent). TotalsAgree (client_state_after opened k (CallSubmitted place a)) s (up_more w ps)) says (totals_accepts opened k s w place a l.counts))
          (own_xids_accepts opened k place a own again l.outs) (each_append (CallShort opened) k.outstanding (outstanding_of k a ∷ []) l.short (short, tt)) refl proper hellos reads;
    }

    by : (b : Bool) → k.has_hello ≡ b → Submitted opened k s u d all_up all_down w place a
    by true e =
        with_said frames (ap (λ (x : Bool). cond x frames []) e)
        (ap (λ (x : Bool). cond x (call_output opened (k.sends + 1) (outstanding_of k a)) []) e
        ∙ message_said opened Initiator k.sends (total_of requests_in all_up) None message
        ∙ (λ i. output_bytes opened Initiator (sym (calls true e) i) (total_of requests_in all_up) frames))
        (short_proper None message tt short) (send_counts hellos_in 0 (λ named offset payload. refl) (λ m. refl) None message) (send_counts requests_in 0 (λ named offset payload. refl) (λ m. refl) None message)
    by false e =
        with_said [] (ap (λ (x : Bool). cond x frames []) e) (ap (λ (x : Bool). cond x (call_output opened (k.sends + 1) (outstanding_of k a)) []) e) tt refl refl

-- the memory of a call is revoked
pub xid_revoked : (xid : ℕ) (o : OutstandingCall) → (revoked_call xid o).xid ≡ o.xid
xid_revoked xid o = by (eqb o.xid xid)
  where
    by : (b : Bool) → (cond b (record o { is_revoked = true }) o).xid ≡ o.xid
    by true = refl
    by false = refl

same_linked : (opened : LinkParameters) (k t : ClientState) (s : ServerState) (u d all_up all_down : List FrameContent) (w v : Transit) → EndsAgree opened k s u d all_up all_down w
    → v.up ++ v.queued_up ≡ w.up ++ w.queued_up → v.down ++ v.queued_down ≡ w.down ++ w.queued_down → TotalsAgree t s v → OwnXids opened t → CallsShort opened t.outstanding → t.received ≡ k.received
    → EndsAgree opened t s u d all_up all_down v
same_linked opened k t s u d all_up all_down w v l up down counts outs short received = record {
  parts_up = ap (λ (ps : List FrameContent). u ++ ps) up ∙ l.parts_up;
  parts_down = ap (λ (ps : List FrameContent). d ++ ps) down ∙ l.parts_down;
  counts = counts;
  waits = l.waits;
  outs = outs;
  fits = l.fits;
  short = short;
  stream_up = l.stream_up;
  begins_up = l.begins_up;
  stream_down = l.stream_down;
  hellos_down = l.hellos_down;
  no_reads = l.no_reads;
  sends_up = l.sends_up;
  requests_up = l.requests_up;
  sends_down = ap (λ (h : ReceiveState). h.sends) received ∙ l.sends_down;
  requests_down = ap (λ (h : ReceiveState). h.requests) received ∙ l.requests_down;
  requests_sent = l.requests_sent;
  bytes_up = l.bytes_up;
}

pub totals_revoked : (opened : LinkParameters) (k : ClientState) (s : ServerState) (w : Transit) (place xid : ℕ) → TotalsAgree k s w → TotalsAgree (client_state_after opened k (MemoryRevoked place xid)) s w
unfolding client_state_after
totals_revoked opened k s w place xid c = record {
  hello = c.hello;
  calls_up = c.calls_up;
  messages_down = c.messages_down;
  sends = c.sends;
  messages = c.messages;
  all_sends = c.all_sends;
  within_up = c.within_up;
  within_down = c.within_down;
  out = omega (arith, c.out, length-map k.outstanding (revoked_call xid));
  waiting = c.waiting;
  whole_up = c.whole_up;
  whole_down = c.whole_down;
  reads = c.reads;
  responses = c.responses;
}

pub revoked : (opened : LinkParameters) (k : ClientState) (s : ServerState) (u d all_up all_down : List FrameContent) (w : Transit) (place xid : ℕ) → EndsAgree opened k s u d all_up all_down w
    → EndsAgree opened (client_state_after opened k (MemoryRevoked place xid)) s u d all_up all_down w
unfolding client_state_after
revoked opened k s u d all_up all_down w place xid l =
    same_linked opened k (client_state_after opened k (MemoryRevoked place xid)) s u d all_up all_down w w l refl refl (totals_revoked opened k s w place xid l.counts)
    (own_xids_revokes opened k place xid l.outs) (short_revoked opened xid k.outstanding l.short) refl

pub written_up : (opened : LinkParameters) (k : ClientState) (s : ServerState) (u d all_up all_down : List FrameContent) (w : Transit) (taken : ℕ) → k.written + taken ≡ k.due → ClientEnds k → EndsAgree opened k s u d all_up all_down w
    → EndsAgree opened (client_state_after opened k (QueueWritten taken)) s u d all_up all_down (record { queued_up = []; up = w.up ++ w.queued_up; queued_down = w.queued_down; down = w.down })
unfolding client_state_after
written_up opened k s u d all_up all_down w taken all ends l =
    same_linked opened k (client_state_after opened k (QueueWritten taken)) s u d all_up all_down w (record { queued_up = []; up = w.up ++ w.queued_up; queued_down = w.queued_down; down = w.down }) l
    (append-nil (w.up ++ w.queued_up)) refl (totals_writes_up opened k s w taken all ends l.counts) (own_xids_writes taken opened k l.outs) l.short refl

-- ---- Of a server

pub record Executed (opened : LinkParameters) (k : ClientState) (s : ServerState) (u d all_up all_down : List FrameContent) (w : Transit) (e : ExecutedCall) : Type 0 where
  pub said : List FrameContent
  pub said_is : said ≡ server_frames opened s (CallExecuted e)
  pub output : server_output opened s (CallExecuted e) ≡ output_bytes opened Responder (total_of sends_in all_down) (total_of requests_in all_down) said
  pub linked : EndsAgree opened k (server_state_after opened s (CallExecuted e)) u d all_up (all_down ++ said) (record { queued_up = w.queued_up; up = w.up; queued_down = w.queued_down ++ said; down = w.down })

pub some_calls : (xid : ℕ) (calls : List PendingCall) → list_any (λ (c : PendingCall). eqb c.xid xid) calls ≡ true → 0 < length calls
some_calls xid [] e = absurd cc
some_calls xid (c ∷ calls) e = omega arith

pub executed : (opened : LinkParameters) (k : ClientState) (s : ServerState) (u d all_up all_down : List FrameContent) (w : Transit) (e : ExecutedCall) (r : ReadyCall) (rest : List ReadyCall) → EndsAgree opened k s u d all_up all_down w
    → s.ready ≡ r ∷ rest → e.xid ≡ r.xid → 0 < total_of hellos_in all_down → ServerLimits s → Executed opened k s u d all_up all_down w e
unfolding server_state_after server_frames server_output
executed opened k s u d all_up all_down w e r rest l first own begun limits =
    let said = execution_frames s e in
    let t = server_state_after opened s (CallExecuted e) in
    let answer = answer_of_target (offer_of s e.xid) s.down_max e.reply (target_of (call_of e.payload)) in
    let there = executed_there s e.xid r rest l.waits first own in
    let hellos : total_of hellos_in said ≡ 0 = answer_counts hellos_in 0 (λ last stag to payload. refl) (λ named offset payload. refl) (λ m. refl) s e.xid (offer_of s e.xid) answer in
    let reads : total_of requests_in said ≡ 0 = answer_counts requests_in 0 (λ last stag to payload. refl) (λ named offset payload. refl) (λ m. refl) s e.xid (offer_of s e.xid) answer in
    record {
      said = said;
      said_is = refl;
      output = execution_said opened s s.requests_sent e ∙ (λ i. output_bytes opened Responder (messages_said opened k s u d all_up all_down w l i) (l.requests_sent i) said);
      linked = record {
        parts_up = l.parts_up;
        parts_down =
            ap (λ (ps : List FrameContent). d ++ ps) (sym (append_assoc w.down w.queued_down said)) ∙ sym (append_assoc d (w.down ++ w.queued_down) said) ∙ ap (λ (ps : List FrameContent). ps ++ said) l.parts_down;
        counts = totals_executes opened k s w e l.counts l.waits.xids there;
        waits = pending_agree_executes opened s e r rest l.waits first own;
        outs = l.outs;
        fits = each_kept CallFits (λ c. not (eqb c.xid e.xid)) s.calls l.fits;
        short = l.short;
        stream_up = l.stream_up;
        begins_up = l.begins_up;
        stream_down = stream_more all_down said l.stream_down begun (execution_proper s e limits l.fits);
        hellos_down = omega (arith, l.hellos_down, hellos, total_append hellos_in all_down said);
        no_reads = l.no_reads;
        sends_up = l.sends_up;
        requests_up = l.requests_up;
        sends_down = l.sends_down;
        requests_down = l.requests_down;
        requests_sent = omega (arith, l.requests_sent, reads, total_append requests_in all_down said);
        bytes_up = l.bytes_up;
      };
    }

pub written_down : (opened : LinkParameters) (k : ClientState) (s : ServerState) (u d all_up all_down : List FrameContent) (w : Transit) (taken : ℕ) → s.written + taken ≡ s.due → ServerEnds s → EndsAgree opened k s u d all_up all_down w
    → EndsAgree opened k (server_state_after opened s (QueueWritten taken)) u d all_up all_down (record { queued_up = w.queued_up; up = w.up; queued_down = []; down = w.down ++ w.queued_down })
unfolding server_state_after
written_down opened k s u d all_up all_down w taken all ends l = record {
  parts_up = l.parts_up;
  parts_down = ap (λ (ps : List FrameContent). d ++ ps) (append-nil (w.down ++ w.queued_down)) ∙ l.parts_down;
  counts = totals_writes_down opened k s w taken all ends l.counts;
  waits = record { numbers = l.waits.numbers; xids = l.waits.xids; calls_below = l.waits.calls_below; reads_below = l.waits.reads_below; ready_apart = l.waits.ready_apart; ready_calls = l.waits.ready_calls; whole_calls = l.waits.whole_calls };
  outs = l.outs;
  fits = l.fits;
  short = l.short;
  stream_up = l.stream_up;
  begins_up = l.begins_up;
  stream_down = l.stream_down;
  hellos_down = l.hellos_down;
  no_reads = l.no_reads;
  sends_up = l.sends_up;
  requests_up = l.requests_up;
  sends_down = l.sends_down;
  requests_down = l.requests_down;
  requests_sent = l.requests_sent;
  bytes_up = l.bytes_up;
}

-- what it is told changes nothing in what both ends agree on
pub told_linked : (opened : LinkParameters) (k : ClientState) (s : ServerState) (u d all_up all_down : List FrameContent) (w : Transit) (what : Told) → EndsAgree opened k s u d all_up all_down w
    → EndsAgree opened k (server_state_after opened s (ServerTold what)) u d all_up all_down w
unfolding server_state_after
told_linked opened k s u d all_up all_down w what l = record {
  parts_up = l.parts_up;
  parts_down = l.parts_down;
  counts = totals_told opened k s w what l.counts;
  waits = pending_told opened s what l.waits;
  outs = l.outs;
  fits = l.fits;
  short = l.short;
  stream_up = l.stream_up;
  begins_up = l.begins_up;
  stream_down = l.stream_down;
  hellos_down = l.hellos_down;
  no_reads = l.no_reads;
  sends_up = l.sends_up;
  requests_up = l.requests_up;
  sends_down = l.sends_down;
  requests_down = l.requests_down;
  requests_sent = l.requests_sent;
  bytes_up = l.bytes_up;
}
