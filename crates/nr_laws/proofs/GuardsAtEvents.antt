-- The guards of both ends are kept when a call is submitted or executed, memory is revoked, and a queue is written.
use Rattle.nr_laws.proofs.PlannedSizes.{sized_message}
use Rattle.nr_laws.proofs.OneChunk.{one_chunk}
use Rattle.std.proofs.Common.{◌≡◌, ℕ, ◌+◌, ◌≤◌, ◌<◌, ◌^◌, Bool, true, false, cond, not, eqb, List, [], ◌∷◌, ◌++◌, length, map, Option, None, Ok, refl, sym, ap, subst, ◌∙◌, arith, length-append, append-nil, Some, Result}
use Rattle.nr_rpc.specs.Reading.{call_of, target_of}
use Rattle.std.specs.List.{AllByRecursion}
use Rattle.std.proofs.lemmas.List.{length-map}
use Rattle.nr_link.specs.declared.end.End.{End}
use Rattle.nr_reduce.specs.declared.mark.LinkParameters.{LinkParameters}
use Rattle.nr_reduce.specs.declared.mark.Told.{Told}
use Rattle.nr_reduce.specs.Served.{ToldInRange}
use Rattle.nr_reduce.specs.declared.outline.Plan.{Plan}
use Rattle.nr_reduce.specs.Opening.{IsOpened, lengths_before}
use Rattle.nr_reduce.specs.Limits.{numbers_end}
use Rattle.nr_reduce.specs.Plans.{call_message, TooLarge, plan_of}
use Rattle.nr_reduce.specs.History.{AcceptedCall, ExecutedCall}
use Rattle.nr_reduce.specs.Events.{RunEvent}
use Rattle.nr_reduce.specs.Events.RunEvent.{CallSubmitted, MemoryRevoked, CallExecuted, QueueWritten, ServerTold}
use Rattle.nr_reduce.specs.EndRules.{EndState, live, next_end_state_by, end_state_after}
use Rattle.nr_reduce.specs.ClientState.{ClientState, OutstandingCall, call_payload, plan_for, WaitingCall, first_of, others_than, plan_unless, stag_for}
use Rattle.nr_reduce.specs.ServerState.{ServerState, ReadyCall, credit_word}
use Rattle.nr_reduce.specs.Client.{client_rules, client_end, client_state_after, initial_client, outstanding_of, revoked_call, revoked_waiting}
use Rattle.nr_reduce.specs.Server.{server_state_after}
use Rattle.nr_reduce.proofs.Steps.{end_state_after_append}
use Rattle.nr_laws.proofs.FrameContents.{FrameContent, client_frames, server_frames, send_frames, IsTaken}
use Rattle.nr_laws.proofs.LinkInvariants.{Transit}
use Rattle.nr_laws.proofs.TotalsAtClient.{up_more, totals_accepts, totals_writes_up}
use Rattle.nr_laws.proofs.ReadsAtClient.{AnswersNone, reads_says_up, reads_writes_up}
use Rattle.nr_laws.proofs.EventsAtServer.{server_executes, server_writes, server_told}
use Rattle.nr_laws.proofs.ServerOutputs.{CallsFit}
use Rattle.nr_laws.proofs.OwnEvents.{planned, totals_revoked, xid_revoked}
use Rattle.nr_laws.proofs.AgreeingEnds.{EndsAgree}
use Rattle.nr_laws.proofs.FrameContents.{total_of, sends_in}
use Rattle.nr_laws.proofs.CallWords.{call_words_lem}
use Rattle.nr_laws.proofs.CallNumbers.{XidsFrom, xids_append, numbered_push, numbered_map, IsNumbered, send_xids_from}
use Rattle.nr_laws.proofs.ClientFrame.{calls_said}
use Rattle.nr_reduce.specs.Server.{offer_of, answer_of_target}
use Rattle.nr_laws.proofs.PendingExecuted.{executed_there}
use Rattle.nr_laws.proofs.AnsweredCalls.{times, answer_xids, executed_less}
use Rattle.nr_laws.proofs.AnsweredSteps.{Answered, answered_submit, answered_map, answered_server}
use Rattle.nr_laws.proofs.GuardsAtServer.{pending_word}
use Rattle.nr_laws.proofs.AgreedSizes.{matched_up, matched_down, matched_invalidates}
use Rattle.nr_laws.proofs.Guards.{ClientContent, ServerContent, IsAsked, AreSized, Guards, execution_down, ClientMessage, credit_down, word_most, told_most, IsSizedResend, AreSizedResends}
use Rattle.nr_laws.proofs.Basics.{each_append, each_kept}
use Rattle.nr_reduce.proofs.WholeWrotes.{ClientEnds, ServerEnds}
use Rattle.nr_laws.proofs.SendFrames.{each_send}
use Rattle.nr_laws.proofs.Outputs.{message_of_call}
use Rattle.nr_laws.proofs.ExpectedResponses.{send_answers}
use Rattle.nr_laws.proofs.NamedFrames.{answer_taken}
use Rattle.nr_reduce.specs.SubmitAnswer.{first_xid_or, next_sent_xid}
use Rattle.nr_reduce.specs.Asked.{IsResent}
use Rattle.nr_reduce.specs.StandingLaws.{xid_of_send}
use Rattle.nr_reduce.proofs.XidsFollow.{comes_first}
use Rattle.std.proofs.lemmas.Bool.{eq-eqb}

-- an event of the client that is no frame
reached_more : (opened : LinkParameters) (k : ClientState) (event : RunEvent) → client_end k event ≡ None → (es : List RunEvent) × (end_state_after (client_rules opened) (initial_client opened) es ≡ live k)
    → (es : List RunEvent) × (end_state_after (client_rules opened) (initial_client opened) es ≡ live (client_state_after opened k event))
reached_more opened k event stays r = (
  r.0 ++ event ∷ [],
  end_state_after_append (client_rules opened) (initial_client opened) r.0 (event ∷ [])
      ∙ ap (λ (x : EndState ClientState). end_state_after (client_rules opened) x (event ∷ [])) r.1
      ∙ ap (λ (x : Option End). next_end_state_by (client_rules opened) k event x) stays,
)

-- ---- A call is submitted

-- the message of a call that is sent next has the size of one
fits_message : (opened : LinkParameters) (k : ClientState) (a : AcceptedCall) (plan : Plan) → plan_for k a.xid a.call a.form ≡ Ok plan → a.xid ≡ next_sent_xid k → AreSizedResends opened k.waiting → IsResent k.has_hello k.next_xid k.waiting a.call a.form → (k.has_hello ≡ true → (lengths_before opened.agreed).up ≤ matched_up opened) → k.up_max ≤ matched_up opened → (stag : ℕ)
    → (16 ≤ length (call_message a.xid opened.wished stag plan)) × (length (call_message a.xid opened.wished stag plan) ≤ matched_up opened)
unfolding plan_for
fits_message opened k a plan is own resends resent again up stag = by k.waiting is own resends resent
  where
    anew : Result Plan TooLarge
    anew = plan_of (call_payload a.xid a.call) a.form k.up_max k.down_max

    Fits : ℕ → Plan → Type 0
    Fits xid p = (16 ≤ length (call_message xid opened.wished stag p)) × (length (call_message xid opened.wished stag p) ≤ matched_up opened)

    by : (ws : List WaitingCall) → plan_unless (first_of ws a.xid) anew ≡ Ok plan → a.xid ≡ first_xid_or k.next_xid ws → AreSizedResends opened ws → IsResent k.has_hello k.next_xid ws a.call a.form → Fits a.xid plan
    by [] is own h resent = (let size = sized_message a.xid opened.wished stag k.up_max k.down_max a.call a.form plan is in (size.0, (let most = size.1 in omega (arith, most, up))))
    by (w ∷ ws) is own h resent = waits (eqb w.xid a.xid) (eq-eqb w.xid a.xid (sym own)) is
      where
        fits : Fits w.xid w.plan
        fits = (let size = h.0 opened.wished stag in (size.0, (let most = size.1 in let up = again resent.greeted in omega (arith, most, up))))

        waits : (b : Bool) → b ≡ true → plan_unless (cond b (Some w) None) anew ≡ Ok plan → Fits a.xid plan
        waits true e is = (let same : w.plan ≡ plan = cc in subst (λ (p : Plan). Fits a.xid p) same (subst (λ (n : ℕ). Fits n w.plan) (sym own) fits))
        waits false e is = absurd cc

sized_call : (opened : LinkParameters) (k : ClientState) (a : AcceptedCall) (plan : Plan) → plan_for k a.xid a.call a.form ≡ Ok plan → a.xid ≡ next_sent_xid k → AreSizedResends opened k.waiting → IsResent k.has_hello k.next_xid k.waiting a.call a.form → (k.has_hello ≡ true → (lengths_before opened.agreed).up ≤ matched_up opened) → a.xid < numbers_end → k.up_max ≤ matched_up opened → IsAsked opened (outstanding_of k a)
sized_call opened k a plan is own resends resent again lt up =
    let stag : ℕ = stag_for k a.xid in
    let words = call_words_lem a.xid opened.wished stag (outstanding_of k a).plan lt in
    let fits = subst (λ (p : Plan). (16 ≤ length (call_message a.xid opened.wished stag p)) × (length (call_message a.xid opened.wished stag p) ≤ matched_up opened))
    (sym (planned (call_payload a.xid a.call) (plan_for k a.xid a.call a.form) plan is)) (fits_message opened k a plan is own resends resent again up stag) in
    ((fits.0, fits.1, words.version, words.kind, one_chunk a.xid opened.wished stag (outstanding_of k a).plan), words.xid_is)

resends_others : (opened : LinkParameters) (xid : ℕ) (ws : List WaitingCall) → AreSizedResends opened ws → AreSizedResends opened (others_than ws xid)
resends_others opened xid [] h = tt
resends_others opened xid (w ∷ ws) h = by (eqb w.xid xid)
  where
    by : (b : Bool) → AreSizedResends opened (cond b ws (w ∷ ws))
    by true = h.1
    by false = h

none_says : (b : Bool) (message : List ℕ) → AnswersNone (cond b (send_frames None message) [])
none_says true message = send_answers None message
none_says false message = (refl, refl)

up_says : (opened : LinkParameters) (b : Bool) (message : List ℕ) → ClientMessage opened message → AllByRecursion (ClientContent opened) (cond b (send_frames None message) [])
up_says opened true message h = each_send (ClientContent opened) None (λ offset payload. refl) message (h, refl)
up_says opened false message h = tt

pub guards_submit : (opened : LinkParameters) (k : ClientState) (s : ServerState) (u d all_up all_down : List FrameContent) (w : Transit) (up place : ℕ) (a : AcceptedCall) (plan : Plan) → EndsAgree opened k s u d all_up all_down w → Guards opened k s u d all_up all_down w up → plan_for k a.xid a.call a.form ≡ Ok plan → a.xid ≡ next_sent_xid k → IsResent k.has_hello k.next_xid k.waiting a.call a.form → a.xid < numbers_end → length k.outstanding < k.grant
    → Guards opened (client_state_after opened k (CallSubmitted place a)) s u d (all_up ++ client_frames opened k (CallSubmitted place a)) all_down (up_more w (client_frames opened k (CallSubmitted place a))) up
unfolding client_state_after client_frames client_end
guards_submit opened k s u d all_up all_down w up place a plan l g is own resent lt room =
    let t = client_state_after opened k (CallSubmitted place a) in
    let said = client_frames opened k (CallSubmitted place a) in
    let message = message_of_call opened (outstanding_of k a) in
    let one = sized_call opened k a plan is own g.resends resent g.again lt g.sizes.client_up in
    record {
      server = record {
        counts = totals_accepts opened k s w place a g.server.counts;
        reads = reads_says_up s w said w.down g.server.reads (none_says k.has_hello message) refl;
        waits = g.server.waits;
        sinks = g.server.sinks;
        regions = g.server.regions;
        limits = g.server.limits;
      };
      sizes = record { client_up = g.sizes.client_up; client_down = g.sizes.client_down; server_up = g.sizes.server_up; server_down = g.sizes.server_down; client_takes = g.sizes.client_takes; server_names = g.sizes.server_names };
      window = record { window = omega (arith, g.window.grant, room, length-append k.outstanding (outstanding_of k a ∷ [])); grant = g.window.grant; receives = g.window.receives };
      up_said = each_append (ClientContent opened) all_up said g.up_said (up_says opened k.has_hello message one.0);
      down_said = g.down_said;
      names = g.names;
      credit = g.credit;
      calls = each_append (IsAsked opened) k.outstanding (outstanding_of k a ∷ []) g.calls (one, tt);
      resends = resends_others opened a.xid k.waiting g.resends;
      again = g.again;
      within = g.within;
      sinks = g.sinks;
      xids = xids_append (xid_of_send opened) 0 all_up said g.xids (new_xid k.has_hello refl);
      no_hello_numbered = λ e. numbered_push (λ (o : OutstandingCall). o.xid) (xid_of_send opened) 0 k.outstanding (outstanding_of k a) (g.no_hello_numbered e) (number ∙ ap (xid_of_send opened) (let all = all_waiting e in omega (arith, all)));
      numbers = g.numbers;
      answered = answered_submit (xid_of_send opened) k t s u d all_down w (up_more w said) (outstanding_of k a) refl refl number lt g.answered;
      reached = reached_more opened k (CallSubmitted place a) refl g.reached;
    }
  where
    number : a.xid ≡ xid_of_send opened k.sends
    number = own ∙ comes_first opened k.next_xid k.sends k.waiting l.outs.follow.0

    -- before the hello all accepted calls are outstanding
    all_waiting : k.has_hello ≡ false → length k.outstanding ≡ k.sends
    all_waiting e =
        let none : total_of sends_in all_up ≡ 0 = calls_said opened k s u d all_up all_down w l ∙ ap (λ (b : Bool). cond b k.sends 0) e in
        omega (arith, none, l.counts.calls_up, calls_said opened k s u d all_up all_down w l, l.counts.waiting, l.counts.messages_down, l.counts.out)

    message : List ℕ
    message = message_of_call opened (outstanding_of k a)

    new_xid : (b : Bool) → k.has_hello ≡ b → XidsFrom (xid_of_send opened) (0 + total_of sends_in all_up) (cond k.has_hello (send_frames None message) [])
    new_xid true e =
        let sends : total_of sends_in all_up ≡ k.sends = calls_said opened k s u d all_up all_down w l ∙ ap (λ (b : Bool). cond b k.sends 0) e in
        subst (λ (b : Bool). XidsFrom (xid_of_send opened) (0 + total_of sends_in all_up) (cond b (send_frames None message) [])) (sym e)
        (send_xids_from (xid_of_send opened) (0 + total_of sends_in all_up) message ((sized_call opened k a plan is own g.resends resent g.again lt g.sizes.client_up).1 ∙ number ∙ ap (xid_of_send opened) (omega (arith, sends))))
    new_xid false e = subst (λ (b : Bool). XidsFrom (xid_of_send opened) (0 + total_of sends_in all_up) (cond b (send_frames None message) [])) (sym e) tt

-- ---- Memory is revoked, and a queue is written

resends_revoked : (opened : LinkParameters) (xid : ℕ) (ws : List WaitingCall) → AreSizedResends opened ws → AreSizedResends opened (map (revoked_waiting xid) ws)
resends_revoked opened xid [] h = tt
resends_revoked opened xid (w ∷ ws) h = (by (eqb w.xid xid), resends_revoked opened xid ws h.1)
  where
    by : (b : Bool) → IsSizedResend opened (cond b (record w { is_revoked = true }) w)
    by true = h.0
    by false = h.0

sized_revoked : (opened : LinkParameters) (xid : ℕ) (os : List OutstandingCall) → AreSized opened os → AreSized opened (map (revoked_call xid) os)
sized_revoked opened xid [] h = tt
sized_revoked opened xid (o ∷ os) h = (by (eqb o.xid xid), sized_revoked opened xid os h.1)
  where
    by : (b : Bool) → IsAsked opened (cond b (record o { is_revoked = true }) o)
    by true = h.0
    by false = h.0

pub guards_revoke : (opened : LinkParameters) (k : ClientState) (s : ServerState) (u d all_up all_down : List FrameContent) (w : Transit) (up place xid : ℕ) → Guards opened k s u d all_up all_down w up
    → Guards opened (client_state_after opened k (MemoryRevoked place xid)) s u d all_up all_down w up
unfolding client_state_after client_end
guards_revoke opened k s u d all_up all_down w up place xid g = record {
  server = record { counts = totals_revoked opened k s w place xid g.server.counts; reads = g.server.reads; waits = g.server.waits; sinks = g.server.sinks; regions = g.server.regions; limits = g.server.limits };
  sizes = record { client_up = g.sizes.client_up; client_down = g.sizes.client_down; server_up = g.sizes.server_up; server_down = g.sizes.server_down; client_takes = g.sizes.client_takes; server_names = g.sizes.server_names };
  window = record { window = omega (arith, g.window.window, length-map k.outstanding (revoked_call xid)); grant = g.window.grant; receives = g.window.receives };
  up_said = g.up_said;
  down_said = g.down_said;
  names = g.names;
  credit = g.credit;
  calls = sized_revoked opened xid k.outstanding g.calls;
  resends = resends_revoked opened xid k.waiting g.resends;
  again = g.again;
  within = g.within;
  sinks = g.sinks;
  xids = g.xids;
  no_hello_numbered = λ e. numbered_map (λ (o : OutstandingCall). o.xid) (revoked_call xid) (xid_of_send opened) 0 k.outstanding (xid_revoked xid) (g.no_hello_numbered e);
  numbers = g.numbers;
  answered = answered_map (xid_of_send opened) (revoked_call xid) k (client_state_after opened k (MemoryRevoked place xid)) s u d all_down w w refl (xid_revoked xid) refl g.answered;
  reached = reached_more opened k (MemoryRevoked place xid) refl g.reached;
}

pub guards_written_up : (opened : LinkParameters) (k : ClientState) (s : ServerState) (u d all_up all_down : List FrameContent) (w : Transit) (up taken : ℕ) → k.written + taken ≡ k.due → ClientEnds k → Guards opened k s u d all_up all_down w up
    → Guards opened (client_state_after opened k (QueueWritten taken)) s u d all_up all_down (record { queued_up = []; up = w.up ++ w.queued_up; queued_down = w.queued_down; down = w.down }) up
unfolding client_state_after client_end
guards_written_up opened k s u d all_up all_down w up taken all ends g = record {
  server = record { counts = totals_writes_up opened k s w taken all ends g.server.counts; reads = reads_writes_up s w g.server.reads; waits = g.server.waits; sinks = g.server.sinks; regions = g.server.regions; limits = g.server.limits };
  sizes = record { client_up = g.sizes.client_up; client_down = g.sizes.client_down; server_up = g.sizes.server_up; server_down = g.sizes.server_down; client_takes = g.sizes.client_takes; server_names = g.sizes.server_names };
  window = record { window = g.window.window; grant = g.window.grant; receives = g.window.receives };
  up_said = g.up_said;
  down_said = g.down_said;
  names = g.names;
  credit = g.credit;
  calls = g.calls;
  resends = g.resends;
  again = g.again;
  within = g.within;
  sinks = g.sinks;
  xids = g.xids;
  no_hello_numbered = g.no_hello_numbered;
  numbers = g.numbers;
  answered = record { rise = g.answered.rise; once = g.answered.once; given = g.answered.given; open_calls = g.answered.open_calls; room = g.answered.room };
  reached = reached_more opened k (QueueWritten taken) refl g.reached;
}

-- ---- The server

pub guards_execute : (opened : LinkParameters) (k : ClientState) (s : ServerState) (u d all_up all_down : List FrameContent) (w : Transit) (up : ℕ) (e : ExecutedCall) (r : ReadyCall) (rest : List ReadyCall) → IsOpened opened → EndsAgree opened k s u d all_up all_down w → Guards opened k s u d all_up all_down w up → CallsFit s.calls → s.ready ≡ r ∷ rest → e.xid ≡ r.xid
    → Guards opened k (server_state_after opened s (CallExecuted e)) u d all_up (all_down ++ server_frames opened s (CallExecuted e)) (record { queued_up = w.queued_up; up = w.up; queued_down = w.queued_down ++ server_frames opened s (CallExecuted e); down = w.down }) up
unfolding server_state_after server_frames
guards_execute opened k s u d all_up all_down w up e r rest o l g fits first own =
    let small : credit_word s < 2 ^ 32 = omega (arith, word_most s, g.credit, o.granted_fits) in
    let there = executed_there s e.xid r rest l.waits first own in
    let xid_word = pending_word opened k s u d all_up all_down w up e.xid l g there in
    record {
      server = server_executes opened k s w up e r rest g.server first own;
      sizes = record { client_up = g.sizes.client_up; client_down = g.sizes.client_down; server_up = g.sizes.server_up; server_down = g.sizes.server_down; client_takes = g.sizes.client_takes; server_names = g.sizes.server_names };
      window = g.window;
      up_said = g.up_said;
      down_said = each_append (ServerContent (matched_down opened) opened.granted) all_down (server_frames opened s (CallExecuted e)) g.down_said
          (credit_down (matched_down opened) (credit_word s) opened.granted (omega (arith, word_most s, g.credit)) (server_frames opened s (CallExecuted e)) (execution_down (matched_down opened) s e g.server.limits g.sizes.server_down xid_word small fits));
      names = each_append (IsTaken (matched_invalidates opened)) all_down (server_frames opened s (CallExecuted e)) g.names
          (answer_taken (matched_invalidates opened) s e.xid (offer_of s e.xid) (answer_of_target (offer_of s e.xid) s.down_max e.reply (target_of (call_of e.payload))) g.sizes.server_names);
      credit = g.credit;
      calls = g.calls;
      resends = g.resends;
      again = g.again;
      within = g.within;
      sinks = g.sinks;
      xids = g.xids;
      no_hello_numbered = g.no_hello_numbered;
      answered = answered_server (xid_of_send opened) k s (server_state_after opened s (CallExecuted e)) u d all_down w (record { queued_up = w.queued_up; up = w.up; queued_down = w.queued_down ++ server_frames opened s (CallExecuted e); down = w.down }) (server_frames opened s (CallExecuted e)) refl
          (λ x. omega (arith, executed_less x e.xid s.calls there, ap (λ (xs : List ℕ). times x xs) (answer_xids s e.xid (offer_of s e.xid) (answer_of_target (offer_of s e.xid) s.down_max e.reply (target_of (call_of e.payload))) xid_word))) g.answered;
      numbers = each_kept (IsNumbered (xid_of_send opened)) (λ c. not (eqb c.xid e.xid)) s.calls g.numbers;
      reached = g.reached;
    }

pub guards_written_down : (opened : LinkParameters) (k : ClientState) (s : ServerState) (u d all_up all_down : List FrameContent) (w : Transit) (up taken : ℕ) → s.written + taken ≡ s.due → ServerEnds s → Guards opened k s u d all_up all_down w up
    → Guards opened k (server_state_after opened s (QueueWritten taken)) u d all_up all_down (record { queued_up = w.queued_up; up = w.up; queued_down = []; down = w.down ++ w.queued_down }) up
unfolding server_state_after
guards_written_down opened k s u d all_up all_down w up taken all ends g = record {
  server = server_writes opened k s w up taken all ends g.server;
  sizes = record { client_up = g.sizes.client_up; client_down = g.sizes.client_down; server_up = g.sizes.server_up; server_down = g.sizes.server_down; client_takes = g.sizes.client_takes; server_names = g.sizes.server_names };
  window = g.window;
  up_said = g.up_said;
  down_said = g.down_said;
  names = g.names;
  credit = g.credit;
  calls = g.calls;
  resends = g.resends;
  again = g.again;
  within = g.within;
  sinks = g.sinks;
  xids = g.xids;
  no_hello_numbered = g.no_hello_numbered;
  numbers = g.numbers;
  answered = subst (λ (ps : List FrameContent). Answered (xid_of_send opened) k (server_state_after opened s (QueueWritten taken)) u d ps (record { queued_up = w.queued_up; up = w.up; queued_down = []; down = w.down ++ w.queued_down })) (append-nil all_down)
      (answered_server (xid_of_send opened) k s (server_state_after opened s (QueueWritten taken)) u d all_down w (record { queued_up = w.queued_up; up = w.up; queued_down = []; down = w.down ++ w.queued_down }) [] refl (λ x. omega arith) g.answered);
  reached = g.reached;
}

pub guards_told : (opened : LinkParameters) (k : ClientState) (s : ServerState) (u d all_up all_down : List FrameContent) (w : Transit) (up : ℕ) (what : Told) → ToldInRange opened what → Guards opened k s u d all_up all_down w up
    → Guards opened k (server_state_after opened s (ServerTold what)) u d all_up all_down w up
unfolding server_state_after
guards_told opened k s u d all_up all_down w up what granted g = record {
  server = server_told opened k s w up what g.server;
  sizes = record { client_up = g.sizes.client_up; client_down = g.sizes.client_down; server_up = g.sizes.server_up; server_down = g.sizes.server_down; client_takes = g.sizes.client_takes; server_names = g.sizes.server_names };
  window = g.window;
  up_said = g.up_said;
  down_said = g.down_said;
  names = g.names;
  credit = told_most opened s.credit what granted g.credit;
  calls = g.calls;
  resends = g.resends;
  again = g.again;
  within = g.within;
  sinks = g.sinks;
  xids = g.xids;
  no_hello_numbered = g.no_hello_numbered;
  numbers = g.numbers;
  answered = record { rise = g.answered.rise; once = g.answered.once; given = g.answered.given; open_calls = g.answered.open_calls; room = g.answered.room };
  reached = g.reached;
}
