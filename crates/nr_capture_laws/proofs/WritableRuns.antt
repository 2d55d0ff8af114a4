-- The capture of a drill's run can be written, mark by mark: each link keeps the laws of both of its ends.
use Rattle.std.specs.Prelude.{◌&&◌}
use Rattle.std.specs.List.{AllByRecursion, flat_map}
use Rattle.std.proofs.Common.{◌≡◌, ℕ, ◌≤◌, Bool, true, false, cond, eqb, eqb-true, leb, List, [], ◌∷◌, ◌++◌, append_assoc, Option, None, Some, inl, inr, refl, sym, subst, ◌∙◌, arith}
use Rattle.std.proofs.lemmas.Bool.{le-leb}
use Rattle.std.proofs.lemmas.List.Elements.{All-contains, All-from_recursion}
use Rattle.nr_xdr.specs.Item.{IsBytes}
use Rattle.nr_xdr.proofs.Chains.{IsBytes_right}
use Rattle.nr_wire.specs.declared.hello.Side.{Side}
use Rattle.nr_wire.specs.declared.hello.Side.TheVariants.{Initiator, Responder}
use Rattle.nr_rpc.specs.declared.head.CallHead.{CallHead}
use Rattle.nr_rpc.specs.declared.head.CallHead.TheVariants as calls
use Rattle.nr_rpc.specs.Call.{BeginsCall}
use Rattle.nr_rpc.proofs.Calls.{call_begins}
use Rattle.nr_link.specs.declared.end.End.{End as Stop}
use Rattle.nr_reduce.specs.declared.call.Call.{Call}
use Rattle.nr_reduce.specs.declared.call.Form.{Form}
use Rattle.nr_reduce.specs.declared.call.Outcome.{Outcome}
use Rattle.nr_reduce.specs.declared.call.Outcome.TheVariants as outcomes
use Rattle.nr_reduce.specs.declared.call.Submission.{Submission}
use Rattle.nr_reduce.specs.declared.call.Submission.TheVariants as submissions
use Rattle.nr_reduce.specs.declared.mark.Mark.{Mark}
use Rattle.nr_reduce.specs.declared.mark.Mark.TheVariants as runs
use Rattle.nr_reduce.specs.declared.mark.Told.{Told}
use Rattle.nr_reduce.specs.declared.mark.Told.TheVariants.{Granted, Old}
use Rattle.nr_reduce.specs.declared.mark.LinkParameters.{LinkParameters}
use Rattle.nr_reduce.specs.Limits.{credits_max}
use Rattle.nr_reduce.specs.History.{AcceptedCall, accepted_as, accepted_at, accepted_calls, bytes_sent}
use Rattle.nr_reduce.specs.Run.{client, server}
use Rattle.nr_reduce.specs.ServerState.{ReadyCall}
use Rattle.nr_rpc.specs.Reading.{head_xid}
use Rattle.nr_reduce.specs.AtEachMark.{AtEachMark}
use Rattle.nr_reduce.specs.Asked.{AskedMark, AskedSoFar, IsAll, IsAwaitedOf}
use Rattle.nr_reduce.specs.Served.{ServedMark, IsExecuted, first_ready, next_call}
use Rattle.nr_reduce.specs.Matched.{IsPrefixOf}
use Rattle.nr_reduce.proofs.Calls.{executed_head}
use Rattle.nr_reduce.proofs.Placing.{AtEachMark_at}
use Rattle.nr_reduce.proofs.SoFarLaws.{AtEachMark_each, asked_mark}
use Rattle.nr_reduce.proofs.Steps.{AtEachMark_first}
use Rattle.nr_laws.specs.Typed.{IsTyped, TypedMark}
use Rattle.nr_byte_laws.specs.DueBytes.{CompletedInBytes, OutcomeIsBytes}
use Rattle.nr_byte_laws.proofs.ByteClients.{client_due, none_again, outcome_bytes}
use Rattle.nr_byte_laws.proofs.ByteServers.{ReadyOfBytes, ready_bytes, server_due}
use Rattle.nr_texts.specs.Words.{IsWord}
use Rattle.nr_script.specs.Script.{ScriptLines, IsScript}
use Rattle.nr_drill.specs.Lines.{IsUnnumbered}
use Rattle.nr_script.proofs.TypedScripts.{script_is}
use Rattle.nr_script.proofs.MadeScripts.{made_is}
use Rattle.nr_capture.specs.declared.capture.CapturedMark.{CapturedMark}
use Rattle.nr_capture.specs.declared.capture.CapturedMark.TheVariants as marks
use Rattle.nr_capture.specs.Capture.{is_link, link_of}
use Rattle.nr_capture.specs.Captured.{captured, captured_mark, captured_piece, captured_submit, captured_told}
use Rattle.nr_capture.specs.Writable.{IsWritable, IsWritableMark, IsWritableOutcome}
use Rattle.nr_capture.proofs.WrittenCaptures.{capture_back}
use Rattle.nr_drill.specs.Drill.{SerialServer, link_of as mark_link}
use Rattle.nr_drill.specs.Follows.{parameters_of}
use Rattle.nr_drill.specs.Headline.{IsDrillRun}
use Rattle.nr_drill.proofs.Followed.{KeepsAll}
use Rattle.nr_drill.proofs.FirstRuns.{first_laws, first_link}
use Rattle.nr_capture_laws.specs.ReadBack.{RunsAreReadBack, RunsAreWritable}
use Rattle.nr_capture_laws.proofs.WritableLines.{AreWritable, made_is_writable, read_is_writable}
use Rattle.nr_capture_laws.proofs.WritableSteps.{CanWriteMarks, CanWriteMark, follows_writable}
use Rattle.nr_capture_laws.proofs.CompletedWords.{OutcomeOfWords, outcome_words}

both_each : {A : Type 0} (P : A → Type 0) (xs ys : List A) → AllByRecursion P xs → AllByRecursion P ys → AllByRecursion P (xs ++ ys)
both_each P [] ys h g = g
both_each P (x ∷ xs) ys h g = (h.0, both_each P xs ys h.1 g)

-- ===== xids

accepted_word : (opened : LinkParameters) (link : ℕ) (b : List Mark) (mark : Mark) → AskedMark IsAll opened link b mark → AllByRecursion (λ (a : AcceptedCall). IsWord a.xid) (accepted_at link mark)
accepted_word opened link b (runs.Submit l call form (submissions.Accepted xid)) h = by (eqb l link) refl
  where
    by : (own : Bool) → eqb l link ≡ own → AllByRecursion (λ (a : AcceptedCall). IsWord a.xid) (cond own (accepted_as (submissions.Accepted xid) call form) [])
    by true is = ((h (eqb-true l link is)).xids, tt)
    by false is = tt
accepted_word opened link b (runs.Submit l call form (submissions.Refused why)) h = by (eqb l link)
  where
    by : (own : Bool) → AllByRecursion (λ (a : AcceptedCall). IsWord a.xid) (cond own (accepted_as (submissions.Refused why) call form) [])
    by true = tt
    by false = tt
accepted_word opened link b (runs.Submit l call form submissions.Dropped) h = by (eqb l link)
  where
    by : (own : Bool) → AllByRecursion (λ (a : AcceptedCall). IsWord a.xid) (cond own (accepted_as submissions.Dropped call form) [])
    by true = tt
    by false = tt
accepted_word opened link b (runs.Wrote l side bytes) h = tt
accepted_word opened link b (runs.Fed l side bytes) h = tt
accepted_word opened link b (runs.Execute l xid moment payload place reply) h = tt
accepted_word opened link b (runs.Done l xid outcome) h = tt
accepted_word opened link b (runs.Lost l xid) h = tt
accepted_word opened link b (runs.Forget l xid) h = tt
accepted_word opened link b (runs.Revoke l xid bytes) h = tt
accepted_word opened link b (runs.Drop l) h = tt
accepted_word opened link b (runs.Told l what) h = tt

accepted_words_from : (opened : LinkParameters) (link : ℕ) (b run : List Mark) → AtEachMark (AskedMark IsAll opened link) b run → AllByRecursion (λ (a : AcceptedCall). IsWord a.xid) (flat_map (accepted_at link) run)
accepted_words_from opened link b [] h = tt
accepted_words_from opened link b (mark ∷ run) h =
    both_each (λ (a : AcceptedCall). IsWord a.xid) (accepted_at link mark) (flat_map (accepted_at link) run) (accepted_word opened link b mark h.0) (accepted_words_from opened link (b ++ mark ∷ []) run h.1)

awaited_word : (opened : LinkParameters) (link : ℕ) (before : List Mark) (xid : ℕ) → AtEachMark (AskedMark IsAll opened link) [] before → IsAwaitedOf (accepted_calls link before) link before xid → IsWord xid
unfolding accepted_calls
awaited_word opened link before xid h w =
    let each = All-from_recursion (λ (a : AcceptedCall). IsWord a.xid) (accepted_calls link before) (accepted_words_from opened link [] before h) in
    let own : IsWord w.asked.xid = All-contains (λ (a : AcceptedCall). IsWord a.xid) (accepted_calls link before) w.asked each w.is_asked in
    subst IsWord w.own own

-- the xid of an executed call is in its payload, which is bytes
head_word : (payload : List ℕ) (head : CallHead) → BeginsCall head payload → IsWord (head_xid head)
head_word payload (calls.Version2 xid prog vers proc cred args_at) (front, behind, (auth, verifier, auth_within, verifier_within, reads, (first, rest, xid_read, others, parts), place), e) = xid_read.fits
head_word payload (calls.Other xid rpcvers) (front, behind, (apart, (first, rest, xid_read, others, parts)), e) = xid_read.fits

first_bytes : (ready : List ReadyCall) (ended : Option Stop) (r : ReadyCall) → AllByRecursion ReadyOfBytes ready → first_ready ready ended ≡ Some r → IsBytes r.payload
first_bytes ready (Some end) r h e = absurd cc
first_bytes [] None r h e = absurd cc
first_bytes (x ∷ ready) None r h e = (let same : x ≡ r = cc in subst ReadyOfBytes same h.0)

executed_word : (opened : LinkParameters) (link : ℕ) (before : List Mark) (xid : ℕ) (payload : List ℕ) → IsTyped before → IsExecuted opened link before xid payload → IsWord xid
unfolding next_call
executed_word opened link before xid payload typed h =
    let own = executed_head opened link before xid payload h in
    let r = server opened link before in
    let bytes : IsBytes payload = subst IsBytes (sym h.conveyed) (first_bytes r.state.ready r.ended h.call (ready_bytes opened link before typed) h.is_next) in
    subst IsWord own.1.1 (head_word payload own.0 (call_begins payload own.0 bytes own.1.0))

-- ===== pieces and outcomes

writable_outcome : (outcome : Outcome) → OutcomeIsBytes outcome → OutcomeOfWords outcome → IsWritableOutcome outcome
writable_outcome (outcomes.Reply payload) b w = b
writable_outcome outcomes.Chunk b w = tt
writable_outcome (outcomes.Version low high) b w = w

-- ===== the marks of a run

module _ (server : SerialServer) (script : ScriptLines) (run : List Mark) (is : IsScript script) (none : IsUnnumbered script) (writable : AreWritable script) (d : IsDrillRun server script run) where
  abbrev Right : CapturedMark → Type 0
  Right mark = (is_link script.opening (link_of mark) ≡ true) × IsWritableMark mark

  -- what is known at a mark of a link
  record AtMark (before : List Mark) (mark : Mark) (link : ℕ) : Type 0 where
    is_link_of : is_link script.opening link ≡ true
    typed : IsTyped before
    typed_mark : TypedMark before mark
    asked_before : AtEachMark (AskedMark IsAll (parameters_of script.opening link) link) [] before
    asked : AskedMark IsAll (parameters_of script.opening link) link before mark
    served : ServedMark IsAll (parameters_of script.opening link) link before mark

  both_true : (a b : Bool) → a ≡ true → b ≡ true → (a && b) ≡ true
  both_true true b e f = f
  both_true false b e f = absurd cc

  at_mark : (before : List Mark) (mark : Mark) (after : List Mark) → run ≡ before ++ mark ∷ after → AtMark before mark (mark_link mark)
  at_mark before mark after e =
      let link = mark_link mark in
      let opened = parameters_of script.opening link in
      let n = first_link server script run is none d before after mark e in
      let laws : KeepsAll opened link run = first_laws server script run is none d link n.0 n.1 in
      let typed : AtEachMark TypedMark [] (before ++ mark ∷ after) = subst (AtEachMark TypedMark []) e d.typed in
      let asked = subst (AtEachMark (AskedMark IsAll opened link) []) e laws.asked.each in
      let served = subst (AtEachMark (ServedMark IsAll opened link) []) e laws.served.each in
      record {
        is_link_of = both_true (leb 1 link) (leb link script.opening.clients) (le-leb 1 link n.0) (le-leb link script.opening.clients n.1);
        typed = AtEachMark_first TypedMark [] before (mark ∷ after) typed;
        typed_mark = AtEachMark_at TypedMark [] before mark after typed;
        asked_before = AtEachMark_first (AskedMark IsAll opened link) [] before (mark ∷ after) asked;
        asked = AtEachMark_at (AskedMark IsAll opened link) [] before mark after asked;
        served = AtEachMark_at (ServedMark IsAll opened link) [] before mark after served;
      }

  submit_right : (before : List Mark) (link : ℕ) (call : Call) (form : Form) (answer : Submission) → CanWriteMark (runs.Submit link call form answer) → AtMark before (runs.Submit link call form answer) link
      → AllByRecursion Right (captured_submit link call form answer)
  submit_right before link call form (submissions.Accepted xid) s a = ((a.is_link_of, ((a.asked refl).xids, s.0, s.1)), tt)
  submit_right before link call form (submissions.Refused why) s a = tt
  submit_right before link call form submissions.Dropped s a = tt

  wrote_right : (before : List Mark) (link : ℕ) (side : Side) (bytes : List ℕ) → AtMark before (runs.Wrote link side bytes) link → AllByRecursion Right (captured_piece marks.Out link side bytes)
  wrote_right before link side [] a = tt
  wrote_right before link Initiator (b ∷ bytes) a =
      let due = client_due (parameters_of script.opening link) link before (none_again (parameters_of script.opening link) refl) a.typed in
      ((a.is_link_of, (omega arith, IsBytes_right (bytes_sent link Initiator before) (b ∷ bytes) (subst IsBytes (sym (a.asked refl)) due))), tt)
  wrote_right before link Responder (b ∷ bytes) a =
      let due = server_due (parameters_of script.opening link) link before a.typed in
      ((a.is_link_of, (omega arith, IsBytes_right (bytes_sent link Responder before) (b ∷ bytes) (subst IsBytes (sym (a.served refl)) due))), tt)

  fed_right : (before : List Mark) (link : ℕ) (side : Side) (bytes : List ℕ) → AtMark before (runs.Fed link side bytes) link → AllByRecursion Right (captured_piece marks.In link side bytes)
  fed_right before link side [] a = tt
  fed_right before link side (b ∷ bytes) a = ((a.is_link_of, (omega arith, a.typed_mark)), tt)

  done_right : (before : List Mark) (link xid : ℕ) (outcome : Outcome) → AtMark before (runs.Done link xid outcome) link → IsWord xid × IsWritableOutcome outcome
  done_right before link xid outcome a =
      let opened = parameters_of script.opening link in
      let own = a.asked refl in
      let all = (client opened link before).state.outcomes in
      let bytes = All-contains CompletedInBytes all (record { xid = xid; outcome = outcome }) (All-from_recursion CompletedInBytes all (outcome_bytes opened link before (none_again opened refl) a.typed)) own.is_received in
      let so_far : AskedSoFar opened link before = AtEachMark_each (AskedMark IsAll opened link) (AskedMark IsPrefixOf opened link) [] before (asked_mark opened link) a.asked_before in
      let words = outcome_words opened link before (record { xid = xid; outcome = outcome }) a.typed so_far own.is_received in
      (awaited_word opened link before xid a.asked_before own.awaited, writable_outcome outcome bytes words)

  told_right : (before : List Mark) (link : ℕ) (what : Told) → AtMark before (runs.Told link what) link → AllByRecursion Right (captured_told link what)
  told_right before link (Old xid at) a = tt
  told_right before link (Granted credits) a =
      let most : credits ≤ script.opening.credits = (a.served refl).1 in
      let few : script.opening.credits ≤ credits_max = is.few_credits in
      ((a.is_link_of, omega (arith, most, few)), tt)

  mark_right : (before : List Mark) (mark : Mark) (after : List Mark) → run ≡ before ++ mark ∷ after → CanWriteMark mark → AllByRecursion Right (captured_mark mark)
  mark_right before (runs.Submit link call form answer) after e s = submit_right before link call form answer s (at_mark before (runs.Submit link call form answer) after e)
  mark_right before (runs.Wrote link side bytes) after e s = wrote_right before link side bytes (at_mark before (runs.Wrote link side bytes) after e)
  mark_right before (runs.Fed link side bytes) after e s = fed_right before link side bytes (at_mark before (runs.Fed link side bytes) after e)
  mark_right before (runs.Execute link xid moment payload place reply) after e s =
      let a = at_mark before (runs.Execute link xid moment payload place reply) after e in
      ((a.is_link_of, (executed_word (parameters_of script.opening link) link before xid payload a.typed (a.served refl), s)), tt)
  mark_right before (runs.Done link xid outcome) after e s =
      let a = at_mark before (runs.Done link xid outcome) after e in
      ((a.is_link_of, done_right before link xid outcome a), tt)
  mark_right before (runs.Lost link xid) after e s = tt
  mark_right before (runs.Forget link xid) after e s =
      let a = at_mark before (runs.Forget link xid) after e in
      ((a.is_link_of, awaited_word (parameters_of script.opening link) link before xid a.asked_before (a.asked refl)), tt)
  mark_right before (runs.Revoke link xid bytes) after e s =
      let a = at_mark before (runs.Revoke link xid bytes) after e in
      ((a.is_link_of, awaited_word (parameters_of script.opening link) link before xid a.asked_before (a.asked refl).awaited), tt)
  mark_right before (runs.Drop link) after e s = (((at_mark before (runs.Drop link) after e).is_link_of, tt), tt)
  mark_right before (runs.Told link what) after e s = told_right before link what (at_mark before (runs.Told link what) after e)

  all_right : (before rest : List Mark) → run ≡ before ++ rest → CanWriteMarks rest → AllByRecursion Right (flat_map captured_mark rest)
  all_right before [] e s = tt
  all_right before (mark ∷ rest) e s =
      both_each Right (captured_mark mark) (flat_map captured_mark rest) (mark_right before mark rest e s.0) (all_right (before ++ mark ∷ []) rest (e ∙ sym (append_assoc before (mark ∷ []) rest)) s.1)

  links_of_all : (all : List CapturedMark) → AllByRecursion Right all → AllByRecursion (λ (mark : CapturedMark). is_link script.opening (link_of mark) ≡ true) all
  links_of_all [] h = tt
  links_of_all (mark ∷ all) h = (h.0.0, links_of_all all h.1)

  marks_of_all : (all : List CapturedMark) → AllByRecursion Right all → AllByRecursion IsWritableMark all
  marks_of_all [] h = tt
  marks_of_all (mark ∷ all) h = (h.0.1, marks_of_all all h.1)

run_writable : (server : SerialServer) (script : ScriptLines) (run : List Mark) → IsScript script → IsUnnumbered script → AreWritable script → IsDrillRun server script run → IsWritable (captured script.opening run)
unfolding captured
run_writable server script run is none writable d =
    let all = all_right server script run is none writable d [] run refl (follows_writable server script run is none writable d.follows) in
    record {
      opening = record {
        some_clients = is.some_clients;
        few_clients = is.few_clients;
        some_credits = is.some_credits;
        few_credits = is.few_credits;
        capacity = is.capacity;
        some_client_units = is.some_client_units;
        few_client_units = is.few_client_units;
        some_server_units = is.some_server_units;
        few_server_units = is.few_server_units;
      };
      links = links_of_all server script run is none writable d (flat_map captured_mark run) all;
      marks = marks_of_all server script run is none writable d (flat_map captured_mark run) all;
    }

pub writable : RunsAreWritable
writable server script run (inl read) none d = run_writable server script run (script_is read.0 script read.1 read.2) none (read_is_writable read.0 script read.2) d
writable server script run (inr made) none d =
    let same = sym made.6 in
    run_writable server script run (subst IsScript same (made_is made.0 made.1 made.2 made.3 made.4 made.5)) none (subst AreWritable same (made_is_writable made.0 made.1 made.2)) d

pub read_back : RunsAreReadBack
read_back server script run source none d = capture_back (captured script.opening run) (writable server script run source none d)
