-- On a matched link a Send that is refused has a message whose header is bad, or whose read chunk isn't that of its item; and a call with
-- such a message isn't executed.
use Rattle.std.proofs.Common.{◌≡◌, ◌≢◌, ℕ, zero, suc, ◌+◌, ◌≤◌, Bool, true, false, cond, not, ◌||◌, eqb, List, [], ◌∷◌, ◌++◌, length, Option, None, Some, Result, Ok, sym, ap, subst, ◌∙◌, refl, arith, append_assoc, inl, inr, eqb-true, eq-eqb, ne_eqb}
use Rattle.std.proofs.lemmas.Bool.{eqb-false, not-false, or_parts, and_parts}
use Rattle.std.specs.List.{list_any, AllByRecursion}
use Rattle.nr_xdr.specs.Fields.{word_at}
use Rattle.nr_wire.specs.declared.hello.Side.TheVariants.{Initiator, Responder}
use Rattle.nr_wire.specs.Segment.{Segment}
use Rattle.nr_wire.specs.Segment.Segment.{Tagged, Untagged}
use Rattle.nr_wire.specs.Hello.{hello_of}
use Rattle.nr_header.specs.declared.header.ReadSegment.{ReadSegment}
use Rattle.nr_header.specs.declared.header.ChunkLists.{ChunkLists}
use Rattle.nr_header.specs.Reading.{header_of}
use Rattle.nr_link.specs.declared.end.End.{End}
use Rattle.nr_link.specs.declared.end.End.TheVariants as ends
use Rattle.nr_link.specs.Frames.{Frame, is_hello}
use Rattle.nr_link.specs.Reasons.{REASON_KIND, REASON_CALL}
use Rattle.nr_link.specs.Ending.{frame_segment, frame_end, hello_end}
use Rattle.nr_link.specs.ReceiveState.{message_completed}
use Rattle.nr_reduce.specs.declared.call.Call.{Call}
use Rattle.nr_reduce.specs.declared.call.Form.{Form}
use Rattle.nr_reduce.specs.declared.call.Submission.TheVariants as submissions
use Rattle.nr_outside.specs.declared.moment.Moment.{Moment}
use Rattle.nr_reduce.specs.declared.mark.Mark.{Mark}
use Rattle.nr_reduce.specs.declared.mark.Mark.TheVariants as marks
use Rattle.nr_reduce.specs.declared.mark.LinkParameters.{LinkParameters}
use Rattle.nr_reduce.specs.declared.outline.Plan.{Plan}
use Rattle.nr_reduce.specs.Plans.{lists_of, call_message, entries_from, read_stag, read_list}
use Rattle.nr_reduce.specs.Chunks.{is_read_chunk_of_item, is_read_chunk_at, item_position}
use Rattle.nr_reduce.specs.Events.{RunEvent, events}
use Rattle.nr_reduce.specs.Events.RunEvent.{FrameReceived}
use Rattle.nr_reduce.specs.EndRules.{EndState, end_state_after, next_end_state, next_end_state_in, next_end_state_by}
use Rattle.nr_reduce.specs.OfferedRegions.{region_grants}
use Rattle.nr_reduce.specs.ClientState.{call_payload, plan_for, stag_for}
use Rattle.nr_reduce.specs.ServerState.{ServerState, PendingRead, is_pending}
use Rattle.nr_reduce.specs.ServerReads.{is_read_at}
use Rattle.nr_reduce.specs.ServerMessages.{Verdict, verdict, by_header, chunk_bytes}
use Rattle.nr_reduce.specs.ServerMessages.Verdict.{EndsLink, OtherVersion, BadChunks}
use Rattle.nr_reduce.specs.ServerFrames.{frame_effect, effect_in, effect_by, by_message, message_effect, with_access}
use Rattle.nr_reduce.specs.Server.{server_rules, initial_server, server_end, refusal_end, or_refusal, server_readiness}
use Rattle.nr_reduce.specs.Run.{client}
use Rattle.nr_reduce.specs.RunLaws.{server_by, IsReceivedCall, RefusesSend}
use Rattle.nr_reduce.proofs.Steps.{end_state_after_append}
use Rattle.nr_reduce.proofs.Refusals.{refused_never}
use Rattle.nr_reduce.proofs.BadMessages.{bad_refused}
use Rattle.nr_reduce.proofs.Once.{found_number}
use Rattle.nr_reduce.proofs.Conveyed.{known_from, each_found}
use Rattle.nr_laws.specs.Typed.{TypedMark, IsTyped}
use Rattle.nr_laws.specs.MarkAt.{MarkAt}
use Rattle.nr_laws.specs.MatchedSoFar.{MatchedSoFar}
use Rattle.nr_laws.specs.RefusedMessages.{IsRefusedMessage, HasRefusedMessage}
use Rattle.nr_reduce.proofs.XidsFollow.{accepted_follows}
use Rattle.nr_laws.proofs.PlannedSizes.{planned_message}
use Rattle.nr_laws.proofs.CallWords.{call_words_lem}
use Rattle.nr_laws.proofs.ClientRun.{WasSubmitted}
use Rattle.nr_laws.proofs.ServerAlong.{SaidError}
use Rattle.nr_laws.proofs.RefusedCalls.{RefusedSubmit}
use Rattle.nr_laws.proofs.Completed.{version_not}
use Rattle.nr_laws.proofs.OnceByXid.{at_mark, executed_at_lem, before_mark}
use Rattle.nr_laws.proofs.SubmittedPlans.{same_submit, own_submit, plan_is_lem}
use Rattle.nr_laws.proofs.ExecutedCalls.{frame_message, received_message, live_server, live_part}
use Rattle.nr_laws.proofs.WaitingCalls.{accepted_stags, accepted_plan}
use Rattle.nr_laws.proofs.ConveyedCalls.{planned_fits, plan_reads}
use Rattle.nr_laws.proofs.PendingReads.{HasPosition, IsOwn}
use Rattle.nr_laws.proofs.KeptAtServer.{kept_at_server}
use Rattle.nr_laws.proofs.OwnPlans.{own_found}
use Rattle.nr_reduce.specs.Asked.{IsPlannedAs, AskedMark, AskedSoFar, IsAccepted}
use Rattle.nr_reduce.specs.StandingLaws.{xid_of_send}
use Rattle.nr_reduce.specs.Matched.{IsPrefixOf}

-- ---- A list of one position suits any stream, if that position is 0

entries_suit : (stream : List ℕ) (handle offset : ℕ) (lengths : List ℕ) → item_position (entries_from 0 handle offset lengths) ≡ None
unfolding item_position
entries_suit stream handle offset [] = refl
entries_suit stream handle offset (n ∷ lengths) = entries_suit stream handle (offset + n) lengths

entries_at_lem : (position handle offset : ℕ) (lengths : List ℕ) → HasPosition 0 (entries_from position handle offset lengths) → position ≡ 0
entries_at_lem zero handle offset lengths h = refl
entries_at_lem (suc p) handle offset [] h = absurd cc
entries_at_lem (suc p) handle offset (n ∷ lengths) h =
    let other : eqb (suc p) 0 ≡ false = ne_eqb (suc p) 0 (λ e. omega (arith, e)) in
    entries_at_lem (suc p) handle (offset + n) lengths
    (sym (ap (λ (b : Bool). b || list_any (λ (s : ReadSegment). eqb s.position 0) (entries_from (suc p) handle (offset + n) lengths)) other) ∙ h)

list_suits : (stream : List ℕ) (stag : ℕ) (p : Plan) (at : Option ℕ) → HasPosition 0 (read_list stag p at) → is_read_chunk_of_item stream (read_list stag p at) ≡ false → ⊥
unfolding is_read_chunk_of_item item_position
list_suits stream stag p None h e = absurd cc
list_suits stream stag p (Some zero) h e =
    let none = entries_suit stream (read_stag stag p) 0 p.read in
    let wrong : true ≡ false = ap (λ (o : Option ℕ). is_read_chunk_at stream (entries_from 0 (read_stag stag p) 0 p.read) o) (sym none) ∙ e in absurd cc
list_suits stream stag p (Some (suc q)) h e = (let wrong : suc q ≡ 0 = entries_at_lem (suc q) (read_stag stag p) 0 p.read h in absurd cc)

lists_suit : (stream : List ℕ) (stag : ℕ) (p : Plan) → HasPosition 0 (lists_of stag p).read → is_read_chunk_of_item stream (lists_of stag p).read ≡ false → ⊥
unfolding lists_of
lists_suit stream stag p h e = list_suits stream stag p p.read_at h e

-- ---- The tests that a refused message passed

record Tested (k : ServerState) (message : List ℕ) : Type 0 where
  version : word_at 4 message ≡ 1
  done : word_at 12 message ≢ 3
  error : word_at 12 message ≢ 4
  free : is_pending k (word_at 0 message) ≡ false

tested : (k : ServerState) (message : List ℕ) → verdict k message ≡ BadChunks → Tested k message
unfolding verdict
tested k message e = by (not (eqb (word_at 4 message) 1)) refl (eqb (word_at 12 message) 3 || eqb (word_at 12 message) 4) refl (is_pending k (word_at 0 message)) refl e
  where
    by : (other : Bool) → not (eqb (word_at 4 message) 1) ≡ other → (kind : Bool) → (eqb (word_at 12 message) 3 || eqb (word_at 12 message) 4) ≡ kind → (pending : Bool) → is_pending k (word_at 0 message) ≡ pending
        → cond other OtherVersion (cond kind (EndsLink REASON_KIND) (cond pending (EndsLink REASON_CALL) (by_header k message (header_of message)))) ≡ BadChunks → Tested k message
    by true a kind b pending d e = absurd cc
    by false a true b pending d e = absurd cc
    by false a false b true d e = absurd cc
    by false a false b false d e =
        let kinds = or_parts (eqb (word_at 12 message) 3) (eqb (word_at 12 message) 4) b in
        record {
          version = eqb-true (word_at 4 message) 1 (not-false (eqb (word_at 4 message) 1) a);
          done = eqb-false (word_at 12 message) 3 kinds.0;
          error = eqb-false (word_at 12 message) 4 kinds.1;
          free = d;
        }

-- the message of a plan has the fixed words
pub long_enough : (opened : LinkParameters) (stag xid : ℕ) (call : Call) (form : Form) (plan : Plan) → IsPlannedAs xid call form plan → 16 ≤ length (call_message xid opened.wished stag plan)
long_enough opened stag xid call form plan p = (planned_message xid opened.wished stag call form plan p).0

-- ---- The message of a Send that is refused

-- its client kept its law until then
asked_before : (opened : LinkParameters) (link : ℕ) (run : List Mark) {index : ℕ} {message : List ℕ} → MatchedSoFar opened link run → (w : WasSubmitted opened link run index message) → AskedSoFar opened link w.earlier
asked_before opened link run {index} {message} far w = before_mark (AskedMark IsPrefixOf opened link) run w.earlier (marks.Submit link w.call w.form (submissions.Accepted w.xid)) w.later w.is far.asked

-- two Sends with one number have one message
same_message : (opened : LinkParameters) (link : ℕ) (run : List Mark) (index other : ℕ) (message again : List ℕ) → MatchedSoFar opened link run → index ≡ other → WasSubmitted opened link run index message → WasSubmitted opened link run other again → message ≡ again
same_message opened link run index other message again far same v w =
    let a = accepted_follows opened link v.earlier _ _ _ (asked_before opened link run far v) v.accepted in
    let b = accepted_follows opened link w.earlier _ _ _ (asked_before opened link run far w) w.accepted in
    let xids : v.xid ≡ w.xid = a ∙ ap (xid_of_send opened) (let c = v.counted in let d = w.counted in omega (arith, c, d, same)) ∙ sym b in
    let s = same_submit opened link run v.earlier w.earlier v.later w.later v.call w.call v.form w.form v.xid w.xid far.asked xids v.is w.is in
    let m = s.mark in
    let calls : v.call ≡ w.call = cc in
    let forms : v.form ≡ w.form = cc in
    let plans : v.accepted.plan ≡ w.accepted.plan = plan_is_lem v.accepted.plan w.accepted.plan (plan_for (client opened link w.earlier).state w.xid w.call w.form)
    ((λ i. plan_for (client opened link (sym s.place i)).state (sym xids i) (sym calls i) (sym forms i)) ∙ v.accepted.planned) w.accepted.planned in
    v.message_is ∙ (λ i. call_message (xids i) opened.wished (stag_for (client opened link (s.place i)).state (xids i)) (plans i)) ∙ sym w.message_is

pub refused_message : (opened : LinkParameters) (link : ℕ) (run : List Mark) (m : List ℕ) → IsTyped run → MatchedSoFar opened link run → (s : SaidError opened (events link Responder run) m) → (r : RefusedSubmit opened link run m s)
    → HasRefusedMessage opened link run r.submitted.xid
refused_message opened link run m typed far s r = record {
  plan = own.accepted.plan;
  has = record { call = own.call; form = own.form; before = own.earlier; at = record { after = own.later; is = own.is }; planned = own.accepted.planned };
  refused = subst IsRefusedMessage own.message_is (by r.refuses);
}
  where
    k : ServerState
    k = server_by opened s.earlier

    own : WasSubmitted opened link run r.index r.message
    own = r.submitted

    words : (index : ℕ) (message : List ℕ) (w : WasSubmitted opened link run index message) → word_at 4 message ≡ 1
    words index message w =
        let fits = w.accepted.xids in
        ap (λ (x : List ℕ). word_at 4 x) w.message_is ∙ (call_words_lem w.xid opened.wished (stag_for (client opened link w.earlier).state w.xid) w.accepted.plan (omega (arith, fits))).version

    by : RefusesSend k s.frame s.segment (r.index + 1) → IsRefusedMessage r.message
    by (inl (message, (whole, (number, inl bad)))) =
        let w = frame_message opened link run typed far.asked far.matched s.earlier s.frame s.later s.segment message s.is s.behind s.is_segment whole s.live in
        let t = tested k message bad in
        let long : 16 ≤ length message = subst (λ (x : List ℕ). 16 ≤ length x) (sym w.message_is) (long_enough opened (stag_for (client opened link w.earlier).state w.xid) w.xid w.call w.form w.accepted.plan (accepted_plan opened link w.earlier w.call w.form w.xid w.accepted.plan w.accepted w.accepted.planned)) in
        subst IsRefusedMessage (same_message opened link run k.received.sends r.index message r.message far (omega (arith, number)) w own)
        ((bad_refused k message long t.version t.done t.error t.free).0 bad)
    by (inl (message, (whole, (number, inr other)))) =
        let w = frame_message opened link run typed far.asked far.matched s.earlier s.frame s.later s.segment message s.is s.behind s.is_segment whole s.live in
        absurd (version_not k message (words k.received.sends message w) other)
    by (inr (c, (h, number))) =
        let known = each_found (IsReceivedCall opened s.earlier) h.read.number k.calls c (known_from opened [] s.earlier (record { calls = tt; ready = tt })).calls h.call in
        let w = received_message opened link run typed far.asked far.matched c (FrameReceived s.frame ∷ s.later) s.earlier s.is known s.live in
        let stag = (stag_for (client opened link w.earlier).state w.xid) in
        let p = w.accepted.plan in
        let fits_xid = w.accepted.xids in
        let stags = accepted_stags opened link w.earlier w.call w.form w.xid w.accepted in
        let bytes = at_mark TypedMark run w.earlier (marks.Submit link w.call w.form (submissions.Accepted w.xid)) w.later w.is typed in
        let formed = accepted_plan opened link w.earlier w.call w.form w.xid p w.accepted w.accepted.planned in
        let fine = planned_fits (call_payload w.xid w.call) w.form formed.up formed.down stag p formed.up_fits formed.planned bytes.0 bytes.1 (omega (arith, stags)) in
        let reads = plan_reads w.xid opened.wished stag p known.header fine.0 fine.1 (omega (arith, fits_xid)) (ap header_of (sym w.message_is) ∙ known.is_header) in
        let read = ap (λ (l : ChunkLists). l.read) (known.lists ∙ reads.lists) in
        let kept = kept_at_server opened link run typed far.served s.earlier (FrameReceived s.frame ∷ s.later) s.is in
        let mine = subst (λ (rs : List PendingRead). AllByRecursion (IsOwn c) rs) h.reads (own_found k.reads h.read.number k.calls c kept.own h.call) in
        let at : h.read.position ≡ 0 = eqb-true h.read.position 0 (and_parts (eqb h.read.position 0) (is_read_at h.others c.number 0) h.stream).0 in
        let has : HasPosition 0 c.lists.read = subst (λ (n : ℕ). HasPosition n c.lists.read) at (mine.0 (sym (found_number h.read.number k.calls c h.call))) in
        absurd (lists_suit (chunk_bytes (with_access k s.frame s.segment) s.frame.end c 0) stag p (subst (λ (l : List ReadSegment). HasPosition 0 l) read has)
        (subst (λ (l : List ReadSegment). is_read_chunk_of_item (chunk_bytes (with_access k s.frame s.segment) s.frame.end c 0) l ≡ false) read h.unsuited))

-- ---- A call whose message is refused isn't executed

ends_by_lem : (opened : LinkParameters) (k : ServerState) (f : Frame) (o : Option End) (reason : ℕ) → (frame_effect k f).refusal ≡ Some reason → or_refusal k f o ≡ None → ⊥
ends_by_lem opened k f (Some e) reason is h = absurd cc
ends_by_lem opened k f None reason is h = (let wrong : ◌≡◌ {A = Option End} (Some (ends.Bad f.at reason)) None = sym (ap (λ (o : Option ℕ). refusal_end f o) is) ∙ h in absurd cc)

refusal_is : (k : ServerState) (f : Frame) (segment : Segment) (message : List ℕ) (reason : ℕ) → frame_segment f ≡ Ok segment → message_completed k.received segment ≡ Some message → verdict k message ≡ EndsLink reason → (frame_effect k f).refusal ≡ Some reason
unfolding frame_effect
refusal_is k f segment message reason is whole v = ap (λ (r : Result Segment ℕ). (effect_in k f r).refusal) is ∙ by segment whole
  where
    by : (s : Segment) → message_completed k.received s ≡ Some message → (effect_by k f s).refusal ≡ Some reason
    by (Tagged last opcode stag to payload) w = absurd cc
    by (Untagged last opcode x queue msn offset payload) w =
        ap (λ (o : Option (List ℕ)). (by_message k f.end o).refusal) w ∙ ap (λ (v : Verdict). (message_effect k f.end message v).refusal) v

stays_not : (opened : LinkParameters) (k : ServerState) (f : Frame) (segment : Segment) (message : List ℕ) (reason : ℕ) → is_hello f ≡ false → frame_segment f ≡ Ok segment → message_completed k.received segment ≡ Some message
    → verdict k message ≡ EndsLink reason → server_end opened k (FrameReceived f) ≡ None → ⊥
unfolding server_end
stays_not opened k f segment message reason behind is whole v stays =
    ends_by_lem opened k f _ reason (refusal_is k f segment message reason is whole v) (ap (λ (b : Bool). cond b (hello_end (hello_of Initiator f.bytes)) (or_refusal k f (frame_end (server_readiness opened k) (region_grants f.end k.regions) f))) (sym behind) ∙ stays)

must_be_bad : (opened : LinkParameters) (k : ServerState) (f : Frame) (segment : Segment) (message : List ℕ) → is_hello f ≡ false → frame_segment f ≡ Ok segment → message_completed k.received segment ≡ Some message
    → server_end opened k (FrameReceived f) ≡ None → 16 ≤ length message → word_at 4 message ≡ 1 → word_at 12 message ≤ 1 → IsRefusedMessage message → verdict k message ≡ BadChunks
unfolding verdict
must_be_bad opened k f segment message behind is whole stays long version kind refused = by (is_pending k (word_at 0 message)) refl
  where
    done : word_at 12 message ≢ 3
    done e = omega (arith, e, kind)

    error : word_at 12 message ≢ 4
    error e = omega (arith, e, kind)

    ends_link : is_pending k (word_at 0 message) ≡ true → verdict k message ≡ EndsLink REASON_CALL
    ends_link e =
        ap (λ (b : Bool). cond (not b) OtherVersion (cond (eqb (word_at 12 message) 3 || eqb (word_at 12 message) 4) (EndsLink REASON_KIND) (cond (is_pending k (word_at 0 message)) (EndsLink REASON_CALL) (by_header k message (header_of message)))))
        (eq-eqb (word_at 4 message) 1 version)
        ∙ (λ i. cond (ne_eqb (word_at 12 message) 3 done i || ne_eqb (word_at 12 message) 4 error i) (EndsLink REASON_KIND) (cond (e i) (EndsLink REASON_CALL) (by_header k message (header_of message))))

    by : (b : Bool) → is_pending k (word_at 0 message) ≡ b → verdict k message ≡ BadChunks
    by true e = absurd (stays_not opened k f segment message REASON_CALL behind is whole (ends_link e) stays)
    by false e = (bad_refused k message long version done error e).1 refused

stays_at : (opened : LinkParameters) (es : List RunEvent) (event : RunEvent) → (end_state_after (server_rules opened) (initial_server opened) es).ended ≡ None
    → (end_state_after (server_rules opened) (initial_server opened) (es ++ event ∷ [])).ended ≡ None → server_end opened (server_by opened es) event ≡ None
stays_at opened es event live after =
    by (end_state_after (server_rules opened) (initial_server opened) es) live
    (ap (λ (x : EndState ServerState). x.ended) (sym (end_state_after_append (server_rules opened) (initial_server opened) es (event ∷ []))) ∙ after)
  where
    one : (s : ServerState) (o : Option End) → (next_end_state_by (server_rules opened) s event o).ended ≡ None → o ≡ None
    one s None h = refl
    one s (Some e) h = absurd cc

    by : (x : EndState ServerState) → x.ended ≡ None → (next_end_state (server_rules opened) x event).ended ≡ None → server_end opened x.state event ≡ None
    by x live h = one x.state (server_end opened x.state event) (ap (λ (o : Option End). (next_end_state_in (server_rules opened) x.state event o).ended) (sym live) ∙ h)

pub refused_not_executed : (opened : LinkParameters) (link : ℕ) (run before : List Mark) (xid : ℕ) (moment : Moment) (payload : List ℕ) (place : ℕ) (reply : List ℕ) → IsTyped run → MatchedSoFar opened link run
    → HasRefusedMessage opened link run xid → MarkAt run before (marks.Execute link xid moment payload place reply) → ⊥
refused_not_executed opened link run before xid moment payload place reply typed far m at =
    let has = m.has in
    let mark : Mark = marks.Execute link xid moment payload place reply in
    let a = executed_at_lem opened link run before at.after xid moment payload place reply typed far at.is in
    let s = a.submit in
    let w = s.submitted in
    let own = s.was.own in
    let k = server_by opened own.earlier in
    let same = own_submit opened link run before mark at.after xid m.plan far.asked at.is has w.earlier w.later w.call w.form w.xid w.is w.accepted s.own_xid in
    let x = s.own_xid in
    let is : own.message ≡ call_message xid opened.wished (stag_for (client opened link has.before).state xid) m.plan =
    w.message_is ∙ (λ i. call_message (x i) opened.wished (stag_for (client opened link (same.place i)).state (x i)) (same.plan_is i)) in
    let small = w.accepted.xids in
    let words = call_words_lem xid opened.wished (stag_for (client opened link has.before).state xid) m.plan (omega (arith, small, x)) in
    let accepted : IsAccepted opened link has.before has.call has.form xid = at_mark (AskedMark IsPrefixOf opened link) run has.before (marks.Submit link has.call has.form (submissions.Accepted xid)) has.at.after has.at.is far.asked refl in
    let live = live_server opened link before a.executed.call a.executed.is_next in
    let first : s.was.earlier ++ FrameReceived s.was.frame ∷ [] ≡ own.earlier ++ FrameReceived own.frame ∷ own.later = own.is_received in
    let all : events link Responder before ≡ (own.earlier ++ FrameReceived own.frame ∷ []) ++ (own.later ++ s.was.later) =
    s.was.is_received ∙ sym (append_assoc s.was.earlier (FrameReceived s.was.frame ∷ []) s.was.later) ∙ ap (λ (xs : List RunEvent). xs ++ s.was.later) first
    ∙ append_assoc own.earlier (FrameReceived own.frame ∷ own.later) s.was.later ∙ sym (append_assoc own.earlier (FrameReceived own.frame ∷ []) (own.later ++ s.was.later)) in
    let short : events link Responder before ≡ own.earlier ++ FrameReceived own.frame ∷ (own.later ++ s.was.later) = all ∙ append_assoc own.earlier (FrameReceived own.frame ∷ []) (own.later ++ s.was.later) in
    let then = live_part opened link before (own.earlier ++ FrameReceived own.frame ∷ []) (own.later ++ s.was.later) all live in
    let ago = live_part opened link before own.earlier (FrameReceived own.frame ∷ (own.later ++ s.was.later)) short live in
    let stays = stays_at opened own.earlier (FrameReceived own.frame) ago then in
    let bad : verdict k own.message ≡ BadChunks =
    must_be_bad opened k own.frame own.segment own.message own.behind_hello own.is_segment own.whole stays
    (subst (λ (y : List ℕ). 16 ≤ length y) (sym is) (long_enough opened (stag_for (client opened link has.before).state xid) xid has.call has.form m.plan (accepted_plan opened link has.before has.call has.form xid m.plan accepted has.planned)))
    (ap (λ (y : List ℕ). word_at 4 y) is ∙ words.version) (subst (λ (y : List ℕ). word_at 12 y ≤ 1) (sym is) words.kind) (subst IsRefusedMessage (sym is) m.refused) in
    let number = s.number in
    let counted = w.counted in
    refused_never opened link before own.earlier (own.later ++ s.was.later) own.frame own.segment (k.received.sends + 1) short own.behind_hello own.is_segment
    (inl (own.message, (own.whole, (refl, inl bad)))) xid payload a.executed (omega (arith, number, counted))
