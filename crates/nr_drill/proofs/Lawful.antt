-- The laws of a link follow from the functions of a drill: each mark stands there by the definition by which the laws judge it.
use Rattle.std.specs.Prelude.{◌-◌, ◌&&◌, ◌||◌, not, if◌then◌else◌, slice_get, unwrap_or, Contains}
use Rattle.std.specs.List.{AllByRecursion, flat_map}
use Rattle.std.proofs.Common.{◌≡◌, ◌≢◌, ℕ, ◌+◌, ◌≤◌, ◌<◌, cond, eqb, leb, filter, ◌⊎◌, inl, inr, arith, eqb-true, zero, suc, Bool, true, false, take, List, [], ◌∷◌, ◌++◌, length, map, drop, Option, None, Some, Result, Ok, Err, refl, sym, ap, subst, ◌∙◌, append_assoc, append-nil, length-append}
use Rattle.std.proofs.Math.Seq.{drop-append_seam}
use Rattle.std.proofs.lemmas.Bool.{eq-eqb, leb-false}
use Rattle.std.proofs.lemmas.List.Elements.{Contains-push_cases, Contains-append_cases}
use Rattle.nr_wire.specs.declared.hello.Side.{Side}
use Rattle.nr_wire.specs.declared.hello.Side.TheVariants.{Initiator, Responder}
use Rattle.nr_rpc.specs.Credential.{CanWriteCred}
use Rattle.nr_link.specs.declared.end.End.{End}
use Rattle.nr_reduce.specs.declared.call.Call.{Call}
use Rattle.nr_reduce.specs.declared.call.Form.{Form}
use Rattle.nr_reduce.specs.declared.call.Refused.TheVariants as refusals
use Rattle.nr_reduce.specs.declared.call.Submission.{Submission}
use Rattle.nr_reduce.specs.declared.call.Submission.TheVariants as submissions
use Rattle.nr_reduce.specs.declared.mark.Mark.{Mark}
use Rattle.nr_reduce.specs.declared.mark.Mark.TheVariants as marks
use Rattle.nr_reduce.specs.declared.mark.Told.TheVariants.{Granted}
use Rattle.nr_reduce.specs.declared.mark.Told.TheVariants as told
use Rattle.nr_reduce.specs.declared.mark.LinkParameters.{LinkParameters}
use Rattle.nr_reduce.specs.declared.outline.Plan.{Plan}
use Rattle.nr_reduce.specs.Limits.{numbers_end}
use Rattle.nr_reduce.specs.Plans.{TooLarge, regions_needed}
use Rattle.nr_reduce.specs.AtEachMark.{AtEachMark}
use Rattle.nr_reduce.specs.Opening.{IsOpened}
use Rattle.nr_reduce.specs.NumberedJournal.{Standing, number_heard, standing_for}
use Rattle.nr_reduce.specs.NumberedJournal.Standing.{Old, Kept, New}
use Rattle.nr_reduce.specs.SubmitAnswer.{unless_dropped, by_plan, answer_by, submit_answer, submit_answer_after, calls_counted, calls_to_resend, unless_far, unless_spent}
use Rattle.nr_reduce.specs.Matched.{IsPrefixOf}
use Rattle.nr_reduce.specs.History.{CompletedCall, bytes_sent, written_at, accepted_calls, completed_calls, is_abandoned, is_dropped}
use Rattle.nr_reduce.specs.OutcomesDue.{is_completed, outcomes_of_call, outcomes_due}
use Rattle.nr_reduce.specs.Events.{RunEvent, events_at, if_own}
use Rattle.nr_reduce.specs.Events.RunEvent.{FrameReceived, CallSubmitted, MemoryRevoked, CallExecuted, QueueWritten, ServerTold}
use Rattle.nr_reduce.specs.EndRules.{EndState, next_end_state, next_end_state_in, end_state_after, output_for_all}
use Rattle.nr_reduce.specs.ClientState.{ClientState, WaitingCall, others_than, plan_for}
use Rattle.nr_reduce.specs.ServerState.{ServerState, ReadyCall}
use Rattle.nr_reduce.specs.Client.{client_rules, client_end, client_output, client_state_after, outstanding_of, revoked_call, revoked_waiting}
use Rattle.nr_reduce.specs.Server.{server_rules, server_end, server_output}
use Rattle.nr_reduce.specs.Run.{client, server, output_due}
use Rattle.nr_reduce.specs.Asked.{AskedMark, AskedSoFar, IsAll, IsCompleted, IsAwaitedOrWaits, ResentMark, revoked_bytes}
use Rattle.nr_reduce.specs.Served.{ServedMark, next_call, last_frame_at, ToldInRange}
use Rattle.nr_reduce.proofs.Steps.{client_one, output_due_up_one, output_due_down_one}
use Rattle.nr_reduce.proofs.SoFarLaws.{AtEachMark_each, asked_mark}
use Rattle.nr_reduce.proofs.Submitting.{accepted_keeps}
use Rattle.nr_reduce.proofs.Resending.{accepted, resent_next}
use Rattle.nr_reduce.proofs.Standing.{AtEachMark_more, itself, sent_one}
use Rattle.nr_laws.proofs.LiveRegions.{passes_any}
use Rattle.nr_laws.specs.Grant.{AcceptedMark, AcceptsByRule}
use Rattle.nr_drill.specs.Drill.{Setting, Drill, Pipes, GivenReply, client_of, standing_of, reply_given, unwritten, after_output, after_all_output, settled, pipes_of, with_mark, after_submit, after_feeding, after_feeding_up, after_up, if_standing, waiting_call, after_answer, after_call, after_execution, after_work, after_calls, after_drop, after_feeding_down, after_handing, after_done, after_dones, after_outcomes, after_down, answer_of_line, open_xid, after_giving_up, after_forget, after_taking_back, after_revoke, after_all_up, after_all_work, after_moves, after_grant, journal_of, resend_mark, after_resends}

-- what a side has to write is what it wrote and what it hasn't written yet
abbrev pub IsDueOf : LinkParameters → ℕ → Side → List Mark → Type 0
IsDueOf o link side run = bytes_sent link side run ++ unwritten o link side run ≡ output_due o link side run

-- the laws of a link at each mark, in full
pub record IsLawful (o : LinkParameters) (link : ℕ) (run : List Mark) : Type 0 where
  pub asked : AtEachMark (AskedMark IsAll o link) [] run
  pub served : AtEachMark (ServedMark IsAll o link) [] run
  pub accepts : AcceptsByRule o link run
  pub client : IsDueOf o link Initiator run
  pub server : IsDueOf o link Responder run
  pub resent : AtEachMark (ResentMark o link) [] run

-- nothing is left to write
pub record IsWritten (o : LinkParameters) (link : ℕ) (run : List Mark) : Type 0 where
  pub client : unwritten o link Initiator run ≡ []
  pub server : unwritten o link Responder run ≡ []

-- ===== what is left to write

rest_is : (sent rest due : List ℕ) → sent ++ rest ≡ due → drop (length sent) due ≡ rest
rest_is sent rest due is = ap (λ (xs : List ℕ). drop (length sent) xs) (sym is) ∙ drop-append_seam sent rest

pub left_is : (o : LinkParameters) (link : ℕ) (side : Side) (run : List Mark) (rest : List ℕ) → bytes_sent link side run ++ rest ≡ output_due o link side run → unwritten o link side run ≡ rest
unfolding unwritten
left_is o link side run rest is = rest_is (bytes_sent link side run) rest (output_due o link side run) is

pub due_of : (o : LinkParameters) (link : ℕ) (side : Side) (run : List Mark) (rest : List ℕ) → bytes_sent link side run ++ rest ≡ output_due o link side run → IsDueOf o link side run
due_of o link side run rest is = ap (λ (xs : List ℕ). bytes_sent link side run ++ xs) (left_is o link side run rest is) ∙ is

-- the output due of one more mark
abbrev pub more_due : LinkParameters → ℕ → Side → List Mark → Mark → List ℕ
more_due o link Initiator run mark = output_for_all (client_rules o) (client o link run) (events_at link Initiator run mark)
more_due o link Responder run mark = output_for_all (server_rules o) (server o link run) (events_at link Responder run mark)

due_one_lem : (o : LinkParameters) (link : ℕ) (side : Side) (run : List Mark) (mark : Mark) →
    output_due o link side (run ++ mark ∷ []) ≡ output_due o link side run ++ more_due o link side run mark
due_one_lem o link Initiator run mark = output_due_up_one o link run mark
due_one_lem o link Responder run mark = output_due_down_one o link run mark

-- with a mark that is no Wrote of the side, more may be due
pub due_more : (o : LinkParameters) (link : ℕ) (side : Side) (run : List Mark) (mark : Mark) → written_at link side mark ≡ [] → IsDueOf o link side run →
    bytes_sent link side (run ++ mark ∷ []) ++ (unwritten o link side run ++ more_due o link side run mark) ≡ output_due o link side (run ++ mark ∷ [])
due_more o link side run mark none is =
    let sent = bytes_sent link side run in
    let left = unwritten o link side run in
    let more = more_due o link side run mark in
    ap (λ (xs : List ℕ). xs ++ (left ++ more)) (sent_one link side run mark ∙ ap (λ (xs : List ℕ). sent ++ xs) none ∙ append-nil sent)
    ∙ sym (append_assoc sent left more) ∙ ap (λ (xs : List ℕ). xs ++ more) is ∙ sym (due_one_lem o link side run mark)

-- with a Wrote of all that was due
due_wrote : (o : LinkParameters) (link : ℕ) (side : Side) (run : List Mark) (mark : Mark) → written_at link side mark ≡ unwritten o link side run → IsDueOf o link side run →
    bytes_sent link side (run ++ mark ∷ []) ++ more_due o link side run mark ≡ output_due o link side (run ++ mark ∷ [])
due_wrote o link side run mark all is =
    let more = more_due o link side run mark in
    ap (λ (xs : List ℕ). xs ++ more) (sent_one link side run mark ∙ ap (λ (xs : List ℕ). bytes_sent link side run ++ xs) all ∙ is)
    ∙ sym (due_one_lem o link side run mark)

-- ===== one mark more

-- a mark that is no Wrote of the link, and by which its laws hold
pub lawful_mark : (o : LinkParameters) (link : ℕ) (run : List Mark) (mark : Mark) → IsLawful o link run →
    written_at link Initiator mark ≡ [] → written_at link Responder mark ≡ [] →
    AskedMark IsAll o link run mark → ServedMark IsAll o link run mark → AcceptedMark o link run mark → ResentMark o link run mark → IsLawful o link (run ++ mark ∷ [])
lawful_mark o link run mark h up down a s g again = record {
  asked = AtEachMark_more (AskedMark IsAll o link) [] run mark h.asked a;
  served = AtEachMark_more (ServedMark IsAll o link) [] run mark h.served s;
  accepts = AtEachMark_more (AcceptedMark o link) [] run mark h.accepts g;
  client = due_of o link Initiator (run ++ mark ∷ []) (unwritten o link Initiator run ++ more_due o link Initiator run mark) (due_more o link Initiator run mark up h.client);
  server = due_of o link Responder (run ++ mark ∷ []) (unwritten o link Responder run ++ more_due o link Responder run mark) (due_more o link Responder run mark down h.server);
  resent = AtEachMark_more (ResentMark o link) [] run mark h.resent again;
}

-- ===== what can be sent again

-- no call can be sent again
abbrev pub NoneAgain : LinkParameters → ℕ → List Mark → Type 0
NoneAgain o link run = calls_to_resend (client o link run) ≡ []

take_nil : {X : Type 0} (n : ℕ) → take n (let none : List X = [] in none) ≡ []
take_nil zero = refl
take_nil (suc n) = refl

pub no_length : {X : Type 0} (xs : List X) → length xs ≤ 0 → xs ≡ []
no_length [] le = refl
no_length (x ∷ xs) le = absurd (omega (arith, le))

-- of fewer calls, fewer
fewer_taken : {X : Type 0} (n m : ℕ) (xs ys : List X) → m ≤ n → length ys ≤ length xs → take n xs ≡ [] → take m ys ≡ []
fewer_taken {X = X} zero m xs ys le few e = (let none : m ≡ 0 = omega (arith, le) in ap (λ (k : ℕ). take k ys) none)
fewer_taken {X = X} (suc n) m [] ys le few e = ap (λ (zs : List X). take m zs) (no_length ys few) ∙ take_nil m
fewer_taken (suc n) m (x ∷ xs) ys le few e = absurd cc

same_count : {X Y : Type 0} (f : X → Y) (xs : List X) → length (map f xs) ≡ length xs
same_count f [] = refl
same_count f (x ∷ xs) = ap (λ (n : ℕ). suc n) (same_count f xs)

fewer_others : (ws : List WaitingCall) (xid : ℕ) → length (others_than ws xid) ≤ length ws
fewer_others [] xid = omega arith
fewer_others (w ∷ ws) xid = by (eqb w.xid xid)
  where
    by : (b : Bool) → length (cond b ws (w ∷ ws)) ≤ length (w ∷ ws)
    by true = omega arith
    by false = omega arith

-- an event that is no frame
abbrev pub IsNoFrame : RunEvent → Type 0
IsNoFrame (FrameReceived f) = ⊥
IsNoFrame (CallSubmitted place a) = Unit {0}
IsNoFrame (MemoryRevoked place xid) = Unit {0}
IsNoFrame (CallExecuted call) = Unit {0}
IsNoFrame (QueueWritten taken) = Unit {0}
IsNoFrame (ServerTold what) = Unit {0}

abbrev pub NoFrames : List RunEvent → Type 0
NoFrames es = AllByRecursion IsNoFrame es

pub if_none_lem : (b : Bool) (es : List RunEvent) → NoFrames es → NoFrames (if_own b es)
if_none_lem true es h = h
if_none_lem false es h = tt

pub other_side_lem : (b : Bool) (es : List RunEvent) → NoFrames (if_own (b && false) es)
other_side_lem true es = tt
other_side_lem false es = tt

abbrev again_of : Bool → ℕ → List WaitingCall → List WaitingCall
again_of hello n ws = if hello then take n ws else []

again_fewer : (hello : Bool) (n m : ℕ) (ws vs : List WaitingCall) → m ≤ n → length vs ≤ length ws → again_of hello n ws ≡ [] → again_of hello m vs ≡ []
again_fewer true n m ws vs le few e = fewer_taken n m ws vs le few e
again_fewer false n m ws vs le few e = refl

again_event : (o : LinkParameters) (k : ClientState) (ended : Option End) (e : RunEvent) → IsNoFrame e → calls_to_resend (record { state = k; ended = ended }) ≡ [] → calls_to_resend (next_end_state_in (client_rules o) k e ended) ≡ []
unfolding calls_to_resend client_state_after client_end
again_event o k (Some end) e h none = none
again_event o k None (FrameReceived f) h none = absurd h
again_event o k None (CallSubmitted place a) h none =
    let one : length (k.outstanding ++ outstanding_of k a ∷ []) ≡ length k.outstanding + 1 = length-append k.outstanding (outstanding_of k a ∷ []) in
    again_fewer k.has_hello (k.grant - length k.outstanding) (k.grant - length (k.outstanding ++ outstanding_of k a ∷ [])) k.waiting (others_than k.waiting a.xid) (omega (arith, one)) (fewer_others k.waiting a.xid) none
again_event o k None (MemoryRevoked place xid) h none =
    let out : length (map (revoked_call xid) k.outstanding) ≡ length k.outstanding = same_count (revoked_call xid) k.outstanding in
    let all : length (map (revoked_waiting xid) k.waiting) ≡ length k.waiting = same_count (revoked_waiting xid) k.waiting in
    again_fewer k.has_hello (k.grant - length k.outstanding) (k.grant - length (map (revoked_call xid) k.outstanding)) k.waiting (map (revoked_waiting xid) k.waiting) (omega (arith, out)) (omega (arith, all)) none
again_event o k None (CallExecuted call) h none = none
again_event o k None (QueueWritten taken) h none = none
again_event o k None (ServerTold what) h none = none

again_events : (o : LinkParameters) (r : EndState ClientState) (es : List RunEvent) → NoFrames es → calls_to_resend r ≡ [] → calls_to_resend (end_state_after (client_rules o) r es) ≡ []
again_events o r [] h none = none
again_events o r (e ∷ es) h none = again_events o (next_end_state (client_rules o) r e) es h.1 (again_event o r.state r.ended e h.0 none)

-- so with a mark that brings no frame none can be sent again
pub again_mark : (o : LinkParameters) (link : ℕ) (run : List Mark) (mark : Mark) → NoFrames (events_at link Initiator run mark) → NoneAgain o link run → NoneAgain o link (run ++ mark ∷ [])
again_mark o link run mark h none = ap calls_to_resend (client_one o link run mark) ∙ again_events o (client o link run) (events_at link Initiator run mark) h none

-- ===== what is written

quiet_client : (o : LinkParameters) (k : ClientState) (ended : Option End) (taken : ℕ) → output_for_all (client_rules o) (record { state = k; ended = ended }) (QueueWritten taken ∷ []) ≡ []
unfolding client_end client_output
quiet_client o k None taken = refl
quiet_client o k (Some end) taken = refl

quiet_server : (o : LinkParameters) (k : ServerState) (ended : Option End) (taken : ℕ) → output_for_all (server_rules o) (record { state = k; ended = ended }) (QueueWritten taken ∷ []) ≡ []
unfolding server_end server_output
quiet_server o k None taken = refl
quiet_server o k (Some end) taken = refl

-- a Wrote makes nothing due, at either side
quiet : (o : LinkParameters) (link : ℕ) (side writer : Side) (run : List Mark) (bytes : List ℕ) → more_due o link side run (marks.Wrote link writer bytes) ≡ []
quiet o link Initiator Initiator run bytes =
    ap (λ (b : Bool). output_for_all (client_rules o) (client o link run) (if_own (b && true) (QueueWritten (length bytes) ∷ []))) (itself link)
    ∙ quiet_client o (client o link run).state (client o link run).ended (length bytes)
quiet o link Initiator Responder run bytes =
    ap (λ (b : Bool). output_for_all (client_rules o) (client o link run) (if_own (b && false) (QueueWritten (length bytes) ∷ []))) (itself link)
quiet o link Responder Initiator run bytes =
    ap (λ (b : Bool). output_for_all (server_rules o) (server o link run) (if_own (b && false) (QueueWritten (length bytes) ∷ []))) (itself link)
quiet o link Responder Responder run bytes =
    ap (λ (b : Bool). output_for_all (server_rules o) (server o link run) (if_own (b && true) (QueueWritten (length bytes) ∷ []))) (itself link)
    ∙ quiet_server o (server o link run).state (server o link run).ended (length bytes)

-- nor do credits that a server is told to grant
granted_server : (o : LinkParameters) (k : ServerState) (ended : Option End) (credits : ℕ) → output_for_all (server_rules o) (record { state = k; ended = ended }) (ServerTold (Granted credits) ∷ []) ≡ []
unfolding server_end server_output
granted_server o k None credits = refl
granted_server o k (Some end) credits = refl

pub quiet_grant : (o : LinkParameters) (link : ℕ) (side : Side) (run : List Mark) (credits : ℕ) → more_due o link side run (marks.Told link (Granted credits)) ≡ []
quiet_grant o link Initiator run credits =
    ap (λ (b : Bool). output_for_all (client_rules o) (client o link run) (if_own (b && false) (ServerTold (Granted credits) ∷ []))) (itself link)
quiet_grant o link Responder run credits =
    ap (λ (b : Bool). output_for_all (server_rules o) (server o link run) (if_own (b && true) (ServerTold (Granted credits) ∷ []))) (itself link)
    ∙ granted_server o (server o link run).state (server o link run).ended credits

pub own_written : (link : ℕ) (side : Side) (bytes : List ℕ) → written_at link side (marks.Wrote link side bytes) ≡ bytes
own_written link Initiator bytes = ap (λ (b : Bool). if b && true then bytes else []) (itself link)
own_written link Responder bytes = ap (λ (b : Bool). if b && true then bytes else []) (itself link)

pub up_written : (link : ℕ) (bytes : List ℕ) → written_at link Responder (marks.Wrote link Initiator bytes) ≡ []
up_written link bytes = ap (λ (b : Bool). if b && false then bytes else []) (itself link)

pub down_written : (link : ℕ) (bytes : List ℕ) → written_at link Initiator (marks.Wrote link Responder bytes) ≡ []
down_written link bytes = ap (λ (b : Bool). if b && false then bytes else []) (itself link)

-- what the writer leaves, and what the other side leaves, which is what it left before
wrote_all : (o : LinkParameters) (link : ℕ) (side : Side) (run : List Mark) (bytes : List ℕ) → bytes ≡ unwritten o link side run → IsDueOf o link side run →
    bytes_sent link side (run ++ marks.Wrote link side bytes ∷ []) ++ [] ≡ output_due o link side (run ++ marks.Wrote link side bytes ∷ [])
wrote_all o link side run bytes all is =
    ap (λ (xs : List ℕ). bytes_sent link side (run ++ marks.Wrote link side bytes ∷ []) ++ xs) (sym (quiet o link side side run bytes))
    ∙ due_wrote o link side run (marks.Wrote link side bytes) (own_written link side bytes ∙ all) is

left_alone : (o : LinkParameters) (link : ℕ) (side writer : Side) (run : List Mark) (bytes : List ℕ) → written_at link side (marks.Wrote link writer bytes) ≡ [] → IsDueOf o link side run →
    bytes_sent link side (run ++ marks.Wrote link writer bytes ∷ []) ++ unwritten o link side run ≡ output_due o link side (run ++ marks.Wrote link writer bytes ∷ [])
left_alone o link side writer run bytes none is =
    ap (λ (xs : List ℕ). bytes_sent link side (run ++ marks.Wrote link writer bytes ∷ []) ++ xs)
    (sym (append-nil (unwritten o link side run)) ∙ ap (λ (xs : List ℕ). unwritten o link side run ++ xs) (sym (quiet o link side writer run bytes)))
    ∙ due_more o link side run (marks.Wrote link writer bytes) none is

-- after a Wrote of the client, or of the server, of all that it has to write
pub lawful_up : (o : LinkParameters) (link : ℕ) (run : List Mark) (bytes : List ℕ) → bytes ≡ unwritten o link Initiator run → NoneAgain o link run → IsLawful o link run →
    IsLawful o link (run ++ marks.Wrote link Initiator bytes ∷ [])
lawful_up o link run bytes all none h =
    let mark = marks.Wrote link Initiator bytes in
    record {
      asked = AtEachMark_more (AskedMark IsAll o link) [] run mark h.asked (λ same. ap (λ (xs : List ℕ). bytes_sent link Initiator run ++ xs) all ∙ h.client);
      served = AtEachMark_more (ServedMark IsAll o link) [] run mark h.served tt;
      accepts = AtEachMark_more (AcceptedMark o link) [] run mark h.accepts tt;
      client = due_of o link Initiator (run ++ mark ∷ []) [] (wrote_all o link Initiator run bytes all h.client);
      server = due_of o link Responder (run ++ mark ∷ []) (unwritten o link Responder run) (left_alone o link Responder Initiator run bytes (up_written link bytes) h.server);
      resent = AtEachMark_more (ResentMark o link) [] run mark h.resent (λ same. none);
    }

pub lawful_down : (o : LinkParameters) (link : ℕ) (run : List Mark) (bytes : List ℕ) → bytes ≡ unwritten o link Responder run → IsLawful o link run →
    IsLawful o link (run ++ marks.Wrote link Responder bytes ∷ [])
lawful_down o link run bytes all h =
    let mark = marks.Wrote link Responder bytes in
    record {
      asked = AtEachMark_more (AskedMark IsAll o link) [] run mark h.asked tt;
      served = AtEachMark_more (ServedMark IsAll o link) [] run mark h.served (λ same. ap (λ (xs : List ℕ). bytes_sent link Responder run ++ xs) all ∙ h.server);
      accepts = AtEachMark_more (AcceptedMark o link) [] run mark h.accepts tt;
      client = due_of o link Initiator (run ++ mark ∷ []) (unwritten o link Initiator run) (left_alone o link Initiator Responder run bytes (down_written link bytes) h.client);
      server = due_of o link Responder (run ++ mark ∷ []) [] (wrote_all o link Responder run bytes all h.server);
      resent = AtEachMark_more (ResentMark o link) [] run mark h.resent tt;
    }

wrote_none : (o : LinkParameters) (link : ℕ) (side : Side) (run : List Mark) (bytes : List ℕ) → NoneAgain o link run → NoneAgain o link (run ++ marks.Wrote link side bytes ∷ [])
wrote_none o link side run bytes none = again_mark o link run (marks.Wrote link side bytes) (if_none_lem _ (QueueWritten (length bytes) ∷ []) (tt, tt)) none

-- the client writes what it has to write
client_writes : (o : LinkParameters) (link : ℕ) (bytes : List ℕ) (d : Drill) → bytes ≡ unwritten o link Initiator d.marks → NoneAgain o link d.marks → IsLawful o link d.marks →
    IsLawful o link (after_output link Initiator bytes d).marks × (unwritten o link Initiator (after_output link Initiator bytes d).marks ≡ []) × NoneAgain o link (after_output link Initiator bytes d).marks
client_writes o link [] d all none h = (h, sym all, none)
client_writes o link (b ∷ bytes) d all none h = (
  lawful_up o link d.marks (b ∷ bytes) all none h,
  left_is o link Initiator (d.marks ++ marks.Wrote link Initiator (b ∷ bytes) ∷ []) [] (wrote_all o link Initiator d.marks (b ∷ bytes) all h.client),
  wrote_none o link Initiator d.marks (b ∷ bytes) none,
)

-- then the server, and the client still has nothing to write
server_writes : (o : LinkParameters) (link : ℕ) (bytes : List ℕ) (d : Drill) → bytes ≡ unwritten o link Responder d.marks → IsLawful o link d.marks → unwritten o link Initiator d.marks ≡ [] → NoneAgain o link d.marks →
    IsLawful o link (after_output link Responder bytes d).marks × IsWritten o link (after_output link Responder bytes d).marks × NoneAgain o link (after_output link Responder bytes d).marks
server_writes o link [] d all h written none = (h, record { client = written; server = sym all }, none)
server_writes o link (b ∷ bytes) d all h written none =
    let run = d.marks ++ marks.Wrote link Responder (b ∷ bytes) ∷ [] in (
      lawful_down o link d.marks (b ∷ bytes) all h,
      record {
        client = left_is o link Initiator run (unwritten o link Initiator d.marks) (left_alone o link Initiator Responder d.marks (b ∷ bytes) (down_written link (b ∷ bytes)) h.client) ∙ written;
        server = left_is o link Responder run [] (wrote_all o link Responder d.marks (b ∷ bytes) all h.server);
      },
      wrote_none o link Responder d.marks (b ∷ bytes) none,
    )

-- the laws of a link with nothing left to write, and no call that can be sent again, for a drill
abbrev pub Keeps : Setting → ℕ → Drill → Type 0
Keeps s link d = IsLawful (s.opened link) link d.marks × IsWritten (s.opened link) link d.marks × NoneAgain (s.opened link) link d.marks

pub lawful_settled : (s : Setting) (link : ℕ) (d : Drill) → NoneAgain (s.opened link) link d.marks → IsLawful (s.opened link) link d.marks → Keeps s link (settled s link d)
unfolding settled
lawful_settled s link d none h =
    let o = s.opened link in
    let up = client_writes o link (unwritten o link Initiator d.marks) d refl none h in
    let mid = after_all_output s link Initiator d in
    server_writes o link (unwritten o link Responder mid.marks) mid refl up.0 up.1 up.2

-- ===== calls are submitted, bytes are fed, calls are executed

pub asked_so_far : (o : LinkParameters) (link : ℕ) (run : List Mark) → IsLawful o link run → AskedSoFar o link run
asked_so_far o link run h = AtEachMark_each (AskedMark IsAll o link) (AskedMark IsPrefixOf o link) [] run (asked_mark o link) h.asked

pub not_dropped : (dropped : Bool) (answer : Submission) (xid : ℕ) → unless_dropped dropped answer ≡ submissions.Accepted xid → answer ≡ submissions.Accepted xid
not_dropped true answer xid e = absurd cc
not_dropped false answer xid e = e

-- a client that hasn't ended has its server's hello
abbrev pub IsGreeted : LinkParameters → ℕ → List Mark → Type 0
IsGreeted o link run = (client o link run).ended ≡ None → (client o link run).state.has_hello ≡ true

-- a call is accepted by its answer while a credit is left beside all that are outstanding or wait
pub accepted_within : (k : ClientState) (call : Call) (form : Form) (ended : Option End) (xid : ℕ) → answer_by k call form ended ≡ submissions.Accepted xid → (ended ≡ None) × (calls_counted k < k.grant)
accepted_within k call form (Some end) xid e = absurd cc
accepted_within k call form None xid e = (refl, by_result (plan_for k k.next_xid call form) e)
  where
    by_grant : (plan : Plan) (b : Bool) → leb k.grant (calls_counted k) ≡ b →
        cond b (submissions.Refused (refusals.NoCredit (calls_counted k) k.grant)) (unless_far k (unless_spent (numbers_end - k.next_xid) 1 (unless_spent (numbers_end - k.stag) (regions_needed plan) (submissions.Accepted k.next_xid))))
        ≡ submissions.Accepted xid → (calls_counted k < k.grant)
    by_grant plan true is e = absurd cc
    by_grant plan false is e = leb-false k.grant (calls_counted k) is

    by_result : (r : Result Plan TooLarge) → by_plan k r ≡ submissions.Accepted xid → calls_counted k < k.grant
    by_result (Ok plan) e = by_grant plan (leb k.grant (calls_counted k)) refl e
    by_result (Err large) e = absurd cc

none_of_taken : (hello : Bool) (n : ℕ) (ws : List WaitingCall) → hello ≡ true → 1 ≤ n → again_of hello n ws ≡ [] → ws ≡ []
none_of_taken false n ws greeted some e = absurd (let wrong : false ≡ true = greeted in cc)
none_of_taken true zero ws greeted some e = absurd (omega (arith, some))
none_of_taken true (suc n) [] greeted some e = refl
none_of_taken true (suc n) (w ∷ ws) greeted some e = absurd cc

waiting_none : (k : ClientState) (ended : Option End) → ended ≡ None → k.has_hello ≡ true → calls_counted k < k.grant → calls_to_resend (record { state = k; ended = ended }) ≡ [] → k.waiting ≡ []
unfolding calls_to_resend
waiting_none k None stays greeted within none = none_of_taken k.has_hello (k.grant - length k.outstanding) k.waiting greeted (let lt = within in omega (arith, lt)) none
waiting_none k (Some end) stays greeted within none = absurd cc

-- so none waits then
pub none_waits_then : (o : LinkParameters) (link : ℕ) (run : List Mark) (call : Call) (form : Form) (xid : ℕ) → IsGreeted o link run → NoneAgain o link run → submit_answer (client o link run) call form ≡ submissions.Accepted xid →
    (client o link run).state.waiting ≡ []
unfolding submit_answer
none_waits_then o link run call form xid greeted none e =
    let h = accepted_within (client o link run).state call form (client o link run).ended xid e in
    waiting_none (client o link run).state (client o link run).ended h.0 (greeted h.0) h.1 none

-- what a client answers keeps the law
pub answer_asked : (o : LinkParameters) (link : ℕ) (run : List Mark) (call : Call) (form : Form) (answer : Submission) → IsOpened o → IsGreeted o link run → NoneAgain o link run → CanWriteCred call.cred → IsLawful o link run →
    submit_answer_after o link run call form ≡ answer → AskedMark IsAll o link run (marks.Submit link call form answer)
unfolding submit_answer_after
answer_asked o link run call form (submissions.Accepted xid) numbers greeted none writable h e =
    λ same. (let own = not_dropped (is_dropped link run) (submit_answer (client o link run) call form) xid e in
    (accepted_keeps o link run call form xid own (none_waits_then o link run call form xid greeted none own) numbers (asked_so_far o link run h) writable).0)
answer_asked o link run call form (submissions.Refused why) numbers greeted none writable h e = tt
answer_asked o link run call form submissions.Dropped numbers greeted none writable h e = tt

answer_again : (o : LinkParameters) (link : ℕ) (run : List Mark) (call : Call) (form : Form) (answer : Submission) → NoneAgain o link run → ResentMark o link run (marks.Submit link call form answer)
answer_again o link run call form (submissions.Accepted xid) none = tt
answer_again o link run call form (submissions.Refused why) none = λ same. none
answer_again o link run call form submissions.Dropped none = tt

submit_none : (o : LinkParameters) (link : ℕ) (run : List Mark) (call : Call) (form : Form) (answer : Submission) → NoneAgain o link run → NoneAgain o link (run ++ marks.Submit link call form answer ∷ [])
submit_none o link run call form (submissions.Accepted xid) none =
    again_mark o link run (marks.Submit link call form (submissions.Accepted xid)) (if_none_lem _ (CallSubmitted _ (record { xid = xid; call = call; form = form }) ∷ []) (tt, tt)) none
submit_none o link run call form (submissions.Refused why) none = again_mark o link run (marks.Submit link call form (submissions.Refused why)) tt none
submit_none o link run call form submissions.Dropped none = again_mark o link run (marks.Submit link call form submissions.Dropped) tt none

answer_accepted : (o : LinkParameters) (link : ℕ) (run : List Mark) (call : Call) (form : Form) (answer : Submission) →
    submit_answer_after o link run call form ≡ answer → AcceptedMark o link run (marks.Submit link call form answer)
answer_accepted o link run call form (submissions.Accepted xid) e = λ same. inl e
answer_accepted o link run call form (submissions.Refused why) e = tt
answer_accepted o link run call form submissions.Dropped e = tt

pub lawful_submit : (s : Setting) (link : ℕ) (call : Call) (form : Form) (d : Drill) → IsOpened (s.opened link) → IsGreeted (s.opened link) link d.marks → CanWriteCred call.cred → Keeps s link d → Keeps s link (after_submit s link call form d)
unfolding after_submit
lawful_submit s link call form d numbers greeted writable h =
    let o = s.opened link in
    let answer = submit_answer_after o link d.marks call form in
    let mark = marks.Submit link call form answer in
    lawful_settled s link (with_mark mark d) (submit_none o link d.marks call form answer h.2) (lawful_mark o link d.marks mark h.0 refl refl
    (answer_asked o link d.marks call form answer numbers greeted h.2 writable h.0 refl) tt (answer_accepted o link d.marks call form answer refl) (answer_again o link d.marks call form answer h.2))

fed_again : (o : LinkParameters) (link : ℕ) (run : List Mark) (side : Side) (bytes : List ℕ) → NoneAgain o link run → ResentMark o link run (marks.Fed link side bytes)
fed_again o link run Initiator bytes none = λ same. none
fed_again o link run Responder bytes none = tt

lawful_fed : (s : Setting) (link : ℕ) (side : Side) (bytes : List ℕ) (rest : Pipes) (d : Drill) → NoneAgain (s.opened link) link d.marks → IsLawful (s.opened link) link d.marks →
    IsLawful (s.opened link) link (after_feeding link side bytes rest d).marks
lawful_fed s link side [] rest d none h = h
lawful_fed s link side (b ∷ bytes) rest d none h = lawful_mark (s.opened link) link d.marks (marks.Fed link side (b ∷ bytes)) h refl refl tt tt tt (fed_again (s.opened link) link d.marks side (b ∷ bytes) none)

up_none : (s : Setting) (link : ℕ) (bytes : List ℕ) (rest : Pipes) (d : Drill) → NoneAgain (s.opened link) link d.marks → NoneAgain (s.opened link) link (after_feeding link Responder bytes rest d).marks
up_none s link [] rest d none = none
up_none s link (b ∷ bytes) rest d none = again_mark (s.opened link) link d.marks (marks.Fed link Responder (b ∷ bytes)) (other_side_lem (eqb link link) _) none

pub lawful_after_up : (s : Setting) (link n : ℕ) (d : Drill) → Keeps s link d → Keeps s link (after_up s link n d)
unfolding after_up
lawful_after_up s link n d h =
    let pipes = pipes_of link d in
    let rest : Pipes = record pipes { up = drop n pipes.up } in
    lawful_settled s link (after_feeding_up link n d) (up_none s link (take n pipes.up) rest d h.2) (lawful_fed s link Responder (take n pipes.up) rest d h.2 h.0)

-- a call that waits is the next one of a server
is_next : (dropped : Bool) (call : ReadyCall) (next : Option ReadyCall) → if_standing dropped next ≡ Some call → next ≡ Some call
is_next true call next e = absurd cc
is_next false call next e = e

lawful_answer : (s : Setting) (link : ℕ) (call : ReadyCall) (answer : Option GivenReply) (d : Drill) → next_call (s.opened link) link d.marks ≡ Some call → Keeps s link d →
    Keeps s link (after_answer s link call answer d)
lawful_answer s link call None d next h = h
lawful_answer s link call (Some g) d next h =
    let o = s.opened link in
    let mark = marks.Execute link call.xid g.moment call.payload g.place g.reply in
    lawful_settled s link (with_mark mark d) (again_mark o link d.marks mark (other_side_lem (eqb link link) _) h.2)
    (lawful_mark o link d.marks mark h.0 refl refl tt (λ same. record { call = call; is_next = next; own = refl; conveyed = refl }) tt tt)

-- an old call is one of a client with a number, and ends the link
old_numbered : (s : Setting) (link : ℕ) (call : ReadyCall) (d : Drill) (top : ℕ) → standing_of s link d call ≡ Old top → number_heard d.marks link ≢ 0
unfolding standing_of
old_numbered s link call d top e none = absurd (let new : New ≡ Old top = sym (ap (λ (n : ℕ). standing_for (journal_of s d.marks) n call.xid) none) ∙ e in cc)

lawful_call : (s : Setting) (link : ℕ) (call : ReadyCall) (is : Standing) (answer : Option GivenReply) (d : Drill) → standing_of s link d call ≡ is → next_call (s.opened link) link d.marks ≡ Some call → Keeps s link d →
    Keeps s link (after_call s link call is answer d)
lawful_call s link call (Old top) answer d stood next h =
    let o = s.opened link in
    let mark = marks.Told link (told.Old call.xid (last_frame_at link d.marks)) in
    lawful_settled s link (with_mark mark d) (again_mark o link d.marks mark (other_side_lem (eqb link link) _) h.2)
    (lawful_mark o link d.marks mark h.0 refl refl tt (λ same. record { call = call; numbered = old_numbered s link call d top stood; is_next = next; own = refl; last = refl }) tt tt)
lawful_call s link call (Kept place) answer d stood next h = lawful_answer s link call answer d next h
lawful_call s link call New answer d stood next h = lawful_answer s link call answer d next h

lawful_waiting : (s : Setting) (link : ℕ) (call : Option ReadyCall) (d : Drill) → if_standing (is_dropped link d.marks) (next_call (s.opened link) link d.marks) ≡ call → Keeps s link d →
    Keeps s link (after_execution s link call d)
lawful_waiting s link None d e h = h
lawful_waiting s link (Some call) d e h =
    lawful_call s link call (standing_of s link d call) (reply_given s link d call) d refl
    (is_next (is_dropped link d.marks) call (next_call (s.opened link) link d.marks) e) h

pub lawful_work : (s : Setting) (link : ℕ) (d : Drill) → Keeps s link d → Keeps s link (after_work s link d)
unfolding after_work waiting_call
lawful_work s link d h = lawful_waiting s link (waiting_call s link d.marks) d refl h

pub lawful_calls : (s : Setting) (link n : ℕ) (d : Drill) → Keeps s link d → Keeps s link (after_calls s link n d)
lawful_calls s link zero d h = h
lawful_calls s link (suc n) d h = lawful_calls s link n (after_work s link d) (lawful_work s link d h)

pub lawful_drop : (s : Setting) (link : ℕ) (d : Drill) → IsLawful (s.opened link) link d.marks → IsLawful (s.opened link) link (after_drop link d).marks
lawful_drop s link d h = lawful_mark (s.opened link) link d.marks (marks.Drop link) h refl refl tt tt tt tt

-- a server is told to grant from 1 to as many credits as it was opened with
pub lawful_grant : (s : Setting) (link credits : ℕ) (d : Drill) → ToldInRange (s.opened link) (Granted credits) → IsLawful (s.opened link) link d.marks → IsLawful (s.opened link) link (after_grant link credits d).marks
lawful_grant s link credits d within h = lawful_mark (s.opened link) link d.marks (marks.Told link (Granted credits)) h refl refl tt (λ same. within) tt tt

-- ===== lists

pub here : {X : Type 0} (x : X) (xs : List X) (c : X) → x ≡ c → Contains (x ∷ xs) c
here x xs c is = (zero, omega arith, is)

pub there : {X : Type 0} (x : X) (xs : List X) (c : X) → Contains xs c → Contains (x ∷ xs) c
there x xs c h = (suc h.0, (let lt = h.1 in omega (arith, lt)), h.2)

pub none_in : {X : Type 0} {W : Type 0} (c : X) → Contains [] c → W
none_in c h = absurd (let lt = h.1 in omega (arith, lt))

pub one_in : {X : Type 0} (x c : X) → Contains (x ∷ []) c → x ≡ c
one_in {X = X} x c h = by (Contains-push_cases [] x c h)
  where
    by : Contains [] c ⊎ (x ≡ c) → x ≡ c
    by (inl none) = none_in {W = x ≡ c} c none
    by (inr is) = is

-- the element at an index of a list, and the first one that passes a test
pub got_in : {X : Type 0} (xs : List X) (i : ℕ) (c : X) → slice_get xs i ≡ Some c → Contains xs c
got_in [] i c e = absurd cc
got_in {X = X} (x ∷ xs) zero c e = here x xs c (ap (λ (o : Option X). unwrap_or o c) e)
got_in (x ∷ xs) (suc i) c e = there x xs c (got_in xs i c e)

pub passed : {X : Type 0} (p : X → Bool) (xs : List X) (c : X) → Contains (filter p xs) c → Contains xs c × (p c ≡ true)
passed p [] c h = none_in {W = Contains [] c × (p c ≡ true)} c h
passed {X = X} p (x ∷ xs) c h = by (passed p xs c) (p x) refl h
  where
    later : (Contains (filter p xs) c → Contains xs c × (p c ≡ true)) → Contains (filter p xs) c → Contains (x ∷ xs) c × (p c ≡ true)
    later more h = (let r = more h in (there x xs c r.0, r.1))

    either : (Contains (filter p xs) c → Contains xs c × (p c ≡ true)) → p x ≡ true → Contains (x ∷ []) c ⊎ Contains (filter p xs) c → Contains (x ∷ xs) c × (p c ≡ true)
    either more is (inl first) = (here x xs c (one_in x c first), ap p (sym (one_in x c first)) ∙ is)
    either more is (inr h) = later more h

    by : (Contains (filter p xs) c → Contains xs c × (p c ≡ true)) → (b : Bool) → p x ≡ b → Contains (cond b (x ∷ filter p xs) (filter p xs)) c → Contains (x ∷ xs) c × (p c ≡ true)
    by more true is h = either more is (Contains-append_cases (x ∷ []) (filter p xs) c h)
    by more false is h = later more h

record IsFrom {X A : Type 0} (f : X → List A) (xs : List X) (c : A) : Type 0 where
  source : X
  is_there : Contains xs source
  gives : Contains (f source) c

in_flat : {X A : Type 0} (f : X → List A) (xs : List X) (c : A) → Contains (flat_map f xs) c → IsFrom f xs c
in_flat f [] c h = none_in {W = IsFrom f [] c} c h
in_flat f (x ∷ xs) c h = by (in_flat f xs c) (Contains-append_cases (f x) (flat_map f xs) c h)
  where
    by : (Contains (flat_map f xs) c → IsFrom f xs c) → Contains (f x) c ⊎ Contains (flat_map f xs) c → IsFrom f (x ∷ xs) c
    by more (inl first) = record { source = x; is_there = here x xs x refl; gives = first }
    by more (inr h) = (let r = more h in record { source = r.source; is_there = there x xs r.source r.is_there; gives = r.gives })

-- ===== outcomes are handed over

neither : (a b : Bool) → not (a || b) ≡ true → (a ≡ false) × (b ≡ false)
neither true b e = absurd cc
neither false true e = absurd cc
neither false false e = (refl, refl)

pub none_completed : (link xid : ℕ) (run : List Mark) → is_completed link xid run ≡ false → (c : CompletedCall) → Contains (completed_calls link run) c → c.xid ≢ xid
none_completed link xid run none c h same = absurd (true_not (sym (passes_any (λ (x : CompletedCall). eqb x.xid xid) (completed_calls link run) c h (eq-eqb c.xid xid same)) ∙ none))
  where
    true_not : true ≡ false → ⊥
    true_not e = absurd cc

handed : (o : LinkParameters) (link : ℕ) (run : List Mark) (c : CompletedCall) → slice_get (outcomes_due o link run) 0 ≡ Some c → IsCompleted o link run c.xid c.outcome
unfolding outcomes_due
handed o link run c e =
    let outs = (client o link run).state.outcomes in
    let p = λ (x : CompletedCall). not (is_abandoned link x.xid run || is_completed link x.xid run) in
    let all = flat_map (outcomes_of_call outs) (accepted_calls link run) in
    let due = passed p all c (got_in (filter p all) 0 c e) in
    let from = in_flat (outcomes_of_call outs) (accepted_calls link run) c due.0 in
    let own = passed (λ (x : CompletedCall). eqb x.xid from.source.xid) outs c from.gives in
    let kept = neither (is_abandoned link c.xid run) (is_completed link c.xid run) due.1 in
    record {
      awaited = record {
        asked = from.source;
        is_asked = from.is_there;
        own = sym (eqb-true c.xid from.source.xid own.1);
        first = none_completed link c.xid run kept.1;
        kept = kept.0;
      };
      is_received = own.0;
    }

pub lawful_handing : (o : LinkParameters) (link : ℕ) (c : Option CompletedCall) (d : Drill) → slice_get (outcomes_due o link d.marks) 0 ≡ c → NoneAgain o link d.marks → IsLawful o link d.marks →
    IsLawful o link (after_handing link c d).marks
lawful_handing o link None d e none h = h
lawful_handing o link (Some c) d e none h =
    lawful_mark o link d.marks (marks.Done link c.xid c.outcome) h refl refl (λ same. handed o link d.marks c e) tt tt (λ same. none)

handing_none : (o : LinkParameters) (link : ℕ) (c : Option CompletedCall) (d : Drill) → NoneAgain o link d.marks → NoneAgain o link (after_handing link c d).marks
handing_none o link None d none = none
handing_none o link (Some c) d none = again_mark o link d.marks (marks.Done link c.xid c.outcome) tt none

-- the laws of a link of whose calls none can be sent again
pub record AreSent (o : LinkParameters) (link : ℕ) (run : List Mark) : Type 0 where
  pub lawful : IsLawful o link run
  pub none : NoneAgain o link run

pub lawful_dones : (s : Setting) (link n : ℕ) (d : Drill) → AreSent (s.opened link) link d.marks → AreSent (s.opened link) link (after_dones s link n d).marks
unfolding after_done
lawful_dones s link zero d h = h
lawful_dones s link (suc n) d h =
    let o = s.opened link in
    let first = slice_get (outcomes_due o link d.marks) 0 in
    lawful_dones s link n (after_done s link d) (record { lawful = lawful_handing o link first d refl h.none h.lawful; none = handing_none o link first d h.none })

-- each call that can be sent again is
sent_all : (o : LinkParameters) (link : ℕ) (run : List Mark) (cs : List WaitingCall) → IsOpened o → IsLawful o link run → calls_to_resend (client o link run) ≡ cs → AreSent o link (run ++ map (resend_mark link) cs)
sent_all o link run [] numbers h is = subst (AreSent o link) (sym (append-nil run)) (record { lawful = h; none = is })
sent_all o link run (w ∷ cs) numbers h is =
    let mark : Mark = resend_mark link w in
    subst (AreSent o link) (append_assoc run (mark ∷ []) (map (resend_mark link) cs))
    (sent_all o link (run ++ mark ∷ []) cs numbers
    (lawful_mark o link run mark h refl refl (λ same. accepted o link run numbers (asked_so_far o link run h) w cs is) tt (λ same. inr (record { call = w; calls = cs; first = is; own = refl })) tt)
    (resent_next o link run w cs is))

pub lawful_resends : (s : Setting) (link : ℕ) (d : Drill) → IsOpened (s.opened link) → IsLawful (s.opened link) link d.marks → AreSent (s.opened link) link (after_resends s link d).marks
unfolding after_resends
lawful_resends s link d numbers h = sent_all (s.opened link) link d.marks (calls_to_resend (client (s.opened link) link d.marks)) numbers h refl

pub lawful_after_down : (s : Setting) (link n : ℕ) (d : Drill) → IsOpened (s.opened link) → Keeps s link d → Keeps s link (after_down s link n d)
unfolding after_down after_outcomes
lawful_after_down s link n d numbers h =
    let o = s.opened link in
    let pipes = pipes_of link d in
    let fed = after_feeding_down link n d in
    let sent = after_resends s link fed in
    let all = lawful_resends s link fed numbers (lawful_fed s link Initiator (take n pipes.down) (record pipes { down = drop n pipes.down }) d h.2 h.0) in
    let handed = lawful_dones s link (length (outcomes_due o link sent.marks)) sent all in
    lawful_settled s link (after_outcomes s link sent) handed.none handed.lawful

-- ===== calls are given up

-- a call that is open on a link is one of its client's, which may wait to be sent again
abbrev pub OpenIsAwaited : Setting → ℕ → Drill → Type 0
OpenIsAwaited s link d = (number xid : ℕ) → open_xid s link d.marks (answer_of_line s (client_of s link) number d.marks) ≡ Some xid → IsAwaitedOrWaits (s.opened link) link d.marks xid

lawful_giving_up : (s : Setting) (link number : ℕ) (xid : Option ℕ) (d : Drill) → OpenIsAwaited s link d → open_xid s link d.marks (answer_of_line s (client_of s link) number d.marks) ≡ xid →
    NoneAgain (s.opened link) link d.marks → IsLawful (s.opened link) link d.marks → IsLawful (s.opened link) link (after_giving_up link xid d).marks
lawful_giving_up s link number None d awaited e none h = h
lawful_giving_up s link number (Some xid) d awaited e none h =
    lawful_mark (s.opened link) link d.marks (marks.Forget link xid) h refl refl (λ same. awaited number xid e) tt tt (λ same. none)

pub lawful_forget : (s : Setting) (link number : ℕ) (d : Drill) → OpenIsAwaited s link d → NoneAgain (s.opened link) link d.marks → IsLawful (s.opened link) link d.marks → IsLawful (s.opened link) link (after_forget s link number d).marks
unfolding after_forget
lawful_forget s link number d awaited none h = lawful_giving_up s link number (open_xid s link d.marks (answer_of_line s (client_of s link) number d.marks)) d awaited refl none h

lawful_taking_back : (s : Setting) (link number : ℕ) (xid : Option ℕ) (d : Drill) → OpenIsAwaited s link d → open_xid s link d.marks (answer_of_line s (client_of s link) number d.marks) ≡ xid → Keeps s link d →
    Keeps s link (after_taking_back s link xid d)
lawful_taking_back s link number None d awaited e h = h
lawful_taking_back s link number (Some xid) d awaited e h =
    let o = s.opened link in
    let mark = marks.Revoke link xid (revoked_bytes o link d.marks xid) in
    lawful_settled s link (with_mark mark d) (again_mark o link d.marks mark (if_none_lem _ (MemoryRevoked _ xid ∷ []) (tt, tt)) h.2)
    (lawful_mark o link d.marks mark h.0 refl refl (λ same. record { awaited = awaited number xid e; bytes_are = refl }) tt tt (λ same. h.2))

pub lawful_revoke : (s : Setting) (link number : ℕ) (d : Drill) → OpenIsAwaited s link d → Keeps s link d → Keeps s link (after_revoke s link number d)
unfolding after_revoke
lawful_revoke s link number d awaited h = lawful_taking_back s link number (open_xid s link d.marks (answer_of_line s (client_of s link) number d.marks)) d awaited refl h

-- ===== a round on a link

pub lawful_moves : (s : Setting) (link : ℕ) (d : Drill) → IsOpened (s.opened link) → Keeps s link d → Keeps s link (after_moves s link d)
unfolding after_moves after_all_work
lawful_moves s link d numbers h =
    let one = after_all_up s link d in
    let two = after_all_work s link one in
    lawful_after_down s link (length (pipes_of link two).down) two numbers
    (lawful_calls s link (length (server (s.opened link) link one.marks).state.ready) one
    (lawful_after_up s link (length (pipes_of link d).up) d h))
