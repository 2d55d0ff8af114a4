-- What each function of a drill adds are marks of its link. So it leaves the laws of other links, and on its own link it keeps them.
use Rattle.std.specs.Prelude.{slice_get, ◌-◌, ◌&&◌, ◌||◌, map, slice_index_or, slice_set, replicate}
use Rattle.std.specs.List.{AllByRecursion}
use Rattle.std.proofs.Common.{◌≡◌, ◌≢◌, ℕ, ◌+◌, arith, zero, suc, Bool, true, false, eqb, List, [], ◌∷◌, ◌++◌, length, take, drop, Option, None, Some, refl, sym, ap, subst, ◌∙◌, append_assoc, append-nil, eqb-true}
use Rattle.nr_wire.specs.declared.hello.Side.{Side}
use Rattle.nr_wire.specs.declared.hello.Side.TheVariants.{Initiator, Responder}
use Rattle.nr_reduce.specs.declared.call.Call.{Call}
use Rattle.nr_reduce.specs.declared.call.Form.{Form}
use Rattle.nr_reduce.specs.declared.call.Submission.TheVariants as submissions
use Rattle.nr_reduce.specs.declared.mark.Mark.{Mark}
use Rattle.nr_reduce.specs.declared.mark.Mark.TheVariants as marks
use Rattle.nr_reduce.specs.declared.mark.Told.TheVariants.{Granted}
use Rattle.nr_reduce.specs.declared.mark.Told.TheVariants as told
use Rattle.nr_reduce.specs.declared.mark.LinkParameters.{LinkParameters}
use Rattle.std.proofs.lemmas.Bool.{eq-eqb}
use Rattle.std.proofs.lemmas.List.{get_or-set_other, length-set}
use Rattle.nr_reduce.specs.History.{CompletedCall, bytes_sent, written_at, same_side}
use Rattle.nr_reduce.specs.Events.{RunEvent, events_at, events}
use Rattle.nr_reduce.specs.EndRules.{end_state_after, output_for_all}
use Rattle.nr_reduce.specs.Client.{client_rules}
use Rattle.nr_reduce.specs.Server.{server_rules}
use Rattle.nr_reduce.specs.ServerState.{ReadyCall}
use Rattle.nr_reduce.specs.Run.{client, server, output_due}
use Rattle.nr_rpc.specs.declared.cred.Cred.{Cred}
use Rattle.nr_rpc.specs.declared.cred.Cred.TheVariants as creds
use Rattle.nr_rpc.specs.Credential.{CanWriteCred}
use Rattle.nr_reduce.specs.Opening.{IsOpened}
use Rattle.nr_reduce.specs.Asked.{Asked, AskedMark, IsAll, ResentMark, revoked_bytes}
use Rattle.nr_reduce.specs.OutcomesDue.{outcomes_due}
use Rattle.nr_reduce.specs.NumberedJournal.{Standing}
use Rattle.nr_reduce.specs.NumberedJournal.Standing.{Old, Kept, New}
use Rattle.nr_reduce.specs.ClientState.{WaitingCall}
use Rattle.nr_reduce.proofs.Steps.{client_one}
use Rattle.nr_reduce.specs.SubmitAnswer.{submit_answer_after, calls_to_resend}
use Rattle.nr_reduce.specs.Served.{Served, ServedMark, ToldInRange, last_frame_at}
use Rattle.nr_laws.specs.Grant.{AcceptedMark, AcceptsByRule}
use Rattle.nr_script.specs.Script.{ScriptLines, IsScript}
use Rattle.nr_reduce.specs.Concerns.{concerns}
use Rattle.nr_reduce.proofs.Unconcerned.{not_judged, none_written, no_events, none_asked, none_served}
use Rattle.nr_drill.specs.Follows.{parameters_of}
use Rattle.nr_drill.specs.Drill.{link_of, Setting, Drill, Pipes, GivenReply, client_of, setting_now, standing_of, reply_given, resend_mark, after_resends, unwritten, after_output, after_all_output, settled, pipes_of, with_mark, after_submit, after_feeding, after_feeding_up, after_up, waiting_call, after_answer, after_call, after_execution, after_work, after_calls, after_drop, after_raw, after_feeding_down, after_handing, after_done, after_dones, after_outcomes, after_down, answer_of_line, open_xid, after_giving_up, after_forget, after_taking_back, after_revoke, after_all_up, after_all_work, after_all_down, after_moves, after_opening, with_pipes, appended, empty_pipes, after_grant}
use Rattle.nr_drill.proofs.Lawful.{IsLawful, IsWritten, IsDueOf, Keeps, NoneAgain, OpenIsAwaited, again_mark, other_side_lem, lawful_mark, left_is, due_more, more_due, due_of, lawful_settled, lawful_drop, lawful_forget, lawful_after_up, lawful_after_down, lawful_grant, quiet_grant}

-- ===== marks of other links

pub apart : (l link : ℕ) → l ≢ link → eqb l link ≡ false
apart l link ne = by (eqb l link) refl
  where
    by : (b : Bool) → eqb l link ≡ b → eqb l link ≡ false
    by true is = absurd (ne (eqb-true l link is))
    by false is = is

pub unconcerned : (link : ℕ) (side : Side) (mark : Mark) → link_of mark ≢ link → concerns link side mark ≡ false
unconcerned link side (marks.Submit l call form (submissions.Accepted xid)) ne = ap (λ (b : Bool). (b && same_side Initiator side) || false) (apart l link ne)
unconcerned link side (marks.Submit l call form (submissions.Refused why)) ne = refl
unconcerned link side (marks.Submit l call form submissions.Dropped) ne = refl
unconcerned link side (marks.Wrote l s bytes) ne = ap (λ (b : Bool). (b && same_side s side) || false) (apart l link ne)
unconcerned link side (marks.Fed l s bytes) ne = ap (λ (b : Bool). b && same_side s side) (apart l link ne)
unconcerned link side (marks.Execute l xid moment payload place reply) ne = ap (λ (b : Bool). (b && same_side Responder side) || false) (apart l link ne)
unconcerned link side (marks.Done l xid outcome) ne = ap (λ (b : Bool). (b && same_side Initiator side) || false) (apart l link ne)
unconcerned link side (marks.Lost l xid) ne = ap (λ (b : Bool). (b && same_side Initiator side) || false) (apart l link ne)
unconcerned link side (marks.Forget l xid) ne = ap (λ (b : Bool). (b && same_side Initiator side) || false) (apart l link ne)
unconcerned link side (marks.Revoke l xid bytes) ne = ap (λ (b : Bool). (b && same_side Initiator side) || false) (apart l link ne)
unconcerned link side (marks.Drop l) ne = refl
unconcerned link side (marks.Told l what) ne = ap (λ (b : Bool). (b && same_side Responder side) || false) (apart l link ne)

pub not_written : (link : ℕ) (side : Side) (mark : Mark) → link_of mark ≢ link → written_at link side mark ≡ []
not_written link side mark ne = none_written link side mark (not_judged link side mark (unconcerned link side mark ne))

pub no_event : (link : ℕ) (side : Side) (run : List Mark) (mark : Mark) → link_of mark ≢ link → events_at link side run mark ≡ []
no_event link side run mark ne = no_events link side run mark (unconcerned link side mark ne)

pub asked_elsewhere : (o : LinkParameters) (link : ℕ) (run : List Mark) (mark : Mark) → link_of mark ≢ link → AskedMark IsAll o link run mark
asked_elsewhere o link run mark ne = none_asked IsAll o link run mark (not_judged link Initiator mark (unconcerned link Initiator mark ne))

pub served_elsewhere : (o : LinkParameters) (link : ℕ) (run : List Mark) (mark : Mark) → link_of mark ≢ link → ServedMark IsAll o link run mark
served_elsewhere o link run mark ne = none_served IsAll o link run mark (not_judged link Responder mark (unconcerned link Responder mark ne))

pub accepted_elsewhere : (o : LinkParameters) (link : ℕ) (run : List Mark) (mark : Mark) → link_of mark ≢ link → AcceptedMark o link run mark
accepted_elsewhere o link run (marks.Submit l call form (submissions.Accepted xid)) ne = λ same. absurd (ne same)
accepted_elsewhere o link run (marks.Submit l call form (submissions.Refused why)) ne = tt
accepted_elsewhere o link run (marks.Submit l call form submissions.Dropped) ne = tt
accepted_elsewhere o link run (marks.Wrote l side bytes) ne = tt
accepted_elsewhere o link run (marks.Fed l side bytes) ne = tt
accepted_elsewhere o link run (marks.Execute l xid moment payload place reply) ne = tt
accepted_elsewhere o link run (marks.Done l xid outcome) ne = tt
accepted_elsewhere o link run (marks.Lost l xid) ne = tt
accepted_elsewhere o link run (marks.Forget l xid) ne = tt
accepted_elsewhere o link run (marks.Revoke l xid bytes) ne = tt
accepted_elsewhere o link run (marks.Drop l) ne = tt
accepted_elsewhere o link run (marks.Told l what) ne = tt

pub resent_elsewhere : (o : LinkParameters) (link : ℕ) (run : List Mark) (mark : Mark) → link_of mark ≢ link → ResentMark o link run mark
resent_elsewhere o link run (marks.Submit l call form (submissions.Accepted xid)) ne = tt
resent_elsewhere o link run (marks.Submit l call form (submissions.Refused why)) ne = λ same. absurd (ne same)
resent_elsewhere o link run (marks.Submit l call form submissions.Dropped) ne = tt
resent_elsewhere o link run (marks.Wrote l Initiator bytes) ne = λ same. absurd (ne same)
resent_elsewhere o link run (marks.Wrote l Responder bytes) ne = tt
resent_elsewhere o link run (marks.Fed l Initiator bytes) ne = λ same. absurd (ne same)
resent_elsewhere o link run (marks.Fed l Responder bytes) ne = tt
resent_elsewhere o link run (marks.Execute l xid moment payload place reply) ne = tt
resent_elsewhere o link run (marks.Done l xid outcome) ne = λ same. absurd (ne same)
resent_elsewhere o link run (marks.Lost l xid) ne = tt
resent_elsewhere o link run (marks.Forget l xid) ne = λ same. absurd (ne same)
resent_elsewhere o link run (marks.Revoke l xid bytes) ne = λ same. absurd (ne same)
resent_elsewhere o link run (marks.Drop l) ne = tt
resent_elsewhere o link run (marks.Told l what) ne = tt

-- the client stays as it is
pub client_elsewhere : (o : LinkParameters) (link other : ℕ) (old added : List Mark) → other ≢ link → AllByRecursion (λ (mark : Mark). link_of mark ≡ other) added → client o link (old ++ added) ≡ client o link old
client_elsewhere o link other old [] ne own = ap (λ (run : List Mark). client o link run) (append-nil old)
client_elsewhere o link other old (mark ∷ added) ne own =
    let from : link_of mark ≢ link = (λ same. ne (sym own.0 ∙ same)) in
    ap (λ (run : List Mark). client o link run) (sym (append_assoc old (mark ∷ []) added)) ∙ client_elsewhere o link other (old ++ mark ∷ []) added ne own.1
    ∙ client_one o link old mark ∙ ap (λ (es : List RunEvent). end_state_after (client_rules o) (client o link old) es) (no_event link Initiator old mark from)

-- nothing more is due, and what was left to write is left
pub no_more : (o : LinkParameters) (link : ℕ) (side : Side) (run : List Mark) (mark : Mark) → link_of mark ≢ link → more_due o link side run mark ≡ []
no_more o link Initiator run mark ne = ap (λ (es : List RunEvent). output_for_all (client_rules o) (client o link run) es) (no_event link Initiator run mark ne)
no_more o link Responder run mark ne = ap (λ (es : List RunEvent). output_for_all (server_rules o) (server o link run) es) (no_event link Responder run mark ne)

pub same_left : (o : LinkParameters) (link : ℕ) (side : Side) (run : List Mark) (mark : Mark) → link_of mark ≢ link → IsDueOf o link side run → unwritten o link side (run ++ mark ∷ []) ≡ unwritten o link side run
same_left o link side run mark ne is =
    left_is o link side (run ++ mark ∷ []) (unwritten o link side run ++ more_due o link side run mark) (due_more o link side run mark (not_written link side mark ne) is)
    ∙ ap (λ (xs : List ℕ). unwritten o link side run ++ xs) (no_more o link side run mark ne) ∙ append-nil (unwritten o link side run)

-- the marks between are those of one link
pub record Adds (link : ℕ) (old new : List Mark) : Type 0 where
  pub added : List Mark
  pub is : new ≡ old ++ added
  pub own : AllByRecursion (λ (mark : Mark). link_of mark ≡ link) added

-- Marks of another link change nothing of a link.
pub record IsSame (o : LinkParameters) (link : ℕ) (old new : List Mark) : Type 0 where
  pub lawful : IsLawful o link old → IsLawful o link new
  pub written : IsLawful o link old → IsWritten o link old → IsWritten o link new
  pub same_client : client o link new ≡ client o link old

pub same_by : (o : LinkParameters) (link other : ℕ) (old added : List Mark) → other ≢ link → AllByRecursion (λ (mark : Mark). link_of mark ≡ other) added → IsSame o link old (old ++ added)
same_by o link other old [] ne own =
    subst (IsSame o link old) (sym (append-nil old)) (record { lawful = λ h. h; written = λ h w. w; same_client = refl })
same_by o link other old (mark ∷ added) ne own =
    let apart_from : link_of mark ≢ link = (λ same. ne (sym own.0 ∙ same)) in
    let run = old ++ mark ∷ [] in
    let one : IsLawful o link old → IsLawful o link run =
    (λ h. lawful_mark o link old mark h (not_written link Initiator mark apart_from) (not_written link Responder mark apart_from)
    (asked_elsewhere o link old mark apart_from) (served_elsewhere o link old mark apart_from) (accepted_elsewhere o link old mark apart_from) (resent_elsewhere o link old mark apart_from)) in
    let rest = same_by o link other run added ne own.1 in
    subst (IsSame o link old) (append_assoc old (mark ∷ []) added) (record {
      lawful = λ h. rest.lawful (one h);
      written = λ h w. rest.written (one h) (record {
        client = same_left o link Initiator old mark apart_from h.client ∙ w.client;
        server = same_left o link Responder old mark apart_from h.server ∙ w.server;
      });
      same_client = rest.same_client ∙ client_elsewhere o link other old (mark ∷ []) ne (own.0, tt);
    })

-- no mark is of the link
pub same_all : (o : LinkParameters) (link : ℕ) (old added : List Mark) → AllByRecursion (λ (mark : Mark). link_of mark ≢ link) added → IsSame o link old (old ++ added)
same_all o link old [] apart = subst (IsSame o link old) (sym (append-nil old)) (record { lawful = λ h. h; written = λ h w. w; same_client = refl })
same_all o link old (mark ∷ added) apart =
    let one = same_by o link (link_of mark) old (mark ∷ []) apart.0 (refl, tt) in
    let rest = same_all o link (old ++ mark ∷ []) added apart.1 in
    subst (IsSame o link old) (append_assoc old (mark ∷ []) added) (record {
      lawful = λ h. rest.lawful (one.lawful h);
      written = λ h w. rest.written (one.lawful h) (one.written h w);
      same_client = rest.same_client ∙ one.same_client;
    })

pub elsewhere : (o : LinkParameters) (link other : ℕ) (old new : List Mark) → other ≢ link → Adds other old new → IsSame o link old new
elsewhere o link other old new ne a = subst (IsSame o link old) (sym a.is) (same_by o link other old a.added ne a.own)

-- ===== what each function of a drill adds

-- the marks that are added are those of one link, and the credentials stay, and so do the pipes of other links and what the links were opened with
pub record Extends (link : ℕ) (old new : Drill) : Type 0 where
  pub marks : Adds link old.marks new.marks
  pub creds : new.creds ≡ old.creds
  pub opened : new.opened ≡ old.opened
  pub last_links : new.last_links ≡ old.last_links
  pub pipes : (other : ℕ) → other - 1 ≢ link - 1 → pipes_of other new ≡ pipes_of other old
  pub room : length new.pipes ≡ length old.pipes

pub all_both : (link : ℕ) (xs ys : List Mark) → AllByRecursion (λ (mark : Mark). link_of mark ≡ link) xs → AllByRecursion (λ (mark : Mark). link_of mark ≡ link) ys →
    AllByRecursion (λ (mark : Mark). link_of mark ≡ link) (xs ++ ys)
all_both link [] ys h g = g
all_both link (x ∷ xs) ys h g = (h.0, all_both link xs ys h.1 g)

pub nothing : (link : ℕ) (d : Drill) → Extends link d d
nothing link d = record { marks = record { added = []; is = sym (append-nil d.marks); own = tt }; creds = refl; opened = refl; last_links = refl; pipes = λ other ne. refl; room = refl }

pub one_mark : (link : ℕ) (mark : Mark) (d : Drill) → link_of mark ≡ link → Extends link d (with_mark mark d)
one_mark link mark d own = record { marks = record { added = mark ∷ []; is = refl; own = (own, tt) }; creds = refl; opened = refl; last_links = refl; pipes = λ other ne. refl; room = refl }

pub both_add : (link : ℕ) (a b c : Drill) → Extends link a b → Extends link b c → Extends link a c
both_add link a b c x y = record {
  marks = record {
    added = x.marks.added ++ y.marks.added;
    is = y.marks.is ∙ ap (λ (run : List Mark). run ++ y.marks.added) x.marks.is ∙ append_assoc a.marks x.marks.added y.marks.added;
    own = all_both link x.marks.added y.marks.added x.marks.own y.marks.own;
  };
  creds = y.creds ∙ x.creds;
  opened = y.opened ∙ x.opened;
  last_links = y.last_links ∙ x.last_links;
  pipes = λ other ne. y.pipes other ne ∙ x.pipes other ne;
  room = y.room ∙ x.room;
}

pub set_pipes : (link : ℕ) (pipes : Pipes) (old new : Drill) → Extends link old new → Extends link old (with_pipes link pipes new)
set_pipes link pipes old new x = record {
  marks = x.marks;
  creds = x.creds;
  opened = x.opened;
  last_links = x.last_links;
  pipes = λ other ne. get_or-set_other new.pipes (link - 1) (other - 1) pipes empty_pipes ne ∙ x.pipes other ne;
  room = length-set new.pipes (link - 1) pipes ∙ x.room;
}

pub output_adds : (link : ℕ) (side : Side) (bytes : List ℕ) (d : Drill) → Extends link d (after_output link side bytes d)
output_adds link side [] d = nothing link d
output_adds link side (b ∷ bytes) d = set_pipes link (appended side (b ∷ bytes) (pipes_of link d)) d (with_mark (marks.Wrote link side (b ∷ bytes)) d) (one_mark link (marks.Wrote link side (b ∷ bytes)) d refl)

pub settled_adds : (s : Setting) (link : ℕ) (d : Drill) → Extends link d (settled s link d)
unfolding settled
settled_adds s link d =
    let up = unwritten (s.opened link) link Initiator d.marks in
    let mid = after_all_output s link Initiator d in
    let down = unwritten (s.opened link) link Responder mid.marks in
    both_add link d mid (after_output link Responder down mid) (output_adds link Initiator up d) (output_adds link Responder down mid)

pub mark_adds : (s : Setting) (link : ℕ) (mark : Mark) (d : Drill) → link_of mark ≡ link → Extends link d (settled s link (with_mark mark d))
mark_adds s link mark d own = both_add link d (with_mark mark d) (settled s link (with_mark mark d)) (one_mark link mark d own) (settled_adds s link (with_mark mark d))

pub feeding_adds : (link : ℕ) (side : Side) (bytes : List ℕ) (rest : Pipes) (d : Drill) → Extends link d (after_feeding link side bytes rest d)
feeding_adds link side [] rest d = nothing link d
feeding_adds link side (b ∷ bytes) rest d = set_pipes link rest d (with_mark (marks.Fed link side (b ∷ bytes)) d) (one_mark link (marks.Fed link side (b ∷ bytes)) d refl)

pub up_adds : (s : Setting) (link n : ℕ) (d : Drill) → Extends link d (after_up s link n d)
unfolding after_up
up_adds s link n d =
    let fed = after_feeding_up link n d in
    both_add link d fed (settled s link fed) (feeding_adds link Responder (take n (pipes_of link d).up) (record (pipes_of link d) { up = drop n (pipes_of link d).up }) d) (settled_adds s link fed)

pub handing_adds : (link : ℕ) (c : Option CompletedCall) (d : Drill) → Extends link d (after_handing link c d)
handing_adds link None d = nothing link d
handing_adds link (Some c) d = one_mark link (marks.Done link c.xid c.outcome) d refl

pub dones_adds : (s : Setting) (link n : ℕ) (d : Drill) → Extends link d (after_dones s link n d)
unfolding after_done
dones_adds s link zero d = nothing link d
dones_adds s link (suc n) d =
    let next = after_done s link d in
    both_add link d next (after_dones s link n next) (handing_adds link (slice_get (outcomes_due (s.opened link) link d.marks) 0) d) (dones_adds s link n next)

resends_own : (link : ℕ) (ws : List WaitingCall) → AllByRecursion (λ (mark : Mark). link_of mark ≡ link) (map (resend_mark link) ws)
resends_own link [] = tt
resends_own link (w ∷ ws) = (refl, resends_own link ws)

pub resends_add : (s : Setting) (link : ℕ) (d : Drill) → Extends link d (after_resends s link d)
unfolding after_resends
resends_add s link d =
    let ws = calls_to_resend (client (s.opened link) link d.marks) in
    record { marks = record { added = map (resend_mark link) ws; is = refl; own = resends_own link ws }; creds = refl; opened = refl; last_links = refl; pipes = λ other ne. refl; room = refl }

pub down_adds : (s : Setting) (link n : ℕ) (d : Drill) → Extends link d (after_down s link n d)
unfolding after_down after_outcomes
down_adds s link n d =
    let fed = after_feeding_down link n d in
    let sent = after_resends s link fed in
    let all = after_outcomes s link sent in
    both_add link d all (settled s link all)
    (both_add link d sent all
    (both_add link d fed sent (feeding_adds link Initiator (take n (pipes_of link d).down) (record (pipes_of link d) { down = drop n (pipes_of link d).down }) d) (resends_add s link fed))
    (dones_adds s link (length (outcomes_due (s.opened link) link sent.marks)) sent))
    (settled_adds s link all)

pub answer_adds : (s : Setting) (link : ℕ) (call : ReadyCall) (answer : Option GivenReply) (d : Drill) → Extends link d (after_answer s link call answer d)
answer_adds s link call None d = nothing link d
answer_adds s link call (Some g) d = mark_adds s link (marks.Execute link call.xid g.moment call.payload g.place g.reply) d refl

pub call_adds : (s : Setting) (link : ℕ) (call : ReadyCall) (is : Standing) (answer : Option GivenReply) (d : Drill) → Extends link d (after_call s link call is answer d)
call_adds s link call (Old top) answer d = mark_adds s link (marks.Told link (told.Old call.xid (last_frame_at link d.marks))) d refl
call_adds s link call (Kept place) answer d = answer_adds s link call answer d
call_adds s link call New answer d = answer_adds s link call answer d

pub execution_adds : (s : Setting) (link : ℕ) (call : Option ReadyCall) (d : Drill) → Extends link d (after_execution s link call d)
execution_adds s link None d = nothing link d
execution_adds s link (Some call) d = call_adds s link call (standing_of s link d call) (reply_given s link d call) d

pub work_adds : (s : Setting) (link : ℕ) (d : Drill) → Extends link d (after_work s link d)
unfolding after_work
work_adds s link d = execution_adds s link (waiting_call s link d.marks) d

pub calls_adds : (s : Setting) (link n : ℕ) (d : Drill) → Extends link d (after_calls s link n d)
calls_adds s link zero d = nothing link d
calls_adds s link (suc n) d = (let next = after_work s link d in both_add link d next (after_calls s link n next) (work_adds s link d) (calls_adds s link n next))

pub moves_adds : (s : Setting) (link : ℕ) (d : Drill) → Extends link d (after_moves s link d)
unfolding after_moves after_all_work
moves_adds s link d =
    let one = after_all_up s link d in
    let two = after_all_work s link one in
    both_add link d two (after_all_down s link two)
    (both_add link d one two (up_adds s link (length (pipes_of link d).up) d) (calls_adds s link (length (server (s.opened link) link one.marks).state.ready) one))
    (down_adds s link (length (pipes_of link two).down) two)

pub submit_adds : (s : Setting) (link : ℕ) (call : Call) (form : Form) (d : Drill) → Extends link d (after_submit s link call form d)
unfolding after_submit
submit_adds s link call form d = mark_adds s link (marks.Submit link call form (submit_answer_after (s.opened link) link d.marks call form)) d refl

pub giving_up_adds : (link : ℕ) (xid : Option ℕ) (d : Drill) → Extends link d (after_giving_up link xid d)
giving_up_adds link None d = nothing link d
giving_up_adds link (Some xid) d = one_mark link (marks.Forget link xid) d refl

pub forget_adds : (s : Setting) (link number : ℕ) (d : Drill) → Extends link d (after_forget s link number d)
unfolding after_forget
forget_adds s link number d = giving_up_adds link (open_xid s link d.marks (answer_of_line s (client_of s link) number d.marks)) d

pub taking_back_adds : (s : Setting) (link : ℕ) (xid : Option ℕ) (d : Drill) → Extends link d (after_taking_back s link xid d)
taking_back_adds s link None d = nothing link d
taking_back_adds s link (Some xid) d = mark_adds s link (marks.Revoke link xid (revoked_bytes (s.opened link) link d.marks xid)) d refl

pub revoke_adds : (s : Setting) (link number : ℕ) (d : Drill) → Extends link d (after_revoke s link number d)
unfolding after_revoke
revoke_adds s link number d = taking_back_adds s link (open_xid s link d.marks (answer_of_line s (client_of s link) number d.marks)) d

pub drop_adds : (link : ℕ) (d : Drill) → Extends link d (after_drop link d)
drop_adds link d = set_pipes link empty_pipes d (with_mark (marks.Drop link) d) (one_mark link (marks.Drop link) d refl)

pub grant_adds : (link credits : ℕ) (d : Drill) → Extends link d (after_grant link credits d)
grant_adds link credits d = one_mark link (marks.Told link (Granted credits)) d refl

pub raw_adds : (link : ℕ) (side : Side) (bytes : List ℕ) (dropped : Bool) (d : Drill) → Extends link d (after_raw link side bytes dropped d)
raw_adds link side bytes true d = nothing link d
raw_adds link side bytes false d = set_pipes link (appended side bytes (pipes_of link d)) d d (nothing link d)

-- ===== a step keeps the laws of every link

-- A function of a drill acts on one link: it keeps the laws of that link, and changes nothing of others.
pub record Acts (s : Setting) (link : ℕ) (old new : Drill) : Type 0 where
  pub own : Keeps s link old → Keeps s link new
  pub extends : Extends link old new

pub keeps_by : (s : Setting) (acted link : ℕ) (old new : Drill) → Acts s acted old new → Keeps s link old → Keeps s link new
keeps_by s acted link old new a h = by (eqb acted link) refl
  where
    by : (b : Bool) → eqb acted link ≡ b → Keeps s link new
    by true is = (let same = eqb-true acted link is in subst (λ (l : ℕ). Keeps s l new) same (a.own (subst (λ (l : ℕ). Keeps s l old) (sym same) h)))
    by false is =
        let others = elsewhere (s.opened link) link acted old.marks new.marks (λ same. differs (sym is ∙ eq-eqb acted link same)) a.extends.marks in
        (others.lawful h.0, others.written h.0 h.1, ap calls_to_resend others.same_client ∙ h.2)
      where
        differs : false ≡ true → ⊥
        differs e = absurd cc

-- a mark for which nothing is due
pub quiet_mark : (o : LinkParameters) (link : ℕ) (run : List Mark) (mark : Mark) → IsLawful o link run → IsWritten o link run → written_at link Initiator mark ≡ [] → written_at link Responder mark ≡ [] →
    more_due o link Initiator run mark ≡ [] → more_due o link Responder run mark ≡ [] → IsWritten o link (run ++ mark ∷ [])
quiet_mark o link run mark h w up down none_up none_down = record {
  client = left_is o link Initiator (run ++ mark ∷ []) (unwritten o link Initiator run ++ more_due o link Initiator run mark) (due_more o link Initiator run mark up h.client)
      ∙ ap (λ (xs : List ℕ). xs ++ more_due o link Initiator run mark) w.client ∙ none_up;
  server = left_is o link Responder (run ++ mark ∷ []) (unwritten o link Responder run ++ more_due o link Responder run mark) (due_more o link Responder run mark down h.server)
      ∙ ap (λ (xs : List ℕ). xs ++ more_due o link Responder run mark) w.server ∙ none_down;
}

pub keeps_drop : (s : Setting) (link : ℕ) (d : Drill) → Keeps s link d → Keeps s link (after_drop link d)
keeps_drop s link d h = (lawful_drop s link d h.0, quiet_mark (s.opened link) link d.marks (marks.Drop link) h.0 h.1 refl refl refl refl, again_mark (s.opened link) link d.marks (marks.Drop link) tt h.2)

pub keeps_grant : (s : Setting) (link credits : ℕ) (d : Drill) → ToldInRange (s.opened link) (Granted credits) → Keeps s link d → Keeps s link (after_grant link credits d)
keeps_grant s link credits d within h = (
  lawful_grant s link credits d within h.0,
  quiet_mark (s.opened link) link d.marks (marks.Told link (Granted credits)) h.0 h.1 refl refl (quiet_grant (s.opened link) link Initiator d.marks credits) (quiet_grant (s.opened link) link Responder d.marks credits),
  again_mark (s.opened link) link d.marks (marks.Told link (Granted credits)) (other_side_lem (eqb link link) _) h.2,
)

pub keeps_giving_up : (s : Setting) (link : ℕ) (xid : Option ℕ) (d : Drill) → Keeps s link d → IsWritten (s.opened link) link (after_giving_up link xid d).marks
keeps_giving_up s link None d h = h.1
keeps_giving_up s link (Some xid) d h = quiet_mark (s.opened link) link d.marks (marks.Forget link xid) h.0 h.1 refl refl refl refl

giving_up_none : (s : Setting) (link : ℕ) (xid : Option ℕ) (d : Drill) → Keeps s link d → NoneAgain (s.opened link) link (after_giving_up link xid d).marks
giving_up_none s link None d h = h.2
giving_up_none s link (Some xid) d h = again_mark (s.opened link) link d.marks (marks.Forget link xid) tt h.2

pub keeps_forget : (s : Setting) (link number : ℕ) (d : Drill) → OpenIsAwaited s link d → Keeps s link d → Keeps s link (after_forget s link number d)
unfolding after_forget
keeps_forget s link number d awaited h =
    let xid = open_xid s link d.marks (answer_of_line s (client_of s link) number d.marks) in
    (lawful_forget s link number d awaited h.2 h.0, keeps_giving_up s link xid d h, giving_up_none s link xid d h)

pub keeps_raw : (s : Setting) (link : ℕ) (side : Side) (bytes : List ℕ) (dropped : Bool) (d : Drill) → Keeps s link d → Keeps s link (after_raw link side bytes dropped d)
keeps_raw s link side bytes true d h = h
keeps_raw s link side bytes false d h = h

-- ===== credentials

abbrev pub AreWritable : List Cred → Type 0
AreWritable creds = AllByRecursion CanWriteCred creds

pub cred_at : (all : List Cred) (i : ℕ) → AreWritable all → CanWriteCred (slice_index_or all i creds.None)
cred_at [] i h = tt
cred_at (c ∷ all) zero h = h.0
cred_at (c ∷ all) (suc i) h = cred_at all i h.1

pub with_cred_at : (all : List Cred) (i : ℕ) (cred : Cred) → AreWritable all → CanWriteCred cred → AreWritable (slice_set all i cred)
with_cred_at [] i cred h w = tt
with_cred_at (c ∷ all) zero cred h w = (w, h.1)
with_cred_at (c ∷ all) (suc i) cred h w = (h.0, with_cred_at all i cred h.1 w)

pub start_creds : (clients : ℕ) → AreWritable (replicate clients creds.None)
start_creds zero = tt
start_creds (suc n) = (tt, start_creds n)

-- ===== what the links were opened with

pub record KeepsLinks (old new : Drill) : Type 0 where
  pub opened : new.opened ≡ old.opened
  pub last_links : new.last_links ≡ old.last_links

pub extending_keeps : (link : ℕ) (old new : Drill) → Extends link old new → KeepsLinks old new
extending_keeps link old new x = record { opened = x.opened; last_links = x.last_links }

pub same_setting : (s : Setting) (old new : Drill) → KeepsLinks old new → setting_now s new ≡ setting_now s old
same_setting s old new k = ap (λ (all : List LinkParameters). record s { opened = λ link. slice_index_or (s.opened 0 ∷ all) link (s.opened link) }) k.opened

pub opened_by_script : (script : ScriptLines) → IsScript script → (link : ℕ) → IsOpened (parameters_of script.opening link)
opened_by_script script is link =
    let some = is.some_credits in
    let few = is.few_credits in
    record {
      xid = omega arith;
      xid_fits = omega arith;
      stag = omega arith;
      stag_fits = omega arith;
      resumed = omega arith;
      wished = omega (arith, some);
      wished_fits = few;
      granted = omega (arith, some);
      granted_fits = few;
      receives = omega arith;
    }

-- ===== a link opens

pub opening_adds : (s : Setting) (link : ℕ) (d : Drill) → Extends link d (after_opening s link d)
unfolding after_opening
opening_adds s link d =
    let one = settled s link d in
    let two = after_all_up s link one in
    both_add link d two (after_all_down s link two)
    (both_add link d one two (settled_adds s link d) (up_adds s link (length (pipes_of link one).up) one))
    (down_adds s link (length (pipes_of link two).down) two)

-- a link that opens keeps its laws
pub opening_keeps : (s : Setting) (link : ℕ) (d : Drill) → IsOpened (s.opened link) → NoneAgain (s.opened link) link d.marks → IsLawful (s.opened link) link d.marks → Keeps s link (after_opening s link d)
unfolding after_opening
opening_keeps s link d numbers none h =
    let one = settled s link d in
    let two = after_all_up s link one in
    lawful_after_down s link (length (pipes_of link two).down) two numbers (lawful_after_up s link (length (pipes_of link one).up) one (lawful_settled s link d none h))

-- ===== before anything happened

pub start_lawful : (o : LinkParameters) (link : ℕ) → IsLawful o link []
unfolding bytes_sent
start_lawful o link = record {
  asked = tt;
  served = tt;
  accepts = tt;
  client = due_of o link Initiator [] (output_due o link Initiator []) refl;
  server = due_of o link Responder [] (output_due o link Responder []) refl;
  resent = tt;
}

-- no hello came yet
pub start_none : (o : LinkParameters) (link : ℕ) → NoneAgain o link []
unfolding client events calls_to_resend
start_none o link = refl

-- ===== the laws

pub all_written : (sent left due : List ℕ) → sent ++ left ≡ due → left ≡ [] → sent ≡ due
all_written sent left due is none = sym (append-nil sent) ∙ ap (λ (xs : List ℕ). sent ++ xs) (sym none) ∙ is

-- the laws of both ends of a link
pub record KeepsAll (o : LinkParameters) (link : ℕ) (run : List Mark) : Type 0 where
  pub asked : Asked o link run
  pub served : Served o link run
  pub accepts : AcceptsByRule o link run

pub laws_of : (o : LinkParameters) (link : ℕ) (run : List Mark) → IsLawful o link run → IsWritten o link run → NoneAgain o link run → KeepsAll o link run
laws_of o link run h w none = record {
  asked = record {
    each = h.asked;
    written = all_written (bytes_sent link Initiator run) (unwritten o link Initiator run) (output_due o link Initiator run) h.client w.client;
    resent = h.resent;
    none_left = none;
  };
  served = record { each = h.served; written = all_written (bytes_sent link Responder run) (unwritten o link Responder run) (output_due o link Responder run) h.server w.server };
  accepts = h.accepts;
}
