-- A call that is executed, or found old.
use Rattle.std.specs.Prelude.{slice_get, is_some, IfSome, MatchOption, Result, unwrap_or}
use Rattle.std.proofs.Common.{◌≡◌, ◌≢◌, ℕ, Bool, true, false, List, [], ◌∷◌, ◌++◌, length, take, drop, Option, None, Some, inl, refl, ap, sym, subst, ◌∙◌, append-nil}
use Rattle.nr_xdr.specs.Item.{IsBytes}
use Rattle.nr_wire.specs.declared.hello.Side.TheVariants.{Initiator, Responder}
use Rattle.nr_outside.specs.declared.moment.Moment.{Moment}
use Rattle.nr_rpc.specs.declared.head.CallHead.{CallHead}
use Rattle.nr_rpc.specs.Reading.{xid_of_call}
use Rattle.nr_link.specs.Frames.{frames_of}
use Rattle.nr_reduce.specs.declared.mark.LinkParameters.{LinkParameters}
use Rattle.nr_reduce.specs.declared.mark.Mark.{Mark}
use Rattle.nr_reduce.specs.declared.mark.TaggedEntry.{TaggedEntry}
use Rattle.nr_reduce.specs.History.{bytes_received, is_dropped}
use Rattle.nr_reduce.specs.NumberedJournal.{IsExecutedBy, IsOld, IsReplyOf, Standing, call_of_entry, entries_alone, number_heard, standing_for}
use Rattle.nr_reduce.specs.NumberedJournal.Standing.{Old, Kept, New}
use Rattle.nr_reduce.specs.PlainJournal.{PlainServer}
use Rattle.nr_reduce.specs.ServerState.{ReadyCall}
use Rattle.nr_reduce.specs.Served.{next_call, last_frame_at, IsExecuted}
use Rattle.nr_reduce.proofs.Calls.{executed_head}
use Rattle.nr_responder.specs.ResponderState.{ResponderSide, end_of}
use Rattle.nr_responder.specs.Sound.{IsNext}
use Rattle.nr_responder.specs.Standing.{ResponderRepresents}
use Rattle.nr_plain.specs.History.{xid_in}
use Rattle.nr_plain.specs.Replies.{plain_reply}
use Rattle.nr_plain.specs.ReplyLaws.{plain_server}
use Rattle.nr_plain.specs.Setup.{Setup}
use Rattle.nr_drill.specs.Drill.{Setting, Drill, GivenReply, given, kept_reply, reply_by, journal_of, standing_of, reply_given, with_mark, now, settled, if_standing, waiting_call, after_call, after_execution, after_work}
use Rattle.nr_drill.specs.DrillSetup.{server_of}
use Rattle.nr_drill.specs.InBytes.{RepliedInBytes}
use Rattle.nr_world.specs.declared.server.Execution.{Execution}
use Rattle.nr_world.specs.DrillLinkState.{DrillLinkState}
use Rattle.nr_world.specs.DrillServers.{DrillServerState, ExecutesCall, ExecutesFor, FindsOld, StandsForEntries, at_second}
use Rattle.nr_world.specs.LinkStands.{LinkStands}
use Rattle.nr_world.specs.Steps.{Goes, StandsAt, Works, Executes, ExecutedAt, ServerStands, journal_over, setting_over}
use Rattle.nr_world.specs.private.Working.{AnswersWith, TellsOld}
use Rattle.nr_world.proofs.Ends.{represents_of}
use Rattle.nr_world.proofs.JournalSteps.{added_now, stands_on, stays}
use Rattle.nr_world.proofs.Requesters.{others_leave}
use Rattle.nr_world.proofs.SameServer.{settled_leaves}
use Rattle.nr_world.proofs.Standing.{IsPlain, EndsStand, plain_mark, replied_one}
use Rattle.nr_world.proofs.Writes.{not_own, one_more_mark}
use Rattle.nr_link.specs.declared.end.End.TheVariants as ends
use Rattle.nr_reduce.specs.declared.mark.Mark.TheVariants as marks
use Rattle.nr_reduce.specs.declared.mark.Told.TheVariants as told

-- what the responder says of its next call, and of its client
abbrev pub HasPayload : ResponderSide → ℕ → List ℕ → Type 0
HasPayload v xid payload = (opened : LinkParameters) (link : ℕ) (run : List Mark) → ResponderRepresents opened link run v → IsExecuted opened link run xid payload

abbrev pub HeardClient : ResponderSide → ℕ → Type 0
HeardClient v client = (opened : LinkParameters) (link : ℕ) (run : List Mark) → ResponderRepresents opened link run v → (client ≡ number_heard run link) × (frames_of Initiator (bytes_received link Responder run) ≢ [])

-- the xid of a call is that of its payload
own_xid : (opened : LinkParameters) (link : ℕ) (run : List Mark) (xid : ℕ) (payload : List ℕ) → IsExecuted opened link run xid payload → xid ≡ xid_in payload
own_xid opened link run xid payload x =
    let head = executed_head opened link run xid payload x in
    sym (ap (λ (r : Result CallHead ℕ). unwrap_or (xid_of_call r) 0) head.1.0 ∙ head.1.1)

waits_is : (s : Setting) (link : ℕ) (run : List Mark) (call : ReadyCall) → is_dropped link run ≡ false → next_call (s.opened link) link run ≡ Some call → waiting_call s link run ≡ Some call
unfolding waiting_call
waits_is s link run call stands next = ap (λ (b : Bool). if_standing b (next_call (s.opened link) link run)) stands ∙ next

-- ---- What a drill gives to a call that is executed so

cut_take : (earlier later : List TaggedEntry) → take (length earlier) (earlier ++ later) ≡ earlier
cut_take [] later = refl
cut_take (t ∷ earlier) later = ap (λ (es : List TaggedEntry). t ∷ es) (cut_take earlier later)

cut_drop : (earlier later : List TaggedEntry) → drop (length earlier) (earlier ++ later) ≡ later
cut_drop [] later = refl
cut_drop (t ∷ earlier) later = cut_drop earlier later

given_kept : (setup : Setup) (T : List TaggedEntry) (at place : ℕ) (moment : Moment) (reply : List ℕ) → place ≡ at → IsReplyOf (plain_server setup) T place moment reply →
    kept_reply (server_of setup) at (take at T) (drop at T) ≡ Some (record { moment = moment; place = place; reply = reply })
given_kept setup T at place moment reply same r =
    let own : at ≡ length r.earlier = sym same ∙ r.is_place in
    let before : take at T ≡ r.earlier = (λ i. take (own i) (r.is_cut i)) ∙ cut_take r.earlier (r.own ∷ r.later) in
    let rest : drop at T ≡ r.own ∷ r.later = (λ i. drop (own i) (r.is_cut i)) ∙ cut_drop r.earlier (r.own ∷ r.later) in
    (λ i. kept_reply (server_of setup) at (before i) (rest i))
    ∙ (λ i. given (sym r.moment_is i) (sym same i) (plain_reply setup (entries_alone r.earlier) (length (entries_alone r.earlier)) (sym r.moment_is i) (call_of_entry r.own.xid r.own.entry)))
    ∙ ap (λ (g : Option (List ℕ)). given moment place g) r.replied

given_as : (setup : Setup) (T : List TaggedEntry) (now_is moment : Moment) (payload : List ℕ) (place : ℕ) (reply : List ℕ) (is : Standing) → IsExecutedBy (plain_server setup) T is moment payload place reply → (is ≡ New → moment ≡ now_is) →
    reply_by (server_of setup) T now_is payload is ≡ Some (record { moment = moment; place = place; reply = reply })
given_as setup T now_is moment payload place reply (Old top) x same = absurd x
given_as setup T now_is moment payload place reply (Kept at) x same = given_kept setup T at place moment reply x.0 x.1
given_as setup T now_is moment payload place reply New x same =
    (λ i. given (sym (same refl) i) (sym x.0 i) (plain_reply setup (entries_alone T) (length (entries_alone T)) (sym (same refl) i) payload))
    ∙ ap (λ (g : Option (List ℕ)). given moment place g) x.1

called_as : (s : Setting) (link : ℕ) (d : Drill) (call : ReadyCall) (plain : PlainServer) (T : List TaggedEntry) (moment : Moment) (payload : List ℕ) (place : ℕ) (reply : List ℕ) (is : Standing) → IsExecutedBy plain T is moment payload place reply →
    after_call s link call is (Some (record { moment = moment; place = place; reply = reply })) d ≡ settled s link (with_mark (marks.Execute link call.xid moment call.payload place reply) d)
called_as s link d call plain T moment payload place reply (Old top) x = absurd x
called_as s link d call plain T moment payload place reply (Kept at) x = refl
called_as s link d call plain T moment payload place reply New x = refl

-- a step of the drill, by the call that waits
work_is : (setup : Setup) (opened : ℕ → LinkParameters) (link : ℕ) (d : Drill) (call : ReadyCall) (moment : Moment) (place : ℕ) (reply : List ℕ) → waiting_call (setting_over setup opened) link d.marks ≡ Some call →
    IsExecutedBy (plain_server setup) (journal_over setup d.marks) (standing_for (journal_over setup d.marks) (number_heard d.marks link) call.xid) moment call.payload place reply →
    (standing_for (journal_over setup d.marks) (number_heard d.marks link) call.xid ≡ New → moment ≡ now d) →
    after_work (setting_over setup opened) link d ≡ settled (setting_over setup opened) link (with_mark (marks.Execute link call.xid moment call.payload place reply) d)
unfolding after_work standing_of reply_given journal_of
work_is setup opened link d call moment place reply waits executed same =
    let s : Setting = setting_over setup opened in
    let T : List TaggedEntry = journal_over setup d.marks in
    let is : Standing = standing_for T (number_heard d.marks link) call.xid in
    ap (λ (c : Option ReadyCall). after_execution s link c d) waits
    ∙ ap (λ (g : Option GivenReply). after_call s link call is g d) (given_as setup T (now d) moment call.payload place reply is executed same)
    ∙ called_as s link d call (plain_server setup) T moment call.payload place reply is executed

plain_execute : (link xid : ℕ) (moment : Moment) (payload : List ℕ) (place : ℕ) (reply : List ℕ) → IsBytes reply → IsPlain link (marks.Execute link xid moment payload place reply)
plain_execute link xid moment payload place reply bytes = record { drops = refl; answer = λ s. refl; settle = λ s x. refl; accepts = refl; kept = λ x. refl; replied = λ before. bytes }

pub executes : (seconds : ℕ) (v v2 : DrillLinkState) (run run2 : List Mark) (kept kept2 : DrillServerState) (xid client : ℕ) (payload : List ℕ) (e : Execution) → v.is_dropped ≡ false → HasPayload v.server xid payload → HeardClient v.server client →
    ExecutesCall client seconds payload e kept kept2 → AnswersWith xid payload e v v2 run run2 → Executes seconds v v2 run run2 kept kept2
executes seconds v v2 run run2 kept kept2 xid client payload e stands has heard served a setup opened link d second stood at =
    let h = at.stands in
    let s : Setting = setting_over setup opened in
    let o : LinkParameters = opened link in
    let T : List TaggedEntry = journal_over setup d.marks in
    let moment : Moment = at_second e.second in
    let mark : Mark = marks.Execute link xid moment payload e.place e.reply in
    let ex : IsExecuted o link d.marks xid payload = has o link d.marks (inl h.server) in
    let hears = heard o link d.marks (inl h.server) in
    let own : xid ≡ xid_in payload = own_xid o link d.marks xid payload ex in
    let x : ExecutesFor setup T client seconds payload e kept2 = served.2 setup T stood.entries in
    let same : standing_for T client (xid_in payload) ≡ standing_for T (number_heard d.marks link) ex.call.xid = (λ i. standing_for T (hears.0 i) ((sym own ∙ ex.own) i)) in
    let executed : IsExecutedBy (plain_server setup) T (standing_for T (number_heard d.marks link) ex.call.xid) moment ex.call.payload e.place e.reply =
    subst (λ (p : List ℕ). IsExecutedBy (plain_server setup) T (standing_for T (number_heard d.marks link) ex.call.xid) moment p e.place e.reply) ex.conveyed
    (subst (λ (is : Standing). IsExecutedBy (plain_server setup) T is moment payload e.place e.reply) same x.executed) in
    let waits : waiting_call s link d.marks ≡ Some ex.call = waits_is s link d.marks ex.call (sym h.dropped ∙ stands) ex.is_next in
    let both : EndsStand s link (d.marks ++ mark ∷ []) v.client a.server = record {
      client = others_leave o link v.client d.marks mark h.client (not_own link _) refl refl (λ x. refl);
      server = represents_of o link (d.marks ++ mark ∷ []) a.server (lives_on a.server a.live) (a.stands o link d.marks moment payload e.place (inl h.server) ex);
      client_memory = h.client_memory;
      server_memory = lives_on a.server a.live;
    } in
    record {
      next = with_mark mark d;
      work = work_is setup opened link d ex.call moment e.place e.reply waits executed (λ new. ap at_second (x.moment_is (same ∙ new) ∙ sym second))
          ∙ (λ i. settled s link (with_mark (marks.Execute link (sym ex.own i) moment (sym ex.conveyed i) e.place e.reply) d));
      stands = record {
        stands = subst (λ (y : DrillLinkState). LinkStands s link (with_mark mark d) y) (sym a.link_is) (plain_mark s link d v v.client a.server mark (plain_execute link xid moment payload e.place e.reply served.0) h both);
        marks = one_more_mark v.number link (λ (l : ℕ). marks.Execute l xid moment payload e.place e.reply) run run2 d.marks h.number at.marks a.marks_are;
        replies = subst RepliedInBytes (sym a.marks_are) (replied_one run (marks.Execute v.number xid moment payload e.place e.reply) (λ before. served.0) at.replies);
      };
      server = stands_on setup d mark kept kept2 stood hears.1
          (subst (λ (es : List TaggedEntry). StandsForEntries setup (T ++ es) kept2) (sym (added_now setup d.marks link client seconds xid payload e hears.0 hears.1 own x.moment_is)) x.stands);
    }
  where
    lives_on : (side : ResponderSide) → end_of side ≡ None → end_of side ≢ Some ends.Memory
    lives_on side live e = absurd (let no = sym live ∙ e in cc)

-- ---- A call that is old

old_as : (s : Setting) (link : ℕ) (d : Drill) (call : ReadyCall) (is : Standing) (answer : Option GivenReply) → IsOld is →
    after_call s link call is answer d ≡ settled s link (with_mark (marks.Told link (told.Old call.xid (last_frame_at link d.marks))) d)
old_as s link d call (Old top) answer old = refl
old_as s link d call (Kept place) answer old = absurd old
old_as s link d call New answer old = absurd old

old_work : (setup : Setup) (opened : ℕ → LinkParameters) (link : ℕ) (d : Drill) (call : ReadyCall) → waiting_call (setting_over setup opened) link d.marks ≡ Some call →
    IsOld (standing_for (journal_over setup d.marks) (number_heard d.marks link) call.xid) →
    after_work (setting_over setup opened) link d ≡ settled (setting_over setup opened) link (with_mark (marks.Told link (told.Old call.xid (last_frame_at link d.marks))) d)
unfolding after_work standing_of journal_of
old_work setup opened link d call waits old =
    let s : Setting = setting_over setup opened in
    ap (λ (c : Option ReadyCall). after_execution s link c d) waits
    ∙ old_as s link d call (standing_for (journal_over setup d.marks) (number_heard d.marks link) call.xid) (reply_given s link d call) old

plain_old : (link xid at : ℕ) → IsPlain link (marks.Told link (told.Old xid at))
plain_old link xid at = record { drops = refl; answer = λ s. refl; settle = λ s x. refl; accepts = refl; kept = λ x. refl; replied = λ before. tt }

pub tells_old : (seconds : ℕ) (v v2 : DrillLinkState) (run run2 : List Mark) (kept kept2 : DrillServerState) (xid client : ℕ) (payload : List ℕ) → v.is_dropped ≡ false → HasPayload v.server xid payload → HeardClient v.server client →
    FindsOld client payload kept kept2 → TellsOld xid v v2 run run2 → Executes seconds v v2 run run2 kept kept2
tells_old seconds v v2 run run2 kept kept2 xid client payload stands has heard served a setup opened link d second stood at =
    let h = at.stands in
    let s : Setting = setting_over setup opened in
    let o : LinkParameters = opened link in
    let T : List TaggedEntry = journal_over setup d.marks in
    let last : ℕ = last_frame_at link d.marks in
    let mark : Mark = marks.Told link (told.Old xid last) in
    let ex : IsExecuted o link d.marks xid payload = has o link d.marks (inl h.server) in
    let hears = heard o link d.marks (inl h.server) in
    let own : xid ≡ xid_in payload = own_xid o link d.marks xid payload ex in
    let old : IsOld (standing_for T (number_heard d.marks link) ex.call.xid) = subst IsOld (λ i. standing_for T (hears.0 i) ((sym own ∙ ex.own) i)) (served.1 setup T stood.entries) in
    let waits : waiting_call s link d.marks ≡ Some ex.call = waits_is s link d.marks ex.call (sym h.dropped ∙ stands) ex.is_next in
    let at_last : a.at ≡ last = a.last o link d.marks (inl h.server) in
    let more : run2 ≡ run ++ marks.Told v.number (told.Old xid last) ∷ [] = a.marks_are ∙ ap (λ (n : ℕ). run ++ marks.Told v.number (told.Old xid n) ∷ []) at_last in
    let both : EndsStand s link (d.marks ++ mark ∷ []) v.client a.server = record {
      client = others_leave o link v.client d.marks mark h.client (not_own link _) refl refl (λ x. refl);
      server = represents_of o link (d.marks ++ mark ∷ []) a.server a.has_memory (a.stands o link d.marks xid (inl h.server));
      client_memory = h.client_memory;
      server_memory = a.has_memory;
    } in
    record {
      next = with_mark mark d;
      work = old_work setup opened link d ex.call waits old ∙ (λ i. settled s link (with_mark (marks.Told link (told.Old (sym ex.own i) last)) d));
      stands = record {
        stands = subst (λ (y : DrillLinkState). LinkStands s link (with_mark mark d) y) (sym a.link_is) (plain_mark s link d v v.client a.server mark (plain_old link xid last) h both);
        marks = one_more_mark v.number link (λ (l : ℕ). marks.Told l (told.Old xid last)) run run2 d.marks h.number at.marks more;
        replies = subst RepliedInBytes (sym more) (replied_one run (marks.Told v.number (told.Old xid last)) (λ before. tt) at.replies);
      };
      server = stands_on setup d mark kept kept2 stood hears.1 (subst (λ (k : DrillServerState). StandsForEntries setup (T ++ []) k) (sym served.0) (subst (λ (es : List TaggedEntry). StandsForEntries setup es kept) (sym (append-nil T)) stood.entries));
    }

-- ---- Then the answer, or why the server ended, is written

pub works_then : (seconds : ℕ) (v v1 v2 : DrillLinkState) (run run1 run2 : List Mark) (kept kept1 : DrillServerState) → Executes seconds v v1 run run1 kept kept1 → Goes settled v1 v2 run1 run2 →
    Works after_work seconds v v2 run run2 kept kept1
works_then seconds v v1 v2 run run1 run2 kept kept1 executed writes setup opened link d second stood at =
    let s : Setting = setting_over setup opened in
    let x : ExecutedAt setup s link d v1 run1 kept1 = executed setup opened link d second stood at in (
      subst (λ (y : Drill). StandsAt s link y v2 run2) (sym x.work) (writes s link x.next x.stands),
      subst (λ (y : Drill). ServerStands setup y kept1) (sym x.work) (stays setup x.next (settled s link x.next) kept1 (settled_leaves s link x.next) x.server),
    )

-- ---- No call waits

nothing_to_do : (s : Setting) (link : ℕ) (d : Drill) → waiting_call s link d.marks ≡ None → after_work s link d ≡ d
unfolding after_work
nothing_to_do s link d none = ap (λ (c : Option ReadyCall). after_execution s link c d) none

pub works_none : (seconds : ℕ) (v : DrillLinkState) (run : List Mark) (kept : DrillServerState) → ((s : Setting) (link : ℕ) (d : Drill) → LinkStands s link d v → waiting_call s link d.marks ≡ None) →
    Works after_work seconds v v run run kept kept
works_none seconds v run kept none setup opened link d second stood at =
    let s : Setting = setting_over setup opened in
    let same : after_work s link d ≡ d = nothing_to_do s link d (none s link d at.stands) in (
      subst (λ (y : Drill). StandsAt s link y v run) (sym same) at,
      subst (λ (y : Drill). ServerStands setup y kept) (sym same) stood,
    )

pub none_dropped : (v : DrillLinkState) → v.is_dropped ≡ true → (s : Setting) (link : ℕ) (d : Drill) → LinkStands s link d v → waiting_call s link d.marks ≡ None
unfolding waiting_call
none_dropped v gone s link d h = ap (λ (b : Bool). if_standing b (next_call (s.opened link) link d.marks)) (sym h.dropped ∙ gone)

if_none : (b : Bool) → if_standing {A = ReadyCall} b None ≡ None
if_none true = refl
if_none false = refl

pub none_ready : (v : DrillLinkState) → (end_of v.server ≢ Some ends.Memory → (o : LinkParameters) (link : ℕ) (run : List Mark) → ResponderRepresents o link run v.server → next_call o link run ≡ None) →
    (s : Setting) (link : ℕ) (d : Drill) → LinkStands s link d v → waiting_call s link d.marks ≡ None
unfolding waiting_call
none_ready v none s link d h =
    ap (λ (c : Option ReadyCall). if_standing (is_dropped link d.marks) c) (none h.server_memory (s.opened link) link d.marks (inl h.server)) ∙ if_none (is_dropped link d.marks)

-- ---- As the code has it

-- a call that is next is ready
some_ready : (v : ResponderSide) (xid : ℕ) → IsNext v xid → v.ready ≢ []
some_ready v xid next none = absurd (let no = ap (λ (xs : List ℕ). slice_get xs 0) (sym none) ∙ next in cc)

-- what the responder says of its client, if the next call is this
pub heard_client : (v : ResponderSide) (xid client : ℕ) → end_of v ≡ None → IsNext v xid → (end_of v ≡ None → (opened : LinkParameters) (link : ℕ) (run : List Mark) → ResponderRepresents opened link run v → client ≡ number_heard run link) →
    (end_of v ≡ None → v.ready ≢ [] → (opened : LinkParameters) (link : ℕ) (run : List Mark) → ResponderRepresents opened link run v → frames_of Initiator (bytes_received link Responder run) ≢ []) → HeardClient v client
heard_client v xid client live next number heard opened link run stands = (number live opened link run stands, heard live (some_ready v xid next) opened link run stands)

-- the code copies the payload: `given` is the copy as a slice
pub executes_code : (seconds : ℕ) (v h v2 : DrillLinkState) (run run2 : List Mark) (kept kept2 : DrillServerState) (xid client : ℕ) (conveyed payload given : List ℕ) (e : Execution) → v ≡ h → h.is_dropped ≡ false → HasPayload v.server xid conveyed → payload ≡ conveyed →
    given ≡ payload → HeardClient v.server client → ExecutesCall client seconds given e kept kept2 → AnswersWith xid payload e h v2 run run2 → Executes seconds h v2 run run2 kept kept2
executes_code seconds v h v2 run run2 kept kept2 xid client conveyed payload given e is stands has copied shows heard served a =
    executes seconds h v2 run run2 kept kept2 xid client payload e stands
    (subst (λ (x : DrillLinkState). HasPayload x.server xid payload) is (subst (λ (xs : List ℕ). HasPayload v.server xid xs) (sym copied) has))
    (subst (λ (x : DrillLinkState). HeardClient x.server client) is heard) (subst (λ (xs : List ℕ). ExecutesCall client seconds xs e kept kept2) shows served) a

pub old_code : (seconds : ℕ) (v h v2 : DrillLinkState) (run run2 : List Mark) (kept kept2 : DrillServerState) (xid client : ℕ) (conveyed payload given : List ℕ) → v ≡ h → h.is_dropped ≡ false → HasPayload v.server xid conveyed → payload ≡ conveyed →
    given ≡ payload → HeardClient v.server client → FindsOld client given kept kept2 → TellsOld xid h v2 run run2 → Executes seconds h v2 run run2 kept kept2
old_code seconds v h v2 run run2 kept kept2 xid client conveyed payload given is stands has copied shows heard old a =
    tells_old seconds h v2 run run2 kept kept2 xid client payload stands
    (subst (λ (x : DrillLinkState). HasPayload x.server xid payload) is (subst (λ (xs : List ℕ). HasPayload v.server xid xs) (sym copied) has))
    (subst (λ (x : DrillLinkState). HeardClient x.server client) is heard) (subst (λ (xs : List ℕ). FindsOld client xs kept kept2) shows old) a

pub works_view : (v h : DrillLinkState) (seconds : ℕ) (run : List Mark) (kept : DrillServerState) → v ≡ h → Works after_work seconds v v run run kept kept → Works after_work seconds h h run run kept kept
works_view v h seconds run kept is works = subst (λ (x : DrillLinkState). Works after_work seconds x x run run kept kept) is works

-- what the responder's answer None says
pub none_waits : (side : ResponderSide) (answer : Option ℕ) → answer ≡ None →
    (end_of side ≢ Some ends.Memory → (o : LinkParameters) (link : ℕ) (run : List Mark) → ResponderRepresents o link run side →
    MatchOption answer (next_call o link run ≡ None) (λ xid. IfSome (next_call o link run) (λ r. xid ≡ r.xid) × (is_some (next_call o link run) ≡ true))) →
    end_of side ≢ Some ends.Memory → (o : LinkParameters) (link : ℕ) (run : List Mark) → ResponderRepresents o link run side → next_call o link run ≡ None
none_waits side answer is exact live o link run stands =
    subst (λ (x : Option ℕ). MatchOption x (next_call o link run ≡ None) (λ xid. IfSome (next_call o link run) (λ r. xid ≡ r.xid) × (is_some (next_call o link run) ≡ true))) is (exact live o link run stands)

pub works_gone : (seconds : ℕ) (v h : DrillLinkState) (run : List Mark) (kept : DrillServerState) → v ≡ h → v.is_dropped ≡ true → Works after_work seconds h h run run kept kept
works_gone seconds v h run kept is gone = works_view v h seconds run kept is (works_none seconds v run kept (none_dropped v gone))

pub works_idle : (seconds : ℕ) (v h : DrillLinkState) (run : List Mark) (kept : DrillServerState) (answer : Option ℕ) → v ≡ h → answer ≡ None →
    (end_of v.server ≢ Some ends.Memory → (o : LinkParameters) (link : ℕ) (run : List Mark) → ResponderRepresents o link run v.server →
    MatchOption answer (next_call o link run ≡ None) (λ xid. IfSome (next_call o link run) (λ r. xid ≡ r.xid) × (is_some (next_call o link run) ≡ true))) →
    Works after_work seconds h h run run kept kept
works_idle seconds v h run kept answer is none exact = works_view v h seconds run kept is (works_none seconds v run kept (none_ready v (none_waits v.server answer none exact)))
