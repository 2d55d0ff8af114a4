-- The run of a drill is of its types: what its script says is, and so are the replies with which calls are executed.
use Rattle.std.specs.Prelude.{◌-◌, slice_get, slice_index_or, slice_set, replicate}
use Rattle.std.specs.List.{AllByRecursion}
use Rattle.std.proofs.Common.{◌≡◌, ℕ, zero, suc, ◌+◌, ◌^◌, ◌<◌, Bool, true, false, List, [], ◌∷◌, ◌++◌, length, map, take, drop, Option, None, Some, ◌⊎◌, inl, inr, refl, sym, subst, append_assoc, append-nil}
use Rattle.nr_xdr.specs.Item.{IsBytes}
use Rattle.nr_xdr.proofs.WordBytes.{IsBytes_take, IsBytes_drop}
use Rattle.nr_wire.specs.declared.hello.Side.{Side}
use Rattle.nr_wire.specs.declared.hello.Side.TheVariants.{Initiator, Responder}
use Rattle.nr_rpc.specs.declared.cred.Cred.{Cred}
use Rattle.nr_rpc.specs.declared.cred.Cred.TheVariants as creds
use Rattle.nr_rpc.specs.Credential.{CredFits}
use Rattle.nr_reduce.specs.declared.call.Call.{Call}
use Rattle.nr_reduce.specs.declared.call.Form.{Form}
use Rattle.nr_reduce.specs.declared.call.Submission.{Submission}
use Rattle.nr_reduce.specs.declared.call.Submission.TheVariants as submissions
use Rattle.nr_reduce.specs.declared.mark.Mark.{Mark}
use Rattle.nr_reduce.specs.declared.mark.Mark.TheVariants as marks
use Rattle.nr_reduce.specs.declared.mark.Told.TheVariants.{Granted}
use Rattle.nr_reduce.specs.declared.mark.Told.TheVariants as told
use Rattle.nr_reduce.specs.declared.mark.LinkParameters.{LinkParameters}
use Rattle.nr_reduce.specs.PlainJournal.{entries_added}
use Rattle.nr_reduce.specs.NumberedJournal.{Standing}
use Rattle.nr_reduce.specs.NumberedJournal.Standing.{Old, Kept, New}
use Rattle.nr_reduce.specs.Served.{last_frame_at}
use Rattle.nr_reduce.specs.History.{CompletedCall, bytes_sent, is_dropped}
use Rattle.nr_reduce.specs.OutcomesDue.{outcomes_due}
use Rattle.nr_reduce.specs.ServerState.{ReadyCall}
use Rattle.nr_reduce.specs.SubmitAnswer.{submit_answer_after, calls_to_resend}
use Rattle.nr_reduce.specs.Run.{client, output_due}
use Rattle.nr_reduce.specs.Asked.{IsPlannedAs, revoked_bytes}
use Rattle.nr_reduce.proofs.Steps.{AtEachMark_first}
use Rattle.nr_reduce.proofs.Placing.{AtEachMark_at}
use Rattle.nr_reduce.proofs.Standing.{AtEachMark_more}
use Rattle.nr_reduce.specs.Plans.{HasWordPosition}
use Rattle.nr_laws.specs.Typed.{TypedMark, IsTyped, IsTypedCall}
use Rattle.nr_laws.proofs.Bytes.{bytes_both}
use Rattle.nr_script.specs.Script.{IsTypedCred}
use Rattle.nr_drill.specs.Drill.{Setting, Drill, Pipes, GivenReply, plain_of, client_of, standing_of, reply_given, unwritten, after_output, after_all_output, settled, pipes_of, with_pipes, with_mark, appended, empty_pipes, after_submit, after_feeding, after_feeding_up, after_up, waiting_call, after_answer, after_call, after_execution, after_work, after_drop, after_raw, after_feeding_down, after_handing, after_done, after_dones, after_outcomes, after_down, answer_of_line, open_xid, after_giving_up, after_forget, after_taking_back, after_revoke, after_all_up, after_opening, start, after_grant, resend_mark, after_resends}
use Rattle.nr_drill.specs.InBytes.{RepliedMark, RepliedInBytes, ExecutedMark}
use Rattle.nr_script.proofs.ByteLists.{no_bytes_lem}
use Rattle.nr_byte_laws.specs.DueBytes.{ResumedInBytes, AreInBytes}
use Rattle.nr_byte_laws.proofs.PlannedBytes.{planned_bytes}
use Rattle.nr_reduce.specs.declared.mark.ResumedCall.{ResumedCall}
use Rattle.nr_reduce.specs.ClientState.{WaitingCall, call_payload, waiting_from}
use Rattle.nr_reduce.specs.Plans.{regions_needed}
use Rattle.nr_reduce.specs.Reopening.{calls_kept}
use Rattle.nr_reduce.proofs.Resending.{first_to_resend, resent_next}
use Rattle.nr_laws.proofs.WaitingCalls.{waits_on}
use Rattle.nr_laws.proofs.ResumedCalls.{IsOneOf, WasOutstanding, kept_of}
use Rattle.nr_drill.proofs.Actions.{Action, after_action, MayAct}
use Rattle.nr_drill.proofs.Actions.Action.{SubmitCall, FeedUp, FeedDown, WorkOnce, ForgetCall, RevokeCall, DropLink, PutRaw, GrantCredits}
use Rattle.nr_byte_laws.proofs.ByteClients.{client_due}
use Rattle.nr_byte_laws.proofs.ByteServers.{server_due}
use Rattle.nr_byte_laws.proofs.CallBytes.{payload_is_bytes}

-- ===== a drill that is of its types

abbrev pub PipesOfBytes : Pipes → Type 0
PipesOfBytes p = IsBytes p.up × IsBytes p.down

pub record IsTypedDrill (d : Drill) : Type 0 where
  pub typed : IsTyped d.marks
  pub pipes : AllByRecursion PipesOfBytes d.pipes
  pub creds : AllByRecursion IsTypedCred d.creds

pipes_at : (all : List Pipes) (i : ℕ) → AllByRecursion PipesOfBytes all → PipesOfBytes (slice_index_or all i empty_pipes)
pipes_at [] i h = (no_bytes_lem, no_bytes_lem)
pipes_at (p ∷ all) zero h = h.0
pipes_at (p ∷ all) (suc i) h = pipes_at all i h.1

with_pipes_at : (all : List Pipes) (i : ℕ) (p : Pipes) → AllByRecursion PipesOfBytes all → PipesOfBytes p → AllByRecursion PipesOfBytes (slice_set all i p)
with_pipes_at [] i p h g = tt
with_pipes_at (x ∷ all) zero p h g = (g, h.1)
with_pipes_at (x ∷ all) (suc i) p h g = (h.0, with_pipes_at all i p h.1 g)

cred_at_lem : (all : List Cred) (i : ℕ) → AllByRecursion IsTypedCred all → IsTypedCred (slice_index_or all i creds.None)
cred_at_lem [] i h = tt
cred_at_lem (c ∷ all) zero h = h.0
cred_at_lem (c ∷ all) (suc i) h = cred_at_lem all i h.1

pub with_cred_at_lem : (all : List Cred) (i : ℕ) (c : Cred) → AllByRecursion IsTypedCred all → IsTypedCred c → AllByRecursion IsTypedCred (slice_set all i c)
with_cred_at_lem [] i c h g = tt
with_cred_at_lem (x ∷ all) zero c h g = (g, h.1)
with_cred_at_lem (x ∷ all) (suc i) c h g = (h.0, with_cred_at_lem all i c h.1 g)

pub marked : (mark : Mark) (d : Drill) → TypedMark d.marks mark → IsTypedDrill d → IsTypedDrill (with_mark mark d)
marked mark d t h = record { typed = AtEachMark_more TypedMark [] d.marks mark h.typed t; pipes = h.pipes; creds = h.creds }

piped : (link : ℕ) (p : Pipes) (d : Drill) → PipesOfBytes p → IsTypedDrill d → IsTypedDrill (with_pipes link p d)
piped link p d g h = record { typed = h.typed; pipes = with_pipes_at d.pipes (link - 1) p h.pipes g; creds = h.creds }

behind_bytes : (side : Side) (bytes : List ℕ) (p : Pipes) → IsBytes bytes → PipesOfBytes p → PipesOfBytes (appended side bytes p)
behind_bytes Initiator bytes p b h = (bytes_both p.up bytes h.0 b, h.1)
behind_bytes Responder bytes p b h = (h.0, bytes_both p.down bytes h.1 b)

-- ===== each step of a drill

-- what a side has to write, and hasn't written, are bytes
unwritten_bytes : (o : LinkParameters) (link : ℕ) (side : Side) (run : List Mark) → AreInBytes Initiator o → IsTyped run → IsBytes (unwritten o link side run)
unfolding unwritten
unwritten_bytes o link Initiator run again typed = IsBytes_drop (length (bytes_sent link Initiator run)) (output_due o link Initiator run) (client_due o link run again typed)
unwritten_bytes o link Responder run again typed = IsBytes_drop (length (bytes_sent link Responder run)) (output_due o link Responder run) (server_due o link run typed)

output_typed : (link : ℕ) (side : Side) (bytes : List ℕ) (d : Drill) → IsBytes bytes → IsTypedDrill d → IsTypedDrill (after_output link side bytes d)
output_typed link side [] d b h = h
output_typed link side (x ∷ bytes) d b h =
    piped link (appended side (x ∷ bytes) (pipes_of link d)) (with_mark (marks.Wrote link side (x ∷ bytes)) d) (behind_bytes side (x ∷ bytes) (pipes_of link d) b (pipes_at d.pipes (link - 1) h.pipes))
    (marked (marks.Wrote link side (x ∷ bytes)) d tt h)

fed_typed : (link : ℕ) (side : Side) (bytes : List ℕ) (rest : Pipes) (d : Drill) → IsBytes bytes → PipesOfBytes rest → IsTypedDrill d → IsTypedDrill (after_feeding link side bytes rest d)
fed_typed link side [] rest d b g h = h
fed_typed link side (x ∷ bytes) rest d b g h = piped link rest (with_mark (marks.Fed link side (x ∷ bytes)) d) g (marked (marks.Fed link side (x ∷ bytes)) d b h)

fed_up_typed : (link n : ℕ) (d : Drill) → IsTypedDrill d → IsTypedDrill (after_feeding_up link n d)
fed_up_typed link n d h =
    let pipes = pipes_of link d in
    let p = pipes_at d.pipes (link - 1) h.pipes in
    fed_typed link Responder (take n pipes.up) (record pipes { up = drop n pipes.up }) d (IsBytes_take n pipes.up p.0) (IsBytes_drop n pipes.up p.0, p.1) h

fed_down_typed : (link n : ℕ) (d : Drill) → IsTypedDrill d → IsTypedDrill (after_feeding_down link n d)
fed_down_typed link n d h =
    let pipes = pipes_of link d in
    let p = pipes_at d.pipes (link - 1) h.pipes in
    fed_typed link Initiator (take n pipes.down) (record pipes { down = drop n pipes.down }) d (IsBytes_take n pipes.down p.1) (p.0, IsBytes_drop n pipes.down p.1) h

handed_typed : (link : ℕ) (c : Option CompletedCall) (d : Drill) → IsTypedDrill d → IsTypedDrill (after_handing link c d)
handed_typed link None d h = h
handed_typed link (Some c) d h = marked (marks.Done link c.xid c.outcome) d tt h

-- ----- a call

cred_fits : (cred : Cred) → IsTypedCred cred → CredFits cred
cred_fits creds.None h = tt
cred_fits (creds.Sys stamp machine uid gid gids) h = h.1
cred_fits (creds.Other flavor) h = h

submit_mark : (link : ℕ) (run : List Mark) (call : Call) (form : Form) (answer : Submission) → HasWordPosition form → (call.prog < 2 ^ 32) × (call.vers < 2 ^ 32) × (call.proc < 2 ^ 32) × IsBytes call.args → IsTypedCred call.cred →
    TypedMark run (marks.Submit link call form answer)
submit_mark link run call form (submissions.Accepted xid) f h c = (payload_is_bytes xid call c h.3, f, (h.0, h.1, h.2, cred_fits call.cred c))
submit_mark link run call form (submissions.Refused why) f h c = tt
submit_mark link run call form submissions.Dropped f h c = tt

-- a call that is sent again, as it was submitted
abbrev pub CallIsTyped : (xid : ℕ) → Call → Form → Type 0
CallIsTyped xid call form = IsBytes (call_payload xid call) × HasWordPosition form × IsTypedCall call

abbrev pub ResumedTyped : ResumedCall → Type 0
ResumedTyped r = CallIsTyped r.xid r.call r.form

abbrev pub WaitsTyped : WaitingCall → Type 0
WaitsTyped w = CallIsTyped w.xid w.call w.form

first_typed : (stag : ℕ) (rs : List ResumedCall) → AllByRecursion ResumedTyped rs → AllByRecursion WaitsTyped (waiting_from stag rs)
first_typed stag [] h = tt
first_typed stag (r ∷ rs) h = (h.0, first_typed (stag + regions_needed r.plan) rs h.1)

pub waits_typed : (o : LinkParameters) (link : ℕ) (run : List Mark) → AllByRecursion ResumedTyped o.resumed → AllByRecursion WaitsTyped (client o link run).state.waiting
waits_typed o link run h = waits_on WaitsTyped o (λ w t. t) (first_typed o.first_stag o.resumed h) link run

-- so is the first that can be sent again
first_again_typed : (o : LinkParameters) (link : ℕ) (run : List Mark) (w : WaitingCall) (rest : List WaitingCall) → AllByRecursion ResumedTyped o.resumed → calls_to_resend (client o link run) ≡ w ∷ rest → WaitsTyped w
first_again_typed o link run w rest h is =
    let first = first_to_resend (client o link run) w rest is in
    (subst (AllByRecursion WaitsTyped) first.there (waits_typed o link run h)).0

-- ===== what each action keeps

-- A step that executes no call: it adds a mark at most, which has no payload.
pub data AddsQuiet (s : Setting) (old new : Drill) : Type 0 where
  Same : new.marks ≡ old.marks → AddsQuiet s old new
  More : (mark : Mark) → entries_added (plain_of s.server) mark ≡ [] → ExecutedMark old.marks mark → new.marks ≡ old.marks ++ mark ∷ [] → AddsQuiet s old new

abbrev pub executed : ℕ → ReadyCall → GivenReply → Drill → Drill
executed link call g d = with_mark (marks.Execute link call.xid g.moment call.payload g.place g.reply) d

-- What steps of a drill on a link keep, if the calls that it sends again are of their types: each that executes no call and keeps types, and each
-- execution.
pub record KeptBySteps (s : Setting) (link : ℕ) (P : Drill → Type 0) : Type 0 where
  pub in_bytes : AreInBytes Initiator (s.opened link)
  pub again : AllByRecursion ResumedTyped (s.opened link).resumed
  pub quiet : (old new : Drill) → AddsQuiet s old new → (IsTypedDrill old → IsTypedDrill new) → P old → P new
  pub executes : (call : ReadyCall) (g : GivenReply) (d : Drill) → waiting_call s link d.marks ≡ Some call → reply_given s link d call ≡ Some g → P d → P (executed link call g d)

output_quiet : (s : Setting) (link : ℕ) (side : Side) (bytes : List ℕ) (d : Drill) → AddsQuiet s d (after_output link side bytes d)
output_quiet s link side [] d = Same refl
output_quiet s link side (b ∷ bytes) d = More (marks.Wrote link side (b ∷ bytes)) refl tt refl

fed_quiet : (s : Setting) (link : ℕ) (side : Side) (bytes : List ℕ) (rest : Pipes) (d : Drill) → AddsQuiet s d (after_feeding link side bytes rest d)
fed_quiet s link side [] rest d = Same refl
fed_quiet s link side (b ∷ bytes) rest d = More (marks.Fed link side (b ∷ bytes)) refl tt refl

handing_quiet : (s : Setting) (link : ℕ) (c : Option CompletedCall) (d : Drill) → AddsQuiet s d (after_handing link c d)
handing_quiet s link None d = Same refl
handing_quiet s link (Some c) d = More (marks.Done link c.xid c.outcome) refl tt refl

all_output_keeps : (s : Setting) (link : ℕ) (P : Drill → Type 0) → KeptBySteps s link P → (side : Side) (d : Drill) → P d → P (after_all_output s link side d)
all_output_keeps s link P k side d h =
    let bytes = unwritten (s.opened link) link side d.marks in
    k.quiet d (after_all_output s link side d) (output_quiet s link side bytes d) (λ t. output_typed link side bytes d (unwritten_bytes (s.opened link) link side d.marks k.in_bytes t.typed) t) h

settled_keeps : (s : Setting) (link : ℕ) (P : Drill → Type 0) → KeptBySteps s link P → (d : Drill) → P d → P (settled s link d)
unfolding settled
settled_keeps s link P k d h = all_output_keeps s link P k Responder (after_all_output s link Initiator d) (all_output_keeps s link P k Initiator d h)

pub up_keeps : (s : Setting) (link : ℕ) (P : Drill → Type 0) → KeptBySteps s link P → (n : ℕ) (d : Drill) → P d → P (after_up s link n d)
unfolding after_up
up_keeps s link P k n d h =
    let pipes = pipes_of link d in
    settled_keeps s link P k (after_feeding_up link n d)
    (k.quiet d (after_feeding_up link n d) (fed_quiet s link Responder (take n pipes.up) (record pipes { up = drop n pipes.up }) d) (fed_up_typed link n d) h)

dones_keep : (s : Setting) (link : ℕ) (P : Drill → Type 0) → KeptBySteps s link P → (n : ℕ) (d : Drill) → P d → P (after_dones s link n d)
unfolding after_done
dones_keep s link P k zero d h = h
dones_keep s link P k (suc n) d h =
    let c = slice_get (outcomes_due (s.opened link) link d.marks) 0 in
    dones_keep s link P k n (after_done s link d) (k.quiet d (after_handing link c d) (handing_quiet s link c d) (handed_typed link c d) h)

resent_quiet : (s : Setting) (link : ℕ) (w : WaitingCall) (d : Drill) → AddsQuiet s d (with_mark (resend_mark link w) d)
resent_quiet s link w d = More (resend_mark link w) refl tt refl

resends_keep : (s : Setting) (link : ℕ) (P : Drill → Type 0) → KeptBySteps s link P → (ws : List WaitingCall) (d : Drill) → calls_to_resend (client (s.opened link) link d.marks) ≡ ws → P d →
    P (record d { marks = d.marks ++ map (resend_mark link) ws })
resends_keep s link P k [] d is h = subst (λ (run : List Mark). P (record d { marks = run })) (sym (append-nil d.marks)) h
resends_keep s link P k (w ∷ ws) d is h =
    let mark : Mark = resend_mark link w in
    subst (λ (run : List Mark). P (record d { marks = run })) (append_assoc d.marks (mark ∷ []) (map (resend_mark link) ws))
    (resends_keep s link P k ws (with_mark mark d) (resent_next (s.opened link) link d.marks w ws is)
    (k.quiet d (with_mark mark d) (resent_quiet s link w d) (marked mark d (first_again_typed (s.opened link) link d.marks w ws k.again is)) h))

pub down_keeps : (s : Setting) (link : ℕ) (P : Drill → Type 0) → KeptBySteps s link P → (n : ℕ) (d : Drill) → P d → P (after_down s link n d)
unfolding after_down after_outcomes after_resends
down_keeps s link P k n d h =
    let pipes = pipes_of link d in
    let fed = after_feeding_down link n d in
    let again = calls_to_resend (client (s.opened link) link fed.marks) in
    let sent : Drill = record fed { marks = fed.marks ++ map (resend_mark link) again } in
    settled_keeps s link P k (after_outcomes s link sent)
    (dones_keep s link P k (length (outcomes_due (s.opened link) link sent.marks)) sent
    (resends_keep s link P k again fed refl
    (k.quiet d fed (fed_quiet s link Initiator (take n pipes.down) (record pipes { down = drop n pipes.down }) d) (fed_down_typed link n d) h)))

answer_keeps : (s : Setting) (link : ℕ) (P : Drill → Type 0) → KeptBySteps s link P → (call : ReadyCall) (answer : Option GivenReply) (d : Drill) → waiting_call s link d.marks ≡ Some call →
    reply_given s link d call ≡ answer → P d → P (after_answer s link call answer d)
answer_keeps s link P k call None d next is h = h
answer_keeps s link P k call (Some g) d next is h = settled_keeps s link P k (executed link call g d) (k.executes call g d next is h)

call_keeps : (s : Setting) (link : ℕ) (P : Drill → Type 0) → KeptBySteps s link P → (call : ReadyCall) (is : Standing) (answer : Option GivenReply) (d : Drill) → waiting_call s link d.marks ≡ Some call →
    reply_given s link d call ≡ answer → P d → P (after_call s link call is answer d)
call_keeps s link P k call (Old top) answer d next is h =
    let mark = marks.Told link (told.Old call.xid (last_frame_at link d.marks)) in
    settled_keeps s link P k (with_mark mark d) (k.quiet d (with_mark mark d) (More mark refl tt refl) (marked mark d tt) h)
call_keeps s link P k call (Kept place) answer d next is h = answer_keeps s link P k call answer d next is h
call_keeps s link P k call New answer d next is h = answer_keeps s link P k call answer d next is h

execution_keeps : (s : Setting) (link : ℕ) (P : Drill → Type 0) → KeptBySteps s link P → (call : Option ReadyCall) (d : Drill) → waiting_call s link d.marks ≡ call → P d → P (after_execution s link call d)
execution_keeps s link P k None d next h = h
execution_keeps s link P k (Some call) d next h = call_keeps s link P k call (standing_of s link d call) (reply_given s link d call) d next refl h

pub work_keeps : (s : Setting) (link : ℕ) (P : Drill → Type 0) → KeptBySteps s link P → (d : Drill) → P d → P (after_work s link d)
unfolding after_work
work_keeps s link P k d h = execution_keeps s link P k (waiting_call s link d.marks) d refl h

giving_up_keeps : (s : Setting) (link : ℕ) (P : Drill → Type 0) → KeptBySteps s link P → (xid : Option ℕ) (d : Drill) → P d → P (after_giving_up link xid d)
giving_up_keeps s link P k None d h = h
giving_up_keeps s link P k (Some xid) d h = k.quiet d (with_mark (marks.Forget link xid) d) (More (marks.Forget link xid) refl tt refl) (marked (marks.Forget link xid) d tt) h

forget_keeps : (s : Setting) (link : ℕ) (P : Drill → Type 0) → KeptBySteps s link P → (number : ℕ) (d : Drill) → P d → P (after_forget s link number d)
unfolding after_forget
forget_keeps s link P k number d h = giving_up_keeps s link P k (open_xid s link d.marks (answer_of_line s (client_of s link) number d.marks)) d h

taking_back_keeps : (s : Setting) (link : ℕ) (P : Drill → Type 0) → KeptBySteps s link P → (xid : Option ℕ) (d : Drill) → P d → P (after_taking_back s link xid d)
taking_back_keeps s link P k None d h = h
taking_back_keeps s link P k (Some xid) d h =
    let mark = marks.Revoke link xid (revoked_bytes (s.opened link) link d.marks xid) in
    settled_keeps s link P k (with_mark mark d) (k.quiet d (with_mark mark d) (More mark refl tt refl) (marked mark d tt) h)

revoke_keeps : (s : Setting) (link : ℕ) (P : Drill → Type 0) → KeptBySteps s link P → (number : ℕ) (d : Drill) → P d → P (after_revoke s link number d)
unfolding after_revoke
revoke_keeps s link P k number d h = taking_back_keeps s link P k (open_xid s link d.marks (answer_of_line s (client_of s link) number d.marks)) d h

submit_quiet : (s : Setting) (link : ℕ) (call : Call) (form : Form) (answer : Submission) (d : Drill) → AddsQuiet s d (with_mark (marks.Submit link call form answer) d)
submit_quiet s link call form answer d = More (marks.Submit link call form answer) refl tt refl

raw_quiet : (s : Setting) (link : ℕ) (side : Side) (bytes : List ℕ) (dropped : Bool) (d : Drill) → AddsQuiet s d (after_raw link side bytes dropped d)
raw_quiet s link side bytes true d = Same refl
raw_quiet s link side bytes false d = Same refl

raw_typed : (link : ℕ) (side : Side) (bytes : List ℕ) (dropped : Bool) (d : Drill) → IsBytes bytes → IsTypedDrill d → IsTypedDrill (after_raw link side bytes dropped d)
raw_typed link side bytes true d b h = h
raw_typed link side bytes false d b h = piped link (appended side bytes (pipes_of link d)) d (behind_bytes side bytes (pipes_of link d) b (pipes_at d.pipes (link - 1) h.pipes)) h

pub action_keeps_steps : (s : Setting) (link c most : ℕ) (Raws : ℕ → Type 0) (P : Drill → Type 0) → KeptBySteps s link P → (a : Action) (d : Drill) → AllByRecursion IsTypedCred d.creds → MayAct Raws most c d a → P d → P (after_action s link a d)
unfolding after_submit
action_keeps_steps s link c most Raws P k (SubmitCall call form) d creds may h =
    let answer = submit_answer_after (s.opened link) link d.marks call form in
    let mark = marks.Submit link call form answer in
    let cred : IsTypedCred call.cred = subst IsTypedCred (sym may.0) (cred_at_lem d.creds (c - 1) creds) in
    settled_keeps s link P k (with_mark mark d)
    (k.quiet d (with_mark mark d) (submit_quiet s link call form answer d) (marked mark d (submit_mark link d.marks call form answer may.1 (may.2, may.3, may.4, may.5) cred)) h)
action_keeps_steps s link c most Raws P k (FeedUp n) d creds may h = up_keeps s link P k n d h
action_keeps_steps s link c most Raws P k (FeedDown n) d creds may h = down_keeps s link P k n d h
action_keeps_steps s link c most Raws P k WorkOnce d creds may h = work_keeps s link P k d h
action_keeps_steps s link c most Raws P k (ForgetCall number) d creds may h = forget_keeps s link P k number d h
action_keeps_steps s link c most Raws P k (RevokeCall number) d creds may h = revoke_keeps s link P k number d h
action_keeps_steps s link c most Raws P k DropLink d creds may h =
    k.quiet d (after_drop link d) (More (marks.Drop link) refl tt refl) (λ t. piped link empty_pipes (with_mark (marks.Drop link) d) (no_bytes_lem, no_bytes_lem) (marked (marks.Drop link) d tt t)) h
action_keeps_steps s link c most Raws P k (PutRaw side bytes) d creds may h =
    let dropped = is_dropped link d.marks in
    k.quiet d (after_raw link side bytes dropped d) (raw_quiet s link side bytes dropped d) (raw_typed link side bytes dropped d may.1) h
action_keeps_steps s link c most Raws P k (GrantCredits credits) d creds may h =
    let mark = marks.Told link (Granted credits) in
    k.quiet d (after_grant link credits d) (More mark refl tt refl) (marked mark d tt) h

pub opening_keeps_steps : (s : Setting) (link : ℕ) (P : Drill → Type 0) → KeptBySteps s link P → (d : Drill) → P d → P (after_opening s link d)
unfolding after_opening
opening_keeps_steps s link P k d h =
    let one = settled s link d in
    let two = after_all_up s link one in
    down_keeps s link P k (length (pipes_of link two).down) two (up_keeps s link P k (length (pipes_of link one).up) one (settled_keeps s link P k d h))

-- ===== before anything happened

none_wait : (clients : ℕ) → AllByRecursion PipesOfBytes (replicate clients empty_pipes)
none_wait zero = tt
none_wait (suc n) = ((no_bytes_lem, no_bytes_lem), none_wait n)

no_creds : (clients : ℕ) → AllByRecursion IsTypedCred (replicate clients creds.None)
no_creds zero = tt
no_creds (suc n) = (tt, no_creds n)

pub start_typed : (s : Setting) (clients : ℕ) → IsTypedDrill (start s clients)
start_typed s clients = record { typed = tt; pipes = none_wait clients; creds = no_creds clients }

-- ===== if replies are bytes

pub first_replied : (run : List Mark) (mark : Mark) → RepliedInBytes (run ++ mark ∷ []) → RepliedInBytes run
first_replied run mark h = AtEachMark_first RepliedMark [] run (mark ∷ []) h

quiet_replied : (s : Setting) (old new : Drill) → AddsQuiet s old new → RepliedInBytes new.marks → RepliedInBytes old.marks
quiet_replied s old new (Same is) h = subst RepliedInBytes is h
quiet_replied s old new (More mark none other is) h = first_replied old.marks mark (subst RepliedInBytes is h)

-- once all replies so far are bytes, a drill is of its types
abbrev pub TypedIf : Drill → Type 0
TypedIf d = RepliedInBytes d.marks → IsTypedDrill d

pub typed_if : (s : Setting) (link : ℕ) → AreInBytes Initiator (s.opened link) → AllByRecursion ResumedTyped (s.opened link).resumed → KeptBySteps s link TypedIf
typed_if s link in_bytes again = record {
  in_bytes = in_bytes;
  again = again;
  quiet = λ old new adds keeps h replied. keeps (h (quiet_replied s old new adds replied));
  executes = λ call g d next is h replied.
      (let mark = marks.Execute link call.xid g.moment call.payload g.place g.reply in
      marked mark d (AtEachMark_at RepliedMark [] d.marks mark [] replied) (h (first_replied d.marks mark replied)));
}

-- a call of a link that is reopened was submitted, or sent again on the link
pub kept_typed : (o : LinkParameters) (link : ℕ) (run : List Mark) → IsTyped run → AllByRecursion ResumedTyped o.resumed → AllByRecursion ResumedTyped (calls_kept o link run)
kept_typed o link run typed again = each (calls_kept o link run) (λ xid call form one. of xid call form (kept_of o link run xid call form one))
  where
    in_resumed : (rs : List ResumedCall) (xid : ℕ) (call : Call) (form : Form) → AllByRecursion ResumedTyped rs → IsOneOf rs xid call form → CallIsTyped xid call form
    in_resumed [] xid call form h one = absurd one
    in_resumed (r ∷ rs) xid call form h (inl this) =
        subst (λ (n : ℕ). CallIsTyped n call form) this.xid_is (subst (λ (x : Call). CallIsTyped r.xid x form) this.call_is (subst (λ (x : Form). CallIsTyped r.xid r.call x) this.form_is h.0))
    in_resumed (r ∷ rs) xid call form h (inr one) = in_resumed rs xid call form h.1 one

    at_mark : (before rest : List Mark) (xid : ℕ) (call : Call) (form : Form) → run ≡ before ++ marks.Submit link call form (submissions.Accepted xid) ∷ rest → CallIsTyped xid call form
    at_mark before rest xid call form is = AtEachMark_at TypedMark [] before (marks.Submit link call form (submissions.Accepted xid)) rest (subst IsTyped is typed)

    of : (xid : ℕ) (call : Call) (form : Form) → WasOutstanding link run xid call form ⊎ IsOneOf o.resumed xid call form → CallIsTyped xid call form
    of xid call form (inr one) = in_resumed o.resumed xid call form again one
    of xid call form (inl was) =
        let own = was.own in
        let here = own.at in
        let one = at_mark own.before here.after xid call own.form here.is in
        let sub = was.submitted in
        let there = sub.at in
        let two = at_mark sub.before there.after was.accepted.xid was.accepted.call was.accepted.form there.is in
        (one.0, subst HasWordPosition was.form_is two.1, one.2)

    each : (rs : List ResumedCall) → ((xid : ℕ) (call : Call) (form : Form) → IsOneOf rs xid call form → CallIsTyped xid call form) → AllByRecursion ResumedTyped rs
    each [] h = tt
    each (r ∷ rs) h = (h r.xid r.call r.form (inl (record { xid_is = refl; call_is = refl; form_is = refl })), each rs (λ xid call form one. h xid call form (inr one)))

abbrev pub IsPlanned : ResumedCall → Type 0
IsPlanned r = IsPlannedAs r.xid r.call r.form r.plan

-- what goes out of such calls is bytes
pub resumed_bytes : (rs : List ResumedCall) → AllByRecursion IsPlanned rs → AllByRecursion ResumedTyped rs → AllByRecursion ResumedInBytes rs
resumed_bytes [] planned typed = tt
resumed_bytes (r ∷ rs) planned typed = (planned_bytes r.xid r.call r.form r.plan planned.0 typed.0.0, resumed_bytes rs planned.1 typed.1)
