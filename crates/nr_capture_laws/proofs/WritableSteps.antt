-- The calls of a drill's run are sent as its script says, and the seconds of its clock are a word.
use Rattle.std.specs.Prelude.{◌-◌, slice_get, slice_index_or, slice_set, replicate, length, sum_by}
use Rattle.std.specs.List.{AllByRecursion}
use Rattle.std.proofs.Common.{◌≡◌, ℕ, zero, suc, ◌+◌, ◌≤◌, Bool, true, false, leb-true, List, [], ◌∷◌, ◌++◌, take, Option, None, Some, refl, sym, ap, subst, ◌∙◌, arith}
use Rattle.std.proofs.lemmas.List.Sums.{sum_by-append, sum_by-cons}
use Rattle.nr_wire.specs.declared.hello.Side.{Side}
use Rattle.nr_wire.specs.declared.hello.Side.TheVariants.{Initiator, Responder}
use Rattle.nr_rpc.specs.declared.cred.Cred.{Cred}
use Rattle.nr_rpc.specs.declared.cred.Cred.TheVariants as creds
use Rattle.nr_reduce.specs.declared.call.Call.{Call}
use Rattle.nr_reduce.specs.declared.call.Form.{Form}
use Rattle.nr_reduce.specs.declared.mark.Mark.{Mark}
use Rattle.nr_reduce.specs.declared.mark.Mark.TheVariants as marks
use Rattle.nr_reduce.specs.declared.mark.Told.TheVariants.{Granted}
use Rattle.nr_reduce.specs.declared.mark.Told.TheVariants as told
use Rattle.nr_outside.specs.declared.moment.Moment.{Moment}
use Rattle.nr_reduce.specs.AtEachMark.{AtEachMark}
use Rattle.nr_reduce.specs.NumberedJournal.{Standing, entries_alone, number_heard, standing_for}
use Rattle.nr_reduce.specs.NumberedJournal.Standing.{Old, Kept, New}
use Rattle.nr_reduce.specs.Opening.{IsFirstLink}
use Rattle.nr_reduce.specs.Served.{last_frame_at}
use Rattle.nr_reduce.proofs.Standing.{AtEachMark_more}
use Rattle.nr_reduce.specs.History.{CompletedCall, is_dropped}
use Rattle.nr_reduce.specs.OutcomesDue.{outcomes_due}
use Rattle.nr_reduce.specs.ServerState.{ReadyCall}
use Rattle.nr_reduce.specs.SubmitAnswer.{submit_answer_after}
use Rattle.nr_reduce.specs.Run.{server}
use Rattle.nr_reduce.specs.Asked.{revoked_bytes}
use Rattle.nr_texts.specs.Limits.{number_max}
use Rattle.nr_texts.specs.Words.{IsWord}
use Rattle.nr_texts.specs.Forms.{IsWritableForm}
use Rattle.nr_texts.specs.declared.opening.Opening.{Opening}
use Rattle.nr_capture.specs.Writable.{IsWritableCall, IsWritableCred}
use Rattle.nr_script.specs.declared.script.Line.{Line}
use Rattle.nr_script.specs.declared.script.Line.TheVariants as lines
use Rattle.nr_script.specs.Script.{ScriptLines, IsScript, IsTypedLine, FollowOn, may_follow, seconds_in, seconds_after}
use Rattle.nr_drill.specs.Drill.{SerialServer, Setting, Drill, Pipes, now, unwritten, after_output, after_all_output, settled, pipes_of, with_pipes, with_mark, cred_of, after_submit, after_feeding, after_feeding_up, after_up, waiting_call, after_answer, after_execution, after_work, after_calls, after_drop, after_raw, after_feeding_down, after_handing, after_done, after_dones, after_outcomes, after_down, answer_of_line, open_xid, after_giving_up, after_forget, after_taking_back, after_revoke, after_all_up, after_all_work, after_moves, after_round, after_opening, after_openings, start, links_of, GivenReply, client_of, given, journal_of, reply_by, reply_given, standing_of, after_call}
use Rattle.nr_drill.specs.Follows.{Drains, Follows, setting_of, opened_drill}
use Rattle.nr_drill.specs.Lines.{IsUnnumbered}
use Rattle.nr_drill.specs.Unnumbered.{AreFirst, FirstMakes, FirstMakeAll, UnnumberedMark}
use Rattle.nr_drill.proofs.FirstLines.{follows_made}
use Rattle.nr_drill.proofs.FirstLinks.{down_is, opened_firsts}
use Rattle.nr_drill.proofs.Journals.{follows_is_plain}
use Rattle.nr_capture_laws.proofs.WritableLines.{IsWritableLine, AreWritable}

-- what a mark says of a call that is sent, and of the clock
abbrev pub CanWriteMark : Mark → Type 0
CanWriteMark (marks.Submit l call form answer) = IsWritableForm form × IsWritableCall call
CanWriteMark (marks.Execute l xid moment payload place reply) = IsWord moment.seconds
CanWriteMark mark = Unit {0}

abbrev pub CanWriteMarks : List Mark → Type 0
CanWriteMarks run = AllByRecursion CanWriteMark run

-- What is known of a mark as it is made: the moment of a call of a client without a number is that of the clock.
abbrev IsWritableAt : List Mark → Mark → Type 0
IsWritableAt before (marks.Submit l call form answer) = IsWritableForm form × IsWritableCall call
IsWritableAt before (marks.Execute l xid moment payload place reply) = number_heard before l ≡ 0 → IsWord moment.seconds
IsWritableAt before mark = Unit {0}

abbrev AreWritableMarks : List Mark → Type 0
AreWritableMarks run = AtEachMark IsWritableAt [] run

-- so it can be written if no client has a number
one_writable : (before : List Mark) (mark : Mark) → IsWritableAt before mark → UnnumberedMark before mark → CanWriteMark mark
one_writable before (marks.Submit l call form answer) h none = h
one_writable before (marks.Execute l xid moment payload place reply) h none = h none.1
one_writable before (marks.Wrote l side bytes) h none = tt
one_writable before (marks.Fed l side bytes) h none = tt
one_writable before (marks.Done l xid outcome) h none = tt
one_writable before (marks.Lost l xid) h none = tt
one_writable before (marks.Forget l xid) h none = tt
one_writable before (marks.Revoke l xid bytes) h none = tt
one_writable before (marks.Drop l) h none = tt
one_writable before (marks.Told l what) h none = tt

all_writable : (before run : List Mark) → AtEachMark IsWritableAt before run → AtEachMark UnnumberedMark before run → CanWriteMarks run
all_writable before [] h none = tt
all_writable before (mark ∷ run) h none = (one_writable before mark h.0 none.0, all_writable (before ++ mark ∷ []) run h.1 none.1)

-- ===== a step of a drill: its marks can be written, and the clock and the credentials stay

record Goes (old new : Drill) : Type 0 where
  writable : IsWord old.seconds → AreWritableMarks old.marks → AreWritableMarks new.marks
  seconds : new.seconds ≡ old.seconds
  creds : new.creds ≡ old.creds

stays : (d : Drill) → Goes d d
stays d = record { writable = λ w h. h; seconds = refl; creds = refl }

then_goes : {a b c : Drill} → Goes a b → Goes b c → Goes a c
then_goes g h = record {
  writable = λ w all. h.writable (subst IsWord (sym g.seconds) w) (g.writable w all);
  seconds = h.seconds ∙ g.seconds;
  creds = h.creds ∙ g.creds;
}

marked : (mark : Mark) (d : Drill) → (IsWord d.seconds → IsWritableAt d.marks mark) → Goes d (with_mark mark d)
marked mark d m = record { writable = λ w h. AtEachMark_more IsWritableAt [] d.marks mark h (m w); seconds = refl; creds = refl }

piped : (link : ℕ) (p : Pipes) (d : Drill) → Goes d (with_pipes link p d)
piped link p d = record { writable = λ w h. h; seconds = refl; creds = refl }

output_goes : (link : ℕ) (side : Side) (bytes : List ℕ) (d : Drill) → Goes d (after_output link side bytes d)
output_goes link side [] d = stays d
output_goes link side (b ∷ bytes) d = then_goes (marked (marks.Wrote link side (b ∷ bytes)) d (λ w. tt)) (piped link _ (with_mark (marks.Wrote link side (b ∷ bytes)) d))

settled_goes : (s : Setting) (link : ℕ) (d : Drill) → Goes d (settled s link d)
unfolding settled
settled_goes s link d =
    let mid = after_all_output s link Initiator d in
    then_goes (output_goes link Initiator (unwritten (s.opened link) link Initiator d.marks) d) (output_goes link Responder (unwritten (s.opened link) link Responder mid.marks) mid)

fed_goes : (link : ℕ) (side : Side) (bytes : List ℕ) (rest : Pipes) (d : Drill) → Goes d (after_feeding link side bytes rest d)
fed_goes link side [] rest d = stays d
fed_goes link side (b ∷ bytes) rest d = then_goes (marked (marks.Fed link side (b ∷ bytes)) d (λ w. tt)) (piped link rest (with_mark (marks.Fed link side (b ∷ bytes)) d))

up_goes : (s : Setting) (link n : ℕ) (d : Drill) → Goes d (after_up s link n d)
unfolding after_up
up_goes s link n d = then_goes (fed_goes link Responder (take n (pipes_of link d).up) _ d) (settled_goes s link (after_feeding_up link n d))

handed_goes : (link : ℕ) (c : Option CompletedCall) (d : Drill) → Goes d (after_handing link c d)
handed_goes link None d = stays d
handed_goes link (Some c) d = marked (marks.Done link c.xid c.outcome) d (λ w. tt)

done_goes : (s : Setting) (link : ℕ) (d : Drill) → Goes d (after_done s link d)
unfolding after_done
done_goes s link d = handed_goes link (slice_get (outcomes_due (s.opened link) link d.marks) 0) d

dones_go : (s : Setting) (link n : ℕ) (d : Drill) → Goes d (after_dones s link n d)
dones_go s link zero d = stays d
dones_go s link (suc n) d = then_goes (done_goes s link d) (dones_go s link n (after_done s link d))

outcomes_go : (s : Setting) (link : ℕ) (d : Drill) → Goes d (after_outcomes s link d)
unfolding after_outcomes
outcomes_go s link d = dones_go s link (length (outcomes_due (s.opened link) link d.marks)) d

down_goes : (s : Setting) (link n : ℕ) (d : Drill) → IsFirstLink (s.opened link) → Goes d (after_down s link n d)
down_goes s link n d first =
    let fed = after_feeding_down link n d in
    subst (Goes d) (sym (down_is s link n d first))
    (then_goes (fed_goes link Initiator (take n (pipes_of link d).down) _ d) (then_goes (outcomes_go s link fed) (settled_goes s link (after_outcomes s link fed))))

submit_goes : (s : Setting) (link : ℕ) (call : Call) (form : Form) (d : Drill) → IsWritableForm form → IsWritableCall call → Goes d (after_submit s link call form d)
unfolding after_submit
submit_goes s link call form d f c =
    let mark = marks.Submit link call form (submit_answer_after (s.opened link) link d.marks call form) in
    then_goes (marked mark d (λ w. (f, c))) (settled_goes s link (with_mark mark d))

-- the moment with which a call of a client without a number is answered is that of the clock
abbrev IsAnswerOf : ℕ → Drill → Option GivenReply → Type 0
IsAnswerOf link d answer = (g : GivenReply) → answer ≡ Some g → number_heard d.marks link ≡ 0 → g.moment ≡ now d

answered_goes : (s : Setting) (link : ℕ) (call : ReadyCall) (answer : Option GivenReply) (d : Drill) → IsAnswerOf link d answer → Goes d (after_answer s link call answer d)
answered_goes s link call None d is = stays d
answered_goes s link call (Some g) d is =
    let mark = marks.Execute link call.xid g.moment call.payload g.place g.reply in
    then_goes (marked mark d (λ w none. subst (λ (m : Moment). IsWord m.seconds) (sym (is g refl none)) w)) (settled_goes s link (with_mark mark d))

call_goes : (s : Setting) (link : ℕ) (call : ReadyCall) (standing : Standing) (answer : Option GivenReply) (d : Drill) → IsAnswerOf link d answer → Goes d (after_call s link call standing answer d)
call_goes s link call (Old top) answer d is =
    let mark = marks.Told link (told.Old call.xid (last_frame_at link d.marks)) in
    then_goes (marked mark d (λ w. tt)) (settled_goes s link (with_mark mark d))
call_goes s link call (Kept place) answer d is = answered_goes s link call answer d is
call_goes s link call New answer d is = answered_goes s link call answer d is

given_moment : (moment : Moment) (place : ℕ) (reply : Option (List ℕ)) (g : GivenReply) → given moment place reply ≡ Some g → g.moment ≡ moment
given_moment moment place None g is = absurd cc
given_moment moment place (Some reply) g is = (let same : Some (record { moment = moment; place = place; reply = reply }) ≡ Some g = is in let t : record { moment = moment; place = place; reply = reply } ≡ g = cc in sym (ap (λ (x : GivenReply). x.moment) t))

answer_is : (s : Setting) (link : ℕ) (call : ReadyCall) (d : Drill) → IsAnswerOf link d (reply_given s link d call)
unfolding reply_given standing_of
answer_is s link call d g is none =
    let T = journal_of s d.marks in
    given_moment (now d) (length T) (s.server.reply_to (entries_alone T) (now d) call.payload) g
    (sym (ap (λ (n : ℕ). reply_by s.server T (now d) call.payload (standing_for T n call.xid)) none) ∙ is)

executed_goes : (s : Setting) (link : ℕ) (call : Option ReadyCall) (d : Drill) → Goes d (after_execution s link call d)
executed_goes s link None d = stays d
executed_goes s link (Some call) d = call_goes s link call (standing_of s link d call) (reply_given s link d call) d (answer_is s link call d)

work_goes : (s : Setting) (link : ℕ) (d : Drill) → Goes d (after_work s link d)
unfolding after_work
work_goes s link d = executed_goes s link (waiting_call s link d.marks) d

calls_go : (s : Setting) (link n : ℕ) (d : Drill) → Goes d (after_calls s link n d)
calls_go s link zero d = stays d
calls_go s link (suc n) d = then_goes (work_goes s link d) (calls_go s link n (after_work s link d))

all_work_goes : (s : Setting) (link : ℕ) (d : Drill) → Goes d (after_all_work s link d)
unfolding after_all_work
all_work_goes s link d = calls_go s link (length (server (s.opened link) link d.marks).state.ready) d

given_up_goes : (link : ℕ) (xid : Option ℕ) (d : Drill) → Goes d (after_giving_up link xid d)
given_up_goes link None d = stays d
given_up_goes link (Some xid) d = marked (marks.Forget link xid) d (λ w. tt)

forget_goes : (s : Setting) (link number : ℕ) (d : Drill) → Goes d (after_forget s link number d)
unfolding after_forget
forget_goes s link number d = given_up_goes link (open_xid s link d.marks (answer_of_line s (client_of s link) number d.marks)) d

taken_back_goes : (s : Setting) (link : ℕ) (xid : Option ℕ) (d : Drill) → Goes d (after_taking_back s link xid d)
taken_back_goes s link None d = stays d
taken_back_goes s link (Some xid) d =
    let mark = marks.Revoke link xid (revoked_bytes (s.opened link) link d.marks xid) in
    then_goes (marked mark d (λ w. tt)) (settled_goes s link (with_mark mark d))

revoke_goes : (s : Setting) (link number : ℕ) (d : Drill) → Goes d (after_revoke s link number d)
unfolding after_revoke
revoke_goes s link number d = taken_back_goes s link (open_xid s link d.marks (answer_of_line s (client_of s link) number d.marks)) d

drop_goes : (link : ℕ) (d : Drill) → Goes d (after_drop link d)
drop_goes link d = then_goes (marked (marks.Drop link) d (λ w. tt)) (piped link _ (with_mark (marks.Drop link) d))

raw_goes : (link : ℕ) (side : Side) (bytes : List ℕ) (b : Bool) (d : Drill) → Goes d (after_raw link side bytes b d)
raw_goes link side bytes true d = stays d
raw_goes link side bytes false d = piped link _ d

moves_go : (s : Setting) (link : ℕ) (d : Drill) → IsFirstLink (s.opened link) → Goes d (after_moves s link d)
unfolding after_moves
moves_go s link d first =
    let up = after_all_up s link d in
    let worked = after_all_work s link up in
    then_goes (up_goes s link (length (pipes_of link d).up) d) (then_goes (all_work_goes s link up) (down_goes s link (length (pipes_of link worked).down) worked first))

round_goes : (s : Setting) (links : List ℕ) (d : Drill) → AreFirst s → Goes d (after_round s links d)
round_goes s [] d first = stays d
round_goes s (link ∷ others) d first = then_goes (moves_go s link d (first.on link)) (round_goes s others (after_moves s link d) first)

drains_go : (s : Setting) (links : List ℕ) (rounds : ℕ) (old new : Drill) → AreFirst s → Drains s links rounds old new → Goes old new
drains_go s links zero old new first e = subst (Goes old) (sym e.1) (stays old)
drains_go s links (suc rounds) old new first e = then_goes (round_goes s links old first) (drains_go s links rounds (after_round s links old) new first e.1)

opening_goes : (s : Setting) (link : ℕ) (d : Drill) → IsFirstLink (s.opened link) → Goes d (after_opening s link d)
unfolding after_opening
opening_goes s link d is_first =
    let first = settled s link d in
    let up = after_all_up s link first in
    then_goes (settled_goes s link d) (then_goes (up_goes s link (length (pipes_of link first).up) first) (down_goes s link (length (pipes_of link up).down) up is_first))

openings_go : (s : Setting) (links : List ℕ) (d : Drill) → AreFirst s → Goes d (after_openings s links d)
openings_go s [] d first = stays d
openings_go s (link ∷ others) d first = then_goes (opening_goes s link d (first.on link)) (openings_go s others (after_opening s link d) first)

-- ===== credentials

abbrev AreCreds : List Cred → Type 0
AreCreds all = AllByRecursion IsWritableCred all

cred_at : (all : List Cred) (i : ℕ) → AreCreds all → IsWritableCred (slice_index_or all i creds.None)
cred_at [] i h = tt
cred_at (c ∷ all) zero h = h.0
cred_at (c ∷ all) (suc i) h = cred_at all i h.1

with_cred_at : (all : List Cred) (i : ℕ) (c : Cred) → AreCreds all → IsWritableCred c → AreCreds (slice_set all i c)
with_cred_at [] i c h g = tt
with_cred_at (x ∷ all) zero c h g = (g, h.1)
with_cred_at (x ∷ all) (suc i) c h g = (h.0, with_cred_at all i c h.1 g)

first_creds : (n : ℕ) → AreCreds (replicate n creds.None)
first_creds zero = tt
first_creds (suc n) = (tt, first_creds n)

-- ===== after some lines of the script

record IsWritableDrill (before : List Line) (d : Drill) : Type 0 where
  marks : AreWritableMarks d.marks
  creds : AreCreds d.creds
  clock : d.seconds ≡ seconds_after before
  fits : IsWord d.seconds

went : (before : List Line) (line : Line) (old new : Drill) → seconds_in line ≡ 0 → Goes old new → IsWritableDrill before old → IsWritableDrill (before ++ line ∷ []) new
unfolding seconds_after
went before line old new none g h = record {
  marks = g.writable h.fits h.marks;
  creds = subst AreCreds (sym g.creds) h.creds;
  clock = g.seconds ∙ h.clock ∙ still;
  fits = subst IsWord (sym g.seconds) h.fits;
}
  where
    still : seconds_after before ≡ seconds_after (before ++ line ∷ [])
    still = (let both = sum_by-append seconds_in before (line ∷ []) in let one = sum_by-cons seconds_in line [] in let nil : sum_by seconds_in [] ≡ 0 = refl in omega (arith, both, one, nil, none))

ticked : (opening : Opening) (before : List Line) (seconds : ℕ) (d : Drill) → may_follow opening before (lines.Tick seconds) ≡ true → IsWritableDrill before d → IsWritableDrill (before ++ lines.Tick seconds ∷ []) (record d { seconds = d.seconds + seconds })
unfolding seconds_after
ticked opening before seconds d e h = record {
  marks = h.marks;
  creds = h.creds;
  clock = on;
  fits = (let most : seconds_after before + seconds ≤ number_max = leb-true _ _ e in let is = h.clock in omega (arith, most, is));
}
  where
    on : d.seconds + seconds ≡ seconds_after (before ++ lines.Tick seconds ∷ [])
    on = (let both = sum_by-append seconds_in before (lines.Tick seconds ∷ []) in let one = sum_by-cons seconds_in (lines.Tick seconds) [] in let nil : sum_by seconds_in [] ≡ 0 = refl in let is = h.clock in omega (arith, both, one, nil, is))

made : (s : Setting) (opening : Opening) (before : List Line) (line : Line) (old new : Drill) → AreFirst s → may_follow opening before line ≡ true → IsTypedLine line → IsWritableLine line → FirstMakes s opening.clients line old new → IsWritableDrill before old
    → IsWritableDrill (before ++ line ∷ []) new
made s opening before (lines.Cred client cred) old new firsts f t l e h =
    subst (IsWritableDrill (before ++ lines.Cred client cred ∷ [])) (sym e)
    (let same = went before (lines.Cred client cred) old old refl (stays old) h in
    record { marks = same.marks; creds = with_cred_at old.creds (client - 1) cred h.creds l; clock = same.clock; fits = same.fits })
made s opening before (lines.Call client form prog vers proc args) old new firsts f t l e h =
    let call : Call = record { prog = prog; vers = vers; proc = proc; cred = cred_of client old; args = args } in
    let right : IsWritableCall call = record { prog = t.1; vers = t.2; proc = t.3; cred = cred_at old.creds (client - 1) h.creds; args = t.4 } in
    subst (IsWritableDrill (before ++ lines.Call client form prog vers proc args ∷ [])) (sym e)
    (went before (lines.Call client form prog vers proc args) old (after_submit s client call form old) refl (submit_goes s client call form old l right) h)
made s opening before (lines.Up client most) old new firsts f t l e h = went before (lines.Up client most) old new refl (subst (Goes old) (sym e) (up_goes s client most old)) h
made s opening before (lines.Down client most) old new firsts f t l e h = went before (lines.Down client most) old new refl (subst (Goes old) (sym e) (down_goes s client most old (firsts.on client))) h
made s opening before (lines.Work client) old new firsts f t l e h = went before (lines.Work client) old new refl (subst (Goes old) (sym e) (work_goes s client old)) h
made s opening before (lines.Tick seconds) old new firsts f t l e h = subst (IsWritableDrill (before ++ lines.Tick seconds ∷ [])) (sym e) (ticked opening before seconds old f h)
made s opening before (lines.Forget client number) old new firsts f t l e h = went before (lines.Forget client number) old new refl (subst (Goes old) (sym e) (forget_goes s client number old)) h
made s opening before (lines.Revoke client number) old new firsts f t l e h = went before (lines.Revoke client number) old new refl (subst (Goes old) (sym e) (revoke_goes s client number old)) h
made s opening before (lines.Drop client) old new firsts f t l e h = went before (lines.Drop client) old new refl (subst (Goes old) (sym e) (drop_goes client old)) h
made s opening before (lines.Rejoin client) old new firsts f t l e h = went before (lines.Rejoin client) old new refl (subst (Goes old) (sym e) (stays old)) h
made s opening before (lines.Raw client side bytes) old new firsts f t l e h =
    went before (lines.Raw client side bytes) old new refl (subst (Goes old) (sym e) (raw_goes client side bytes (is_dropped client old.marks) old)) h
made s opening before (lines.Grant client credits) old new firsts f t l e h =
    went before (lines.Grant client credits) old new refl (subst (Goes old) (sym e) (marked (marks.Told client (Granted credits)) old (λ w. tt))) h
made s opening before lines.Drain old new firsts f t l e h = went before lines.Drain old new refl (drains_go s (links_of opening.clients) e.0 old new firsts e.1) h

made_all : (s : Setting) (opening : Opening) (before all : List Line) (old new : Drill) → AreFirst s → FollowOn opening before all → AllByRecursion IsTypedLine all → AllByRecursion IsWritableLine all → FirstMakeAll s opening.clients all old new
    → IsWritableDrill before old → AreWritableMarks new.marks
made_all s opening before [] old new firsts f t l e h = subst (λ (d : Drill). AreWritableMarks d.marks) (sym e) h.marks
made_all s opening before (line ∷ others) old new firsts f t l e h =
    made_all s opening (before ++ line ∷ []) others e.0 new firsts f.1 t.1 l.1 e.2 (made s opening before line old e.0 firsts f.0 t.0 l.0 e.1 h)

pub follows_writable : (server : SerialServer) (script : ScriptLines) (run : List Mark) → IsScript script → IsUnnumbered script → AreWritable script → Follows server script run → CanWriteMarks run
unfolding opened_drill seconds_after
follows_writable server script run is none writable follows =
    let s = setting_of server script.opening in
    let firsts = opened_firsts server script.opening none in
    let first = start s script.opening.clients in
    let opened = opened_drill server script.opening in
    let g : Goes first opened = openings_go s (links_of script.opening.clients) first firsts in
    let fits : IsWord 0 = omega arith in
    let d : IsWritableDrill [] opened = record { marks = g.writable fits tt; creds = subst AreCreds (sym g.creds) (first_creds script.opening.clients); clock = g.seconds; fits = subst IsWord (sym g.seconds) fits } in
    let all = made_all s script.opening [] script.lines opened follows.last firsts is.follow_on is.typed writable (follows_made server script run is none follows) d in
    all_writable [] run (subst AreWritableMarks (sym follows.marks_are) all) (follows_is_plain server script run is none follows).unnumbered
