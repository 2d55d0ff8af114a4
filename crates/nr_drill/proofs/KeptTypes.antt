-- What steps of a drain write down are of their types, if the server replies in bytes.
use Rattle.std.specs.Prelude.{◌-◌, ◌&&◌, if◌then◌else◌, is_none, map, slice_get, take, drop}
use Rattle.std.specs.List.{AllByRecursion}
use Rattle.std.proofs.Common.{◌≡◌, ℕ, zero, suc, Bool, true, false, List, [], ◌∷◌, ◌++◌, length, Option, None, Some, refl, sym, ap, subst, append-nil, append_assoc}
use Rattle.nr_xdr.specs.Item.{IsBytes}
use Rattle.nr_xdr.proofs.WordBytes.{IsBytes_take}
use Rattle.nr_xdr.proofs.Chains.{IsBytes_right}
use Rattle.nr_wire.specs.declared.hello.Side.{Side}
use Rattle.nr_wire.specs.declared.hello.Side.TheVariants.{Initiator, Responder}
use Rattle.nr_reduce.specs.declared.mark.Mark.{Mark}
use Rattle.nr_reduce.specs.declared.mark.Mark.TheVariants as marks
use Rattle.nr_reduce.specs.declared.mark.Told.TheVariants as told
use Rattle.nr_reduce.specs.History.{CompletedCall, bytes_sent, is_dropped}
use Rattle.nr_reduce.proofs.Standing.{AtEachMark_more}
use Rattle.nr_reduce.specs.ServerState.{ReadyCall}
use Rattle.nr_reduce.specs.OutcomesDue.{outcomes_due}
use Rattle.nr_laws.specs.Typed.{TypedMark, IsTyped}
use Rattle.nr_script.proofs.ByteLists.{no_bytes_lem}
use Rattle.nr_drill.specs.Drill.{Setting, Drill, Pipes, pipes_of, with_mark, unwritten, after_output, after_all_output, settled, after_feeding, after_feeding_up, after_feeding_down, after_up, after_handing, after_done, after_dones, after_outcomes, waiting_call, after_answer, after_execution, after_work, GivenReply, standing_of, reply_given, after_call}
use Rattle.nr_drill.specs.WorkLeft.DrainStep.{AllUp, Work, AllDown}
use Rattle.nr_drill.specs.Drains.{AnswersInBytesAt, IsTypedAgain, StepsKeepTypes}
use Rattle.nr_byte_laws.proofs.ByteClients.{client_due}
use Rattle.nr_byte_laws.proofs.ByteServers.{server_due}
use Rattle.nr_drill.specs.Drill.{resend_mark, after_resends, after_down}
use Rattle.nr_drill.proofs.TypedDrills.{IsPlanned, WaitsTyped, resumed_bytes, waits_typed}
use Rattle.nr_laws.proofs.WaitingCalls.{resumes_planned}
use Rattle.nr_byte_laws.specs.DueBytes.{AreInBytes}
use Rattle.nr_link.specs.declared.agreement.Agreement.{Agreement}
use Rattle.nr_reduce.specs.declared.mark.LinkParameters.{LinkParameters}
use Rattle.nr_reduce.specs.declared.mark.ResumedCall.{ResumedCall}
use Rattle.nr_reduce.specs.ClientState.{ClientState, WaitingCall}
use Rattle.nr_reduce.specs.EndRules.{EndState}
use Rattle.nr_reduce.specs.Opening.{IsOpened, IsResumed, lengths_before}
use Rattle.nr_reduce.specs.Run.{client}
use Rattle.nr_reduce.specs.SubmitAnswer.{calls_to_resend}
use Rattle.nr_reduce.specs.NumberedJournal.{Standing}
use Rattle.nr_reduce.specs.NumberedJournal.Standing.{Old, Kept, New}
use Rattle.nr_reduce.specs.Served.{last_frame_at}

more : (mark : Mark) (d : Drill) → TypedMark d.marks mark → IsTyped d.marks → IsTyped (with_mark mark d).marks
more mark d t h = AtEachMark_more TypedMark [] d.marks mark h t

output : (link : ℕ) (side : Side) (bytes : List ℕ) (d : Drill) → IsTyped d.marks → IsTyped (after_output link side bytes d).marks
output link side [] d h = h
output link side (b ∷ bytes) d h = more (marks.Wrote link side (b ∷ bytes)) d tt h

settles : (s : Setting) (link : ℕ) (d : Drill) → IsTyped d.marks → IsTyped (settled s link d).marks
unfolding settled
settles s link d h =
    let mid = after_all_output s link Initiator d in
    output link Responder (unwritten (s.opened link) link Responder mid.marks) mid (output link Initiator (unwritten (s.opened link) link Initiator d.marks) d h)

feeds : (link : ℕ) (side : Side) (bytes : List ℕ) (rest : Pipes) (d : Drill) → IsBytes bytes → IsTyped d.marks → IsTyped (after_feeding link side bytes rest d).marks
feeds link side [] rest d b h = h
feeds link side (x ∷ bytes) rest d b h = more (marks.Fed link side (x ∷ bytes)) d b h

hands : (link : ℕ) (c : Option CompletedCall) (d : Drill) → IsTyped d.marks → IsTyped (after_handing link c d).marks
hands link None d h = h
hands link (Some c) d h = more (marks.Done link c.xid c.outcome) d tt h

dones : (s : Setting) (link n : ℕ) (d : Drill) → IsTyped d.marks → IsTyped (after_dones s link n d).marks
unfolding after_done
dones s link zero d h = h
dones s link (suc n) d h = dones s link n (after_done s link d) (hands link (slice_get (outcomes_due (s.opened link) link d.marks) 0) d h)

-- what waits in the pipes of a link that runs are bytes
pipe_bytes : (got pipe sent : List ℕ) (dropped : Bool) → (dropped ≡ false → got ++ pipe ≡ sent) → (dropped ≡ true → pipe ≡ []) → IsBytes sent → IsBytes pipe
pipe_bytes got pipe sent true carried gone b = subst IsBytes (sym (gone refl)) no_bytes_lem
pipe_bytes got pipe sent false carried gone b = IsBytes_right got pipe (subst IsBytes (sym (carried refl)) b)

answers : (s : Setting) (link : ℕ) (call : ReadyCall) (answer : Option GivenReply) (d : Drill) → ((g : GivenReply) → answer ≡ Some g → IsBytes g.reply) → IsTyped d.marks → IsTyped (after_answer s link call answer d).marks
answers s link call None d b h = h
answers s link call (Some g) d b h =
    let mark = marks.Execute link call.xid g.moment call.payload g.place g.reply in
    settles s link (with_mark mark d) (more mark d (b g refl) h)

makes : (s : Setting) (link : ℕ) (call : ReadyCall) (is : Standing) (answer : Option GivenReply) (d : Drill) → ((g : GivenReply) → answer ≡ Some g → IsBytes g.reply) → IsTyped d.marks → IsTyped (after_call s link call is answer d).marks
makes s link call (Old top) answer d b h =
    let mark = marks.Told link (told.Old call.xid (last_frame_at link d.marks)) in
    settles s link (with_mark mark d) (more mark d tt h)
makes s link call (Kept place) answer d b h = answers s link call answer d b h
makes s link call New answer d b h = answers s link call answer d b h

executes : (s : Setting) (link : ℕ) (call : Option ReadyCall) (d : Drill) → AnswersInBytesAt s link d → waiting_call s link d.marks ≡ call → IsTyped d.marks → IsTyped (after_execution s link call d).marks
executes s link None d replies is h = h
executes s link (Some call) d replies is h = makes s link call (standing_of s link d call) (reply_given s link d call) d (λ g given. replies call g is given) h

-- ----- calls that are sent again

front_typed : (n : ℕ) (ws : List WaitingCall) → AllByRecursion WaitsTyped ws → AllByRecursion WaitsTyped (take n ws)
front_typed zero ws h = tt
front_typed (suc n) [] h = tt
front_typed (suc n) (w ∷ ws) h = (h.0, front_typed n ws h.1)

again_typed : (o : LinkParameters) (link : ℕ) (run : List Mark) → AllByRecursion IsTypedAgain o.resumed → AllByRecursion WaitsTyped (calls_to_resend (client o link run))
unfolding calls_to_resend
again_typed o link run again = by (is_none k.ended && k.state.has_hello)
  where
    k : EndState ClientState
    k = client o link run

    by : (b : Bool) → AllByRecursion WaitsTyped (if b then take (k.state.grant - length k.state.outstanding) k.state.waiting else [])
    by true = front_typed (k.state.grant - length k.state.outstanding) k.state.waiting (waits_typed o link run again)
    by false = tt

each_again : (link : ℕ) (run : List Mark) (ws : List WaitingCall) → AllByRecursion WaitsTyped ws → IsTyped run → IsTyped (run ++ map (resend_mark link) ws)
each_again link run [] typed h = subst IsTyped (sym (append-nil run)) h
each_again link run (w ∷ ws) typed h =
    subst IsTyped (append_assoc run (resend_mark link w ∷ []) (map (resend_mark link) ws))
    (each_again link (run ++ resend_mark link w ∷ []) ws typed.1 (AtEachMark_more TypedMark [] run (resend_mark link w) h typed.0))

resends_typed : (s : Setting) (link : ℕ) (d : Drill) → AllByRecursion IsTypedAgain (s.opened link).resumed → IsTyped d.marks → IsTyped (after_resends s link d).marks
unfolding after_resends
resends_typed s link d again h = each_again link d.marks (calls_to_resend (client (s.opened link) link d.marks)) (again_typed (s.opened link) link d.marks again) h

-- what they send is bytes
each_planned : (agreed : Agreement) (rs : List ResumedCall) → AllByRecursion (IsResumed agreed) rs → AllByRecursion IsPlanned rs
each_planned agreed [] planned = tt
each_planned agreed (r ∷ rs) planned = (planned.0.planned, each_planned agreed rs planned.1)

again_bytes : (o : LinkParameters) → IsOpened o → AllByRecursion IsTypedAgain o.resumed → AreInBytes Initiator o
again_bytes o numbers again = resumed_bytes o.resumed (each_planned (lengths_before o.agreed) o.resumed (resumes_planned o numbers)) again

pub steps_keep_types : StepsKeepTypes
unfolding after_up after_down after_outcomes after_work
steps_keep_types s link AllUp d numbers again running replies typed =
    let pipes = pipes_of link d in
    let bytes = pipe_bytes _ pipes.up (bytes_sent link Initiator d.marks) (is_dropped link d.marks) running.up (λ gone. ap (λ (p : Pipes). p.up) (running.gone gone))
    (subst IsBytes (sym running.asked.written) (client_due (s.opened link) link d.marks (again_bytes (s.opened link) numbers again) typed)) in
    settles s link (after_feeding_up link (length pipes.up) d)
    (feeds link Responder (take (length pipes.up) pipes.up) (record pipes { up = drop (length pipes.up) pipes.up }) d (IsBytes_take (length pipes.up) pipes.up bytes) typed)
steps_keep_types s link Work d numbers again running replies typed = executes s link (waiting_call s link d.marks) d replies refl typed
steps_keep_types s link AllDown d numbers again running replies typed =
    let pipes = pipes_of link d in
    let bytes = pipe_bytes _ pipes.down (bytes_sent link Responder d.marks) (is_dropped link d.marks) running.down (λ gone. ap (λ (p : Pipes). p.down) (running.gone gone))
    (subst IsBytes (sym running.served.written) (server_due (s.opened link) link d.marks typed)) in
    let fed = after_feeding_down link (length pipes.down) d in
    let resent = after_resends s link fed in
    settles s link (after_outcomes s link resent)
    (dones s link (length (outcomes_due (s.opened link) link resent.marks)) resent
    (resends_typed s link fed again
    (feeds link Initiator (take (length pipes.down) pipes.down) (record pipes { down = drop (length pipes.down) pipes.down }) d (IsBytes_take (length pipes.down) pipes.down bytes) typed)))
