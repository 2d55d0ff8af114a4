-- The one journal of a drill whose clients have no numbers: each call is executed at its end, with the reply of the plain server there.
use Rattle.std.specs.Prelude.{◌-◌, ◌==◌, if◌then◌else◌, map, slice_get}
use Rattle.std.specs.List.{AllByRecursion, flat_map, range_with_len}
use Rattle.std.proofs.Common.{◌≡◌, ℕ, ◌+◌, ◌≤◌, zero, suc, arith, Bool, true, false, List, [], ◌∷◌, ◌++◌, length, take, drop, Option, None, Some, refl, sym, ap, subst, ◌∙◌, append_assoc, append-nil, leb}
use Rattle.nr_wire.specs.declared.hello.Side.{Side}
use Rattle.nr_wire.specs.declared.hello.Side.TheVariants.{Initiator, Responder}
use Rattle.nr_reduce.specs.declared.call.Call.{Call}
use Rattle.nr_reduce.specs.declared.mark.Entry.{Entry}
use Rattle.nr_reduce.specs.declared.mark.TaggedEntry.{TaggedEntry}
use Rattle.nr_reduce.specs.declared.mark.Mark.{Mark}
use Rattle.nr_reduce.specs.declared.mark.Mark.TheVariants as marks
use Rattle.nr_reduce.specs.declared.mark.Told.{Told}
use Rattle.nr_reduce.specs.declared.mark.Told.TheVariants.{Granted}
use Rattle.nr_reduce.specs.declared.mark.Told.TheVariants as told
use Rattle.nr_reduce.specs.PlainJournal.{PlainServer, entries_added, journal}
use Rattle.nr_reduce.specs.NumberedJournal.{Standing, JournaledByNumber, NumberedMark, IsExecutedBy, entries_alone, tagged, standing_for, number_heard, added_by, tagged_by, tagged_from, tagged_journal}
use Rattle.nr_reduce.specs.NumberedJournal.Standing.{Old, Kept, New}
use Rattle.nr_reduce.specs.Journal.{Journaled, AnsweredByPlainServer, PlacedMark, PlainMark}
use Rattle.nr_reduce.specs.History.{CompletedCall, is_dropped}
use Rattle.nr_reduce.specs.AtEachMark.{AtEachMark}
use Rattle.nr_reduce.specs.OutcomesDue.{outcomes_due}
use Rattle.nr_reduce.specs.SubmitAnswer.{submit_answer_after}
use Rattle.nr_reduce.specs.ServerState.{ReadyCall}
use Rattle.nr_reduce.specs.Asked.{revoked_bytes}
use Rattle.nr_reduce.specs.Opening.{IsFirstLink}
use Rattle.nr_reduce.specs.Run.{server}
use Rattle.nr_reduce.proofs.SoFarLaws.{AtEachMark_each}
use Rattle.nr_reduce.proofs.Standing.{AtEachMark_more}
use Rattle.nr_laws.specs.EndCauses.{NotOldMark, HasNoOldCall}
use Rattle.nr_texts.specs.declared.opening.Opening.{Opening}
use Rattle.nr_script.specs.declared.script.Line.{Line}
use Rattle.nr_script.specs.declared.script.Line.TheVariants as lines
use Rattle.nr_script.specs.Script.{ScriptLines, IsScript, FollowOn, may_follow}
use Rattle.nr_drill.specs.Drill.{SerialServer, Setting, Drill, Pipes, plain_of, now, given, reply_by, standing_of, reply_given, journal_of, unwritten, after_output, after_all_output, settled, pipes_of, with_mark, after_submit, after_feeding, after_feeding_up, after_up, waiting_call, after_answer, after_call, after_execution, after_work, after_calls, after_raw, after_feeding_down, after_handing, after_done, after_dones, after_outcomes, after_down, answer_of_line, client_of, open_xid, after_giving_up, after_forget, after_taking_back, after_revoke, after_all_up, after_all_work, after_moves, after_round, after_opening, after_openings, start, links_of, cred_of}
use Rattle.nr_drill.specs.Follows.{Drains, Follows, parameters_of, setting_of, opened_drill}
use Rattle.nr_drill.specs.Lines.{IsClient, IsUnnumbered}
use Rattle.nr_drill.proofs.FirstLinks.{opened_firsts, down_is}
use Rattle.nr_drill.proofs.FirstLines.{both_true, follows_made, lines_heard, opened_heard}
use Rattle.nr_drill.proofs.Opening.{heard_by_lem, number_more}
use Rattle.nr_drill.proofs.Followed.{Extends, work_adds, up_adds, moves_adds}
use Rattle.std.proofs.lemmas.Bool.{leb-true}
use Rattle.nr_drill.specs.Unnumbered.{AreFirst, first_line, FirstMakes, FirstMakeAll, UnnumberedMark, IsPlainRun, HeardNone}

-- ===== what the marks of such a run are

pub plain_mark : (server : SerialServer) (run : List Mark) (mark : Mark) → PlacedMark (plain_of server) run mark → PlainMark (plain_of server) run mark → UnnumberedMark run mark → IsPlainRun server run → IsPlainRun server (run ++ mark ∷ [])
plain_mark server run mark p r u h = record {
  placed = AtEachMark_more (PlacedMark (plain_of server)) [] run mark h.placed p;
  plain_replies = AtEachMark_more (PlainMark (plain_of server)) [] run mark h.plain_replies r;
  unnumbered = AtEachMark_more UnnumberedMark [] run mark h.unnumbered u;
}

-- ===== the journal with numbers has the same entries

abbrev ExecutedZero : (ℕ → ℕ) → Mark → Type 0
ExecutedZero number (marks.Execute l xid moment payload place reply) = number l ≡ 0
ExecutedZero number mark = Unit {0}

abbrev AreZero : (ℕ → ℕ) → List Mark → Type 0
AreZero number run = AllByRecursion (ExecutedZero number) run

zero_mark : (before later : List Mark) (mark : Mark) → UnnumberedMark before mark → ExecutedZero (number_heard (before ++ mark ∷ later)) mark
zero_mark before later (marks.Execute l xid moment payload place reply) u = number_more l before (marks.Execute l xid moment payload place reply ∷ later) u.0 ∙ u.1
zero_mark before later (marks.Submit l call form answer) u = tt
zero_mark before later (marks.Wrote l side bytes) u = tt
zero_mark before later (marks.Fed l side bytes) u = tt
zero_mark before later (marks.Done l xid outcome) u = tt
zero_mark before later (marks.Lost l xid) u = tt
zero_mark before later (marks.Forget l xid) u = tt
zero_mark before later (marks.Revoke l xid bytes) u = tt
zero_mark before later (marks.Drop l) u = tt
zero_mark before later (marks.Told l what) u = tt

zero_from : (before run : List Mark) → AtEachMark UnnumberedMark before run → AreZero (number_heard (before ++ run)) run
zero_from before [] h = tt
zero_from before (mark ∷ run) h = (
  zero_mark before run mark h.0,
  subst (λ (all : List Mark). AreZero (number_heard all) run) (append_assoc before (mark ∷ []) run) (zero_from (before ++ mark ∷ []) run h.1),
)

tagged_entry : (client xid : ℕ) (e : Entry) → (tagged client xid e).entry ≡ e
tagged_entry client xid e = by (client == 0)
  where
    by : (b : Bool) → (let t : TaggedEntry = if b then record { entry = e; client = 0; xid = 0 } else record { entry = e; client = client; xid = xid } in t.entry) ≡ e
    by true = refl
    by false = refl

pub tagged_alone : (client xid : ℕ) (es : List Entry) → entries_alone (map (tagged client xid) es) ≡ es
tagged_alone client xid [] = refl
tagged_alone client xid (e ∷ es) = λ i. tagged_entry client xid e i ∷ tagged_alone client xid es i

one_alone : (plain : PlainServer) (number : ℕ → ℕ) (T : List TaggedEntry) (mark : Mark) → ExecutedZero number mark → entries_alone (tagged_by plain number T mark) ≡ entries_added plain mark
one_alone plain number T (marks.Execute l xid moment payload place reply) none =
    let es = plain.adds moment payload reply in
    ap (λ (n : ℕ). entries_alone (added_by (standing_for T n xid) (map (tagged (number l) xid) es))) none ∙ tagged_alone (number l) xid es
one_alone plain number T (marks.Submit l call form answer) none = refl
one_alone plain number T (marks.Wrote l side bytes) none = refl
one_alone plain number T (marks.Fed l side bytes) none = refl
one_alone plain number T (marks.Done l xid outcome) none = refl
one_alone plain number T (marks.Lost l xid) none = refl
one_alone plain number T (marks.Forget l xid) none = refl
one_alone plain number T (marks.Revoke l xid bytes) none = refl
one_alone plain number T (marks.Drop l) none = refl
one_alone plain number T (marks.Told l what) none = refl

pub both_alone : (T U : List TaggedEntry) → entries_alone (T ++ U) ≡ entries_alone T ++ entries_alone U
both_alone [] U = refl
both_alone (t ∷ T) U = ap (λ (es : List Entry). t.entry ∷ es) (both_alone T U)

alone_from : (plain : PlainServer) (number : ℕ → ℕ) (T : List TaggedEntry) (run : List Mark) → AreZero number run → entries_alone (tagged_from plain number T run) ≡ entries_alone T ++ flat_map (entries_added plain) run
alone_from plain number T [] h = sym (append-nil (entries_alone T))
alone_from plain number T (mark ∷ run) h =
    let more = tagged_by plain number T mark in
    let rest = flat_map (entries_added plain) run in
    alone_from plain number (T ++ more) run h.1
    ∙ ap (λ (es : List Entry). es ++ rest) (both_alone T more ∙ ap (λ (es : List Entry). entries_alone T ++ es) (one_alone plain number T mark h.0))
    ∙ append_assoc (entries_alone T) (entries_added plain mark) rest

alone_is : (plain : PlainServer) (number : ℕ → ℕ) (run : List Mark) → AreZero number run → entries_alone (tagged_journal plain number run) ≡ journal plain run
unfolding tagged_journal journal
alone_is plain number run h = alone_from plain number [] run h

pub journal_alone : (s : Setting) (run : List Mark) → IsPlainRun s.server run → entries_alone (journal_of s run) ≡ journal (plain_of s.server) run
unfolding journal_of
journal_alone s run h = alone_is (plain_of s.server) (number_heard run) run (zero_from [] run h.unnumbered)

pub length_alone : (T : List TaggedEntry) → length (entries_alone T) ≡ length T
length_alone [] = refl
length_alone (t ∷ T) = ap (λ (n : ℕ). suc n) (length_alone T)

pub length_journal : (s : Setting) (run : List Mark) → IsPlainRun s.server run → length (journal_of s run) ≡ length (journal (plain_of s.server) run)
length_journal s run h = sym (length_alone (journal_of s run)) ∙ ap (λ (es : List Entry). length es) (journal_alone s run h)

-- ===== each step

output_plain : (server : SerialServer) (link : ℕ) (side : Side) (bytes : List ℕ) (d : Drill) → IsPlainRun server d.marks → IsPlainRun server (after_output link side bytes d).marks
output_plain server link side [] d h = h
output_plain server link side (b ∷ bytes) d h = plain_mark server d.marks (marks.Wrote link side (b ∷ bytes)) tt tt tt h

settled_plain : (server : SerialServer) (s : Setting) (link : ℕ) (d : Drill) → IsPlainRun server d.marks → IsPlainRun server (settled s link d).marks
unfolding settled
settled_plain server s link d h =
    let mid = after_all_output s link Initiator d in
    output_plain server link Responder (unwritten (s.opened link) link Responder mid.marks) mid (output_plain server link Initiator (unwritten (s.opened link) link Initiator d.marks) d h)

feeding_plain : (server : SerialServer) (link : ℕ) (side : Side) (bytes : List ℕ) (rest : Pipes) (d : Drill) → IsPlainRun server d.marks → IsPlainRun server (after_feeding link side bytes rest d).marks
feeding_plain server link side [] rest d h = h
feeding_plain server link side (b ∷ bytes) rest d h = plain_mark server d.marks (marks.Fed link side (b ∷ bytes)) tt tt tt h

up_plain : (server : SerialServer) (s : Setting) (link n : ℕ) (d : Drill) → IsPlainRun server d.marks → IsPlainRun server (after_up s link n d).marks
unfolding after_up
up_plain server s link n d h =
    settled_plain server s link (after_feeding_up link n d)
    (feeding_plain server link Responder (take n (pipes_of link d).up) (record (pipes_of link d) { up = drop n (pipes_of link d).up }) d h)

handing_plain : (server : SerialServer) (link : ℕ) (c : Option CompletedCall) (d : Drill) → IsPlainRun server d.marks → IsPlainRun server (after_handing link c d).marks
handing_plain server link None d h = h
handing_plain server link (Some c) d h = plain_mark server d.marks (marks.Done link c.xid c.outcome) tt tt tt h

dones_plain : (server : SerialServer) (s : Setting) (link n : ℕ) (d : Drill) → IsPlainRun server d.marks → IsPlainRun server (after_dones s link n d).marks
unfolding after_done
dones_plain server s link zero d h = h
dones_plain server s link (suc n) d h =
    dones_plain server s link n (after_done s link d) (handing_plain server link (slice_get (outcomes_due (s.opened link) link d.marks) 0) d h)

down_plain : (server : SerialServer) (s : Setting) (link n : ℕ) (d : Drill) → IsFirstLink (s.opened link) → IsPlainRun server d.marks → IsPlainRun server (after_down s link n d).marks
unfolding after_outcomes
down_plain server s link n d first h =
    let fed = after_feeding_down link n d in
    subst (λ (x : Drill). IsPlainRun server x.marks) (sym (down_is s link n d first))
    (settled_plain server s link (after_outcomes s link fed) (dones_plain server s link (length (outcomes_due (s.opened link) link fed.marks)) fed
    (feeding_plain server link Initiator (take n (pipes_of link d).down) (record (pipes_of link d) { down = drop n (pipes_of link d).down }) d h)))

given_plain : (s : Setting) (link : ℕ) (call : ReadyCall) (reply : Option (List ℕ)) (d : Drill) → HeardNone s link d.marks → s.server.reply_to (entries_alone (journal_of s d.marks)) (now d) call.payload ≡ reply → IsPlainRun s.server d.marks →
    IsPlainRun s.server (after_answer s link call (given (now d) (length (journal_of s d.marks)) reply) d).marks
given_plain s link call None d heard e h = h
given_plain s link call (Some reply) d heard e h =
    let mark = marks.Execute link call.xid (now d) call.payload (length (journal_of s d.marks)) reply in
    settled_plain s.server s link (with_mark mark d) (plain_mark s.server d.marks mark (length_journal s d.marks h)
    (ap (λ (J : List Entry). s.server.reply_to J (now d) call.payload) (sym (journal_alone s d.marks h)) ∙ e) (heard.heard.server, heard.heard.number ∙ heard.none) h)

execution_plain : (s : Setting) (link : ℕ) (call : Option ReadyCall) (d : Drill) → HeardNone s link d.marks → IsPlainRun s.server d.marks → IsPlainRun s.server (after_execution s link call d).marks
unfolding reply_given standing_of
execution_plain s link None d heard h = h
execution_plain s link (Some call) d heard h =
    let T = journal_of s d.marks in
    let new : standing_for T (number_heard d.marks link) call.xid ≡ New = ap (λ (n : ℕ). standing_for T n call.xid) (heard.heard.number ∙ heard.none) in
    subst (λ (is : Standing). IsPlainRun s.server (after_call s link call is (reply_by s.server T (now d) call.payload is) d).marks) (sym new)
    (given_plain s link call (s.server.reply_to (entries_alone T) (now d) call.payload) d heard refl h)

pub work_plain : (s : Setting) (link : ℕ) (d : Drill) → HeardNone s link d.marks → IsPlainRun s.server d.marks → IsPlainRun s.server (after_work s link d).marks
unfolding after_work
work_plain s link d heard h = execution_plain s link (waiting_call s link d.marks) d heard h

pub still_none : (s : Setting) (link acted : ℕ) (old new : Drill) → Extends acted old new → HeardNone s link old.marks → HeardNone s link new.marks
still_none s link acted old new x h = record { heard = heard_by_lem (s.opened link) link acted old new x h.heard; none = h.none }

calls_plain : (s : Setting) (link n : ℕ) (d : Drill) → HeardNone s link d.marks → IsPlainRun s.server d.marks → IsPlainRun s.server (after_calls s link n d).marks
calls_plain s link zero d heard h = h
calls_plain s link (suc n) d heard h = calls_plain s link n (after_work s link d) (still_none s link link d (after_work s link d) (work_adds s link d) heard) (work_plain s link d heard h)

pub moves_plain : (s : Setting) (link : ℕ) (d : Drill) → IsFirstLink (s.opened link) → HeardNone s link d.marks → IsPlainRun s.server d.marks → IsPlainRun s.server (after_moves s link d).marks
unfolding after_moves after_all_work
moves_plain s link d first heard h =
    let one = after_all_up s link d in
    let two = after_all_work s link one in
    down_plain s.server s link (length (pipes_of link two).down) two first
    (calls_plain s link (length (server (s.opened link) link one.marks).state.ready) one (still_none s link link d one (up_adds s link (length (pipes_of link d).up) d) heard) (up_plain s.server s link (length (pipes_of link d).up) d h))

giving_up_plain : (s : Setting) (link : ℕ) (xid : Option ℕ) (d : Drill) → IsPlainRun s.server d.marks → IsPlainRun s.server (after_giving_up link xid d).marks
giving_up_plain s link None d h = h
giving_up_plain s link (Some xid) d h = plain_mark s.server d.marks (marks.Forget link xid) tt tt tt h

taking_back_plain : (s : Setting) (link : ℕ) (xid : Option ℕ) (d : Drill) → IsPlainRun s.server d.marks → IsPlainRun s.server (after_taking_back s link xid d).marks
taking_back_plain s link None d h = h
taking_back_plain s link (Some xid) d h =
    let mark = marks.Revoke link xid (revoked_bytes (s.opened link) link d.marks xid) in
    settled_plain s.server s link (with_mark mark d) (plain_mark s.server d.marks mark tt tt tt h)

raw_plain : (s : Setting) (link : ℕ) (side : Side) (bytes : List ℕ) (dropped : Bool) (d : Drill) → IsPlainRun s.server d.marks → IsPlainRun s.server (after_raw link side bytes dropped d).marks
raw_plain s link side bytes true d h = h
raw_plain s link side bytes false d h = h

-- ===== lines

-- each of this many clients has no number, and its server heard it
abbrev AllHeard : Setting → ℕ → List Mark → Type 0
AllHeard s clients run = (link : ℕ) → 1 ≤ link → link ≤ clients → HeardNone s link run

-- a line that has its call executed names one of the clients
abbrev WorksWithin : ℕ → Line → Type 0
WorksWithin clients (lines.Work client) = (1 ≤ client) × (client ≤ clients)
WorksWithin clients line = Unit {0}

line_plain : (s : Setting) (clients : ℕ) (line : Line) (d : Drill) → AreFirst s → WorksWithin clients line → AllHeard s clients d.marks → IsPlainRun s.server d.marks → IsPlainRun s.server (first_line s line d).marks
unfolding after_submit after_forget after_revoke
line_plain s clients (lines.Cred client cred) d first w heard h = h
line_plain s clients (lines.Call client form prog vers proc args) d first w heard h =
    let call : Call = record { prog = prog; vers = vers; proc = proc; cred = cred_of client d; args = args } in
    let mark = marks.Submit client call form (submit_answer_after (s.opened client) client d.marks call form) in
    settled_plain s.server s client (with_mark mark d) (plain_mark s.server d.marks mark tt tt tt h)
line_plain s clients (lines.Up client most) d first w heard h = up_plain s.server s client most d h
line_plain s clients (lines.Down client most) d first w heard h = down_plain s.server s client most d (first.on client) h
line_plain s clients (lines.Work client) d first w heard h = work_plain s client d (heard client w.0 w.1) h
line_plain s clients (lines.Tick seconds) d first w heard h = h
line_plain s clients (lines.Forget client number) d first w heard h = giving_up_plain s client (open_xid s client d.marks (answer_of_line s (client_of s client) number d.marks)) d h
line_plain s clients (lines.Revoke client number) d first w heard h = taking_back_plain s client (open_xid s client d.marks (answer_of_line s (client_of s client) number d.marks)) d h
line_plain s clients (lines.Drop client) d first w heard h = plain_mark s.server d.marks (marks.Drop client) tt tt tt h
line_plain s clients (lines.Rejoin client) d first w heard h = h
line_plain s clients (lines.Raw client side bytes) d first w heard h = raw_plain s client side bytes (is_dropped client d.marks) d h
line_plain s clients (lines.Grant client credits) d first w heard h = plain_mark s.server d.marks (marks.Told client (Granted credits)) tt tt tt h
line_plain s clients lines.Drain d first w heard h = h

-- links among these clients
abbrev AreWithin : ℕ → List ℕ → Type 0
AreWithin clients links = AllByRecursion (λ (l : ℕ). (1 ≤ l) × (l ≤ clients)) links

range_within : (clients from n : ℕ) → 1 ≤ from → from + n ≤ clients + 1 → AreWithin clients (range_with_len from n)
range_within clients from zero some le = tt
range_within clients from (suc n) some le = ((some, omega (arith, le)), range_within clients (from + 1) n (omega (arith, some)) (omega (arith, le)))

round_plain : (s : Setting) (clients : ℕ) (links : List ℕ) (d : Drill) → AreFirst s → AreWithin clients links → AllHeard s clients d.marks → IsPlainRun s.server d.marks → IsPlainRun s.server (after_round s links d).marks
round_plain s clients [] d first within heard h = h
round_plain s clients (l ∷ links) d first within heard h =
    round_plain s clients links (after_moves s l d) first within.1 (λ link low high. still_none s link l d (after_moves s l d) (moves_adds s l d) (heard link low high))
    (moves_plain s l d (first.on l) (heard l within.0.0 within.0.1) h)

round_heard_all : (s : Setting) (clients : ℕ) (links : List ℕ) (d : Drill) → AllHeard s clients d.marks → AllHeard s clients (after_round s links d).marks
round_heard_all s clients [] d heard = heard
round_heard_all s clients (l ∷ links) d heard =
    round_heard_all s clients links (after_moves s l d) (λ link low high. still_none s link l d (after_moves s l d) (moves_adds s l d) (heard link low high))

drain_plain : (s : Setting) (clients : ℕ) (links : List ℕ) (rounds : ℕ) (old new : Drill) → AreFirst s → AreWithin clients links → Drains s links rounds old new → AllHeard s clients old.marks → IsPlainRun s.server old.marks → IsPlainRun s.server new.marks
drain_plain s clients links zero old new first within drains heard h = subst (λ (d : Drill). IsPlainRun s.server d.marks) (sym drains.1) h
drain_plain s clients links (suc rounds) old new first within drains heard h =
    drain_plain s clients links rounds (after_round s links old) new first within drains.1 (round_heard_all s clients links old heard) (round_plain s clients links old first within heard h)

made_plain : (s : Setting) (clients : ℕ) (line : Line) (old new : Drill) → AreFirst s → WorksWithin clients line → AllHeard s clients old.marks → FirstMakes s clients line old new → IsPlainRun s.server old.marks → IsPlainRun s.server new.marks
made_plain s clients (lines.Cred client cred) old new first w heard e h = subst (λ (d : Drill). IsPlainRun s.server d.marks) (sym e) (line_plain s clients (lines.Cred client cred) old first w heard h)
made_plain s clients (lines.Call client form prog vers proc args) old new first w heard e h = subst (λ (d : Drill). IsPlainRun s.server d.marks) (sym e) (line_plain s clients (lines.Call client form prog vers proc args) old first w heard h)
made_plain s clients (lines.Up client most) old new first w heard e h = subst (λ (d : Drill). IsPlainRun s.server d.marks) (sym e) (line_plain s clients (lines.Up client most) old first w heard h)
made_plain s clients (lines.Down client most) old new first w heard e h = subst (λ (d : Drill). IsPlainRun s.server d.marks) (sym e) (line_plain s clients (lines.Down client most) old first w heard h)
made_plain s clients (lines.Work client) old new first w heard e h = subst (λ (d : Drill). IsPlainRun s.server d.marks) (sym e) (line_plain s clients (lines.Work client) old first w heard h)
made_plain s clients (lines.Tick seconds) old new first w heard e h = subst (λ (d : Drill). IsPlainRun s.server d.marks) (sym e) (line_plain s clients (lines.Tick seconds) old first w heard h)
made_plain s clients (lines.Forget client number) old new first w heard e h = subst (λ (d : Drill). IsPlainRun s.server d.marks) (sym e) (line_plain s clients (lines.Forget client number) old first w heard h)
made_plain s clients (lines.Revoke client number) old new first w heard e h = subst (λ (d : Drill). IsPlainRun s.server d.marks) (sym e) (line_plain s clients (lines.Revoke client number) old first w heard h)
made_plain s clients (lines.Drop client) old new first w heard e h = subst (λ (d : Drill). IsPlainRun s.server d.marks) (sym e) (line_plain s clients (lines.Drop client) old first w heard h)
made_plain s clients (lines.Rejoin client) old new first w heard e h = subst (λ (d : Drill). IsPlainRun s.server d.marks) (sym e) (line_plain s clients (lines.Rejoin client) old first w heard h)
made_plain s clients (lines.Raw client side bytes) old new first w heard e h = subst (λ (d : Drill). IsPlainRun s.server d.marks) (sym e) (line_plain s clients (lines.Raw client side bytes) old first w heard h)
made_plain s clients (lines.Grant client credits) old new first w heard e h = subst (λ (d : Drill). IsPlainRun s.server d.marks) (sym e) (line_plain s clients (lines.Grant client credits) old first w heard h)
made_plain s clients lines.Drain old new first w heard e h = drain_plain s clients (links_of clients) e.0 old new first (range_within clients 1 clients (omega arith) (omega arith)) e.1 heard h

all_plain : (s : Setting) (clients : ℕ) (all : List Line) (old new : Drill) → AreFirst s → AllByRecursion (WorksWithin clients) all → AllHeard s clients old.marks → FirstMakeAll s clients all old new → IsPlainRun s.server old.marks → IsPlainRun s.server new.marks
all_plain s clients [] old new first w heard e h = subst (λ (d : Drill). IsPlainRun s.server d.marks) (sym e) h
all_plain s clients (line ∷ others) old new first w heard e h =
    all_plain s clients others e.0 new first w.1
    (λ link low high. record { heard = lines_heard (s.opened link) s clients link (line ∷ []) old e.0 (e.0, e.1, refl) (heard link low high).heard; none = (heard link low high).none })
    e.2 (made_plain s clients line old e.0 first w.0 heard e.1 h)

-- ===== links open

opening_plain : (s : Setting) (link : ℕ) (d : Drill) → IsFirstLink (s.opened link) → IsPlainRun s.server d.marks → IsPlainRun s.server (after_opening s link d).marks
unfolding after_opening
opening_plain s link d first h =
    let one = settled s link d in
    let two = after_all_up s link one in
    down_plain s.server s link (length (pipes_of link two).down) two first (up_plain s.server s link (length (pipes_of link one).up) one (settled_plain s.server s link d h))

openings_plain : (s : Setting) (links : List ℕ) (d : Drill) → AreFirst s → IsPlainRun s.server d.marks → IsPlainRun s.server (after_openings s links d).marks
openings_plain s [] d first h = h
openings_plain s (l ∷ links) d first h = openings_plain s links (after_opening s l d) first (opening_plain s l d (first.on l) h)

-- ===== of a script

works_within : (opening : Opening) (before : List Line) (line : Line) → may_follow opening before line ≡ true → WorksWithin opening.clients line
works_within opening before (lines.Cred client cred) e = tt
works_within opening before (lines.Call client form prog vers proc args) e = tt
works_within opening before (lines.Up client most) e = tt
works_within opening before (lines.Down client most) e = tt
works_within opening before (lines.Work client) e =
    let parts = both_true (leb 1 client) (leb client opening.clients) e in
    (leb-true 1 client parts.0, leb-true client opening.clients parts.1)
works_within opening before (lines.Tick seconds) e = tt
works_within opening before (lines.Forget client number) e = tt
works_within opening before (lines.Revoke client number) e = tt
works_within opening before (lines.Drop client) e = tt
works_within opening before (lines.Rejoin client) e = tt
works_within opening before (lines.Raw client side bytes) e = tt
works_within opening before (lines.Grant client credits) e = tt
works_within opening before lines.Drain e = tt

all_work : (opening : Opening) (before all : List Line) → FollowOn opening before all → AllByRecursion (WorksWithin opening.clients) all
all_work opening before [] h = tt
all_work opening before (line ∷ others) h = (works_within opening before line h.0, all_work opening (before ++ line ∷ []) others h.1)

-- what a run that follows a script is
pub follows_is_plain : (server : SerialServer) (script : ScriptLines) (run : List Mark) → IsScript script → IsUnnumbered script → Follows server script run → IsPlainRun server run
unfolding opened_drill
follows_is_plain server script run is none follows =
    let s = setting_of server script.opening in
    let firsts = opened_firsts server script.opening none in
    let clients = script.opening.clients in
    let first = openings_plain s (links_of clients) (start s clients) firsts (record { placed = tt; plain_replies = tt; unnumbered = tt }) in
    let heard : AllHeard s clients (opened_drill server script.opening).marks =
    (λ link low high. record { heard = opened_heard server script is none link (low, high); none = firsts.unnumbered link }) in
    let last = all_plain s clients script.lines (opened_drill server script.opening) follows.last firsts (all_work script.opening [] script.lines is.follow_on) heard (follows_made server script run is none follows) first in
    subst (IsPlainRun server) (sym follows.marks_are) last

-- the number that the server of each link heard
pub follows_heard : (server : SerialServer) (script : ScriptLines) (run : List Mark) → IsScript script → IsUnnumbered script → Follows server script run → (link : ℕ) → IsClient script link →
    number_heard run link ≡ (parameters_of script.opening link).client.number
follows_heard server script run is none follows link within =
    let o = parameters_of script.opening link in
    let heard = lines_heard o (setting_of server script.opening) script.opening.clients link script.lines (opened_drill server script.opening) follows.last (follows_made server script run is none follows)
    (opened_heard server script is none link within) in
    ap (λ (r : List Mark). number_heard r link) follows.marks_are ∙ heard.number

-- ===== by numbers

plainly : (server : SerialServer) (run : List Mark) → IsPlainRun server run → Journaled (plain_of server) (journal (plain_of server) run) run × AnsweredByPlainServer (plain_of server) run
plainly server run h = (record { is = refl; places = h.placed }, h.plain_replies)

pub plain_run : (server : SerialServer) (script : ScriptLines) (run : List Mark) → IsScript script → IsUnnumbered script → Follows server script run →
    Journaled (plain_of server) (journal (plain_of server) run) run × AnsweredByPlainServer (plain_of server) run
plain_run server script run is none follows = plainly server run (follows_is_plain server script run is none follows)

-- no call is old
not_old : (link : ℕ) (before : List Mark) (mark : Mark) → UnnumberedMark before mark → NotOldMark link before mark
not_old link before (marks.Told l (Granted credits)) u = tt
not_old link before (marks.Told l (told.Old xid at)) u = absurd u
not_old link before (marks.Submit l call form answer) u = tt
not_old link before (marks.Wrote l side bytes) u = tt
not_old link before (marks.Fed l side bytes) u = tt
not_old link before (marks.Execute l xid moment payload place reply) u = tt
not_old link before (marks.Done l xid outcome) u = tt
not_old link before (marks.Lost l xid) u = tt
not_old link before (marks.Forget l xid) u = tt
not_old link before (marks.Revoke l xid bytes) u = tt
not_old link before (marks.Drop l) u = tt

pub none_old : (server : SerialServer) (link : ℕ) (run : List Mark) → IsPlainRun server run → HasNoOldCall link run
none_old server link run h = AtEachMark_each UnnumberedMark (NotOldMark link) [] run (not_old link) h.unnumbered

one_numbered : (plain : PlainServer) (number : ℕ → ℕ) (before : List Mark) (mark : Mark) → AreZero number before → ExecutedZero number mark → PlacedMark plain before mark → PlainMark plain before mark → UnnumberedMark before mark →
    NumberedMark plain number before mark
one_numbered plain number before (marks.Execute l xid moment payload place reply) zeros none p r u =
    let T = tagged_journal plain number before in
    let alone = alone_is plain number before zeros in
    let placed : place ≡ length T = p ∙ ap (λ (es : List Entry). length es) (sym alone) ∙ length_alone T in
    subst (λ (n : ℕ). IsExecutedBy plain T (standing_for T n xid) moment payload place reply) (sym none)
    (placed, subst (λ (es : List Entry). plain.Replies es moment payload reply) (sym alone) r)
one_numbered plain number before (marks.Told l (Granted credits)) zeros none p r u = tt
one_numbered plain number before (marks.Told l (told.Old xid at)) zeros none p r u = absurd u
one_numbered plain number before (marks.Submit l call form answer) zeros none p r u = tt
one_numbered plain number before (marks.Wrote l side bytes) zeros none p r u = tt
one_numbered plain number before (marks.Fed l side bytes) zeros none p r u = tt
one_numbered plain number before (marks.Done l xid outcome) zeros none p r u = tt
one_numbered plain number before (marks.Lost l xid) zeros none p r u = tt
one_numbered plain number before (marks.Forget l xid) zeros none p r u = tt
one_numbered plain number before (marks.Revoke l xid bytes) zeros none p r u = tt
one_numbered plain number before (marks.Drop l) zeros none p r u = tt

zero_more : (number : ℕ → ℕ) (before : List Mark) (mark : Mark) → AreZero number before → ExecutedZero number mark → AreZero number (before ++ mark ∷ [])
zero_more number [] mark h z = (z, tt)
zero_more number (m ∷ before) mark h z = (h.0, zero_more number before mark h.1 z)

numbered_from : (plain : PlainServer) (number : ℕ → ℕ) (before run : List Mark) → AreZero number before → AreZero number run → AtEachMark (PlacedMark plain) before run → AtEachMark (PlainMark plain) before run →
    AtEachMark UnnumberedMark before run → AtEachMark (NumberedMark plain number) before run
numbered_from plain number before [] zeros none p r u = tt
numbered_from plain number before (mark ∷ run) zeros none p r u = (
  one_numbered plain number before mark zeros none.0 p.0 r.0 u.0,
  numbered_from plain number (before ++ mark ∷ []) run (zero_more number before mark zeros none.0) none.1 p.1 r.1 u.1,
)

pub by_numbers : (s : Setting) (run : List Mark) → IsPlainRun s.server run → JournaledByNumber (plain_of s.server) (number_heard run) (journal_of s run) run
unfolding journal_of
by_numbers s run h = record { is = refl; each = numbered_from (plain_of s.server) (number_heard run) [] run tt (zero_from [] run h.unnumbered) h.placed h.plain_replies h.unnumbered }

-- no entry is of a client that has a number
abbrev IsOfNone : TaggedEntry → Type 0
IsOfNone t = t.client ≡ 0

none_tagged : (xid : ℕ) (es : List Entry) (client : ℕ) → client ≡ 0 → AllByRecursion IsOfNone (map (tagged client xid) es)
none_tagged xid [] client none = tt
none_tagged xid (e ∷ es) client none = (ap (λ (n : ℕ). (tagged n xid e).client) none, none_tagged xid es client none)

none_added : (is : Standing) (es : List TaggedEntry) → AllByRecursion IsOfNone es → AllByRecursion IsOfNone (added_by is es)
none_added (Old top) es h = tt
none_added (Kept place) es h = tt
none_added New es h = h

none_of_mark : (plain : PlainServer) (number : ℕ → ℕ) (T : List TaggedEntry) (mark : Mark) → ExecutedZero number mark → AllByRecursion IsOfNone (tagged_by plain number T mark)
none_of_mark plain number T (marks.Execute l xid moment payload place reply) none =
    let es = map (tagged (number l) xid) (plain.adds moment payload reply) in
    none_added (standing_for T (number l) xid) es (none_tagged xid (plain.adds moment payload reply) (number l) none)
none_of_mark plain number T (marks.Submit l call form answer) none = tt
none_of_mark plain number T (marks.Wrote l side bytes) none = tt
none_of_mark plain number T (marks.Fed l side bytes) none = tt
none_of_mark plain number T (marks.Done l xid outcome) none = tt
none_of_mark plain number T (marks.Lost l xid) none = tt
none_of_mark plain number T (marks.Forget l xid) none = tt
none_of_mark plain number T (marks.Revoke l xid bytes) none = tt
none_of_mark plain number T (marks.Drop l) none = tt
none_of_mark plain number T (marks.Told l what) none = tt

both_none : (T U : List TaggedEntry) → AllByRecursion IsOfNone T → AllByRecursion IsOfNone U → AllByRecursion IsOfNone (T ++ U)
both_none [] U h g = g
both_none (t ∷ T) U h g = (h.0, both_none T U h.1 g)

none_from : (plain : PlainServer) (number : ℕ → ℕ) (T : List TaggedEntry) (run : List Mark) → AllByRecursion IsOfNone T → AreZero number run → AllByRecursion IsOfNone (tagged_from plain number T run)
none_from plain number T [] h z = h
none_from plain number T (mark ∷ run) h z = none_from plain number (T ++ tagged_by plain number T mark) run (both_none T (tagged_by plain number T mark) h (none_of_mark plain number T mark z.0)) z.1

none_at : (T : List TaggedEntry) (place : ℕ) (t : TaggedEntry) → AllByRecursion IsOfNone T → slice_get T place ≡ Some t → t.client ≡ 0
none_at [] place t h e = absurd cc
none_at (x ∷ T) zero t h e = let same : x ≡ t = cc in ap (λ (u : TaggedEntry). u.client) (sym same) ∙ h.0
none_at (x ∷ T) (suc place) t h e = none_at T place t h.1 e

pub none_numbered : (s : Setting) (run : List Mark) (place : ℕ) (t : TaggedEntry) → IsPlainRun s.server run → slice_get (journal_of s run) place ≡ Some t → t.client ≡ 0
unfolding journal_of tagged_journal
none_numbered s run place t h e = none_at (tagged_from (plain_of s.server) (number_heard run) [] run) place t (none_from (plain_of s.server) (number_heard run) [] run tt (zero_from [] run h.unnumbered)) e
