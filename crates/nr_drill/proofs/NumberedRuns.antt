-- After all lines of a script the marks are those of the one journal by number, and the server of each link has heard its client's number.
use Rattle.std.specs.List.{AllByRecursion}
use Rattle.std.proofs.Common.{◌≡◌, ◌≢◌, ℕ, ◌+◌, ◌≤◌, arith, List, [], ◌∷◌, ◌++◌, length, refl, sym, ap, subst, ◌∙◌}
use Rattle.nr_wire.specs.declared.hello.Side.TheVariants.{Initiator, Responder}
use Rattle.nr_link.specs.Frames.{frames_of}
use Rattle.nr_reduce.specs.declared.call.Call.{Call}
use Rattle.nr_reduce.specs.declared.call.Form.{Form}
use Rattle.nr_reduce.specs.declared.mark.Mark.{Mark}
use Rattle.nr_reduce.specs.declared.mark.Mark.TheVariants as marks
use Rattle.nr_reduce.specs.declared.mark.Told.TheVariants.{Granted}
use Rattle.nr_reduce.specs.declared.mark.Told.TheVariants as told
use Rattle.nr_reduce.specs.AtEachMark.{AtEachMark}
use Rattle.nr_reduce.specs.History.{fed_at, bytes_received, is_dropped}
use Rattle.nr_reduce.specs.NumberedJournal.{JournaledByNumber, number_heard}
use Rattle.nr_reduce.specs.SubmitAnswer.{submit_answer_after}
use Rattle.nr_reduce.proofs.Standing.{received_one}
use Rattle.nr_texts.specs.declared.opening.Opening.{Opening}
use Rattle.nr_script.specs.Limits.{lines_max}
use Rattle.nr_script.specs.Script.{ScriptLines, IsScript}
use Rattle.nr_drill.specs.Drill.{SerialServer, link_of, Setting, Drill, IsLink, plain_of, journal_of, last_link, setting_now, links_of, start, after_drop, after_grant, after_opening, after_openings, after_leaving}
use Rattle.nr_drill.specs.Follows.{Follows, setting_of, last_setting, opened_drill}
use Rattle.nr_drill.specs.InBytes.{RepliedInBytes}
use Rattle.nr_drill.proofs.LessFrames.{still_heard}
use Rattle.nr_drill.proofs.Followed.{Extends, opening_adds}
use Rattle.nr_drill.proofs.Actions.{Action, after_action, IsLastOf, IsKept, AnyRaw, lines_kept, lines_of, all_act}
use Rattle.nr_drill.proofs.Actions.Action.{SubmitCall, FeedUp, FeedDown, WorkOnce, ForgetCall, RevokeCall, DropLink, PutRaw, GrantCredits}
use Rattle.nr_drill.proofs.AddedMarks.{AddsBy, QuietRules, MarkRules, adds_one, submit_by, up_by, down_by, work_by, forget_by, revoke_by, opening_by, raw_by, each_both}
use Rattle.nr_drill.proofs.NumberedJournals.{StandingMark, HeardMark, standing_quiet, standing_rules, journaled_by_number}
use Rattle.nr_drill.proofs.Links.{DrillHolds, action_extends}
use Rattle.nr_drill.proofs.BegunLinks.{Holds, begun_drill, holds_kept, counted_most, first_then, replied_before, lines_hold}

-- ===== the marks of an action

pub record ActionRules (P : List Mark → Mark → Type 0) (s : Setting) (link : ℕ) : Type 0 where
  pub marks_by : MarkRules P s link
  pub submits : (d : Drill) (call : Call) (form : Form) → P d.marks (marks.Submit link call form (submit_answer_after (s.opened link) link d.marks call form))
  pub drops : (run : List Mark) → P run (marks.Drop link)
  pub grants : (run : List Mark) (credits : ℕ) → P run (marks.Told link (Granted credits))

pub action_by : (P : List Mark → Mark → Type 0) (s : Setting) (link : ℕ) → ActionRules P s link → (a : Action) (d : Drill) → AddsBy P d (after_action s link a d)
action_by P s link rules (SubmitCall call form) d = submit_by P s link rules.marks_by.quiet call form d (rules.submits d call form)
action_by P s link rules (FeedUp most) d = up_by P s link rules.marks_by.quiet most d
action_by P s link rules (FeedDown most) d = down_by P s link rules.marks_by.quiet most d
action_by P s link rules WorkOnce d = work_by P s link rules.marks_by d
action_by P s link rules (ForgetCall number) d = forget_by P s link rules.marks_by number d
action_by P s link rules (RevokeCall number) d = revoke_by P s link rules.marks_by number d
action_by P s link rules DropLink d = adds_one P (marks.Drop link) d (after_drop link d) refl (rules.drops d.marks)
action_by P s link rules (PutRaw side bytes) d = raw_by P link side bytes (is_dropped link d.marks) d
action_by P s link rules (GrantCredits credits) d = adds_one P (marks.Told link (Granted credits)) d (after_grant link credits d) refl (rules.grants d.marks credits)

-- so all marks then
pub each_then : (P : List Mark → Mark → Type 0) (old new : Drill) → AddsBy P old new → AtEachMark P [] old.marks → AtEachMark P [] new.marks
each_then P old new x h = subst (AtEachMark P []) (sym x.is) (each_both P [] old.marks x.added h x.each)

standing_actions : (s : Setting) (link : ℕ) → ActionRules (StandingMark s.server) s link
standing_actions s link = record { marks_by = standing_rules s link; submits = λ d call form. tt; drops = λ run. tt; grants = λ run credits. tt }

-- ===== each link of an executed call has been heard

heard_mark : (link : ℕ) (run : List Mark) (mark : Mark) → link_of mark ≡ link → frames_of Initiator (bytes_received link Responder run) ≢ [] → HeardMark run mark
heard_mark link run (marks.Execute l xid moment payload place reply) own h = subst (λ (m : ℕ). frames_of Initiator (bytes_received m Responder run) ≢ []) (sym own) h
heard_mark link run (marks.Told l (told.Old xid at)) own h = subst (λ (m : ℕ). frames_of Initiator (bytes_received m Responder run) ≢ []) (sym own) h
heard_mark link run (marks.Told l (Granted credits)) own h = tt
heard_mark link run (marks.Submit l call form answer) own h = tt
heard_mark link run (marks.Wrote l side bytes) own h = tt
heard_mark link run (marks.Fed l side bytes) own h = tt
heard_mark link run (marks.Done l xid outcome) own h = tt
heard_mark link run (marks.Lost l xid) own h = tt
heard_mark link run (marks.Forget l xid) own h = tt
heard_mark link run (marks.Revoke l xid bytes) own h = tt
heard_mark link run (marks.Drop l) own h = tt

heard_from : (link : ℕ) (before added : List Mark) → AllByRecursion (λ (mark : Mark). link_of mark ≡ link) added → frames_of Initiator (bytes_received link Responder before) ≢ [] → AtEachMark HeardMark before added
heard_from link before [] own h = tt
heard_from link before (mark ∷ added) own h = (
  heard_mark link before mark own.0 h,
  heard_from link (before ++ mark ∷ []) added own.1
      (subst (λ (xs : List ℕ). frames_of Initiator xs ≢ []) (sym (received_one link Responder before mark)) (still_heard Initiator (bytes_received link Responder before) (fed_at link Responder mark) h)),
)

-- ===== a link that opens executes nothing

abbrev QuietMark : List Mark → Mark → Type 0
QuietMark before (marks.Execute l xid moment payload place reply) = ⊥
QuietMark before (marks.Told l (told.Old xid at)) = ⊥
QuietMark before mark = Unit {0}

quiet_rules : (s : Setting) (link : ℕ) → QuietRules QuietMark s link
quiet_rules s link = record { wrote = λ run side bytes. tt; fed = λ run side bytes. tt; done = λ run xid outcome. tt; resent = λ run w rest is. tt }

quiet_heard : (before : List Mark) (mark : Mark) → QuietMark before mark → HeardMark before mark
quiet_heard before (marks.Execute l xid moment payload place reply) q = absurd q
quiet_heard before (marks.Told l (told.Old xid at)) q = absurd q
quiet_heard before (marks.Told l (Granted credits)) q = tt
quiet_heard before (marks.Submit l call form answer) q = tt
quiet_heard before (marks.Wrote l side bytes) q = tt
quiet_heard before (marks.Fed l side bytes) q = tt
quiet_heard before (marks.Done l xid outcome) q = tt
quiet_heard before (marks.Lost l xid) q = tt
quiet_heard before (marks.Forget l xid) q = tt
quiet_heard before (marks.Revoke l xid bytes) q = tt
quiet_heard before (marks.Drop l) q = tt

each_quiet : (before run : List Mark) → AtEachMark QuietMark before run → AtEachMark HeardMark before run
each_quiet before [] h = tt
each_quiet before (mark ∷ run) h = (quiet_heard before mark h.0, each_quiet (before ++ mark ∷ []) run h.1)

-- ===== all lines

-- the marks of a drill are those of the journal
pub record IsJournaled (server : SerialServer) (d : Drill) : Type 0 where
  pub stands : AtEachMark (StandingMark server) [] d.marks
  pub heard : AtEachMark HeardMark [] d.marks

opening_journaled : (s : Setting) (link : ℕ) (d : Drill) → IsJournaled s.server d → IsJournaled s.server (after_opening s link d)
opening_journaled s link d h =
    let quiet = opening_by QuietMark s link (quiet_rules s link) d in
    record {
      stands = each_then (StandingMark s.server) d (after_opening s link d) (opening_by (StandingMark s.server) s link (standing_quiet s link) d) h.stands;
      heard = each_then HeardMark d (after_opening s link d) (record { added = quiet.added; is = quiet.is; each = each_quiet d.marks quiet.added quiet.each }) h.heard;
    }

openings_journaled : (s : Setting) (links : List ℕ) (d : Drill) → IsJournaled s.server d → IsJournaled s.server (after_openings s links d)
openings_journaled s [] d h = h
openings_journaled s (link ∷ links) d h = openings_journaled s links (after_opening s link d) (opening_journaled s link d h)

pub acted_journaled : (t : Setting) (link : ℕ) (a : Action) (d : Drill) → frames_of Initiator (bytes_received link Responder d.marks) ≢ [] → IsJournaled t.server d → IsJournaled t.server (after_action t link a d)
acted_journaled t link a d heard h =
    let x : Extends link d (after_action t link a d) = action_extends t link a d in
    record {
      stands = each_then (StandingMark t.server) d (after_action t link a d) (action_by (StandingMark t.server) t link (standing_actions t link) a d) h.stands;
      heard = each_then HeardMark d (after_action t link a d) (record { added = x.marks.added; is = x.marks.is; each = heard_from link d.marks x.marks.added x.marks.own heard }) h.heard;
    }

action_journaled : (s : Setting) (opening : Opening) (n c link : ℕ) (a : Action) (d : Drill) → IsLastOf opening.clients c link d → DrillHolds s opening n d → IsJournaled s.server d → IsJournaled s.server (after_action (setting_now s d) link a d)
action_journaled s opening n c link a d last holds h = acted_journaled (setting_now s d) link a d (holds.links link (holds.frame.owned c link last).0).heard.server h

abbrev pub JournaledThen : Setting → Opening → ℕ → Drill → Type 0
JournaledThen s opening n d = Holds s opening n d × (n ≤ lines_max → RepliedInBytes d.marks → IsJournaled s.server d)

pub journaled_kept : (s : Setting) (opening : Opening) → IsKept s opening AnyRaw AnyRaw (JournaledThen s opening)
journaled_kept s opening =
    let k = holds_kept s opening AnyRaw AnyRaw in
    record {
      count = λ n d p. k.count n d p.0;
      later = λ n d p. (k.later n d p.0, λ le replied. p.1 (omega (arith, le)) replied);
      credential = λ n c cred d can typed p. (k.credential n c cred d can typed p.0, λ le replied. (let h = p.1 le replied in record { stands = h.stands; heard = h.heard }));
      time = λ n seconds d p. (k.time n seconds d p.0, λ le replied. (let h = p.1 le replied in record { stands = h.stands; heard = h.heard }));
      action = λ n c link a d last acts may p. (
        k.action n c link a d last acts may p.0,
        λ le replied. (let most = counted_most a n in
            let fits : n ≤ lines_max = omega (arith, le, most) in
            let before = replied_before link d (after_action (setting_now s d) link a d) (action_extends (setting_now s d) link a d) replied in
            action_journaled s opening n c link a d last (p.0.1 fits before) (p.1 fits before)),
      );
      begins = λ n c link d last acts numbered gone stays p. (
        k.begins n c link d last acts numbered gone stays p.0,
        λ le replied. (let fits : n ≤ lines_max = omega (arith, le) in
            let begun = begun_drill s c link d in
            let own = last_link c begun in
            let before = replied_before own begun (after_leaving s c link d) (opening_adds (setting_now s begun) own begun) replied in
            let h = p.1 fits before in
            opening_journaled (setting_now s begun) own begun (record { stands = h.stands; heard = h.heard })),
      );
    }

pub first_journaled : (server : SerialServer) (opening : Opening) → IsJournaled server (opened_drill server opening)
unfolding opened_drill
first_journaled server opening = openings_journaled (setting_of server opening) (links_of opening.clients) (start (setting_of server opening) opening.clients) (record { stands = tt; heard = tt })

-- each link of an executed call has been heard by then, and the call has the reply that the journal gives
pub follows_stands : (server : SerialServer) (script : ScriptLines) (run : List Mark) → IsScript script → RepliedInBytes run → Follows server script run → AtEachMark HeardMark [] run × AtEachMark (StandingMark server) [] run
follows_stands server script run is replied follows =
    let s = setting_of server script.opening in
    let all = lines_kept s script.opening AnyRaw AnyRaw (JournaledThen s script.opening) (journaled_kept s script.opening) 0 (length script.lines) script.opening.clients script.lines (opened_drill server script.opening)
    follows.last (lines_of script is) (all_act script.lines) (omega arith) follows.makes
    (first_then server script is, λ le replied. first_journaled server script.opening) in
    let h = all.1 is.few_lines (subst RepliedInBytes follows.marks_are replied) in
    let back = sym follows.marks_are in
    (subst (AtEachMark HeardMark []) back h.heard, subst (AtEachMark (StandingMark server) []) back h.stands)

pub follows_journaled : (server : SerialServer) (script : ScriptLines) (run : List Mark) → IsScript script → RepliedInBytes run → (follows : Follows server script run) → JournaledByNumber (plain_of server) (number_heard run) (journal_of (last_setting follows) run) run
follows_journaled server script run is replied follows =
    (let h = follows_stands server script run is replied follows in journaled_by_number (last_setting follows) run h.0 h.1)

pub follows_numbers : (server : SerialServer) (script : ScriptLines) (run : List Mark) → IsScript script → RepliedInBytes run → (follows : Follows server script run) → (link : ℕ) → IsLink follows.last link →
    number_heard run link ≡ ((last_setting follows).opened link).client.number
follows_numbers server script run is replied follows link within =
    let h = (lines_hold server script is run replied follows).links link within in
    ap (λ (r : List Mark). number_heard r link) follows.marks_are ∙ h.heard.number
