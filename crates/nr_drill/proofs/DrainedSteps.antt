-- Each step of the drains of a script that moves something leaves less work, if no line before is a `raw` line of its client.
use Rattle.std.specs.Prelude.{◌<◌, ◌-◌, slice_index_or}
use Rattle.std.specs.List.{list_all, AllByRecursion}
use Rattle.std.proofs.Common.{◌≡◌, ℕ, zero, suc, ◌+◌, ◌≤◌, arith, Bool, true, false, List, [], ◌∷◌, ◌++◌, length, refl, sym, ap, subst, ◌∙◌, append-nil, append_assoc, length-append}
use Rattle.std.proofs.lemmas.List.{length-set}
use Rattle.nr_reduce.specs.declared.mark.Mark.{Mark}
use Rattle.nr_reduce.specs.Run.{server as server_state}
use Rattle.nr_reduce.proofs.Steps.{AtEachMark_first}
use Rattle.nr_laws.specs.Typed.{TypedMark, IsTyped}
use Rattle.nr_texts.specs.declared.opening.Opening.{Opening}
use Rattle.nr_script.specs.Limits.{lines_max}
use Rattle.nr_script.specs.declared.script.Line.{Line}
use Rattle.nr_script.specs.declared.script.Line.TheVariants as lines
use Rattle.nr_script.specs.Script.{ScriptLines, IsScript}
use Rattle.nr_drill.specs.Lines.{HasNoRaw}
use Rattle.nr_drill.specs.Drill.{SerialServer, Setting, Drill, IsLink, client_of, last_link, setting_now, pipes_of, after_all_up, after_all_work, after_all_down, after_calls, after_work, after_moves, after_round}
use Rattle.nr_drill.specs.Follows.{is_still, Drains, MakeAll, Follows, setting_of, opened_drill}
use Rattle.nr_drill.specs.InBytes.{RepliedMark, RepliedInBytes}
use Rattle.nr_drill.specs.WorkLeft.{DrainStep, after_step, work_left, IsLess}
use Rattle.nr_drill.specs.WorkLeft.DrainStep.{AllUp, Work, AllDown}
use Rattle.nr_drill.specs.DrainSteps.{MakesRounds, IsBeforeStep, IsDrainStep, DrainStepsLeaveLess, Moves, setting_then}
use Rattle.nr_drill.specs.Drains.{IsRunning}
use Rattle.nr_drill.specs.Unnumbered.{Heard}
use Rattle.nr_drill.proofs.Lawful.{Keeps}
use Rattle.nr_drill.proofs.Followed.{Extends, same_setting, laws_of, up_adds, work_adds, calls_adds, down_adds, moves_adds, opening_adds}
use Rattle.nr_drill.proofs.Carried.{Carries}
use Rattle.nr_drill.proofs.LessSteps.{steps_leave_less}
use Rattle.nr_drill.proofs.Actions.{IsLastOfSome, IsKept, AnyRaw, NotOf, IsLineOf, Drained, all_last, fed_up, worked_all, round_kept, lines_of, all_act, part_not_of, line_kept, lines_kept}
use Rattle.nr_drill.proofs.Links.{LinkHolds, DrillHolds, action_extends}
use Rattle.nr_drill.proofs.BegunLinks.{begun_drill, first_count, first_then}
use Rattle.nr_drill.proofs.CarriedLinks.{CarriesThen, carries_kept, first_carries}
use Rattle.nr_drill.proofs.OneRun.{made_once}

-- ===== the marks that a run begins with

abbrev Begins : List Mark → List Mark → Type 0
Begins first run = (more : List Mark) × (run ≡ first ++ more)

begins_itself : (first : List Mark) → Begins first first
begins_itself first = ([], sym (append-nil first))

begins_through : (a b c : List Mark) → Begins a b → Begins b c → Begins a c
begins_through a b c h g = (h.0 ++ g.0, g.1 ∙ ap (λ (r : List Mark). r ++ g.0) h.1 ∙ append_assoc a h.0 g.0)

begins_by : (link : ℕ) (old new : Drill) → Extends link old new → Begins old.marks new.marks
begins_by link old new x = (x.marks.added, x.marks.is)

-- ===== the step within its round

work_begins : (s : Setting) (link n all : ℕ) (d : Drill) → n < all → Begins (after_work s link (after_calls s link n d)).marks (after_calls s link all d).marks
work_begins s link n zero d lt = absurd (omega (arith, lt))
work_begins s link zero (suc all) d lt = begins_by link (after_work s link d) (after_calls s link all (after_work s link d)) (calls_adds s link all (after_work s link d))
work_begins s link (suc n) (suc all) d lt = work_begins s link n all (after_work s link d) (omega (arith, lt))

step_begins : (s : Setting) (link : ℕ) (step : DrainStep) (start d : Drill) → IsBeforeStep s link start step d → Begins (after_step s link step d).marks (after_moves s link start).marks
unfolding after_moves after_all_work
step_begins s link AllUp start d is =
    let one = after_all_up s link start in
    let ready = length (server_state (s.opened link) link one.marks).state.ready in
    let two = after_calls s link ready one in
    subst (λ (x : Drill). Begins (after_all_up s link x).marks (after_moves s link start).marks) (sym is)
    (begins_through one.marks two.marks (after_all_down s link two).marks (begins_by link one two (calls_adds s link ready one))
    (begins_by link two (after_all_down s link two) (down_adds s link (length (pipes_of link two).down) two)))
step_begins s link Work start d (n, few, is) =
    let one = after_all_up s link start in
    let ready = length (server_state (s.opened link) link one.marks).state.ready in
    let two = after_calls s link ready one in
    subst (λ (x : Drill). Begins (after_work s link x).marks (after_moves s link start).marks) (sym is)
    (begins_through (after_work s link (after_calls s link n one)).marks two.marks (after_all_down s link two).marks (work_begins s link n ready one few)
    (begins_by link two (after_all_down s link two) (down_adds s link (length (pipes_of link two).down) two)))
step_begins s link AllDown start d is = subst (λ (x : Drill). Begins (after_all_down s link x).marks (after_moves s link start).marks) (sym is) (begins_itself (after_moves s link start).marks)

pub step_adds : (s : Setting) (link : ℕ) (step : DrainStep) (d : Drill) → Extends link d (after_step s link step d)
step_adds s link AllUp d = up_adds s link (length (pipes_of link d).up) d
step_adds s link Work d = work_adds s link d
step_adds s link AllDown d = down_adds s link (length (pipes_of link d).down) d

-- ===== the round within its drain

round_begins : (s : Setting) (links : List ℕ) (d : Drill) → Begins d.marks (after_round s links d).marks
round_begins s [] d = begins_itself d.marks
round_begins s (l ∷ links) d = begins_through d.marks (after_moves s l d).marks (after_round s links (after_moves s l d)).marks (begins_by l d (after_moves s l d) (moves_adds s l d)) (round_begins s links (after_moves s l d))

drains_begin : (s : Setting) (links : List ℕ) (n : ℕ) (old new : Drill) → Drains s links n old new → Begins old.marks new.marks
drains_begin s links zero old new e = subst (λ (d : Drill). Begins old.marks d.marks) (sym e.1) (begins_itself old.marks)
drains_begin s links (suc n) old new e = begins_through old.marks (after_round s links old).marks new.marks (round_begins s links old) (drains_begin s links n (after_round s links old) new e.1)

round_parts : (s : Setting) (earlier later : List ℕ) (d : Drill) → after_round s (earlier ++ later) d ≡ after_round s later (after_round s earlier d)
round_parts s [] later d = refl
round_parts s (l ∷ earlier) later d = round_parts s earlier later (after_moves s l d)

still_differs : (b : Bool) → b ≡ true → b ≡ false → ⊥
still_differs true e f = absurd cc
still_differs false e f = absurd cc

-- what is left of a drain after a round before which something moves
rounds_left : (s : Setting) (links : List ℕ) (n all : ℕ) (old round new : Drill) → MakesRounds s links n old round → list_all (is_still s round) links ≡ false → Drains s links all old new →
    (left : ℕ) × Drains s links left (after_round s links round) new
rounds_left s links zero zero old round new made moves drains =
    absurd (still_differs (list_all (is_still s old) links) drains.0 (ap (λ (d : Drill). list_all (is_still s d) links) (sym made) ∙ moves))
rounds_left s links zero (suc all) old round new made moves drains = (all, subst (λ (d : Drill). Drains s links all (after_round s links d) new) (sym made) drains.1)
rounds_left s links (suc n) zero old round new made moves drains = absurd (still_differs (list_all (is_still s old) links) drains.0 made.0)
rounds_left s links (suc n) (suc all) old round new made moves drains = rounds_left s links n all (after_round s links old) round new made.1 moves drains.1

-- ===== the drain within its script

pub record IsCut (s : Setting) (clients : ℕ) (before after : List Line) (old new : Drill) : Type 0 where
  pub first : Drill
  pub drained : Drill
  pub rounds : ℕ
  pub made : MakeAll s clients before old first
  pub drains : Drains (setting_now s first) first.last_links rounds first drained
  pub later : MakeAll s clients after drained new

pub cut_at : (s : Setting) (clients : ℕ) (before after : List Line) (old new : Drill) → MakeAll s clients (before ++ lines.Drain ∷ after) old new → IsCut s clients before after old new
cut_at s clients [] after old new e = record { first = old; drained = e.0; rounds = e.1.0; made = refl; drains = e.1.1; later = e.2 }
cut_at s clients (line ∷ before) after old new e =
    let r = cut_at s clients before after e.0 new e.2 in
    record { first = r.first; drained = r.drained; rounds = r.rounds; made = (e.0, e.1, r.made); drains = r.drains; later = r.later }

pub front_of : {X : Type 0} (P : X → Type 0) (xs ys : List X) → AllByRecursion P (xs ++ ys) → AllByRecursion P xs
front_of P [] ys h = tt
front_of P (x ∷ xs) ys h = (h.0, front_of P xs ys h.1)

pub back_of : {X : Type 0} (P : X → Type 0) (xs ys : List X) → AllByRecursion P (xs ++ ys) → AllByRecursion P ys
back_of P [] ys h = h
back_of P (x ∷ xs) ys h = back_of P xs ys h.1

-- lines add marks
abbrev AddsOn : ℕ → List Mark → ℕ → Drill → Type 0
AddsOn clients first n d = (length d.last_links ≡ clients) × Begins first d.marks

adds_kept : (s : Setting) (opening : Opening) (first : List Mark) → IsKept s opening AnyRaw AnyRaw (AddsOn opening.clients first)
adds_kept s opening first = record {
  count = λ n d p. p.0;
  later = λ n d p. p;
  credential = λ n c cred d can typed p. p;
  time = λ n seconds d p. p;
  action = λ n c link a d last acts may p.
      (let x = action_extends (setting_now s d) link a d in
      (ap (λ (ls : List ℕ). length ls) x.last_links ∙ p.0, (p.1.0 ++ x.marks.added, x.marks.is ∙ ap (λ (r : List Mark). r ++ x.marks.added) p.1.1 ∙ append_assoc first p.1.0 x.marks.added)));
  begins = λ n c link d last acts numbered gone stays p.
      (let begun = begun_drill s c link d in
      let x = opening_adds (setting_now s begun) (last_link c begun) begun in (
        ap (λ (ls : List ℕ). length ls) x.last_links ∙ length-set d.last_links (c - 1) (length d.pipes + 1) ∙ p.0,
        (p.1.0 ++ x.marks.added, x.marks.is ∙ ap (λ (r : List Mark). r ++ x.marks.added) p.1.1 ∙ append_assoc first p.1.0 x.marks.added),
      ));
}

-- ===== the drill before the step

pub running_from : (s : Setting) (link : ℕ) (d : Drill) → Keeps s link d → Carries link d → Heard (s.opened link) link d.marks → IsRunning s link d
running_from s link d h c heard =
    let laws = laws_of (s.opened link) link d.marks h.0 h.1 h.2 in
    record {
      asked = laws.asked;
      served = laws.served;
      accepts = laws.accepts;
      matched = c.matched;
      room = c.room;
      up = λ e. (c.carried e).up;
      down = λ e. (c.carried e).down;
      gone = c.gone;
      client_heard = heard.client;
      server_heard = heard.server;
      number = heard.number;
    }

module _ (server : SerialServer) (script : ScriptLines) (run : List Mark) (is : IsScript script) (replied : RepliedInBytes run) (typed : IsTyped run) (follows : Follows server script run) (link : ℕ) (step : DrainStep) (d : Drill) (x : IsDrainStep server script link step d)
    (raw : HasNoRaw x.before (client_of (setting_then x) link)) where
  abbrev s : Setting
  s = setting_of server script.opening

  abbrev clients : ℕ
  clients = script.opening.clients

  abbrev t : Setting
  t = setting_now s x.old

  abbrev own : ℕ
  own = client_of t link

  abbrev opened : Drill
  opened = opened_drill server script.opening

  -- the lines before the drain and after it
  before_lines : AllByRecursion (IsLineOf script.opening AnyRaw) x.before
  before_lines = front_of (IsLineOf script.opening AnyRaw) x.before (lines.Drain ∷ x.after) (subst (AllByRecursion (IsLineOf script.opening AnyRaw)) x.is_cut (lines_of script is))

  after_lines : AllByRecursion (IsLineOf script.opening AnyRaw) x.after
  after_lines = (back_of (IsLineOf script.opening AnyRaw) x.before (lines.Drain ∷ x.after) (subst (AllByRecursion (IsLineOf script.opening AnyRaw)) x.is_cut (lines_of script is))).1

  few : length x.before ≤ lines_max
  few =
      let most = is.few_lines in
      let all = ap (λ (ls : List Line). length ls) x.is_cut in
      let parts = length-append x.before (lines.Drain ∷ x.after) in
      omega (arith, most, all, parts)

  -- the run begins with the marks after the step
  run_begins : Begins (after_step t link step d).marks run
  run_begins =
      let links = x.old.last_links in
      let cut = cut_at s clients x.before x.after opened follows.last (subst (λ (ls : List Line). MakeAll s clients ls opened follows.last) x.is_cut follows.makes) in
      let same : cut.first ≡ x.old = made_once s clients x.before opened cut.first x.old cut.made x.made in
      let left = rounds_left t links x.rounds cut.rounds x.old x.round cut.drained x.makes_rounds x.moves (subst (λ (o : Drill). Drains (setting_now s o) o.last_links cut.rounds o cut.drained) same cut.drains) in
      let start = after_round t x.earlier x.round in
      let moved = after_moves t link start in
      let turn = step_begins t link step start d x.is_before in
      let others = round_begins t x.later moved in
      let parts : after_round t links x.round ≡ after_round t x.later moved = ap (λ (ls : List ℕ). after_round t ls x.round) x.is_turn ∙ round_parts t x.earlier (link ∷ x.later) x.round in
      let round : Begins (after_step t link step d).marks (after_round t links x.round).marks =
      subst (λ (o : Drill). Begins (after_step t link step d).marks o.marks) (sym parts) (begins_through (after_step t link step d).marks moved.marks (after_round t x.later moved).marks turn others) in
      let drained = drains_begin t links left.0 (after_round t links x.round) cut.drained left.1 in
      let whole = begins_through (after_step t link step d).marks (after_round t links x.round).marks cut.drained.marks round drained in
      let k = adds_kept s script.opening [] in
      let old_count = (lines_kept s script.opening AnyRaw AnyRaw (AddsOn clients []) k 0 (length x.before) clients x.before opened cut.first before_lines (all_act x.before) (omega arith) cut.made (first_count server script is, (opened.marks, refl))).0 in
      let count = (line_kept s script.opening AnyRaw AnyRaw (AddsOn clients []) k 0 clients lines.Drain cut.first cut.drained tt (λ c. tt) (cut.rounds, cut.drains) (old_count, (cut.first.marks, refl))).0 in
      let rest = (lines_kept s script.opening AnyRaw AnyRaw (AddsOn clients cut.drained.marks) (adds_kept s script.opening cut.drained.marks) 0 (length x.after) clients x.after cut.drained follows.last after_lines (all_act x.after) (omega arith) cut.later
      (count, begins_itself cut.drained.marks)).1 in
      subst (Begins (after_step t link step d).marks) (sym follows.marks_are) (begins_through (after_step t link step d).marks cut.drained.marks follows.last.marks whole rest)

  -- what is kept up to the step
  abbrev P : ℕ → Drill → Type 0
  P = CarriesThen s script.opening own

  k : IsKept s script.opening AnyRaw (NotOf own) P
  k = carries_kept s script.opening own

  at_old : P (length x.before) x.old
  at_old =
      lines_kept s script.opening AnyRaw (NotOf own) P k 0 (length x.before) clients x.before opened x.old (part_not_of script.opening own x.before raw before_lines) (all_act x.before) (omega arith) x.made
      (first_then server script is, λ le all. first_carries server script is own)

  links_last : AllByRecursion (IsLastOfSome clients x.old) x.old.last_links
  links_last = all_last clients x.old (k.count (length x.before) x.old at_old)

  turn_last : AllByRecursion (IsLastOfSome clients x.old) (x.earlier ++ link ∷ x.later)
  turn_last = subst (AllByRecursion (IsLastOfSome clients x.old)) x.is_turn links_last

  own_last : IsLastOfSome clients x.old link
  own_last = (back_of (IsLastOfSome clients x.old) x.earlier (link ∷ x.later) turn_last).0

  abbrev DrainedTo : Drill → Type 0
  DrainedTo new = Drained s script.opening AnyRaw (NotOf own) P k x.old (length x.before) new

  rounds_kept : (n : ℕ) (old new : Drill) → MakesRounds t x.old.last_links n old new → DrainedTo old → DrainedTo new
  rounds_kept zero old new e h = subst DrainedTo (sym e) h
  rounds_kept (suc n) old new e h = rounds_kept n (after_round t x.old.last_links old) new e.1 (round_kept s script.opening AnyRaw (NotOf own) P k x.old (length x.before) x.old.last_links old (λ c. tt) links_last h)

  at_turn : DrainedTo (after_round t x.earlier x.round)
  at_turn =
      round_kept s script.opening AnyRaw (NotOf own) P k x.old (length x.before) x.earlier x.round (λ c. tt) (front_of (IsLastOfSome clients x.old) x.earlier (link ∷ x.later) turn_last)
      (rounds_kept x.rounds x.old x.round x.makes_rounds (record { holds = at_old; keeps = record { opened = refl; last_links = refl } }))

  up_kept : (start : Drill) → DrainedTo start → DrainedTo (after_all_up t link start)
  up_kept start h = fed_up s script.opening AnyRaw (NotOf own) P k x.old (length x.before) own_last.0 link (length (pipes_of link start).up) start own_last.1 tt h

  calls_kept : (n : ℕ) (start : Drill) → DrainedTo start → DrainedTo (after_calls t link n start)
  calls_kept n start h = worked_all s script.opening AnyRaw (NotOf own) P k x.old (length x.before) own_last.0 link n start own_last.1 tt h

  before_kept : (which : DrainStep) (start : Drill) → IsBeforeStep t link start which d → DrainedTo start → DrainedTo d
  unfolding after_all_work
  before_kept AllUp start e h = subst DrainedTo (sym e) h
  before_kept Work start (n, lt, e) h = subst DrainedTo (sym e) (calls_kept n (after_all_up t link start) (up_kept start h))
  before_kept AllDown start e h =
      let one = after_all_up t link start in
      subst DrainedTo (sym e) (calls_kept (length (server_state (t.opened link) link one.marks).state.ready) one (up_kept start h))

  at_step : DrainedTo d
  at_step = before_kept step (after_round t x.earlier x.round) x.is_before at_turn

  marks_replied : RepliedInBytes d.marks
  marks_replied =
      let all = begins_through d.marks (after_step t link step d).marks run (begins_by link d (after_step t link step d) (step_adds t link step d)) run_begins in
      AtEachMark_first RepliedMark [] d.marks all.0 (subst RepliedInBytes all.1 replied)

  step_typed : IsTyped (after_step t link step d).marks
  step_typed = AtEachMark_first TypedMark [] (after_step t link step d).marks run_begins.0 (subst IsTyped run_begins.1 typed)

  held : DrillHolds s script.opening (length x.before) d
  held = at_step.holds.0.1 few marks_replied

  same : setting_now s d ≡ t
  same = same_setting s x.old d at_step.keeps

  here : IsLink d link × (client_of (setting_now s d) link ≡ own_last.0)
  here = held.frame.owned own_last.0 link (record {
    low = own_last.1.low;
    high = own_last.1.high;
    is = own_last.1.is ∙ ap (λ (ls : List ℕ). slice_index_or ls (own_last.0 - 1) own_last.0) (sym at_step.keeps.last_links);
  })

  now_holds : LinkHolds script.opening (length x.before) (t.opened link) link d.marks
  now_holds = subst (λ (v : Setting). LinkHolds script.opening (length x.before) (v.opened link) link d.marks) same (held.links link here.0)

  running : IsRunning t link d
  running = running_from t link d (now_holds.lawful, now_holds.written, now_holds.none) (at_step.holds.1 few marks_replied link here.0 (ap (λ (v : Setting). client_of v link) same)) now_holds.heard

  step_less : Moves t link step d → IsLess (work_left t (after_step t link step d) link) (work_left t d link)
  step_less moves = steps_leave_less t link step d now_holds.opened running moves step_typed

pub follows_leaves_less : (server : SerialServer) (script : ScriptLines) (run : List Mark) → IsScript script → RepliedInBytes run → IsTyped run → Follows server script run → (link : ℕ) → DrainStepsLeaveLess server script link
follows_leaves_less server script run is replied typed follows link step d x raw moves = step_less server script run is replied typed follows link step d x raw moves
