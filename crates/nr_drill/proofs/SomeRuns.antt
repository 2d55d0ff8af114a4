-- A script that puts no bytes into pipes has a run.
use Rattle.std.specs.List.{list_any}
use Rattle.std.specs.Prelude.{◌||◌}
use Rattle.std.proofs.Common.{◌≡◌, ℕ, Bool, true, false, List, [], ◌∷◌, ◌++◌, refl, sym, subst, ◌∙◌, append_assoc}
use Rattle.nr_reduce.specs.declared.mark.Mark.{Mark}
use Rattle.nr_script.specs.declared.script.Line.{Line}
use Rattle.nr_script.specs.declared.script.Line.TheVariants as lines
use Rattle.nr_script.specs.Script.{ScriptLines, IsScript}
use Rattle.nr_drill.specs.Drill.{SerialServer, Setting, Drill, setting_now}
use Rattle.nr_drill.specs.Follows.{after_line, Drains, Makes, MakeAll, Follows, setting_of, opened_drill}
use Rattle.nr_drill.specs.Lines.{is_raw_of, HasNoRaw, IsClient}
use Rattle.nr_drill.specs.DrillSetup.{drill_setup, server_of}
use Rattle.nr_drill.specs.Laws.{PlainDrainsEnd, ScriptsHaveRuns, DrillsHaveRuns}
use Rattle.nr_drill.specs.Drains.{AnswersInBytes, AnswersCalls}
use Rattle.nr_drill.proofs.EndingDrains.{drains_end}
use Rattle.nr_drill.proofs.LessPlain.{plain_answers, plain_answers_in_bytes, plain_runs_reply_in_bytes}
use Rattle.nr_drill.proofs.Headed.{drill_is_run}
use Rattle.nr_drill.proofs.OneRun.{last_made}
use Rattle.nr_byte_laws.proofs.TreeBytes.{drill_in_bytes}
use Rattle.nr_drill.proofs.DrillTrees.{drill_sane}
use Rattle.nr_plain.proofs.KeptCalls.{server_keeps_calls}
use Rattle.nr_reduce.specs.KeepsCalls.{KeepsCalls}

-- what a line makes, if a drain of it ends
line_made : (s : Setting) (clients : ℕ) (line : Line) (mid : Drill) → ((rounds : ℕ) × (new : Drill) × Drains (setting_now s mid) mid.last_links rounds mid new) → (new : Drill) × Makes s clients line mid new
line_made s clients lines.Drain mid drains = (drains.1, (drains.0, drains.2))
line_made s clients line mid drains = (after_line s line mid, refl)

any_front : {X : Type 0} (p : X → Bool) (xs ys : List X) → list_any p (xs ++ ys) ≡ false → list_any p xs ≡ false
any_front p [] ys e = refl
any_front {X = X} p (x ∷ xs) ys e = by (p x) e (any_front p xs ys)
  where
    by : (b : Bool) → (b || list_any p (xs ++ ys)) ≡ false → (list_any p (xs ++ ys) ≡ false → list_any p xs ≡ false) → (b || list_any p xs) ≡ false
    by true e rest = absurd cc
    by false e rest = rest e

none_before : (script : ScriptLines) (before after : List Line) → script.lines ≡ before ++ after → ((client : ℕ) → IsClient script client → HasNoRaw script.lines client) →
    (client : ℕ) → IsClient script client → HasNoRaw before client
none_before script before after cut raw client within = any_front (is_raw_of client) before after (subst (λ (all : List Line). list_any (is_raw_of client) all ≡ false) cut (raw client within))

rest_made : (server : SerialServer) (script : ScriptLines) → IsScript script → (script.opening.numbered ≡ true → KeepsCalls server.reply_to server.adds) → ((client : ℕ) → IsClient script client → HasNoRaw script.lines client) →
    AnswersInBytes (setting_of server script.opening) → AnswersCalls (setting_of server script.opening) →
    (after before : List Line) → script.lines ≡ before ++ after → (mid : Drill) →
    MakeAll (setting_of server script.opening) script.opening.clients before (opened_drill server script.opening) mid →
    (last : Drill) × MakeAll (setting_of server script.opening) script.opening.clients after mid last
rest_made server script is keeps raw replies answers [] before cut mid made = (mid, refl)
rest_made server script is keeps raw replies answers (line ∷ after) before cut mid made =
    let s = setting_of server script.opening in
    let clients = script.opening.clients in
    let next = line_made s clients line mid (drains_end server script is keeps replies answers before (line ∷ after) cut (none_before script before (line ∷ after) cut raw) mid made) in
    let rest = rest_made server script is keeps raw replies answers after (before ++ line ∷ []) (cut ∙ sym (append_assoc before (line ∷ []) after)) next.0
    (last_made s clients before line (opened_drill server script.opening) mid next.0 made next.1) in
    (rest.0, (next.0, next.1, rest.1))

-- if the server has a reply to each call that waits, and replies in bytes
some_run : (server : SerialServer) (script : ScriptLines) → IsScript script → (script.opening.numbered ≡ true → KeepsCalls server.reply_to server.adds) → ((client : ℕ) → IsClient script client → HasNoRaw script.lines client) →
    AnswersInBytes (setting_of server script.opening) → AnswersCalls (setting_of server script.opening) → (run : List Mark) × Follows server script run
some_run server script is keeps raw replies answers =
    let all = rest_made server script is keeps raw replies answers script.lines [] refl (opened_drill server script.opening) refl in
    (all.0.marks, record { last = all.0; makes = all.1; marks_are = refl })

pub plain_drains_end : PlainDrainsEnd
plain_drains_end tree script in_bytes is before after cut raw mid made =
    drains_end (server_of (drill_setup tree script.opening)) script is (λ some. server_keeps_calls (drill_setup tree script.opening)) (plain_answers_in_bytes tree script.opening in_bytes) (plain_answers tree script.opening) before after cut raw mid made

-- so it has with the plain server of a drill over a tree in bytes
pub scripts_have_runs : ScriptsHaveRuns
scripts_have_runs tree script in_bytes is raw = some_run (server_of (drill_setup tree script.opening)) script is (λ some. server_keeps_calls (drill_setup tree script.opening)) raw (plain_answers_in_bytes tree script.opening in_bytes) (plain_answers tree script.opening)

pub drills_have_runs : DrillsHaveRuns
drills_have_runs tree script first is raw =
    let in_bytes = drill_in_bytes tree first in
    let run = scripts_have_runs tree script in_bytes is raw in
    (run.0, drill_is_run tree script run.0 (drill_sane tree first) is (plain_runs_reply_in_bytes tree script run.0 in_bytes is run.1) run.1)
