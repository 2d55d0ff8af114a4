-- What a drill with `--log` prints is read back.
use Rattle.std.proofs.Common.{◌≡◌, ℕ, ◌≤◌, true, false, inl, inr, arith, refl, ap, ◌∙◌}
use Rattle.std.proofs.lemmas.Bool.Decides.{nat_tests}
use Rattle.nr_script.specs.Generator.{made_script}
use Rattle.nr_script.specs.Limits.{calls_max}
use Rattle.nr_script.specs.Script.{ScriptLines}
use Rattle.nr_texts.specs.Limits.{clients_max}
use Rattle.nr_capture_laws.proofs.WritableRuns.{read_back}
use Rattle.nr_drill.specs.DrillSetup.{drill_setup, server_of}
use Rattle.nr_words.specs.Reads.{is_command}
use Rattle.nr_words.specs.declared.commands.Command.TheVariants as commands
use Rattle.nr_top.specs.Ends.{ReadsScript}
use Rattle.nr_top_laws.specs.Logs.{MadeLogs, ReadLogs}

pub read_logs : (O C : Type 0) → ReadLogs O C
read_logs O C status before after ends is =
    let d = (ends.0.done is).0 in
    let given : ReadsScript before.input after.input d.ran.script = d.ran.given in (
      record {
        script = d.ran.script;
        tree = d.ran.tree;
        run = d.ran.run;
        given = given;
        drill = d.ran.drill;
        prints = d.prints;
      },
      λ none. read_back (server_of (drill_setup d.ran.tree d.ran.script.opening)) d.ran.script d.ran.run (inl (given.text, given.whole.within, given.reads)) none d.ran.drill.keeps,
    )

-- the ranges of a command that a line can ask for
ranges : (seed clients calls : ℕ) → is_command (commands.GeneratedDrill seed clients calls true) ≡ true → (1 ≤ clients) × (clients ≤ clients_max) × (calls ≤ calls_max)
ranges seed clients calls possible = grind (arith, nat_tests, possible)

made_unnumbered : (seed clients calls : ℕ) → (made_script seed clients calls).opening.numbered ≡ false
unfolding made_script
made_unnumbered seed clients calls = refl

pub made_logs : (O C : Type 0) → MadeLogs O C
made_logs O C seed clients calls status before after possible ends is =
    let d = (ends.0.done is).0 in
    let given : d.ran.script ≡ made_script seed clients calls = d.ran.given.1 in
    let within = ranges seed clients calls possible in
    let none : d.ran.script.opening.numbered ≡ false = ap (λ (script : ScriptLines). script.opening.numbered) given ∙ made_unnumbered seed clients calls in (
      record {
        script = d.ran.script;
        tree = d.ran.tree;
        run = d.ran.run;
        given = given;
        drill = d.ran.drill;
        prints = d.prints;
      },
      read_back (server_of (drill_setup d.ran.tree d.ran.script.opening)) d.ran.script d.ran.run (inr (seed, clients, calls, within.0, within.1, within.2, given)) none d.ran.drill.keeps,
    )
