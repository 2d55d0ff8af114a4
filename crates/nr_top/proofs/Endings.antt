-- What a cause, and what is written for it, say of the status of a drill.
use Rattle.std.proofs.Common.{◌≡◌, Bool, true, false, ℕ, ◌<◌, ◌≤◌, rules, List, length, Option, Some, IfSome, Result, Ok, Err, IfOk, refl, sym, ap, subst, ◌∙◌, arith, inl, inr, le-ltb, lt-ltb}
use Rattle.nr_outside.specs.Streams.{SourceAt, SinkAt, Writes, WritesNone}
use Rattle.nr_outside.specs.Whole.{input_max}
use Rattle.nr_script.specs.Script.{ScriptLines, script_of}
use Rattle.nr_drill.specs.declared.report.Report.{Report}
use Rattle.nr_drill.specs.DrillSetup.{GivesReport, drill_setup, server_of}
use Rattle.nr_drill.proofs.Told.{reports_tell}
use Rattle.nr_top.specs.Ends.Cause.{NoMemory, InputFault, OutputFault, BadScript, OverBudget}
use Rattle.nr_top.specs.Statuses as statuses
use Rattle.nr_top.specs.declared.drill.ScriptSource.{ScriptSource}
use Rattle.nr_top.specs.declared.drill.ScriptSource.TheVariants as sources
use Rattle.nr_top.specs.Sources.{due_status}
use Rattle.nr_top.specs.private.ReportTexts.{report_text}
use Rattle.nr_top.specs.Ends.{Done, IsGiven, IsPrinted, StoppedBefore, ReadsFor, BadLine, TooLong, Cause, FaultReport, memory_text, bad_line_text, budget_text, printed, Ends, Stopped, Reported, ReportsFailure}

-- the fault count of err rose
report_fault : (log : Bool) (source : ScriptSource) (status : ℕ) (input input' : SourceAt) (out out' err err' : SinkAt) → status ≡ statuses.fault → FaultReport log source input input' out out' err err' → Ends log source status input input' out out' err err'
report_fault log source status input input' out out' err err' is told = record {
  known = inr (inr (inl is));
  done = λ e. absurd (omega (arith, e, is));
  memory = λ e. absurd (omega (arith, e, is));
  script = λ e. absurd (omega (arith, e, is));
  budget = λ e. absurd (omega (arith, e, is));
  fault = λ _. told;
  unfailing = λ other. absurd (other is);
  due = λ text left. inr (inr is);
}

-- what is written for a cause with this status
with_status : (cause : Cause) (status : ℕ) (err err' : SinkAt) → status ≡ statuses.fault → ReportsFailure cause status err err' → ReportsFailure cause statuses.fault err err'
with_status cause status err err' is said = subst (λ (s : ℕ). ReportsFailure cause s err err') is said

-- the text of a cause was written, or the fault count of err rose
said_or : {due : ℕ} {text : List ℕ} (log : Bool) (cause : Cause) (source : ScriptSource) (status : ℕ) (input input' : SourceAt) (out out' err err' : SinkAt) → Stopped log cause source input input' out out' → ReportsFailure cause status err err'
    → Reported due text status err err' → (status ≡ due → Writes err err' text → Ends log source status input input' out out' err err') → Ends log source status input input' out out' err err'
said_or log cause source status input input' out out' err err' stopped said (inl spoke) make = make spoke.0 spoke.1
said_or log cause source status input input' out out' err err' stopped said (inr failed) make =
    report_fault log source status input input' out out' err err' failed.0 (cause, stopped, with_status cause status err err' failed.0 said)

took_unfailing : (source : ScriptSource) (input input' : SourceAt) → ReadsFor source input input' → input'.faults ≡ input.faults
took_unfailing sources.Input input input' took = took.1
took_unfailing (sources.Seed seed clients calls) input input' took = ap (λ (i : SourceAt). i.faults) took

no_memory : (log : Bool) (source : ScriptSource) (status : ℕ) (input input' : SourceAt) (out out' err err' : SinkAt) → Stopped log NoMemory source input input' out out' → status ≡ statuses.no_memory → Writes err err' memory_text → Ends log source status input input' out out' err err'
no_memory log source status input input' out out' err err' stopped is said = record {
  known = inr (inl is);
  done = λ e. absurd (omega (arith, e, is));
  memory = λ _. (stopped, said);
  script = λ e. absurd (omega (arith, e, is));
  budget = λ e. absurd (omega (arith, e, is));
  fault = λ e. absurd (omega (arith, e, is));
  unfailing = λ _. (took_unfailing source input input' stopped.0, stopped.1.unfailing, said.unfailing);
  due = λ text left. inr (inl is);
}

-- a text that is known
report_same : (left : Option (List ℕ)) (text read : List ℕ) → IfSome left (λ l. read ≡ l) → left ≡ Some text → read ≡ text
report_same left text read all told = subst (λ (l : Option (List ℕ)). IfSome l (λ given. read ≡ given)) told all

-- the status for a script with an invalid line
due_of_bad : (source : ScriptSource) (text : List ℕ) (number : ℕ) → source ≡ sources.Input → length text ≤ input_max → script_of text ≡ Err number → due_status source text ≡ statuses.bad_input
due_of_bad source text number is within bad = subst (λ (s : ScriptSource). due_status s text ≡ statuses.bad_input) (sym is) (rw (le-ltb input_max (length text) within, bad) refl)

bad_script : (log : Bool) (number : ℕ) (source : ScriptSource) (status : ℕ) (input input' : SourceAt) (out out' err err' : SinkAt) → Stopped log (BadScript number) source input input' out out' → status ≡ statuses.bad_input → Writes err err' (bad_line_text number) → Ends log source status input input' out out' err err'
bad_script log number source status input input' out out' err err' stopped is said =
    let bad : BadLine number source input input' = stopped.0 in
    record {
      known = inr (inr (inr (inl is)));
      done = λ e. absurd (omega (arith, e, is));
      memory = λ e. absurd (omega (arith, e, is));
      script = λ _. (number, stopped, said);
      budget = λ e. absurd (omega (arith, e, is));
      fault = λ e. absurd (omega (arith, e, is));
      unfailing = λ _. (bad.whole.unfailing, stopped.1.unfailing, said.unfailing);
      due = λ text left.
          let same : bad.text ≡ text = report_same input.left text bad.text bad.whole.all left in
          inl (is ∙ sym (due_of_bad source text number bad.from_input (subst (λ (l : List ℕ). length l ≤ input_max) same bad.whole.within) (subst (λ (l : List ℕ). script_of l ≡ Err number) same bad.bad)));
    }

-- the status for an input that is too long
due_of_long : (source : ScriptSource) (text : List ℕ) → source ≡ sources.Input → input_max < length text → due_status source text ≡ statuses.over_budget
due_of_long source text is long = subst (λ (s : ScriptSource). due_status s text ≡ statuses.over_budget) (sym is) (rw (lt-ltb input_max (length text) long) refl)

over_budget : (log : Bool) (source : ScriptSource) (status : ℕ) (input input' : SourceAt) (out out' err err' : SinkAt) → Stopped log OverBudget source input input' out out' → status ≡ statuses.over_budget → Writes err err' budget_text → Ends log source status input input' out out' err err'
over_budget log source status input input' out out' err err' stopped is said =
    let long : TooLong source input = stopped.0 in
    record {
      known = inr (inr (inr (inr is)));
      done = λ e. absurd (omega (arith, e, is));
      memory = λ e. absurd (omega (arith, e, is));
      script = λ e. absurd (omega (arith, e, is));
      budget = λ _. (stopped, said);
      fault = λ e. absurd (omega (arith, e, is));
      unfailing = λ _. (stopped.2, stopped.3.unfailing, said.unfailing);
      due = λ text left. inl (is ∙ sym (due_of_long source text long.from_input (subst (λ (l : Option (List ℕ)). IfSome l (λ given. input_max < length given)) left long.long)));
    }

-- if there is no memory for the text of an invalid line
without_text : (log : Bool) (number : ℕ) (source : ScriptSource) (input input' : SourceAt) (out out' : SinkAt) → Stopped log (BadScript number) source input input' out out' → Stopped log NoMemory source input input' out out'
without_text log number source input input' out out' stopped =
    (subst (λ (s : ScriptSource). ReadsFor s input input') (sym stopped.0.from_input) ((stopped.0.text, stopped.0.whole.handed, stopped.0.whole.within), stopped.0.whole.unfailing), stopped.1)

-- a cause and what is written for it make an end
pub ends_of : (log : Bool) (cause : Cause) (source : ScriptSource) (status : ℕ) (input input' : SourceAt) (out out' err err' : SinkAt) → Stopped log cause source input input' out out' → ReportsFailure cause status err err' → Ends log source status input input' out out' err err'
ends_of log NoMemory source status input input' out out' err err' stopped said =
    said_or log NoMemory source status input input' out out' err err' stopped said said (no_memory log source status input input' out out' err err' stopped)
ends_of log InputFault source status input input' out out' err err' stopped said =
    said_or log InputFault source status input input' out out' err err' stopped said said
    (λ is wrote. report_fault log source status input input' out out' err err' is (InputFault, stopped, with_status InputFault status err err' is said))
ends_of log OutputFault source status input input' out out' err err' stopped said =
    said_or log OutputFault source status input input' out out' err err' stopped said said
    (λ is wrote. report_fault log source status input input' out out' err err' is (OutputFault, stopped, with_status OutputFault status err err' is said))
ends_of log (BadScript number) source status input input' out out' err err' stopped (inl said) =
    said_or log (BadScript number) source status input input' out out' err err' stopped (inl said) said (bad_script log number source status input input' out out' err err' stopped)
ends_of log (BadScript number) source status input input' out out' err err' stopped (inr said) =
    said_or log (BadScript number) source status input input' out out' err err' stopped (inr said) said (no_memory log source status input input' out out' err err' (without_text log number source input input' out out' stopped))
ends_of log OverBudget source status input input' out out' err err' stopped said =
    said_or log OverBudget source status input input' out out' err err' stopped said said (over_budget log source status input input' out out' err err' stopped)

-- the text of a report is what is printed of its run
same_text : (log : Bool) (source : ScriptSource) (script : ScriptLines) (report : Report) (gives : GivesReport script report) →
    report_text log source script.opening report ≡ printed log source gives.0 script report.marks (record { first = gives.1; keeps = gives.2.drill })
same_text true source script report gives = refl
same_text false sources.Input script report gives = (reports_tell (server_of (drill_setup gives.0 script.opening)) script report gives.2).text
same_text false (sources.Seed seed clients calls) script report gives = (reports_tell (server_of (drill_setup gives.0 script.opening)) script report gives.2).sums

pub printed_text : {E : Type 0} (r : Result (List ℕ) E) (log : Bool) (source : ScriptSource) (script : ScriptLines) (report : Report) → GivesReport script report
    → IfOk r (λ text. text ≡ report_text log source script.opening report) → IfOk r (λ text. IsPrinted log source script text)
printed_text (Ok text) log source script report gives is = (gives.0, report.marks, record { first = gives.1; keeps = gives.2.drill }, is ∙ same_text log source script report gives)
printed_text (Err error) log source script report gives is = tt

-- ===== nothing is printed

silent : (out : SinkAt) → WritesNone out out
silent out = record { keeps = search rules; unfailing = refl }

-- a drill that printed nothing
pub stopped_drill : (log : Bool) (cause : Cause) (source : ScriptSource) (input input' : SourceAt) (out : SinkAt) → StoppedBefore source cause input input' → Stopped log cause source input input' out out
stopped_drill log NoMemory sources.Input input input' out before = (before, silent out)
stopped_drill log InputFault sources.Input input input' out before = (refl, before.0, before.1, silent out)
stopped_drill log OutputFault sources.Input input input' out before = absurd before
stopped_drill log (BadScript number) sources.Input input input' out before = (record { from_input = refl; text = before.0; whole = before.1; bad = before.2 }, silent out)
stopped_drill log OverBudget sources.Input input input' out before = (record { from_input = refl; long = before.0 }, before.1, before.2, silent out)
stopped_drill log cause (sources.Seed seed clients calls) input input' out before =
    subst (λ (c : Cause). Stopped log c (sources.Seed seed clients calls) input input' out out) (sym before.0) (before.1, silent out)

-- ===== a drill that was printed

given_unfailing : (source : ScriptSource) (input input' : SourceAt) (script : ScriptLines) → IsGiven source input input' script → input'.faults ≡ input.faults
given_unfailing sources.Input input input' script given = given.whole.unfailing
given_unfailing (sources.Seed seed clients calls) input input' script given = ap (λ (i : SourceAt). i.faults) given.0

-- the status for a script
due_of_done : (source : ScriptSource) (text : List ℕ) (input input' : SourceAt) (script : ScriptLines) → IsGiven source input input' script → input.left ≡ Some text → due_status source text ≡ statuses.done
due_of_done sources.Input text input input' script given left =
    let same : given.text ≡ text = report_same input.left text given.text given.whole.all left in
    rw (le-ltb input_max (length text) (subst (λ (l : List ℕ). length l ≤ input_max) same given.whole.within), subst (λ (l : List ℕ). script_of l ≡ Ok script) same given.reads) refl
due_of_done (sources.Seed seed clients calls) text input input' script given left = refl

pub done_ends : (log : Bool) (source : ScriptSource) (input input' : SourceAt) (out out' err : SinkAt) → Done log source input input' out out' → Ends log source statuses.done input input' out out' err err
done_ends log source input input' out out' err d = record {
  known = inl refl;
  done = λ _. (d, silent err);
  memory = λ e. absurd (omega (arith, e));
  script = λ e. absurd (omega (arith, e));
  budget = λ e. absurd (omega (arith, e));
  fault = λ e. absurd (omega (arith, e));
  unfailing = λ _. (given_unfailing source input input' d.ran.script d.ran.given, d.prints.unfailing, refl);
  due = λ text left. inl (sym (due_of_done source text input input' d.ran.script d.ran.given left));
}
