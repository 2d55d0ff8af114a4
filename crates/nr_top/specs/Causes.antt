-- The cause that is reported for each fault of a drill.
use Rattle.nr_outside.specs.declared.whole.ReadEnd.{ReadEnd}
use Rattle.nr_outside.specs.declared.whole.ReadEnd.TheVariants as ends
use Rattle.nr_script.specs.declared.script.ScriptFault.{ScriptFault}
use Rattle.nr_script.specs.declared.script.ScriptFault.TheVariants as faults
use Rattle.nr_top.specs.declared.drill.Failure.{Failure}
use Rattle.nr_top.specs.declared.drill.Failure.TheVariants as stops
use Rattle.nr_top.specs.Ends.{Cause}
use Rattle.nr_top.specs.Ends.Cause.{NoMemory, InputFault, OutputFault, BadScript, OverBudget}

abbrev pub cause_of : Failure → Cause
cause_of stops.Memory = NoMemory
cause_of stops.Input = InputFault
cause_of stops.Output = OutputFault
cause_of (stops.Script line) = BadScript line
cause_of stops.Budget = OverBudget

abbrev pub failure_of_read : ReadEnd → Failure
failure_of_read ends.Failed = stops.Input
failure_of_read ends.TooLong = stops.Budget
failure_of_read ends.Memory = stops.Memory

abbrev pub stop_of_script : ScriptFault → Failure
stop_of_script (faults.BadLine line) = stops.Script line
stop_of_script faults.Memory = stops.Memory
