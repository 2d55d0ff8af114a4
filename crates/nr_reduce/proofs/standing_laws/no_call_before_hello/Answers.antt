use Rattle.nr_reduce.proofs.Unasked.{no_call_before_hello_lem, nothing_due_before_hello}
use Rattle.nr_reduce.proofs.standing_laws.no_call_before_hello.Goals as goal

pub returns-clause-calls : goal.returns-clause-calls
returns-clause-calls c = no_call_before_hello_lem

pub returns-clause-output : goal.returns-clause-output
returns-clause-output c = nothing_due_before_hello
