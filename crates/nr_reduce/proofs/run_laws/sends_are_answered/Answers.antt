use Rattle.nr_reduce.proofs.ReadyCalls.{ready_conveyed}
use Rattle.nr_reduce.proofs.Conveyed.{payload_conveyed}
use Rattle.nr_reduce.proofs.Refusals.{refused_never}
use Rattle.nr_reduce.proofs.BadMessages.{bad_refused}
use Rattle.nr_reduce.proofs.Calls.{executed_head, execute_answered, refused_answered, refused_call_lem, opens_reads}
use Rattle.nr_reduce.proofs.run_laws.sends_are_answered.Goals as goal

pub returns-clause-head : goal.returns-clause-head
returns-clause-head c = executed_head

pub returns-clause-executed_call : goal.returns-clause-executed_call
returns-clause-executed_call c = execute_answered

pub returns-clause-refused_send : goal.returns-clause-refused_send
returns-clause-refused_send c = refused_answered

pub returns-clause-open_reads : goal.returns-clause-open_reads
returns-clause-open_reads c = opens_reads

pub returns-clause-refused_call : goal.returns-clause-refused_call
returns-clause-refused_call c = refused_call_lem

pub returns-clause-refused : goal.returns-clause-refused
returns-clause-refused c = refused_never

pub returns-clause-bad_message : goal.returns-clause-bad_message
returns-clause-bad_message c = bad_refused

pub returns-clause-ready : goal.returns-clause-ready
returns-clause-ready c = ready_conveyed

pub returns-clause-conveyed : goal.returns-clause-conveyed
returns-clause-conveyed c = payload_conveyed
