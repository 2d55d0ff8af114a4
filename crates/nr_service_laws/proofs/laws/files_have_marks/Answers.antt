use Rattle.nr_service_laws.proofs.Files.{does_reads, does_writes}
use Rattle.nr_service_laws.proofs.OutcomesInOrder.{read_outcomes}
use Rattle.nr_service_laws.proofs.laws.files_have_marks.Goals as goal

pub returns-clause-reads : goal.returns-clause-reads
returns-clause-reads c = does_reads

pub returns-clause-in_order : goal.returns-clause-in_order
returns-clause-in_order c = read_outcomes

pub returns-clause-writes : goal.returns-clause-writes
returns-clause-writes c = does_writes
