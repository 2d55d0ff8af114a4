use Rattle.nr_host_laws.proofs.Hellos.{hellos_are_no_records}
use Rattle.nr_host_laws.proofs.laws.hellos_are_no_records.Goals as goal

pub returns : goal.returns
returns c = hellos_are_no_records
