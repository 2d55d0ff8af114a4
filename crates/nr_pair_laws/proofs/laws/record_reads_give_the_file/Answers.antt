use Rattle.nr_pair_laws.proofs.RecordReads.{record_reads_lem}
use Rattle.nr_pair_laws.proofs.laws.record_reads_give_the_file.Goals as goal

pub returns : goal.returns
returns c = record_reads_lem
