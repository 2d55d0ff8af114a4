use Rattle.nr_record.proofs.Begun.{records_encoded, all_read}
use Rattle.nr_record.proofs.laws.records_of_the_stream.Goals as goal

pub returns-clause-records : goal.returns-clause-records
returns-clause-records c = records_encoded

pub returns-clause-all : goal.returns-clause-all
returns-clause-all c = all_read
