use Rattle.nr_record.proofs.Unique.{written}
use Rattle.nr_record.proofs.Again.{read_back}
use Rattle.nr_record.proofs.laws.written_again.Goals as goal

pub returns-clause-read : goal.returns-clause-read
returns-clause-read c = read_back

pub returns-clause-encoded : goal.returns-clause-encoded
returns-clause-encoded c = written
