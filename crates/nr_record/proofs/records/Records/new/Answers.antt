use Rattle.nr_record.proofs.Waiting.{new_stands}
use Rattle.nr_record.proofs.records.Records.new.Goals as goal

pub returns-clause-stands : goal.returns-clause-stands
returns-clause-stands c = new_stands _ _ _ _ c.new.ensures.items c.new-2.ensures.items c.new-3.ensures
