use Rattle.std.proofs.Common.{drop}
use Rattle.nr_record.specs.RecordsState.{kept, IsState}
use Rattle.nr_record.proofs.Waiting.{first_of, start_of, by_first, by_none}
use Rattle.nr_record.proofs.records.Records.at.Goals as goal

pub returns-in-Some : goal.returns-in-Some
returns-in-Some c = λ stream taken s. let k = kept c.args.self.now in let w = c.in-Some.record.now in
    (first_of (IsState k.fault k) k stream taken s w (drop 1 k.waiting) (by_first k.waiting w c.in-Some.ensures.item.3.0 c.in-Some.ensures.lookup)).place

pub returns-in-None : goal.returns-in-None
returns-in-None c = λ stream taken s. let k = kept c.args.self.now in start_of (IsState k.fault k) k stream taken s (by_none k.waiting c.in-None.ensures.item.3)
