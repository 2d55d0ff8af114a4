use Rattle.std.proofs.Common.{ℕ, List, sym, ap, ◌∙◌}
use Rattle.nr_record.specs.RecordsState.{kept, IsState}
use mathlib.Core.Option.{some}
use Rattle.nr_record.proofs.Waiting.{by_itself, first_of, none_of, next_stands}
use Rattle.nr_record.proofs.records.Records.next_record.Goals as goal

pub returns-in-Some-clause-next : goal.returns-in-Some-clause-next
returns-in-Some-clause-next c = λ stream taken s. let k = kept c.args.self.now in let w = c.in-Some.record in let others = c.pop_front.new.self.items in
    let f = first_of (IsState k.fault k) k stream taken s w others c.in-Some.ensures.items in
    (f.is ∙ ap (λ (b : List ℕ). some b) (sym c.into_bytes.ensures), next_stands k stream taken w others s c.in-Some.ensures.items)

pub returns-in-None-clause-next : goal.returns-in-None-clause-next
returns-in-None-clause-next c = λ stream taken s. let k = kept c.args.self.now in none_of (IsState k.fault k) k stream taken s (by_itself k.waiting (c.in-None.ensures.items ∙ c.in-None.ensures.rest))
