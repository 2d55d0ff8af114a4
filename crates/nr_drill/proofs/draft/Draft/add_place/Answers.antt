use Rattle.std.proofs.Common.{ℕ, ◌-◌, ap}
use Rattle.std.specs.Prelude.{slice_set}
use Rattle.nr_drill.proofs.Lookups.{found, missing}
use Rattle.nr_drill.proofs.draft.Draft.add_place.Goals as goal

pub returns-in-Some-clause-tables : goal.returns-in-Some-clause-tables
returns-in-Some-clause-tables c =
    found c.args.self.now.tables.items c.index.result (c.args.client - 1) c.in-Some.table.now _ _ c.index.ensures c.in-Some.ensures.item.3.0 c.in-Some.ensures.item.1
    (c.add_place.new.self, c.add_place.ensures, ap (λ (i : ℕ). slice_set c.args.self.now.tables.items i c.add_place.new.self) c.index.ensures)

pub returns-in_default-clause-tables : goal.returns-in_default-clause-tables
returns-in_default-clause-tables c = missing c.args.self.now.tables.items c.index.result (c.args.client - 1) _ _ c.index.ensures c.in_default.ensures.item.3 tt
