use Rattle.std.proofs.Common.{◌≡◌, ◌+◌, ◌++◌, length, take, drop, not, eqb}
use Rattle.std.specs.Prelude.{map}
use Rattle.std.specs.List.{filter}
use Rattle.nr_responder.specs.Views.{read_view}
use Rattle.nr_responder.proofs.read_done.drop_waiting.Given as goal

abbrev pub invariant-reads : goal.invariant-reads
invariant-reads l = record {
  left : take l.at (map read_view l.reads.items) ++ filter (λ r. not (eqb r.number l.fn.number)) (drop l.at (map read_view l.reads.items)) ≡ take l.fn.kept (map read_view l.fn.reads.items) ++ filter (λ r. not (eqb r.number l.fn.number)) (drop l.fn.kept (map read_view l.fn.reads.items));
  count : length l.reads.items + l.counter ≡ l.at + length l.fn.reads.items;
}
