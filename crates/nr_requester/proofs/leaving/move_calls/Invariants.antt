use Rattle.std.proofs.Common.{◌≡◌, ◌+◌, ◌++◌, drop, take, length}
use Rattle.nr_requester.specs.private.Resuming.{awaited_calls, with_calls}
use Rattle.nr_requester.proofs.leaving.move_calls.Given as goal

abbrev pub invariant-calls : goal.invariant-calls
invariant-calls l = record {
  rest : drop l.i l.calls.items ≡ drop l.i l.fn.calls.items;
  len : length l.calls.items ≡ length l.fn.calls.items;
  at : l.at + length (awaited_calls (drop l.i l.fn.calls.items)) ≡ length l.made.items;
  made : take l.at l.made.items ++ with_calls (awaited_calls (drop l.i l.fn.calls.items)) (drop l.at l.made.items) ≡ with_calls (awaited_calls l.fn.calls.items) l.fn.made.items;
}
