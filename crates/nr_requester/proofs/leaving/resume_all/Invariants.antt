use Rattle.std.proofs.Common.{ℕ, []}
use Rattle.nr_requester.specs.private.Resuming.{AreResuming}
use Rattle.nr_requester.proofs.leaving.resume_all.Given as goal

abbrev pub invariant-calls : goal.invariant-calls
invariant-calls l = record {
  all : (next : ℕ) → AreResuming l.fn.credit l.fn.receive_length next l.fn.endpoint l.fn.endpoint l.fn.calls 0 [] → AreResuming l.fn.credit l.fn.receive_length next l.fn.endpoint l.endpoint l.fn.calls l.i l.made.items;
}
