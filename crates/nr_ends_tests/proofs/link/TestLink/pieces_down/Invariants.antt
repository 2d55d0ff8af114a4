use Rattle.nr_requester.specs.OpenCalls.{KeepsTickets}
use Rattle.nr_ends_tests.proofs.link.TestLink.pieces_down.Given as goal

abbrev pub invariant-pieces : goal.invariant-pieces
invariant-pieces g l = KeepsTickets l.fn.self.state l.self.state
