use Rattle.std.proofs.Common.{ℕ, List, ap, length, arith}
use Rattle.nr_endpoint.proofs.OutputPieces.{at_most}
use Rattle.nr_endpoint.proofs.output.Pieces.count.Goals as goal

pub returns-clause-most : goal.returns-clause-most
returns-clause-most c =
    omega (arith, c.len.ensures, c.self.inside.queue.ok, ap (λ (l : List ℕ). length l) c.self.view_is, at_most c.self.inside.queue.items c.self.invariant.each)

pub returns-clause-bound : goal.returns-clause-bound
returns-clause-bound c =
    omega (arith, c.len.ensures, c.self.inside.queue.ok, c.self.invariant.sum, c.self.invariant.most, at_most c.self.inside.queue.items c.self.invariant.each)
