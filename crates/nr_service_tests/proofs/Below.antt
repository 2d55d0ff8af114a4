-- The trees that a server begins with are far below the limit that it asks for.
use Rattle.std.proofs.Common.{ℕ, ◌^◌, ◌≤◌, arith}
use Rattle.nr_tree.specs.Tree.{Tree}
use Rattle.nr_tree.specs.Steps.{IsBelow}

pub below_end : (limit : ℕ) (t : Tree) → limit ≤ 2 ^ 62 → IsBelow limit t → IsBelow (2 ^ 62) t
below_end limit t le below = record { next = omega (arith, below.next, le); cookies = λ n node e. omega (arith, below.cookies n node e, le) }
