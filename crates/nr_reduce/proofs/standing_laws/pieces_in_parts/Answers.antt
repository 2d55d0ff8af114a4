use Rattle.nr_reduce.proofs.Pieces.{in_parts}
use Rattle.nr_reduce.proofs.standing_laws.pieces_in_parts.Goals as goal

pub returns : goal.returns
returns c = in_parts
