use Rattle.nr_reduce.proofs.Recut.{cut_rebuilt}
use Rattle.nr_reduce.proofs.Rebuilding.{rebuilt}
use Rattle.nr_reduce.proofs.RefusedChunks.{refused_has_none}
use Rattle.nr_reduce.proofs.laws.rebuild_undoes_cut.Goals as goal

pub returns-clause-rebuilt : goal.returns-clause-rebuilt
returns-clause-rebuilt c = cut_rebuilt

pub returns-clause-conveys : goal.returns-clause-conveys
returns-clause-conveys c = rebuilt

pub returns-clause-refused : goal.returns-clause-refused
returns-clause-refused c = refused_has_none
