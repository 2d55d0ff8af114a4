use Rattle.nr_drill.proofs.OneRun.{one_run}
use Rattle.nr_drill.proofs.LessPlain.{plain_runs_reply_in_bytes}
use Rattle.nr_byte_laws.proofs.TreeBytes.{drill_in_bytes}
use Rattle.nr_drill.proofs.DrillTrees.{drill_sane}
use Rattle.nr_drill.proofs.SomeRuns.{scripts_have_runs, drills_have_runs}
use Rattle.nr_drill.proofs.laws.runs.Goals as goal

pub returns-clause-one : goal.returns-clause-one
returns-clause-one c = one_run

pub returns-clause-some : goal.returns-clause-some
returns-clause-some c = scripts_have_runs

pub returns-clause-drills : goal.returns-clause-drills
returns-clause-drills c = drills_have_runs

pub returns-clause-sane : goal.returns-clause-sane
returns-clause-sane c = drill_sane

pub returns-clause-tree : goal.returns-clause-tree
returns-clause-tree c = drill_in_bytes

pub returns-clause-bytes : goal.returns-clause-bytes
returns-clause-bytes c = plain_runs_reply_in_bytes
