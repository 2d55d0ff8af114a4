use Rattle.std.proofs.Common.{ℕ}
use Rattle.nr_top_laws.proofs.Logs.{made_logs, read_logs}
use Rattle.nr_top_laws.proofs.laws.logs_are_read_back.Goals as goal

pub returns-clause-read : goal.returns-clause-read
returns-clause-read g c = read_logs ℕ ℕ

pub returns-clause-made : goal.returns-clause-made
returns-clause-made g c = made_logs g.row.O.Denot g.row.C.Denot
