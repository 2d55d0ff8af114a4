use Rattle.std.proofs.Common.{sym}
use Rattle.nr_gate.proofs.Steps.{rests_with}
use Rattle.nr_gate.proofs.connection.gate_connection.Goals as goal

pub returns-clause-rests : goal.returns-clause-rests
returns-clause-rests g c =
    rests_with c.args.remote.now c.serve_forwarded.new.answers.remote.now c.pass-1.given.0 c.serve_forwarded.new.answers.pass.now c.serve_forwarded.ensures.remote
    (c.pass-1.given.1 (sym c.serve_forwarded.ensures.pass)) c.serve_forwarded.ensures.rests
