use Rattle.std.proofs.Common.{◌≤◌, ◌∙◌, Err, arith}
use Rattle.nr_outside.specs.Whole.{input_max}
use Rattle.nr_client.proofs.FileWriting.{stops_after, streams_beyond, streams_done}
use Rattle.nr_client.proofs.write_file.write_pieces.Goals as goal
use Rattle.nr_client.proofs.write_file.write_pieces.Goals.{then-pieces-test+else-len-gt0, else-pieces-test}

pub pieces-preserved : goal.pieces-preserved
pieces-preserved g c = (
  c.in-Ok.ensures.ready,
  (λ dir name b first first_given s. c.in-Ok.ensures.ok dir name b first first_given (c.pieces.invariant.1 dir name b first first_given s)),
  c.in-Ok.ensures.input_faults ∙ c.pieces.invariant.2,
  c.in-Ok.ensures.faults ∙ c.pieces.invariant.3,
)

pub returns-in-Err-clause-writes : goal.returns-in-Err-clause-writes
returns-in-Err-clause-writes g c dir name b first first_given s =
    c.in-Err.ensures.err dir name b first first_given (c.pieces.invariant.1 dir name b first first_given s)

pub returns-then-len-gt0-2-clause-writes : goal.returns-then-len-gt0-2-clause-writes
returns-then-len-gt0-2-clause-writes g c dir name b first first_given s =
    let above : input_max ≤ c.pieces.at = elim c.pieces-test.branch [ then-pieces-test+else-len-gt0 w ↦ omega arith | else-pieces-test w ↦ omega arith ] in
    streams_beyond g.L.Calls.relations c.args.uid c.args.gid c.args.file.now c.pieces.at c.pieces.window (g.L.Calls.at c.pieces.link) (g.N.Source.left c.pieces.input) (g.N.Source.given c.pieces.input)
    c.pieces.invariant.0 above (omega arith) dir name b first first_given (c.pieces.invariant.1 dir name b first first_given s)

pub returns-clause-writes : goal.returns-clause-writes
returns-clause-writes g c dir name b first first_given s =
    streams_done g.L.Calls.relations c.args.uid c.args.gid c.args.file.now c.pieces.at c.pieces.window (g.L.Calls.at c.pieces.link) (g.N.Source.left c.pieces.input) (g.N.Source.given c.pieces.input)
    c.pieces.invariant.0 (omega arith) dir name b first first_given (c.pieces.invariant.1 dir name b first first_given s)

pub returns-in-Err-clause-input_stops : goal.returns-in-Err-clause-input_stops
returns-in-Err-clause-input_stops g c =
    stops_after g.N.Source.faults g.N.Source.left g.N.Source.given (Err c.in-Err.end) c.args.input.now c.pieces.input c.write_next.new.input c.pieces.invariant.2 c.in-Err.ensures.input_stops
