use Rattle.nr_client.proofs.FileWriting.{call_stops, create_ended, streams_begin}
use Rattle.nr_client.proofs.write_file.write_window.Goals as goal

pub returns-in-Err-clause-writes : goal.returns-in-Err-clause-writes
returns-in-Err-clause-writes g c left given hands =
    create_ended g.L.Calls.relations c.args.uid c.args.gid c.args.dir.now c.args.name.now (g.L.Calls.at c.args.link.now) (g.L.Calls.at c.create_over.new.link) left given (g.N.Source.left c.args.input.now) (g.N.Source.given c.args.input.now) c.args.window.now c.in-Err.end hands c.requires c.in-Err.ensures.of_call c.in-Err.ensures.asks

pub returns-clause-writes : goal.returns-clause-writes
returns-clause-writes g c left given hands =
    c.write_pieces-result.ensures.writes c.args.dir.now c.args.name.now (g.L.Calls.at c.args.link.now) left given
    (streams_begin g.L.Calls.relations c.args.uid c.args.gid c.args.dir.now c.args.name.now (g.L.Calls.at c.args.link.now) (g.L.Calls.at c.create_over.new.link) left given (g.N.Source.left c.args.input.now) (g.N.Source.given c.args.input.now) c.in-Ok.file c.args.window.now hands c.requires c.in-Ok.ensures.asks)

pub returns-in-Err-clause-input_stops : goal.returns-in-Err-clause-input_stops
returns-in-Err-clause-input_stops g c = call_stops g.N.Source.faults g.N.Source.left g.N.Source.given c.args.input.now c.args.input.now c.in-Err.end c.in-Err.ensures.of_call
