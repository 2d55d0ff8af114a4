use Rattle.nr_client.proofs.FileWriting.{call_stops, failed_by, on_by, stopped_by, stops_of_input}
use Rattle.nr_client.proofs.write_file.write_next.Goals as goal

pub returns-in-Err-clause-err : goal.returns-in-Err-clause-err
returns-in-Err-clause-err g c =
    failed_by g.L.Calls.relations c.args.uid c.args.gid c.args.file.now c.kept.result.now c.args.at.now c.args.window.now (g.L.Calls.at c.args.link.now) (g.L.Calls.at c.write_piece.new.link) (g.N.Source.left c.args.input.now) (g.N.Source.given c.args.input.now) c.in-Err.end
    c.requires.ready c.requires.below c.requires.some c.kept.ensures.is c.in-Err.ensures.of_call c.in-Err.ensures.err

pub returns-in-Ok-fill-clause-ok : goal.returns-in-Ok-fill-clause-ok
returns-in-Ok-fill-clause-ok g c =
    on_by g.L.Calls.relations c.args.uid c.args.gid c.args.file.now c.kept.result.now c.args.at.now c.in-Ok.count c.wanted_at.result c.args.window.now c.discard.new.self c.fill.new.self (g.L.Calls.at c.args.link.now) (g.L.Calls.at c.write_piece.new.link) (g.N.Source.left c.args.input.now) (g.N.Source.given c.args.input.now) (g.N.Source.left c.fill.new.input) (g.N.Source.given c.fill.new.input)
    c.requires.ready c.requires.below c.requires.some c.kept.ensures.is c.in-Ok.ensures.within c.in-Ok.ensures.ok c.discard.ensures c.wanted_at.ensures.is c.fill.ensures.takes

pub returns-in-Err-fill-clause-err : goal.returns-in-Err-fill-clause-err
returns-in-Err-fill-clause-err g c =
    stopped_by g.L.Calls.relations c.args.uid c.args.gid c.args.file.now c.kept.result.now c.args.at.now c.in-Ok.count c.wanted_at.result c.args.window.now c.discard.new.self c.fill.new.self (g.L.Calls.at c.args.link.now) (g.L.Calls.at c.write_piece.new.link) (g.N.Source.left c.args.input.now) (g.N.Source.given c.args.input.now) (g.N.Source.left c.fill.new.input) (g.N.Source.given c.fill.new.input) c.in-Err-fill.end
    c.requires.ready c.requires.below c.requires.some c.kept.ensures.is c.in-Ok.ensures.within c.in-Ok.ensures.ok c.discard.ensures c.wanted_at.ensures.is c.fill.ensures.takes c.in-Err-fill.ensures.of_input

pub returns-in-Err-clause-input_stops : goal.returns-in-Err-clause-input_stops
returns-in-Err-clause-input_stops g c = call_stops g.N.Source.faults g.N.Source.left g.N.Source.given c.args.input.now c.args.input.now c.in-Err.end c.in-Err.ensures.of_call

pub returns-in-Err-fill-clause-input_stops : goal.returns-in-Err-fill-clause-input_stops
returns-in-Err-fill-clause-input_stops g c =
    stops_of_input g.N.Source.faults g.N.Source.left g.N.Source.given c.args.input.now c.fill.new.input c.in-Err-fill.end c.in-Err-fill.ensures.of_input c.in-Err-fill.ensures.stops
