use Rattle.nr_client.proofs.FileWriting.{first_handed, read_failed, stops_after, stops_of_input}
use Rattle.nr_client.proofs.write_file.write_file_over.Goals as goal

pub returns-in-Err-clause-writes : goal.returns-in-Err-clause-writes
returns-in-Err-clause-writes g c =
    read_failed g.L.Calls.relations c.args.uid c.args.gid c.args.dir.now c.args.name.now (g.L.Calls.at c.args.link.now) c.wanted_at.result
    (g.N.Source.left c.args.input.now) (g.N.Source.given c.args.input.now) (g.N.Source.left c.fill.new.input) (g.N.Source.given c.fill.new.input) c.new-window.result c.fill.new.self c.in-Err.end c.wanted_at.ensures.is c.new-window.ensures c.fill.ensures.takes c.in-Err.ensures.of_input

pub returns-in-Err-clause-input_stops : goal.returns-in-Err-clause-input_stops
returns-in-Err-clause-input_stops g c =
    stops_of_input g.N.Source.faults g.N.Source.left g.N.Source.given c.args.input.now c.fill.new.input c.in-Err.end c.in-Err.ensures.of_input c.in-Err.ensures.stops

pub returns-clause-writes : goal.returns-clause-writes
returns-clause-writes g c =
    c.write_window-result.ensures.writes (g.N.Source.left c.args.input.now) (g.N.Source.given c.args.input.now)
    (first_handed c.wanted_at.result (g.N.Source.left c.args.input.now) (g.N.Source.given c.args.input.now) (g.N.Source.left c.fill.new.input) (g.N.Source.given c.fill.new.input) c.new-window.result c.fill.new.self c.wanted_at.ensures.is c.new-window.ensures c.fill.ensures.takes)

pub returns-clause-input_stops : goal.returns-clause-input_stops
returns-clause-input_stops g c =
    stops_after g.N.Source.faults g.N.Source.left g.N.Source.given c.write_window-result.result c.args.input.now c.fill.new.input c.write_window-result.new.input c.in-Ok.ensures.counted c.write_window-result.ensures.input_stops
