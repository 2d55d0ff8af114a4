use Rattle.std.proofs.Common.{Err, refl}
use Rattle.nr_commands.specs.Commands.{FindsOver}
use Rattle.nr_commands.specs.Sessions.{RequestOver, TextOver, ThenOver}
use Rattle.nr_commands.proofs.Parts.{then_ends, then_goes, with_user}
use Rattle.nr_client.specs.Requests.{readlink_call, readlink_result}
use Rattle.nr_commands.specs.Printed.{path_text}
use Rattle.nr_commands.proofs.texts.read_link_text.Goals as goal

pub returns-in-Err-clause-part : goal.returns-in-Err-clause-part
returns-in-Err-clause-part g c = then_ends (FindsOver g.L.Calls.relations c.args.session.now.uid c.args.session.now.gid c.args.export.now c.args.path.now) (λ file. ThenOver (RequestOver g.L.Calls.relations readlink_result (readlink_call c.args.session.now.uid c.args.session.now.gid file)) (λ link. TextOver (path_text link.path))) (g.L.Calls.at c.args.session.now.link) (g.L.Calls.at c.find.new.session.link) c.find.result c.in-Err.end c.in-Err.is c.find.ensures.part

pub returns-in-Err-read_link-clause-part : goal.returns-in-Err-read_link-clause-part
returns-in-Err-read_link-clause-part g c =
    then_goes (FindsOver g.L.Calls.relations c.args.session.now.uid c.args.session.now.gid c.args.export.now c.args.path.now) (λ file. ThenOver (RequestOver g.L.Calls.relations readlink_result (readlink_call c.args.session.now.uid c.args.session.now.gid file)) (λ link. TextOver (path_text link.path))) (g.L.Calls.at c.args.session.now.link) (g.L.Calls.at c.find.new.session.link) (g.L.Calls.at c.read_link.new.self.link) c.find.result c.in-Ok.file (Err c.in-Err-read_link.end) c.in-Ok.is c.find.ensures.part
    (then_ends (RequestOver g.L.Calls.relations readlink_result (readlink_call c.args.session.now.uid c.args.session.now.gid c.in-Ok.file)) (λ link. TextOver (path_text link.path)) (g.L.Calls.at c.find.new.session.link) (g.L.Calls.at c.read_link.new.self.link) c.read_link.result c.in-Err-read_link.end c.in-Err-read_link.is (with_user (λ u v. RequestOver g.L.Calls.relations readlink_result (readlink_call u v c.in-Ok.file)) c.args.session.now.uid c.args.session.now.gid c.find.new.session.uid c.find.new.session.gid (g.L.Calls.at c.find.new.session.link) (g.L.Calls.at c.read_link.new.self.link) c.read_link.result c.find.ensures.user (c.read_link.ensures.asks, c.read_link.ensures.faults)))

pub returns-clause-part : goal.returns-clause-part
returns-clause-part g c =
    then_goes (FindsOver g.L.Calls.relations c.args.session.now.uid c.args.session.now.gid c.args.export.now c.args.path.now) (λ file. ThenOver (RequestOver g.L.Calls.relations readlink_result (readlink_call c.args.session.now.uid c.args.session.now.gid file)) (λ link. TextOver (path_text link.path))) (g.L.Calls.at c.args.session.now.link) (g.L.Calls.at c.find.new.session.link) (g.L.Calls.at c.read_link.new.self.link) c.find.result c.in-Ok.file c.printed.result c.in-Ok.is c.find.ensures.part
    (then_goes (RequestOver g.L.Calls.relations readlink_result (readlink_call c.args.session.now.uid c.args.session.now.gid c.in-Ok.file)) (λ link. TextOver (path_text link.path)) (g.L.Calls.at c.find.new.session.link) (g.L.Calls.at c.read_link.new.self.link) (g.L.Calls.at c.read_link.new.self.link) c.read_link.result c.in-Ok-read_link.link c.printed.result c.in-Ok-read_link.is (with_user (λ u v. RequestOver g.L.Calls.relations readlink_result (readlink_call u v c.in-Ok.file)) c.args.session.now.uid c.args.session.now.gid c.find.new.session.uid c.find.new.session.gid (g.L.Calls.at c.find.new.session.link) (g.L.Calls.at c.read_link.new.self.link) c.read_link.result c.find.ensures.user (c.read_link.ensures.asks, c.read_link.ensures.faults))
    (refl, c.printed.ensures (path_text c.in-Ok-read_link.link.path) c.path_text.ensures))
