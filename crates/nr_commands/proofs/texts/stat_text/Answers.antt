use Rattle.std.proofs.Common.{Err, refl}
use Rattle.nr_commands.specs.Commands.{FindsOver}
use Rattle.nr_commands.specs.Sessions.{RequestOver, TextOver, ThenOver}
use Rattle.nr_commands.proofs.Parts.{then_ends, then_goes, with_user}
use Rattle.nr_client.specs.Requests.{getattr_call, getattr_result}
use Rattle.nr_commands.specs.Printed.{attributes_text}
use Rattle.nr_commands.proofs.texts.stat_text.Goals as goal

pub returns-in-Err-clause-part : goal.returns-in-Err-clause-part
returns-in-Err-clause-part g c = then_ends (FindsOver g.L.Calls.relations c.args.session.now.uid c.args.session.now.gid c.args.export.now c.args.path.now) (λ file. ThenOver (RequestOver g.L.Calls.relations getattr_result (getattr_call c.args.session.now.uid c.args.session.now.gid file)) (λ attributes. TextOver (attributes_text attributes))) (g.L.Calls.at c.args.session.now.link) (g.L.Calls.at c.find.new.session.link) c.find.result c.in-Err.end c.in-Err.is c.find.ensures.part

pub returns-in-Err-stat-clause-part : goal.returns-in-Err-stat-clause-part
returns-in-Err-stat-clause-part g c =
    then_goes (FindsOver g.L.Calls.relations c.args.session.now.uid c.args.session.now.gid c.args.export.now c.args.path.now) (λ file. ThenOver (RequestOver g.L.Calls.relations getattr_result (getattr_call c.args.session.now.uid c.args.session.now.gid file)) (λ attributes. TextOver (attributes_text attributes))) (g.L.Calls.at c.args.session.now.link) (g.L.Calls.at c.find.new.session.link) (g.L.Calls.at c.stat.new.self.link) c.find.result c.in-Ok.file (Err c.in-Err-stat.end) c.in-Ok.is c.find.ensures.part
    (then_ends (RequestOver g.L.Calls.relations getattr_result (getattr_call c.args.session.now.uid c.args.session.now.gid c.in-Ok.file)) (λ attributes. TextOver (attributes_text attributes)) (g.L.Calls.at c.find.new.session.link) (g.L.Calls.at c.stat.new.self.link) c.stat.result c.in-Err-stat.end c.in-Err-stat.is (with_user (λ u v. RequestOver g.L.Calls.relations getattr_result (getattr_call u v c.in-Ok.file)) c.args.session.now.uid c.args.session.now.gid c.find.new.session.uid c.find.new.session.gid (g.L.Calls.at c.find.new.session.link) (g.L.Calls.at c.stat.new.self.link) c.stat.result c.find.ensures.user (c.stat.ensures.asks, c.stat.ensures.faults)))

pub returns-clause-part : goal.returns-clause-part
returns-clause-part g c =
    then_goes (FindsOver g.L.Calls.relations c.args.session.now.uid c.args.session.now.gid c.args.export.now c.args.path.now) (λ file. ThenOver (RequestOver g.L.Calls.relations getattr_result (getattr_call c.args.session.now.uid c.args.session.now.gid file)) (λ attributes. TextOver (attributes_text attributes))) (g.L.Calls.at c.args.session.now.link) (g.L.Calls.at c.find.new.session.link) (g.L.Calls.at c.stat.new.self.link) c.find.result c.in-Ok.file c.printed.result c.in-Ok.is c.find.ensures.part
    (then_goes (RequestOver g.L.Calls.relations getattr_result (getattr_call c.args.session.now.uid c.args.session.now.gid c.in-Ok.file)) (λ attributes. TextOver (attributes_text attributes)) (g.L.Calls.at c.find.new.session.link) (g.L.Calls.at c.stat.new.self.link) (g.L.Calls.at c.stat.new.self.link) c.stat.result c.in-Ok-stat.attributes c.printed.result c.in-Ok-stat.is (with_user (λ u v. RequestOver g.L.Calls.relations getattr_result (getattr_call u v c.in-Ok.file)) c.args.session.now.uid c.args.session.now.gid c.find.new.session.uid c.find.new.session.gid (g.L.Calls.at c.find.new.session.link) (g.L.Calls.at c.stat.new.self.link) c.stat.result c.find.ensures.user (c.stat.ensures.asks, c.stat.ensures.faults))
    (refl, c.printed.ensures (attributes_text c.in-Ok-stat.attributes) c.attributes_text.ensures))
