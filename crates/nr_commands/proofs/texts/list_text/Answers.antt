use Rattle.std.proofs.Common.{Err, refl}
use Rattle.nr_commands.specs.Commands.{FindsOver}
use Rattle.nr_commands.specs.Sessions.{RequestsOver, TextOver, ThenOver}
use Rattle.nr_commands.proofs.Parts.{then_ends, then_goes, with_user}
use Rattle.nr_client.specs.Listing.{list_next}
use Rattle.nr_commands.specs.Printed.{names_text}
use Rattle.nr_commands.proofs.texts.list_text.Goals as goal

pub returns-in-Err-clause-part : goal.returns-in-Err-clause-part
returns-in-Err-clause-part g c = then_ends (FindsOver g.L.Calls.relations c.args.session.now.uid c.args.session.now.gid c.args.export.now c.args.path.now) (λ dir. ThenOver (RequestsOver g.L.Calls.relations (list_next c.args.session.now.uid c.args.session.now.gid dir)) (λ names. TextOver (names_text names))) (g.L.Calls.at c.args.session.now.link) (g.L.Calls.at c.find.new.session.link) c.find.result c.in-Err.end c.in-Err.is c.find.ensures.part

pub returns-in-Err-list-clause-part : goal.returns-in-Err-list-clause-part
returns-in-Err-list-clause-part g c =
    then_goes (FindsOver g.L.Calls.relations c.args.session.now.uid c.args.session.now.gid c.args.export.now c.args.path.now) (λ dir. ThenOver (RequestsOver g.L.Calls.relations (list_next c.args.session.now.uid c.args.session.now.gid dir)) (λ names. TextOver (names_text names))) (g.L.Calls.at c.args.session.now.link) (g.L.Calls.at c.find.new.session.link) (g.L.Calls.at c.list.new.self.link) c.find.result c.in-Ok.dir (Err c.in-Err-list.end) c.in-Ok.is c.find.ensures.part
    (then_ends (RequestsOver g.L.Calls.relations (list_next c.args.session.now.uid c.args.session.now.gid c.in-Ok.dir)) (λ names. TextOver (names_text names)) (g.L.Calls.at c.find.new.session.link) (g.L.Calls.at c.list.new.self.link) c.list.result c.in-Err-list.end c.in-Err-list.is (with_user (λ u v. RequestsOver g.L.Calls.relations (list_next u v c.in-Ok.dir)) c.args.session.now.uid c.args.session.now.gid c.find.new.session.uid c.find.new.session.gid (g.L.Calls.at c.find.new.session.link) (g.L.Calls.at c.list.new.self.link) c.list.result c.find.ensures.user (c.list.ensures.follows, c.list.ensures.faults)))

pub returns-clause-part : goal.returns-clause-part
returns-clause-part g c =
    then_goes (FindsOver g.L.Calls.relations c.args.session.now.uid c.args.session.now.gid c.args.export.now c.args.path.now) (λ dir. ThenOver (RequestsOver g.L.Calls.relations (list_next c.args.session.now.uid c.args.session.now.gid dir)) (λ names. TextOver (names_text names))) (g.L.Calls.at c.args.session.now.link) (g.L.Calls.at c.find.new.session.link) (g.L.Calls.at c.list.new.self.link) c.find.result c.in-Ok.dir c.printed.result c.in-Ok.is c.find.ensures.part
    (then_goes (RequestsOver g.L.Calls.relations (list_next c.args.session.now.uid c.args.session.now.gid c.in-Ok.dir)) (λ names. TextOver (names_text names)) (g.L.Calls.at c.find.new.session.link) (g.L.Calls.at c.list.new.self.link) (g.L.Calls.at c.list.new.self.link) c.list.result c.in-Ok-list.names c.printed.result c.in-Ok-list.is (with_user (λ u v. RequestsOver g.L.Calls.relations (list_next u v c.in-Ok.dir)) c.args.session.now.uid c.args.session.now.gid c.find.new.session.uid c.find.new.session.gid (g.L.Calls.at c.find.new.session.link) (g.L.Calls.at c.list.new.self.link) c.list.result c.find.ensures.user (c.list.ensures.follows, c.list.ensures.faults))
    (refl, c.printed.ensures (names_text c.in-Ok-list.names) c.names_text.ensures))
