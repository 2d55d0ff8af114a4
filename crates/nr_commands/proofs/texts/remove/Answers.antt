use Rattle.std.proofs.Common.{Ok, Err, [], refl}
use Rattle.nr_commands.specs.Commands.{FindsParentOver}
use Rattle.nr_commands.specs.Sessions.{RequestOver, TextOver, ThenOver}
use Rattle.nr_commands.proofs.Parts.{then_ends, then_goes, with_user}
use Rattle.nr_client.specs.Requests.{remove_call, remove_result}
use Rattle.nr_commands.proofs.texts.remove.Goals as goal

pub returns-in-Err-clause-part : goal.returns-in-Err-clause-part
returns-in-Err-clause-part g c = then_ends (FindsParentOver g.L.Calls.relations c.args.session.now.uid c.args.session.now.gid c.args.export.now c.args.path.now) (λ place. ThenOver (RequestOver g.L.Calls.relations remove_result (remove_call c.args.session.now.uid c.args.session.now.gid place.0 place.1)) (λ removed. TextOver [])) (g.L.Calls.at c.args.session.now.link) (g.L.Calls.at c.find_parent.new.session.link) c.find_parent.result c.in-Err.end c.in-Err.is c.find_parent.ensures.part

pub returns-in-Err-remove-clause-part : goal.returns-in-Err-remove-clause-part
returns-in-Err-remove-clause-part g c =
    then_goes (FindsParentOver g.L.Calls.relations c.args.session.now.uid c.args.session.now.gid c.args.export.now c.args.path.now) (λ place. ThenOver (RequestOver g.L.Calls.relations remove_result (remove_call c.args.session.now.uid c.args.session.now.gid place.0 place.1)) (λ removed. TextOver [])) (g.L.Calls.at c.args.session.now.link) (g.L.Calls.at c.find_parent.new.session.link) (g.L.Calls.at c.remove.new.self.link) c.find_parent.result c.in-Ok.place (Err c.in-Err-remove.end) c.in-Ok.is c.find_parent.ensures.part
    (then_ends (RequestOver g.L.Calls.relations remove_result (remove_call c.args.session.now.uid c.args.session.now.gid c.in-Ok.place.0 c.in-Ok.place.1)) (λ removed. TextOver []) (g.L.Calls.at c.find_parent.new.session.link) (g.L.Calls.at c.remove.new.self.link) c.remove.result c.in-Err-remove.end c.in-Err-remove.is (with_user (λ u v. RequestOver g.L.Calls.relations remove_result (remove_call u v c.in-Ok.place.0 c.in-Ok.place.1)) c.args.session.now.uid c.args.session.now.gid c.find_parent.new.session.uid c.find_parent.new.session.gid (g.L.Calls.at c.find_parent.new.session.link) (g.L.Calls.at c.remove.new.self.link) c.remove.result c.find_parent.ensures.user (c.remove.ensures.asks, c.remove.ensures.faults)))

pub returns-clause-part : goal.returns-clause-part
returns-clause-part g c =
    then_goes (FindsParentOver g.L.Calls.relations c.args.session.now.uid c.args.session.now.gid c.args.export.now c.args.path.now) (λ place. ThenOver (RequestOver g.L.Calls.relations remove_result (remove_call c.args.session.now.uid c.args.session.now.gid place.0 place.1)) (λ removed. TextOver [])) (g.L.Calls.at c.args.session.now.link) (g.L.Calls.at c.find_parent.new.session.link) (g.L.Calls.at c.remove.new.self.link) c.find_parent.result c.in-Ok.place (Ok c.new.result) c.in-Ok.is c.find_parent.ensures.part
    (then_goes (RequestOver g.L.Calls.relations remove_result (remove_call c.args.session.now.uid c.args.session.now.gid c.in-Ok.place.0 c.in-Ok.place.1)) (λ removed. TextOver []) (g.L.Calls.at c.find_parent.new.session.link) (g.L.Calls.at c.remove.new.self.link) (g.L.Calls.at c.remove.new.self.link) c.remove.result c.in-Ok-remove.removed (Ok c.new.result) c.in-Ok-remove.is (with_user (λ u v. RequestOver g.L.Calls.relations remove_result (remove_call u v c.in-Ok.place.0 c.in-Ok.place.1)) c.args.session.now.uid c.args.session.now.gid c.find_parent.new.session.uid c.find_parent.new.session.gid (g.L.Calls.at c.find_parent.new.session.link) (g.L.Calls.at c.remove.new.self.link) c.remove.result c.find_parent.ensures.user (c.remove.ensures.asks, c.remove.ensures.faults))
    (refl, c.new.ensures))
