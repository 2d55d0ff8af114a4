use Rattle.std.proofs.Common.{ℕ, List, subst}
use Rattle.nr_commands.specs.Commands.{MountsOver}
use Rattle.nr_commands.specs.Sessions.{RequestsOver}
use Rattle.nr_commands.proofs.Parts.{then_ends, then_goes, with_user}
use Rattle.nr_client.specs.Walking.{walk_next}
use Rattle.nr_commands.proofs.finding.find.Goals as goal

pub returns-in-Err-clause-part : goal.returns-in-Err-clause-part
returns-in-Err-clause-part g c = then_ends (MountsOver g.L.Calls.relations c.args.session.now.uid c.args.session.now.gid c.args.export.now) (λ root. RequestsOver g.L.Calls.relations (walk_next c.args.session.now.uid c.args.session.now.gid root c.args.path.now)) (g.L.Calls.at c.args.session.now.link) (g.L.Calls.at c.mount.new.session.link) c.mount.result c.in-Err.end c.in-Err.is c.mount.ensures.part

pub returns-clause-part : goal.returns-clause-part
returns-clause-part g c =
    then_goes (MountsOver g.L.Calls.relations c.args.session.now.uid c.args.session.now.gid c.args.export.now) (λ root. RequestsOver g.L.Calls.relations (walk_next c.args.session.now.uid c.args.session.now.gid root c.args.path.now)) (g.L.Calls.at c.args.session.now.link) (g.L.Calls.at c.mount.new.session.link) (g.L.Calls.at c.walk.new.self.link) c.mount.result c.in-Ok.root c.walk.result c.in-Ok.is c.mount.ensures.part
    (with_user (λ u v. RequestsOver g.L.Calls.relations (walk_next u v c.in-Ok.root c.args.path.now)) c.args.session.now.uid c.args.session.now.gid c.mount.new.session.uid c.mount.new.session.gid (g.L.Calls.at c.mount.new.session.link) (g.L.Calls.at c.walk.new.self.link) c.walk.result c.mount.ensures.user
    (subst (λ (bytes : List ℕ). RequestsOver g.L.Calls.relations (walk_next c.mount.new.session.uid c.mount.new.session.gid c.in-Ok.root bytes) (g.L.Calls.at c.mount.new.session.link) (g.L.Calls.at c.walk.new.self.link) c.walk.result) c.as_bytes.ensures.value
    (c.walk.ensures.follows, c.walk.ensures.faults)))
