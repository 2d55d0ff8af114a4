use Rattle.std.proofs.Common.{Ok, Err, [], refl}
use Rattle.nr_commands.specs.Commands.{FindsParentOver, SymlinksOver}
use Rattle.nr_commands.specs.Sessions.{TextOver, ThenOver}
use Rattle.nr_commands.proofs.Parts.{then_ends, then_goes, with_user}
use Rattle.nr_commands.proofs.texts.make_link.Goals as goal

pub returns-in-Err-clause-part : goal.returns-in-Err-clause-part
returns-in-Err-clause-part g c = then_ends (FindsParentOver g.L.Calls.relations c.args.session.now.uid c.args.session.now.gid c.args.export.now c.args.path.now) (λ place. ThenOver (SymlinksOver g.L.Calls.relations c.args.session.now.uid c.args.session.now.gid place.0 place.1 c.args.target.now) (λ made. TextOver [])) (g.L.Calls.at c.args.session.now.link) (g.L.Calls.at c.find_parent.new.session.link) c.find_parent.result c.in-Err.end c.in-Err.is c.find_parent.ensures.part

pub returns-in-Err-symlink-clause-part : goal.returns-in-Err-symlink-clause-part
returns-in-Err-symlink-clause-part g c =
    then_goes (FindsParentOver g.L.Calls.relations c.args.session.now.uid c.args.session.now.gid c.args.export.now c.args.path.now) (λ place. ThenOver (SymlinksOver g.L.Calls.relations c.args.session.now.uid c.args.session.now.gid place.0 place.1 c.args.target.now) (λ made. TextOver [])) (g.L.Calls.at c.args.session.now.link) (g.L.Calls.at c.find_parent.new.session.link) (g.L.Calls.at c.symlink.new.session.link) c.find_parent.result c.in-Ok.place (Err c.in-Err-symlink.end) c.in-Ok.is c.find_parent.ensures.part
    (then_ends (SymlinksOver g.L.Calls.relations c.args.session.now.uid c.args.session.now.gid c.in-Ok.place.0 c.in-Ok.place.1 c.args.target.now) (λ made. TextOver []) (g.L.Calls.at c.find_parent.new.session.link) (g.L.Calls.at c.symlink.new.session.link) c.symlink.result c.in-Err-symlink.end c.in-Err-symlink.is (with_user (λ u v. SymlinksOver g.L.Calls.relations u v c.in-Ok.place.0 c.in-Ok.place.1 c.args.target.now) c.args.session.now.uid c.args.session.now.gid c.find_parent.new.session.uid c.find_parent.new.session.gid (g.L.Calls.at c.find_parent.new.session.link) (g.L.Calls.at c.symlink.new.session.link) c.symlink.result c.find_parent.ensures.user c.symlink.ensures.part))

pub returns-clause-part : goal.returns-clause-part
returns-clause-part g c =
    then_goes (FindsParentOver g.L.Calls.relations c.args.session.now.uid c.args.session.now.gid c.args.export.now c.args.path.now) (λ place. ThenOver (SymlinksOver g.L.Calls.relations c.args.session.now.uid c.args.session.now.gid place.0 place.1 c.args.target.now) (λ made. TextOver [])) (g.L.Calls.at c.args.session.now.link) (g.L.Calls.at c.find_parent.new.session.link) (g.L.Calls.at c.symlink.new.session.link) c.find_parent.result c.in-Ok.place (Ok c.new.result) c.in-Ok.is c.find_parent.ensures.part
    (then_goes (SymlinksOver g.L.Calls.relations c.args.session.now.uid c.args.session.now.gid c.in-Ok.place.0 c.in-Ok.place.1 c.args.target.now) (λ made. TextOver []) (g.L.Calls.at c.find_parent.new.session.link) (g.L.Calls.at c.symlink.new.session.link) (g.L.Calls.at c.symlink.new.session.link) c.symlink.result c.in-Ok-symlink.made (Ok c.new.result) c.in-Ok-symlink.is (with_user (λ u v. SymlinksOver g.L.Calls.relations u v c.in-Ok.place.0 c.in-Ok.place.1 c.args.target.now) c.args.session.now.uid c.args.session.now.gid c.find_parent.new.session.uid c.find_parent.new.session.gid (g.L.Calls.at c.find_parent.new.session.link) (g.L.Calls.at c.symlink.new.session.link) c.symlink.result c.find_parent.ensures.user c.symlink.ensures.part)
    (refl, c.new.ensures))
