use Rattle.std.proofs.Common.{refl}
use Rattle.nr_commands.specs.Commands.{MountsOver}
use Rattle.nr_commands.specs.Sessions.{TextOver}
use Rattle.nr_commands.proofs.Parts.{then_ends, then_goes}
use Rattle.nr_commands.specs.Printed.{handle_text}
use Rattle.nr_commands.proofs.texts.mount_text.Goals as goal

pub returns-in-Err-clause-part : goal.returns-in-Err-clause-part
returns-in-Err-clause-part g c = then_ends (MountsOver g.L.Calls.relations c.args.session.now.uid c.args.session.now.gid c.args.export.now) (λ root. TextOver (handle_text root)) (g.L.Calls.at c.args.session.now.link) (g.L.Calls.at c.mount.new.session.link) c.mount.result c.in-Err.end c.in-Err.is c.mount.ensures.part

pub returns-clause-part : goal.returns-clause-part
returns-clause-part g c =
    then_goes (MountsOver g.L.Calls.relations c.args.session.now.uid c.args.session.now.gid c.args.export.now) (λ root. TextOver (handle_text root)) (g.L.Calls.at c.args.session.now.link) (g.L.Calls.at c.mount.new.session.link) (g.L.Calls.at c.mount.new.session.link) c.mount.result c.in-Ok.root c.printed.result c.in-Ok.is c.mount.ensures.part
    (refl, c.printed.ensures (handle_text c.in-Ok.root) c.handle_text.ensures)
