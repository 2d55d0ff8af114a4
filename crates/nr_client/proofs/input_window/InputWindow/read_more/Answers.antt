use Rattle.std.proofs.Common.{ap}
use Rattle.nr_client.specs.private.InputWindows.{WindowState}
use Rattle.nr_client.proofs.InputWindows.{takes_read}
use Rattle.nr_client.proofs.input_window.InputWindow.read_more.Goals as goal

pub returns-clause-takes : goal.returns-clause-takes
returns-clause-takes g c =
    takes_read c.args.wanted c.self.inside.len c.in-Ok.n (g.N.Source.left c.args.input.now) (g.N.Source.given c.args.input.now) (g.N.Source.left c.read_after.new.input) (g.N.Source.given c.read_after.new.input)
    c.self.inside.room.items c.read_after.new.room.items c.args.self.now (ap (λ (w : WindowState). w.kept) c.self.view_is) c.requires.going
    c.read_after.ensures.front (c.in-Ok.ensures.bound.0) c.in-Ok.ensures.handed c.in-Ok.ensures.ends
