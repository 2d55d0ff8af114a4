use Rattle.std.proofs.lemmas.Result.{IfOk-weaker}
use Rattle.nr_turnstile.specs.Passes.{view_of}
use Rattle.nr_plain.proofs.Histories.{earlier, opened_room, opened_stands, opened_view}
use Rattle.nr_plain.proofs.turns.put_in.Goals as goal

pub new-requires-clause-stands : goal.new-requires-clause-stands
new-requires-clause-stands g c = opened_stands c.args.server c.args._first.now _ c.requires.is c.requires.first c.requires.stands

pub new-requires-clause-room : goal.new-requires-clause-room
new-requires-clause-room g c = opened_room c.args._first.now _ c.requires.first

pub new-requires-clause-earlier : goal.new-requires-clause-earlier
new-requires-clause-earlier g c = earlier _

pub returns : goal.returns
returns g c = IfOk-weaker c.new.result _ _ (λ t h. (h.0, (c.args._first.now, c.requires.is, opened_view c.args._first.now _ (view_of t.1) c.requires.first h.1))) c.new.ensures
