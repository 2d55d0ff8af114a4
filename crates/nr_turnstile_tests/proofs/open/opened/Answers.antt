use Rattle.nr_turnstile_tests.proofs.Noted.{first_stands, first_room, first_earlier}
use Rattle.nr_turnstile_tests.proofs.open.opened.Goals as goal

pub new-requires-clause-stands : goal.new-requires-clause-stands
new-requires-clause-stands g c = let r = c.requires in first_stands c.args.feeder.pass c.args.feeder.entries c.args._noted.now _ r.noted r.outside r.home r.one

pub new-requires-clause-room : goal.new-requires-clause-room
new-requires-clause-room g c = first_room _ _ c.requires.noted

pub new-requires-clause-earlier : goal.new-requires-clause-earlier
new-requires-clause-earlier g c = first_earlier _
