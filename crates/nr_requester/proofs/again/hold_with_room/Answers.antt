use Rattle.nr_requester.specs.Sending.{call_plan}
use Rattle.nr_requester.proofs.Sized.{few, plan_fits}
use Rattle.nr_requester.proofs.again.hold_with_room.Goals as goal

pub reply_room-requires-clause-few : goal.reply_room-requires-clause-few
reply_room-requires-clause-few c = few (call_plan c.args.plan) (plan_fits (call_plan c.args.plan) c.requires.planned)
