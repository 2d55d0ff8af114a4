use Rattle.nr_requester.specs.Sending.{call_plan}
use Rattle.nr_requester.proofs.Sized.{few, plan_fits}
use Rattle.nr_requester.proofs.submitting.send_with_room.Goals as goal

pub reply_room-requires : goal.reply_room-requires
reply_room-requires c = record { few = few (call_plan c.args.plan) (plan_fits (call_plan c.args.plan) c.requires.planned); receive = c.requires.receive }
