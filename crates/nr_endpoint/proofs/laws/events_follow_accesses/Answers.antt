use Rattle.nr_endpoint.proofs.DeliveryLaws.{events_are_delivered, events_are_in_order, events_follow_accesses_lem, one_frame_delivers_at_its_end}
use Rattle.nr_endpoint.proofs.OneDelivery.{one_frame_delivers_once}
use Rattle.nr_endpoint.proofs.laws.events_follow_accesses.Goals as goal

pub returns-clause-delivered : goal.returns-clause-delivered
returns-clause-delivered c = events_are_delivered

pub returns-clause-order : goal.returns-clause-order
returns-clause-order c = events_are_in_order

pub returns-clause-follow : goal.returns-clause-follow
returns-clause-follow c = events_follow_accesses_lem

pub returns-clause-one_frame : goal.returns-clause-one_frame
returns-clause-one_frame c = one_frame_delivers_at_its_end

pub returns-clause-once : goal.returns-clause-once
returns-clause-once c = one_frame_delivers_once
