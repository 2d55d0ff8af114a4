use Rattle.nr_requester.proofs.Resuming.{stags_are}
use Rattle.nr_requester.specs.RequesterState.{awaited_call}
use Rattle.nr_requester.specs.Views.{stored_view}
use Rattle.nr_requester.proofs.leaving.stags_for_call.Goals as goal

pub returns-in-Some-clause-is : goal.returns-in-Some-clause-is
returns-in-Some-clause-is c =
    stags_are c.args.stored.now c.in-Some.field-0.now (awaited_call (stored_view c.args.stored.now)) c.read_regions.result c.write_regions.result c.reply_regions.result c.in-Some.ensures c.read_regions.ensures.is c.write_regions.ensures.is c.reply_regions.ensures.is
