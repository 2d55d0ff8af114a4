use Rattle.nr_shared.proofs.Submitting.{sent_open_call}
use Rattle.nr_turnstile_tests.proofs.shared.submit.Goals as goal

pub returns-clause-asked : goal.returns-clause-asked
returns-clause-asked g c = sent_open_call c.args.pass.now.main c.submit.new.pass.main _ _ c.in-Ok.ticket c.in-Ok.ensures.rests.caller.lies c.in-Ok.ensures.submitted
