use Rattle.nr_shared.proofs.Submitting.{sent_open_call}
use Rattle.nr_turnstile_tests.proofs.callers.called.Goals as goal

pub wait-requires-clause-has_call : goal.wait-requires-clause-has_call
wait-requires-clause-has_call g c = sent_open_call _ c.submit.new.pass.main _ _ c.in-Ok.ticket c.in-Ok.ensures.rests.caller.lies c.in-Ok.ensures.submitted
