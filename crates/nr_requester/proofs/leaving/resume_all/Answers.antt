use Rattle.std.proofs.Common.{refl}
use Rattle.nr_requester.specs.RequesterState.{awaited_call}
use Rattle.nr_requester.specs.Views.{stored_view}
use Rattle.nr_requester.proofs.Resuming.{resuming_more}
use Rattle.nr_requester.proofs.leaving.resume_all.Goals as goal

pub calls-preserved : goal.calls-preserved
calls-preserved c = record {
  all = λ next begun. resuming_more c.args.credit c.args.receive_length next c.calls.i c.args.endpoint.now c.calls.endpoint c.resume_one.new.endpoint c.args.calls.now c.calls.made.items c.resume_one.new.made.items c.index-calls-i.result (awaited_call (stored_view c.index-calls-i.result)) c.calls-test.true
      c.index-calls-i.is refl (c.calls.invariant.all next begun) c.in_ok-resume_one.ensures;
}
