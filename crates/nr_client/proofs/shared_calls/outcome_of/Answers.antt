use Rattle.std.proofs.Common.{inl, inr, refl, subst}
use Rattle.nr_reduce.specs.declared.call.Call.{Call}
use Rattle.nr_reduce.specs.declared.call.Form.TheVariants as forms
use Rattle.nr_turnstile.specs.Passes.{mine_of, seen_by}
use Rattle.nr_client.specs.Jobs.{IsExchange, LacksAnswer}
use Rattle.nr_client.proofs.Outcomes.{same_asked}
use Rattle.nr_client.proofs.JobCalls.{call_grows, exchanged, grows_none, lacks}
use Rattle.nr_client.proofs.shared_calls.outcome_of.Goals as goal

pub returns-in-Err-clause-grows : goal.returns-in-Err-clause-grows
returns-in-Err-clause-grows g c = grows_none _ _ refl refl

pub returns-in-Err-clause-err : goal.returns-in-Err-clause-err
returns-in-Err-clause-err g c asked is = inl refl

pub returns-in-Err-call-clause-grows : goal.returns-in-Err-call-clause-grows
returns-in-Err-call-clause-grows g c = call_grows c.args.pass.now.main c.call.new.pass.main c.in-Ok.call forms.Auto c.call.result c.call.ensures.called

pub returns-in-Err-call-clause-err : goal.returns-in-Err-call-clause-err
returns-in-Err-call-clause-err g c asked is =
    inr (
      c.in-Err-call.end,
      (
        refl,
        subst (λ (d : Call). LacksAnswer (seen_by c.call.new.pass.main) d c.in-Err-call.end) (same_asked c.in-Ok.call asked c.in-Ok.is is)
            (lacks c.args.pass.now.main c.call.new.pass.main c.in-Ok.call c.in-Err-call.end c.call.ensures.rests.law c.in-Err-call.ensures.called),
      ),
    )

pub returns-in-Ok-call-clause-grows : goal.returns-in-Ok-call-clause-grows
returns-in-Ok-call-clause-grows g c = call_grows c.args.pass.now.main c.call.new.pass.main c.in-Ok.call forms.Auto c.call.result c.call.ensures.called

pub returns-in-Ok-call-clause-ok : goal.returns-in-Ok-call-clause-ok
returns-in-Ok-call-clause-ok g c asked is =
    subst (λ (d : Call). IsExchange (seen_by c.call.new.pass.main) (mine_of c.call.new.pass.main) d c.in-Ok-call.done.outcome) (same_asked c.in-Ok.call asked c.in-Ok.is is)
    (exchanged c.args.pass.now.main c.call.new.pass.main c.in-Ok.call c.in-Ok-call.done c.in-Ok-call.ensures.called)
