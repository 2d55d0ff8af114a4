use Rattle.std.proofs.Common.{ℕ, sym, ap, subst}
use Rattle.nr_shared.specs.Callers.{HasOpenCall}
use Rattle.nr_shared.proofs.Polling.{asked_same}
use Rattle.nr_shared.proofs.Submitting.{sent_open_call}
use Rattle.nr_turnstile_tests.proofs.callers.revoked.Goals as goal

pub loop-init : goal.loop-init
loop-init g c = (c.in-Ok.ensures.rests, sent_open_call _ c.submit.new.pass.main _ _ c.in-Ok.ticket c.in-Ok.ensures.rests.caller.lies c.in-Ok.ensures.submitted)

pub loop-preserved : goal.loop-preserved
loop-preserved g c = let t = c.in-Busy.ensures.tried in (
  c.in-Busy.ensures.rests,
  subst (λ (x : ℕ). HasOpenCall c.try_revoke.new.pass.main x) (sym t.1)
      (asked_same c.loop.pass.main c.try_revoke.new.pass.main c.loop.kept (ap (λ v. v.seen) t.0.2) (ap (λ v. v.mine) t.0.2) c.loop.invariant.1),
)
