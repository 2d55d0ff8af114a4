-- On a matched link a call that is executed was accepted, and goes out by a plan.
use Rattle.std.proofs.Common.{◌≡◌, ℕ, subst}
use Rattle.nr_reduce.specs.declared.outline.Plan.{Plan}
use Rattle.nr_reduce.specs.Plans.{lists_of}
use Rattle.nr_reduce.specs.ServerState.{PendingCall}
use Rattle.nr_laws.specs.Payloads.{HasPlan, ExecutesHavePlans}
use Rattle.nr_laws.proofs.PlanLists.{stream_known}
use Rattle.nr_laws.proofs.OnceByXid.{executed_at_lem}

-- ---- A call that was received has the lists and the stream of its plan

pub record IsOfPlan (stag : ℕ) (p : Plan) (c : PendingCall) : Type 0 where
  pub lists : c.lists ≡ lists_of stag p
  pub stream : c.inline ≡ stream_known p.read_at p.inline (lists_of stag p).read

pub executes_have_plans : ExecutesHavePlans
executes_have_plans opened link run before xid moment payload place reply typed far h =
    let a = executed_at_lem opened link run before h.after xid moment payload place reply typed far h.is in
    let w = a.submit.submitted in (
      w.accepted.plan,
      subst (λ (x : ℕ). HasPlan opened link before x w.accepted.plan) a.submit.own_xid
          (record { call = w.call; form = w.form; before = w.earlier; at = record { after = w.later; is = w.is }; planned = w.accepted.planned }),
    )
