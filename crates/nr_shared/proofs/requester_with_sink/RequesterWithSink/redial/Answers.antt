use Rattle.std.proofs.Common.{◌≡◌, ◌≢◌, ℕ, List, Option, Some, refl, sym, subst}
use Rattle.nr_reduce.specs.declared.call.Call.{Call}
use Rattle.nr_reduce.specs.declared.call.Form.{Form}
use Rattle.nr_reduce.specs.declared.call.Refused.{Refused}
use Rattle.nr_reduce.specs.declared.call.Refused.TheVariants as refusals
use Rattle.nr_requester.specs.Reopening.{reopen_refusal}
use Rattle.nr_shared.specs.declared.entry.Entry.{Entry}
use Rattle.nr_shared.specs.declared.entry.Stop.{Stop}
use Rattle.nr_shared.specs.declared.requester_with_sink.RequesterWithSink.{RequesterWithSink}
use Rattle.nr_shared.specs.Dialing.{CannotReopen}
use Rattle.nr_shared.specs.Output.{MayRejoin, MayStop}
use Rattle.nr_shared.specs.Standing.{Stands}
use Rattle.nr_shared.specs.private.Reading.{cause_of_refusal}
use Rattle.nr_shared.proofs.NotLeft.{spends}
use Rattle.nr_shared.proofs.Rejoining.{leaves}
use Rattle.nr_shared.proofs.requester_with_sink.RequesterWithSink.redial.Goals as goal

module _ {O C : Type 0} (link : O → ℕ) (taken : O → Option (List ℕ)) (faults : O → ℕ) (allows : Call → Form → Type 0) where
  -- why it can't be left, by the refusal of the reopening
  refused_stop : (m : RequesterWithSink O C) (why : Refused) → (why ≢ refusals.Memory → reopen_refusal m.requester.state ≡ Some why) → CannotReopen (cause_of_refusal why) × ((h : List Entry) → Stands link taken faults allows m h → MayRejoin h → MayStop (cause_of_refusal why) h)
  refused_stop m (refusals.Spent left need) says = (tt, λ h st may. spends link taken faults allows m h left need (says (λ e. absurd cc)) may st)
  refused_stop m (refusals.Ended end) says = (tt, λ h st may. may)
  refused_stop m (refusals.TooLarge need room) says = (tt, λ h st may. may)
  refused_stop m (refusals.NoCredit out grant) says = (tt, λ h st may. may)
  refused_stop m (refusals.Window oldest next) says = (tt, λ h st may. may)
  refused_stop m refusals.Memory says = (tt, λ h st may. may)

pub returns-in-Err-clause-refused : goal.returns-in-Err-clause-refused
returns-in-Err-clause-refused g c =
    subst (λ (cause : Stop). CannotReopen cause × ((h : List Entry) → Stands {C = g.row.C.Denot} g.O.LinkSink.link g.O.Sink.taken g.O.Sink.faults g.C.CallRule.allows c.args.self.now h → MayRejoin h → MayStop cause h)) (sym c.of_reopening.ensures)
    (refused_stop g.O.LinkSink.link g.O.Sink.taken g.O.Sink.faults g.C.CallRule.allows c.args.self.now c.in-Err.refused c.in-Err.ensures.refused)

pub returns-clause-rejoined : goal.returns-clause-rejoined
returns-clause-rejoined g c = let e = c.in_default.ensures in λ history last st is_last may.
    leaves g.O.LinkSink.link g.O.Sink.taken g.O.Sink.faults g.C.CallRule.allows c.args.self.now _ history last
    (record {
      tries = refl;
      rejoined = refl;
      count = refl;
      pending = refl;
      failed = refl;
      stopped = c.stop_of_dial-self.ensures;
      free = e.accepted;
      reopens = record { staging = c.reopen.new.self.staging; after = e.reopened; stands = e.stands; opens = e.opens };
      keeps = e.tickets;
      fed = e.fed;
    })
    is_last may st
