-- Why a lost link can't be left.
use Rattle.std.proofs.Common.{◌≡◌, ℕ, ◌+◌, ◌-◌, ◌<◌, arith, ltb, cond, Bool, true, false, List, Option, Some, None, refl, sym, ap, subst, ◌∙◌}
use Rattle.std.proofs.lemmas.Bool.{ltb-true}
use Rattle.nr_link.specs.declared.end.End.{End}
use Rattle.nr_reduce.specs.declared.call.Call.{Call}
use Rattle.nr_reduce.specs.declared.call.Form.{Form}
use Rattle.nr_reduce.specs.declared.call.Refused.{Refused}
use Rattle.nr_reduce.specs.declared.call.Refused.TheVariants as refusals
use Rattle.nr_reduce.specs.Limits.{numbers_end}
use Rattle.nr_reduce.specs.declared.mark.LinkParameters.{LinkParameters}
use Rattle.nr_reduce.specs.declared.mark.Mark.{Mark}
use Rattle.nr_reduce.specs.Run.{client}
use Rattle.nr_reduce.specs.Reopening.{reopened}
use Rattle.nr_requester.specs.RequesterState.{RequesterState}
use Rattle.nr_requester.specs.Reopening.{reopen_refusal, reopen_refusal_by, stags_for_calls}
use Rattle.nr_requester.proofs.CallsGoOn.{calls_go_on}
use Rattle.nr_shared.specs.declared.entry.Entry.{Entry}
use Rattle.nr_shared.specs.declared.entry.Stop.TheVariants as causes
use Rattle.nr_shared.specs.declared.requester_with_sink.RequesterWithSink.{RequesterWithSink}
use Rattle.nr_shared.specs.Histories.{is_lost_by}
use Rattle.nr_shared.specs.LinkRuns.{is_of, links_of}
use Rattle.nr_shared.specs.Output.{MayRejoin, MayStop}
use Rattle.nr_shared.specs.Standing.{RepresentsHistoryIf, Stands}
use Rattle.nr_shared.proofs.Ends.{fits_initial}
use Rattle.nr_shared.proofs.Pieces.{lost_memory}

spent_live : (r : RequesterState) (o : Option End) (left need : ℕ) → reopen_refusal_by r o ≡ Some (refusals.Spent left need) → o ≡ None
spent_live r None left need is = refl
spent_live r (Some end) left need is = absurd cc

abbrev left_in : Option Refused → ℕ
left_in (Some (refusals.Spent left need)) = left
left_in o = 0

abbrev need_in : Option Refused → ℕ
need_in (Some (refusals.Spent left need)) = need
need_in o = 0

-- so few STags are left of those that the calls need
abbrev Spends : RequesterState → (left need : ℕ) → Type 0
Spends r left need = (left < need) × ((left ≡ numbers_end - r.side.memory.next) × (need ≡ stags_for_calls r.outstanding))

spent_by : (r : RequesterState) (left need : ℕ) (b : Bool) → ltb (numbers_end - r.side.memory.next) (stags_for_calls r.outstanding) ≡ b
    → cond b (Some (refusals.Spent (numbers_end - r.side.memory.next) (stags_for_calls r.outstanding))) None ≡ Some (refusals.Spent left need) → Spends r left need
spent_by r left need true less e =
    let one : numbers_end - r.side.memory.next ≡ left = ap left_in e in
    let two : stags_for_calls r.outstanding ≡ need = ap need_in e in
    let under : numbers_end - r.side.memory.next < stags_for_calls r.outstanding = ltb-true (numbers_end - r.side.memory.next) (stags_for_calls r.outstanding) less in
    (omega (arith, under, one, two), (sym one, sym two))
spent_by r left need false less e = absurd cc

refusal_spent : (r : RequesterState) (o : Option End) (left need : ℕ) → reopen_refusal_by r o ≡ Some (refusals.Spent left need) → Spends r left need
refusal_spent r (Some end) left need is = absurd cc
refusal_spent r None left need is = spent_by r left need (ltb (numbers_end - r.side.memory.next) (stags_for_calls r.outstanding)) refl is

spent_says : (r : RequesterState) (left need : ℕ) → reopen_refusal r ≡ Some (refusals.Spent left need) → (r.side.ended ≡ None) × Spends r left need
unfolding reopen_refusal
spent_says r left need is = (spent_live r r.side.ended left need is, refusal_spent r r.side.ended left need is)

first_stag : (opened : LinkParameters) (link : ℕ) (run : List Mark) → (reopened opened link run).first_stag ≡ (client opened link run).state.stag
unfolding reopened
first_stag opened link run = refl

module _ {O C : Type 0} (link : O → ℕ) (taken : O → Option (List ℕ)) (faults : O → ℕ) (allows : Call → Form → Type 0) where
  -- too few STags are left for the calls that would be sent again
  pub spends : (m : RequesterWithSink O C) (h : List Entry) (left need : ℕ) → reopen_refusal m.requester.state ≡ Some (refusals.Spent left need) → MayRejoin h → Stands link taken faults allows m h → MayStop (causes.Spent left need) h
  spends m h left need is may st =
      let says = spent_says m.requester.state left need is in (
        may,
        (
          says.1.0,
          λ opened numbers before fits.
              (let l = links_of opened numbers before 0 h in
              let lost : is_lost_by m.write_failed m.stopped ≡ true = (λ i. is_lost_by (st.write_failed i) (st.stopped i)) ∙ may.lost in
              let f = subst (λ (b : Bool). RepresentsHistoryIf b st.initial m.requester h) (lost_memory m.write_failed m.stopped lost) st.represents in
              let on = f.1 0 opened numbers before (fits_initial h st.initial opened numbers before st.is_initial fits) in
              let next = calls_go_on (is_of l l.at.link) on.earlier l.at.opened l.at.link m.requester l.run on.opens on.law.asked on.keeps says.0 in
              let stags : m.requester.state.side.memory.next ≡ (client l.at.opened l.at.link l.run).state.stag = (on.keeps.keeps.kept.keeps.memory (sym on.keeps.keeps.kept.keeps.ended ∙ says.0)).next in
              let first : (reopened l.at.opened l.at.link l.run).first_stag ≡ m.requester.state.side.memory.next = first_stag l.at.opened l.at.link l.run ∙ sym stags in
              (says.1.1.0 ∙ ap (λ (n : ℕ). numbers_end - n) (sym first), next.stags ∙ (λ i. sym first i + sym says.1.1.1 i))),
        ),
      )
