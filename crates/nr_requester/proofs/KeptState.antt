-- What a requester of a link that may be one that was reopened knows and holds.
use Rattle.std.proofs.Common.{ℕ, Bool, List, map, sym, subst}
use Rattle.std.specs.List.{filter}
use Rattle.nr_reduce.specs.declared.mark.LinkParameters.{LinkParameters}
use Rattle.nr_reduce.specs.declared.mark.Mark.{Mark}
use Rattle.nr_reduce.specs.Asked.{as_accepted}
use Rattle.nr_reduce.specs.History.{CompletedCall, accepted_calls}
use Rattle.nr_reduce.specs.Run.{client}
use Rattle.nr_requester.specs.RequesterState.{RequesterSide}
use Rattle.nr_requester.specs.KeptAnswers.{completed_of, is_due}
use Rattle.nr_requester.specs.KeptOn.{MemoryAsKept, CountsAsKept, AgreesAsKept, EndAsKept, AnswersAreKept, ReleasesAsKept}
use Rattle.nr_requester.specs.ReopenedLinks.{own_answers, own_side}
use Rattle.nr_requester.specs.StoppedLinks.{AnswersStopped}
use Rattle.nr_requester.proofs.Accepting.{counts_alike}
use Rattle.nr_requester.proofs.CountedReleases.{all_but_named}
use Rattle.nr_requester.proofs.DueAnswers.{Among, IsAnswer, due_of, of_filter, to_among}
use Rattle.nr_requester.proofs.KeptLaw.{of_among}
use Rattle.nr_requester.proofs.OpenTickets.{HasAccepted, HaveDue, have_due}
use Rattle.nr_requester.proofs.OutcomesAccepted.{outcomes_accepted}
use Rattle.nr_requester.proofs.RunOut.{memory_kept}

pub memory_as_kept : MemoryAsKept
memory_as_kept is_own earlier opened link h run s = memory_kept opened link h run s.keeps

pub counts_as_kept : CountsAsKept
counts_as_kept is_own earlier opened link h run s = counts_alike opened link h run s.keeps

pub agrees_as_kept : AgreesAsKept
agrees_as_kept is_own earlier opened link h run s = (s.keeps.kept.keeps.up, (s.keeps.kept.keeps.down, s.keeps.kept.keeps.invalidates))

pub end_as_kept : EndAsKept
end_as_kept is_own earlier opened link h run s = s.keeps.kept.keeps.ended

pub releases_as_kept : ReleasesAsKept
releases_as_kept is_own earlier opened link h run s lives = all_but_named opened link h run s.keeps lives

-- each outcome that it has is that of a call which was accepted on the link
own_accepted : (opened : LinkParameters) (link : ℕ) (h : RequesterSide) (run : List Mark) (c : CompletedCall) → HaveDue opened link h run → Among c (map completed_of h.state.answered) → IsAnswer (accepted_calls link run) c
own_accepted opened link h run c due there =
    let outs : List CompletedCall = (client opened link run).state.outcomes in
    let known : Among c outs = (of_filter (λ (x : CompletedCall). is_due link run x.xid) c outs (subst (λ (cs : List CompletedCall). Among c cs) due there)).0 in
    let accepted : HasAccepted link run c.xid = of_among (λ (x : CompletedCall). HasAccepted link run x.xid) c outs (outcomes_accepted opened link run) known in
    record { call = accepted.0; there = to_among accepted.0 (accepted_calls link run) accepted.1.0; own = sym accepted.1.1 }

pub answers_are_kept : AnswersAreKept
answers_are_kept is_own earlier opened link h run c s =
    let due : HaveDue opened link (own_side is_own h) run = have_due (map as_accepted opened.resumed) opened link (own_side is_own h) run s.answers in
    due_of opened link (own_answers is_own h.state) run c due (own_accepted opened link (own_side is_own h) run c due)

pub answers_stopped : AnswersStopped
answers_stopped is_own earlier opened link h stopped run s c =
    let due : HaveDue opened link (own_side is_own h) run = have_due (map as_accepted opened.resumed) opened link (own_side is_own h) run s.answers in
    due_of opened link (own_answers is_own h.state) run c due (own_accepted opened link (own_side is_own h) run c due)
