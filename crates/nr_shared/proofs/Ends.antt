-- Why a call has no answer: what the value has says it of each history that it stands for.
use Rattle.std.proofs.Common.{◌≡◌, ◌≢◌, ℕ, ◌<◌, ◌-◌, ◌&&◌, Bool, true, false, ltb, if◌then◌else◌, List, [], ◌∷◌, length, Option, Some, None, Result, Ok, Err, refl, sym, ap, subst, ◌∙◌, unwrap_or}
use Rattle.std.specs.Prelude.{⊤, ◌==◌, nat_lt}
use Rattle.std.specs.List.{AllByRecursion}
use Rattle.nr_link.specs.declared.end.End.{End}
use Rattle.nr_link.specs.declared.end.End.TheVariants as ends
use Rattle.nr_reduce.specs.declared.call.Call.{Call}
use Rattle.nr_reduce.specs.declared.call.Form.{Form}
use Rattle.nr_reduce.specs.declared.call.Refused.{Refused}
use Rattle.nr_reduce.specs.declared.call.Refused.TheVariants as refusals
use Rattle.nr_reduce.specs.declared.call.Submission.{Submission}
use Rattle.nr_reduce.specs.declared.call.Submission.TheVariants as submissions
use Rattle.nr_reduce.specs.declared.outline.Plan.{Plan}
use Rattle.nr_reduce.specs.Credits.{credits_granted}
use Rattle.nr_reduce.specs.Limits.{numbers_end}
use Rattle.nr_reduce.specs.Plans.{TooLarge, regions_needed}
use Rattle.nr_reduce.specs.SubmitAnswer.{calls_counted, unless_spent}
use Rattle.nr_reduce.proofs.Numbered.{numbered_length}
use Rattle.nr_requester.specs.RequesterState.{RequesterSide, RequesterState}
use Rattle.nr_requester.specs.Answers.{answer_by_plan, answer_if, answer_of, plan_under}
use Rattle.nr_requester.specs.MaySubmit.{client_may_submit, is_far, may_submit, may_submit_by}
use Rattle.nr_requester.specs.Sending.{least_stored}
use Rattle.nr_requester.proofs.KeptOn.{answers_as_kept}
use Rattle.nr_requester.proofs.MaySubmit.{answer_by_numbers, answer_cases, answer_in_window, may_kept}
use Rattle.nr_reduce.specs.ClientState.{ClientState}
use Rattle.nr_reduce.specs.EndRules.{EndState, live}
use Rattle.nr_reduce.specs.Run.{client}
use Rattle.nr_shared.specs.declared.entry.Entry.{Entry}
use Rattle.nr_shared.specs.declared.entry.Stop.{Stop}
use Rattle.nr_shared.specs.declared.entry.Stop.TheVariants as causes
use Rattle.nr_shared.specs.declared.entry.InitialState.{InitialState}
use Rattle.nr_shared.specs.declared.requester_with_sink.RequesterWithSink.{RequesterWithSink}
use Rattle.nr_shared.specs.Ending.{ClientEnded, ClientRefuses, HasCredit, HasEnded, IsRefused}
use Rattle.nr_shared.specs.Histories.{initial_of, rejoins, stop_of}
use Rattle.nr_shared.specs.LinkRuns.{FitsHistory, FitsInitialState, LinkRun, OpenedLink, is_of, links_of}
use Rattle.nr_shared.specs.LinkStanding.{IsLeft, IsLiveOn, IsOutOn, KeepsLinkLaw}
use Rattle.nr_turnstile.specs.declared.turn.Turn.{Turn}
use Rattle.nr_turnstile.specs.declared.turnstile.Pass.{Pass}
use Rattle.nr_turnstile.specs.Rule.{longer}
use Rattle.nr_turnstile.specs.Passes.{seen_by}
use Rattle.nr_turnstile.specs.Turns.{pass_of}
use Rattle.nr_shared.specs.Callers.{IsReady, KeepsLaw}
use Rattle.nr_shared.specs.Sharing.{SaysCredit, SaysCreditOutOfMemory}
use Rattle.nr_shared.specs.Output.{IsCallOutstanding}
use Rattle.nr_reduce.specs.declared.mark.Mark.{Mark}
use Rattle.nr_shared.specs.Standing.{is_out_of_memory, RepresentsHistory, RepresentsHistoryIf, Stands}
use Rattle.nr_reduce.specs.declared.mark.LinkParameters.{LinkParameters}

-- ---- Ends

true_false : true ≡ false → ⊥
true_false e = absurd cc

-- a link that fits the history was opened as its initial state says
pub fits_initial : (h : List Entry) (c : InitialState) (opened : LinkParameters) (numbers : ℕ → ℕ) (before : List Mark) → initial_of h ≡ Some c → FitsHistory h opened numbers before → FitsInitialState c (rejoins h) opened numbers before
fits_initial h c opened numbers before is (d, has, fits) = subst (λ (x : InitialState). FitsInitialState x (rejoins h) opened numbers before) (ap (λ (o : Option InitialState). unwrap_or o c) (sym has ∙ is)) fits

client_ended : (c : InitialState) (r : RequesterSide) (h : List Entry) (end : End) → initial_of h ≡ Some c → RepresentsHistoryIf false c r h → r.state.side.ended ≡ Some end → ClientEnded end h
client_ended c r h end is represents ended opened numbers before fits = let live = represents.1 0 opened numbers before (fits_initial h c opened numbers before is fits) in sym live.keeps.keeps.kept.keeps.ended ∙ ended

-- the end of a requester that ran out of memory
end_is : (end : End) (o : Option End) → o ≡ Some end → o ≡ Some ends.Memory → end ≡ ends.Memory
end_is end o is memory = ap (λ (p : Option End). unwrap_or p end) (sym is ∙ memory)

abbrev pub IsMemory : End → Type 0
IsMemory ends.Memory = ⊤
IsMemory end = ⊥

pub out_is : (o : Option Stop) → is_out_of_memory o ≡ true → o ≡ Some causes.Memory
out_is None is = absurd cc
out_is (Some causes.LinkRead) is = absurd cc
out_is (Some causes.Closed) is = absurd cc
out_is (Some causes.Budget) is = absurd cc
out_is (Some causes.Memory) is = refl
out_is (Some causes.DialFault) is = absurd cc
out_is (Some (causes.Spent left need)) is = absurd cc
out_is (Some causes.NotReopened) is = absurd cc

-- a requester that ended for another cause hasn't run out of memory
pub not_out : (o : Option Stop) (c : InitialState) (r : RequesterSide) (h : List Entry) (P : Type 0) → (r.state.side.ended ≡ Some ends.Memory → ⊥) → RepresentsHistory c r o h → (RepresentsHistoryIf false c r h → P) → P
not_out o c r h P other represents next = by_out (is_out_of_memory o) represents where
  by_out : (b : Bool) → RepresentsHistoryIf b c r h → P
  by_out false f = next f
  by_out true f = absurd (other f.0)

pub other_end : (r : RequesterSide) (end : End) → r.state.side.ended ≡ Some end → (IsMemory end → ⊥) → r.state.side.ended ≡ Some ends.Memory → ⊥
other_end r end is other memory = other (subst IsMemory (sym (end_is end r.state.side.ended is memory)) tt)

module _ {O C : Type 0} (link : O → ℕ) (taken : O → Option (List ℕ)) (faults : O → ℕ) (allows : Call → Form → Type 0) where
  -- a requester that hasn't run out of memory
  pub has_memory : (m : RequesterWithSink O C) (h : List Entry) → Stands link taken faults allows m h → (m.requester.state.side.ended ≡ Some ends.Memory → ⊥) → stop_of h ≢ Some causes.Memory
  has_memory m h st other bad = other ((subst (λ (o : Option Stop). RepresentsHistory st.initial m.requester o h) (st.stopped ∙ bad) st.represents).0)

  memory_ended : (m : RequesterWithSink O C) (h : List Entry) → Stands link taken faults allows m h → m.requester.state.side.ended ≡ Some ends.Memory → stop_of h ≡ Some causes.Memory
  memory_ended m h st is = sym st.stopped ∙ by_out (is_out_of_memory m.stopped) refl where
    by_out : (b : Bool) → is_out_of_memory m.stopped ≡ b → m.stopped ≡ Some causes.Memory
    by_out true out = out_is m.stopped out
    by_out false out = absurd ((subst (λ b. RepresentsHistoryIf b st.initial m.requester h) out st.represents).0 is)

  other_ended : (m : RequesterWithSink O C) (h : List Entry) (end : End) → Stands link taken faults allows m h → (IsMemory end → ⊥) → m.requester.state.side.ended ≡ Some end → ClientEnded end h
  other_ended m h end st other is = not_out m.stopped st.initial m.requester h (ClientEnded end h) (other_end m.requester end is other) st.represents (λ f. client_ended st.initial m.requester h end st.is_initial f is)

  -- the requester has ended so
  pub ended_is : (m : RequesterWithSink O C) (h : List Entry) (end : End) → Stands link taken faults allows m h → m.requester.state.side.ended ≡ Some end → HasEnded end h
  ended_is m h ends.Memory st is = memory_ended m h st is
  ended_is m h (ends.Bad at reason) st is = other_ended m h (ends.Bad at reason) st (λ no. no) is
  ended_is m h (ends.Denied stag to why) st is = other_ended m h (ends.Denied stag to why) st (λ no. no) is
  ended_is m h (ends.NoBuffer at) st is = other_ended m h (ends.NoBuffer at) st (λ no. no) is
  ended_is m h (ends.Terminated reason) st is = other_ended m h (ends.Terminated reason) st (λ no. no) is

-- ---- Refusals

abbrev end_in_refused : Refused → Option End
end_in_refused (refusals.Ended end) = Some end
end_in_refused why = None

abbrev end_in : Submission → Option End
end_in (submissions.Refused why) = end_in_refused why
end_in answer = None

-- it isn't refused since no credit is left, or since its xid is too far above the least one
abbrev Credited : Submission → Type 0
Credited (submissions.Refused why) = HasCredit why
Credited answer = ⊤

no_end : (r : RequesterState) (p : Result Plan TooLarge) → end_in (answer_by_plan r p) ≡ None
no_end r (Err large) = refl
no_end r (Ok plan) = answer_cases (λ (s : Submission). end_in s ≡ None) r plan refl (λ oldest. refl) (λ left need. refl) refl

has_end : (r : RequesterState) (call : Call) (form : Form) (end : Option End) → end_in (answer_if r call form end) ≡ end
has_end r call form (Some end) = refl
has_end r call form None = no_end r (plan_under r call form)

answers_end : (r : RequesterState) (call : Call) (form : Form) → end_in (answer_of r call form) ≡ r.side.ended
unfolding answer_of
answers_end r call form = has_end r call form r.side.ended

numbered : (r : RequesterState) (plan : Plan) → Credited (answer_by_numbers r plan)
numbered r plan =
    unless (nat_lt (numbers_end - r.next_xid) 1) (numbers_end - r.next_xid) 1 (unless_spent (numbers_end - r.side.memory.next) (regions_needed plan) (submissions.Accepted r.next_xid))
    (unless (nat_lt (numbers_end - r.side.memory.next) (regions_needed plan)) (numbers_end - r.side.memory.next) (regions_needed plan) (submissions.Accepted r.next_xid) tt)
  where
    unless : (b : Bool) (left need : ℕ) (answer : Submission) → Credited answer → Credited (if b then submissions.Refused (refusals.Spent left need) else answer)
    unless true left need answer h = tt
    unless false left need answer h = h

credited_by_plan : (r : RequesterState) (p : Result Plan TooLarge) → r.side.ended ≡ None → may_submit r ≡ true → Credited (answer_by_plan r p)
credited_by_plan r (Err large) none may = tt
credited_by_plan r (Ok plan) none may = subst Credited (sym (answer_in_window r plan none may)) (numbered r plan)

credited_if : (r : RequesterState) (call : Call) (form : Form) (end : Option End) → r.side.ended ≡ end → may_submit r ≡ true → Credited (answer_if r call form end)
credited_if r call form (Some end) is may = tt
credited_if r call form None is may = credited_by_plan r (plan_under r call form) is may

credited : (r : RequesterState) (call : Call) (form : Form) → may_submit r ≡ true → Credited (answer_of r call form)
unfolding answer_of
credited r call form may = credited_if r call form r.side.ended refl may

abbrev NotMemory : Refused → Type 0
NotMemory refusals.Memory = ⊥
NotMemory why = ⊤

abbrev pub SaysSo : RequesterState → Call → Form → Refused → Type 0
SaysSo r call form why = why ≢ refusals.Memory → answer_of r call form ≡ submissions.Refused why

said : (r : RequesterState) (call : Call) (form : Form) (why : Refused) → NotMemory why → SaysSo r call form why → answer_of r call form ≡ submissions.Refused why
said r call form why other says = says (λ same. subst NotMemory same other)

-- a call that may be submitted isn't refused with NoCredit or with Window
pub credit_left : (r : RequesterState) (call : Call) (form : Form) (why : Refused) → may_submit r ≡ true → SaysSo r call form why → HasCredit why
credit_left r call form refusals.Memory may says = tt
credit_left r call form (refusals.Ended end) may says = tt
credit_left r call form (refusals.TooLarge need room) may says = tt
credit_left r call form (refusals.Spent left need) may says = tt
credit_left r call form (refusals.NoCredit out grant) may says = subst Credited (said r call form (refusals.NoCredit out grant) tt says) (credited r call form may)
credit_left r call form (refusals.Window oldest next) may says = subst Credited (said r call form (refusals.Window oldest next) tt says) (credited r call form may)

none_memory : None ≡ Some ends.Memory → ⊥
none_memory e = absurd cc

-- the calls that it keeps, and the credits, of one that ran out of memory
out_counts : (l : LinkRun) (r : RequesterSide) → IsOutOn l r → (length r.state.outstanding ≡ calls_counted (client l.at.opened l.at.link l.run).state) × (r.state.grant ≡ credits_granted l.at.opened l.at.link l.run)
unfolding credits_granted
out_counts l r out =
    let same : client l.at.opened l.at.link l.run ≡ live (record (client l.at.opened l.at.link out.stopped).state { written = out.keeps.written }) = out.keeps.same in (
      out.keeps.out.keeps.outstanding ∙ numbered_length (client l.at.opened l.at.link out.stopped).state ∙ sym (ap (λ (e : EndState ClientState). calls_counted e.state) same),
      out.keeps.out.keeps.grant ∙ sym (ap (λ (e : EndState ClientState). e.state.grant) same),
    )

live_counts : (l : LinkRun) (r : RequesterSide) → IsLiveOn l r → length r.state.outstanding ≡ calls_counted (client l.at.opened l.at.link l.run).state
live_counts l r live = live.keeps.keeps.kept.keeps.outstanding ∙ numbered_length (client l.at.opened l.at.link l.run).state

-- the law of each link that was left
left_laws : (l : LinkRun) (r : RequesterSide) (left : List OpenedLink) → AllByRecursion (IsLeft l r) left → AllByRecursion (λ (e : OpenedLink). KeepsLinkLaw e.opened e.link l.run) left
left_laws l r [] all = tt
left_laws l r (e ∷ left) all = (all.0.law, left_laws l r left all.1)

-- one that has ended tells only whether a credit is left
ended_may : (r : RequesterState) (end : End) → r.side.ended ≡ Some end → may_submit r ≡ nat_lt (length r.outstanding) r.grant
unfolding may_submit
ended_may r end is =
    ap (λ (o : Option End). may_submit_by o r.grant (length r.outstanding) (length r.side.send_queue.held == 0) (is_far r.side.terms.number r.next_xid (least_stored r.outstanding))) is
    ∙ alone (nat_lt (length r.outstanding) r.grant)
  where
    alone : (b : Bool) → (b && true) ≡ b
    alone true = refl
    alone false = refl

module _ {O C : Type 0} (link : O → ℕ) (taken : O → Option (List ℕ)) (faults : O → ℕ) (allows : Call → Form → Type 0) where
  client_refuses : (m : RequesterWithSink O C) (h : List Entry) (call : Call) (form : Form) (why : Refused) → Stands link taken faults allows m h → end_in_refused why ≡ None → NotMemory why → SaysSo m.requester.state call form why → ClientRefuses why call form h
  client_refuses m h call form why st no_end other says =
      let is = said m.requester.state call form why other says in
      let live : m.requester.state.side.ended ≡ None = sym (answers_end m.requester.state call form) ∙ (ap end_in is ∙ no_end) in
      not_out m.stopped st.initial m.requester h (ClientRefuses why call form h) (λ memory. none_memory (sym live ∙ memory)) st.represents
      (λ f. (
        has_memory link taken faults allows m h st (λ memory. none_memory (sym live ∙ memory)),
        λ opened numbers before fits. (let l = links_of opened numbers before 0 h in let on = f.1 0 opened numbers before (fits_initial h st.initial opened numbers before st.is_initial fits) in
            sym (answers_as_kept (is_of l l.at.link) on.earlier l.at.opened l.at.link m.requester l.run call form on.keeps) ∙ is),
      ))

  -- what the requester says of a call that it refuses is said of the history
  pub refused_is : (m : RequesterWithSink O C) (h : List Entry) (call : Call) (form : Form) (why : Refused) → Stands link taken faults allows m h → SaysSo m.requester.state call form why → IsRefused why call form h
  refused_is m h call form refusals.Memory st says = tt
  refused_is m h call form (refusals.Ended end) st says =
      ended_is link taken faults allows m h end st (sym (answers_end m.requester.state call form) ∙ ap end_in (said m.requester.state call form (refusals.Ended end) tt says))
  refused_is m h call form (refusals.TooLarge need room) st says = client_refuses m h call form (refusals.TooLarge need room) st refl tt says
  refused_is m h call form (refusals.NoCredit out grant) st says = client_refuses m h call form (refusals.NoCredit out grant) st refl tt says
  refused_is m h call form (refusals.Window oldest next) st says = client_refuses m h call form (refusals.Window oldest next) st refl tt says
  refused_is m h call form (refusals.Spent left need) st says = client_refuses m h call form (refusals.Spent left need) st refl tt says

  -- whether a call may be submitted
  pub says_credit : (m : RequesterWithSink O C) (h : List Entry) → Stands link taken faults allows m h → SaysCredit (may_submit m.requester.state) h
  says_credit m h st other opened numbers before fits = by_out (is_out_of_memory m.stopped) refl where
    l : LinkRun
    l = links_of opened numbers before 0 h

    by_out : (b : Bool) → is_out_of_memory m.stopped ≡ b → may_submit m.requester.state ≡ client_may_submit l.at.opened l.at.link l.run
    by_out true out = absurd (other (sym st.stopped ∙ out_is m.stopped out))
    by_out false out =
        let f = subst (λ b. RepresentsHistoryIf b st.initial m.requester h) out st.represents in
        let on = f.1 0 opened numbers before (fits_initial h st.initial opened numbers before st.is_initial fits) in
        may_kept l.at.opened l.at.link m.requester l.run on.keeps.keeps on.keeps.resent

  pub says_credit_out_of_memory : (m : RequesterWithSink O C) (h : List Entry) → Stands link taken faults allows m h → SaysCreditOutOfMemory (may_submit m.requester.state) h
  says_credit_out_of_memory m h st memory =
      let f = subst (λ b. RepresentsHistoryIf b st.initial m.requester h) (ap is_out_of_memory (st.stopped ∙ memory)) st.represents in (
        f.1.0,
        λ opened numbers before fits.
            (let l = links_of opened numbers before f.1.0 h in let counts = out_counts l m.requester (f.1.1 opened numbers before (fits_initial h st.initial opened numbers before st.is_initial fits)) in
            ended_may m.requester.state ends.Memory f.0
            ∙ ap (λ (n : ℕ). nat_lt n m.requester.state.grant) counts.0
            ∙ ap (λ (n : ℕ). nat_lt (calls_counted (client l.at.opened l.at.link l.run).state) n) counts.1),
      )

  -- whether a call is outstanding
  pub outstanding_is : (m : RequesterWithSink O C) (h : List Entry) → is_out_of_memory m.stopped ≡ false → 0 < length m.requester.state.outstanding → Stands link taken faults allows m h → IsCallOutstanding h
  outstanding_is m h out some st opened numbers before fits =
      let f : RepresentsHistoryIf false st.initial m.requester h = subst (λ (b : Bool). RepresentsHistoryIf b st.initial m.requester h) out st.represents in
      let on = f.1 0 opened numbers before (fits_initial h st.initial opened numbers before st.is_initial fits) in
      subst (λ (n : ℕ). 0 < n) (live_counts (links_of opened numbers before 0 h) m.requester on) some

  -- the history keeps the law
  pub law_of : (m : RequesterWithSink O C) (h : List Entry) → Stands link taken faults allows m h → KeepsLaw h
  law_of m h st = by_out (is_out_of_memory m.stopped) st.represents where
    by_out : (b : Bool) → RepresentsHistoryIf b st.initial m.requester h → KeepsLaw h
    by_out false f = record {
      initial = st.initial;
      is_initial = st.is_initial;
      n = 0;
      law = λ opened numbers before fits. (let on = f.1 0 opened numbers before (fits_initial h st.initial opened numbers before st.is_initial fits) in (on.law, left_laws (links_of opened numbers before 0 h) m.requester (links_of opened numbers before 0 h).left on.left));
      within_tries = st.within_tries;
      output = st.output;
      in_full = st.in_full;
      may_follow = st.may_follow;
      in_order = st.in_order;
      closes_calls = st.closes_calls;
      last_open = λ xid k call at un. (st.calls xid k call at un).0;
    }
    by_out true f = record {
      initial = st.initial;
      is_initial = st.is_initial;
      n = f.1.0;
      law = λ opened numbers before fits. (let on = f.1.1 opened numbers before (fits_initial h st.initial opened numbers before st.is_initial fits) in (on.law, left_laws (links_of opened numbers before f.1.0 h) m.requester (links_of opened numbers before f.1.0 h).left on.left));
      within_tries = st.within_tries;
      output = st.output;
      in_full = st.in_full;
      may_follow = st.may_follow;
      in_order = st.in_order;
      closes_calls = st.closes_calls;
      last_open = λ xid k call at un. (st.calls xid k call at un).0;
    }

  -- told of the pass after its turn
  pub law_put_back : (t : Turn (RequesterWithSink O C) Entry) (s : Pass (RequesterWithSink O C) Entry) → IsReady link taken faults allows t → seen_by s ≡ seen_by (pass_of t) → KeepsLaw (seen_by s)
  law_put_back t s r seen = subst KeepsLaw (sym seen) (law_of r.value (seen_by (pass_of t)) r.stands)

pub law_joined : (xs ys zs : List Entry) → zs ≡ longer xs ys → KeepsLaw xs → KeepsLaw ys → KeepsLaw zs
law_joined xs ys zs is one two = subst KeepsLaw (sym is) (by_len (ltb (length xs) (length ys))) where
  by_len : (b : Bool) → KeepsLaw (if b then ys else xs)
  by_len true = two
  by_len false = one
