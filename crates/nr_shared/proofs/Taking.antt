-- A take that finds neither an answer nor an end, or the call lost.
use Rattle.std.proofs.Common.{◌≡◌, ◌≢◌, ℕ, ◌+◌, inl, inr, Bool, true, false, cond, not, ◌||◌, eqb, List, [], ◌∷◌, ◌++◌, map, Option, None, Some, is_some, refl, sym, ap, subst, ◌∙◌}
use Rattle.std.specs.List.{AllByRecursion, Contains, find, list_any}
use Rattle.std.proofs.lemmas.Bool.{eq-eqb, ne_eqb}
use Rattle.nr_link.specs.declared.end.End.{End}
use Rattle.nr_link.specs.declared.end.End.TheVariants as ends
use Rattle.nr_reduce.specs.declared.call.Call.{Call}
use Rattle.nr_reduce.specs.declared.mark.LinkParameters.{LinkParameters}
use Rattle.nr_reduce.specs.declared.mark.Mark.{Mark}
use Rattle.nr_reduce.specs.declared.mark.Mark.TheVariants as marks
use Rattle.nr_reduce.specs.Asked.{IsAwaitedOf, IsAwaitedOrWaits, as_accepted, client_calls, revoked_bytes}
use Rattle.nr_reduce.specs.History.{AcceptedCall, CompletedCall, completed_calls}
use Rattle.nr_reduce.specs.OutcomesDue.{is_completed}
use Rattle.nr_reduce.specs.Run.{client}
use Rattle.nr_requester.specs.declared.answer.AnsweredCall.{AnsweredCall}
use Rattle.nr_requester.specs.declared.answer.Buffers.{Buffers}
use Rattle.nr_requester.specs.AfterCalls.{after_revoke}
use Rattle.nr_requester.specs.Buffers.{bytes_of_buffers}
use Rattle.nr_requester.specs.Fed.{fed_bytes}
use Rattle.nr_requester.specs.KeptAnswers.{completed_of, is_due}
use Rattle.nr_requester.specs.OpenCalls.{ClosesTicket, buffers_of, found_answer, open_call}
use Rattle.nr_requester.specs.RequesterState.{RequesterSide}
use Rattle.nr_requester.specs.ReopenedLinks.{KeepsOn, StopsOnRevoke, own_answers, own_side}
use Rattle.nr_requester.specs.Standing.{AnswersWith}
use Rattle.nr_requester.proofs.DueAnswers.{Among, from_among, in_filter, to_among}
use Rattle.nr_requester.proofs.HandedBack.{open_remains}
use Rattle.nr_requester.proofs.KeptLaw.{open_law}
use Rattle.nr_requester.proofs.OwnSides.{own_found}
use Rattle.nr_requester.proofs.RevokedBytes.{buffers_are_kept, buffers_stopped}
use Rattle.nr_requester.proofs.StoppedLaw.{open_stopped}
use Rattle.nr_shared.specs.declared.entry.Entry.{Entry}
use Rattle.nr_shared.specs.declared.entry.Entry.TheVariants as entries
use Rattle.nr_shared.specs.declared.entry.InitialState.{InitialState}
use Rattle.nr_shared.specs.declared.entry.Stop.{Stop}
use Rattle.nr_shared.specs.declared.requester_with_sink.RequesterWithSink.{RequesterWithSink}
use Rattle.nr_shared.specs.HandedBack.{IsAwaitedStill, IsLostWith, IsUnanswered, lost_entry}
use Rattle.nr_shared.specs.Histories.{IsCallAt, IsUnclosed, closes_of, is_feeding}
use Rattle.nr_shared.specs.LinkRuns.{LinkRun, OpenedLink, call_link, is_of, links_of}
use Rattle.nr_shared.specs.LinkStanding.{IsLeft, IsLiveOn, IsOutOn}
use Rattle.nr_shared.specs.Standing.{RepresentsHistory, RepresentsHistoryIf, Stands, is_out_of_memory}
use Rattle.nr_shared.proofs.Ends.{fits_initial, has_memory, not_out, other_end}
use Rattle.nr_shared.proofs.Givings.{revoked_ended, revoked_kept}
use Rattle.nr_shared.proofs.GoingBack.{left_answer, lost_live, revoke_out}
use Rattle.nr_shared.proofs.LinkRuns.{links_more}
use Rattle.nr_shared.proofs.LinkSteps.{closes_live, closes_out}
use Rattle.nr_shared.proofs.Output.{of_call}
use Rattle.nr_shared.proofs.Steps.{SameLink, fits_one_less, follows_by, goes_back}
use Rattle.nr_reduce.specs.declared.call.Form.{Form}

-- ---- No message brought an outcome

any_none : (xid : ℕ) (cs : List CompletedCall) → ((c : CompletedCall) → Among c cs → c.xid ≢ xid) → list_any (λ c. eqb c.xid xid) cs ≡ false
any_none xid [] f = refl
any_none xid (x ∷ cs) f = λ i. ne_eqb x.xid xid (f x (inl refl)) i || any_none xid cs (λ c there. f c (inr there)) i

-- an awaited call is one whose outcome is or will be due
due_by : (calls : List AcceptedCall) (link : ℕ) (run : List Mark) (xid : ℕ) → IsAwaitedOf calls link run xid → is_due link run xid ≡ true
due_by calls link run xid w =
    let completed : is_completed link xid run ≡ false = any_none xid (completed_calls link run) (λ c there. w.first c (from_among c (completed_calls link run) there)) in
    λ i. not (w.kept i || completed i)

abbrev none_of : AnsweredCall → Option AnsweredCall
none_of a = None

abbrev some_of : AnsweredCall → Option AnsweredCall
some_of a = Some a

of_answer : (xid : ℕ) (c : CompletedCall) (answers : List AnsweredCall) → Among c (map completed_of answers) → c.xid ≡ xid → find (λ (a : AnsweredCall). eqb a.xid xid) answers ≢ None
of_answer xid c [] there own e = absurd there
of_answer xid c (a ∷ answers) there own e = by (eqb a.xid xid) refl (λ g f. of_answer xid c answers g own f) there e
  where
    by : (b : Bool) → eqb a.xid xid ≡ b → (Among c (map completed_of answers) → find (λ (a : AnsweredCall). eqb a.xid xid) answers ≡ None → ⊥) → Among c (map completed_of (a ∷ answers)) →
        cond b (Some a) (find (λ (a : AnsweredCall). eqb a.xid xid) answers) ≡ None → ⊥
    by true is rest g f = absurd (let wrong : some_of a ≡ none_of a = f in cc)
    by false is rest (inl same) f = absurd (let wrong : true ≡ false = sym (eq-eqb a.xid xid (ap (λ (y : CompletedCall). y.xid) same ∙ own)) ∙ is in cc)
    by false is rest (inr g) f = rest g f

came_none : (is_own : ℕ → Bool) (calls : List AcceptedCall) (opened : LinkParameters) (link : ℕ) (r : RequesterSide) (run : List Mark) (xid : ℕ) → AnswersWith calls opened link (own_side is_own r) run → is_own xid ≡ true → IsAwaitedOrWaits opened link run xid → found_answer xid r.state ≡ None
    → (c : CompletedCall) → Contains (client opened link run).state.outcomes c → c.xid ≢ xid
unfolding client
came_none is_own calls opened link r run xid k own awaited none c there same = of_answer xid c (own_answers is_own r.state)
    (subst (λ (cs : List CompletedCall). Among c cs) (sym k.outcomes)
    (in_filter (λ (c : CompletedCall). is_due link run c.xid) c (client opened link run).state.outcomes (to_among c (client opened link run).state.outcomes there)
    (ap (λ (x : ℕ). is_due link run x) same ∙ due_by (client_calls opened link run) link run xid awaited)))
    same (own_found is_own xid r.state.answered own ∙ none)

-- what holds on the link at hand, if the call belongs to it, holds on the link of a call that is open and has no answer
on_call : (l : LinkRun) (r : RequesterSide) (xid : ℕ) (P : OpenedLink → Type 0) → is_some (open_call xid r.state) ≡ true → found_answer xid r.state ≡ None → AllByRecursion (IsLeft l r) l.left → (is_of l l.at.link xid ≡ true → P l.at) → P (call_link l xid)
on_call l r xid P there none left one = of_call l xid P one (each l.left left) where
  none_some : (a : AnsweredCall) → None ≡ Some a → ⊥
  none_some a e = absurd cc

  each : (es : List OpenedLink) → AllByRecursion (IsLeft l r) es → AllByRecursion (λ (e : OpenedLink). is_of l e.link xid ≡ true → P e) es
  each [] all = tt
  each (e ∷ es) all = ((λ own. (let a = left_answer (is_of l e.link) e.opened e.link r l.run xid all.0.keeps own there in absurd (none_some a.0 (sym none ∙ a.1)))), each es all.1)

-- no message brought an outcome
abbrev None_of : LinkRun → (xid : ℕ) → OpenedLink → Type 0
None_of l xid e = (c : CompletedCall) → Contains (client e.opened e.link l.run).state.outcomes c → c.xid ≢ xid

live_none : (l : LinkRun) (r : RequesterSide) (xid : ℕ) → IsLiveOn l r → is_some (open_call xid r.state) ≡ true → found_answer xid r.state ≡ None → None_of l xid (call_link l xid)
live_none l r xid live there none = on_call l r xid (None_of l xid) there none live.left
    (λ own. came_none (is_of l l.at.link) (map as_accepted l.at.opened.resumed) l.at.opened l.at.link r l.run xid live.keeps.answers own (open_law (is_of l l.at.link) live.earlier l.at.opened l.at.link r l.run live.keeps xid own there) none)

out_none : (l : LinkRun) (r : RequesterSide) (xid : ℕ) → IsOutOn l r → is_some (open_call xid r.state) ≡ true → found_answer xid r.state ≡ None → None_of l xid (call_link l xid)
out_none l r xid out there none = on_call l r xid (None_of l xid) there none out.left
    (λ own. came_none (is_of l l.at.link) (map as_accepted l.at.opened.resumed) l.at.opened l.at.link r l.run xid out.keeps.answers own (open_stopped (is_of l l.at.link) out.earlier l.at.opened l.at.link r out.stopped l.run out.keeps xid own there) none)

-- its buffers have what its regions hold
abbrev Revoked : LinkRun → (xid : ℕ) → Buffers → OpenedLink → Type 0
Revoked l xid buffers e = bytes_of_buffers buffers ≡ revoked_bytes e.opened e.link l.run xid

live_buffers : (l : LinkRun) (r : RequesterSide) (xid : ℕ) → IsLiveOn l r → is_some (open_call xid r.state) ≡ true → found_answer xid r.state ≡ None → Revoked l xid (buffers_of xid r.state) (call_link l xid)
live_buffers l r xid live there none = on_call l r xid (Revoked l xid (buffers_of xid r.state)) there none live.left
    (λ own. buffers_are_kept (is_of l l.at.link) live.earlier l.at.opened l.at.link r l.run xid live.keeps own (open_remains r.state xid there))

out_buffers : (l : LinkRun) (r : RequesterSide) (xid : ℕ) → IsOutOn l r → is_some (open_call xid r.state) ≡ true → found_answer xid r.state ≡ None → Revoked l xid (buffers_of xid r.state) (call_link l xid)
out_buffers l r xid out there none = on_call l r xid (Revoked l xid (buffers_of xid r.state)) there none out.left
    (λ own. buffers_stopped (is_of l l.at.link) out.earlier l.at.opened l.at.link r out.stopped l.run out.keeps xid own (open_remains r.state xid there))

pub not_some : {A : Type 0} (o : Option A) → is_some o ≡ false → o ≡ None
not_some None is = refl
not_some (Some a) is = absurd cc

-- ---- The entry

none_memory : None ≡ Some ends.Memory → ⊥
none_memory e = absurd cc

-- what the history says of a requester that goes on, or has ended
follows_lost : (c : InitialState) (r s : RequesterSide) (o : Option Stop) (h : List Entry) (xid k : ℕ) (end : End) → (r.state.side.ended ≡ Some ends.Memory → ⊥) → r.state.side.ended ≡ Some end → is_some (open_call xid r.state) ≡ true → found_answer xid r.state ≡ None
    → s ≡ after_revoke r xid → KeepsOn r (λ link. marks.Lost link xid) s → RepresentsHistory c r o h → RepresentsHistory c s o (h ++ entries.Lost xid k ∷ [])
follows_lost c r s o h xid k end other ended there none after on represents =
    follows_by o c r s h (entries.Lost xid k) refl (revoked_ended r s xid after)
    (λ n l apart live. closes_live l r s xid (λ link. marks.Lost link xid) (lost_live r s xid end ended there none after on) live)
    (λ n l apart out. absurd (other out.keeps.out.ended)) represents

-- the same of one that ran out of memory: the call's memory is revoked
follows_out : (c : InitialState) (r s : RequesterSide) (o : Option Stop) (h : List Entry) (xid k : ℕ) (bytes : List ℕ) → r.state.side.ended ≡ Some ends.Memory → bytes ≡ bytes_of_buffers (buffers_of xid r.state) → is_some (open_call xid r.state) ≡ true
    → s ≡ after_revoke r xid → StopsOnRevoke r xid bytes s → RepresentsHistory c r o h → RepresentsHistory c s o (h ++ entries.Revoke xid bytes k ∷ [])
follows_out c r s o h xid k bytes memory are there after stops represents = by_out (is_out_of_memory o) represents where
  e : Entry
  e = entries.Revoke xid bytes k

  by_out : (b : Bool) → RepresentsHistoryIf b c r h → RepresentsHistoryIf b c s (h ++ e ∷ [])
  by_out false f = absurd (f.0 memory)
  by_out true f = (
    revoked_ended r s xid after ∙ memory,
    (
      f.1.0,
      λ opened numbers before fits.
          (let l = links_of opened numbers before f.1.0 h in
          subst (λ (x : LinkRun). IsOutOn x s) (sym (links_more opened numbers before f.1.0 h e refl))
          (closes_out l r s xid (λ link. marks.Revoke link xid bytes) (revoke_out r s xid bytes are there after stops) (f.1.1 opened numbers before (fits_one_less c opened numbers before h e fits)))),
    ),
  )

module _ {O C : Type 0} (link : O → ℕ) (taken : O → Option (List ℕ)) (faults : O → ℕ) (allows : Call → Form → Type 0) where
  -- neither an answer nor an end has come
  pub still_awaited : (m : RequesterWithSink O C) (h : List Entry) (xid k : ℕ) (call : Call) → found_answer xid m.requester.state ≡ None → m.requester.state.side.ended ≡ None → IsCallAt h xid k call → IsUnclosed h k → Stands link taken faults allows m h → IsAwaitedStill xid h
  still_awaited m h xid k call none going asked unclosed st =
      let there : is_some (open_call xid m.requester.state) ≡ true = ap is_some (st.calls xid k call asked unclosed).1 in
      not_out m.stopped st.initial m.requester h (IsAwaitedStill xid h) (λ bad. none_memory (sym going ∙ bad)) st.represents
      (λ f. (
        has_memory link taken faults allows m h st (λ bad. none_memory (sym going ∙ bad)),
        (
          (λ opened numbers before fits. (let on = f.1 0 opened numbers before (fits_initial h st.initial opened numbers before st.is_initial fits) in sym on.keeps.keeps.kept.keeps.ended ∙ going)),
          (λ opened numbers before fits. live_none (links_of opened numbers before 0 h) m.requester xid (f.1 0 opened numbers before (fits_initial h st.initial opened numbers before st.is_initial fits)) there none),
        ),
      ))

  -- a call whose answer isn't there
  pub none_has_come : (m : RequesterWithSink O C) (h : List Entry) (xid k : ℕ) (call : Call) → is_some (found_answer xid m.requester.state) ≡ false → IsCallAt h xid k call → IsUnclosed h k → Stands link taken faults allows m h → IsUnanswered xid h
  none_has_come m h xid k call lacks asked unclosed st = by_out (is_out_of_memory m.stopped) st.represents where
    there : is_some (open_call xid m.requester.state) ≡ true
    there = ap is_some (st.calls xid k call asked unclosed).1

    not_there : found_answer xid m.requester.state ≡ None
    not_there = not_some (found_answer xid m.requester.state) lacks

    by_out : (b : Bool) → RepresentsHistoryIf b st.initial m.requester h → IsUnanswered xid h
    by_out false f = record { n = 0; none = λ opened numbers before fits. live_none (links_of opened numbers before 0 h) m.requester xid (f.1 0 opened numbers before (fits_initial h st.initial opened numbers before st.is_initial fits)) there not_there }
    by_out true f = record { n = f.1.0; none = λ opened numbers before fits. out_none (links_of opened numbers before f.1.0 h) m.requester xid (f.1.1 opened numbers before (fits_initial h st.initial opened numbers before st.is_initial fits)) there not_there }

  -- what goes back of a call that is lost
  pub lost_with : (m : RequesterWithSink O C) (h : List Entry) (xid k : ℕ) (call : Call) (buffers : Buffers) → found_answer xid m.requester.state ≡ None → buffers ≡ buffers_of xid m.requester.state → IsCallAt h xid k call → IsUnclosed h k → Stands link taken faults allows m h → IsLostWith xid buffers h
  lost_with m h xid k call buffers none are asked unclosed st = by_out (is_out_of_memory m.stopped) st.represents where
    there : is_some (open_call xid m.requester.state) ≡ true
    there = ap is_some (st.calls xid k call asked unclosed).1

    by_out : (b : Bool) → RepresentsHistoryIf b st.initial m.requester h → IsLostWith xid buffers h
    by_out false f = record {
      n = 0;
      placed = λ opened numbers before fits.
          ap bytes_of_buffers are ∙ live_buffers (links_of opened numbers before 0 h) m.requester xid (f.1 0 opened numbers before (fits_initial h st.initial opened numbers before st.is_initial fits)) there none;
      none = λ opened numbers before fits. live_none (links_of opened numbers before 0 h) m.requester xid (f.1 0 opened numbers before (fits_initial h st.initial opened numbers before st.is_initial fits)) there none;
    }
    by_out true f = record {
      n = f.1.0;
      placed = λ opened numbers before fits.
          ap bytes_of_buffers are ∙ out_buffers (links_of opened numbers before f.1.0 h) m.requester xid (f.1.1 opened numbers before (fits_initial h st.initial opened numbers before st.is_initial fits)) there none;
      none = λ opened numbers before fits. out_none (links_of opened numbers before f.1.0 h) m.requester xid (f.1.1 opened numbers before (fits_initial h st.initial opened numbers before st.is_initial fits)) there none;
    }

  -- nothing changed
  pub stands_same : (m m' : RequesterWithSink O C) (h : List Entry) → SameLink m m' → m'.entries ≡ m.entries → m'.pending ≡ m.pending → m'.requester ≡ m.requester → m'.rule ≡ m.rule → Stands link taken faults allows m h → Stands link taken faults allows m' h
  stands_same m m' h same count pending requester rule st = subst (λ (x : RequesterWithSink O C). Stands link taken faults allows x h)
      (λ i. record { requester = sym requester i; sink = sym same.sink i; tries = sym same.tries i; rejoined = sym same.rejoined i; entries = sym count i; pending = sym pending i; write_failed = sym same.failed i; stopped = sym same.stopped i; rule = sym rule i }) st

  -- what a take gave that found the call lost
  pub record Loses (m m' : RequesterWithSink O C) (xid : ℕ) (buffers : Buffers) : Type 0 where
    pub same : SameLink m m'
    pub count : m'.entries ≡ m.entries + 1
    pub pending : m'.pending ≡ m.pending
    pub none : found_answer xid m.requester.state ≡ None
    pub are : buffers ≡ buffers_of xid m.requester.state
    pub after : m'.requester ≡ after_revoke m.requester xid
    pub on : KeepsOn m.requester (λ link. marks.Lost link xid) m'.requester
    pub stops : StopsOnRevoke m.requester xid (bytes_of_buffers buffers) m'.requester
    pub shuts : ClosesTicket xid m.requester.state m'.requester.state
    pub fed : fed_bytes m'.requester ≡ fed_bytes m.requester

  lost_live_entry : (m m' : RequesterWithSink O C) (xid k : ℕ) (call : Call) (buffers : Buffers) (end : End) (h : List Entry) → Loses m m' xid buffers → (m.requester.state.side.ended ≡ Some ends.Memory → ⊥) → m.requester.state.side.ended ≡ Some end → IsCallAt h xid k call → IsUnclosed h k
      → Stands link taken faults allows m h → Stands link taken faults allows m' (h ++ entries.Lost xid k ∷ [])
  lost_live_entry m m' xid k call buffers end h l other ended asked unclosed st =
      goes_back link taken faults allows m m' xid k call (entries.Lost xid k) h (record { quiet = λ p. refl; fed = refl; failed = refl; feeding = refl; wrote = refl }) tt (call, asked, unclosed) refl (λ x. refl) l.same l.count l.pending l.shuts (revoked_kept m.requester m'.requester xid l.after l.fed) asked unclosed st
      (follows_lost st.initial m.requester m'.requester m.stopped h xid k end other ended (ap is_some (st.calls xid k call asked unclosed).1) l.none l.after l.on st.represents)

  lost_out_entry : (m m' : RequesterWithSink O C) (xid k : ℕ) (call : Call) (buffers : Buffers) (h : List Entry) → Loses m m' xid buffers → m.requester.state.side.ended ≡ Some ends.Memory → IsCallAt h xid k call → IsUnclosed h k
      → Stands link taken faults allows m h → Stands link taken faults allows m' (h ++ entries.Revoke xid (bytes_of_buffers buffers) k ∷ [])
  lost_out_entry m m' xid k call buffers h l memory asked unclosed st =
      goes_back link taken faults allows m m' xid k call (entries.Revoke xid (bytes_of_buffers buffers) k) h (record { quiet = λ p. refl; fed = refl; failed = refl; feeding = refl; wrote = refl }) tt (call, asked, unclosed) refl (λ x. refl) l.same l.count l.pending l.shuts (revoked_kept m.requester m'.requester xid l.after l.fed) asked unclosed st
      (follows_out st.initial m.requester m'.requester m.stopped h xid k (bytes_of_buffers buffers) memory (ap bytes_of_buffers l.are) (ap is_some (st.calls xid k call asked unclosed).1) l.after l.stops st.represents)

  -- a call is lost
  pub loses : (m m' : RequesterWithSink O C) (xid k : ℕ) (call : Call) (buffers : Buffers) (end : End) (h : List Entry) → Loses m m' xid buffers → m.requester.state.side.ended ≡ Some end → IsCallAt h xid k call → IsUnclosed h k
      → Stands link taken faults allows m h → Stands link taken faults allows m' (h ++ lost_entry end xid buffers k ∷ [])
  loses m m' xid k call buffers ends.Memory h l ended asked unclosed st = lost_out_entry m m' xid k call buffers h l ended asked unclosed st
  loses m m' xid k call buffers (ends.Bad at reason) h l ended asked unclosed st = lost_live_entry m m' xid k call buffers (ends.Bad at reason) h l (other_end m.requester (ends.Bad at reason) ended (λ no. no)) ended asked unclosed st
  loses m m' xid k call buffers (ends.Denied stag to why) h l ended asked unclosed st = lost_live_entry m m' xid k call buffers (ends.Denied stag to why) h l (other_end m.requester (ends.Denied stag to why) ended (λ no. no)) ended asked unclosed st
  loses m m' xid k call buffers (ends.NoBuffer at) h l ended asked unclosed st = lost_live_entry m m' xid k call buffers (ends.NoBuffer at) h l (other_end m.requester (ends.NoBuffer at) ended (λ no. no)) ended asked unclosed st
  loses m m' xid k call buffers (ends.Terminated reason) h l ended asked unclosed st = lost_live_entry m m' xid k call buffers (ends.Terminated reason) h l (other_end m.requester (ends.Terminated reason) ended (λ no. no)) ended asked unclosed st

-- an entry of a lost call closes the call's place
pub lost_closes : (end : End) (xid : ℕ) (buffers : Buffers) (k : ℕ) → closes_of (lost_entry end xid buffers k) ≡ Some k
lost_closes ends.Memory xid buffers k = refl
lost_closes (ends.Bad at reason) xid buffers k = refl
lost_closes (ends.Denied stag to why) xid buffers k = refl
lost_closes (ends.NoBuffer at) xid buffers k = refl
lost_closes (ends.Terminated reason) xid buffers k = refl

pub lost_quiet : (end : End) (xid : ℕ) (buffers : Buffers) (k : ℕ) → is_feeding (lost_entry end xid buffers k) ≡ false
lost_quiet ends.Memory xid buffers k = refl
lost_quiet (ends.Bad at reason) xid buffers k = refl
lost_quiet (ends.Denied stag to why) xid buffers k = refl
lost_quiet (ends.NoBuffer at) xid buffers k = refl
lost_quiet (ends.Terminated reason) xid buffers k = refl
