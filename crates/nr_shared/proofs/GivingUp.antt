-- A call is given up after output was written: what is written leaves why the link has ended, and that no message brought an outcome of the call.
use Rattle.std.proofs.Common.{◌≡◌, ℕ, Bool, true, false, eqb, ◌&&◌, List, [], ◌∷◌, ◌++◌, length, Option, None, Some, refl, sym, ap, subst, ◌∙◌, append-nil, append_assoc}
use Rattle.std.specs.Prelude.{Contains}
use Rattle.nr_link.specs.declared.end.End.{End}
use Rattle.nr_link.specs.declared.end.End.TheVariants as ends
use Rattle.nr_wire.specs.declared.hello.Side.TheVariants.{Initiator}
use Rattle.nr_reduce.specs.declared.mark.LinkParameters.{LinkParameters}
use Rattle.nr_reduce.specs.declared.mark.Mark.{Mark}
use Rattle.nr_reduce.specs.declared.mark.Mark.TheVariants as marks
use Rattle.nr_reduce.specs.Client.{client_end, client_rules, client_state_after}
use Rattle.nr_reduce.specs.ClientState.{ClientState}
use Rattle.nr_reduce.specs.EndRules.{EndState, end_state_after, next_end_state_in}
use Rattle.nr_reduce.specs.Events.{if_own}
use Rattle.nr_reduce.specs.Events.RunEvent.{QueueWritten}
use Rattle.nr_reduce.specs.History.{CompletedCall}
use Rattle.nr_reduce.specs.Run.{client}
use Rattle.nr_reduce.proofs.Steps.{client_one}
use Rattle.nr_shared.specs.declared.call_end.CallEnd.{CallEnd}
use Rattle.nr_shared.specs.declared.call_end.CallEnd.TheVariants as calls
use Rattle.nr_shared.specs.declared.entry.Entry.{Entry}
use Rattle.nr_shared.specs.declared.entry.Entry.TheVariants as entries
use Rattle.nr_shared.specs.declared.entry.InitialState.{InitialState}
use Rattle.nr_shared.specs.Draining.{AreWrites}
use Rattle.nr_shared.specs.Ending.{ClientEnded, HasEnded, LinkEnded, LossEnds}
use Rattle.nr_shared.specs.HandedBack.{IsUnanswered}
use Rattle.nr_shared.specs.Histories.{PresentLink, has_write_failed, initial_of, is_lost_by, present, present_after, present_from, stop_of, tries_in, tries_of}
use Rattle.nr_shared.specs.LinkRuns.{LinkRun, OpenedLink, call_link, last_carrier, links_of}
use Rattle.nr_shared.specs.declared.entry.Stop.{Stop}
use Rattle.nr_shared.specs.declared.entry.Stop.TheVariants as causes
use Rattle.nr_shared.proofs.Histories.{initial_more, present_more}
use Rattle.nr_shared.proofs.LinkRuns.{links_more, links_same}
use Rattle.nr_shared.proofs.Outstanding.{fits_before}

-- ---- The client of a run

-- it has ended so still, and has the same outcomes
record KeepsEnd (r s : EndState ClientState) : Type 0 where
  ended : s.ended ≡ r.ended
  outcomes : s.state.outcomes ≡ r.state.outcomes

keeps_both : (r s t : EndState ClientState) → KeepsEnd r s → KeepsEnd s t → KeepsEnd r t
keeps_both r s t one two = record { ended = two.ended ∙ one.ended; outcomes = two.outcomes ∙ one.outcomes }

after_write : (opened : LinkParameters) (k : ClientState) (end : Option End) (n : ℕ) → KeepsEnd (record { state = k; ended = end }) (next_end_state_in (client_rules opened) k (QueueWritten n) end)
unfolding client_end client_state_after
after_write opened k None n = record { ended = refl; outcomes = refl }
after_write opened k (Some end) n = record { ended = refl; outcomes = refl }

after_own : (opened : LinkParameters) (r : EndState ClientState) (n : ℕ) (b : Bool) → KeepsEnd r (end_state_after (client_rules opened) r (if_own b (QueueWritten n ∷ [])))
after_own opened r n true = after_write opened r.state r.ended n
after_own opened r n false = record { ended = refl; outcomes = refl }

after_wrote : (opened : LinkParameters) (link by : ℕ) (run : List Mark) (bytes : List ℕ) → KeepsEnd (client opened link run) (client opened link (run ++ marks.Wrote by Initiator bytes ∷ []))
after_wrote opened link by run bytes = let r = client opened link run in
    subst (λ (s : EndState ClientState). KeepsEnd r s) (sym (client_one opened link run (marks.Wrote by Initiator bytes))) (after_own opened r (length bytes) (eqb by link && true))

-- ---- A history with bytes that are written

-- the links are the same, and the client of each has ended so still
record WroteOn (l k : LinkRun) : Type 0 where
  at : k.at ≡ l.at
  left : k.left ≡ l.left
  keeps : (opened : LinkParameters) (link : ℕ) → KeepsEnd (client opened link l.run) (client opened link k.run)

wrote_none : (l : LinkRun) → WroteOn l l
wrote_none l = record { at = refl; left = refl; keeps = λ opened link. record { ended = refl; outcomes = refl } }

wrote_both : (l k j : LinkRun) → WroteOn l k → WroteOn k j → WroteOn l j
wrote_both l k j one two = record {
  at = two.at ∙ one.at;
  left = two.left ∙ one.left;
  keeps = λ opened link. keeps_both (client opened link l.run) (client opened link k.run) (client opened link j.run) (one.keeps opened link) (two.keeps opened link);
}

module _ (opened : LinkParameters) (numbers : ℕ → ℕ) (before : List Mark) (n : ℕ) where
  abbrev at_run : List Entry → LinkRun
  at_run h = links_of opened numbers before n h

  one_more : (h es : List Entry) (e : Entry) → WroteOn (at_run h) (at_run (h ++ e ∷ [])) → WroteOn (at_run (h ++ e ∷ [])) (at_run ((h ++ e ∷ []) ++ es)) → WroteOn (at_run h) (at_run (h ++ e ∷ es))
  one_more h es e one rest = subst (λ (x : List Entry). WroteOn (at_run h) (at_run x)) (append_assoc h (e ∷ []) es) (wrote_both (at_run h) (at_run (h ++ e ∷ [])) (at_run ((h ++ e ∷ []) ++ es)) one rest)

  run_keeps : (h es : List Entry) → AreWrites es → WroteOn (at_run h) (at_run (h ++ es))
  run_keeps h [] are = subst (λ (x : List Entry). WroteOn (at_run h) (at_run x)) (sym (append-nil h)) (wrote_none (at_run h))
  run_keeps h (entries.Wrote bytes ∷ es) are = let e : Entry = entries.Wrote bytes in let l = at_run h in
      one_more h es e (subst (WroteOn l) (sym (links_more opened numbers before n h e refl)) (record { at = refl; left = refl; keeps = λ o k. after_wrote o k l.at.link l.run bytes })) (run_keeps (h ++ e ∷ []) es are)
  run_keeps h (entries.WriteFailed ∷ es) are = let e : Entry = entries.WriteFailed in
      one_more h es e (subst (WroteOn (at_run h)) (sym (links_same opened numbers before n h e refl (λ l. refl))) (wrote_none (at_run h))) (run_keeps (h ++ e ∷ []) es are)
  run_keeps h (entries.Initial initial ∷ es) are = absurd are
  run_keeps h (entries.Submit call form xid ∷ es) are = absurd are
  run_keeps h (entries.Fed bytes previous ∷ es) are = absurd are
  run_keeps h (entries.Done xid outcome submit ∷ es) are = absurd are
  run_keeps h (entries.Lost xid submit ∷ es) are = absurd are
  run_keeps h (entries.Forget xid submit ∷ es) are = absurd are
  run_keeps h (entries.Revoke xid bytes submit ∷ es) are = absurd are
  run_keeps h (entries.Stopped cause previous ∷ es) are = absurd are
  run_keeps h (entries.OutOfMemory piece previous ∷ es) are = absurd are
  run_keeps h (entries.Rejoin sink previous ∷ es) are = absurd are

-- ---- Why the link has ended

-- why no more is fed stays, and how many links were left; a write that failed has failed still
record WroteOver (p q : PresentLink) : Type 0 where
  stopped : q.stopped ≡ p.stopped
  left : length q.left ≡ length p.left
  failed : p.write_failed ≡ true → q.write_failed ≡ true

over_both : (p q s : PresentLink) → WroteOver p q → WroteOver q s → WroteOver p s
over_both p q s one two = record { stopped = two.stopped ∙ one.stopped; left = two.left ∙ one.left; failed = λ is. two.failed (one.failed is) }

over_writes : (p : PresentLink) (es : List Entry) → AreWrites es → WroteOver p (present_from p es)
over_writes p [] are = record { stopped = refl; left = refl; failed = λ is. is }
over_writes p (entries.Wrote bytes ∷ es) are = let q = present_after p (entries.Wrote bytes) in over_both p q (present_from q es) (record { stopped = refl; left = refl; failed = λ is. is }) (over_writes q es are)
over_writes p (entries.WriteFailed ∷ es) are = let q = present_after p entries.WriteFailed in over_both p q (present_from q es) (record { stopped = refl; left = refl; failed = λ is. refl }) (over_writes q es are)
over_writes p (entries.Initial initial ∷ es) are = absurd are
over_writes p (entries.Submit call form xid ∷ es) are = absurd are
over_writes p (entries.Fed bytes previous ∷ es) are = absurd are
over_writes p (entries.Done xid outcome submit ∷ es) are = absurd are
over_writes p (entries.Lost xid submit ∷ es) are = absurd are
over_writes p (entries.Forget xid submit ∷ es) are = absurd are
over_writes p (entries.Revoke xid bytes submit ∷ es) are = absurd are
over_writes p (entries.Stopped cause previous ∷ es) are = absurd are
over_writes p (entries.OutOfMemory piece previous ∷ es) are = absurd are
over_writes p (entries.Rejoin sink previous ∷ es) are = absurd are

-- a link that is lost is so still
still_lost : (a b : Bool) (o : Option Stop) → (a ≡ true → b ≡ true) → is_lost_by a o ≡ true → is_lost_by b o ≡ true
still_lost a b None more is = more is
still_lost a b (Some causes.LinkRead) more is = refl
still_lost a b (Some causes.Closed) more is = refl
still_lost a b (Some causes.Budget) more is = is
still_lost a b (Some causes.Memory) more is = is
still_lost a b (Some causes.DialFault) more is = is
still_lost a b (Some (causes.Spent left need)) more is = is
still_lost a b (Some causes.NotReopened) more is = is

module _ (h es : List Entry) (c : InitialState) (is : initial_of h ≡ Some c) (are : AreWrites es) where
  over : WroteOver (present h) (present (h ++ es))
  over = subst (WroteOver (present h)) (sym (present_more h es)) (over_writes (present h) es are)

  stop_still : stop_of (h ++ es) ≡ stop_of h
  stop_still = over.stopped

  client_still : (end : End) → ClientEnded end h → ClientEnded end (h ++ es)
  client_still end ended opened numbers before fits =
      let l = links_of opened numbers before 0 h in
      let k = links_of opened numbers before 0 (h ++ es) in
      let w = run_keeps opened numbers before 0 h es are in
      subst (λ (e : OpenedLink). (client e.opened e.link k.run).ended ≡ Some end) (sym w.at) ((w.keeps l.at.opened l.at.link).ended ∙ ended opened numbers before (fits_before h es c opened numbers before is fits))

  end_still : (end : End) → HasEnded end h → HasEnded end (h ++ es)
  end_still ends.Memory ended = stop_still ∙ ended
  end_still (ends.Bad at reason) ended = client_still (ends.Bad at reason) ended
  end_still (ends.Denied stag to why) ended = client_still (ends.Denied stag to why) ended
  end_still (ends.NoBuffer at) ended = client_still (ends.NoBuffer at) ended
  end_still (ends.Terminated reason) ended = client_still (ends.Terminated reason) ended

  tries_still : tries_of (h ++ es) ≡ tries_of h
  tries_still = ap tries_in (initial_more h es c is ∙ sym is)

  loss_still : (o : Option ℕ) (end : CallEnd) → LossEnds o end h → LossEnds o end (h ++ es)
  loss_still None calls.LinkWrite ended = over.failed ended
  loss_still None calls.LinkRead ended = stop_still ∙ ended
  loss_still None calls.Closed ended = stop_still ∙ ended
  loss_still None (calls.Ended end) ended = absurd ended
  loss_still None (calls.Tries n) ended = absurd ended
  loss_still None calls.DialFault ended = absurd ended
  loss_still None (calls.Spent left need) ended = absurd ended
  loss_still None (calls.TooLarge need room) ended = absurd ended
  loss_still None (calls.Budget read) ended = absurd ended
  loss_still None calls.Memory ended = absurd ended
  loss_still (Some tries) (calls.Tries n) ended = (
    ended.0,
    (
      over.left ∙ ended.1.0,
      subst (λ (o : Option Stop). is_lost_by (has_write_failed (h ++ es)) o ≡ true) (sym stop_still) (still_lost (has_write_failed h) (has_write_failed (h ++ es)) (stop_of h) over.failed ended.1.1),
    ),
  )
  loss_still (Some tries) (calls.Ended end) ended = absurd ended
  loss_still (Some tries) calls.LinkWrite ended = absurd ended
  loss_still (Some tries) calls.LinkRead ended = absurd ended
  loss_still (Some tries) calls.Closed ended = absurd ended
  loss_still (Some tries) calls.DialFault ended = stop_still ∙ ended
  loss_still (Some tries) (calls.Spent left need) ended = stop_still ∙ ended
  loss_still (Some tries) (calls.TooLarge need room) ended = absurd ended
  loss_still (Some tries) (calls.Budget read) ended = absurd ended
  loss_still (Some tries) calls.Memory ended = stop_still ∙ ended

  loss_more : (end : CallEnd) → LossEnds (tries_of h) end h → LossEnds (tries_of (h ++ es)) end (h ++ es)
  loss_more end ended = subst (λ (o : Option ℕ). LossEnds o end (h ++ es)) (sym tries_still) (loss_still (tries_of h) end ended)

pub still_ended : (end : CallEnd) (h es : List Entry) (c : InitialState) → initial_of h ≡ Some c → AreWrites es → LinkEnded end h → LinkEnded end (h ++ es)
still_ended (calls.Ended end) h es c is are ended = end_still h es c is are end ended
still_ended calls.LinkWrite h es c is are ended = loss_more h es c is are calls.LinkWrite ended
still_ended calls.LinkRead h es c is are ended = loss_more h es c is are calls.LinkRead ended
still_ended calls.Closed h es c is are ended = loss_more h es c is are calls.Closed ended
still_ended (calls.Tries n) h es c is are ended = loss_more h es c is are (calls.Tries n) ended
still_ended calls.DialFault h es c is are ended = loss_more h es c is are calls.DialFault ended
still_ended (calls.Budget read) h es c is are ended = (ended.0, stop_still h es c is are ∙ ended.1)
still_ended (calls.Spent left need) h es c is are ended = loss_more h es c is are (calls.Spent left need) ended
still_ended (calls.TooLarge need room) h es c is are ended = loss_more h es c is are (calls.TooLarge need room) ended
still_ended calls.Memory h es c is are ended = loss_more h es c is are calls.Memory ended

pub still_unanswered : (xid : ℕ) (h es : List Entry) (c : InitialState) → initial_of h ≡ Some c → AreWrites es → IsUnanswered xid h → IsUnanswered xid (h ++ es)
still_unanswered xid h es c is are u = record {
  n = u.n;
  none = λ opened numbers before fits d there.
      (let l = links_of opened numbers before u.n h in
      let k = links_of opened numbers before u.n (h ++ es) in
      let w = run_keeps opened numbers before u.n h es are in
      let same : call_link k xid ≡ call_link l xid = (λ i. last_carrier (w.at i) (w.left i) xid) in
      u.none opened numbers before (fits_before h es c opened numbers before is fits) d
      (subst (λ (cs : List CompletedCall). Contains cs d) (w.keeps (call_link l xid).opened (call_link l xid).link).outcomes
      (subst (λ (e : OpenedLink). Contains (client e.opened e.link k.run).state.outcomes d) same there)));
}
