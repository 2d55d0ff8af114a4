-- Entries that don't feed take no call from those that are outstanding.
use Rattle.std.proofs.Common.{◌≡◌, ℕ, ◌<◌, arith, Bool, true, false, eqb, ◌&&◌, List, [], ◌∷◌, ◌++◌, length, Option, None, Some, refl, sym, subst, append-nil, append_assoc}
use Rattle.std.specs.List.{AllByRecursion}
use Rattle.std.proofs.lemmas.List.{length-append, length-map}
use Rattle.nr_link.specs.declared.end.End.{End}
use Rattle.nr_wire.specs.declared.hello.Side.TheVariants.{Initiator}
use Rattle.nr_reduce.specs.declared.call.Submission.TheVariants as submissions
use Rattle.nr_reduce.specs.declared.mark.LinkParameters.{LinkParameters}
use Rattle.nr_reduce.specs.declared.mark.Mark.{Mark}
use Rattle.nr_reduce.specs.declared.mark.Mark.TheVariants as marks
use Rattle.nr_reduce.specs.Client.{client_end, client_rules, client_state_after, outstanding_of, revoked_call, revoked_waiting}
use Rattle.nr_reduce.specs.ClientState.{ClientState}
use Rattle.nr_reduce.specs.SubmitAnswer.{calls_counted}
use Rattle.nr_reduce.specs.EndRules.{EndState, end_state_after, next_end_state_in}
use Rattle.nr_reduce.specs.Events.{RunEvent, if_own}
use Rattle.nr_reduce.specs.Events.RunEvent.{CallSubmitted, MemoryRevoked, QueueWritten}
use Rattle.nr_reduce.specs.History.{AcceptedCall, bytes_received}
use Rattle.nr_reduce.specs.Run.{client}
use Rattle.nr_reduce.proofs.Steps.{client_one}
use Rattle.nr_shared.specs.declared.entry.Entry.{Entry}
use Rattle.nr_shared.specs.declared.entry.Entry.TheVariants as entries
use Rattle.nr_shared.specs.declared.entry.InitialState.{InitialState}
use Rattle.nr_shared.specs.Histories.{initial_of, is_feeding, rejoins}
use Rattle.nr_shared.specs.LinkRuns.{FitsHistory, LinkRun, call_link, links_of, marks_at}
use Rattle.nr_shared.specs.Output.{IsCallOutstanding}
use Rattle.nr_shared.proofs.Ends.{fits_initial}
use Rattle.nr_shared.proofs.Histories.{initial_more, rejoins_grow}
use Rattle.nr_shared.proofs.LinkRuns.{fits_fewer, is_rejoin, links_more, links_same, with_marks}

true_false : true ≡ false → ⊥
true_false e = absurd cc

-- a link that fits a history fits its beginning
pub fits_before : (h es : List Entry) (c : InitialState) (opened : LinkParameters) (numbers : ℕ → ℕ) (before : List Mark) → initial_of h ≡ Some c → FitsHistory (h ++ es) opened numbers before → FitsHistory h opened numbers before
fits_before h es c opened numbers before is fits =
    (c, is, fits_fewer c (rejoins h) (rejoins (h ++ es)) opened numbers before (rejoins_grow h es) (fits_initial (h ++ es) c opened numbers before (initial_more h es c is) fits))

-- ---- The client of a run

-- if a call counts, one still does
abbrev Counts : EndState ClientState → EndState ClientState → Type 0
Counts r s = 0 < calls_counted r.state → 0 < calls_counted s.state

-- an event of which this holds in each state
abbrev CountsAt : LinkParameters → RunEvent → Type 0
CountsAt opened event = (k : ClientState) (end : Option End) → Counts (record { state = k; ended = end }) (next_end_state_in (client_rules opened) k event end)

at_submit : (opened : LinkParameters) (place : ℕ) (a : AcceptedCall) → CountsAt opened (CallSubmitted place a)
unfolding client_end client_state_after
at_submit opened place a k None some = let l = length-append k.outstanding (outstanding_of k a ∷ []) in omega (arith, l)
at_submit opened place a k (Some end) some = some

at_revoke : (opened : LinkParameters) (place xid : ℕ) → CountsAt opened (MemoryRevoked place xid)
unfolding client_end client_state_after
at_revoke opened place xid k None some = let l = length-map k.outstanding (revoked_call xid) in let w = length-map k.waiting (revoked_waiting xid) in omega (arith, l, w, some)
at_revoke opened place xid k (Some end) some = some

at_write : (opened : LinkParameters) (taken : ℕ) → CountsAt opened (QueueWritten taken)
unfolding client_end client_state_after
at_write opened taken k None some = some
at_write opened taken k (Some end) some = some

by_own : (opened : LinkParameters) (r : EndState ClientState) (event : RunEvent) (b : Bool) → CountsAt opened event → Counts r (end_state_after (client_rules opened) r (if_own b (event ∷ [])))
by_own opened r event true counts = counts r.state r.ended
by_own opened r event false counts = λ some. some

module _ (opened : LinkParameters) (link : ℕ) where
  after_mark : (run : List Mark) (mark : Mark) (b : Bool) (event : RunEvent) → CountsAt opened event
      → client opened link (run ++ mark ∷ []) ≡ end_state_after (client_rules opened) (client opened link run) (if_own b (event ∷ []))
      → Counts (client opened link run) (client opened link (run ++ mark ∷ []))
  after_mark run mark b event counts is = let r = client opened link run in
      subst (λ (s : EndState ClientState). Counts r s) (sym is) (by_own opened r event b counts)

  after_none : (run : List Mark) (mark : Mark) → client opened link (run ++ mark ∷ []) ≡ client opened link run → Counts (client opened link run) (client opened link (run ++ mark ∷ []))
  after_none run mark is = let r = client opened link run in subst (λ (s : EndState ClientState). Counts r s) (sym is) (λ some. some)

-- ---- A history with entries that don't feed

abbrev at_link : LinkRun → EndState ClientState
at_link l = client l.at.opened l.at.link l.run

module _ (opened : LinkParameters) (numbers : ℕ → ℕ) (before : List Mark) where
  abbrev at_history : List Entry → EndState ClientState
  at_history h = at_link (links_of opened numbers before 0 h)

  more_run : (h : List Entry) (e : Entry) → is_rejoin e ≡ false →
      Counts (at_history h) (at_link (with_marks (links_of opened numbers before 0 h) (marks_at 0 (links_of opened numbers before 0 h) e))) → Counts (at_history h) (at_history (h ++ e ∷ []))
  more_run h e none counts = subst (λ (l : LinkRun). Counts (at_history h) (at_link l)) (sym (links_more opened numbers before 0 h e none)) counts

  same_run : (h : List Entry) (e : Entry) → is_rejoin e ≡ false → ((l : LinkRun) → marks_at 0 l e ≡ []) → Counts (at_history h) (at_history (h ++ e ∷ []))
  same_run h e none quiet = subst (λ (l : LinkRun). Counts (at_history h) (at_link l)) (sym (links_same opened numbers before 0 h e none quiet)) (λ some. some)

  one_more : (h : List Entry) (e : Entry) → is_feeding e ≡ false → Counts (at_history h) (at_history (h ++ e ∷ []))
  one_more h (entries.Initial initial) none = absurd (true_false none)
  one_more h (entries.Submit call form xid) none =
      let l = links_of opened numbers before 0 h in
      let mark : Mark = marks.Submit l.at.link call form (submissions.Accepted xid) in
      let place = length (bytes_received l.at.link Initiator l.run) in
      let a : AcceptedCall = record { xid = xid; call = call; form = form } in
      more_run h (entries.Submit call form xid) refl (after_mark l.at.opened l.at.link l.run mark (eqb l.at.link l.at.link && true) (CallSubmitted place a) (at_submit l.at.opened place a) (client_one l.at.opened l.at.link l.run mark))
  one_more h (entries.Wrote bytes) none =
      let l = links_of opened numbers before 0 h in
      let mark : Mark = marks.Wrote l.at.link Initiator bytes in
      more_run h (entries.Wrote bytes) refl (after_mark l.at.opened l.at.link l.run mark (eqb l.at.link l.at.link && true) (QueueWritten (length bytes)) (at_write l.at.opened (length bytes)) (client_one l.at.opened l.at.link l.run mark))
  one_more h (entries.Fed bytes previous) none = absurd (true_false none)
  one_more h (entries.Done xid outcome submit) none =
      let l = links_of opened numbers before 0 h in
      let mark : Mark = marks.Done (call_link l xid).link xid outcome in
      more_run h (entries.Done xid outcome submit) refl (after_none l.at.opened l.at.link l.run mark (client_one l.at.opened l.at.link l.run mark))
  one_more h (entries.Lost xid submit) none =
      let l = links_of opened numbers before 0 h in
      let mark : Mark = marks.Lost (call_link l xid).link xid in
      more_run h (entries.Lost xid submit) refl (after_none l.at.opened l.at.link l.run mark (client_one l.at.opened l.at.link l.run mark))
  one_more h (entries.Forget xid submit) none =
      let l = links_of opened numbers before 0 h in
      let mark : Mark = marks.Forget (call_link l xid).link xid in
      more_run h (entries.Forget xid submit) refl (after_none l.at.opened l.at.link l.run mark (client_one l.at.opened l.at.link l.run mark))
  one_more h (entries.Revoke xid bytes submit) none =
      let l = links_of opened numbers before 0 h in
      let mark : Mark = marks.Revoke (call_link l xid).link xid bytes in
      let place = length (bytes_received l.at.link Initiator l.run) in
      more_run h (entries.Revoke xid bytes submit) refl (after_mark l.at.opened l.at.link l.run mark (eqb (call_link l xid).link l.at.link && true) (MemoryRevoked place xid) (at_revoke l.at.opened place xid) (client_one l.at.opened l.at.link l.run mark))
  one_more h entries.WriteFailed none = same_run h entries.WriteFailed refl (λ l. refl)
  one_more h (entries.Stopped cause previous) none = absurd (true_false none)
  one_more h (entries.OutOfMemory piece previous) none = absurd (true_false none)
  one_more h (entries.Rejoin sink previous) none = absurd (true_false none)

  all_more : (h es : List Entry) → AllByRecursion (λ (e : Entry). is_feeding e ≡ false) es → Counts (at_history h) (at_history (h ++ es))
  all_more h [] quiet = subst (λ (l : List Entry). Counts (at_history h) (at_history l)) (sym (append-nil h)) (λ some. some)
  all_more h (e ∷ es) quiet = subst (λ (l : List Entry). Counts (at_history h) (at_history l)) (append_assoc h (e ∷ []) es) (λ some. all_more (h ++ e ∷ []) es quiet.1 (one_more h e quiet.0 some))

pub outstanding_quiet : (h es : List Entry) (c : InitialState) → initial_of h ≡ Some c → AllByRecursion (λ (e : Entry). is_feeding e ≡ false) es → IsCallOutstanding h → IsCallOutstanding (h ++ es)
outstanding_quiet h es c is quiet out opened numbers before fits = all_more opened numbers before h es quiet (out opened numbers before (fits_before h es c opened numbers before is fits))
