-- Output that is due is written before more is fed, and the buffers of an answer have what its regions hold.
use Rattle.std.proofs.Common.{◌≡◌, ℕ, if◌then◌else◌, Bool, true, false, List, [], ◌∷◌, ◌++◌, length, map, Option, Some, None, inl, inr, refl, sym, ap, subst, ◌∙◌, ⊎_elim, append-nil}
use Rattle.std.specs.List.{AllByRecursion, filter, find}
use Rattle.std.specs.Prelude.{◌==◌, is_some}
use Rattle.std.proofs.lemmas.Bool.{eq-eqb}
use Rattle.nr_link.specs.declared.end.End.TheVariants as ends
use Rattle.nr_wire.specs.declared.hello.Side.TheVariants.{Initiator}
use Rattle.nr_reduce.specs.declared.mark.LinkParameters.{LinkParameters}
use Rattle.nr_reduce.specs.declared.mark.Mark.{Mark}
use Rattle.nr_reduce.specs.OfferedRegions.{Region}
use Rattle.nr_reduce.specs.OfferedMemory.{AreReceived}
use Rattle.nr_reduce.specs.ClientState.{ClientState, client_memory_at}
use Rattle.nr_reduce.specs.EndRules.{EndState}
use Rattle.nr_reduce.specs.History.{bytes_received, bytes_sent}
use Rattle.nr_reduce.specs.Run.{HasWritten, client, grants_of, placed_bytes}
use Rattle.nr_reduce.proofs.OwnStags.{client_known}
use Rattle.nr_requester.specs.declared.answer.AnsweredCall.{AnsweredCall}
use Rattle.nr_requester.specs.KeptAnswers.{StillHolds, buffers_in, regions_of}
use Rattle.nr_requester.specs.OpenCalls.{found_answer}
use Rattle.nr_requester.specs.RequesterState.{RequesterSide, queue_of}
use Rattle.nr_requester.proofs.AnsweredRegions.{own_of_numbered, still_placed}
use Rattle.nr_requester.proofs.FoundAnswers.{found_own}
use Rattle.nr_requester.proofs.OpenTickets.{answer_one}
use Rattle.nr_requester.proofs.OwnSides.{own_found}
use Rattle.nr_turnstile.specs.declared.turn.Turn.{Turn}
use Rattle.nr_turnstile.specs.Passes.{seen_by}
use Rattle.nr_turnstile.specs.Turns.{pass_of}
use Rattle.nr_shared.specs.declared.entry.Entry.{Entry}
use Rattle.nr_shared.specs.declared.entry.Entry.TheVariants as entries
use Rattle.nr_shared.specs.declared.entry.InitialState.{InitialState}
use Rattle.nr_shared.specs.declared.entry.Stop.{Stop}
use Rattle.nr_shared.specs.declared.requester_with_sink.RequesterWithSink.{RequesterWithSink}
use Rattle.nr_shared.specs.Callers.{IsReady}
use Rattle.nr_shared.specs.HandedBack.{HavePlaced, regions_placed}
use Rattle.nr_shared.specs.Histories.{initial_of, closes_of, is_feeding, present, sink_of, stop_of}
use Rattle.nr_shared.specs.LinkRuns.{LinkRun, OpenedLink, call_link, carries, is_of, last_carrier, links_of}
use Rattle.nr_shared.specs.LinkStanding.{IsLeft, IsLiveOn, IsOutOn}
use Rattle.nr_shared.specs.declared.entry.InitialSink.{InitialSink}
use Rattle.nr_shared.specs.Output.{EntriesMayFollow, HasWrittenOutput, MayFollow, OutputBeforeInput, WritesInFull, fails_next, is_piece, write_failed}
use Rattle.nr_shared.specs.private.Flushed.{HasFlushed, IsFlushed}
use Rattle.nr_shared.specs.Standing.{KeepsSinkIf, RepresentsHistory, RepresentsHistoryIf, Stands, is_out_of_memory}
use Rattle.nr_shared.proofs.Ends.{fits_initial, out_is}
use Rattle.nr_shared.proofs.Lists.{each_end, none_left, split_end}
use Rattle.nr_reduce.specs.declared.call.Call.{Call}
use Rattle.nr_reduce.specs.declared.call.Form.{Form}

true_false : true ≡ false → ⊥
true_false e = absurd cc

none_closes_any : (k : ℕ) → None ≡ Some k → ⊥
none_closes_any k e = absurd cc

-- ---- One entry more

pub output_end : (h : List Entry) (e : Entry) → (is_piece e ≡ true → HasWrittenOutput h) → OutputBeforeInput h → OutputBeforeInput (h ++ e ∷ [])
output_end h e own all = each_end (λ before f. is_piece f ≡ true → HasWrittenOutput before) h e own all

false_true : false ≡ true → ⊥
false_true e = absurd cc

-- an entry that is no piece
pub output_same : (h : List Entry) (e : Entry) → is_piece e ≡ false → OutputBeforeInput h → OutputBeforeInput (h ++ e ∷ [])
output_same h e none all = output_end h e (λ is. absurd (false_true (sym none ∙ is))) all

pub no_piece : (e : Entry) → is_feeding e ≡ false → is_piece e ≡ false
no_piece (entries.Initial initial) none = refl
no_piece (entries.Submit call form xid) none = refl
no_piece (entries.Wrote bytes) none = refl
no_piece (entries.Fed bytes previous) none = none
no_piece (entries.Done xid outcome submit) none = refl
no_piece (entries.Lost xid submit) none = refl
no_piece (entries.Forget xid submit) none = refl
no_piece (entries.Revoke xid bytes submit) none = refl
no_piece entries.WriteFailed none = refl
no_piece (entries.Stopped cause previous) none = refl
no_piece (entries.Rejoin sink previous) none = refl
no_piece (entries.OutOfMemory piece previous) none = absurd (true_false none)

-- before anything was fed
at_middle : (before later : List Entry) (e : Entry) → AllByRecursion (λ (x : Entry). is_piece x ≡ false) (before ++ e ∷ later) → is_piece e ≡ false
at_middle [] later e all = all.0
at_middle (b ∷ bs) later e all = at_middle bs later e all.1

pub output_none : (h : List Entry) → AllByRecursion (λ (x : Entry). is_piece x ≡ false) h → OutputBeforeInput h
output_none h all before later e is piece = absurd (true_false (sym piece ∙ at_middle before later e (subst (λ (l : List Entry). AllByRecursion (λ (x : Entry). is_piece x ≡ false) l) is all)))

-- ---- A Wrote is in full

abbrev pub is_wrote : Entry → Bool
is_wrote (entries.Wrote bytes) = true
is_wrote entry = false

fails_before : (rest : List Entry) (e : Entry) → fails_next (rest ++ e ∷ []) ≡ false → fails_next rest ≡ false
fails_before [] e is = refl
fails_before (x ∷ xs) e is = is

fails_less : (later rest : List Entry) (e : Entry) → later ≡ rest ++ e ∷ [] → fails_next later ≡ false → fails_next rest ≡ false
fails_less later rest e are is = fails_before rest e (ap (λ (l : List Entry). fails_next l) (sym are) ∙ is)

-- an entry that is no Wrote
pub full_same : (h : List Entry) (e : Entry) → is_wrote e ≡ false → WritesInFull h → WritesInFull (h ++ e ∷ [])
full_same h e none all before later bytes is whole = ⊎_elim
    (λ (last : (h ≡ before) × (e ≡ entries.Wrote bytes) × (later ≡ [])). absurd (false_true (sym none ∙ ap is_wrote last.1)))
    (λ (more : (rest : List Entry) × (h ≡ before ++ entries.Wrote bytes ∷ rest) × (later ≡ rest ++ e ∷ [])). all before more.0 bytes more.1 (fails_less later more.0 e more.2 whole))
    (split_end h before later (entries.Wrote bytes) e is)

-- all that is due was written
pub full_wrote : (h : List Entry) (own : List ℕ) → HasWrittenOutput (h ++ entries.Wrote own ∷ []) → WritesInFull h → WritesInFull (h ++ entries.Wrote own ∷ [])
full_wrote h own written all before later bytes is whole = ⊎_elim
    (λ (last : (h ≡ before) × (entries.Wrote own ≡ entries.Wrote bytes) × (later ≡ [])).
    subst (λ (l : List Entry). HasWrittenOutput (l ++ entries.Wrote bytes ∷ [])) last.0 (subst (λ (x : Entry). HasWrittenOutput (h ++ x ∷ [])) last.1 written))
    (λ (more : (rest : List Entry) × (h ≡ before ++ entries.Wrote bytes ∷ rest) × (later ≡ rest ++ entries.Wrote own ∷ [])). all before more.0 bytes more.1 (fails_less later more.0 (entries.Wrote own) more.2 whole))
    (split_end h before later (entries.Wrote bytes) (entries.Wrote own) is)

-- the write failed
pub full_failed : (h : List Entry) (own : List ℕ) → WritesInFull h → WritesInFull ((h ++ entries.Wrote own ∷ []) ++ entries.WriteFailed ∷ [])
full_failed h own all before later bytes is whole = ⊎_elim
    (λ (last : (h ++ entries.Wrote own ∷ [] ≡ before) × (entries.WriteFailed ≡ entries.Wrote bytes) × (later ≡ [])). absurd (false_true (ap is_wrote last.1)))
    (λ (more : (rest : List Entry) × (h ++ entries.Wrote own ∷ [] ≡ before ++ entries.Wrote bytes ∷ rest) × (later ≡ rest ++ entries.WriteFailed ∷ [])). ⊎_elim
    (λ (last : (h ≡ before) × (entries.Wrote own ≡ entries.Wrote bytes) × (more.0 ≡ [])).
    absurd (true_false (sym (ap (λ (l : List Entry). fails_next l) (more.2 ∙ ap (λ (l : List Entry). l ++ entries.WriteFailed ∷ []) last.2)) ∙ whole)))
    (λ (first : (rest : List Entry) × (h ≡ before ++ entries.Wrote bytes ∷ rest) × (more.0 ≡ rest ++ entries.Wrote own ∷ [])).
    all before first.0 bytes first.1 (fails_less more.0 first.0 (entries.Wrote own) first.2 (fails_less later more.0 entries.WriteFailed more.2 whole)))
    (split_end h before more.0 (entries.Wrote bytes) (entries.Wrote own) more.1))
    (split_end (h ++ entries.Wrote own ∷ []) before later (entries.Wrote bytes) entries.WriteFailed is)

pub none_wrote : WritesInFull []
none_wrote before later bytes is whole = absurd (none_left before later (entries.Wrote bytes) is)

-- ---- What an entry may follow

pub follow_end : (h : List Entry) (e : Entry) → MayFollow h e → EntriesMayFollow h → EntriesMayFollow (h ++ e ∷ [])
follow_end h e own all = each_end MayFollow h e own all

pub none_follow : EntriesMayFollow []
none_follow before later e is = absurd (none_left before later e is)

-- an entry of a call may follow any
pub call_follows : (h : List Entry) (e : Entry) → is_feeding e ≡ false → is_wrote e ≡ false → write_failed e ≡ false → MayFollow h e
call_follows h (entries.Initial initial) feeds wrote failed = tt
call_follows h (entries.Submit call form xid) feeds wrote failed = tt
call_follows h (entries.Wrote bytes) feeds wrote failed = absurd (true_false wrote)
call_follows h (entries.Fed bytes previous) feeds wrote failed = absurd (true_false feeds)
call_follows h (entries.Done xid outcome submit) feeds wrote failed = tt
call_follows h (entries.Lost xid submit) feeds wrote failed = tt
call_follows h (entries.Forget xid submit) feeds wrote failed = tt
call_follows h (entries.Revoke xid bytes submit) feeds wrote failed = tt
call_follows h entries.WriteFailed feeds wrote failed = absurd (true_false failed)
call_follows h (entries.Stopped cause previous) feeds wrote failed = absurd (true_false feeds)
call_follows h (entries.Rejoin sink previous) feeds wrote failed = absurd (true_false feeds)
call_follows h (entries.OutOfMemory piece previous) feeds wrote failed = absurd (true_false feeds)

-- an entry that closes another is no Wrote
pub closing_wrote : (e : Entry) (k : ℕ) → closes_of e ≡ Some k → is_wrote e ≡ false
closing_wrote (entries.Initial initial) k closes = refl
closing_wrote (entries.Submit call form xid) k closes = refl
closing_wrote (entries.Wrote bytes) k closes = absurd (none_closes_any k closes)
closing_wrote (entries.Fed bytes previous) k closes = refl
closing_wrote (entries.Done xid outcome submit) k closes = refl
closing_wrote (entries.Lost xid submit) k closes = refl
closing_wrote (entries.Forget xid submit) k closes = refl
closing_wrote (entries.Revoke xid bytes submit) k closes = refl
closing_wrote entries.WriteFailed k closes = refl
closing_wrote (entries.Stopped cause previous) k closes = refl
closing_wrote (entries.Rejoin sink previous) k closes = refl
closing_wrote (entries.OutOfMemory piece previous) k closes = refl

-- ---- What is written

written_now : (l : LinkRun) (r : RequesterSide) → queue_of r.state ≡ [] → IsLiveOn l r → HasWritten l.at.opened l.at.link Initiator l.run
written_now l r none live =
    sym (append-nil (bytes_sent l.at.link Initiator l.run)) ∙ ap (λ (bytes : List ℕ). bytes_sent l.at.link Initiator l.run ++ bytes) (sym none) ∙ live.keeps.keeps.kept.output

-- a requester whose queue is empty has written all that is due by the history that it stands for
pub queue_written : (c : InitialState) (r : RequesterSide) (o : Option Stop) (h : List Entry) → initial_of h ≡ Some c → o ≡ stop_of h → RepresentsHistory c r o h → queue_of r.state ≡ [] → HasWrittenOutput h
queue_written c r o h is stopped represents none whole going there opened numbers before fits = by_out (is_out_of_memory o) refl where
  l : LinkRun
  l = links_of opened numbers before 0 h

  by_out : (b : Bool) → is_out_of_memory o ≡ b → HasWritten l.at.opened l.at.link Initiator l.run
  by_out true out = absurd (going (sym stopped ∙ out_is o out))
  by_out false out =
      let f = subst (λ b. RepresentsHistoryIf b c r h) out represents in
      written_now l r none (f.1 0 opened numbers before (fits_initial h c opened numbers before is fits))

module _ {O C : Type 0} (link : O → ℕ) (taken : O → Option (List ℕ)) (faults : O → ℕ) (allows : Call → Form → Type 0) where
  pub output_written : (m : RequesterWithSink O C) (h : List Entry) → IsFlushed m → Stands link taken faults allows m h → HasWrittenOutput h
  output_written m h (inl sink_failed) st = λ whole going there opened numbers before fits. absurd (true_false (sym sink_failed ∙ (st.write_failed ∙ whole)))
  output_written m h (inr (inl none)) st = λ whole going there opened numbers before fits. absurd (no_sink m.sink (sink_of h) none st.sink there) where
    no_sink : (o : Option O) (i : Option InitialSink) → o ≡ None → KeepsSinkIf link taken faults o i (present h) → is_some i ≡ true → ⊥
    no_sink None None e keeps some = false_true some
    no_sink None (Some i) e keeps some = keeps
    no_sink (Some s) i e keeps some = absurd cc
  output_written m h (inr (inr none)) st = queue_written st.initial m.requester m.stopped h st.is_initial st.stopped st.represents (st.pending none)

  pub turn_written : (t : Turn (RequesterWithSink O C) Entry) → IsReady link taken faults allows t → HasFlushed t → HasWrittenOutput (seen_by (pass_of t))
  turn_written t r flushed = output_written r.value (seen_by (pass_of t)) (flushed r.value r.has) r.stands

-- ---- The buffers of an answer

-- one of those that belong to a link
answer_placed : (is_own : ℕ → Bool) (opened : LinkParameters) (link : ℕ) (answers : List AnsweredCall) (run : List Mark) (xid count : ℕ) (a : AnsweredCall) → is_own xid ≡ true →
    AllByRecursion (StillHolds (client opened link run).state.next_xid (client opened link run).state) (filter (λ (x : AnsweredCall). is_own x.xid) answers) → AreReceived count (client opened link run).state.accesses_received
    → find (λ (x : AnsweredCall). x.xid == xid) answers ≡ Some a → buffers_in a.buffers ≡ regions_placed opened link run xid
unfolding client placed_bytes grants_of
answer_placed is_own opened link answers run xid count a mine holds received there =
    let s : ClientState = (client opened link run).state in
    let place : ℕ = length (bytes_received link Initiator run) in
    let kept : List AnsweredCall = filter (λ (x : AnsweredCall). is_own x.xid) answers in
    let found : find (λ (x : AnsweredCall). x.xid == xid) kept ≡ Some a = own_found is_own xid answers mine ∙ there in
    let own : a.xid ≡ xid = found_own xid kept a found in
    still_placed s place count _ a (own_of_numbered opened.first_stag s.regions (client_known opened link run).regions) received (answer_one _ xid a kept holds found)
    ∙ ap (λ (x : ℕ). map (λ (g : Region). client_memory_at s place g.stag) (regions_of x s)) own

-- the buffers have what the regions of the call's link hold
abbrev Placed : LinkRun → (xid : ℕ) → AnsweredCall → OpenedLink → Type 0
Placed l xid a e = buffers_in a.buffers ≡ regions_placed e.opened e.link l.run xid

left_placed : (l : LinkRun) (r : RequesterSide) (xid : ℕ) (a : AnsweredCall) (e : OpenedLink) → IsLeft l r e → is_of l e.link xid ≡ true → found_answer xid r.state ≡ Some a → Placed l xid a e
left_placed l r xid a e left own there = answer_placed (is_of l e.link) e.opened e.link r.state.answered l.run xid _ a own left.keeps.holds left.keeps.accesses there

-- the link of a call is the one at hand, or was left
carrier_has : (P : OpenedLink → Type 0) (at : OpenedLink) (left : List OpenedLink) (xid : ℕ) → P at → AllByRecursion P left → P (last_carrier at left xid)
carrier_has P at [] xid one all = one
carrier_has P at (e ∷ left) xid one all = by (carries at.opened xid) (carrier_has P e left xid all.0 all.1)
  where
    by : (b : Bool) → P (last_carrier e left xid) → P (if b then at else last_carrier e left xid)
    by true rest = one
    by false rest = rest

-- such is so of the link of a call, if it is of each link to which the call belongs
pub of_call : (l : LinkRun) (xid : ℕ) (P : OpenedLink → Type 0) → (is_of l l.at.link xid ≡ true → P l.at) → AllByRecursion (λ (e : OpenedLink). is_of l e.link xid ≡ true → P e) l.left → P (call_link l xid)
of_call l xid P one all = carrier_has (λ (e : OpenedLink). is_of l e.link xid ≡ true → P e) l.at l.left xid one all (eq-eqb (call_link l xid).link (call_link l xid).link refl)

all_placed : (l : LinkRun) (r : RequesterSide) (xid : ℕ) (a : AnsweredCall) (left : List OpenedLink) → found_answer xid r.state ≡ Some a → AllByRecursion (IsLeft l r) left → AllByRecursion (λ (e : OpenedLink). is_of l e.link xid ≡ true → Placed l xid a e) left
all_placed l r xid a [] there all = tt
all_placed l r xid a (e ∷ left) there all = ((λ own. left_placed l r xid a e all.0 own there), all_placed l r xid a left there all.1)

live_placed : (l : LinkRun) (r : RequesterSide) (xid : ℕ) (a : AnsweredCall) → IsLiveOn l r → found_answer xid r.state ≡ Some a → Placed l xid a (call_link l xid)
unfolding client
live_placed l r xid a live there = of_call l xid (Placed l xid a)
    (λ own. answer_placed (is_of l l.at.link) l.at.opened l.at.link r.state.answered l.run xid _ a own live.keeps.answers.holds live.keeps.keeps.kept.keeps.accesses there)
    (all_placed l r xid a l.left there live.left)

out_placed : (l : LinkRun) (r : RequesterSide) (xid : ℕ) (a : AnsweredCall) → IsOutOn l r → found_answer xid r.state ≡ Some a → Placed l xid a (call_link l xid)
unfolding client
out_placed l r xid a out there = of_call l xid (Placed l xid a)
    (λ own. answer_placed (is_of l l.at.link) l.at.opened l.at.link r.state.answered l.run xid _ a own out.keeps.answers.holds
    (subst (λ (e : EndState ClientState). AreReceived (length (bytes_received l.at.link Initiator out.stopped)) e.state.accesses_received) (sym out.keeps.same) out.keeps.out.keeps.accesses) there)
    (all_placed l r xid a l.left there out.left)

module _ {O C : Type 0} (link : O → ℕ) (taken : O → Option (List ℕ)) (faults : O → ℕ) (allows : Call → Form → Type 0) where
  -- an answer that the requester has
  pub have_placed : (m : RequesterWithSink O C) (h : List Entry) (xid : ℕ) (a : AnsweredCall) → found_answer xid m.requester.state ≡ Some a → Stands link taken faults allows m h → HavePlaced xid a.buffers h
  have_placed m h xid a there st = by_out (is_out_of_memory m.stopped) st.represents where
    by_out : (b : Bool) → RepresentsHistoryIf b st.initial m.requester h → HavePlaced xid a.buffers h
    by_out false f = record { n = 0; placed = λ opened numbers before fits. live_placed (links_of opened numbers before 0 h) m.requester xid a (f.1 0 opened numbers before (fits_initial h st.initial opened numbers before st.is_initial fits)) there }
    by_out true f = record { n = f.1.0; placed = λ opened numbers before fits. out_placed (links_of opened numbers before f.1.0 h) m.requester xid a (f.1.1 opened numbers before (fits_initial h st.initial opened numbers before st.is_initial fits)) there }
