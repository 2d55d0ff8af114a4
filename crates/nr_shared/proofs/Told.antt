-- A dial that failed, and a requester that couldn't be reopened, are told only of a link that may be dialled again.
use Rattle.std.proofs.Common.{◌≡◌, ℕ, List, [], ◌∷◌, ◌++◌, Option, Some, None, refl, sym, ap, subst, ◌∙◌, append-nil, append_assoc}
use Rattle.std.specs.Prelude.{⊤}
use Rattle.nr_reduce.specs.declared.call.Call.{Call}
use Rattle.nr_reduce.specs.declared.call.Form.{Form}
use Rattle.nr_shared.specs.declared.call_end.CallEnd.TheVariants as calls
use Rattle.nr_shared.specs.declared.entry.Entry.{Entry}
use Rattle.nr_shared.specs.declared.entry.Entry.TheVariants as entries
use Rattle.nr_shared.specs.declared.entry.InitialState.{InitialState}
use Rattle.nr_shared.specs.declared.entry.Stop.{Stop}
use Rattle.nr_shared.specs.declared.entry.Stop.TheVariants as causes
use Rattle.nr_shared.specs.declared.requester_with_sink.RequesterWithSink.{RequesterWithSink}
use Rattle.nr_shared.specs.Ending.{LossEnds}
use Rattle.nr_shared.specs.Histories.{initial_of, present, present_after, rejoins, stop_of, tries_in, tries_of}
use Rattle.nr_shared.specs.Output.{EntriesMayFollow, IsTryLeft, MayFollow, MayStop}
use Rattle.nr_shared.specs.Standing.{Stands}
use Rattle.nr_shared.proofs.Histories.{initial_end, initial_more, stop_end}

abbrev pub IsTold : Option ℕ → Option Stop → Type 0
IsTold (Some tries) stopped = ⊤
IsTold None (Some causes.DialFault) = ⊥
IsTold None (Some (causes.Spent left need)) = ⊥
IsTold None (Some causes.NotReopened) = ⊥
IsTold None stopped = ⊤

told_try : (o : Option ℕ) (n : ℕ) (stopped : Option Stop) → IsTryLeft o n → IsTold o stopped
told_try (Some tries) n stopped left = tt
told_try None n stopped left = absurd left

told_memory : (o : Option ℕ) → IsTold o (Some causes.Memory)
told_memory (Some tries) = tt
told_memory None = tt

-- by one entry more
module _ (c : InitialState) (h : List Entry) (is : initial_of h ≡ Some c) where
  own_tries : (P : Option ℕ → Type 0) → P (tries_of h) → P c.tries
  own_tries P of = subst P (ap tries_in is) of

  by_cause : (cause : Stop) → MayStop cause h → IsTold c.tries (Some cause)
  by_cause causes.LinkRead may = any c.tries where
    any : (o : Option ℕ) → IsTold o (Some causes.LinkRead)
    any (Some tries) = tt
    any None = tt
  by_cause causes.Closed may = any c.tries where
    any : (o : Option ℕ) → IsTold o (Some causes.Closed)
    any (Some tries) = tt
    any None = tt
  by_cause causes.Budget may = any c.tries where
    any : (o : Option ℕ) → IsTold o (Some causes.Budget)
    any (Some tries) = tt
    any None = tt
  by_cause causes.Memory may = absurd may
  by_cause causes.DialFault may = absurd may
  by_cause (causes.Spent left need) may = told_try c.tries (rejoins h) (Some (causes.Spent left need)) (own_tries (λ (o : Option ℕ). IsTryLeft o (rejoins h)) may.0.try_left)
  by_cause causes.NotReopened may = told_try c.tries (rejoins h) (Some causes.NotReopened) (own_tries (λ (o : Option ℕ). IsTryLeft o (rejoins h)) may.try_left)

  by_entry : (e : Entry) → MayFollow h e → IsTold c.tries (stop_of h) → IsTold c.tries (present_after (present h) e).stopped
  by_entry (entries.Initial initial) may told = told
  by_entry (entries.Submit call form xid) may told = told
  by_entry (entries.Wrote bytes) may told = told
  by_entry (entries.Fed bytes previous) may told = told
  by_entry (entries.Done xid outcome submit) may told = told
  by_entry (entries.Lost xid submit) may told = told
  by_entry (entries.Forget xid submit) may told = told
  by_entry (entries.Revoke xid bytes submit) may told = told
  by_entry entries.WriteFailed may told = told
  by_entry (entries.Stopped cause previous) may told = by_cause cause may
  by_entry (entries.OutOfMemory piece previous) may told = told_memory c.tries
  by_entry (entries.Rejoin sink previous) may told = told_try c.tries (rejoins h) (present_after (present h) (entries.Rejoin sink previous)).stopped (own_tries (λ (o : Option ℕ). IsTryLeft o (rejoins h)) may.try_left)

told_from : (c : InitialState) (h es : List Entry) → initial_of h ≡ Some c → EntriesMayFollow (h ++ es) → IsTold c.tries (stop_of h) → IsTold c.tries (stop_of (h ++ es))
told_from c h [] is may told = subst (λ (l : List Entry). IsTold c.tries (stop_of l)) (sym (append-nil h)) told
told_from c h (e ∷ es) is may told =
    let one : IsTold c.tries (stop_of (h ++ e ∷ [])) = subst (IsTold c.tries) (sym (stop_end h e)) (by_entry c h is e (may h es e refl) told) in
    subst (λ (l : List Entry). IsTold c.tries (stop_of l)) (append_assoc h (e ∷ []) es)
    (told_from c (h ++ e ∷ []) es (initial_end h e c is) (subst EntriesMayFollow (sym (append_assoc h (e ∷ []) es)) may) one)

none_told : (o : Option ℕ) → IsTold o None
none_told (Some tries) = tt
none_told None = tt

pub tries_told : (c : InitialState) (h : List Entry) → initial_of h ≡ Some c → EntriesMayFollow h → IsTold c.tries (stop_of h)
tries_told c [] is may = absurd (none_initial c is) where
  none_initial : (c : InitialState) → None ≡ Some c → ⊥
  none_initial c e = absurd cc
tries_told c (e ∷ es) is may = told_from c (e ∷ []) es (first e es is) may (subst (IsTold c.tries) (sym (first_stop e es is)) (none_told c.tries)) where
  first : (x : Entry) (xs : List Entry) → initial_of (x ∷ xs) ≡ Some c → initial_of (x ∷ []) ≡ Some c
  first (entries.Initial initial) xs same = same
  first (entries.Submit call form xid) xs same = absurd cc
  first (entries.Wrote bytes) xs same = absurd cc
  first (entries.Fed bytes previous) xs same = absurd cc
  first (entries.Done xid outcome submit) xs same = absurd cc
  first (entries.Lost xid submit) xs same = absurd cc
  first (entries.Forget xid submit) xs same = absurd cc
  first (entries.Revoke xid bytes submit) xs same = absurd cc
  first entries.WriteFailed xs same = absurd cc
  first (entries.Stopped cause previous) xs same = absurd cc
  first (entries.OutOfMemory piece previous) xs same = absurd cc
  first (entries.Rejoin sink previous) xs same = absurd cc

  first_stop : (x : Entry) (xs : List Entry) → initial_of (x ∷ xs) ≡ Some c → stop_of (x ∷ []) ≡ None
  first_stop (entries.Initial initial) xs same = refl
  first_stop (entries.Submit call form xid) xs same = refl
  first_stop (entries.Wrote bytes) xs same = refl
  first_stop (entries.Fed bytes previous) xs same = refl
  first_stop (entries.Done xid outcome submit) xs same = refl
  first_stop (entries.Lost xid submit) xs same = refl
  first_stop (entries.Forget xid submit) xs same = refl
  first_stop (entries.Revoke xid bytes submit) xs same = refl
  first_stop entries.WriteFailed xs same = refl
  first_stop (entries.Stopped cause previous) xs same = absurd cc
  first_stop (entries.OutOfMemory piece previous) xs same = absurd cc
  first_stop (entries.Rejoin sink previous) xs same = absurd cc

-- ---- The end of a link that was lost for good

module _ {O C : Type 0} (link : O → ℕ) (taken : O → Option (List ℕ)) (faults : O → ℕ) (allows : Call → Form → Type 0) where
  told : (m : RequesterWithSink O C) (h : List Entry) (cause : Stop) → m.stopped ≡ Some cause → Stands link taken faults allows m h → IsTold (tries_of h) (Some cause)
  told m h cause is st = subst (IsTold (tries_of h)) (sym st.stopped ∙ is) (subst (λ (o : Option ℕ). IsTold o (stop_of h)) (sym (ap tries_in st.is_initial)) (tries_told st.initial h st.is_initial st.may_follow))

  pub dial_ended : (m : RequesterWithSink O C) (h : List Entry) → m.stopped ≡ Some causes.DialFault → Stands link taken faults allows m h → LossEnds (tries_of h) calls.DialFault h
  dial_ended m h is st = by (tries_of h) (told m h causes.DialFault is st) where
    by : (o : Option ℕ) → IsTold o (Some causes.DialFault) → LossEnds o calls.DialFault h
    by (Some tries) of = sym st.stopped ∙ is
    by None of = absurd of

  pub spent_ended : (m : RequesterWithSink O C) (h : List Entry) (left need : ℕ) → m.stopped ≡ Some (causes.Spent left need) → Stands link taken faults allows m h → LossEnds (tries_of h) (calls.Spent left need) h
  spent_ended m h left need is st = by (tries_of h) (told m h (causes.Spent left need) is st) where
    by : (o : Option ℕ) → IsTold o (Some (causes.Spent left need)) → LossEnds o (calls.Spent left need) h
    by (Some tries) of = sym st.stopped ∙ is
    by None of = absurd of

  pub not_reopened : (m : RequesterWithSink O C) (h : List Entry) → m.stopped ≡ Some causes.NotReopened → Stands link taken faults allows m h → LossEnds (tries_of h) calls.Memory h
  not_reopened m h is st = by (tries_of h) (told m h causes.NotReopened is st) where
    by : (o : Option ℕ) → IsTold o (Some causes.NotReopened) → LossEnds o calls.Memory h
    by (Some tries) of = sym st.stopped ∙ is
    by None of = absurd of
