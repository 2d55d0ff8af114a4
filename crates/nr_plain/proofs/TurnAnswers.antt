-- A call of a client that is answered under a turn.
use Rattle.std.proofs.Common.{◌≡◌, ◌≢◌, ℕ, suc, ◌+◌, ◌<◌, ◌^◌, Bool, true, false, List, [], ◌∷◌, ◌++◌, length, map, Some, Result, Ok, Err, ◌⊎◌, inl, inr, ⊎_elim, ltb, arith, refl, sym, ap, subst, ◌∙◌, append_assoc, append-nil}
use Rattle.std.specs.Prelude.{All, IsOk, MatchBool}
use Rattle.std.proofs.lemmas.Bool.{ltb-true, ltb-false}
use Rattle.std.proofs.lemmas.List.{length-append, length-map, map-append}
use Rattle.std.proofs.lemmas.List.Elements.{All-append, All-nil}
use Rattle.nr_xdr.specs.Item.{IsBytes}
use Rattle.nr_outside.specs.declared.moment.Moment.{Moment}
use Rattle.nr_rpc.specs.Reading.{call_of}
use Rattle.nr_turnstile.specs.Rule.{Begins, places_from}
use Rattle.nr_reduce.specs.declared.mark.Entry.{Entry}
use Rattle.nr_reduce.specs.declared.mark.TaggedEntry.{TaggedEntry}
use Rattle.nr_reduce.specs.NumberedJournal.{Standing, IsExecutedBy, IsReplyOf, added_by, entries_alone, standing_for, tagged}
use Rattle.nr_reduce.specs.NumberedJournal.Standing.{Old, Kept, New}
use Rattle.nr_cache.specs.Entries.{Finding}
use Rattle.nr_cache.specs.Entries.Finding.{KeptCall, OldCall, NewCall}
use Rattle.nr_plain.specs.Setup.{Setup}
use Rattle.nr_plain.specs.Added.{entries_of_call}
use Rattle.nr_plain.specs.Replies.{plain_reply}
use Rattle.nr_plain.specs.ReplyLaws.{plain_server}
use Rattle.nr_plain.specs.Stands.{PlainServerState, IsCause, RepresentsJournal}
use Rattle.nr_plain.specs.History.{Opening, setup_in, additions, history, AreOfCalls, Executes, HasNoCallTwice, IsHistory, OnlyOthersAdded, PassView, entries_added, entry_to_append, first_added, xid_in}
use Rattle.nr_plain.specs.Numbered.{AnswersAreThoseOfRuns, AnswersFor, FoundAs, HasCall, IsAnswerBy, IsNumberedCause, LeavesServer, NumberedCall, OldCallsAreOld, RepresentsTagged, added_for, added_if, finding}
use Rattle.nr_plain.specs.Turns.{Answers, AnswersAt, FindsOldAt, IsCauseFor, StandsAfter, StandsFor, added_to}
use Rattle.nr_plain.specs.private.Executing.{IsOne}
use Rattle.nr_plain.specs.declared.fault.Fault.{Fault}
use Rattle.nr_plain.specs.declared.fault.Fault.TheVariants as faults
use Rattle.nr_plain.specs.declared.history_entry.HistoryEntry.{HistoryEntry}
use Rattle.nr_plain.specs.declared.history_entry.HistoryEntry.TheVariants.{Opened, Added}
use Rattle.nr_plain.proofs.EntryCalls.{entries_have_calls}
use Rattle.nr_plain.proofs.ChangesOnce.{one_call}
use Rattle.nr_plain.proofs.Histories.{Found, alone_append, found, no_call_twice, stood_length, tagged_alone}
use Rattle.nr_plain.proofs.NumberedAnswers.{same_stands, unnumbered_new}
use Rattle.nr_plain.proofs.OfCalls.{both_of_calls, of_call}
use Rattle.nr_plain.proofs.OneEntry.{few}
use Rattle.nr_plain.proofs.Standings.{added_same, finding_is_standing}

abbrev call_made : (client : ℕ) → Moment → (payload reply : List ℕ) → NumberedCall
call_made client m payload reply = record { client = client; moment = m; payload = payload; reply = reply }

-- ===== what a call adds

module _ (s : Setup) (T : List TaggedEntry) (client : ℕ) (m : Moment) (payload reply : List ℕ) where
  abbrev IsFewTagged : List TaggedEntry → Type 0
  IsFewTagged es = (es ≡ []) ⊎ IsOne es

  few_added : (f : Finding) → IsFewTagged (added_if f (entries_added client m payload reply))
  few_added (OldCall top) = inl refl
  few_added (KeptCall place given) = inl refl
  few_added NewCall = ⊎_elim
      (λ (none : entries_of_call m payload reply ≡ []). inl (ap (λ (es : List Entry). map (tagged client (xid_in payload)) es) none))
      (λ (one : (e : Entry) × (entries_of_call m payload reply ≡ e ∷ [])).
      inr (tagged client (xid_in payload) one.0, ap (λ (es : List Entry). map (tagged client (xid_in payload)) es) one.1))
      (few m payload reply)

  -- the entry that is appended is the one that the call adds
  appended_by : (f : Finding) → IsOne (added_if f (entries_added client m payload reply)) → entry_to_append client m payload reply ∷ [] ≡ additions (added_if f (entries_added client m payload reply))
  appended_by (OldCall top) (t, one) = absurd cc
  appended_by (KeptCall place given) (t, one) = absurd cc
  appended_by NewCall (t, one) = ap (λ (es : List TaggedEntry). first_added es ∷ []) one ∙ sym (ap additions one)

  appended : IsOne (added_for s T (call_made client m payload reply)) → entry_to_append client m payload reply ∷ [] ≡ additions (added_to T client m payload reply)
  appended one = appended_by (finding s T client (xid_in payload)) one ∙ ap additions (added_same s T (call_made client m payload reply))

  -- one entry is added if and only if the journal grew
  pub adds_by : (before after : PlainServerState) (n len : ℕ) → ((r : Setup) (J : List Entry) → RepresentsJournal r J before → n ≡ length J) → ((r : Setup) (J : List Entry) → RepresentsJournal r J after → len ≡ length J)
      → RepresentsTagged s T before → RepresentsTagged s (T ++ added_for s T (call_made client m payload reply)) after
      → (b : Bool) → ltb n len ≡ b → MatchBool b (IsOne (added_for s T (call_made client m payload reply))) (added_for s T (call_made client m payload reply) ≡ [])
  adds_by before after n len n_is len_is is then_is b grew =
      by b grew (few_added (finding s T client (xid_in payload)))
    where
      short : n ≡ length T
      short = n_is s (entries_alone T) is.journal ∙ length-map T (λ (t : TaggedEntry). t.entry)

      long : len ≡ length T + length (added_for s T (call_made client m payload reply))
      long =
          len_is s (entries_alone (T ++ added_for s T (call_made client m payload reply))) then_is.journal
          ∙ length-map (T ++ added_for s T (call_made client m payload reply)) (λ (t : TaggedEntry). t.entry)
          ∙ length-append T (added_for s T (call_made client m payload reply))

      by : (b : Bool) → ltb n len ≡ b → IsFewTagged (added_for s T (call_made client m payload reply))
          → MatchBool b (IsOne (added_for s T (call_made client m payload reply))) (added_for s T (call_made client m payload reply) ≡ [])
      by true more (inl none) = absurd (let less = ltb-true n len more in let zero_more = ap length none in omega (arith, less, short, long, zero_more))
      by true more (inr one) = one
      by false more (inl none) = none
      by false more (inr one) = absurd (let no_more = ltb-false n len more in let one_more = ap length one.1 in omega (arith, no_more, short, long, one_more))

-- the journal is short
pub few_by : (s : Setup) (T : List TaggedEntry) (kept : PlainServerState) (n : ℕ) → ((r : Setup) (J : List Entry) → RepresentsJournal r J kept → n ≡ length J) → n < 2 ^ 60 → RepresentsTagged s T kept
    → length T < 2 ^ 60
few_by s T kept n n_is low is = let short = n_is s (entries_alone T) is.journal in let same = length-map T (λ (t : TaggedEntry). t.entry) in omega (arith, low, short, same)

-- ===== the server after a call

module _ (s : Setup) (T : List TaggedEntry) (client : ℕ) (m : Moment) (payload reply : List ℕ) (place : ℕ) (before after : PlainServerState) where
  of_added_by : (f : Finding) → IsBytes payload → IsAnswerBy s T m payload reply place before after f
      → AreOfCalls s (entries_alone T) (entries_alone (added_if f (entries_added client m payload reply)))
  of_added_by (OldCall top) bytes a = tt
  of_added_by (KeptCall at given) bytes a = tt
  of_added_by NewCall bytes a =
      subst (AreOfCalls s (entries_alone T)) (sym (tagged_alone client (xid_in payload) (entries_of_call m payload reply)))
      (of_call s (entries_alone T) m payload reply place bytes (a.1 ∙ sym (length-map T (λ (t : TaggedEntry). t.entry))) a.0)

  have_calls_by : (f : Finding) → IsBytes payload → All HasCall (added_if f (entries_added client m payload reply))
  have_calls_by (OldCall top) bytes = All-nil HasCall
  have_calls_by (KeptCall at given) bytes = All-nil HasCall
  have_calls_by NewCall bytes = entries_have_calls client m payload reply bytes

module _ (first : Opening) (T : List TaggedEntry) (client : ℕ) (m : Moment) (payload reply : List ℕ) (place : ℕ) (before after : PlainServerState) (bytes : IsBytes payload)
    (x : AnswersFor (setup_in first) T client m payload reply place before after) where
  abbrev new_entries : List TaggedEntry
  new_entries = added_for (setup_in first) T (call_made client m payload reply)

  of_added : AreOfCalls (setup_in first) (entries_alone T) (entries_alone new_entries)
  of_added = of_added_by (setup_in first) T client m payload reply place before after (finding (setup_in first) T client (xid_in payload)) bytes x.answer

  stands_after : StandsAfter first T before → StandsAfter first (T ++ new_entries) after
  stands_after stands = record {
    represents = x.stands;
    of_calls = subst (AreOfCalls (setup_in first) []) (sym (alone_append T new_entries))
        (both_of_calls (setup_in first) [] (entries_alone T) (entries_alone new_entries) stands.of_calls of_added);
    have_calls = All-append HasCall T new_entries stands.have_calls
        (have_calls_by (setup_in first) T client m payload reply place before after (finding (setup_in first) T client (xid_in payload)) bytes);
    once = one_call (setup_in first) T (call_made client m payload reply) stands.once;
  }

history_append : (first : Opening) (T U : List TaggedEntry) → history first T ++ additions U ≡ history first (T ++ U)
history_append first T U = ap (λ (l : List HistoryEntry). Opened first ∷ l) (sym (map-append (λ (t : TaggedEntry). Added t) T U))

module _ (kept kept' : PlainServerState) (h : List HistoryEntry) (client : ℕ) (m : Moment) (payload reply : List ℕ) (place : ℕ) (bytes : IsBytes payload)
    (answers : (s : Setup) (T : List TaggedEntry) → RepresentsTagged s T kept → AnswersFor s T client m payload reply place kept kept') where
  pub stands_none : StandsFor kept h → ((s : Setup) (T : List TaggedEntry) → RepresentsTagged s T kept → added_for s T (call_made client m payload reply) ≡ []) → StandsFor kept' h
  stands_none (first, (T, (i, stands))) none =
      let nothing : added_for (setup_in first) T (call_made client m payload reply) ≡ [] = none (setup_in first) T stands.represents in (
        first,
        (
          T ++ added_for (setup_in first) T (call_made client m payload reply),
          (
            i ∙ ap (history first) (sym (append-nil T) ∙ ap (λ (l : List TaggedEntry). T ++ l) (sym nothing)),
            stands_after first T client m payload reply place kept kept' bytes (answers (setup_in first) T stands.represents) stands,
          ),
        ),
      )

  pub stands_one : (h' : List HistoryEntry) → StandsFor kept h → ((s : Setup) (T : List TaggedEntry) → RepresentsTagged s T kept → IsOne (added_for s T (call_made client m payload reply)))
      → h' ≡ h ++ entry_to_append client m payload reply ∷ [] → StandsFor kept' h'
  stands_one h' (first, (T, (i, stands))) one more =
      let s : Setup = setup_in first in
      let added : List TaggedEntry = added_for s T (call_made client m payload reply) in
      let last : entry_to_append client m payload reply ∷ [] ≡ additions added =
      appended s T client m payload reply (one s T stands.represents) ∙ sym (ap additions (added_same s T (call_made client m payload reply))) in (
        first,
        (
          T ++ added,
          (
            more ∙ (λ j. i j ++ last j) ∙ history_append first T added,
            stands_after first T client m payload reply place kept kept' bytes (answers s T stands.represents) stands,
          ),
        ),
      )

-- ===== the answer, as a run says it

abbrev IsRunAt : Setup → List TaggedEntry → (client : ℕ) → (now moment : Moment) → (payload reply : List ℕ) → (place : ℕ) → Standing → Type 0
IsRunAt s T client now moment payload reply place k = IsExecutedBy (plain_server s) T k moment payload place reply × (k ≡ New → moment ≡ now)

-- with the moment at which the call was executed
runs_by : (s : Setup) (T : List TaggedEntry) (client : ℕ) (m : Moment) (payload reply : List ℕ) (place : ℕ) (before after : PlainServerState) (k : Standing) (f : Finding) → All HasCall T → FoundAs s T k f
    → IsAnswerBy s T m payload reply place before after f → (moment : Moment) × IsRunAt s T client m moment payload reply place k
runs_by s T client m payload reply place before after (Old top) f all h a = absurd (subst (IsAnswerBy s T m payload reply place before after) h a)
runs_by s T client m payload reply place before after (Kept at) f all (given, h, entry) a =
    let own : IsAnswerBy s T m payload reply place before after (KeptCall at given) = subst (IsAnswerBy s T m payload reply place before after) h a in
    let e = entry all in (
      e.0,
      (
        (
          own.0,
          subst (λ (n : ℕ). IsReplyOf (plain_server s) T n e.0 reply) (sym own.0) (subst (λ (r : List ℕ). IsReplyOf (plain_server s) T at e.0 r) (sym own.1) e.1),
        ),
        λ new. absurd (kept_not_new at new),
      ),
    )
  where
    kept_not_new : (at : ℕ) → Kept at ≡ New → ⊥
    kept_not_new at e = absurd cc
runs_by s T client m payload reply place before after New f all h a =
    let own : IsAnswerBy s T m payload reply place before after NewCall = subst (IsAnswerBy s T m payload reply place before after) h a in
    let at : place ≡ length (entries_alone T) = own.1 ∙ sym (length-map T (λ (t : TaggedEntry). t.entry)) in
    (m, ((own.1, subst (λ (n : ℕ). plain_reply s (entries_alone T) n m payload ≡ Some reply) at own.0), λ new. refl))

pub answered_as_run : AnswersAreThoseOfRuns
answered_as_run s T client now payload reply place before after all bytes x =
    let r = runs_by s T client now payload reply place before after (standing_for T client (xid_in payload)) (finding s T client (xid_in payload)) all
    (finding_is_standing s T client (xid_in payload)) x.answer in
    record {
      moment = r.0;
      executed = r.1.0;
      moment_is = r.1.1;
      added = added_same s T (call_made client now payload reply);
      have_calls = All-append HasCall T (added_for s T (call_made client now payload reply)) all
          (have_calls_by s T client now payload reply place before after (finding s T client (xid_in payload)) bytes);
    }

-- ===== what the pass sees

module _ (before at after : PassView) (kept kept' : PlainServerState) (client : ℕ) (m : Moment) (payload reply : List ℕ) (place : ℕ) (begins : Begins before.seen at.seen) (own : at.mine ≡ before.mine) (stood : StandsFor kept at.seen)
    (bytes : IsBytes payload) (answers : (s : Setup) (T : List TaggedEntry) → RepresentsTagged s T kept → AnswersFor s T client m payload reply place kept kept') where
  ran : (moment : Moment) × IsRunAt (setup_in stood.0) stood.1.0 client m moment payload reply place (standing_for stood.1.0 client (xid_in payload))
  ran =
      let s : Setup = setup_in stood.0 in
      let T : List TaggedEntry = stood.1.0 in
      let stands : StandsAfter stood.0 T kept = stood.1.1.1 in
      runs_by s T client m payload reply place kept kept' (standing_for T client (xid_in payload)) (finding s T client (xid_in payload)) stands.have_calls
      (finding_is_standing s T client (xid_in payload)) (answers s T stands.represents).answer

  module _ (first : Opening) (T : List TaggedEntry) (is : before.seen ≡ history first T) where
    abbrev f : Found first T at.seen kept stood
    f = found first T before.seen at.seen kept is begins stood

    abbrev all : List TaggedEntry
    all = T ++ f.others

    abbrev added : List TaggedEntry
    added = added_to all client m payload reply

    run_here : IsRunAt (setup_in first) all client m ran.0 payload reply place (standing_for all client (xid_in payload))
    run_here =
        subst (λ (l : List TaggedEntry). IsRunAt (setup_in first) l client m ran.0 payload reply place (standing_for l client (xid_in payload))) f.entries_are
        (subst (λ (g : Opening). IsRunAt (setup_in g) stood.1.0 client m ran.0 payload reply place (standing_for stood.1.0 client (xid_in payload))) f.first_is ran.1)

    of_calls_here : AreOfCalls (setup_in first) (entries_alone T) (entries_alone (f.others ++ added))
    of_calls_here =
        subst (AreOfCalls (setup_in first) (entries_alone T)) (sym (alone_append f.others added))
        (both_of_calls (setup_in first) (entries_alone T) (entries_alone f.others) (entries_alone added) f.of_calls
        (subst (λ (J : List Entry). AreOfCalls (setup_in first) J (entries_alone added)) (alone_append T f.others)
        (subst (λ (l : List TaggedEntry). AreOfCalls (setup_in first) (entries_alone all) (entries_alone l)) (added_same (setup_in first) all (call_made client m payload reply))
        (of_added first all client m payload reply place kept kept' bytes (answers (setup_in first) all f.stands.represents)))))

    answers_at : HasNoCallTwice after.seen → after.seen ≡ history first (all ++ added) → after.mine ≡ before.mine ++ places_from (suc (length all)) (length added)
        → AnswersAt first T before after client m ran.0 payload reply place
    answers_at once seen mine_is = record {
      others = f.others;
      begins = subst (Begins before.seen) f.is begins;
      executed = run_here.0;
      moment_is = run_here.1;
      seen = seen;
      once = once;
      of_calls = of_calls_here;
      mine_is = mine_is;
    }

    answers_none_at : ((s : Setup) (T : List TaggedEntry) → RepresentsTagged s T kept → added_for s T (call_made client m payload reply) ≡ []) → after.seen ≡ at.seen → after.mine ≡ at.mine
        → AnswersAt first T before after client m ran.0 payload reply place
    answers_none_at none_of same same_own =
        let none : added_for (setup_in first) all (call_made client m payload reply) ≡ [] = none_of (setup_in first) all f.stands.represents in
        let nothing : [] ≡ added = sym none ∙ added_same (setup_in first) all (call_made client m payload reply) in
        answers_at (no_call_twice kept' after.seen (subst (StandsFor kept') (sym same) (stands_none kept kept' at.seen client m payload reply place bytes answers stood none_of)))
        (same ∙ f.is ∙ ap (history first) (sym (append-nil all) ∙ ap (λ (l : List TaggedEntry). all ++ l) nothing))
        (same_own ∙ own ∙ sym (append-nil before.mine) ∙ ap (λ (l : List TaggedEntry). before.mine ++ places_from (suc (length all)) (length l)) nothing)

    answers_one_at : ((s : Setup) (T : List TaggedEntry) → RepresentsTagged s T kept → IsOne (added_for s T (call_made client m payload reply))) → after.seen ≡ at.seen ++ entry_to_append client m payload reply ∷ []
        → after.mine ≡ at.mine ++ length at.seen ∷ [] → AnswersAt first T before after client m ran.0 payload reply place
    answers_one_at one_of more more_own =
        let one : IsOne (added_for (setup_in first) all (call_made client m payload reply)) = one_of (setup_in first) all f.stands.represents in
        let last : entry_to_append client m payload reply ∷ [] ≡ additions added = appended (setup_in first) all client m payload reply one in
        let single : added ≡ one.0 ∷ [] = sym (added_same (setup_in first) all (call_made client m payload reply)) ∙ one.1 in
        let long : length at.seen ≡ suc (length all) = ap length f.is ∙ ap suc (length-map all (λ (t : TaggedEntry). Added t)) in
        answers_at (no_call_twice kept' after.seen (stands_one kept kept' at.seen client m payload reply place bytes answers after.seen stood one_of more))
        (more ∙ (λ j. f.is j ++ last j) ∙ history_append first all added)
        (more_own ∙ (λ j. own j ++ long j ∷ []) ∙ ap (λ (l : List TaggedEntry). before.mine ++ places_from (suc (length all)) (length l)) (sym single))

  pub answers_none : ((s : Setup) (T : List TaggedEntry) → RepresentsTagged s T kept → added_for s T (call_made client m payload reply) ≡ []) → after.seen ≡ at.seen → after.mine ≡ at.mine
      → Answers before after client m payload reply place
  answers_none none same same_own =
      (ran.0, λ first T is. answers_none_at first T is none same same_own)

  pub answers_one : ((s : Setup) (T : List TaggedEntry) → RepresentsTagged s T kept → IsOne (added_for s T (call_made client m payload reply)))
      → after.seen ≡ at.seen ++ entry_to_append client m payload reply ∷ [] → after.mine ≡ at.mine ++ length at.seen ∷ [] → Answers before after client m payload reply place
  answers_one one more more_own =
      (ran.0, λ first T is. answers_one_at first T is one more more_own)

-- ===== faults

tagged_left : (e : Fault) (s : Setup) (T : List TaggedEntry) (kept kept' : PlainServerState) → LeavesServer e kept kept' → RepresentsTagged s T kept → RepresentsTagged s T kept'
tagged_left (faults.NotCall at) s T kept kept' same is = subst (RepresentsTagged s T) (sym same) is
tagged_left faults.Memory s T kept kept' same is = same_stands s T kept kept' same is
tagged_left (faults.Old top) s T kept kept' same is = subst (RepresentsTagged s T) (sym same) is

pub stands_left : (e : Fault) (kept kept' : PlainServerState) (h : List HistoryEntry) → LeavesServer e kept kept' → StandsFor kept h → StandsFor kept' h
stands_left e kept kept' h leaves (first, (T, (i, stands))) = (
  first,
  (
    T,
    (
      i,
      record {
        represents = tagged_left e (setup_in first) T kept kept' leaves stands.represents;
        of_calls = stands.of_calls;
        have_calls = stands.have_calls;
        once = stands.once;
      },
    ),
  ),
)

-- by the standing of a call that is found old
old_standing : (k : Standing) (f : Finding) (s : Setup) (T : List TaggedEntry) (top : ℕ) → FoundAs s T k f → f ≡ OldCall top → k ≡ Old top
old_standing (Old n) f s T top h is = let same : OldCall n ≡ OldCall top = sym h ∙ is in ap Old (old_top n top same)
  where
    old_top : (n top : ℕ) → OldCall n ≡ OldCall top → n ≡ top
    old_top n top same = cc
old_standing (Kept place) f s T top (reply, h, given) is = absurd (kept_not_old place reply top (sym h ∙ is))
  where
    kept_not_old : (place : ℕ) (reply : List ℕ) (top : ℕ) → KeptCall place reply ≡ OldCall top → ⊥
    kept_not_old place reply top e = absurd cc
old_standing New f s T top h is = absurd (new_not_old top (sym h ∙ is))
  where
    new_not_old : (top : ℕ) → NewCall ≡ OldCall top → ⊥
    new_not_old top e = absurd cc

pub old_calls : OldCallsAreOld
old_calls s T client xid top old = old_standing (standing_for T client xid) (finding s T client xid) s T top (finding_is_standing s T client xid) old

module _ (before at after : PassView) (kept : PlainServerState) (client : ℕ) (payload : List ℕ) (begins : Begins before.seen at.seen) (own : at.mine ≡ before.mine) (stood : StandsFor kept at.seen)
    (same : after.seen ≡ at.seen) (same_own : after.mine ≡ at.mine) where
  finds_old : (top : ℕ) → ((s : Setup) (T : List TaggedEntry) → RepresentsTagged s T kept → finding s T client (xid_in payload) ≡ OldCall top)
      → (first : Opening) (T : List TaggedEntry) → before.seen ≡ history first T → FindsOldAt first T before after client (xid_in payload) top
  finds_old top old first T is =
      let f = found first T before.seen at.seen kept is begins stood in
      let all : List TaggedEntry = T ++ f.others in
      record {
        others = f.others;
        begins = (begins.0, same ∙ begins.1);
        old = old_standing (standing_for all client (xid_in payload)) (finding (setup_in first) all client (xid_in payload)) (setup_in first) all top
            (finding_is_standing (setup_in first) all client (xid_in payload)) (old (setup_in first) all f.stands.represents);
        seen = same ∙ f.is;
        once = no_call_twice kept after.seen (subst (StandsFor kept) (sym same) stood);
        of_calls = f.of_calls;
        mine_is = same_own ∙ own;
      }

  old_numbered : (top : ℕ) (s : Setup) (T : List TaggedEntry) → finding s T client (xid_in payload) ≡ OldCall top → client ≢ 0
  old_numbered top s T old zero = absurd (new_not_old top (sym (unnumbered_new s T client (xid_in payload) zero) ∙ old))
    where
      new_not_old : (top : ℕ) → NewCall ≡ OldCall top → ⊥
      new_not_old top e = absurd cc

  pub cause_for : (e : Fault) → ((s : Setup) (T : List TaggedEntry) → RepresentsTagged s T kept → IsNumberedCause s T client payload e) → IsCauseFor before after client payload e
  cause_for (faults.NotCall at) why = why (setup_in stood.0) stood.1.0 stood.1.1.1.represents
  cause_for faults.Memory why = tt
  cause_for (faults.Old top) why =
      let here = why (setup_in stood.0) stood.1.0 stood.1.1.1.represents in
      (here.0, old_numbered top (setup_in stood.0) stood.1.0 here.1, finds_old top (λ s T is. (why s T is).1))

-- ===== a client without a number

pub unnumbered_cause : (before after : PassView) (payload : List ℕ) (e : Fault) → IsCauseFor before after 0 payload e → IsCause e (call_of payload)
unnumbered_cause before after payload (faults.NotCall at) is = is
unnumbered_cause before after payload faults.Memory is = tt
unnumbered_cause before after payload (faults.Old top) is = absurd (is.1 refl)

pub unnumbered_executes : (before after : PassView) (m : Moment) (payload reply : List ℕ) (place : ℕ) → Answers before after 0 m payload reply place → Executes before after 0 m payload reply place
unnumbered_executes before after m payload reply place (moment, answers) first J i =
    let a = answers first i.entries i.is in
    let s : Setup = setup_in first in
    let T : List TaggedEntry = i.entries in
    let all : List TaggedEntry = T ++ a.others in
    let es : List Entry = entries_of_call m payload reply in
    let new : List TaggedEntry = entries_added 0 m payload reply in
    let now_is : moment ≡ m = a.moment_is refl in
    let journal : entries_alone all ≡ J ++ entries_alone a.others = alone_append T a.others ∙ ap (λ (l : List Entry). l ++ entries_alone a.others) i.journal in
    let alone : entries_alone new ≡ es = tagged_alone 0 (xid_in payload) es in
    let at : place ≡ length all = a.executed.0 in
    let long : length (entries_alone all) ≡ length all = length-map all (λ (t : TaggedEntry). t.entry) in
    record {
      others = entries_alone a.others;
      found = history first all;
      begins = a.begins;
      found_is = record { entries = all; is = refl; journal = journal };
      place_is = at ∙ sym long ∙ ap length journal;
      replied = (λ j. plain_reply s (sym journal j) ((at ∙ sym long) j) (sym now_is j) payload) ∙ a.executed.1;
      seen = a.seen ∙ sym (history_append first all new);
      once = a.once;
      of_calls = subst (AreOfCalls s J) (alone_append a.others new ∙ ap (λ (l : List Entry). entries_alone a.others ++ l) alone)
          (subst (λ (l : List Entry). AreOfCalls s l (entries_alone (a.others ++ new))) i.journal a.of_calls);
      mine_is = a.mine_is ∙ (λ j. before.mine ++ places_from (suc (sym at j)) (count_is j));
    }
  where
    count_is : length (entries_added 0 m payload reply) ≡ length (entries_of_call m payload reply)
    count_is = length-map (entries_of_call m payload reply) (tagged 0 (xid_in payload))
