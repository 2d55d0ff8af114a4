-- The turns of a client without a number: each of its calls is executed, at the moment that the clock gave, at the end of the journal.
use Rattle.std.proofs.Common.{◌≡◌, ℕ, zero, suc, ◌+◌, ◌≤◌, arith, List, [], ◌∷◌, ◌++◌, length, take, drop, Some, refl, sym, ap, subst, ◌∙◌}
use Rattle.std.proofs.lemmas.List.{drop-map, length-append, length-map, length-take, map-append, take-append-drop, take-append-le, take-map}
use Rattle.std.specs.Prelude.{map, option_map}
use Rattle.std.specs.List.{flat_map}
use Rattle.nr_outside.specs.declared.moment.Moment.{Moment}
use Rattle.nr_reduce.specs.declared.mark.Entry.{Entry}
use Rattle.nr_reduce.specs.declared.mark.Mark.{Mark}
use Rattle.nr_reduce.specs.declared.mark.Mark.TheVariants as marks
use Rattle.nr_reduce.specs.declared.mark.Told.TheVariants.{Granted, Old}
use Rattle.nr_reduce.specs.declared.mark.TaggedEntry.{TaggedEntry}
use Rattle.nr_reduce.specs.NumberedJournal.{entries_alone, number_heard, tagged}
use Rattle.nr_turnstile.specs.Rule.{places_from}
use Rattle.nr_plain.specs.Added.{entries_of_call}
use Rattle.nr_plain.specs.History.{AllPlaced, Answered, AreOfCalls, Over, PassView, entries_added, entries_in, own_places, own_places_of, setup_in, xid_in}
use Rattle.nr_plain.specs.Journal.{state_of}
use Rattle.nr_plain.specs.Replies.{Answer, plain_answer, plain_reply}
use Rattle.nr_plain.specs.Setup.{Setup}
use Rattle.nr_plain.proofs.Histories.{tagged_alone}
use Rattle.nr_host.specs.Connections.{Outside, Runs, answer_of, answers_of, handled_by, handled_in, refusal_of, refusals_of}
use Rattle.nr_host.specs.Turns.{AreTurns, Handled, IsAnsweredAt, Taken, Turn, added_at, answered_at, answered_in, given_for, handled_at}
use Rattle.nr_host.specs.Turns.Handled.{AnsweredCall, RefusedCall}
use Rattle.nr_host.specs.Turns.Turn.{Answers, Refuses}
use Rattle.nr_host.specs.declared.connection_limits.ConnectionLimits.{ConnectionLimits}
use Rattle.nr_host.proofs.Turning.{alone_more, turns_within}

-- the moments of the calls that were answered
abbrev times_of : List Answered → List Moment
times_of calls = map (λ (a : Answered). a.moment) calls

-- ---- One call

-- the reply at a place, by the entries before it
reply_before : (s : Setup) (J : List Entry) (place : ℕ) (m : Moment) (payload : List ℕ) → place ≤ length J → plain_reply s J place m payload ≡ plain_reply s (take place J) (length (take place J)) m payload
reply_before s J place m payload low =
    let len : length (take place J) ≡ place = omega (arith, length-take place J, low) in
    let all : take (length (take place J)) (take place J) ≡ take place J = (λ i. take (len i) (take place J)) ∙ take_twice place J in
    ap (λ (es : List Entry). option_map (λ (a : Answer). a.reply) (plain_answer s.parameters (state_of s es) m payload)) (sym all)
  where
    take_twice : {X : Type 0} (n : ℕ) (xs : List X) → take n (take n xs) ≡ take n xs
    take_twice zero xs = refl
    take_twice (suc n) [] = refl
    take_twice (suc n) (x ∷ xs) = ap (λ l. x ∷ l) (take_twice n xs)

record IsPlaced (s : Setup) (T : List TaggedEntry) (k : ℕ) (given : Moment) (a : Answered) : Type 0 where
  place : a.place ≡ k
  moment : a.moment ≡ given
  replied : plain_reply s (entries_alone T) a.place a.moment a.payload ≡ Some a.reply
  added : length (added_at 0 (take k T) given a) ≡ length (entries_in a)
  there : take (length (entries_in a)) (drop a.place (entries_alone T)) ≡ entries_in a

one_placed : (s : Setup) (T : List TaggedEntry) (k : ℕ) (given : Moment) (a : Answered) → k ≤ length T → IsAnsweredAt s 0 T k given a → IsPlaced s T k given a
one_placed s T k given a low is =
    let es : List Entry = entries_of_call given a.payload a.reply in
    let same : es ≡ entries_in a = ap (λ (m : Moment). entries_of_call m a.payload a.reply) (sym (is.moment_is refl)) in
    let len : length (take k T) ≡ k = omega (arith, length-take k T, low) in
    let place : a.place ≡ k = is.executed.0 ∙ len in
    let alone : take k (entries_alone T) ≡ entries_alone (take k T) = take-map (λ (t : TaggedEntry). t.entry) k T in
    let many : length (entries_alone T) ≡ length T = length-map T (λ (t : TaggedEntry). t.entry) in
    let count : length (entries_added 0 given a.payload a.reply) ≡ length es = length-map es (tagged 0 (xid_in a.payload)) in
    record {
      place = place;
      moment = is.moment_is refl;
      replied =
          ap (λ (n : ℕ). plain_reply s (entries_alone T) n a.moment a.payload) place
          ∙ reply_before s (entries_alone T) k a.moment a.payload (omega (arith, low, many))
          ∙ ap (λ (J : List Entry). plain_reply s J (length J) a.moment a.payload) alone
          ∙ is.executed.1;
      added = count ∙ ap length same;
      there =
          (λ i. take (length (sym same i)) (drop (place i) (entries_alone T)))
          ∙ ap (λ (xs : List Entry). take (length es) xs) (drop-map (λ (t : TaggedEntry). t.entry) k T)
          ∙ take-map (λ (t : TaggedEntry). t.entry) (length es) (drop k T)
          ∙ ap (λ (n : ℕ). entries_alone (take n (drop k T))) (sym count)
          ∙ ap entries_alone is.there
          ∙ tagged_alone 0 (xid_in a.payload) es ∙ same;
    }

-- ---- All of them

record ArePlaced (s : Setup) (T : List TaggedEntry) (n : ℕ) (turns : List Turn) (mine : List ℕ) : Type 0 where
  placed : AllPlaced s (entries_alone T) n (flat_map answered_at turns)
  own : mine ≡ flat_map own_places_of (flat_map answered_at turns)
  times : map given_for turns ≡ times_of (flat_map answered_at turns)

turns_placed : (s : Setup) (T : List TaggedEntry) (n : ℕ) (turns : List Turn) (mine : List ℕ) → AreTurns s 0 T n turns mine → ArePlaced s T n turns mine
turns_placed s T n [] mine h =
    record { placed = (let le = h.0 in let many = length-map T (λ (t : TaggedEntry). t.entry) in omega (arith, le, many)); own = h.1; times = refl }
turns_placed s T n (Answers given a ∷ turns) mine (k, (from, (is, (later, (mine_is, rest))))) =
    let added : ℕ = length (added_at 0 (take k T) given a) in
    let end = turns_within s 0 T (k + added) turns later rest in
    let one = one_placed s T k given a (omega (arith, end)) is in
    let next : k + added ≡ a.place + length (entries_in a) = (λ i. sym one.place i + one.added i) in
    let others = turns_placed s T (k + added) turns later rest in
    record {
      placed = (subst (λ (m : ℕ). n ≤ m) (sym one.place) from, (one.replied, (one.there, subst (λ (m : ℕ). AllPlaced s (entries_alone T) m (flat_map answered_at turns)) next others.placed)));
      own = mine_is ∙ (λ i. places_from (suc (sym one.place i)) (one.added i) ++ others.own i);
      times = λ i. sym one.moment i ∷ others.times i;
    }
turns_placed s T n (Refuses given xid ∷ turns) mine (k, (from, (old, rest))) = absurd old

-- ---- The calls that were answered, by those that were handled

abbrev answer_in : Handled → List Answered
answer_in (AnsweredCall a) = a ∷ []
answer_in (RefusedCall xid) = []

of_turns : (turns : List Turn) → flat_map answer_in (map handled_at turns) ≡ flat_map answered_at turns
of_turns [] = refl
of_turns (Answers given a ∷ turns) = ap (λ (calls : List Answered). a ∷ calls) (of_turns turns)
of_turns (Refuses given xid ∷ turns) = of_turns turns

of_marks : (run : List Mark) → flat_map answer_in (flat_map handled_by run) ≡ flat_map answer_of run
of_marks [] = refl
of_marks (marks.Submit l call form answer ∷ run) = of_marks run
of_marks (marks.Wrote l side bytes ∷ run) = of_marks run
of_marks (marks.Fed l side bytes ∷ run) = of_marks run
of_marks (marks.Execute l xid moment payload place reply ∷ run) =
    ap (λ (calls : List Answered). record { moment = moment; payload = payload; place = place; reply = reply } ∷ calls) (of_marks run)
of_marks (marks.Done l xid outcome ∷ run) = of_marks run
of_marks (marks.Lost l xid ∷ run) = of_marks run
of_marks (marks.Forget l xid ∷ run) = of_marks run
of_marks (marks.Revoke l xid bytes ∷ run) = of_marks run
of_marks (marks.Drop l ∷ run) = of_marks run
of_marks (marks.Told l (Granted credits) ∷ run) = of_marks run
of_marks (marks.Told l (Old xid at) ∷ run) = of_marks run

abbrev refusal_in : Handled → List ℕ
refusal_in (AnsweredCall a) = []
refusal_in (RefusedCall xid) = xid ∷ []

refused_marks : (run : List Mark) → flat_map refusal_in (flat_map handled_by run) ≡ flat_map refusal_of run
refused_marks [] = refl
refused_marks (marks.Submit l call form answer ∷ run) = refused_marks run
refused_marks (marks.Wrote l side bytes ∷ run) = refused_marks run
refused_marks (marks.Fed l side bytes ∷ run) = refused_marks run
refused_marks (marks.Execute l xid moment payload place reply ∷ run) = refused_marks run
refused_marks (marks.Done l xid outcome ∷ run) = refused_marks run
refused_marks (marks.Lost l xid ∷ run) = refused_marks run
refused_marks (marks.Forget l xid ∷ run) = refused_marks run
refused_marks (marks.Revoke l xid bytes ∷ run) = refused_marks run
refused_marks (marks.Drop l ∷ run) = refused_marks run
refused_marks (marks.Told l (Granted credits) ∷ run) = refused_marks run
refused_marks (marks.Told l (Old xid at) ∷ run) = ap (λ (xids : List ℕ). xid ∷ xids) (refused_marks run)

-- no call of a client without a number is refused as old
refuses_none : (s : Setup) (T : List TaggedEntry) (n : ℕ) (turns : List Turn) (mine : List ℕ) → AreTurns s 0 T n turns mine → flat_map refusal_in (map handled_at turns) ≡ []
refuses_none s T n [] mine h = refl
refuses_none s T n (Answers given a ∷ turns) mine (k, (from, (is, (later, (mine_is, rest))))) = refuses_none s T (k + length (added_at 0 (take k T) given a)) turns later rest
refuses_none s T n (Refuses given xid ∷ turns) mine (k, (from, (old, rest))) = absurd old

pub none_refused : (s : Setup) (T : List TaggedEntry) (n : ℕ) (turns : List Turn) (mine : List ℕ) (run : List Mark) → AreTurns s 0 T n turns mine → map handled_at turns ≡ handled_in run → refusals_of run ≡ []
unfolding refusals_of handled_in
none_refused s T n turns mine run h handled = sym (refused_marks run) ∙ sym (ap (flat_map refusal_in) handled) ∙ refuses_none s T n turns mine h

pub answers_handled : (turns : List Turn) (run : List Mark) → map handled_at turns ≡ handled_in run → answered_in turns ≡ answers_of run
unfolding answered_in answers_of handled_in
answers_handled turns run handled = sym (of_turns turns) ∙ ap (flat_map answer_in) handled ∙ of_marks run

-- ---- So it is with a pass, and with the marks of a connection

pub taken_unnumbered : (before after : PassView) (turns : List Turn) → Taken 0 before turns after → Over before (answered_in turns) after
unfolding answered_in own_places
taken_unnumbered before after turns taken first J i =
    let o = taken first i.entries i.is in
    let p = turns_placed (setup_in first) (i.entries ++ o.more) (length i.entries) turns o.mine o.turned in
    let all : entries_alone (i.entries ++ o.more) ≡ J ++ entries_alone o.more = alone_more i.entries o.more ∙ ap (λ (l : List Entry). l ++ entries_alone o.more) i.journal in
    let len : length i.entries ≡ length J = sym (length-map i.entries (λ (t : TaggedEntry). t.entry)) ∙ ap length i.journal in
    record {
      more = entries_alone o.more;
      begins = o.begins;
      seen = record { entries = i.entries ++ o.more; is = o.seen; journal = all };
      once = o.once;
      of_calls = subst (λ (l : List Entry). AreOfCalls (setup_in first) l (entries_alone o.more)) i.journal o.of_calls;
      placed = subst (λ (l : List Entry). AllPlaced (setup_in first) l (length J) (answered_in turns)) all (subst (λ (n : ℕ). AllPlaced (setup_in first) (entries_alone (i.entries ++ o.more)) n (answered_in turns)) len p.placed);
      mine_is = o.mine_is ∙ ap (λ (l : List ℕ). before.mine ++ l) p.own;
    }

-- the answers of the marks, and the moments that the clock gave for them
pub over_of_marks : (limits : ConnectionLimits) (read link : ℕ) (before after : Outside) (ahead : List ℕ) (more : List Moment) (run : List Mark) → Runs limits read link before after ahead more run → number_heard run link ≡ 0
    → Over before.view (answers_of run) after.view
over_of_marks limits read link before after ahead more run r none =
    subst (λ (calls : List Answered). Over before.view calls after.view) (answers_handled r.turns run r.handled)
    (taken_unnumbered before.view after.view r.turns (subst (λ (n : ℕ). Taken n before.view r.turns after.view) none r.over))
