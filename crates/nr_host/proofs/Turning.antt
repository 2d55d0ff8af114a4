-- One turn more of a connection, over the one journal.
use Rattle.std.proofs.Common.{◌≡◌, ℕ, suc, ◌+◌, ◌≤◌, arith, List, [], ◌∷◌, ◌++◌, length, take, drop, refl, sym, ap, subst, ◌∙◌, append_assoc, append-nil}
use Rattle.std.proofs.lemmas.List.{drop-append-le, length-append, take-append-drop, take-append-le, take_all}
use Rattle.std.proofs.Math.Seq.{drop-append_seam, take-length}
use Rattle.std.specs.Prelude.{map}
use Rattle.std.proofs.lemmas.List.{map-append}
use Rattle.nr_outside.specs.declared.moment.Moment.{Moment}
use Rattle.nr_reduce.specs.declared.mark.Entry.{Entry}
use Rattle.nr_reduce.specs.declared.mark.TaggedEntry.{TaggedEntry}
use Rattle.nr_reduce.specs.NumberedJournal.{Standing, entries_alone, standing_for, IsExecutedBy, IsOld}
use Rattle.nr_reduce.specs.NumberedJournal.Standing.{New}
use Rattle.nr_turnstile.specs.Rule.{Begins, places_from}
use Rattle.nr_plain.specs.History.{Answered, AreOfCalls, HasNoCallTwice, IsHistory, OnlyOthersAdded, Opening, Over, PassView, additions, history, setup_in, xid_in}
use Rattle.nr_plain.specs.Turns.{AnswersAt, FindsOldAt}
use Rattle.nr_plain.specs.declared.history_entry.HistoryEntry.{HistoryEntry}
use Rattle.nr_plain.specs.declared.history_entry.HistoryEntry.TheVariants.{Opened, Added}
use Rattle.nr_plain.specs.ReplyLaws.{plain_server}
use Rattle.nr_plain.specs.Setup.{Setup}
use Rattle.nr_plain.proofs.Histories.{begins_itself, begins_on}
use Rattle.nr_plain.proofs.OfCalls.{both_of_calls}
use Rattle.nr_host.specs.Turns.{AreTurns, IsAnsweredAt, Taken, TakenOver, Turn, added_at, given_for, handled_at}
use Rattle.nr_host.specs.Turns.Turn.{Answers, Refuses}

-- ---- A journal that grows

has_room : (n : ℕ) (xs es : List TaggedEntry) → take n xs ≡ es → length es ≡ n → n ≤ length xs
has_room n xs es is len =
    let all = ap length (take-append-drop n xs) in let sum = length-append (take n xs) (drop n xs) in let first = ap length is in omega (arith, all, sum, first, len)

entry_stays : (T more es : List TaggedEntry) (k : ℕ) → k ≤ length T → take (length es) (drop k T) ≡ es → take (length es) (drop k (T ++ more)) ≡ es
entry_stays T more es k low is =
    ap (λ (l : List TaggedEntry). take (length es) l) (drop-append-le k T more low)
    ∙ take-append-le (length es) (drop k T) more (has_room (length es) (drop k T) es is refl) ∙ is

answered_grows : (s : Setup) (client : ℕ) (T more : List TaggedEntry) (k : ℕ) (given : Moment) (a : Answered) → k ≤ length T → IsAnsweredAt s client T k given a → IsAnsweredAt s client (T ++ more) k given a
answered_grows s client T more k given a low h =
    let same : take k T ≡ take k (T ++ more) = sym (take-append-le k T more low) in
    record {
      executed = subst (λ (U : List TaggedEntry). IsExecutedBy (plain_server s) U (standing_for U client (xid_in a.payload)) a.moment a.payload a.place a.reply) same h.executed;
      moment_is = subst (λ (U : List TaggedEntry). (standing_for U client (xid_in a.payload) ≡ New → a.moment ≡ given)) same h.moment_is;
      there = subst (λ (U : List TaggedEntry). take (length (added_at client U given a)) (drop k (T ++ more)) ≡ added_at client U given a) same
          (entry_stays T more (added_at client (take k T) given a) k low h.there);
    }

-- the turns are within the journal
pub turns_within : (s : Setup) (client : ℕ) (T : List TaggedEntry) (n : ℕ) (turns : List Turn) (mine : List ℕ) → AreTurns s client T n turns mine → n ≤ length T
turns_within s client T n [] mine h = h.0
turns_within s client T n (Answers given a ∷ turns) mine (k, (from, (is, (later, (mine_is, rest))))) =
    let end = turns_within s client T (k + length (added_at client (take k T) given a)) turns later rest in omega (arith, from, end)
turns_within s client T n (Refuses given xid ∷ turns) mine (k, (from, (old, rest))) =
    let end = turns_within s client T k turns mine rest in omega (arith, from, end)

pub turns_grow : (s : Setup) (client : ℕ) (T more : List TaggedEntry) (n : ℕ) (turns : List Turn) (mine : List ℕ) → AreTurns s client T n turns mine → AreTurns s client (T ++ more) n turns mine
turns_grow s client T more n [] mine h = (let le = h.0 in let sum = length-append T more in omega (arith, le, sum), h.1)
turns_grow s client T more n (Answers given a ∷ turns) mine (k, (from, (is, (later, (mine_is, rest))))) =
    let end = turns_within s client T (k + length (added_at client (take k T) given a)) turns later rest in
    let low : k ≤ length T = omega (arith, end) in
    let same : take k T ≡ take k (T ++ more) = sym (take-append-le k T more low) in (
      k,
      (
        from,
        (
          answered_grows s client T more k given a low is,
          (
            later,
            (
              subst (λ (U : List TaggedEntry). mine ≡ places_from (suc k) (length (added_at client U given a)) ++ later) same mine_is,
              subst (λ (U : List TaggedEntry). AreTurns s client (T ++ more) (k + length (added_at client U given a)) turns later) same
                  (turns_grow s client T more (k + length (added_at client (take k T) given a)) turns later rest),
            ),
          ),
        ),
      ),
    )
turns_grow s client T more n (Refuses given xid ∷ turns) mine (k, (from, (old, rest))) =
    let end = turns_within s client T k turns mine rest in
    let low : k ≤ length T = omega (arith, end) in (
      k,
      (
        from,
        (
          subst (λ (U : List TaggedEntry). IsOld (standing_for U client xid)) (sym (take-append-le k T more low)) old,
          turns_grow s client T more k turns mine rest,
        ),
      ),
    )

-- ---- One turn more, at the end of the journal

all_of : (T more : List TaggedEntry) → take (length T) (T ++ more) ≡ T
all_of T more = take-append-le (length T) T more (omega arith) ∙ take_all (length T) T (omega arith)

-- a call is answered there
answered_last : (s : Setup) (client : ℕ) (T : List TaggedEntry) (given : Moment) (a : Answered) →
    IsExecutedBy (plain_server s) T (standing_for T client (xid_in a.payload)) a.moment a.payload a.place a.reply → (standing_for T client (xid_in a.payload) ≡ New → a.moment ≡ given) →
    IsAnsweredAt s client (T ++ added_at client T given a) (length T) given a
answered_last s client T given a executed moment =
    let added : List TaggedEntry = added_at client T given a in
    let same : T ≡ take (length T) (T ++ added) = sym (all_of T added) in
    record {
      executed = subst (λ (U : List TaggedEntry). IsExecutedBy (plain_server s) U (standing_for U client (xid_in a.payload)) a.moment a.payload a.place a.reply) same executed;
      moment_is = subst (λ (U : List TaggedEntry). (standing_for U client (xid_in a.payload) ≡ New → a.moment ≡ given)) same moment;
      there = subst (λ (U : List TaggedEntry). take (length (added_at client U given a)) (drop (length T) (T ++ added)) ≡ added_at client U given a) same
          (ap (λ (l : List TaggedEntry). take (length added) l) (drop-append_seam T added) ∙ take-length added);
    }

turn_answered : (s : Setup) (client : ℕ) (T : List TaggedEntry) (n : ℕ) (turns : List Turn) (mine : List ℕ) (given : Moment) (a : Answered) → AreTurns s client T n turns mine →
    IsExecutedBy (plain_server s) T (standing_for T client (xid_in a.payload)) a.moment a.payload a.place a.reply → (standing_for T client (xid_in a.payload) ≡ New → a.moment ≡ given) →
    AreTurns s client (T ++ added_at client T given a) n (turns ++ Answers given a ∷ []) (mine ++ places_from (suc (length T)) (length (added_at client T given a)))
turn_answered s client T n [] mine given a h executed moment =
    let added : List TaggedEntry = added_at client T given a in
    let places : List ℕ = places_from (suc (length T)) (length added) in
    let same : T ≡ take (length T) (T ++ added) = sym (all_of T added) in
    let sum = length-append T added in (
      length T,
      (
        h.0,
        (
          answered_last s client T given a executed moment,
          (
            [],
            (
              ap (λ (l : List ℕ). l ++ places) h.1 ∙ sym (append-nil places) ∙ ap (λ (U : List TaggedEntry). places_from (suc (length T)) (length (added_at client U given a)) ++ []) same,
              subst (λ (U : List TaggedEntry). AreTurns s client (T ++ added) (length T + length (added_at client U given a)) [] []) same (omega (arith, sum), refl),
            ),
          ),
        ),
      ),
    )
turn_answered s client T n (Answers earlier b ∷ turns) mine given a (k, (from, (is, (later, (mine_is, rest))))) executed moment =
    let added : List TaggedEntry = added_at client T given a in
    let places : List ℕ = places_from (suc (length T)) (length added) in
    let end = turns_within s client T (k + length (added_at client (take k T) earlier b)) turns later rest in
    let low : k ≤ length T = omega (arith, end) in
    let same : take k T ≡ take k (T ++ added) = sym (take-append-le k T added low) in (
      k,
      (
        from,
        (
          answered_grows s client T added k earlier b low is,
          (
            later ++ places,
            (
              ap (λ (l : List ℕ). l ++ places) mine_is ∙ append_assoc (places_from (suc k) (length (added_at client (take k T) earlier b))) later places
                  ∙ ap (λ (U : List TaggedEntry). places_from (suc k) (length (added_at client U earlier b)) ++ (later ++ places)) same,
              subst (λ (U : List TaggedEntry). AreTurns s client (T ++ added) (k + length (added_at client U earlier b)) (turns ++ Answers given a ∷ []) (later ++ places)) same
                  (turn_answered s client T (k + length (added_at client (take k T) earlier b)) turns later given a rest executed moment),
            ),
          ),
        ),
      ),
    )
turn_answered s client T n (Refuses earlier xid ∷ turns) mine given a (k, (from, (old, rest))) executed moment =
    let added : List TaggedEntry = added_at client T given a in
    let end = turns_within s client T k turns mine rest in
    let low : k ≤ length T = omega (arith, end) in (
      k,
      (
        from,
        (
          subst (λ (U : List TaggedEntry). IsOld (standing_for U client xid)) (sym (take-append-le k T added low)) old,
          turn_answered s client T k turns mine given a rest executed moment,
        ),
      ),
    )

-- a call is refused there
turn_refused : (s : Setup) (client : ℕ) (T : List TaggedEntry) (n : ℕ) (turns : List Turn) (mine : List ℕ) (given : Moment) (xid : ℕ) → AreTurns s client T n turns mine → IsOld (standing_for T client xid) →
    AreTurns s client T n (turns ++ Refuses given xid ∷ []) mine
turn_refused s client T n [] mine given xid h old =
    (length T, (h.0, (subst (λ (U : List TaggedEntry). IsOld (standing_for U client xid)) (sym (take_all (length T) T (omega arith))) old, (omega arith, h.1))))
turn_refused s client T n (Answers earlier b ∷ turns) mine given xid (k, (from, (is, (later, (mine_is, rest))))) old =
    (k, (from, (is, (later, (mine_is, turn_refused s client T (k + length (added_at client (take k T) earlier b)) turns later given xid rest old)))))
turn_refused s client T n (Refuses earlier other ∷ turns) mine given xid (k, (from, (is, rest))) old = (k, (from, (is, turn_refused s client T k turns mine given xid rest old)))

-- ---- A pass

pub taken_none : (client : ℕ) (view : PassView) → Taken client view [] view
taken_none client view first T is = record {
  more = [];
  begins = begins_itself view.seen;
  seen = is ∙ ap (λ (U : List TaggedEntry). history first U) (sym (append-nil T));
  once = λ none. none;
  of_calls = tt;
  mine = [];
  turned = (let same = ap length (append-nil T) in omega (arith, same), refl);
  mine_is = sym (append-nil view.mine);
}

-- ---- Entries with their tags

history_more : (first : Opening) (T more : List TaggedEntry) → history first (T ++ more) ≡ history first T ++ additions more
history_more first T more = ap (λ (l : List HistoryEntry). Opened first ∷ l) (map-append Added T more)

pub alone_more : (T more : List TaggedEntry) → entries_alone (T ++ more) ≡ entries_alone T ++ entries_alone more
alone_more T more = map-append (λ (t : TaggedEntry). t.entry) T more

joined_calls : (s : Setup) (T xs ys : List TaggedEntry) → AreOfCalls s (entries_alone T) (entries_alone xs) → AreOfCalls s (entries_alone (T ++ xs)) (entries_alone ys) → AreOfCalls s (entries_alone T) (entries_alone (xs ++ ys))
joined_calls s T xs ys first later =
    subst (λ (es : List Entry). AreOfCalls s (entries_alone T) es) (sym (alone_more xs ys))
    (both_of_calls s (entries_alone T) (entries_alone xs) (entries_alone ys) first (subst (λ (J : List Entry). AreOfCalls s J (entries_alone ys)) (alone_more T xs) later))

same_added : (t u : TaggedEntry) (xs ys : List HistoryEntry) → Added t ∷ xs ≡ Added u ∷ ys → (t ≡ u) × (xs ≡ ys)
same_added t u xs ys is = ((let h : t ≡ u = cc in h), (let h : xs ≡ ys = cc in h))

-- the entries that follow others
split_added : (T all : List TaggedEntry) (more : List HistoryEntry) → additions all ≡ additions T ++ more → (others : List TaggedEntry) × (all ≡ T ++ others)
split_added [] all more is = (all, refl)
split_added (t ∷ T) [] more is = absurd (let two : [] ≡ Added t ∷ (additions T ++ more) = is in cc)
split_added (t ∷ T) (u ∷ all) more is =
    let both = same_added u t (additions all) (additions T ++ more) is in
    let rest = split_added T all more both.1 in
    (rest.0, (λ i. both.0 i ∷ rest.1 i))

same_tail : (first other : Opening) (xs ys : List HistoryEntry) → Opened first ∷ xs ≡ Opened other ∷ ys → xs ≡ ys
same_tail first other xs ys is = (let h : xs ≡ ys = cc in h)

record OthersTagged (first : Opening) (T : List TaggedEntry) (before after : PassView) : Type 0 where
  others : List TaggedEntry
  begins : Begins before.seen after.seen
  seen : after.seen ≡ history first (T ++ others)
  once : HasNoCallTwice after.seen
  of_calls : AreOfCalls (setup_in first) (entries_alone T) (entries_alone others)
  mine_is : after.mine ≡ before.mine

left_of : (J xs ys : List Entry) → J ++ xs ≡ J ++ ys → xs ≡ ys
left_of J xs ys same = sym (drop-append_seam J xs) ∙ ap (drop (length J)) same ∙ drop-append_seam J ys

-- what others added, with its tags
tagged_others : (before after : PassView) → OnlyOthersAdded before after → (first : Opening) (T : List TaggedEntry) → before.seen ≡ history first T → OthersTagged first T before after
tagged_others before after added first T is =
    let f = added first (entries_alone T) (record { entries = T; is = is; journal = refl }) in
    let all : history first f.seen.entries ≡ history first T ++ f.begins.0 = sym f.seen.is ∙ f.begins.1 ∙ ap (λ (l : List HistoryEntry). l ++ f.begins.0) is in
    let split = split_added T f.seen.entries f.begins.0 (same_tail first first (additions f.seen.entries) (additions T ++ f.begins.0) all) in
    let same : entries_alone split.0 ≡ f.others =
    left_of (entries_alone T) (entries_alone split.0) f.others (sym (alone_more T split.0) ∙ ap entries_alone (sym split.1) ∙ f.seen.journal) in
    record {
      others = split.0;
      begins = f.begins;
      seen = f.seen.is ∙ ap (λ (U : List TaggedEntry). history first U) split.1;
      once = f.once;
      of_calls = subst (λ (es : List Entry). AreOfCalls (setup_in first) (entries_alone T) es) (sym same) f.of_calls;
      mine_is = f.mine_is;
    }

-- what is said of no turns is said for each client
pub taken_by : (client other : ℕ) (before after : PassView) → Taken client before [] after → Taken other before [] after
taken_by client other before after taken first T is = (let o = taken first T is in record { more = o.more; begins = o.begins; seen = o.seen; once = o.once; of_calls = o.of_calls; mine = o.mine; turned = o.turned; mine_is = o.mine_is })

-- a call was answered, or found old, whatever history the pass had seen
abbrev pub AnswersEach : (before after : PassView) (client : ℕ) (given moment : Moment) (payload reply : List ℕ) (place : ℕ) → Type 0
AnswersEach before after client given moment payload reply place = (first : Opening) (T : List TaggedEntry) → before.seen ≡ history first T → AnswersAt first T before after client given moment payload reply place

abbrev pub FindsOld : (before after : PassView) (client : ℕ) (payload : List ℕ) → Type 0
FindsOld before after client payload = (top : ℕ) × ((first : Opening) (T : List TaggedEntry) → before.seen ≡ history first T → FindsOldAt first T before after client (xid_in payload) top)

module _ (before now after : PassView) (client : ℕ) where
  -- others may have added entries
  pub taken_others : (turns : List Turn) → Taken client before turns now → OnlyOthersAdded now after → Taken client before turns after
  taken_others turns taken added first T is =
      let o = taken first T is in
      let f = tagged_others now after added first (T ++ o.more) o.seen in
      let all : (T ++ o.more) ++ f.others ≡ T ++ (o.more ++ f.others) = append_assoc T o.more f.others in
      record {
        more = o.more ++ f.others;
        begins = begins_on before.seen now.seen after.seen o.begins f.begins;
        seen = f.seen ∙ ap (λ (U : List TaggedEntry). history first U) all;
        once = λ none. f.once;
        of_calls = joined_calls (setup_in first) T o.more f.others o.of_calls f.of_calls;
        mine = o.mine;
        turned = subst (λ (U : List TaggedEntry). AreTurns (setup_in first) client U (length T) turns o.mine) all (turns_grow (setup_in first) client (T ++ o.more) f.others (length T) turns o.mine o.turned);
        mine_is = f.mine_is ∙ o.mine_is;
      }

  -- a call was answered
  pub taken_answered : (given moment : Moment) (payload reply : List ℕ) (place : ℕ) (turns : List Turn) → Taken client before turns now → AnswersEach now after client given moment payload reply place
      → Taken client before (turns ++ Answers given (record { moment = moment; payload = payload; place = place; reply = reply }) ∷ []) after
  taken_answered given moment payload reply place turns taken answers first T is =
      let o = taken first T is in
      let x = answers first (T ++ o.more) o.seen in
      let a : Answered = record { moment = moment; payload = payload; place = place; reply = reply } in
      let U : List TaggedEntry = (T ++ o.more) ++ x.others in
      let added : List TaggedEntry = added_at client U given a in
      let all : U ++ added ≡ T ++ (o.more ++ (x.others ++ added)) = append_assoc (T ++ o.more) x.others added ∙ append_assoc T o.more (x.others ++ added) in
      record {
        more = o.more ++ (x.others ++ added);
        begins = begins_on before.seen (history first U) after.seen (begins_on before.seen now.seen (history first U) o.begins x.begins) (additions added, x.seen ∙ history_more first U added);
        seen = x.seen ∙ ap (λ (V : List TaggedEntry). history first V) all;
        once = λ none. x.once;
        of_calls = joined_calls (setup_in first) T o.more (x.others ++ added) o.of_calls x.of_calls;
        mine = o.mine ++ places_from (suc (length U)) (length added);
        turned = subst (λ (V : List TaggedEntry). AreTurns (setup_in first) client V (length T) (turns ++ Answers given a ∷ []) (o.mine ++ places_from (suc (length U)) (length added))) all
            (turn_answered (setup_in first) client U (length T) turns o.mine given a (turns_grow (setup_in first) client (T ++ o.more) x.others (length T) turns o.mine o.turned) x.executed x.moment_is);
        mine_is = x.mine_is ∙ ap (λ (l : List ℕ). l ++ places_from (suc (length U)) (length added)) o.mine_is ∙ append_assoc before.mine o.mine (places_from (suc (length U)) (length added));
      }

  -- a call was refused, since it is old
  pub taken_refused : (given : Moment) (xid : ℕ) (payload : List ℕ) (turns : List Turn) → xid ≡ xid_in payload → Taken client before turns now → FindsOld now after client payload → Taken client before (turns ++ Refuses given xid ∷ []) after
  taken_refused given xid payload turns own taken refuses first T is =
      let o = taken first T is in
      let x = refuses.1 first (T ++ o.more) o.seen in
      let U : List TaggedEntry = (T ++ o.more) ++ x.others in
      let all : U ≡ T ++ (o.more ++ x.others) = append_assoc T o.more x.others in
      record {
        more = o.more ++ x.others;
        begins = begins_on before.seen now.seen after.seen o.begins x.begins;
        seen = x.seen ∙ ap (λ (V : List TaggedEntry). history first V) all;
        once = λ none. x.once;
        of_calls = joined_calls (setup_in first) T o.more x.others o.of_calls x.of_calls;
        mine = o.mine;
        turned = subst (λ (V : List TaggedEntry). AreTurns (setup_in first) client V (length T) (turns ++ Refuses given xid ∷ []) o.mine) all
            (turn_refused (setup_in first) client U (length T) turns o.mine given xid (turns_grow (setup_in first) client (T ++ o.more) x.others (length T) turns o.mine o.turned)
            (subst (λ (n : ℕ). IsOld (standing_for U client n)) (sym own) (subst IsOld (sym x.old) tt)));
        mine_is = x.mine_is ∙ o.mine_is;
      }

-- ---- What became of the journal

-- a pass had seen a server that was opened so and has this journal, and has now seen more entries, each that of a call
pub record GrownBy (first : Opening) (J : List Entry) (after : PassView) : Type 0 where
  pub more : List Entry
  pub seen : IsHistory first (J ++ more) after.seen
  pub of_calls : AreOfCalls (setup_in first) J more

abbrev pub GrowsByCalls : (before after : PassView) → Type 0
GrowsByCalls before after = (first : Opening) (J : List Entry) → IsHistory first J before.seen → GrownBy first J after

pub grown_by_calls : (before after : PassView) (calls : List Answered) → Over before calls after → GrowsByCalls before after
grown_by_calls before after calls over first J i = (let o = over first J i in record { more = o.more; seen = o.seen; of_calls = o.of_calls })

pub grown_by_turns : (before after : PassView) (client : ℕ) (turns : List Turn) → Taken client before turns after → GrowsByCalls before after
grown_by_turns before after client turns taken first J i =
    let o = taken first i.entries i.is in
    record {
      more = entries_alone o.more;
      seen = record { entries = i.entries ++ o.more; is = o.seen; journal = alone_more i.entries o.more ∙ ap (λ (l : List Entry). l ++ entries_alone o.more) i.journal };
      of_calls = subst (λ (l : List Entry). AreOfCalls (setup_in first) l (entries_alone o.more)) i.journal o.of_calls;
    }

-- ---- What the turns say, of one more

pub handled_one : (turns : List Turn) (t : Turn) → map handled_at (turns ++ t ∷ []) ≡ map handled_at turns ++ handled_at t ∷ []
handled_one turns t = map-append handled_at turns (t ∷ [])

pub given_one : (turns : List Turn) (t : Turn) → map given_for (turns ++ t ∷ []) ≡ map given_for turns ++ given_for t ∷ []
given_one turns t = map-append given_for turns (t ∷ [])
