-- One call more of a pass, over the one journal.
use Rattle.std.proofs.Common.{◌≡◌, ℕ, ◌+◌, ◌≤◌, arith, List, [], ◌∷◌, ◌++◌, length, take, drop, Some, refl, sym, ap, subst, ◌∙◌, append_assoc, append-nil}
use Rattle.std.proofs.lemmas.List.{drop-append-le, length-append, take-append-drop, take-append-le}
use Rattle.std.proofs.lemmas.Grind.{flat_map-append}
use Rattle.std.proofs.Math.Seq.{drop-append_seam, take-length}
use Rattle.std.specs.Prelude.{option_map}
use Rattle.std.specs.List.{flat_map}
use Rattle.nr_outside.specs.declared.moment.Moment.{Moment}
use Rattle.nr_reduce.specs.declared.mark.Entry.{Entry}
use Rattle.nr_plain.specs.Added.{entries_of_call}
use Rattle.nr_plain.specs.Journal.{state_of}
use Rattle.nr_plain.specs.Replies.{Answer, plain_answer, plain_reply}
use Rattle.nr_plain.specs.Setup.{Setup}
use Rattle.nr_plain.specs.History.{AllPlaced, Answered, Executes, IsHistory, OnlyOthersAdded, Over, PassView, entries_in, own_places, own_places_of, setup_in, xid_in}
use Rattle.nr_plain.specs.declared.history_entry.HistoryEntry.{HistoryEntry}
use Rattle.nr_plain.proofs.OfCalls.{both_of_calls}
use Rattle.nr_plain.proofs.Histories.{begins_itself, begins_on, history_grows}

plain_stays : (s : Setup) (J more : List Entry) (place : ℕ) (m : Moment) (payload : List ℕ) → place ≤ length J → plain_reply s (J ++ more) place m payload ≡ plain_reply s J place m payload
plain_stays s J more place m payload low =
    ap (λ (es : List Entry). option_map (λ (a : Answer). a.reply) (plain_answer s.parameters (state_of s es) m payload)) (take-append-le place J more low)

has_room : (n : ℕ) (xs es : List Entry) → take n xs ≡ es → length es ≡ n → n ≤ length xs
has_room n xs es is len =
    let all = ap length (take-append-drop n xs) in let sum = length-append (take n xs) (drop n xs) in let first = ap length is in omega (arith, all, sum, first, len)

entry_stays : (J more es : List Entry) (place : ℕ) → place ≤ length J → take (length es) (drop place J) ≡ es → take (length es) (drop place (J ++ more)) ≡ es
entry_stays J more es place low is =
    ap (λ (l : List Entry). take (length es) l) (drop-append-le place J more low)
    ∙ take-append-le (length es) (drop place J) more (has_room (length es) (drop place J) es is refl) ∙ is

-- the places are within the journal
pub low : (s : Setup) (J : List Entry) (n : ℕ) (calls : List Answered) → AllPlaced s J n calls → n ≤ length J
low s J n [] h = h
low s J n (a ∷ calls) (from, (replied, (there, rest))) =
    let more = low s J (a.place + length (entries_in a)) calls rest in omega (arith, from, more)

-- calls keep their places when the journal grows
pub grow : (s : Setup) (J more : List Entry) (n : ℕ) (calls : List Answered) → AllPlaced s J n calls → AllPlaced s (J ++ more) n calls
grow s J more n [] h = let sum = length-append J more in omega (arith, h, sum)
grow s J more n (a ∷ calls) (from, (replied, (there, rest))) =
    let end = low s J (a.place + length (entries_in a)) calls rest in
    let within : a.place ≤ length J = omega (arith, end) in (
      from,
      (
        plain_stays s J more a.place a.moment a.payload within ∙ replied,
        (entry_stays J more (entries_in a) a.place within there, grow s J more (a.place + length (entries_in a)) calls rest),
      ),
    )

-- one call more, at the end of the journal J
place_last : (s : Setup) (J : List Entry) (n : ℕ) (calls : List Answered) (a : Answered) → AllPlaced s J n calls → a.place ≡ length J
    → plain_reply s (J ++ entries_in a) a.place a.moment a.payload ≡ Some a.reply → take (length (entries_in a)) (drop a.place (J ++ entries_in a)) ≡ entries_in a
    → AllPlaced s (J ++ entries_in a) n (calls ++ a ∷ [])
place_last s J n [] a h at replied there =
    let sum = length-append J (entries_in a) in
    ((let m : n ≤ a.place = omega (arith, h, at) in m), (replied, (there, (let l : a.place + length (entries_in a) ≤ length (J ++ entries_in a) = omega (arith, at, sum) in l))))
place_last s J n (b ∷ calls) a (from, (b_replied, (b_there, rest))) at replied there =
    let end = low s J (b.place + length (entries_in b)) calls rest in
    let within : b.place ≤ length J = omega (arith, end) in (
      from,
      (
        plain_stays s J (entries_in a) b.place b.moment b.payload within ∙ b_replied,
        (
          entry_stays J (entries_in a) (entries_in b) b.place within b_there,
          place_last s J (b.place + length (entries_in b)) calls a rest at replied there,
        ),
      ),
    )

own_one : (calls : List Answered) (a : Answered) → own_places (calls ++ a ∷ []) ≡ own_places calls ++ own_places_of a
unfolding own_places
own_one calls a = flat_map-append own_places_of calls (a ∷ []) ∙ ap (λ (l : List ℕ). flat_map own_places_of calls ++ l) (append-nil (own_places_of a))

own_none : own_places [] ≡ []
unfolding own_places
own_none = refl

pub over_none : (view : PassView) → Over view [] view
over_none view first J i = record {
  more = [];
  begins = begins_itself view.seen;
  seen = subst (λ (l : List Entry). IsHistory first l view.seen) (sym (append-nil J)) i;
  once = λ none. none;
  of_calls = tt;
  placed = (let same = ap length (append-nil J) in omega (arith, same));
  mine_is = sym (append-nil view.mine) ∙ ap (λ (l : List ℕ). view.mine ++ l) (sym own_none);
}

-- a call was executed
pub over_executed : (before now after : PassView) (client : ℕ) (m : Moment) (payload reply : List ℕ) (place : ℕ) (calls : List Answered) → Over before calls now → Executes now after client m payload reply place
    → Over before (calls ++ record { moment = m; payload = payload; place = place; reply = reply } ∷ []) after
over_executed before now after client m payload reply place calls over executes first J i =
    let o = over first J i in
    let x = executes first (J ++ o.more) o.seen in
    let a : Answered = record { moment = m; payload = payload; place = place; reply = reply } in
    let es : List Entry = entries_of_call m payload reply in
    let J1 : List Entry = (J ++ o.more) ++ x.others in
    let all : J ++ (o.more ++ (x.others ++ es)) ≡ J1 ++ es = sym (append_assoc J o.more (x.others ++ es)) ∙ sym (append_assoc (J ++ o.more) x.others es) in
    let here : place ≤ length J1 = (let at = x.place_is in omega (arith, at)) in
    record {
      more = o.more ++ (x.others ++ es);
      begins = begins_on before.seen x.found after.seen (begins_on before.seen now.seen x.found o.begins x.begins) (_, x.seen);
      seen = subst (λ (l : List Entry). IsHistory first l after.seen) (sym all)
          (subst (λ (h : List HistoryEntry). IsHistory first (J1 ++ es) h) (sym x.seen) (history_grows first J1 x.found client (xid_in payload) es x.found_is));
      once = λ none. x.once;
      of_calls = both_of_calls (setup_in first) J o.more (x.others ++ es) o.of_calls x.of_calls;
      placed = subst (λ (l : List Entry). AllPlaced (setup_in first) l (length J) (calls ++ a ∷ [])) (sym all)
          (place_last (setup_in first) J1 (length J) calls a (grow (setup_in first) (J ++ o.more) x.others (length J) calls o.placed) x.place_is
          (plain_stays (setup_in first) J1 es place m payload here ∙ x.replied)
          (subst (λ (k : ℕ). take (length es) (drop k (J1 ++ es)) ≡ es) (sym x.place_is)
          (ap (λ (l : List Entry). take (length es) l) (drop-append_seam J1 es) ∙ take-length es)));
      mine_is = x.mine_is ∙ ap (λ (l : List ℕ). l ++ own_places_of a) o.mine_is ∙ append_assoc before.mine (own_places calls) (own_places_of a)
          ∙ ap (λ (l : List ℕ). before.mine ++ l) (sym (own_one calls a));
    }

-- others may have added entries
pub over_others : (before now after : PassView) (calls : List Answered) → Over before calls now → OnlyOthersAdded now after → Over before calls after
over_others before now after calls over added first J i =
    let o = over first J i in
    let f = added first (J ++ o.more) o.seen in
    let all : (J ++ o.more) ++ f.others ≡ J ++ (o.more ++ f.others) = append_assoc J o.more f.others in
    record {
      more = o.more ++ f.others;
      begins = begins_on before.seen now.seen after.seen o.begins f.begins;
      seen = subst (λ (l : List Entry). IsHistory first l after.seen) all f.seen;
      once = λ none. f.once;
      of_calls = both_of_calls (setup_in first) J o.more f.others o.of_calls f.of_calls;
      placed = subst (λ (l : List Entry). AllPlaced (setup_in first) l (length J) calls) all (grow (setup_in first) (J ++ o.more) f.others (length J) calls o.placed);
      mine_is = f.mine_is ∙ o.mine_is;
    }
