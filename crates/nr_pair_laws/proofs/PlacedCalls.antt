-- Where the calls of a connection stand in the journal, in the order of its marks.
use Rattle.std.proofs.Common.{◌≡◌, ℕ, zero, suc, ◌+◌, ◌≤◌, cond, List, [], ◌∷◌, ◌++◌, length, take, drop, Some, refl, sym, ap, subst, ◌∙◌, arith, length-drop, append-nil, take-append-drop}
use Rattle.std.specs.List.{flat_map}
use Rattle.std.specs.Option.{option_map}
use Rattle.std.proofs.lemmas.Grind.{flat_map-append}
use Rattle.std.proofs.lemmas.List.{drop-append-le, length-take-le, take-append-le}
use Rattle.nr_outside.specs.declared.moment.Moment.{Moment}
use Rattle.nr_reduce.specs.declared.mark.Entry.{Entry}
use Rattle.nr_reduce.specs.declared.mark.Mark.{Mark}
use Rattle.nr_reduce.specs.declared.mark.Mark.TheVariants as marks
use Rattle.nr_reduce.specs.AtEachMark.{AtEachMark}
use Rattle.nr_reduce.specs.ClientState.{call_payload}
use Rattle.nr_reduce.specs.Journal.{AtPlace}
use Rattle.nr_reduce.proofs.Standing.{itself}
use Rattle.nr_laws.specs.PlainLinks.{AtPlaceOnMark}
use Rattle.nr_plain.specs.History.{AllPlaced, Answered, entries_in}
use Rattle.nr_plain.specs.Journal.{state_of}
use Rattle.nr_plain.specs.Replies.{Answer, plain_answer, plain_reply}
use Rattle.nr_plain.specs.ReplyLaws.{plain_server}
use Rattle.nr_plain.specs.Setup.{Setup}
use Rattle.nr_plain.proofs.PassCalls.{grow, low}
use Rattle.nr_host.specs.Connections.{answer_of}
use Rattle.nr_host_laws.specs.OwnMarks.{own_marks}
use Rattle.nr_pair_laws.specs.Pairs.{AnsweredInLongerJournals}
use Rattle.nr_pair_laws.proofs.ServerSide.{own_more}

-- ---- Calls at their places

-- the place after the entries of all these calls, the first of which has at least place n
abbrev pub place_after_all : ℕ → List Answered → ℕ
place_after_all n [] = n
place_after_all n (a ∷ calls) = place_after_all (a.place + length (entries_in a)) calls

pub after_more : (n : ℕ) (xs ys : List Answered) → place_after_all n (xs ++ ys) ≡ place_after_all (place_after_all n xs) ys
after_more n [] ys = refl
after_more n (a ∷ xs) ys = after_more (a.place + length (entries_in a)) xs ys

pub placed_last : (s : Setup) (J : List Entry) (n : ℕ) (xs ys : List Answered) → AllPlaced s J n (xs ++ ys) → AllPlaced s J (place_after_all n xs) ys
placed_last s J n [] ys h = h
placed_last s J n (a ∷ xs) ys (from, (replied, (there, rest))) = placed_last s J (a.place + length (entries_in a)) xs ys rest

pub placed_first : (s : Setup) (J : List Entry) (n : ℕ) (xs ys : List Answered) → AllPlaced s J n (xs ++ ys) → AllPlaced s J n xs
placed_first s J n [] ys h = low s J n ys h
placed_first s J n (a ∷ xs) ys (from, (replied, (there, rest))) = (from, (replied, (there, placed_first s J (a.place + length (entries_in a)) xs ys rest)))

pub rises : (s : Setup) (J : List Entry) (n : ℕ) (calls : List Answered) → AllPlaced s J n calls → n ≤ place_after_all n calls
rises s J n [] h = omega arith
rises s J n (a ∷ calls) (from, (replied, (there, rest))) = let later = rises s J (a.place + length (entries_in a)) calls rest in omega (arith, from, later)

-- ---- Each at its place

take_all : {X : Type 0} (xs : List X) → take (length xs) xs ≡ xs
take_all [] = refl
take_all (x ∷ xs) = ap (λ l. x ∷ l) (take_all xs)

reply_at_end : (s : Setup) (J : List Entry) (place : ℕ) (moment : Moment) (payload reply : List ℕ) → plain_reply s J place moment payload ≡ Some reply
    → plain_reply s (take place J) (length (take place J)) moment payload ≡ Some reply
reply_at_end s J place moment payload reply is =
    ap (λ (K : List Entry). option_map (λ (a : Answer). a.reply) (plain_answer s.parameters (state_of s K) moment payload)) (take_all (take place J)) ∙ is

pub at_place_of : (s : Setup) (J : List Entry) (n : ℕ) (a : Answered) (calls : List Answered) → AllPlaced s J n (a ∷ calls) → AtPlace (plain_server s) J a.moment a.payload a.place a.reply
at_place_of s J n a calls (from, (replied, (there, rest))) =
    let end = low s J (a.place + length (entries_in a)) calls rest in
    let within : a.place ≤ length J = omega (arith, end) in
    record { within = within; replied = reply_at_end s J a.place a.moment a.payload a.reply replied; entry = there }

pub each_placed : (s : Setup) (J : List Entry) (link n : ℕ) (front run : List Mark) → AllPlaced s J n (flat_map answer_of run) → AtEachMark (AtPlaceOnMark (plain_server s) J link) front run
each_placed s J link n front [] h = tt
each_placed s J link n front (marks.Execute l xid moment payload place reply ∷ run) h =
    let a : Answered = record { moment = moment; payload = payload; place = place; reply = reply } in
    ((λ own. at_place_of s J n a (flat_map answer_of run) h), each_placed s J link (place + length (entries_in a)) (front ++ marks.Execute l xid moment payload place reply ∷ []) run h.1.1.1)
each_placed s J link n front (marks.Submit l call form answer ∷ run) h = (tt, each_placed s J link n (front ++ marks.Submit l call form answer ∷ []) run h)
each_placed s J link n front (marks.Wrote l side bytes ∷ run) h = (tt, each_placed s J link n (front ++ marks.Wrote l side bytes ∷ []) run h)
each_placed s J link n front (marks.Fed l side bytes ∷ run) h = (tt, each_placed s J link n (front ++ marks.Fed l side bytes ∷ []) run h)
each_placed s J link n front (marks.Done l xid outcome ∷ run) h = (tt, each_placed s J link n (front ++ marks.Done l xid outcome ∷ []) run h)
each_placed s J link n front (marks.Lost l xid ∷ run) h = (tt, each_placed s J link n (front ++ marks.Lost l xid ∷ []) run h)
each_placed s J link n front (marks.Forget l xid ∷ run) h = (tt, each_placed s J link n (front ++ marks.Forget l xid ∷ []) run h)
each_placed s J link n front (marks.Revoke l xid bytes ∷ run) h = (tt, each_placed s J link n (front ++ marks.Revoke l xid bytes ∷ []) run h)
each_placed s J link n front (marks.Drop l ∷ run) h = (tt, each_placed s J link n (front ++ marks.Drop l ∷ []) run h)
each_placed s J link n front (marks.Told l what ∷ run) h = (tt, each_placed s J link n (front ++ marks.Told l what ∷ []) run h)

-- ---- In a longer journal

reply_in : (s : Setup) (J : List Entry) (place : ℕ) (moment : Moment) (payload reply : List ℕ) → plain_reply s (take place J) (length (take place J)) moment payload ≡ Some reply
    → plain_reply s J place moment payload ≡ Some reply
reply_in s J place moment payload reply is =
    ap (λ (K : List Entry). option_map (λ (a : Answer). a.reply) (plain_answer s.parameters (state_of s K) moment payload)) (sym (take_all (take place J))) ∙ is

enough : {X : Type 0} (n : ℕ) (xs : List X) → length (take n xs) ≡ n → n ≤ length xs
enough zero xs is = omega arith
enough (suc n) [] is = omega (arith, is)
enough (suc n) (x ∷ xs) is = let rest = enough n xs (omega (arith, is)) in omega (arith, rest)

pub at_place_later : (s : Setup) (J more : List Entry) (moment : Moment) (payload : List ℕ) (place : ℕ) (reply : List ℕ) → AtPlace (plain_server s) J moment payload place reply
    → AtPlace (plain_server s) (J ++ more) moment payload place reply
at_place_later s J more moment payload place reply at =
    let a : Answered = record { moment = moment; payload = payload; place = place; reply = reply } in
    let room = enough (length (entries_in a)) (drop place J) (ap (λ (es : List Entry). length es) at.entry) in
    let left = length-drop place J in
    let within = at.within in
    let placed : AllPlaced s J place (a ∷ []) = ((omega arith), (reply_in s J place moment payload reply at.replied, (at.entry, (let m : place + length (entries_in a) ≤ length J = omega (arith, room, left, within) in m)))) in
    at_place_of s (J ++ more) place a [] (grow s J more place (a ∷ []) placed)

-- calls whose places and entries are in the beginning of a journal have these places there
placed_shorter : (s : Setup) (J more : List Entry) (n : ℕ) (calls : List Answered) → AllPlaced s (J ++ more) n calls → place_after_all n calls ≤ length J → AllPlaced s J n calls
placed_shorter s J more n [] h within = within
placed_shorter s J more n (a ∷ calls) (from, (replied, (there, rest))) within =
    let next = a.place + length (entries_in a) in
    let rest' = placed_shorter s J more next calls rest within in
    let end = low s J next calls rest' in
    let here : a.place ≤ length J = omega (arith, end) in
    let room = length-drop a.place J in
    let fits : length (entries_in a) ≤ length (drop a.place J) = omega (arith, room, end, here) in (
      from,
      (
        ap (λ (K : List Entry). option_map (λ (x : Answer). x.reply) (plain_answer s.parameters (state_of s K) a.moment a.payload)) (sym (take-append-le a.place J more here)) ∙ replied,
        (
          sym (ap (λ (K : List Entry). take (length (entries_in a)) K) (drop-append-le a.place J more here) ∙ take-append-le (length (entries_in a)) (drop a.place J) more fits) ∙ there,
          rest',
        ),
      ),
    )

pub placed_in_first : (s : Setup) (J : List Entry) (n : ℕ) (calls : List Answered) → AllPlaced s J n calls → AllPlaced s (take (place_after_all n calls) J) n calls
placed_in_first s J n calls h =
    let k = place_after_all n calls in
    let within : k ≤ length J = (placed_last s J n calls [] (subst (λ (l : List Answered). AllPlaced s J n l) (sym (append-nil calls)) h)) in
    let long : length (take k J) ≡ k = length-take-le k J within in
    placed_shorter s (take k J) (drop k J) n calls (subst (λ (K : List Entry). AllPlaced s K n calls) (sym (take-append-drop k J)) h) (omega (arith, long))

-- ---- In a run of both sides

-- the calls that the server of this link answered, in order
abbrev pub served_calls : ℕ → List Mark → List Answered
served_calls link run = flat_map answer_of (own_marks link run)

pub calls_more : (link : ℕ) (before rest : List Mark) → served_calls link (before ++ rest) ≡ served_calls link before ++ served_calls link rest
calls_more link before rest = ap (λ (l : List Mark). flat_map answer_of l) (own_more link before rest) ∙ flat_map-append answer_of (own_marks link before) (own_marks link rest)

execute_calls : (link xid : ℕ) (moment : Moment) (payload : List ℕ) (place : ℕ) (reply : List ℕ) (rest : List Mark)
    → served_calls link (marks.Execute link xid moment payload place reply ∷ rest) ≡ record { moment = moment; payload = payload; place = place; reply = reply } ∷ served_calls link rest
execute_calls link xid moment payload place reply rest =
    ap (λ b. flat_map answer_of (cond b (marks.Execute link xid moment payload place reply ∷ own_marks link rest) (own_marks link rest))) (itself link)

-- a call at its place, after the calls before it and before those after it
pub record StandsBetween (s : Setup) (J : List Entry) (moment : Moment) (reply : List ℕ) (place first last : ℕ) (payload : List ℕ) : Type 0 where
  pub at : AtPlace (plain_server s) J moment payload place reply
  pub from : first ≤ place
  pub until : place + length (entries_in (record { moment = moment; payload = payload; place = place; reply = reply })) ≤ last

module _ (s : Setup) (J : List Entry) (link n : ℕ) (both : List Mark) (placed : AllPlaced s J n (served_calls link both)) where
  abbrev pub bound : List Mark → ℕ
  bound run = place_after_all n (served_calls link run)

  pub bound_rises : (front more rest : List Mark) → both ≡ front ++ (more ++ rest) → bound front ≤ bound (front ++ more)
  bound_rises front more rest is =
      let calls : served_calls link both ≡ served_calls link front ++ (served_calls link more ++ served_calls link rest) =
      ap (λ (b : List Mark). served_calls link b) is ∙ calls_more link front (more ++ rest) ∙ ap (λ (l : List Answered). served_calls link front ++ l) (calls_more link more rest) in
      let last = placed_last s J n (served_calls link front) (served_calls link more ++ served_calls link rest) (subst (λ (l : List Answered). AllPlaced s J n l) calls placed) in
      let later = rises s J (bound front) (served_calls link more) (placed_first s J (bound front) (served_calls link more) (served_calls link rest) last) in
      let sum : bound (front ++ more) ≡ place_after_all (bound front) (served_calls link more) = ap (λ (l : List Answered). place_after_all n l) (calls_more link front more) ∙ after_more n (served_calls link front) (served_calls link more) in
      subst (λ (k : ℕ). bound front ≤ k) (sym sum) later

  pub bound_low : (front rest : List Mark) → both ≡ front ++ rest → bound front ≤ length J
  bound_low front rest is =
      low s J (bound front) (served_calls link rest) (placed_last s J n (served_calls link front) (served_calls link rest)
      (subst (λ (l : List Answered). AllPlaced s J n l) (ap (λ (b : List Mark). served_calls link b) is ∙ calls_more link front rest) placed))

  pub stands_between : (xid : ℕ) (moment : Moment) (payload : List ℕ) (place : ℕ) (reply : List ℕ) (before after rest : List Mark)
      → both ≡ before ++ marks.Execute link xid moment payload place reply ∷ (after ++ rest)
      → StandsBetween s J moment reply place (bound before) (bound (before ++ marks.Execute link xid moment payload place reply ∷ after)) payload
  stands_between xid moment payload place reply before after rest is =
      let execute : Mark = marks.Execute link xid moment payload place reply in
      let a : Answered = record { moment = moment; payload = payload; place = place; reply = reply } in
      let calls : served_calls link both ≡ served_calls link before ++ a ∷ (served_calls link after ++ served_calls link rest) =
      ap (λ (b : List Mark). served_calls link b) is ∙ calls_more link before (execute ∷ (after ++ rest))
      ∙ ap (λ (l : List Answered). served_calls link before ++ l) (execute_calls link xid moment payload place reply (after ++ rest) ∙ ap (λ (l : List Answered). a ∷ l) (calls_more link after rest)) in
      let at = placed_last s J n (served_calls link before) (a ∷ (served_calls link after ++ served_calls link rest)) (subst (λ (l : List Answered). AllPlaced s J n l) calls placed) in
      let next : ℕ = place + length (entries_in a) in
      let later = rises s J next (served_calls link after) (placed_first s J next (served_calls link after) (served_calls link rest) at.1.1.1) in
      let sum : bound (before ++ execute ∷ after) ≡ place_after_all next (served_calls link after) =
      ap (λ (l : List Answered). place_after_all n l) (calls_more link before (execute ∷ after) ∙ ap (λ (l : List Answered). served_calls link before ++ l) (execute_calls link xid moment payload place reply after))
      ∙ after_more n (served_calls link before) (a ∷ served_calls link after) in
      record {
        at = at_place_of s J (bound before) a (served_calls link after ++ served_calls link rest) at;
        from = at.0;
        until = subst (λ (k : ℕ). next ≤ k) (sym sum) later;
      }

pub answered_in_longer_journals_lem : AnsweredInLongerJournals
answered_in_longer_journals_lem s J more call o place a =
    (record { xid = a.xid; fits = a.fits; moment = a.moment; reply = a.reply; is = a.is; at = at_place_later s J more a.moment (call_payload a.xid call) place a.reply a.at }, refl)
