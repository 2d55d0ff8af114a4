-- How many marks a requester made, after one mark more.
use Rattle.std.proofs.Common.{◌≡◌, ℕ, ◌+◌, ◌-◌, ◌≤◌, min, inl, inr, Bool, true, false, cond, ◌&&◌, ◌||◌, eqb, ltb, List, [], ◌∷◌, ◌++◌, length, take, refl, sym, ap, ◌∙◌, arith, length-append}
use Rattle.std.specs.List.{filter, list_any}
use Rattle.std.proofs.lemmas.Bool.{cases_lt, lt-ltb, le-ltb}
use Rattle.std.proofs.lemmas.List.{length-take, length-drop}
use Rattle.nr_wire.specs.declared.hello.Side.TheVariants.{Initiator, Responder}
use Rattle.nr_endpoint.specs.SendQueue.{SendQueue, writable, written, output_len}
use Rattle.nr_reduce.specs.declared.call.Submission.TheVariants as submissions
use Rattle.nr_reduce.specs.declared.mark.Mark.{Mark}
use Rattle.nr_reduce.specs.declared.mark.Mark.TheVariants as marks
use Rattle.nr_reduce.specs.History.{CompletedCall, written_at, fed_at}
use Rattle.nr_reduce.specs.Events.{RunEvent, if_own, events_at}
use Rattle.nr_reduce.proofs.Standing.{itself}
use Rattle.nr_requester.specs.CountedMarks.{has_bytes, is_counted, marks_of, marks_max, counted_marks, marks_if}
use Rattle.nr_requester.specs.Laws.{GivesUpNothing}

-- ---- One mark more

pub count_more : (p : Mark → Bool) (run : List Mark) (mark : Mark) → length (filter p (run ++ mark ∷ [])) ≡ length (filter p run) + length (filter p (mark ∷ []))
count_more p [] mark = omega arith
count_more p (m ∷ run) mark = by (p m) (count_more p run mark)
  where
    by : (b : Bool) → length (filter p (run ++ mark ∷ [])) ≡ length (filter p run) + length (filter p (mark ∷ [])) →
        length (cond b (m ∷ filter p (run ++ mark ∷ [])) (filter p (run ++ mark ∷ []))) ≡ length (cond b (m ∷ filter p run) (filter p run)) + length (filter p (mark ∷ []))
    by true rest = omega (arith, rest)
    by false rest = rest

pub counted_more : (link : ℕ) (run : List Mark) (mark : Mark) (n : ℕ) (own : Bool) → is_counted link mark ≡ own → n ≡ counted_marks link run → marks_if own n ≡ counted_marks link (run ++ mark ∷ [])
unfolding marks_of
counted_more link run mark n own is so_far = by own (count_more (is_counted link) run mark ∙ ap (λ (b : Bool). length (filter (is_counted link) run) + length (cond b (mark ∷ []) [])) is)
  where
    by : (b : Bool) → length (filter (is_counted link) (run ++ mark ∷ [])) ≡ length (filter (is_counted link) run) + length (cond b (mark ∷ []) []) → marks_if b n ≡ min (length (filter (is_counted link) (run ++ mark ∷ []))) marks_max
    by true more = omega (arith, more, so_far)
    by false more = omega (arith, more, so_far)

-- beside the marks that were counted before the link began
pub counted_beside : (earlier link : ℕ) (run : List Mark) (mark : Mark) (n : ℕ) (own : Bool) → is_counted link mark ≡ own → n ≡ min (earlier + marks_of link run) marks_max → marks_if own n ≡ min (earlier + marks_of link (run ++ mark ∷ [])) marks_max
unfolding marks_of
counted_beside earlier link run mark n own is so_far = by own (count_more (is_counted link) run mark ∙ ap (λ (b : Bool). length (filter (is_counted link) run) + length (cond b (mark ∷ []) [])) is)
  where
    by : (b : Bool) → length (filter (is_counted link) (run ++ mark ∷ [])) ≡ length (filter (is_counted link) run) + length (cond b (mark ∷ []) []) → marks_if b n ≡ min (earlier + length (filter (is_counted link) (run ++ mark ∷ []))) marks_max
    by true more = omega (arith, more, so_far)
    by false more = omega (arith, more, so_far)

pub same_count : (link : ℕ) (run : List Mark) (mark : Mark) (n : ℕ) → is_counted link mark ≡ false → n ≡ counted_marks link run → n ≡ counted_marks link (run ++ mark ∷ [])
same_count link run mark n is so_far = counted_more link run mark n false is so_far

-- ---- Which marks are counted

pub own_bytes : (link : ℕ) (bytes : List ℕ) → is_counted link (marks.Fed link Initiator bytes) ≡ has_bytes bytes
own_bytes link bytes = ap (λ (b : Bool). b && has_bytes bytes) (itself link)

-- a mark that is no event of it, and gives up nothing
and_false : (b : Bool) → (b && false) ≡ false
and_false true = refl
and_false false = refl

none_left : (b : Bool) (bytes : List ℕ) → cond (b && true) bytes [] ≡ [] → (b && has_bytes bytes) ≡ false
none_left true [] e = refl
none_left true (byte ∷ bytes) e = absurd (let long = ap (λ (xs : List ℕ). length xs) e in omega (arith, long))
none_left false bytes e = refl

no_event : (b : Bool) (event : RunEvent) → if_own (b && true) (event ∷ []) ≡ [] → b ≡ false
no_event true event e = absurd (let long = ap (λ (xs : List RunEvent). length xs) e in omega (arith, long))
no_event false event e = refl

one_of_link : (b c : Bool) → c ≡ true → ((b && c) || false) ≡ false → b ≡ false
one_of_link b c is e = by b (ap (λ (x : Bool). (b && x) || false) (sym is) ∙ e)
  where
    by : (d : Bool) → ((d && true) || false) ≡ false → d ≡ false
    by true f = f
    by false f = refl

pub others_uncounted : (link : ℕ) (run : List Mark) (mark : Mark) → events_at link Initiator run mark ≡ [] → written_at link Initiator mark ≡ [] → fed_at link Initiator mark ≡ [] → GivesUpNothing link mark → is_counted link mark ≡ false
others_uncounted link run (marks.Submit l call form (submissions.Accepted xid)) events writes feeds none = no_event (eqb l link) _ events
others_uncounted link run (marks.Submit l call form (submissions.Refused why)) events writes feeds none = refl
others_uncounted link run (marks.Submit l call form submissions.Dropped) events writes feeds none = refl
others_uncounted link run (marks.Wrote l Initiator bytes) events writes feeds none = none_left (eqb l link) bytes writes
others_uncounted link run (marks.Wrote l Responder bytes) events writes feeds none = refl
others_uncounted link run (marks.Fed l Initiator bytes) events writes feeds none = none_left (eqb l link) bytes feeds
others_uncounted link run (marks.Fed l Responder bytes) events writes feeds none = refl
others_uncounted link run (marks.Execute l xid moment payload place reply) events writes feeds none = refl
others_uncounted link run (marks.Done l xid outcome) events writes feeds none = by (eqb l link) (none xid)
  where
    by : (b : Bool) → list_any (λ (c : CompletedCall). eqb c.xid xid) (cond b (record { xid = xid; outcome = outcome } ∷ []) []) ≡ false → b ≡ false
    by true e = absurd (let wrong : true ≡ false = ap (λ (x : Bool). x || false) (sym (itself xid)) ∙ e in cc)
    by false e = refl
others_uncounted link run (marks.Lost l xid) events writes feeds none = one_of_link (eqb l link) (eqb xid xid) (itself xid) (none xid)
others_uncounted link run (marks.Forget l xid) events writes feeds none = one_of_link (eqb l link) (eqb xid xid) (itself xid) (none xid)
others_uncounted link run (marks.Revoke l xid bytes) events writes feeds none = one_of_link (eqb l link) (eqb xid xid) (itself xid) (none xid)
others_uncounted link run (marks.Drop l) events writes feeds none = refl
others_uncounted link run (marks.Told l what) events writes feeds none = refl

-- ---- A drain that moved bytes

pub some_bytes : (xs : List ℕ) → has_bytes xs ≡ ltb 0 (length xs)
some_bytes [] = refl
some_bytes (x ∷ xs) = sym (lt-ltb 0 (length (x ∷ xs)) (omega arith))

-- the queue has less by what was written
less : (has_hello : Bool) (n : ℕ) (q : SendQueue) → n ≤ length (writable has_hello q) → (output_len (written n q) ≡ output_len q - n) × (n ≤ output_len q)
unfolding written
less true n q fits =
    let all = length-append q.hello q.fpdus in
    let hello = length-drop n q.hello in
    let fpdus = length-drop (n - length q.hello) q.fpdus in
    (omega (arith, fits, all, hello, fpdus), omega (arith, fits, all))
less false n q fits =
    let all = length-append q.hello [] in
    let hello = length-drop n q.hello in
    let fpdus = length-drop (n - length q.hello) q.fpdus in
    (omega (arith, fits, all, hello, fpdus), omega (arith, fits, all))

alike : (m n p : ℕ) → n ≤ m → p ≡ n → ltb (m - n) m ≡ ltb 0 p
alike m n p le is = elim (cases_lt 0 n) [
  | inl lt ↦ lt-ltb (m - n) m (omega (arith, lt, le)) ∙ sym (lt-ltb 0 p (omega (arith, is, lt)))
  | inr ge ↦ le-ltb (m - n) m (omega (arith, ge)) ∙ sym (le-ltb 0 p (omega (arith, is, ge)))
]

pub moved_bytes : (has_hello : Bool) (n : ℕ) (q : SendQueue) → n ≤ length (writable has_hello q) → ltb (output_len (written n q)) (output_len q) ≡ has_bytes (take n (writable has_hello q))
moved_bytes has_hello n q le =
    let l = less has_hello n q le in
    let len : length (take n (writable has_hello q)) ≡ n = omega (arith, length-take n (writable has_hello q), le) in
    ap (λ (m : ℕ). ltb m (output_len q)) l.0 ∙ alike (output_len q) n (length (take n (writable has_hello q))) l.1 len ∙ sym (some_bytes (take n (writable has_hello q)))
