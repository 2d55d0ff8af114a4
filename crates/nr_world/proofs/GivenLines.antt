-- The lines of the calls that are awaited, and their tickets.
use Rattle.std.specs.Prelude.{remove, is_some, slice_get}
use Rattle.std.specs.List.{AllByRecursion, list_any}
use Rattle.std.proofs.Common.{◌≡◌, ◌≢◌, ℕ, ◌+◌, ◌<◌, arith, zero, suc, eqb, Bool, true, false, not, cond, List, [], ◌∷◌, ◌++◌, map, length, take, drop, get_or, filter, Option, None, Some, refl, ap, sym, subst, ◌∙◌}
use Rattle.std.proofs.lemmas.Bool.{eq-eqb, ne_eqb}
use Rattle.std.proofs.lemmas.List.{map-append}
use Rattle.nr_reduce.specs.declared.call.Call.{Call}
use Rattle.nr_reduce.specs.declared.call.Submission.{Submission}
use Rattle.nr_reduce.specs.declared.mark.Mark.{Mark}
use Rattle.nr_requester.specs.RequesterState.{RequesterState}
use Rattle.nr_requester.specs.OpenCalls.{open_call, KeepsTickets}
use Rattle.nr_requester.proofs.AnswerSteps.{all_as, all_filter}
use Rattle.nr_drill.specs.Drill.{client_of, Setting, settles}
use Rattle.nr_world.specs.declared.awaited.AwaitedCall.{AwaitedCall}
use Rattle.nr_world.specs.DrillLinkState.{AwaitedLine}
use Rattle.nr_world.specs.LinkStands.{answers_of, lines_from, is_awaited, awaited_lines}
use Rattle.nr_world.specs.OpenTickets.{LinesOpen, IsTakenOut, TakesLine, AreApart, calls_without, TakesCall}
use Rattle.nr_world.specs.Views.{line_view, call_view}
use Rattle.nr_world.proofs.CallLines.{filter_parts}
use Rattle.nr_reduce.specs.History.{AcceptedCall}
use Rattle.nr_world.proofs.SettledCalls.{lines_without}
use Rattle.nr_reduce.specs.declared.call.Submission.TheVariants as submissions

-- ---- A line is taken out

parts_at : {X : Type 0} (xs : List X) (n : ℕ) (d : X) → n < length xs → xs ≡ take n xs ++ get_or xs n d ∷ drop (suc n) xs
parts_at [] n d lt = absurd (omega (arith, lt))
parts_at (x ∷ xs) zero d lt = refl
parts_at (x ∷ xs) (suc n) d lt = ap (λ (rest : List _). x ∷ rest) (parts_at xs n d (omega (arith, lt)))

pub taken_out : (index at : ℕ) (items slice left : List AwaitedCall) (call : AwaitedCall) → slice ≡ items → (at < length slice) × ((d : AwaitedCall) → (get_or slice at d).index ≡ index) → call ≡ get_or items at call → left ≡ remove items at →
    TakesLine index (Some call.ticket) (map line_view items) (map line_view left)
taken_out index at items slice left call same found value is = record {
  before = map line_view (take at items);
  after = map line_view (drop (suc at) items);
  were = ap (λ (xs : List AwaitedCall). map line_view xs) (parts_at items at call lt)
      ∙ map-append line_view (take at items) (get_or items at call ∷ drop (suc at) items)
      ∙ ap (λ (line : AwaitedLine). map line_view (take at items) ++ line ∷ map line_view (drop (suc at) items)) own;
  are = ap (λ (xs : List AwaitedCall). map line_view xs) is ∙ map-append line_view (take at items) (drop (suc at) items);
}
  where
    lt : at < length items
    lt = subst (λ (xs : List AwaitedCall). at < length xs) same found.0

    own : line_view (get_or items at call) ≡ record { xid = call.ticket; index = index }
    own = ap (λ (c : AwaitedCall). line_view c) (sym value)
        ∙ ap (λ (n : ℕ). record { xid = call.ticket; index = n }) (ap (λ (c : AwaitedCall). c.index) value ∙ ap (λ (xs : List AwaitedCall). (get_or xs at call).index) (sym same) ∙ found.1 call)

none_have : (index : ℕ) (items : List AwaitedCall) → ((k : ℕ) (d : AwaitedCall) → k < length items → (get_or items k d).index ≢ index) → AllByRecursion (λ (line : AwaitedLine). line.index ≢ index) (map line_view items)
none_have index [] h = tt
none_have index (c ∷ items) h = (h 0 c (omega arith), none_have index items (λ k d lt. h (suc k) d (omega (arith, lt))))

pub none_taken : (index : ℕ) (items slice : List AwaitedCall) → slice ≡ items → ((k : ℕ) (d : AwaitedCall) → k < length slice → (get_or slice k d).index ≢ index) → TakesLine index None (map line_view items) (map line_view items)
none_taken index items slice same h =
    (refl, subst (λ (xs : List AwaitedCall). AllByRecursion (λ (line : AwaitedLine). line.index ≢ index) (map line_view xs)) same (none_have index slice h))

-- ---- Their tickets

pub still_open : (r r2 : RequesterState) (lines : List AwaitedLine) → KeepsTickets r r2 → LinesOpen r lines → LinesOpen r2 lines
still_open r r2 [] k h = tt
still_open r r2 (line ∷ lines) k h = (ap (λ (o : Option Call). is_some o) (k line.xid) ∙ h.0, (h.1.0, still_open r r2 lines k h.1.1))

pub open_others : (r r2 : RequesterState) (xid : ℕ) (lines : List AwaitedLine) → ((x : ℕ) → x ≢ xid → open_call x r2 ≡ open_call x r) → AllByRecursion (λ (line : AwaitedLine). line.xid ≢ xid) lines → LinesOpen r lines → LinesOpen r2 lines
open_others r r2 xid [] k apart h = tt
open_others r r2 xid (line ∷ lines) k apart h = (ap (λ (o : Option Call). is_some o) (k line.xid apart.0) ∙ h.0, (h.1.0, open_others r r2 xid lines k apart.1 h.1.1))

middle : {X : Type 0} (P : X → Type 0) (xs ys : List X) (x : X) → AllByRecursion P (xs ++ x ∷ ys) → P x
middle P [] ys x h = h.0
middle P (y ∷ xs) ys x h = middle P xs ys x h.1

around : {X : Type 0} (P : X → Type 0) (xs ys : List X) (x : X) → AllByRecursion P (xs ++ x ∷ ys) → AllByRecursion P (xs ++ ys)
around P [] ys x h = h.1
around P (y ∷ xs) ys x h = (h.0, around P xs ys x h.1)

pub is_open_one : (r : RequesterState) (before after : List AwaitedLine) (line : AwaitedLine) → LinesOpen r (before ++ line ∷ after) → is_some (open_call line.xid r) ≡ true
is_open_one r [] after line h = h.0
is_open_one r (first ∷ before) after line h = is_open_one r before after line h.1.1

pub others_apart : (r : RequesterState) (before after : List AwaitedLine) (line : AwaitedLine) → LinesOpen r (before ++ line ∷ after) → AllByRecursion (λ (other : AwaitedLine). other.xid ≢ line.xid) (before ++ after)
others_apart r [] after line h = h.1.0
others_apart r (first ∷ before) after line h = ((λ e. middle (λ (other : AwaitedLine). other.xid ≢ first.xid) before after line h.1.0 (sym e)), others_apart r before after line h.1.1)

open_around : (r : RequesterState) (before after : List AwaitedLine) (line : AwaitedLine) → LinesOpen r (before ++ line ∷ after) → LinesOpen r (before ++ after)
open_around r [] after line h = h.1.1
open_around r (first ∷ before) after line h = (h.0, (around (λ (other : AwaitedLine). other.xid ≢ first.xid) before after line h.1.0, open_around r before after line h.1.1))

-- a line is taken out, and its ticket is closed
pub open_ticket : (r : RequesterState) (index xid : ℕ) (lines left : List AwaitedLine) → IsTakenOut index xid lines left → LinesOpen r lines → is_some (open_call xid r) ≡ true
open_ticket r index xid lines left t h = is_open_one r t.before t.after (record { xid = xid; index = index }) (subst (λ (ls : List AwaitedLine). LinesOpen r ls) t.were h)

pub left_open : (r r2 : RequesterState) (index xid : ℕ) (lines left : List AwaitedLine) → IsTakenOut index xid lines left → ((x : ℕ) → x ≢ xid → open_call x r2 ≡ open_call x r) → LinesOpen r lines → LinesOpen r2 left
left_open r r2 index xid lines left t kept h =
    let line : AwaitedLine = record { xid = xid; index = index } in
    let all : LinesOpen r (t.before ++ line ∷ t.after) = subst (λ (ls : List AwaitedLine). LinesOpen r ls) t.were h in
    subst (λ (ls : List AwaitedLine). LinesOpen r2 ls) (sym t.are)
    (open_others r r2 xid (t.before ++ t.after) kept (others_apart r t.before t.after line all) (open_around r t.before t.after line all))

-- none was taken out
pub none_left : (r : RequesterState) (index : ℕ) (result : Option ℕ) (lines left : List AwaitedLine) → result ≡ None → TakesLine index result lines left → LinesOpen r lines → LinesOpen r left
none_left r index None lines left none t h = subst (λ (ls : List AwaitedLine). LinesOpen r ls) (sym t.0) h
none_left r index (Some xid) lines left none t h = absurd cc

-- ---- What the lines say of the answers

-- the line of an accepted call has the call's place among the answers
abbrev IsLineOf : ℕ → List Submission → AwaitedLine → Type 0
IsLineOf start answers line = (n : ℕ) × (line.index ≡ start + n) × (slice_get answers n ≡ Some (submissions.Accepted line.xid))

later : (start : ℕ) (answer : Submission) (answers : List Submission) (line : AwaitedLine) → IsLineOf (start + 1) answers line → IsLineOf start (answer ∷ answers) line
later start answer answers line h = (suc h.0, (let e : line.index ≡ start + 1 + h.0 = h.1 in omega (arith, e)), h.2)

all_lines : (start : ℕ) (answers : List Submission) → AllByRecursion (IsLineOf start answers) (lines_from start answers)
all_lines start [] = tt
all_lines start (submissions.Accepted xid ∷ answers) = ((0, omega arith, refl), all_as (lines_from (start + 1) answers) (later start (submissions.Accepted xid) answers) (all_lines (start + 1) answers))
all_lines start (submissions.Refused why ∷ answers) = all_as (lines_from (start + 1) answers) (later start (submissions.Refused why) answers) (all_lines (start + 1) answers)
all_lines start (submissions.Dropped ∷ answers) = all_as (lines_from (start + 1) answers) (later start submissions.Dropped answers) (all_lines (start + 1) answers)

all_pass : {X : Type 0} (p : X → Bool) (xs : List X) → AllByRecursion (λ (x : X). p x ≡ true) (filter p xs)
all_pass p [] = tt
all_pass {X = X} p (x ∷ xs) = by (p x) refl (all_pass p xs)
  where
    by : (b : Bool) → p x ≡ b → AllByRecursion (λ (y : X). p y ≡ true) (filter p xs) → AllByRecursion (λ (y : X). p y ≡ true) (cond b (x ∷ filter p xs) (filter p xs))
    by true e rest = (e, rest)
    by false e rest = rest

-- an awaited line was taken out: the call of its number was accepted under this xid, and is awaited
pub line_answer : (s : Setting) (link : ℕ) (run : List Mark) (index xid : ℕ) (lines left : List AwaitedLine) → lines ≡ awaited_lines s link run → IsTakenOut index xid lines left → slice_get (answers_of s link run) index ≡ Some (submissions.Accepted xid)
unfolding awaited_lines
line_answer s link run index xid lines left is t =
    let line : AwaitedLine = record { xid = xid; index = index } in
    let answers : List Submission = answers_of s link run in
    let all : AllByRecursion (IsLineOf 0 answers) (t.before ++ line ∷ t.after) =
    subst (λ (ls : List AwaitedLine). AllByRecursion (IsLineOf 0 answers) ls) (sym is ∙ t.were)
    (all_filter (IsLineOf 0 answers) (is_awaited s link run) (lines_from 0 answers) (all_lines 0 answers)) in
    let own : IsLineOf 0 answers line = middle (IsLineOf 0 answers) t.before t.after line all in
    let at : index ≡ own.0 = (let e : index ≡ 0 + own.0 = own.1 in omega (arith, e)) in
    ap (λ (n : ℕ). slice_get answers n) at ∙ own.2

pub line_awaited : (s : Setting) (link : ℕ) (run : List Mark) (index xid : ℕ) (lines left : List AwaitedLine) → lines ≡ awaited_lines s link run → IsTakenOut index xid lines left → is_awaited s link run (record { xid = xid; index = index }) ≡ true
unfolding awaited_lines
line_awaited s link run index xid lines left is t =
    middle (λ (line : AwaitedLine). is_awaited s link run line ≡ true) t.before t.after (record { xid = xid; index = index })
    (subst (λ (ls : List AwaitedLine). AllByRecursion (λ (line : AwaitedLine). is_awaited s link run line ≡ true) ls) (sym is ∙ t.were) (all_pass (is_awaited s link run) (lines_from 0 (answers_of s link run))))

abbrev accepted_xid : Option Submission → ℕ
accepted_xid (Some (submissions.Accepted xid)) = xid
accepted_xid (Some (submissions.Refused why)) = 0
accepted_xid (Some submissions.Dropped) = 0
accepted_xid None = 0

abbrev is_accepted : Option Submission → Bool
is_accepted (Some (submissions.Accepted xid)) = true
is_accepted (Some (submissions.Refused why)) = false
is_accepted (Some submissions.Dropped) = false
is_accepted None = false

true_apart : false ≢ true
true_apart e = absurd cc

-- of the lines that are due none has this index: if the call of this number was accepted, it isn't due
abbrev due_lines : (ℕ → Bool) → ℕ → List Submission → List AwaitedLine
due_lines due start answers = filter (λ (line : AwaitedLine). due line.xid) (lines_from start answers)

first_due : (due : ℕ → Bool) (start x : ℕ) (rest : List AwaitedLine) (b : Bool) → due x ≡ b →
    AllByRecursion (λ (line : AwaitedLine). line.index ≢ start + zero) (cond b (record { xid = x; index = start } ∷ rest) rest) → due x ≡ false
first_due due start x rest true own h = absurd (h.0 (omega arith))
first_due due start x rest false own h = own

rest_due : (start n x : ℕ) (rest : List AwaitedLine) (b : Bool) → AllByRecursion (λ (line : AwaitedLine). line.index ≢ start + suc n) (cond b (record { xid = x; index = start } ∷ rest) rest) →
    AllByRecursion (λ (line : AwaitedLine). line.index ≢ start + suc n) rest
rest_due start n x rest true h = h.1
rest_due start n x rest false h = h

moved_on : (start n : ℕ) (lines : List AwaitedLine) → AllByRecursion (λ (line : AwaitedLine). line.index ≢ start + suc n) lines → AllByRecursion (λ (line : AwaitedLine). line.index ≢ start + 1 + n) lines
moved_on start n lines h = let same : start + suc n ≡ start + 1 + n = omega arith in subst (λ (m : ℕ). AllByRecursion (λ (line : AwaitedLine). line.index ≢ m) lines) same h

not_due : (due : ℕ → Bool) (start n xid : ℕ) (answers : List Submission) → slice_get answers n ≡ Some (submissions.Accepted xid) → AllByRecursion (λ (line : AwaitedLine). line.index ≢ start + n) (due_lines due start answers) → due xid ≡ false
not_due due start n xid [] e h = absurd (true_apart (ap is_accepted e))
not_due due start zero xid (submissions.Accepted x ∷ answers) e h = ap due (sym (ap accepted_xid e)) ∙ first_due due start x (due_lines due (start + 1) answers) (due x) refl h
not_due due start zero xid (submissions.Refused why ∷ answers) e h = absurd (true_apart (ap is_accepted e))
not_due due start zero xid (submissions.Dropped ∷ answers) e h = absurd (true_apart (ap is_accepted e))
not_due due start (suc n) xid (submissions.Accepted x ∷ answers) e h =
    not_due due (start + 1) n xid answers e (moved_on start n (due_lines due (start + 1) answers) (rest_due start n x (due_lines due (start + 1) answers) (due x) h))
not_due due start (suc n) xid (submissions.Refused why ∷ answers) e h = not_due due (start + 1) n xid answers e (moved_on start n (due_lines due (start + 1) answers) h)
not_due due start (suc n) xid (submissions.Dropped ∷ answers) e h = not_due due (start + 1) n xid answers e (moved_on start n (due_lines due (start + 1) answers) h)

pub not_awaited : (s : Setting) (link : ℕ) (run : List Mark) (index xid : ℕ) → AllByRecursion (λ (line : AwaitedLine). line.index ≢ index) (awaited_lines s link run) → slice_get (answers_of s link run) index ≡ Some (submissions.Accepted xid) →
    not (list_any (settles s (client_of s link) xid) run) ≡ false
unfolding awaited_lines
not_awaited s link run index xid none is =
    let same : index ≡ 0 + index = omega arith in
    let open_xid : ℕ → Bool = λ x. not (list_any (settles s (client_of s link) x) run) in
    not_due open_xid 0 index xid (answers_of s link run) is (subst (λ (n : ℕ). AllByRecursion (λ (line : AwaitedLine). line.index ≢ n) (due_lines open_xid 0 (answers_of s link run))) same none)

-- ---- The lines once a call is given up

others_of : (xid : ℕ) (lines : List AwaitedLine) → AllByRecursion (λ (line : AwaitedLine). line.xid ≢ xid) lines → filter (λ (line : AwaitedLine). not (eqb xid line.xid)) lines ≡ lines
others_of xid [] h = refl
others_of xid (line ∷ lines) h =
    ap (λ (b : Bool). cond (not b) (line ∷ filter (λ (l : AwaitedLine). not (eqb xid l.xid)) lines) (filter (λ (l : AwaitedLine). not (eqb xid l.xid)) lines)) (ne_eqb xid line.xid (λ e. h.0 (sym e)))
    ∙ ap (λ (rest : List AwaitedLine). line ∷ rest) (others_of xid lines h.1)

left_part : {X : Type 0} (P : X → Type 0) (xs ys : List X) → AllByRecursion P (xs ++ ys) → AllByRecursion P xs
left_part P [] ys h = tt
left_part P (x ∷ xs) ys h = (h.0, left_part P xs ys h.1)

right_part : {X : Type 0} (P : X → Type 0) (xs ys : List X) → AllByRecursion P (xs ++ ys) → AllByRecursion P ys
right_part P [] ys h = h
right_part P (x ∷ xs) ys h = right_part P xs ys h.1

one_less : (xid index : ℕ) (before after : List AwaitedLine) → AllByRecursion (λ (line : AwaitedLine). line.xid ≢ xid) (before ++ after) →
    filter (λ (line : AwaitedLine). not (eqb xid line.xid)) (before ++ record { xid = xid; index = index } ∷ after) ≡ before ++ after
one_less xid index before after h =
    let other : AwaitedLine → Bool = λ line. not (eqb xid line.xid) in
    filter_parts other before (record { xid = xid; index = index } ∷ after)
    ∙ (λ i. others_of xid before (left_part (λ (line : AwaitedLine). line.xid ≢ xid) before after h) i
    ++ cond (not (eq-eqb xid xid refl i)) (record { xid = xid; index = index } ∷ filter other after) (filter other after))
    ∙ ap (λ (rest : List AwaitedLine). before ++ rest) (others_of xid after (right_part (λ (line : AwaitedLine). line.xid ≢ xid) before after h))

-- the lines that are left are those of other xids
pub left_without : (r : RequesterState) (index xid : ℕ) (lines left : List AwaitedLine) → LinesOpen r lines → IsTakenOut index xid lines left → left ≡ lines_without xid lines
left_without r index xid lines left h t =
    let line : AwaitedLine = record { xid = xid; index = index } in
    let all : LinesOpen r (t.before ++ line ∷ t.after) = subst (λ (ls : List AwaitedLine). LinesOpen r ls) t.were h in
    t.are ∙ sym (ap (λ (ls : List AwaitedLine). lines_without xid ls) t.were ∙ one_less xid index t.before t.after (others_apart r t.before t.after line all))

-- ---- A call is taken out with its line

calls_kept : (xid : ℕ) (calls : List AwaitedCall) → AllByRecursion (λ (other : AwaitedCall). other.ticket ≢ xid) calls → calls_without xid (map call_view calls) ≡ map call_view calls
calls_kept xid [] h = refl
calls_kept xid (call ∷ calls) h =
    ap (λ (b : Bool). cond (not b) (call_view call ∷ calls_without xid (map call_view calls)) (calls_without xid (map call_view calls))) (ne_eqb xid call.ticket (λ e. h.0 (sym e)))
    ∙ ap (λ (rest : List AcceptedCall). call_view call ∷ rest) (calls_kept xid calls h.1)

at_apart : (xid : ℕ) (calls : List AwaitedCall) (at : ℕ) (d : AwaitedCall) → AllByRecursion (λ (other : AwaitedCall). other.ticket ≢ xid) calls → at < length calls → (get_or calls at d).ticket ≢ xid
at_apart xid [] at d h within = absurd (omega (arith, within))
at_apart xid (call ∷ calls) zero d h within = h.0
at_apart xid (call ∷ calls) (suc at) d h within = at_apart xid calls at d h.1 (omega (arith, within))

pub call_taken : (calls : List AwaitedCall) (at : ℕ) (d : AwaitedCall) → at < length calls → AreApart calls → map call_view (remove calls at) ≡ calls_without (get_or calls at d).ticket (map call_view calls)
call_taken [] at d within apart = absurd (omega (arith, within))
call_taken (call ∷ calls) zero d within apart =
    sym (ap (λ (b : Bool). cond (not b) (call_view call ∷ calls_without call.ticket (map call_view calls)) (calls_without call.ticket (map call_view calls))) (eq-eqb call.ticket call.ticket refl) ∙ calls_kept call.ticket calls apart.0)
call_taken (call ∷ calls) (suc at) d within apart =
    let inside : at < length calls = omega (arith, within) in
    let xid : ℕ = (get_or calls at d).ticket in
    let other : xid ≢ call.ticket = at_apart call.ticket calls at d apart.0 inside in
    ap (λ (rest : List AcceptedCall). call_view call ∷ rest) (call_taken calls at d inside apart.1)
    ∙ sym (ap (λ (b : Bool). cond (not b) (call_view call ∷ calls_without xid (map call_view calls)) (calls_without xid (map call_view calls))) (ne_eqb xid call.ticket other))

-- as the code has it
pub takes_call : (at : ℕ) (items slice left : List AwaitedCall) (call : AwaitedCall) → slice ≡ items → at < length slice → call ≡ get_or items at call → left ≡ remove items at → AreApart items →
    TakesCall (Some call.ticket) (map call_view items) (map call_view left)
takes_call at items slice left call same within value is apart =
    ap (λ (cs : List AwaitedCall). map call_view cs) is ∙ call_taken items at call (subst (λ (xs : List AwaitedCall). at < length xs) same within) apart
    ∙ ap (λ (c : AwaitedCall). calls_without c.ticket (map call_view items)) (sym value)
