-- What is kept stands when the stores grow.
use Rattle.std.proofs.Common.{◌≡◌, ℕ, zero, suc, ◌+◌, ◌≤◌, ◌<◌, arith, length-append, Bool, true, false, if◌then◌else◌, List, [], ◌∷◌, ◌++◌, length, get_or, refl, sym, ap, subst, ◌∙◌}
use Rattle.std.specs.Prelude.{Option, Some, None, Result, Ok, Err, OnOk, is_ok, sum_by}
use Rattle.std.proofs.lemmas.List.Sums.{sum_by-append, sum_by_push}
use Rattle.std.specs.Option.{option_to_list}
use Rattle.std.proofs.lemmas.List.{map-append, length-map}
use Rattle.nr_reduce.specs.declared.mark.Mark.{Mark}
use Rattle.nr_reduce.specs.declared.mark.Mark.TheVariants as marks
use Rattle.nr_reduce.specs.declared.call.Outcome.TheVariants as outcomes
use Rattle.nr_marks.specs.declared.kept.Kept.{Kept}
use Rattle.nr_marks.specs.declared.kept.Kept.TheVariants as kinds
use Rattle.nr_marks.specs.Views.{plain_submit, mark_len, marks_len}
use Rattle.nr_marks.specs.Pieces.{Grows, stored_len}
use Rattle.nr_marks.specs.KeptMarks.{mark_of, IsKept, Keeps, marks_of, AreKept, own_len, kept_len}
use Rattle.nr_marks.proofs.Growing.{within_grown, bytes_grown}

pub kept_grown : (old new : List (List ℕ)) (k : Kept) → Grows old new → IsKept old k → IsKept new k
kept_grown old new (kinds.Submit link call) grows h = within_grown old new call.args grows h
kept_grown old new (kinds.Wrote link side bytes) grows h = within_grown old new bytes grows h
kept_grown old new (kinds.Fed link side bytes) grows h = within_grown old new bytes grows h
kept_grown old new (kinds.Execute e) grows h = (within_grown old new e.payload grows h.0, within_grown old new e.reply grows h.1)
kept_grown old new (kinds.Done link xid reply) grows h = within_grown old new reply grows h
kept_grown old new (kinds.Other mark) grows h = h

pub mark_grown : (old new : List (List ℕ)) (k : Kept) → Grows old new → IsKept old k → mark_of new k ≡ mark_of old k
mark_grown old new (kinds.Submit link call) grows h = ap (plain_submit link call.prog call.vers call.proc call.xid) (bytes_grown old new call.args grows h)
mark_grown old new (kinds.Wrote link side bytes) grows h = ap (λ (xs : List ℕ). marks.Wrote link side xs) (bytes_grown old new bytes grows h)
mark_grown old new (kinds.Fed link side bytes) grows h = ap (λ (xs : List ℕ). marks.Fed link side xs) (bytes_grown old new bytes grows h)
mark_grown old new (kinds.Execute e) grows h = λ i. marks.Execute e.link e.xid e.moment (bytes_grown old new e.payload grows h.0 i) e.place (bytes_grown old new e.reply grows h.1 i)
mark_grown old new (kinds.Done link xid reply) grows h = ap (λ (xs : List ℕ). marks.Done link xid (outcomes.Reply xs)) (bytes_grown old new reply grows h)
mark_grown old new (kinds.Other mark) grows h = refl

pub keeps_grown : (old new : List (List ℕ)) (k : Kept) (mark : Mark) → Grows old new → Keeps old k mark → Keeps new k mark
keeps_grown old new k mark grows h = record { within = kept_grown old new k grows h.within; is = mark_grown old new k grows h.within ∙ h.is }

pub are_kept_grown : (old new : List (List ℕ)) (ks : List Kept) → Grows old new → AreKept old ks → AreKept new ks
are_kept_grown old new [] grows h = tt
are_kept_grown old new (k ∷ ks) grows h = (kept_grown old new k grows h.0, are_kept_grown old new ks grows h.1)

pub marks_grown : (old new : List (List ℕ)) (ks : List Kept) → Grows old new → AreKept old ks → marks_of new ks ≡ marks_of old ks
marks_grown old new [] grows h = refl
marks_grown old new (k ∷ ks) grows h = λ i. mark_grown old new k grows h.0 i ∷ marks_grown old new ks grows h.1 i

are_kept_more : (stores : List (List ℕ)) (ks : List Kept) (k : Kept) → AreKept stores ks → IsKept stores k → AreKept stores (ks ++ k ∷ [])
are_kept_more stores [] k h here = (here, tt)
are_kept_more stores (x ∷ ks) k h here = (h.0, are_kept_more stores ks k h.1 here)

-- a mark is added
pub added_kept : (added : Bool) (stores : List (List ℕ)) (old new : List Kept) (k : Kept) (mark : Mark) → AreKept stores old → Keeps stores k mark
    → new ≡ (if added then old ++ k ∷ [] else old) → AreKept stores new
added_kept true stores old new k mark h keeps is = subst (AreKept stores) (sym is) (are_kept_more stores old k h keeps.within)
added_kept false stores old new k mark h keeps is = subst (AreKept stores) (sym is) h

one_more : (stores : List (List ℕ)) (old new : List Kept) (k : Kept) (mark : Mark) → Keeps stores k mark → new ≡ old ++ k ∷ [] → marks_of stores new ≡ marks_of stores old ++ mark ∷ []
one_more stores old new k mark keeps is =
    ap (marks_of stores) is ∙ map-append (mark_of stores) old (k ∷ []) ∙ ap (λ (m : Mark). marks_of stores old ++ m ∷ []) keeps.is

pub kept_at : (stores : List (List ℕ)) (ks : List Kept) (i : ℕ) (d : Kept) → AreKept stores ks → i < length ks → IsKept stores (get_or ks i d)
kept_at stores [] i d h lt = absurd (omega (arith, lt))
kept_at stores (k ∷ ks) zero d h lt = h.0
kept_at stores (k ∷ ks) (suc i) d h lt = kept_at stores ks i d h.1 (omega (arith, lt))

pub mark_at : (stores : List (List ℕ)) (ks : List Kept) (i : ℕ) (d : Kept) (m : Mark) → i < length ks → get_or (marks_of stores ks) i m ≡ mark_of stores (get_or ks i d)
mark_at stores [] i d m lt = absurd (omega (arith, lt))
mark_at stores (k ∷ ks) zero d m lt = refl
mark_at stores (k ∷ ks) (suc i) d m lt = mark_at stores ks i d m (omega (arith, lt))

-- the mark at an index
pub at_kept : (stores : List (List ℕ)) (ks : List Kept) (now : List Mark) (i : ℕ) (k : Kept) → marks_of stores ks ≡ now → AreKept stores ks → i < length now → k ≡ get_or ks i k → IsKept stores k
at_kept stores ks now i k same h lt at =
    let len : length now ≡ length ks = ap (λ (ms : List Mark). length ms) (sym same) ∙ length-map ks (mark_of stores) in
    subst (IsKept stores) (sym at) (kept_at stores ks i k h (omega (arith, len, lt)))

pub at_mark : (stores : List (List ℕ)) (ks : List Kept) (now : List Mark) (i : ℕ) (k : Kept) (d : Mark) → marks_of stores ks ≡ now → i < length now → k ≡ get_or ks i k → mark_of stores k ≡ get_or now i d
at_mark stores ks now i k d same lt at =
    let len : length now ≡ length ks = ap (λ (ms : List Mark). length ms) (sym same) ∙ length-map ks (mark_of stores) in
    ap (mark_of stores) at ∙ sym (mark_at stores ks i k d (omega (arith, len, lt))) ∙ ap (λ (ms : List Mark). get_or ms i d) same

-- the mark that waited is added
pub settled : {E : Type 0} (r : Result (Unit {0}) E) (before stores : List (List ℕ)) (old new : List Kept) (k : Kept) (mark : Mark) (waiting : Option Mark)
    → waiting ≡ Some mark → Grows before stores → AreKept before old → Keeps stores k mark → new ≡ (if is_ok r then old ++ k ∷ [] else old)
    → OnOk r (marks_of stores new ≡ marks_of before old ++ option_to_list waiting)
settled (Ok x) before stores old new k mark waiting waits grows h keeps is =
    one_more stores old new k mark keeps is ∙ (λ i. marks_grown before stores old grows h i ++ option_to_list (sym waits i))
settled (Err e) before stores old new k mark waiting waits grows h keeps is = tt

-- and one more after it
pub added_both : {E : Type 0} (r : Result (Unit {0}) E) (stores later : List (List ℕ)) (before : List Mark) (between new : List Kept) (k : Kept) (mark : Mark)
    → marks_of later between ≡ before → Grows stores later → Keeps stores k mark → new ≡ (if is_ok r then between ++ k ∷ [] else between)
    → OnOk r (marks_of later new ≡ before ++ mark ∷ [])
added_both (Ok x) stores later before between new k mark same grows keeps is =
    one_more later between new k mark (keeps_grown stores later k mark grows keeps) is ∙ ap (λ (ms : List Mark). ms ++ mark ∷ []) same
added_both (Err e) stores later before between new k mark same grows keeps is = tt

-- at most one mark waits
at_most_one : (waiting : Option Mark) → length (option_to_list waiting) ≤ 1
at_most_one None = omega arith
at_most_one (Some mark) = omega arith

pub count_of : (stores : List (List ℕ)) (ks : List Kept) (waiting : Option Mark) (now : List Mark) → marks_of stores ks ++ option_to_list waiting ≡ now → length now ≤ length ks + 1
count_of stores ks waiting now same =
    let len : length now ≡ length (marks_of stores ks) + length (option_to_list waiting) = ap (λ (ms : List Mark). length ms) (sym same) ∙ length-append (marks_of stores ks) (option_to_list waiting) in
    let kept : length (marks_of stores ks) ≡ length ks = length-map ks (mark_of stores) in
    let few : length (option_to_list waiting) ≤ 1 = at_most_one waiting in
    omega (arith, len, kept, few)

-- ===== how many bytes are kept

-- a mark is added after the stores grew by no more than it has
pub one_fits : (before stores : List (List ℕ)) (old new : List Kept) (k : Kept) (len : ℕ) → stored_len stores + own_len k ≤ stored_len before + len → new ≡ old ++ k ∷ [] →
    kept_len stores new ≤ kept_len before old + len
one_fits before stores old new k len few is =
    let own : sum_by own_len new ≡ sum_by own_len old + own_len k = ap (sum_by own_len) is ∙ sum_by_push own_len old k in
    omega (arith, few, own)

pub settled_fits : {E : Type 0} (r : Result (Unit {0}) E) (before stores : List (List ℕ)) (old new : List Kept) (k : Kept) (mark : Mark) (waiting : Option Mark)
    → waiting ≡ Some mark → stored_len stores + own_len k ≤ stored_len before + mark_len mark → new ≡ (if is_ok r then old ++ k ∷ [] else old)
    → OnOk r (kept_len stores new ≤ kept_len before old + marks_len (option_to_list waiting))
settled_fits (Ok x) before stores old new k mark waiting waits few is =
    let one : marks_len (option_to_list waiting) ≡ 0 + mark_len mark = ap (λ (o : Option Mark). marks_len (option_to_list o)) waits in
    let all : kept_len stores new ≤ kept_len before old + mark_len mark = one_fits before stores old new k (mark_len mark) few is in
    omega (arith, one, all)
settled_fits (Err e) before stores old new k mark waiting waits few is = tt

-- and one more after it, for which the stores grew first
pub both_fit : {E : Type 0} (r : Result (Unit {0}) E) (before stores later : List (List ℕ)) (old between new : List Kept) (k : Kept) (mark : Mark) (waiting : ℕ)
    → stored_len stores + own_len k ≤ stored_len before + mark_len mark → kept_len later between ≤ kept_len stores old + waiting → new ≡ (if is_ok r then between ++ k ∷ [] else between)
    → OnOk r (kept_len later new ≤ (kept_len before old + waiting) + mark_len mark)
both_fit (Ok x) before stores later old between new k mark waiting few settled is =
    let own : sum_by own_len new ≡ sum_by own_len between + own_len k = ap (sum_by own_len) is ∙ sum_by_push own_len between k in
    omega (arith, few, settled, own)
both_fit (Err e) before stores later old between new k mark waiting few settled is = tt

-- the marks have more than is kept, if what is added fits
pub log_fits : (before stores : List (List ℕ)) (old new : List Kept) (more : List Mark) → kept_len before old ≤ marks_len (marks_of before old) → kept_len stores new ≤ kept_len before old + marks_len more →
    marks_of stores new ≡ marks_of before old ++ more → kept_len stores new ≤ marks_len (marks_of stores new)
log_fits before stores old new more fits added is =
    let all : marks_len (marks_of stores new) ≡ marks_len (marks_of before old) + marks_len more = ap marks_len is ∙ sum_by-append mark_len (marks_of before old) more in
    omega (arith, fits, added, all)

pub log_fits_both : (before stores : List (List ℕ)) (old new : List Kept) (waiting : List Mark) (mark : Mark) → kept_len before old ≤ marks_len (marks_of before old) →
    kept_len stores new ≤ (kept_len before old + marks_len waiting) + mark_len mark → marks_of stores new ≡ (marks_of before old ++ waiting) ++ mark ∷ [] → kept_len stores new ≤ marks_len (marks_of stores new)
log_fits_both before stores old new waiting mark fits added is =
    let first : marks_len (marks_of before old ++ waiting) ≡ marks_len (marks_of before old) + marks_len waiting = sum_by-append mark_len (marks_of before old) waiting in
    let all : marks_len (marks_of stores new) ≡ marks_len (marks_of before old ++ waiting) + mark_len mark = ap marks_len is ∙ sum_by_push mark_len (marks_of before old ++ waiting) mark in
    omega (arith, fits, added, first, all)

-- what a log holds
pub held_fits : (stores : List (List ℕ)) (ks : List Kept) (waiting : Option Mark) (now : List Mark) → marks_of stores ks ++ option_to_list waiting ≡ now → kept_len stores ks ≤ marks_len (marks_of stores ks) →
    kept_len stores ks + marks_len (option_to_list waiting) ≤ marks_len now
held_fits stores ks waiting now same fits =
    let all : marks_len now ≡ marks_len (marks_of stores ks) + marks_len (option_to_list waiting) = ap marks_len (sym same) ∙ sum_by-append mark_len (marks_of stores ks) (option_to_list waiting) in
    omega (arith, fits, all)

pub entries_are_few : (stores : List (List ℕ)) (ks : List Kept) (waiting : Option Mark) (now : List Mark) → marks_of stores ks ++ option_to_list waiting ≡ now → length ks ≤ length now
entries_are_few stores ks waiting now same =
    let len : length now ≡ length (marks_of stores ks) + length (option_to_list waiting) = ap (λ (ms : List Mark). length ms) (sym same) ∙ length-append (marks_of stores ks) (option_to_list waiting) in
    let kept : length (marks_of stores ks) ≡ length ks = length-map ks (mark_of stores) in
    omega (arith, len, kept)
