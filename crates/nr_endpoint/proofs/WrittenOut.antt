-- Pieces of output, and what a sink took of them.
use Rattle.std.proofs.Common.{◌≡◌, ℕ, ◌+◌, ◌≤◌, true, false, List, [], ◌∷◌, ◌++◌, length, take, drop, Option, Result, Ok, Err, sym, ap, subst, ◌∙◌, arith, append_assoc}
use Rattle.std.specs.Prelude.{MatchResult, OnOk, is_err}
use Rattle.std.specs.List.{concat}
use Rattle.std.specs.Io.KnownBytes.{Appends}
use Rattle.std.proofs.KnownBytes.{Appends-trans}
use Rattle.std.proofs.Math.Seq.{take-append-add, drop-append-add}
use Rattle.std.proofs.lemmas.List.{append-nil, take_all, drop_all, take-append-le, drop-append-le}
use Rattle.std.proofs.lemmas.List.Folds.{concat-append}

-- one piece more
pub concat_more : (pieces : List (List ℕ)) (piece : List ℕ) → concat (pieces ++ piece ∷ []) ≡ concat pieces ++ piece
concat_more pieces piece = concat-append pieces (piece ∷ []) ∙ ap (λ (l : List ℕ). concat pieces ++ l) (append-nil piece)

pub piece_added : (new between old : List (List ℕ)) (piece : List ℕ) → new ≡ between ++ piece ∷ [] → between ≡ old → concat new ≡ concat old ++ piece
piece_added new between old piece e same = ap concat (e ∙ ap (λ (q : List (List ℕ)). q ++ piece ∷ []) same) ∙ concat_more old piece

pub run_added : (new between old : List (List ℕ)) (piece run : List ℕ) (n : ℕ) → new ≡ between ++ piece ∷ [] → between ≡ old → piece ≡ take n run → n ≡ length run → concat new ≡ concat old ++ run
run_added new between old piece run n e same is all =
    piece_added new between old piece e same ∙ ap (λ (l : List ℕ). concat old ++ l) (is ∙ take_all n run (omega (arith, all)))

-- what holds of a result that is no error
pub when_ok : {T E : Type 0} (r : Result T E) (A B : Type 0) → is_err r ≡ false → MatchResult r (λ _. A) (λ _. B) → A
when_ok (Ok _) A B e h = h
when_ok (Err _) A B e h = absurd (let wrong : true ≡ false = e in cc)

pub on_ok_then : {T E : Type 0} (r : Result T E) (A : Type 0) → is_err r ≡ false → OnOk r A → A
on_ok_then (Ok _) A e h = h
on_ok_then (Err _) A e h = absurd (let wrong : true ≡ false = e in cc)

-- the complete pieces, and then some bytes of the run, were written
pub both_left : (pieces run pieces_left run_left : List ℕ) (first n : ℕ) → first ≡ length pieces → pieces_left ≡ drop first pieces → run_left ≡ drop n run
    → pieces_left ++ run_left ≡ drop (first + n) (pieces ++ run)
both_left pieces run pieces_left run_left first n all p r =
    let none : pieces_left ≡ [] = p ∙ drop_all first pieces (omega (arith, all)) in
    (λ i. none i ++ r i)
    ∙ sym (ap (λ (k : ℕ). drop (k + n) (pieces ++ run)) all ∙ drop-append-add pieces run n)

pub both_taken : (pieces run : List ℕ) (first n : ℕ) (before between after : Option (List ℕ)) → first ≡ length pieces → Appends before between (take first pieces) → Appends between after (take n run)
    → Appends before after (take (first + n) (pieces ++ run))
both_taken pieces run first n before between after all p r =
    let begun : Appends before between pieces = subst (λ (l : List ℕ). Appends before between l) (take_all first pieces (omega (arith, all))) p in
    subst (λ (l : List ℕ). Appends before after l) (sym (ap (λ (k : ℕ). take (k + n) (pieces ++ run)) all ∙ take-append-add pieces run n)) (Appends-trans before between after pieces (take n run) begun r)

-- what was queued apart goes to the end
pub absorbed : (new old more writes send : List ℕ) → new ≡ old ++ more → more ≡ writes ++ send → new ≡ (old ++ writes) ++ send
absorbed new old more writes send e is = e ∙ ap (λ (l : List ℕ). old ++ l) is ∙ sym (append_assoc old writes send)

-- some bytes of the pieces alone
pub front_left : (pieces run pieces_left : List ℕ) (n : ℕ) → n ≤ length pieces → pieces_left ≡ drop n pieces → pieces_left ++ run ≡ drop n (pieces ++ run)
front_left pieces run pieces_left n le p = ap (λ (l : List ℕ). l ++ run) p ∙ sym (drop-append-le n pieces run le)

pub front_taken : (pieces run : List ℕ) (n : ℕ) (before after : Option (List ℕ)) → n ≤ length pieces → Appends before after (take n pieces) → Appends before after (take n (pieces ++ run))
front_taken pieces run n before after le p = subst (λ (l : List ℕ). Appends before after l) (sym (take-append-le n pieces run le)) p
