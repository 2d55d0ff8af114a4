-- Lists of calls and of records, one longer at the end.
use Rattle.std.proofs.Common.{◌≡◌, ℕ, suc, ◌+◌, List, [], ◌∷◌, ◌++◌, length, true, refl, sym, ap, ◌∙◌, append_assoc, append-nil}
use Rattle.std.specs.List.{AllByRecursion}
use Rattle.std.proofs.lemmas.List.{length-append}
use Rattle.nr_record.specs.Records.{Cut, content, contents, fragment}
use Rattle.nr_record.specs.RecordsState.{IsContentInLimit, IsInLimit}
use Rattle.nr_record_loop.specs.Connections.{Exchange, calls, written}

pub contents_end : (cuts : List Cut) (c : Cut) → contents (cuts ++ c ∷ []) ≡ contents cuts ++ content c ∷ []
contents_end [] c = refl
contents_end (d ∷ cuts) c = ap (λ (l : List (List ℕ)). content d ∷ l) (contents_end cuts c)

pub contents_both : (cuts more : List Cut) → contents (cuts ++ more) ≡ contents cuts ++ contents more
contents_both [] more = refl
contents_both (d ∷ cuts) more = ap (λ (l : List (List ℕ)). content d ∷ l) (contents_both cuts more)

pub calls_end : (xs : List Exchange) (x : Exchange) → calls (xs ++ x ∷ []) ≡ calls xs ++ x.call ∷ []
calls_end [] x = refl
calls_end (y ∷ xs) x = ap (λ (l : List (List ℕ)). y.call ∷ l) (calls_end xs x)

pub written_end : (xs : List Exchange) (x : Exchange) → written (xs ++ x ∷ []) ≡ written xs ++ fragment true x.reply
written_end [] x = append-nil (fragment true x.reply)
written_end (y ∷ xs) x = ap (λ (l : List ℕ). fragment true y.reply ++ l) (written_end xs x) ∙ sym (append_assoc (fragment true y.reply) (written xs) (fragment true x.reply))

pub length_end : {A : Type 0} (xs : List A) (x : A) → length (xs ++ x ∷ []) ≡ length xs + 1
length_end xs x = length-append xs (x ∷ [])

pub length_contents : (cuts : List Cut) → length (contents cuts) ≡ length cuts
length_contents [] = refl
length_contents (c ∷ cuts) = ap suc (length_contents cuts)

pub contents_within : (cuts : List Cut) → AllByRecursion IsContentInLimit cuts → AllByRecursion IsInLimit (contents cuts)
contents_within [] all = tt
contents_within (c ∷ cuts) all = (all.0, contents_within cuts all.1)

pub length_calls : (xs : List Exchange) → length (calls xs) ≡ length xs
length_calls [] = refl
length_calls (x ∷ xs) = ap suc (length_calls xs)

module _ {A : Type 0} (P : A → Type 0) where
  pub all_after : (xs ys : List A) → AllByRecursion P (xs ++ ys) → AllByRecursion P ys
  all_after [] ys all = all
  all_after (x ∷ xs) ys all = all_after xs ys all.1
