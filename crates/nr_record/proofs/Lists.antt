-- Lists of fragments and of records, one longer at the end.
use Rattle.std.proofs.Common.{◌≡◌, ℕ, zero, suc, ◌+◌, ◌≤◌, List, [], ◌∷◌, ◌++◌, length, drop, false, refl, sym, ap, ◌∙◌, append_assoc, append-nil, length-append, arith}
use Rattle.std.specs.List.{concat, AllByRecursion}
use Rattle.nr_record.specs.declared.records.WaitingRecord.{WaitingRecord}
use Rattle.nr_record.specs.Records.{fragment, fragments, Cut, content, encoding, encodings}
use Rattle.nr_record.specs.RecordsState.{waiting_from}

pub encodings_end : (cuts : List Cut) (c : Cut) → encodings (cuts ++ c ∷ []) ≡ encodings cuts ++ encoding c
encodings_end [] c = append-nil (encoding c)
encodings_end (d ∷ cuts) c = ap (λ (l : List ℕ). encoding d ++ l) (encodings_end cuts c) ∙ sym (append_assoc (encoding d) (encodings cuts) (encoding c))

pub fragments_end : (begun : List (List ℕ)) (bytes : List ℕ) → fragments (begun ++ bytes ∷ []) ≡ fragments begun ++ fragment false bytes
fragments_end [] bytes = append-nil (fragment false bytes)
fragments_end (x ∷ xs) bytes = ap (λ (l : List ℕ). fragment false x ++ l) (fragments_end xs bytes) ∙ sym (append_assoc (fragment false x) (fragments xs) (fragment false bytes))

pub concat_end : (xs : List (List ℕ)) (bytes : List ℕ) → concat (xs ++ bytes ∷ []) ≡ concat xs ++ bytes
concat_end [] bytes = append-nil bytes
concat_end (x ∷ xs) bytes = ap (λ (l : List ℕ). x ++ l) (concat_end xs bytes) ∙ sym (append_assoc x (concat xs) bytes)

pub waiting_end : (at : ℕ) (cuts : List Cut) (c : Cut) → waiting_from at (cuts ++ c ∷ []) ≡ waiting_from at cuts ++ record { at = at + length (encodings cuts); bytes = content c } ∷ []
waiting_end at [] c = let e : at ≡ at + 0 = omega arith in ap (λ (n : ℕ). record { at = n; bytes = content c } ∷ []) e
waiting_end at (d ∷ cuts) c =
    let e : (at + length (encoding d)) + length (encodings cuts) ≡ at + length (encoding d ++ encodings cuts) = omega (arith, length-append (encoding d) (encodings cuts)) in
    let first : WaitingRecord = record { at = at; bytes = content d } in
    let others : List WaitingRecord = waiting_from (at + length (encoding d)) cuts in
    ap (λ (l : List WaitingRecord). first ∷ l) (waiting_end (at + length (encoding d)) cuts c) ∙ ap (λ (n : ℕ). first ∷ (others ++ record { at = n; bytes = content c } ∷ [])) e

pub waiting_length : (at : ℕ) (cuts : List Cut) → length (waiting_from at cuts) ≡ length cuts
waiting_length at [] = refl
waiting_length at (c ∷ cuts) = ap suc (waiting_length (at + length (encoding c)) cuts)

module _ {A : Type 0} where
  pub drop_end : (n : ℕ) (xs : List A) (x : A) → n ≤ length xs → drop n (xs ++ x ∷ []) ≡ drop n xs ++ x ∷ []
  drop_end zero xs x le = refl
  drop_end (suc n) [] x le = absurd (omega arith)
  drop_end (suc n) (y ∷ ys) x le = drop_end n ys x (omega arith)

  pub all_end : (P : A → Type 0) (xs : List A) (x : A) → AllByRecursion P xs → P x → AllByRecursion P (xs ++ x ∷ [])
  all_end P [] x all is = (is, tt)
  all_end P (y ∷ ys) x all is = (all.0, all_end P ys x all.1 is)

  -- bytes that are read go to the part that is begun
  pub read_more : (e f p more stream : List A) → stream ≡ e ++ (f ++ p) → stream ++ more ≡ (e ++ (f ++ (p ++ more))) ++ []
  read_more e f p more stream is =
      ap (λ (l : List A). l ++ more) is ∙ ((append_assoc e (f ++ p) more ∙ ap (λ (l : List A). e ++ l) (append_assoc f p more)) ∙ sym (append-nil (e ++ (f ++ (p ++ more)))))

  pub count_more : (e f p more : List A) (n : ℕ) → n ≡ length (e ++ (f ++ p)) → n + length more ≡ length (e ++ (f ++ (p ++ more)))
  count_more e f p more n is =
      omega (arith, is, length-append e (f ++ p), length-append f p, length-append e (f ++ (p ++ more)), length-append f (p ++ more), length-append p more)
