-- Numbers written one after the other.
use Rattle.std.proofs.Common.{◌≡◌, ℕ, ◌+◌, ◌<◌, List, [], ◌∷◌, ◌++◌, length, get_or, take, map, sym, ap, ◌∙◌, append_assoc}
use Rattle.std.proofs.lemmas.List.{append-nil, take_more}
use Rattle.nr_xdr.specs.Item.{word}
use Rattle.nr_xdr.specs.Item.Item.{Unsigned}
use Rattle.nr_xdr.specs.Items.{encodings}

numbers_push : (ns : List ℕ) (n : ℕ) → encodings (map Unsigned (ns ++ n ∷ [])) ≡ encodings (map Unsigned ns) ++ word n
numbers_push [] n = append-nil (word n)
numbers_push (m ∷ ns) n = ap (λ (b : List ℕ). word m ++ b) (numbers_push ns n) ∙ sym (append_assoc (word m) (encodings (map Unsigned ns)) (word n))

pub numbers_more : (ns : List ℕ) (i n : ℕ) (old now after : List ℕ) → i < length ns → n ≡ get_or ns i 0 → now ≡ old ++ encodings (map Unsigned (take i ns)) → after ≡ now ++ word n
    → after ≡ old ++ encodings (map Unsigned (take (i + 1) ns))
numbers_more ns i n old now after lt is so_far e =
    let step : encodings (map Unsigned (take (i + 1) ns)) ≡ encodings (map Unsigned (take i ns)) ++ word n =
    ap (λ (xs : List ℕ). encodings (map Unsigned xs)) (take_more ns i 0 lt) ∙ numbers_push (take i ns) (get_or ns i 0) ∙ ap (λ (k : ℕ). encodings (map Unsigned (take i ns)) ++ word k) (sym is) in
    e ∙ ap (λ (b : List ℕ). b ++ word n) so_far ∙ append_assoc old (encodings (map Unsigned (take i ns))) (word n) ∙ ap (λ (b : List ℕ). old ++ b) (sym step)
