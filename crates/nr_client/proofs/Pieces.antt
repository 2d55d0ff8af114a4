-- How a path is cut from its front.
use Rattle.std.proofs.Common.{◌≡◌, ◌≢◌, ℕ, suc, ◌+◌, ◌-◌, ◌<◌, ◌≤◌, ◌==◌, Bool, true, false, ltb, if◌then◌else◌, List, [], ◌∷◌, ◌++◌, length, take, drop, get_or, Result, Ok, Err, arith, refl, sym, ap, ◌∙◌, append-nil, append_assoc, le-ltb, lt-ltb, ne_eqb}
use Rattle.std.proofs.lemmas.List.{drop-drop, drop_all, drop_more, length-take-le}
use Rattle.nr_client.specs.declared.client_end.ClientEnd.{ClientEnd}
use Rattle.nr_client.specs.declared.client_end.ClientEnd.TheVariants as client
use Rattle.nr_client.specs.Paths.{component_max, names_in, onto_first, path_names, pieces_of, slash, with_name, with_offsets}
use Rattle.nr_client.specs.private.Pieces.{after_names, piece_length}

-- the pieces after the first
abbrev later_pieces : List ℕ → List (List ℕ)
later_pieces [] = []
later_pieces (byte ∷ bytes) = if byte == slash then pieces_of bytes else later_pieces bytes

cut : (bytes : List ℕ) → pieces_of bytes ≡ take (piece_length bytes) bytes ∷ later_pieces bytes
cut [] = refl
cut (byte ∷ bytes) = by (byte == slash) (cut bytes)
  where
    by : (is_slash : Bool) → pieces_of bytes ≡ take (piece_length bytes) bytes ∷ later_pieces bytes
        → (if is_slash then [] ∷ pieces_of bytes else onto_first byte (pieces_of bytes))
        ≡ take (if is_slash then 0 else suc (piece_length bytes)) (byte ∷ bytes) ∷ (if is_slash then pieces_of bytes else later_pieces bytes)
    by true rest = refl
    by false rest = ap (λ (pieces : List (List ℕ)). onto_first byte pieces) rest

later_from : (at : ℕ) (bytes : List ℕ) → with_offsets at (later_pieces bytes) ≡ with_offsets at (pieces_of (drop (suc (piece_length bytes)) bytes))
later_from at [] = refl
later_from at (byte ∷ bytes) = by (byte == slash) (later_from at bytes)
  where
    by : (is_slash : Bool) → with_offsets at (later_pieces bytes) ≡ with_offsets at (pieces_of (drop (suc (piece_length bytes)) bytes))
        → with_offsets at (if is_slash then pieces_of bytes else later_pieces bytes)
        ≡ with_offsets at (pieces_of (drop (suc (if is_slash then 0 else suc (piece_length bytes))) (byte ∷ bytes)))
    by true rest = refl
    by false rest = rest

-- the names of what is left of a path, which begins at this offset
abbrev pub names_from : ℕ → List ℕ → Result (List (List ℕ)) ClientEnd
names_from at bytes = names_in (with_offsets at (pieces_of bytes))

-- a piece at this offset before the names of what comes after it
abbrev with_piece : ℕ → List ℕ → Result (List (List ℕ)) ClientEnd → Result (List (List ℕ)) ClientEnd
with_piece at [] rest = rest
with_piece at (byte ∷ piece) rest = if ltb component_max (suc (length piece)) then Err (client.BadPath at) else with_name (byte ∷ piece) rest

first_piece : (at : ℕ) (piece : List ℕ) (pieces : List (List ℕ)) → names_in (with_offsets at (piece ∷ pieces)) ≡ with_piece at piece (names_in (with_offsets (suc (at + length piece)) pieces))
first_piece at [] pieces = let same : suc at ≡ suc (at + 0) = omega arith in ap (λ (n : ℕ). names_in (with_offsets n pieces)) same
first_piece at (byte ∷ piece) pieces = refl

piece_within : (bytes : List ℕ) → piece_length bytes ≤ length bytes
piece_within [] = omega arith
piece_within (byte ∷ bytes) = by (byte == slash) (piece_within bytes)
  where
    by : (is_slash : Bool) → piece_length bytes ≤ length bytes → (if is_slash then 0 else suc (piece_length bytes)) ≤ suc (length bytes)
    by true rest = omega arith
    by false rest = omega (arith, rest)

-- the names from an offset, by the piece that begins there
by_piece : (at : ℕ) (bytes : List ℕ) → names_from at bytes ≡ with_piece at (take (piece_length bytes) bytes) (names_from (suc (at + length (take (piece_length bytes) bytes))) (drop (suc (piece_length bytes)) bytes))
by_piece at bytes =
    ap (λ (pieces : List (List ℕ)). names_in (with_offsets at pieces)) (cut bytes)
    ∙ first_piece at (take (piece_length bytes) bytes) (later_pieces bytes)
    ∙ ap (λ (cs : List (ℕ × List ℕ)). with_piece at (take (piece_length bytes) bytes) (names_in cs)) (later_from (suc (at + length (take (piece_length bytes) bytes))) bytes)

-- ---- The loop over a path

-- With the names so far, and those from this offset on, it is as with the names of the path.
abbrev pub Pushed : (old : List (List ℕ)) → List ℕ → (names : List (List ℕ)) → ℕ → Type 0
Pushed old path names at = after_names names (names_from at (drop at path)) ≡ after_names old (path_names path)

after_name : (names : List (List ℕ)) (name : List ℕ) (rest : Result (List (List ℕ)) ClientEnd) → after_names names (with_name name rest) ≡ after_names (names ++ name ∷ []) rest
after_name names name (Ok others) = ap (λ (all : List (List ℕ)). Ok all) (sym (append_assoc names (name ∷ []) others))
after_name names name (Err end) = refl

module _ (path : List ℕ) (at end : ℕ) (is : end ≡ at + piece_length (drop at path)) (inside : end ≤ length path) where
  abbrev n : ℕ
  n = piece_length (drop at path)

  len : length (take n (drop at path)) ≡ n
  len = length-take-le n (drop at path) (piece_within (drop at path))

  next_from : names_from (suc (at + length (take n (drop at path)))) (drop (suc n) (drop at path)) ≡ names_from (end + 1) (drop (end + 1) path)
  next_from =
      let offset : suc (at + length (take n (drop at path))) ≡ end + 1 = omega (arith, len, is) in
      let place : at + suc n ≡ end + 1 = omega (arith, is) in
      ap (λ (k : ℕ). names_from k (drop (suc n) (drop at path))) offset ∙ ap (λ (bytes : List ℕ). names_from (end + 1) bytes) (drop-drop (suc n) at path ∙ ap (λ (k : ℕ). drop k path) place)

  at_piece : names_from at (drop at path) ≡ with_piece at (take n (drop at path)) (names_from (end + 1) (drop (end + 1) path))
  at_piece = by_piece at (drop at path) ∙ ap (λ (rest : Result (List (List ℕ)) ClientEnd). with_piece at (take n (drop at path)) rest) next_from

  pub empty_piece : (old names : List (List ℕ)) → end ≤ at → Pushed old path names at → Pushed old path names (end + 1)
  empty_piece old names none so_far =
      let zero_len : n ≡ 0 = omega (arith, none, is) in
      let nothing : take n (drop at path) ≡ [] = ap (λ (k : ℕ). take k (drop at path)) zero_len in
      ap (λ (rest : Result (List (List ℕ)) ClientEnd). after_names names rest)
      (sym (at_piece ∙ ap (λ (piece : List ℕ). with_piece at piece (names_from (end + 1) (drop (end + 1) path))) nothing))
      ∙ so_far

  of_piece : (piece : List ℕ) (rest : Result (List (List ℕ)) ClientEnd) → 0 < length piece → with_piece at piece rest ≡ (if ltb component_max (length piece) then Err (client.BadPath at) else with_name piece rest)
  of_piece [] rest some = absurd (omega (arith, some))
  of_piece (byte ∷ piece) rest some = refl

  pub too_long : (old names : List (List ℕ)) → at < end → component_max < end - at → Pushed old path names at → after_names old (path_names path) ≡ Err (client.BadPath at)
  too_long old names some long so_far =
      let more : 0 < length (take n (drop at path)) = omega (arith, len, is, some) in
      let above : ltb component_max (length (take n (drop at path))) ≡ true = lt-ltb component_max (length (take n (drop at path))) (omega (arith, len, is, long)) in
      sym so_far
      ∙ ap (λ (rest : Result (List (List ℕ)) ClientEnd). after_names names rest)
      (at_piece ∙ of_piece (take n (drop at path)) (names_from (end + 1) (drop (end + 1) path)) more
      ∙ ap (λ (b : Bool). if b then Err (client.BadPath at) else with_name (take n (drop at path)) (names_from (end + 1) (drop (end + 1) path))) above)

  pub name_pushed : (old names : List (List ℕ)) → at < end → end - at ≤ component_max → Pushed old path names at → Pushed old path (names ++ take (end - at) (drop at path) ∷ []) (end + 1)
  name_pushed old names some short so_far =
      let more : 0 < length (take n (drop at path)) = omega (arith, len, is, some) in
      let below : ltb component_max (length (take n (drop at path))) ≡ false = le-ltb component_max (length (take n (drop at path))) (omega (arith, len, is, short)) in
      let size : end - at ≡ n = omega (arith, is) in
      ap (λ (k : ℕ). after_names (names ++ take k (drop at path) ∷ []) (names_from (end + 1) (drop (end + 1) path))) size
      ∙ sym (after_name names (take n (drop at path)) (names_from (end + 1) (drop (end + 1) path)))
      ∙ ap (λ (rest : Result (List (List ℕ)) ClientEnd). after_names names rest)
      (sym (at_piece ∙ of_piece (take n (drop at path)) (names_from (end + 1) (drop (end + 1) path)) more
      ∙ ap (λ (b : Bool). if b then Err (client.BadPath at) else with_name (take n (drop at path)) (names_from (end + 1) (drop (end + 1) path))) below))
      ∙ so_far

pub all_pushed : (old : List (List ℕ)) (path : List ℕ) (names : List (List ℕ)) (at : ℕ) → length path ≤ at → Pushed old path names at → after_names old (path_names path) ≡ Ok names
all_pushed old path names at over so_far =
    sym so_far
    ∙ ap (λ (bytes : List ℕ). after_names names (names_from at bytes)) (drop_all at path over)
    ∙ ap (λ (all : List (List ℕ)). Ok all) (append-nil names)

pub none_before : (result : Result (List (List ℕ)) ClientEnd) → after_names [] result ≡ result
none_before (Ok names) = refl
none_before (Err end) = refl

-- ---- The loop over a piece

pub piece_goes_on : (path : List ℕ) (at : ℕ) → at < length path → get_or path at 0 ≢ slash → piece_length (drop at path) ≡ suc (piece_length (drop (at + 1) path))
piece_goes_on path at inside other =
    ap (λ (bytes : List ℕ). piece_length bytes) (drop_more path at 0 inside)
    ∙ ap (λ (b : Bool). if b then 0 else suc (piece_length (drop (at + 1) path))) (ne_eqb (get_or path at 0) slash other)

pub piece_ends_at_slash : (path : List ℕ) (at : ℕ) → at < length path → get_or path at 0 ≡ slash → piece_length (drop at path) ≡ 0
piece_ends_at_slash path at inside same =
    ap (λ (bytes : List ℕ). piece_length bytes) (drop_more path at 0 inside)
    ∙ ap (λ (byte : ℕ). if byte == slash then 0 else suc (piece_length (drop (at + 1) path))) same

pub piece_ends_at_end : (path : List ℕ) (at : ℕ) → length path ≤ at → piece_length (drop at path) ≡ 0
piece_ends_at_end path at over = ap (λ (bytes : List ℕ). piece_length bytes) (drop_all at path over)
