-- A window over an input.
use Rattle.std.proofs.Common.{◌≡◌, ℕ, ◌+◌, ◌-◌, ◌<◌, ◌≤◌, ◌⊎◌, Bool, true, false, not, ◌&&◌, cond, nat_lt, List, [], ◌++◌, length, take, drop, Option, inl, inr, arith, refl, sym, ap, subst, ◌∙◌, append-nil, append_assoc}
use Rattle.std.specs.Io.KnownBytes.{IsAtEnd}
use Rattle.std.specs.List.{copy_within}
use Rattle.std.specs.Prelude.{nat_eq}
use Rattle.std.proofs.Math.Seq.{take-add}
use Rattle.std.proofs.lemmas.Bool.{cases_lt, eqb-true, lt-ltb}
use Rattle.std.proofs.lemmas.List.{drop-take, length-take}
use Rattle.nr_outside.specs.Content.{HandsOut}
use Rattle.nr_outside.proofs.Moves.{HandsOut_append, HandsOut_nil}
use Rattle.nr_regions.proofs.Parts.{window_moved}
use Rattle.nr_client.specs.private.InputWindows.{EndsAt, IsFull, MayFollow, TakesMore, WindowState}

-- the bytes after the first ones, moved to the front
pub front_moved : (count left : ℕ) (room : List ℕ) → count + left ≤ length room → take left (copy_within room count (count + left) 0) ≡ drop count (take (count + left) room)
front_moved count left room within = window_moved count left room within ∙ sym (drop-take count left room)

-- no byte was read
pub takes_none : (wanted : ℕ) (left given : Option (List ℕ)) (w : WindowState) → length w.kept ≤ wanted → TakesMore wanted left given left given w w
takes_none wanted left given w within =
    record {
      more = [];
      hands_out = HandsOut_nil left given;
      kept = sym (append-nil w.kept);
      within = within;
      follows = λ rest may. may;
      ends = λ ended. ended;
    }

-- this number of bytes was read after those at the front of a buffer, or the input has ended
pub takes_read : (wanted len n : ℕ) (left given left' given' : Option (List ℕ)) (room room' : List ℕ) (w : WindowState) → take len room ≡ w.kept → w.ended ≡ false
    → take len room' ≡ take len room → len + n ≤ wanted → HandsOut left given left' given' (take n (drop len room')) → (n ≡ 0 → IsAtEnd left')
    → TakesMore wanted left given left' given' w (record { kept = take (len + n) room'; ended = nat_eq n 0 })
takes_read wanted len n left given left' given' room room' w kept going front within hands at_end =
    record {
      more = take n (drop len room');
      hands_out = hands;
      kept = take-add len n room' ∙ ap (λ (l : List ℕ). l ++ take n (drop len room')) (front ∙ kept);
      within = omega (arith, within, length-take (len + n) room');
      follows = λ rest may. subst (λ (b : Bool). MayFollow b (take n (drop len room') ++ rest)) (sym going) tt;
      ends = λ ended. by (nat_eq n 0) refl;
    }
  where
    by : (b : Bool) → nat_eq n 0 ≡ b → EndsAt b left'
    by true is = at_end (eqb-true n 0 is)
    by false is = tt

-- more bytes, and then more
pub takes_then : (wanted : ℕ) (left given left' given' left'' given'' : Option (List ℕ)) (w v u : WindowState) → TakesMore wanted left given left' given' w v → TakesMore wanted left' given' left'' given'' v u
    → TakesMore wanted left given left'' given'' w u
takes_then wanted left given left' given' left'' given'' w v u first later =
    record {
      more = first.more ++ later.more;
      hands_out = HandsOut_append left given left' given' left'' given'' first.more later.more first.hands_out later.hands_out;
      kept = later.kept ∙ ap (λ (l : List ℕ). l ++ later.more) first.kept ∙ append_assoc w.kept first.more later.more;
      within = later.within;
      follows = λ rest may. subst (MayFollow w.ended) (sym (append_assoc first.more later.more rest)) (first.follows (later.more ++ rest) (later.follows rest may));
      ends = λ ended. later.ends (first.ends ended);
    }

-- no more is lacking
pub is_full : (wanted : ℕ) (w : WindowState) → length w.kept ≤ wanted → (not w.ended && nat_lt (length w.kept) wanted) ≡ false → IsFull wanted w
is_full wanted w within full = by w.ended (length w.kept) within full
  where
    below : (len : ℕ) → len ≤ wanted → nat_lt len wanted ≡ false → (len < wanted) ⊎ (wanted ≤ len) → len ≡ wanted
    below len fits not_less (inl less) = absurd (let more : nat_lt len wanted ≡ true = lt-ltb len wanted less in cc)
    below len fits not_less (inr above) = omega arith

    by : (ended : Bool) (len : ℕ) → len ≤ wanted → (not ended && nat_lt len wanted) ≡ false → (len ≡ wanted) ⊎ (ended ≡ true)
    by true len fits is = inr refl
    by false len fits is = inl (below len fits is (cases_lt len wanted))

-- what a loop that fills a window has still to do
abbrev pub left_to_read : ℕ → WindowState → ℕ
left_to_read wanted w = cond w.ended 0 (1 + (wanted - length w.kept))

-- one read does some of it
pub reads_some : (wanted : ℕ) (w v : WindowState) → (not w.ended && nat_lt (length w.kept) wanted) ≡ true → length v.kept ≤ wanted → (v.ended ≡ true) ⊎ (length w.kept < length v.kept)
    → left_to_read wanted v < left_to_read wanted w
reads_some wanted w v lacks within more = by w.ended v.ended (length w.kept) (length v.kept) lacks within more
  where
    by : (ended ended' : Bool) (len len' : ℕ) → (not ended && nat_lt len wanted) ≡ true → len' ≤ wanted → (ended' ≡ true) ⊎ (len < len') → cond ended' 0 (1 + (wanted - len')) < cond ended 0 (1 + (wanted - len))
    by true ended' len len' is fits some = absurd (cc)
    by false true len len' is fits some = omega arith
    by false false len len' is fits (inl wrong) = absurd (cc)
    by false false len len' is fits (inr greater) = omega arith
