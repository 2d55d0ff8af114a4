-- A payload that is completed in the buffer in which the bytes of its item stand.
use Rattle.std.proofs.Common.{◌≡◌, ℕ, ◌+◌, ◌≤◌, Bool, true, false, cond, not, eqb, ◌||◌, List, ◌++◌, length, take, drop, replicate, Option, Some, None, Ok, Err, refl, sym, ap, ◌∙◌, arith, take-take, length-take, length-drop}
use Rattle.std.proofs.lemmas.Bool.{eq-eqb, eqb-true}
use Rattle.nr_xdr.specs.Item.{pad_len}
use Rattle.nr_reduce.specs.declared.fault.Mismatch.TheVariants as mismatches
use Rattle.nr_reduce.specs.declared.item.Item.{Item}
use Rattle.nr_reduce.specs.declared.item.Of.{Of}
use Rattle.nr_reduce.specs.declared.item.Of.TheVariants.{Call, Reply}
use Rattle.nr_reduce.specs.Chunks.{has_moved_length, whole_by}
use Rattle.nr_reduce.specs.Cuts.{joined_by, rebuilt_of}
use Rattle.nr_reduce.specs.Items.{item_of, restored_payload}

-- the bytes that were placed, of which the item's are the first
first_placed : (i : Item) (stream xs : List ℕ) (moved : ℕ) → i.len ≤ moved → restored_payload i stream (take moved xs) ≡ restored_payload i stream xs
unfolding restored_payload
first_placed i stream xs moved le = ap (λ (ys : List ℕ). take i.pos stream ++ (ys ++ (replicate (pad_len i.len) 0 ++ drop i.pos stream))) (take-take i.len moved xs le)

len_by : (n len pad : ℕ) (b d : Bool) → eqb n len ≡ b → eqb n (len + pad) ≡ d → (b || d) ≡ true → len ≤ n
len_by n len pad true d e f g = (let s = eqb-true n len e in omega (arith, s))
len_by n len pad false true e f g = (let s = eqb-true n (len + pad) f in omega (arith, s))
len_by n len pad false false e f g = absurd cc

len_within : (of : Of) (i : Item) (m : List ℕ) → has_moved_length of i m ≡ true → i.len ≤ length m
len_within Call i m e = len_by (length m) i.len (pad_len i.len) (eqb (length m) i.len) (eqb (length m) (i.len + pad_len i.len)) refl refl e
len_within (Reply prog vers proc) i m e = (let s = eqb-true (length m) i.len e in omega (arith, s))

-- what stands for the complete payload
record InPlace (of : Of) (i : Item) (stream room bytes : List ℕ) (pos moved : ℕ) : Type 0 where
  item : item_of of stream ≡ Some i
  position : i.pos ≡ pos
  placed : pos + moved ≤ length room
  fits : has_moved_length of i (take moved (drop pos room)) ≡ true
  done : bytes ≡ restored_payload i stream (drop i.pos room)

bytes_are : (of : Of) (i : Item) (stream room bytes : List ℕ) (pos moved : ℕ) → InPlace of i stream room bytes pos moved → restored_payload i stream (take moved (drop pos room)) ≡ bytes
bytes_are of i stream room bytes pos moved h =
    let within = len_within of i (take moved (drop pos room)) h.fits in
    let a = length-take moved (drop pos room) in
    let b = length-drop pos room in
    let le : i.len ≤ moved = omega (arith, within, a, b) in
    first_placed i stream (drop pos room) moved le ∙ ap (λ (n : ℕ). restored_payload i stream (drop n room)) (sym h.position) ∙ sym h.done

rebuilt_by : (of : Of) (i : Item) (stream room bytes : List ℕ) (pos moved : ℕ) → InPlace of i stream room bytes pos moved → rebuilt_of of stream pos (take moved (drop pos room)) ≡ Ok bytes
unfolding rebuilt_of
rebuilt_by of i stream room bytes pos moved h =
    let m : List ℕ = take moved (drop pos room) in
    ap (λ (o : Option Item). joined_by of stream pos m o) h.item
    ∙ (λ k. cond (not (eq-eqb i.pos pos h.position k)) (Err mismatches.Position) (cond (not (h.fits k)) (Err mismatches.Length) (Ok (bytes_are of i stream room bytes pos moved h k))))

pub rebuilt_there : (of : Of) (i : Item) (stream room bytes : List ℕ) (pos moved : ℕ) → item_of of stream ≡ Some i → i.pos ≡ pos → pos + moved ≤ length room
    → has_moved_length of i (take moved (drop pos room)) ≡ true → bytes ≡ restored_payload i stream (drop i.pos room) → rebuilt_of of stream pos (take moved (drop pos room)) ≡ Ok bytes
rebuilt_there of i stream room bytes pos moved item position placed fits done =
    rebuilt_by of i stream room bytes pos moved (record { item = item; position = position; placed = placed; fits = fits; done = done })

pub whole_there : (of : Of) (i : Item) (stream room bytes : List ℕ) (pos moved : ℕ) → item_of of stream ≡ Some i → i.pos ≡ pos → pos + moved ≤ length room
    → has_moved_length of i (take moved (drop pos room)) ≡ true → bytes ≡ restored_payload i stream (drop i.pos room)
    → whole_by of stream (take moved (drop pos room)) (item_of of stream) ≡ Some bytes
whole_there of i stream room bytes pos moved item position placed fits done =
    let m : List ℕ = take moved (drop pos room) in
    let h : InPlace of i stream room bytes pos moved = record { item = item; position = position; placed = placed; fits = fits; done = done } in
    ap (λ (o : Option Item). whole_by of stream m o) item ∙ (λ k. cond (fits k) (Some (bytes_are of i stream room bytes pos moved h k)) None)
