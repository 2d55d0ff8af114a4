-- Bytes of a reply that are written one part after another.
use Rattle.std.proofs.Common.{◌≡◌, ℕ, List, [], ◌∷◌, ◌++◌, length, replicate, Result, Ok, Err, IfOk, ap, sym, ◌∙◌, append_assoc, append-nil}
use Rattle.nr_xdr.specs.Item.{Item, word, pad_len}
use Rattle.nr_xdr.specs.Item.Item.{Opaque}
use Rattle.nr_xdr.specs.Items.{encodings}
use Rattle.nr_xdr.specs.Room.{Room, Appended}
use Rattle.nr_xdr.specs.declared.fault.Memory.{Memory}
use Rattle.nr_xdr.proofs.Rooms.{encodings_append}

after_items : (old mid : Room) (xs ys : List Item) (reply : List ℕ) → Appended old mid (encodings xs) → reply ≡ mid.bytes ++ encodings ys → reply ≡ old.bytes ++ encodings (xs ++ ys)
after_items old mid xs ys reply first is =
    is ∙ ap (λ (b : List ℕ). b ++ encodings ys) first.is ∙ append_assoc old.bytes (encodings xs) (encodings ys) ∙ ap (λ (b : List ℕ). old.bytes ++ b) (sym (encodings_append xs ys))

-- items, and those that a call wrote after them, if it did
pub items_then : (old mid : Room) (xs ys : List Item) (r : Result (List ℕ) Memory) → Appended old mid (encodings xs) → IfOk r (λ o. o ≡ mid.bytes ++ encodings ys) → IfOk r (λ o. o ≡ old.bytes ++ encodings (xs ++ ys))
items_then old mid xs ys (Ok reply) first is = after_items old mid xs ys reply first is
items_then old mid xs ys (Err e) first is = tt

pub items_last : (old mid new : Room) (xs ys : List Item) (reply : List ℕ) → Appended old mid (encodings xs) → Appended mid new (encodings ys) → reply ≡ new.bytes → reply ≡ old.bytes ++ encodings (xs ++ ys)
items_last old mid new xs ys reply first second is = after_items old mid xs ys reply first (is ∙ second.is)

shape : (w x d p : List ℕ) → ((w ++ x) ++ d) ++ p ≡ w ++ ((x ++ (d ++ p)) ++ [])
shape w x d p = append_assoc (w ++ x) d p ∙ append_assoc w x (d ++ p) ∙ ap (λ (l : List ℕ). w ++ l) (sym (append-nil (x ++ (d ++ p))))

-- a length, the data and their pad are opaque data
pub data_written : (w b0 b1 b2 given : List ℕ) (n : ℕ) → n ≡ length given → b0 ≡ w ++ word n → b1 ≡ b0 ++ given → b2 ≡ b1 ++ replicate (pad_len n) 0 → b2 ≡ w ++ encodings (Opaque given ∷ [])
data_written w b0 b1 b2 given n long first second third =
    third ∙ ap (λ (l : List ℕ). l ++ replicate (pad_len n) 0) (second ∙ ap (λ (l : List ℕ). l ++ given) first)
    ∙ ap (λ (m : ℕ). ((w ++ word m) ++ given) ++ replicate (pad_len m) 0) long
    ∙ shape w (word (length given)) given (replicate (pad_len (length given)) 0)
