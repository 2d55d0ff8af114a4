-- The offset of a reader, and what it takes there.
use Rattle.std.specs.Prelude.{◌≡◌, ℕ, ◌+◌, Bool, true, false, List, ◌++◌, length, take, drop, Result, Ok, Err, nat_lt, ◌==◌, if◌then◌else◌}
use Rattle.nr_xdr.specs.declared.fault.ItemFault.{ItemFault}
use Rattle.nr_xdr.specs.declared.fault.ItemFault.TheVariants.{Short, Long, BadBool}
use Rattle.nr_xdr.specs.Item.{Item, Reads, word_of, hyper_of, pad_len}

-- the offset of the next item, and the bytes from there on
pub record Cursor : Type 0 where
  pub place : ℕ
  pub rest : List ℕ

-- from old to new the reader took this item
pub record Takes (old new : Cursor) (item : Item) : Type 0 where
  pub bytes : List ℕ
  pub reads : Reads item bytes
  pub rest : old.rest ≡ bytes ++ new.rest
  pub place : new.place ≡ old.place + length bytes

-- the cursor n bytes further on
unfoldable pub cursor_past : ℕ → Cursor → Cursor
cursor_past n c = record { place = c.place + n; rest = drop n c.rest }

-- What is read at a cursor, with the cursor after it, or why nothing is read.
unfoldable pub unsigned_at : Cursor → Result (ℕ × Cursor) ItemFault
unsigned_at c = if nat_lt (length c.rest) 4 then Err (Short c.place) else Ok (word_of (take 4 c.rest), cursor_past 4 c)

unfoldable pub hyper_at : Cursor → Result (ℕ × Cursor) ItemFault
hyper_at c = if nat_lt (length c.rest) 8 then Err (Short c.place) else Ok (hyper_of (take 8 c.rest), cursor_past 8 c)

-- a boolean is 0 or 1
unfoldable pub boolean_by : ℕ → Cursor → Result (Bool × Cursor) ItemFault
boolean_by n c = if n == 0 then Ok (false, cursor_past 4 c) else (if n == 1 then Ok (true, cursor_past 4 c) else Err (BadBool c.place))

unfoldable pub boolean_at : Cursor → Result (Bool × Cursor) ItemFault
boolean_at c = if nat_lt (length c.rest) 4 then Err (Short c.place) else boolean_by (word_of (take 4 c.rest)) c

unfoldable pub fixed_at : ℕ → Cursor → Result (List ℕ × Cursor) ItemFault
fixed_at n c = if nat_lt (length c.rest) (n + pad_len n) then Err (Short c.place) else Ok (take n c.rest, cursor_past (n + pad_len n) c)

-- the count is compared with the maximum first, and then the content is looked for
unfoldable pub opaque_by : ℕ → ℕ → Cursor → Result (List ℕ × Cursor) ItemFault
opaque_by max n c =
    if nat_lt max n then Err (Long c.place n max)
    else (if nat_lt (length c.rest) (4 + (n + pad_len n)) then Err (Short c.place)
    else Ok (take n (drop 4 c.rest), cursor_past (4 + (n + pad_len n)) c))

unfoldable pub opaque_at : ℕ → Cursor → Result (List ℕ × Cursor) ItemFault
opaque_at max c = if nat_lt (length c.rest) 4 then Err (Short c.place) else opaque_by max (word_of (take 4 c.rest)) c

-- The result of a reader that was at old and is at new is what read says. A fault leaves the reader at old.
abbrev pub Gives : {X Y : Type 0} → (X → Y) → Result X ItemFault → Cursor → Cursor → Result (Y × Cursor) ItemFault → Type 0
Gives view (Ok x) old new read = read ≡ Ok (view x, new)
Gives view (Err e) old new read = (read ≡ Err e) × (new ≡ old)

-- the offset of a fault: that of the item that fails
abbrev pub place_of : ItemFault → ℕ
place_of (Short at) = at
place_of (Long at len max) = at
place_of (BadBool at) = at
