-- Bytes that are kept as pages by number (for the code).
use Rattle.std.specs.Prelude.{ℕ, ◌≡◌, ◌+◌, ◌*◌, ◌/◌, ◌%◌, ◌<◌, ◌≤◌, ◌≢◌, true, List, [], length, map, Option, None, Some, IfSome, slice_index}
use Rattle.std.specs.List.{list_any, range_with_len}
use Rattle.std.specs.Map.{lookup}
use Rattle.std.specs.BTreeMap.{is_at}
use Rattle.std.specs.Ordering.{nat_cmp}
use Rattle.std.specs.declared.vec.Vec.{Vec}
use Rattle.std.specs.declared.alloc.Global.{Global}
use Rattle.nr_tree.specs.Pages.{page_size, is_set}

abbrev pub Pages : Type 0
Pages = List (ℕ × Vec ℕ Global)

-- the page that is kept under a number
abbrev pub page : Pages → ℕ → Option (Vec ℕ Global)
page ps p = lookup (is_at (nat_cmp p)) ps

abbrev pub items_of : Option (Vec ℕ Global) → List ℕ
items_of None = []
items_of (Some v) = v.items

-- the byte at an offset; 0 if its page isn't kept
abbrev pub byte : Pages → ℕ → ℕ
byte ps i = slice_index (items_of (page ps (i / page_size))) (i % page_size)

-- the first bytes
abbrev pub bytes_in : Pages → ℕ → List ℕ
bytes_in ps len = map (byte ps) (range_with_len 0 len)

abbrev pub HasSize : Vec ℕ Global → Type 0
HasSize v = length v.items ≡ page_size

abbrev pub HasByte : Vec ℕ Global → Type 0
HasByte v = list_any is_set v.items ≡ true

-- each page has the size of one
abbrev pub AreSized : Pages → Type 0
AreSized ps = (p : ℕ) → IfSome (page ps p) HasSize

-- each page that has a byte from an offset on, below another one, has a byte that isn't 0
abbrev pub AreSet : Pages → ℕ → ℕ → Type 0
AreSet ps from end = (i : ℕ) → from ≤ i → i < end → IfSome (page ps (i / page_size)) HasByte

-- n zeros
pub record AreZeros (xs : List ℕ) (n : ℕ) : Type 0 where
  pub length : length xs ≡ n
  pub zero : (i : ℕ) → slice_index xs i ≡ 0

-- what holds of a file's pages: each has its size, and a byte that isn't 0; past the end all bytes are 0
pub record ArePages (ps : Pages) (len : ℕ) : Type 0 where
  pub sized : (p : ℕ) → IfSome (page ps p) HasSize
  pub set : (p : ℕ) → IfSome (page ps p) HasByte
  pub ends : (i : ℕ) → len ≤ i → byte ps i ≡ 0

-- the pages from first on, below end, may have changed, but no byte
pub record KeepsBytes (ps qs : Pages) (first end : ℕ) : Type 0 where
  pub sized : (p : ℕ) → IfSome (page qs p) HasSize
  pub bytes : (i : ℕ) → byte qs i ≡ byte ps i
  pub below : (p : ℕ) → p < first → page qs p ≡ page ps p
  pub above : (p : ℕ) → end ≤ p → page qs p ≡ page ps p

-- bytes g are the bytes f with xs at an offset
pub record IsOver (f g : ℕ → ℕ) (offset : ℕ) (xs : List ℕ) : Type 0 where
  pub inside : (k : ℕ) → k < length xs → g (offset + k) ≡ slice_index xs k
  pub below : (i : ℕ) → i < offset → g i ≡ f i
  pub above : (i : ℕ) → offset + length xs ≤ i → g i ≡ f i

-- a piece written over its pages
pub record WritesOver (ps qs : Pages) (offset : ℕ) (xs : List ℕ) : Type 0 where
  pub sized : (p : ℕ) → IfSome (page qs p) HasSize
  pub over : IsOver (byte ps) (byte qs) offset xs
  pub below : (p : ℕ) → p < offset / page_size → page qs p ≡ page ps p
  pub above : (p : ℕ) → offset + length xs ≤ page_size * p → page qs p ≡ page ps p

-- the bytes from an offset on are 0 in its page, which, if it is kept, has a byte that isn't 0
pub record ClearsTail (ps qs : Pages) (from : ℕ) : Type 0 where
  pub sized : (p : ℕ) → IfSome (page qs p) HasSize
  pub below : (i : ℕ) → i < from → byte qs i ≡ byte ps i
  pub clear : (i : ℕ) → from ≤ i → i / page_size ≡ from / page_size → byte qs i ≡ 0
  pub others : (p : ℕ) → p ≢ from / page_size → page qs p ≡ page ps p
  pub set : IfSome (page qs (from / page_size)) HasByte
