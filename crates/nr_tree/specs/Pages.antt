-- The pages of a file: how many of them hold a byte that isn't 0.
use Rattle.std.specs.Prelude.{ℕ, ◌*◌, ◌==◌, Bool, not, List, length, take, drop}
use Rattle.std.specs.List.{list_any, filter, range_with_len}

-- the size of a page in bytes
abbrev pub page_size : ℕ
page_size = 4096

abbrev pub is_set : ℕ → Bool
is_set byte = not (byte == 0)

-- whether one of the bytes from page_size * p to page_size * p + page_size - 1 isn't 0
abbrev pub page_is_set : List ℕ → ℕ → Bool
page_is_set bytes p = list_any is_set (take page_size (drop (page_size * p) bytes))

-- how many pages have such a byte. A page with a number of length bytes or more lies past the bytes
abbrev pub pages_of : List ℕ → ℕ
pages_of bytes = length (filter (page_is_set bytes) (range_with_len 0 (length bytes)))
