-- What a directory lists after a cookie (RFC 1813 section 3.3.16).
use Rattle.std.specs.Prelude.{ℕ, List, [], ◌∷◌, nat_le, nat_lt, if◌then◌else◌}
use Rattle.nr_tree.specs.Entries.{Entry, count}

-- the entries whose cookies are above the given one
abbrev pub entries_after : ℕ → List Entry → List Entry
entries_after cookie [] = []
entries_after cookie (e ∷ es) = if nat_lt cookie e.cookie then e ∷ entries_after cookie es else entries_after cookie es

-- how many entries have a cookie that is at most the given one
abbrev pub count_until : ℕ → List Entry → ℕ
count_until cookie es = count (λ (e : Entry). nat_le e.cookie cookie) es
