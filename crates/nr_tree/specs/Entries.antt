-- A directory's entries, in the order in which they were made.
use Rattle.std.specs.Prelude.{ℕ, ◌+◌, ◌<◌, ◌≤◌, ◌++◌, ◌≡◌, Bool, if◌then◌else◌, List, [], ◌∷◌, length, Option, None, Some, nat_eq, refl}
use Rattle.std.specs.Cmp.Lexicographic.{pointwise}
use Rattle.std.specs.Coded.{Coded, code_by, coded×, coded_ℕ, coded_list}
use Rattle.nr_nfs_base.specs.Limits.{name_length_max}

-- what a directory has under a name: the cookie to go on from, and the number of the node
pub record Entry : Type 0 where
  pub cookie : ℕ
  pub name : List ℕ
  pub number : ℕ

-- a directory's entries, and the cookie that the next one gets
pub record Entries : Type 0 where
  pub next_cookie : ℕ
  pub list : List Entry

-- those of a directory that never had one
abbrev pub no_entries : Entries
no_entries = record { next_cookie = 1; list = [] }

abbrev pub entry_code : Coded Entry
entry_code =
    code_by (ℕ × (List ℕ × ℕ)) (coded× coded_ℕ (coded× (coded_list coded_ℕ) coded_ℕ)) (λ e. (e.cookie, (e.name, e.number)))
    (λ p. record { cookie = p.0; name = p.1.0; number = p.1.1 }) (λ _. refl)

abbrev pub entries_code : Coded Entries
entries_code =
    code_by (ℕ × List Entry) (coded× coded_ℕ (coded_list entry_code)) (λ d. (d.next_cookie, d.list))
    (λ p. record { next_cookie = p.0; list = p.1 }) (λ _. refl)

abbrev pub is_name : List ℕ → Entry → Bool
is_name name e = pointwise nat_eq name e.name

-- the entry of a name
abbrev pub entry_of_name : List ℕ → List Entry → Option Entry
entry_of_name name [] = None
entry_of_name name (e ∷ es) = if is_name name e then Some e else entry_of_name name es

-- the entries but the one of a name
abbrev pub list_without : List ℕ → List Entry → List Entry
list_without name [] = []
list_without name (e ∷ es) = if is_name name e then es else e ∷ list_without name es

-- an entry put last, under the next cookie
abbrev pub next_entry : Entries → List ℕ → ℕ → Entry
next_entry d name number = record { cookie = d.next_cookie; name = name; number = number }

abbrev pub entries_with : Entries → List ℕ → ℕ → Entries
entries_with d name number = record { next_cookie = d.next_cookie + 1; list = d.list ++ next_entry d name number ∷ [] }

abbrev pub entries_without : Entries → List ℕ → Entries
entries_without d name = record { next_cookie = d.next_cookie; list = list_without name d.list }

-- what holds of each entry
abbrev pub Each : (Entry → Type 0) → List Entry → Type 0
Each P [] = Unit {0}
Each P (e ∷ es) = P e × Each P es

-- how many entries pass a test
abbrev pub count : (Entry → Bool) → List Entry → ℕ
count test [] = 0
count test (e ∷ es) = (if test e then 1 else 0) + count test es

-- cookies rise from the first, and stay below the next one
abbrev pub CookiesAscend : ℕ → List Entry → ℕ → Type 0
CookiesAscend from [] next = from ≤ next
CookiesAscend from (e ∷ es) next = (from ≤ e.cookie) × CookiesAscend (e.cookie + 1) es next

-- names differ, and have 1 to 255 bytes
abbrev pub NamesAreValid : List Entry → Type 0
NamesAreValid [] = Unit {0}
NamesAreValid (e ∷ es) = (0 < length e.name) × (length e.name ≤ name_length_max) × (entry_of_name e.name es ≡ None) × NamesAreValid es
