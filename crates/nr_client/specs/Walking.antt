-- Requests that go along a path: a LOOKUP for each component, one after another (RFC 1813 section 3.3.3).
use Rattle.std.specs.Prelude.{ℕ, List, [], ◌∷◌, length, Result, Ok, Err}
use Rattle.nr_reduce.specs.declared.call.Outcome.{Outcome}
use Rattle.nr_nfs_res.specs.declared.lookup.LookupOk.{LookupOk}
use Rattle.nr_client.specs.declared.client_end.ClientEnd.{ClientEnd}
use Rattle.nr_client.specs.declared.client_end.ClientEnd.TheVariants as client
use Rattle.nr_client.specs.Following.{Next, asking, go_on}
use Rattle.nr_client.specs.Following.Next.{Returns}
use Rattle.nr_client.specs.Paths.{path_names}
use Rattle.nr_client.specs.Requests.{lookup_call, lookup_result}

-- the file handle that a LOOKUP gives
abbrev pub object_in : Result LookupOk ClientEnd → Result (List ℕ) ClientEnd
object_in (Ok found) = Ok found.object
object_in (Err end) = Err end

abbrev pub object_result : Outcome → Result (List ℕ) ClientEnd
object_result outcome = object_in (lookup_result outcome)

-- from a directory along these names: the file handle of the last, or of the directory if there is none
abbrev pub walk_from : (uid gid : ℕ) → List ℕ → List (List ℕ) → List Outcome → Next (List ℕ)
walk_from uid gid dir [] = λ outcomes. Returns (Ok dir)
walk_from uid gid dir (name ∷ names) = asking (lookup_call uid gid dir name) object_result (λ object. walk_from uid gid object names)

-- up to the directory that has the last name: its file handle, and that name
abbrev pub parent_from : (uid gid : ℕ) → List ℕ → List ℕ → List (List ℕ) → List Outcome → Next (List ℕ × List ℕ)
parent_from uid gid dir name [] = λ outcomes. Returns (Ok (dir, name))
parent_from uid gid dir name (next ∷ names) = asking (lookup_call uid gid dir name) object_result (λ object. parent_from uid gid object next names)

-- the same of names, of which there must be one: else BadPath at this offset
abbrev pub parent_along : (uid gid : ℕ) → List ℕ → ℕ → List (List ℕ) → List Outcome → Next (List ℕ × List ℕ)
parent_along uid gid dir at [] = λ outcomes. Returns (Err (client.BadPath at))
parent_along uid gid dir at (name ∷ names) = parent_from uid gid dir name names

-- Along a path. If it is bad, no call is made.
abbrev pub walk_next : (uid gid : ℕ) → (root path : List ℕ) → List Outcome → Next (List ℕ)
walk_next uid gid root path outcomes = go_on (path_names path) (λ names. walk_from uid gid root names outcomes)

abbrev pub parent_next : (uid gid : ℕ) → (root path : List ℕ) → List Outcome → Next (List ℕ × List ℕ)
parent_next uid gid root path outcomes = go_on (path_names path) (λ names. parent_along uid gid root (length path) names outcomes)
