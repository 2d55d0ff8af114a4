-- The first line of a script and of a capture: `clients N credits G`, and then, each if it is given and in this order, ` capacity B`,
-- ` sizes A B`, ` numbered`, ` invalidate`.
use Rattle.std.specs.Prelude.{ℕ, ◌≤◌, Bool, true, false, ◌&&◌, if◌then◌else◌, List, [], ◌∷◌, codes, Option, None, Some}
use Rattle.std.specs.Str.{bytes_eq}
use Rattle.nr_rpc.specs.declared.cred.Cred.{Cred}
use Rattle.nr_rpc.specs.declared.cred.Cred.TheVariants as creds
use Rattle.nr_wire.specs.Constants.{UNITS_MAX}
use Rattle.nr_reduce.specs.Limits.{credits_max}
use Rattle.nr_texts.specs.declared.opening.Opening.{Opening}
use Rattle.nr_texts.specs.Limits.{clients_max, default_capacity, default_units, capacity_max}
use Rattle.nr_texts.specs.Words.{◌>>=◌, number_within}

-- the number of bytes of `capacity B`, or the default if the words begin with another, and the words that are left
abbrev pub capacity_in : List (List ℕ) → Option (ℕ × List (List ℕ))
capacity_in (name ∷ bytes ∷ others) =
    if bytes_eq name (codes "capacity") then (number_within 0 capacity_max bytes >>= λ b. Some (b, others)) else Some (default_capacity, name ∷ bytes ∷ others)
capacity_in words = Some (default_capacity, words)

-- the units of each client and of each server, of `sizes A B`, or the default if the words begin with another, and the words that are left
abbrev pub sizes_of : List ℕ → List ℕ → Option (ℕ × ℕ)
sizes_of client server = number_within 1 UNITS_MAX client >>= λ a. number_within 1 UNITS_MAX server >>= λ b. Some (a, b)

abbrev pub sizes_in : List (List ℕ) → Option ((ℕ × ℕ) × List (List ℕ))
sizes_in (name ∷ client ∷ server ∷ others) =
    if bytes_eq name (codes "sizes") then (sizes_of client server >>= λ units. Some (units, others)) else Some ((default_units, default_units), name ∷ client ∷ server ∷ others)
sizes_in words = Some ((default_units, default_units), words)

-- whether `numbered` is there, and the words that are left
abbrev pub numbered_in : List (List ℕ) → Bool × List (List ℕ)
numbered_in (name ∷ others) = if bytes_eq name (codes "numbered") then (true, others) else (false, name ∷ others)
numbered_in words = (false, words)

-- whether `invalidate` is there, if no other words are left
abbrev pub invalidate_in : List (List ℕ) → Option Bool
invalidate_in [] = Some false
invalidate_in (name ∷ []) = if bytes_eq name (codes "invalidate") then Some true else None
invalidate_in words = None

abbrev pub opening_of : List ℕ → List ℕ → List (List ℕ) → Option Opening
opening_of clients credits others = do
  n ← number_within 1 clients_max clients
  g ← number_within 1 credits_max credits
  capacity ← capacity_in others
  sizes ← sizes_in capacity.1
  invalidates ← invalidate_in (numbered_in sizes.1).1
  Some (record { clients = n; credits = g; capacity = capacity.0; client_units = sizes.0.0; server_units = sizes.0.1; numbered = (numbered_in sizes.1).0; invalidates = invalidates })

unfoldable pub opening_in : List (List ℕ) → Option Opening
opening_in (first ∷ clients ∷ second ∷ credits ∷ others) =
    if bytes_eq first (codes "clients") && bytes_eq second (codes "credits") then opening_of clients credits others else None
opening_in words = None

-- the numbers of a first line are in range
pub record IsOpening (opening : Opening) : Type 0 where
  pub some_clients : 1 ≤ opening.clients
  pub few_clients : opening.clients ≤ clients_max
  pub some_credits : 1 ≤ opening.credits
  pub few_credits : opening.credits ≤ credits_max
  pub capacity : opening.capacity ≤ capacity_max
  pub some_client_units : 1 ≤ opening.client_units
  pub few_client_units : opening.client_units ≤ UNITS_MAX
  pub some_server_units : 1 ≤ opening.server_units
  pub few_server_units : opening.server_units ≤ UNITS_MAX

-- AUTH_SYS of a user of a drill (RFC 5531 appendix A): stamp 0, machine `drill`, no further groups
abbrev pub sys_cred : ℕ → ℕ → Cred
sys_cred uid gid = creds.Sys 0 (codes "drill") uid gid []
