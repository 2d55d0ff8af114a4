-- The replies of all clients: a finite map from the number of a client to its replies.
use Rattle.std.specs.Prelude.{◌≡◌, ℕ, List, [], Option, None, Some, true}
use Rattle.std.specs.Ordering.{nat_cmp}
use Rattle.std.specs.Coded.{Coded, coded_ℕ}
use Rattle.std.specs.HashMap.{HashMap}
use Rattle.std.specs.FinMap.{FinMap, code, contains_key, from_entries, get}
use Rattle.nr_cache.specs.Entries.{KeptEntry, Finding, entries_of}
use Rattle.nr_cache.specs.Entries.Finding.{NewCall}
use Rattle.nr_cache.specs.Windows.{Replies, Remembers, found_at, replies_code, replies_kept}

abbrev pub Clients : Type 0
Clients = FinMap nat_cmp Replies

-- the hash map of the code as a finite map
abbrev pub clients_of : {S : Type 0} → HashMap ℕ Replies S → Clients
clients_of m = from_entries m.entries

-- a client without replies may have none at all in the map
abbrev pub found_if : Option Replies → ℕ → Finding
found_if None xid = NewCall
found_if (Some w) xid = found_at w xid

unfoldable pub found_by : Clients → ℕ → ℕ → Finding
found_by C client xid = found_if (get C client) xid

-- there is room for a reply of a client
abbrev pub HasClient : Clients → ℕ → Type 0
HasClient C client = contains_key C client ≡ true

-- how many replies of a client are kept
abbrev pub kept_if : Option Replies → ℕ
kept_if None = 0
kept_if (Some w) = replies_kept w

abbrev pub kept_of : Clients → ℕ → ℕ
kept_of C client = kept_if (get C client)

-- what is kept of a client is what its entries ask for; without entries nothing need be kept
abbrev pub RemembersBy : List KeptEntry → Option Replies → Type 0
RemembersBy E None = E ≡ []
RemembersBy E (Some w) = Remembers E w

abbrev pub RemembersAll : List KeptEntry → Clients → Type 0
RemembersAll E C = (client : ℕ) → RemembersBy (entries_of client E) (get C client)

abbrev pub clients_code : Coded Clients
clients_code = code coded_ℕ replies_code
