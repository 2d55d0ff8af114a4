-- What is known after more changes.
use Rattle.std.specs.Prelude.{◌≡◌, ◌≢◌, ℕ, ◌+◌, ◌<◌, List, [], ◌∷◌, ◌++◌}
use Rattle.nr_cache.specs.Entries.{KeptEntry, entries_of, found_for, top_of, window}
use Rattle.nr_cache.specs.Entries.Finding.{KeptCall, NewCall}

-- A new call that is kept is found, with its place and its reply, until its xid is 64 below the largest xid of its client.
abbrev pub KeptCallsAreFound : Type 0
KeptCallsAreFound = (E F : List KeptEntry) (e : KeptEntry) → found_for E e.client e.xid ≡ NewCall → top_of (entries_of e.client (E ++ e ∷ F)) < e.xid + window
    → found_for (E ++ e ∷ F) e.client e.xid ≡ KeptCall e.place e.reply

-- Nothing changes for another client.
abbrev pub OthersStay : Type 0
OthersStay = (E : List KeptEntry) (e : KeptEntry) (client xid : ℕ) → client ≢ e.client → found_for (E ++ e ∷ []) client xid ≡ found_for E client xid
