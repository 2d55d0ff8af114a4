-- What a name leads to, and what is asked of a directory that gets or loses an entry.
use Rattle.std.specs.Prelude.{ℕ, Bool, ◌||◌, nat_lt, nat_le, List, [], ◌∷◌, length, Option, is_some}
use Rattle.std.specs.Option.{option_map}
use Rattle.std.specs.FinMap.{get}
use Rattle.nr_nfs_base.specs.declared.caller.Caller.{Caller}
use Rattle.nr_nfs_base.specs.declared.status.Status.{Status}
use Rattle.nr_nfs_base.specs.declared.status.Status.TheVariants.{Mlink}
use Rattle.nr_tree.specs.Entries.{Entry}
use Rattle.nr_tree.specs.DirectoryGraph.{links_max}
use Rattle.nr_tree.specs.Tree.{Tree}
use Rattle.nr_tree.specs.Steps.{entries_at, links_at}
use Rattle.nr_tree.specs.Changes.{entry_at}
use Rattle.nr_tree.specs.Rules.{first, ◌⇒◌, on, number_of_handle, handle_rule, name_rules, change_rules, is_dot_name}

-- the number of the node that a directory has under a name
abbrev pub number_of_entry : Tree → ℕ → List ℕ → Option ℕ
number_of_entry t d name = option_map (λ (e : Entry). e.number) (entry_at t d name)

-- a name that a new entry cannot have: . and .. and one that is there
abbrev pub is_taken : Tree → ℕ → List ℕ → Bool
is_taken t d name = is_dot_name name || is_some (number_of_entry t d name)

-- whether a number's node has entries
abbrev pub has_entries : Tree → ℕ → Bool
has_entries t n = nat_lt 0 (length (entries_at t n))

-- the type of a directory, and the caller's rights on it
abbrev pub directory_rule : Tree → Caller → ℕ → Option Status
directory_rule t c d = first (on (get t.nodes d) (change_rules c))

-- in this order: BADHANDLE or STALE for a directory's handle; ACCES or NAMETOOLONG for an entry's name; NOTDIR, then ACCES without the rights to write and to search
abbrev pub entry_rules : Tree → Caller → List ℕ → List ℕ → List (Option Status)
entry_rules t c h name =
    handle_rule t h ∷
    first (name_rules name) ∷
    directory_rule t c (number_of_handle h) ∷ []

-- a node with the maximum number of links gets no other one
abbrev pub links_rule : Tree → ℕ → Option Status
links_rule t n = nat_le links_max (links_at t n) ⇒ Mlink
