-- For the code: the bytes of an entry in a listing, the entries within limits, and what READDIR and READDIRPLUS share.
use Rattle.std.specs.Prelude.{◌≡◌, ℕ, ◌+◌, ◌-◌, ◌≤◌, nat_le, ◌==◌, Bool, true, false, ◌&&◌, List, [], ◌∷◌, length, take, drop, map, Option, None, Some}
use Rattle.std.specs.Option.{option_map_or}
use Rattle.nr_nfs_base.specs.declared.attributes.Attributes.{Attributes}
use Rattle.nr_nfs_base.specs.declared.caller.Caller.{Caller}
use Rattle.nr_nfs_base.specs.declared.verifier.Verifier.{Verifier}
use Rattle.nr_nfs_base.specs.declared.status.Status.{Status}
use Rattle.nr_nfs_base.specs.declared.status_union.StatusUnion.{StatusUnion}
use Rattle.nr_nfs_base.specs.declared.status_union.StatusUnion.TheVariants.{Done, Failed}
use Rattle.nr_nfs_res.specs.declared.readdir.Listing.{Listing}
use Rattle.nr_tree.specs.Rules.{first, on, answer, node_of_handle, handle_rule}
use Rattle.nr_tree.specs.Replies.{attributes_at}
use Rattle.std.specs.FinMap.{get}
use Rattle.nr_xdr.specs.Item.{pad_len}
use Rattle.nr_tree.specs.Entries.{Entry, Each}
use Rattle.nr_tree.specs.Tree.{Tree, value_at}
use Rattle.nr_ops_list.specs.Readdir.{total, name_size, goes_on, longest, cookie_verifier, entries_behind, listing_rules, room_rules}
use Rattle.nr_ops_list.specs.declared.listings.Detail.{Detail}
use Rattle.nr_ops_list.specs.declared.listings.Detail.TheVariants.{Names, Nodes}
use Rattle.nr_ops_list.specs.declared.listings.Limits.{Limits}

-- a 1, the number, the name with its length, and the cookie
abbrev pub entry_size : Entry → ℕ
entry_size e = 24 + (length e.name + pad_len (length e.name))

-- the attributes and the handle of a live node, each after a flag
abbrev pub node_size : Tree → ℕ → ℕ
node_size t n = option_map_or (λ node. 104) (get t.nodes n) 8

abbrev pub size_in : Tree → Detail → Entry → ℕ
size_in t Names e = entry_size e
size_in t Nodes e = entry_size e + node_size t e.number

-- the same for a live node, by the entry's name
abbrev pub size_of_name_in : Detail → List ℕ → ℕ
size_of_name_in Names name = 24 + (length name + pad_len (length name))
size_of_name_in Nodes name = 24 + (length name + pad_len (length name)) + 104

-- each entry leads to a live node
abbrev pub AreLive : Tree → List Entry → Type 0
AreLive t es = Each (λ e. value_at (λ node. true) false t.nodes e.number ≡ true) es

-- the results without entries, of a directory that is live: its attributes, the verifier, the end of the list, and eof
abbrev pub empty_size : ℕ
empty_size = 104

abbrev pub within : Tree → Limits → List Entry → Bool
within t limits taken = nat_le (total (size_in t limits.detail) taken) limits.entries && nat_le (total name_size taken) limits.names

-- the entries from one place up to another are those that are taken of what is left, and some are taken if some are left
pub record IsRange (list : List Entry) (start end : ℕ) (taken left : List Entry) : Type 0 where
  pub rises : start ≤ end
  pub bounded : end ≤ length list
  pub taken_are : take (end - start) (drop start list) ≡ taken
  pub left_are : drop start list ≡ left
  pub goes : goes_on taken left ≡ true

-- the same if there may be no limits: then the results without entries are too large
abbrev pub are_within : Tree → Option Limits → List Entry → Bool
are_within t None taken = false
are_within t (Some limits) taken = within t limits taken

-- ===== what READDIR and READDIRPLUS share, by which entries fit and by what is said of each

abbrev pub rules_by : Tree → Caller → List ℕ → ℕ → Verifier → (List Entry → Bool) → List (Option Status)
rules_by t c h cookie verifier fits =
    handle_rule t h ∷ on (node_of_handle t h) (λ dir. first (listing_rules c cookie verifier dir) ∷ first (room_rules fits (entries_behind t h cookie)) ∷ [])

abbrev pub listing_of : {E : Type 0} → Option Attributes → (Entry → E) → List Entry → Bool → Listing E
listing_of attributes said taken eof = record { dir_attributes = attributes; verifier = cookie_verifier; entries = map said taken; eof = eof }

abbrev pub reply_by : {E : Type 0} → Tree → Caller → List ℕ → ℕ → Verifier → (List Entry → Bool) → (Entry → E) → StatusUnion (Listing E) (Option Attributes) Status
reply_by t c h cookie verifier fits said =
    answer (first (rules_by t c h cookie verifier fits)) (λ s. Failed s (attributes_at t h))
    (Done (listing_of (attributes_at t h) said (longest fits [] (entries_behind t h cookie)) (length (longest fits [] (entries_behind t h cookie)) == length (entries_behind t h cookie))))
