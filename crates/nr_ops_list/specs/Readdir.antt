-- READDIR and READDIRPLUS (RFC 1813 sections 3.3.16 and 3.3.17): the entries after a cookie, as many as fit. Refusals: of the
-- handle; not a directory; no right to read it; a cookie with another verifier than this server's; too little room.
use Rattle.std.specs.Prelude.{◌≡◌, ℕ, ◌+◌, ◌==◌, nat_le, min, Bool, true, false, not, ◌&&◌, ◌||◌, if◌then◌else◌, List, [], ◌∷◌, ◌++◌, length, map, Option}
use Rattle.std.specs.Option.{option_map_or}
use Rattle.nr_xdr.specs.Item.{pad_len}
use Rattle.nr_xdr.specs.Items.{encodings}
use Rattle.nr_nfs_base.specs.declared.attributes.Attributes.{Attributes}
use Rattle.nr_nfs_base.specs.declared.caller.Caller.{Caller}
use Rattle.nr_nfs_base.specs.declared.verifier.Verifier.{Verifier}
use Rattle.nr_nfs_base.specs.declared.status.Status.{Status}
use Rattle.nr_nfs_base.specs.declared.status.Status.TheVariants.{Acces, Notdir, BadCookie, Toosmall}
use Rattle.nr_nfs_base.specs.declared.status_union.StatusUnion.{StatusUnion}
use Rattle.nr_nfs_base.specs.declared.status_union.StatusUnion.TheVariants.{Done, Failed}
use Rattle.nr_nfs_args.specs.declared.readdir.ReaddirArgs.{ReaddirArgs}
use Rattle.nr_nfs_args.specs.declared.readdir.ReaddirplusArgs.{ReaddirplusArgs}
use Rattle.nr_nfs_res.specs.Readdir.{ReaddirOk, readdir_ok_codec, ReaddirplusOk, readdirplus_ok_codec}
use Rattle.nr_nfs_res.specs.declared.readdir.Entry.{Entry as ListedEntry}
use Rattle.nr_nfs_res.specs.declared.readdir.EntryPlus.{EntryPlus}
use Rattle.nr_tree.specs.Entries.{Entry}
use Rattle.nr_tree.specs.Listing.{entries_after}
use Rattle.nr_tree.specs.Tree.{Tree, is_dir, entries_in}
use Rattle.nr_tree.specs.Rules.{first, ◌⇒◌, on, answer, node_of_handle, handle_rule, may}
use Rattle.nr_tree.specs.Replies.{attributes_at, attributes_of_number, handle_of_live}
use Rattle.nr_tree.specs.declared.node.Node.{Node}
use Rattle.nr_tree.specs.declared.rules.Right.TheVariants.{Read}
use Rattle.nr_nfs_base.specs.Limits.{listing_max}

-- the verifier of every cookie: entries keep their cookies
abbrev pub cookie_verifier : Verifier
cookie_verifier = record { number = 0 }

-- the entries of a directory after a cookie
abbrev pub entries_behind : Tree → List ℕ → ℕ → List Entry
entries_behind t h cookie = option_map_or (λ dir. entries_after cookie (entries_in dir)) (node_of_handle t h) []

-- as many entries, from the first on, as pass a test of all that are taken
abbrev pub longest : (List Entry → Bool) → List Entry → List Entry → List Entry
longest fits taken [] = taken
longest fits taken (e ∷ es) = if fits (taken ++ e ∷ []) then longest fits (taken ++ e ∷ []) es else taken

-- the next entry, if one is left, does not pass the test together with those that are taken
abbrev pub NextFails : (List Entry → Bool) → List Entry → List Entry → Type 0
NextFails fits taken [] = Unit {0}
NextFails fits taken (e ∷ rest) = fits (taken ++ e ∷ []) ≡ false

-- these entries are the first of those that were left; they pass the test, if it passes none; and one more does not
pub record IsLongest (fits : List Entry → Bool) (taken left : List Entry) : Type 0 where
  pub rest : List Entry
  pub first : left ≡ taken ++ rest
  pub passes : fits [] ≡ true → fits taken ≡ true
  pub next : NextFails fits taken rest

-- nothing is left, or something is taken
abbrev pub goes_on : List Entry → List Entry → Bool
goes_on taken left = (length left == 0) || not (length taken == 0)

-- of the directory and of the cookie
abbrev pub listing_rules : Caller → ℕ → Verifier → Node → List (Option Status)
listing_rules c cookie verifier dir =
    (not (is_dir dir) ⇒ Notdir) ∷
    (not (may c Read dir) ⇒ Acces) ∷
    ((not (cookie == 0) && not (verifier.number == cookie_verifier.number)) ⇒ BadCookie) ∷ []

-- too little room for the results without entries, or for the first entry
abbrev pub room_rules : (List Entry → Bool) → List Entry → List (Option Status)
room_rules fits left =
    (not (fits []) ⇒ Toosmall) ∷
    (not (goes_on (longest fits [] left) left) ⇒ Toosmall) ∷ []

-- ===== READDIR

abbrev pub listed : Entry → ListedEntry
listed e = record { fileid = e.number; name = e.name; cookie = e.cookie }

abbrev pub readdir_ok : Tree → List ℕ → List Entry → Bool → ReaddirOk
readdir_ok t h taken eof = record { dir_attributes = attributes_at t h; verifier = cookie_verifier; entries = map listed taken; eof = eof }

-- the results on success, without the status, have at most count bytes (their length is the same with either eof)
abbrev pub readdir_fits : Tree → ReaddirArgs → List Entry → Bool
readdir_fits t args taken = nat_le (length (encodings (readdir_ok_codec.items (readdir_ok t args.dir taken false)))) (min args.count listing_max)

abbrev pub readdir_left : Tree → ReaddirArgs → List Entry
readdir_left t args = entries_behind t args.dir args.cookie

abbrev pub readdir_taken : Tree → ReaddirArgs → List Entry
readdir_taken t args = longest (readdir_fits t args) [] (readdir_left t args)

abbrev pub readdir_in : Tree → Caller → ReaddirArgs → Node → List (Option Status)
readdir_in t c args dir =
    first (listing_rules c args.cookie args.verifier dir) ∷
    first (room_rules (readdir_fits t args) (readdir_left t args)) ∷ []

abbrev pub readdir_rules : Tree → Caller → ReaddirArgs → List (Option Status)
readdir_rules t c args = handle_rule t args.dir ∷ on (node_of_handle t args.dir) (readdir_in t c args)

-- eof if every entry that was left is taken
abbrev pub readdir_reply : Tree → Caller → ReaddirArgs → StatusUnion ReaddirOk (Option Attributes) Status
readdir_reply t c args = answer (first (readdir_rules t c args)) (λ s. Failed s (attributes_at t args.dir))
    (Done (readdir_ok t args.dir (readdir_taken t args) (length (readdir_taken t args) == length (readdir_left t args))))

-- ===== READDIRPLUS

abbrev pub listed_plus : Tree → Entry → EntryPlus
listed_plus t e = record { fileid = e.number; name = e.name; cookie = e.cookie; attributes = attributes_of_number t e.number; handle = handle_of_live t e.number }

abbrev pub readdirplus_ok : Tree → List ℕ → List Entry → Bool → ReaddirplusOk
readdirplus_ok t h taken eof = record { dir_attributes = attributes_at t h; verifier = cookie_verifier; entries = map (listed_plus t) taken; eof = eof }

-- what an entry counts in dircount: its number, its cookie and its name
abbrev pub name_size : Entry → ℕ
name_size e = 16 + (4 + (length e.name + pad_len (length e.name)))

abbrev pub total : (Entry → ℕ) → List Entry → ℕ
total size [] = 0
total size (e ∷ es) = size e + total size es

-- the results on success have at most maxcount bytes, and the names in them at most dircount
abbrev pub readdirplus_fits : Tree → ReaddirplusArgs → List Entry → Bool
readdirplus_fits t args taken =
    nat_le (length (encodings (readdirplus_ok_codec.items (readdirplus_ok t args.dir taken false)))) (min args.maxcount listing_max)
    && nat_le (total name_size taken) args.dircount

abbrev pub readdirplus_left : Tree → ReaddirplusArgs → List Entry
readdirplus_left t args = entries_behind t args.dir args.cookie

abbrev pub readdirplus_taken : Tree → ReaddirplusArgs → List Entry
readdirplus_taken t args = longest (readdirplus_fits t args) [] (readdirplus_left t args)

abbrev pub readdirplus_in : Tree → Caller → ReaddirplusArgs → Node → List (Option Status)
readdirplus_in t c args dir =
    first (listing_rules c args.cookie args.verifier dir) ∷
    first (room_rules (readdirplus_fits t args) (readdirplus_left t args)) ∷ []

abbrev pub readdirplus_rules : Tree → Caller → ReaddirplusArgs → List (Option Status)
readdirplus_rules t c args = handle_rule t args.dir ∷ on (node_of_handle t args.dir) (readdirplus_in t c args)

abbrev pub readdirplus_reply : Tree → Caller → ReaddirplusArgs → StatusUnion ReaddirplusOk (Option Attributes) Status
readdirplus_reply t c args = answer (first (readdirplus_rules t c args)) (λ s. Failed s (attributes_at t args.dir))
    (Done (readdirplus_ok t args.dir (readdirplus_taken t args) (length (readdirplus_taken t args) == length (readdirplus_left t args))))
