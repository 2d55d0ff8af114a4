-- In trees in which a directory has the same entries, READDIRs up to its end list the name of each, in order.
use Rattle.std.proofs.Common.{◌≡◌, ℕ, zero, suc, ◌+◌, ◌≤◌, Bool, true, false, cond, ltb, eqb, not, List, [], ◌∷◌, ◌++◌, length, map, Option, None, Some, Result, Ok, Err, refl, sym, ap, subst, ◌∙◌, arith, append_assoc, append-nil}
use Rattle.std.specs.Option.{option_map, option_map_or}
use Rattle.std.proofs.lemmas.Bool.{eqb-true, le-ltb}
use Rattle.std.proofs.lemmas.List.{length-append}
use Rattle.nr_nfs_base.specs.declared.attributes.Attributes.{Attributes}
use Rattle.nr_nfs_base.specs.declared.caller.Caller.{Caller}
use Rattle.nr_nfs_base.specs.declared.status.Status.{Status}
use Rattle.nr_nfs_base.specs.declared.status.Status.TheVariants.{Notdir}
use Rattle.nr_nfs_base.specs.declared.status_union.StatusUnion.{StatusUnion}
use Rattle.nr_nfs_base.specs.declared.status_union.StatusUnion.TheVariants.{Done, Failed}
use Rattle.nr_nfs_args.specs.declared.readdir.ReaddirArgs.{ReaddirArgs}
use Rattle.nr_nfs_res.specs.Readdir.{ReaddirOk}
use Rattle.nr_nfs_res.specs.declared.readdir.Entry.{Entry as Listed}
use Rattle.nr_tree.specs.Entries.{CookiesAscend, Entries}
use Rattle.nr_tree.specs.Entries.{Entry as DirectoryEntry}
use Rattle.nr_tree.specs.Listing.{entries_after}
use Rattle.nr_tree.specs.Rules.{node_of_handle}
use Rattle.nr_tree.specs.Sane.{IsSane, IsValidContent}
use Rattle.nr_tree.specs.Tree.{Tree, entries_in, entries_of, is_dir, is_directory}
use Rattle.nr_tree.specs.declared.node.Content.{Content}
use Rattle.nr_tree.specs.declared.node.Content.TheVariants.{Block, Character, Directory, Fifo, Link, Regular, Socket}
use Rattle.nr_tree.specs.declared.node.Node.{Node}
use Rattle.nr_tree.proofs.ListingLemmas.{all_above}
use Rattle.nr_tree.proofs.PassedRules.{AllClear, all_clear, clear, got, handled, on_some}
use Rattle.nr_ops_list.specs.Readdir.{cookie_verifier, listed, listing_rules, readdir_fits, readdir_in, readdir_left, readdir_reply, readdir_rules, readdir_taken}
use Rattle.nr_ops_list.proofs.ListingLimits.{is_longest}
use Rattle.nr_plain.specs.Journal.{tree_at}
use Rattle.nr_plain.proofs.SaneTrees.{tree_sane}
use Rattle.nr_client.specs.declared.client_end.ClientEnd.{ClientEnd}
use Rattle.nr_client.specs.declared.client_end.ClientEnd.TheVariants as client
use Rattle.nr_client.specs.Listing.{entries_max, last_cookie}
use Rattle.nr_commands.specs.Printed.{names_text}
use Rattle.nr_pair_laws.specs.FilesAt.{content_along, content_at, handle_along}
use Rattle.nr_pair_laws.specs.PutThenGet.{root_handle}
use Rattle.nr_pair_laws.proofs.Kept.{kept}
use Rattle.nr_pair_laws.proofs.Paths.{content_found, content_node}
use Rattle.nr_text_laws.specs.CommandTexts.{file_of}
use Rattle.nr_text_laws.specs.Listings.{ListsAreOfTheDirectory, listed_by, listed_in, names_in, readdir_of, text_of_listing, text_of_names}
use Rattle.nr_text_laws.proofs.Finding.{at_least, found_files_are_there_lem}
use Rattle.nr_text_laws.proofs.ListingReplies.{done_listing}

-- ---- Lists

abbrev name_of : DirectoryEntry → List ℕ
name_of e = e.name

names_append : (xs ys : List DirectoryEntry) → map name_of (xs ++ ys) ≡ map name_of xs ++ map name_of ys
names_append [] ys = refl
names_append (x ∷ xs) ys = ap (λ (l : List (List ℕ)). x.name ∷ l) (names_append xs ys)

names_listed : (xs : List DirectoryEntry) → names_in (map listed xs) ≡ map name_of xs
names_listed [] = refl
names_listed (x ∷ xs) = ap (λ (l : List (List ℕ)). x.name ∷ l) (names_listed xs)

none_left : {A : Type 0} (xs : List A) → length xs ≡ 0 → xs ≡ []
none_left [] is = refl
none_left (x ∷ xs) is = absurd (omega (arith, is))

-- ---- Cookies that ascend

low_cookie : (from : ℕ) (xs : List DirectoryEntry) (y : DirectoryEntry) (rest : List DirectoryEntry) (next : ℕ) → CookiesAscend from (xs ++ y ∷ rest) next → from ≤ y.cookie
low_cookie from [] y rest next up = up.0
low_cookie from (x ∷ xs) y rest next up = let low = low_cookie (x.cookie + 1) xs y rest next up.1 in let first = up.0 in omega (arith, low, first)

-- after the cookie of an entry those that follow it
after_entry : (from : ℕ) (xs : List DirectoryEntry) (y : DirectoryEntry) (rest : List DirectoryEntry) (next : ℕ) → CookiesAscend from (xs ++ y ∷ rest) next → entries_after y.cookie (xs ++ y ∷ rest) ≡ rest
after_entry from [] y rest next up =
    ap (λ (b : Bool). cond b (y ∷ entries_after y.cookie rest) (entries_after y.cookie rest)) (le-ltb y.cookie y.cookie (omega arith))
    ∙ all_above y.cookie (y.cookie + 1) rest next up.1 (omega arith)
after_entry from (x ∷ xs) y rest next up =
    ap (λ (b : Bool). cond b (x ∷ entries_after y.cookie (xs ++ y ∷ rest)) (entries_after y.cookie (xs ++ y ∷ rest)))
    (le-ltb y.cookie x.cookie (let low = low_cookie (x.cookie + 1) xs y rest next up.1 in omega (arith, low)))
    ∙ after_entry (x.cookie + 1) xs y rest next up.1

-- after the last of those that are taken, those that are left
after_taken : (taken front rest all : List DirectoryEntry) (next cookie : ℕ) → CookiesAscend 1 all next → front ++ (taken ++ rest) ≡ all → entries_after cookie all ≡ taken ++ rest
    → entries_after (last_cookie cookie (map listed taken)) all ≡ rest
after_taken [] front rest all next cookie up parts left = left
after_taken (y ∷ taken) front rest all next cookie up parts left =
    after_taken taken (front ++ y ∷ []) rest all next y.cookie up (append_assoc front (y ∷ []) (taken ++ rest) ∙ parts)
    (ap (λ (l : List DirectoryEntry). entries_after y.cookie l) (sym parts)
    ∙ after_entry 1 front y (taken ++ rest) next (subst (λ (l : List DirectoryEntry). CookiesAscend 1 l next) (sym parts) up))

-- ---- A directory

left_in : (t : Tree) (dir : List ℕ) (cookie : ℕ) (entries : Entries) → content_at t dir ≡ Some (Directory entries) → readdir_left t (readdir_of dir cookie) ≡ entries_after cookie entries.list
left_in t dir cookie entries is =
    let v = content_node t dir (Directory entries) is in
    ap (λ (o : Option Node). option_map_or (λ (d : Node). entries_after cookie (entries_in d)) o []) v.1.0 ∙ ap (λ (c : Content). entries_after cookie (entries_of c)) v.1.1

-- what a READDIR that is done has
record HasListed (entries : Entries) (cookie : ℕ) (d : ReaddirOk) : Type 0 where
  taken : List DirectoryEntry
  rest : List DirectoryEntry
  left : entries_after cookie entries.list ≡ taken ++ rest
  are : map listed taken ≡ d.entries
  eof : d.eof ≡ true → rest ≡ []

has_listed : (t : Tree) (c : Caller) (dir : List ℕ) (cookie : ℕ) (entries : Entries) (d : ReaddirOk) → content_at t dir ≡ Some (Directory entries) → readdir_reply t c (readdir_of dir cookie) ≡ Done d → HasListed entries cookie d
has_listed t c dir cookie entries d is done =
    let a : ReaddirArgs = readdir_of dir cookie in
    let l = is_longest (readdir_fits t a) (readdir_left t a) in
    let same = (done_listing t c a d done).1 in
    record {
      taken = readdir_taken t a;
      rest = l.rest;
      left = sym (left_in t dir cookie entries is) ∙ l.first;
      are = ap (λ (x : ReaddirOk). x.entries) same;
      eof = λ at_end.
          let equal : eqb (length (readdir_taken t a)) (length (readdir_left t a)) ≡ true = ap (λ (x : ReaddirOk). x.eof) same ∙ at_end in
          let lengths = eqb-true (length (readdir_taken t a)) (length (readdir_left t a)) equal in
          let parts = ap length l.first ∙ length-append (readdir_taken t a) l.rest in
          none_left l.rest (omega (arith, lengths, parts));
    }

all_names : (calls : ℕ) (trees : ℕ → Tree) (c : Caller) (dir : List ℕ) (before : List (List ℕ)) (cookie : ℕ) (names : List (List ℕ)) (entries : Entries) (front : List DirectoryEntry) (next : ℕ)
    → ((i : ℕ) → content_at (trees i) dir ≡ Some (Directory entries)) → CookiesAscend 1 entries.list next → front ++ entries_after cookie entries.list ≡ entries.list → before ≡ map name_of front
    → listed_in calls trees c dir before cookie ≡ Some (Ok names) → names ≡ map name_of entries.list
all_names zero trees c dir before cookie names entries front next holds up parts so_far is = absurd (let wrong : ◌≡◌ {A = Option (Result (List (List ℕ)) ClientEnd)} None (Some (Ok names)) = is in cc)
all_names (suc calls) trees c dir before cookie names entries front next holds up parts so_far is =
    by (readdir_reply (trees 0) c (readdir_of dir cookie)) refl is
    (λ more later front' parts' so_far' rest. all_names calls (λ i. trees (suc i)) c dir more later names entries front' next (λ i. holds (suc i)) up parts' so_far' rest)
  where
    by : (results : StatusUnion ReaddirOk (Option Attributes) Status) → readdir_reply (trees 0) c (readdir_of dir cookie) ≡ results
        → listed_by results before cookie (λ more later. listed_in calls (λ i. trees (suc i)) c dir more later) ≡ Some (Ok names)
        → ((more : List (List ℕ)) (later : ℕ) (front' : List DirectoryEntry) → front' ++ entries_after later entries.list ≡ entries.list → more ≡ map name_of front'
        → listed_in calls (λ i. trees (suc i)) c dir more later ≡ Some (Ok names) → names ≡ map name_of entries.list)
        → names ≡ map name_of entries.list
    by (Failed status part) reply ends rec = absurd (let wrong : ◌≡◌ {A = Option (Result (List (List ℕ)) ClientEnd)} (Some (Err (client.Nfs status))) (Some (Ok names)) = ends in cc)
    by (Done d) reply ends rec = done (ltb entries_max (length (before ++ names_in d.entries))) d.eof refl ends
      where
        l : HasListed entries cookie d
        l = has_listed (trees 0) c dir cookie entries d (holds 0) reply

        more_are : before ++ names_in d.entries ≡ map name_of (front ++ l.taken)
        more_are =
            ap (λ (es : List Listed). before ++ names_in es) (sym l.are) ∙ ap (λ (x : List (List ℕ)). before ++ x) (names_listed l.taken) ∙ ap (λ (x : List (List ℕ)). x ++ map name_of l.taken) so_far
            ∙ sym (names_append front l.taken)

        whole : (front ++ l.taken) ++ l.rest ≡ entries.list
        whole = append_assoc front l.taken l.rest ∙ ap (λ (x : List DirectoryEntry). front ++ x) (sym l.left) ∙ parts

        done : (many eof : Bool) → d.eof ≡ eof → cond many (Some (Err (client.Budget entries_max))) (cond eof (Some (Ok (before ++ names_in d.entries)))
            (listed_in calls (λ i. trees (suc i)) c dir (before ++ names_in d.entries) (last_cookie cookie d.entries))) ≡ Some (Ok names) → names ≡ map name_of entries.list
        done true eof at_end e = absurd (let wrong : ◌≡◌ {A = Option (Result (List (List ℕ)) ClientEnd)} (Some (Err (client.Budget entries_max))) (Some (Ok names)) = e in cc)
        done false true at_end e =
            let same : before ++ names_in d.entries ≡ names = (let both : ◌≡◌ {A = Option (Result (List (List ℕ)) ClientEnd)} (Some (Ok (before ++ names_in d.entries))) (Some (Ok names)) = e in cc) in
            sym same ∙ more_are ∙ ap (λ (x : List DirectoryEntry). map name_of x) (sym (append-nil (front ++ l.taken)) ∙ ap (λ (x : List DirectoryEntry). (front ++ l.taken) ++ x) (sym (l.eof at_end)) ∙ whole)
        done false false goes e =
            rec (before ++ names_in d.entries) (last_cookie cookie d.entries) (front ++ l.taken)
            (ap (λ (x : List DirectoryEntry). (front ++ l.taken) ++ x)
            (ap (λ (es : List Listed). entries_after (last_cookie cookie es) entries.list) (sym l.are)
            ∙ after_taken l.taken front l.rest entries.list next cookie up (sym (append_assoc front l.taken l.rest) ∙ whole) l.left)
            ∙ whole)
            more_are e

-- ---- The directory of a path

-- a READDIR that is done is of a directory
is_listed : (t : Tree) (c : Caller) (dir : List ℕ) (cookie : ℕ) (d : ReaddirOk) → readdir_reply t c (readdir_of dir cookie) ≡ Done d → (entries : Entries) × (content_at t dir ≡ Some (Directory entries))
is_listed t c dir cookie d is =
    let a : ReaddirArgs = readdir_of dir cookie in
    let all : AllClear (readdir_rules t c a) = all_clear (readdir_rules t c a) (done_listing t c a d is).0 in
    let v : (v : Node) × (node_of_handle t dir ≡ Some v) = handled t dir all.0 in
    let rules : AllClear (readdir_in t c a v.0) = on_some (node_of_handle t dir) v.0 (readdir_in t c a) v.1 all.1 in
    let each : AllClear (listing_rules c cookie cookie_verifier v.0) = all_clear (listing_rules c cookie cookie_verifier v.0) rules.0 in
    let entries = by v.0.content (clear (not (is_dir v.0)) Notdir each.0) in
    (entries.0, ap (λ (o : Option Node). option_map (λ (node : Node). node.content) o) v.1 ∙ ap (λ (x : Content). Some x) entries.1)
  where
    by : (x : Content) → not (is_directory x) ≡ false → (entries : Entries) × (x ≡ Directory entries)
    by (Regular bytes) none = absurd cc
    by (Directory entries) none = (entries, refl)
    by (Block device) none = absurd cc
    by (Character device) none = absurd cc
    by (Link path) none = absurd cc
    by Socket none = absurd cc
    by Fifo none = absurd cc

first_done : (calls : ℕ) (trees : ℕ → Tree) (c : Caller) (dir : List ℕ) (names : List (List ℕ)) → listed_in calls trees c dir [] 0 ≡ Some (Ok names) → (d : ReaddirOk) × (readdir_reply (trees 0) c (readdir_of dir 0) ≡ Done d)
first_done zero trees c dir names is = absurd (let wrong : ◌≡◌ {A = Option (Result (List (List ℕ)) ClientEnd)} None (Some (Ok names)) = is in cc)
first_done (suc calls) trees c dir names is = by (readdir_reply (trees 0) c (readdir_of dir 0)) refl is
  where
    by : (results : StatusUnion ReaddirOk (Option Attributes) Status) → readdir_reply (trees 0) c (readdir_of dir 0) ≡ results
        → listed_by results [] 0 (λ more later. listed_in calls (λ i. trees (suc i)) c dir more later) ≡ Some (Ok names) → (d : ReaddirOk) × (readdir_reply (trees 0) c (readdir_of dir 0) ≡ Done d)
    by (Failed status part) reply e = absurd (let wrong : ◌≡◌ {A = Option (Result (List (List ℕ)) ClientEnd)} (Some (Err (client.Nfs status))) (Some (Ok names)) = e in cc)
    by (Done d) reply e = (d, reply)

ascends : (t : Tree) (dir : List ℕ) (entries : Entries) → IsSane t → content_at t dir ≡ Some (Directory entries) → CookiesAscend 1 entries.list entries.next_cookie
ascends t dir entries sane is =
    let v = content_node t dir (Directory entries) is in
    (subst IsValidContent v.1.1 (sane.contents _ v.0 (got t dir v.0 v.1.0))).0

-- a listing that has a text is of a directory that is found, with all names
record HasText (found : Result (List ℕ) ClientEnd) (lists : List ℕ → Option (Result (List (List ℕ)) ClientEnd)) (text : List ℕ) : Type 0 where
  dir : List ℕ
  is_found : found ≡ Ok dir
  names : List (List ℕ)
  are : lists dir ≡ Some (Ok names)
  text_is : text ≡ names_text names

has_text : (found : Result (List ℕ) ClientEnd) (lists : List ℕ → Option (Result (List (List ℕ)) ClientEnd)) (text : List ℕ) → text_of_listing found lists ≡ Some (Ok text) → HasText found lists text
has_text (Err end) lists text is = absurd (let wrong : ◌≡◌ {A = Option (Result (List ℕ) ClientEnd)} (Some (Err end)) (Some (Ok text)) = is in cc)
has_text (Ok dir) lists text is = by (lists dir) refl is
  where
    by : (o : Option (Result (List (List ℕ)) ClientEnd)) → lists dir ≡ o → option_map text_of_names o ≡ Some (Ok text) → HasText (Ok dir) lists text
    by None none e = absurd (let wrong : ◌≡◌ {A = Option (Result (List ℕ) ClientEnd)} None (Some (Ok text)) = e in cc)
    by (Some (Err end)) some e = absurd (let wrong : ◌≡◌ {A = Option (Result (List ℕ) ClientEnd)} (Some (Err end)) (Some (Ok text)) = e in cc)
    by (Some (Ok names)) some e =
        let same : names_text names ≡ text = (let both : ◌≡◌ {A = Option (Result (List ℕ) ClientEnd)} (Some (Ok (names_text names))) (Some (Ok text)) = e in cc) in
        record { dir = dir; is_found = refl; names = names; are = some; text_is = sym same }

pub lists_are_of_the_directory_lem : ListsAreOfTheDirectory
lists_are_of_the_directory_lem s J from c export path text names l sane are_names keeps = (
  entries.0,
  (
    at_place l.last (omega (arith, low 0, l.they.ends 0)) (omega arith),
    has.text_is ∙ ap (λ (x : List (List ℕ)). names_text x) (all_names l.calls (λ i. tree_at s J (l.readdirs i)) c has.dir [] 0 has.names entries.0 [] entries.0.next_cookie
        (λ i. sym (content_found (tree_at s J (l.readdirs i)) root_handle names has.dir (leads (l.readdirs i) (low i) (l.they.ends i))) ∙ at_place (l.readdirs i) (low i) (l.they.ends i))
        up (all_above 0 1 entries.0.list entries.0.next_cookie up (omega arith)) refl has.are),
  ),
)
  where
    has : HasText (file_of s.parameters.export export path c (λ i. tree_at s J (l.places i))) (λ dir. listed_in l.calls (λ i. tree_at s J (l.readdirs i)) c dir [] 0) text
    has = has_text (file_of s.parameters.export export path c (λ i. tree_at s J (l.places i))) (λ dir. listed_in l.calls (λ i. tree_at s J (l.readdirs i)) c dir [] 0) text l.is

    found_low : from ≤ l.found_at
    found_low = let first = l.are.first in let end = l.are.ends 0 in omega (arith, first, end)

    low : (i : ℕ) → from ≤ l.readdirs i
    low i = let least = at_least J l.found_at l.readdirs l.last l.they i in let first = found_low in omega (arith, first, least)

    found_high : l.found_at ≤ l.last
    found_high = let first = l.they.first in let end = l.they.ends 0 in omega (arith, first, end)

    leads_from : handle_along (tree_at s J from) root_handle names ≡ Some has.dir
    leads_from =
        sym ((kept s J root_handle names from l.found_at found_low (λ k least below. keeps k least (let high = found_high in omega (arith, below, high)))).leads names [] (append-nil names))
        ∙ found_files_are_there_lem s J from s.parameters.export export path names c l.places l.found_at has.dir l.are are_names (λ k least below. keeps k least (let high = found_high in omega (arith, below, high))) has.is_found

    leads : (place : ℕ) → from ≤ place → place ≤ l.last → handle_along (tree_at s J place) root_handle names ≡ Some has.dir
    leads place least most = (kept s J root_handle names from place least (λ k at below. keeps k at (omega (arith, below, most)))).leads names [] (append-nil names) ∙ leads_from

    done : (d : ReaddirOk) × (readdir_reply (tree_at s J (l.readdirs 0)) c (readdir_of has.dir 0) ≡ Done d)
    done = first_done l.calls (λ i. tree_at s J (l.readdirs i)) c has.dir has.names has.are

    entries : (entries : Entries) × (content_at (tree_at s J (l.readdirs 0)) has.dir ≡ Some (Directory entries))
    entries = is_listed (tree_at s J (l.readdirs 0)) c has.dir 0 done.0 done.1

    at_place : (place : ℕ) → from ≤ place → place ≤ l.last → content_along (tree_at s J place) root_handle names ≡ Some (Directory entries.0)
    at_place place least most =
        (kept s J root_handle names from place least (λ k at below. keeps k at (omega (arith, below, most)))).content
        ∙ sym (kept s J root_handle names from (l.readdirs 0) (low 0) (λ k at below. keeps k at (let high = l.they.ends 0 in omega (arith, below, high)))).content
        ∙ content_found (tree_at s J (l.readdirs 0)) root_handle names has.dir (leads (l.readdirs 0) (low 0) (l.they.ends 0))
        ∙ entries.1

    up : CookiesAscend 1 entries.0.list entries.0.next_cookie
    up = ascends (tree_at s J (l.readdirs 0)) has.dir entries.0 (tree_sane s J (l.readdirs 0) sane) entries.1
