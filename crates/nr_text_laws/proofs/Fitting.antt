-- What fits of the nodes of a sane tree whose numbers and cookies are below 2^63.
use Rattle.std.proofs.Common.{◌≡◌, ℕ, ◌+◌, ◌≤◌, ◌<◌, ◌^◌, Bool, true, false, cond, eqb, List, [], ◌∷◌, length, Option, None, Some, refl, ap, ◌∙◌, subst, arith}
use Rattle.std.specs.Option.{option_map, option_map_or}
use Rattle.std.specs.FinMap.{get}
use Rattle.nr_nfs_base.specs.declared.attributes.Attributes.{Attributes}
use Rattle.nr_tree.specs.Changes.{next_cookie_of}
use Rattle.nr_tree.specs.Entries.{CookiesAscend, Each, Entries}
use Rattle.nr_tree.specs.Entries.{Entry as DirectoryEntry}
use Rattle.nr_tree.specs.Replies.{attributes_at}
use Rattle.nr_tree.specs.Rules.{node_of_handle, number_of_handle}
use Rattle.nr_tree.specs.Sane.{IsSane, IsValidContent, skeleton}
use Rattle.nr_tree.specs.Steps.{IsBelow}
use Rattle.nr_tree.specs.Tree.{Tree, attributes_of, bytes_of, entries_in, entries_of}
use Rattle.nr_tree.specs.declared.node.Content.{Content}
use Rattle.nr_tree.specs.declared.node.Content.TheVariants.{Regular, Directory, Block, Character, Link, Socket, Fifo}
use Rattle.nr_tree.specs.declared.node.Node.{Node}
use Rattle.nr_plain.specs.Journal.{tree_at}
use Rattle.nr_plain.proofs.SaneTrees.{tree_sane}
use Rattle.nr_pair_laws.specs.FilesAt.{content_at}
use Rattle.nr_pair_laws.proofs.Numbers.{below_at}
use Rattle.nr_pair_laws.proofs.Paths.{content_node}
use Rattle.nr_text_laws.specs.CommandTexts.{FitFields}
use Rattle.nr_text_laws.specs.Fitting.{EntriesOfCallsFit, AttributesOfCallsFit, HasWords, IsInWords}
use Rattle.nr_text_laws.proofs.Words.{words_at}

-- the node of a handle stands under its number
at_number : (b : Bool) (o : Option Node) (node : Node) → cond b o None ≡ Some node → o ≡ Some node
at_number true o node e = e
at_number false o node e = absurd cc

under_number : (t : Tree) (h : List ℕ) (node : Node) → node_of_handle t h ≡ Some node → get t.nodes (number_of_handle h) ≡ Some node
under_number t h node e = at_number (eqb (length h) 8) (get t.nodes (number_of_handle h)) node e

-- ---- Entries

ascends : (es : List DirectoryEntry) (from next : ℕ) → CookiesAscend from es next → from ≤ next
ascends [] from next a = a
ascends (e ∷ es) from next (low, rest) = let more = ascends es (e.cookie + 1) next rest in omega (arith, low, more)

cookies_fit : (es : List DirectoryEntry) (from next : ℕ) → CookiesAscend from es next → next < 2 ^ 63 → Each (λ (e : DirectoryEntry). e.cookie < 2 ^ 63) es
cookies_fit [] from next a few = tt
cookies_fit (e ∷ es) from next (low, rest) few = ((let more = ascends es (e.cookie + 1) next rest in omega (arith, more, few)), cookies_fit es (e.cookie + 1) next rest few)

module _ (t : Tree) (sane : IsSane t) (below : IsBelow (2 ^ 63) t) where
  live_number : (n : ℕ) → (skeleton t).live n ≡ true → n < 2 ^ 63
  live_number n live = let given = (sane.skeleton.numbers n live).1 in let few = below.next in omega (arith, given, few)

  both_fit : (es : List DirectoryEntry) → Each (λ (e : DirectoryEntry). e.cookie < 2 ^ 63) es → Each (λ (e : DirectoryEntry). (skeleton t).live e.number ≡ true) es
      → Each (λ (e : DirectoryEntry). (e.cookie < 2 ^ 64) × (e.number < 2 ^ 64)) es
  both_fit [] cookies names = tt
  both_fit (e ∷ es) (cookie, cookies) (live, names) = (((omega (arith, cookie)), (let number = live_number e.number live in omega (arith, number))), both_fit es cookies names)

  entries_fit : (h : List ℕ) (entries : Entries) → content_at t h ≡ Some (Directory entries) → Each (λ (e : DirectoryEntry). (e.cookie < 2 ^ 64) × (e.number < 2 ^ 64)) entries.list
  entries_fit h entries is =
      let found = content_node t h (Directory entries) is in
      let there : get t.nodes (number_of_handle h) ≡ Some found.0 = under_number t h found.0 found.1.0 in
      let valid : IsValidContent (Directory entries) = subst (λ (c : Content). IsValidContent c) found.1.1 (sane.contents (number_of_handle h) found.0 there) in
      let few : entries.next_cookie < 2 ^ 63 = subst (λ (c : Content). next_cookie_of c < 2 ^ 63) found.1.1 (below.cookies (number_of_handle h) found.0 there) in
      let same : (skeleton t).entries (number_of_handle h) ≡ entries.list = ap (λ (o : Option Node). option_map_or entries_in o []) there ∙ ap (λ (c : Content). entries_of c) found.1.1 in
      both_fit entries.list (cookies_fit entries.list 1 entries.next_cookie valid.0 few)
      (subst (λ (es : List DirectoryEntry). Each (λ (e : DirectoryEntry). (skeleton t).live e.number ≡ true) es) same (sane.skeleton.names_live (number_of_handle h)))

  -- ---- Attributes

  size_fits : (c : Content) → IsValidContent c → length (bytes_of c) < 2 ^ 64
  size_fits (Regular bytes) valid = omega (arith, valid)
  size_fits (Directory entries) valid = omega arith
  size_fits (Block device) valid = omega arith
  size_fits (Character device) valid = omega arith
  size_fits (Link path) valid = let most = valid.1 in omega (arith, most)
  size_fits Socket valid = omega arith
  size_fits Fifo valid = omega arith

  node_fits : (n : ℕ) (node : Node) → get t.nodes n ≡ Some node → HasWords node.metadata → FitFields (attributes_of n node)
  node_fits n node there words =
      let live : (skeleton t).live n ≡ true = ap (λ (o : Option Node). option_map_or (λ (v : Node). true) o false) there in
      let links : (skeleton t).links n ≡ node.metadata.links = ap (λ (o : Option Node). option_map_or (λ (v : Node). v.metadata.links) o 0) there in
      let most : (skeleton t).links n ≤ 65535 = sane.skeleton.links_limit n live in
      let number = live_number n live in
      record {
        mode = words.mode;
        nlink = omega (arith, links, most);
        uid = words.uid;
        gid = words.gid;
        size = size_fits node.content (sane.contents n node there);
        fileid = omega (arith, number);
      }

  attributes_fit : IsInWords t → (h : List ℕ) (a : Attributes) → attributes_at t h ≡ Some a → FitFields a
  attributes_fit words h a is = by (node_of_handle t h) refl is
    where
      by : (o : Option Node) → node_of_handle t h ≡ o → option_map (attributes_of (number_of_handle h)) o ≡ Some a → FitFields a
      by None e wrong = absurd cc
      by (Some node) e same =
          let there : get t.nodes (number_of_handle h) ≡ Some node = under_number t h node e in
          let are : attributes_of (number_of_handle h) node ≡ a = cc in
          subst (λ (x : Attributes). FitFields x) are (node_fits (number_of_handle h) node there (words (number_of_handle h) node there))

-- ---- At each place of a journal

pub entries_of_calls_fit_lem : EntriesOfCallsFit
entries_of_calls_fit_lem s J sane calls below few k = entries_fit (tree_at s J k) (tree_sane s J k sane) (below_at s J calls below few k)

pub attributes_of_calls_fit_lem : AttributesOfCallsFit
attributes_of_calls_fit_lem s J sane words calls below few k = attributes_fit (tree_at s J k) (tree_sane s J k sane) (below_at s J calls below few k) (words_at s J k calls words)
