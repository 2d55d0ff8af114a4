-- The rules of listings: what is asked of room, by the sizes that the code counts.
use Rattle.std.proofs.Common.{◌≡◌, ℕ, ◌+◌, ◌-◌, ◌<◌, ◌≤◌, Bool, true, false, not, leb, eqb, ◌&&◌, List, [], ◌∷◌, length, take, drop, Option, None, Some, Result, Ok, Err, MatchResult, refl, ap, sym, ◌∙◌, subst, arith, inl, inr, ◌⊎◌}
use Rattle.std.specs.Prelude.{min, SomeIff}
use Rattle.std.specs.Option.{option_map_or}
use Rattle.std.proofs.lemmas.Bool.{le-leb, lt-leb, eq-eqb, ne_eqb, cases_eq}
use Rattle.std.proofs.lemmas.List.{length-take, length-drop}
use Rattle.std.proofs.lemmas.Bool.Decides.{leb_tells}
use Rattle.nr_nfs_base.specs.declared.attributes.Attributes.{Attributes}
use Rattle.nr_nfs_base.specs.declared.caller.Caller.{Caller}
use Rattle.nr_nfs_base.specs.declared.verifier.Verifier.{Verifier}
use Rattle.nr_nfs_base.specs.declared.status_union.StatusUnion.{StatusUnion}
use Rattle.nr_nfs_base.specs.declared.status_union.StatusUnion.TheVariants.{Done, Failed}
use Rattle.nr_nfs_res.specs.declared.readdir.Listing.{Listing}
use Rattle.nr_nfs_base.specs.declared.status.Status.{Status}
use Rattle.nr_nfs_base.specs.declared.status.Status.TheVariants.{Toosmall}
use Rattle.nr_nfs_args.specs.declared.readdir.ReaddirArgs.{ReaddirArgs}
use Rattle.nr_nfs_args.specs.declared.readdir.ReaddirplusArgs.{ReaddirplusArgs}
use Rattle.nr_tree.specs.Entries.{Entry, Entries, NamesAreValid}
use Rattle.nr_tree.specs.Listing.{entries_after}
use Rattle.nr_tree.specs.Tree.{Tree, entries_in, entries_of}
use Rattle.nr_tree.specs.Sane.{IsSane, IsValidContent}
use Rattle.nr_tree.specs.Rules.{first, or_else, on, ◌⇒◌, answer, handle_rule, node_of_handle, number_of_handle}
use Rattle.nr_tree.specs.Replies.{attributes_at}
use Rattle.nr_tree.specs.declared.node.Node.{Node}
use Rattle.nr_tree.specs.declared.node.Content.{Content}
use Rattle.nr_tree.specs.declared.node.Content.TheVariants.{Directory}
use Rattle.nr_tree.proofs.PassedRules.{got}
use Rattle.nr_ops_list.specs.Readdir.{longest, goes_on, total, name_size, entries_behind, listing_rules, room_rules, listed, readdir_fits, readdir_reply, listed_plus, readdirplus_fits, readdirplus_reply}
use Rattle.nr_nfs_base.specs.Limits.{listing_max}
use Rattle.nr_ops_list.specs.private.Sizes.{entry_size, size_in, empty_size, within, are_within, IsRange, rules_by, listing_of, reply_by}
use Rattle.nr_ops_list.specs.declared.listings.Limits.{Limits}
use Rattle.nr_ops_list.specs.declared.listings.Range.{Range}
use Rattle.nr_ops_list.specs.declared.listings.Detail.TheVariants.{Names, Nodes}
use Rattle.nr_ops_list.proofs.Sizes.{readdir_size, readdirplus_size}
use Rattle.nr_ops_list.proofs.Counting.{longest_same}

-- ===== what a listing's rules come to

or_none : (o : Option Status) → or_else o None ≡ o
or_none None = refl
or_none (Some s) = refl

-- if the rules of the directory pass, those of room answer
pub rules_of_room : (t : Tree) (h : List ℕ) (v : Node) (rest : Node → List (Option Status)) (listing : Option Status) (room : List (Option Status)) → handle_rule t h ≡ None → node_of_handle t h ≡ Some v
    → rest v ≡ listing ∷ first room ∷ [] → listing ≡ None → first (handle_rule t h ∷ on (node_of_handle t h) rest) ≡ first room
rules_of_room t h v rest listing room handled named is passed =
    (λ i. or_else (handled i) (first (on (named i) rest))) ∙ ap first is ∙ (λ i. or_else (passed i) (or_else (first room) None)) ∙ or_none (first room)

module _ (fits : List Entry → Bool) (left : List Entry) where
  pub room_wanting : fits [] ≡ false → first (room_rules fits left) ≡ Some Toosmall
  room_wanting none = λ i. or_else (not (none i) ⇒ Toosmall) (or_else (not (goes_on (longest fits [] left) left) ⇒ Toosmall) None)

  pub room_by : (other : List Entry → Bool) (b : Bool) → ((es : List Entry) → fits es ≡ other es) → fits [] ≡ true → goes_on (longest other [] left) left ≡ b → first (room_rules fits left) ≡ (not b ⇒ Toosmall)
  room_by other b same some goes =
      (λ i. or_else (not (some i) ⇒ Toosmall) (or_else (not (goes_on (longest fits [] left) left) ⇒ Toosmall) None)) ∙ or_none (not (goes_on (longest fits [] left) left) ⇒ Toosmall)
      ∙ ap (λ (l : List Entry). not (goes_on l left) ⇒ Toosmall) (longest_same fits other same [] left) ∙ ap (λ (x : Bool). not x ⇒ Toosmall) goes

-- ===== sizes

names_within : (t : Tree) (es : List Entry) → total name_size es ≤ total (size_in t Names) es
names_within t [] = omega arith
names_within t (e ∷ es) = omega (arith, names_within t es)

-- a bound of the results is a bound of the entries
part_by : (most size : ℕ) → empty_size ≤ most → ((leb size (most - empty_size) ≡ true) × (size ≤ most - empty_size)) ⊎ ((leb size (most - empty_size) ≡ false) × (most - empty_size < size))
    → leb (empty_size + size) most ≡ leb size (most - empty_size)
part_by most size le (inl p) = le-leb (empty_size + size) most (omega (arith, le, p.1)) ∙ sym p.0
part_by most size le (inr p) = lt-leb (empty_size + size) most (omega (arith, le, p.1)) ∙ sym p.0

part : (most size : ℕ) → empty_size ≤ most → leb (empty_size + size) most ≡ leb size (most - empty_size)
part most size le = part_by most size le (leb_tells size (most - empty_size))

and_true : (most size names limit : ℕ) → names ≤ size → most ≤ limit → ((leb size most ≡ true) × (size ≤ most)) ⊎ ((leb size most ≡ false) × (most < size)) → leb size most ≡ (leb size most && leb names limit)
and_true most size names limit le within_limit (inl p) = p.0 ∙ (λ i. sym p.0 i && sym (le-leb names limit (omega (arith, le, within_limit, p.1))) i)
and_true most size names limit le within_limit (inr p) = p.0 ∙ (λ i. sym p.0 i && leb names limit)

min_within : (n : ℕ) → min n listing_max ≤ listing_max
min_within n = omega arith

-- ===== READDIR

module _ (t : Tree) (args : ReaddirArgs) (v : Node) (named : node_of_handle t args.dir ≡ Some v) where
  abbrev limits : Limits
  limits = record { detail = Names; entries = min args.count listing_max - empty_size; names = 4294967295 }

  size_is : (es : List Entry) → readdir_fits t args es ≡ leb (empty_size + total entry_size es) (min args.count listing_max)
  size_is es = ap (λ (n : ℕ). leb n (min args.count listing_max)) (readdir_size t args.dir v es false named)

  same_test : empty_size ≤ min args.count listing_max → (es : List Entry) → readdir_fits t args es ≡ within t limits es
  same_test le es =
      size_is es ∙ part (min args.count listing_max) (total entry_size es) le
      ∙ and_true (min args.count listing_max - empty_size) (total entry_size es) (total name_size es) 4294967295 (names_within t es) (omega (arith, min_within args.count)) (leb_tells (total entry_size es) (min args.count listing_max - empty_size))

  pub readdir_within : (o : Option Limits) → SomeIff o (empty_size ≤ min args.count listing_max) limits → (es : List Entry) → are_within t o es ≡ readdir_fits t args es
  readdir_within None above es = sym (size_is es ∙ lt-leb (empty_size + total entry_size es) (min args.count listing_max) (omega (arith, above)))
  readdir_within (Some l) is es = ap (λ (k : Limits). within t k es) is.1 ∙ sym (same_test is.0 es)

-- ===== READDIRPLUS

module _ (t : Tree) (args : ReaddirplusArgs) (v : Node) (named : node_of_handle t args.dir ≡ Some v) where
  abbrev limits_plus : Limits
  limits_plus = record { detail = Nodes; entries = min args.maxcount listing_max - empty_size; names = args.dircount }

  size_plus : (es : List Entry) → readdirplus_fits t args es ≡ (leb (empty_size + total (size_in t Nodes) es) (min args.maxcount listing_max) && leb (total name_size es) args.dircount)
  size_plus es = ap (λ (n : ℕ). leb n (min args.maxcount listing_max) && leb (total name_size es) args.dircount) (readdirplus_size t args.dir v es false named)

  same_test_plus : empty_size ≤ min args.maxcount listing_max → (es : List Entry) → readdirplus_fits t args es ≡ within t limits_plus es
  same_test_plus le es = size_plus es ∙ ap (λ (b : Bool). b && leb (total name_size es) args.dircount) (part (min args.maxcount listing_max) (total (size_in t Nodes) es) le)

  pub readdirplus_within : (o : Option Limits) → SomeIff o (empty_size ≤ min args.maxcount listing_max) limits_plus → (es : List Entry) → are_within t o es ≡ readdirplus_fits t args es
  readdirplus_within None above es = sym (size_plus es ∙ ap (λ (b : Bool). b && leb (total name_size es) args.dircount) (lt-leb (empty_size + total (size_in t Nodes) es) (min args.maxcount listing_max) (omega (arith, above))))
  readdirplus_within (Some l) is es = ap (λ (k : Limits). within t k es) is.1 ∙ sym (same_test_plus is.0 es)

-- ===== what is listed

-- of a sane tree, a directory's names are valid
pub names_valid : (t : Tree) (h : List ℕ) (v : Node) (d : Entries) → IsSane t → node_of_handle t h ≡ Some v → v.content ≡ Directory d → NamesAreValid d.list
names_valid t h v d sane named is = (subst IsValidContent is (sane.contents (number_of_handle h) v (got t h v named))).1

pub range_is : (a b taken taken_too left left_too : List Entry) (start end : ℕ) → a ≡ b → taken ≡ taken_too → left ≡ left_too → IsRange a start end taken left → IsRange b start end taken_too left_too
range_is a b taken taken_too left left_too start end p q r = subst (λ (k : List Entry × (List Entry × List Entry)). IsRange k.0 start end k.1.0 k.1.1) (λ i. (p i, (q i, r i)))

pub matched : {A E : Type 0} (P R : A → Type 0) (Q S : E → Type 0) (r : Result A E) → ((x : A) → P x → R x) → ((e : E) → Q e → S e) → MatchResult r P Q → MatchResult r R S
matched P R Q S (Ok x) ok err m = ok x m
matched P R Q S (Err e) ok err m = err e m

-- what the code found: the entries to list, or the first refusal
abbrev pub Answered : Tree → Caller → List ℕ → ℕ → Verifier → (List Entry → Bool) → Result Range Status → Type 0
Answered t c h cookie verifier fits r =
    MatchResult r
    (λ x. (first (rules_by t c h cookie verifier fits) ≡ None) × NamesAreValid x.dir.now.list × IsRange x.dir.now.list x.start x.end (longest fits [] (entries_behind t h cookie)) (entries_behind t h cookie))
    (λ s. first (rules_by t c h cookie verifier fits) ≡ Some s)

module _ (t : Tree) (c : Caller) (h : List ℕ) (cookie : ℕ) (verifier : Verifier) (v : Node) (handled : handle_rule t h ≡ None) (named : node_of_handle t h ≡ Some v)
    (passed : first (listing_rules c cookie verifier v) ≡ None) where
  rules_are : (fits : List Entry → Bool) → first (rules_by t c h cookie verifier fits) ≡ first (room_rules fits (entries_behind t h cookie))
  rules_are fits =
      rules_of_room t h v (λ dir. first (listing_rules c cookie verifier dir) ∷ first (room_rules fits (entries_behind t h cookie)) ∷ [])
      (first (listing_rules c cookie verifier v)) (room_rules fits (entries_behind t h cookie)) handled named refl passed

  pub refused_without_limits : first (rules_by t c h cookie verifier (are_within t None)) ≡ Some Toosmall
  refused_without_limits = rules_are (are_within t None) ∙ room_wanting (are_within t None) (entries_behind t h cookie) refl

  module _ (d : Entries) (sane : IsSane t) (is : v.content ≡ Directory d) (l : Limits) where
    left_is : entries_behind t h cookie ≡ entries_after cookie d.list
    left_is = ap (λ (o : Option Node). option_map_or (λ dir. entries_after cookie (entries_in dir)) o []) named ∙ ap (λ (k : Content). entries_after cookie (entries_of k)) is

    taken_is : longest (within t l) [] (entries_behind t h cookie) ≡ longest (within t l) [] (entries_after cookie d.list)
    taken_is = ap (longest (within t l) []) left_is

    answer_is : (b : Bool) → goes_on (longest (within t l) [] (entries_after cookie d.list)) (entries_after cookie d.list) ≡ b → first (rules_by t c h cookie verifier (within t l)) ≡ (not b ⇒ Toosmall)
    answer_is b goes =
        rules_are (within t l)
        ∙ room_by (within t l) (entries_behind t h cookie) (within t l) b (λ es. refl) (λ i. le-leb 0 l.entries (omega arith) i && le-leb 0 l.names (omega arith) i)
        (ap (λ (k : List Entry). goes_on (longest (within t l) [] k) k) left_is ∙ goes)

    lists : (x : Range) → (x.dir.now ≡ d) × IsRange d.list x.start x.end (longest (within t l) [] (entries_after cookie d.list)) (entries_after cookie d.list)
        → (first (rules_by t c h cookie verifier (within t l)) ≡ None) × NamesAreValid x.dir.now.list × IsRange x.dir.now.list x.start x.end (longest (within t l) [] (entries_behind t h cookie)) (entries_behind t h cookie)
    lists x k =
        let same : x.dir.now.list ≡ d.list = ap (λ (e : Entries). e.list) k.0 in (
          answer_is true k.1.goes,
          subst NamesAreValid (sym same) (names_valid t h v d sane named is),
          range_is d.list x.dir.now.list (longest (within t l) [] (entries_after cookie d.list)) (longest (within t l) [] (entries_behind t h cookie)) (entries_after cookie d.list) (entries_behind t h cookie) x.start x.end (sym same) (sym taken_is) (sym left_is) k.1,
        )

    refuses : (s : Status) → (s ≡ Toosmall) × (goes_on (longest (within t l) [] (entries_after cookie d.list)) (entries_after cookie d.list) ≡ false) → first (rules_by t c h cookie verifier (within t l)) ≡ Some s
    refuses s k = answer_is false k.1 ∙ ap (λ (x : Status). Some x) (sym k.0)

    pub answers_within : (r : Result Range Status)
        → MatchResult r
        (λ x. (x.dir.now ≡ d) × IsRange d.list x.start x.end (longest (within t l) [] (entries_after cookie d.list)) (entries_after cookie d.list))
        (λ s. (s ≡ Toosmall) × (goes_on (longest (within t l) [] (entries_after cookie d.list)) (entries_after cookie d.list) ≡ false))
        → Answered t c h cookie verifier (within t l) r
    answers_within r m = matched _ _ _ _ r lists refuses m

-- ===== the end of a listing

eqb_by : (a b c d : ℕ) → (a ≡ b → c ≡ d) → (c ≡ d → a ≡ b) → (a ≡ b) ⊎ (a ≡ b → ⊥) → eqb a b ≡ eqb c d
eqb_by a b c d to from (inl e) = eq-eqb a b e ∙ sym (eq-eqb c d (to e))
eqb_by a b c d to from (inr ne) = ne_eqb a b ne ∙ sym (ne_eqb c d (λ e. ne (from e)))

pub range_ends : (list : List Entry) (start end : ℕ) (taken left : List Entry) → IsRange list start end taken left → eqb end (length list) ≡ eqb (length taken) (length left)
range_ends list start end taken left is =
    let some : length taken ≡ end - start = ap length (sym is.taken_are) ∙ length-take (end - start) (drop start list) ∙ (let rest : length (drop start list) ≡ length list - start = length-drop start list in omega (arith, rest, is.rises, is.bounded)) in
    let all : length left ≡ length list - start = ap length (sym is.left_are) ∙ length-drop start list in
    eqb_by end (length list) (length taken) (length left) (λ e. omega (arith, some, all, e)) (λ e. omega (arith, some, all, e, is.rises, is.bounded)) (cases_eq end (length list))

-- ===== the results

-- what is said of the range that was found
pub listing_reply : {E : Type 0} (t : Tree) (c : Caller) (h : List ℕ) (cookie : ℕ) (verifier : Verifier) (fits : List Entry → Bool) (said : Entry → E) (attributes : Option Attributes) (list : List Entry) (start end : ℕ)
    → attributes ≡ attributes_at t h → first (rules_by t c h cookie verifier fits) ≡ None → IsRange list start end (longest fits [] (entries_behind t h cookie)) (entries_behind t h cookie)
    → reply_by t c h cookie verifier fits said ≡ Done (listing_of attributes said (take (end - start) (drop start list)) (eqb end (length list)))
listing_reply t c h cookie verifier fits said attributes list start end there none is =
    let taken : List Entry = longest fits [] (entries_behind t h cookie) in
    let left : List Entry = entries_behind t h cookie in
    let ends : eqb end (length list) ≡ eqb (length taken) (length left) = range_ends list start end taken left is in
    ap (λ (o : Option Status). answer o (λ (s : Status). Failed s (attributes_at t h)) (Done (listing_of (attributes_at t h) said taken (eqb (length taken) (length left))))) none
    ∙ (λ i. Done (listing_of (sym there i) said (sym is.taken_are i) (sym ends i)))

pub refused_reply : {E : Type 0} (t : Tree) (c : Caller) (h : List ℕ) (cookie : ℕ) (verifier : Verifier) (fits : List Entry → Bool) (said : Entry → E) (attributes : Option Attributes) (s : Status)
    → attributes ≡ attributes_at t h → first (rules_by t c h cookie verifier fits) ≡ Some s → reply_by t c h cookie verifier fits said ≡ Failed s attributes
refused_reply t c h cookie verifier fits said attributes s there refused =
    let taken : List Entry = longest fits [] (entries_behind t h cookie) in
    let left : List Entry = entries_behind t h cookie in
    ap (λ (o : Option Status). answer o (λ (s : Status). Failed s (attributes_at t h)) (Done (listing_of (attributes_at t h) said taken (eqb (length taken) (length left))))) refused
    ∙ ap (λ (a : Option Attributes). Failed s a) (sym there)

-- the results by the node that the handle names
abbrev reply_in : {E : Type 0} → Option Node → Option Status → Option Attributes → Caller → ℕ → Verifier → (Entry → E) → (List Entry → Bool) → StatusUnion (Listing E) (Option Attributes) Status
reply_in o handled attributes c cookie verifier said fits =
    let left : List Entry = option_map_or (λ dir. entries_after cookie (entries_in dir)) o [] in
    let taken : List Entry = longest fits [] left in
    answer (first (handled ∷ on o (λ dir. first (listing_rules c cookie verifier dir) ∷ first (room_rules fits left) ∷ []))) (λ (s : Status). Failed s attributes)
    (Done (listing_of attributes said taken (eqb (length taken) (length left))))

reply_same : {E : Type 0} (o : Option Node) (handled : Option Status) (attributes : Option Attributes) (c : Caller) (cookie : ℕ) (verifier : Verifier) (said : Entry → E) (fits other : List Entry → Bool)
    → ((v : Node) → o ≡ Some v → (es : List Entry) → fits es ≡ other es) → reply_in o handled attributes c cookie verifier said fits ≡ reply_in o handled attributes c cookie verifier said other
reply_same None handled attributes c cookie verifier said fits other same = refl
reply_same (Some v) handled attributes c cookie verifier said fits other same =
    ap (reply_in (Some v) handled attributes c cookie verifier said) (λ i. λ (es : List Entry). same v refl es i)

pub readdir_reply_is : (t : Tree) (c : Caller) (args : ReaddirArgs) (o : Option Limits) (h : List ℕ) → h ≡ args.dir
    → SomeIff o (empty_size ≤ min args.count listing_max) (record { detail = Names; entries = min args.count listing_max - empty_size; names = 4294967295 })
    → reply_by t c h args.cookie args.verifier (are_within t o) listed ≡ readdir_reply t c args
readdir_reply_is t c args o h same is =
    ap (λ (k : List ℕ). reply_by t c k args.cookie args.verifier (are_within t o) listed) same
    ∙ reply_same (node_of_handle t args.dir) (handle_rule t args.dir) (attributes_at t args.dir) c args.cookie args.verifier listed (are_within t o) (readdir_fits t args) (λ v named. readdir_within t args v named o is)

pub readdirplus_reply_is : (t : Tree) (c : Caller) (args : ReaddirplusArgs) (o : Option Limits) (h : List ℕ) → h ≡ args.dir
    → SomeIff o (empty_size ≤ min args.maxcount listing_max) (record { detail = Nodes; entries = min args.maxcount listing_max - empty_size; names = args.dircount })
    → reply_by t c h args.cookie args.verifier (are_within t o) (listed_plus t) ≡ readdirplus_reply t c args
readdirplus_reply_is t c args o h same is =
    ap (λ (k : List ℕ). reply_by t c k args.cookie args.verifier (are_within t o) (listed_plus t)) same
    ∙ reply_same (node_of_handle t args.dir) (handle_rule t args.dir) (attributes_at t args.dir) c args.cookie args.verifier (listed_plus t) (are_within t o) (readdirplus_fits t args) (λ v named. readdirplus_within t args v named o is)
