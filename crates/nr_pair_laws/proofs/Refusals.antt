-- Which rules of LOOKUP, GETATTR and READ refuse a call where a path leads to a regular file.
use Rattle.std.proofs.Common.{◌≡◌, ℕ, ◌≤◌, ◌<◌, ◌||◌, ◌&&◌, Bool, true, false, not, cond, eqb, ltb, List, [], ◌∷◌, ◌++◌, length, Option, None, Some, refl, ap, sym, ◌∙◌, subst, arith, le-ltb, ne_eqb, unwrap_or}
use Rattle.std.specs.Prelude.{is_none}
use Rattle.std.specs.Option.{option_and_then, option_map}
use Rattle.std.specs.Cmp.Lexicographic.{same_text}
use Rattle.std.specs.FinMap.{get}
use Rattle.std.proofs.lemmas.Bool.{lt-ltb}
use Rattle.std.proofs.lemmas.Option.{same_Some}
use Rattle.nr_nfs_base.specs.Limits.{name_length_max}
use Rattle.nr_nfs_base.specs.declared.attributes.Attributes.{Attributes}
use Rattle.nr_nfs_base.specs.declared.caller.Caller.{Caller}
use Rattle.nr_nfs_base.specs.declared.status.Status.{Status}
use Rattle.nr_nfs_base.specs.declared.status.Status.TheVariants.{Acces, Badhandle, Inval, Isdir, Nametoolong, Noent, Notdir, Stale}
use Rattle.nr_nfs_base.specs.declared.status_union.StatusUnion.{StatusUnion}
use Rattle.nr_nfs_base.specs.declared.status_union.StatusUnion.TheVariants.{Done, Failed}
use Rattle.nr_nfs_args.specs.declared.bytes.ReadArgs.{ReadArgs}
use Rattle.nr_nfs_args.specs.declared.lookup.LookupArgs.{LookupArgs}
use Rattle.nr_tree.specs.Entries.{Entry, NamesAreValid, entry_of_name, is_name}
use Rattle.nr_tree.specs.Replies.{attributes_at}
use Rattle.nr_tree.specs.Rules.{answer, first, handle_of, handle_rule, has_byte, is_dot, is_dot_dot, may, name_rules, node_of_handle, number_of_handle, on, or_else, was_given, ◌⇒◌}
use Rattle.nr_tree.specs.Sane.{IsSane, IsValidContent}
use Rattle.nr_tree.specs.Tree.{Tree, attributes_of, entries_in, entries_of, is_dir, is_directory, is_regular_content}
use Rattle.nr_tree.specs.declared.node.Content.{Content}
use Rattle.nr_tree.specs.declared.node.Content.TheVariants.{Block, Character, Directory, Fifo, Link, Regular, Socket}
use Rattle.nr_tree.specs.declared.node.Node.{Node}
use Rattle.nr_tree.specs.declared.rules.Right.TheVariants.{Execute, Read}
use Rattle.nr_tree.proofs.PassedRules.{got}
use Rattle.nr_tree.proofs.SkeletonChanges.{value_at_at}
use Rattle.nr_ops_file.specs.Attributes.{getattr_done, getattr_reply}
use Rattle.nr_ops_file.specs.Bytes.{read_done, read_of, read_reply, read_rules}
use Rattle.nr_ops_list.specs.Lookup.{found_by, lookup_in, lookup_ok, lookup_reply, lookup_rules, number_of_name}
use Rattle.nr_plain.specs.Journal.{tree_at}
use Rattle.nr_plain.proofs.SaneTrees.{tree_sane}
use Rattle.nr_pair_laws.specs.FilesAt.{handle_along, handle_in}
use Rattle.nr_pair_laws.specs.PutThenGet.{root_handle}
use Rattle.nr_pair_laws.specs.Refusals.{FilesRefuseForRights, IsLookupRefusal}
use Rattle.nr_pair_laws.specs.Refusals.IsLookupRefusal.{NoRightToSearch, NotADirectory, NotAName}
use Rattle.nr_pair_laws.proofs.Kept.{file_kept, kept}
use Rattle.nr_pair_laws.proofs.Paths.{along_append, content_node}

-- a failure is one for which a rule refuses
answer_failed : {D F : Type 0} (o : Option Status) (fail : Status → F) (x : D) (status : Status) (part : F) → answer {R = StatusUnion D F Status} o (λ s. Failed s (fail s)) (Done x) ≡ Failed status part → o ≡ Some status
answer_failed None fail x status part e = absurd cc
answer_failed (Some s) fail x status part e = let same : s ≡ status = cc in ap (λ (k : Status). Some k) same

-- ---- The handle of a node

pub node_there : (t : Tree) (h : List ℕ) (v : Node) → node_of_handle t h ≡ Some v → eqb (length h) 8 ≡ true
node_there t h v is = by (eqb (length h) 8) refl is
  where
    by : (b : Bool) → eqb (length h) 8 ≡ b → cond b (get t.nodes (number_of_handle h)) None ≡ Some v → eqb (length h) 8 ≡ true
    by true same there = same
    by false same none = absurd cc

-- its rule lets it through
handle_passes : (t : Tree) (h : List ℕ) (v : Node) → IsSane t → node_of_handle t h ≡ Some v → handle_rule t h ≡ None
handle_passes t h v sane is =
    let n = number_of_handle h in
    let range = sane.skeleton.numbers n (value_at_at (λ node. true) false t.nodes n v (got t h v is)) in
    let given : was_given t h ≡ true = λ i. node_there t h v is i && (lt-ltb 0 n range.0 i && lt-ltb n t.next range.1 i) in
    ap (λ (b : Bool). cond b (is_none (node_of_handle t h) ⇒ Stale) (Some Badhandle)) given ∙ ap (λ (o : Option Node). is_none o ⇒ Stale) is

-- ---- LOOKUP

valid_entries : (c : Content) → IsValidContent c → NamesAreValid (entries_of c)
valid_entries (Regular bytes) valid = tt
valid_entries (Directory entries) valid = valid.1
valid_entries (Block device) valid = tt
valid_entries (Character device) valid = tt
valid_entries (Link path) valid = tt
valid_entries Socket valid = tt
valid_entries Fifo valid = tt

-- a length that a name may have
HasNameLength : List ℕ → Type 0
HasNameLength name = (0 < length name) × (length name ≤ name_length_max)

found_length : (name : List ℕ) (es : List Entry) (e : Entry) → NamesAreValid es → entry_of_name name es ≡ Some e → HasNameLength name
unfolding HasNameLength
found_length name [] e valid is = absurd cc
found_length name (x ∷ es) e valid is = by (is_name name x) refl is (λ rest. found_length name es e valid.3 rest)
  where
    by : (b : Bool) → is_name name x ≡ b → cond b (Some x) (entry_of_name name es) ≡ Some e → (entry_of_name name es ≡ Some e → HasNameLength name) → HasNameLength name
    by true same here goes = subst HasNameLength (sym (same_text name x.name (sym same))) (valid.0, valid.1)
    by false other later goes = goes later

number_length : (n : ℕ) (name : List ℕ) (v : Node) (k : ℕ) → NamesAreValid (entries_in v) → number_of_name n name v ≡ Some k → HasNameLength name
unfolding HasNameLength
number_length n name v k valid is = dot (is_dot name) refl is
  where
    named : (o : Option Entry) → entry_of_name name (entries_in v) ≡ o → option_map (λ (e : Entry). e.number) o ≡ Some k → HasNameLength name
    named None same none = absurd cc
    named (Some e) same some = found_length name (entries_in v) e valid same

    dots : (b : Bool) → is_dot_dot name ≡ b → cond b (Some v.parent) (option_map (λ (e : Entry). e.number) (entry_of_name name (entries_in v))) ≡ Some k → HasNameLength name
    dots true same there = subst HasNameLength (sym (same_text name (46 ∷ 46 ∷ []) (sym same))) (omega arith, omega arith)
    dots false other there = named (entry_of_name name (entries_in v)) refl there

    dot : (b : Bool) → is_dot name ≡ b → cond b (Some n) (cond (is_dot_dot name) (Some v.parent) (option_map (λ (e : Entry). e.number) (entry_of_name name (entries_in v)))) ≡ Some k → HasNameLength name
    dot true same there = subst HasNameLength (sym (same_text name (46 ∷ []) (sym same))) (omega arith, omega arith)
    dot false other there = dots (is_dot_dot name) refl there

-- so a name that leads somewhere in a sane tree isn't too long
pub name_long : (t : Tree) (dir name : List ℕ) (v : Node) (k : ℕ) → IsSane t → node_of_handle t dir ≡ Some v → number_of_name (number_of_handle dir) name v ≡ Some k → length name ≤ name_length_max
unfolding HasNameLength
name_long t dir name v k sane there is =
    (number_length (number_of_handle dir) name v k (valid_entries v.content (sane.contents (number_of_handle dir) v (got t dir v there))) is).1

-- the bytes that no name has
abbrev has_bad_byte : List ℕ → Bool
has_bad_byte name = has_byte 0 name || has_byte 47 name

name_rule : (name : List ℕ) → HasNameLength name → first (name_rules name) ≡ or_else (has_bad_byte name ⇒ Acces) None
unfolding HasNameLength
name_rule name long =
    let some : eqb (length name) 0 ≡ false = ne_eqb (length name) 0 (λ none. let less = long.0 in absurd (omega (arith, none, less))) in
    let few : ltb name_length_max (length name) ≡ false = le-ltb name_length_max (length name) long.1 in
    λ i. or_else (some i ⇒ Acces) (or_else (has_bad_byte name ⇒ Acces) (or_else (few i ⇒ Nametoolong) None))

refused_for : (c : Caller) (v : Node) (name : List ℕ) (status : Status) (d m bad : Bool) → is_dir v ≡ d → may c Execute v ≡ m → has_bad_byte name ≡ bad
    → or_else (not d ⇒ Notdir) (or_else (not m ⇒ Acces) (or_else (or_else (bad ⇒ Acces) None) None)) ≡ Some status → IsLookupRefusal c v name status
refused_for c v name status false m bad dir right byte is = NotADirectory (sym (same_Some Notdir status is)) dir
refused_for c v name status true false bad dir right byte is = NoRightToSearch (sym (same_Some Acces status is)) right
refused_for c v name status true true true dir right byte is = NotAName (sym (same_Some Acces status is)) byte
refused_for c v name status true true false dir right byte is = absurd cc

-- what is found in a directory
pub found_in_node : (t : Tree) (dir name g : List ℕ) → handle_in t dir name ≡ Some g → (v : Node) × ((node_of_handle t dir ≡ Some v) × ((k : ℕ) × (number_of_name (number_of_handle dir) name v ≡ Some k)))
found_in_node t dir name g is = by (node_of_handle t dir) refl is
  where
    number : (v : Node) (o : Option ℕ) → number_of_name (number_of_handle dir) name v ≡ o → option_map handle_of o ≡ Some g → (k : ℕ) × (number_of_name (number_of_handle dir) name v ≡ Some k)
    number v None same none = absurd cc
    number v (Some k) same some = (k, same)

    by : (o : Option Node) → node_of_handle t dir ≡ o → option_map handle_of (option_and_then (λ (d : Node). number_of_name (number_of_handle dir) name d) o) ≡ Some g
        → (v : Node) × ((node_of_handle t dir ≡ Some v) × ((k : ℕ) × (number_of_name (number_of_handle dir) name v ≡ Some k)))
    by None same none = absurd cc
    by (Some v) same some = (v, (same, number v (number_of_name (number_of_handle dir) name v) refl some))

lookup_refused : (t : Tree) (dir name g : List ℕ) (c : Caller) (status : Status) (part : Option Attributes) → IsSane t → handle_in t dir name ≡ Some g
    → lookup_reply t c (record { dir = dir; name = name }) ≡ Failed status part → (node : Node) × ((node_of_handle t dir ≡ Some node) × IsLookupRefusal c node name status)
lookup_refused t dir name g c status part sane leads e =
    let a : LookupArgs = record { dir = dir; name = name } in
    let f = found_in_node t dir name g leads in
    let v : Node = f.0 in
    let n = number_of_handle dir in
    let valid = valid_entries v.content (sane.contents n v (got t dir v f.1.0)) in
    let long = number_length n name v f.1.1.0 valid f.1.1.1 in
    let rules : first (lookup_rules t c a) ≡ Some status = answer_failed (first (lookup_rules t c a)) (λ s. attributes_at t dir) (lookup_ok t dir (unwrap_or (found_by t a) 0)) status part e in
    let by_node : first (lookup_rules t c a) ≡ first (lookup_in c n name v) =
    λ i. or_else (handle_passes t dir v sane f.1.0 i) (first (on (f.1.0 i) (lookup_in c n name))) in
    let by_name : first (lookup_in c n name v) ≡ or_else (not (is_dir v) ⇒ Notdir) (or_else (not (may c Execute v) ⇒ Acces) (or_else (or_else (has_bad_byte name ⇒ Acces) None) None)) =
    λ i. or_else (not (is_dir v) ⇒ Notdir) (or_else (not (may c Execute v) ⇒ Acces) (or_else (name_rule name long i) (or_else (is_none (f.1.1.1 i) ⇒ Noent) None))) in
    (v, (f.1.0, refused_for c v name status (is_dir v) (may c Execute v) (has_bad_byte name) refl refl refl (sym by_name ∙ sym by_node ∙ rules)))

-- ---- GETATTR and READ

getattr_passes : (t : Tree) (file : List ℕ) (v : Node) → IsSane t → node_of_handle t file ≡ Some v → getattr_reply t (record { object = file }) ≡ Done (attributes_of (number_of_handle file) v)
getattr_passes t file v sane is =
    λ i. answer {R = StatusUnion Attributes (Unit {0}) Status} (or_else (handle_passes t file v sane is i) None) (λ s. Failed s tt) (getattr_done (option_map (attributes_of (number_of_handle file)) (is i)))

no_right : (c : Caller) (v : Node) (status : Status) (m : Bool) → may c Read v ≡ m → or_else (not m ⇒ Acces) None ≡ Some status → (status ≡ Acces) × (may c Read v ≡ false)
no_right c v status true right is = absurd cc
no_right c v status false right is = (sym (same_Some Acces status is), right)

read_refused : (t : Tree) (c : Caller) (a : ReadArgs) (v : Node) (bytes : List ℕ) (status : Status) (part : Option Attributes) → IsSane t → node_of_handle t a.file ≡ Some v → v.content ≡ Regular bytes
    → read_reply t c a ≡ Failed status part → (status ≡ Acces) × (may c Read v ≡ false)
read_refused t c a v bytes status part sane is regular e =
    let rules : first (read_rules t c a) ≡ Some status = answer_failed (first (read_rules t c a)) (λ s. attributes_at t a.file) (read_done t a) status part e in
    let by_node : first (read_rules t c a) ≡ first (read_of c v) = λ i. or_else (handle_passes t a.file v sane is i) (first (on (is i) (read_of c))) in
    let by_content : first (read_of c v) ≡ or_else (not (may c Read v) ⇒ Acces) None =
    λ i. or_else (or_else (is_directory (regular i) ⇒ Isdir) (or_else (not (is_regular_content (regular i)) ⇒ Inval) None)) (or_else (not (may c Read v) ⇒ Acces) None) in
    no_right c v status (may c Read v) refl (sym by_content ∙ sym by_node ∙ rules)

-- ---- A path

pub next_leads : (t : Tree) (before after : List (List ℕ)) (name dir file : List ℕ) → handle_along t root_handle before ≡ Some dir → handle_along t root_handle (before ++ name ∷ after) ≡ Some file
    → (g : List ℕ) × (handle_in t dir name ≡ Some g)
next_leads t before after name dir file leads all =
    by (handle_in t dir name) refl
    (sym (along_append t root_handle before (name ∷ after) ∙ ap (λ (o : Option (List ℕ)). option_and_then (λ (h : List ℕ). handle_along t h (name ∷ after)) o) leads) ∙ all)
  where
    by : (o : Option (List ℕ)) → handle_in t dir name ≡ o → option_and_then (λ (h : List ℕ). handle_along t h after) o ≡ Some file → (g : List ℕ) × (handle_in t dir name ≡ Some g)
    by None same none = absurd cc
    by (Some g) same some = (g, same)

pub files_refuse_for_rights_lem : FilesRefuseForRights
files_refuse_for_rights_lem s J names bytes from place h sane rises keeps =
    let t : Tree = tree_at s J place in
    let whole : IsSane t = tree_sane s J place sane in
    let there = file_kept root_handle names (tree_at s J from) t h.file (Regular bytes) (kept s J root_handle names from place rises keeps) h.leads h.holds in
    let node = content_node t h.file (Regular bytes) there.1 in
    record {
      lookups = λ before after name dir is leads c status part e.
          let g = next_leads t before after name dir h.file leads (subst (λ (l : List (List ℕ)). handle_along t root_handle l ≡ Some h.file) (sym is) there.0) in
          lookup_refused t dir name g.0 c status part whole g.1 e;
      getattr = (attributes_of (number_of_handle h.file) node.0, getattr_passes t h.file node.0 whole node.1.0);
      reads = λ c a status part same e.
          let own : node_of_handle t a.file ≡ Some node.0 = ap (λ (f : List ℕ). node_of_handle t f) same ∙ node.1.0 in
          let why = read_refused t c a node.0 bytes status part whole own node.1.1 e in
          (why.0, (node.0, (node.1.0, why.1)));
    }
