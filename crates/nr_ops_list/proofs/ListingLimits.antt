-- Which entries a listing gives: of at most the limit by its own counts, of more what the limit gives.
use Rattle.std.proofs.Common.{◌≡◌, ℕ, ◌≤◌, min, Bool, true, false, cond, ◌&&◌, leb, eqb, List, [], ◌∷◌, ◌++◌, length, Option, refl, sym, ap, ◌∙◌, arith, append_assoc, ◌↔◌}
use Rattle.std.proofs.lemmas.Bool.{le-leb, leb-true, and_parts, and_from}
use Rattle.nr_xdr.specs.Items.{encodings}
use Rattle.nr_nfs_base.specs.declared.attributes.Attributes.{Attributes}
use Rattle.nr_nfs_base.specs.declared.caller.Caller.{Caller}
use Rattle.nr_nfs_base.specs.declared.status.Status.{Status}
use Rattle.nr_nfs_base.specs.declared.status_union.StatusUnion.{StatusUnion}
use Rattle.nr_nfs_base.specs.declared.status_union.StatusUnion.TheVariants.{Done, Failed}
use Rattle.nr_nfs_base.specs.Limits.{listing_max}
use Rattle.nr_nfs_args.specs.declared.readdir.ReaddirArgs.{ReaddirArgs}
use Rattle.nr_nfs_args.specs.declared.readdir.ReaddirplusArgs.{ReaddirplusArgs}
use Rattle.nr_nfs_res.specs.Readdir.{ReaddirOk, readdir_ok_codec, ReaddirplusOk, readdirplus_ok_codec}
use Rattle.nr_tree.specs.Entries.{Entry}
use Rattle.nr_tree.specs.Tree.{Tree}
use Rattle.nr_tree.specs.Rules.{first, on, answer, node_of_handle, handle_rule}
use Rattle.nr_tree.specs.Replies.{attributes_at}
use Rattle.nr_tree.specs.declared.node.Node.{Node}
use Rattle.nr_ops_list.specs.Readdir.{longest, listing_rules, room_rules, readdir_ok, readdir_left, readdir_fits, readdir_reply, readdirplus_ok, readdirplus_left, readdirplus_fits, readdirplus_reply, name_size, total, NextFails, IsLongest}

-- a test of a number that is at most the limit
tests_alike : (n count : ℕ) → count ≤ listing_max → leb n (min count listing_max) ≡ leb n count
tests_alike n count le = ap (λ (most : ℕ). leb n most) (let is : min count listing_max ≡ count = omega (arith, le) in is)

pub within_limit : (t : Tree) (args : ReaddirArgs) (taken : List Entry) → args.count ≤ listing_max
    → (readdir_fits t args taken ≡ true) ↔ (length (encodings (readdir_ok_codec.items (readdir_ok t args.dir taken false))) ≤ args.count)
within_limit t args taken le =
    let n : ℕ = length (encodings (readdir_ok_codec.items (readdir_ok t args.dir taken false))) in
    let same : leb n (min args.count listing_max) ≡ leb n args.count = tests_alike n args.count le in
    ((λ fits. leb-true n args.count (sym same ∙ fits)), (λ short. same ∙ le-leb n args.count short))

pub plus_within_limit : (t : Tree) (args : ReaddirplusArgs) (taken : List Entry) → args.maxcount ≤ listing_max
    → (readdirplus_fits t args taken ≡ true)
    ↔ ((length (encodings (readdirplus_ok_codec.items (readdirplus_ok t args.dir taken false))) ≤ args.maxcount) × (total name_size taken ≤ args.dircount))
plus_within_limit t args taken le =
    let n : ℕ = length (encodings (readdirplus_ok_codec.items (readdirplus_ok t args.dir taken false))) in
    let names : ℕ = total name_size taken in
    let same : leb n (min args.maxcount listing_max) ≡ leb n args.maxcount = tests_alike n args.maxcount le in (
      (λ fits.
          let both = and_parts (leb n (min args.maxcount listing_max)) (leb names args.dircount) fits in
          (leb-true n args.maxcount (sym same ∙ both.0), leb-true names args.dircount both.1)),
      (λ short. and_from (leb n (min args.maxcount listing_max)) (leb names args.dircount) (same ∙ le-leb n args.maxcount short.0) (le-leb names args.dircount short.1)),
    )

-- ---- The entries that are taken

record Extends (fits : List Entry → Bool) (taken left all : List Entry) : Type 0 where
  rest : List Entry
  front : taken ++ left ≡ all ++ rest
  passes : fits taken ≡ true → fits all ≡ true
  next : NextFails fits all rest

extends : (fits : List Entry → Bool) (taken left : List Entry) → Extends fits taken left (longest fits taken left)
extends fits taken [] = record { rest = []; front = refl; passes = λ e. e; next = tt }
extends fits taken (x ∷ left) = by (extends fits (taken ++ x ∷ []) left) (fits (taken ++ x ∷ [])) refl
  where
    by : Extends fits (taken ++ x ∷ []) left (longest fits (taken ++ x ∷ []) left) → (b : Bool) → fits (taken ++ x ∷ []) ≡ b
        → Extends fits taken (x ∷ left) (cond b (longest fits (taken ++ x ∷ []) left) taken)
    by more true is = record { rest = more.rest; front = sym (append_assoc taken (x ∷ []) left) ∙ more.front; passes = λ e. more.passes is; next = more.next }
    by more false is = record { rest = x ∷ left; front = refl; passes = λ e. e; next = is }

pub is_longest : (fits : List Entry → Bool) (left : List Entry) → IsLongest fits (longest fits [] left) left
is_longest fits left = let e = extends fits [] left in record { rest = e.rest; first = e.front; passes = e.passes; next = e.next }

above : (n : ℕ) → listing_max ≤ n → min n listing_max ≡ min listing_max listing_max
above n le = omega (arith, le)

-- the reply by what fits
abbrev reply_by : Tree → Caller → ReaddirArgs → (List Entry → Bool) → StatusUnion ReaddirOk (Option Attributes) Status
reply_by t c args fits =
    let left : List Entry = readdir_left t args in
    let taken : List Entry = longest fits [] left in
    answer (first (handle_rule t args.dir ∷ on (node_of_handle t args.dir) (λ (dir : Node). first (listing_rules c args.cookie args.verifier dir) ∷ first (room_rules fits left) ∷ [])))
    (λ (s : Status). Failed s (attributes_at t args.dir)) (Done (readdir_ok t args.dir taken (eqb (length taken) (length left))))

pub above_limit : (t : Tree) (c : Caller) (args : ReaddirArgs) → listing_max ≤ args.count → readdir_reply t c args ≡ readdir_reply t c (record args { count = listing_max })
above_limit t c args le = ap (λ (fits : List Entry → Bool). reply_by t c args fits)
    (λ i. λ (taken : List Entry). leb (length (encodings (readdir_ok_codec.items (readdir_ok t args.dir taken false)))) (above args.count le i))

abbrev reply_plus_by : Tree → Caller → ReaddirplusArgs → (List Entry → Bool) → StatusUnion ReaddirplusOk (Option Attributes) Status
reply_plus_by t c args fits =
    let left : List Entry = readdirplus_left t args in
    let taken : List Entry = longest fits [] left in
    answer (first (handle_rule t args.dir ∷ on (node_of_handle t args.dir) (λ (dir : Node). first (listing_rules c args.cookie args.verifier dir) ∷ first (room_rules fits left) ∷ [])))
    (λ (s : Status). Failed s (attributes_at t args.dir)) (Done (readdirplus_ok t args.dir taken (eqb (length taken) (length left))))

pub plus_above_limit : (t : Tree) (c : Caller) (args : ReaddirplusArgs) → listing_max ≤ args.maxcount → readdirplus_reply t c args ≡ readdirplus_reply t c (record args { maxcount = listing_max })
plus_above_limit t c args le = ap (λ (fits : List Entry → Bool). reply_plus_by t c args fits)
    (λ i. λ (taken : List Entry). leb (length (encodings (readdirplus_ok_codec.items (readdirplus_ok t args.dir taken false)))) (above args.maxcount le i) && leb (total name_size taken) args.dircount)
