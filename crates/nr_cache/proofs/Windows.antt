-- A reply more keeps what the entries ask for.
use Rattle.std.proofs.Common.{◌≡◌, ℕ, ◌+◌, ◌<◌, ◌≤◌, ◌%◌, max, Bool, true, false, cond, eqb, leb, ltb, List, [], ◌∷◌, ◌++◌, length, replicate, get_or, Option, None, Some, refl, sym, ap, subst, ◌∙◌, inl, inr, arith}
use Rattle.std.specs.Prelude.{slice_set, is_some}
use Rattle.std.specs.Option.{option_or}
use Rattle.std.specs.List.{find}
use Rattle.std.proofs.lemmas.Bool.{leb-true, le-leb, lt-leb, eq-eqb, ne_eqb, cases_eq, leb-false, ltb-true, ltb-false}
use Rattle.std.proofs.lemmas.Nat.{div-add-mod'}
use Rattle.std.proofs.lemmas.List.{get_or-set_same, get_or-set_other, get_or-replicate, replicate-append-replicate, length-set, length-replicate}
use Rattle.std.proofs.Math.Nat.{mod-lt}
use Rattle.std.proofs.lemmas.List.Folds.{find-append}
use Rattle.std.proofs.lemmas.List.Sums.{fold-append, count_by-le-length}
use Rattle.nr_cache.specs.declared.window.KeptReply.{KeptReply}
use Rattle.nr_cache.specs.Entries.{KeptEntry, Finding, window, larger, top_of, found_in, kept_or_new}
use Rattle.nr_cache.specs.Entries.Finding.{KeptCall, OldCall, NewCall}
use Rattle.nr_cache.specs.Windows.{Replies, IsWindow, IsInSlot, Remembers, by_slot, found_at, kept_in, no_replies, replies_kept}

-- two xids of one slot are a window apart
pub apart : (x y : ℕ) → x % window ≡ y % window → x < y → x + window ≤ y
apart x y e lt = omega (arith, div-add-mod' x 64, div-add-mod' y 64, e, lt)

pub top_more : (E : List KeptEntry) (e : KeptEntry) → top_of (E ++ e ∷ []) ≡ max (top_of E) e.xid
unfolding top_of
top_more E e = fold-append larger 0 E (e ∷ [])

-- what a window has of an xid that isn't old
abbrev pub is_xid : ℕ → KeptEntry → Bool
is_xid xid e = eqb e.xid xid

old_or : (b : Bool) (top : ℕ) (other : Finding) → cond b (OldCall top) other ≡ NewCall → (b ≡ false) × (other ≡ NewCall)
old_or true top other e = absurd (let wrong : OldCall top ≡ NewCall = e in cc)
old_or false top other e = (refl, e)

-- a new call is not old, and has no entry
pub record IsNew (E : List KeptEntry) (xid : ℕ) : Type 0 where
  pub not_old : top_of E < xid + window
  pub none : find (is_xid xid) E ≡ None

none_of : (o : Option KeptEntry) → kept_or_new o ≡ NewCall → o ≡ None
none_of None e = refl
none_of (Some k) e = absurd (let wrong : KeptCall k.place k.reply ≡ NewCall = e in cc)

pub is_new : (E : List KeptEntry) (xid : ℕ) → found_in E xid ≡ NewCall → IsNew E xid
unfolding found_in
is_new E xid e =
    let both = old_or (leb (xid + window) (top_of E)) (top_of E) (kept_or_new (find (is_xid xid) E)) e in
    record { not_old = leb-false _ _ both.0; none = none_of (find (is_xid xid) E) both.1 }

-- the reply of an entry
abbrev pub reply_of : KeptEntry → KeptReply
reply_of e = record { xid = e.xid; place = e.place; reply = e.reply }

by_slot_same : (xid : ℕ) (k : KeptReply) → k.xid ≡ xid → by_slot xid (Some k) ≡ KeptCall k.place k.reply
by_slot_same xid k e = ap (λ (b : Bool). cond b (KeptCall k.place k.reply) NewCall) (eq-eqb k.xid xid e)

by_slot_other : (xid : ℕ) (k : KeptReply) → (k.xid ≡ xid → ⊥) → by_slot xid (Some k) ≡ NewCall
by_slot_other xid k ne = ap (λ (b : Bool). cond b (KeptCall k.place k.reply) NewCall) (ne_eqb k.xid xid ne)

-- what is found of an xid, by its age
pub at_slot : (w : Replies) (xid : ℕ) → w.top < xid + window → found_at w xid ≡ by_slot xid (get_or w.slots (xid % window) None)
unfolding found_at
at_slot w xid lt = ap (λ (b : Bool). cond b (OldCall w.top) (by_slot xid (get_or w.slots (xid % window) None))) (lt-leb (xid + window) w.top lt)

at_old : (w : Replies) (xid : ℕ) → xid + window ≤ w.top → found_at w xid ≡ OldCall w.top
unfolding found_at
at_old w xid le = ap (λ (b : Bool). cond b (OldCall w.top) (by_slot xid (get_or w.slots (xid % window) None))) (le-leb (xid + window) w.top le)

pub in_entries : (E : List KeptEntry) (xid : ℕ) → top_of E < xid + window → found_in E xid ≡ kept_or_new (find (is_xid xid) E)
unfolding found_in
in_entries E xid lt = ap (λ (b : Bool). cond b (OldCall (top_of E)) (kept_or_new (find (is_xid xid) E))) (lt-leb (xid + window) (top_of E) lt)

in_old : (E : List KeptEntry) (xid : ℕ) → xid + window ≤ top_of E → found_in E xid ≡ OldCall (top_of E)
unfolding found_in
in_old E xid le = ap (λ (b : Bool). cond b (OldCall (top_of E)) (kept_or_new (find (is_xid xid) E))) (le-leb (xid + window) (top_of E) le)

-- an xid of the slot of a new call is either old by then, or above the largest
clash_above : (top xid x : ℕ) (b : Bool) → ltb x xid ≡ b → x ≤ xid → xid ≤ top → xid % window ≡ x % window → (x ≡ xid → ⊥) → top < x + window → ⊥
clash_above top xid x true above not_below le same ne new = omega (arith, apart x xid (sym same) (ltb-true x xid above), new, le)
clash_above top xid x false above not_below le same ne new = ne (omega (arith, ltb-false x xid above, not_below))

clash_by : (top xid x : ℕ) (b : Bool) → ltb xid x ≡ b → xid ≤ top → xid % window ≡ x % window → (x ≡ xid → ⊥) → max top x < xid + window → top < x + window → ⊥
clash_by top xid x true e le same ne young new = omega (arith, apart xid x same (ltb-true xid x e), young)
clash_by top xid x false e le same ne young new = clash_above top xid x (ltb x xid) refl (ltb-false xid x e) le same ne new

-- a slot whose xid isn't the new call's has nothing of a call that isn't old
slot_new : (top xid x : ℕ) (o : Option KeptReply) → IsInSlot top (x % window) o → xid % window ≡ x % window → (x ≡ xid → ⊥) → max top x < xid + window → top < x + window
    → by_slot xid o ≡ NewCall
slot_new top xid x None own same ne young new = refl
slot_new top xid x (Some k) own same ne young new =
    elim (cases_eq k.xid xid) [
      | inl e ↦ absurd (clash_by top xid x (ltb xid x) refl (omega (arith, own.1, e)) same ne young new)
      | inr differs ↦ by_slot_other xid k differs
    ]

or_none : (o : Option KeptEntry) → option_or o None ≡ o
or_none None = refl
or_none (Some e) = refl

find_one : (xid : ℕ) (e : KeptEntry) → find (is_xid xid) (e ∷ []) ≡ cond (eqb e.xid xid) (Some e) None
find_one xid e = refl

-- the new call itself
same_call : (E : List KeptEntry) (e : KeptEntry) (w : Replies) (xid : ℕ) → IsWindow w → IsNew E e.xid → e.xid ≡ xid
    → by_slot xid (get_or (slice_set w.slots (e.xid % window) (Some (reply_of e))) (xid % window) None) ≡ kept_or_new (find (is_xid xid) (E ++ e ∷ []))
same_call E e w xid i new same =
    let within : e.xid % window < length w.slots = rw i.len (mod-lt e.xid (omega arith)) in
    let slot : get_or (slice_set w.slots (e.xid % window) (Some (reply_of e))) (xid % window) None ≡ Some (reply_of e) =
    ap (λ (n : ℕ). get_or (slice_set w.slots (e.xid % window) (Some (reply_of e))) (n % window) None) (sym same) ∙ get_or-set_same w.slots (e.xid % window) (Some (reply_of e)) None within in
    let none : find (is_xid xid) E ≡ None = ap (λ (n : ℕ). find (is_xid n) E) (sym same) ∙ new.none in
    let one : find (is_xid xid) (e ∷ []) ≡ Some e = ap (λ (b : Bool). cond b (Some e) None) (eq-eqb e.xid xid same) in
    let entries : find (is_xid xid) (E ++ e ∷ []) ≡ Some e = find-append (is_xid xid) E (e ∷ []) ∙ ap (λ (o : Option KeptEntry). option_or o (find (is_xid xid) (e ∷ []))) none ∙ one in
    ap (by_slot xid) slot ∙ by_slot_same xid (reply_of e) same ∙ ap kept_or_new (sym entries)

-- another call
other_slot : (e : KeptEntry) (w : Replies) (xid : ℕ) → IsWindow w → w.top < e.xid + window → (e.xid ≡ xid → ⊥) → max w.top e.xid < xid + window
    → by_slot xid (get_or (slice_set w.slots (e.xid % window) (Some (reply_of e))) (xid % window) None) ≡ by_slot xid (get_or w.slots (xid % window) None)
other_slot e w xid i new ne young =
    elim (cases_eq (xid % window) (e.xid % window)) [
      | inl same ↦
          let within : e.xid % window < window = mod-lt e.xid (omega arith) in
          let slot : get_or (slice_set w.slots (e.xid % window) (Some (reply_of e))) (xid % window) None ≡ Some (reply_of e) =
          ap (λ (n : ℕ). get_or (slice_set w.slots (e.xid % window) (Some (reply_of e))) n None) same ∙ get_or-set_same w.slots (e.xid % window) (Some (reply_of e)) None (rw i.len within) in
          let before : by_slot xid (get_or w.slots (xid % window) None) ≡ NewCall =
          ap (λ (n : ℕ). by_slot xid (get_or w.slots n None)) same
          ∙ slot_new w.top xid e.xid (get_or w.slots (e.xid % window) None) (i.slots (e.xid % window) within) same ne young new in
          ap (by_slot xid) slot ∙ by_slot_other xid (reply_of e) ne ∙ sym before
      | inr apart_ ↦ ap (by_slot xid) (get_or-set_other w.slots (e.xid % window) (xid % window) (Some (reply_of e)) None apart_)
    ]

-- a call that isn't old by then is found by its slot just as by the entries
find_more : (E : List KeptEntry) (e : KeptEntry) (w : Replies) (xid : ℕ) → IsWindow w → Remembers E w → IsNew E e.xid → max w.top e.xid < xid + window
    → by_slot xid (get_or (slice_set w.slots (e.xid % window) (Some (reply_of e))) (xid % window) None) ≡ kept_or_new (find (is_xid xid) (E ++ e ∷ []))
find_more E e w xid i r new young =
    elim (cases_eq e.xid xid) [
      | inl same ↦ same_call E e w xid i new same
      | inr ne ↦
          let none : find (is_xid xid) (e ∷ []) ≡ None = ap (λ (b : Bool). cond b (Some e) None) (ne_eqb e.xid xid ne) in
          let entries : find (is_xid xid) (E ++ e ∷ []) ≡ find (is_xid xid) E =
          find-append (is_xid xid) E (e ∷ []) ∙ ap (option_or (find (is_xid xid) E)) none ∙ or_none (find (is_xid xid) E) in
          let before : by_slot xid (get_or w.slots (xid % window) None) ≡ kept_or_new (find (is_xid xid) E) =
          sym (at_slot w xid (omega (arith, young))) ∙ r.found xid ∙ in_entries E xid (omega (arith, young, r.top)) in
          other_slot e w xid i (omega (arith, new.not_old, r.top)) ne young ∙ before ∙ ap kept_or_new (sym entries)
    ]

keeps_by : (E : List KeptEntry) (e : KeptEntry) (w : Replies) (xid : ℕ) (b : Bool) → leb (xid + window) (max w.top e.xid) ≡ b → IsWindow w → Remembers E w → IsNew E e.xid
    → max w.top e.xid ≡ top_of (E ++ e ∷ []) → found_at (kept_in w (reply_of e)) xid ≡ found_in (E ++ e ∷ []) xid
unfolding kept_in
keeps_by E e w xid true age i r new top =
    let old : xid + window ≤ max w.top e.xid = leb-true (xid + window) (max w.top e.xid) age in
    at_old (kept_in w (reply_of e)) xid old ∙ ap OldCall top ∙ sym (in_old (E ++ e ∷ []) xid (omega (arith, old, top)))
keeps_by E e w xid false age i r new top =
    let young : max w.top e.xid < xid + window = leb-false (xid + window) (max w.top e.xid) age in
    at_slot (kept_in w (reply_of e)) xid young ∙ find_more E e w xid i r new young ∙ sym (in_entries (E ++ e ∷ []) xid (omega (arith, young, top)))

-- a window with a new call more remembers it
pub keeps : (E : List KeptEntry) (e : KeptEntry) (w : Replies) → IsWindow w → Remembers E w → found_at w e.xid ≡ NewCall → Remembers (E ++ e ∷ []) (kept_in w (reply_of e))
unfolding kept_in
keeps E e w i r new =
    let is : IsNew E e.xid = is_new E e.xid (sym (r.found e.xid) ∙ new) in
    let top : max w.top e.xid ≡ top_of (E ++ e ∷ []) = ap (λ (t : ℕ). max t e.xid) r.top ∙ sym (top_more E e) in
    record { top = top; found = λ xid. keeps_by E e w xid (leb (xid + window) (max w.top e.xid)) refl i r is top }

-- the same over the fields of the code
pub keeps_made : (E : List KeptEntry) (e : KeptEntry) (v w : Replies) (top : ℕ) → v ≡ w → IsWindow v → top ≡ max v.top e.xid → Remembers E w → found_at w e.xid ≡ NewCall
    → Remembers (E ++ e ∷ []) (record { top = top; slots = slice_set v.slots (e.xid % window) (Some (reply_of e)) })
unfolding kept_in
keeps_made E e v w top view i is r new =
    subst (λ (t : ℕ). Remembers (E ++ e ∷ []) (record { top = t; slots = slice_set v.slots (e.xid % window) (Some (reply_of e)) })) (sym is)
    (keeps E e v i (subst (Remembers E) (sym view) r) (ap (λ (x : Replies). found_at x e.xid) view ∙ new))

in_slot_more : (top more at : ℕ) (o : Option KeptReply) → IsInSlot top at o → top ≤ more → IsInSlot more at o
in_slot_more top more at None own le = own
in_slot_more top more at (Some k) own le = (own.0, omega (arith, own.1, le))

slot_after : (w : Replies) (k : KeptReply) (at : ℕ) → IsWindow w → at < window → IsInSlot (max w.top k.xid) at (get_or (slice_set w.slots (k.xid % window) (Some k)) at None)
slot_after w k at i lt =
    elim (cases_eq at (k.xid % window)) [
      | inl same ↦
          let slot : get_or (slice_set w.slots (k.xid % window) (Some k)) at None ≡ Some k =
          ap (λ (n : ℕ). get_or (slice_set w.slots (k.xid % window) (Some k)) n None) same ∙ get_or-set_same w.slots (k.xid % window) (Some k) None (rw i.len (mod-lt k.xid (omega arith))) in
          subst (IsInSlot (max w.top k.xid) at) (sym slot) (sym same, omega arith)
      | inr ne ↦
          subst (IsInSlot (max w.top k.xid) at) (sym (get_or-set_other w.slots (k.xid % window) at (Some k) None ne))
          (in_slot_more w.top (max w.top k.xid) at (get_or w.slots at None) (i.slots at lt) (omega arith))
    ]

pub stays_window : (w : Replies) (k : KeptReply) → IsWindow w → IsWindow (kept_in w k)
unfolding kept_in
stays_window w k i = record { len = length-set w.slots (k.xid % window) (Some k) ∙ i.len; slots = λ at lt. slot_after w k at i lt }

-- at most one reply is kept in each slot
pub kept_within : (w : Replies) → IsWindow w → replies_kept w ≤ window
kept_within w i = omega (arith, count_by-le-length is_some w.slots, i.len)

pub no_replies_window : IsWindow no_replies
no_replies_window = record {
  len = length-replicate {A = Option KeptReply} window None;
  slots = λ at lt. subst (IsInSlot 0 at) (sym (get_or-replicate window at None None lt)) tt;
}

-- one empty slot more
pub one_more : (n : ℕ) (slots : List (Option KeptReply)) → slots ≡ replicate n None → slots ++ None ∷ [] ≡ replicate (n + 1) None
one_more n slots e = ap (λ (l : List (Option KeptReply)). l ++ None ∷ []) e ∙ replicate-append-replicate n 1 None
