-- A plan of an offer that is given conveys what the offer conveys.
use Rattle.std.proofs.Common.{◌≡◌, ℕ, zero, suc, ◌+◌, ◌-◌, Bool, true, false, cond, eqb, ltb, not, List, [], ◌∷◌, ◌++◌, length, take, drop, replicate, Option, Some, None, Result, Ok, Err, refl, sym, ap, subst, ◌∙◌, arith, length-append}
use Rattle.std.specs.Prelude.{sum, find}
use Rattle.std.specs.List.{flat_map}
use Rattle.std.proofs.Math.Seq.{take-add}
use Rattle.std.proofs.lemmas.Bool.{eq-eqb, ne_eqb}
use Rattle.std.proofs.lemmas.List.{take_all, drop-drop, length-take, length-replicate}
use Rattle.std.proofs.lemmas.List.Concat.{flat_map-cons}
use Rattle.std.proofs.lemmas.List.Sums.{sum_by-cons}
use Rattle.nr_header.specs.Constants.{PAYLOAD_MAX}
use Rattle.nr_header.specs.declared.header.ReadSegment.{ReadSegment}
use Rattle.nr_reduce.specs.declared.call.Form.TheVariants as forms
use Rattle.nr_reduce.specs.declared.call.Offer.{Offer}
use Rattle.nr_reduce.specs.declared.item.Of.TheVariants.{Call}
use Rattle.nr_reduce.specs.declared.outline.Plan.{Plan}
use Rattle.nr_reduce.specs.Plans.{TooLarge, plan_size, given_total, given_region, given_read, given_plan, within, plan_of, read_stag, entries_from, lists_of, inline_at, inline_stream}
use Rattle.nr_reduce.specs.Limits.{given_max}
use Rattle.nr_reduce.specs.Chunks.{Bytes, position_of, item_position, at_position, entry_bytes, read_bytes, call_moved, whole, call_conveyed}
use Rattle.nr_reduce.specs.PayloadLaws.{moved_by, given_conveyed}

-- ---- The plan is that of the offer

within_ok : (need room : ℕ) (answer : Result Plan TooLarge) (p : Plan) → within need room answer ≡ Ok p → answer ≡ Ok p
within_ok need room answer p e = by (ltb room need) e
  where
    by : (b : Bool) → cond b (Err (record { need = need; room = room })) answer ≡ Ok p → answer ≡ Ok p
    by true f = absurd cc
    by false f = f

abbrev planned : Plan → Result Plan TooLarge
planned p = Ok p

planned_is : (p q : Plan) → planned p ≡ planned q → p ≡ q
planned_is p q e = cc

is_given : (payload : List ℕ) (offer : Offer) (up down : ℕ) (p : Plan) → plan_of payload (forms.Given offer) up down ≡ Ok p → given_plan payload offer ≡ p
unfolding plan_of
is_given payload offer up down p e =
    let q : Plan = given_plan payload offer in
    let sent : Result Plan TooLarge = within (plan_size q) up (Ok q) in
    planned_is q p (within_ok (plan_size q) up (Ok q) p (within_ok (given_total offer) given_max sent p (within_ok (length payload) PAYLOAD_MAX (within (given_total offer) given_max sent) p e)))

-- ---- What the entries of one chunk bring

pub at_all : (position handle offset : ℕ) (lengths : List ℕ) → at_position position (entries_from position handle offset lengths) ≡ entries_from position handle offset lengths
at_all position handle offset [] = refl
at_all position handle offset (n ∷ lengths) =
    let entry : ReadSegment = record { position = position; handle = handle; length = n; offset = offset } in
    (λ i. cond (eq-eqb position position refl i) (entry ∷ at_all position handle (offset + n) lengths i) (at_position position (entries_from position handle (offset + n) lengths)))

joined_entries : (memory : Bytes) (position handle offset : ℕ) (lengths : List ℕ) → flat_map (entry_bytes memory) (entries_from position handle offset lengths) ≡ take (sum lengths) (drop offset (memory handle))
joined_entries memory position handle offset [] = refl
joined_entries memory position handle offset (n ∷ lengths) =
    flat_map-cons (entry_bytes memory) (record { position = position; handle = handle; length = n; offset = offset }) (entries_from position handle (offset + n) lengths)
    ∙ ap (λ (xs : List ℕ). take n (drop offset (memory handle)) ++ xs) (joined_entries memory position handle (offset + n) lengths)
    ∙ ap (λ (xs : List ℕ). take n (drop offset (memory handle)) ++ take (sum lengths) xs) (sym (drop-drop n offset (memory handle)))
    ∙ sym (take-add n (sum lengths) (drop offset (memory handle)))
    ∙ ap (λ (k : ℕ). take k (drop offset (memory handle))) (sym (sum_by-cons (λ (k : ℕ). k) n lengths))

pub region_length : (payload : List ℕ) (at size : ℕ) → length (given_region payload at size) ≡ size
region_length payload at size =
    omega (arith, length-append (take size (drop at payload)) (replicate (size - length (take size (drop at payload))) 0), length-replicate {A = ℕ} (size - length (take size (drop at payload))) 0, length-take size (drop at payload))

-- what the entries of one chunk bring
pub joined_at : (memory : Bytes) (at stag : ℕ) (lengths : List ℕ) → read_bytes memory (entries_from at stag 0 lengths) at ≡ take (sum lengths) (memory stag)
unfolding read_bytes
joined_at memory at stag lengths = ap (λ (es : List ReadSegment). flat_map (entry_bytes memory) es) (at_all at stag 0 lengths) ∙ joined_entries memory at stag 0 lengths

brought : (payload : List ℕ) (memory : Bytes) (at stag : ℕ) (lengths : List ℕ) → memory stag ≡ given_region payload at (sum lengths)
    → read_bytes memory (entries_from at stag 0 lengths) at ≡ given_region payload at (sum lengths)
brought payload memory at stag lengths holds =
    joined_at memory at stag lengths
    ∙ ap (λ (xs : List ℕ). take (sum lengths) xs) holds
    ∙ take_all (sum lengths) (given_region payload at (sum lengths)) (let l = region_length payload at (sum lengths) in omega (arith, l))

pub no_item : (stag offset : ℕ) (lengths : List ℕ) → item_position (entries_from 0 stag offset lengths) ≡ None
unfolding item_position
no_item stag offset [] = refl
no_item stag offset (n ∷ lengths) = no_item stag (offset + n) lengths

-- ---- The law

at_zero : (payload : List ℕ) (memory : Bytes) (stag : ℕ) (lengths : List ℕ) → memory stag ≡ given_region payload 0 (sum lengths)
    → call_conveyed None (entries_from 0 stag 0 lengths) (read_bytes memory (entries_from 0 stag 0 lengths)) ≡ Some (given_region payload 0 (sum lengths))
unfolding call_conveyed
at_zero payload memory stag lengths holds =
    (λ i. whole Call (brought payload memory 0 stag lengths holds i) (call_moved (no_item stag 0 lengths i) (read_bytes memory (entries_from 0 stag 0 lengths))))

elsewhere : (payload : List ℕ) (memory : Bytes) (at stag : ℕ) (lengths : List ℕ) → eqb at 0 ≡ false → memory stag ≡ given_region payload at (sum lengths)
    → call_conveyed (Some (take at payload)) (entries_from at stag 0 lengths) (read_bytes memory (entries_from at stag 0 lengths))
    ≡ whole Call (take at payload) (moved_by lengths (given_region payload at (sum lengths)))
unfolding call_conveyed item_position
elsewhere payload memory at stag [] apart holds = refl
elsewhere payload memory at stag (n ∷ lengths) apart holds =
    ap (λ (b : Bool). whole Call (take at payload) (call_moved (position_of (cond (not b) (Some (record { position = at; handle = stag; length = n; offset = 0 })) (find (λ (r : ReadSegment). not (eqb r.position 0)) (entries_from at stag (0 + n) lengths))))
    (read_bytes memory (entries_from at stag 0 (n ∷ lengths))))) apart
    ∙ ap (λ (xs : List ℕ). whole Call (take at payload) (Some xs)) (brought payload memory at stag (n ∷ lengths) holds)

by_position : (payload : List ℕ) (memory : Bytes) (at stag : ℕ) (lengths : List ℕ) → memory stag ≡ given_region payload at (sum lengths)
    → call_conveyed (inline_at (Some at) (take at payload)) (entries_from at stag 0 lengths) (read_bytes memory (entries_from at stag 0 lengths)) ≡ given_conveyed payload at (Some lengths)
by_position payload memory zero stag lengths holds = at_zero payload memory stag lengths holds
by_position payload memory (suc k) stag lengths holds =
    let apart : eqb (suc k) 0 ≡ false = ne_eqb (suc k) 0 (λ e. omega (arith, e)) in
    ap (λ (b : Bool). call_conveyed (cond b None (Some (take (suc k) payload))) (entries_from (suc k) stag 0 lengths) (read_bytes memory (entries_from (suc k) stag 0 lengths))) apart
    ∙ elsewhere payload memory (suc k) stag lengths apart holds
    ∙ ap (λ (b : Bool). cond b (Some (given_region payload (suc k) (sum lengths))) (whole Call (take (suc k) payload) (moved_by lengths (given_region payload (suc k) (sum lengths))))) (sym apart)

by_read : (payload : List ℕ) (at : ℕ) (w r : Option (List ℕ)) (o : Option (List ℕ)) (stag : ℕ) (memory : Bytes)
    → (let q : Plan = given_read payload at o (record { inline = payload; read_at = None; read = []; region = []; write = w; reply = r }) in
    memory (read_stag stag q) ≡ q.region → call_conveyed (inline_stream q) (lists_of stag q).read (read_bytes memory (lists_of stag q).read) ≡ given_conveyed payload at o)
unfolding lists_of call_conveyed item_position
by_read payload at w r None stag memory holds = refl
by_read payload at w r (Some lengths) stag memory holds = by_position payload memory at stag lengths holds

pub offer_conveys : (payload : List ℕ) (offer : Offer) (up down stag : ℕ) (p : Plan) (memory : Bytes) → plan_of payload (forms.Given offer) up down ≡ Ok p → memory (read_stag stag p) ≡ p.region
    → call_conveyed (inline_stream p) (lists_of stag p).read (read_bytes memory (lists_of stag p).read) ≡ given_conveyed payload offer.read_at offer.read
offer_conveys payload offer up down stag p memory e holds =
    let law = λ (q : Plan). memory (read_stag stag q) ≡ q.region → call_conveyed (inline_stream q) (lists_of stag q).read (read_bytes memory (lists_of stag q).read) ≡ given_conveyed payload offer.read_at offer.read in
    subst law (is_given payload offer up down p e) (λ h. by_read payload offer.read_at offer.write offer.reply offer.read stag memory h) holds
