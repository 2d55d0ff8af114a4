-- What a plan offers is short.
use Rattle.std.proofs.Common.{◌≡◌, ℕ, ◌+◌, ◌-◌, ◌*◌, ◌≤◌, Bool, true, false, cond, not, ◌&&◌, eqb, leb, List, [], ◌∷◌, length, take, drop, replicate, sum, Option, None, Some, Result, Ok, refl, sym, ap, subst, arith, length-append}
use Rattle.std.specs.List.{sum_by}
use Rattle.std.proofs.lemmas.List.{length-take, length-drop, length-replicate}
use Rattle.std.proofs.lemmas.List.Sums.{sum_by-cons}
use Rattle.nr_header.specs.declared.header.RdmaSegment.{RdmaSegment}
use Rattle.nr_header.specs.Constants.{HEADER_LEN_MIN, PAYLOAD_MAX}
use Rattle.nr_reduce.specs.declared.call.Form.{Form}
use Rattle.nr_reduce.specs.declared.call.Form.TheVariants as forms
use Rattle.nr_reduce.specs.declared.call.Offer.{Offer}
use Rattle.nr_reduce.specs.declared.outline.Plan.{Plan}
use Rattle.nr_reduce.specs.ChunkBytes.{IsNotGiven}
use Rattle.nr_reduce.specs.Largest.{largest_reply}
use Rattle.nr_reduce.specs.Limits.{given_max}
use Rattle.nr_reduce.specs.declared.item.Item.{Item}
use Rattle.nr_reduce.specs.declared.item.Of.TheVariants.{Call}
use Rattle.nr_reduce.specs.Items.{reducible_item}
use Rattle.nr_reduce.specs.Plans.{TooLarge, total, inline_plan, chunk_for, write_offer, offering, auto_offer, reduced_plan, reduced_plan_by, long_plan, given_region, given_read, given_total, given_within, plan_size, plan_in_form, within, plan_of, write_size, reply_size, segments_from, entries_from, read_list, write_list, reply_chunk, write_stag, reply_stag, lists_of}
use Rattle.nr_reduce.proofs.PlanKinds.{most, Offering, offered, IsSmall, largest_small, write_offering, MessageKind, shape, IsPlan, is_plan, within_ok_lem}
use Rattle.nr_reduce.proofs.PlanKinds.Offering.{Nothing, One}
use Rattle.nr_reduce.proofs.PlanKinds.MessageKind.{Short, Chunked, Long}
use Rattle.nr_reduce.proofs.Segments.{segments_sum}
use Rattle.nr_reduce.proofs.Sizes.{segments_count, is_formed}
use Rattle.nr_requester.specs.HeldBytes.{PlanFits, receive_max, reply_segments, segments_offered, offered_segments_max}

small_total : (o : Offering) → IsSmall o → total (offered o) ≤ most
small_total Nothing h = omega arith
small_total (One n) h = omega (arith, h, segments_sum n)

kind_region : (payload : List ℕ) (kind : MessageKind) (w r : Option (List ℕ)) → length payload ≤ PAYLOAD_MAX → length (shape payload kind w r).region ≤ PAYLOAD_MAX
kind_region payload Short w r h = omega arith
kind_region payload (Chunked i) w r h = omega (arith, h, length-take i.len (drop i.pos payload), length-drop i.pos payload)
kind_region payload Long w r h = h

-- What goes back of a call in a form of its own goes through one chunk.
abbrev IsBack : Plan → Type 0
IsBack p = total p.write + total p.reply ≤ most

back_if : (b : Bool) (p q : Plan) → IsBack p → IsBack q → IsBack (cond b p q)
back_if true p q h k = h
back_if false p q h k = k

reduced_back : (payload : List ℕ) (p : Plan) → IsBack p → IsBack (reduced_plan payload p)
unfolding reduced_plan
reduced_back payload p h = by (reducible_item Call payload)
  where
    by : (o : Option Item) → IsBack (reduced_plan_by payload p o)
    by None = h
    by (Some i) = h

write_small : (payload : List ℕ) → total (chunk_for (write_offer payload)) ≤ most
write_small payload = (let o = write_offering payload in subst (λ (w : Option (List ℕ)). total w ≤ most) (sym o.is) (small_total o.offering o.small))

offering_back : (payload : List ℕ) → IsBack (offering payload (write_offer payload) (inline_plan payload))
offering_back payload = by (write_offer payload) refl
  where
    by : (o : Option ℕ) → write_offer payload ≡ o → IsBack (offering payload o (inline_plan payload))
    by None e = omega (arith, largest_small payload, segments_sum (largest_reply payload))
    by (Some n) e = (let same : total (chunk_for (write_offer payload)) ≡ total (chunk_for (Some n)) = ap (λ (w : Option ℕ). total (chunk_for w)) e in omega (arith, same, write_small payload))

inline_back : (payload : List ℕ) → IsBack (inline_plan payload)
inline_back payload = omega arith

form_back : (payload : List ℕ) (form : Form) (up down : ℕ) → IsNotGiven form → IsBack (plan_in_form payload form up down)
form_back payload forms.Auto up down own =
    let p : Plan = auto_offer payload down (inline_plan payload) in
    let h : IsBack p = back_if (leb (HEADER_LEN_MIN + largest_reply payload) down) (inline_plan payload) (offering payload (write_offer payload) (inline_plan payload)) (inline_back payload) (offering_back payload) in
    let reduced : Plan = reduced_plan payload p in
    let long : Plan = long_plan payload p in
    let fits : Bool = not (eqb (length reduced.read) 0) && leb (plan_size reduced) up in
    back_if (leb (plan_size p) up) p (cond fits reduced long) h (back_if fits reduced long (reduced_back payload p h) h)
form_back payload forms.Inline up down own = inline_back payload
form_back payload forms.Chunk up down own =
    reduced_back payload (record (inline_plan payload) { write = chunk_for (write_offer payload) }) (omega (arith, write_small payload))
form_back payload forms.Long up down own = omega (arith, largest_small payload, segments_sum (largest_reply payload))
form_back payload (forms.Given offer) up down own = absurd own

shape_fits : (payload : List ℕ) (kind : MessageKind) (w r : Offering) → length payload ≤ PAYLOAD_MAX → IsBack (shape payload kind (offered w) (offered r)) → PlanFits (shape payload kind (offered w) (offered r))
shape_fits payload kind w r h back = by kind (kind_region payload kind (offered w) (offered r) h) back
  where
    by : (k : MessageKind) → length (shape payload k (offered w) (offered r)).region ≤ PAYLOAD_MAX → IsBack (shape payload k (offered w) (offered r)) → PlanFits (shape payload k (offered w) (offered r))
    by Short a b = record { region = omega (arith, a); write = omega (arith, b); reply = omega (arith, b); all = omega (arith, a, b); back = omega (arith, b) }
    by (Chunked i) a b = record { region = omega (arith, a); write = omega (arith, b); reply = omega (arith, b); all = omega (arith, a, b); back = omega (arith, b) }
    by Long a b = record { region = omega (arith, a); write = omega (arith, b); reply = omega (arith, b); all = omega (arith, a, b); back = omega (arith, b) }

own_fits : (payload : List ℕ) (form : Form) (up down : ℕ) (p : Plan) → IsNotGiven form → plan_of payload form up down ≡ Ok p → PlanFits p
own_fits payload form up down p own is =
    let plan : IsPlan payload form up down p = is_plan payload form up down p own is in
    let back : IsBack p = subst IsBack (is_formed payload form up down p is).is (form_back payload form up down own) in
    subst PlanFits (sym plan.shaped.is) (shape_fits payload plan.shaped.kind plan.shaped.write plan.shaped.reply plan.payload_fits (subst IsBack plan.shaped.is back))

-- a given offer
given_len : (payload : List ℕ) (at size : ℕ) → length (given_region payload at size) ≡ size
given_len payload at size =
    omega (
      arith,
      length-append (take size (drop at payload)) (replicate (size - length (take size (drop at payload))) 0),
      length-take size (drop at payload),
      length-replicate {A = ℕ} (size - length (take size (drop at payload))) 0,
    )

read_fits : (payload : List ℕ) (at : ℕ) (read w r : Option (List ℕ)) → total read + total w + total r ≤ given_max →
    PlanFits (given_read payload at read (record { inline = payload; read_at = None; read = []; region = []; write = w; reply = r }))
read_fits payload at None w r h = record { region = omega arith; write = omega (arith, h); reply = omega (arith, h); all = omega (arith, h); back = omega (arith, h) }
read_fits payload at (Some lengths) w r h =
    let len = given_len payload at (sum lengths) in
    record { region = omega (arith, h, len); write = omega (arith, h); reply = omega (arith, h); all = omega (arith, h, len); back = omega (arith, h) }

given_small : (payload : List ℕ) (offer : Offer) (up down : ℕ) (p : Plan) → plan_of payload (forms.Given offer) up down ≡ Ok p → given_total offer ≤ given_max
unfolding plan_of
given_small payload offer up down p is =
    let q : Plan = plan_in_form payload (forms.Given offer) up down in
    let sent : Result Plan TooLarge = within (plan_size q) up (Ok q) in
    (within_ok_lem (given_total offer) given_max sent p (within_ok_lem (length payload) PAYLOAD_MAX (within (given_total offer) given_max sent) p is).1).0

pub plan_bounds : (payload : List ℕ) (form : Form) (up down : ℕ) (p : Plan) → plan_of payload form up down ≡ Ok p → PlanFits p
plan_bounds payload forms.Auto up down p is = own_fits payload forms.Auto up down p tt is
plan_bounds payload forms.Inline up down p is = own_fits payload forms.Inline up down p tt is
plan_bounds payload forms.Chunk up down p is = own_fits payload forms.Chunk up down p tt is
plan_bounds payload forms.Long up down p is = own_fits payload forms.Long up down p tt is
plan_bounds payload (forms.Given offer) up down p is =
    subst PlanFits (is_formed payload (forms.Given offer) up down p is).is (read_fits payload offer.read_at offer.read offer.write offer.reply (given_small payload offer up down p is))

-- ---- The segments of its lists

one_each : (position handle offset : ℕ) (lengths : List ℕ) → length (entries_from position handle offset lengths) ≤ length lengths
one_each position handle offset [] = omega arith
one_each position handle offset (n ∷ lengths) = omega (arith, one_each position handle (offset + n) lengths)

few_entries : (stag : ℕ) (p : Plan) (at : Option ℕ) → length (read_list stag p at) ≤ length p.read
few_entries stag p None = omega arith
few_entries stag p (Some position) = one_each position stag 0 p.read

few_written : (stag : ℕ) (w : Option (List ℕ)) → 16 * sum_by (λ chunk. length chunk) (write_list stag w) ≤ write_size w
few_written stag None = omega arith
few_written stag (Some lengths) = omega (arith, sum_by-cons (λ (chunk : List RdmaSegment). length chunk) (segments_from stag 0 lengths) [], segments_count stag 0 lengths)

few_replied : (stag : ℕ) (r : Option (List ℕ)) → 16 * reply_segments (reply_chunk stag r) ≤ reply_size r
few_replied stag None = omega arith
few_replied stag (Some lengths) = omega (arith, segments_count stag 0 lengths)

pub plan_segments : (payload : List ℕ) (form : Form) (up down stag : ℕ) (p : Plan) → up ≤ receive_max → plan_of payload form up down ≡ Ok p → segments_offered (lists_of stag p) ≤ offered_segments_max
unfolding plan_size lists_of
plan_segments payload form up down stag p short is =
    let fits = (is_formed payload form up down p is).fits in
    omega (arith, short, fits, few_entries stag p p.read_at, few_written (write_stag stag p) p.write, few_replied (reply_stag stag p) p.reply)

one_written : (stag : ℕ) (w : Option (List ℕ)) → length (write_list stag w) ≤ 1
one_written stag None = omega arith
one_written stag (Some lengths) = omega arith

pub plan_writes : (stag : ℕ) (p : Plan) → length (lists_of stag p).write ≤ 1
unfolding lists_of
plan_writes stag p = one_written (write_stag stag p) p.write

-- a payload that has a plan
pub payload_small : (payload : List ℕ) (form : Form) (up down : ℕ) (p : Plan) → plan_of payload form up down ≡ Ok p → length payload ≤ PAYLOAD_MAX
unfolding plan_of
payload_small payload form up down p is =
    let q : Plan = plan_in_form payload form up down in
    (within_ok_lem (length payload) PAYLOAD_MAX (given_within form (within (plan_size q) up (Ok q))) p is).0
