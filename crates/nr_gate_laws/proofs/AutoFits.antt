-- A call of at most the maximum of bytes has a plan in the form Auto, whatever its link's sizes are.
use Rattle.std.proofs.Common.{◌≡◌, ℕ, ◌+◌, ◌≤◌, Bool, true, false, cond, ◌&&◌, leb, ltb, eqb, not, List, length, Option, None, Some, Result, Ok, Err, refl, sym, ◌∙◌, subst, arith}
use Rattle.std.proofs.lemmas.Bool.{leb-true, ltb-true}
use Rattle.nr_header.specs.Constants.{HEADER_LEN_MIN, PAYLOAD_MAX}
use Rattle.nr_link.specs.Limits.{send_unit}
use Rattle.nr_reduce.specs.Largest.{largest_reply}
use Rattle.nr_reduce.specs.declared.call.Form.TheVariants as forms
use Rattle.nr_reduce.specs.declared.outline.Plan.{Plan}
use Rattle.nr_reduce.specs.Plans.{TooLarge, auto_offer, chunk_for, inline_plan, long_plan, offering, plan_in_form, plan_of, plan_size, reduced_plan, reply_size, segments_for, within, write_offer, write_size}
use Rattle.nr_reduce.proofs.PlanKinds.{IsOffering, IsSmall, Offering, largest_small, offered, write_offering}
use Rattle.nr_reduce.proofs.PlanKinds.Offering.{Nothing, One}
use Rattle.nr_reduce.proofs.Segments.{count_is}

-- at most 16 segments
few : (n : ℕ) → n ≤ PAYLOAD_MAX → length (segments_for n) ≤ 16
few n le = omega (arith, le, count_is n)

-- ---- what is offered

nothing : IsOffering None
nothing = record { offering = Nothing; small = tt; is = refl }

record SmallOffers (p : Plan) : Type 0 where
  write : IsOffering p.write
  reply : IsOffering p.reply

offered_by : (payload : List ℕ) (o : Option ℕ) → write_offer payload ≡ o → SmallOffers (offering payload o (inline_plan payload))
offered_by payload None e = record { write = nothing; reply = record { offering = One (largest_reply payload); small = largest_small payload; is = refl } }
offered_by payload (Some n) e = record { write = subst (λ (o : Option ℕ). IsOffering (chunk_for o)) e (write_offering payload); reply = nothing }

offered_if : (payload : List ℕ) (b : Bool) → SmallOffers (cond b (inline_plan payload) (offering payload (write_offer payload) (inline_plan payload)))
offered_if payload true = record { write = nothing; reply = nothing }
offered_if payload false = offered_by payload (write_offer payload) refl

small_offers : (payload : List ℕ) (down : ℕ) → SmallOffers (auto_offer payload down (inline_plan payload))
small_offers payload down = offered_if payload (leb (HEADER_LEN_MIN + largest_reply payload) down)

write_few : (w : Option (List ℕ)) → IsOffering w → write_size w ≤ 264
write_few w o = subst (λ (v : Option (List ℕ)). write_size v ≤ 264) (sym o.is) (by_offering o.offering o.small) where
  by_offering : (f : Offering) → IsSmall f → write_size (offered f) ≤ 264
  by_offering Nothing small = omega arith
  by_offering (One n) small = let count = few n (omega (arith, small)) in omega (arith, count)

reply_few : (r : Option (List ℕ)) → IsOffering r → reply_size r ≤ 260
reply_few r o = subst (λ (v : Option (List ℕ)). reply_size v ≤ 260) (sym o.is) (by_offering o.offering o.small) where
  by_offering : (f : Offering) → IsSmall f → reply_size (offered f) ≤ 260
  by_offering Nothing small = omega arith
  by_offering (One n) small = let count = few n (omega (arith, small)) in omega (arith, count)

-- ---- the size of its Send

long_size : (payload : List ℕ) (p : Plan) → SmallOffers p → length payload ≤ PAYLOAD_MAX → plan_size (long_plan payload p) ≤ send_unit
unfolding plan_size
long_size payload p small le =
    let count = few (length payload) le in
    let w = write_few p.write small.write in
    let r = reply_few p.reply small.reply in
    omega (arith, count, w, r)

first_size : (up : ℕ) (p q l : Plan) (b d c : Bool) → leb (plan_size p) up ≡ b → leb (plan_size q) up ≡ c → plan_size l ≤ up → plan_size (cond b p (cond (d && c) q l)) ≤ up
first_size up p q l true d c one two last = leb-true (plan_size p) up one
first_size up p q l false true true one two last = leb-true (plan_size q) up two
first_size up p q l false true false one two last = last
first_size up p q l false false c one two last = last

within_room : {A : Type 0} (need room : ℕ) (answer : Result A TooLarge) → need ≤ room → within need room answer ≡ answer
within_room {A} need room answer le = by (ltb room need) refl where
  by : (b : Bool) → ltb room need ≡ b → cond b (Err (record { need = need; room = room })) answer ≡ answer
  by false e = refl
  by true e = absurd (omega (arith, ltb-true room need e, le))

pub auto_fits : (payload : List ℕ) (up down : ℕ) → length payload ≤ PAYLOAD_MAX → send_unit ≤ up → plan_of payload forms.Auto up down ≡ Ok (plan_in_form payload forms.Auto up down)
unfolding plan_of
auto_fits payload up down le room =
    let p : Plan = auto_offer payload down (inline_plan payload) in
    let q : Plan = reduced_plan payload p in
    let l : Plan = long_plan payload p in
    let last = long_size payload p (small_offers payload down) le in
    let size : plan_size (plan_in_form payload forms.Auto up down) ≤ up =
    first_size up p q l (leb (plan_size p) up) (not (eqb (length q.read) 0)) (leb (plan_size q) up) refl refl (omega (arith, last, room)) in
    within_room (length payload) PAYLOAD_MAX (within (plan_size (plan_in_form payload forms.Auto up down)) up (Ok (plan_in_form payload forms.Auto up down))) le
    ∙ within_room (plan_size (plan_in_form payload forms.Auto up down)) up (Ok (plan_in_form payload forms.Auto up down)) size
