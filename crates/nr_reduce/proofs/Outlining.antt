-- An outline in any form is that of its plan.
use Rattle.std.proofs.Common.{◌≡◌, ℕ, ◌+◌, ◌-◌, ◌<◌, ◌≤◌, Bool, true, false, cond, ◌&&◌, ltb, leb, eqb, not, List, [], ◌++◌, length, take, drop, replicate, Option, Some, None, Result, Ok, Err, refl, sym, ap, subst, ◌∙◌, arith, append-nil}
use Rattle.std.specs.Prelude.{option_map}
use Rattle.std.proofs.lemmas.Bool.{le-ltb, lt-ltb}
use Rattle.std.proofs.lemmas.List.{take_all, length-take, length-drop}
use Rattle.nr_header.specs.Constants.{HEADER_LEN_MIN, PAYLOAD_MAX}
use Rattle.nr_reduce.specs.ChunkBytes.{IsNotGiven}
use Rattle.nr_reduce.specs.declared.call.Form.{Form}
use Rattle.nr_reduce.specs.declared.call.Form.TheVariants as forms
use Rattle.nr_reduce.specs.declared.call.Offer.{Offer}
use Rattle.nr_reduce.specs.declared.fault.TooLarge.{TooLarge as CodeTooLarge}
use Rattle.nr_reduce.specs.declared.item.Item.{Item}
use Rattle.nr_reduce.specs.declared.item.Of.TheVariants.{Call}
use Rattle.nr_reduce.specs.declared.outline.ChunkLengths.TheVariants.{Own}
use Rattle.nr_reduce.specs.declared.outline.MessageKind.{MessageKind}
use Rattle.nr_reduce.specs.declared.outline.MessageKind.TheVariants.{Short, Chunked, Long}
use Rattle.nr_reduce.specs.declared.outline.Outline.{Outline}
use Rattle.nr_reduce.specs.declared.outline.Plan.{Plan}
use Rattle.nr_reduce.specs.declared.outline.PlanSizes.{PlanSizes}
use Rattle.nr_reduce.specs.declared.parts.PayloadFacts.{PayloadFacts}
use Rattle.nr_reduce.specs.Items.{reducible_item}
use Rattle.nr_reduce.specs.Largest.{largest_reply}
use Rattle.nr_reduce.specs.Limits.{given_max}
use Rattle.nr_reduce.specs.CallOutlines.{chunk_lengths, outline_plan, outline_plan_by, OutlineAnswers}
use Rattle.nr_reduce.specs.Plans.{TooLarge, segments_for, chunk_for, inline_plan, given_region, given_plan, given_total, given_within, plan_size, plan_in_form, plan_of, reduced_plan_by, reduced_plan, long_plan, first_within, offering, auto_offer, auto_plan, within, write_offer}
use Rattle.nr_reduce.proofs.Segments.{no_zero_count}
use Rattle.nr_reduce.specs.PlanSizes.{facts_of, plan_by, plan_of_sizes, ItemFits, KindFits, send_size, sizes_by, offer_sizes_by, auto_offer_sizes, item_kind_within, auto_kind, item_kind, sizes_in_form, own_outline, kind_outline, outline_within}

-- ---- Sizes

size_is_by : (payload : List ℕ) (kind : MessageKind) (w r : Option ℕ) → KindFits (length payload) kind → send_size (length payload) (sizes_by kind w r) ≡ plan_size (plan_by payload kind w r)
unfolding plan_size
size_is_by payload Short w r fits = omega arith
size_is_by payload (Chunked i) w r fits = (let a = length-take i.pos payload in omega (arith, a, fits))
size_is_by payload Long w r fits = omega arith

size_is : (payload : List ℕ) (o : PlanSizes) → KindFits (length payload) o.kind → send_size (length payload) o ≡ plan_size (plan_of_sizes payload o)
size_is payload o fits = size_is_by payload o.kind o.write o.reply fits

-- ---- The plan of each form

abbrev offered : List ℕ → Option ℕ × Option ℕ → Plan
offered payload o = plan_by payload Short o.0 o.1

offer_is : (payload : List ℕ) (b : Bool) (w : Option ℕ) → offered payload (cond b (None, None) (offer_sizes_by (largest_reply payload) w)) ≡ cond b (inline_plan payload) (offering payload w (inline_plan payload))
offer_is payload true w = refl
offer_is payload false None = refl
offer_is payload false (Some n) = refl

picked : (up : ℕ) (p q r : Plan) (a b : Bool) → leb (plan_size p) up ≡ a → (not (eqb (length q.read) 0) && leb (plan_size q) up) ≡ b → cond a p (cond b q r) ≡ first_within up p q r
picked up p q r a b e f = λ i. cond (sym e i) p (cond (sym f i) q r)

by_item : (payload : List ℕ) (up : ℕ) (p : Plan) (o : Option Item) → o ≡ reducible_item Call payload → first_within up p (reduced_plan_by payload p o) (long_plan payload p) ≡ auto_plan payload up p
unfolding reduced_plan
by_item payload up p o e = ap (λ (o : Option Item). first_within up p (reduced_plan_by payload p o) (long_plan payload p)) e

-- the plan of the kind that was found
kind_by : (payload : List ℕ) (up : ℕ) (w r : Option ℕ) (o : Option Item) (a b : Bool) → ItemFits (length payload) o
    → leb (send_size (length payload) (sizes_by Short w r)) up ≡ a
    → plan_by payload (cond a Short (item_kind_within (length payload) up w r o)) w r ≡ first_within up (plan_by payload Short w r) (reduced_plan_by payload (plan_by payload Short w r) o) (long_plan payload (plan_by payload Short w r))
kind_by payload up w r o true b fits e =
    picked up (plan_by payload Short w r) (reduced_plan_by payload (plan_by payload Short w r) o) (plan_by payload Long w r) true _
    (ap (λ (n : ℕ). leb n up) (sym (size_is_by payload Short w r tt)) ∙ e) refl
kind_by payload up w r None false b fits e =
    picked up (plan_by payload Short w r) (plan_by payload Short w r) (plan_by payload Long w r) false false
    (ap (λ (n : ℕ). leb n up) (sym (size_is_by payload Short w r tt)) ∙ e) refl
kind_by payload up w r (Some i) false b fits e = by (leb (send_size (length payload) (sizes_by (Chunked i) w r)) up) refl
  where
    within : (not (eqb (length (segments_for i.len)) 0) && leb (plan_size (plan_by payload (Chunked i) w r)) up) ≡ leb (send_size (length payload) (sizes_by (Chunked i) w r)) up
    within = (λ j. not (no_zero_count i.len j) && leb (sym (size_is_by payload (Chunked i) w r fits) j) up)

    by : (d : Bool) → leb (send_size (length payload) (sizes_by (Chunked i) w r)) up ≡ d → plan_by payload (cond d (Chunked i) Long) w r
        ≡ first_within up (plan_by payload Short w r) (plan_by payload (Chunked i) w r) (plan_by payload Long w r)
    by true f =
        picked up (plan_by payload Short w r) (plan_by payload (Chunked i) w r) (plan_by payload Long w r) false true
        (ap (λ (n : ℕ). leb n up) (sym (size_is_by payload Short w r tt)) ∙ e) (within ∙ f)
    by false f =
        picked up (plan_by payload Short w r) (plan_by payload (Chunked i) w r) (plan_by payload Long w r) false false
        (ap (λ (n : ℕ). leb n up) (sym (size_is_by payload Short w r tt)) ∙ e) (within ∙ f)

auto_kind_is : (payload : List ℕ) (up : ℕ) (w r : Option ℕ) → ItemFits (length payload) (reducible_item Call payload) → plan_by payload (auto_kind (facts_of payload) w r up) w r ≡ auto_plan payload up (plan_by payload Short w r)
auto_kind_is payload up w r fits =
    kind_by payload up w r (reducible_item Call payload) (leb (send_size (length payload) (sizes_by Short w r)) up) true fits refl
    ∙ by_item payload up (plan_by payload Short w r) (reducible_item Call payload) refl

chunk_is : (payload : List ℕ) (o : Option Item) (w : Option ℕ) → plan_by payload (item_kind o) w None ≡ reduced_plan_by payload (record (inline_plan payload) { write = chunk_for w }) o
chunk_is payload None w = refl
chunk_is payload (Some i) w = refl

auto_is : (payload : List ℕ) (up down : ℕ) (o : Option ℕ × Option ℕ) → ItemFits (length payload) (reducible_item Call payload) → o ≡ auto_offer_sizes (facts_of payload) down
    → plan_by payload (auto_kind (facts_of payload) o.0 o.1 up) o.0 o.1 ≡ auto_plan payload up (auto_offer payload down (inline_plan payload))
auto_is payload up down o fits e =
    auto_kind_is payload up o.0 o.1 fits
    ∙ ap (λ (p : Plan). auto_plan payload up p)
    (ap (λ (o : Option ℕ × Option ℕ). offered payload o) e ∙ offer_is payload (leb (HEADER_LEN_MIN + largest_reply payload) down) (write_offer payload))

own_is : (payload : List ℕ) (form : Form) (up down : ℕ) → IsNotGiven form → ItemFits (length payload) (reducible_item Call payload)
    → plan_of_sizes payload (sizes_in_form (facts_of payload) form up down) ≡ plan_in_form payload form up down
unfolding reduced_plan
own_is payload forms.Auto up down own fits = auto_is payload up down (auto_offer_sizes (facts_of payload) down) fits refl
own_is payload forms.Inline up down own fits = refl
own_is payload forms.Chunk up down own fits = chunk_is payload (reducible_item Call payload) (write_offer payload)
own_is payload forms.Long up down own fits = refl
own_is payload (forms.Given offer) up down own fits = absurd own

-- ---- The outline of these sizes

chunk_lengths_are : (o : Option ℕ) → chunk_lengths (option_map Own o) ≡ chunk_for o
chunk_lengths_are None = refl
chunk_lengths_are (Some n) = refl

-- a region that lies within the payload has no zeros after it
pub region_inside : (payload : List ℕ) (at n : ℕ) → at + n ≤ length payload → given_region payload at n ≡ take n (drop at payload)
region_inside payload at n le =
    let held : List ℕ = take n (drop at payload) in
    let none : n - length held ≡ 0 = (let a = length-take n (drop at payload) in let b = length-drop at payload in omega (arith, a, b, le)) in
    ap (λ (k : ℕ). held ++ replicate k 0) none ∙ append-nil held

kind_plan_is : (payload : List ℕ) (kind : MessageKind) (w r : Option (List ℕ)) → KindFits (length payload) kind → outline_plan_by payload (kind_outline (length payload) kind) w r ≡ record (plan_by payload kind None None) { write = w; reply = r }
kind_plan_is payload Short w r fits = refl
kind_plan_is payload (Chunked i) w r fits =
    ap (λ (bytes : List ℕ). record { inline = take i.pos payload; read_at = Some i.pos; read = segments_for i.len; region = bytes; write = w; reply = r }) (region_inside payload i.pos i.len fits)
kind_plan_is payload Long w r fits =
    ap (λ (bytes : List ℕ). record { inline = []; read_at = Some 0; read = segments_for (length payload); region = bytes; write = w; reply = r })
    (region_inside payload 0 (length payload) (omega arith) ∙ take_all (length payload) payload (omega arith))

written : (payload : List ℕ) (kind : MessageKind) (w r : Option ℕ) → record (plan_by payload kind None None) { write = chunk_for w; reply = chunk_for r } ≡ plan_by payload kind w r
written payload Short w r = refl
written payload (Chunked i) w r = refl
written payload Long w r = refl

outline_is : (payload : List ℕ) (o : PlanSizes) → KindFits (length payload) o.kind → outline_plan payload (own_outline (length payload) o) ≡ plan_of_sizes payload o
outline_is payload o fits =
    kind_plan_is payload o.kind (chunk_lengths (option_map Own o.write)) (chunk_lengths (option_map Own o.reply)) fits
    ∙ (λ i. record (plan_by payload o.kind None None) { write = chunk_lengths_are o.write i; reply = chunk_lengths_are o.reply i })
    ∙ written payload o.kind o.write o.reply

-- ---- Answers

abbrev gives : Result Outline CodeTooLarge → Result Outline CodeTooLarge
gives r = r

limited : (payload : List ℕ) (b : Bool) (need size room : ℕ) (o : Outline) (q : Plan) → need ≡ size → outline_plan payload o ≡ q
    → OutlineAnswers payload (cond b (Err (record { need = need; room = room })) (Ok o)) (cond b (Err (record { need = size; room = room })) (Ok q))
limited payload true need size room o q e f = ap (λ (n : ℕ). Err (record { need = n; room = room })) (sym e)
limited payload false need size room o q e f = ap (λ (p : Plan). Ok p) (sym f)

within_payload : (n : ℕ) (answer : Result Plan TooLarge) → n ≤ PAYLOAD_MAX → within n PAYLOAD_MAX answer ≡ answer
within_payload n answer le = λ i. cond (le-ltb PAYLOAD_MAX n le i) (Err (record { need = n; room = PAYLOAD_MAX })) answer

not_given : (form : Form) (answer : Result Plan TooLarge) → IsNotGiven form → given_within form answer ≡ answer
not_given forms.Auto answer own = refl
not_given forms.Inline answer own = refl
not_given forms.Chunk answer own = refl
not_given forms.Long answer own = refl
not_given (forms.Given offer) answer own = absurd own

planned_within : (payload : List ℕ) (form : Form) (up down : ℕ) → IsNotGiven form → length payload ≤ PAYLOAD_MAX
    → plan_of payload form up down ≡ within (plan_size (plan_in_form payload form up down)) up (Ok (plan_in_form payload form up down))
unfolding plan_of
planned_within payload form up down own le =
    let q : Plan = plan_in_form payload form up down in
    let sent : Result Plan TooLarge = within (plan_size q) up (Ok q) in
    within_payload (length payload) (given_within form sent) le ∙ not_given form sent own

-- the answer of a form that isn't given
own_answers : (payload : List ℕ) (form : Form) (up down : ℕ) → IsNotGiven form → length payload ≤ PAYLOAD_MAX → ItemFits (length payload) (reducible_item Call payload)
    → (o : PlanSizes) → o ≡ sizes_in_form (facts_of payload) form up down → KindFits (length payload) o.kind → OutlineAnswers payload (outline_within (length payload) up o) (plan_of payload form up down)
own_answers payload form up down own le fits o is kind_fits =
    let q : Plan = plan_in_form payload form up down in
    let same : plan_of_sizes payload o ≡ q = ap (λ (o : PlanSizes). plan_of_sizes payload o) is ∙ own_is payload form up down own fits in
    let size : send_size (length payload) o ≡ plan_size q = size_is payload o kind_fits ∙ ap (λ (p : Plan). plan_size p) same in
    let answer = limited payload (ltb up (send_size (length payload) o)) (send_size (length payload) o) (plan_size q) up (own_outline (length payload) o) q size (outline_is payload o kind_fits ∙ same) in
    subst (λ (r : Result Plan TooLarge). OutlineAnswers payload (outline_within (length payload) up o) r)
    (sym (planned_within payload form up down own le ∙ (λ i. cond (ltb up (sym size i)) (Err (record { need = plan_size q; room = up })) (Ok q)))) answer

-- what the code found for the facts of a payload
pub own_answer : (payload : List ℕ) (form : Form) (up down : ℕ) (facts : PayloadFacts) (o : PlanSizes) (r : Result Outline CodeTooLarge) → IsNotGiven form → facts ≡ facts_of payload → facts.len ≤ PAYLOAD_MAX
    → ItemFits facts.len facts.item → o ≡ sizes_in_form facts form up down → KindFits facts.len o.kind → r ≡ outline_within facts.len up o → OutlineAnswers payload r (plan_of payload form up down)
own_answer payload form up down facts o r own e le fits is kind_fits r_is =
    let len : facts.len ≡ length payload = ap (λ (f : PayloadFacts). f.len) e in
    let item : facts.item ≡ reducible_item Call payload = ap (λ (f : PayloadFacts). f.item) e in
    subst (λ (r : Result Outline CodeTooLarge). OutlineAnswers payload r (plan_of payload form up down)) (ap (λ (n : ℕ). outline_within n up o) (sym len) ∙ sym r_is)
    (own_answers payload form up down own (subst (λ (n : ℕ). n ≤ PAYLOAD_MAX) len le) (subst (λ (f : PayloadFacts). ItemFits f.len f.item) e fits) o
    (is ∙ ap (λ (f : PayloadFacts). sizes_in_form f form up down) e) (subst (λ (n : ℕ). KindFits n o.kind) len kind_fits))

-- a payload that is too long
pub too_long : (payload : List ℕ) (form : Form) (up down : ℕ) (facts : PayloadFacts) → facts ≡ facts_of payload → PAYLOAD_MAX < facts.len
    → OutlineAnswers payload (Err (record { need = facts.len; room = PAYLOAD_MAX })) (plan_of payload form up down)
unfolding plan_of
too_long payload form up down facts e lt =
    let len : facts.len ≡ length payload = ap (λ (f : PayloadFacts). f.len) e in
    (λ i. cond (lt-ltb PAYLOAD_MAX (length payload) (subst (λ (n : ℕ). PAYLOAD_MAX < n) len lt) i) (Err (record { need = length payload; room = PAYLOAD_MAX })) (given_within form (within (plan_size (plan_in_form payload form up down)) up (Ok (plan_in_form payload form up down)))))
    ∙ ap (λ (n : ℕ). Err (record { need = n; room = PAYLOAD_MAX })) (sym len)

-- the answer of an offer that is given
pub given_answer : (payload : List ℕ) (offer : Offer) (up down : ℕ) (facts : PayloadFacts) (r : Result Outline CodeTooLarge) → facts ≡ facts_of payload → facts.len ≤ PAYLOAD_MAX
    → (length payload ≡ facts.len → OutlineAnswers payload r (within (given_total offer) given_max (within (plan_size (given_plan payload offer)) up (Ok (given_plan payload offer)))))
    → OutlineAnswers payload r (plan_of payload (forms.Given offer) up down)
unfolding plan_of
given_answer payload offer up down facts r e le h =
    let len : facts.len ≡ length payload = ap (λ (f : PayloadFacts). f.len) e in
    subst (λ (planned : Result Plan TooLarge). OutlineAnswers payload r planned)
    (sym (within_payload (length payload) (within (given_total offer) given_max (within (plan_size (given_plan payload offer)) up (Ok (given_plan payload offer)))) (subst (λ (n : ℕ). n ≤ PAYLOAD_MAX) len le)))
    (h (sym len))
