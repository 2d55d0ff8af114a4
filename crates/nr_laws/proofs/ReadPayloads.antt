-- A call with bytes to be read is executed with what its form conveys.
use Rattle.std.proofs.Common.{◌≡◌, ℕ, ◌+◌, ◌^◌, ◌≤◌, ◌<◌, Bool, true, false, cond, ◌||◌, eqb, List, [], ◌∷◌, ◌++◌, length, drop, Option, None, Some, Result, Ok, refl, sym, ap, subst, ◌∙◌, arith, eq-eqb, eqb-true, replicate}
use Rattle.std.specs.Prelude.{sum}
use Rattle.std.specs.List.{list_any}
use Rattle.std.proofs.lemmas.List.{length-take, length-drop}
use Rattle.nr_header.specs.Constants.{PAYLOAD_MAX}
use Rattle.nr_regions.specs.declared.right.Right.TheVariants.{Fetch, Fill}
use Rattle.nr_reduce.specs.declared.call.Form.{Form}
use Rattle.nr_reduce.specs.declared.call.Form.TheVariants as forms
use Rattle.nr_reduce.specs.declared.call.Offer.{Offer}
use Rattle.nr_reduce.specs.declared.outline.Plan.{Plan}
use Rattle.nr_reduce.specs.Limits.{given_max}
use Rattle.nr_reduce.specs.Plans.{TooLarge, plan_of, plan_size, given_plan, given_read, given_total, total, within, has_segment, one_if, regions_needed, write_stag, reply_stag, buffer_if, buffers}
use Rattle.nr_reduce.specs.OfferedRegions.{Region}
use Rattle.nr_reduce.specs.ChunkBytes.{IsNotGiven}
use Rattle.nr_reduce.specs.ServerState.{PendingRead}
use Rattle.nr_reduce.proofs.WrittenChunks.{added_up}
use Rattle.nr_reduce.proofs.PlanKinds.{MessageKind, offered, shape, is_plan, within_ok_lem}
use Rattle.nr_reduce.proofs.PlanKinds.MessageKind.{Short, Chunked, Long}
use Rattle.nr_laws.proofs.ClientMemory.{HasRegion, HasBuffers}
use Rattle.nr_laws.proofs.FetchedRegions.{IsFetched}
use Rattle.nr_laws.proofs.SinkReads.{own_reads}
use Rattle.nr_reduce.proofs.Offers.{region_length}

-- ---- Regions are small

shape_small : (payload : List ℕ) (kind : MessageKind) (w r : Option (List ℕ)) → length payload ≤ PAYLOAD_MAX → length (shape payload kind w r).region < 2 ^ 32
shape_small payload Short w r h = omega arith
shape_small payload (Chunked i) w r h = (let a = length-take i.len (drop i.pos payload) in let b = length-drop i.pos payload in omega (arith, a, b, h))
shape_small payload Long w r h = omega (arith, h)

own_small : (payload : List ℕ) (form : Form) (up down : ℕ) (p : Plan) → IsNotGiven form → plan_of payload form up down ≡ Ok p → length p.region < 2 ^ 32
own_small payload form up down p own e =
    let is = is_plan payload form up down p own e in
    let s = is.shaped in
    subst (λ (q : Plan). length q.region < 2 ^ 32) (sym s.is) (shape_small payload s.kind (offered s.write) (offered s.reply) is.payload_fits)

given_small : (payload : List ℕ) (offer : Offer) (up down : ℕ) (p : Plan) → plan_of payload (forms.Given offer) up down ≡ Ok p → length p.region < 2 ^ 32
unfolding plan_of
given_small payload offer up down p e =
    let q : Plan = given_plan payload offer in
    let sent : Result Plan TooLarge = within (plan_size q) up (Ok q) in
    let a = within_ok_lem (length payload) PAYLOAD_MAX (within (given_total offer) given_max sent) p e in
    let b = within_ok_lem (given_total offer) given_max sent p a.1 in
    let c = within_ok_lem (plan_size q) up (Ok q) p b.1 in
    let same : q ≡ p = (let s : Ok q ≡ Ok p = c.1 in cc) in
    subst (λ (r : Plan). length r.region < 2 ^ 32) same (by offer.read (let s = b.0 in omega (arith, s)))
  where
    by : (o : Option (List ℕ)) → total o ≤ given_max → length (given_read payload offer.read_at o (record { inline = payload; read_at = None; read = []; region = []; write = offer.write; reply = offer.reply })).region < 2 ^ 32
    by None h = omega arith
    by (Some ns) h = (let l = region_length payload offer.read_at (sum ns) in omega (arith, l, h))

pub region_small : (payload : List ℕ) (form : Form) (up down : ℕ) (p : Plan) → plan_of payload form up down ≡ Ok p → length p.region < 2 ^ 32
region_small payload forms.Auto up down p e = own_small payload forms.Auto up down p tt e
region_small payload forms.Inline up down p e = own_small payload forms.Inline up down p tt e
region_small payload forms.Chunk up down p e = own_small payload forms.Chunk up down p tt e
region_small payload forms.Long up down p e = own_small payload forms.Long up down p tt e
region_small payload (forms.Given offer) up down p e = given_small payload offer up down p e

-- ---- The STag and the region of a read chunk

some_segment : (ns : List ℕ) → 0 < added_up ns → has_segment (Some ns) ≡ true
some_segment [] h = absurd (omega (arith, h))
some_segment (n ∷ ns) h = refl

pub stag_small : (stag : ℕ) (p : Plan) → 0 < added_up p.read → stag + regions_needed p ≤ 2 ^ 32 → stag < 2 ^ 32
unfolding regions_needed
stag_small stag p some room = (let o = ap one_if (some_segment p.read some) in omega (arith, o, room))

pub read_region : (regions : List Region) (stag : ℕ) (p : Plan) → 0 < added_up p.read → HasBuffers regions (buffers stag p) → HasRegion regions stag p.region
unfolding buffers
read_region regions stag p some h = by p.read some h
  where
    by : (ns : List ℕ) (some : 0 < added_up ns) → HasBuffers regions (buffer_if (has_segment (Some ns)) stag Fetch p.region ++ (buffer_if (has_segment p.write) (write_stag stag p) Fill (replicate (total p.write) 0)
        ++ buffer_if (has_segment p.reply) (reply_stag stag p) Fill (replicate (total p.reply) 0))) → HasRegion regions stag p.region
    by [] some h = absurd (omega (arith, some))
    by (n ∷ ns) some h = h.0

some_same : (x y : Region) → ◌≡◌ {A = Option Region} (Some x) (Some y) → x ≡ y
some_same x y e = cc

pub region_holds : (regions : List Region) (stag : ℕ) (bytes : List ℕ) → HasRegion regions stag bytes → (f : IsFetched regions stag) → f.region.bytes ≡ bytes
region_holds regions stag bytes h f = ap (λ (r : Region). r.bytes) (some_same f.region h.region (sym f.there ∙ h.there)) ∙ h.holds

-- ---- A call with bytes to be read isn't completed by its message

pub any_right : (number : ℕ) (xs ys : List PendingRead) → list_any (λ r. eqb r.number number) (xs ++ ys) ≡ false → list_any (λ r. eqb r.number number) ys ≡ false
any_right number [] ys e = e
any_right number (x ∷ xs) ys e = by (eqb x.number number) e (λ f. any_right number xs ys f)
  where
    by : (b : Bool) → (b || list_any (λ r. eqb r.number number) (xs ++ ys)) ≡ false → (list_any (λ r. eqb r.number number) (xs ++ ys) ≡ false → list_any (λ r. eqb r.number number) ys ≡ false) → list_any (λ r. eqb r.number number) ys ≡ false
    by true e next = absurd cc
    by false e next = next e

pub own_unread : (number position sink handle at : ℕ) (ns : List ℕ) → list_any (λ r. eqb r.number number) (own_reads number position sink handle at ns) ≡ false → added_up ns ≡ 0
own_unread number position sink handle at [] e = refl
own_unread number position sink handle at (n ∷ ns) e = by (eqb n 0) refl e (λ f. own_unread number position sink handle (at + n) ns f)
  where
    own : PendingRead
    own = record { number = number; position = position; sink = sink; at = at; size = n; stag = handle; to = at }

    by : (b : Bool) → eqb n 0 ≡ b → list_any (λ r. eqb r.number number) (cond b [] (own ∷ []) ++ own_reads number position sink handle (at + n) ns) ≡ false
        → (list_any (λ r. eqb r.number number) (own_reads number position sink handle (at + n) ns) ≡ false → added_up ns ≡ 0) → added_up (n ∷ ns) ≡ 0
    by true is e next = (let z = eqb-true n 0 is in let s = next e in omega (arith, z, s))
    by false is e next = absurd (let t : true ≡ false = sym (ap (λ (b : Bool). b || list_any (λ r. eqb r.number number) (own_reads number position sink handle (at + n) ns)) (eq-eqb number number refl)) ∙ e in cc)
