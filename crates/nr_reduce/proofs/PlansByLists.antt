-- A plan is made again of its payload, the position of its read chunk, and its lists.
use Rattle.std.proofs.Common.{◌≡◌, ℕ, ◌+◌, ◌≤◌, Bool, true, false, cond, ◌&&◌, not, eqb, leb, List, [], ◌∷◌, length, map, take, sum, Option, None, Some, Result, Ok, refl, sym, ap, subst, ◌∙◌, arith}
use Rattle.std.specs.Prelude.{option_map}
use Rattle.std.proofs.lemmas.List.{take_all}
use Rattle.nr_header.specs.declared.header.RdmaSegment.{RdmaSegment}
use Rattle.nr_header.specs.declared.header.ReadSegment.{ReadSegment}
use Rattle.nr_header.specs.declared.header.ChunkLists.{ChunkLists}
use Rattle.nr_header.specs.Constants.{HEADER_LEN_MIN}
use Rattle.nr_reduce.specs.declared.call.Form.{Form}
use Rattle.nr_reduce.specs.declared.call.Form.TheVariants as forms
use Rattle.nr_reduce.specs.declared.call.Offer.{Offer}
use Rattle.nr_reduce.specs.declared.item.Item.{Item}
use Rattle.nr_reduce.specs.declared.item.Of.TheVariants.{Call}
use Rattle.nr_reduce.specs.declared.outline.Plan.{Plan}
use Rattle.nr_reduce.specs.Items.{reducible_item, moved_of, stream_of}
use Rattle.nr_reduce.specs.Largest.{largest_reply}
use Rattle.nr_reduce.specs.Plans.{segments_from, entries_from, read_list, write_list, reply_chunk, write_stag, reply_stag, lists_of, segments_for, chunk_for, inline_plan, given_region, given_read, given_plan, plan_size, plan_in_form, plan_of, reduced_plan_by, reduced_plan, long_plan, first_within, offering, auto_offer, auto_plan, write_offer}
use Rattle.nr_reduce.specs.PlansByLists.{segment_lengths, entry_lengths, write_lengths, plan_by_lists}
use Rattle.nr_reduce.proofs.Rebuilding.{reducible}
use Rattle.nr_reduce.proofs.Segments.{segments_sum}
use Rattle.nr_reduce.proofs.Outlining.{region_inside}
use Rattle.nr_reduce.proofs.Sizes.{is_formed}

-- ---- The lengths in lists

lengths_again : (handle offset : ℕ) (lengths : List ℕ) → segment_lengths (segments_from handle offset lengths) ≡ lengths
lengths_again handle offset [] = refl
lengths_again handle offset (n ∷ lengths) = ap (λ (xs : List ℕ). n ∷ xs) (lengths_again handle (offset + n) lengths)

entries_again : (position handle offset : ℕ) (lengths : List ℕ) → entry_lengths (entries_from position handle offset lengths) ≡ lengths
entries_again position handle offset [] = refl
entries_again position handle offset (n ∷ lengths) = ap (λ (xs : List ℕ). n ∷ xs) (entries_again position handle (offset + n) lengths)

write_again : (stag : ℕ) (write : Option (List ℕ)) → write_lengths (write_list stag write) ≡ write
write_again stag None = refl
write_again stag (Some lengths) = ap (λ (xs : List ℕ). Some xs) (lengths_again stag 0 lengths)

reply_again : (stag : ℕ) (reply : Option (List ℕ)) → option_map segment_lengths (reply_chunk stag reply) ≡ reply
reply_again stag None = refl
reply_again stag (Some lengths) = ap (λ (xs : List ℕ). Some xs) (lengths_again stag 0 lengths)

-- ---- What a plan has inline and in its read chunk

-- without a read chunk the payload goes inline; else what is before the chunk's position, and its region has the rest
abbrev IsCut : List ℕ → (read_at : Option ℕ) → Plan → Type 0
IsCut payload None p = (p.inline ≡ payload) × ((p.read ≡ []) × (p.region ≡ []))
IsCut payload (Some at) p = (p.inline ≡ take at payload) × (p.region ≡ given_region payload at (sum p.read))

abbrev Cut : List ℕ → Plan → Type 0
Cut payload p = IsCut payload p.read_at p

cut_if : (payload : List ℕ) (b : Bool) (p q : Plan) → Cut payload p → Cut payload q → Cut payload (cond b p q)
cut_if payload true p q h k = h
cut_if payload false p q h k = k

-- what is offered for the reply doesn't matter
cut_reduced : (payload : List ℕ) (p : Plan) (o : Option Item) → reducible_item Call payload ≡ o → Cut payload p → Cut payload (reduced_plan_by payload p o)
cut_reduced payload p None is h = h
cut_reduced payload p (Some i) is h =
    let r = reducible Call payload i is in
    let inside : given_region payload i.pos i.len ≡ moved_of payload i = region_inside payload i.pos i.len (omega (arith, r.size)) in
    (refl, sym inside ∙ ap (λ (n : ℕ). given_region payload i.pos n) (sym (segments_sum i.len)))

cut_long : (payload : List ℕ) (p : Plan) → Cut payload (long_plan payload p)
cut_long payload p =
    let all : given_region payload 0 (length payload) ≡ payload = region_inside payload 0 (length payload) (omega arith) ∙ take_all (length payload) payload (omega arith) in
    (refl, sym all ∙ ap (λ (n : ℕ). given_region payload 0 n) (sym (segments_sum (length payload))))

cut_offering : (payload : List ℕ) (o : Option ℕ) → Cut payload (offering payload o (inline_plan payload))
cut_offering payload None = (refl, (refl, refl))
cut_offering payload (Some n) = (refl, (refl, refl))

cut_given : (payload : List ℕ) (at : ℕ) (read : Option (List ℕ)) (p : Plan) → Cut payload p → Cut payload (given_read payload at read p)
cut_given payload at None p h = h
cut_given payload at (Some lengths) p h = (refl, refl)

cut_in_form : (payload : List ℕ) (form : Form) (up down : ℕ) → Cut payload (plan_in_form payload form up down)
unfolding reduced_plan
cut_in_form payload forms.Auto up down =
    let p : Plan = auto_offer payload down (inline_plan payload) in
    let plain : Cut payload p = cut_if payload (leb (HEADER_LEN_MIN + largest_reply payload) down) (inline_plan payload) (offering payload (write_offer payload) (inline_plan payload)) (refl, (refl, refl)) (cut_offering payload (write_offer payload)) in
    cut_if payload (leb (plan_size p) up) p _ plain
    (cut_if payload (not (eqb (length (reduced_plan payload p).read) 0) && leb (plan_size (reduced_plan payload p)) up) (reduced_plan payload p) (long_plan payload p) (cut_reduced payload p (reducible_item Call payload) refl plain) (cut_long payload p))
cut_in_form payload forms.Inline up down = (refl, (refl, refl))
cut_in_form payload forms.Chunk up down = cut_reduced payload (record (inline_plan payload) { write = chunk_for (write_offer payload) }) (reducible_item Call payload) refl (refl, (refl, refl))
cut_in_form payload forms.Long up down = cut_long payload (record (inline_plan payload) { reply = Some (segments_for (largest_reply payload)) })
cut_in_form payload (forms.Given offer) up down =
    cut_given payload offer.read_at offer.read (record { inline = payload; read_at = None; read = []; region = []; write = offer.write; reply = offer.reply }) (refl, (refl, refl))

-- ---- The plan

made_again : (payload : List ℕ) (stag : ℕ) (p : Plan) (at : Option ℕ) → p.read_at ≡ at → IsCut payload at p → p ≡ plan_by_lists payload at (lists_of stag p)
unfolding lists_of
made_again payload stag p None is cut =
    let w : write_lengths (write_list (write_stag stag p) p.write) ≡ p.write = write_again (write_stag stag p) p.write in
    let r : option_map segment_lengths (reply_chunk (reply_stag stag p) p.reply) ≡ p.reply = reply_again (reply_stag stag p) p.reply in
    λ i. record { inline = cut.0 i; read_at = is i; read = cut.1.0 i; region = cut.1.1 i; write = sym w i; reply = sym r i }
made_again payload stag p (Some at) is cut =
    let w : write_lengths (write_list (write_stag stag p) p.write) ≡ p.write = write_again (write_stag stag p) p.write in
    let r : option_map segment_lengths (reply_chunk (reply_stag stag p) p.reply) ≡ p.reply = reply_again (reply_stag stag p) p.reply in
    let e : entry_lengths (read_list stag p p.read_at) ≡ p.read = ap (λ (o : Option ℕ). entry_lengths (read_list stag p o)) is ∙ entries_again at stag 0 p.read in
    let region : p.region ≡ given_region payload at (sum (entry_lengths (read_list stag p p.read_at))) = cut.1 ∙ ap (λ (xs : List ℕ). given_region payload at (sum xs)) (sym e) in
    λ i. record { inline = cut.0 i; read_at = is i; read = sym e i; region = region i; write = sym w i; reply = sym r i }

pub planned_by_lists : (payload : List ℕ) (form : Form) (up down stag : ℕ) (p : Plan) → plan_of payload form up down ≡ Ok p → p ≡ plan_by_lists payload p.read_at (lists_of stag p)
planned_by_lists payload form up down stag p e =
    let formed = is_formed payload form up down p e in
    made_again payload stag p p.read_at refl (subst (λ (q : Plan). Cut payload q) formed.is (cut_in_form payload form up down))
