-- What a plan offers for its reply: its lists and its regions belong together.
use Rattle.std.proofs.Common.{◌≡◌, ℕ, ◌+◌, List, [], ◌∷◌, replicate, sum, Option, None, Some, refl, sym, ap, subst, ◌∙◌}
use Rattle.std.proofs.lemmas.List.{length-replicate}
use Rattle.nr_header.specs.declared.header.ChunkLists.{ChunkLists}
use Rattle.nr_regions.specs.declared.right.Right.TheVariants.{Fetch, Fill}
use Rattle.nr_regions.specs.RegisteredMemory.{RegisteredMemory}
use Rattle.nr_endpoint.specs.declared.offering.Offered.{Offered}
use Rattle.nr_endpoint.specs.declared.offering.Claims.{Claims}
use Rattle.nr_endpoint.specs.Offering.{with_read, with_write_buffer, claim_if, claims_of}
use Rattle.nr_reduce.specs.declared.outline.Plan.{Plan}
use Rattle.nr_reduce.specs.Plans.{segments_from, has_segment, one_if, total, lists_of, write_list, reply_chunk, write_stag, reply_stag}
use Rattle.nr_requester.specs.Sending.{some_if, offered_of}
use Rattle.nr_requester.specs.HeldClaims.{IsChunkOf, IsWriteOf, IsReplyOf, IsOfferOf}
use Rattle.nr_requester.proofs.Sent.{next_buffer}

chunk_is : (m : RegisteredMemory) (stag : ℕ) (lengths : List ℕ) → m.next ≡ stag → IsChunkOf (claim_if m (some_if (has_segment (Some lengths)) (replicate (sum lengths) 0))) (segments_from stag 0 lengths)
chunk_is m stag [] e = refl
chunk_is m stag (n ∷ lengths) e = (n ∷ lengths, ap (λ (s : ℕ). segments_from s 0 (n ∷ lengths)) (sym e), (let len = length-replicate {A = ℕ} (sum (n ∷ lengths)) 0 in sym len))

write_is : (m : RegisteredMemory) (stag : ℕ) (w : Option (List ℕ)) → m.next ≡ stag → IsWriteOf (claim_if m (some_if (has_segment w) (replicate (total w) 0))) (write_list stag w)
write_is m stag None e = refl
write_is m stag (Some lengths) e = chunk_is m stag lengths e

reply_is : (m : RegisteredMemory) (stag : ℕ) (w : Option (List ℕ)) → m.next ≡ stag → IsReplyOf (claim_if m (some_if (has_segment w) (replicate (total w) 0))) (reply_chunk stag w)
reply_is m stag None e = refl
reply_is m stag (Some lengths) e = chunk_is m stag lengths e

pub offer_is : (m : RegisteredMemory) (p : Plan) → IsOfferOf (claims_of m (offered_of p)) (lists_of m.next p)
unfolding lists_of
offer_is m p =
    let second : (with_read m (offered_of p)).next ≡ write_stag m.next p = next_buffer m Fetch (has_segment (Some p.read)) p.region in
    let third : (with_write_buffer m (offered_of p)).next ≡ reply_stag m.next p = next_buffer (with_read m (offered_of p)) Fill (has_segment p.write) (replicate (total p.write) 0) ∙ ap (λ (n : ℕ). n + one_if (has_segment p.write)) second in
    record {
      write = write_is (with_read m (offered_of p)) (write_stag m.next p) p.write second;
      reply = reply_is (with_write_buffer m (offered_of p)) (reply_stag m.next p) p.reply third;
    }

pub own_offer : (m : RegisteredMemory) (p : Plan) (offered : Offered) (claims : Claims) (lists : ChunkLists) → claims ≡ claims_of m offered → offered ≡ offered_of p → lists ≡ lists_of m.next p → IsOfferOf claims lists
own_offer m p offered claims lists is are listed =
    subst (λ (l : ChunkLists). IsOfferOf claims l) (sym listed) (subst (λ (c : Claims). IsOfferOf c (lists_of m.next p)) (sym (is ∙ ap (claims_of m) are)) (offer_is m p))
