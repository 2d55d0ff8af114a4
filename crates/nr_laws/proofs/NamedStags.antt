-- The STag that a reply names is a word, as each of the offer is.
use Rattle.std.proofs.Common.{ℕ, ◌<◌, ◌^◌, Bool, true, false, List, [], ◌∷◌, Option, None, Some, IfSome}
use Rattle.std.specs.List.{flat_map}
use Rattle.nr_xdr.specs.Item.{Item}
use Rattle.nr_xdr.specs.Items.{AllFit}
use Rattle.nr_header.specs.declared.header.RdmaSegment.{RdmaSegment}
use Rattle.nr_header.specs.declared.header.ReadSegment.{ReadSegment}
use Rattle.nr_header.specs.declared.header.ChunkLists.{ChunkLists}
use Rattle.nr_header.specs.Header.{write_items, reply_items}
use Rattle.nr_reduce.specs.Holds.{no_segments}
use Rattle.nr_reduce.specs.Server.{first_handle, or_handle, read_handle, named_stag, stag_named}
use Rattle.nr_reduce.proofs.AnswerMessages.{read_tail}
use Rattle.nr_laws.proofs.WritableOffers.{SegmentsFit, EntriesFit, OfferFits}

abbrev pub IsStagWord : Option ℕ → Type 0
IsStagWord o = IfSome o (λ stag. stag < 2 ^ 32)

or_word : (a b : Option ℕ) → IsStagWord a → IsStagWord b → IsStagWord (or_handle a b)
or_word None b h g = g
or_word (Some stag) b h g = h

read_word : (read : List ReadSegment) → EntriesFit read → IsStagWord (read_handle read)
read_word [] h = tt
read_word (r ∷ read) h = h.0.1

chunk_word : (chunk : List RdmaSegment) → SegmentsFit chunk → IsStagWord (first_handle chunk)
chunk_word [] h = tt
chunk_word (s ∷ chunk) h = h.0.0

write_word : (chunks : List (List RdmaSegment)) (more : List Item) → AllFit (write_items chunks more) → IsStagWord (first_handle (flat_map (λ chunk. chunk) chunks))
write_word [] more h = tt
write_word ([] ∷ chunks) more h = write_word chunks more h.1.1
write_word ((s ∷ chunk) ∷ chunks) more h = h.1.1.0

pub named_word_lem : (invalidates : Bool) (offer : ChunkLists) → OfferFits offer → IsStagWord (stag_named invalidates offer)
unfolding named_stag
named_word_lem true offer h =
    or_word (read_handle offer.read) (or_handle (first_handle (flat_map (λ chunk. chunk) offer.write)) (first_handle (no_segments offer.reply))) (read_word offer.read h.reads)
    (or_word (first_handle (flat_map (λ chunk. chunk) offer.write)) (first_handle (no_segments offer.reply))
    (write_word offer.write (reply_items offer.reply []) (read_tail offer.read (write_items offer.write (reply_items offer.reply [])) h.items)) (chunk_word (no_segments offer.reply) h.replies))
named_word_lem false offer h = tt
