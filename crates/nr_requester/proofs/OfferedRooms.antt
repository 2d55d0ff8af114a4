-- The room of a reply, by the lists of a plan.
use Rattle.std.specs.Prelude.{sum}
use Rattle.std.proofs.Common.{◌≡◌, ◌∙◌, ℕ, ◌+◌, List, Option, None, Some, refl, sym, arith}
use Rattle.nr_reduce.specs.Chunks.{chunk_total}
use Rattle.nr_reduce.specs.declared.outline.Plan.{Plan}
use Rattle.nr_reduce.specs.Plans.{total, segments_from, write_list, reply_chunk, write_stag, reply_stag, lists_of}
use Rattle.nr_reduce.proofs.WrittenChunks.{chunk_added, sum_added}
use Rattle.nr_requester.specs.HeldBytes.{chunks_total, chunk_if, reply_room}

segments_added : (stag at : ℕ) (lengths : List ℕ) → chunk_total (segments_from stag at lengths) ≡ sum lengths
segments_added stag at lengths = chunk_added stag at lengths ∙ sym (sum_added lengths)

written_total : (stag : ℕ) (lengths : Option (List ℕ)) → chunks_total (write_list stag lengths) ≡ total lengths
written_total stag None = refl
written_total stag (Some lengths) = omega (arith, segments_added stag 0 lengths)

reply_total : (stag : ℕ) (lengths : Option (List ℕ)) → chunk_if (reply_chunk stag lengths) ≡ total lengths
reply_total stag None = refl
reply_total stag (Some lengths) = segments_added stag 0 lengths

pub room_offered : (len stag : ℕ) (p : Plan) → reply_room len (lists_of stag p) ≡ len + (total p.write + (total p.reply + 3))
unfolding lists_of
room_offered len stag p = omega (arith, written_total (write_stag stag p) p.write, reply_total (reply_stag stag p) p.reply)
