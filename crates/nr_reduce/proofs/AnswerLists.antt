-- The lists of an answer have the same number of segments as those of its offer.
use Rattle.std.proofs.Common.{◌≡◌, ℕ, suc, ◌-◌, ◌^◌, ◌<◌, ◌≤◌, Bool, true, false, cond, min, List, [], ◌∷◌, length, Option, None, Some, refl, sym, ap, subst, arith}
use Rattle.std.specs.Prelude.{IfSome}
use Rattle.std.specs.List.{AllByRecursion}
use Rattle.std.proofs.lemmas.List.Elements.{All-from_recursion, recursion_from_All}
use Rattle.nr_header.specs.declared.header.RdmaSegment.{RdmaSegment}
use Rattle.nr_header.specs.declared.header.ChunkLists.{ChunkLists}
use Rattle.nr_header.specs.Header.{ChunksFit}
use Rattle.nr_header.specs.WithinLimits.{ListsWithin}
use Rattle.nr_header.specs.Constants.{CHUNK_SEGMENTS_MAX}
use Rattle.nr_reduce.specs.Chunks.{filled_chunk}
use Rattle.nr_reduce.specs.Holds.{Answer, empty_chunks, written_chunks, no_segments, answer_lists}

filled_length : (chunk : List RdmaSegment) (n : ℕ) → length (filled_chunk chunk n) ≡ length chunk
filled_length [] n = refl
filled_length (s ∷ chunk) n = ap suc (filled_length chunk (n - min s.length n))

abbrev IsChunkWithin : List RdmaSegment → Type 0
IsChunkWithin chunk = length chunk ≤ CHUNK_SEGMENTS_MAX

abbrev IsWord : List RdmaSegment → Type 0
IsWord chunk = length chunk < 2 ^ 32

filled_fits : (chunk : List RdmaSegment) (n : ℕ) → IsChunkWithin chunk → IsWord (filled_chunk chunk n)
filled_fits chunk n le = omega (arith, le, filled_length chunk n)

empty_fit : (chunks : List (List RdmaSegment)) → AllByRecursion IsChunkWithin chunks → AllByRecursion IsWord (empty_chunks chunks)
empty_fit [] h = tt
empty_fit (chunk ∷ chunks) h = (filled_fits chunk 0 h.0, empty_fit chunks h.1)

written_fit_lem : (chunks : List (List RdmaSegment)) (n : ℕ) → AllByRecursion IsChunkWithin chunks → AllByRecursion IsWord (written_chunks chunks n)
written_fit_lem [] n h = tt
written_fit_lem (chunk ∷ chunks) n h = (filled_fits chunk n h.0, empty_fit chunks h.1)

reply_fits_lem : (long : Bool) (offered : Option (List RdmaSegment)) (n : ℕ) → IfSome offered IsChunkWithin → IfSome (cond long (Some (filled_chunk (no_segments offered) n)) None) IsWord
reply_fits_lem false offered n h = tt
reply_fits_lem true None n h = filled_fits [] n (omega arith)
reply_fits_lem true (Some chunk) n h = filled_fits chunk n h

pub lists_fit : (offer : ChunkLists) (a : Answer) (lists : ChunkLists) → ListsWithin offer → lists ≡ answer_lists offer a → ChunksFit lists
lists_fit offer a lists within is =
    subst ChunksFit (sym is) (
      All-from_recursion IsWord (written_chunks offer.write (length a.moved)) (written_fit_lem offer.write (length a.moved) (recursion_from_All IsChunkWithin offer.write within.chunk_segments)),
      reply_fits_lem a.long offer.reply (length a.stream) within.reply_segments,
    )
