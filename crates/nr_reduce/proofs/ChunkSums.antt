-- Sums over chunks, as far as a loop has come.
use Rattle.std.proofs.Common.{◌≡◌, ℕ, ◌+◌, ◌<◌, false, leb, List, [], ◌∷◌, length, take, Option, Some, None, refl, sym, arith}
use Rattle.std.proofs.lemmas.Bool.{lt-leb}
use Rattle.std.proofs.lemmas.List.Sums.{sum_by-take-le}
use Rattle.nr_header.specs.Constants.{HEADER_LEN_MIN}
use Rattle.nr_header.specs.Length.{write_chunk_len, write_list_len}
use Rattle.nr_header.specs.declared.header.RdmaSegment.{RdmaSegment}
use Rattle.nr_reduce.specs.declared.item.Item.{Item}
use Rattle.nr_reduce.specs.declared.item.Of.{Of}
use Rattle.nr_reduce.specs.Chunks.{chunk_total}
use Rattle.nr_reduce.specs.Items.{reducible_item}
use Rattle.nr_reduce.specs.Holds.{parts_by, parts_in, answer_size}
use Rattle.nr_reduce.specs.CodeViews.{first_total, parts_for, parts_of}

pub parts_by_total : (of : Of) (chunks : List (List RdmaSegment)) (reply : List ℕ) → parts_in of chunks reply ≡ parts_of of (first_total chunks) reply
unfolding parts_of
parts_by_total of [] reply = refl
parts_by_total of ([] ∷ chunks) reply = refl
parts_by_total of ((s ∷ chunk) ∷ chunks) reply = by (reducible_item of reply)
  where
    by : (o : Option Item) → parts_by (s ∷ chunk) reply o ≡ parts_for (chunk_total (s ∷ chunk)) reply o
    by None = refl
    by (Some i) = refl

-- what a message has so far passes its room, and so does the complete message
pub passes : (chunks : List (List RdmaSegment)) (i len need down : ℕ) → need ≡ HEADER_LEN_MIN + len + write_list_len (take i chunks) → down < need
    → false ≡ leb (answer_size chunks + len) down
passes chunks i len need down e lt = sym (lt-leb _ _ (omega (arith, e, sum_by-take-le (λ (chunk : List RdmaSegment). write_chunk_len (length chunk)) chunks i)))
