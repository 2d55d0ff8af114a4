use Rattle.std.proofs.Common.{◌≡◌, ℕ, List, Option, Some, None, sym, ap, ◌∙◌}
use Rattle.nr_header.specs.declared.header.ReadSegment.{ReadSegment}
use Rattle.nr_reduce.specs.Chunks.{is_item, is_read_chunk_at, is_read_chunk_of_item, item_position}
use Rattle.nr_reduce.proofs.reading.is_read_chunk_of_item.Goals as goal

chunk_at : (stream : List ℕ) (read : List ReadSegment) (o : Option ℕ) → item_position read ≡ o → is_read_chunk_at stream read o ≡ is_read_chunk_of_item stream read
unfolding is_read_chunk_of_item
chunk_at stream read o is = ap (is_read_chunk_at stream read) (sym is)

pub returns-in-Some : goal.returns-in-Some
returns-in-Some c =
    c.is_item.ensures ∙ (λ i. is_item (c.call_item.ensures.exact i) c.in-Some.position (c.total_at.ensures i))
    ∙ chunk_at c.args.stream.now c.args.read.now (Some c.in-Some.position) (sym c.item_position.ensures ∙ c.in-Some.is)

pub returns-in-None : goal.returns-in-None
returns-in-None c = chunk_at c.args.stream.now c.args.read.now None (sym c.item_position.ensures ∙ c.in-None.is)
