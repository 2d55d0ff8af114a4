use Rattle.std.proofs.Common.{List, ℕ, ◌++◌, ap, sym, ◌∙◌, take, get_or}
use Rattle.std.specs.List.{filter}
use Rattle.nr_header.specs.declared.header.ReadSegment.{ReadSegment}
use Rattle.nr_reduce.specs.Chunks.{positions}
use Rattle.nr_responder.specs.private.CallsRead.{chunk_here, has_bytes_at}
use Rattle.nr_responder.proofs.ListedReads.{chunks_more, no_entry, take_more}
use Rattle.nr_responder.proofs.read_lists.chunk_positions.Goals as goal

pub entries-preserved : goal.entries-preserved
entries-preserved c = record {
  chunks =
      c.in_ok-push_chunk.ensures no_entry
      ∙ ap (λ (ps : List ℕ). ps ++ chunk_here (take c.entries.i c.args.read.now) (get_or c.args.read.now c.entries.i no_entry) c.args.read.now) c.entries.invariant.chunks
      ∙ sym (chunks_more c.args.read.now (take c.entries.i c.args.read.now) (get_or c.args.read.now c.entries.i no_entry))
      ∙ ap (λ (rs : List ReadSegment). filter (has_bytes_at c.args.read.now) (positions rs)) (sym (take_more c.args.read.now c.entries.i no_entry c.entries-test.true));
}
