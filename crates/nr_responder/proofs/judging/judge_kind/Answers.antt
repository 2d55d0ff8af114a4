use Rattle.nr_header.specs.declared.header.ReadSegment.{ReadSegment}
use Rattle.std.specs.Prelude.{◌==◌}
use Rattle.std.proofs.Common.{Option, Some, None, List, ◌≡◌, false, true, drop, eqb, length, sym, ap, subst, ◌∙◌}
use Rattle.nr_header.specs.declared.header.MessageKind.{MessageKind}
use Rattle.nr_header.specs.ReadInto.{body_with}
use Rattle.nr_header.specs.Slices.{lists_of_slices}
use Rattle.nr_reduce.specs.declared.item.Item.{Item}
use Rattle.nr_reduce.specs.CodeViews.{is_read_chunk_of}
use Rattle.nr_reduce.proofs.CallForms.{read_chunk_is}
use Rattle.nr_reduce.specs.Chunks.{item_position, is_read_chunk_of_item}
use Rattle.nr_responder.specs.declared.judging.Judged.{Judged}
use Rattle.nr_responder.specs.Views.{JudgesBody, reads_if}
use Rattle.nr_responder.proofs.Judged.{msg_judged, nomsg_judged}
use Rattle.nr_responder.proofs.judging.judge_kind.Goals as goal

pub returns-else-is_empty-clause-body : goal.returns-else-is_empty-clause-body
returns-else-is_empty-clause-body c =
    let lists = lists_of_slices c.args.lists in
    let fits : c.is_read_chunk_of-fits.result ≡ is_read_chunk_of_item (drop c.in-Msg.stream_at c.args.message.now) lists.read =
    c.is_read_chunk_of-fits.ensures ∙ ap (λ (o : Option Item). is_read_chunk_of o lists.read (item_position lists.read)) c.read_head-head.ensures.1 ∙ read_chunk_is _ lists.read
    ∙ (λ i. is_read_chunk_of_item (c.split_at.ensures.back i) lists.read) in
    subst (λ (j : Judged). JudgesBody c.args.message.now (body_with c.args.kind lists) lists j) (sym c.reads_if.ensures)
    (subst (λ (k : MessageKind). JudgesBody c.args.message.now (body_with k lists) lists (reads_if c.is_read_chunk_of-fits.result c.in-Msg.stream_at true (Some c.read_head-head.result))) (sym c.in-Msg.is)
    (msg_judged c.args.message.now lists c.in-Msg.stream_at c.is_read_chunk_of-fits.result (Some c.read_head-head.result) (λ none. absurd (let two : false ≡ true = sym c.if-is_empty.false ∙ c.is_empty.ensures ∙ ap (λ (read : List ReadSegment). length read == 0) none in cc)) fits))

pub returns-in-Nomsg-clause-body : goal.returns-in-Nomsg-clause-body
returns-in-Nomsg-clause-body c =
    let lists = lists_of_slices c.args.lists in
    subst (λ (j : Judged). JudgesBody c.args.message.now (body_with c.args.kind lists) lists j) (sym c.reads_if-in-Nomsg.ensures)
    (subst (λ (k : MessageKind). JudgesBody c.args.message.now (body_with k lists) lists (reads_if c.brings_stream-fits.result (length c.args.message.now) (eqb c.total_at-inline.result 0) None)) (sym c.in-Nomsg.is)
    (nomsg_judged c.args.message.now lists c.brings_stream-fits.result c.total_at-inline.result None c.brings_stream-fits.ensures c.total_at-inline.ensures))
