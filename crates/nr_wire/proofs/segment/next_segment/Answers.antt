use Rattle.std.proofs.Common.{◌≤◌, ◌∙◌, ap, sym, length, take, arith}
use Rattle.nr_xdr.specs.Item.{IsBytes}
use Rattle.nr_wire.specs.Segment.{IsSupported, Reads}
use Rattle.nr_wire.specs.Next.{segment_in}
use Rattle.nr_wire.specs.View.{next_segment}
use Rattle.nr_wire.proofs.Nexts.{if_whole}
use Rattle.nr_wire.proofs.Segments.{segment_found, segment_again, segment_more, segment_bad}
use Rattle.nr_wire.proofs.segment.next_segment.Goals as goal

pub returns-clause-found : goal.returns-clause-found
returns-clause-found c =
    let bytes = c.args.bytes.now in
    let fits : IsBytes bytes = λ i. omega (arith, c.type_inv.bytes i) in
    if_whole (next_segment c.next_segment_inner.result)
    (λ segment len. IsSupported segment × Reads segment (take len bytes) × (len ≤ length bytes))
    (λ segment len e.
    let f = segment_found bytes segment len fits (sym c.next_segment_inner.ensures ∙ e) in
    (f.through, f.reads, f.within))

pub returns-clause-only : goal.returns-clause-only
returns-clause-only c = λ segment frame more through reads e.
    c.next_segment_inner.ensures ∙ ap segment_in e ∙ segment_again segment frame more through reads

pub returns-clause-more : goal.returns-clause-more
returns-clause-more c = rw c.next_segment_inner.ensures (segment_more c.args.bytes.now)

pub returns-clause-bad : goal.returns-clause-bad
returns-clause-bad c = λ reason. rw c.next_segment_inner.ensures (segment_bad c.args.bytes.now reason)
