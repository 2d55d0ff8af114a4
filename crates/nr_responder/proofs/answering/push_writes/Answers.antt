use Rattle.nr_header.specs.declared.header.RdmaSegment.{RdmaSegment}
use Rattle.nr_endpoint.specs.Offering.{writes_output}
use Rattle.nr_responder.proofs.Writes.{writes_step}
use Rattle.nr_responder.proofs.answering.push_writes.Goals as goal

pub segments-preserved : goal.segments-preserved
segments-preserved c =
    let d : RdmaSegment = record { handle = 0; length = 0; offset = 0 } in
    record {
      output = writes_step c.args.chunk.now c.segments.segment-index d c.segments.left.now (writes_output c.segments.writes.items) (writes_output c.push_some.new.writes.items) _ _ _ c.segments-test.true c.segments.invariant.output c.in_ok-push_some.ensures.output c.part.ensures.first c.part.ensures.rest;
      fits = c.in_ok-push_some.ensures.fits;
    }
