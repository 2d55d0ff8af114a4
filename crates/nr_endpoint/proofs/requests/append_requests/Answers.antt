use Rattle.std.proofs.Common.{refl, arith, ◌∙◌}
use Rattle.nr_endpoint.specs.declared.requests.RemoteRead.{RemoteRead}
use Rattle.nr_endpoint.proofs.Requested.{last_goes, request_goes}
use Rattle.nr_endpoint.proofs.requests.append_requests.Goals as goal

pub loop-read-preserved : goal.loop-read-preserved
loop-read-preserved c =
    let d : RemoteRead = record { sink = 0; at = 0; len = 0; stag = 0; to = 0 } in
    record {
      bytes = request_goes c.args.reads.now c.loop-read.read-index d c.loop-read.msn _ _ c.loop-read.out.items c.append_request.new.out.items c.loop-read-test.true refl c.loop-read.invariant.bytes c.append_request.ensures.bytes;
      last = last_goes c.args.reads.now c.loop-read.read-index d c.loop-read.msn _ _ c.loop-read-test.true refl c.loop-read.invariant.last;
      spare = omega (arith, c.loop-read.invariant.spare, c.append_request.ensures.spare);
      kept = c.append_request.ensures.kept ∙ c.loop-read.invariant.kept;
    }
