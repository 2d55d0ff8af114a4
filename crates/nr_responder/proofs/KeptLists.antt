-- How long the lists of a responder are.
use Rattle.std.proofs.Common.{◌≡◌, ◌+◌, None, arith}
use Rattle.std.proofs.lemmas.List.{length-drop, length-map}
use Rattle.nr_link.specs.Limits.{open_reads_max}
use Rattle.nr_endpoint.specs.ReceiveQueue.{receives_kept}
use Rattle.nr_responder.specs.declared.call.Ready.{Ready}
use Rattle.nr_responder.specs.declared.server_end.ServerEnd.{ServerEnd}
use Rattle.nr_responder.specs.HeldBytes.{KeptFits, ListsFit, OutputFits, OutputLives, ReadsFit, SharesFit, SinksFit}
use Rattle.nr_responder.specs.ResponderState.{ResponderSide, end_of}
use Rattle.nr_responder.specs.Sound.{state_of, ServerEndInvariant}
use Rattle.nr_responder.specs.Views.{call_view}
use Rattle.nr_responder.proofs.OutputBounds.{waits_lem}

pub reads_most : (v : ResponderSide) → SinksFit v → OutputFits v → end_of v ≡ None → ReadsFit v
reads_most v sinks output live =
    let lives : OutputLives v = output.each live in
    let shares : SharesFit v = sinks.each live in
    let waiting = waits_lem v shares lives.reads in
    let rest = length-drop open_reads_max v.fetching.reads in
    omega (arith, waiting, rest)

-- `receives` of the endpoint are those of the credits, each kept or lent
pub lists_fit : (r : ServerEnd) → ServerEndInvariant r → KeptFits (state_of r)
    → receives_kept r.endpoint.link.state.receive_queue + r.endpoint.link.state.receive_queue.lent ≡ r.endpoint.link.state.receive_queue.receives → ListsFit (state_of r)
lists_fit r sound fit receives =
    let calls = length-map r.calls.items call_view in
    let ready = length-map r.ready.items (λ (q : Ready). q.xid) in
    let payloads = length-map r.ready.items (λ (q : Ready). q.payload) in
    let few = sound.0.few in
    record {
      calls = (let unsent_is = sound.0.unsent_is in let lent = sound.0.lent in let count = fit.sinks.receives.count in omega (arith, calls, unsent_is, lent, receives, count));
      ready = omega (arith, few, calls, ready);
      payloads = omega (arith, few, calls, payloads);
      sinks = fit.sinks.count;
      reads = fit.reads;
    }
