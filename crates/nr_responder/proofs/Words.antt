-- The credit word of a responder is that of the server which it keeps.
use Rattle.std.proofs.Common.{◌≡◌, List, length, ap, arith}
use Rattle.nr_link.specs.Input.{InputState}
use Rattle.nr_reduce.specs.declared.mark.LinkParameters.{LinkParameters}
use Rattle.nr_reduce.specs.Plans.{one_if}
use Rattle.nr_reduce.specs.ServerState.{PendingCall, ServerState, credit_word, receives_in_use}
use Rattle.nr_responder.specs.Granting.{word_by}
use Rattle.nr_responder.specs.Keeping.{Keeps}
use Rattle.nr_responder.specs.ResponderState.{ResponderSide, present_word, receives_used, unsent}
use Rattle.nr_responder.proofs.FrameEnds.{in_use, waiting_is}
use Rattle.nr_responder.proofs.SendFrames.{begun_fine}

pub used_is : (opened : LinkParameters) (k : ServerState) (so_far : InputState) (v : ResponderSide) → Keeps opened k so_far v → receives_used v ≡ receives_in_use k
used_is opened k so_far v h =
    let begun = ap one_if (begun_fine opened k v.link.state h.link) in
    let used = in_use k (unsent v.link.state) (waiting_is k v.link.state.send_queue h.link.queue) in
    let count = ap (λ (cs : List PendingCall). length cs) h.calls in
    omega (arith, begun, used, count)

pub word_is : (opened : LinkParameters) (k : ServerState) (so_far : InputState) (v : ResponderSide) → Keeps opened k so_far v → present_word v ≡ credit_word k
unfolding credit_word
word_is opened k so_far v h = (let used = used_is opened k so_far v h in λ i. word_by (h.credits i) (used i))
