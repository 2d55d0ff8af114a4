use Rattle.std.proofs.Common.{[], refl, arith}
use Rattle.std.proofs.lemmas.Grind.{common_steps}
use Rattle.nr_wire.specs.declared.stream.Awaited.TheVariants.{Hello as HelloFrom}
use Rattle.nr_wire.proofs.Frames.{partial_nil}
use Rattle.nr_endpoint.specs.LinkState.{initial_link}
use Rattle.nr_endpoint.specs.Calls.{after_calls}
use Rattle.nr_endpoint.proofs.endpoint.Endpoint.with_earlier.Goals as goal

pub invariant_of-result : goal.invariant_of-result
invariant_of-result c = record {
  len = grind (arith, common_steps, c.in_ok-vec.ensures.len);
  within = omega arith;
  partial = partial_nil (HelloFrom c.peer.result);
  ended_empty = λ _. refl;
  greeted = λ live is. absurd cc;
}

pub returns-clause-state : goal.returns-clause-state
unfolding initial_link
returns-clause-state c = λ i. record { awaited = HelloFrom (c.peer.ensures i); rest = []; state = c.in_ok-new.ensures.state i }

pub returns-clause-stands : goal.returns-clause-stands
unfolding initial_link after_calls
returns-clause-stands c = λ i. record { awaited = HelloFrom (c.peer.ensures i); rest = []; state = c.in_ok-new.ensures.state i }
