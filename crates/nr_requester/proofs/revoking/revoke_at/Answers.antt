use Rattle.std.proofs.Common.{ap, sym, subst, ◌∙◌}
use Rattle.nr_endpoint.specs.declared.offering.Claims.{Claims}
use Rattle.nr_requester.specs.declared.outstanding.OutstandingCall.{OutstandingCall}
use Rattle.nr_regions.specs.RegisteredMemory.{AreHeldFrom}
use Rattle.nr_requester.specs.HeldClaims.{call_claims}
use Rattle.nr_requester.proofs.GivenUp.{own_held}
use Rattle.nr_requester.proofs.revoking.revoke_at.Goals as goal

pub release_claims-requires : goal.release_claims-requires
release_claims-requires c =
    let m = c.args.endpoint.now.link.state.memory in
    subst (λ (x : Claims). AreHeldFrom m 0 (call_claims x)) (sym (c.take_out-call.ensures.taken.1 ∙ ap (λ (o : OutstandingCall). o.claims) c.index_mut.ensures.value))
    (own_held m c.args.at c.args.calls.now.items c.index_mut.result.now c.requires.at c.requires.held)
