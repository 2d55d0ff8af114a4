use Rattle.std.proofs.Common.{◌≡◌, ℕ, ◌≤◌, List, sym, ap, subst, ◌∙◌, arith}
use Rattle.nr_link.specs.declared.agreement.Agreement.{Agreement}
use Rattle.nr_endpoint.specs.Hellos.{own_private, side_agreement, received_max}
use Rattle.nr_endpoint.proofs.Agreed.{agreed_fits}
use Rattle.nr_endpoint.proofs.link.LinkSide.accept_hello.Goals as goal

pub invariant_of-self-2 : goal.invariant_of-self-2
invariant_of-self-2 c =
    let most : c.from-self-inside.result ≡ received_max c.self.inside.side (side_agreement c.self.inside.side (own_private c.self.inside.terms c.self.inside.side c.args.peer_private.now) c.args.peer_private.now) =
    c.from-self-inside.ensures ∙ (c.received_max.ensures ∙ ap (λ (agreed : Agreement). received_max c.self.inside.side agreed)
    (c.side_agreement-self-inside.ensures ∙ ap (λ (own : List ℕ). side_agreement c.self.inside.side own c.args.peer_private.now) (c.as_slice-2.ensures.value ∙ c.own_private-own.ensures.bytes))) in
    record {
      bytes = omega (arith, c.self.invariant.bytes);
      waiting = omega (arith, c.self.invariant.waiting);
      greeted = λ is. omega (arith, c.requires.some);
      receive = c.self.invariant.receive;
      fits = subst (λ (n : ℕ). n ≤ c.self.inside.receive_queue.receive_length) (sym most)
          (subst (λ (n : ℕ). received_max c.self.inside.side (side_agreement c.self.inside.side (own_private c.self.inside.terms c.self.inside.side c.args.peer_private.now) c.args.peer_private.now) ≤ n)
          (sym c.self.invariant.receive) (agreed_fits c.self.inside.terms c.self.inside.side c.args.peer_private.now));
    }
