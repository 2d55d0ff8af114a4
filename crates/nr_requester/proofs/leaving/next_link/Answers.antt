use Rattle.std.proofs.Common.{◌≡◌, ℕ, ◌-◌, [], refl, sym, ap, subst, ◌∙◌, arith}
use Rattle.nr_wire.specs.declared.hello.Side.TheVariants.{Initiator}
use Rattle.nr_regions.specs.RegisteredMemory.{RegisteredMemory}
use Rattle.nr_endpoint.specs.LinkState.{initial_link, last_agreed}
use Rattle.nr_requester.specs.private.Resuming.{AreLeft}
use Rattle.nr_requester.proofs.NextBegun.{resuming_begins, resuming_ends}
use Rattle.nr_requester.proofs.leaving.next_link.Goals as goal

pub resume_all-requires-clause-begun : goal.resume_all-requires-clause-begun
resume_all-requires-clause-begun c =
    let old = c.args.left.now.link.state in
    let sum = c.stags_left-first.ensures.sum in
    let next = ap (λ (m : RegisteredMemory). m.next) c.regions.ensures in
    let stag : 4294967296 - c.stags_left-first.result ≡ old.memory.next = omega (arith, sum, next) in
    let opened : c.in_ok-endpoint.endpoint.link ≡ initial_link Initiator 1 old.memory.next old.terms (last_agreed old) = c.in_ok-endpoint.ensures.state ∙ (λ i. initial_link Initiator 1 (stag i) (c.terms.ensures i) (c.last_agreed.ensures i)) in
    let stags = c.requires.stags in
    let left : AreLeft c.receive_length-receive_length.result c.requires.calls.0 c.args.calls.now = subst (λ (n : ℕ). AreLeft n c.requires.calls.0 c.args.calls.now) (sym c.receive_length-receive_length.ensures.is) c.requires.calls.1 in (
      c.requires.calls.0,
      resuming_begins c.args.credit c.receive_length-receive_length.result c.requires.calls.0 old.memory.next old.terms (last_agreed old) c.in_ok-endpoint.endpoint c.args.calls.now [] refl opened c.in_ok-endpoint.ensures.staging c.in_ok-endpoint.ensures.outside
          c.receive_length-receive_length.ensures.terms c.requires.first (omega (arith, stags)) left stags,
    )

pub returns-in-Ok : goal.returns-in-Ok
returns-in-Ok c = λ number calls.
    let old = c.args.left.now.link.state in
    let sum = c.stags_left-first.ensures.sum in
    let next = ap (λ (m : RegisteredMemory). m.next) c.regions.ensures in
    let stag : 4294967296 - c.stags_left-first.result ≡ old.memory.next = omega (arith, sum, next) in
    let opened : c.in_ok-endpoint.endpoint.link ≡ initial_link Initiator 1 old.memory.next old.terms (last_agreed old) = c.in_ok-endpoint.ensures.state ∙ (λ i. initial_link Initiator 1 (stag i) (c.terms.ensures i) (c.last_agreed.ensures i)) in
    let stags = c.requires.stags in
    let left : AreLeft c.receive_length-receive_length.result number c.args.calls.now = subst (λ (n : ℕ). AreLeft n number c.args.calls.now) (sym c.receive_length-receive_length.ensures.is) calls in
    resuming_ends c.args.credit c.receive_length-receive_length.result number old c.in_ok-endpoint.endpoint c.resume_all.new.endpoint c.args.calls.now c.resume_all.new.made.items c.receive_length-receive_length.ensures.is opened
    (c.in-Ok.ensures number (resuming_begins c.args.credit c.receive_length-receive_length.result number old.memory.next old.terms (last_agreed old) c.in_ok-endpoint.endpoint c.args.calls.now [] refl opened c.in_ok-endpoint.ensures.staging c.in_ok-endpoint.ensures.outside
    c.receive_length-receive_length.ensures.terms c.requires.first (omega (arith, stags)) left stags))
