use Rattle.std.specs.Prelude.{is_some}
use Rattle.std.proofs.Common.{◌≡◌, ℕ, ◌≤◌, ◌<◌, true, length, map, get_or, refl, sym, subst, arith}
use Rattle.nr_requester.specs.OpenCalls.{found_answer, open_call}
use Rattle.nr_world.specs.declared.awaited.AwaitedCall.{AwaitedCall}
use Rattle.nr_world.specs.DrillLinkState.{AwaitedLine, DrillLinkState}
use Rattle.nr_world.specs.Views.{call_view, line_view, link_view}
use Rattle.nr_world.proofs.Standing.{on_ok}
use Rattle.nr_world.proofs.HandSteps.{within_view, came_view, closed_open, completes, from_hands, handed}
use Rattle.nr_world.proofs.OpenTickets.{open_at}
use Rattle.nr_world.proofs.link.DrillLink.complete.Goals as goal

pub remove-ticket-requires : goal.remove-ticket-requires
remove-ticket-requires c =
    let within : c.args.at < length c.self.inside.awaited.items =
    within_view c.self.inside.awaited.items c.args.at (subst (λ (v : DrillLinkState). c.args.at < length v.awaited) (sym c.self.view_is) c.requires.there) in
    omega (arith, within, c.self.inside.awaited.ok)

pub take_outcome-outcome-requires-clause-open : goal.take_outcome-outcome-requires-clause-open
take_outcome-outcome-requires-clause-open c =
    subst (λ (call : AwaitedCall). is_some (open_call call.ticket c.self.inside.client.state) ≡ true) (sym c.remove-ticket.ensures.value)
    (open_at c.self.inside.client.state c.self.inside.awaited.items c.args.at c.remove-ticket.result c.self.invariant.1.1.1.1
    (within_view c.self.inside.awaited.items c.args.at (subst (λ (v : DrillLinkState). c.args.at < length v.awaited) (sym c.self.view_is) c.requires.there)))

pub take_outcome-outcome-requires-clause-came : goal.take_outcome-outcome-requires-clause-came
take_outcome-outcome-requires-clause-came c =
    came_view c.self.inside.client.state c.self.inside.awaited.items c.args.at c.remove-ticket.result c.remove-ticket.ensures.value
    (subst (λ (v : DrillLinkState). (line : AwaitedLine) → is_some (found_answer (get_or v.awaited c.args.at line).xid v.client.state) ≡ true) (sym c.self.view_is) c.requires.came)

pub invariant_of-self : goal.invariant_of-self
invariant_of-self c =
    let within : c.args.at < length c.self.inside.awaited.items =
    within_view c.self.inside.awaited.items c.args.at (subst (λ (v : DrillLinkState). c.args.at < length v.awaited) (sym c.self.view_is) c.requires.there) in (
      c.self.invariant.0,
      (
        c.self.invariant.1.0,
        (
          subst (λ (n : ℕ). n ≤ c.self.inside.fed_down) (sym c.take_outcome-outcome.ensures.fed) c.self.invariant.1.1.0,
          (
            c.self.invariant.1.1.1.0,
            closed_open c.self.inside.client.state c.take_outcome-outcome.new.client.state c.self.inside.awaited.items c.remove-ticket.new.self.items c.args.at c.remove-ticket.result within c.remove-ticket.ensures.value c.remove-ticket.ensures.items
                c.take_outcome-outcome.ensures.tickets c.self.invariant.1.1.1.1,
          ),
        ),
      ),
    )

pub returns : goal.returns
returns c =
    let v : DrillLinkState = link_view c.self.inside.number c.self.inside.client c.self.inside.server.side c.self.inside.up c.self.inside.down c.self.inside.dropped c.self.inside.lines c.self.inside.awaited.items c.self.inside.held.items in
    let within : c.args.at < length c.self.inside.awaited.items =
    within_view c.self.inside.awaited.items c.args.at (subst (λ (x : DrillLinkState). c.args.at < length x.awaited) (sym c.self.view_is) c.requires.there) in
    on_ok c.add_mark.result _ _
    (λ more. from_hands c.args.at v c.args.self.now (handed v c.take_outcome-outcome.new.client (map line_view c.remove-ticket.new.self.items) (map call_view c.remove-ticket.new.self.items)) c.args.marks.now c.add_mark.new.marks c.self.view_is
    (completes v c.self.inside.awaited.items c.remove-ticket.new.self.items c.remove-ticket.result c.take_outcome-outcome.new.client c.args.at c.xid-xid.result c.take_outcome-outcome.result c.args.marks.now c.add_mark.new.marks
    refl refl within c.self.invariant.1.1.1.1.apart c.facts.ensures.apart c.remove-ticket.ensures.value c.remove-ticket.ensures.items c.xid-xid.ensures c.take_outcome-outcome.ensures.taken more))
    c.add_mark.ensures
