use Rattle.std.proofs.Common.{◌-◌, ◌∙◌, refl, sym}
use Rattle.nr_world.specs.declared.awaited.AwaitedCall.{AwaitedCall}
use Rattle.nr_world.proofs.GivenLines.{taken_out, none_taken, takes_call}
use Rattle.nr_world.proofs.calls.take_line.Goals as goal

pub returns-in_default-clause-lines : goal.returns-in_default-clause-lines
returns-in_default-clause-lines c =
    none_taken (c.args.number - 1) c.args.awaited.now.items c.as_slice.result.now c.as_slice.ensures.value (λ k d lt e. c.place_of.ensures.none c.in_default.is k d lt (e ∙ sym c.saturating_sub.ensures))

pub returns-clause-lines : goal.returns-clause-lines
returns-clause-lines c =
    let found = c.in-Some.ensures.some in
    taken_out (c.args.number - 1) c.in-Some.at c.args.awaited.now.items c.as_slice.result.now c.remove-ticket.new.self.items c.remove-ticket.result c.as_slice.ensures.value
    (found.0, λ (d : AwaitedCall). found.1 d ∙ c.saturating_sub.ensures) c.remove-ticket.ensures.value c.remove-ticket.ensures.items

pub returns-in_default-clause-calls : goal.returns-in_default-clause-calls
returns-in_default-clause-calls c apart = refl

pub returns-clause-calls : goal.returns-clause-calls
returns-clause-calls c apart =
    takes_call c.in-Some.at c.args.awaited.now.items c.as_slice.result.now c.remove-ticket.new.self.items c.remove-ticket.result c.as_slice.ensures.value c.in-Some.ensures.some.0 c.remove-ticket.ensures.value c.remove-ticket.ensures.items apart
