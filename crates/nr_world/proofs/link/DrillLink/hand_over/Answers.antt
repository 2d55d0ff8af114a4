use Rattle.std.specs.Prelude.{is_some}
use Rattle.std.proofs.Common.{◌≡◌, ◌+◌, ◌≤◌, ◌<◌, suc, None, List, true, length, get_or, refl, ap, subst, ◌∙◌, arith}
use Rattle.std.proofs.lemmas.Grind.{common_steps}
use Rattle.std.proofs.lemmas.List.Edits.{length-remove}
use Rattle.nr_requester.specs.OpenCalls.{found_answer}
use Rattle.nr_world.specs.DrillLinkState.{AwaitedLine, DrillLinkState}
use Rattle.nr_world.specs.Views.{line_view}
use Rattle.nr_world.proofs.HandSteps.{begins_handing, passes_over, one_handed, all_handed, in_view, beyond_view, none_view, some_view}
use Rattle.nr_world.proofs.link.DrillLink.hand_over.Goals as goal

pub calls-init : goal.calls-init
calls-init c = begins_handing c.args.self.now c.args.marks.now

pub same-self : goal.same-self
same-self c = refl

pub same-self-then-not-has_outcome : goal.same-self-then-not-has_outcome
same-self-then-not-has_outcome c = refl

pub same-self-in-calls : goal.same-self-in-calls
same-self-in-calls c = refl

pub index-requires : goal.index-requires
index-requires c = grind (arith, common_steps, c.calls-test.true, c.len.ensures)

pub overflow_add-at : goal.overflow_add-at
overflow_add-at c = grind (arith, common_steps, c.calls-test.true, c.len.ensures, c.self.inside.awaited.small)

pub complete-requires-clause-there : goal.complete-requires-clause-there
complete-requires-clause-there c =
    let lt : c.calls.at < length c.self.inside.awaited.items = grind (arith, common_steps, c.calls-test.true, c.len.ensures, c.self.inside.awaited.ok) in
    subst (λ (v : DrillLinkState). c.calls.at < length v.awaited) c.self.view_is (in_view c.self.inside.awaited.items c.calls.at lt)

pub complete-requires-clause-came : goal.complete-requires-clause-came
complete-requires-clause-came c =
    let lt : c.calls.at < length c.self.inside.awaited.items = grind (arith, common_steps, c.calls-test.true, c.len.ensures, c.self.inside.awaited.ok) in
    subst (λ (v : DrillLinkState). (line : AwaitedLine) → is_some (found_answer (get_or v.awaited c.calls.at line).xid v.client.state) ≡ true) c.self.view_is
    (some_view c.self.inside.client.state c.self.inside.awaited.items c.calls.at c.index.result.now c.has_outcome.result lt c.index.ensures c.has_outcome.ensures c.if-not-has_outcome.false)

pub calls-preserved-then-not-has_outcome : goal.calls-preserved-then-not-has_outcome
calls-preserved-then-not-has_outcome c =
    let lt : c.calls.at < length c.self.inside.awaited.items = grind (arith, common_steps, c.calls-test.true, c.len.ensures, c.self.inside.awaited.ok) in
    let one : c.calls.at + 1 ≡ suc c.calls.at = omega arith in
    rw (one)
    (passes_over c.calls.at (line_view c.index.result.now) c.args.self.now c.calls.self c.args.marks.now c.calls.marks
    (subst (λ (v : DrillLinkState). c.calls.at < length v.awaited) c.self.view_is (in_view c.self.inside.awaited.items c.calls.at lt))
    (subst (λ (v : DrillLinkState). found_answer (get_or v.awaited c.calls.at (line_view c.index.result.now)).xid v.client.state ≡ None) c.self.view_is
    (none_view c.self.inside.client.state c.self.inside.awaited.items c.calls.at c.index.result.now c.has_outcome.result c.index.ensures c.has_outcome.ensures c.if-not-has_outcome.true))
    c.calls.invariant)

pub calls-preserved : goal.calls-preserved
calls-preserved c =
    let lt : c.calls.at < length c.self.inside.awaited.items = grind (arith, common_steps, c.calls-test.true, c.len.ensures, c.self.inside.awaited.ok) in
    one_handed c.calls.at c.args.self.now c.calls.self c.complete.new.self c.args.marks.now c.calls.marks c.complete.new.marks
    (subst (λ (v : DrillLinkState). c.calls.at < length v.awaited) c.self.view_is (in_view c.self.inside.awaited.items c.calls.at lt)) c.calls.invariant c.in-Ok.ensures

pub calls-smaller-then-not-has_outcome : goal.calls-smaller-then-not-has_outcome
calls-smaller-then-not-has_outcome c =
    let lt : c.calls.at < length c.self.inside.awaited.items = grind (arith, common_steps, c.calls-test.true, c.len.ensures, c.self.inside.awaited.ok) in
    let within : c.calls.at < length c.calls.self.awaited = subst (λ (v : DrillLinkState). c.calls.at < length v.awaited) c.self.view_is (in_view c.self.inside.awaited.items c.calls.at lt) in
    omega (arith, within)

pub calls-smaller : goal.calls-smaller
calls-smaller c =
    let lt : c.calls.at < length c.self.inside.awaited.items = grind (arith, common_steps, c.calls-test.true, c.len.ensures, c.self.inside.awaited.ok) in
    let within : c.calls.at < length c.calls.self.awaited = subst (λ (v : DrillLinkState). c.calls.at < length v.awaited) c.self.view_is (in_view c.self.inside.awaited.items c.calls.at lt) in
    let less : length c.complete.new.self.awaited + 1 ≡ length c.calls.self.awaited =
    ap (λ (lines : List AwaitedLine). length lines + 1) c.in-Ok.ensures.left ∙ length-remove c.calls.self.awaited c.calls.at within in
    omega (arith, within, less)

pub returns : goal.returns
returns c =
    let le : length c.self.inside.awaited.items ≤ c.calls.at = grind (arith, common_steps, c.calls-test.false, c.len.ensures, c.self.inside.awaited.ok) in
    all_handed c.calls.at c.args.self.now c.calls.self c.args.marks.now c.calls.marks
    (subst (λ (v : DrillLinkState). length v.awaited ≤ c.calls.at) c.self.view_is (beyond_view c.self.inside.awaited.items c.calls.at le)) c.calls.invariant
