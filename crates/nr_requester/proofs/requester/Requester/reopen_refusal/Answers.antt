use Rattle.std.proofs.Common.{◌≡◌, ◌-◌, List, map, None, sym, ap, ◌∙◌, arith}
use Rattle.nr_regions.specs.RegisteredMemory.{RegisteredMemory}
use Rattle.nr_requester.specs.declared.outstanding.OutstandingCall.{OutstandingCall}
use Rattle.nr_requester.specs.RequesterState.{RequesterSide}
use Rattle.nr_requester.specs.Reopening.{stags_for_calls}
use Rattle.nr_requester.specs.Views.{stored_view}
use Rattle.nr_requester.proofs.NextBegun.{ended_refusal, no_refusal, spent_refusal}
use Rattle.nr_requester.proofs.requester.Requester.reopen_refusal.Goals as goal

pub returns-in-Some-clause-refusal : goal.returns-in-Some-clause-refusal
returns-in-Some-clause-refusal c = ended_refusal c.args.self.now.state c.in-Some.end c.in-Some.ensures

pub returns-then-left-need-clause-refusal : goal.returns-then-left-need-clause-refusal
returns-then-left-need-clause-refusal c =
    let lives : c.args.self.now.state.side.ended ≡ None = sym c.end.ensures ∙ c.in_default.is in
    let sum = c.stags_left-left.ensures.sum in
    let regions = ap (λ (m : RegisteredMemory). m.next) c.regions.ensures in
    let next = ap (λ (h : RequesterSide). h.state.side.memory.next) c.self.view_is in
    let left : c.stags_left-left.result ≡ 4294967296 - c.args.self.now.state.side.memory.next = omega (arith, sum, regions, next) in
    let need : c.stags_for_calls-need.result ≡ stags_for_calls c.args.self.now.state.outstanding = c.stags_for_calls-need.ensures ∙ ap (λ (cs : List OutstandingCall). stags_for_calls (map stored_view cs)) c.as_slice.ensures.value ∙ ap (λ (h : RequesterSide). stags_for_calls h.state.outstanding) c.self.view_is in
    spent_refusal c.args.self.now.state c.stags_left-left.result c.stags_for_calls-need.result lives left need c.if-left-need.true

pub returns-clause-refusal : goal.returns-clause-refusal
returns-clause-refusal c =
    let lives : c.args.self.now.state.side.ended ≡ None = sym c.end.ensures ∙ c.in_default.is in
    let sum = c.stags_left-left.ensures.sum in
    let regions = ap (λ (m : RegisteredMemory). m.next) c.regions.ensures in
    let next = ap (λ (h : RequesterSide). h.state.side.memory.next) c.self.view_is in
    let left : c.stags_left-left.result ≡ 4294967296 - c.args.self.now.state.side.memory.next = omega (arith, sum, regions, next) in
    let need : c.stags_for_calls-need.result ≡ stags_for_calls c.args.self.now.state.outstanding = c.stags_for_calls-need.ensures ∙ ap (λ (cs : List OutstandingCall). stags_for_calls (map stored_view cs)) c.as_slice.ensures.value ∙ ap (λ (h : RequesterSide). stags_for_calls h.state.outstanding) c.self.view_is in
    no_refusal c.args.self.now.state c.stags_left-left.result c.stags_for_calls-need.result lives left need c.if-left-need.false
