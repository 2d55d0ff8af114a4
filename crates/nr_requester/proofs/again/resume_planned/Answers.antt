use Rattle.std.proofs.Common.{◌≡◌, ℕ, ◌++◌, sym, ap, subst, arith}
use Rattle.std.specs.Prelude.{IfOk, OnOk, option_map}
use Rattle.nr_reduce.specs.declared.outline.Plan.{Plan}
use Rattle.nr_reduce.specs.CallOutlines.{outline_plan}
use Rattle.nr_reduce.specs.Plans.{lists_of, regions_needed}
use Rattle.nr_endpoint.specs.Offering.{claims_of}
use Rattle.nr_requester.specs.Sending.{IsPlan, offered_of}
use Rattle.nr_requester.specs.Reopening.{plan_again}
use Rattle.nr_requester.specs.Views.{stored_view}
use Rattle.nr_requester.specs.private.Resuming.{with_held_call}
use Rattle.nr_requester.proofs.Resuming.{planned_again, read_fits}
use Rattle.nr_requester.proofs.again.resume_planned.Goals as goal

pub outline-outline-requires : goal.outline-outline-requires
outline-outline-requires c = read_fits c.args.stored.now c.args.call.now c.args.lengths.now.read.items c.requires.read c.requires.planned

pub hold_with_room-requires-clause-planned : goal.hold_with_room-requires-clause-planned
hold_with_room-requires-clause-planned c =
    let same : outline_plan (c.args.head.now ++ c.as_slice.result.now) c.outline-outline.result ≡ plan_again (stored_view c.args.stored.now) c.args.call.now =
    planned_again c.args.stored.now c.args.call.now c.args.head.now c.as_slice.result.now c.outline-outline.result c.args.lengths.now.read.items (option_map (λ v. v.items) c.args.lengths.now.write) (option_map (λ v. v.items) c.args.lengths.now.reply) (let le = c.requires.xid in omega (arith, le)) c.requires.head c.as_slice.ensures c.outline-outline.ensures c.requires.read c.requires.write c.requires.reply in
    subst IsPlan (sym same) c.requires.planned

pub hold_with_room-requires-clause-stags : goal.hold_with_room-requires-clause-stags
hold_with_room-requires-clause-stags c =
    let same : outline_plan (c.args.head.now ++ c.as_slice.result.now) c.outline-outline.result ≡ plan_again (stored_view c.args.stored.now) c.args.call.now =
    planned_again c.args.stored.now c.args.call.now c.args.head.now c.as_slice.result.now c.outline-outline.result c.args.lengths.now.read.items (option_map (λ v. v.items) c.args.lengths.now.write) (option_map (λ v. v.items) c.args.lengths.now.reply) (let le = c.requires.xid in omega (arith, le)) c.requires.head c.as_slice.ensures c.outline-outline.ensures c.requires.read c.requires.write c.requires.reply in
    let fits = c.requires.stags in
    let count = ap (λ (p : Plan). regions_needed p) same in
    omega (arith, fits, count)

pub returns-clause-link : goal.returns-clause-link
returns-clause-link c =
    let same : outline_plan (c.args.head.now ++ c.as_slice.result.now) c.outline-outline.result ≡ plan_again (stored_view c.args.stored.now) c.args.call.now =
    planned_again c.args.stored.now c.args.call.now c.args.head.now c.as_slice.result.now c.outline-outline.result c.args.lengths.now.read.items (option_map (λ v. v.items) c.args.lengths.now.write) (option_map (λ v. v.items) c.args.lengths.now.reply) (let le = c.requires.xid in omega (arith, le)) c.requires.head c.as_slice.ensures c.outline-outline.ensures c.requires.read c.requires.write c.requires.reply in
    subst (λ (p : Plan). OnOk c.hold_with_room.result (c.hold_with_room.new.endpoint.link ≡ with_held_call c.args.stored.now.xid c.args.credit p c.args.endpoint.now.link)) same
    (subst (λ (n : ℕ). OnOk c.hold_with_room.result (c.hold_with_room.new.endpoint.link ≡ with_held_call n c.args.credit (outline_plan (c.args.head.now ++ c.as_slice.result.now) c.outline-outline.result) c.args.endpoint.now.link)) c.requires.xid c.hold_with_room.ensures.link)

pub returns-clause-lists : goal.returns-clause-lists
returns-clause-lists c =
    let same : outline_plan (c.args.head.now ++ c.as_slice.result.now) c.outline-outline.result ≡ plan_again (stored_view c.args.stored.now) c.args.call.now =
    planned_again c.args.stored.now c.args.call.now c.args.head.now c.as_slice.result.now c.outline-outline.result c.args.lengths.now.read.items (option_map (λ v. v.items) c.args.lengths.now.write) (option_map (λ v. v.items) c.args.lengths.now.reply) (let le = c.requires.xid in omega (arith, le)) c.requires.head c.as_slice.ensures c.outline-outline.ensures c.requires.read c.requires.write c.requires.reply in
    subst (λ (p : Plan). IfOk c.hold_with_room.result (λ s. s.sent.lists ≡ lists_of c.args.endpoint.now.link.state.memory.next p)) same c.hold_with_room.ensures.lists

pub returns-clause-claims : goal.returns-clause-claims
returns-clause-claims c =
    let same : outline_plan (c.args.head.now ++ c.as_slice.result.now) c.outline-outline.result ≡ plan_again (stored_view c.args.stored.now) c.args.call.now =
    planned_again c.args.stored.now c.args.call.now c.args.head.now c.as_slice.result.now c.outline-outline.result c.args.lengths.now.read.items (option_map (λ v. v.items) c.args.lengths.now.write) (option_map (λ v. v.items) c.args.lengths.now.reply) (let le = c.requires.xid in omega (arith, le)) c.requires.head c.as_slice.ensures c.outline-outline.ensures c.requires.read c.requires.write c.requires.reply in
    subst (λ (p : Plan). IfOk c.hold_with_room.result (λ s. s.sent.claims ≡ claims_of c.args.endpoint.now.link.state.memory (offered_of p))) same c.hold_with_room.ensures.claims
