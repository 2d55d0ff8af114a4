use Rattle.std.proofs.Common.{◌<◌, ◌≤◌, ◌∙◌, arith, length, map, ap, sym}
use Rattle.std.proofs.lemmas.List.{length-map}
use Rattle.nr_world.specs.Views.{held_view}
use Rattle.nr_world.proofs.NotedCalls.{held_first, noted_all, noted_none, noted_one}
use Rattle.nr_world.proofs.resending.add_resends.Goals as goal

pub calls-init : goal.calls-init
calls-init c = noted_none c.args.link c.args.waiting (map held_view c.args.held.now.items) c.args.marks.now

pub calls-preserved : goal.calls-preserved
calls-preserved c =
    let more : c.args.waiting < length (map held_view c.calls.held.items) = omega (arith, c.calls-test.true, c.len.ensures, c.calls.held.ok, length-map c.calls.held.items held_view) in
    let some : 0 < length c.calls.held.items = omega (arith, c.calls-test.true, c.len.ensures, c.calls.held.ok) in
    noted_one c.args.link c.args.waiting (map held_view c.args.held.now.items) (map held_view c.calls.held.items) (map held_view c.remove-xid.new.self.items) c.args.marks.now c.calls.marks c.add_submit.new.marks (held_view c.remove-xid.result)
    c.calls.invariant more (held_first c.calls.held.items c.remove-xid.new.self.items c.remove-xid.result some c.remove-xid.ensures.value c.remove-xid.ensures.items) c.in_ok-add_submit.ensures

pub returns : goal.returns
returns c =
    let le : length (map held_view c.calls.held.items) ≤ c.args.waiting = omega (arith, c.calls-test.false, c.len.ensures, c.calls.held.ok, length-map c.calls.held.items held_view) in
    noted_all c.args.link c.args.waiting (map held_view c.args.held.now.items) (map held_view c.calls.held.items) c.args.marks.now c.calls.marks c.calls.invariant le
