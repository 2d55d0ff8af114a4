use Rattle.std.proofs.Common.{◌+◌, ◌-◌, ◌/◌, arith}
use Rattle.nr_tree.specs.private.Slots.{slot_entries, ordered}
use Rattle.nr_tree.proofs.Ordered.{length_ordered}
use Rattle.nr_tree.proofs.ListingLemmas.{until_middle, from_middle, listed, middle_low, middle_high, same_place, fewer_low, fewer_high, one_left, half_low, half_high, halving_goes_on, halving_ends, place_by}
use Rattle.nr_tree.proofs.entry_table.place_above.Goals as goal

pub loop-low-preserved-then-is_at_most : goal.loop-low-preserved-then-is_at_most
loop-low-preserved-then-is_at_most g c = (
  middle_low c.loop-low.low c.loop-low.high c.loop-low-test.true,
  c.loop-low.invariant.1,
  until_middle c.args.cookie (ordered (slot_entries c.args.slots.now.entries) c.args.order.now) c.args.next_cookie (c.loop-low.low + (c.loop-low.high - c.loop-low.low) / 2) c.is_at_most.result c.requires.ordered.ascend c.is_at_most.ensures.answer c.if-is_at_most.true,
  c.loop-low.invariant.3,
  halving_goes_on _ _ _ _ (c.loop-low.high - c.loop-low.low) _ c.loop-low.invariant.4 c.is_at_most.ensures.step (one_left c.loop-low.low c.loop-low.high c.loop-low-test.true) (fewer_low c.loop-low.low c.loop-low.high c.loop-low-test.true) (half_low c.loop-low.low c.loop-low.high c.loop-low-test.true),
)

pub loop-low-preserved : goal.loop-low-preserved
loop-low-preserved g c = (
  omega arith,
  middle_high c.loop-low.low c.loop-low.high _ c.loop-low-test.true c.loop-low.invariant.1,
  c.loop-low.invariant.2,
  from_middle c.args.cookie (ordered (slot_entries c.args.slots.now.entries) c.args.order.now) c.args.next_cookie (c.loop-low.low + (c.loop-low.high - c.loop-low.low) / 2) c.is_at_most.result c.requires.ordered.ascend c.is_at_most.ensures.answer c.if-is_at_most.false,
  halving_goes_on _ _ _ _ (c.loop-low.high - c.loop-low.low) _ c.loop-low.invariant.4 c.is_at_most.ensures.step (one_left c.loop-low.low c.loop-low.high c.loop-low-test.true) (fewer_high c.loop-low.low c.loop-low.high c.loop-low-test.true) (half_high c.loop-low.low c.loop-low.high c.loop-low-test.true),
)

pub returns-clause-place : goal.returns-clause-place
returns-clause-place g c =
    place_by c.args.cookie (ordered (slot_entries c.args.slots.now.entries) c.args.order.now) c.loop-low.low c.loop-low.high (same_place c.loop-low.low c.loop-low.high c.loop-low.invariant.0 c.loop-low-test.false) (omega (arith, c.loop-low.invariant.1, length_ordered (slot_entries c.args.slots.now.entries) c.args.order.now)) c.loop-low.invariant.2 c.loop-low.invariant.3

pub returns-clause-entries : goal.returns-clause-entries
returns-clause-entries g c =
    listed c.args.cookie (ordered (slot_entries c.args.slots.now.entries) c.args.order.now) c.loop-low.low c.loop-low.high (same_place c.loop-low.low c.loop-low.high c.loop-low.invariant.0 c.loop-low-test.false) c.loop-low.invariant.2 c.loop-low.invariant.3

pub returns-clause-counted : goal.returns-clause-counted
returns-clause-counted g c =
    halving_ends _ _ _ c.loop-low.low c.loop-low.high (same_place c.loop-low.low c.loop-low.high c.loop-low.invariant.0 c.loop-low-test.false) c.loop-low.invariant.4
