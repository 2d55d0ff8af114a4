use Rattle.std.proofs.Common.{◌+◌, ◌≤◌, ◌<◌, List, length, get_or, subst, arith}
use Rattle.nr_tree.specs.private.Blocks.{IndexBlock, no_block, joined_max}
use Rattle.nr_tree.proofs.Joined.{joined_all, large_all, room_at}
use Rattle.nr_tree.proofs.order.join_if_small.Goals as goal

pub join-requires-clause-room : goal.join-requires-clause-room
join-requires-clause-room c =
    let small : (c.args.block + 1 < length c.args.blocks.now.items) × (length (get_or c.args.blocks.now.items c.args.block no_block).indexes + length (get_or c.args.blocks.now.items (c.args.block + 1) no_block).indexes ≤ joined_max) =
    subst (λ (bs : List IndexBlock). (c.args.block + 1 < length bs) × (length (get_or bs c.args.block no_block).indexes + length (get_or bs (c.args.block + 1) no_block).indexes ≤ joined_max)) c.deref.ensures.value
    (c.are_small.ensures.small c.if-are_small.true) in
    omega (arith, small.1, room_at c.args.blocks.now.items c.args.block c.requires.roomy (omega (arith, small.0)))

pub returns-then-are_small-clause-same : goal.returns-then-are_small-clause-same
returns-then-are_small-clause-same c =
    let small : (c.args.block + 1 < length c.args.blocks.now.items) × (length (get_or c.args.blocks.now.items c.args.block no_block).indexes + length (get_or c.args.blocks.now.items (c.args.block + 1) no_block).indexes ≤ joined_max) =
    subst (λ (bs : List IndexBlock). (c.args.block + 1 < length bs) × (length (get_or bs c.args.block no_block).indexes + length (get_or bs (c.args.block + 1) no_block).indexes ≤ joined_max)) c.deref.ensures.value
    (c.are_small.ensures.small c.if-are_small.true) in
    (joined_all c.args.blocks.now.items c.join.new.blocks.items c.args.block small c.join.ensures c.requires.roomy).0

pub returns-then-are_small-clause-roomy : goal.returns-then-are_small-clause-roomy
returns-then-are_small-clause-roomy c =
    let small : (c.args.block + 1 < length c.args.blocks.now.items) × (length (get_or c.args.blocks.now.items c.args.block no_block).indexes + length (get_or c.args.blocks.now.items (c.args.block + 1) no_block).indexes ≤ joined_max) =
    subst (λ (bs : List IndexBlock). (c.args.block + 1 < length bs) × (length (get_or bs c.args.block no_block).indexes + length (get_or bs (c.args.block + 1) no_block).indexes ≤ joined_max)) c.deref.ensures.value
    (c.are_small.ensures.small c.if-are_small.true) in
    (joined_all c.args.blocks.now.items c.join.new.blocks.items c.args.block small c.join.ensures c.requires.roomy).1.0

pub returns-then-are_small-clause-first : goal.returns-then-are_small-clause-first
returns-then-are_small-clause-first c =
    let small : (c.args.block + 1 < length c.args.blocks.now.items) × (length (get_or c.args.blocks.now.items c.args.block no_block).indexes + length (get_or c.args.blocks.now.items (c.args.block + 1) no_block).indexes ≤ joined_max) =
    subst (λ (bs : List IndexBlock). (c.args.block + 1 < length bs) × (length (get_or bs c.args.block no_block).indexes + length (get_or bs (c.args.block + 1) no_block).indexes ≤ joined_max)) c.deref.ensures.value
    (c.are_small.ensures.small c.if-are_small.true) in
    (joined_all c.args.blocks.now.items c.join.new.blocks.items c.args.block small c.join.ensures c.requires.roomy).1.1.0

pub returns-then-are_small-clause-second : goal.returns-then-are_small-clause-second
returns-then-are_small-clause-second c =
    let small : (c.args.block + 1 < length c.args.blocks.now.items) × (length (get_or c.args.blocks.now.items c.args.block no_block).indexes + length (get_or c.args.blocks.now.items (c.args.block + 1) no_block).indexes ≤ joined_max) =
    subst (λ (bs : List IndexBlock). (c.args.block + 1 < length bs) × (length (get_or bs c.args.block no_block).indexes + length (get_or bs (c.args.block + 1) no_block).indexes ≤ joined_max)) c.deref.ensures.value
    (c.are_small.ensures.small c.if-are_small.true) in
    (joined_all c.args.blocks.now.items c.join.new.blocks.items c.args.block small c.join.ensures c.requires.roomy).1.1.1

pub returns-else-are_small-clause-first : goal.returns-else-are_small-clause-first
returns-else-are_small-clause-first c =
    let apart : c.args.block + 1 < length c.args.blocks.now.items → joined_max < length (get_or c.args.blocks.now.items c.args.block no_block).indexes + length (get_or c.args.blocks.now.items (c.args.block + 1) no_block).indexes =
    subst (λ (bs : List IndexBlock). c.args.block + 1 < length bs → joined_max < length (get_or bs c.args.block no_block).indexes + length (get_or bs (c.args.block + 1) no_block).indexes) c.deref.ensures.value
    (c.are_small.ensures.apart c.if-are_small.false) in
    (large_all c.args.blocks.now.items c.args.block apart).0

pub returns-else-are_small-clause-second : goal.returns-else-are_small-clause-second
returns-else-are_small-clause-second c =
    let apart : c.args.block + 1 < length c.args.blocks.now.items → joined_max < length (get_or c.args.blocks.now.items c.args.block no_block).indexes + length (get_or c.args.blocks.now.items (c.args.block + 1) no_block).indexes =
    subst (λ (bs : List IndexBlock). c.args.block + 1 < length bs → joined_max < length (get_or bs c.args.block no_block).indexes + length (get_or bs (c.args.block + 1) no_block).indexes) c.deref.ensures.value
    (c.are_small.ensures.apart c.if-are_small.false) in
    (large_all c.args.blocks.now.items c.args.block apart).1
