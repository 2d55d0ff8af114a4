use Rattle.std.proofs.Common.{◌≡◌, ℕ, ◌-◌, ◌+◌, ◌≤◌, ◌<◌, length, subst, sym, ◌∙◌, arith}
use Rattle.nr_tree.specs.private.Blocks.{IndexBlock, lists}
use Rattle.nr_tree.proofs.Blocks.{IsSearched, search_begins, searched_within, search_goes_on, search_ends}
use Rattle.nr_tree.proofs.Joined.{block_at, list_is, lists_long}
use Rattle.nr_tree.proofs.order.find.Goals as goal

pub search-init : goal.search-init
search-init c = search_begins (lists c.args.blocks.now) c.args.place c.requires

pub bounds-blocks-block : goal.bounds-blocks-block
bounds-blocks-block c =
    subst (λ (n : ℕ). c.search.block < n) (lists_long c.args.blocks.now) (searched_within (lists c.args.blocks.now) c.args.place c.search.block c.search.offset c.search.invariant)

pub bounds-blocks-block-in-search : goal.bounds-blocks-block-in-search
bounds-blocks-block-in-search c =
    subst (λ (n : ℕ). c.search.block < n) (lists_long c.args.blocks.now) (searched_within (lists c.args.blocks.now) c.args.place c.search.block c.search.offset c.search.invariant)

pub search-smaller : goal.search-smaller
search-smaller c =
    let lt : c.search.block < length (lists c.args.blocks.now) = searched_within (lists c.args.blocks.now) c.args.place c.search.block c.search.offset c.search.invariant in
    omega (arith, lt, lists_long c.args.blocks.now)

pub overflow_add-block : goal.overflow_add-block
overflow_add-block c =
    let lt : c.search.block < length (lists c.args.blocks.now) = searched_within (lists c.args.blocks.now) c.args.place c.search.block c.search.offset c.search.invariant in
    omega (arith, lt, lists_long c.args.blocks.now)

pub search-preserved : goal.search-preserved
search-preserved c =
    let first : IndexBlock = c.index-blocks-block.result in
    let second : IndexBlock = c.index-blocks-block-in-search.result in
    let lt : c.search.block < length c.args.blocks.now =
    subst (λ (n : ℕ). c.search.block < n) (lists_long c.args.blocks.now) (searched_within (lists c.args.blocks.now) c.args.place c.search.block c.search.offset c.search.invariant) in
    let same : first ≡ second = sym (block_at c.args.blocks.now c.search.block first lt c.index-blocks-block.is) ∙ block_at c.args.blocks.now c.search.block second lt c.index-blocks-block-in-search.is in
    let le : length first.indexes ≤ c.search.offset = omega (arith, c.search-test.true, c.len.ensures.len) in
    subst (λ (n : ℕ). IsSearched (lists c.args.blocks.now) c.args.place (c.search.block + 1) (c.search.offset - n)) (sym c.len-offset.ensures.len)
    (search_goes_on (lists c.args.blocks.now) c.args.place c.search.block c.search.offset second.indexes (list_is c.args.blocks.now c.search.block second lt c.index-blocks-block-in-search.is)
    (subst (λ (b : IndexBlock). length b.indexes ≤ c.search.offset) same le) c.search.invariant)

pub returns : goal.returns
returns c =
    let lt : c.search.block < length c.args.blocks.now =
    subst (λ (n : ℕ). c.search.block < n) (lists_long c.args.blocks.now) (searched_within (lists c.args.blocks.now) c.args.place c.search.block c.search.offset c.search.invariant) in
    let first : IndexBlock = c.index-blocks-block.result in
    search_ends (lists c.args.blocks.now) c.args.place c.search.block c.search.offset first.indexes (list_is c.args.blocks.now c.search.block first lt c.index-blocks-block.is)
    (omega (arith, c.search-test.false, c.len.ensures.len)) c.search.invariant
