use Rattle.std.proofs.Common.{◌≡◌, ◌+◌, ◌∙◌, sym, arith, inl, inr}
use Rattle.nr_tree.specs.Entries.{Entry}
use Rattle.nr_ops_list.specs.Readdir.{name_size}
use Rattle.nr_ops_list.specs.private.Sizes.{size_in}
use Rattle.nr_ops_list.proofs.Counting.{counting_begins, is_counted, counted_stops, counted_ends}
use Rattle.nr_ops_list.proofs.Live.{from_begins, none_left, some_size, is_within, entry_here, size_here, from_next_at}
use Rattle.nr_ops_list.proofs.listings.count_within.Goals.{then-entries-limits-via-then-entries-limits, then-entries-limits-via-else-entries-limits+then-names-limits}
use Rattle.nr_ops_list.proofs.listings.count_within.Goals as goal

pub counting-init : goal.counting-init
counting-init c = (
  counting_begins c.args.tree.now c.args.limits.now c.args.dir.now.list c.args.place c.requires.place,
  from_begins c.args.tree.now c.args.dir.now.list c.entries_from-left.result c.args.place c.requires.live c.entries_from-left.ensures,
  omega arith,
)

pub returns-then-entries-limits-clause-entries : goal.returns-then-entries-limits-clause-entries
returns-then-entries-limits-clause-entries c =
    let e : Entry = record { cookie = c.in-Some.field-0-1.cookie; name = c.in-Some.name.now; number = c.in-Some.field-0-1.number } in
    let size : c.entry_size-entries.result ≡ size_in c.args.tree.now c.args.limits.now.detail e =
    c.entry_size-entries.ensures.size ∙ size_here c.args.tree.now c.args.dir.now.list c.counting.left c.advance.new.self (c.args.place + c.counting.count) e c.counting.invariant.1 c.in-Some.ensures c.args.limits.now.detail in
    let name : 16 + c.padded_size.result ≡ name_size e = omega (arith, c.padded_size.ensures.size) in
    counted_stops c.args.tree.now c.args.limits.now c.args.dir.now.list c.args.place c.counting.entries c.counting.names c.counting.count e c.counting.invariant.0
    (entry_here c.args.tree.now c.args.dir.now.list c.counting.left c.advance.new.self (c.args.place + c.counting.count) e c.counting.invariant.1 c.in-Some.ensures)
    (elim c.then-entries-limits.branch [
      | then-entries-limits-via-then-entries-limits w ↦ inl (omega (arith, w.if-entries-limits.true, size))
      | then-entries-limits-via-else-entries-limits+then-names-limits w ↦ inr (omega (arith, w.if-names-limits.true, name))
    ])

pub overflow_add-count : goal.overflow_add-count
overflow_add-count c = omega (arith, c.counting.invariant.2, c.if-entries-limits.false, c.entry_size-entries.ensures.size, some_size c.args.limits.now.detail c.in-Some.name.now)

pub counting-preserved : goal.counting-preserved
counting-preserved c =
    let e : Entry = record { cookie = c.in-Some.field-0-1.cookie; name = c.in-Some.name.now; number = c.in-Some.field-0-1.number } in
    let size : size_in c.args.tree.now c.args.limits.now.detail e ≡ c.entry_size-entries.result =
    sym (c.entry_size-entries.ensures.size ∙ size_here c.args.tree.now c.args.dir.now.list c.counting.left c.advance.new.self (c.args.place + c.counting.count) e c.counting.invariant.1 c.in-Some.ensures c.args.limits.now.detail) in
    let name : name_size e ≡ 16 + c.padded_size.result = omega (arith, c.padded_size.ensures.size) in (
      is_counted c.args.tree.now c.args.limits.now c.args.dir.now.list c.args.place c.counting.entries c.counting.names c.counting.count e c.entry_size-entries.result (16 + c.padded_size.result) size name c.counting.invariant.0
          (entry_here c.args.tree.now c.args.dir.now.list c.counting.left c.advance.new.self (c.args.place + c.counting.count) e c.counting.invariant.1 c.in-Some.ensures)
          (omega (arith, c.if-entries-limits.false)) (omega (arith, c.if-names-limits.false)) (is_within c.args.tree.now c.args.dir.now.list c.counting.left c.advance.new.self (c.args.place + c.counting.count) e c.counting.invariant.1 c.in-Some.ensures),
      from_next_at c.args.tree.now c.args.dir.now.list c.counting.left c.advance.new.self c.args.place c.counting.count e c.counting.invariant.1 c.in-Some.ensures,
      omega (arith, c.counting.invariant.2, c.entry_size-entries.ensures.size, some_size c.args.limits.now.detail c.in-Some.name.now),
    )

pub returns-clause-entries : goal.returns-clause-entries
returns-clause-entries c =
    counted_ends c.args.tree.now c.args.limits.now c.args.dir.now.list c.args.place c.counting.entries c.counting.names c.counting.count c.counting.invariant.0
    (none_left c.args.tree.now c.args.dir.now.list c.counting.left (c.args.place + c.counting.count) c.counting.invariant.1 c.in_default.ensures.0)
