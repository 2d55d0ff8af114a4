use Rattle.std.proofs.Common.{true, sym, refl}
use Rattle.nr_regions.specs.declared.held.HeldBuffer.{HeldBuffer}
use Rattle.nr_regions.specs.Table.{region_of, outside_of, is_dead_of}
use Rattle.nr_regions.proofs.Tables.{live_alive, mapped_again, mapped_over, mapped_put, not_live_held, not_live_none}
use Rattle.nr_regions.proofs.table.mark_dead.Goals as goal

pub returns-in_default-clause-exact : goal.returns-in_default-clause-exact
returns-in_default-clause-exact c = sym (not_live_none c.args.regions.now c.args.stag (sym c.in_default.ensures.value))

pub returns-then-found-clause-exact : goal.returns-then-found-clause-exact
returns-then-found-clause-exact c = sym (not_live_held c.args.regions.now c.args.stag c.in-Some.found.now (sym c.in-Some.ensures.value) c.if-found.true)

pub returns-then-found-clause-err : goal.returns-then-found-clause-err
returns-then-found-clause-err c =
    let found = sym c.in-Some.ensures.value in
    mapped_again is_dead_of c.args.regions.now (c.get_mut.follows.lender c.in-Some.found.now) c.args.stag c.in-Some.found.now found
    (record { each = ((c.get_mut.follows.holds c.in-Some.found.now).3 (rw found refl)).0 })

pub returns-then-found-clause-same : goal.returns-then-found-clause-same
returns-then-found-clause-same c =
    let found = sym c.in-Some.ensures.value in
    mapped_again region_of c.args.regions.now (c.get_mut.follows.lender c.in-Some.found.now) c.args.stag c.in-Some.found.now found
    (record { each = ((c.get_mut.follows.holds c.in-Some.found.now).3 (rw found refl)).0 })

pub returns-then-found-clause-outside : goal.returns-then-found-clause-outside
returns-then-found-clause-outside c =
    let found = sym c.in-Some.ensures.value in
    mapped_again outside_of c.args.regions.now (c.get_mut.follows.lender c.in-Some.found.now) c.args.stag c.in-Some.found.now found
    (record { each = ((c.get_mut.follows.holds c.in-Some.found.now).3 (rw found refl)).0 })

pub returns-clause-exact : goal.returns-clause-exact
returns-clause-exact c = sym (live_alive c.args.regions.now c.args.stag c.in-Some.found.now (sym c.in-Some.ensures.value) c.if-found.false)

pub returns-clause-ok : goal.returns-clause-ok
returns-clause-ok c =
    let held = c.in-Some.found.now in
    let w : HeldBuffer = record { right = held.right; window = held.window; is_dead = true } in
    let found = sym c.in-Some.ensures.value in
    mapped_put is_dead_of c.args.regions.now (c.get_mut.follows.lender w) c.args.stag w (record { each = ((c.get_mut.follows.holds w).3 (rw found refl)).0 })

pub returns-clause-same : goal.returns-clause-same
returns-clause-same c =
    let held = c.in-Some.found.now in
    let w : HeldBuffer = record { right = held.right; window = held.window; is_dead = true } in
    let found = sym c.in-Some.ensures.value in
    mapped_over region_of c.args.regions.now (c.get_mut.follows.lender w) c.args.stag held w found (record { each = ((c.get_mut.follows.holds w).3 (rw found refl)).0 }) refl

pub returns-clause-outside : goal.returns-clause-outside
returns-clause-outside c =
    let held = c.in-Some.found.now in
    let w : HeldBuffer = record { right = held.right; window = held.window; is_dead = true } in
    let found = sym c.in-Some.ensures.value in
    mapped_over outside_of c.args.regions.now (c.get_mut.follows.lender w) c.args.stag held w found (record { each = ((c.get_mut.follows.holds w).3 (rw found refl)).0 }) refl
