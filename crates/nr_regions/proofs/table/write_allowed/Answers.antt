use Rattle.std.proofs.Common.{◌≤◌, ◌+◌, ◌∙◌, sym, ap, length, is_some, refl}
use Rattle.nr_regions.specs.declared.held.HeldBuffer.{HeldBuffer}
use Rattle.nr_regions.specs.RegisteredMemory.{Access}
use Rattle.nr_regions.specs.Table.{region_of, outside_of, is_dead_of}
use Rattle.nr_regions.proofs.Tables.{alive_found, if_found, mapped_again, mapped_over, denied_held, denied_none, table_write_over, outsides_write_over}
use Rattle.nr_regions.proofs.table.write_allowed.Goals as goal

pub returns-in_default-clause-exact : goal.returns-in_default-clause-exact
returns-in_default-clause-exact c =
    let access : Access = record { right = c.args.right; stag = c.args.stag; to = c.args.to; len = length c.args.bytes.now } in
    denied_none c.args.regions.now c.args.stag access (sym c.in_default.ensures.value)

pub returns-in-Some-denial-clause-exact : goal.returns-in-Some-denial-clause-exact
returns-in-Some-denial-clause-exact c =
    let access : Access = record { right = c.args.right; stag = c.args.stag; to = c.args.to; len = length c.args.bytes.now } in
    c.in-Some-denial.ensures.exact ∙ denied_held c.args.regions.now c.args.stag access c.in-Some.found.now (sym c.in-Some.ensures.value)

pub returns-in-Some-denial-clause-err : goal.returns-in-Some-denial-clause-err
returns-in-Some-denial-clause-err c =
    let found = sym c.in-Some.ensures.value in
    mapped_again region_of c.args.regions.now (c.get_mut.follows.lender c.in-Some.found.now) c.args.stag c.in-Some.found.now found
    (record { each = ((c.get_mut.follows.holds c.in-Some.found.now).3 (rw found refl)).0 })

pub returns-in-Some-denial-clause-outside : goal.returns-in-Some-denial-clause-outside
returns-in-Some-denial-clause-outside c =
    let found = sym c.in-Some.ensures.value in
    mapped_again outside_of c.args.regions.now (c.get_mut.follows.lender c.in-Some.found.now) c.args.stag c.in-Some.found.now found
    (record { each = ((c.get_mut.follows.holds c.in-Some.found.now).3 (rw found refl)).0 })

pub returns-in-Some-denial-clause-dead : goal.returns-in-Some-denial-clause-dead
returns-in-Some-denial-clause-dead c =
    let found = sym c.in-Some.ensures.value in
    mapped_again is_dead_of c.args.regions.now (c.get_mut.follows.lender c.in-Some.found.now) c.args.stag c.in-Some.found.now found
    (record { each = ((c.get_mut.follows.holds c.in-Some.found.now).3 (rw found refl)).0 })

pub returns-clause-exact : goal.returns-clause-exact
returns-clause-exact c =
    let access : Access = record { right = c.args.right; stag = c.args.stag; to = c.args.to; len = length c.args.bytes.now } in
    c.in_default-denial.ensures.exact ∙ denied_held c.args.regions.now c.args.stag access c.in-Some.found.now (sym c.in-Some.ensures.value)

pub returns-clause-within : goal.returns-clause-within
returns-clause-within c =
    if_found c.args.regions.now c.args.stag c.in-Some.found.now (λ region. c.args.to + length c.args.bytes.now ≤ length region.buf) (sym c.in-Some.ensures.value) c.in_default-denial.ensures.live c.in_default-denial.ensures.within

pub returns-clause-bytes : goal.returns-clause-bytes
returns-clause-bytes c =
    let held = c.in-Some.found.now in
    let w : HeldBuffer = record { right = held.right; window = c.overwrite.new.self; is_dead = held.is_dead } in
    let found = sym c.in-Some.ensures.value in
    table_write_over c.args.regions.now (c.get_mut.follows.lender w) c.args.stag c.args.to c.args.bytes.now c.overwrite.new.self held
    found c.in_default-denial.ensures.live c.overwrite.ensures (record { each = ((c.get_mut.follows.holds w).3 (rw found refl)).0 })

pub returns-clause-found : goal.returns-clause-found
returns-clause-found c = ap is_some (alive_found c.args.regions.now c.args.stag c.in-Some.found.now (sym c.in-Some.ensures.value) c.in_default-denial.ensures.live)

pub returns-clause-outside : goal.returns-clause-outside
returns-clause-outside c =
    let held = c.in-Some.found.now in
    let w : HeldBuffer = record { right = held.right; window = c.overwrite.new.self; is_dead = held.is_dead } in
    let found = sym c.in-Some.ensures.value in
    outsides_write_over c.args.regions.now (c.get_mut.follows.lender w) c.args.stag c.args.to c.args.bytes.now c.overwrite.new.self held
    found c.overwrite.ensures (record { each = ((c.get_mut.follows.holds w).3 (rw found refl)).0 })

pub returns-clause-dead : goal.returns-clause-dead
returns-clause-dead c =
    let held = c.in-Some.found.now in
    let w : HeldBuffer = record { right = held.right; window = c.overwrite.new.self; is_dead = held.is_dead } in
    let found = sym c.in-Some.ensures.value in
    mapped_over is_dead_of c.args.regions.now (c.get_mut.follows.lender w) c.args.stag held w found
    (record { each = ((c.get_mut.follows.holds w).3 (rw found refl)).0 }) refl
