use Rattle.std.proofs.Common.{◌≡◌, ◌<◌, ◌-◌, suc, length, Bool, true, false, if◌then◌else◌, arith, sym, subst, ◌∙◌}
use Rattle.nr_client.specs.Listing.{entries_max, list_next, readdir_call}
use Rattle.nr_client.proofs.Listings.{asked_shrinks, calls_left, list_ends, list_goes_on, list_stops}
use Rattle.nr_client.proofs.listing.list_over.Goals as goal

pub loop-listed-preserved : goal.loop-listed-preserved
loop-listed-preserved g c =
    let (within, faults, leads) = c.loop-listed.invariant in
    let unfinished : c.loop-listed.listed.eof ≡ false = grind (arith, c.loop-listed-test.true) in (
      (asked_shrinks g.L.Calls.relations (readdir_call c.args.uid c.args.gid c.args.dir.now c.loop-listed.listed.cookie c.loop-listed.listed.verifier) c.loop-listed.listed c.list_more.new.listed
          (g.L.Calls.at c.loop-listed.link) (g.L.Calls.at c.list_more.new.link) c.in-Ok.ensures.asks).within,
      c.in-Ok.ensures.faults ∙ faults,
      list_goes_on g.L.Calls.relations c.args.uid c.args.gid (list_next c.args.uid c.args.gid c.args.dir.now) c.args.dir.now c.loop-listed.listed unfinished
          (g.L.Calls.at c.args.link.now) (g.L.Calls.at c.loop-listed.link) (g.L.Calls.at c.list_more.new.link) leads c.list_more.new.listed c.in-Ok.ensures.asks,
    )

pub loop-listed-smaller : goal.loop-listed-smaller
loop-listed-smaller g c =
    let unfinished : c.loop-listed.listed.eof ≡ false = grind (arith, c.loop-listed-test.true) in
    subst (λ (eof : Bool). calls_left c.list_more.new.listed < (if eof then 0 else suc (entries_max - length c.loop-listed.listed.names))) (sym unfinished)
    (asked_shrinks g.L.Calls.relations (readdir_call c.args.uid c.args.gid c.args.dir.now c.loop-listed.listed.cookie c.loop-listed.listed.verifier) c.loop-listed.listed c.list_more.new.listed
    (g.L.Calls.at c.loop-listed.link) (g.L.Calls.at c.list_more.new.link) c.in-Ok.ensures.asks).left

pub returns-in-Err-clause-follows : goal.returns-in-Err-clause-follows
returns-in-Err-clause-follows g c =
    let (within, faults, leads) = c.loop-listed.invariant in
    let unfinished : c.loop-listed.listed.eof ≡ false = grind (arith, c.loop-listed-test.true) in
    list_stops g.L.Calls.relations c.args.uid c.args.gid (list_next c.args.uid c.args.gid c.args.dir.now) c.args.dir.now c.loop-listed.listed unfinished
    (g.L.Calls.at c.args.link.now) (g.L.Calls.at c.loop-listed.link) (g.L.Calls.at c.list_more.new.link) leads c.in-Err.end c.in-Err.ensures.asks

pub returns-clause-follows : goal.returns-clause-follows
returns-clause-follows g c =
    let (within, faults, leads) = c.loop-listed.invariant in
    let finished : c.loop-listed.listed.eof ≡ true = grind (arith, c.loop-listed-test.false) in
    list_ends g.L.Calls.relations c.args.uid c.args.gid (list_next c.args.uid c.args.gid c.args.dir.now) c.args.dir.now c.loop-listed.listed
    (g.L.Calls.at c.args.link.now) (g.L.Calls.at c.loop-listed.link) finished leads
