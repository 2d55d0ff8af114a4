use Rattle.std.proofs.Common.{◌<◌, ℕ, ◌+◌, arith, ap, sym, subst, ◌∙◌, List, [], ◌∷◌, length, length-append}
use Rattle.nr_drill.specs.declared.report.LinkEnds.{LinkEnds}
use Rattle.nr_drill.specs.Drill.{last_link, setting_now}
use Rattle.nr_world.specs.private.Stands.{drill_setting}
use Rattle.nr_world.proofs.Reporting.{EndsSoFar, ends_from, ends_on, ends_all, ends_begin, same_ends}
use Rattle.nr_world.proofs.Stands.{link_at}
use Rattle.nr_world.proofs.world.World.push_ends.Goals as goal

pub loop-at-init : goal.loop-at-init
loop-at-init c = (ends_begin c.args.self.now c.args.ends.now.items c.requires, ap length c.requires)

pub loop-at-preserved : goal.loop-at-preserved
loop-at-preserved c =
    let e : LinkEnds = ends_from c.client_end.result c.server_end.result c.is_dropped.result in
    let lt : c.loop-at.at < length c.args.self.now.links.items = omega (arith, c.len-at-end.ensures, c.loop-at-test.true) in (
      subst (λ (xs : List LinkEnds). EndsSoFar c.args.self.now xs (c.loop-at.at + 1)) (sym c.in_ok-push.ensures.items)
          (ends_on c.args.self.now c.loop-at.ends.items c.loop-at.at e lt c.loop-at.invariant.0 (λ tree opening d h.
          (let t = setting_now (drill_setting tree opening) d in
          let link = last_link (c.loop-at.at + 1) d in
          let own = link_at tree opening t opening.clients d c.args.self.now c.loop-at.at c.index-link.result.now h.opened (omega (arith, lt, h.opened.count)) c.index-link.ensures in
          same_ends (c.client_end.ensures t link d own) (c.server_end.ensures t link d own) (c.is_dropped.ensures t link d own)))),
      ap length c.in_ok-push.ensures.items ∙ length-append c.loop-at.ends.items (e ∷ []) ∙ ap (λ (k : ℕ). k + 1) c.loop-at.invariant.1,
    )

pub returns-clause-ends : goal.returns-clause-ends
returns-clause-ends c = ends_all c.args.self.now c.loop-at.ends.items c.loop-at.at (omega (arith, c.len-at-end.ensures, c.loop-at-test.false)) c.loop-at.invariant.0
