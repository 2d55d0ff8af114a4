use Rattle.std.specs.Prelude.{◌&&◌}
use Rattle.std.specs.List.{list_all}
use Rattle.std.proofs.Common.{rules, ◌≡◌, ◌+◌, ◌<◌, ◌≤◌, arith, Bool, true, false, drop, length, sym, ap, ◌∙◌}
use Rattle.nr_drill.specs.Drill.{last_link, setting_now}
use Rattle.nr_drill.specs.Follows.{is_still}
use Rattle.nr_world.specs.private.Stands.{drill_setting}
use Rattle.nr_world.proofs.Rounds.{still_from, still_end}
use Rattle.nr_world.proofs.Stands.{link_at}
use Rattle.nr_world.proofs.world.World.is_still.Goals as goal

pub returns-then-not-is_still : goal.returns-then-not-is_still
returns-then-not-is_still c tree opening d h =
    let t = setting_now (drill_setting tree opening) d in
    let at = c.loop-at.at in
    let lt : at < opening.clients = omega (arith, h.opened.count, c.len-at-end.ensures, c.loop-at-test.true) in
    let below : at < length d.last_links = omega (arith, lt, h.frame.count) in
    let own = link_at tree opening t opening.clients d c.args.self.now at c.index.result.now h.opened lt c.index.ensures in
    let answer : c.is_still.result ≡ false = search rules in
    let here : is_still t d (last_link (at + 1) d) ≡ false = sym (c.is_still.ensures t (last_link (at + 1) d) d own) ∙ answer in
    sym (ap (λ (b : Bool). b && list_all (is_still t d) (drop (at + 1) d.last_links)) here) ∙ sym (still_from t d d.last_links at below) ∙ c.loop-at.invariant tree opening d h

pub loop-at-preserved : goal.loop-at-preserved
loop-at-preserved c tree opening d h =
    let t = setting_now (drill_setting tree opening) d in
    let at = c.loop-at.at in
    let lt : at < opening.clients = omega (arith, h.opened.count, c.len-at-end.ensures, c.loop-at-test.true) in
    let below : at < length d.last_links = omega (arith, lt, h.frame.count) in
    let own = link_at tree opening t opening.clients d c.args.self.now at c.index.result.now h.opened lt c.index.ensures in
    let answer : c.is_still.result ≡ true = search rules in
    let here : is_still t d (last_link (at + 1) d) ≡ true = sym (c.is_still.ensures t (last_link (at + 1) d) d own) ∙ answer in
    sym (ap (λ (b : Bool). b && list_all (is_still t d) (drop (at + 1) d.last_links)) here) ∙ sym (still_from t d d.last_links at below) ∙ c.loop-at.invariant tree opening d h

pub returns : goal.returns
returns c tree opening d h =
    let most : length d.last_links ≤ c.loop-at.at = omega (arith, h.frame.count, h.opened.count, c.len-at-end.ensures, c.loop-at-test.false) in
    sym (still_end (setting_now (drill_setting tree opening) d) d d.last_links c.loop-at.at most) ∙ c.loop-at.invariant tree opening d h
