use Rattle.std.proofs.Common.{ℕ, List, arith, subst, ◌∙◌}
use Rattle.nr_nfs_base.specs.Limits.{link_target_max}
use Rattle.nr_client.specs.Requests.{create_result, symlink_call}
use Rattle.nr_commands.specs.Sessions.{RequestOver}
use Rattle.nr_commands.proofs.Limits.{fits, too_long}
use Rattle.nr_commands.proofs.texts.symlink.Goals as goal

pub returns-then-len-gt-TARGET_MAX-clause-part : goal.returns-then-len-gt-TARGET_MAX-clause-part
returns-then-len-gt-TARGET_MAX-clause-part g c = too_long (RequestOver g.L.Calls.relations create_result (symlink_call c.args.session.now.uid c.args.session.now.gid c.args.dir.now c.args.name.now c.args.target.now)) link_target_max c.args.target.now (g.L.Calls.at c.args.session.now.link) (let above = c.if-len-gt-TARGET_MAX.true in omega (arith, above))

pub returns-clause-part : goal.returns-clause-part
returns-clause-part g c =
    let bytes = c.as_bytes.ensures.value in
    fits (RequestOver g.L.Calls.relations create_result (symlink_call c.args.session.now.uid c.args.session.now.gid c.args.dir.now c.args.name.now c.args.target.now)) link_target_max c.args.target.now (g.L.Calls.at c.args.session.now.link) (g.L.Calls.at c.link.new.self.link) c.link.result (let within = c.if-len-gt-TARGET_MAX.false in omega (arith, within))
    (subst (λ (text : List ℕ). RequestOver g.L.Calls.relations create_result (symlink_call c.args.session.now.uid c.args.session.now.gid c.args.dir.now c.args.name.now text) (g.L.Calls.at c.args.session.now.link) (g.L.Calls.at c.link.new.self.link) c.link.result) (c.in-Ok.ensures ∙ bytes) (c.link.ensures.asks, c.link.ensures.faults))
