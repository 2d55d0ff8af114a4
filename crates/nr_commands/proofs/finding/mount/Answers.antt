use Rattle.std.proofs.Common.{ℕ, List, arith, subst, ◌∙◌}
use Rattle.nr_words.specs.Limits.{mount_path_max}
use Rattle.nr_client.specs.Requests.{mnt_call, mnt_result}
use Rattle.nr_commands.specs.Sessions.{RequestOver}
use Rattle.nr_commands.proofs.Limits.{fits, too_long}
use Rattle.nr_commands.proofs.finding.mount.Goals as goal

pub returns-then-len-gt-EXPORT_MAX-clause-part : goal.returns-then-len-gt-EXPORT_MAX-clause-part
returns-then-len-gt-EXPORT_MAX-clause-part g c = too_long (RequestOver g.L.Calls.relations mnt_result (mnt_call c.args.session.now.uid c.args.session.now.gid c.args.export.now)) mount_path_max c.args.export.now (g.L.Calls.at c.args.session.now.link) (let above = c.if-len-gt-EXPORT_MAX.true in omega (arith, above))

pub returns-clause-part : goal.returns-clause-part
returns-clause-part g c =
    let bytes = c.as_bytes.ensures.value in
    fits (RequestOver g.L.Calls.relations mnt_result (mnt_call c.args.session.now.uid c.args.session.now.gid c.args.export.now)) mount_path_max c.args.export.now (g.L.Calls.at c.args.session.now.link) (g.L.Calls.at c.mount.new.self.link) c.mount.result (let within = c.if-len-gt-EXPORT_MAX.false in omega (arith, within))
    (subst (λ (text : List ℕ). RequestOver g.L.Calls.relations mnt_result (mnt_call c.args.session.now.uid c.args.session.now.gid text) (g.L.Calls.at c.args.session.now.link) (g.L.Calls.at c.mount.new.self.link) c.mount.result) (c.in-Ok.ensures ∙ bytes) (c.mount.ensures.asks, c.mount.ensures.faults))
