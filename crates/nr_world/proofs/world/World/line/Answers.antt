use Rattle.std.proofs.Common.{ℕ, List, refl, subst}
use Rattle.nr_reduce.specs.History.{is_dropped}
use Rattle.nr_script.specs.declared.script.Line.{Line}
use Rattle.nr_script.specs.declared.script.Line.TheVariants as lines
use Rattle.nr_drill.specs.Drill.{Setting, Drill, cred_of, last_link, setting_now, after_submit, after_up, after_down, after_work, after_forget, after_revoke, after_drop, after_grant, after_raw}
use Rattle.nr_world.specs.private.Stands.{Steps}
use Rattle.nr_world.specs.private.Within.{CanMake}
use Rattle.nr_world.proofs.Stands.{on_ok}
use Rattle.nr_world.proofs.LineSteps.{client_of, line_is, may_grant, step_makes, tick_makes}
use Rattle.nr_world.proofs.world.World.line.Goals as goal

pub up-requires : goal.up-requires
up-requires c = (client_of c.args.self.now c.args.line.now (lines.Up c.in-Up.client c.in-Up.most) c.in-Up.client c.in-Up.is refl c.requires).link

pub returns-in-Up : goal.returns-in-Up
returns-in-Up c = on_ok c.up.result _ _ c.up.ensures (λ steps. line_is c.args.self.now c.up.new.self c.args.line.now (lines.Up c.in-Up.client c.in-Up.most) c.in-Up.is
    (step_makes (lines.Up c.in-Up.client c.in-Up.most) (λ (s : Setting) (d : Drill). after_up (setting_now s d) (last_link c.in-Up.client d) c.in-Up.most d) c.args.self.now c.up.new.self (λ s clients d. refl) steps))

pub down-requires : goal.down-requires
down-requires c = (client_of c.args.self.now c.args.line.now (lines.Down c.in-Down.client c.in-Down.most) c.in-Down.client c.in-Down.is refl c.requires).link

pub returns-in-Down : goal.returns-in-Down
returns-in-Down c = on_ok c.down.result _ _ c.down.ensures (λ steps. line_is c.args.self.now c.down.new.self c.args.line.now (lines.Down c.in-Down.client c.in-Down.most) c.in-Down.is
    (step_makes (lines.Down c.in-Down.client c.in-Down.most) (λ (s : Setting) (d : Drill). after_down (setting_now s d) (last_link c.in-Down.client d) c.in-Down.most d) c.args.self.now c.down.new.self (λ s clients d. refl) steps))

pub work-requires : goal.work-requires
work-requires c = (client_of c.args.self.now c.args.line.now (lines.Work c.in-Work.client) c.in-Work.client c.in-Work.is refl c.requires).link

pub returns-in-Work : goal.returns-in-Work
returns-in-Work c = on_ok c.work.result _ _ c.work.ensures (λ steps. line_is c.args.self.now c.work.new.self c.args.line.now (lines.Work c.in-Work.client) c.in-Work.is
    (step_makes (lines.Work c.in-Work.client) (λ (s : Setting) (d : Drill). after_work (setting_now s d) (last_link c.in-Work.client d) d) c.args.self.now c.work.new.self (λ s clients d. refl) steps))

pub forget-requires : goal.forget-requires
forget-requires c = (client_of c.args.self.now c.args.line.now (lines.Forget c.in-Forget.client c.in-Forget.number) c.in-Forget.client c.in-Forget.is refl c.requires).link

pub returns-in-Forget : goal.returns-in-Forget
returns-in-Forget c = on_ok c.forget.result _ _ c.forget.ensures (λ steps. line_is c.args.self.now c.forget.new.self c.args.line.now (lines.Forget c.in-Forget.client c.in-Forget.number) c.in-Forget.is
    (step_makes (lines.Forget c.in-Forget.client c.in-Forget.number) (λ (s : Setting) (d : Drill). after_forget (setting_now s d) (last_link c.in-Forget.client d) c.in-Forget.number d) c.args.self.now c.forget.new.self (λ s clients d. refl) steps))

pub revoke-requires : goal.revoke-requires
revoke-requires c = (client_of c.args.self.now c.args.line.now (lines.Revoke c.in-Revoke.client c.in-Revoke.number) c.in-Revoke.client c.in-Revoke.is refl c.requires).link

pub returns-in-Revoke : goal.returns-in-Revoke
returns-in-Revoke c = on_ok c.revoke.result _ _ c.revoke.ensures (λ steps. line_is c.args.self.now c.revoke.new.self c.args.line.now (lines.Revoke c.in-Revoke.client c.in-Revoke.number) c.in-Revoke.is
    (step_makes (lines.Revoke c.in-Revoke.client c.in-Revoke.number) (λ (s : Setting) (d : Drill). after_revoke (setting_now s d) (last_link c.in-Revoke.client d) c.in-Revoke.number d) c.args.self.now c.revoke.new.self (λ s clients d. refl) steps))

pub drop_link-requires : goal.drop_link-requires
drop_link-requires c = (client_of c.args.self.now c.args.line.now (lines.Drop c.in-Drop.client) c.in-Drop.client c.in-Drop.is refl c.requires).link

pub returns-in-Drop : goal.returns-in-Drop
returns-in-Drop c = on_ok c.drop_link.result _ _ c.drop_link.ensures.stands (λ steps. line_is c.args.self.now c.drop_link.new.self c.args.line.now (lines.Drop c.in-Drop.client) c.in-Drop.is
    (step_makes (lines.Drop c.in-Drop.client) (λ (s : Setting) (d : Drill). after_drop (last_link c.in-Drop.client d) d) c.args.self.now c.drop_link.new.self (λ s clients d. refl) steps))

pub grant-requires-clause-client : goal.grant-requires-clause-client
grant-requires-clause-client c = (client_of c.args.self.now c.args.line.now (lines.Grant c.in-Grant.client c.in-Grant.credits) c.in-Grant.client c.in-Grant.is refl c.requires).link

pub grant-requires-clause-credits : goal.grant-requires-clause-credits
grant-requires-clause-credits c = may_grant c.args.self.now c.args.line.now c.in-Grant.client c.in-Grant.credits c.in-Grant.is c.requires

pub returns-in-Grant : goal.returns-in-Grant
returns-in-Grant c = on_ok c.grant.result _ _ c.grant.ensures (λ steps. line_is c.args.self.now c.grant.new.self c.args.line.now (lines.Grant c.in-Grant.client c.in-Grant.credits) c.in-Grant.is
    (step_makes (lines.Grant c.in-Grant.client c.in-Grant.credits) (λ (s : Setting) (d : Drill). after_grant (last_link c.in-Grant.client d) c.in-Grant.credits d) c.args.self.now c.grant.new.self (λ s clients d. refl) steps))

pub raw-requires : goal.raw-requires
raw-requires c = (client_of c.args.self.now c.args.line.now (lines.Raw c.in-Raw.client c.in-Raw.side c.in-Raw.bytes) c.in-Raw.client c.in-Raw.is refl c.requires).link

pub returns-in-Raw : goal.returns-in-Raw
returns-in-Raw c = on_ok c.raw.result _ _ c.raw.ensures (λ steps. line_is c.args.self.now c.raw.new.self c.args.line.now (lines.Raw c.in-Raw.client c.in-Raw.side c.in-Raw.bytes) c.in-Raw.is
    (step_makes (lines.Raw c.in-Raw.client c.in-Raw.side c.in-Raw.bytes) (λ (s : Setting) (d : Drill). after_raw (last_link c.in-Raw.client d) c.in-Raw.side c.in-Raw.bytes (is_dropped (last_link c.in-Raw.client d) d.marks) d) c.args.self.now c.raw.new.self (λ s clients d. refl)
    (subst (λ (bytes : List ℕ). Steps (λ s d. after_raw (last_link c.in-Raw.client d) c.in-Raw.side bytes (is_dropped (last_link c.in-Raw.client d) d.marks) d) c.args.self.now c.raw.new.self) c.as_slice-in-Raw.ensures steps)))

pub returns-in-Tick : goal.returns-in-Tick
returns-in-Tick c = line_is c.args.self.now _ c.args.line.now (lines.Tick c.in-Tick.seconds) c.in-Tick.is
    (tick_makes c.in-Tick.seconds c.args.self.now _ (record { first_line = refl; links = refl; owners = refl; marks = refl; server = refl }) refl refl)

pub returns-in-Rejoin : goal.returns-in-Rejoin
returns-in-Rejoin c = on_ok c.rejoin.result _ _ c.rejoin.ensures (line_is c.args.self.now c.rejoin.new.self c.args.line.now (lines.Rejoin c.in-Rejoin.client) c.in-Rejoin.is)

pub rejoin-requires : goal.rejoin-requires
rejoin-requires c = (client_of c.args.self.now c.args.line.now (lines.Rejoin c.in-Rejoin.client) c.in-Rejoin.client c.in-Rejoin.is refl c.requires).link

pub returns-in-Call : goal.returns-in-Call
returns-in-Call c = on_ok c.submit.result _ _ c.submit.ensures (λ steps. line_is c.args.self.now c.submit.new.self c.args.line.now (lines.Call c.in-Call.client c.in-Call.form c.in-Call.prog c.in-Call.vers c.in-Call.proc c.in-Call.args) c.in-Call.is
    (step_makes (lines.Call c.in-Call.client c.in-Call.form c.in-Call.prog c.in-Call.vers c.in-Call.proc c.in-Call.args)
    (λ (s : Setting) (d : Drill). after_submit (setting_now s d) (last_link c.in-Call.client d) (record { prog = c.in-Call.prog; vers = c.in-Call.vers; proc = c.in-Call.proc; cred = cred_of c.in-Call.client d; args = c.in-Call.args }) c.in-Call.form d) c.args.self.now c.submit.new.self (λ s clients d. refl)
    (subst (λ (args : List ℕ). Steps (λ s d. after_submit (setting_now s d) (last_link c.in-Call.client d) (record { prog = c.in-Call.prog; vers = c.in-Call.vers; proc = c.in-Call.proc; cred = cred_of c.in-Call.client d; args = args }) c.in-Call.form d) c.args.self.now c.submit.new.self) c.as_slice.ensures steps)))

pub submit-requires : goal.submit-requires
submit-requires c =
    let has = client_of c.args.self.now c.args.line.now (lines.Call c.in-Call.client c.in-Call.form c.in-Call.prog c.in-Call.vers c.in-Call.proc c.in-Call.args) c.in-Call.client c.in-Call.is refl c.requires in
    record { client = has.link; creds = has.creds; cred = has.cred }

pub returns-in-Drain : goal.returns-in-Drain
returns-in-Drain c = on_ok c.drain.result _ _ c.drain.ensures (line_is c.args.self.now c.drain.new.self c.args.line.now lines.Drain c.in-Drain.is)

pub drain-requires : goal.drain-requires
drain-requires c = subst (λ (line : Line). CanMake line c.args.self.now) c.in-Drain.is c.requires

pub cred-requires : goal.cred-requires
cred-requires c = subst (λ (line : Line). CanMake line c.args.self.now) c.in-Cred.is c.requires

pub returns-in-Cred : goal.returns-in-Cred
returns-in-Cred c = on_ok c.cred.result _ _ c.cred.ensures (line_is c.args.self.now c.cred.new.self c.args.line.now (lines.Cred c.in-Cred.client c.in-Cred.cred) c.in-Cred.is)
