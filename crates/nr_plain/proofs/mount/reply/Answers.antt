use Rattle.std.proofs.Common.{◌≡◌, IfOk, subst, sym}
use Rattle.nr_nfs_base.specs.declared.procedure.MountProcedure.{MountProcedure}
use Rattle.nr_plain.specs.private.Code.{mount_reply}
use Rattle.nr_plain.proofs.mount.reply.Goals as goal

pub returns-in-Null : goal.returns-in-Null
returns-in-Null c = subst (λ (p : MountProcedure). IfOk c.constant_reply.result (λ o. o ≡ mount_reply c.args.xid c.args.export.now p c.args.arguments.now)) (sym c.in-Null.is) c.constant_reply.ensures

pub returns-in-Mnt : goal.returns-in-Mnt
returns-in-Mnt c = subst (λ (p : MountProcedure). IfOk c.mnt.result (λ o. o ≡ mount_reply c.args.xid c.args.export.now p c.args.arguments.now)) (sym c.in-Mnt.is) c.mnt.ensures

pub returns-in-Umnt : goal.returns-in-Umnt
returns-in-Umnt c = subst (λ (p : MountProcedure). IfOk c.constant_reply-in-Umnt.result (λ o. o ≡ mount_reply c.args.xid c.args.export.now p c.args.arguments.now)) (sym c.in-Umnt.is) c.constant_reply-in-Umnt.ensures

pub returns-in-Umntall : goal.returns-in-Umntall
returns-in-Umntall c = subst (λ (p : MountProcedure). IfOk c.constant_reply-in-Umntall.result (λ o. o ≡ mount_reply c.args.xid c.args.export.now p c.args.arguments.now)) (sym c.in-Umntall.is) c.constant_reply-in-Umntall.ensures
