use Rattle.std.proofs.Common.{◌≡◌, IfOk, subst, sym}
use Rattle.nr_nfs_base.specs.declared.procedure.NfsProcedure.{NfsProcedure}
use Rattle.nr_plain.specs.private.Code.{reply_of}
use Rattle.nr_plain.proofs.dispatch.reading.Goals as goal

pub returns-in-Null : goal.returns-in-Null
returns-in-Null c = subst (λ (p : NfsProcedure). IfOk c.constant_reply.result (λ o. o ≡ reply_of c.args.tree.now c.args.call.now p)) (sym c.in-Null.is) c.constant_reply.ensures

pub returns-in-Getattr : goal.returns-in-Getattr
returns-in-Getattr c = subst (λ (p : NfsProcedure). IfOk c.read.result (λ o. o ≡ reply_of c.args.tree.now c.args.call.now p)) (sym c.in-Getattr.is) c.read.ensures

pub returns-in-Lookup : goal.returns-in-Lookup
returns-in-Lookup c = subst (λ (p : NfsProcedure). IfOk c.read-in-Lookup.result (λ o. o ≡ reply_of c.args.tree.now c.args.call.now p)) (sym c.in-Lookup.is) c.read-in-Lookup.ensures

pub returns-in-Access : goal.returns-in-Access
returns-in-Access c = subst (λ (p : NfsProcedure). IfOk c.read-in-Access.result (λ o. o ≡ reply_of c.args.tree.now c.args.call.now p)) (sym c.in-Access.is) c.read-in-Access.ensures

pub returns-in-Readlink : goal.returns-in-Readlink
returns-in-Readlink c = subst (λ (p : NfsProcedure). IfOk c.read-in-Readlink.result (λ o. o ≡ reply_of c.args.tree.now c.args.call.now p)) (sym c.in-Readlink.is) c.read-in-Readlink.ensures

pub returns-in-Read : goal.returns-in-Read
returns-in-Read c = subst (λ (p : NfsProcedure). IfOk c.read_file.result (λ o. o ≡ reply_of c.args.tree.now c.args.call.now p)) (sym c.in-Read.is) c.read_file.ensures

pub returns-in-Readdir : goal.returns-in-Readdir
returns-in-Readdir c = subst (λ (p : NfsProcedure). IfOk c.read_directory.result (λ o. o ≡ reply_of c.args.tree.now c.args.call.now p)) (sym c.in-Readdir.is) c.read_directory.ensures

pub returns-in-Readdirplus : goal.returns-in-Readdirplus
returns-in-Readdirplus c = subst (λ (p : NfsProcedure). IfOk c.read_directory-in-Readdirplus.result (λ o. o ≡ reply_of c.args.tree.now c.args.call.now p)) (sym c.in-Readdirplus.is) c.read_directory-in-Readdirplus.ensures

pub returns-in-Fsstat : goal.returns-in-Fsstat
returns-in-Fsstat c = subst (λ (p : NfsProcedure). IfOk c.read-in-Fsstat.result (λ o. o ≡ reply_of c.args.tree.now c.args.call.now p)) (sym c.in-Fsstat.is) c.read-in-Fsstat.ensures

pub returns-in-Fsinfo : goal.returns-in-Fsinfo
returns-in-Fsinfo c = subst (λ (p : NfsProcedure). IfOk c.read-in-Fsinfo.result (λ o. o ≡ reply_of c.args.tree.now c.args.call.now p)) (sym c.in-Fsinfo.is) c.read-in-Fsinfo.ensures

pub returns-in-Pathconf : goal.returns-in-Pathconf
returns-in-Pathconf c = subst (λ (p : NfsProcedure). IfOk c.read-in-Pathconf.result (λ o. o ≡ reply_of c.args.tree.now c.args.call.now p)) (sym c.in-Pathconf.is) c.read-in-Pathconf.ensures

pub returns-in-Commit : goal.returns-in-Commit
returns-in-Commit c = subst (λ (p : NfsProcedure). IfOk c.read-in-Commit.result (λ o. o ≡ reply_of c.args.tree.now c.args.call.now p)) (sym c.in-Commit.is) c.read-in-Commit.ensures
