use Rattle.std.proofs.Common.{◌≡◌, IfOk, OnOk, subst, sym}
use Rattle.nr_nfs_base.specs.declared.procedure.NfsProcedure.{NfsProcedure}
use Rattle.nr_plain.specs.private.Code.{IsChange, tree_of}
use Rattle.nr_plain.proofs.dispatch.changing.Goals as goal

pub returns-in-Setattr-clause-result : goal.returns-in-Setattr-clause-result
returns-in-Setattr-clause-result c = subst (λ (p : NfsProcedure). IfOk c.change.result (IsChange c.args.tree.now c.args.call.now p)) (sym c.in-Setattr.is) c.change.ensures.result

pub returns-in-Setattr-clause-tree : goal.returns-in-Setattr-clause-tree
returns-in-Setattr-clause-tree c = subst (λ (p : NfsProcedure). OnOk c.change.result (c.change.new.tree ≡ tree_of c.args.tree.now c.args.call.now p)) (sym c.in-Setattr.is) c.change.ensures.tree

pub returns-in-Write-clause-result : goal.returns-in-Write-clause-result
returns-in-Write-clause-result c = subst (λ (p : NfsProcedure). IfOk c.write_file.result (IsChange c.args.tree.now c.args.call.now p)) (sym c.in-Write.is) c.write_file.ensures.result

pub returns-in-Write-clause-tree : goal.returns-in-Write-clause-tree
returns-in-Write-clause-tree c = subst (λ (p : NfsProcedure). OnOk c.write_file.result (c.write_file.new.tree ≡ tree_of c.args.tree.now c.args.call.now p)) (sym c.in-Write.is) c.write_file.ensures.tree

pub returns-in-Create-clause-result : goal.returns-in-Create-clause-result
returns-in-Create-clause-result c = subst (λ (p : NfsProcedure). IfOk c.change-in-Create.result (IsChange c.args.tree.now c.args.call.now p)) (sym c.in-Create.is) c.change-in-Create.ensures.result

pub returns-in-Create-clause-tree : goal.returns-in-Create-clause-tree
returns-in-Create-clause-tree c = subst (λ (p : NfsProcedure). OnOk c.change-in-Create.result (c.change-in-Create.new.tree ≡ tree_of c.args.tree.now c.args.call.now p)) (sym c.in-Create.is) c.change-in-Create.ensures.tree

pub returns-in-Mkdir-clause-result : goal.returns-in-Mkdir-clause-result
returns-in-Mkdir-clause-result c = subst (λ (p : NfsProcedure). IfOk c.change-in-Mkdir.result (IsChange c.args.tree.now c.args.call.now p)) (sym c.in-Mkdir.is) c.change-in-Mkdir.ensures.result

pub returns-in-Mkdir-clause-tree : goal.returns-in-Mkdir-clause-tree
returns-in-Mkdir-clause-tree c = subst (λ (p : NfsProcedure). OnOk c.change-in-Mkdir.result (c.change-in-Mkdir.new.tree ≡ tree_of c.args.tree.now c.args.call.now p)) (sym c.in-Mkdir.is) c.change-in-Mkdir.ensures.tree

pub returns-in-Symlink-clause-result : goal.returns-in-Symlink-clause-result
returns-in-Symlink-clause-result c = subst (λ (p : NfsProcedure). IfOk c.change-in-Symlink.result (IsChange c.args.tree.now c.args.call.now p)) (sym c.in-Symlink.is) c.change-in-Symlink.ensures.result

pub returns-in-Symlink-clause-tree : goal.returns-in-Symlink-clause-tree
returns-in-Symlink-clause-tree c = subst (λ (p : NfsProcedure). OnOk c.change-in-Symlink.result (c.change-in-Symlink.new.tree ≡ tree_of c.args.tree.now c.args.call.now p)) (sym c.in-Symlink.is) c.change-in-Symlink.ensures.tree

pub returns-in-Mknod-clause-result : goal.returns-in-Mknod-clause-result
returns-in-Mknod-clause-result c = subst (λ (p : NfsProcedure). IfOk c.change-in-Mknod.result (IsChange c.args.tree.now c.args.call.now p)) (sym c.in-Mknod.is) c.change-in-Mknod.ensures.result

pub returns-in-Mknod-clause-tree : goal.returns-in-Mknod-clause-tree
returns-in-Mknod-clause-tree c = subst (λ (p : NfsProcedure). OnOk c.change-in-Mknod.result (c.change-in-Mknod.new.tree ≡ tree_of c.args.tree.now c.args.call.now p)) (sym c.in-Mknod.is) c.change-in-Mknod.ensures.tree

pub returns-in-Remove-clause-result : goal.returns-in-Remove-clause-result
returns-in-Remove-clause-result c = subst (λ (p : NfsProcedure). IfOk c.change-in-Remove.result (IsChange c.args.tree.now c.args.call.now p)) (sym c.in-Remove.is) c.change-in-Remove.ensures.result

pub returns-in-Remove-clause-tree : goal.returns-in-Remove-clause-tree
returns-in-Remove-clause-tree c = subst (λ (p : NfsProcedure). OnOk c.change-in-Remove.result (c.change-in-Remove.new.tree ≡ tree_of c.args.tree.now c.args.call.now p)) (sym c.in-Remove.is) c.change-in-Remove.ensures.tree

pub returns-in-Rmdir-clause-result : goal.returns-in-Rmdir-clause-result
returns-in-Rmdir-clause-result c = subst (λ (p : NfsProcedure). IfOk c.change-in-Rmdir.result (IsChange c.args.tree.now c.args.call.now p)) (sym c.in-Rmdir.is) c.change-in-Rmdir.ensures.result

pub returns-in-Rmdir-clause-tree : goal.returns-in-Rmdir-clause-tree
returns-in-Rmdir-clause-tree c = subst (λ (p : NfsProcedure). OnOk c.change-in-Rmdir.result (c.change-in-Rmdir.new.tree ≡ tree_of c.args.tree.now c.args.call.now p)) (sym c.in-Rmdir.is) c.change-in-Rmdir.ensures.tree

pub returns-in-Rename-clause-result : goal.returns-in-Rename-clause-result
returns-in-Rename-clause-result c = subst (λ (p : NfsProcedure). IfOk c.change-in-Rename.result (IsChange c.args.tree.now c.args.call.now p)) (sym c.in-Rename.is) c.change-in-Rename.ensures.result

pub returns-in-Rename-clause-tree : goal.returns-in-Rename-clause-tree
returns-in-Rename-clause-tree c = subst (λ (p : NfsProcedure). OnOk c.change-in-Rename.result (c.change-in-Rename.new.tree ≡ tree_of c.args.tree.now c.args.call.now p)) (sym c.in-Rename.is) c.change-in-Rename.ensures.tree

pub returns-in-Link-clause-result : goal.returns-in-Link-clause-result
returns-in-Link-clause-result c = subst (λ (p : NfsProcedure). IfOk c.change-in-Link.result (IsChange c.args.tree.now c.args.call.now p)) (sym c.in-Link.is) c.change-in-Link.ensures.result

pub returns-in-Link-clause-tree : goal.returns-in-Link-clause-tree
returns-in-Link-clause-tree c = subst (λ (p : NfsProcedure). OnOk c.change-in-Link.result (c.change-in-Link.new.tree ≡ tree_of c.args.tree.now c.args.call.now p)) (sym c.in-Link.is) c.change-in-Link.ensures.tree
