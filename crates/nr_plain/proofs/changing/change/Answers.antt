use Rattle.std.proofs.Common.{◌≡◌, IfOk, OnOk}
use Rattle.nr_nfs_res.specs.Results.{nfs_result}
use Rattle.nr_plain.specs.private.Code.{IsChangeWith, tree_with}
use Rattle.nr_plain.specs.Programs.{is_done}
use Rattle.nr_plain.proofs.Calls.{read_as}
use Rattle.nr_plain.proofs.changing.change.Goals as goal

pub returns-in-Some-clause-result : goal.returns-in-Some-clause-result
returns-in-Some-clause-result g c =
    read_as g.A.Xdr.codec c.args.call.now.arguments.now c.in_ok-arguments.field-0 _ c.in_ok-arguments.ensures c.in-Some.is
    (λ r. IfOk c.change_in.result (IsChangeWith c.args.call.now.xid (nfs_result g.A.Done.Xdr.codec g.A.Failed.Xdr.codec) is_done (g.A.Changing.results c.args.tree.now c.args.call.now.caller.now c.args.call.now.space c.args.call.now.time) r))
    c.change_in.ensures.result

pub returns-in-Some-clause-tree : goal.returns-in-Some-clause-tree
returns-in-Some-clause-tree g c =
    read_as g.A.Xdr.codec c.args.call.now.arguments.now c.in_ok-arguments.field-0 _ c.in_ok-arguments.ensures c.in-Some.is
    (λ r. OnOk c.change_in.result (c.change_in.new.tree ≡ tree_with c.args.tree.now (g.A.Changing.changed c.args.tree.now c.args.call.now.caller.now c.args.call.now.space c.args.call.now.time) r))
    c.change_in.ensures.tree
