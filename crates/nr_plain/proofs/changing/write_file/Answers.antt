use Rattle.std.proofs.Common.{◌≡◌, IfOk, OnOk}
use Rattle.nr_nfs_args.specs.Bytes.{write_args_codec}
use Rattle.nr_nfs_res.specs.Results.{write_res_codec}
use Rattle.nr_ops_file.specs.Bytes.{write_tree, write_reply}
use Rattle.nr_plain.specs.private.Code.{IsChangeWith, tree_with}
use Rattle.nr_plain.specs.Programs.{is_done}
use Rattle.nr_plain.proofs.Calls.{read_as}
use Rattle.nr_plain.proofs.changing.write_file.Goals as goal

pub returns-in-Some-clause-result : goal.returns-in-Some-clause-result
returns-in-Some-clause-result c =
    read_as write_args_codec c.args.call.now.arguments.now c.in_ok-arguments.field-0 _ c.in_ok-arguments.ensures c.in-Some.is
    (λ r. IfOk c.write_of.result (IsChangeWith c.args.call.now.xid write_res_codec is_done (write_reply c.args.tree.now c.args.call.now.caller.now c.args.call.now.space c.args.call.now.time) r))
    c.write_of.ensures.result

pub returns-in-Some-clause-tree : goal.returns-in-Some-clause-tree
returns-in-Some-clause-tree c =
    read_as write_args_codec c.args.call.now.arguments.now c.in_ok-arguments.field-0 _ c.in_ok-arguments.ensures c.in-Some.is
    (λ r. OnOk c.write_of.result (c.write_of.new.tree ≡ tree_with c.args.tree.now (write_tree c.args.tree.now c.args.call.now.caller.now c.args.call.now.space c.args.call.now.time) r))
    c.write_of.ensures.tree
