use Rattle.std.proofs.Common.{subst, Option}
use Rattle.nr_nfs_base.specs.declared.attributes.Attributes.{Attributes}
use Rattle.nr_nfs_base.specs.declared.status.Status.{Status}
use Rattle.nr_nfs_base.specs.declared.status_union.StatusUnion.{StatusUnion}
use Rattle.nr_nfs_res.specs.Readdir.{ReaddirplusOk}
use Rattle.nr_nfs_res.specs.Results.{readdirplus_res_codec}
use Rattle.nr_ops_list.proofs.Rooms.{readdirplus_reply_is}
use Rattle.nr_ops_list.proofs.Written.{Writes}
use Rattle.nr_ops_list.proofs.readdirs.readdirplus.Goals as goal

pub returns : goal.returns
returns c =
    subst (λ (x : StatusUnion ReaddirplusOk (Option Attributes) Status). Writes c.args.writer (readdirplus_res_codec.items x) c.write_results.result)
    (readdirplus_reply_is c.args.tree.now c.args.caller.now c.args.args.now c.limits_of.result c.as_slice.result.now c.as_slice.ensures.value c.limits_of.ensures) c.write_results.ensures
