use Rattle.nr_nfs_base.specs.Attributes.{attributes_codec}
use Rattle.nr_nfs_base.specs.Codec.{optional}
use Rattle.nr_ops_list.specs.private.Sizes.{are_within}
use Rattle.nr_ops_list.proofs.Rooms.{listing_reply, refused_reply}
use Rattle.nr_ops_list.proofs.Written.{done_written, failed_written, written_value}
use Rattle.nr_ops_list.proofs.readdirs.write_results.Goals as goal

pub returns-in_ok-writer-in-Ok : goal.returns-in_ok-writer-in-Ok
returns-in_ok-writer-in-Ok g c =
    done_written g.E.Xdr.codec c.args.writer c.in_ok-writer-in-Ok.writer _ c.write_listing.result _
    (listing_reply c.args.tree.now c.args.caller.now c.args.request.now.dir.now c.args.request.now.cookie c.args.request.now.verifier (are_within c.args.tree.now c.args.request.now.limits) (g.E.Listed.said c.args.tree.now)
    c.attributes_at-dir_attributes.result c.in-Ok.range.dir.now.list c.in-Ok.range.start c.in-Ok.range.end c.attributes_at-dir_attributes.ensures c.in-Ok.ensures.0 c.in-Ok.ensures.2)
    c.in_ok-writer-in-Ok.ensures.appended c.write_listing.ensures

pub returns-in_ok-writer-in-Err : goal.returns-in_ok-writer-in-Err
returns-in_ok-writer-in-Err g c =
    failed_written g.E.Xdr.codec c.args.writer c.in_ok-writer-in-Err.writer _ c.write_to.result c.in-Err.status _
    (refused_reply c.args.tree.now c.args.caller.now c.args.request.now.dir.now c.args.request.now.cookie c.args.request.now.verifier (are_within c.args.tree.now c.args.request.now.limits) (g.E.Listed.said c.args.tree.now)
    c.attributes_at-dir_attributes.result c.in-Err.status c.attributes_at-dir_attributes.ensures c.in-Err.ensures)
    c.in_ok-writer-in-Err.ensures.appended (written_value (optional attributes_codec) c.in_ok-writer-in-Err.writer c.attributes_at-dir_attributes.result c.write_to.result c.write_to.ensures.exact)
