use Rattle.nr_header.specs.Slices.{lists_of_slices}
use Rattle.nr_header.proofs.Written.{lists_put}
use Rattle.nr_header.proofs.writing.put_lists.Goals as goal

pub returns : goal.returns
returns c =
    lists_put (lists_of_slices c.args.lists) c.args.writer.now c.put_read_list.new.writer c.put_write_list.new.writer c.put_reply_chunk.new.writer
    c.in_ok-put_read_list.ensures c.in_ok-put_write_list.ensures c.in_ok-put_reply_chunk.ensures
