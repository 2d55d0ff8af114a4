use Rattle.std.proofs.Common.{◌++◌, []}
use Rattle.nr_xdr.specs.Items.{encodings}
use Rattle.nr_header.specs.Header.{write_items}
use Rattle.nr_header.proofs.Written.{chunk_goes}
use Rattle.nr_header.proofs.writing.put_write_list.Goals as goal

pub loop-chunk-preserved : goal.loop-chunk-preserved
loop-chunk-preserved c =
    let put = rw c.as_slice.ensures at c.in_ok-put_chunk.ensures in
    chunk_goes c.args.write.now c.loop-chunk.chunk-index c.chunk-item.result (c.args.writer.now ++ encodings (write_items c.args.write.now [])) c.loop-chunk.writer c.put_chunk.new.writer
    c.loop-chunk-test.true c.chunk-item.is c.loop-chunk.invariant put
