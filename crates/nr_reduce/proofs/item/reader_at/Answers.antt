use Rattle.nr_reduce.proofs.Places.{reader_there}
use Rattle.nr_reduce.proofs.item.reader_at.Goals as goal

pub returns : goal.returns
returns c =
    let gives = rw c.new-reader.ensures at c.fixed.ensures.exact in
    reader_there _ c.fixed.result c.args.place c.args.payload.now c.fixed.new.self c.requires.inside c.requires.words gives
