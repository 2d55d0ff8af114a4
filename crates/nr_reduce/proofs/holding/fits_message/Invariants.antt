use Rattle.std.proofs.Common.{◌≡◌, ◌+◌, take}
use Rattle.nr_header.specs.Constants.{HEADER_LEN_MIN}
use Rattle.nr_header.specs.Length.{write_list_len}
use Rattle.nr_reduce.proofs.holding.fits_message.Given as goal

abbrev pub invariant-loop-chunk : goal.invariant-loop-chunk
invariant-loop-chunk l = l.need ≡ HEADER_LEN_MIN + l.len + write_list_len (take l.chunk-index l.chunks)
