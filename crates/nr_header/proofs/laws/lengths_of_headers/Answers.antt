use Rattle.nr_header.proofs.Lengths.{lists_length, versions_length, chunk_error_length}
use Rattle.nr_header.proofs.laws.lengths_of_headers.Goals as goal

pub returns-clause-lists : goal.returns-clause-lists
returns-clause-lists c = lists_length

pub returns-clause-versions : goal.returns-clause-versions
returns-clause-versions c = versions_length

pub returns-clause-chunk : goal.returns-clause-chunk
returns-clause-chunk c = chunk_error_length
