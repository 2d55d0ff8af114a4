use Rattle.std.proofs.Common.{refl, length}
use Rattle.nr_regions.proofs.Contents.{contents_are}
use Rattle.nr_regions.proofs.Streams.{same_contents}
use Rattle.nr_regions.proofs.laws.contents_while_open.Goals as goal

pub returns-clause-contents : goal.returns-clause-contents
returns-clause-contents c = λ grants m stag right buf events given there stays.
    contents_are grants stag right (length buf) events m buf refl given there stays

pub returns-clause-any_end : goal.returns-clause-any_end
returns-clause-any_end c = same_contents
