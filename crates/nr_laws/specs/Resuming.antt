-- The calls that a client sends again are planned within the lengths that an earlier hello agreed on. Of a link that was opened in range they are,
-- and a link that wasn't reopened has none.
use Rattle.std.specs.List.{AllByRecursion}
use Rattle.nr_reduce.specs.declared.mark.LinkParameters.{LinkParameters}
use Rattle.nr_reduce.specs.Opening.{IsResumed, lengths_before}

abbrev pub ResumesArePlanned : LinkParameters → Type 0
ResumesArePlanned opened = AllByRecursion (IsResumed (lengths_before opened.agreed)) opened.resumed
