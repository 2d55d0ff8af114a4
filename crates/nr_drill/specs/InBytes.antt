-- That the replies of a run are bytes, and so are the payloads that are executed.
use Rattle.std.specs.Prelude.{List, []}
use Rattle.nr_xdr.specs.Item.{IsBytes}
use Rattle.nr_reduce.specs.declared.mark.Mark.{Mark}
use Rattle.nr_reduce.specs.declared.mark.Mark.TheVariants as marks
use Rattle.nr_reduce.specs.AtEachMark.{AtEachMark}

-- Each reply with which a call of a run is executed is bytes: a reply that a program makes is always so.
abbrev pub RepliedMark : List Mark → Mark → Type 0
RepliedMark before (marks.Execute l xid moment payload place reply) = IsBytes reply
RepliedMark before mark = Unit {0}

abbrev pub RepliedInBytes : List Mark → Type 0
RepliedInBytes run = AtEachMark RepliedMark [] run

-- each payload of a call that is executed is bytes
abbrev pub ExecutedMark : List Mark → Mark → Type 0
ExecutedMark before (marks.Execute l xid moment payload place reply) = IsBytes payload
ExecutedMark before mark = Unit {0}

abbrev pub ExecutedInBytes : List Mark → Type 0
ExecutedInBytes run = AtEachMark ExecutedMark [] run
