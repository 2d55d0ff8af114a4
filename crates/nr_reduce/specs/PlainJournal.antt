-- A plain RPC server, one call after another, and the one journal of all links.
use Rattle.std.specs.Prelude.{ℕ, List, []}
use Rattle.std.specs.List.{flat_map}
use Rattle.nr_outside.specs.declared.moment.Moment.{Moment}
use Rattle.nr_reduce.specs.declared.mark.Mark.{Mark}
use Rattle.nr_reduce.specs.declared.mark.Entry.{Entry}
use Rattle.nr_reduce.specs.declared.mark.Mark.TheVariants as marks

-- A plain RPC server, one call after another: which reply it may give to a payload at a moment, over a journal, and what
-- the journal gets by that.
pub record PlainServer : Type 1 where
  pub Replies : List Entry → Moment → List ℕ → List ℕ → Type 0
  pub adds : Moment → List ℕ → List ℕ → List Entry

-- the entries that a mark adds, whatever its link, and those of all marks in order
abbrev pub entries_added : PlainServer → Mark → List Entry
entries_added plain (marks.Execute l xid moment payload place reply) = plain.adds moment payload reply
entries_added plain mark = []

unfoldable pub journal : PlainServer → List Mark → List Entry
journal plain run = flat_map (entries_added plain) run

-- the plain servers that add these entries, whatever they reply
abbrev pub any_that_adds : (Moment → List ℕ → List ℕ → List Entry) → PlainServer
any_that_adds adds = record { Replies = λ entries moment payload reply. Unit {0}; adds = adds }
