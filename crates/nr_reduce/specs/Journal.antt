-- The one journal of all links: the place at which each call was executed, and what stands there.
use Rattle.std.specs.Prelude.{◌≡◌, ℕ, ◌≤◌, List, [], length, take, drop}
use Rattle.nr_outside.specs.declared.moment.Moment.{Moment}
use Rattle.nr_reduce.specs.declared.mark.Mark.{Mark}
use Rattle.nr_reduce.specs.declared.mark.Mark.TheVariants as marks
use Rattle.nr_reduce.specs.declared.mark.Entry.{Entry}
use Rattle.nr_reduce.specs.PlainJournal.{PlainServer, journal}
use Rattle.nr_reduce.specs.AtEachMark.{AtEachMark}

-- A call is answered as the plain server answers over the first `place` entries of a journal, and what it adds follows them.
pub record AtPlace (plain : PlainServer) (J : List Entry) (moment : Moment) (payload : List ℕ) (place : ℕ) (reply : List ℕ) : Type 0 where
  pub within : place ≤ length J
  pub replied : plain.Replies (take place J) moment payload reply
  pub entry : take (length (plain.adds moment payload reply)) (drop place J) ≡ plain.adds moment payload reply

abbrev pub AtPlaceMark : PlainServer → List Entry → List Mark → Mark → Type 0
AtPlaceMark plain J before (marks.Execute l xid moment payload place reply) = AtPlace plain J moment payload place reply
AtPlaceMark plain J before mark = Unit {0}

-- each executed call has its place in the journal
abbrev pub AtPlaces : PlainServer → List Entry → List Mark → Type 0
AtPlaces plain J run = AtEachMark (AtPlaceMark plain J) [] run

-- the journal is what the marks added, and each place is the number of entries before it
abbrev pub PlacedMark : PlainServer → List Mark → Mark → Type 0
PlacedMark plain before (marks.Execute l xid moment payload place reply) = place ≡ length (journal plain before)
PlacedMark plain before mark = Unit {0}

pub record Journaled (plain : PlainServer) (J : List Entry) (run : List Mark) : Type 0 where
  pub is : journal plain run ≡ J
  pub places : AtEachMark (PlacedMark plain) [] run

-- each call is answered as the plain server answers over the journal of its moment
abbrev pub PlainMark : PlainServer → List Mark → Mark → Type 0
PlainMark plain before (marks.Execute l xid moment payload place reply) = plain.Replies (journal plain before) moment payload reply
PlainMark plain before mark = Unit {0}

abbrev pub AnsweredByPlainServer : PlainServer → List Mark → Type 0
AnsweredByPlainServer plain run = AtEachMark (PlainMark plain) [] run
