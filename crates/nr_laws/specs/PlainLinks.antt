-- Links whose calls are answered as a plain server answers.
use Rattle.std.specs.Prelude.{◌≡◌, ℕ, List, [], Option, Some}
use Rattle.nr_outside.specs.declared.moment.Moment.{Moment}
use Rattle.nr_reduce.specs.declared.mark.Entry.{Entry}
use Rattle.nr_reduce.specs.declared.mark.Mark.{Mark}
use Rattle.nr_reduce.specs.declared.mark.Mark.TheVariants as marks
use Rattle.nr_reduce.specs.AtEachMark.{AtEachMark}
use Rattle.nr_reduce.specs.PlainJournal.{PlainServer, journal}
use Rattle.nr_reduce.specs.Journal.{AtPlace, Journaled}

-- the plain server that has this reply, if any, to a payload at a moment over a journal, and adds these entries
abbrev pub server_with : (List Entry → Moment → List ℕ → Option (List ℕ)) → (Moment → List ℕ → List ℕ → List Entry) → PlainServer
server_with reply_to adds = record { Replies = λ entries moment payload reply. reply_to entries moment payload ≡ Some reply; adds = adds }

-- each call of a link is answered as the plain server answers, over the journal of its moment
abbrev pub PlainOnMark : PlainServer → ℕ → List Mark → Mark → Type 0
PlainOnMark plain link before (marks.Execute l xid moment payload place reply) = l ≡ link → plain.Replies (journal plain before) moment payload reply
PlainOnMark plain link before mark = Unit {0}

abbrev pub AnsweredByPlainServerOn : PlainServer → ℕ → List Mark → Type 0
AnsweredByPlainServerOn plain link run = AtEachMark (PlainOnMark plain link) [] run

-- Each call of a link is answered as the plain server answers at the call's place in a journal, and what it adds stands there. So a run that has
-- the marks of one link alone has this property over a journal with the entries of all links.
abbrev pub AtPlaceOnMark : PlainServer → List Entry → ℕ → List Mark → Mark → Type 0
AtPlaceOnMark plain J link before (marks.Execute l xid moment payload place reply) = l ≡ link → AtPlace plain J moment payload place reply
AtPlaceOnMark plain J link before mark = Unit {0}

abbrev pub AtPlacesOn : PlainServer → List Entry → ℕ → List Mark → Type 0
AtPlacesOn plain J link run = AtEachMark (AtPlaceOnMark plain J link) [] run

-- each call of a link has a reply of the plain server to its payload, over some entries
abbrev pub PlainReplyMark : PlainServer → ℕ → List Mark → Mark → Type 0
PlainReplyMark plain link before (marks.Execute l xid moment payload place reply) = l ≡ link → (entries : List Entry) × plain.Replies entries moment payload reply
PlainReplyMark plain link before mark = Unit {0}

abbrev pub HasPlainReplies : PlainServer → ℕ → List Mark → Type 0
HasPlainReplies plain link run = AtEachMark (PlainReplyMark plain link) [] run

-- Calls that are answered over the one journal of a run, each at its moment, are answered at their places in it.
abbrev pub JournaledLinksAreAtPlaces : Type 0
JournaledLinksAreAtPlaces = (reply_to : List Entry → Moment → List ℕ → Option (List ℕ)) (adds : Moment → List ℕ → List ℕ → List Entry) (J : List Entry) (link : ℕ) (run : List Mark) →
    Journaled (server_with reply_to adds) J run → AnsweredByPlainServerOn (server_with reply_to adds) link run → AtPlacesOn (server_with reply_to adds) J link run

-- Calls that are answered at their places in a journal have replies of the plain server,
abbrev pub PlacedLinksHavePlainReplies : Type 0
PlacedLinksHavePlainReplies = (reply_to : List Entry → Moment → List ℕ → Option (List ℕ)) (adds : Moment → List ℕ → List ℕ → List Entry) (J : List Entry) (link : ℕ) (run : List Mark) →
    AtPlacesOn (server_with reply_to adds) J link run → HasPlainReplies (server_with reply_to adds) link run

-- and so have calls that are answered over the journal of their moment.
abbrev pub PlainLinksHavePlainReplies : Type 0
PlainLinksHavePlainReplies = (reply_to : List Entry → Moment → List ℕ → Option (List ℕ)) (adds : Moment → List ℕ → List ℕ → List Entry) (link : ℕ) (run : List Mark) →
    AnsweredByPlainServerOn (server_with reply_to adds) link run → HasPlainReplies (server_with reply_to adds) link run
