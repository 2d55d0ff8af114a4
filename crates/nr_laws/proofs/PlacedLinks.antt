-- Links whose calls are answered over the journal of their moment are answered at places of it, and have replies of the plain server.
use Rattle.std.proofs.Common.{◌≡◌, ℕ, List, [], ◌∷◌, ◌++◌, take, refl, sym, ◌∙◌, append_assoc}
use Rattle.nr_reduce.specs.declared.mark.Entry.{Entry}
use Rattle.nr_reduce.specs.declared.mark.Mark.{Mark}
use Rattle.nr_reduce.specs.declared.mark.Mark.TheVariants as marks
use Rattle.nr_reduce.specs.AtEachMark.{AtEachMark}
use Rattle.nr_reduce.specs.PlainJournal.{PlainServer, journal}
use Rattle.nr_reduce.specs.Journal.{Journaled}
use Rattle.nr_reduce.proofs.Placing.{at_place}
use Rattle.nr_reduce.proofs.SoFarLaws.{AtEachMark_each}
use Rattle.nr_laws.specs.PlainLinks.{server_with, PlainOnMark, AnsweredByPlainServerOn, AtPlaceOnMark, AtPlacesOn, PlainReplyMark, JournaledLinksAreAtPlaces, PlacedLinksHavePlainReplies, PlainLinksHavePlainReplies}
use Rattle.nr_laws.proofs.OnceByXid.{at_mark}

-- what holds at each mark of a run, by what stands before and after it
pub each_is : (P : List Mark → Mark → Type 0) (run before : List Mark) → ((b : List Mark) (m : Mark) (after : List Mark) → before ++ run ≡ b ++ m ∷ after → P b m) → AtEachMark P before run
each_is P [] before h = tt
each_is P (m ∷ run) before h = (h before m run refl, each_is P run (before ++ m ∷ []) (λ b n after is. h b n after (sym (append_assoc before (m ∷ []) run) ∙ is)))

placed_mark : (plain : PlainServer) (J : List Entry) (link : ℕ) (run before : List Mark) (mark : Mark) (after : List Mark) → Journaled plain J run → run ≡ before ++ mark ∷ after → PlainOnMark plain link before mark → AtPlaceOnMark plain J link before mark
placed_mark plain J link run before (marks.Submit l call form answer) after journaled is plain_replies = tt
placed_mark plain J link run before (marks.Wrote l side bytes) after journaled is plain_replies = tt
placed_mark plain J link run before (marks.Fed l side bytes) after journaled is plain_replies = tt
placed_mark plain J link run before (marks.Execute l xid moment payload place reply) after journaled is plain_replies = λ own. at_place plain J run before after l xid moment payload place reply is journaled (plain_replies own)
placed_mark plain J link run before (marks.Done l xid outcome) after journaled is plain_replies = tt
placed_mark plain J link run before (marks.Lost l xid) after journaled is plain_replies = tt
placed_mark plain J link run before (marks.Forget l xid) after journaled is plain_replies = tt
placed_mark plain J link run before (marks.Revoke l xid bytes) after journaled is plain_replies = tt
placed_mark plain J link run before (marks.Drop l) after journaled is plain_replies = tt
placed_mark plain J link run before (marks.Told l what) after journaled is plain_replies = tt

pub at_places_on : (plain : PlainServer) (J : List Entry) (link : ℕ) (run : List Mark) → Journaled plain J run → AnsweredByPlainServerOn plain link run → AtPlacesOn plain J link run
at_places_on plain J link run journaled plain_replies =
    each_is (AtPlaceOnMark plain J link) run [] (λ before mark after is. placed_mark plain J link run before mark after journaled is (at_mark (PlainOnMark plain link) run before mark after is plain_replies))

reply_at_place : (plain : PlainServer) (J : List Entry) (link : ℕ) (before : List Mark) (mark : Mark) → AtPlaceOnMark plain J link before mark → PlainReplyMark plain link before mark
reply_at_place plain J link before (marks.Submit l call form answer) placed = tt
reply_at_place plain J link before (marks.Wrote l side bytes) placed = tt
reply_at_place plain J link before (marks.Fed l side bytes) placed = tt
reply_at_place plain J link before (marks.Execute l xid moment payload place reply) placed = λ own. (take place J, (placed own).replied)
reply_at_place plain J link before (marks.Done l xid outcome) placed = tt
reply_at_place plain J link before (marks.Lost l xid) placed = tt
reply_at_place plain J link before (marks.Forget l xid) placed = tt
reply_at_place plain J link before (marks.Revoke l xid bytes) placed = tt
reply_at_place plain J link before (marks.Drop l) placed = tt
reply_at_place plain J link before (marks.Told l what) placed = tt

reply_by_journal : (plain : PlainServer) (link : ℕ) (before : List Mark) (mark : Mark) → PlainOnMark plain link before mark → PlainReplyMark plain link before mark
reply_by_journal plain link before (marks.Submit l call form answer) plain_replies = tt
reply_by_journal plain link before (marks.Wrote l side bytes) plain_replies = tt
reply_by_journal plain link before (marks.Fed l side bytes) plain_replies = tt
reply_by_journal plain link before (marks.Execute l xid moment payload place reply) plain_replies = λ own. (journal plain before, plain_replies own)
reply_by_journal plain link before (marks.Done l xid outcome) plain_replies = tt
reply_by_journal plain link before (marks.Lost l xid) plain_replies = tt
reply_by_journal plain link before (marks.Forget l xid) plain_replies = tt
reply_by_journal plain link before (marks.Revoke l xid bytes) plain_replies = tt
reply_by_journal plain link before (marks.Drop l) plain_replies = tt
reply_by_journal plain link before (marks.Told l what) plain_replies = tt

pub journaled_links_are_at_places : JournaledLinksAreAtPlaces
journaled_links_are_at_places reply_to adds = at_places_on (server_with reply_to adds)

pub placed_links_have_plain_replies : PlacedLinksHavePlainReplies
placed_links_have_plain_replies reply_to adds J link run placed =
    AtEachMark_each (AtPlaceOnMark (server_with reply_to adds) J link) (PlainReplyMark (server_with reply_to adds) link) [] run (reply_at_place (server_with reply_to adds) J link) placed

pub plain_links_have_plain_replies : PlainLinksHavePlainReplies
plain_links_have_plain_replies reply_to adds link run plain_replies =
    AtEachMark_each (PlainOnMark (server_with reply_to adds) link) (PlainReplyMark (server_with reply_to adds) link) [] run (reply_by_journal (server_with reply_to adds) link) plain_replies
