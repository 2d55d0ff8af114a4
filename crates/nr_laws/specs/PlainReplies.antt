-- A completed call gives its caller the plain server's reply, at the call's place in the one journal.
use Rattle.std.specs.Prelude.{ℕ, List, Option}
use Rattle.nr_reduce.specs.declared.call.Call.{Call}
use Rattle.nr_reduce.specs.declared.call.Form.{Form}
use Rattle.nr_reduce.specs.declared.call.Outcome.TheVariants as outcomes
use Rattle.nr_outside.specs.declared.moment.Moment.{Moment}
use Rattle.nr_reduce.specs.declared.mark.Entry.{Entry}
use Rattle.nr_reduce.specs.declared.mark.Mark.{Mark}
use Rattle.nr_reduce.specs.declared.mark.Mark.TheVariants as marks
use Rattle.nr_reduce.specs.declared.mark.LinkParameters.{LinkParameters}
use Rattle.nr_reduce.specs.declared.outline.Plan.{Plan}
use Rattle.nr_reduce.specs.PlainJournal.{PlainServer}
use Rattle.nr_reduce.specs.Journal.{AtPlace, Journaled}
use Rattle.nr_laws.specs.MarkAt.{MarkAt}
use Rattle.nr_laws.specs.MatchedSoFar.{MatchedSoFar}
use Rattle.nr_laws.specs.Typed.{IsTyped}
use Rattle.nr_laws.specs.Payloads.{HasPlan}
use Rattle.nr_laws.specs.HandedOver.{HasReply}
use Rattle.nr_laws.specs.PlainLinks.{server_with, AnsweredByPlainServerOn, AtPlacesOn}

-- The call was executed under this xid on the link, with what its form conveys of its own payload, and these bytes are what the server replies to
-- that over the first entries of the journal, the number that its place gives; what the call adds follows them.
pub record HasPlainReply (plain : PlainServer) (J : List Entry) (link : ℕ) (run : List Mark) (xid : ℕ) (call : Call) (form : Form) (reply : List ℕ) : Type 0 where
  pub own : HasReply link run xid call form reply
  pub plain_replies : AtPlace plain J own.moment own.payload own.place reply

-- On a matched link whose calls are answered as the plain server answers, each at its place in a journal, each reply that is handed over is such a
-- reply: whatever the run's marks of other links are. It holds of any plain server, by a lemma in `proofs/`. A clause can't quantify over records of
-- relations, so here a server has at most one reply to a payload at a moment over a journal.
abbrev pub RepliesArePlainAtPlaces : Type 0
RepliesArePlainAtPlaces = (reply_to : List Entry → Moment → List ℕ → Option (List ℕ)) (adds : Moment → List ℕ → List ℕ → List Entry) (J : List Entry)
    (opened : LinkParameters) (link : ℕ) (run before : List Mark) (xid : ℕ) (plan : Plan) (reply : List ℕ) →
    IsTyped run → MatchedSoFar opened link run → AtPlacesOn (server_with reply_to adds) J link run →
    (has : HasPlan opened link run xid plan) →
    MarkAt run before (marks.Done link xid (outcomes.Reply reply)) → HasPlainReply (server_with reply_to adds) J link before xid has.call has.form reply

-- So it is if each is answered over the journal of its moment, and the journal is what the run's Executes of all links add.
abbrev pub RepliesArePlain : Type 0
RepliesArePlain = (reply_to : List Entry → Moment → List ℕ → Option (List ℕ)) (adds : Moment → List ℕ → List ℕ → List Entry) (J : List Entry)
    (opened : LinkParameters) (link : ℕ) (run before : List Mark) (xid : ℕ) (plan : Plan) (reply : List ℕ) →
    IsTyped run → MatchedSoFar opened link run → Journaled (server_with reply_to adds) J run → AnsweredByPlainServerOn (server_with reply_to adds) link run →
    (has : HasPlan opened link run xid plan) →
    MarkAt run before (marks.Done link xid (outcomes.Reply reply)) → HasPlainReply (server_with reply_to adds) J link before xid has.call has.form reply
