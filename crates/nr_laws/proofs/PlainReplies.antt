-- A reply that is handed over is the plain server's.
use Rattle.std.proofs.Common.{ℕ, List, refl}
use Rattle.nr_reduce.specs.declared.call.Outcome.TheVariants as outcomes
use Rattle.nr_reduce.specs.declared.mark.Entry.{Entry}
use Rattle.nr_reduce.specs.declared.mark.Mark.{Mark}
use Rattle.nr_reduce.specs.declared.mark.Mark.TheVariants as marks
use Rattle.nr_reduce.specs.declared.mark.LinkParameters.{LinkParameters}
use Rattle.nr_reduce.specs.declared.outline.Plan.{Plan}
use Rattle.nr_reduce.specs.PlainJournal.{PlainServer}
use Rattle.nr_laws.specs.MarkAt.{MarkAt}
use Rattle.nr_laws.specs.MatchedSoFar.{MatchedSoFar}
use Rattle.nr_laws.specs.Typed.{IsTyped}
use Rattle.nr_laws.specs.Payloads.{HasPlan}
use Rattle.nr_laws.specs.PlainReplies.{HasPlainReply, RepliesArePlain, RepliesArePlainAtPlaces}
use Rattle.nr_laws.specs.PlainLinks.{server_with, AtPlaceOnMark, AtPlacesOn}
use Rattle.nr_laws.proofs.LaterMarks.{mark_later}
use Rattle.nr_laws.proofs.OnceByXid.{at_mark}
use Rattle.nr_laws.proofs.PlacedLinks.{at_places_on}
use Rattle.nr_laws.proofs.OwnReplies.{executed_replies_are_handed_over}

-- of any plain server, which may have several replies to choose from
pub any_replies_are_plain : (plain : PlainServer) (J : List Entry) (opened : LinkParameters) (link : ℕ) (run before : List Mark) (xid : ℕ) (plan : Plan) (reply : List ℕ) → IsTyped run → MatchedSoFar opened link run
    → AtPlacesOn plain J link run → (has : HasPlan opened link run xid plan) → MarkAt run before (marks.Done link xid (outcomes.Reply reply)) → HasPlainReply plain J link before xid has.call has.form reply
any_replies_are_plain plain J opened link run before xid plan reply typed far placed has at =
    let own = executed_replies_are_handed_over opened link run before xid plan reply typed far has at in
    let execute : Mark = marks.Execute link xid own.moment own.payload own.place reply in
    let there = mark_later run before (marks.Done link xid (outcomes.Reply reply)) at.after own.before execute at.is own.at in
    record {
      own = own;
      plain_replies = at_mark (AtPlaceOnMark plain J link) run own.before execute there.after there.is placed refl;
    }

pub replies_are_plain_at_places : RepliesArePlainAtPlaces
replies_are_plain_at_places reply_to adds = any_replies_are_plain (server_with reply_to adds)

pub replies_are_plain : RepliesArePlain
replies_are_plain reply_to adds J opened link run before xid plan reply typed far journaled plain_replies =
    any_replies_are_plain (server_with reply_to adds) J opened link run before xid plan reply typed far (at_places_on (server_with reply_to adds) J link run journaled plain_replies)
