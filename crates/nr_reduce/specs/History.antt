-- What the marks of a run say of one link: the bytes that a side sent and received, and the calls that were accepted, executed
-- and completed, in order.
use Rattle.std.specs.Prelude.{ℕ, Bool, true, false, ◌==◌, ◌&&◌, if◌then◌else◌, List, [], ◌∷◌}
use Rattle.std.specs.List.{flat_map, list_any}
use Rattle.nr_wire.specs.declared.hello.Side.{Side}
use Rattle.nr_wire.specs.declared.hello.Side.TheVariants.{Initiator, Responder}
use Rattle.nr_reduce.specs.declared.call.Call.{Call}
use Rattle.nr_reduce.specs.declared.call.Form.{Form}
use Rattle.nr_reduce.specs.declared.call.Outcome.{Outcome}
use Rattle.nr_reduce.specs.declared.call.Submission.{Submission}
use Rattle.nr_reduce.specs.declared.call.Submission.TheVariants as submissions
use Rattle.nr_outside.specs.declared.moment.Moment.{Moment}
use Rattle.nr_reduce.specs.declared.mark.Mark.{Mark}
use Rattle.nr_reduce.specs.declared.mark.Mark.TheVariants as marks

abbrev pub same_side : Side → Side → Bool
same_side Initiator Initiator = true
same_side Responder Responder = true
same_side Initiator Responder = false
same_side Responder Initiator = false

-- the bytes that a side of a link wrote at a mark, and those that it was fed
abbrev pub written_at : ℕ → Side → Mark → List ℕ
written_at link side (marks.Wrote l s bytes) = if l == link && same_side s side then bytes else []
written_at link side mark = []

abbrev pub fed_at : ℕ → Side → Mark → List ℕ
fed_at link side (marks.Fed l s bytes) = if l == link && same_side s side then bytes else []
fed_at link side mark = []

-- all bytes that a side sent, and all that it received
unfoldable pub bytes_sent : ℕ → Side → List Mark → List ℕ
bytes_sent link side run = flat_map (written_at link side) run

unfoldable pub bytes_received : ℕ → Side → List Mark → List ℕ
bytes_received link side run = flat_map (fed_at link side) run

-- a call that the client accepted, with its xid
pub record AcceptedCall : Type 0 where
  pub xid : ℕ
  pub call : Call
  pub form : Form

abbrev pub accepted_as : Submission → Call → Form → List AcceptedCall
accepted_as (submissions.Accepted xid) call form = record { xid = xid; call = call; form = form } ∷ []
accepted_as (submissions.Refused why) call form = []
accepted_as submissions.Dropped call form = []

abbrev pub accepted_at : ℕ → Mark → List AcceptedCall
accepted_at link (marks.Submit l call form answer) = if l == link then accepted_as answer call form else []
accepted_at link mark = []

unfoldable pub accepted_calls : ℕ → List Mark → List AcceptedCall
accepted_calls link run = flat_map (accepted_at link) run

-- a call that the server executed, with its place in the journal and its reply
pub record ExecutedCall : Type 0 where
  pub xid : ℕ
  pub moment : Moment
  pub payload : List ℕ
  pub place : ℕ
  pub reply : List ℕ

abbrev pub executed_at : ℕ → Mark → List ExecutedCall
executed_at link (marks.Execute l xid moment payload place reply) =
    if l == link then record { xid = xid; moment = moment; payload = payload; place = place; reply = reply } ∷ [] else []
executed_at link mark = []

unfoldable pub executed_calls : ℕ → List Mark → List ExecutedCall
executed_calls link run = flat_map (executed_at link) run

-- a call whose outcome was handed to its caller
pub record CompletedCall : Type 0 where
  pub xid : ℕ
  pub outcome : Outcome

abbrev pub completed_at : ℕ → Mark → List CompletedCall
completed_at link (marks.Done l xid outcome) = if l == link then record { xid = xid; outcome = outcome } ∷ [] else []
completed_at link mark = []

unfoldable pub completed_calls : ℕ → List Mark → List CompletedCall
completed_calls link run = flat_map (completed_at link) run

-- whether the link was dropped
abbrev pub is_drop_of : ℕ → Mark → Bool
is_drop_of link (marks.Drop l) = l == link
is_drop_of link mark = false

abbrev pub is_dropped : ℕ → List Mark → Bool
is_dropped link run = list_any (is_drop_of link) run

-- Whether a call was given up before its outcome was handed over: its caller forgot it, revoked its memory, or got a report that
-- the link ended.
abbrev pub abandons : ℕ → ℕ → Mark → Bool
abandons link xid (marks.Forget l x) = l == link && x == xid
abandons link xid (marks.Revoke l x bytes) = l == link && x == xid
abandons link xid (marks.Lost l x) = l == link && x == xid
abandons link xid mark = false

abbrev pub is_abandoned : ℕ → ℕ → List Mark → Bool
is_abandoned link xid run = list_any (abandons link xid) run
