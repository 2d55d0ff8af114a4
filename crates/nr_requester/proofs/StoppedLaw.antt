-- A requester that ran out of memory, on a link that may be one that was reopened: what it knows and holds, and the law of its client.
use Rattle.std.proofs.Common.{◌≡◌, ℕ, true, List, [], ◌++◌, map, take, drop, Some, sym, subst, take-append-drop}
use Rattle.nr_wire.specs.declared.hello.Side.TheVariants.{Initiator}
use Rattle.nr_reduce.specs.declared.mark.Mark.{Mark}
use Rattle.nr_reduce.specs.declared.mark.Mark.TheVariants as marks
use Rattle.nr_reduce.specs.Asked.{AskedMark, IsRevoked, as_accepted}
use Rattle.nr_reduce.specs.Credits.{WithinGrant}
use Rattle.nr_reduce.specs.Matched.{IsPrefixOf}
use Rattle.nr_reduce.specs.Standing.{ClientRunsOut}
use Rattle.nr_reduce.proofs.Standing.{AtEachMark_more, client_queue_lem}
use Rattle.nr_requester.specs.RequesterState.{input_kept, kept_client, queue_of}
use Rattle.nr_requester.specs.Buffers.{bytes_of_buffers}
use Rattle.nr_requester.specs.OpenCalls.{buffers_of}
use Rattle.nr_requester.specs.ReopenedLinks.{own_side}
use Rattle.nr_requester.specs.StoppedLinks.{PieceStaysStopped, MemoryStopped, CountsStopped, AgreesStopped, FirstStopped, OpenStopped, AwaitedStopped, DrainStoppedLaw, RevokeStoppedLaw, ForgetStoppedLaw, DoneStoppedLaw}
use Rattle.nr_requester.proofs.FirstDue.{due_first}
use Rattle.nr_requester.proofs.KeptLaw.{awaited_own, own_awaited, own_done}
use Rattle.nr_requester.proofs.OpenTickets.{forget_keeps, have_due}
use Rattle.nr_requester.proofs.RevokedBytes.{buffers_stopped}
use Rattle.nr_requester.proofs.RunOut.{agrees_by, counts_by, memory_by, stays_by}

-- ---- What it knows and holds

pub piece_stays_stopped : PieceStaysStopped
piece_stays_stopped is_own earlier opened link h stopped run s piece none = stays_by opened link h stopped run piece s.out none

pub memory_stopped : MemoryStopped
memory_stopped is_own earlier opened link h stopped run s = memory_by opened link h stopped run s.out

pub counts_stopped : CountsStopped
counts_stopped is_own earlier opened link h stopped run s = counts_by opened link h stopped run s.out

pub agrees_stopped : AgreesStopped
agrees_stopped is_own earlier opened link h stopped run s = agrees_by opened link h stopped run s.out s.written s.same

pub first_stopped : FirstStopped
first_stopped is_own earlier opened link h stopped run s = due_first (map as_accepted opened.resumed) opened link (own_side is_own h) run s.answers

-- ---- The law of its client

pub open_stopped : OpenStopped
open_stopped is_own earlier opened link h stopped run s xid own is_open = own_awaited is_own opened link h run s.answers xid own is_open

pub awaited_stopped : AwaitedStopped
awaited_stopped is_own earlier opened link h stopped run s xid own awaited = awaited_own is_own opened link h run s.answers xid own awaited

pub drain_stopped_law : DrainStoppedLaw
drain_stopped_law is_own earlier opened link h stopped run s n asked grant =
    let queue : List ℕ = queue_of h.state in
    let mark : Mark = marks.Wrote link Initiator (take n queue) in
    let parts : ClientRunsOut opened link (kept_client h.state) (take n queue ++ drop n queue) stopped run =
    subst (λ (q : List ℕ). ClientRunsOut opened link (kept_client h.state) q stopped run) (sym (take-append-drop n queue)) s.out in (
      AtEachMark_more (AskedMark IsPrefixOf opened link) [] run mark asked (λ same. (client_queue_lem opened link (kept_client h.state) (input_kept h) (take n queue) (drop n queue) stopped run).1 parts),
      AtEachMark_more (WithinGrant opened link) [] run mark grant tt,
    )

pub revoke_stopped_law : RevokeStoppedLaw
revoke_stopped_law is_own earlier opened link h stopped run s xid own left awaited asked grant =
    let bytes : List ℕ = bytes_of_buffers (buffers_of xid h.state) in
    let mark : Mark = marks.Revoke link xid bytes in
    let is : IsRevoked opened link run xid bytes = record { awaited = awaited; bytes_are = buffers_stopped is_own earlier opened link h stopped run s xid own left } in
    (AtEachMark_more (AskedMark IsPrefixOf opened link) [] run mark asked (λ same. is), AtEachMark_more (WithinGrant opened link) [] run mark grant tt)

pub forget_stopped_law : ForgetStoppedLaw
forget_stopped_law is_own earlier opened link h stopped run s xid own is_open asked grant = forget_keeps opened link run xid (own_awaited is_own opened link h run s.answers xid own is_open) asked grant

pub done_stopped_law : DoneStoppedLaw
done_stopped_law is_own earlier opened link h stopped run s xid a own answer asked grant =
    own_done is_own opened link h run xid a (have_due (map as_accepted opened.resumed) opened link (own_side is_own h) run s.answers) own answer asked grant
