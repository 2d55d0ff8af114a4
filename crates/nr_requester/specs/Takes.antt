-- What a ticket is answered, and of what mark its requester stands then.
use Rattle.std.specs.Prelude.{◌≡◌, ℕ, ◌<◌, None, Some}
use Rattle.nr_link.specs.declared.end.End.{End}
use Rattle.nr_reduce.specs.declared.mark.Mark.TheVariants as marks
use Rattle.nr_requester.specs.declared.taking.Take.{Take}
use Rattle.nr_requester.specs.declared.taking.Take.TheVariants as takes
use Rattle.nr_requester.specs.RequesterState.{RequesterSide}
use Rattle.nr_requester.specs.AfterCalls.{after_revoke, after_forget}
use Rattle.nr_requester.specs.Buffers.{bytes_of_buffers}
use Rattle.nr_requester.specs.OpenCalls.{found_answer, open_call, buffers_of, KeepsTickets, ClosesTicket}
use Rattle.nr_requester.specs.Standing.{StandsOn, StaysOut, StopsRevoked}
use Rattle.nr_requester.specs.ReopenedLinks.{KeepsOn, StopsOn, StopsOnRevoke}

-- Done if and only if a message brought an outcome: the call, its buffers and the outcome go to the owner. Else Failed if and only if the link has
-- ended: the call goes back with its buffers, and its regions are released. Else NotYet, and nothing changes.
abbrev pub IsTaken : RequesterSide → ℕ → Take → RequesterSide → Type 0
IsTaken before xid (takes.Done done) after =
    (found_answer xid before.state ≡ Some (record { xid = xid; call = done.call; buffers = done.buffers; outcome = done.outcome })) × ((open_call xid before.state ≡ Some done.call) × (after ≡ after_forget before xid))
IsTaken before xid (takes.NotYet ticket) after = (ticket ≡ xid) × ((found_answer xid before.state ≡ None) × ((before.state.side.ended ≡ None) × (after ≡ before)))
IsTaken before xid (takes.Failed call buffers end) after =
    (found_answer xid before.state ≡ None)
    × ((before.state.side.ended ≡ Some end) × ((open_call xid before.state ≡ Some call) × ((buffers ≡ buffers_of xid before.state) × (after ≡ after_revoke before xid))))

-- Its ticket is closed, unless it is given back; all others are as they were.
abbrev pub TakeCloses : RequesterSide → ℕ → Take → RequesterSide → Type 0
TakeCloses before xid (takes.Done done) after = ClosesTicket xid before.state after.state
TakeCloses before xid (takes.NotYet ticket) after = KeepsTickets before.state after.state
TakeCloses before xid (takes.Failed call buffers end) after = ClosesTicket xid before.state after.state

-- It stands on by a Done of the outcome, or by a Lost; and one that ran out of memory, whose client didn't end, by a Revoke.
abbrev pub TakeStands : RequesterSide → ℕ → Take → RequesterSide → Type 0
TakeStands before xid (takes.Done done) after = StandsOn before (λ link. marks.Done link xid done.outcome) after × StaysOut before (λ link. marks.Done link xid done.outcome) after
TakeStands before xid (takes.NotYet ticket) after = Unit {0}
TakeStands before xid (takes.Failed call buffers end) after = StandsOn before (λ link. marks.Lost link xid) after × StopsRevoked before xid (bytes_of_buffers buffers) after

-- The same of a requester of a link that may be one that was reopened.
abbrev pub TakeKeeps : RequesterSide → ℕ → Take → RequesterSide → Type 0
TakeKeeps before xid (takes.Done done) after = KeepsOn before (λ link. marks.Done link xid done.outcome) after
TakeKeeps before xid (takes.NotYet ticket) after = Unit {0}
TakeKeeps before xid (takes.Failed call buffers end) after = KeepsOn before (λ link. marks.Lost link xid) after

-- And of one that ran out of memory on such a link: its client didn't end, so a call that comes back is revoked.
abbrev pub TakeStops : RequesterSide → ℕ → Take → RequesterSide → Type 0
TakeStops before xid (takes.Done done) after = StopsOn before (λ link. marks.Done link xid done.outcome) after
TakeStops before xid (takes.NotYet ticket) after = Unit {0}
TakeStops before xid (takes.Failed call buffers end) after = StopsOnRevoke before xid (bytes_of_buffers buffers) after

-- a call that is lost is a mark
abbrev pub LostIsAMark : Type 0
LostIsAMark = (h : RequesterSide) (xid : ℕ) (end : End) → h.state.side.ended ≡ Some end → xid < h.state.next_xid → StandsOn h (λ link. marks.Lost link xid) (after_revoke h xid)
