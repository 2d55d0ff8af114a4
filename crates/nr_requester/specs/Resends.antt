-- A requester of a link that was reopened sends its calls again, in their order, as its grant allows.
use Rattle.std.specs.Prelude.{◌≡◌, ℕ, ◌+◌, ◌-◌, nat_lt, Bool, ◌&&◌, if◌then◌else◌, List, [], ◌∷◌, ◌++◌, length, Option, None, Some}
use Rattle.nr_wire.specs.declared.hello.Side.TheVariants.{Initiator}
use Rattle.nr_link.specs.declared.end.End.{End}
use Rattle.nr_endpoint.specs.SendQueue.{with_held_sent}
use Rattle.nr_reduce.specs.declared.mark.Mark.{Mark}
use Rattle.nr_reduce.specs.declared.mark.LinkParameters.{LinkParameters}
use Rattle.nr_reduce.specs.declared.mark.Mark.TheVariants as marks
use Rattle.nr_reduce.specs.Resending.{resends_after}
use Rattle.nr_requester.specs.RequesterState.{RequesterState, RequesterSide}
use Rattle.nr_requester.specs.AfterPiece.{after_fed}
use Rattle.nr_requester.specs.Standing.{RequesterRepresents}
use Rattle.nr_requester.specs.ReopenedLinks.{RequesterKeeps}
use Rattle.nr_requester.specs.CountedMarks.{one_mark_more}

-- the first Send that is held back is queued
unfoldable pub after_resend : RequesterSide → (message : List ℕ) → RequesterSide
after_resend h message = record h {
  state = record h.state {
    side = record h.state.side { send_queue = with_held_sent message h.state.side.send_queue };
    sends = h.state.sends + 1;
  };
  marks = one_mark_more h.marks;
}

-- a credit is left, once the server's hello was accepted: the calls whose Sends are held back don't count
abbrev pub may_resend : RequesterState → Bool
may_resend r = r.side.has_hello && nat_lt (length r.outstanding - length r.side.send_queue.held) r.grant

-- Of these messages, those at the front that may be sent again are.
abbrev pub resent_from : List (List ℕ) → RequesterSide → RequesterSide
resent_from [] h = h
resent_from (message ∷ messages) h = if may_resend h.state then resent_from messages (after_resend h message) else h

unfoldable pub with_resends : RequesterSide → RequesterSide
with_resends h = resent_from h.state.side.send_queue.held h

-- A piece of the server's stream is taken, and then, if the requester hasn't ended, all calls are sent again that can be.
abbrev pub resent_unless : Option End → RequesterSide → RequesterSide
resent_unless (Some end) h = h
resent_unless None h = with_resends h

unfoldable pub after_feed : RequesterSide → (piece staging : List ℕ) → RequesterSide
after_feed h piece staging = resent_unless (after_fed h piece staging).state.side.ended (after_fed h piece staging)

-- For every list of marks that the first one stood for, the second stands for that list with a Fed of a piece, and with the Submits of all calls that
-- can be sent again then.
abbrev pub KeepsPiece : RequesterSide → (piece : List ℕ) → RequesterSide → Type 0
KeepsPiece before piece after = (is_own : ℕ → Bool) (earlier : ℕ) (opened : LinkParameters) (link : ℕ) (run : List Mark) → RequesterKeeps is_own earlier opened link before run →
    RequesterKeeps is_own earlier opened link after (run ++ marks.Fed link Initiator piece ∷ resends_after opened link (run ++ marks.Fed link Initiator piece ∷ []))

-- So it is after a feed.
abbrev pub FeedIsMarks : Type 0
FeedIsMarks = (h : RequesterSide) (piece staging : List ℕ) → KeepsPiece h piece (after_feed h piece staging)

-- On a link that wasn't reopened none waits.
abbrev pub FirstLinksResendNone : Type 0
FirstLinksResendNone = (opened : LinkParameters) (link : ℕ) (h : RequesterSide) (run : List Mark) (piece staging : List ℕ) → RequesterRepresents opened link h run → after_feed h piece staging ≡ after_fed h piece staging
