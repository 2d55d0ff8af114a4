-- A client leaves its link and begins another one. A connection is a link of its own: its client is opened with what the client of the link
-- before it knows, and from then on all that is said of a link is said of it.
use Rattle.std.specs.Prelude.{◌≡◌, ◌≢◌, ℕ, ◌≤◌, true, not, ◌==◌, if◌then◌else◌, List, [], ◌∷◌, ◌++◌, map, Option, None, Some, ◌⊎◌, Contains}
use Rattle.std.specs.List.{AllByRecursion, flat_map, filter, find}
use Rattle.nr_wire.specs.declared.hello.Side.TheVariants.{Initiator}
use Rattle.nr_link.specs.declared.agreement.Agreement.{Agreement}
use Rattle.nr_reduce.specs.Limits.{numbers_end}
use Rattle.nr_reduce.specs.declared.mark.Mark.{Mark}
use Rattle.nr_reduce.specs.declared.mark.LinkParameters.{LinkParameters}
use Rattle.nr_reduce.specs.declared.mark.ResumedCall.{ResumedCall}
use Rattle.nr_reduce.specs.History.{AcceptedCall, CompletedCall, accepted_calls, is_abandoned}
use Rattle.nr_reduce.specs.Events.{RunEvent, events}
use Rattle.nr_reduce.specs.Events.RunEvent.{FrameReceived, CallSubmitted, MemoryRevoked, CallExecuted, QueueWritten, ServerTold}
use Rattle.nr_reduce.specs.ClientState.{OutstandingCall, WaitingCall, ClientState, stag_after}
use Rattle.nr_reduce.specs.Run.{client}

-- An outstanding call is sent again as it was submitted, and as it was planned then. One that waits to be sent again does so on.
abbrev pub resumed_as : OutstandingCall → Option AcceptedCall → List ResumedCall
resumed_as o None = []
resumed_as o (Some a) = record { xid = o.xid; call = o.call; form = a.form; plan = o.plan } ∷ []

abbrev pub resumed_of : List AcceptedCall → OutstandingCall → List ResumedCall
resumed_of accepted o = resumed_as o (find (λ a. a.xid == o.xid) accepted)

abbrev pub resumed_again : WaitingCall → ResumedCall
resumed_again w = record { xid = w.xid; call = w.call; form = w.form; plan = w.plan }

-- the calls that the next link sends again, in the order of their xids: those without an answer that weren't given up
unfoldable pub calls_kept : LinkParameters → ℕ → List Mark → List ResumedCall
calls_kept opened link run =
    filter (λ r. not (is_abandoned link r.xid run))
    (flat_map (resumed_of (accepted_calls link run)) (client opened link run).state.outstanding ++ map resumed_again (client opened link run).state.waiting)

-- what the last hello to this client agreed on, if there was one
abbrev pub last_agreement : ClientState → Option Agreement
last_agreement k = if k.has_hello then Some (record { up = k.up_max; down = k.down_max; invalidates = k.invalidates }) else k.agreed

-- What the next link is opened with. Its client goes on with its xids and its STags; its server is a fresh one, opened as the one before: with
-- the same credits, receives and terms.
unfoldable pub reopened : LinkParameters → ℕ → List Mark → LinkParameters
reopened opened link run = record opened {
  first_xid = (client opened link run).state.next_xid;
  first_stag = (client opened link run).state.stag;
  resumed = calls_kept opened link run;
  agreed = last_agreement (client opened link run).state;
}

-- the answer of a call came on its link
pub record HasAnswer (opened : LinkParameters) (link : ℕ) (before : List Mark) (xid : ℕ) : Type 0 where
  pub completed : CompletedCall
  pub is_received : Contains (client opened link before).state.outcomes completed
  pub own : completed.xid ≡ xid

-- What may still happen at the end of a client that left its link: the memory of a call whose answer came is given back.
abbrev pub IsLate : LinkParameters → ℕ → List Mark → RunEvent → Type 0
IsLate opened link before (MemoryRevoked place xid) = HasAnswer opened link before xid
IsLate opened link before (FrameReceived frame) = ⊥
IsLate opened link before (CallSubmitted place call) = ⊥
IsLate opened link before (CallExecuted call) = ⊥
IsLate opened link before (QueueWritten taken) = ⊥
IsLate opened link before (ServerTold what) = ⊥

-- A client with a number that hasn't ended left this link after the marks `before`, and began the next one, while STags were left for its calls.
-- What was received by then may still be handed over, or given up; nothing else happens at its old end, and a call without an answer belongs to the
-- next link. The server of the old link may still execute what reached it.
pub record IsReopened (opened next_opened : LinkParameters) (link : ℕ) (run before : List Mark) : Type 0 where
  pub after : List Mark
  pub is_cut : run ≡ before ++ after
  pub numbered : opened.client.number ≢ 0
  pub stays : (client opened link before).ended ≡ None
  pub late : List RunEvent
  pub left : events link Initiator run ≡ events link Initiator before ++ late
  pub harmless : AllByRecursion (IsLate opened link before) late
  pub given_up : (xid : ℕ) → is_abandoned link xid run ≡ true → (is_abandoned link xid before ≡ true) ⊎ HasAnswer opened link before xid
  pub next : next_opened ≡ reopened opened link before
  pub stags : stag_after next_opened.first_stag next_opened.resumed ≤ numbers_end
