-- What a client keeps of its outstanding calls, and what it makes of a message by them.
use Rattle.std.specs.Prelude.{◌≡◌, ℕ, ◌+◌, ◌++◌, Bool, true, false, not, ◌&&◌, ◌==◌, if◌then◌else◌, List, [], ◌∷◌, map, drop, Option, None, Some, is_none, IfSome, Result, Ok, Err}
use Rattle.std.specs.List.{find, list_any}
use Rattle.nr_header.specs.declared.fault.HeaderFault.{HeaderFault}
use Rattle.nr_header.specs.declared.fault.HeaderFault.TheVariants as faults
use Rattle.nr_header.specs.declared.header.ChunkLists.{ChunkLists}
use Rattle.nr_header.specs.declared.header.Body.{Body}
use Rattle.nr_header.specs.declared.header.Body.TheVariants.{Msg, Nomsg, ErrVers, ErrChunk}
use Rattle.nr_header.specs.declared.header.Header.{Header}
use Rattle.nr_header.specs.Reading.{header_of}
use Rattle.nr_link.specs.Reasons.{REASON_SHORT, REASON_KIND, REASON_CALL, REASON_CHUNKS, REASON_VERSION, REASON_INVALIDATED}
use Rattle.nr_reduce.specs.declared.call.Call.{Call}
use Rattle.nr_reduce.specs.declared.call.Outcome.TheVariants as outcomes
use Rattle.nr_reduce.specs.Plans.{Buffer, buffers, lists_of}
use Rattle.nr_reduce.specs.Chunks.{Bytes, answers_offer, reply_conveyed}
use Rattle.nr_reduce.specs.PlansByLists.{plan_by_lists}
use Rattle.nr_reduce.specs.ClientState.{OutstandingCall, WaitingCall, ClientState, is_sent, call_payload}
use Rattle.nr_reduce.specs.ClientMessages.{ReplyVerdict, reply_by_payload}
use Rattle.nr_reduce.specs.ClientMessages.ReplyVerdict.{EndsLink, GivesOutcome}

-- A call that is outstanding, or waits to be sent again: the number of its Send on the link, and whether that has completely left; the call, until its
-- memory is revoked; the position of its read chunk, if it has one, and the lists that its reply has to repeat; the STags that it was given, in the order
-- in which they were offered; those of its regions, and none once they are released.
pub record KeptCall : Type 0 where
  pub xid : ℕ
  pub send : ℕ
  pub is_sent : Bool
  pub call : Option Call
  pub read_at : Option ℕ
  pub offered : ChunkLists
  pub given : List ℕ
  pub stags : List ℕ

-- The calls of a client in the order of their xids, each with the number of its Send: those that are outstanding, and those that wait to be sent
-- again, whose Sends come next, in their order.
abbrev pub numbered_from : (send : ℕ) → List WaitingCall → List OutstandingCall
numbered_from send [] = []
numbered_from send (w ∷ waiting) =
    record { xid = w.xid; send = send; call = w.call; plan = w.plan; stag = w.stag; is_revoked = w.is_revoked } ∷ numbered_from (send + 1) waiting

abbrev pub numbered_calls : ClientState → List OutstandingCall
numbered_calls k = k.outstanding ++ numbered_from k.sends k.waiting

abbrev pub stags_unless : Bool → List Buffer → List ℕ
stags_unless true bs = []
stags_unless false bs = map (λ b. b.stag) bs

-- It is kept of this call of a client in this state. Until its memory is revoked, its plan can be made again.
pub record IsKeptCall (k : ClientState) (c : KeptCall) (o : OutstandingCall) : Type 0 where
  pub xid : c.xid ≡ o.xid
  pub send : c.send ≡ o.send
  pub sent : c.is_sent ≡ is_sent k o
  pub revoked : is_none c.call ≡ o.is_revoked
  pub call : IfSome c.call (λ call. call ≡ o.call)
  pub write : c.offered.write ≡ (lists_of o.stag o.plan).write
  pub reply : c.offered.reply ≡ (lists_of o.stag o.plan).reply
  pub planned : IfSome c.call (λ call. o.plan ≡ plan_by_lists (call_payload o.xid call) c.read_at c.offered)
  pub given : c.given ≡ map (λ b. b.stag) (buffers o.stag o.plan)
  pub stags : c.stags ≡ stags_unless o.is_revoked (buffers o.stag o.plan)

abbrev pub AreKept : ClientState → List KeptCall → List OutstandingCall → Type 0
AreKept k [] [] = Unit {0}
AreKept k [] (o ∷ os) = ⊥
AreKept k (c ∷ cs) [] = ⊥
AreKept k (c ∷ cs) (o ∷ os) = IsKeptCall k c o × AreKept k cs os

-- ---- What is made of a message, by the bytes that memory holds under an STag

abbrev pub kept_payload : ℕ → Option Call → Option (List ℕ) → ChunkLists → Bytes → ReplyVerdict
kept_payload xid None inline lists memory = GivesOutcome xid None
kept_payload xid (Some call) inline lists memory = reply_by_payload xid (reply_conveyed call.prog call.vers call.proc inline lists memory)

abbrev pub kept_lists : KeptCall → Option (List ℕ) → ChunkLists → Bytes → Bool → ReplyVerdict
kept_lists c inline lists memory false = EndsLink REASON_CHUNKS
kept_lists c inline lists memory true = kept_payload c.xid c.call inline lists memory

abbrev pub kept_body : KeptCall → Bytes → List ℕ → Body → ReplyVerdict
kept_body c memory message (Msg lists stream_at) = kept_lists c (Some (drop stream_at message)) lists memory (answers_offer false c.offered lists)
kept_body c memory message (Nomsg lists) = kept_lists c None lists memory (answers_offer true c.offered lists)
kept_body c memory message (ErrVers version low high) = GivesOutcome c.xid (Some (outcomes.Version low high))
kept_body c memory message (ErrChunk version) = GivesOutcome c.xid (Some outcomes.Chunk)

abbrev pub kept_call : Bytes → List ℕ → Body → Option KeptCall → ReplyVerdict
kept_call memory message body None = EndsLink REASON_CALL
kept_call memory message body (Some c) = kept_body c memory message body

-- the call that a message with this xid answers
abbrev pub kept_by : List KeptCall → ℕ → Option KeptCall
kept_by calls xid = find (λ c. c.xid == xid && c.is_sent) calls

abbrev pub kept_header : List KeptCall → Bytes → List ℕ → Result Header HeaderFault → ReplyVerdict
kept_header calls memory message (Ok header) = kept_call memory message header.body (kept_by calls header.xid)
kept_header calls memory message (Err faults.Short) = EndsLink REASON_SHORT
kept_header calls memory message (Err (faults.Version version)) = EndsLink REASON_VERSION
kept_header calls memory message (Err (faults.Kind kind)) = EndsLink REASON_KIND
kept_header calls memory message (Err (faults.BadChunks at)) = EndsLink REASON_KIND

unfoldable pub kept_verdict : List KeptCall → Bytes → List ℕ → ReplyVerdict
kept_verdict calls memory message = kept_header calls memory message (header_of message)

-- ---- A Send with Invalidate

abbrev pub kept_in : List KeptCall → Result Header HeaderFault → Option KeptCall
kept_in calls (Ok header) = kept_by calls header.xid
kept_in calls (Err fault) = None

-- the STag is one of those that the call was given
abbrev pub kept_is_given : KeptCall → ℕ → Bool
kept_is_given c stag = list_any (λ s. s == stag) c.given

abbrev pub kept_names_another : Option KeptCall → ℕ → Bool
kept_names_another None stag = false
kept_names_another (Some c) stag = not (kept_is_given c stag)

abbrev pub kept_invalidates_another : List KeptCall → Option ℕ → List ℕ → Bool
kept_invalidates_another calls None message = false
kept_invalidates_another calls (Some stag) message = kept_names_another (kept_in calls (header_of message)) stag

-- the STag that dies before the rest of the message is judged: the one that it names, if it is that of a region of its call
abbrev pub own_of : List ℕ → ℕ → Option ℕ
own_of stags stag = if list_any (λ s. s == stag) stags then Some stag else None

abbrev pub own_if : Option KeptCall → ℕ → Option ℕ
own_if None stag = None
own_if (Some c) stag = own_of c.stags stag

abbrev pub kept_named : List KeptCall → Option ℕ → List ℕ → Option ℕ
kept_named calls None message = None
kept_named calls (Some stag) message = own_if (kept_in calls (header_of message)) stag

-- the verdict on a message that names an STag, or none
unfoldable pub kept_message_verdict : List KeptCall → Bytes → Option ℕ → List ℕ → ReplyVerdict
kept_message_verdict calls memory named message =
    if kept_invalidates_another calls named message then EndsLink REASON_INVALIDATED else kept_verdict calls memory message
