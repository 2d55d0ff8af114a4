-- What a message makes of its call, for the code: what came in its chunks, and what it brings.
use Rattle.std.specs.Prelude.{◌≡◌, ℕ, ◌<◌, ◌≤◌, true, List, [], ◌∷◌, length, take, map, get_or, sum, Option, None, Some}
use Rattle.nr_header.specs.declared.fault.HeaderFault.{HeaderFault}
use Rattle.nr_header.specs.declared.fault.HeaderFault.TheVariants as faults
use Rattle.nr_header.specs.declared.header.RdmaSegment.{RdmaSegment}
use Rattle.nr_regions.specs.RegisteredMemory.{RegisteredMemory, Claim, IsHeld}
use Rattle.nr_link.specs.Reasons.{REASON_SHORT, REASON_KIND, REASON_VERSION}
use Rattle.nr_endpoint.specs.Calls.{IsStopReason}
use Rattle.nr_reduce.specs.declared.call.Call.{Call}
use Rattle.nr_reduce.specs.declared.call.Outcome.{Outcome}
use Rattle.nr_reduce.specs.declared.call.Outcome.TheVariants as outcomes
use Rattle.nr_reduce.specs.declared.item.Of.TheVariants.{Reply as OfReply}
use Rattle.nr_reduce.specs.PayloadRoom.{PayloadRoom}
use Rattle.nr_reduce.specs.Plans.{segments_from}
use Rattle.nr_reduce.specs.Chunks.{returns, whole}
use Rattle.nr_reduce.specs.ClientMessages.{ReplyVerdict, reply_by_payload}
use Rattle.nr_reduce.specs.ClientMessages.ReplyVerdict.{EndsLink, GivesOutcome}
use Rattle.nr_reduce.specs.KeptCalls.{KeptCall, kept_message_verdict}
use Rattle.nr_requester.specs.declared.outstanding.OutstandingCall.{OutstandingCall}
use Rattle.nr_requester.specs.declared.replies.Found.{Found}
use Rattle.nr_requester.specs.declared.replies.Found.TheVariants as founds
use Rattle.nr_requester.specs.RequesterState.{kept_call}
use Rattle.nr_requester.specs.Views.{stored_view}

abbrev pub header_reason : HeaderFault → ℕ
header_reason faults.Short = REASON_SHORT
header_reason (faults.Version version) = REASON_VERSION
header_reason (faults.Kind kind) = REASON_KIND
header_reason (faults.BadChunks at) = REASON_KIND

-- ---- Chunks that came back

-- the segments of a region, as they came back
abbrev pub ComesBack : RegisteredMemory → Option Claim → List RdmaSegment → Type 0
ComesBack m None back = back ≡ []
ComesBack m (Some claim) back = IsHeld m claim × ((lengths : List ℕ) × ((sum lengths ≡ claim.len) × (returns (segments_from claim.stag 0 lengths) back ≡ true)))

abbrev pub WriteComesBack : RegisteredMemory → Option Claim → List (List RdmaSegment) → Type 0
WriteComesBack m claim [] = Unit {0}
WriteComesBack m claim (chunk ∷ chunks) = ComesBack m claim chunk

abbrev pub ReplyComesBack : RegisteredMemory → Option Claim → Option (List RdmaSegment) → Type 0
ReplyComesBack m claim None = Unit {0}
ReplyComesBack m claim (Some chunk) = ComesBack m claim chunk

-- ---- What a message brings

abbrev pub outcome_by : Found → List ℕ → Option Outcome
outcome_by founds.Nothing room = None
outcome_by (founds.Reply len) room = Some (outcomes.Reply (take len room))
outcome_by founds.Chunk room = Some outcomes.Chunk
outcome_by (founds.Version low high) room = Some (outcomes.Version low high)

-- the payload lies within what was written into the room
abbrev pub LiesWithin : Found → List ℕ → Type 0
LiesWithin founds.Nothing room = Unit {0}
LiesWithin (founds.Reply len) room = len ≤ length room
LiesWithin founds.Chunk room = Unit {0}
LiesWithin (founds.Version low high) room = Unit {0}

-- what a reply with this stream, and what moved beside it, makes of its call
abbrev pub by_stream : ℕ → Call → List ℕ → Option (List ℕ) → ReplyVerdict
by_stream xid call stream moved = reply_by_payload xid (whole (OfReply call.prog call.vers call.proc) stream moved)

abbrev pub with_room : OutstandingCall → PayloadRoom → OutstandingCall
with_room c room = record { xid = c.xid; send = c.send; call = c.call; is_forgotten = c.is_forgotten; read_at = c.read_at; offered = c.offered; given = c.given; claims = c.claims; room = room }

-- only the bytes in its room change
abbrev pub SameCall : (before after : OutstandingCall) → Type 0
SameCall before after = (after ≡ with_room before after.room) × ((after.room.len ≡ before.room.len) × (length before.room.bytes ≤ before.room.len → length after.room.bytes ≤ after.room.len))

-- a call as a client keeps it
abbrev pub kept_view : (sent : ℕ) → OutstandingCall → KeptCall
kept_view sent c = kept_call sent (stored_view c)

abbrev pub kept_views : (sent : ℕ) → List OutstandingCall → List KeptCall
kept_views sent calls = map (kept_call sent) (map stored_view calls)

abbrev pub Ends : ReplyVerdict → ℕ → Type 0
Ends verdict reason = (verdict ≡ EndsLink reason) × IsStopReason reason

-- the same of all calls
abbrev pub SameCalls : (before after : List OutstandingCall) → Type 0
SameCalls [] [] = Unit {0}
SameCalls [] (a ∷ after) = ⊥
SameCalls (b ∷ before) [] = ⊥
SameCalls (b ∷ before) (a ∷ after) = SameCall b a × SameCalls before after

-- A message that names an STag, or none, answers the call at this place, and brings this for it.
pub record Brings (many : ℕ) (before after : List OutstandingCall) (memory : ℕ → List ℕ) (named : Option ℕ) (message : List ℕ) (at : ℕ) (f : Found) : Type 0 where
  pub within : at < length after
  pub verdict : (d : OutstandingCall) → kept_message_verdict (kept_views many before) memory named message ≡ GivesOutcome (get_or before at d).xid (outcome_by f (get_or after at d).room.bytes)
  pub fits : (d : OutstandingCall) → LiesWithin f (get_or after at d).room.bytes
  pub sent : (d : OutstandingCall) → (get_or before at d).send < many
