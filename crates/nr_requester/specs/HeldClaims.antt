-- The regions of the outstanding calls: each is held, in the order of their STags, and is the one that its call offers.
use Rattle.std.specs.Prelude.{◌≡◌, ℕ, ◌≤◌, List, [], ◌∷◌, ◌++◌, sum, Option, None, Some, IfSome}
use Rattle.nr_header.specs.declared.header.RdmaSegment.{RdmaSegment}
use Rattle.nr_header.specs.declared.header.ChunkLists.{ChunkLists}
use Rattle.nr_regions.specs.RegisteredMemory.{RegisteredMemory, Claim, IsHeld, AreHeldFrom}
use Rattle.nr_endpoint.specs.declared.offering.Claims.{Claims}
use Rattle.nr_rpc.specs.Credential.{CanWriteCred}
use Rattle.nr_reduce.specs.declared.call.Call.{Call}
use Rattle.nr_reduce.specs.Plans.{segments_from}
use Rattle.nr_reduce.specs.PlansByLists.{plan_by_lists}
use Rattle.nr_reduce.specs.ClientState.{call_payload}
use Rattle.nr_requester.specs.declared.outstanding.OutstandingCall.{OutstandingCall}
use Rattle.nr_requester.specs.Sending.{IsPlan}

abbrev pub claim_list : Option Claim → List Claim
claim_list None = []
claim_list (Some claim) = claim ∷ []

abbrev pub call_claims : Claims → List Claim
call_claims c = claim_list c.read ++ (claim_list c.write ++ claim_list c.reply)

abbrev pub all_claims : List OutstandingCall → List Claim
all_claims [] = []
all_claims (c ∷ calls) = call_claims c.claims ++ all_claims calls

-- A chunk is one region from its first byte to its last, or has no segment.
abbrev pub IsChunkOf : Option Claim → List RdmaSegment → Type 0
IsChunkOf None chunk = chunk ≡ []
IsChunkOf (Some claim) chunk = (lengths : List ℕ) × (chunk ≡ segments_from claim.stag 0 lengths) × (sum lengths ≡ claim.len)

abbrev pub IsWriteOf : Option Claim → List (List RdmaSegment) → Type 0
IsWriteOf claim [] = claim ≡ None
IsWriteOf claim (chunk ∷ []) = IsChunkOf claim chunk
IsWriteOf claim (first ∷ second ∷ others) = ⊥

abbrev pub IsReplyOf : Option Claim → Option (List RdmaSegment) → Type 0
IsReplyOf claim None = claim ≡ None
IsReplyOf claim (Some chunk) = IsChunkOf claim chunk

-- the regions for a reply are those of the lists that it has to repeat
pub record IsOfferOf (claims : Claims) (offered : ChunkLists) : Type 0 where
  pub write : IsWriteOf claims.write offered.write
  pub reply : IsReplyOf claims.reply offered.reply

-- The same of a call, which can be sent again: its credential can be written, and what is made again of its lists is a plan of it.
pub record IsOwnOffer (xid : ℕ) (read_at : Option ℕ) (offered : ChunkLists) (claims : Claims) (call : Call) : Type 0 where
  pub offer : IsOfferOf claims offered
  pub cred : CanWriteCred call.cred
  pub plan : IsPlan (plan_by_lists (call_payload xid call) read_at offered)

-- so it is of a call that isn't revoked
abbrev pub OffersOwn : OutstandingCall → Type 0
OffersOwn c = IfSome c.call (IsOwnOffer c.xid c.read_at c.offered c.claims)

-- Registered one after the other: what was held before still is, and these are held under the next STags.
pub record SentHeld (before after : RegisteredMemory) (claims : Claims) : Type 0 where
  pub next : before.next ≤ after.next
  pub keeps : (c : Claim) → IsHeld before c → IsHeld after c
  pub own : AreHeldFrom after before.next (call_claims claims)
