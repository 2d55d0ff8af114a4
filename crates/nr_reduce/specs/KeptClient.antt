-- What a client keeps, and the state that it is enough for: of regions, accesses and outcomes of the past it keeps nothing but what its
-- registered memory holds.
use Rattle.std.specs.Prelude.{◌≡◌, ◌≢◌, ℕ, ◌+◌, ◌<◌, ◌⊎◌, ◌==◌, nat_lt, Bool, true, false, not, List, [], ◌∷◌, ◌++◌, length, map, Option, None, Some, IfSome, is_none}
use Rattle.std.specs.List.{AllByRecursion, filter, find}
use Rattle.nr_regions.specs.RegisteredMemory.{RegisteredMemory, initial_memory, held_region, NoneIsDead, after_register, after_release, bytes_in}
use Rattle.nr_regions.specs.Access.{TaggedSegment}
use Rattle.nr_regions.specs.Events.{after_event}
use Rattle.nr_regions.specs.Events.MemoryEvent.{Arrive}
use Rattle.nr_link.specs.declared.end.End.{End}
use Rattle.nr_link.specs.declared.agreement.Agreement.{Agreement}
use Rattle.nr_link.specs.Frames.{Frame}
use Rattle.nr_link.specs.Ending.{tagged_access}
use Rattle.nr_link.specs.ReceiveState.{ReceiveState, message_completed}
use Rattle.nr_wire.specs.Segment.{Segment}
use Rattle.nr_reduce.specs.declared.call.Call.{Call}
use Rattle.nr_reduce.specs.declared.outline.Plan.{Plan}
use Rattle.nr_reduce.specs.Plans.{Buffer, buffers, lists_of, regions_needed}
use Rattle.nr_reduce.specs.declared.mark.ResumedCall.{ResumedCall}
use Rattle.nr_reduce.specs.declared.mark.LinkParameters.{LinkParameters}
use Rattle.nr_reduce.specs.Limits.{send_unit}
use Rattle.nr_reduce.specs.OfferedRegions.{Region}
use Rattle.nr_reduce.specs.OfferedMemory.{region_at, AreOffered, AreReceived, HoldsRegions}
use Rattle.nr_reduce.specs.EndRules.{EndState}
use Rattle.nr_reduce.specs.ClientState.{OutstandingCall, ClientState, client_memory_at}
use Rattle.nr_reduce.specs.Client.{credits_of_word}
use Rattle.nr_xdr.specs.Fields.{word_at}
use Rattle.nr_reduce.specs.Asked.{IsPlannedAs}
use Rattle.nr_reduce.specs.KeptCalls.{KeptCall, AreKept, numbered_calls, stags_unless}

-- Why the client ended, once it has; the xid that it gives next; how many Sends have a number; the credits that are granted; how many calls are
-- outstanding or wait to be sent again; the calls among them that weren't handed back, in the order of their xids; its registered memory; the maximum length of a Send in bytes,
-- towards the server and from it; whether a reply may be a Send with Invalidate; the number of the client, or 0 if it has none; what
-- the last hello to it on an earlier link agreed on.
pub record KeptClient : Type 0 where
  pub ended : Option End
  pub next_xid : ℕ
  pub sends : ℕ
  pub grant : ℕ
  pub outstanding : ℕ
  pub calls : List KeptCall
  pub memory : RegisteredMemory
  pub up_max : ℕ
  pub down_max : ℕ
  pub invalidates : Bool
  pub number : ℕ
  pub agreed : Option Agreement

-- the bytes under an STag
abbrev pub bytes_under : RegisteredMemory → ℕ → List ℕ
bytes_under m stag = bytes_in (held_region m stag)

-- every region has an STag below this
abbrev pub AreBelow : List Region → ℕ → Type 0
AreBelow regions next = (stag : ℕ) (r : Region) → region_at regions stag ≡ Some r → stag < next

-- ---- The calls, and the regions that are theirs

abbrev pub IsAmong : {X : Type 0} → X → List X → Type 0
IsAmong x [] = ⊥
IsAmong x (y ∷ ys) = (y ≡ x) ⊎ IsAmong x ys

-- the kept call whose region is open under an STag
pub record IsOwned (calls : List KeptCall) (xid stag : ℕ) : Type 0 where
  pub call : KeptCall
  pub there : IsAmong call calls
  pub xid_is : call.xid ≡ xid
  pub own : IsAmong stag call.stags

-- the open region under an STag of a kept call
pub record IsRegionOpen (regions : List Region) (xid stag : ℕ) : Type 0 where
  pub region : Region
  pub there : region_at regions stag ≡ Some region
  pub is_open : region.until ≡ None
  pub own : region.call ≡ xid

-- the calls come in the order of their xids, all of which are below this
abbrev pub AreRising : List KeptCall → ℕ → Type 0
AreRising [] below = Unit {0}
AreRising (c ∷ cs) below = (c.xid < below) × (AllByRecursion (λ d. c.xid < d.xid) cs × AreRising cs below)

abbrev pub OpensFor : List Region → KeptCall → Type 0
OpensFor regions c = AllByRecursion (λ stag. IsRegionOpen regions c.xid stag) c.stags

-- each kept call is an outstanding one, or one that waits, and the open regions are those of the kept calls
pub record CallsKeep (calls : List KeptCall) (next : ℕ) (k : ClientState) : Type 0 where
  pub kept : AreKept k calls (numbered_calls k)
  pub rising : AreRising calls next
  pub owned : (stag : ℕ) (r : Region) → region_at k.regions stag ≡ Some r → r.until ≡ None → IsOwned calls r.call stag
  pub opens : AllByRecursion (OpensFor k.regions) calls

-- the memory holds exactly the open regions, after `count` bytes were received, and none is dead; each has an STag that was given
pub record MemoryKeeps (m : RegisteredMemory) (k : ClientState) (count : ℕ) : Type 0 where
  pub next : m.next ≡ k.stag
  pub offered : AreOffered count k.regions
  pub holds : HoldsRegions k.regions k.accesses_received count m
  pub none_dead : NoneIsDead m
  pub below : AreBelow k.regions k.stag

-- the memory has under each STag of a call what the client's region holds
abbrev pub HoldsFor : RegisteredMemory → ClientState → ℕ → KeptCall → Type 0
HoldsFor m k count c = AllByRecursion (λ stag. bytes_under m stag ≡ client_memory_at k count stag) c.stags

-- Until its memory is revoked or it is handed back, a call is kept with the STags of all its regions.
pub record HasRegions (c : KeptCall) (o : OutstandingCall) : Type 0 where
  pub call : IfSome c.call (λ call. call ≡ o.call)
  pub stags : c.stags ≡ stags_unless (is_none c.call) (buffers o.stag o.plan)

abbrev pub HasRegionsOf : KeptCall → Option OutstandingCall → Type 0
HasRegionsOf c None = ⊥
HasRegionsOf c (Some o) = HasRegions c o

-- an outstanding call has its xid, and it is that call
abbrev pub IsWaiting : List OutstandingCall → KeptCall → Type 0
IsWaiting outstanding c = HasRegionsOf c (find (λ o. o.xid == c.xid) outstanding)

-- what a client was opened with: its number, and what an earlier hello agreed on
abbrev pub IsOpenedWith : (number : ℕ) → Option Agreement → ClientState → Type 0
IsOpenedWith number agreed k = (number ≡ k.terms.number) × (agreed ≡ k.agreed)

-- It is kept of a client in this state, after `count` bytes were received. Of a client that has ended its calls are some of those that
-- were outstanding, and the memory counts by what it holds for them.
pub record ClientKeeps (opened : LinkParameters) (kept : KeptClient) (e : EndState ClientState) (count : ℕ) : Type 0 where
  pub ended : kept.ended ≡ e.ended
  pub xid : kept.next_xid ≡ e.state.next_xid
  pub sends : kept.sends ≡ e.state.sends
  pub grant : kept.grant ≡ e.state.grant
  pub up : kept.up_max ≡ e.state.up_max
  pub down : kept.down_max ≡ e.state.down_max
  pub invalidates : kept.invalidates ≡ e.state.invalidates
  pub opening : IsOpenedWith kept.number kept.agreed e.state
  pub outstanding : kept.outstanding ≡ length (numbered_calls e.state)
  pub calls : e.ended ≡ None → CallsKeep kept.calls kept.next_xid e.state
  pub memory : e.ended ≡ None → MemoryKeeps kept.memory e.state count
  pub waits : AllByRecursion (IsWaiting (numbered_calls e.state)) kept.calls
  pub rising : AreRising kept.calls kept.next_xid
  pub opens : AllByRecursion (OpensFor e.state.regions) kept.calls
  pub accesses : AreReceived count e.state.accesses_received
  pub holds : AllByRecursion (HoldsFor kept.memory e.state count) kept.calls

-- ---- What it keeps once regions are released

abbrev pub released_all : RegisteredMemory → List ℕ → RegisteredMemory
released_all m [] = m
released_all m (stag ∷ stags) = released_all (after_release m stag) stags

-- the STags of the call of an xid
abbrev pub stags_in : Option KeptCall → List ℕ
stags_in None = []
stags_in (Some c) = c.stags

abbrev pub stags_for : ℕ → List KeptCall → List ℕ
stags_for xid calls = stags_in (find (λ c. c.xid == xid) calls)

abbrev pub without : ℕ → List KeptCall → List KeptCall
without xid calls = filter (λ c. not (c.xid == xid)) calls

-- the memory of a call is revoked: its regions are released, and the call is handed back
abbrev pub revoked_if : Bool → KeptCall → KeptCall
revoked_if true c = record { xid = c.xid; send = c.send; is_sent = c.is_sent; call = None; read_at = c.read_at; offered = c.offered; given = c.given; stags = [] }
revoked_if false c = c

abbrev pub revoked_kept : ℕ → KeptCall → KeptCall
revoked_kept xid c = revoked_if (c.xid == xid) c

unfoldable pub kept_revoked : KeptClient → ℕ → KeptClient
kept_revoked kept xid = record kept {
  calls = map (revoked_kept xid) kept.calls;
  memory = released_all kept.memory (stags_for xid kept.calls);
}

-- a message of an xid ends its call: its regions are released, and it isn't outstanding any more
unfoldable pub kept_completed : KeptClient → List ℕ → KeptClient
kept_completed kept message = record kept {
  grant = credits_of_word (word_at 8 message);
  outstanding = length (without (word_at 0 message) kept.calls);
  calls = without (word_at 0 message) kept.calls;
  memory = released_all kept.memory (stags_for (word_at 0 message) kept.calls);
}

-- once it has ended, a call is handed back: its regions are released
unfoldable pub kept_handed_back : KeptClient → ℕ → KeptClient
kept_handed_back kept xid = record kept {
  calls = without xid kept.calls;
  memory = released_all kept.memory (stags_for xid kept.calls);
}

-- ---- What it keeps after other events

-- an RDMA Write, or another access of the peer, is placed if it is allowed
unfoldable pub kept_placed : KeptClient → TaggedSegment → KeptClient
kept_placed kept access = record kept { memory = after_event kept.memory (Arrive access) }

-- a segment is received: a message ends its call, and an access is placed
abbrev pub kept_by_message : KeptClient → Option (List ℕ) → KeptClient
kept_by_message kept None = kept
kept_by_message kept (Some message) = kept_completed kept message

abbrev pub kept_by_accesses : KeptClient → List TaggedSegment → KeptClient
kept_by_accesses kept [] = kept
kept_by_accesses kept (access ∷ accesses) = kept_by_accesses (kept_placed kept access) accesses

abbrev pub kept_received : KeptClient → ReceiveState → Frame → Segment → KeptClient
kept_received kept received f segment = kept_by_accesses (kept_by_message kept (message_completed received segment)) (tagged_access f segment)

-- the first `sent` Sends have completely left
abbrev pub sent_kept : (sent : ℕ) → KeptCall → KeptCall
sent_kept sent c = record c { is_sent = nat_lt c.send sent }

unfoldable pub kept_sent : (sent : ℕ) → KeptClient → KeptClient
kept_sent sent kept = record kept { calls = map (sent_kept sent) kept.calls }

-- memory with these regions too
abbrev pub registered_all : RegisteredMemory → List Buffer → RegisteredMemory
registered_all m [] = m
registered_all m (b ∷ bs) = registered_all (after_register m b.right b.bytes) bs

-- a call is accepted under the next xid, by this plan, and its Send has the next number
abbrev pub kept_of : (xid send : ℕ) → Call → Plan → (stag : ℕ) → KeptCall
kept_of xid send call plan stag = record {
  xid = xid;
  send = send;
  is_sent = false;
  call = Some call;
  read_at = plan.read_at;
  offered = lists_of stag plan;
  given = map (λ b. b.stag) (buffers stag plan);
  stags = map (λ b. b.stag) (buffers stag plan);
}

unfoldable pub kept_submitted : KeptClient → Call → Plan → KeptClient
kept_submitted kept call plan = record kept {
  next_xid = kept.next_xid + 1;
  sends = kept.sends + 1;
  outstanding = kept.outstanding + 1;
  calls = kept.calls ++ kept_of kept.next_xid kept.sends call plan kept.memory.next ∷ [];
  memory = registered_all kept.memory (buffers kept.memory.next plan);
}

-- the first call that waits is sent again: its Send has the next number
unfoldable pub kept_resent : KeptClient → KeptClient
kept_resent kept = record kept { sends = kept.sends + 1 }

-- no call of this xid waits to be sent again, and none of that of a message
abbrev pub NoneWaitsOf : ClientState → ℕ → Type 0
NoneWaitsOf k xid = AllByRecursion (λ w. w.xid ≢ xid) k.waiting

abbrev pub NoneWaitsFor : ClientState → Option (List ℕ) → Type 0
NoneWaitsFor k None = Unit {0}
NoneWaitsFor k (Some message) = NoneWaitsOf k (word_at 0 message)

-- with the server's hello: what is agreed
unfoldable pub kept_greeted : KeptClient → Agreement → KeptClient
kept_greeted kept a = record kept { up_max = a.up; down_max = a.down; invalidates = a.invalidates }

-- ---- A client as it is opened: it keeps the calls that it sends again, with the numbers that their Sends will have, and their regions.

abbrev pub resumed_kept : (send stag : ℕ) → List ResumedCall → List KeptCall
resumed_kept send stag [] = []
resumed_kept send stag (r ∷ calls) = kept_of r.xid send r.call r.plan stag ∷ resumed_kept (send + 1) (stag + regions_needed r.plan) calls

abbrev pub resumed_memory : RegisteredMemory → List ResumedCall → RegisteredMemory
resumed_memory m [] = m
resumed_memory m (r ∷ calls) = resumed_memory (registered_all m (buffers m.next r.plan)) calls

abbrev pub opened_client : LinkParameters → KeptClient
opened_client opened = record {
  ended = None;
  next_xid = opened.first_xid;
  sends = 0;
  grant = 1;
  outstanding = length opened.resumed;
  calls = resumed_kept 0 opened.first_stag opened.resumed;
  memory = resumed_memory (initial_memory opened.first_stag) opened.resumed;
  up_max = send_unit;
  down_max = send_unit;
  invalidates = false;
  number = opened.client.number;
  agreed = opened.agreed;
}

-- A client can be opened with these calls to send again: each has a plan of its form, and their xids rise, and are below this.
abbrev pub CanResume : List ResumedCall → ℕ → Type 0
CanResume [] next = Unit {0}
CanResume (r ∷ calls) next = IsPlannedAs r.xid r.call r.form r.plan × ((r.xid < next) × (AllByRecursion (λ c. r.xid < c.xid) calls × CanResume calls next))
