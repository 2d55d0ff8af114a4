-- What a server accesses of its client's memory is offered by the call that is to be answered, and no earlier message of the server
-- answers that call.
use Rattle.std.proofs.Common.{◌≡◌, ℕ, ◌+◌, ◌≤◌, Bool, true, false, List, [], ◌∷◌, ◌++◌, length, map, drop, None, Ok, sym, ap, subst, arith, append_assoc, append-nil, ◌⊎◌, inl, inr, Option}
use Rattle.std.specs.List.{AllByRecursion}
use Rattle.nr_xdr.specs.Fields.{word_at}
use Rattle.nr_header.specs.declared.header.RdmaSegment.{RdmaSegment as Part}
use Rattle.nr_header.specs.declared.header.ReadSegment.{ReadSegment}
use Rattle.nr_header.specs.declared.header.ChunkLists.{ChunkLists}
use Rattle.nr_header.specs.declared.header.Header.{Header}
use Rattle.nr_header.specs.Reading.{header_of}
use Rattle.nr_regions.specs.declared.right.Right.{Right}
use Rattle.nr_regions.specs.declared.right.Right.TheVariants.{Fetch, Fill}
use Rattle.nr_link.specs.Limits.{open_reads_max}
use Rattle.nr_reduce.specs.declared.mark.LinkParameters.{LinkParameters}
use Rattle.nr_reduce.specs.OfferedRegions.{Region, closed_if, regions_closed}
use Rattle.nr_reduce.specs.Holds.{first_chunk, no_segments}
use Rattle.nr_reduce.specs.ChunkBytes.{lists_by}
use Rattle.nr_reduce.specs.Plans.{buffers}
use Rattle.nr_reduce.specs.ClientState.{ClientState, OutstandingCall, WaitingCall, region_of}
use Rattle.nr_reduce.specs.ServerState.{ServerState, PendingCall, PendingRead}
use Rattle.nr_laws.proofs.FrameContents.{FrameContent, send_frames, errors_frames}
use Rattle.nr_laws.proofs.Outputs.{message_of_call}
use Rattle.nr_laws.proofs.SendFrames.{each_send}
use Rattle.nr_laws.proofs.FrameContents.FrameContent.{HelloFrame, PartFrame, SendFrame, RequestFrame, TaggedFrame}
use Rattle.nr_laws.proofs.AnsweredCalls.{message_xids, times, xids_append, times_append}
use Rattle.nr_laws.proofs.Basics.{each_all}

-- ---- What is offered

-- a region of a call, under an STag, with a right to n bytes
pub record IsRegionOf (xid stag : ℕ) (right : Right) (n : ℕ) (g : Region) : Type 0 where
  pub own_stag : g.stag ≡ stag
  pub own_call : g.call ≡ xid
  pub own_right : g.right ≡ right
  pub room : n ≤ length g.bytes

abbrev pub IsOffered : (xid stag : ℕ) → Right → ℕ → List Region → Type 0
IsOffered xid stag right n [] = ⊥
IsOffered xid stag right n (g ∷ regions) = IsRegionOf xid stag right n g ⊎ IsOffered xid stag right n regions

-- the segments and the entries of a call's lists
abbrev pub PartOffered : List Region → ℕ → Part → Type 0
PartOffered regions xid p = IsOffered xid p.handle Fill (p.offset + p.length) regions

abbrev pub EntryOffered : List Region → ℕ → ReadSegment → Type 0
EntryOffered regions xid r = IsOffered xid r.handle Fetch (r.offset + r.length) regions

pub record ListsOffered (regions : List Region) (xid : ℕ) (lists : ChunkLists) : Type 0 where
  pub write : AllByRecursion (PartOffered regions xid) (first_chunk lists.write)
  pub reply : AllByRecursion (PartOffered regions xid) (no_segments lists.reply)
  pub read : AllByRecursion (EntryOffered regions xid) lists.read

-- of a pending call, and of a message of a client
abbrev pub CallOffered : List Region → PendingCall → Type 0
CallOffered regions c = ListsOffered regions c.xid c.lists

abbrev pub SendOffered : List Region → List ℕ → Type 0
SendOffered regions message = (h : Header) → header_of message ≡ Ok h → ListsOffered regions (word_at 0 message) (lists_by h.body)

abbrev pub MessageOffered : List Region → FrameContent → Type 0
MessageOffered regions HelloFrame = Unit {0}
MessageOffered regions (PartFrame named offset payload) = Unit {0}
MessageOffered regions (SendFrame message) = SendOffered regions message.bytes
MessageOffered regions (RequestFrame sink at size stag to) = Unit {0}
MessageOffered regions (TaggedFrame last opcode stag to payload) = Unit {0}

-- and of an outstanding call
abbrev pub CallAsked : LinkParameters → List Region → OutstandingCall → Type 0
CallAsked opened regions o = SendOffered regions (message_of_call opened o)

-- a read is of a pending call, which offers it
abbrev pub ReadOffered : List Region → List PendingCall → PendingRead → Type 0
ReadOffered regions [] r = ⊥
ReadOffered regions (c ∷ calls) r = ((c.number ≡ r.number) × IsOffered c.xid r.stag Fetch (r.to + r.size) regions) ⊎ ReadOffered regions calls r

-- ---- What is accessed

-- the access of a frame, if it has one, is of a call that isn't among those that are answered
abbrev pub IsAccess : List Region → List ℕ → FrameContent → Type 0
IsAccess regions answered HelloFrame = Unit {0}
IsAccess regions answered (PartFrame named offset payload) = Unit {0}
IsAccess regions answered (SendFrame message) = Unit {0}
IsAccess regions answered (RequestFrame sink at size stag to) = (xid : ℕ) × (times xid answered ≡ 0) × IsOffered xid stag Fetch (to + size) regions
IsAccess regions answered (TaggedFrame last opcode stag to payload) = (xid : ℕ) × (times xid answered ≡ 0) × IsOffered xid stag Fill (to + length payload) regions

-- of each of some frames after others
abbrev pub AreAccesses : List Region → (before : List FrameContent) → List FrameContent → Type 0
AreAccesses regions before [] = Unit {0}
AreAccesses regions before (p ∷ ps) = IsAccess regions (message_xids before) p × AreAccesses regions (before ++ p ∷ []) ps

-- the second regions offer all that the first do
abbrev pub OffersMore : List Region → List Region → Type 0
OffersMore regions others = (xid stag : ℕ) (right : Right) (n : ℕ) → IsOffered xid stag right n regions → IsOffered xid stag right n others

-- what a call offers that waits to be sent again
abbrev pub WaitsOffered : List Region → WaitingCall → Type 0
WaitsOffered regions w = OffersMore (map (region_of w.xid 0) (buffers w.stag w.plan)) regions

-- a region is closed only by a message that answers its call
abbrev pub IsLive : List ℕ → Region → Type 0
IsLive answered g = (g.until ≡ None) ⊎ (1 ≤ times g.call answered)

abbrev pub IsEarly : ℕ → Region → Type 0
IsEarly place g = g.from ≤ place

-- What the client sent and the server keeps of it is offered, and so is what the server accessed, by regions that were offered when
-- these bytes had been received.
pub record AccessesAgree (opened : LinkParameters) (k : ClientState) (s : ServerState) (d all_up all_down : List FrameContent) (place : ℕ) : Type 0 where
  pub early : AllByRecursion (IsEarly place) k.regions
  pub lives : AllByRecursion (IsLive (message_xids d)) k.regions
  pub up_said : AllByRecursion (MessageOffered k.regions) all_up
  pub asked : AllByRecursion (CallAsked opened k.regions) k.outstanding
  pub resent : AllByRecursion (WaitsOffered k.regions) k.waiting
  pub calls : AllByRecursion (CallOffered k.regions) s.calls
  pub waiting : AllByRecursion (ReadOffered k.regions s.calls) (drop open_reads_max s.reads)
  pub down_said : AreAccesses k.regions [] all_down

-- ---- More regions offer no less

pub offers_same : (regions : List Region) → OffersMore regions regions
offers_same regions xid stag right n h = h

pub offers_left : (regions more : List Region) → OffersMore regions (regions ++ more)
offers_left [] more xid stag right n h = absurd h
offers_left (g ∷ regions) more xid stag right n (inl h) = inl h
offers_left (g ∷ regions) more xid stag right n (inr h) = inr (offers_left regions more xid stag right n h)

pub offers_right : (regions more : List Region) → OffersMore more (regions ++ more)
offers_right [] more xid stag right n h = h
offers_right (g ∷ regions) more xid stag right n h = inr (offers_right regions more xid stag right n h)

pub offers_closed : (test : Region → Bool) (place : ℕ) (regions : List Region) → OffersMore regions (regions_closed test place regions)
unfolding regions_closed
offers_closed test place [] xid stag right n h = absurd h
offers_closed test place (g ∷ regions) xid stag right n (inr h) = inr (offers_closed test place regions xid stag right n h)
offers_closed test place (g ∷ regions) xid stag right n (inl h) = inl (by (test g))
  where
    by : (b : Bool) → IsRegionOf xid stag right n (closed_if b place g)
    by true = record { own_stag = h.own_stag; own_call = h.own_call; own_right = h.own_right; room = h.room }
    by false = h

pub lists_more : (regions others : List Region) (xid : ℕ) (lists : ChunkLists) → OffersMore regions others → ListsOffered regions xid lists → ListsOffered others xid lists
lists_more regions others xid lists f h = record {
  write = each_all (PartOffered regions xid) (PartOffered others xid) (first_chunk lists.write) (λ p x. f xid p.handle Fill (p.offset + p.length) x) h.write;
  reply = each_all (PartOffered regions xid) (PartOffered others xid) (no_segments lists.reply) (λ p x. f xid p.handle Fill (p.offset + p.length) x) h.reply;
  read = each_all (EntryOffered regions xid) (EntryOffered others xid) lists.read (λ r x. f xid r.handle Fetch (r.offset + r.length) x) h.read;
}

pub waits_more : (regions others : List Region) → OffersMore regions others → (w : WaitingCall) → WaitsOffered regions w → WaitsOffered others w
waits_more regions others f w h = λ xid stag right n x. f xid stag right n (h xid stag right n x)

pub send_more : (regions others : List Region) → OffersMore regions others → (message : List ℕ) → SendOffered regions message → SendOffered others message
send_more regions others f message h = λ header is. lists_more regions others (word_at 0 message) (lists_by header.body) f (h header is)

pub message_more : (regions others : List Region) → OffersMore regions others → (p : FrameContent) → MessageOffered regions p → MessageOffered others p
message_more regions others f HelloFrame h = tt
message_more regions others f (PartFrame named offset payload) h = tt
message_more regions others f (SendFrame message) h = send_more regions others f message.bytes h
message_more regions others f (RequestFrame sink at size stag to) h = tt
message_more regions others f (TaggedFrame last opcode stag to payload) h = tt

pub read_more_lem : (regions others : List Region) → OffersMore regions others → (calls : List PendingCall) (r : PendingRead) → ReadOffered regions calls r → ReadOffered others calls r
read_more_lem regions others f [] r h = absurd h
read_more_lem regions others f (c ∷ calls) r (inl h) = inl (h.0, f c.xid r.stag Fetch (r.to + r.size) h.1)
read_more_lem regions others f (c ∷ calls) r (inr h) = inr (read_more_lem regions others f calls r h)

access_more : (regions others : List Region) → OffersMore regions others → (answered : List ℕ) (p : FrameContent) → IsAccess regions answered p → IsAccess others answered p
access_more regions others f answered HelloFrame h = tt
access_more regions others f answered (PartFrame named offset payload) h = tt
access_more regions others f answered (SendFrame message) h = tt
access_more regions others f answered (RequestFrame sink at size stag to) h = (h.0, h.1, f h.0 stag Fetch (to + size) h.2)
access_more regions others f answered (TaggedFrame last opcode stag to payload) h = (h.0, h.1, f h.0 stag Fill (to + length payload) h.2)

pub accesses_more : (regions others : List Region) → OffersMore regions others → (before ps : List FrameContent) → AreAccesses regions before ps → AreAccesses others before ps
accesses_more regions others f before [] h = tt
accesses_more regions others f before (p ∷ ps) h = (access_more regions others f (message_xids before) p h.0, accesses_more regions others f (before ++ p ∷ []) ps h.1)

pub offered_less : (xid stag : ℕ) (right : Right) (n m : ℕ) (regions : List Region) → n ≤ m → IsOffered xid stag right m regions → IsOffered xid stag right n regions
offered_less xid stag right n m [] le h = absurd h
offered_less xid stag right n m (g ∷ regions) le (inl h) = inl (record { own_stag = h.own_stag; own_call = h.own_call; own_right = h.own_right; room = omega (arith, le, h.room) })
offered_less xid stag right n m (g ∷ regions) le (inr h) = inr (offered_less xid stag right n m regions le h)

-- ---- Frames after others

pub accesses_append : (regions : List Region) (before ps qs : List FrameContent) → AreAccesses regions before ps → AreAccesses regions (before ++ ps) qs → AreAccesses regions before (ps ++ qs)
accesses_append regions before [] qs h k = subst (λ (xs : List FrameContent). AreAccesses regions xs qs) (append-nil before) k
accesses_append regions before (p ∷ ps) qs h k =
    (h.0, accesses_append regions (before ++ p ∷ []) ps qs h.1 (subst (λ (xs : List FrameContent). AreAccesses regions xs qs) (sym (append_assoc before (p ∷ []) ps)) k))

pub access_at : (regions : List Region) (before ps : List FrameContent) (p : FrameContent) (qs : List FrameContent) → AreAccesses regions before (ps ++ p ∷ qs) → IsAccess regions (message_xids (before ++ ps)) p
access_at regions before [] p qs h = subst (λ (xs : List FrameContent). IsAccess regions (message_xids xs) p) (sym (append-nil before)) h.0
access_at regions before (x ∷ ps) p qs h = subst (λ (xs : List FrameContent). IsAccess regions (message_xids xs) p) (append_assoc before (x ∷ []) ps) (access_at regions (before ++ x ∷ []) ps p qs h.1)

-- what isn't answered by all of some frames isn't by the first of them
access_earlier : (regions : List Region) (answered later : List ℕ) → ((x : ℕ) → times x answered ≤ times x later) → (p : FrameContent) → IsAccess regions later p → IsAccess regions answered p
access_earlier regions answered later le HelloFrame h = tt
access_earlier regions answered later le (PartFrame named offset payload) h = tt
access_earlier regions answered later le (SendFrame message) h = tt
access_earlier regions answered later le (RequestFrame sink at size stag to) h = (h.0, omega (arith, le h.0, h.1), h.2)
access_earlier regions answered later le (TaggedFrame last opcode stag to payload) h = (h.0, omega (arith, le h.0, h.1), h.2)

pub accesses_each : (regions : List Region) (before ps : List FrameContent) → AllByRecursion (IsAccess regions (message_xids (before ++ ps))) ps → AreAccesses regions before ps
accesses_each regions before [] h = tt
accesses_each regions before (p ∷ ps) h = (
  access_earlier regions (message_xids before) (message_xids (before ++ p ∷ ps))
      (λ x. omega (arith, ap (λ (xs : List ℕ). times x xs) (xids_append before (p ∷ ps)), times_append x (message_xids before) (message_xids (p ∷ ps)))) p h.0,
  accesses_each regions (before ++ p ∷ []) ps (subst (λ (xs : List FrameContent). AllByRecursion (IsAccess regions (message_xids xs)) ps) (sym (append_assoc before (p ∷ []) ps)) h.1),
)

-- messages access nothing
pub accesses_message : (regions : List Region) (before : List FrameContent) (named : Option ℕ) (message : List ℕ) → AreAccesses regions before (send_frames named message)
accesses_message regions before named message =
    accesses_each regions before (send_frames named message) (each_send (IsAccess regions (message_xids (before ++ send_frames named message))) named (λ offset payload. tt) message tt)

pub accesses_messages : (regions : List Region) (before : List FrameContent) (messages : List (List ℕ)) → AreAccesses regions before (errors_frames messages)
accesses_messages regions before [] = tt
accesses_messages regions before (m ∷ messages) =
    accesses_append regions before (send_frames None m) (errors_frames messages) (accesses_message regions before None m) (accesses_messages regions (before ++ send_frames None m) messages)
