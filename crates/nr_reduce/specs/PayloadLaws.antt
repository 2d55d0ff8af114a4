-- Encoding and decoding a payload are inverse: what is cut is rebuilt, what is planned is conveyed, what is answered is conveyed.
use Rattle.std.specs.Prelude.{◌≡◌, ◌≢◌, ℕ, ◌+◌, ◌^◌, ◌<◌, ◌≤◌, true, false, ◌==◌, List, [], ◌∷◌, length, take, sum, Option, None, Some, Ok, Err, if◌then◌else◌}
use Rattle.std.specs.List.{flat_map}
use Rattle.nr_xdr.specs.Item.{IsBytes}
use Rattle.nr_wire.specs.Segment.{encoding}
use Rattle.nr_header.specs.declared.header.ReadSegment.{ReadSegment}
use Rattle.nr_header.specs.declared.header.ChunkLists.{ChunkLists}
use Rattle.nr_header.specs.Constants.{PAYLOAD_MAX}
use Rattle.nr_header.specs.Header.{HeaderFits}
use Rattle.nr_header.specs.Length.{reply_chunk_len}
use Rattle.nr_header.specs.WithinLimits.{CanRead}
use Rattle.nr_reduce.specs.declared.fault.Mismatch.{Mismatch}
use Rattle.nr_reduce.specs.declared.fault.Mismatch.TheVariants as mismatches
use Rattle.nr_reduce.specs.declared.call.Form.{Form}
use Rattle.nr_reduce.specs.declared.call.Form.TheVariants as forms
use Rattle.nr_reduce.specs.declared.call.Offer.{Offer}
use Rattle.nr_reduce.specs.declared.item.Item.{Item}
use Rattle.nr_reduce.specs.declared.item.Of.{Of}
use Rattle.nr_reduce.specs.declared.item.Of.TheVariants.{Call}
use Rattle.nr_reduce.specs.Items.{reducible_item, stream_of, moved_of}
use Rattle.nr_reduce.specs.declared.item.Cut.{Cut}
use Rattle.nr_reduce.specs.Cuts.{cut_of, rebuilt_of}
use Rattle.nr_reduce.specs.declared.outline.Plan.{Plan}
use Rattle.nr_reduce.specs.Plans.{given_region, plan_of, plan_size, regions_needed, call_header, call_message, lists_of, inline_stream, read_stag}
use Rattle.nr_reduce.specs.Chunks.{Bytes, whole, call_conveyed, read_bytes, reply_conveyed, answers_offer}
use Rattle.nr_reduce.specs.Holds.{Answer, answer_for, answer_lists, answer_writes, answer_size, answer_message, no_segments}
use Rattle.nr_reduce.specs.ChunkBytes.{IsNotGiven, MessageConveys, ChunkHolds, ReadsAsPlan, inline_by, lists_by, RegionsHaveLengths, IsOffer, ReadsAsAnswer, offered_lists, after, answer_segments}

-- What was cut of a payload is put together to that payload again.
abbrev pub CutIsRebuilt : Type 0
CutIsRebuilt = (of : Of) (payload : List ℕ) (c : Cut) → IsBytes payload → cut_of of payload ≡ Some c →
    rebuilt_of of c.stream c.item.pos c.moved ≡ Ok payload

-- A stream without an item, and a chunk of another length than the item's, have no payload. Only a chunk that is refused by its position
-- may have one, at the item's own position.
abbrev pub RefusedHasNoPayload : Type 0
RefusedHasNoPayload = (of : Of) (stream : List ℕ) (pos : ℕ) (moved : List ℕ) (why : Mismatch) → rebuilt_of of stream pos moved ≡ Err why → why ≢ mismatches.Position →
    whole of stream (Some moved) ≡ None

-- The stream and what moved of a reducible payload convey it.
abbrev pub CutConveys : Type 0
CutConveys = (of : Of) (payload : List ℕ) (i : Item) → IsBytes payload → reducible_item of payload ≡ Some i →
    whole of (stream_of payload i) (Some (moved_of payload i)) ≡ Some payload

-- A plan of a form whose offer isn't given: the numbers of its call fit, and its STags are below 2 ^ 32.
pub record IsPlanned (payload : List ℕ) (form : Form) (up down xid credit stag : ℕ) (p : Plan) : Type 0 where
  pub bytes : IsBytes payload
  pub own : IsNotGiven form
  pub plan : plan_of payload form up down ≡ Ok p
  pub xid_fits : xid < 2 ^ 32
  pub credit_fits : credit < 2 ^ 32
  pub stags_fit : stag + regions_needed p ≤ 2 ^ 32

-- The message of such a plan reads back, and with what its chunks bring it conveys the payload.
abbrev pub PlanReadsBack : Type 0
PlanReadsBack = (payload : List ℕ) (form : Form) (up down xid credit stag : ℕ) (p : Plan) → IsPlanned payload form up down xid credit stag p →
    MessageConveys payload p xid credit stag (call_message xid credit stag p)

-- The message of a plan of any form has the size that was tested, which is at most that of a Send.
abbrev pub PlanHasItsSize : Type 0
PlanHasItsSize = (payload : List ℕ) (form : Form) (up down xid credit stag : ℕ) (p : Plan) → plan_of payload form up down ≡ Ok p →
    (length (call_message xid credit stag p) ≡ plan_size p) × (length (call_message xid credit stag p) ≤ up)

-- The message of any plan reads back as its lists and its stream, if its header's numbers fit and its lists are within the limits.
abbrev pub MessageReadsBack : Type 0
MessageReadsBack = (xid credit stag : ℕ) (p : Plan) → HeaderFits (call_header xid credit stag p) → CanRead (call_header xid credit stag p).body p.inline →
    ReadsAsPlan p xid credit stag (call_message xid credit stag p)

-- A memory that holds the plan's region under its STag brings its chunks.
abbrev pub RegionBringsChunks : Type 0
RegionBringsChunks = (payload : List ℕ) (form : Form) (up down stag : ℕ) (p : Plan) (memory : Bytes) → IsBytes payload → IsNotGiven form →
    plan_of payload form up down ≡ Ok p → memory (read_stag stag p) ≡ p.region → ChunkHolds (read_bytes memory (lists_of stag p).read) p

-- What an offer that is given conveys of a payload, if anything: by a read chunk at position 0 its region; by another its
-- region, put back into what stands before its position; without one the payload.
abbrev pub moved_by : List ℕ → List ℕ → Option (List ℕ)
moved_by [] region = None
moved_by (n ∷ lengths) region = Some region

abbrev pub given_conveyed : List ℕ → ℕ → Option (List ℕ) → Option (List ℕ)
given_conveyed payload at None = Some payload
given_conveyed payload at (Some lengths) =
    if at == 0 then Some (given_region payload at (sum lengths))
    else whole Call (take at payload) (moved_by lengths (given_region payload at (sum lengths)))

-- A plan of an offer that is given conveys what the offer conveys, by a memory that holds its region.
abbrev pub OfferConveys : Type 0
OfferConveys = (payload : List ℕ) (offer : Offer) (up down stag : ℕ) (p : Plan) (memory : Bytes) → plan_of payload (forms.Given offer) up down ≡ Ok p →
    memory (read_stag stag p) ≡ p.region →
    call_conveyed (inline_stream p) (lists_of stag p).read (read_bytes memory (lists_of stag p).read) ≡ given_conveyed payload offer.read_at offer.read

-- So does what is read of its message, if its lists are within the limits of a header.
abbrev pub OfferMessageConveys : Type 0
OfferMessageConveys = (payload : List ℕ) (offer : Offer) (up down xid credit stag : ℕ) (p : Plan) (memory : Bytes) → plan_of payload (forms.Given offer) up down ≡ Ok p →
    HeaderFits (call_header xid credit stag p) → CanRead (call_header xid credit stag p).body p.inline → memory (read_stag stag p) ≡ p.region →
    (m : ReadsAsPlan p xid credit stag (call_message xid credit stag p))
    × (call_conveyed (inline_by (call_message xid credit stag p) m.body) (lists_by m.body).read (read_bytes memory (lists_by m.body).read) ≡ given_conveyed payload offer.read_at offer.read)

-- An answer for an offer that holds a reply conveys that reply, by what its Writes leave in the offered regions.
abbrev pub AnswerConveysReply : Type 0
AnswerConveysReply = (read : List ReadSegment) (ws rs : ℕ) (w r : Option (List ℕ)) (down prog vers proc : ℕ) (reply : List ℕ) (a : Answer) (initial : Bytes) →
    IsBytes reply → RegionsHaveLengths initial ws rs w r → answer_for (offered_lists read ws rs w r) down prog vers proc reply ≡ Some a →
    reply_conveyed prog vers proc (if a.long then None else Some a.stream) (answer_lists (offered_lists read ws rs w r) a) (after initial (offered_lists read ws rs w r) a) ≡ Some reply

-- What is written for an answer are the segments of its Writes, in order.
abbrev pub AnswerWritesSegments : Type 0
AnswerWritesSegments = (offer : ChunkLists) (a : Answer) → answer_writes offer a ≡ flat_map encoding (answer_segments offer a)

-- Its lists are those that were offered, as a client asks of a reply.
abbrev pub AnswerSuitsOffer : Type 0
AnswerSuitsOffer = (read : List ReadSegment) (ws rs : ℕ) (w r : Option (List ℕ)) (down prog vers proc : ℕ) (reply : List ℕ) (a : Answer) →
    IsBytes reply → answer_for (offered_lists read ws rs w r) down prog vers proc reply ≡ Some a →
    answers_offer a.long (offered_lists read ws rs w r) (answer_lists (offered_lists read ws rs w r) a) ≡ true

-- Its message has the size that was tested, which is at most that of a Send; if the stream goes in the reply chunk, the size of its
-- header alone.
abbrev pub AnswerHasItsSize : Type 0
AnswerHasItsSize = (offer : ChunkLists) (down prog vers proc xid credit : ℕ) (reply : List ℕ) (a : Answer) → answer_for offer down prog vers proc reply ≡ Some a →
    (a.long ≡ false →
    (length (answer_message xid credit offer a) ≡ answer_size offer.write + length a.stream) × (length (answer_message xid credit offer a) ≤ down))
    × (a.long ≡ true → length (answer_message xid credit offer a) ≡ answer_size offer.write + reply_chunk_len (length (no_segments offer.reply)))

-- It reads back as the lists of the answer and its stream.
abbrev pub AnswerReadsBack : Type 0
AnswerReadsBack = (read : List ReadSegment) (ws rs : ℕ) (w r : Option (List ℕ)) (down prog vers proc xid credit : ℕ) (reply : List ℕ) (a : Answer) →
    IsBytes reply → IsOffer (offered_lists read ws rs w r) → answer_for (offered_lists read ws rs w r) down prog vers proc reply ≡ Some a →
    down ≤ PAYLOAD_MAX → xid < 2 ^ 32 → credit < 2 ^ 32 →
    ReadsAsAnswer (offered_lists read ws rs w r) a xid credit (answer_message xid credit (offered_lists read ws rs w r) a)
