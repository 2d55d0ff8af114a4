-- What can be written as one frame: the numbers of a segment are words, and its payload fits.
use Rattle.std.proofs.Common.{◌≡◌, ℕ, zero, suc, ◌+◌, ◌*◌, ◌≤◌, ◌<◌, ◌^◌, true, List, [], ◌∷◌, ◌++◌, length, map, drop, refl, arith, lit<, length-append, length-take, Option, None, Some, false}
use Rattle.std.specs.List.{range_with_len}
use Rattle.nr_xdr.specs.Item.{word, hyper}
use Rattle.nr_xdr.proofs.WordBytes.{length_word, length_hyper}
use Rattle.nr_wire.specs.declared.hello.Side.{Side}
use Rattle.nr_wire.specs.declared.stream.Awaited.TheVariants.{Hello as HelloFrom, Fpdu}
use Rattle.nr_wire.specs.Segment.{is_tagged_opcode}
use Rattle.nr_link.specs.Limits.{segment_max}
use Rattle.nr_link.specs.Output.{msn_word, segment_count}
use Rattle.nr_laws.proofs.FrameContents.{FrameContent, written_segment, sends_in, requests_in, hellos_in, total_of, tagged_frame, tagged_frames, part_frame, last_part, last_index, send_frames, SentMessage}
use Rattle.nr_laws.proofs.FrameContents.FrameContent.{HelloFrame, PartFrame, SendFrame, RequestFrame, TaggedFrame}
use Rattle.nr_laws.proofs.SegmentedMessages.{offset_word, payload_size}
use Rattle.nr_laws.proofs.StreamFrames.{IsWritableAs, AreWritableFrom}
use Rattle.nr_wire.specs.Constants.{QUEUE_SEND}
use Rattle.nr_wire.specs.Segment.Segment.{Untagged}
use Rattle.nr_laws.specs.MessageSegments.{send_opcode, send_word}
use Rattle.nr_laws.proofs.Brought.{IsWord}
use Rattle.nr_laws.proofs.NamedStags.{IsStagWord}

abbrev pub IsWritable : FrameContent → Type 0
IsWritable HelloFrame = ⊥
IsWritable (PartFrame named offset payload) = (offset < 2 ^ 32) × (length payload ≤ segment_max)
IsWritable (SendFrame message) = (message.offset < 2 ^ 32) × (length message.payload ≤ segment_max) × IsStagWord message.named
IsWritable (RequestFrame sink at size stag to) = Unit {0}
IsWritable (TaggedFrame last opcode stag to payload) = (is_tagged_opcode opcode ≡ true) × (opcode < 16) × (stag < 2 ^ 32) × (to < 2 ^ 64) × (length payload ≤ segment_max)

abbrev pub AreWritable : List FrameContent → Type 0
AreWritable [] = Unit {0}
AreWritable (p ∷ ps) = IsWritable p × AreWritable ps

-- the hello and then no other
abbrev pub IsOutput : List FrameContent → Type 0
IsOutput [] = Unit {0}
IsOutput (HelloFrame ∷ ps) = AreWritable ps
IsOutput (PartFrame named offset payload ∷ ps) = ⊥
IsOutput (SendFrame message ∷ ps) = ⊥
IsOutput (RequestFrame sink at size stag to ∷ ps) = ⊥
IsOutput (TaggedFrame last opcode stag to payload ∷ ps) = ⊥

word_below : (n : ℕ) → msn_word n < 2 ^ 32
word_below n = omega arith

pub len_request : (sink at size stag to : ℕ) → length (word sink ++ (hyper at ++ (word size ++ (word stag ++ hyper to)))) ≡ 28
len_request sink at size stag to =
    omega (
      arith,
      length-append (word sink) (hyper at ++ (word size ++ (word stag ++ hyper to))),
      length-append (hyper at) (word size ++ (word stag ++ hyper to)),
      length-append (word size) (word stag ++ hyper to),
      length-append (word stag) (hyper to),
      length_word sink,
      length_hyper at,
      length_word size,
      length_word stag,
      length_hyper to,
    )

proper_last : (n : ℕ) (message : SentMessage) (named : Option ℕ) → message.offset < 2 ^ 32 → length message.payload ≤ segment_max → IsStagWord named
    → IsWord (Untagged true (send_opcode named) (send_word named true) QUEUE_SEND (msn_word (n + 1)) message.offset message.payload)
proper_last n message None offset short word = record { supported = (refl, refl); fits = (lit< tt, lit< tt, lit< tt, word_below (n + 1), offset); size = omega (arith, short) }
proper_last n message (Some stag) offset short word = record { supported = (refl, refl); fits = (lit< tt, word, lit< tt, word_below (n + 1), offset); size = omega (arith, short) }

pub proper_one : (n r : ℕ) (p : FrameContent) → IsWritable p → IsWritableAs Fpdu (written_segment n r p)
proper_one n r HelloFrame h = absurd h
proper_one n r (PartFrame true offset payload) h = record { supported = (refl, refl); fits = (lit< tt, lit< tt, lit< tt, word_below (n + 1), h.0); size = omega (arith, h.1) }
proper_one n r (PartFrame false offset payload) h = record { supported = (refl, refl); fits = (lit< tt, lit< tt, lit< tt, word_below (n + 1), h.0); size = omega (arith, h.1) }
proper_one n r (SendFrame message) h = proper_last n message message.named h.0 h.1 h.2
proper_one n r (RequestFrame sink at size stag to) h =
    record { supported = (refl, refl); fits = (lit< tt, lit< tt, lit< tt, word_below (r + 1), lit< tt); size = omega (arith, len_request sink at size stag to) }
proper_one n r (TaggedFrame last opcode stag to payload) h = record { supported = h.0; fits = (h.1, h.2, h.3); size = omega (arith, h.4) }

pub all_proper : (n r : ℕ) (ps : List FrameContent) → AreWritable ps → AreWritableFrom Fpdu n r ps
all_proper n r [] h = tt
all_proper n r (p ∷ ps) h = (proper_one n r p h.0, all_proper (n + sends_in p) (r + requests_in p) ps h.1)

pub stream_proper : (side : Side) (ps : List FrameContent) → IsOutput ps → AreWritableFrom (HelloFrom side) 0 0 ps
stream_proper side [] h = tt
stream_proper side (HelloFrame ∷ ps) h = (tt, all_proper 0 0 ps h)
stream_proper side (PartFrame named offset payload ∷ ps) h = absurd h
stream_proper side (SendFrame message ∷ ps) h = absurd h
stream_proper side (RequestFrame sink at size stag to ∷ ps) h = absurd h
stream_proper side (TaggedFrame last opcode stag to payload ∷ ps) h = absurd h

-- ---- Joined, and parts of them

pub all_proper_append : (ps qs : List FrameContent) → AreWritable ps → AreWritable qs → AreWritable (ps ++ qs)
all_proper_append [] qs h k = k
all_proper_append (p ∷ ps) qs h k = (h.0, all_proper_append ps qs h.1 k)

pub all_proper_left : (ps qs : List FrameContent) → AreWritable (ps ++ qs) → AreWritable ps
all_proper_left [] qs h = tt
all_proper_left (p ∷ ps) qs h = (h.0, all_proper_left ps qs h.1)

all_proper_at : (ps : List FrameContent) (p : FrameContent) (qs : List FrameContent) → AreWritable (ps ++ p ∷ qs) → IsWritable p
all_proper_at [] p qs h = h.0
all_proper_at (x ∷ ps) p qs h = all_proper_at ps p qs h.1

pub stream_left : (ps qs : List FrameContent) → IsOutput (ps ++ qs) → IsOutput ps
stream_left [] qs h = tt
stream_left (HelloFrame ∷ ps) qs h = all_proper_left ps qs h
stream_left (PartFrame named offset payload ∷ ps) qs h = h
stream_left (SendFrame message ∷ ps) qs h = h
stream_left (RequestFrame sink at size stag to ∷ ps) qs h = h
stream_left (TaggedFrame last opcode stag to payload ∷ ps) qs h = h

-- after a hello more may come
pub stream_more : (ps qs : List FrameContent) → IsOutput ps → 0 < total_of hellos_in ps → AreWritable qs → IsOutput (ps ++ qs)
stream_more [] qs h some k = absurd (omega (arith, some))
stream_more (HelloFrame ∷ ps) qs h some k = all_proper_append ps qs h k
stream_more (PartFrame named offset payload ∷ ps) qs h some k = h
stream_more (SendFrame message ∷ ps) qs h some k = h
stream_more (RequestFrame sink at size stag to ∷ ps) qs h some k = h
stream_more (TaggedFrame last opcode stag to payload ∷ ps) qs h some k = h

-- if none is, nothing is
pub stream_none : (ps : List FrameContent) → IsOutput ps → total_of hellos_in ps ≡ 0 → ps ≡ []
stream_none [] h none = refl
stream_none (HelloFrame ∷ ps) h none = absurd (omega (arith, none))
stream_none (PartFrame named offset payload ∷ ps) h none = absurd h
stream_none (SendFrame message ∷ ps) h none = absurd h
stream_none (RequestFrame sink at size stag to ∷ ps) h none = absurd h
stream_none (TaggedFrame last opcode stag to payload ∷ ps) h none = absurd h

-- the first one is the hello, and each after it is another
pub stream_first : (p : FrameContent) (qs : List FrameContent) → IsOutput (p ∷ qs) → p ≡ HelloFrame
stream_first HelloFrame qs h = refl
stream_first (PartFrame named offset payload) qs h = absurd h
stream_first (SendFrame message) qs h = absurd h
stream_first (RequestFrame sink at size stag to) qs h = absurd h
stream_first (TaggedFrame last opcode stag to payload) qs h = absurd h

pub stream_at_lem : (q : FrameContent) (ps : List FrameContent) (p : FrameContent) (qs : List FrameContent) → IsOutput (q ∷ ps ++ p ∷ qs) → IsWritable p
stream_at_lem HelloFrame ps p qs h = all_proper_at ps p qs h
stream_at_lem (PartFrame named offset payload) ps p qs h = absurd h
stream_at_lem (SendFrame message) ps p qs h = absurd h
stream_at_lem (RequestFrame sink at size stag to) ps p qs h = absurd h
stream_at_lem (TaggedFrame last opcode stag to payload) ps p qs h = absurd h

-- ---- Segments of an access

pieces_from : (opcode stag to : ℕ) (bytes : List ℕ) (a n : ℕ) → is_tagged_opcode opcode ≡ true → opcode < 16 → stag < 2 ^ 32 → to < 2 ^ 64 → to + length bytes ≤ 2 ^ 64 → a + n ≤ segment_count bytes
    → AreWritable (map (tagged_frame opcode stag to bytes) (range_with_len a n))
pieces_from opcode stag to bytes a zero tagged small stags tos ends le = tt
pieces_from opcode stag to bytes a (suc n) tagged small stags tos ends le = (
  (tagged, small, stags, omega (arith, tos, ends, le), omega (arith, length-take segment_max (drop (segment_max * a) bytes))),
  pieces_from opcode stag to bytes (a + 1) n tagged small stags tos ends (omega (arith, le)),
)

pub tagged_proper : (opcode stag to : ℕ) (bytes : List ℕ) → is_tagged_opcode opcode ≡ true → opcode < 16 → stag < 2 ^ 32 → to < 2 ^ 64 → to + length bytes ≤ 2 ^ 64 → AreWritable (tagged_frames opcode stag to bytes)
unfolding tagged_frames
tagged_proper opcode stag to bytes tagged small stags tos ends = pieces_from opcode stag to bytes 0 (segment_count bytes) tagged small stags tos ends (omega arith)

-- ---- Segments of a message

parts_proper : (named : Option ℕ) (message : List ℕ) (k i : ℕ) → i + k ≤ segment_count message → length message ≤ 2 ^ 32 → AreWritable (map (part_frame named message) (range_with_len i k))
parts_proper named message zero i le short = tt
parts_proper named message (suc k) i le short = (
  (offset_word (length message) i (omega (arith, le)) short, payload_size message i),
  parts_proper named message k (i + 1) (omega (arith, le)) short,
)

pub send_proper : (named : Option ℕ) (message : List ℕ) → IsStagWord named → length message ≤ 2 ^ 32 → AreWritable (send_frames named message)
unfolding send_frames
send_proper named message word short =
    all_proper_append (map (part_frame named message) (range_with_len 0 (last_index message))) (SendFrame (last_part named message) ∷ []) (parts_proper named message (last_index message) 0 (omega arith) short)
    ((offset_word (length message) (last_index message) (omega arith) short, payload_size message (last_index message), word), tt)
