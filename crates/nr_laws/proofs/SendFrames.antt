-- The frames of messages: what they count, that they are their segments in order, and what goes on from a Send that is begun.
use Rattle.std.proofs.Common.{◌≡◌, ℕ, zero, suc, ◌+◌, ◌*◌, ◌<◌, Bool, true, false, cond, eqb, List, [], ◌∷◌, ◌++◌, length, take, drop, map, Option, None, Some, refl, sym, ap, subst, ◌∙◌, arith, append_assoc, append-nil, length-take-le}
use Rattle.std.specs.Prelude.{min, is_some}
use Rattle.std.specs.List.{AllByRecursion, range_with_len}
use Rattle.nr_wire.specs.Constants.{OPCODE_WRITE}
use Rattle.nr_header.specs.declared.header.RdmaSegment.{RdmaSegment as Part}
use Rattle.nr_header.specs.declared.header.ChunkLists.{ChunkLists}
use Rattle.nr_link.specs.Limits.{segment_max}
use Rattle.nr_link.specs.Output.{segment_count, segment_payload}
use Rattle.nr_link.specs.ReceiveState.{begun_bytes}
use Rattle.nr_reduce.specs.Holds.{Answer, answer_message, chunk_error, first_chunk, no_segments}
use Rattle.nr_reduce.specs.ServerState.{ServerState, PendingRead, credit_word}
use Rattle.nr_reduce.specs.ServerFrames.{FrameEffect}
use Rattle.nr_reduce.specs.Server.{newly_open_reads, stag_named}
use Rattle.nr_laws.proofs.Basics.{each_append}
use Rattle.nr_laws.proofs.FrameContents.{FrameContent, SentMessage, total_of, sends_in, part_frame, last_part, last_index, send_frames, sends_frames, errors_frames, request_frame, effect_frames, tagged_frame, tagged_frames, write_frames, answer_frames}
use Rattle.nr_laws.proofs.FrameContents.FrameContent.{HelloFrame, PartFrame, SendFrame, RequestFrame, TaggedFrame}
use Rattle.nr_laws.proofs.LinkInvariants.{AreSends}
use Rattle.nr_laws.proofs.SegmentedMessages.{piece_starts, joined, all_joined}
use Rattle.nr_laws.proofs.Totals.{total_append, total_map_zero}

-- ---- Counts

pub send_counts : (one : FrameContent → ℕ) (n : ℕ) → ((named : Bool) (offset : ℕ) (payload : List ℕ) → one (PartFrame named offset payload) ≡ 0) → ((m : SentMessage) → one (SendFrame m) ≡ n) → (named : Option ℕ) (message : List ℕ) → total_of one (send_frames named message) ≡ n
unfolding send_frames
send_counts one n none is named message =
    let parts = map (part_frame named message) (range_with_len 0 (last_index message)) in
    total_append one parts (SendFrame (last_part named message) ∷ [])
    ∙ omega (arith, total_map_zero one (part_frame named message) (range_with_len 0 (last_index message)) (λ i. none (is_some named) (segment_max * i) (segment_payload message i)), is (last_part named message))

pub sends_zero : {X : Type 0} (one : FrameContent → ℕ) (f : X → List ℕ) (xs : List X) → ((named : Bool) (offset : ℕ) (payload : List ℕ) → one (PartFrame named offset payload) ≡ 0) → ((m : SentMessage) → one (SendFrame m) ≡ 0) → total_of one (sends_frames f xs) ≡ 0
sends_zero one f [] none is = refl
sends_zero one f (x ∷ xs) none is =
    total_append one (send_frames None (f x)) (sends_frames f xs) ∙ omega (arith, send_counts one 0 none is None (f x), sends_zero one f xs none is)

pub sends_one : {X : Type 0} (one : FrameContent → ℕ) (f : X → List ℕ) (xs : List X) → ((named : Bool) (offset : ℕ) (payload : List ℕ) → one (PartFrame named offset payload) ≡ 0) → ((m : SentMessage) → one (SendFrame m) ≡ 1) → total_of one (sends_frames f xs) ≡ length xs
sends_one one f [] none is = refl
sends_one one f (x ∷ xs) none is =
    total_append one (send_frames None (f x)) (sends_frames f xs) ∙ omega (arith, send_counts one 1 none is None (f x), sends_one one f xs none is)

-- ---- What holds of each

pub each_send : (P : FrameContent → Type 0) (named : Option ℕ) → ((offset : ℕ) (payload : List ℕ) → P (PartFrame (is_some named) offset payload)) → (message : List ℕ) → P (SendFrame (last_part named message)) → AllByRecursion P (send_frames named message)
unfolding send_frames
each_send P named parts message last = each_append P (map (part_frame named message) (range_with_len 0 (last_index message))) (SendFrame (last_part named message) ∷ []) (by (range_with_len 0 (last_index message))) (last, tt)
  where
    by : (is : List ℕ) → AllByRecursion P (map (part_frame named message) is)
    by [] = tt
    by (i ∷ is) = (parts (segment_max * i) (segment_payload message i), by is)

pub each_sends : {X : Type 0} (P : FrameContent → Type 0) → ((offset : ℕ) (payload : List ℕ) → P (PartFrame false offset payload)) → (f : X → List ℕ) (xs : List X) → AllByRecursion (λ x. P (SendFrame (last_part None (f x)))) xs → AllByRecursion P (sends_frames f xs)
each_sends P parts f [] h = tt
each_sends P parts f (x ∷ xs) h = each_append P (send_frames None (f x)) (sends_frames f xs) (each_send P None parts (f x) h.0) (each_sends P parts f xs h.1)

-- ---- Segments in order

starts_at : (message : List ℕ) (i : ℕ) (begun : Option (List ℕ)) → i < segment_count message → begun_bytes begun ≡ take (segment_max * i) message → segment_max * i ≡ length (begun_bytes begun)
starts_at message i begun lt front = sym (ap (λ (xs : List ℕ). length xs) front ∙ length-take-le (segment_max * i) message (piece_starts (length message) i lt))

sends_from : (named : Option ℕ) (message : List ℕ) (k i : ℕ) (begun : Option (List ℕ)) → i + k ≡ last_index message → begun_bytes begun ≡ take (segment_max * i) message
    → AreSends begun (map (part_frame named message) (range_with_len i k) ++ SendFrame (last_part named message) ∷ [])
sends_from named message zero i begun all front =
    let last : last_index message ≡ i = omega (arith, all) in (
      ap (λ (n : ℕ). segment_max * n) last ∙ starts_at message i begun (omega (arith, all)) front,
      ap (λ (n : ℕ). begun_bytes begun ++ segment_payload message n) last ∙ all_joined message i (begun_bytes begun) front (omega (arith, all)),
      refl,
    )
sends_from named message (suc k) i begun all front = (
  starts_at message i begun (omega (arith, all)) front,
  sends_from named message k (i + 1) (Some (begun_bytes begun ++ segment_payload message i)) (omega (arith, all)) (joined message i (begun_bytes begun) front),
)

pub are_sends : (named : Option ℕ) (message : List ℕ) → AreSends None (send_frames named message)
unfolding send_frames
are_sends named message = sends_from named message (last_index message) 0 None (omega arith) refl

pub sends_append : (begun : Option (List ℕ)) (ps qs : List FrameContent) → AreSends begun ps → AreSends None qs → AreSends begun (ps ++ qs)
sends_append begun [] qs h k = subst (λ (b : Option (List ℕ)). AreSends b qs) (sym h) k
sends_append begun (HelloFrame ∷ ps) qs h k = sends_append begun ps qs h k
sends_append begun (PartFrame named offset payload ∷ ps) qs h k = (h.0, sends_append (Some (begun_bytes begun ++ payload)) ps qs h.1 k)
sends_append begun (SendFrame message ∷ ps) qs h k = (h.0, h.1, sends_append None ps qs h.2 k)
sends_append begun (RequestFrame sink at size stag to ∷ ps) qs h k = sends_append begun ps qs h k
sends_append begun (TaggedFrame last opcode stag to payload ∷ ps) qs h k = sends_append begun ps qs h k

pub are_all_sends : {X : Type 0} (f : X → List ℕ) (xs : List X) → AreSends None (sends_frames f xs)
are_all_sends f [] = refl
are_all_sends f (x ∷ xs) = sends_append None (send_frames None (f x)) (sends_frames f xs) (are_sends None (f x)) (are_all_sends f xs)

-- the last segment of a Send that is begun is there
pub send_goes_on : (bytes : List ℕ) (ps : List FrameContent) → AreSends (Some bytes) ps → 0 < total_of sends_in ps
send_goes_on bytes [] h = absurd (let wrong : Some bytes ≡ None = h in cc)
send_goes_on bytes (HelloFrame ∷ ps) h = omega (arith, send_goes_on bytes ps h)
send_goes_on bytes (PartFrame named offset payload ∷ ps) h = omega (arith, send_goes_on (bytes ++ payload) ps h.1)
send_goes_on bytes (SendFrame message ∷ ps) h = omega arith
send_goes_on bytes (RequestFrame sink at size stag to ∷ ps) h = omega (arith, send_goes_on bytes ps h)
send_goes_on bytes (TaggedFrame last opcode stag to payload ∷ ps) h = omega (arith, send_goes_on bytes ps h)

-- ---- Frames without a segment of a Send

pub reads_sends : (reads : List PendingRead) → AreSends None (map request_frame reads)
reads_sends [] = refl
reads_sends (r ∷ reads) = reads_sends reads

pub tagged_sends : (opcode stag to : ℕ) (bytes : List ℕ) → AreSends None (tagged_frames opcode stag to bytes)
unfolding tagged_frames
tagged_sends opcode stag to bytes = by (range_with_len 0 (segment_count bytes))
  where
    by : (is : List ℕ) → AreSends None (map (tagged_frame opcode stag to bytes) is)
    by [] = refl
    by (i ∷ is) = by is

fills_sends : (chunk : List Part) (bytes : List ℕ) → AreSends None (write_frames chunk bytes)
fills_sends [] bytes = refl
fills_sends (p ∷ chunk) bytes =
    sends_append None (cond (eqb (min p.length (length bytes)) 0) [] (tagged_frames OPCODE_WRITE p.handle p.offset (take p.length bytes))) (write_frames chunk (drop p.length bytes))
    (by (eqb (min p.length (length bytes)) 0)) (fills_sends chunk (drop p.length bytes))
  where
    by : (b : Bool) → AreSends None (cond b [] (tagged_frames OPCODE_WRITE p.handle p.offset (take p.length bytes)))
    by true = refl
    by false = tagged_sends OPCODE_WRITE p.handle p.offset (take p.length bytes)

-- ---- What a server sends

pub effect_sends : (st : FrameEffect) → AreSends None (effect_frames st)
effect_sends st = sends_append None (errors_frames st.errors) (map request_frame (newly_open_reads st)) (are_all_sends (λ (m : List ℕ). m) st.errors) (reads_sends (newly_open_reads st))

pub answer_sends : (s : ServerState) (xid : ℕ) (offer : ChunkLists) (a : Option Answer) → AreSends None (answer_frames s xid offer a)
answer_sends s xid offer None = are_sends None (chunk_error xid (credit_word s))
answer_sends s xid offer (Some a) =
    let long = cond a.long (write_frames (no_segments offer.reply) a.stream) [] in
    let message = send_frames (stag_named s.invalidates offer) (answer_message xid (credit_word s) offer a) in
    sends_append None (write_frames (first_chunk offer.write) a.moved) (long ++ message) (fills_sends (first_chunk offer.write) a.moved)
    (sends_append None long message (by a.long) (are_sends (stag_named s.invalidates offer) (answer_message xid (credit_word s) offer a)))
  where
    by : (b : Bool) → AreSends None (cond b (write_frames (no_segments offer.reply) a.stream) [])
    by true = fills_sends (no_segments offer.reply) a.stream
    by false = refl

-- ---- What is queued, and written

pub queued_more : (begun : Option (List ℕ)) (ps qs said : List FrameContent) → AreSends begun (ps ++ qs) → AreSends None said → AreSends begun (ps ++ (qs ++ said))
queued_more begun ps qs said h k = subst (AreSends begun) (append_assoc ps qs said) (sends_append begun (ps ++ qs) said h k)

pub none_queued : (begun : Option (List ℕ)) (ps : List FrameContent) → AreSends begun ps → AreSends begun (ps ++ [])
none_queued begun ps h = subst (AreSends begun) (sym (append-nil ps)) h

pub at_front : (begun : Option (List ℕ)) (ps qs : List FrameContent) (p : FrameContent) (rest : List FrameContent) → ps ≡ p ∷ rest → AreSends begun (ps ++ qs) → AreSends begun (p ∷ rest ++ qs)
at_front begun ps qs p rest first h = subst (λ (xs : List FrameContent). AreSends begun (xs ++ qs)) first h
