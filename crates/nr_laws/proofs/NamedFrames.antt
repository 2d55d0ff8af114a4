-- Which frames name an STag: those of the answer of an executed call alone, and only if the server names STags.
use Rattle.std.proofs.Common.{◌≡◌, ℕ, min, Bool, true, false, cond, eqb, List, [], ◌∷◌, ◌++◌, length, map, take, drop, Option, None, Some, refl, ap}
use Rattle.std.specs.Prelude.{is_some}
use Rattle.std.specs.List.{AllByRecursion, range_with_len}
use Rattle.nr_wire.specs.Constants.{OPCODE_WRITE}
use Rattle.nr_header.specs.declared.header.RdmaSegment.{RdmaSegment as Part}
use Rattle.nr_header.specs.declared.header.ChunkLists.{ChunkLists}
use Rattle.nr_link.specs.Output.{segment_count}
use Rattle.nr_reduce.specs.Holds.{Answer, answer_message, chunk_error, first_chunk, no_segments}
use Rattle.nr_reduce.specs.ServerState.{ServerState, PendingRead, credit_word}
use Rattle.nr_reduce.specs.ServerFrames.{FrameEffect}
use Rattle.nr_reduce.specs.Server.{newly_open_reads, stag_named}
use Rattle.nr_laws.proofs.Basics.{each_append}
use Rattle.nr_laws.proofs.FrameContents.{FrameContent, SentMessage, IsPlainContent, IsTaken, last_part, send_frames, errors_frames, request_frame, effect_frames, tagged_frame, tagged_frames, write_frames, answer_frames}
use Rattle.nr_laws.proofs.FrameContents.FrameContent.{PartFrame, SendFrame}
use Rattle.nr_laws.proofs.SendFrames.{each_send, each_sends}

-- one of no Send with Invalidate is taken by any side
pub is_taken : (b : Bool) (p : FrameContent) → IsPlainContent p → IsTaken b p
is_taken true p h = tt
is_taken false p h = h

pub all_taken : (b : Bool) (ps : List FrameContent) → AllByRecursion IsPlainContent ps → AllByRecursion (IsTaken b) ps
all_taken b [] h = tt
all_taken b (p ∷ ps) h = (is_taken b p h.0, all_taken b ps h.1)

-- ---- What a server sends for a frame

errors_plain : (messages : List (List ℕ)) → AllByRecursion IsPlainContent (errors_frames messages)
errors_plain messages = each_sends IsPlainContent (λ offset payload. refl) (λ (m : List ℕ). m) messages (by messages)
  where
    by : (ms : List (List ℕ)) → AllByRecursion (λ m. IsPlainContent (SendFrame (last_part None m))) ms
    by [] = tt
    by (m ∷ ms) = (refl, by ms)

reads_plain : (reads : List PendingRead) → AllByRecursion IsPlainContent (map request_frame reads)
reads_plain [] = tt
reads_plain (r ∷ reads) = (tt, reads_plain reads)

pub effect_taken : (b : Bool) (s : FrameEffect) → AllByRecursion (IsTaken b) (effect_frames s)
effect_taken b s = all_taken b (effect_frames s) (each_append IsPlainContent (errors_frames s.errors) (map request_frame (newly_open_reads s)) (errors_plain s.errors) (reads_plain (newly_open_reads s)))

-- ---- What it sends for an executed call

cuts_plain : (opcode stag to : ℕ) (bytes : List ℕ) (is : List ℕ) → AllByRecursion IsPlainContent (map (tagged_frame opcode stag to bytes) is)
cuts_plain opcode stag to bytes [] = tt
cuts_plain opcode stag to bytes (i ∷ is) = (tt, cuts_plain opcode stag to bytes is)

fills_plain : (chunk : List Part) (bytes : List ℕ) → AllByRecursion IsPlainContent (write_frames chunk bytes)
unfolding tagged_frames
fills_plain [] bytes = tt
fills_plain (p ∷ chunk) bytes =
    each_append IsPlainContent (cond (eqb (min p.length (length bytes)) 0) [] (tagged_frames OPCODE_WRITE p.handle p.offset (take p.length bytes))) (write_frames chunk (drop p.length bytes))
    (by (eqb (min p.length (length bytes)) 0)) (fills_plain chunk (drop p.length bytes))
  where
    by : (b : Bool) → AllByRecursion IsPlainContent (cond b [] (tagged_frames OPCODE_WRITE p.handle p.offset (take p.length bytes)))
    by true = tt
    by false = cuts_plain OPCODE_WRITE p.handle p.offset (take p.length bytes) (range_with_len 0 (segment_count (take p.length bytes)))

long_plain : (b : Bool) (chunk : List Part) (bytes : List ℕ) → AllByRecursion IsPlainContent (cond b (write_frames chunk bytes) [])
long_plain true chunk bytes = fills_plain chunk bytes
long_plain false chunk bytes = tt

part_taken : (b : Bool) (named : Option ℕ) → (is_some named ≡ true → b ≡ true) → (offset : ℕ) (payload : List ℕ) → IsTaken b (PartFrame (is_some named) offset payload)
part_taken true named h offset payload = tt
part_taken false None h offset payload = refl
part_taken false (Some stag) h offset payload = absurd (let wrong : false ≡ true = h refl in cc)

last_taken : (b : Bool) (m : SentMessage) → (is_some m.named ≡ true → b ≡ true) → IsTaken b (SendFrame m)
last_taken true m h = tt
last_taken false m h = by m.named refl
  where
    by : (o : Option ℕ) → m.named ≡ o → m.named ≡ None
    by None e = e
    by (Some stag) e = absurd (let wrong : false ≡ true = h (ap (λ (x : Option ℕ). is_some x) e) in cc)

send_taken : (b : Bool) (named : Option ℕ) (message : List ℕ) → (is_some named ≡ true → b ≡ true) → AllByRecursion (IsTaken b) (send_frames named message)
send_taken b named message h = each_send (IsTaken b) named (λ offset payload. part_taken b named h offset payload) message (last_taken b (last_part named message) h)

names_by : (invalidates : Bool) (offer : ChunkLists) → is_some (stag_named invalidates offer) ≡ true → invalidates ≡ true
names_by true offer h = refl
names_by false offer h = absurd cc

pub answer_taken : (b : Bool) (s : ServerState) (xid : ℕ) (offer : ChunkLists) (o : Option Answer) → (s.invalidates ≡ true → b ≡ true) → AllByRecursion (IsTaken b) (answer_frames s xid offer o)
answer_taken b s xid offer None h = send_taken b None (chunk_error xid (credit_word s)) (λ e. absurd cc)
answer_taken b s xid offer (Some a) h =
    let named = stag_named s.invalidates offer in
    let message = answer_message xid (credit_word s) offer a in
    let moved = write_frames (first_chunk offer.write) a.moved in
    let long = cond a.long (write_frames (no_segments offer.reply) a.stream) [] in
    each_append (IsTaken b) moved (long ++ send_frames named message) (all_taken b moved (fills_plain (first_chunk offer.write) a.moved))
    (each_append (IsTaken b) long (send_frames named message) (all_taken b long (long_plain a.long (no_segments offer.reply) a.stream)) (send_taken b named message (λ e. h (names_by s.invalidates offer e))))
