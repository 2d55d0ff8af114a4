-- A segment is read if and only if an FPDU encodes it, whatever its reserved bits, pad and CRC hold.
use Rattle.std.proofs.Common.{◌≡◌, ℕ, ◌+◌, ◌-◌, ◌/◌, ◌%◌, ◌^◌, ◌<◌, ◌≤◌, Bool, true, false, not, cond, eqb, ltb, List, ◌∷◌, ◌++◌, length, replicate, take, drop, Option, None, Some, Result, Ok, Err, refl, sym, ap, ◌∙◌, subst, ◌↔◌, arith}
use Rattle.std.proofs.lemmas.Bool.{ltb-false, le-ltb, eqb-true, eq-eqb, not-false, or_left, or_right}
use Rattle.std.proofs.lemmas.List.{take_at, take-append-drop, length-append, length-take-le, length-drop, drop_more, drop-drop, length-replicate}
use Rattle.std.specs.Prelude.{slice_index, ◌||◌}
use Rattle.std.proofs.lemmas.Bool.Decides.{nat_tests}
use Rattle.nr_xdr.specs.Item.{IsBytes, word, hyper}
use Rattle.nr_xdr.proofs.WordBytes.{IsBytes_take, IsBytes_drop, word_word_of, word_of_word, word_of_below, hyper_hyper_of, hyper_of_hyper, hyper_of_below}
use Rattle.nr_wire.specs.declared.stream.Awaited.TheVariants.{Fpdu}
use Rattle.nr_xdr.specs.Fields.{word_at}
use Rattle.nr_wire.specs.Constants.{ULPDU_MAX}
use Rattle.nr_wire.specs.Fields.{half_word, hyper_at}
use Rattle.nr_wire.specs.Hello.{value_unless}
use Rattle.nr_wire.specs.Segment.{Segment, Fits, IsSupported, Reads, flaw_by, frame_reason, segment_of, segment_by_form, is_tagged, is_last, ddp_version, rdmap_version, opcode_of, queue_of, queue_for, ulpdu_len, ulpdu_size, frame_payload, header, fpdu_with, tail_len, fpdu_size, fpdu_len, is_tagged_opcode, is_untagged_opcode, is_supported, is_of_other_form, is_of_other_queue, ddp_header_len, encoding}
use Rattle.nr_wire.specs.Segment.Segment.{Tagged, Untagged}
use Rattle.nr_wire.specs.Stream.{is_whole, IsFrame, IsPartial}
use Rattle.nr_wire.specs.Next.{Next, frame_answer, segment_in}
use Rattle.nr_wire.specs.Next.Next.{Whole, More, Bad}
use Rattle.nr_wire.proofs.HalfWords.{half_word_half_word_of, half_word_of_half_word, half_word_of_below}
use Rattle.nr_wire.proofs.Controls.{first_control, second_control, first_tagged, first_last, first_version, second_version, second_opcode, first_is, second_is}
use Rattle.nr_wire.proofs.Nexts.{answer, fine_from, more_iff, bad_iff}
use Rattle.nr_wire.proofs.FrontFrame.{front_frame}
use Rattle.nr_wire.proofs.Frames.{whole_from, partial_not_whole, partial_from, fpdu_holds, IsFrame_take}

-- the fields by which an FPDU is judged
record Judged (frame : List ℕ) (size : ℕ) (tagged : Bool) (opcode queue : ℕ) : Type 0 where
  size_is : ulpdu_len frame ≡ size
  tagged_is : is_tagged frame ≡ tagged
  ddp_is : ddp_version frame ≡ 1
  rdmap_is : rdmap_version frame ≡ 1
  opcode_is : opcode_of frame ≡ opcode
  queue_is : queue_of frame ≡ queue

flaw_is : (frame : List ℕ) (size : ℕ) (tagged : Bool) (opcode queue : ℕ) → Judged frame size tagged opcode queue → frame_reason frame ≡ flaw_by size tagged 1 1 opcode queue
unfolding frame_reason
flaw_is frame size tagged opcode queue j =
    λ i. flaw_by (j.size_is i) (j.tagged_is i) (j.ddp_is i) (j.rdmap_is i) (j.opcode_is i) (j.queue_is i)

abbrev judge : Bool → Bool → Bool → Bool → Option ℕ
judge short known other_form other_queue = cond short (Some 5) (cond (not known) (Some 8) (cond other_form (Some 9) (cond other_queue (Some 10) None)))

tagged_passes : (size opcode queue : ℕ) → 14 ≤ size → is_tagged_opcode opcode ≡ true → flaw_by size true 1 1 opcode queue ≡ None
tagged_passes size opcode queue le known =
    λ i. judge (le-ltb size 14 le i) (or_left (is_tagged_opcode opcode) (is_untagged_opcode opcode) known i) (not (known i)) false

untagged_other : (opcode : ℕ) → is_untagged_opcode opcode ≡ true → is_tagged_opcode opcode ≡ false
untagged_other opcode e = grind (arith, nat_tests, e)

untagged_known : (opcode : ℕ) → is_supported opcode ≡ true → is_tagged_opcode opcode ≡ false → is_untagged_opcode opcode ≡ true
untagged_known opcode known other = sym (ap (λ (b : Bool). b || is_untagged_opcode opcode) other) ∙ known

untagged_passes : (size opcode queue : ℕ) → 18 ≤ size → is_untagged_opcode opcode ≡ true → queue ≡ queue_for opcode → flaw_by size false 1 1 opcode queue ≡ None
untagged_passes size opcode queue le known q =
    λ i. judge (le-ltb size 18 le i) (or_right (is_tagged_opcode opcode) (is_untagged_opcode opcode) known i) (untagged_other opcode known i) (not (eq-eqb queue (queue_for opcode) q i))

-- a complete FPDU that holds a segment
record Says (frame : List ℕ) (segment : Segment) : Type 0 where
  said : segment_of frame ≡ Ok segment
  frame_is : IsFrame Fpdu frame

says_by : (frame : List ℕ) (segment : Segment) (tagged : Bool) → frame_reason frame ≡ None → is_tagged frame ≡ tagged → segment_by_form tagged frame ≡ segment → segment_of frame ≡ Ok segment
unfolding segment_of
says_by frame segment tagged flaw t value = λ i. value_unless (flaw i) ((ap (λ (b : Bool). segment_by_form b frame) t ∙ value) i)

tagged_says : (last : Bool) (opcode stag to : ℕ) (payload : List ℕ) (reserved spare : ℕ) (tail : List ℕ)
    → Fits (Tagged last opcode stag to payload) → 14 + length payload < 2 ^ 16 → is_tagged_opcode opcode ≡ true → reserved < 16 → spare < 4 → length tail ≡ tail_len (14 + length payload)
    → Says (fpdu_with reserved spare tail (Tagged last opcode stag to payload)) (Tagged last opcode stag to payload)
unfolding half_word header word hyper fpdu_len fpdu_size
tagged_says last opcode stag to payload reserved spare tail fits lt known r s tail_is =
    let segment = Tagged last opcode stag to payload in
    let frame = fpdu_with reserved spare tail segment in
    let n = 14 + length payload in
    let j : Judged frame n true opcode (queue_of frame) = record {
      size_is = half_word_of_half_word n lt;
      tagged_is = first_tagged reserved true last r;
      ddp_is = first_version reserved true last;
      rdmap_is = second_version spare opcode s fits.0;
      opcode_is = second_opcode spare opcode fits.0;
      queue_is = refl;
    } in
    let payload_is : frame_payload 14 frame ≡ payload = ap (λ (k : ℕ). take (k - 14) (payload ++ tail)) j.size_is ∙ take_at payload tail (n - 14) (omega arith) in
    let value : segment_by_form true frame ≡ segment =
    λ i. Tagged (first_last reserved true last r i) (j.opcode_is i) (word_of_word stag fits.1 i) (hyper_of_hyper to fits.2 i) (payload_is i) in
    let flaw = flaw_is frame n true opcode (queue_of frame) j ∙ tagged_passes n opcode (queue_of frame) (omega arith) known in
    record {
      said = says_by frame segment true flaw j.tagged_is value;
      frame_is = record {
        fields = omega arith;
        len = ap fpdu_size j.size_is ∙ omega (arith, length-append payload tail, tail_is);
      };
    }

untagged_says : (last : Bool) (opcode w queue msn offset : ℕ) (payload : List ℕ) (reserved spare : ℕ) (tail : List ℕ)
    → Fits (Untagged last opcode w queue msn offset payload) → 18 + length payload < 2 ^ 16 → is_untagged_opcode opcode ≡ true → queue ≡ queue_for opcode
    → reserved < 16 → spare < 4 → length tail ≡ tail_len (18 + length payload)
    → Says (fpdu_with reserved spare tail (Untagged last opcode w queue msn offset payload)) (Untagged last opcode w queue msn offset payload)
unfolding half_word header word fpdu_len fpdu_size
untagged_says last opcode w queue msn offset payload reserved spare tail fits lt known own r s tail_is =
    let segment = Untagged last opcode w queue msn offset payload in
    let frame = fpdu_with reserved spare tail segment in
    let n = 18 + length payload in
    let j : Judged frame n false opcode queue = record {
      size_is = half_word_of_half_word n lt;
      tagged_is = first_tagged reserved false last r;
      ddp_is = first_version reserved false last;
      rdmap_is = second_version spare opcode s fits.0;
      opcode_is = second_opcode spare opcode fits.0;
      queue_is = word_of_word queue fits.2;
    } in
    let payload_is : frame_payload 18 frame ≡ payload = ap (λ (k : ℕ). take (k - 18) (payload ++ tail)) j.size_is ∙ take_at payload tail (n - 18) (omega arith) in
    let value : segment_by_form false frame ≡ segment =
    λ i. Untagged (first_last reserved false last r i) (j.opcode_is i) (word_of_word w fits.1 i) (j.queue_is i) (word_of_word msn fits.3 i) (word_of_word offset fits.4 i) (payload_is i) in
    let flaw = flaw_is frame n false opcode queue j ∙ untagged_passes n opcode queue (omega arith) known own in
    record {
      said = says_by frame segment false flaw j.tagged_is value;
      frame_is = record {
        fields = omega arith;
        len = ap fpdu_size j.size_is ∙ omega (arith, length-append payload tail, tail_is);
      };
    }

says : (segment : Segment) (frame : List ℕ) → IsSupported segment → Reads segment frame → Says frame segment
says (Tagged last opcode stag to payload) frame through r =
    subst (λ (f : List ℕ). Says f (Tagged last opcode stag to payload)) (sym r.frame_is)
    (tagged_says last opcode stag to payload r.reserved r.spare r.tail r.fits (omega (arith, r.size)) through r.reserved_below r.spare_below r.tail_is)
says (Untagged last opcode w queue msn offset payload) frame through r =
    subst (λ (f : List ℕ). Says f (Untagged last opcode w queue msn offset payload)) (sym r.frame_is)
    (untagged_says last opcode w queue msn offset payload r.reserved r.spare r.tail r.fits (omega (arith, r.size)) through.0 through.1 r.reserved_below r.spare_below r.tail_is)

-- what is encoded so is read
pub segment_again : (segment : Segment) (frame more : List ℕ) → IsSupported segment → Reads segment frame → segment_in (frame ++ more) ≡ Whole segment (length frame)
unfolding segment_in
segment_again segment frame more through r =
    let s = says segment frame through r in
    let front = front_frame Fpdu frame more s.frame_is in
    λ i. cond (front.whole i) (frame_answer ((ap segment_of front.front ∙ s.said) i) (front.len i)) More

-- what a raw frame says, by itself
pub segment_of_again : (segment : Segment) (frame : List ℕ) → IsSupported segment → Reads segment frame → segment_of frame ≡ Ok segment
segment_of_again segment frame through r = (says segment frame through r).said

-- the numbers at their offsets
piece_word : (k : ℕ) (frame : List ℕ) → IsBytes frame → k + 4 ≤ length frame → drop k frame ≡ word (word_at k frame) ++ drop (k + 4) frame
piece_word k frame fits le =
    let front = take 4 (drop k frame) in
    let len : length front ≡ 4 = length-take-le 4 (drop k frame) (omega (arith, length-drop k frame)) in
    let encoded : front ≡ word (word_at k frame) = sym (word_word_of front len (IsBytes_take 4 (drop k frame) (IsBytes_drop k frame fits))) in
    sym (take-append-drop 4 (drop k frame)) ∙ (λ i. encoded i ++ drop-drop 4 k frame i)

piece_hyper : (k : ℕ) (frame : List ℕ) → IsBytes frame → k + 8 ≤ length frame → drop k frame ≡ hyper (hyper_at k frame) ++ drop (k + 8) frame
piece_hyper k frame fits le =
    let front = take 8 (drop k frame) in
    let len : length front ≡ 8 = length-take-le 8 (drop k frame) (omega (arith, length-drop k frame)) in
    let encoded : front ≡ hyper (hyper_at k frame) = sym (hyper_hyper_of front len (IsBytes_take 8 (drop k frame) (IsBytes_drop k frame fits))) in
    sym (take-append-drop 8 (drop k frame)) ∙ (λ i. encoded i ++ drop-drop 8 k frame i)

-- the length field and the two bytes after it
piece_opening : (frame : List ℕ) → IsBytes frame → 4 ≤ length frame → frame ≡ half_word (ulpdu_len frame) ++ (slice_index frame 2 ∷ slice_index frame 3 ∷ drop 4 frame)
piece_opening frame fits le =
    let len : length (take 2 frame) ≡ 2 = length-take-le 2 frame (omega arith) in
    let encoded : take 2 frame ≡ half_word (ulpdu_len frame) = sym (half_word_half_word_of (take 2 frame) len (IsBytes_take 2 frame fits)) in
    let cells : drop 2 frame ≡ slice_index frame 2 ∷ slice_index frame 3 ∷ drop 4 frame =
    drop_more frame 2 0 (omega arith) ∙ ap (λ (x : List ℕ). slice_index frame 2 ∷ x) (drop_more frame 3 0 (omega arith)) in
    sym (take-append-drop 2 frame) ∙ (λ i. encoded i ++ cells i)

word_below : (k : ℕ) (frame : List ℕ) → IsBytes frame → word_at k frame < 2 ^ 32
word_below k frame fits = word_of_below (take 4 (drop k frame)) (IsBytes_take 4 (drop k frame) (IsBytes_drop k frame fits))

hyper_below : (k : ℕ) (frame : List ℕ) → IsBytes frame → hyper_at k frame < 2 ^ 64
hyper_below k frame fits = hyper_of_below (take 8 (drop k frame)) (IsBytes_take 8 (drop k frame) (IsBytes_drop k frame fits))

-- the tests of an FPDU without a flaw
abbrev six : Bool → Bool → Bool → Bool → Bool → Bool → Option ℕ
six a b c d e f = cond a (Some 5) (cond (not b) (Some 6) (cond (not c) (Some 7) (cond (not d) (Some 8) (cond e (Some 9) (cond f (Some 10) None)))))

record Passed (a b c d e f : Bool) : Type 0 where
  short : a ≡ false
  ddp : b ≡ true
  rdmap : c ≡ true
  known : d ≡ true
  other_form : e ≡ false
  other_queue : f ≡ false

abbrev some : ℕ → Option ℕ
some n = Some n

passed : (a b c d e f : Bool) → six a b c d e f ≡ None → Passed a b c d e f
passed false true true true false false h = record { short = refl; ddp = refl; rdmap = refl; known = refl; other_form = refl; other_queue = refl }
passed false true true true false true h = absurd (let wrong : some 10 ≡ None = h in cc)
passed false true true true true f h = absurd (let wrong : some 9 ≡ None = h in cc)
passed false true true false e f h = absurd (let wrong : some 8 ≡ None = h in cc)
passed false true false d e f h = absurd (let wrong : some 7 ≡ None = h in cc)
passed false false c d e f h = absurd (let wrong : some 6 ≡ None = h in cc)
passed true b c d e f h = absurd (let wrong : some 5 ≡ None = h in cc)

passed_in : (frame : List ℕ) (tagged : Bool) → is_tagged frame ≡ tagged → frame_reason frame ≡ None
    → Passed (ltb (ulpdu_len frame) (ddp_header_len tagged)) (eqb (ddp_version frame) 1) (eqb (rdmap_version frame) 1) (is_supported (opcode_of frame)) (is_of_other_form tagged (opcode_of frame)) (is_of_other_queue tagged (opcode_of frame) (queue_of frame))
unfolding frame_reason
passed_in frame tagged t e =
    passed (ltb (ulpdu_len frame) (ddp_header_len tagged)) (eqb (ddp_version frame) 1) (eqb (rdmap_version frame) 1) (is_supported (opcode_of frame)) (is_of_other_form tagged (opcode_of frame)) (is_of_other_queue tagged (opcode_of frame) (queue_of frame))
    (sym (ap (λ (b : Bool). flaw_by (ulpdu_len frame) b (ddp_version frame) (rdmap_version frame) (opcode_of frame) (queue_of frame)) t) ∙ e)

-- the position of the payload
record Payload (n : ℕ) (frame : List ℕ) : Type 0 where
  len : n + length (frame_payload n frame) ≡ ulpdu_len frame
  tail_len_is : length (drop (ulpdu_len frame - n) (drop (2 + n) frame)) ≡ tail_len (n + length (frame_payload n frame))
  behind : drop (2 + n) frame ≡ frame_payload n frame ++ drop (ulpdu_len frame - n) (drop (2 + n) frame)

payload_there : (n : ℕ) (frame : List ℕ) → n ≤ ulpdu_len frame → IsFrame Fpdu frame → Payload n frame
unfolding fpdu_len fpdu_size
payload_there n frame le f =
    let size = ulpdu_len frame in
    let left = drop (2 + n) frame in
    let whole : length frame ≡ 2 + size + tail_len size = sym f.len in
    let left_len : length left ≡ size - n + tail_len size = omega (arith, length-drop (2 + n) frame) in
    let len : n + length (take (size - n) left) ≡ size = omega (arith, length-take-le (size - n) left (omega arith)) in
    record {
      len = len;
      tail_len_is = length-drop (size - n) left ∙ (let e : length left - (size - n) ≡ tail_len size = omega arith in e) ∙ ap tail_len (sym len);
      behind = sym (take-append-drop (size - n) left);
    }

record SegmentThere (segment : Segment) (frame : List ℕ) : Type 0 where
  through : IsSupported segment
  reads : Reads segment frame

tagged_there : (frame : List ℕ) → IsBytes frame → IsFrame Fpdu frame → is_tagged frame ≡ true → frame_reason frame ≡ None → SegmentThere (segment_by_form true frame) frame
unfolding half_word header word hyper
tagged_there frame fits f t e =
    let p = passed_in frame true t e in
    let le : 14 ≤ ulpdu_len frame = ltb-false _ _ p.short in
    let there = payload_there 14 frame le f in
    let payload = frame_payload 14 frame in
    let tail = drop (ulpdu_len frame - 14) (drop 16 frame) in
    let long : 16 ≤ length frame = omega (arith, fpdu_holds frame f) in
    let below : ulpdu_len frame < 2 ^ 16 = half_word_of_below (take 2 frame) (IsBytes_take 2 frame fits) in
    let first : slice_index frame 2 ≡ first_control (slice_index frame 2 / 4 % 16) true (is_last frame) =
    first_is (slice_index frame 2) (fits 2) (eqb-true _ _ p.ddp) ∙ ap (λ (b : Bool). first_control (slice_index frame 2 / 4 % 16) b (is_last frame)) t in
    let second : slice_index frame 3 ≡ second_control (slice_index frame 3 / 16 % 4) (opcode_of frame) =
    second_is (slice_index frame 3) (fits 3) (eqb-true _ _ p.rdmap) in
    let fields : drop 4 frame ≡ word (word_at 4 frame) ++ (hyper (hyper_at 8 frame) ++ (payload ++ tail)) =
    piece_word 4 frame fits (omega arith)
    ∙ ap (λ (x : List ℕ). word (word_at 4 frame) ++ x) (piece_hyper 8 frame fits (omega arith) ∙ ap (λ (x : List ℕ). hyper (hyper_at 8 frame) ++ x) there.behind) in
    record {
      through = not-false _ p.other_form;
      reads = record {
        fits = (omega arith, word_below 4 frame fits, hyper_below 8 frame fits);
        size = omega (arith, there.len);
        reserved = slice_index frame 2 / 4 % 16;
        reserved_below = omega arith;
        spare = slice_index frame 3 / 16 % 4;
        spare_below = omega arith;
        tail = tail;
        tail_is = there.tail_len_is;
        frame_is = piece_opening frame fits (omega arith) ∙ (λ i. half_word (sym there.len i) ++ (first i ∷ second i ∷ fields i));
      };
    }

untagged_there : (frame : List ℕ) → IsBytes frame → IsFrame Fpdu frame → is_tagged frame ≡ false → frame_reason frame ≡ None → SegmentThere (segment_by_form false frame) frame
unfolding half_word header word
untagged_there frame fits f t e =
    let p = passed_in frame false t e in
    let le : 18 ≤ ulpdu_len frame = ltb-false _ _ p.short in
    let there = payload_there 18 frame le f in
    let payload = frame_payload 18 frame in
    let tail = drop (ulpdu_len frame - 18) (drop 20 frame) in
    let long : 20 ≤ length frame = omega (arith, fpdu_holds frame f) in
    let below : ulpdu_len frame < 2 ^ 16 = half_word_of_below (take 2 frame) (IsBytes_take 2 frame fits) in
    let first : slice_index frame 2 ≡ first_control (slice_index frame 2 / 4 % 16) false (is_last frame) =
    first_is (slice_index frame 2) (fits 2) (eqb-true _ _ p.ddp) ∙ ap (λ (b : Bool). first_control (slice_index frame 2 / 4 % 16) b (is_last frame)) t in
    let second : slice_index frame 3 ≡ second_control (slice_index frame 3 / 16 % 4) (opcode_of frame) =
    second_is (slice_index frame 3) (fits 3) (eqb-true _ _ p.rdmap) in
    let fields : drop 4 frame ≡ word (word_at 4 frame) ++ (word (word_at 8 frame) ++ (word (word_at 12 frame) ++ (word (word_at 16 frame) ++ (payload ++ tail)))) =
    piece_word 4 frame fits (omega arith)
    ∙ ap (λ (x : List ℕ). word (word_at 4 frame) ++ x) (piece_word 8 frame fits (omega arith)
    ∙ ap (λ (x : List ℕ). word (word_at 8 frame) ++ x) (piece_word 12 frame fits (omega arith)
    ∙ ap (λ (x : List ℕ). word (word_at 12 frame) ++ x) (piece_word 16 frame fits (omega arith)
    ∙ ap (λ (x : List ℕ). word (word_at 16 frame) ++ x) there.behind))) in
    record {
      through = (untagged_known (opcode_of frame) p.known p.other_form, eqb-true _ _ (not-false _ p.other_queue));
      reads = record {
        fits = (omega arith, word_below 4 frame fits, word_below 8 frame fits, word_below 12 frame fits, word_below 16 frame fits);
        size = omega (arith, there.len);
        reserved = slice_index frame 2 / 4 % 16;
        reserved_below = omega arith;
        spare = slice_index frame 3 / 16 % 4;
        spare_below = omega arith;
        tail = tail;
        tail_is = there.tail_len_is;
        frame_is = piece_opening frame fits (omega arith) ∙ (λ i. half_word (sym there.len i) ++ (first i ∷ second i ∷ fields i));
      };
    }

there_by : (frame : List ℕ) (tagged : Bool) → IsBytes frame → IsFrame Fpdu frame → is_tagged frame ≡ tagged → frame_reason frame ≡ None → SegmentThere (segment_by_form tagged frame) frame
there_by frame true fits f t e = tagged_there frame fits f t e
there_by frame false fits f t e = untagged_there frame fits f t e

abbrev as_answer : List ℕ → Next Segment
as_answer bytes =
    let frame = take (fpdu_len bytes) bytes in
    answer (is_whole Fpdu bytes) (frame_reason frame) (segment_by_form (is_tagged frame) frame) (fpdu_len bytes)

segment_in_answer : (bytes : List ℕ) → segment_in bytes ≡ as_answer bytes
unfolding segment_in segment_of
segment_in_answer bytes = refl

-- what is read is encoded so
pub record SegmentFound (bytes : List ℕ) (segment : Segment) (len : ℕ) : Type 0 where
  pub through : IsSupported segment
  pub reads : Reads segment (take len bytes)
  pub within : len ≤ length bytes

pub segment_found : (bytes : List ℕ) (segment : Segment) (len : ℕ) → IsBytes bytes → segment_in bytes ≡ Whole segment len → SegmentFound bytes segment len
segment_found bytes segment len fits e =
    let size = fpdu_len bytes in
    let frame = take size bytes in
    let read = segment_by_form (is_tagged frame) frame in
    let f = fine_from (is_whole Fpdu bytes) (frame_reason frame) read segment size len (sym (segment_in_answer bytes) ∙ e) in
    let w = whole_from Fpdu bytes f.whole_is in
    let there = there_by frame (is_tagged frame) (IsBytes_take size bytes fits) (IsFrame_take Fpdu bytes w) refl f.flaw_is in
    let found : SegmentFound bytes read size = record { through = there.through; reads = there.reads; within = w.frame } in
    subst (λ (n : ℕ). SegmentFound bytes segment n) f.len_is (subst (λ (s : Segment). SegmentFound bytes s size) f.value_is found)

pub segment_more : (bytes : List ℕ) → (segment_in bytes ≡ More) ↔ IsPartial Fpdu bytes
segment_more bytes =
    let frame = take (fpdu_len bytes) bytes in
    let iff : (as_answer bytes ≡ More) ↔ (is_whole Fpdu bytes ≡ false) = more_iff (is_whole Fpdu bytes) (frame_reason frame) (segment_by_form (is_tagged frame) frame) (fpdu_len bytes) in
    let same = segment_in_answer bytes in (
      λ e. partial_from Fpdu bytes (iff.0 (sym same ∙ e)),
      λ p. same ∙ iff.1 (partial_not_whole Fpdu bytes p),
    )

pub segment_bad : (bytes : List ℕ) (reason : ℕ) → (segment_in bytes ≡ Bad reason) ↔ ((is_whole Fpdu bytes ≡ true) × (frame_reason (take (fpdu_len bytes) bytes) ≡ Some reason))
segment_bad bytes reason =
    let frame = take (fpdu_len bytes) bytes in
    rw (segment_in_answer bytes) (bad_iff (is_whole Fpdu bytes) (frame_reason frame) (segment_by_form (is_tagged frame) frame) (fpdu_len bytes) reason)

encoded_reads : (segment : Segment) → Fits segment → ulpdu_size segment ≤ ULPDU_MAX → Reads segment (encoding segment)
unfolding encoding
encoded_reads segment fits size = record {
  fits = fits;
  size = size;
  reserved = 0;
  reserved_below = omega arith;
  spare = 0;
  spare_below = omega arith;
  tail = replicate (tail_len (ulpdu_size segment)) 0;
  tail_is = length-replicate (tail_len (ulpdu_size segment)) 0;
  frame_is = refl;
}

-- what was encoded is read again
pub encoding_again : (segment : Segment) (more : List ℕ) → IsSupported segment → Fits segment → ulpdu_size segment ≤ ULPDU_MAX → segment_in (encoding segment ++ more) ≡ Whole segment (length (encoding segment))
encoding_again segment more through fits size = segment_again segment (encoding segment) more through (encoded_reads segment fits size)

abbrev done : Segment → Result Segment ℕ
done segment = Ok segment

abbrev failed : ℕ → Result Segment ℕ
failed reason = Err reason

ok_is : (a b : Segment) → done a ≡ done b → a ≡ b
ok_is a b e = cc

says_which : (frame : List ℕ) (segment : Segment) (flaw : Option ℕ) → value_unless flaw (segment_by_form (is_tagged frame) frame) ≡ Ok segment → (flaw ≡ None) × (segment_by_form (is_tagged frame) frame ≡ segment)
says_which frame segment None e = (refl, ok_is (segment_by_form (is_tagged frame) frame) segment e)
says_which frame segment (Some reason) e = absurd (let wrong : failed reason ≡ done segment = e in cc)

-- what a complete FPDU holds is what it reads as
pub segment_of_iff : (frame : List ℕ) (segment : Segment) → IsBytes frame → IsFrame Fpdu frame → (segment_of frame ≡ Ok segment) ↔ (IsSupported segment × Reads segment frame)
unfolding segment_of
segment_of_iff frame segment fits f = (
  λ e.
      let w = says_which frame segment (frame_reason frame) e in
      let there = there_by frame (is_tagged frame) fits f refl w.0 in
      subst (λ (s : Segment). IsSupported s × Reads s frame) w.1 (there.through, there.reads),
  λ p. segment_of_again segment frame p.0 p.1,
)
