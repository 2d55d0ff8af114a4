-- Frames that are complete, as they are read.
use Rattle.std.proofs.Common.{◌≡◌, ℕ, ◌+◌, ◌≤◌, true, false, List, [], ◌++◌, length, take, Some, None, Result, Ok, Err, refl, sym, ap, ◌∙◌, arith, length-append, Bool, cond}
use Rattle.std.proofs.lemmas.List.{append-nil, length-take}
use Rattle.std.specs.Result.{result_err}
use Rattle.nr_wire.specs.declared.hello.Side.{Side}
use Rattle.nr_wire.specs.declared.stream.Awaited.TheVariants.{Hello as HelloFrom, Fpdu}
use Rattle.nr_wire.specs.Hello.{hello_of}
use Rattle.nr_xdr.specs.Item.{word, hyper}
use Rattle.nr_wire.specs.Fields.{half_word}
use Rattle.nr_wire.specs.Segment.{Segment, segment_of, payload_in, Reads, ulpdu_size, fpdu_with, header, control, fpdu_len, fpdu_size}
use Rattle.nr_wire.specs.Segment.Segment.{Tagged, Untagged}
use Rattle.nr_wire.specs.Stream.{IsFrame}
use Rattle.nr_wire.specs.Next.{hello_in, segment_in, frame_answer}
use Rattle.nr_wire.specs.Next.Next.{Whole, More, Bad}
use Rattle.nr_wire.proofs.FrontFrame.{hello_in_frame, segment_in_frame_lem}
use Rattle.nr_wire.specs.Constants.{REASON_OPCODE}
use Rattle.nr_link.specs.Ending.{is_not_taken, segment_taken}

pub hello_answer_lem : (side : Side) (frame : List ℕ) → IsFrame (HelloFrom side) frame → hello_in side frame ≡ frame_answer (hello_of side frame) (length frame)
hello_answer_lem side frame is = ap (hello_in side) (sym (append-nil frame)) ∙ hello_in_frame side frame [] is

pub segment_answer_lem : (frame : List ℕ) → IsFrame Fpdu frame → segment_in frame ≡ frame_answer (segment_of frame) (length frame)
segment_answer_lem frame is = ap segment_in (sym (append-nil frame)) ∙ segment_in_frame_lem frame [] is

pub not_more_lem : {V : Type 0} (r : Result V ℕ) (len : ℕ) → More ≡ frame_answer r len → ⊥
not_more_lem (Ok value) len is = absurd cc
not_more_lem (Err reason) len is = absurd cc

pub no_reason_lem : {V : Type 0} (r : Result V ℕ) (value : V) (n len : ℕ) → Whole value n ≡ frame_answer r len → None ≡ result_err r
no_reason_lem (Ok v) value n len is = refl
no_reason_lem (Err reason) value n len is = absurd cc

pub that_reason : {V : Type 0} (r : Result V ℕ) (reason len : ℕ) → frame_answer r len ≡ Bad reason → Some reason ≡ result_err r
that_reason (Ok v) reason len is = absurd cc
that_reason (Err other) reason len is = cc

pub that_value : {V : Type 0} (r : Result V ℕ) (value : V) (n len : ℕ) → Whole value n ≡ frame_answer r len → Ok value ≡ r
that_value (Ok v) value n len is = cc
that_value (Err reason) value n len is = absurd cc

pub that_error : {V : Type 0} (r : Result V ℕ) (reason len : ℕ) → frame_answer r len ≡ Bad reason → Err reason ≡ r
that_error (Ok v) reason len is = absurd cc
that_error (Err other) reason len is = cc

pub that_len : {V : Type 0} (r : Result V ℕ) (value : V) (n len : ℕ) → Whole value n ≡ frame_answer r len → n ≡ len
that_len (Ok v) value n len is = cc
that_len (Err reason) value n len is = absurd cc

-- a frame is longer than its segment's payload
longer : (a b payload tail : List ℕ) → 1 ≤ length b → length payload + 1 ≤ length (a ++ b ++ payload ++ tail)
longer a b payload tail some = omega (arith, some, length-append (a ++ b ++ payload) tail, length-append (a ++ b) payload, length-append a b)

some_header : (reserved spare : ℕ) (segment : Segment) → 1 ≤ length (header reserved spare segment)
unfolding header
some_header reserved spare (Tagged last opcode stag to payload) = omega (arith, length-append (control reserved spare true last opcode ++ word stag) (hyper to), length-append (control reserved spare true last opcode) (word stag))
some_header reserved spare (Untagged last opcode w queue msn offset payload) =
    omega (arith, length-append (control reserved spare false last opcode ++ word w ++ word queue ++ word msn) (word offset), length-append (control reserved spare false last opcode ++ word w ++ word queue) (word msn), length-append (control reserved spare false last opcode ++ word w) (word queue), length-append (control reserved spare false last opcode) (word w))

pub longer_by : (reserved spare : ℕ) (tail : List ℕ) (segment : Segment) → length (payload_in segment) + 1 ≤ length (fpdu_with reserved spare tail segment)
longer_by reserved spare tail segment = longer (half_word (ulpdu_size segment)) (header reserved spare segment) (payload_in segment) tail (some_header reserved spare segment)

pub payload_within_lem : (frame : List ℕ) (len : ℕ) (segment : Segment) → Reads segment (take len frame) → length (payload_in segment) + 1 ≤ length frame
payload_within_lem frame len segment reads =
    let longer : length (payload_in segment) + 1 ≤ length (fpdu_with reads.reserved reads.spare reads.tail segment) = longer_by reads.reserved reads.spare reads.tail segment in
    let same : length (fpdu_with reads.reserved reads.spare reads.tail segment) ≡ length (take len frame) = ap (λ (bytes : List ℕ). length bytes) (sym reads.frame_is) in
    omega (arith, longer, same, length-take len frame)

-- ---- A Send with Invalidate, and a side that takes none

pub control_there : (frame : List ℕ) → IsFrame Fpdu frame → 4 ≤ length frame
unfolding fpdu_len fpdu_size
control_there frame is = omega (arith, is.len)

pub taken_lem : (b invalidates : Bool) (frame : List ℕ) (read : Result Segment ℕ) → read ≡ segment_of frame → is_not_taken invalidates frame read ≡ b
    → cond b (Err REASON_OPCODE) read ≡ segment_taken invalidates frame
unfolding segment_taken
taken_lem b invalidates frame read e is =
    let not_taken : b ≡ is_not_taken invalidates frame (segment_of frame) = sym is ∙ ap (is_not_taken invalidates frame) e in
    λ i. cond (not_taken i) (Err REASON_OPCODE) (e i)
