-- What the next bytes of a stream begin with.
use Rattle.std.specs.Prelude.{ℕ, if◌then◌else◌, List, take, Result, Ok, Err}
use Rattle.nr_wire.specs.declared.hello.Side.{Side}
use Rattle.nr_wire.specs.declared.stream.Awaited.TheVariants.{Hello as HelloFrom, Fpdu}
use Rattle.nr_wire.specs.Hello.{Hello, hello_of, hello_len}
use Rattle.nr_wire.specs.Segment.{Segment, segment_of, fpdu_len}
use Rattle.nr_wire.specs.Stream.{is_whole}

-- a complete frame, with its value and its length; less than a complete frame; or a complete frame that is refused for
-- a reason
pub data Next (V : Type 0) : Type 0 where
  Whole : (value : V) → (len : ℕ) → Next V
  More : Next V
  Bad : (reason : ℕ) → Next V

-- a fact about the value and the length of a complete frame
abbrev pub IfWhole : {V : Type 0} → Next V → (V → ℕ → Type 0) → Type 0
IfWhole (Whole value len) P = P value len
IfWhole More P = Unit {0}
IfWhole (Bad reason) P = Unit {0}

-- the answer for a complete frame of this length, from its value or the reason against it
abbrev pub frame_answer : {V : Type 0} → Result V ℕ → ℕ → Next V
frame_answer (Ok value) len = Whole value len
frame_answer (Err reason) len = Bad reason

-- the hello of this side at the front of the bytes
unfoldable pub hello_in : Side → List ℕ → Next Hello
hello_in side bytes =
    if is_whole (HelloFrom side) bytes then frame_answer (hello_of side (take (hello_len side bytes) bytes)) (hello_len side bytes) else More

-- the segment at the front of the bytes
unfoldable pub segment_in : List ℕ → Next Segment
segment_in bytes =
    if is_whole Fpdu bytes then frame_answer (segment_of (take (fpdu_len bytes) bytes)) (fpdu_len bytes) else More
