-- A stream (RFC 5044 sections 4 and 7): a hello, FPDUs, and a rest that is less than a frame. An FPDU ends at the length that
-- its length field gives, whatever else it holds. A hello ends after its private data, or after its first 20 bytes if these are
-- refused.
use Rattle.std.specs.Prelude.{◌≡◌, ℕ, ◌-◌, ◌≤◌, zero, suc, Bool, ◌&&◌, nat_lt, nat_le, if◌then◌else◌, List, [], ◌∷◌, ◌++◌, length, take, drop, ◌<◌}
use Rattle.std.specs.List.{concat}
use Rattle.nr_wire.specs.Constants.{HELLO_LEN, LENGTH_LEN}
use Rattle.nr_wire.specs.declared.stream.Awaited.{Awaited}
use Rattle.nr_wire.specs.declared.stream.Awaited.TheVariants.{Hello, Fpdu}
use Rattle.nr_wire.specs.Hello.{hello_len}
use Rattle.nr_wire.specs.Segment.{fpdu_len}

-- how many bytes of the awaited frame give its length
abbrev pub fields_len : Awaited → ℕ
fields_len (Hello side) = HELLO_LEN
fields_len Fpdu = LENGTH_LEN

-- the length of the awaited frame that these bytes begin
abbrev pub frame_len : Awaited → List ℕ → ℕ
frame_len (Hello side) bytes = hello_len side bytes
frame_len Fpdu bytes = fpdu_len bytes

-- the bytes begin with the complete awaited frame
unfoldable pub is_whole : Awaited → List ℕ → Bool
is_whole a bytes = nat_le (fields_len a) (length bytes) && nat_le (frame_len a bytes) (length bytes)

-- the bytes are exactly the awaited frame
pub record IsFrame (a : Awaited) (bytes : List ℕ) : Type 0 where
  pub fields : fields_len a ≤ length bytes
  pub len : frame_len a bytes ≡ length bytes

-- the bytes are less than the awaited frame: a proper prefix of one
pub record IsPartial (a : Awaited) (bytes : List ℕ) : Type 0 where
  pub more : List ℕ
  pub some : 0 < length more
  pub frame : IsFrame a (bytes ++ more)

-- how many more bytes the awaited frame needs: first those that give its length, then those of the complete frame
unfoldable pub bytes_needed : Awaited → List ℕ → ℕ
bytes_needed a rest = if nat_lt (length rest) (fields_len a) then fields_len a - length rest else frame_len a rest - length rest

-- what is awaited after these frames
abbrev pub awaited_after : Awaited → List (List ℕ) → Awaited
awaited_after a [] = a
awaited_after a (frame ∷ frames) = Fpdu

-- the first of them is the awaited frame, the others are FPDUs
abbrev pub AreFrames : Awaited → List (List ℕ) → Type 0
AreFrames a [] = Unit {0}
AreFrames a (frame ∷ frames) = IsFrame a frame × AreFrames Fpdu frames

-- the stream is these frames, and then less than a complete one
pub record Splits (a : Awaited) (stream : List ℕ) (frames : List (List ℕ)) (rest : List ℕ) : Type 0 where
  pub whole : stream ≡ concat frames ++ rest
  pub each : AreFrames a frames
  pub partial : IsPartial (awaited_after a frames) rest

-- the frames of a stream, cut from its front, and the rest
pub record Split : Type 0 where
  pub frames : List (List ℕ)
  pub rest : List ℕ

abbrev pub frame_then : List ℕ → Split → Split
frame_then frame s = record { frames = frame ∷ s.frames; rest = s.rest }

-- at most n frames
abbrev pub split_within : ℕ → Awaited → List ℕ → Split
split_within zero a bytes = record { frames = []; rest = bytes }
split_within (suc n) a bytes =
    if is_whole a bytes
    then frame_then (take (frame_len a bytes) bytes) (split_within n Fpdu (drop (frame_len a bytes) bytes))
    else record { frames = []; rest = bytes }

unfoldable pub split : Awaited → List ℕ → Split
split a bytes = split_within (length bytes) a bytes

-- a split with more frames before its own
abbrev pub frames_then : List (List ℕ) → Split → Split
frames_then frames s = record { frames = frames ++ s.frames; rest = s.rest }
