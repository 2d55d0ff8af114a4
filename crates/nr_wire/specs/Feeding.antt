-- Feeding: the bytes of a stream come piece by piece, and each complete frame advances a state of the layer above.
use Rattle.std.specs.Prelude.{ℕ, ◌-◌, Bool, if◌then◌else◌, List, [], ◌∷◌, ◌++◌, length, take}
use Rattle.nr_wire.specs.declared.stream.Awaited.{Awaited}
use Rattle.nr_wire.specs.declared.stream.Awaited.TheVariants.{Fpdu}
use Rattle.nr_wire.specs.Stream.{split, is_whole, frame_len}

-- the awaited frame, the bytes of it that have come, and the state after the frames before it
pub record Feeding (S : Type 0) : Type 0 where
  pub awaited : Awaited
  pub rest : List ℕ
  pub state : S

-- ended says of a state that it takes no more frames, advanced is the state after one more frame
module _ {S : Type 0} (ended : S → Bool) (advanced : S → Awaited → List ℕ → S) where
  -- the feeding in this state: an ended state keeps no bytes
  abbrev pub feeding_in : Awaited → List ℕ → S → Feeding S
  feeding_in a rest state = record { awaited = a; rest = if ended state then [] else rest; state = state }

  -- after these frames, which come one after the other until the state has ended, and this rest
  abbrev pub feeding_after_frames : List (List ℕ) → List ℕ → Awaited → S → Feeding S
  feeding_after_frames [] rest a state = feeding_in a rest state
  feeding_after_frames (frame ∷ frames) rest a state =
      if ended state then feeding_in a [] state else feeding_after_frames frames rest Fpdu (advanced state a frame)

  -- after more bytes
  unfoldable pub feeding_after : Feeding S → List ℕ → Feeding S
  feeding_after f bytes =
      let s = split f.awaited (f.rest ++ bytes) in
      feeding_after_frames s.frames s.rest f.awaited f.state

  -- After one step on a piece: it goes up to the end of the awaited frame if the piece completes that, else over all of it.
  -- An ended state doesn't change and keeps no bytes.
  abbrev pub feeding_step : Feeding S → List ℕ → Feeding S
  feeding_step f bytes =
      if is_whole f.awaited bytes
      then record { awaited = Fpdu; rest = []; state = advanced f.state f.awaited (take (frame_len f.awaited bytes) bytes) }
      else record { awaited = f.awaited; rest = bytes; state = f.state }

  unfoldable pub feeding_after_step : Feeding S → List ℕ → Feeding S
  feeding_after_step f piece =
      if ended f.state then feeding_in f.awaited [] f.state else feeding_step f (f.rest ++ piece)

-- how many bytes of a piece that step takes, if the awaited frame is a, of which rest has come
unfoldable pub bytes_taken : Awaited → List ℕ → List ℕ → ℕ
bytes_taken a rest piece = if is_whole a (rest ++ piece) then frame_len a (rest ++ piece) - length rest else length piece
