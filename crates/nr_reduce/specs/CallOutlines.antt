-- A call as its head and its arguments, and a plan of it that owns no bytes.
use Rattle.std.specs.Prelude.{◌≡◌, ℕ, List, [], ◌++◌, length, take, Option, None, Some, option_map, Result, Ok, Err}
use Rattle.nr_rpc.specs.Reading.{call_of, target_of}
use Rattle.nr_reduce.specs.declared.fault.TooLarge.{TooLarge as CodeTooLarge}
use Rattle.nr_reduce.specs.declared.outline.Plan.{Plan}
use Rattle.nr_reduce.specs.declared.outline.ChunkLengths.{ChunkLengths}
use Rattle.nr_reduce.specs.declared.outline.ChunkLengths.TheVariants.{Own, Given}
use Rattle.nr_reduce.specs.declared.outline.ReadOutline.{ReadOutline}
use Rattle.nr_reduce.specs.declared.outline.Outline.{Outline}
use Rattle.nr_reduce.specs.declared.parts.CallParts.{CallParts}
use Rattle.nr_reduce.specs.Plans.{TooLarge, segments_for, given_region}

-- the payload of a call
abbrev pub parts_payload : CallParts → List ℕ
parts_payload p = p.head.now ++ p.args.now

-- the parts are those of a call: its head asks for this, and ends where its arguments begin
abbrev pub IsCall : CallParts → Type 0
IsCall p = (target_of (call_of (parts_payload p)) ≡ Some p.target) × (p.target.args_at ≡ length p.head.now)

-- the parts of a payload; it has none if it begins with no call head of RPC version 2
abbrev pub ArePartsOf : Option CallParts → List ℕ → Type 0
ArePartsOf None payload = target_of (call_of payload) ≡ None
ArePartsOf (Some p) payload = IsCall p × (parts_payload p ≡ payload)

-- the lengths of the segments of a chunk
abbrev pub lengths_of : ChunkLengths → List ℕ
lengths_of (Own len) = segments_for len
lengths_of (Given lengths) = lengths.now

abbrev pub chunk_lengths : Option ChunkLengths → Option (List ℕ)
chunk_lengths chunk = option_map lengths_of chunk

-- The plan of an outline: without a read chunk all bytes go inline, else those before its position, and its region has the bytes
-- from there on, as far as they go, and zeros after them.
abbrev pub outline_plan_by : List ℕ → Option ReadOutline → Option (List ℕ) → Option (List ℕ) → Plan
outline_plan_by payload None w r = record { inline = payload; read_at = None; read = []; region = []; write = w; reply = r }
outline_plan_by payload (Some c) w r = record {
  inline = take c.position payload;
  read_at = Some c.position;
  read = lengths_of c.lengths;
  region = given_region payload c.position c.len;
  write = w;
  reply = r;
}

abbrev pub outline_plan : List ℕ → Outline → Plan
outline_plan payload o = outline_plan_by payload o.read (chunk_lengths o.write) (chunk_lengths o.reply)

-- the answer is an outline of that plan, or the first limit that it exceeds
abbrev pub OutlineAnswers : List ℕ → Result Outline CodeTooLarge → Result Plan TooLarge → Type 0
OutlineAnswers payload (Ok o) planned = planned ≡ Ok (outline_plan payload o)
OutlineAnswers payload (Err e) planned = planned ≡ Err (record { need = e.need; room = e.room })
