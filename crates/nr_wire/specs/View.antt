-- The values of the code, without their addresses.
use Rattle.std.specs.Prelude.{ℕ, Result, Ok, Err}
use Rattle.nr_wire.specs.declared.hello.Hello.{Hello as HelloFrame}
use Rattle.nr_wire.specs.declared.hello.NextHello.{NextHello}
use Rattle.nr_wire.specs.declared.hello.NextHello.TheVariants.{Whole as WholeHello, More as MoreHello, Bad as BadHello}
use Rattle.nr_wire.specs.declared.segment.Segment.{Segment as SegmentFrame}
use Rattle.nr_wire.specs.declared.segment.Segment.TheVariants.{Tagged as TaggedFrame, Untagged as UntaggedFrame}
use Rattle.nr_wire.specs.declared.segment.NextSegment.{NextSegment}
use Rattle.nr_wire.specs.declared.segment.NextSegment.TheVariants.{Whole as WholeSegment, More as MoreSegment, Bad as BadSegment}
use Rattle.nr_wire.specs.Hello.{Hello}
use Rattle.nr_wire.specs.Segment.{Segment}
use Rattle.nr_wire.specs.Segment.Segment.{Tagged, Untagged}
use Rattle.nr_wire.specs.Next.{Next}
use Rattle.nr_wire.specs.Next.Next.{Whole, More, Bad}

abbrev pub hello : HelloFrame → Hello
hello h = record { side = h.side; flags = h.flags; private = h.private.now }

abbrev pub segment : SegmentFrame → Segment
segment (TaggedFrame last opcode stag to payload) = Tagged last opcode stag to payload.now
segment (UntaggedFrame last opcode word queue msn offset payload) = Untagged last opcode word queue msn offset payload.now

abbrev pub next_hello : NextHello → Next Hello
next_hello (WholeHello h len) = Whole (hello h) len
next_hello MoreHello = More
next_hello (BadHello reason) = Bad reason

abbrev pub next_segment : NextSegment → Next Segment
next_segment (WholeSegment s len) = Whole (segment s) len
next_segment MoreSegment = More
next_segment (BadSegment reason) = Bad reason

-- the result, with its value seen by view
abbrev pub result_view : {X Y : Type 0} → (X → Y) → Result X ℕ → Result Y ℕ
result_view view (Ok x) = Ok (view x)
result_view view (Err reason) = Err reason
