-- The hellos that each side of a matched link receives are the first hellos of the other.
use Rattle.std.proofs.Common.{◌≡◌, ℕ, ◌<◌, true, false, List, [], ◌∷◌, ◌++◌, length, refl, sym, subst, ◌∙◌, arith}
use Rattle.nr_wire.specs.declared.hello.Side.{Side}
use Rattle.nr_wire.specs.declared.hello.Side.TheVariants.{Initiator}
use Rattle.nr_wire.specs.declared.stream.Awaited.TheVariants.{Hello as HelloFrom, Fpdu}
use Rattle.nr_link.specs.Frames.{is_hello, Frame}
use Rattle.nr_reduce.specs.declared.mark.Mark.{Mark}
use Rattle.nr_reduce.specs.declared.mark.LinkParameters.{LinkParameters}
use Rattle.nr_reduce.specs.Events.{RunEvent, events}
use Rattle.nr_reduce.specs.Events.RunEvent.{FrameReceived, CallSubmitted, MemoryRevoked, CallExecuted, QueueWritten, ServerTold}
use Rattle.nr_reduce.specs.EndRules.{EndMachine, EndState, next_end_state}
use Rattle.nr_wire.specs.declared.hello.Side.TheVariants.{Responder}
use Rattle.nr_laws.specs.Typed.{IsTyped}
use Rattle.nr_laws.specs.MatchedSoFar.{MatchedSoFar}
use Rattle.nr_laws.proofs.Outputs.{Output}
use Rattle.nr_laws.proofs.Outputs.Output.{AHello, ASegment}
use Rattle.nr_laws.proofs.Brought.{AreFrom, Brings}
use Rattle.nr_laws.proofs.EventOutputs.{GoesOn, place_after}
use Rattle.nr_laws.proofs.FirstHellos.{first_hello}
use Rattle.nr_laws.proofs.ExecutedCalls.{server_receives_of}

-- a hello has these bytes
abbrev pub HearsHello : List ℕ → RunEvent → Type 0
HearsHello bytes (FrameReceived f) = is_hello f ≡ true → f.bytes ≡ bytes
HearsHello bytes (CallSubmitted p a) = Unit {0}
HearsHello bytes (MemoryRevoked p xid) = Unit {0}
HearsHello bytes (CallExecuted e) = Unit {0}
HearsHello bytes (QueueWritten taken) = Unit {0}
HearsHello bytes (ServerTold what) = Unit {0}

abbrev pub HearHello : List ℕ → List RunEvent → Type 0
HearHello bytes [] = Unit {0}
HearHello bytes (e ∷ es) = HearsHello bytes e × HearHello bytes es

-- the first output, if there is one, is this hello
abbrev pub FirstIs : List ℕ → List Output → Type 0
FirstIs bytes [] = Unit {0}
FirstIs bytes (AHello hello ∷ outs) = hello ≡ bytes
FirstIs bytes (ASegment s ∷ outs) = Unit {0}

pub first_part : (bytes : List ℕ) (came left : List Output) → FirstIs bytes (came ++ left) → FirstIs bytes came
first_part bytes [] left h = tt
first_part bytes (AHello hello ∷ came) left h = h
first_part bytes (ASegment s ∷ came) left h = h

pub first_more : (bytes : List ℕ) (outs more : List Output) → 0 < length outs → FirstIs bytes outs → FirstIs bytes (outs ++ more)
first_more bytes [] more some h = absurd (omega (arith, some))
first_more bytes (AHello hello ∷ outs) more some h = h
first_more bytes (ASegment s ∷ outs) more some h = h

later_hear : (bytes : List ℕ) (es : List RunEvent) (came : List Output) → Brings es came → AreFrom Fpdu came → HearHello bytes es
later_hear bytes [] came b from = tt
later_hear bytes (FrameReceived f ∷ es) [] b from = absurd b
later_hear bytes (FrameReceived f ∷ es) (AHello hello ∷ came) b from = absurd from
later_hear bytes (FrameReceived f ∷ es) (ASegment s ∷ came) b from = ((λ is. absurd (let wrong : true ≡ false = sym is ∙ b.0.0 in cc)), later_hear bytes es came b.1 from.1)
later_hear bytes (CallSubmitted p a ∷ es) came b from = (tt, later_hear bytes es came b from)
later_hear bytes (MemoryRevoked p xid ∷ es) came b from = (tt, later_hear bytes es came b from)
later_hear bytes (CallExecuted e ∷ es) came b from = (tt, later_hear bytes es came b from)
later_hear bytes (QueueWritten taken ∷ es) came b from = (tt, later_hear bytes es came b from)
later_hear bytes (ServerTold what ∷ es) came b from = (tt, later_hear bytes es came b from)

pub brought_hello : (side : Side) (bytes : List ℕ) (es : List RunEvent) (came : List Output) → Brings es came → AreFrom (HelloFrom side) came → FirstIs bytes came → HearHello bytes es
brought_hello side bytes [] came b from first = tt
brought_hello side bytes (FrameReceived f ∷ es) [] b from first = absurd b
brought_hello side bytes (FrameReceived f ∷ es) (AHello hello ∷ came) b from first = ((λ is. b.0.1 ∙ first), later_hear bytes es came b.1 from.1)
brought_hello side bytes (FrameReceived f ∷ es) (ASegment s ∷ came) b from first = absurd from
brought_hello side bytes (CallSubmitted p a ∷ es) came b from first = (tt, brought_hello side bytes es came b from first)
brought_hello side bytes (MemoryRevoked p xid ∷ es) came b from first = (tt, brought_hello side bytes es came b from first)
brought_hello side bytes (CallExecuted e ∷ es) came b from first = (tt, brought_hello side bytes es came b from first)
brought_hello side bytes (QueueWritten taken ∷ es) came b from first = (tt, brought_hello side bytes es came b from first)
brought_hello side bytes (ServerTold what ∷ es) came b from first = (tt, brought_hello side bytes es came b from first)

-- ---- At one frame, and along the events

pub heard_at : (bytes : List ℕ) (before : List RunEvent) (f : Frame) (after : List RunEvent) → HearHello bytes (before ++ FrameReceived f ∷ after) → is_hello f ≡ true → f.bytes ≡ bytes
heard_at bytes [] f after h is = h.0 is
heard_at bytes (e ∷ before) f after h is = heard_at bytes before f after h.1 is

pub heard_along : {S : Type 0} (rules : EndMachine S) (Good : EndState S → RunEvent → Type 0) (bytes : List ℕ) (place : ℕ) (r : EndState S) (es : List RunEvent) → GoesOn rules Good place r es → HearHello bytes es
    → GoesOn rules (λ r e. Good r e × HearsHello bytes e) place r es
heard_along rules Good bytes place r [] g h = tt
heard_along rules Good bytes place r (e ∷ es) g h = (g.0, (g.1, h.0), heard_along rules Good bytes (place_after place e) (next_end_state rules r e) es g.2 h.1)

-- ---- What a server hears

pub server_hears : (opened : LinkParameters) (link : ℕ) (run : List Mark) → IsTyped run → MatchedSoFar opened link run → HearHello (first_hello opened Initiator) (events link Responder run)
server_hears opened link run typed far =
    let r = server_receives_of opened link run typed far.asked far.matched in
    let bytes : List ℕ = first_hello opened Initiator in
    brought_hello Initiator bytes (events link Responder run) r.came r.brings r.from (first_part bytes r.came r.left (subst (FirstIs bytes) (sym r.parts) refl))
