-- What both sides of a link agree on by their hellos (RFC 5044 section 7.1): the maximum length of a Send in each direction, and whether a reply
-- is a Send with Invalidate. All of it is own.
use Rattle.std.specs.Prelude.{◌≡◌, ℕ, true, List, ◌∷◌, ◌++◌}
use Rattle.nr_wire.specs.declared.hello.Side.{Side}
use Rattle.nr_wire.specs.declared.hello.Side.TheVariants.{Initiator, Responder}
use Rattle.nr_link.specs.Frames.{Frame, is_hello}
use Rattle.nr_reduce.specs.declared.mark.Mark.{Mark}
use Rattle.nr_reduce.specs.declared.mark.LinkParameters.{LinkParameters}
use Rattle.nr_reduce.specs.Events.{RunEvent, events}
use Rattle.nr_reduce.specs.Events.RunEvent.{FrameReceived}
use Rattle.nr_reduce.specs.Hellos.{client_agreement, server_agreement}
use Rattle.nr_reduce.specs.Client.{has_same_sizes}
use Rattle.nr_reduce.specs.Run.{client, server}
use Rattle.nr_laws.specs.MatchedSoFar.{MatchedSoFar}
use Rattle.nr_laws.specs.Typed.{IsTyped}

-- a side received this hello
pub record ReceivedHello (link : ℕ) (side : Side) (run : List Mark) (f : Frame) : Type 0 where
  pub before : List RunEvent
  pub after : List RunEvent
  pub is : events link side run ≡ before ++ FrameReceived f ∷ after
  pub first : is_hello f ≡ true

-- On a matched link both sides agree on the same, each by its own terms and the other's hello.
abbrev pub SidesAgree : Type 0
SidesAgree = (opened : LinkParameters) (link : ℕ) (run : List Mark) (f g : Frame) → IsTyped run → MatchedSoFar opened link run →
    ReceivedHello link Initiator run f → ReceivedHello link Responder run g → client_agreement opened f ≡ server_agreement opened g

-- From its peer's hello on, each side plans and answers calls, and takes Sends, by what is agreed on. A client that was reopened ends if these
-- lengths aren't those that an earlier hello agreed on.
abbrev pub ClientGoesByAgreement : Type 0
ClientGoesByAgreement = (opened : LinkParameters) (link : ℕ) (run : List Mark) (f : Frame) → IsTyped run → MatchedSoFar opened link run → ReceivedHello link Initiator run f →
    has_same_sizes opened.agreed (client_agreement opened f) ≡ true →
    ((client opened link run).state.up_max ≡ (client_agreement opened f).up) × (((client opened link run).state.down_max ≡ (client_agreement opened f).down)
    × ((client opened link run).state.invalidates ≡ (client_agreement opened f).invalidates))

abbrev pub ServerGoesByAgreement : Type 0
ServerGoesByAgreement = (opened : LinkParameters) (link : ℕ) (run : List Mark) (g : Frame) → IsTyped run → MatchedSoFar opened link run → ReceivedHello link Responder run g →
    ((server opened link run).state.up_max ≡ (server_agreement opened g).up) × (((server opened link run).state.down_max ≡ (server_agreement opened g).down)
    × ((server opened link run).state.invalidates ≡ (server_agreement opened g).invalidates))
