-- The hellos of a matched link, by what its sides were opened with, and how they are read.
use Rattle.std.proofs.Common.{◌≡◌, ℕ, List, drop, ap, ◌∙◌, arith}
use Rattle.nr_wire.specs.Constants.{HELLO_LEN}
use Rattle.nr_wire.specs.declared.hello.Side.{Side}
use Rattle.nr_wire.specs.declared.hello.Side.TheVariants.{Initiator, Responder}
use Rattle.nr_link.specs.Frames.{Frame}
use Rattle.nr_link.specs.Output.{hello_with}
use Rattle.nr_link.specs.Agreement.{responder_private}
use Rattle.nr_reduce.specs.declared.mark.LinkParameters.{LinkParameters}
use Rattle.nr_reduce.specs.Hellos.{client_hello, client_private, server_hello, server_private, private_of}
use Rattle.nr_reduce.proofs.PrivateData.{initiator_short, responder_short}
use Rattle.nr_laws.proofs.Brought.{IsHelloFrame, hello_is, hello_private}

-- the private data of the hello of each side, if the server received that of the client
abbrev pub first_private : LinkParameters → Side → List ℕ
first_private opened Initiator = client_private opened
first_private opened Responder = responder_private opened.server (client_private opened)

abbrev pub first_hello : LinkParameters → Side → List ℕ
first_hello opened Initiator = client_hello opened
first_hello opened Responder = hello_with Responder (first_private opened Responder)

pub client_hello_is : (opened : LinkParameters) → IsHelloFrame Initiator (client_hello opened)
unfolding client_hello
client_hello_is opened = hello_is Initiator (client_private opened) (omega (arith, initiator_short opened.client))

pub server_hello_is : (opened : LinkParameters) (f : Frame) → IsHelloFrame Responder (server_hello opened f)
unfolding server_hello
server_hello_is opened f = hello_is Responder (server_private opened f) (omega (arith, responder_short opened.server (private_of f)))

pub first_hello_is : (opened : LinkParameters) (side : Side) → IsHelloFrame side (first_hello opened side)
first_hello_is opened Initiator = client_hello_is opened
first_hello_is opened Responder = hello_is Responder (first_private opened Responder) (omega (arith, responder_short opened.server (client_private opened)))

-- the private data of the client's hello, and the server's hello by it
pub client_says : (opened : LinkParameters) → drop HELLO_LEN (client_hello opened) ≡ client_private opened
unfolding client_hello
client_says opened = hello_private Initiator (client_private opened)

pub first_of_server : (opened : LinkParameters) (f : Frame) → f.bytes ≡ first_hello opened Initiator → server_hello opened f ≡ first_hello opened Responder
unfolding server_hello
first_of_server opened f is =
    ap (λ (private : List ℕ). hello_with Responder (responder_private opened.server private))
    (ap (λ (bytes : List ℕ). drop HELLO_LEN bytes) is ∙ client_says opened)
