-- The hellos of a link (RFC 5044 section 7.1), by what its ends are opened with, and what they agree on.
use Rattle.std.specs.Prelude.{ℕ, List, drop}
use Rattle.nr_wire.specs.Constants.{HELLO_LEN}
use Rattle.nr_wire.specs.declared.hello.Side.TheVariants.{Initiator, Responder}
use Rattle.nr_link.specs.Frames.{Frame}
use Rattle.nr_link.specs.declared.agreement.Agreement.{Agreement}
use Rattle.nr_link.specs.declared.agreement.SideTerms.{SideTerms}
use Rattle.nr_link.specs.Agreement.{initiator_private, responder_private, agreement}
use Rattle.nr_link.specs.Output.{hello_with}
use Rattle.nr_reduce.specs.declared.mark.LinkParameters.{LinkParameters}

-- the private data of the client's hello
abbrev pub client_private : LinkParameters → List ℕ
client_private opened = initiator_private opened.client

-- the private data of a hello that isn't refused
abbrev pub private_of : Frame → List ℕ
private_of f = drop HELLO_LEN f.bytes

-- the server's, by the client's hello
abbrev pub server_private : LinkParameters → Frame → List ℕ
server_private opened f = responder_private opened.server (private_of f)

-- the client's hello, and the server's after the client's was received
unfoldable pub client_hello : LinkParameters → List ℕ
client_hello opened = hello_with Initiator (client_private opened)

unfoldable pub server_hello : LinkParameters → Frame → List ℕ
server_hello opened f = hello_with Responder (server_private opened f)

-- what a side agrees on after it received the other's hello
abbrev pub agreement_with : SideTerms → Frame → Agreement
agreement_with terms f = agreement (initiator_private terms) (private_of f)

unfoldable pub client_agreement : LinkParameters → Frame → Agreement
client_agreement opened f = agreement_with opened.client f

unfoldable pub server_agreement : LinkParameters → Frame → Agreement
server_agreement opened f = agreement (private_of f) (server_private opened f)
