-- What is agreed on a side, after any calls.
use Rattle.std.specs.Prelude.{◌≡◌, ℕ, ◌≤◌, Bool, true, false, List, take, Ok, Option}
use Rattle.nr_wire.specs.declared.hello.Side.{Side}
use Rattle.nr_wire.specs.declared.hello.Side.TheVariants.{Initiator}
use Rattle.nr_wire.specs.declared.stream.Awaited.TheVariants.{Hello as HelloFrom}
use Rattle.nr_wire.specs.Stream.{is_whole, frame_len}
use Rattle.nr_wire.specs.Hello.{Hello, hello_of, peer}
use Rattle.nr_link.specs.declared.agreement.SideTerms.{SideTerms}
use Rattle.nr_link.specs.declared.agreement.Agreement.{Agreement}
use Rattle.nr_link.specs.Agreement.{default_agreement, IsSendLimit}
use Rattle.nr_endpoint.specs.Hellos.{own_private, side_agreement, has_same_sizes, received_max, first_client, client_heard, receive_length_for}
use Rattle.nr_endpoint.specs.LinkState.{initial_link}
use Rattle.nr_endpoint.specs.Calls.{Call, after_calls}
use Rattle.nr_endpoint.specs.Laws.{bytes_fed}

-- the bytes begin with this complete hello of a side, which is accepted (RFC 5044 section 7.1)
abbrev pub BeginsWith : Side → List ℕ → Hello → Type 0
BeginsWith side bytes hello = (is_whole (HelloFrom side) bytes ≡ true) × (hello_of side (take (frame_len (HelloFrom side) bytes) bytes) ≡ Ok hello)

-- by the hello with which the bytes of its peer begin, a side with these terms has this private data, has agreed on this, and knows this number of
-- the link's client
abbrev pub HasAgreed : SideTerms → Side → (fed private : List ℕ) → Agreement → (client : ℕ) → Type 0
HasAgreed terms side fed private agreed client =
    (hello : Hello) × BeginsWith (peer side) fed hello × (private ≡ own_private terms side hello.private) × (agreed ≡ side_agreement side private hello.private)
    × (client ≡ client_heard terms side hello.private)

-- Until the peer's hello was accepted one unit is agreed in each direction; afterwards what the own hello and the peer's say, with which the
-- bytes that were fed begin. The limit of a message of the peer is what is agreed for its direction, and fits each receive. In each direction
-- it is from one unit to UNITS_MAX of them. The number of the link's client is an initiator's own, and a responder's by the initiator's hello.
pub record IsAgreed (terms : SideTerms) (side : Side) (fed : List ℕ) (has_hello : Bool) (private : List ℕ) (agreed : Agreement) (message_max client : ℕ) : Type 0 where
  pub before : has_hello ≡ false → agreed ≡ default_agreement
  pub unheard : has_hello ≡ false → client ≡ first_client terms side
  pub after : has_hello ≡ true → HasAgreed terms side fed private agreed client
  pub received : message_max ≡ received_max side agreed
  pub fits : message_max ≤ receive_length_for terms
  pub up : IsSendLimit agreed.up
  pub down : IsSendLimit agreed.down

-- So it is on a side that was opened with these terms, and fed with the bytes of these calls.
abbrev pub AgreesByHellos : Type 0
AgreesByHellos = (side : Side) (receives first_stag : ℕ) (terms : SideTerms) (earlier : Option Agreement) (calls : List Call) →
    let start = initial_link side receives first_stag terms earlier in
    let s = (after_calls start calls).state in
    IsAgreed terms side (bytes_fed start calls) s.has_hello s.private s.agreed s.message_max s.client

-- An initiator that accepted a hello has agreed on the same lengths of Sends as on an earlier link, if there was one: else the hello ended it.
abbrev pub KeepsSizes : Type 0
KeepsSizes = (receives first_stag : ℕ) (terms : SideTerms) (earlier : Option Agreement) (calls : List Call) →
    let s = (after_calls (initial_link Initiator receives first_stag terms earlier) calls).state in
    s.has_hello ≡ true → has_same_sizes earlier s.agreed ≡ true
