-- What the Send of a call conveys by what its client offers to be read (RFC 8166 section 3.4.5).
use Rattle.std.specs.Prelude.{◌≡◌, ℕ, List, Ok}
use Rattle.nr_wire.specs.declared.hello.Side.TheVariants.{Initiator}
use Rattle.nr_header.specs.declared.header.Header.{Header}
use Rattle.nr_header.specs.Reading.{header_of}
use Rattle.nr_reduce.specs.declared.mark.Mark.{Mark}
use Rattle.nr_reduce.specs.declared.mark.LinkParameters.{LinkParameters}
use Rattle.nr_reduce.specs.declared.outline.Plan.{Plan}
use Rattle.nr_reduce.specs.Plans.{call_message, lists_of}
use Rattle.nr_reduce.specs.Chunks.{call_conveyed, read_bytes}
use Rattle.nr_reduce.specs.ChunkBytes.{IsNotGiven, inline_by, lists_by}
use Rattle.nr_reduce.specs.ClientState.{call_payload, stag_for}
use Rattle.nr_reduce.specs.Asked.{AskedSoFar}
use Rattle.nr_reduce.specs.Opening.{IsOpened}
use Rattle.nr_reduce.specs.Run.{client, placed_bytes}
use Rattle.nr_laws.specs.Payloads.{HasPlan, form_conveyed}
use Rattle.nr_laws.specs.Typed.{IsTyped}

-- the message of a call's plan
abbrev pub message_of : (opened : LinkParameters) (link : ℕ) (run : List Mark) (xid : ℕ) (plan : Plan) → HasPlan opened link run xid plan → List ℕ
message_of opened link run xid plan has = call_message xid opened.wished (stag_for (client opened link has.before).state xid) plan

-- The message is read under the call's xid and with the lists of its plan, and conveys by what the client's regions hold what the call's form
-- conveys of its payload.
pub record SendConveys (opened : LinkParameters) (link : ℕ) (run : List Mark) (xid : ℕ) (plan : Plan) (has : HasPlan opened link run xid plan) (header : Header) : Type 0 where
  pub own : header.xid ≡ xid
  pub lists : lists_by header.body ≡ lists_of (stag_for (client opened link has.before).state xid) plan
  pub conveys : call_conveyed (inline_by (message_of opened link run xid plan has) header.body) (lists_by header.body).read (read_bytes (placed_bytes opened link Initiator run) (lists_by header.body).read)
      ≡ form_conveyed has.form (call_payload xid has.call)

-- On every link whose client keeps its law, whatever the server sends: the Send of an accepted call conveys so, from its Submit on, if its header
-- can be read. Of an offer that is given it may not be.
abbrev pub SendsConvey : Type 0
SendsConvey = (opened : LinkParameters) (link : ℕ) (run : List Mark) (xid : ℕ) (plan : Plan) (header : Header) → IsTyped run → AskedSoFar opened link run → (has : HasPlan opened link run xid plan) →
    header_of (message_of opened link run xid plan has) ≡ Ok header → SendConveys opened link run xid plan has header

-- The header of the message can be read, and the message conveys so.
pub record IsReadAndConveys (opened : LinkParameters) (link : ℕ) (run : List Mark) (xid : ℕ) (plan : Plan) (has : HasPlan opened link run xid plan) : Type 0 where
  pub header : Header
  pub reads : header_of (message_of opened link run xid plan has) ≡ Ok header
  pub conveys : SendConveys opened link run xid plan has header

-- So it is of each accepted call whose form has no offer that is given, on a link that was opened with numbers and credits in range.
abbrev pub OwnSendsConvey : Type 0
OwnSendsConvey = (opened : LinkParameters) (link : ℕ) (run : List Mark) (xid : ℕ) (plan : Plan) → IsOpened opened → IsTyped run → AskedSoFar opened link run → (has : HasPlan opened link run xid plan) →
    IsNotGiven has.form → IsReadAndConveys opened link run xid plan has
