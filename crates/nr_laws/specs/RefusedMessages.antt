-- Which calls a server answers by ERR_CHUNK for their message (RFC 8166 section 4.5).
use Rattle.std.specs.Prelude.{ℕ, List, ◌⊎◌}
use Rattle.nr_header.specs.Reading.{header_of, HeaderBad}
use Rattle.nr_reduce.specs.declared.mark.Mark.{Mark}
use Rattle.nr_reduce.specs.declared.mark.LinkParameters.{LinkParameters}
use Rattle.nr_reduce.specs.declared.outline.Plan.{Plan}
use Rattle.nr_reduce.specs.Plans.{call_message}
use Rattle.nr_reduce.specs.Run.{client}
use Rattle.nr_reduce.specs.RunLaws.{HasOtherChunk}
use Rattle.nr_laws.specs.Payloads.{HasPlan}
use Rattle.nr_reduce.specs.ClientState.{stag_for}

-- A server answers a call's message by ERR_CHUNK: its header can't be read, it is RDMA_NOMSG without a read chunk at position 0, or its
-- stream is there and its read chunk isn't that of the stream's item (RFC 8166 sections 3.4.5 and 3.5.3). A plan has one read position, so
-- a call whose stream has to be read has no other read chunk to judge.
abbrev pub IsRefusedMessage : List ℕ → Type 0
IsRefusedMessage message = HeaderBad message ⊎ HasOtherChunk message (header_of message)

-- so it is of the message by which the accepted call of this xid goes out
pub record HasRefusedMessage (opened : LinkParameters) (link : ℕ) (run : List Mark) (xid : ℕ) : Type 0 where
  pub plan : Plan
  pub has : HasPlan opened link run xid plan
  pub refused : IsRefusedMessage (call_message xid opened.wished (stag_for (client opened link has.before).state xid) plan)
