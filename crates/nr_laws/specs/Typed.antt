-- A run is of its types: what is written down as bytes are bytes, and the numbers of a call and the position of an offer are 32-bit words. A
-- run that a program makes is always so.
use Rattle.std.specs.Prelude.{◌<◌, ◌^◌, List, []}
use Rattle.nr_rpc.specs.Credential.{CredFits}
use Rattle.nr_reduce.specs.declared.call.Call.{Call}
use Rattle.nr_xdr.specs.Item.{IsBytes}
use Rattle.nr_reduce.specs.declared.call.Submission.TheVariants as submissions
use Rattle.nr_reduce.specs.declared.mark.Mark.{Mark}
use Rattle.nr_reduce.specs.declared.mark.Mark.TheVariants as marks
use Rattle.nr_reduce.specs.Plans.{HasWordPosition}
use Rattle.nr_reduce.specs.ClientState.{call_payload}
use Rattle.nr_reduce.specs.AtEachMark.{AtEachMark}

-- the program, the version, the procedure and the credential of a call (RFC 5531 section 9)
abbrev pub IsTypedCall : Call → Type 0
IsTypedCall call = (call.prog < 2 ^ 32) × (call.vers < 2 ^ 32) × (call.proc < 2 ^ 32) × CredFits call.cred

-- the payload of an accepted call is bytes, so are the bytes that a side is fed, and replies
abbrev pub TypedMark : List Mark → Mark → Type 0
TypedMark before (marks.Submit l call form (submissions.Accepted xid)) = IsBytes (call_payload xid call) × HasWordPosition form × IsTypedCall call
TypedMark before (marks.Fed l side bytes) = IsBytes bytes
TypedMark before (marks.Execute l xid moment payload place reply) = IsBytes reply
TypedMark before mark = Unit {0}

abbrev pub IsTyped : List Mark → Type 0
IsTyped run = AtEachMark TypedMark [] run
