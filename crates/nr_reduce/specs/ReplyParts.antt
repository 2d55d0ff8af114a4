-- A reply with its head (RFC 5531 section 9).
use Rattle.std.specs.Prelude.{◌≡◌, ℕ, List, Option, None, Some, Ok, Err}
use Rattle.nr_rpc.specs.Reading.{reply_of}
use Rattle.nr_reduce.specs.declared.item.ReplyParts.{ReplyParts}

-- the payload begins with this head
abbrev pub IsReply : ReplyParts → Type 0
IsReply p = reply_of p.payload.now ≡ Ok p.head

-- the parts of a payload; it has none if it begins with no reply head
abbrev pub AreReplyPartsOf : Option ReplyParts → List ℕ → Type 0
AreReplyPartsOf None payload = (at : ℕ) × (reply_of payload ≡ Err at)
AreReplyPartsOf (Some p) payload = IsReply p × (p.payload.now ≡ payload)
