use Rattle.nr_byte_laws.proofs.PlainBytes.{entries_bytes, plain_reply_bytes}
use Rattle.nr_byte_laws.proofs.laws.plain_replies_are_bytes.Goals as goal

pub returns-clause-replies : goal.returns-clause-replies
returns-clause-replies c = plain_reply_bytes

pub returns-clause-entries : goal.returns-clause-entries
returns-clause-entries c = entries_bytes
