use Rattle.std.proofs.Common.{subst}
use Rattle.nr_xdr.specs.Reading.{Cursor}
use Rattle.nr_header.specs.Reading.{msg_at, nomsg_at, in_lists, version1_of}
use Rattle.nr_header.specs.Storage.{lists_of}
use Rattle.nr_header.specs.private.ListsRead.{MatchesBody}
use Rattle.nr_header.proofs.Faults.{body_is}
use Rattle.nr_header.proofs.reading.version1.Goals as goal

pub returns-in-0-clause-is : goal.returns-in-0-clause-is
unfolding version1_of
returns-in-0-clause-is c =
    let is = body_is (lists_of c.msg.new.room) c.msg.result c.or_bad_chunks.result (msg_at c.args.reader.now) c.msg.ensures.is c.or_bad_chunks.ensures.is in
    let there = subst (λ (r : Cursor). MatchesBody (lists_of c.msg.new.room) c.or_bad_chunks.result (in_lists (msg_at r))) c.requires.after is in
    rw c.in-0.is there

pub returns-in-1-clause-is : goal.returns-in-1-clause-is
unfolding version1_of
returns-in-1-clause-is c =
    let is = body_is (lists_of c.nomsg.new.room) c.nomsg.result c.or_bad_chunks-in-1.result (nomsg_at c.args.reader.now) c.nomsg.ensures.is c.or_bad_chunks-in-1.ensures.is in
    let there = subst (λ (r : Cursor). MatchesBody (lists_of c.nomsg.new.room) c.or_bad_chunks-in-1.result (in_lists (nomsg_at r))) c.requires.after is in
    rw c.in-1.is there
