use Rattle.nr_header.proofs.KindsOfMessages.{short_is, other_version, msg_is, nomsg_is, msgp_is, done_is, error_is, versions_are, bad_chunk_is, above_is, lists_are, msg_fine, nomsg_bad}
use Rattle.nr_header.proofs.laws.kinds_of_messages.Goals as goal

pub returns-clause-short : goal.returns-clause-short
returns-clause-short c = short_is

pub returns-clause-version : goal.returns-clause-version
returns-clause-version c = other_version

pub returns-clause-msg : goal.returns-clause-msg
returns-clause-msg c = msg_is

pub returns-clause-nomsg : goal.returns-clause-nomsg
returns-clause-nomsg c = nomsg_is

pub returns-clause-msgp : goal.returns-clause-msgp
returns-clause-msgp c = msgp_is

pub returns-clause-done : goal.returns-clause-done
returns-clause-done c = done_is

pub returns-clause-error : goal.returns-clause-error
returns-clause-error c = error_is

pub returns-clause-versions : goal.returns-clause-versions
returns-clause-versions c = versions_are

pub returns-clause-chunk : goal.returns-clause-chunk
returns-clause-chunk c = bad_chunk_is

pub returns-clause-above : goal.returns-clause-above
returns-clause-above c = above_is

pub returns-clause-lists : goal.returns-clause-lists
returns-clause-lists c = lists_are

pub returns-clause-msg_read : goal.returns-clause-msg_read
returns-clause-msg_read c = msg_fine

pub returns-clause-nomsg_read : goal.returns-clause-nomsg_read
returns-clause-nomsg_read c = nomsg_bad
