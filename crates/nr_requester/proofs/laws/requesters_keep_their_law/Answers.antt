use Rattle.nr_requester.proofs.OwnLaw.{law_begins, others_keep_law, submit_keeps_law, drain_keeps_law, drain_out_keeps_law, queue_is_all_due, refused_keeps_law, piece_keeps_law, drain_keeps_grant}
use Rattle.nr_requester.proofs.RevokedBytes.{left_are_placed, revoke_keeps_law, revoked_out_lem}
use Rattle.nr_requester.proofs.OpenTickets.{open_is_awaited, open_out, awaited_is_open, awaited_out, forget_keeps_law, forget_out_keeps_law, done_keeps_law, done_out_keeps_law, lost_keeps_law}
use Rattle.nr_requester.proofs.laws.requesters_keep_their_law.Goals as goal

pub returns-clause-submit : goal.returns-clause-submit
returns-clause-submit c = submit_keeps_law

pub returns-clause-drain : goal.returns-clause-drain
returns-clause-drain c = drain_keeps_law

pub returns-clause-drain_out : goal.returns-clause-drain_out
returns-clause-drain_out c = drain_out_keeps_law

pub returns-clause-queue : goal.returns-clause-queue
returns-clause-queue c = queue_is_all_due

pub returns-clause-refused : goal.returns-clause-refused
returns-clause-refused c = refused_keeps_law

pub returns-clause-piece : goal.returns-clause-piece
returns-clause-piece c = piece_keeps_law

pub returns-clause-drain_grant : goal.returns-clause-drain_grant
returns-clause-drain_grant c = drain_keeps_grant

pub returns-clause-begins : goal.returns-clause-begins
returns-clause-begins c = law_begins

pub returns-clause-others : goal.returns-clause-others
returns-clause-others c = others_keep_law

pub returns-clause-revoke : goal.returns-clause-revoke
returns-clause-revoke c = revoke_keeps_law

pub returns-clause-revoked_out : goal.returns-clause-revoked_out
returns-clause-revoked_out c = revoked_out_lem

pub returns-clause-awaited : goal.returns-clause-awaited
returns-clause-awaited c = open_is_awaited

pub returns-clause-awaited_out : goal.returns-clause-awaited_out
returns-clause-awaited_out c = open_out

pub returns-clause-forget : goal.returns-clause-forget
returns-clause-forget c = forget_keeps_law

pub returns-clause-done : goal.returns-clause-done
returns-clause-done c = done_keeps_law

pub returns-clause-lost : goal.returns-clause-lost
returns-clause-lost c = lost_keeps_law

pub returns-clause-open : goal.returns-clause-open
returns-clause-open c = awaited_is_open

pub returns-clause-open_out : goal.returns-clause-open_out
returns-clause-open_out c = awaited_out

pub returns-clause-forget_out : goal.returns-clause-forget_out
returns-clause-forget_out c = forget_out_keeps_law

pub returns-clause-done_out : goal.returns-clause-done_out
returns-clause-done_out c = done_out_keeps_law

pub returns-clause-buffers : goal.returns-clause-buffers
returns-clause-buffers c = left_are_placed
