use Rattle.nr_requester.proofs.KeptLaw.{awaited_law, done_law, drain_law, forget_law, lost_law, open_law, queue_law, revoke_law, submit_law}
use Rattle.nr_requester.proofs.NoMarks.{no_marks_law, piece_law}
use Rattle.nr_requester.proofs.laws.reopened_links_keep_their_law.Goals as goal

pub returns-clause-submit : goal.returns-clause-submit
returns-clause-submit c = submit_law

pub returns-clause-drain : goal.returns-clause-drain
returns-clause-drain c = drain_law

pub returns-clause-queue : goal.returns-clause-queue
returns-clause-queue c = queue_law

pub returns-clause-open : goal.returns-clause-open
returns-clause-open c = open_law

pub returns-clause-awaited : goal.returns-clause-awaited
returns-clause-awaited c = awaited_law

pub returns-clause-revoke : goal.returns-clause-revoke
returns-clause-revoke c = revoke_law

pub returns-clause-forget : goal.returns-clause-forget
returns-clause-forget c = forget_law

pub returns-clause-done : goal.returns-clause-done
returns-clause-done c = done_law

pub returns-clause-lost : goal.returns-clause-lost
returns-clause-lost c = lost_law

pub returns-clause-begins : goal.returns-clause-begins
returns-clause-begins c = no_marks_law

pub returns-clause-piece : goal.returns-clause-piece
returns-clause-piece c = piece_law
