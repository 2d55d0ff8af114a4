use Rattle.nr_responder.proofs.OwnLaw.{full_begins, others_keep_full, piece_keeps_full, execute_keeps_full, told_keeps_full, queue_is_all_due, all_may_be_written, drain_keeps_full}
use Rattle.nr_responder.proofs.laws.responders_keep_it_in_full.Goals as goal

pub returns-clause-begins : goal.returns-clause-begins
returns-clause-begins c = full_begins

pub returns-clause-others : goal.returns-clause-others
returns-clause-others c = others_keep_full

pub returns-clause-piece : goal.returns-clause-piece
returns-clause-piece c = piece_keeps_full

pub returns-clause-execute : goal.returns-clause-execute
returns-clause-execute c = execute_keeps_full

pub returns-clause-told : goal.returns-clause-told
returns-clause-told c = told_keeps_full

pub returns-clause-queue : goal.returns-clause-queue
returns-clause-queue c = queue_is_all_due

pub returns-clause-writable : goal.returns-clause-writable
returns-clause-writable c = all_may_be_written

pub returns-clause-drain : goal.returns-clause-drain
returns-clause-drain c = drain_keeps_full
