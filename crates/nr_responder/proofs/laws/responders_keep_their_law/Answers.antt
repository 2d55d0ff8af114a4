use Rattle.nr_responder.proofs.OwnLaw.{others_leave_it, law_begins, others_keep_law, piece_keeps_law, execute_keeps_law, told_keeps_law, drain_keeps_law}
use Rattle.nr_responder.proofs.laws.responders_keep_their_law.Goals as goal

pub returns-clause-begins : goal.returns-clause-begins
returns-clause-begins c = law_begins

pub returns-clause-others_leave : goal.returns-clause-others_leave
returns-clause-others_leave c = others_leave_it

pub returns-clause-others : goal.returns-clause-others
returns-clause-others c = others_keep_law

pub returns-clause-piece : goal.returns-clause-piece
returns-clause-piece c = piece_keeps_law

pub returns-clause-execute : goal.returns-clause-execute
returns-clause-execute c = execute_keeps_law

pub returns-clause-told : goal.returns-clause-told
returns-clause-told c = told_keeps_law

pub returns-clause-drain : goal.returns-clause-drain
returns-clause-drain c = drain_keeps_law
