use Rattle.nr_requester.proofs.AllMarks.{begins, submit_is_a_mark, drain_is_a_mark, piece_runs_out, revoke_is_a_mark, revoke_stays_out, forget_is_a_mark, done_is_a_mark, others_leave_it, others_stay_out}
use Rattle.nr_requester.proofs.Accepting.{answers_as_client, agrees_as_client, counts_as_client, end_as_client}
use Rattle.nr_requester.proofs.Fed.{piece_is_a_mark}
use Rattle.nr_requester.proofs.RunOut.{memory_as_client, memory_out_lem, agrees_out_lem, counts_out_lem, refuses_out, piece_stays_out_lem}
use Rattle.nr_requester.proofs.DueAnswers.{answers_are_due, answers_out}
use Rattle.nr_requester.proofs.FirstDue.{first_is_due_first, first_out}
use Rattle.nr_requester.proofs.laws.requesters_stand_for_marks.Goals as goal

pub returns-clause-begins : goal.returns-clause-begins
returns-clause-begins c = begins

pub returns-clause-answer : goal.returns-clause-answer
returns-clause-answer c = answers_as_client

pub returns-clause-counts : goal.returns-clause-counts
returns-clause-counts c = counts_as_client

pub returns-clause-submit : goal.returns-clause-submit
returns-clause-submit c = submit_is_a_mark

pub returns-clause-piece : goal.returns-clause-piece
returns-clause-piece c = piece_is_a_mark

pub returns-clause-piece_out : goal.returns-clause-piece_out
returns-clause-piece_out c = piece_runs_out

pub returns-clause-drain : goal.returns-clause-drain
returns-clause-drain c = drain_is_a_mark

pub returns-clause-revoke : goal.returns-clause-revoke
returns-clause-revoke c = revoke_is_a_mark

pub returns-clause-revoke_out : goal.returns-clause-revoke_out
returns-clause-revoke_out c = revoke_stays_out

pub returns-clause-others : goal.returns-clause-others
returns-clause-others c = others_leave_it

pub returns-clause-memory : goal.returns-clause-memory
returns-clause-memory c = memory_as_client

pub returns-clause-memory_out : goal.returns-clause-memory_out
returns-clause-memory_out c = memory_out_lem

pub returns-clause-counts_out : goal.returns-clause-counts_out
returns-clause-counts_out c = counts_out_lem

pub returns-clause-refused_out : goal.returns-clause-refused_out
returns-clause-refused_out c = refuses_out

pub returns-clause-piece_stays_out : goal.returns-clause-piece_stays_out
returns-clause-piece_stays_out c = piece_stays_out_lem

pub returns-clause-others_out : goal.returns-clause-others_out
returns-clause-others_out c = others_stay_out

pub returns-clause-forget : goal.returns-clause-forget
returns-clause-forget c = forget_is_a_mark

pub returns-clause-done : goal.returns-clause-done
returns-clause-done c = done_is_a_mark

pub returns-clause-answers : goal.returns-clause-answers
returns-clause-answers c = answers_are_due

pub returns-clause-first : goal.returns-clause-first
returns-clause-first c = first_is_due_first

pub returns-clause-first_out : goal.returns-clause-first_out
returns-clause-first_out c = first_out

pub returns-clause-answers_out : goal.returns-clause-answers_out
returns-clause-answers_out c = answers_out

pub returns-clause-end : goal.returns-clause-end
returns-clause-end c = end_as_client

pub returns-clause-marks : goal.returns-clause-marks
returns-clause-marks c = λ opened link h run s. s.counted

pub returns-clause-marks_out : goal.returns-clause-marks_out
returns-clause-marks_out c = λ opened link h stopped run out. out.counted

pub returns-clause-agrees : goal.returns-clause-agrees
returns-clause-agrees c = agrees_as_client

pub returns-clause-agrees_out : goal.returns-clause-agrees_out
returns-clause-agrees_out c = agrees_out_lem
