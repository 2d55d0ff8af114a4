use Rattle.nr_plain.proofs.Added.{answer_of_reply}
use Rattle.nr_plain.proofs.journal_laws.replies_are_those_of_answers.Goals as goal

pub returns : goal.returns
returns c = answer_of_reply
