use Rattle.nr_reduce.proofs.AnswerMessages.{answer_again, answer_length}
use Rattle.nr_reduce.proofs.Answering.{conveyed, answer_spells, answered, suits_offer}
use Rattle.nr_reduce.proofs.laws.answers_convey_replies.Goals as goal

pub returns-clause-conveys : goal.returns-clause-conveys
returns-clause-conveys c = conveyed

pub returns-clause-writes : goal.returns-clause-writes
returns-clause-writes c = answer_spells

pub returns-clause-lists : goal.returns-clause-lists
returns-clause-lists c = λ read ws rs w r down prog vers proc reply a fits e.
    suits_offer read ws rs w r down prog vers proc reply a (answered read ws rs w r down prog vers proc reply a fits e)

pub returns-clause-size : goal.returns-clause-size
returns-clause-size c = answer_length

pub returns-clause-message : goal.returns-clause-message
returns-clause-message c = answer_again
