use Rattle.std.proofs.Common.{sym, ◌∙◌}
use Rattle.nr_requester.proofs.Answered.{ended_answer}
use Rattle.nr_requester.proofs.requester.Requester.submit_as.Goals as goal

pub returns-in-Some-clause-refused : goal.returns-in-Some-clause-refused
returns-in-Some-clause-refused c = λ other. ended_answer c.args.self.now.state c.args.call c.args.form.now c.in-Some.end (sym c.in-Some.is ∙ c.end.ensures)
