use Rattle.nr_requester.specs.AfterCalls.{numbered_terms}
use Rattle.nr_requester.proofs.Views.{if_ok, opened_stands}
use Rattle.nr_requester.proofs.requester.Requester.open_numbered.Goals as goal

pub returns-clause-stands : goal.returns-clause-stands
returns-clause-stands c = if_ok c.new.result (λ r is. opened_stands r 1 1 c.args.credits (numbered_terms c.args.client c.args.units c.args.invalidates) is) c.new.ensures.state
