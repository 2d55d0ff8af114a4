use Rattle.nr_endpoint.proofs.KeptLists.{lists_fit}
use Rattle.nr_endpoint.proofs.endpoint.Endpoint.list_facts.Goals as goal

pub returns : goal.returns
returns c = lists_fit c.args.self.now.link.state c.facts.ensures.receives c.facts.ensures.waiting c.facts.ensures.reads
