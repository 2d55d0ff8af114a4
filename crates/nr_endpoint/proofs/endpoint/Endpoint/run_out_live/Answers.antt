use Rattle.std.proofs.Common.{ap}
use Rattle.nr_endpoint.specs.EndpointState.{LinkView}
use Rattle.nr_endpoint.proofs.Standing.{out_of_memory}
use Rattle.nr_endpoint.proofs.endpoint.Endpoint.run_out_live.Goals as goal

pub returns-clause-state : goal.returns-clause-state
returns-clause-state c =
    out_of_memory _ _ c.args.self.now c.run_out.new.self.state c.self.view_is c.requires.live (ap (λ (l : LinkView). l.state) c.run_out.ensures.state)
