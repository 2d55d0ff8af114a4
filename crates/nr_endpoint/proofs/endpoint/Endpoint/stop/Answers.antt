use Rattle.std.proofs.Common.{ap, ◌∙◌}
use Rattle.nr_endpoint.specs.Calls.Call.{Stop, OutOfMemory}
use Rattle.nr_endpoint.specs.contracts.endpoint.Endpoint.{the_view}
use Rattle.nr_endpoint.specs.declared.endpoint.Endpoint.TheInside.{Inside}
use Rattle.nr_endpoint.proofs.Standing.{stands_on, stopped, out_of_memory}
use Rattle.nr_endpoint.proofs.endpoint.Endpoint.stop.Goals as goal

pub returns-clause-state : goal.returns-clause-state
returns-clause-state c = λ is.
    stopped _ _ c.args.self.now c.stop.new.self.state c.args.reason (ap (λ (e : Inside). the_view e) c.self-inside.view_is ∙ c.self.view_is) c.requires.live (c.stop.ensures.end is).1

pub returns-clause-memory : goal.returns-clause-memory
returns-clause-memory c = λ is.
    out_of_memory _ _ c.args.self.now c.stop.new.self.state (ap (λ (e : Inside). the_view e) c.self-inside.view_is ∙ c.self.view_is) c.requires.live (c.stop.ensures.memory is)

pub returns-clause-stands_memory : goal.returns-clause-stands_memory
returns-clause-stands_memory c = λ is.
    stands_on c.args.self.now.link OutOfMemory _ (out_of_memory _ _ c.args.self.now c.stop.new.self.state (ap (λ (e : Inside). the_view e) c.self-inside.view_is ∙ c.self.view_is) c.requires.live (c.stop.ensures.memory is))

pub returns-clause-stands : goal.returns-clause-stands
returns-clause-stands c = λ is.
    stands_on c.args.self.now.link (Stop c.args.reason) _ (stopped _ _ c.args.self.now c.stop.new.self.state c.args.reason (ap (λ (e : Inside). the_view e) c.self-inside.view_is ∙ c.self.view_is) c.requires.live (c.stop.ensures.end is).1)
