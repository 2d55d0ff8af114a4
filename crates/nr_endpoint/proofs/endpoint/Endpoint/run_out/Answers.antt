use Rattle.std.proofs.Common.{◌≡◌, Option, is_some, ap, sym, ◌∙◌, true}
use Rattle.nr_link.specs.declared.end.End.{End}
use Rattle.nr_endpoint.specs.Calls.Call.{OutOfMemory}
use Rattle.nr_endpoint.specs.LinkState.{has_ended}
use Rattle.nr_endpoint.proofs.Standing.{stands_on, memory_kept}
use Rattle.nr_endpoint.proofs.endpoint.Endpoint.run_out.Goals as goal

pub returns-in-Some-clause-state : goal.returns-in-Some-clause-state
returns-in-Some-clause-state c =
    let over : has_ended c.args.self.now.link.state ≡ true = ap (λ (e : Option End). is_some e) (sym c.end.ensures ∙ c.in-Some.is) in
    memory_kept c.args.self.now.link over (c.facts.ensures.ended over)

pub returns-in-Some-clause-stands : goal.returns-in-Some-clause-stands
returns-in-Some-clause-stands c =
    let over : has_ended c.args.self.now.link.state ≡ true = ap (λ (e : Option End). is_some e) (sym c.end.ensures ∙ c.in-Some.is) in
    stands_on c.args.self.now.link OutOfMemory c.args.self.now.link (memory_kept c.args.self.now.link over (c.facts.ensures.ended over))

pub returns-clause-stands : goal.returns-clause-stands
returns-clause-stands c = stands_on c.args.self.now.link OutOfMemory _ c.run_out_live.ensures.state
