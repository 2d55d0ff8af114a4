use Rattle.std.proofs.Common.{sym, subst}
use Rattle.nr_requester.specs.RequesterState.{RequesterSide}
use Rattle.nr_client.specs.Ending.{IsCause}
use Rattle.nr_client.proofs.Refusals.{cause_of, has_credit, link_refused_source, link_refused_sink}
use Rattle.nr_client.proofs.calling.submit.Goals as goal

pub end_of_refused-requires : goal.end_of_refused-requires
end_of_refused-requires c = has_credit c.args.requester.now.state c.args.call c.in-Err.refused c.requires.credit c.in-Err.ensures.refused

pub returns-in-Err-clause-cause : goal.returns-in-Err-clause-cause
returns-in-Err-clause-cause c left read =
    subst (λ (h : RequesterSide). IsCause c.end_of_refused.result left read h c.args.call) (sym c.in-Err.ensures.err)
    (cause_of c.args.requester.now c.args.call c.in-Err.refused c.end_of_refused.result left read c.requires.credit c.in-Err.ensures.refused c.end_of_refused.ensures)

pub returns-in-Err-clause-source_count : goal.returns-in-Err-clause-source_count
returns-in-Err-clause-source_count c = link_refused_source c.in-Err.refused c.end_of_refused.result c.end_of_refused.ensures

pub returns-in-Err-clause-sink_count : goal.returns-in-Err-clause-sink_count
returns-in-Err-clause-sink_count c = link_refused_sink c.in-Err.refused c.end_of_refused.result c.end_of_refused.ensures
