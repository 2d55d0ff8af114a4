use Rattle.std.proofs.Common.{ap, ◌∙◌}
use Rattle.nr_endpoint.specs.Calls.{after_calls}
use Rattle.nr_endpoint.specs.Requesting.{read_calls}
use Rattle.nr_responder.proofs.OpenedReads.{opened_calls}
use Rattle.nr_responder.proofs.opening.open_reads.Goals as goal

pub returns-clause-ok : goal.returns-clause-ok
returns-clause-ok c =
    c.in_ok-read_all.ensures.state ∙ ap (λ rs. after_calls c.args.endpoint.now.link (read_calls rs)) (c.as_slice.ensures.value ∙ c.in_ok-opened.ensures.reads) ∙ opened_calls _ c.args.endpoint.now.link c.requires.live
