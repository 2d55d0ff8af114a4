use Rattle.std.proofs.Common.{◌∙◌}
use Rattle.nr_endpoint.specs.Calls.{after_calls}
use Rattle.nr_endpoint.specs.Requesting.{send_read_calls}
use Rattle.nr_responder.proofs.OpenedReads.{on_ok_by, sent_opened_calls}
use Rattle.nr_responder.proofs.opening.send_and_open.Goals as goal

pub returns-clause-ok : goal.returns-clause-ok
returns-clause-ok c = on_ok_by c.send_and_read_all.result c.send_and_read_all.ensures.state (λ e.
    e ∙ (λ i. after_calls c.args.endpoint.now.link (send_read_calls (c.as_slice.ensures i) ((c.as_slice-2.ensures.value ∙ c.in_ok-opened.ensures.reads) i))) ∙ sent_opened_calls c.args.message.now _ c.args.endpoint.now.link c.requires.live)
