use Rattle.std.proofs.Common.{◌∙◌, ap, subst}
use Rattle.nr_reduce.specs.declared.mark.Mark.TheVariants as marks
use Rattle.nr_requester.specs.declared.answer.Buffers.{Buffers}
use Rattle.nr_requester.specs.Buffers.{bytes_of_buffers}
use Rattle.nr_requester.specs.ReopenedLinks.{KeepsOn}
use Rattle.nr_world.proofs.GivenBuffers.{any_ok, if_ok_as}
use Rattle.nr_world.proofs.calls.revoke_call.Goals as goal

pub returns-clause-bytes : goal.returns-clause-bytes
returns-clause-bytes c = if_ok_as c.bytes_of.result _ _ (λ bytes is. is ∙ ap (λ (b : Buffers). bytes_of_buffers b) c.revoke-call.ensures.buffers) c.bytes_of.ensures

pub returns-clause-state : goal.returns-clause-state
returns-clause-state c = any_ok c.bytes_of.result _ c.revoke-call.ensures.state

pub returns-clause-stands : goal.returns-clause-stands
returns-clause-stands c =
    any_ok c.bytes_of.result _
    (subst (λ (b : Buffers). KeepsOn c.args.client.now (λ link. marks.Revoke link c.args.ticket (bytes_of_buffers b)) c.revoke-call.new.self) c.revoke-call.ensures.buffers c.revoke-call.ensures.keeps)

pub returns-clause-others : goal.returns-clause-others
returns-clause-others c = c.revoke-call.ensures.tickets.others
