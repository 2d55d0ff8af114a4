use Rattle.std.proofs.Common.{◌≡◌, ℕ, List, length, ap, ◌∙◌, arith}
use Rattle.std.specs.Prelude.{option_map}
use Rattle.nr_header.specs.WithinLimits.{ListsWithin}
use Rattle.nr_reduce.specs.CodeViews.{answer_view}
use Rattle.nr_reduce.specs.Server.{answer_of_target}
use Rattle.nr_responder.specs.Answering.{answer_to, message_for}
use Rattle.nr_responder.specs.declared.call.Pending.{Pending}
use Rattle.nr_responder.specs.Views.{call_view}
use Rattle.nr_responder.proofs.AnswerMessages.{message_short}
use Rattle.nr_responder.proofs.answering.queue_with.Goals as goal

pub answer-requires-clause-size : goal.answer-requires-clause-size
answer-requires-clause-size c =
    let p : Pending = c.args.call.now in
    let down : ℕ = c.args.endpoint.now.link.state.agreed.down in
    let within : ListsWithin (call_view p).lists = c.requires.call.lists.within in
    let short = message_short down p.xid c.args.credits (call_view p) c.args.stream.now c.args.reply.now c.requires.limit within in
    let answer : option_map answer_view c.answer_to-answer.result ≡ answer_to down (call_view p) c.args.stream.now c.args.reply.now =
    c.answer_to-answer.ensures ∙ (λ i. answer_of_target (c.requires.lists i) (c.agreed-down.ensures.down i) c.args.reply.now (c.target_of.ensures i)) in
    let is : c.in_ok-message.message ≡ message_for p.xid c.args.credits (call_view p).lists (answer_to down (call_view p) c.args.stream.now c.args.reply.now) =
    c.in_ok-message.ensures ∙ (λ i. message_for p.xid c.args.credits (c.requires.lists i) (answer i)) in
    let len = ap (λ (bytes : List ℕ). length bytes) (c.as_slice-2.ensures ∙ is) in
    (let most = c.requires.limit.1 in omega (arith, short, len, most))
