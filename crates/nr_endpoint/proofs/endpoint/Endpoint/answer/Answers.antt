use Rattle.std.proofs.Common.{◌≡◌, ℕ, List, OnOk, subst}
use Rattle.std.proofs.lemmas.List.{append-nil}
use Rattle.nr_endpoint.specs.LinkState.{LinkSide}
use Rattle.nr_endpoint.specs.Calls.{after_calls, StandsOnAll}
use Rattle.nr_endpoint.specs.Offering.{answer_calls}
use Rattle.nr_endpoint.proofs.endpoint.Endpoint.answer.Goals as goal

pub returns-clause-state : goal.returns-clause-state
returns-clause-state c =
    subst (λ (message : List ℕ). OnOk c.answer_parts.result (◌≡◌ {A = LinkSide} c.answer_parts.new.self.link (after_calls c.args.self.now.link (answer_calls c.args.writes.now c.args.named message)))) (append-nil c.args.message.now) c.answer_parts.ensures.state

pub returns-clause-stands : goal.returns-clause-stands
returns-clause-stands c =
    subst (λ (message : List ℕ). OnOk c.answer_parts.result (StandsOnAll c.args.self.now.link (answer_calls c.args.writes.now c.args.named message) c.answer_parts.new.self.link)) (append-nil c.args.message.now) c.answer_parts.ensures.stands
