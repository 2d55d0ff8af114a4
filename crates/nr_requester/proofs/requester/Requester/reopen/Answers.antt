use Rattle.std.proofs.Common.{◌≡◌, sym, ap, subst, ◌∙◌, arith}
use Rattle.nr_requester.specs.Fed.{fed_bytes}
use Rattle.nr_requester.specs.RequesterState.{RequesterSide}
use Rattle.nr_requester.specs.Reopening.{ReopenStands}
use Rattle.nr_requester.proofs.NextBegins.{next_begins}
use Rattle.nr_requester.proofs.NextOpened.{next_links_are_opened}
use Rattle.nr_requester.proofs.NextTickets.{reopen_fed, reopen_keeps}
use Rattle.nr_requester.proofs.Tickets.{kept_as}
use Rattle.nr_requester.proofs.requester.Requester.reopen.Goals as goal

pub returns-in-Ok-clause-stands : goal.returns-in-Ok-clause-stands
returns-in-Ok-clause-stands c =
    subst (λ (h : RequesterSide). ReopenStands c.args.self.now h) (sym c.in-Ok.ensures.state) (next_begins c.args.self.now c.begin_next.new.self.staging (c.reopen_refusal.ensures.live c.in_default.is))

pub returns-in-Ok-clause-tickets : goal.returns-in-Ok-clause-tickets
returns-in-Ok-clause-tickets c = kept_as c.args.self.now _ _ c.in-Ok.ensures.state (reopen_keeps c.args.self.now c.begin_next.new.self.staging c.begin_next.ensures.rising c.facts.ensures.apart)

pub returns-in-Ok-clause-fed : goal.returns-in-Ok-clause-fed
returns-in-Ok-clause-fed c = ap fed_bytes c.in-Ok.ensures.state ∙ reopen_fed c.args.self.now c.begin_next.new.self.staging

pub returns-in-Ok-clause-opens : goal.returns-in-Ok-clause-opens
returns-in-Ok-clause-opens c = next_links_are_opened c.args.self.now (sym c.reopen_refusal.ensures.refusal ∙ c.in_default.is) (let fits = c.facts.ensures.xid in omega (arith, fits))
