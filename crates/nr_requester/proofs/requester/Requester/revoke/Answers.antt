use Rattle.std.proofs.Common.{ℕ, ◌<◌, is_some, ap, sym, subst, ◌∙◌}
use Rattle.nr_requester.specs.OpenCalls.{open_call, remaining_call}
use Rattle.nr_requester.proofs.HandedBack.{open_remains, open_remaining}
use Rattle.nr_requester.specs.AfterCalls.{after_revoke}
use Rattle.nr_requester.proofs.CallsKeep.{revoked_keeps, revoked_stops}
use Rattle.nr_requester.proofs.GivenUp.{revoked_stands, revoked_stays_out}
use Rattle.nr_requester.specs.Fed.{fed_bytes}
use Rattle.nr_requester.proofs.Tickets.{closed_as, revoke_closes, fed_revoked}
use Rattle.nr_requester.proofs.requester.Requester.revoke.Goals as goal

pub revoke_xid-requires : goal.revoke_xid-requires
revoke_xid-requires c = record { there = open_remains c.args.self.now.state c.xid.result (ap (λ (n : ℕ). is_some (open_call n c.args.self.now.state)) c.xid.ensures ∙ c.requires.open) }

pub returns-clause-call : goal.returns-clause-call
returns-clause-call c =
    open_remaining c.args.self.now.state c.args.ticket c.requires.open ∙ ap (λ (n : ℕ). remaining_call n c.args.self.now.state) (sym c.xid.ensures) ∙ c.revoke_xid.ensures.call

pub returns-clause-stands : goal.returns-clause-stands
returns-clause-stands c =
    revoked_stands c.args.self.now c.revoke_xid.new.self c.args.ticket _ (subst (λ (n : ℕ). n < c.args.self.now.state.next_xid) c.xid.ensures c.revoke_xid.ensures.number)
    (c.revoke_xid.ensures.state ∙ ap (λ (n : ℕ). after_revoke c.args.self.now n) c.xid.ensures)

pub returns-clause-keeps : goal.returns-clause-keeps
returns-clause-keeps c =
    revoked_keeps c.args.self.now c.revoke_xid.new.self c.args.ticket _ (subst (λ (n : ℕ). n < c.args.self.now.state.next_xid) c.xid.ensures c.revoke_xid.ensures.number)
    (c.revoke_xid.ensures.state ∙ ap (λ (n : ℕ). after_revoke c.args.self.now n) c.xid.ensures)

pub returns-clause-stops : goal.returns-clause-stops
returns-clause-stops c =
    revoked_stops c.args.self.now c.revoke_xid.new.self c.args.ticket _ (subst (λ (n : ℕ). n < c.args.self.now.state.next_xid) c.xid.ensures c.revoke_xid.ensures.number)
    (c.revoke_xid.ensures.state ∙ ap (λ (n : ℕ). after_revoke c.args.self.now n) c.xid.ensures)

pub returns-clause-out : goal.returns-clause-out
returns-clause-out c =
    revoked_stays_out c.args.self.now c.revoke_xid.new.self c.args.ticket _ (subst (λ (n : ℕ). n < c.args.self.now.state.next_xid) c.xid.ensures c.revoke_xid.ensures.number)
    (c.revoke_xid.ensures.state ∙ ap (λ (n : ℕ). after_revoke c.args.self.now n) c.xid.ensures)

pub returns-clause-tickets : goal.returns-clause-tickets
returns-clause-tickets c = closed_as c.args.self.now c.revoke_xid.new.self _ c.args.ticket c.xid.result c.revoke_xid.ensures.state c.xid.ensures (revoke_closes c.args.self.now c.xid.result)

pub returns-clause-fed : goal.returns-clause-fed
returns-clause-fed c = ap fed_bytes c.revoke_xid.ensures.state ∙ fed_revoked c.args.self.now c.xid.result
