use Rattle.std.proofs.Common.{ℕ, [], refl, sym, subst, ◌∙◌}
use Rattle.nr_turnstile.specs.Passes.{seen_by}
use Rattle.nr_shared.specs.Callers.{HasOpenCall}
use Rattle.nr_shared.specs.Waiting.{GivesUp, TakesAnswer}
use Rattle.nr_shared.proofs.Adding.{adds_both, adds_none}
use Rattle.nr_shared.proofs.Lists.{begins_self}
use Rattle.nr_shared.proofs.Polling.{caller_gives, caller_takes, gives_after, still_open_call, takes_after}
use Rattle.nr_shared.proofs.Resting.{caller_on, rests_on}
use Rattle.nr_shared.proofs.shared.SharedRequester.await_outcome.Goals as goal

pub loop-init : goal.loop-init
loop-init g c = (c.requires.rests, (refl, (c.requires.has_call, (adds_none c.args.pass.now.main c.args.pass.now.main (begins_self (seen_by c.args.pass.now.main)) refl, ((λ k o. o), refl)))))

pub receive-requires-clause-initial_source : goal.receive-requires-clause-initial_source
receive-requires-clause-initial_source g c = let r = c.loop.invariant.0 in (r.initial_source, (r.has_seen, r.home))

pub returns-in-Answered-clause-rests : goal.returns-in-Answered-clause-rests
returns-in-Answered-clause-rests g c = let r = c.loop.invariant.0 in
    rests_on c.args.self.now c.loop.pass _ r c.in-Answered.ensures.rests r.source refl
    (caller_takes c.loop.pass.main c.poll_turn.new.main c.loop.waiting c.in-Answered.done r.caller c.loop.invariant.1.1.0 c.in-Answered.ensures.polled) c.in-Answered.ensures.law

pub returns-in-Answered-clause-waited : goal.returns-in-Answered-clause-waited
returns-in-Answered-clause-waited g c = let i = c.loop.invariant.1.1.1 in
    subst (λ (x : ℕ). TakesAnswer {O = g.row.O.Denot} c.args.pass.now.main c.poll_turn.new.main x c.in-Answered.done) i.1.1
    (takes_after c.args.pass.now.main c.loop.pass.main c.poll_turn.new.main c.poll_turn.new.main c.loop.waiting c.in-Answered.done i.0 i.1.0 c.in-Answered.ensures.polled refl refl)

pub returns-in-Ended-clause-rests : goal.returns-in-Ended-clause-rests
returns-in-Ended-clause-rests g c = let r = c.loop.invariant.0 in
    rests_on c.args.self.now c.loop.pass _ r c.in-Ended.ensures.rests r.source refl
    (caller_gives c.loop.pass.main c.poll_turn.new.main c.loop.waiting c.in-Ended.end r.caller c.loop.invariant.1.1.0 c.in-Ended.ensures.polled) c.in-Ended.ensures.law

pub returns-in-Ended-clause-waited : goal.returns-in-Ended-clause-waited
returns-in-Ended-clause-waited g c = let i = c.loop.invariant.1.1.1 in
    subst (λ (x : ℕ). GivesUp {O = g.row.O.Denot} c.args.pass.now.main c.poll_turn.new.main x c.in-Ended.end) i.1.1
    (gives_after c.args.pass.now.main c.loop.pass.main c.poll_turn.new.main c.poll_turn.new.main c.loop.waiting c.in-Ended.end i.0 i.1.0 c.in-Ended.ensures.polled refl refl)

pub loop-preserved : goal.loop-preserved
loop-preserved g c = let r = c.loop.invariant.0 in let i = c.loop.invariant.1.1 in let l = c.in-NotYet.ensures.polled in
    let caller = caller_on c.loop.pass.main c.poll_turn.new.main [] r.caller l.1.0 tt in (
      rests_on c.args.self.now c.loop.pass (record { main = c.poll_turn.new.main; source = c.receive.new.source }) r c.in-NotYet.ensures.rests c.receive.ensures.rests c.receive.ensures.seen caller c.in-NotYet.ensures.law,
      (
        c.receive.ensures.seen ∙ c.loop.invariant.1.0,
        (
          subst (λ (x : ℕ). HasOpenCall {O = g.row.O.Denot} c.poll_turn.new.main x) (sym l.0) (still_open_call c.loop.pass.main c.poll_turn.new.main c.loop.waiting l.1.0.seen l.1.1 caller.lies i.0),
          (
            adds_both c.args.pass.now.main c.loop.pass.main c.poll_turn.new.main [] [] i.1.0 l.1.0,
            ((λ k o. l.1.1 k (i.1.1.0 k o)), l.0 ∙ i.1.1.1),
          ),
        ),
      ),
    )
