use Rattle.std.proofs.Common.{[], refl, sym, subst, ◌∙◌}
use Rattle.nr_reduce.specs.declared.call.Call.{Call}
use Rattle.nr_reduce.specs.declared.call.Form.{Form}
use Rattle.nr_rpc.specs.Credential.{CanWriteCred}
use Rattle.nr_shared.proofs.Adding.{adds_none}
use Rattle.nr_shared.proofs.Lists.{begins_self}
use Rattle.nr_turnstile.specs.Passes.{seen_by}
use Rattle.nr_shared.proofs.Resting.{rests_on}
use Rattle.nr_shared.proofs.Submitting.{caller_lacks, caller_none, caller_sends, lacks_later, none_later, sends_later}
use Rattle.nr_shared.proofs.shared.SharedRequester.submit.Goals as goal

pub loop-init : goal.loop-init
loop-init g c = (c.requires.rests, (refl, record { writes_before = []; are_writes_before = tt; adds = adds_none c.args.pass.now.main c.args.pass.now.main (begins_self (seen_by c.args.pass.now.main)) refl; keeps = λ k o. o; same_call = refl; same_form = refl }))

pub submit_turn-requires-clause-writable : goal.submit_turn-requires-clause-writable
submit_turn-requires-clause-writable g c = subst (λ (x : Call). CanWriteCred x.cred) (sym c.loop.invariant.1.1.same_call) c.requires.writable

pub submit_turn-requires-clause-allowed : goal.submit_turn-requires-clause-allowed
submit_turn-requires-clause-allowed g c = let l = c.loop.invariant.1.1 in
    subst (λ (x : Call). g.C.CallRule.allows x c.loop.unsent_form) (sym l.same_call) (subst (λ (f : Form). g.C.CallRule.allows c.args.call f) (sym l.same_form) c.requires.allowed)

pub receive-requires-clause-initial_source : goal.receive-requires-clause-initial_source
receive-requires-clause-initial_source g c = let r = c.loop.invariant.0 in (r.initial_source, (r.has_seen, r.home))

pub returns-in-Accepted-clause-rests : goal.returns-in-Accepted-clause-rests
returns-in-Accepted-clause-rests g c = let r = c.loop.invariant.0 in
    rests_on c.args.self.now c.loop.pass _ r c.in-Accepted.ensures.rests r.source refl
    (caller_sends c.loop.pass.main c.submit_turn.new.main c.loop.unsent_call c.loop.unsent_form c.in-Accepted.ticket r.caller c.in-Accepted.ensures.submitted) c.in-Accepted.ensures.law

pub returns-in-Accepted-clause-submitted : goal.returns-in-Accepted-clause-submitted
returns-in-Accepted-clause-submitted g c = let l = c.loop.invariant.1.1 in
    sends_later c.args.pass.now.main c.loop.pass.main c.submit_turn.new.main c.args.call c.loop.unsent_call c.args.form c.loop.unsent_form c.in-Accepted.ticket l.writes_before l.are_writes_before l.adds l.keeps l.same_call l.same_form c.in-Accepted.ensures.submitted

pub returns-in-Ended-clause-rests : goal.returns-in-Ended-clause-rests
returns-in-Ended-clause-rests g c = let r = c.loop.invariant.0 in
    rests_on c.args.self.now c.loop.pass _ r c.in-Ended.ensures.rests r.source refl
    (caller_none c.loop.pass.main c.submit_turn.new.main c.loop.unsent_call c.loop.unsent_form c.in-Ended.end r.caller c.in-Ended.ensures.submitted) c.in-Ended.ensures.law

pub returns-in-Ended-clause-submitted : goal.returns-in-Ended-clause-submitted
returns-in-Ended-clause-submitted g c = let l = c.loop.invariant.1.1 in
    none_later c.args.pass.now.main c.loop.pass.main c.submit_turn.new.main c.args.call c.loop.unsent_call c.args.form c.loop.unsent_form c.in-Ended.end l.writes_before l.are_writes_before l.adds l.keeps l.same_call l.same_form c.in-Ended.ensures.submitted

pub loop-preserved : goal.loop-preserved
loop-preserved g c = let i = c.loop.invariant in let t = c.in-NoCredit.ensures.submitted in (
  rests_on c.args.self.now c.loop.pass (record { main = c.submit_turn.new.main; source = c.receive.new.source }) i.0 c.in-NoCredit.ensures.rests c.receive.ensures.rests c.receive.ensures.seen
      (caller_lacks c.loop.pass.main c.submit_turn.new.main c.loop.unsent_call c.in-NoCredit.call c.loop.unsent_form c.in-NoCredit.form i.0.caller t) c.in-NoCredit.ensures.law,
  (c.receive.ensures.seen ∙ i.1.0, lacks_later c.args.pass.now.main c.loop.pass.main c.submit_turn.new.main c.args.call c.loop.unsent_call c.in-NoCredit.call c.args.form c.loop.unsent_form c.in-NoCredit.form i.1.1.writes_before i.1.1.are_writes_before i.1.1.adds i.1.1.keeps i.1.1.same_call i.1.1.same_form t),
)

pub submit_turn-requires-clause-lies : goal.submit_turn-requires-clause-lies
submit_turn-requires-clause-lies g c = c.loop.invariant.0.caller.lies
