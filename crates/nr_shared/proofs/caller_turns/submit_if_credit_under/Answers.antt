use Rattle.std.proofs.Common.{List, subst}
use Rattle.nr_turnstile.specs.Passes.{seen_by}
use Rattle.nr_turnstile.specs.Turns.{pass_of}
use Rattle.nr_shared.specs.declared.entry.Entry.{Entry}
use Rattle.nr_shared.specs.declared.entry.Entry.TheVariants as entries
use Rattle.nr_shared.specs.Ending.{IsCause}
use Rattle.nr_shared.proofs.Output.{turn_written}
use Rattle.nr_shared.proofs.Submitting.{submit_turn_sends, lacks, link_cause, refused_none, sends_none}
use Rattle.nr_shared.proofs.caller_turns.submit_if_credit_under.Goals as goal

pub of_refused-requires : goal.of_refused-requires
of_refused-requires g c = c.in-Err.ensures.credit c.in-Left.ensures.found

pub returns-in-Ended-clause-submitted : goal.returns-in-Ended-clause-submitted
returns-in-Ended-clause-submitted g c = let p = pass_of c.args.turn.now in let q = pass_of c.drain_under.new.turn in let r = pass_of c.credit_state_under.new.turn in
    sends_none p q r c.args.call c.args.form c.in-Ended.end c.drain_under.ensures.wrote c.credit_state_under.ensures.seen c.credit_state_under.ensures.mine
    (subst (λ (l : List Entry). IsCause c.in-Ended.end c.args.call c.args.form l) c.credit_state_under.ensures.seen (link_cause c.in-Ended.end c.args.call c.args.form (seen_by r) c.in-Ended.ensures.found))
    (turn_written g.O.LinkSink.link g.O.Sink.taken g.O.Sink.faults g.C.CallRule.allows c.drain_under.new.turn c.drain_under.ensures.ready c.drain_under.ensures.flushed)

pub returns-in-NoCredit-clause-submitted : goal.returns-in-NoCredit-clause-submitted
returns-in-NoCredit-clause-submitted g c = let p = pass_of c.args.turn.now in let q = pass_of c.drain_under.new.turn in let r = pass_of c.credit_state_under.new.turn in
    lacks p q r c.args.call c.args.form c.drain_under.ensures.wrote c.credit_state_under.ensures.seen c.credit_state_under.ensures.mine

pub returns-in-Ok-clause-submitted : goal.returns-in-Ok-clause-submitted
returns-in-Ok-clause-submitted g c = let p = pass_of c.args.turn.now in let q = pass_of c.drain_under.new.turn in let r = pass_of c.credit_state_under.new.turn in
    let a = c.in-Ok.ensures.accepted in
    submit_turn_sends p q r (pass_of c.submit_under.new.turn) (pass_of c.drain_under-in-Ok.new.turn) c.args.call c.args.form c.in-Ok.ticket c.drain_under.ensures.wrote c.credit_state_under.ensures.seen c.credit_state_under.ensures.mine
    a.0 c.in-Ok.ensures.seen c.in-Ok.ensures.keeps c.in-Ok.ensures.opened c.drain_under-in-Ok.ensures.wrote
    (turn_written g.O.LinkSink.link g.O.Sink.taken g.O.Sink.faults g.C.CallRule.allows c.drain_under-in-Ok.new.turn c.drain_under-in-Ok.ensures.ready c.drain_under-in-Ok.ensures.flushed)

pub returns-in-Err-clause-submitted : goal.returns-in-Err-clause-submitted
returns-in-Err-clause-submitted g c = let p = pass_of c.args.turn.now in let q = pass_of c.drain_under.new.turn in let r = pass_of c.credit_state_under.new.turn in let u = pass_of c.submit_under.new.turn in
    refused_none p q r u c.args.call c.args.form c.of_refused.result c.drain_under.ensures.wrote c.credit_state_under.ensures.seen c.credit_state_under.ensures.mine c.in-Err.ensures.refused c.in-Err.ensures.keeps c.in-Err.ensures.kept
    (c.of_refused.ensures c.args.call c.args.form (seen_by r) c.in-Err.ensures.why)
    (turn_written g.O.LinkSink.link g.O.Sink.taken g.O.Sink.faults g.C.CallRule.allows c.drain_under.new.turn c.drain_under.ensures.ready c.drain_under.ensures.flushed)
