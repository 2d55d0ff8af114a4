use Rattle.std.proofs.Common.{[], sym, subst, ◌∙◌}
use Rattle.nr_turnstile.specs.declared.turnstile.Pass.{Pass}
use Rattle.nr_turnstile.specs.Passes.{seen_by}
use Rattle.nr_turnstile.specs.Turns.{pass_of}
use Rattle.nr_shared.specs.declared.entry.Entry.{Entry}
use Rattle.nr_shared.specs.declared.requester_with_sink.RequesterWithSink.{RequesterWithSink}
use Rattle.nr_shared.specs.Histories.{closes_of}
use Rattle.nr_shared.specs.Callers.{KeepsLaw}
use Rattle.nr_shared.specs.Output.{HasWrittenOutput}
use Rattle.nr_shared.specs.Standing.{Stands}
use Rattle.nr_shared.specs.Waiting.{WritesDue}
use Rattle.nr_shared.proofs.Adding.{adds_both, adds_same, got}
use Rattle.nr_shared.proofs.Alone.{open_writes}
use Rattle.nr_shared.proofs.Asking.{keeps_got}
use Rattle.nr_shared.proofs.Ends.{law_put_back}
use Rattle.nr_shared.proofs.Output.{turn_written}
use Rattle.nr_shared.proofs.Polling.{keeps_same}
use Rattle.nr_shared.proofs.shared.SharedRequester.drain_turn.Goals as goal

pub returns-clause-wrote : goal.returns-clause-wrote
returns-clause-wrote g c = let t = c.take_turn-turn.ensures.got.1 in
    let p = c.args.main.now in let q = pass_of c.take_turn-turn.result in let u = pass_of c.drain_under.new.turn in let s = c.put_back.new.self.1.0 in
    let w = c.drain_under.ensures.wrote in
    subst (λ (z : Pass (RequesterWithSink g.row.O.Denot g.row.C.Denot) Entry). WritesDue {O = g.row.O.Denot} p z) (sym (c.main-1.given.1 (sym (c.drain_under.ensures.same.1 ∙ c.take_turn-turn.ensures.borrow))))
    (record {
      writes = w.es;
      are_writes = w.are;
      adds = adds_same p u s w.es (adds_both p q u [] w.es (got (Stands g.O.LinkSink.link g.O.Sink.taken g.O.Sink.faults g.C.CallRule.allows) closes_of c.take_turn-turn.result.turnstile.now p q t) w.adds) c.put_back.ensures.1 c.put_back.ensures.2;
      keeps = λ k o. keeps_same u s c.put_back.ensures.1 c.put_back.ensures.2 k (open_writes q u k w (keeps_got g.O.LinkSink.link g.O.Sink.taken g.O.Sink.faults g.C.CallRule.allows c.take_turn-turn.result.turnstile.now p q c.requires.lies t k o));
      written = subst HasWrittenOutput (sym c.put_back.ensures.1) (turn_written g.O.LinkSink.link g.O.Sink.taken g.O.Sink.faults g.C.CallRule.allows c.drain_under.new.turn c.drain_under.ensures.ready c.drain_under.ensures.flushed);
    })

pub returns-clause-law : goal.returns-clause-law
returns-clause-law g c =
    subst (λ (z : Pass (RequesterWithSink g.row.O.Denot g.row.C.Denot) Entry). KeepsLaw (seen_by z)) (sym (c.main-1.given.1 (sym (c.drain_under.ensures.same.1 ∙ c.take_turn-turn.ensures.borrow))))
    (law_put_back g.O.LinkSink.link g.O.Sink.taken g.O.Sink.faults g.C.CallRule.allows c.drain_under.new.turn c.put_back.new.self.1.0 c.drain_under.ensures.ready c.put_back.ensures.1)
