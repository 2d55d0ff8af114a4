use Rattle.std.proofs.Common.{List, inl, inr, refl, sym, subst}
use Rattle.nr_turnstile.specs.Passes.{seen_by}
use Rattle.nr_turnstile.specs.Turns.{pass_of}
use Rattle.nr_shared.specs.declared.entry.Entry.{Entry}
use Rattle.nr_shared.specs.Output.{MayFeed, MayRejoin}
use Rattle.nr_shared.specs.private.Reading.{CanHangUp, Redials}
use Rattle.nr_shared.proofs.Asking.{feeding_same}
use Rattle.nr_shared.proofs.redialing.input_or_link_under.Goals as goal

pub redial_under-requires-clause-feeding : goal.redial_under-requires-clause-feeding
redial_under-requires-clause-feeding g c = let n = c.need_under.ensures in feeding_same (pass_of c.args.turn.now) (pass_of c.need_under.new.turn) n.seen n.mine c.requires.feeding

pub redial_under-requires-clause-may : goal.redial_under-requires-clause-may
redial_under-requires-clause-may g c = let n = c.need_under.ensures in subst (λ (h : List Entry). MayRejoin h) (sym n.seen) c.in-Link.ensures.need

pub redial_under-requires-clause-link : goal.redial_under-requires-clause-link
redial_under-requires-clause-link g c = let n = c.need_under.ensures in
    subst (λ (h : List Entry). CanHangUp g.I.LinkSource.link g.O.LinkSink.link g.O.Sink.taken g.O.Sink.faults g.D.Dialer.ended h c.args.source.now c.args.dialer.now) (sym n.seen) c.requires.link

pub returns-in-Nothing-clause-feeding : goal.returns-in-Nothing-clause-feeding
returns-in-Nothing-clause-feeding g c = let n = c.need_under.ensures in feeding_same (pass_of c.args.turn.now) (pass_of c.need_under.new.turn) n.seen n.mine c.requires.feeding

pub returns-in-Input-clause-feeding : goal.returns-in-Input-clause-feeding
returns-in-Input-clause-feeding g c = let n = c.need_under.ensures in feeding_same (pass_of c.args.turn.now) (pass_of c.need_under.new.turn) n.seen n.mine c.requires.feeding

pub returns-in-Input-clause-input : goal.returns-in-Input-clause-input
returns-in-Input-clause-input g c = λ is. (let n = c.need_under.ensures in ((n.seen, (refl, refl)), subst (λ (h : List Entry). MayFeed h) (sym n.seen) c.in-Input.ensures.need))

pub returns-in-Nothing-clause-other : goal.returns-in-Nothing-clause-other
returns-in-Nothing-clause-other g c = λ is. inl (c.need_under.ensures.seen, (refl, refl))

pub returns-in-Link-clause-other : goal.returns-in-Link-clause-other
returns-in-Link-clause-other g c = λ is. (let n = c.need_under.ensures in let u = c.redial_under in
    inr (subst (λ (h : List Entry). Redials g.I.LinkSource.link g.I.Source.left g.I.Source.given g.I.Source.faults g.O.LinkSink.link g.O.Sink.taken g.O.Sink.faults g.D.Dialer.asked g.D.Dialer.ended g.D.Dialer.faults h (seen_by (pass_of u.new.turn)) c.args.source.now u.new.source c.args.dialer.now u.new.dialer c.args.addr.now) n.seen u.ensures.redialled))
