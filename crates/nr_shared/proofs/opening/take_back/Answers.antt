use Rattle.std.proofs.Common.{Option, sym, subst}
use Rattle.nr_shared.specs.Feeding.{address_of}
use Rattle.nr_shared.specs.Opening.{GivesBack}
use Rattle.nr_shared.proofs.Closed.{gives_back}
use Rattle.nr_turnstile.specs.Passes.{mine_of, seen_by}
use Rattle.nr_shared.proofs.opening.take_back.Goals as goal

pub returns : goal.returns
returns g c = λ b f. (let m = c.close-requester.ensures in let v = c.close-requester.result in
    subst (λ (o : Option (g.row.I.Denot × g.row.O.Denot)). GivesBack g.I.LinkSource.link g.I.Source.left g.I.Source.given g.I.Source.faults g.O.LinkSink.link g.O.Sink.taken g.O.Sink.faults g.D.Dialer.asked g.D.Dialer.ended g.D.Dialer.faults g.C.CallRule.allows (seen_by c.args.caller) (mine_of c.args.caller) b.source.value b.dialer.value (address_of b) b.read v.requester o c.args.reader.dialer) (sym c.both_halves.ensures)
    (gives_back g.I.LinkSource.link g.I.Source.left g.I.Source.given g.I.Source.faults g.O.LinkSink.link g.O.Sink.taken g.O.Sink.faults g.D.Dialer.asked g.D.Dialer.ended g.D.Dialer.faults g.C.CallRule.allows c.args.caller c.join.new.pass c.args.reader v b m.0 c.requires.caller f c.join.ensures.joined m.1 m.2 m.3 m.4 m.5))
