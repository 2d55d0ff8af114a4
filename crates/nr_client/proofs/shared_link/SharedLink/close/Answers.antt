use Rattle.std.proofs.Common.{sym}
use Rattle.nr_client.proofs.NumberedLinks.{can_hang_up}
use Rattle.nr_client.proofs.shared_link.SharedLink.close.Goals as goal

pub hang_up_last-requires : goal.hang_up_last-requires
hang_up_last-requires g c =
    can_hang_up g.I.LinkSource.link g.I.Source.left g.I.Source.given g.I.Source.faults g.O.LinkSink.link g.O.Sink.taken g.O.Sink.faults g.D.Dialer.asked g.D.Dialer.ended g.D.Dialer.faults
    c.self.inside.shared c.self.inside.pass c.close-requester.ensures.0 c.close-requester.result.0 c.close-requester.result.1 c.close-requester.result.2 c.self.invariant c.close-requester.ensures.1.0 c.close-requester.ensures.1.1

pub returns : goal.returns
returns g c = rw (sym c.self.view_is) (record {
  first = c.close-requester.ensures.0;
  source = c.close-requester.ensures.1.0;
  requester = c.close-requester.result.0;
  link = c.close-requester.result.1;
  between = c.close-requester.result.2;
  back = c.close-requester.ensures.1.1;
  hung_up = c.hang_up_last.ensures;
})
