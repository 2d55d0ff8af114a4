use Rattle.std.proofs.Common.{refl}
use Rattle.nr_outside.specs.Streams.{sink_at, source_at}
use Rattle.nr_words.specs.Lines.{plain_action}
use Rattle.nr_client.specs.Dialing.{dialer_at}
use Rattle.nr_commands.specs.Running.{text_of}
use Rattle.nr_commands.specs.Running.Runs.{NotOpened, Opened}
use Rattle.nr_commands.specs.Sessions.{session_at}
use Rattle.nr_commands.proofs.Parts.{with_user}
use Rattle.nr_commands.proofs.run.run_at.Goals as goal

pub close-requires : goal.close-requires
close-requires g c = c.in-Ok.ensures.made.1

pub returns-in-Err : goal.returns-in-Err
returns-in-Err g c = NotOpened c.in-Err.end refl c.in-Err.ensures.err refl refl

pub returns : goal.returns
returns g c =
    let state = c.in-Ok.ensures.state in
    Opened (dialer_at (g.D.Dialer.asked c.open-opened.new.dialer) (g.D.Dialer.ended c.open-opened.new.dialer) (g.D.Dialer.lost c.open-opened.new.dialer) (g.D.Dialer.faults c.open-opened.new.dialer)) (session_at (g.P.Source.left c.in-Ok.session.link.source.source) (g.P.Source.given c.in-Ok.session.link.source.source) (g.Q.Sink.taken c.in-Ok.session.link.sink.sink) c.in-Ok.session.link.read c.in-Ok.session.link.requester (g.P.Source.faults c.in-Ok.session.link.source.source) (g.Q.Sink.faults c.in-Ok.session.link.sink.sink)) (session_at (g.P.Source.left c.text_of-text.new.session.link.source.source) (g.P.Source.given c.text_of-text.new.session.link.source.source) (g.Q.Sink.taken c.text_of-text.new.session.link.sink.sink) c.text_of-text.new.session.link.read c.text_of-text.new.session.link.requester (g.P.Source.faults c.text_of-text.new.session.link.source.source) (g.Q.Sink.faults c.text_of-text.new.session.link.sink.sink))
    (record {
      asks = c.in-Ok.ensures.asked;
      makes = c.in-Ok.ensures.made;
      number = g.N.LinkNumber.number;
      counts = c.in-Ok.ensures.counts;
      told = c.in-Ok.ensures.told;
      fresh = c.in-Ok.ensures.fresh;
      nothing_read = state.1.0;
      requester = state.0;
      stands = c.in-Ok.ensures.stands;
      none_lost = c.in-Ok.ensures.lost;
      unfailing = c.in-Ok.ensures.counted;
    })
    (record {
      text = c.text_of-text.result;
      written = (sink_at (g.K.Sink.taken c.text_of-text.new.out) (g.K.Sink.faults c.text_of-text.new.out));
      made = with_user (λ u v. text_of u v c.args.client.now.export.now (plain_action c.args.client.now.action) (source_at (g.I.Source.left c.args.input.now) (g.I.Source.given c.args.input.now) (g.I.Source.faults c.args.input.now)) (source_at (g.I.Source.left c.text_of-text.new.input) (g.I.Source.given c.text_of-text.new.input) (g.I.Source.faults c.text_of-text.new.input)) (sink_at (g.K.Sink.taken c.args.out.now) (g.K.Sink.faults c.args.out.now)) (sink_at (g.K.Sink.taken c.text_of-text.new.out) (g.K.Sink.faults c.text_of-text.new.out))) c.args.client.now.uid c.args.client.now.gid c.in-Ok.session.uid c.in-Ok.session.gid
          (session_at (g.P.Source.left c.in-Ok.session.link.source.source) (g.P.Source.given c.in-Ok.session.link.source.source) (g.Q.Sink.taken c.in-Ok.session.link.sink.sink) c.in-Ok.session.link.read c.in-Ok.session.link.requester (g.P.Source.faults c.in-Ok.session.link.source.source) (g.Q.Sink.faults c.in-Ok.session.link.sink.sink)) (session_at (g.P.Source.left c.text_of-text.new.session.link.source.source) (g.P.Source.given c.text_of-text.new.session.link.source.source) (g.Q.Sink.taken c.text_of-text.new.session.link.sink.sink) c.text_of-text.new.session.link.read c.text_of-text.new.session.link.requester (g.P.Source.faults c.text_of-text.new.session.link.source.source) (g.Q.Sink.faults c.text_of-text.new.session.link.sink.sink)) c.text_of-text.result state.1.1 c.text_of-text.ensures;
      prints = c.print.ensures;
    })
    (record { ends = c.close.ensures.ended; lost = c.close.ensures.lost; asked = c.close.ensures.asked; unfailing = c.close.ensures.faults })
