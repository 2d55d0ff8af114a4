use Rattle.nr_outside.specs.Streams.{sink_at, source_at}
use Rattle.nr_words.specs.Lines.{plain_numbered}
use Rattle.nr_commands.proofs.NumberedSessions.{runs_first, runs_none}
use Rattle.nr_commands.proofs.numbered.run_lent.Goals as goal

pub returns-in-Err : goal.returns-in-Err
returns-in-Err g c = record {
  name = c.not_opened.ensures.name;
  runs = runs_none
      (record {
        link = g.P.LinkSource.link;
        left = g.P.Source.left;
        given = g.P.Source.given;
        faults = g.P.Source.faults;
        sink_link = g.Q.LinkSink.link;
        taken = g.Q.Sink.taken;
        sink_faults = g.Q.Sink.faults;
        asked = g.D.Dialer.asked;
        ended = g.D.Dialer.ended;
        lost = g.D.Dialer.lost;
        dialer_faults = g.D.Dialer.faults;
      })
      c.new-lent.result (λ l. l.dialer.now) c.in-Err.back.1 (plain_numbered c.args.numbered.now) c.from.result c.args.dial.now c.not_opened.result.1.now c.in-Err.back.0 c.not_opened.result.0
      (source_at (g.I.Source.left c.args.input.now) (g.I.Source.given c.args.input.now) (g.I.Source.faults c.args.input.now)) (sink_at (g.K.Sink.taken c.args.out.now) (g.K.Sink.faults c.args.out.now))
      c.new-lent.ensures c.not_opened.ensures.same c.from.ensures c.not_opened.ensures.end c.in-Err.ensures.err;
}

pub returns : goal.returns
returns g c = record {
  name = c.into_inner-back.ensures.name;
  runs = runs_first
      (record {
        link = g.P.LinkSource.link;
        left = g.P.Source.left;
        given = g.P.Source.given;
        faults = g.P.Source.faults;
        sink_link = g.Q.LinkSink.link;
        taken = g.Q.Sink.taken;
        sink_faults = g.Q.Sink.faults;
        asked = g.D.Dialer.asked;
        ended = g.D.Dialer.ended;
        lost = g.D.Dialer.lost;
        dialer_faults = g.D.Dialer.faults;
      })
      c.new-lent.result (λ l. l.dialer.now) c.close.result c.in-Ok.session.link.pass c.text_of-text.new.session.link.pass (plain_numbered c.args.numbered.now) c.from.result c.in-Ok.session.uid c.in-Ok.session.gid
      c.args.dial.now c.into_inner-back.result.now c.text_of-text.result c.print.result
      (source_at (g.I.Source.left c.args.input.now) (g.I.Source.given c.args.input.now) (g.I.Source.faults c.args.input.now)) (source_at (g.I.Source.left c.text_of-text.new.input) (g.I.Source.given c.text_of-text.new.input) (g.I.Source.faults c.text_of-text.new.input))
      (sink_at (g.K.Sink.taken c.args.out.now) (g.K.Sink.faults c.args.out.now)) (sink_at (g.K.Sink.taken c.text_of-text.new.out) (g.K.Sink.faults c.text_of-text.new.out)) (sink_at (g.K.Sink.taken c.print.new.out) (g.K.Sink.faults c.print.new.out))
      c.new-lent.ensures c.into_inner-back.ensures.same c.from.ensures c.in-Ok.ensures.user c.in-Ok.ensures.opened c.text_of-text.ensures c.close.ensures c.print.ensures;
}
