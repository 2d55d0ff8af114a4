use Rattle.std.proofs.Common.{List, ℕ, Result, refl, subst, ◌∙◌}
use Rattle.nr_client.specs.declared.client_end.ClientEnd.{ClientEnd}
use Rattle.nr_client.specs.Dialing.{dialer_at}
use Rattle.nr_commands.specs.ByJobs.GetsByJobs.{NotOpened, NotFound, Found}
use Rattle.nr_commands.specs.Commands.{Finds}
use Rattle.nr_commands.specs.Sessions.{session_at}
use Rattle.nr_commands.proofs.Parts.{with_user}
use Rattle.nr_commands.proofs.SharedLinks.{reads_as}
use Rattle.nr_commands.proofs.by_jobs.get_at.Goals as goal

pub close-requires : goal.close-requires
close-requires g c = c.in-Ok.ensures.made.1

pub read_and_close-requires-clause-made : goal.read_and_close-requires-clause-made
read_and_close-requires-clause-made g c κs bounds = c.in-Ok.ensures.made.1

pub returns-in-Err : goal.returns-in-Err
returns-in-Err g c = NotOpened c.in-Err.end refl c.in-Err.ensures.err refl

pub returns-in-Err-find : goal.returns-in-Err-find
returns-in-Err-find g c =
    let state = c.in-Ok.ensures.state in
    let s = session_at (g.P.Source.left c.in-Ok.session.link.source.source) (g.P.Source.given c.in-Ok.session.link.source.source) (g.Q.Sink.taken c.in-Ok.session.link.sink.sink) c.in-Ok.session.link.read c.in-Ok.session.link.requester (g.P.Source.faults c.in-Ok.session.link.source.source) (g.Q.Sink.faults c.in-Ok.session.link.sink.sink) in
    let t = session_at (g.P.Source.left c.find.new.session.link.source.source) (g.P.Source.given c.find.new.session.link.source.source) (g.Q.Sink.taken c.find.new.session.link.sink.sink) c.find.new.session.link.read c.find.new.session.link.requester (g.P.Source.faults c.find.new.session.link.source.source) (g.Q.Sink.faults c.find.new.session.link.sink.sink) in
    NotFound (dialer_at (g.D.Dialer.asked c.open-opened.new.dialer) (g.D.Dialer.ended c.open-opened.new.dialer) (g.D.Dialer.lost c.open-opened.new.dialer) (g.D.Dialer.faults c.open-opened.new.dialer)) s t c.in-Err-find.end
    (record {
      asks = c.in-Ok.ensures.asked;
      makes = c.in-Ok.ensures.made;
      number = g.N.LinkNumber.number;
      counts = c.in-Ok.ensures.counts;
      told = c.in-Ok.ensures.told;
      fresh = c.in-Ok.ensures.fresh;
      nothing_read = state.1.0;
      requester = state.0;
      stands = c.in-Ok.ensures.stands;
      none_lost = c.in-Ok.ensures.lost;
      unfailing = c.in-Ok.ensures.counted;
    })
    (with_user (λ u v. Finds u v c.args.get.now.export.now c.args.get.now.path.now) c.args.get.now.uid c.args.get.now.gid c.in-Ok.session.uid c.in-Ok.session.gid s t _ state.1.1
    (subst (λ (r : Result (List ℕ) ClientEnd). Finds c.in-Ok.session.uid c.in-Ok.session.gid c.args.get.now.export.now c.args.get.now.path.now s t r) c.in-Err-find.is c.find.ensures.part))
    refl refl
    (record { ends = c.close.ensures.ended; lost = c.close.ensures.lost; asked = c.close.ensures.asked; unfailing = c.close.ensures.faults })

pub returns : goal.returns
returns g c =
    let state = c.in-Ok.ensures.state in
    let s = session_at (g.P.Source.left c.in-Ok.session.link.source.source) (g.P.Source.given c.in-Ok.session.link.source.source) (g.Q.Sink.taken c.in-Ok.session.link.sink.sink) c.in-Ok.session.link.read c.in-Ok.session.link.requester (g.P.Source.faults c.in-Ok.session.link.source.source) (g.Q.Sink.faults c.in-Ok.session.link.sink.sink) in
    let t = session_at (g.P.Source.left c.find.new.session.link.source.source) (g.P.Source.given c.find.new.session.link.source.source) (g.Q.Sink.taken c.find.new.session.link.sink.sink) c.find.new.session.link.read c.find.new.session.link.requester (g.P.Source.faults c.find.new.session.link.source.source) (g.Q.Sink.faults c.find.new.session.link.sink.sink) in
    Found (dialer_at (g.D.Dialer.asked c.open-opened.new.dialer) (g.D.Dialer.ended c.open-opened.new.dialer) (g.D.Dialer.lost c.open-opened.new.dialer) (g.D.Dialer.faults c.open-opened.new.dialer)) s t c.in-Ok-find.file
    (record {
      asks = c.in-Ok.ensures.asked;
      makes = c.in-Ok.ensures.made;
      number = g.N.LinkNumber.number;
      counts = c.in-Ok.ensures.counts;
      told = c.in-Ok.ensures.told;
      fresh = c.in-Ok.ensures.fresh;
      nothing_read = state.1.0;
      requester = state.0;
      stands = c.in-Ok.ensures.stands;
      none_lost = c.in-Ok.ensures.lost;
      unfailing = c.in-Ok.ensures.counted;
    })
    (with_user (λ u v. Finds u v c.args.get.now.export.now c.args.get.now.path.now) c.args.get.now.uid c.args.get.now.gid c.in-Ok.session.uid c.in-Ok.session.gid s t _ state.1.1
    (subst (λ (r : Result (List ℕ) ClientEnd). Finds c.in-Ok.session.uid c.in-Ok.session.gid c.args.get.now.export.now c.args.get.now.path.now s t r) c.in-Ok-find.is c.find.ensures.part))
    (reads_as c.args.get.now.uid c.args.get.now.gid _ _ c.in-Ok-find.file g.N.LinkNumber.number t _ _ _ _ c.read_and_close.result (c.find.ensures.user.0 ∙ state.1.1.0) (c.find.ensures.user.1 ∙ state.1.1.1) c.read_and_close.ensures)
