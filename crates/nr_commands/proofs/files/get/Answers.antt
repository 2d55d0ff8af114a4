use Rattle.std.proofs.Common.{ℕ, List, Result, inl, inr, refl, subst}
use Rattle.nr_outside.specs.Streams.{sink_at}
use Rattle.nr_client.specs.declared.client_end.ClientEnd.{ClientEnd}
use Rattle.nr_commands.specs.Commands.{FindsOver, ReadsOutOver}
use Rattle.nr_commands.proofs.Parts.{with_user}
use Rattle.nr_commands.proofs.files.get.Goals as goal

pub returns-in-Err : goal.returns-in-Err
returns-in-Err g c =
    inr (c.in-Err.end, (subst (λ (r : Result (List ℕ) ClientEnd). FindsOver g.L.Calls.relations c.args.session.now.uid c.args.session.now.gid c.args.export.now c.args.path.now (g.L.Calls.at c.args.session.now.link) (g.L.Calls.at c.find.new.session.link) r) c.in-Err.is c.find.ensures.part, (refl, refl)))

pub returns : goal.returns
returns g c =
    inl (
      c.in-Ok.file,
      (
        (g.L.Calls.at c.find.new.session.link),
        (
          subst (λ (r : Result (List ℕ) ClientEnd). FindsOver g.L.Calls.relations c.args.session.now.uid c.args.session.now.gid c.args.export.now c.args.path.now (g.L.Calls.at c.args.session.now.link) (g.L.Calls.at c.find.new.session.link) r) c.in-Ok.is c.find.ensures.part,
          with_user (λ u v. ReadsOutOver g.L.Calls.relations u v c.in-Ok.file (sink_at (g.K.Sink.taken c.args.out.now) (g.K.Sink.faults c.args.out.now)) (sink_at (g.K.Sink.taken c.read_file-done.new.out) (g.K.Sink.faults c.read_file-done.new.out))) c.args.session.now.uid c.args.session.now.gid c.find.new.session.uid c.find.new.session.gid (g.L.Calls.at c.find.new.session.link) (g.L.Calls.at c.read_file-done.new.self.link) c.silent.result c.find.ensures.user
              (c.read_file-done.result, ((c.read_file-done.ensures.reads, (c.read_file-done.ensures.out_faults, c.read_file-done.ensures.faults)), c.silent.ensures)),
        ),
      ),
    )
