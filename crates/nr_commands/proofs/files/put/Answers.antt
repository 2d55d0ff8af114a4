use Rattle.std.proofs.Common.{ℕ, List, Result, inl, inr, refl, subst}
use Rattle.nr_outside.specs.Streams.{source_at}
use Rattle.nr_client.specs.declared.client_end.ClientEnd.{ClientEnd}
use Rattle.nr_commands.specs.Commands.{FindsParentOver, WritesInOver}
use Rattle.nr_commands.proofs.Parts.{with_user}
use Rattle.nr_commands.proofs.files.put.Goals as goal

pub returns-in-Err : goal.returns-in-Err
returns-in-Err g c =
    inr (c.in-Err.end, (subst (λ (r : Result (List ℕ × List ℕ) ClientEnd). FindsParentOver g.L.Calls.relations c.args.session.now.uid c.args.session.now.gid c.args.export.now c.args.path.now (g.L.Calls.at c.args.session.now.link) (g.L.Calls.at c.find_parent.new.session.link) r) c.in-Err.is c.find_parent.ensures.part, (refl, refl)))

pub returns : goal.returns
returns g c =
    inl (
      c.in-Ok.place,
      (
        (g.L.Calls.at c.find_parent.new.session.link),
        (
          subst (λ (r : Result (List ℕ × List ℕ) ClientEnd). FindsParentOver g.L.Calls.relations c.args.session.now.uid c.args.session.now.gid c.args.export.now c.args.path.now (g.L.Calls.at c.args.session.now.link) (g.L.Calls.at c.find_parent.new.session.link) r) c.in-Ok.is c.find_parent.ensures.part,
          with_user (λ u v. WritesInOver g.L.Calls.relations u v c.in-Ok.place.0 c.in-Ok.place.1 (source_at (g.N.Source.left c.args.input.now) (g.N.Source.given c.args.input.now) (g.N.Source.faults c.args.input.now)) (source_at (g.N.Source.left c.write_file-done.new.input) (g.N.Source.given c.write_file-done.new.input) (g.N.Source.faults c.write_file-done.new.input))) c.args.session.now.uid c.args.session.now.gid c.find_parent.new.session.uid c.find_parent.new.session.gid (g.L.Calls.at c.find_parent.new.session.link) (g.L.Calls.at c.write_file-done.new.self.link) c.silent.result c.find_parent.ensures.user
              (c.write_file-done.result, ((c.write_file-done.ensures.writes, (c.write_file-done.ensures.input_faults, c.write_file-done.ensures.faults)), c.silent.ensures)),
        ),
      ),
    )
