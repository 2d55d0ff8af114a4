use Rattle.std.proofs.Common.{ℕ, subst, sym, ◌∙◌}
use Rattle.nr_record_loop.specs.Connections.{SinkCount, SourceCount}
use Rattle.nr_shared.specs.Sharing.{SharedRests}
use Rattle.nr_gate.specs.Gating.{loop_end}
use Rattle.nr_gate.proofs.gated_links.GatedLinks.run_here.Goals as goal

pub join-requires : goal.join-requires
join-requires g c = (
  subst (λ s. SharedRests s c.args.self.now.pass.now) (sym c.deref.ensures) c.requires.rests,
  subst (λ s. SharedRests s c.run-source.result.pass) (c.requires.share ∙ sym c.deref.ensures) c.run-source.ensures.rests,
)

pub returns-clause-served : goal.returns-clause-served
returns-clause-served g c no_source_fault no_sink_fault =
    let r = c.run-source.result in
    record {
      first = c.args.job.caller.pass.main;
      own = r.pass.main;
      split = c.requires.split;
      gated = c.run-source.ensures.gated;
      source_count = subst (λ (n : ℕ). SourceCount (loop_end r.end) n (g.I.Source.faults r.source)) no_source_fault c.run-source.ensures.source_count;
      sink_count = subst (λ (n : ℕ). SinkCount (loop_end r.end) n (g.O.Sink.faults r.sink)) no_sink_fault c.run-source.ensures.sink_count;
      joins = record {
        seen = c.join.ensures.longer;
        begins = c.join.ensures.seen.0;
        own_begins = c.join.ensures.seen.1;
        mine = c.join.ensures.mine;
      };
    }
