use Rattle.std.proofs.Common.{ℕ, sym, subst, refl, ◌∙◌}
use Rattle.std.proofs.lemmas.Option.{IfSome_then}
use Rattle.nr_links.specs.Links.{CountsLost, ended_link}
use Rattle.nr_accept.proofs.taking.take_next.Goals as goal

pub run_here-source-requires-clause-made : goal.run_here-source-requires-clause-made
run_here-source-requires-clause-made g c κs bounds =
    (c.args.jobs.now, (c.in-Ok-accept.source, (c.in-Ok-accept.sink, subst (λ j. g.L.LinkJobs.made c.args.jobs.now c.make-job.new.self c.in-Ok-accept.source c.in-Ok-accept.sink j) (sym c.in-Err.ensures.back) c.make-job.ensures.made)))

pub make-job-requires-clause-link : goal.make-job-requires-clause-link
make-job-requires-clause-link g c κs bounds = c.in-Ok-accept.ensures.numbered.source ∙ sym c.in-Ok-accept.ensures.numbered.sink

pub hang_up-requires-clause-same : goal.hang_up-requires-clause-same
hang_up-requires-clause-same g c =
    let made = subst (λ j. g.L.LinkJobs.made c.args.jobs.now c.make-job.new.self c.in-Ok-accept.source c.in-Ok-accept.sink j) (sym c.in-Err.ensures.back) c.make-job.ensures.made in
    let links = c.run_here-source.ensures.links c.args.jobs.now c.in-Ok-accept.source c.in-Ok-accept.sink made in
    links.0 ∙ c.in-Ok-accept.ensures.numbered.source ∙ sym c.in-Ok-accept.ensures.numbered.sink ∙ sym links.1

pub returns-clause-served : goal.returns-clause-served
returns-clause-served g c =
    let source = c.in-Ok-accept.source in let sink = c.in-Ok-accept.sink in let r = c.run_here-source.result in
    let fresh = c.in-Ok-accept.ensures.fresh in
    let made = subst (λ j. g.L.LinkJobs.made c.args.jobs.now c.make-job.new.self source sink j) (sym c.in-Err.ensures.back) c.make-job.ensures.made in
    record {
      opened = ended_link (g.A.Source.LinkSource.link source) (g.A.Source.Source.given source) (g.A.Source.Source.left source) (g.A.Sink.Sink.taken sink);
      closed = ended_link (g.A.Source.LinkSource.link r.0) (g.A.Source.Source.given r.0) (g.A.Source.Source.left r.0) (g.A.Sink.Sink.taken r.1);
      log = g.A.Acceptor.ended c.accept.new.self;
      source_faults = g.A.Source.Source.faults r.0;
      sink_faults = g.A.Sink.Sink.faults r.1;
      fresh = record { nothing_given = fresh.nothing_given; nothing_taken = fresh.nothing_taken; no_source_fault = refl; no_sink_fault = refl };
      told = c.in-Ok-accept.ensures.told;
      numbered = IfSome_then (g.A.Acceptor.ended c.args.acceptor.now) c.in-Ok-accept.ensures.numbered.counts (λ log made. made ∙ sym c.in-Ok-accept.ensures.numbered.source);
      same_number = (c.run_here-source.ensures.links c.args.jobs.now source sink made).0;
      served = c.run_here-source.ensures.served c.args.jobs.now source sink made fresh.no_source_fault fresh.no_sink_fault;
      made = c.in-Ok-accept.ensures.made;
      hung_up = c.hang_up.ensures.ended;
      lost = subst (λ (n : ℕ). CountsLost (g.A.Source.Source.faults r.0) (g.A.Sink.Sink.faults r.1) n (g.A.Acceptor.lost c.hang_up.new.self)) c.accept.ensures.lost c.hang_up.ensures.lost;
      started = c.in-Err.ensures.started;
    }
