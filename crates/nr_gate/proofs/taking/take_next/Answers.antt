use Rattle.std.proofs.Common.{ℕ, ap, sym, subst, refl, ◌∙◌}
use Rattle.std.proofs.lemmas.Option.{IfSome_then}
use Rattle.nr_links.specs.Links.{CountsLost, EndedLink, ended_link}
use Rattle.nr_gate.specs.GateLinks.{GatesByPass, SplitsOff}
use Rattle.nr_gate.proofs.Links.{gates_from}
use Rattle.nr_gate.proofs.taking.take_next.Goals as goal

pub make_job-job-requires-clause-link : goal.make_job-job-requires-clause-link
make_job-job-requires-clause-link g c κs bounds = c.in-Ok-accept.ensures.numbered.source ∙ sym c.in-Ok-accept.ensures.numbered.sink

pub run_here-source-requires-clause-share : goal.run_here-source-requires-clause-share
run_here-source-requires-clause-share g c κs bounds = ap (λ j. j.caller.remote) c.in-Err.ensures.back ∙ c.make_job-job.ensures.share

pub run_here-source-requires-clause-split : goal.run_here-source-requires-clause-split
run_here-source-requires-clause-split g c κs bounds =
    subst (λ j. SplitsOff c.make_job-job.new.self.pass.now.main j.caller.pass.main) (sym c.in-Err.ensures.back) c.make_job-job.ensures.split

pub hang_up-requires-clause-same : goal.hang_up-requires-clause-same
hang_up-requires-clause-same g c =
    let source = ap (λ j. j.source) c.in-Err.ensures.back ∙ c.make_job-job.ensures.source in
    let sink = ap (λ j. j.sink) c.in-Err.ensures.back ∙ c.make_job-job.ensures.sink in
    let numbered = c.in-Ok-accept.ensures.numbered in
    c.run_here-source.ensures.source_link ∙ ap (λ s. g.A.Source.LinkSource.link s) source ∙ numbered.source ∙ sym numbered.sink
    ∙ sym (c.run_here-source.ensures.sink_link ∙ ap (λ s. g.A.Sink.LinkSink.link s) sink)

pub returns-clause-served : goal.returns-clause-served
returns-clause-served g c =
    let link = g.A.Source.LinkSource.link in let given = g.A.Source.Source.given in let left = g.A.Source.Source.left in let taken = g.A.Sink.Sink.taken in
    let accepted = c.in-Ok-accept in let r = c.run_here-source.result in let mid = c.make_job-job.new.self.pass.now.main in let after = c.run_here-source.new.self.pass.now.main in
    let source = ap (λ j. j.source) c.in-Err.ensures.back ∙ c.make_job-job.ensures.source in
    let sink = ap (λ j. j.sink) c.in-Err.ensures.back ∙ c.make_job-job.ensures.sink in
    let fresh = accepted.ensures.fresh in
    let opened = ended_link (link accepted.source) (given accepted.source) (left accepted.source) (taken accepted.sink) in
    let closed = ended_link (link r.0) (given r.0) (left r.0) (taken r.1) in
    let served = c.run_here-source.ensures.served (ap (λ s. g.A.Source.Source.faults s) source ∙ fresh.no_source_fault) (ap (λ s. g.A.Sink.Sink.faults s) sink ∙ fresh.no_sink_fault) in
    record {
      opened = opened;
      closed = closed;
      log = g.A.Acceptor.ended c.accept.new.self;
      source_faults = g.A.Source.Source.faults r.0;
      sink_faults = g.A.Sink.Sink.faults r.1;
      fresh = record { nothing_given = fresh.nothing_given; nothing_taken = fresh.nothing_taken; no_source_fault = refl; no_sink_fault = refl };
      told = accepted.ensures.told;
      numbered = IfSome_then (g.A.Acceptor.ended c.args.acceptor.now) accepted.ensures.numbered.counts (λ log made. made ∙ sym accepted.ensures.numbered.source);
      same_number = c.run_here-source.ensures.source_link ∙ ap link source;
      served = gates_from c.args.jobs.now.pass.now.main mid after opened closed (g.A.Source.Source.faults r.0) (g.A.Sink.Sink.faults r.1) r.2 c.make_job-job.ensures.known
          (subst (λ (o : EndedLink). GatesByPass mid o closed (g.A.Source.Source.faults r.0) (g.A.Sink.Sink.faults r.1) r.2 after)
          (λ i. ended_link (link (source i)) (given (source i)) (left (source i)) (taken (sink i))) served);
      made = accepted.ensures.made;
      hung_up = c.hang_up.ensures.ended;
      lost = subst (λ (n : ℕ). CountsLost (g.A.Source.Source.faults r.0) (g.A.Sink.Sink.faults r.1) n (g.A.Acceptor.lost c.hang_up.new.self)) c.accept.ensures.lost c.hang_up.ensures.lost;
      started = c.in-Err.ensures.started;
    }
