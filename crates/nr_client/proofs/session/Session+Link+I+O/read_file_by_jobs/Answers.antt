use Rattle.std.proofs.Common.{◌≢◌, Some, Ok, Err, refl, subst, sym}
use Rattle.nr_link.specs.declared.end.End.TheVariants as ends
use Rattle.nr_nfs_base.specs.declared.attributes.Attributes.{Attributes}
use Rattle.nr_requester.specs.RequesterState.{RequesterSide}
use Rattle.nr_outside.specs.Streams.{sink_at, source_at}
use Rattle.nr_nfs_base.specs.Procedures.{nfs_program, nfs_version}
use Rattle.nr_client.specs.Requests.{getattr_call, getattr_result}
use Rattle.nr_client.specs.Views.{link_view}
use Rattle.nr_client.proofs.JobReading.{no_attributes, shared_after}
use Rattle.nr_client.proofs.LinkRelations.{both_counts, has_memory}
use Rattle.nr_client.proofs.Outcomes.{writable}
use Rattle.nr_client.proofs.session.Session+Link+I+O.read_file_by_jobs.Goals as goal

pub ask_nfs-requires : goal.ask_nfs-requires
ask_nfs-requires g c = writable c.getattr_call-call.result nfs_program nfs_version 1 c.self.inside.uid c.self.inside.gid _ c.getattr_call-call.ensures

pub read_shared-result-requires-clause-rule : goal.read_shared-result-requires-clause-rule
read_shared-result-requires-clause-rule g c κs bounds call is = (is, refl)

pub read_shared-result-requires-clause-only : goal.read_shared-result-requires-clause-only
read_shared-result-requires-clause-only g c κs bounds call form is = is

pub read_shared-result-requires-clause-has_memory : goal.read_shared-result-requires-clause-has_memory
read_shared-result-requires-clause-has_memory g c κs bounds =
    subst (λ (r : RequesterSide). r.state.side.ended ≢ Some ends.Memory) (sym c.into_ends-link.ensures.requester)
    (has_memory getattr_result (getattr_call c.self.inside.uid c.self.inside.gid c.args.file.now) (link_view (g.I.Source.left c.self.inside.link.source) (g.I.Source.given c.self.inside.link.source) (g.O.Sink.taken c.self.inside.link.sink) c.self.inside.link.read c.self.inside.link.requester (g.I.Source.faults c.self.inside.link.source) (g.O.Sink.faults c.self.inside.link.sink)) (link_view (g.I.Source.left c.ask_nfs.new.link.source) (g.I.Source.given c.ask_nfs.new.link.source) (g.O.Sink.taken c.ask_nfs.new.link.sink) c.ask_nfs.new.link.read c.ask_nfs.new.link.requester (g.I.Source.faults c.ask_nfs.new.link.source) (g.O.Sink.faults c.ask_nfs.new.link.sink)) c.in-Ok.attributes (c.in-Ok.ensures.asks _ c.getattr_call-call.ensures))

pub returns-in-Err-clause-reads : goal.returns-in-Err-clause-reads
returns-in-Err-clause-reads g c =
    let counts = both_counts {A = Attributes} (Err c.in-Err.end) (link_view (g.I.Source.left c.self.inside.link.source) (g.I.Source.given c.self.inside.link.source) (g.O.Sink.taken c.self.inside.link.sink) c.self.inside.link.read c.self.inside.link.requester (g.I.Source.faults c.self.inside.link.source) (g.O.Sink.faults c.self.inside.link.sink)) (link_view (g.I.Source.left c.ask_nfs.new.link.source) (g.I.Source.given c.ask_nfs.new.link.source) (g.O.Sink.taken c.ask_nfs.new.link.sink) c.ask_nfs.new.link.read c.ask_nfs.new.link.requester (g.I.Source.faults c.ask_nfs.new.link.source) (g.O.Sink.faults c.ask_nfs.new.link.sink)) c.in-Err.ensures.faults in
    rw (sym c.self.view_is) (no_attributes g.I.Source.left g.I.Source.given g.I.Source.faults g.O.Sink.taken g.O.Sink.faults c.self.inside.uid c.self.inside.gid c.args.file.now c.self.inside.link c.ask_nfs.new.link
    c.in-Err.end c.into_link-source.result.0 c.into_link-source.result.1 (g.K.Sink.taken c.args.out.now)
    (c.in-Err.ensures.asks _ c.getattr_call-call.ensures) counts.0 counts.1 c.into_link-source.ensures.0 c.into_link-source.ensures.1)

pub returns-clause-reads : goal.returns-clause-reads
returns-clause-reads g c =
    let rest = c.into_ends-link.ensures.rest in
    let counts = both_counts (Ok c.in-Ok.attributes) (link_view (g.I.Source.left c.self.inside.link.source) (g.I.Source.given c.self.inside.link.source) (g.O.Sink.taken c.self.inside.link.sink) c.self.inside.link.read c.self.inside.link.requester (g.I.Source.faults c.self.inside.link.source) (g.O.Sink.faults c.self.inside.link.sink)) (link_view (g.I.Source.left c.ask_nfs.new.link.source) (g.I.Source.given c.ask_nfs.new.link.source) (g.O.Sink.taken c.ask_nfs.new.link.sink) c.ask_nfs.new.link.read c.ask_nfs.new.link.requester (g.I.Source.faults c.ask_nfs.new.link.source) (g.O.Sink.faults c.ask_nfs.new.link.sink)) c.in-Ok.ensures.faults in
    rw (sym c.self.view_is) (shared_after g.I.Source.left g.I.Source.given g.I.Source.faults g.O.Sink.taken g.O.Sink.faults c.self.inside.uid c.self.inside.gid c.args.file.now c.self.inside.link c.ask_nfs.new.link
    c.in-Ok.attributes c.into_ends-link.result.requester c.into_ends-link.result.source.source c.into_ends-link.result.sink.sink c.into_ends-link.result.read
    (source_at (g.I.Source.left c.read_shared-result.result.1.source) (g.I.Source.given c.read_shared-result.result.1.source) (g.I.Source.faults c.read_shared-result.result.1.source)) (sink_at (g.O.Sink.taken c.read_shared-result.result.2.sink) (g.O.Sink.faults c.read_shared-result.result.2.sink))
    (g.K.Sink.taken c.args.out.now) (g.K.Sink.taken c.read_shared-result.new.out) c.read_shared-result.result.0
    (c.in-Ok.ensures.asks _ c.getattr_call-call.ensures) counts.0 counts.1 c.into_ends-link.ensures.requester rest.0 rest.1.0 rest.1.1 c.read_shared-result.ensures.reads)
