use Rattle.std.proofs.Common.{◌≤◌, List, map, sym, subst, ◌∙◌, All}
use Rattle.nr_header.specs.Constants.{PAYLOAD_MAX}
use Rattle.nr_responder.specs.declared.call.OpenSink.{OpenSink}
use Rattle.nr_responder.specs.Views.{call_view, read_view}
use Rattle.nr_responder.proofs.ClosedSinks.{closed_with, no_sink}
use Rattle.nr_responder.proofs.Removed.{all_removed}
use Rattle.nr_responder.proofs.Windows.{keeps_on}
use Rattle.nr_responder.proofs.sink_regions.close_with.Goals as goal

pub close_over-requires-clause-short : goal.close_over-requires-clause-short
close_over-requires-clause-short c = subst (λ (ss : List OpenSink). All (λ s. s.registration.len ≤ PAYLOAD_MAX) ss) (sym c.release_at-buffer.ensures.sinks) (all_removed (λ (s : OpenSink). s.registration.len ≤ PAYLOAD_MAX) c.args.sinks.now.items c.args.at c.requires.short)

pub returns-clause-link : goal.returns-clause-link
returns-clause-link c =
    c.close_over.ensures.link
    ∙ (closed_with (map call_view c.args.calls.now) (map read_view c.args.reads.now) c.args.sinks.now.items c.release_at-buffer.new.sinks.items c.args.at no_sink c.args.endpoint.now.link c.release_at-buffer.new.endpoint.link c.requires.at (c.requires.over no_sink) c.release_at-buffer.ensures.sinks (c.release_at-buffer.ensures.link no_sink)).0

pub returns-clause-sinks : goal.returns-clause-sinks
returns-clause-sinks c =
    c.close_over.ensures.sinks
    ∙ (closed_with (map call_view c.args.calls.now) (map read_view c.args.reads.now) c.args.sinks.now.items c.release_at-buffer.new.sinks.items c.args.at no_sink c.args.endpoint.now.link c.release_at-buffer.new.endpoint.link c.requires.at (c.requires.over no_sink) c.release_at-buffer.ensures.sinks (c.release_at-buffer.ensures.link no_sink)).1

pub returns-clause-less : goal.returns-clause-less
returns-clause-less c = λ d o n there h. c.close_over.ensures.outside n (c.release_at-buffer.ensures.less d o n there h)

pub returns-clause-kept : goal.returns-clause-kept
returns-clause-kept c = keeps_on c.args.endpoint.now c.release_at-buffer.new.endpoint c.close_over.new.endpoint c.release_at-buffer.ensures.kept c.close_over.ensures.kept
