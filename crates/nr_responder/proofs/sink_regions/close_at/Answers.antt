use Rattle.std.proofs.Common.{◌≤◌, List, map, sym, ap, subst, ◌∙◌, All}
use Rattle.nr_header.specs.Constants.{PAYLOAD_MAX}
use Rattle.nr_responder.specs.declared.call.OpenSink.{OpenSink}
use Rattle.nr_responder.specs.Views.{call_view, read_view, sink_view}
use Rattle.nr_responder.specs.private.Reading.{is_sink_over}
use Rattle.nr_responder.proofs.ClosedSinks.{next_left, same_left}
use Rattle.nr_responder.proofs.Removed.{all_removed}
use Rattle.nr_responder.proofs.sink_regions.close_at.Goals as goal

pub returns-then-not-is_sink_over-clause-left : goal.returns-then-not-is_sink_over-clause-left
returns-then-not-is_sink_over-clause-left c =
    (next_left (map call_view c.args.calls.now) (map read_view c.args.reads.now) c.args.sinks.now.items c.args.at c.index.result.now c.args.endpoint.now.link c.requires.at
    (ap (λ (s : OpenSink). is_sink_over (map call_view c.args.calls.now) (map read_view c.args.reads.now) (sink_view s)) (sym c.index.ensures) ∙ sym c.is_sink_over.ensures ∙ c.if-not-is_sink_over.true)).0

pub returns-then-not-is_sink_over-clause-link : goal.returns-then-not-is_sink_over-clause-link
returns-then-not-is_sink_over-clause-link c =
    (next_left (map call_view c.args.calls.now) (map read_view c.args.reads.now) c.args.sinks.now.items c.args.at c.index.result.now c.args.endpoint.now.link c.requires.at
    (ap (λ (s : OpenSink). is_sink_over (map call_view c.args.calls.now) (map read_view c.args.reads.now) (sink_view s)) (sym c.index.ensures) ∙ sym c.is_sink_over.ensures ∙ c.if-not-is_sink_over.true)).1

pub returns-clause-left : goal.returns-clause-left
returns-clause-left c =
    (same_left (map call_view c.args.calls.now) (map read_view c.args.reads.now) c.args.sinks.now.items c.release_at.new.sinks.items c.args.at c.index.result.now c.args.endpoint.now.link c.release_at.new.endpoint.link c.requires.at
    (ap (λ (s : OpenSink). is_sink_over (map call_view c.args.calls.now) (map read_view c.args.reads.now) (sink_view s)) (sym c.index.ensures) ∙ sym c.is_sink_over.ensures ∙ c.if-not-is_sink_over.false) c.release_at.ensures.sinks (c.release_at.ensures.link c.index.result.now)).0

pub returns-clause-link : goal.returns-clause-link
returns-clause-link c =
    (same_left (map call_view c.args.calls.now) (map read_view c.args.reads.now) c.args.sinks.now.items c.release_at.new.sinks.items c.args.at c.index.result.now c.args.endpoint.now.link c.release_at.new.endpoint.link c.requires.at
    (ap (λ (s : OpenSink). is_sink_over (map call_view c.args.calls.now) (map read_view c.args.reads.now) (sink_view s)) (sym c.index.ensures) ∙ sym c.is_sink_over.ensures ∙ c.if-not-is_sink_over.false) c.release_at.ensures.sinks (c.release_at.ensures.link c.index.result.now)).1

pub returns-clause-short : goal.returns-clause-short
returns-clause-short c = subst (λ (ss : List OpenSink). All (λ s. s.registration.len ≤ PAYLOAD_MAX) ss) (sym c.release_at.ensures.sinks) (all_removed (λ (s : OpenSink). s.registration.len ≤ PAYLOAD_MAX) c.args.sinks.now.items c.args.at c.requires.short)
