use Rattle.std.proofs.Common.{List, map, ap, ◌∙◌}
use Rattle.nr_responder.specs.declared.call.ReadEntry.{ReadEntry}
use Rattle.nr_responder.specs.private.Reading.{left_sinks, opening, over_sinks, with_opened}
use Rattle.nr_responder.specs.Views.{call_view, read_view, sink_view}
use Rattle.nr_responder.proofs.ReadsGoOn.{opened_closed_sound}
use Rattle.nr_responder.proofs.server_end.ServerEnd.read_on.Goals as goal

pub returns-clause-sound : goal.returns-clause-sound
returns-clause-sound c =
    opened_closed_sound c.args.self.now.endpoint c.open_reads.new.endpoint c.close_over.new.endpoint (opening c.args.kept (map read_view c.args.self.now.reads.items)) (over_sinks (map call_view c.as_slice-2.result.now) (map read_view c.as_slice-3.result.now) (map sink_view c.args.self.now.sinks.items)) c.args.self.now.calls.items c.args.self.now.ready.items c.args.self.now.used.items c.args.self.now.reads.items c.args.self.now.sinks.items c.close_over.new.sinks.items _ _ _
    (c.in_ok-open_reads.ensures.ok ∙ ap (λ (rs : List ReadEntry). with_opened (opening c.args.kept (map read_view rs)) c.args.self.now.endpoint.link) c.as_slice.ensures.value) c.open_reads.ensures.outside c.close_over.ensures.link c.close_over.ensures.held c.close_over.ensures.short c.close_over.ensures.outside c.close_over.ensures.kept
    (c.close_over.ensures.sinks ∙ (λ i. left_sinks (map call_view (c.as_slice-2.ensures.value i)) (map read_view (c.as_slice-3.ensures.value i)) (map sink_view c.args.self.now.sinks.items))) c.requires.sound
