use Rattle.std.proofs.Common.{◌≡◌, ◌∙◌, List, get_or, sym, ap, subst}
use Rattle.std.specs.List.{remove}
use Rattle.std.specs.FinMap.{get}
use Rattle.nr_regions.specs.RegisteredMemory.{IsHeld, RegisteredMemory, after_release, buffer_around, bytes_in, held_region, AreHeldFrom}
use Rattle.nr_responder.specs.declared.call.OpenSink.{OpenSink}
use Rattle.nr_responder.specs.Sound.{claims_of}
use Rattle.nr_responder.specs.Views.{sink_view}
use Rattle.nr_responder.proofs.Answered.{same_item}
use Rattle.nr_responder.proofs.HeldSinks.{held_at, released_held, released_link, released_memory, released_outside}
use Rattle.nr_responder.proofs.Windows.{less_outside, released_keeps}
use Rattle.nr_responder.proofs.sink_regions.release_at.Goals as goal

pub release_buffer-requires : goal.release_buffer-requires
release_buffer-requires c =
    subst (λ (s : OpenSink). IsHeld c.args.endpoint.now.link.state.memory s.registration) (sym c.remove-sink.ensures.value)
    (held_at c.args.endpoint.now.link.state.memory 0 c.args.sinks.now.items c.args.at c.remove-sink.result c.requires.at c.requires.held)

pub returns-clause-link : goal.returns-clause-link
returns-clause-link c = λ d.
    released_link c.args.endpoint.now.link c.release_buffer.new.self.link (sink_view (get_or c.args.sinks.now.items c.args.at d)) c.remove-sink.result.registration.stag c.release_buffer.ensures.state
    (ap (λ (s : OpenSink). s.registration.stag) (c.remove-sink.ensures.value ∙ same_item c.args.sinks.now.items c.args.at d c.remove-sink.result c.requires.at))

pub returns-clause-held : goal.returns-clause-held
returns-clause-held c =
    let link = released_link c.args.endpoint.now.link c.release_buffer.new.self.link (sink_view c.remove-sink.result) c.remove-sink.result.registration.stag c.release_buffer.ensures.state (λ i. c.remove-sink.result.registration.stag) in
    subst (λ (m : RegisteredMemory). AreHeldFrom m 0 (claims_of c.remove-sink.new.self.items)) (sym (released_memory c.args.endpoint.now.link c.release_buffer.new.self.link (sink_view c.remove-sink.result) link).0)
    (subst (λ (ss : List OpenSink). AreHeldFrom (after_release c.args.endpoint.now.link.state.memory c.remove-sink.result.registration.stag) 0 (claims_of ss)) (sym c.remove-sink.ensures.items)
    (subst (λ (s : OpenSink). AreHeldFrom (after_release c.args.endpoint.now.link.state.memory s.registration.stag) 0 (claims_of (remove c.args.sinks.now.items c.args.at))) (sym c.remove-sink.ensures.value)
    (released_held c.args.endpoint.now.link.state.memory 0 c.args.sinks.now.items c.args.at c.remove-sink.result c.requires.at c.requires.held)))

pub returns-clause-outside : goal.returns-clause-outside
returns-clause-outside c = λ n.
    let link = released_link c.args.endpoint.now.link c.release_buffer.new.self.link (sink_view c.remove-sink.result) c.remove-sink.result.registration.stag c.release_buffer.ensures.state (λ i. c.remove-sink.result.registration.stag) in
    released_outside c.args.endpoint.now c.release_buffer.new.self c.remove-sink.result.registration.stag n (released_memory c.args.endpoint.now.link c.release_buffer.new.self.link (sink_view c.remove-sink.result) link).1 c.release_buffer.ensures.outside

pub returns-clause-less : goal.returns-clause-less
returns-clause-less c = λ d o n there.
    let link = released_link c.args.endpoint.now.link c.release_buffer.new.self.link (sink_view c.remove-sink.result) c.remove-sink.result.registration.stag c.release_buffer.ensures.state (λ i. c.remove-sink.result.registration.stag) in
    let same : c.remove-sink.result ≡ get_or c.args.sinks.now.items c.args.at d = c.remove-sink.ensures.value ∙ same_item c.args.sinks.now.items c.args.at d c.remove-sink.result c.requires.at in
    less_outside c.args.endpoint.now c.release_buffer.new.self c.remove-sink.result.registration.stag n o (released_memory c.args.endpoint.now.link c.release_buffer.new.self.link (sink_view c.remove-sink.result) link).1 c.release_buffer.ensures.outside
    (ap (λ (s : OpenSink). get c.args.endpoint.now.outside s.registration.stag) same ∙ there)

pub returns-clause-kept : goal.returns-clause-kept
returns-clause-kept c =
    let link = released_link c.args.endpoint.now.link c.release_buffer.new.self.link (sink_view c.remove-sink.result) c.remove-sink.result.registration.stag c.release_buffer.ensures.state (λ i. c.remove-sink.result.registration.stag) in
    released_keeps c.args.endpoint.now c.release_buffer.new.self c.remove-sink.result.registration.stag (released_memory c.args.endpoint.now.link c.release_buffer.new.self.link (sink_view c.remove-sink.result) link).0 c.release_buffer.ensures.outside

pub returns-clause-bytes : goal.returns-clause-bytes
returns-clause-bytes c = λ d.
    let same : c.remove-sink.result ≡ get_or c.args.sinks.now.items c.args.at d = c.remove-sink.ensures.value ∙ same_item c.args.sinks.now.items c.args.at d c.remove-sink.result c.requires.at in
    c.release_buffer.ensures.bytes
    ∙ ap (λ (s : OpenSink). buffer_around (get c.args.endpoint.now.outside s.registration.stag) (bytes_in (held_region c.args.endpoint.now.link.state.memory s.registration.stag))) same
