use Rattle.std.proofs.Common.{◌≡◌, ◌≤◌, ◌∙◌, List, length, All, refl, sym, ap, subst, arith}
use Rattle.nr_header.specs.Constants.{PAYLOAD_MAX}
use Rattle.nr_regions.specs.RegisteredMemory.{Outside, RegisteredMemory, AreHeldFrom}
use Rattle.std.specs.FinMap.{FinMap, get}
use Rattle.std.specs.Ordering.{nat_cmp}
use Rattle.nr_endpoint.specs.LinkState.{LinkSide}
use Rattle.nr_responder.specs.declared.call.OpenSink.{OpenSink}
use Rattle.nr_responder.specs.Sound.{claims_of}
use Rattle.nr_responder.proofs.BegunReads.{begins_as, has_opened, HasOpened}
use Rattle.nr_responder.proofs.Windows.{same_outside}
use Rattle.nr_responder.proofs.starting.begin_reads.Goals as goal

pub take_memory-requires : goal.take_memory-requires
take_memory-requires c = record { inline = c.requires.inline; total = c.requires.total }

pub open_new-requires-clause-live : goal.open_new-requires-clause-live
open_new-requires-clause-live c = ap (λ (l : LinkSide). l.state.ended) c.take_memory.ensures.link ∙ c.requires.live

pub open_new-requires-clause-stags : goal.open_new-requires-clause-stags
open_new-requires-clause-stags c = (let next = ap (λ (l : LinkSide). l.state.memory.next) c.take_memory.ensures.link in omega (arith, next, c.requires.stags))

pub open_new-requires-clause-total : goal.open_new-requires-clause-total
open_new-requires-clause-total c = c.requires.total

pub register_sinks-requires-clause-room : goal.register_sinks-requires-clause-room
register_sinks-requires-clause-room c = omega (arith, c.open_new.ensures.room, c.in-Ok.ensures.room)

pub register_sinks-requires-clause-stags : goal.register_sinks-requires-clause-stags
register_sinks-requires-clause-stags c =
    let h : HasOpened c.args.reads.now.items c.open_new.new.reads.items c.args.endpoint.now.link c.open_new.new.endpoint.link =
    has_opened c.args.number _ c.args.read.now c.args.chunks.now c.args.reads.now.items c.open_new.new.reads.items c.args.endpoint.now.link c.take_memory.new.endpoint.link c.open_new.new.endpoint.link c.take_memory.ensures.link c.in-Ok-open_new.ensures.ok in
    let next : c.open_new.new.endpoint.link.state.memory.next ≡ c.args.endpoint.now.link.state.memory.next = ap (λ (m : RegisteredMemory). m.next) h.memory in
    omega (arith, next, c.requires.stags)

pub register_sinks-requires-clause-capacity : goal.register_sinks-requires-clause-capacity
register_sinks-requires-clause-capacity c = (let same = ap (λ (ss : List OpenSink). length ss) c.take_memory.ensures.sinks in omega (arith, same, c.in-Ok.ensures.capacity))

pub register_sinks-requires-clause-held : goal.register_sinks-requires-clause-held
register_sinks-requires-clause-held c =
    let h : HasOpened c.args.reads.now.items c.open_new.new.reads.items c.args.endpoint.now.link c.open_new.new.endpoint.link =
    has_opened c.args.number _ c.args.read.now c.args.chunks.now c.args.reads.now.items c.open_new.new.reads.items c.args.endpoint.now.link c.take_memory.new.endpoint.link c.open_new.new.endpoint.link c.take_memory.ensures.link c.in-Ok-open_new.ensures.ok in
    subst (λ (m : RegisteredMemory). AreHeldFrom m 0 (claims_of c.take_memory.new.sinks.items)) (sym h.memory)
    (subst (λ (ss : List OpenSink). AreHeldFrom c.args.endpoint.now.link.state.memory 0 (claims_of ss)) (sym c.take_memory.ensures.sinks) c.requires.held)

pub register_sinks-requires-clause-short : goal.register_sinks-requires-clause-short
register_sinks-requires-clause-short c = subst (λ (ss : List OpenSink). All (λ (s : OpenSink). s.registration.len ≤ PAYLOAD_MAX) ss) (sym c.take_memory.ensures.sinks) c.requires.short

pub register_sinks-requires-clause-total : goal.register_sinks-requires-clause-total
register_sinks-requires-clause-total c = c.requires.total

pub register_sinks-requires-clause-buffers : goal.register_sinks-requires-clause-buffers
register_sinks-requires-clause-buffers c = c.in-Ok.ensures.buffers

pub returns-in-Ok-open_new-clause-room : goal.returns-in-Ok-open_new-clause-room
returns-in-Ok-open_new-clause-room c = c.in-Ok.ensures.payload

pub returns-in-Ok-open_new-clause-ok : goal.returns-in-Ok-open_new-clause-ok
returns-in-Ok-open_new-clause-ok c =
    begins_as c.args.number c.args.read.now c.args.chunks.now c.args.reads.now.items c.open_new.new.reads.items c.args.sinks.now.items c.take_memory.new.sinks.items c.register_sinks.new.sinks.items
    c.args.endpoint.now.link c.take_memory.new.endpoint.link c.open_new.new.endpoint.link c.register_sinks.new.endpoint.link c.take_memory.ensures.link c.take_memory.ensures.sinks c.in-Ok-open_new.ensures.ok c.register_sinks.ensures.link c.register_sinks.ensures.sinks

pub returns-in-Ok-open_new-clause-held : goal.returns-in-Ok-open_new-clause-held
returns-in-Ok-open_new-clause-held c = c.register_sinks.ensures.held

pub returns-in-Ok-open_new-clause-short : goal.returns-in-Ok-open_new-clause-short
returns-in-Ok-open_new-clause-short c = c.register_sinks.ensures.short

pub returns-in-Ok-open_new-clause-outside : goal.returns-in-Ok-open_new-clause-outside
returns-in-Ok-open_new-clause-outside c = λ n nothing.
    let h : HasOpened c.args.reads.now.items c.open_new.new.reads.items c.args.endpoint.now.link c.open_new.new.endpoint.link =
    has_opened c.args.number _ c.args.read.now c.args.chunks.now c.args.reads.now.items c.open_new.new.reads.items c.args.endpoint.now.link c.take_memory.new.endpoint.link c.open_new.new.endpoint.link c.take_memory.ensures.link c.in-Ok-open_new.ensures.ok in
    c.register_sinks.ensures.outside n (same_outside c.args.endpoint.now c.open_new.new.endpoint n (ap (λ (m : RegisteredMemory). m.next) h.memory) (c.open_new.ensures.outside ∙ c.take_memory.ensures.outside) nothing)

pub returns-in-Ok-open_new-clause-kept : goal.returns-in-Ok-open_new-clause-kept
returns-in-Ok-open_new-clause-kept c = λ stag lt.
    let h : HasOpened c.args.reads.now.items c.open_new.new.reads.items c.args.endpoint.now.link c.open_new.new.endpoint.link =
    has_opened c.args.number _ c.args.read.now c.args.chunks.now c.args.reads.now.items c.open_new.new.reads.items c.args.endpoint.now.link c.take_memory.new.endpoint.link c.open_new.new.endpoint.link c.take_memory.ensures.link c.in-Ok-open_new.ensures.ok in
    c.register_sinks.ensures.kept stag (let next = ap (λ (m : RegisteredMemory). m.next) h.memory in omega (arith, lt, next)) ∙ ap (λ (m : FinMap nat_cmp Outside). get m stag) (c.open_new.ensures.outside ∙ c.take_memory.ensures.outside)

pub returns-in-Ok-open_new-clause-staging : goal.returns-in-Ok-open_new-clause-staging
returns-in-Ok-open_new-clause-staging c = c.register_sinks.ensures.staging ∙ c.open_new.ensures.staging ∙ c.take_memory.ensures.staging

pub returns-in-Err-open_new-clause-err : goal.returns-in-Err-open_new-clause-err
returns-in-Err-open_new-clause-err c = (c.in-Err-open_new.ensures.err.0 ∙ c.take_memory.ensures.link, (c.in-Err-open_new.ensures.err.1, c.take_memory.ensures.sinks))

pub returns-in-Err-open_new-clause-held : goal.returns-in-Err-open_new-clause-held
returns-in-Err-open_new-clause-held c =
    subst (λ (l : LinkSide). AreHeldFrom l.state.memory 0 (claims_of c.take_memory.new.sinks.items)) (sym (c.in-Err-open_new.ensures.err.0 ∙ c.take_memory.ensures.link))
    (subst (λ (ss : List OpenSink). AreHeldFrom c.args.endpoint.now.link.state.memory 0 (claims_of ss)) (sym c.take_memory.ensures.sinks) c.requires.held)

pub returns-in-Err-open_new-clause-short : goal.returns-in-Err-open_new-clause-short
returns-in-Err-open_new-clause-short c = subst (λ (ss : List OpenSink). All (λ (s : OpenSink). s.registration.len ≤ PAYLOAD_MAX) ss) (sym c.take_memory.ensures.sinks) c.requires.short

pub returns-in-Err-open_new-clause-outside : goal.returns-in-Err-open_new-clause-outside
returns-in-Err-open_new-clause-outside c = λ n nothing.
    same_outside c.args.endpoint.now c.open_new.new.endpoint n (ap (λ (l : LinkSide). l.state.memory.next) (c.in-Err-open_new.ensures.err.0 ∙ c.take_memory.ensures.link)) (c.open_new.ensures.outside ∙ c.take_memory.ensures.outside) nothing

pub returns-in-Err-open_new-clause-kept : goal.returns-in-Err-open_new-clause-kept
returns-in-Err-open_new-clause-kept c = λ stag lt. ap (λ (m : FinMap nat_cmp Outside). get m stag) (c.open_new.ensures.outside ∙ c.take_memory.ensures.outside)

pub returns-in-Err-open_new-clause-outside_err : goal.returns-in-Err-open_new-clause-outside_err
returns-in-Err-open_new-clause-outside_err c = c.open_new.ensures.outside ∙ c.take_memory.ensures.outside

pub returns-in-Err-open_new-clause-staging : goal.returns-in-Err-open_new-clause-staging
returns-in-Err-open_new-clause-staging c = c.open_new.ensures.staging ∙ c.take_memory.ensures.staging

pub returns-in-Err-clause-err : goal.returns-in-Err-clause-err
returns-in-Err-clause-err c = (c.take_memory.ensures.link, (refl, c.take_memory.ensures.sinks))

pub returns-in-Err-clause-held : goal.returns-in-Err-clause-held
returns-in-Err-clause-held c =
    subst (λ (l : LinkSide). AreHeldFrom l.state.memory 0 (claims_of c.take_memory.new.sinks.items)) (sym c.take_memory.ensures.link)
    (subst (λ (ss : List OpenSink). AreHeldFrom c.args.endpoint.now.link.state.memory 0 (claims_of ss)) (sym c.take_memory.ensures.sinks) c.requires.held)

pub returns-in-Err-clause-short : goal.returns-in-Err-clause-short
returns-in-Err-clause-short c = subst (λ (ss : List OpenSink). All (λ (s : OpenSink). s.registration.len ≤ PAYLOAD_MAX) ss) (sym c.take_memory.ensures.sinks) c.requires.short

pub returns-in-Err-clause-outside : goal.returns-in-Err-clause-outside
returns-in-Err-clause-outside c = λ n nothing. same_outside c.args.endpoint.now c.take_memory.new.endpoint n (ap (λ (l : LinkSide). l.state.memory.next) c.take_memory.ensures.link) c.take_memory.ensures.outside nothing

pub returns-in-Err-clause-kept : goal.returns-in-Err-clause-kept
returns-in-Err-clause-kept c = λ stag lt. ap (λ (m : FinMap nat_cmp Outside). get m stag) c.take_memory.ensures.outside

pub returns-in-Err-clause-outside_err : goal.returns-in-Err-clause-outside_err
returns-in-Err-clause-outside_err c = c.take_memory.ensures.outside

pub returns-in-Err-clause-staging : goal.returns-in-Err-clause-staging
returns-in-Err-clause-staging c = c.take_memory.ensures.staging
