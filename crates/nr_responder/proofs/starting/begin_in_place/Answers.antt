use Rattle.std.proofs.Common.{◌≡◌, ℕ, ◌+◌, ◌≤◌, ◌∙◌, List, length, replicate, get_or, All, refl, sym, ap, subst, arith}
use Rattle.std.proofs.lemmas.List.{length-replicate}
use Rattle.nr_header.specs.Constants.{PAYLOAD_MAX}
use Rattle.nr_regions.specs.RegisteredMemory.{RegisteredMemory, AreHeldFrom}
use Rattle.nr_endpoint.specs.LinkState.{LinkSide}
use Rattle.nr_responder.specs.declared.call.OpenSink.{OpenSink}
use Rattle.nr_responder.specs.Sound.{claims_of}
use Rattle.nr_responder.proofs.BegunReads.{begins_as, has_opened, HasOpened}
use Rattle.nr_responder.proofs.BegunWindows.{begins_outside, registered_one, sinks_one, window_zeros}
use Rattle.nr_responder.proofs.ListedReads.{total_within}
use Rattle.nr_responder.proofs.starting.begin_in_place.Goals as goal

pub overflow_cast-len : goal.overflow_cast-len
overflow_cast-len c = (let most = total_within (get_or c.args.chunks.now 0 0) c.args.read.now in omega (arith, most, c.total_at-len.ensures, c.requires.total))

pub overflow_add-around : goal.overflow_add-around
overflow_add-around c = (let most = total_within (get_or c.args.chunks.now 0 0) c.args.read.now in omega (arith, most, c.total_at-len.ensures, c.requires.total, c.requires.window.1))

pub open_new-requires-clause-live : goal.open_new-requires-clause-live
open_new-requires-clause-live c = ap (λ (l : LinkSide). l.state.ended) c.take_buffer.ensures.link ∙ c.requires.live

pub open_new-requires-clause-stags : goal.open_new-requires-clause-stags
open_new-requires-clause-stags c = (let next = ap (λ (l : LinkSide). l.state.memory.next) c.take_buffer.ensures.link in let one = c.requires.one in omega (arith, next, one, c.requires.stags))

pub open_new-requires-clause-total : goal.open_new-requires-clause-total
open_new-requires-clause-total c = c.requires.total

pub register_part-requires-clause-room : goal.register_part-requires-clause-room
register_part-requires-clause-room c = omega (arith, c.open_new.ensures.room, c.in-Ok.ensures.room)

pub register_part-requires-clause-stags : goal.register_part-requires-clause-stags
register_part-requires-clause-stags c =
    let h : HasOpened c.args.reads.now.items c.open_new.new.reads.items c.args.endpoint.now.link c.open_new.new.endpoint.link =
    has_opened c.args.number _ c.args.read.now c.args.chunks.now c.args.reads.now.items c.open_new.new.reads.items c.args.endpoint.now.link c.take_buffer.new.endpoint.link c.open_new.new.endpoint.link c.take_buffer.ensures.link c.in-Ok-open_new.ensures.ok in
    let next : c.open_new.new.endpoint.link.state.memory.next ≡ c.args.endpoint.now.link.state.memory.next = ap (λ (m : RegisteredMemory). m.next) h.memory in
    omega (arith, next, c.requires.stags)

pub register_part-requires-clause-capacity : goal.register_part-requires-clause-capacity
register_part-requires-clause-capacity c = (let same = ap (λ (ss : List OpenSink). length ss) c.take_buffer.ensures.sinks in omega (arith, same, c.in-Ok.ensures.capacity))

pub register_part-requires-clause-held : goal.register_part-requires-clause-held
register_part-requires-clause-held c =
    let h : HasOpened c.args.reads.now.items c.open_new.new.reads.items c.args.endpoint.now.link c.open_new.new.endpoint.link =
    has_opened c.args.number _ c.args.read.now c.args.chunks.now c.args.reads.now.items c.open_new.new.reads.items c.args.endpoint.now.link c.take_buffer.new.endpoint.link c.open_new.new.endpoint.link c.take_buffer.ensures.link c.in-Ok-open_new.ensures.ok in
    subst (λ (m : RegisteredMemory). AreHeldFrom m 0 (claims_of c.take_buffer.new.sinks.items)) (sym h.memory)
    (subst (λ (ss : List OpenSink). AreHeldFrom c.args.endpoint.now.link.state.memory 0 (claims_of ss)) (sym c.take_buffer.ensures.sinks) c.requires.held)

pub register_part-requires-clause-short : goal.register_part-requires-clause-short
register_part-requires-clause-short c = subst (λ (ss : List OpenSink). All (λ (s : OpenSink). s.registration.len ≤ PAYLOAD_MAX) ss) (sym c.take_buffer.ensures.sinks) c.requires.short

pub register_part-requires-clause-len : goal.register_part-requires-clause-len
register_part-requires-clause-len c = (let most = total_within (get_or c.args.chunks.now 0 0) c.args.read.now in omega (arith, most, c.total_at-len.ensures, c.requires.total))

pub register_part-requires-clause-window : goal.register_part-requires-clause-window
register_part-requires-clause-window c =
    let len : length c.in-Ok.buffer ≡ c.args.window.1 + c.total_at-len.result = ap (λ (bs : List ℕ). length bs) c.in-Ok.ensures.buffer ∙ length-replicate (c.args.window.1 + c.total_at-len.result) 0 in
    omega (arith, len, c.requires.window.0)

pub register_part-requires-clause-small : goal.register_part-requires-clause-small
register_part-requires-clause-small c =
    let most = total_within (get_or c.args.chunks.now 0 0) c.args.read.now in
    let len : length c.in-Ok.buffer ≡ c.args.window.1 + c.total_at-len.result = ap (λ (bs : List ℕ). length bs) c.in-Ok.ensures.buffer ∙ length-replicate (c.args.window.1 + c.total_at-len.result) 0 in
    omega (arith, len, most, c.total_at-len.ensures, c.requires.total, c.requires.window.1)

pub returns-in-Ok-open_new-clause-ok : goal.returns-in-Ok-open_new-clause-ok
returns-in-Ok-open_new-clause-ok c =
    begins_as c.args.number c.args.read.now c.args.chunks.now c.args.reads.now.items c.open_new.new.reads.items c.args.sinks.now.items c.take_buffer.new.sinks.items c.register_part.new.sinks.items
    c.args.endpoint.now.link c.take_buffer.new.endpoint.link c.open_new.new.endpoint.link c.register_part.new.endpoint.link c.take_buffer.ensures.link c.take_buffer.ensures.sinks c.in-Ok-open_new.ensures.ok
    (registered_one c.args.number c.args.read.now c.args.chunks.now c.open_new.new.endpoint.link c.register_part.new.endpoint.link _ c.requires.one c.register_part.ensures.link (window_zeros c.args.window.0 c.args.window.1 c.total_at-len.result c.in-Ok.buffer c.requires.window.0 c.in-Ok.ensures.buffer ∙ ap (λ (n : ℕ). replicate n 0) c.total_at-len.ensures))
    (sinks_one c.args.number c.args.read.now c.args.chunks.now c.open_new.new.endpoint.link c.register_part.new.endpoint.link c.take_buffer.new.sinks.items c.register_part.new.sinks.items _ c.requires.one c.register_part.ensures.link (window_zeros c.args.window.0 c.args.window.1 c.total_at-len.result c.in-Ok.buffer c.requires.window.0 c.in-Ok.ensures.buffer ∙ ap (λ (n : ℕ). replicate n 0) c.total_at-len.ensures) (c.register_part.ensures.sinks))

pub returns-in-Ok-open_new-clause-held : goal.returns-in-Ok-open_new-clause-held
returns-in-Ok-open_new-clause-held c = c.register_part.ensures.held

pub returns-in-Ok-open_new-clause-short : goal.returns-in-Ok-open_new-clause-short
returns-in-Ok-open_new-clause-short c = c.register_part.ensures.short

pub returns-in-Ok-open_new-clause-outside : goal.returns-in-Ok-open_new-clause-outside
returns-in-Ok-open_new-clause-outside c =
    let h : HasOpened c.args.reads.now.items c.open_new.new.reads.items c.args.endpoint.now.link c.open_new.new.endpoint.link =
    has_opened c.args.number _ c.args.read.now c.args.chunks.now c.args.reads.now.items c.open_new.new.reads.items c.args.endpoint.now.link c.take_buffer.new.endpoint.link c.open_new.new.endpoint.link c.take_buffer.ensures.link c.in-Ok-open_new.ensures.ok in
    begins_outside c.args.endpoint.now c.open_new.new.endpoint c.register_part.new.endpoint c.args.window.0 c.args.window.1 c.total_at-len.result c.in-Ok.buffer (ap (λ (m : RegisteredMemory). m.next) h.memory) (c.open_new.ensures.outside ∙ c.take_buffer.ensures.outside) c.in-Ok.ensures.buffer
    c.requires.window.0 c.register_part.ensures.there c.register_part.ensures.outside

pub returns-in-Ok-open_new-clause-staging : goal.returns-in-Ok-open_new-clause-staging
returns-in-Ok-open_new-clause-staging c = c.register_part.ensures.staging ∙ c.open_new.ensures.staging ∙ c.take_buffer.ensures.staging

pub returns-in-Err-open_new-clause-err : goal.returns-in-Err-open_new-clause-err
returns-in-Err-open_new-clause-err c = (c.in-Err-open_new.ensures.err.0 ∙ c.take_buffer.ensures.link, (c.in-Err-open_new.ensures.err.1, c.take_buffer.ensures.sinks))

pub returns-in-Err-open_new-clause-held : goal.returns-in-Err-open_new-clause-held
returns-in-Err-open_new-clause-held c =
    subst (λ (l : LinkSide). AreHeldFrom l.state.memory 0 (claims_of c.take_buffer.new.sinks.items)) (sym (c.in-Err-open_new.ensures.err.0 ∙ c.take_buffer.ensures.link))
    (subst (λ (ss : List OpenSink). AreHeldFrom c.args.endpoint.now.link.state.memory 0 (claims_of ss)) (sym c.take_buffer.ensures.sinks) c.requires.held)

pub returns-in-Err-open_new-clause-short : goal.returns-in-Err-open_new-clause-short
returns-in-Err-open_new-clause-short c = subst (λ (ss : List OpenSink). All (λ (s : OpenSink). s.registration.len ≤ PAYLOAD_MAX) ss) (sym c.take_buffer.ensures.sinks) c.requires.short

pub returns-in-Err-open_new-clause-outside_err : goal.returns-in-Err-open_new-clause-outside_err
returns-in-Err-open_new-clause-outside_err c = c.open_new.ensures.outside ∙ c.take_buffer.ensures.outside

pub returns-in-Err-open_new-clause-staging : goal.returns-in-Err-open_new-clause-staging
returns-in-Err-open_new-clause-staging c = c.open_new.ensures.staging ∙ c.take_buffer.ensures.staging

pub returns-in-Err-clause-err : goal.returns-in-Err-clause-err
returns-in-Err-clause-err c = (c.take_buffer.ensures.link, (refl, c.take_buffer.ensures.sinks))

pub returns-in-Err-clause-held : goal.returns-in-Err-clause-held
returns-in-Err-clause-held c =
    subst (λ (l : LinkSide). AreHeldFrom l.state.memory 0 (claims_of c.take_buffer.new.sinks.items)) (sym c.take_buffer.ensures.link)
    (subst (λ (ss : List OpenSink). AreHeldFrom c.args.endpoint.now.link.state.memory 0 (claims_of ss)) (sym c.take_buffer.ensures.sinks) c.requires.held)

pub returns-in-Err-clause-short : goal.returns-in-Err-clause-short
returns-in-Err-clause-short c = subst (λ (ss : List OpenSink). All (λ (s : OpenSink). s.registration.len ≤ PAYLOAD_MAX) ss) (sym c.take_buffer.ensures.sinks) c.requires.short

pub returns-in-Err-clause-outside_err : goal.returns-in-Err-clause-outside_err
returns-in-Err-clause-outside_err c = c.take_buffer.ensures.outside

pub returns-in-Err-clause-staging : goal.returns-in-Err-clause-staging
returns-in-Err-clause-staging c = c.take_buffer.ensures.staging
