use Rattle.std.proofs.Common.{◌≡◌, ℕ, cond, List, ◌++◌, length, take, Option, Err, refl, sym, ap, subst, ◌∙◌, arith, is_some, inr}
use Rattle.std.proofs.lemmas.List.{take_all}
use Rattle.nr_link.specs.declared.end.End.{End}
use Rattle.nr_link.specs.declared.end.End.TheVariants as ends
use Rattle.nr_wire.specs.Stream.{is_whole}
use Rattle.nr_wire.specs.Feeding.{bytes_taken}
use Rattle.nr_wire.proofs.Feedings.{bytes_taken_within}
use Rattle.nr_endpoint.proofs.Pieces.{some_taken}
use Rattle.nr_responder.specs.Sound.{state_of, with_staging}
use Rattle.nr_responder.specs.Steps.{Fed}
use Rattle.nr_responder.specs.private.Handling.{on_link}
use Rattle.nr_responder.proofs.FirstFrames.{first_done, first_failed}
use Rattle.nr_responder.proofs.Fed.{step_of}
use Rattle.nr_responder.proofs.Handled.{step_counts, step_within}
use Rattle.nr_responder.proofs.HeldSinks.{fetched_failed, fetched_step}
use Rattle.nr_responder.proofs.Sounds.{sound_step}
use Rattle.nr_responder.proofs.Staging.{staging_step, step_rest}
use Rattle.nr_responder.proofs.Stepped.{taken_at, at_most, at_least, step_done, step_failed, failed_sound, failed_within}
use Rattle.nr_responder.specs.ResponderState.{ResponderSide}
use Rattle.nr_responder.proofs.Marks.{fed_stands_lem}
use Rattle.nr_responder.proofs.SinkTotals.{held_view}
use Rattle.nr_responder.specs.HeldBytes.{OutputFits, SinksFit}
use Rattle.nr_responder.proofs.ReadBounds.{failed_reads, few_after, step_reads}
use Rattle.nr_responder.proofs.OutputSteps.{failed_out, step_out}
use Rattle.nr_responder.proofs.StepBounds.{failed_fits, lives_on_lem, step_fits}
use Rattle.nr_responder.proofs.server_end.ServerEnd.take_piece.Goals as goal

pub take_event-requires-clause-sound : goal.take_event-requires-clause-sound
take_event-requires-clause-sound c =
    let step = step_of c.args.self.now.endpoint.link c.feed_one.new.self.link c.args.piece.now c.facts.ensures.partial c.requires.live (c.in-Ok.ensures.state (λ e. absurd cc)) in
    (sound_step c.args.self.now.endpoint.link.state c.feed_one.new.self.link.state c.args.self.now.calls.items c.args.self.now.ready.items c.args.self.now.used.items _ _ _ (step_counts c.args.self.now.endpoint.link c.feed_one.new.self.link c.args.piece.now step) c.requires.sound.0, fetched_step c.args.self.now.endpoint c.feed_one.new.self c.args.piece.now c.args.self.now.calls.items c.args.self.now.reads.items c.args.self.now.sinks.items (step_counts c.args.self.now.endpoint.link c.feed_one.new.self.link c.args.piece.now step).next (c.in-Ok.ensures.state (λ e. absurd cc)) c.feed_one.ensures.outside c.requires.sound.1)

pub returns-in-Ok-clause-taken : goal.returns-in-Ok-clause-taken
returns-in-Ok-clause-taken c = c.taken_at.ensures ∙ (λ i. taken_at (c.end.ensures i) (length c.args.piece.now) (c.in-Ok.ensures.taken i))

pub returns-in-Ok-clause-most : goal.returns-in-Ok-clause-most
returns-in-Ok-clause-most c =
    let within = bytes_taken_within c.args.self.now.endpoint.link.awaited c.args.self.now.endpoint.link.rest c.args.piece.now (is_whole c.args.self.now.endpoint.link.awaited (c.args.self.now.endpoint.link.rest ++ c.args.piece.now)) refl in
    omega (arith, c.taken_at.ensures ∙ (λ i. taken_at (c.end.ensures i) (length c.args.piece.now) (c.in-Ok.ensures.taken i)), at_most c.take_event.new.self.endpoint.link.state.ended (length c.args.piece.now) (bytes_taken c.args.self.now.endpoint.link.awaited c.args.self.now.endpoint.link.rest c.args.piece.now) within)

pub returns-in-Ok-clause-some : goal.returns-in-Ok-clause-some
returns-in-Ok-clause-some c = λ some.
    let within = bytes_taken_within c.args.self.now.endpoint.link.awaited c.args.self.now.endpoint.link.rest c.args.piece.now (is_whole c.args.self.now.endpoint.link.awaited (c.args.self.now.endpoint.link.rest ++ c.args.piece.now)) refl in
    let taken = some_taken c.args.self.now.endpoint.link.awaited c.args.self.now.endpoint.link.rest c.args.piece.now c.facts.ensures.partial some in
    omega (arith, c.taken_at.ensures ∙ (λ i. taken_at (c.end.ensures i) (length c.args.piece.now) (c.in-Ok.ensures.taken i)), taken, at_least c.take_event.new.self.endpoint.link.state.ended (length c.args.piece.now) (bytes_taken c.args.self.now.endpoint.link.awaited c.args.self.now.endpoint.link.rest c.args.piece.now) within)

pub returns-in-Ok-clause-goes : goal.returns-in-Ok-clause-goes
returns-in-Ok-clause-goes c =
    subst (λ (n : ℕ). Fed (state_of c.args.self.now) (take n c.args.piece.now) (state_of c.take_event.new.self)) (sym (c.taken_at.ensures ∙ (λ i. taken_at (c.end.ensures i) (length c.args.piece.now) (c.in-Ok.ensures.taken i))))
    (step_done (state_of c.args.self.now) (state_of c.take_event.new.self) c.args.piece.now c.feed_one.new.self.link c.requires.live c.facts.ensures.partial (c.in-Ok.ensures.state (λ e. absurd cc)) (sym c.in-Ok.ensures.ended) c.requires.word c.take_event.ensures.taken c.take_event.ensures.heard)

pub returns-in-Ok-clause-within : goal.returns-in-Ok-clause-within
returns-in-Ok-clause-within c =
    let step = step_of c.args.self.now.endpoint.link c.feed_one.new.self.link c.args.piece.now c.facts.ensures.partial c.requires.live (c.in-Ok.ensures.state (λ e. absurd cc)) in
    let most = bytes_taken_within c.args.self.now.endpoint.link.awaited c.args.self.now.endpoint.link.rest c.args.piece.now (is_whole c.args.self.now.endpoint.link.awaited (c.args.self.now.endpoint.link.rest ++ c.args.piece.now)) refl in
    let within = step_within c.args.self.now.endpoint.link c.feed_one.new.self.link c.args.piece.now c.facts.ensures.partial step (sym c.in-Ok.ensures.ended) in
    omega (arith, c.taken_at.ensures ∙ (λ i. taken_at (c.end.ensures i) (length c.args.piece.now) (c.in-Ok.ensures.taken i)), within, c.take_event.ensures.fed, at_least c.take_event.new.self.endpoint.link.state.ended (length c.args.piece.now) (bytes_taken c.args.self.now.endpoint.link.awaited c.args.self.now.endpoint.link.rest c.args.piece.now) most)

pub returns-in-Err-clause-taken : goal.returns-in-Err-clause-taken
returns-in-Err-clause-taken c = ap (λ (o : Option End). cond (is_some o) (length c.args.piece.now) (bytes_taken c.args.self.now.endpoint.link.awaited c.args.self.now.endpoint.link.rest c.args.piece.now)) c.in-Err.ensures.ended

pub returns-in-Err-clause-goes : goal.returns-in-Err-clause-goes
returns-in-Err-clause-goes c =
    subst (λ (bytes : List ℕ). Fed (state_of c.args.self.now) bytes (on_link (state_of c.args.self.now) c.feed_one.new.self.link)) (sym (take_all (length c.args.piece.now) c.args.piece.now (omega arith)))
    (step_failed (state_of c.args.self.now) c.args.piece.now c.feed_one.new.self.link c.in-Err.end c.requires.live c.facts.ensures.partial (λ other. c.in-Err.ensures.state (λ e. other (let h : c.in-Err.end ≡ ends.Memory = cc in h)))
    (λ is. (c.in-Err.ensures.memory (ap (λ (e : End). Err e) is), c.in-Err.ensures.frame (ap (λ (e : End). Err e) is) (ap (λ (o : Option End). is_some o) c.requires.live))) (sym c.in-Err.ensures.ended))

pub returns-in-Err-clause-sound : goal.returns-in-Err-clause-sound
returns-in-Err-clause-sound c = (
  failed_sound c.args.self.now.endpoint.link c.feed_one.new.self.link c.args.piece.now c.in-Err.end c.args.self.now.calls.items c.args.self.now.ready.items c.args.self.now.used.items _ _ _ c.requires.live c.facts.ensures.partial (λ other. c.in-Err.ensures.state (λ e. other (let h : c.in-Err.end ≡ ends.Memory = cc in h)))
      (λ is. c.in-Err.ensures.memory (ap (λ (e : End). Err e) is)) c.requires.sound.0,
  fetched_failed c.args.self.now.endpoint c.feed_one.new.self c.args.piece.now c.in-Err.end c.args.self.now.calls.items c.args.self.now.reads.items c.args.self.now.sinks.items c.requires.live c.facts.ensures.partial (λ other. c.in-Err.ensures.state (λ e. other (let h : c.in-Err.end ≡ ends.Memory = cc in h)))
      (λ is. c.in-Err.ensures.memory (ap (λ (e : End). Err e) is)) c.feed_one.ensures.outside c.requires.sound.1,
)

pub returns-in-Err-clause-within : goal.returns-in-Err-clause-within
returns-in-Err-clause-within c =
    let within = failed_within c.args.self.now.endpoint.link c.feed_one.new.self.link c.args.piece.now c.in-Err.end (λ other. c.in-Err.ensures.state (λ e. other (let h : c.in-Err.end ≡ ends.Memory = cc in h))) (λ is. c.in-Err.ensures.memory (ap (λ (e : End). Err e) is)) in
    omega (arith, within)

pub returns-in-Ok-clause-staging : goal.returns-in-Ok-clause-staging
returns-in-Ok-clause-staging c = λ told.
    let step = step_of c.args.self.now.endpoint.link c.feed_one.new.self.link c.args.piece.now c.facts.ensures.partial c.requires.live (c.in-Ok.ensures.state (λ e. absurd cc)) in
    staging_step (with_staging c.args.self.now) (with_staging c.take_event.new.self) c.args.piece.now c.args.self.now.endpoint c.feed_one.new.self refl refl step told c.take_event.ensures.taken c.take_event.ensures.rest c.take_event.ensures.staging c.in-Ok.ensures.staging

pub returns-in-Err-clause-staging : goal.returns-in-Err-clause-staging
returns-in-Err-clause-staging c = λ told. record { others = c.in-Err.ensures.staging.others; len = c.in-Err.ensures.staging.len }

pub returns-in-Ok-clause-rest : goal.returns-in-Ok-clause-rest
returns-in-Ok-clause-rest c =
    let step = step_of c.args.self.now.endpoint.link c.feed_one.new.self.link c.args.piece.now c.facts.ensures.partial c.requires.live (c.in-Ok.ensures.state (λ e. absurd cc)) in
    step_rest c.args.self.now.endpoint.link c.feed_one.new.self.link c.take_event.new.self.endpoint.link c.args.piece.now c.taken_at.result c.take_event.new.self.endpoint.link.state.ended step c.take_event.ensures.rest
    (c.taken_at.ensures ∙ (λ i. taken_at (c.end.ensures i) (length c.args.piece.now) (c.in-Ok.ensures.taken i)))

pub returns-in-Err-clause-rest : goal.returns-in-Err-clause-rest
returns-in-Err-clause-rest c = inr refl

pub returns-in-Ok-clause-first : goal.returns-in-Ok-clause-first
returns-in-Ok-clause-first c =
    first_done (state_of c.args.self.now) (state_of c.take_event.new.self) c.args.piece.now c.feed_one.new.self.link c.requires.live c.facts.ensures.partial (c.in-Ok.ensures.state (λ e. absurd cc)) (sym c.in-Ok.ensures.ended) c.requires.word c.take_event.ensures.taken c.take_event.ensures.heard

pub returns-in-Err-clause-first : goal.returns-in-Err-clause-first
returns-in-Err-clause-first c =
    first_failed (state_of c.args.self.now) c.args.piece.now c.feed_one.new.self.link c.in-Err.end c.requires.live c.facts.ensures.partial (λ other. c.in-Err.ensures.state (λ e. other (let h : c.in-Err.end ≡ ends.Memory = cc in h)))
    (λ is. (c.in-Err.ensures.memory (ap (λ (e : End). Err e) is), c.in-Err.ensures.frame (ap (λ (e : End). Err e) is) (ap (λ (o : Option End). is_some o) c.requires.live))) (sym c.in-Err.ensures.ended)

pub returns-in-Ok-clause-bounded : goal.returns-in-Ok-clause-bounded
returns-in-Ok-clause-bounded c = λ opened link run stands fit.
    let v : ResponderSide = state_of c.args.self.now in
    let after : ResponderSide = state_of c.take_event.new.self in
    let m = c.feed_one.new.self.link in
    let is = c.in-Ok.ensures.state (λ e. absurd cc) in
    let step = step_of c.args.self.now.endpoint.link m c.args.piece.now c.facts.ensures.partial c.requires.live is in
    let k = lives_on_lem opened link run v stands c.requires.live in
    let held = held_view m.state.memory 0 c.args.self.now.sinks.items
    (fetched_step c.args.self.now.endpoint c.feed_one.new.self c.args.piece.now c.args.self.now.calls.items c.args.self.now.reads.items c.args.self.now.sinks.items (step_counts c.args.self.now.endpoint.link m c.args.piece.now step).next is c.feed_one.ensures.outside c.requires.sound.1).held in
    let on = fed_stands_lem opened link run v after _ (returns-in-Ok-clause-goes c) c.requires.live stands in
    let sinks : SinksFit after = step_fits k.0 k.1.0 k.1.1.0 v after c.args.piece.now m k.1.1.1 c.requires.live (sym c.in-Ok.ensures.ended) is step held fit.sinks (lives_on_lem opened link _ after on) c.requires.word c.take_event.ensures.taken in
    let output : OutputFits after = step_out k.0 k.1.0 k.1.1.0 v after c.args.piece.now m k.1.1.1 c.requires.live (sym c.in-Ok.ensures.ended) step (fit.sinks.each c.requires.live) fit.output sinks.each c.requires.word c.take_event.ensures.taken in
    let reads = step_reads k.0 k.1.0 k.1.1.0 v after c.args.piece.now m k.1.1.1 (sym c.in-Ok.ensures.ended) step c.requires.word c.take_event.ensures.taken in
    record { sinks = sinks; output = output; reads = few_after v after reads sinks output fit.reads }

pub returns-in-Err-clause-bounded : goal.returns-in-Err-clause-bounded
returns-in-Err-clause-bounded c = λ opened link run stands fit.
    let v : ResponderSide = state_of c.args.self.now in
    let m = c.feed_one.new.self.link in
    let sinks : SinksFit (on_link v m) = failed_fits v c.args.piece.now m c.in-Err.end c.requires.live c.facts.ensures.partial (λ other. c.in-Err.ensures.state (λ e. other (let h : c.in-Err.end ≡ ends.Memory = cc in h))) (λ is. c.in-Err.ensures.memory (ap (λ (e : End). Err e) is)) fit.sinks in
    let output : OutputFits (on_link v m) = failed_out v c.args.piece.now m c.in-Err.end c.requires.live c.facts.ensures.partial (sym c.in-Err.ensures.ended) (λ other. c.in-Err.ensures.state (λ e. other (let h : c.in-Err.end ≡ ends.Memory = cc in h))) (λ is. c.in-Err.ensures.memory (ap (λ (e : End). Err e) is)) fit.output in
    record { sinks = sinks; output = output; reads = few_after v (on_link v m) (failed_reads v m) sinks output fit.reads }

pub take_event-requires-clause-windows : goal.take_event-requires-clause-windows
take_event-requires-clause-windows c = c.requires.windows c.requires.live

pub returns-in-Err-clause-windows : goal.returns-in-Err-clause-windows
returns-in-Err-clause-windows c = λ live. c.requires.windows c.requires.live
