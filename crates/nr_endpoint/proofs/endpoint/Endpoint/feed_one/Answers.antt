use Rattle.std.proofs.Common.{◌≡◌, ℕ, take, true, false, Option, Some, None, Result, Ok, Err, sym, ap, ◌∙◌}
use Rattle.std.specs.Prelude.{is_some}
use Rattle.nr_link.specs.declared.end.End.{End}
use Rattle.nr_link.specs.declared.end.End.TheVariants as ends
use Rattle.nr_endpoint.specs.EndpointState.{EndpointState}
use Rattle.nr_endpoint.specs.LinkState.{has_ended}
use Rattle.nr_endpoint.specs.Calls.Call.{FeedOne, OutOfMemory}
use Rattle.nr_endpoint.proofs.Standing.{stands_on, seen}
use Rattle.nr_endpoint.proofs.OneStep.{ended_stays_one, memory_stays, step_ok, step_memory, step_frame}
use Rattle.nr_endpoint.proofs.endpoint.Endpoint.feed_one.Goals as goal

abbrev the_error : End → Result ℕ End
the_error e = Err e

some_same : {e f : End} → Some e ≡ Some f → e ≡ f
some_same is = cc

abbrev end_in : Result ℕ End → End
end_in (Ok n) = ends.Memory
end_in (Err e) = e

pub returns-in-Some-clause-state : goal.returns-in-Some-clause-state
returns-in-Some-clause-state c = λ other.
    (sym (ap (λ (e : EndpointState). e.link) c.self.view_is)) ∙ seen (record { awaited = c.self.inside.awaited; rest = take c.self.inside.staged c.self.inside.staging.items; state = c.self.inside.link.state }) c.self.inside.staging.items c.args.self.now (record { awaited = c.self.inside.awaited; rest = take c.self.inside.staged c.self.inside.staging.items; state = c.self.inside.link.state }) (FeedOne c.args.piece.now) c.self.view_is (ended_stays_one c.self.inside.link.state c.self.inside.awaited (take c.self.inside.staged c.self.inside.staging.items) c.args.piece.now c.in-Some.end (sym c.end.ensures ∙ c.in-Some.is) (ap (λ (n : ℕ). take n c.self.inside.staging.items) (c.self.invariant.ended_empty (ap (λ (e : Option End). is_some e) (sym c.end.ensures ∙ c.in-Some.is)))))

pub returns-in-Some-clause-stands : goal.returns-in-Some-clause-stands
returns-in-Some-clause-stands c = λ other.
    stands_on c.args.self.now.link (FeedOne c.args.piece.now) c.args.self.now.link ((sym (ap (λ (e : EndpointState). e.link) c.self.view_is)) ∙ seen (record { awaited = c.self.inside.awaited; rest = take c.self.inside.staged c.self.inside.staging.items; state = c.self.inside.link.state }) c.self.inside.staging.items c.args.self.now (record { awaited = c.self.inside.awaited; rest = take c.self.inside.staged c.self.inside.staging.items; state = c.self.inside.link.state }) (FeedOne c.args.piece.now) c.self.view_is (ended_stays_one c.self.inside.link.state c.self.inside.awaited (take c.self.inside.staged c.self.inside.staging.items) c.args.piece.now c.in-Some.end (sym c.end.ensures ∙ c.in-Some.is) (ap (λ (n : ℕ). take n c.self.inside.staging.items) (c.self.invariant.ended_empty (ap (λ (e : Option End). is_some e) (sym c.end.ensures ∙ c.in-Some.is))))))

pub returns-in-Some-clause-memory : goal.returns-in-Some-clause-memory
returns-in-Some-clause-memory c = λ memory.
    (sym (ap (λ (e : EndpointState). e.link) c.self.view_is)) ∙ seen (record { awaited = c.self.inside.awaited; rest = take c.self.inside.staged c.self.inside.staging.items; state = c.self.inside.link.state }) c.self.inside.staging.items c.args.self.now (record { awaited = c.self.inside.awaited; rest = take c.self.inside.staged c.self.inside.staging.items; state = c.self.inside.link.state }) OutOfMemory c.self.view_is (memory_stays c.self.inside.link.state c.self.inside.awaited (take c.self.inside.staged c.self.inside.staging.items) ((sym c.end.ensures ∙ c.in-Some.is) ∙ ap (λ (e : End). Some e) (ap (λ (r : Result ℕ End). end_in r) memory)) (ap (λ (n : ℕ). take n c.self.inside.staging.items) (c.self.invariant.ended_empty (ap (λ (e : Option End). is_some e) (sym c.end.ensures ∙ c.in-Some.is)))))

pub returns-in-Some-clause-stands_memory : goal.returns-in-Some-clause-stands_memory
returns-in-Some-clause-stands_memory c = λ memory.
    stands_on c.args.self.now.link OutOfMemory c.args.self.now.link ((sym (ap (λ (e : EndpointState). e.link) c.self.view_is)) ∙ seen (record { awaited = c.self.inside.awaited; rest = take c.self.inside.staged c.self.inside.staging.items; state = c.self.inside.link.state }) c.self.inside.staging.items c.args.self.now (record { awaited = c.self.inside.awaited; rest = take c.self.inside.staged c.self.inside.staging.items; state = c.self.inside.link.state }) OutOfMemory c.self.view_is (memory_stays c.self.inside.link.state c.self.inside.awaited (take c.self.inside.staged c.self.inside.staging.items) ((sym c.end.ensures ∙ c.in-Some.is) ∙ ap (λ (e : End). Some e) (ap (λ (r : Result ℕ End). end_in r) memory)) (ap (λ (n : ℕ). take n c.self.inside.staging.items) (c.self.invariant.ended_empty (ap (λ (e : Option End). is_some e) (sym c.end.ensures ∙ c.in-Some.is))))))

pub returns-in-Some-clause-frame : goal.returns-in-Some-clause-frame
returns-in-Some-clause-frame c = λ memory going. absurd (let h : true ≡ false = ap (λ (e : Option End). is_some e) (sym (sym c.end.ensures ∙ c.in-Some.is)) ∙ ap (λ (e : EndpointState). has_ended e.link.state) c.self.view_is ∙ going in cc)

pub returns-clause-state : goal.returns-clause-state
returns-clause-state c = λ other.
    step_ok c.args.self.now.link c.step-taken.new.self.link c.args.piece.now c.step-taken.ensures.state (ap (λ (e : EndpointState). e.link.state.ended) (sym c.self.view_is) ∙ sym c.end.ensures ∙ c.in_default.is) (λ memory. absurd (let h : None ≡ Some ends.Memory = sym (ap (λ (e : EndpointState). e.link.state.ended) (sym c.self-2.view_is) ∙ sym c.end-2.ensures ∙ c.in_default-end.is) ∙ memory in cc))

pub returns-clause-stands : goal.returns-clause-stands
returns-clause-stands c = λ other.
    stands_on c.args.self.now.link (FeedOne c.args.piece.now) c.step-taken.new.self.link (step_ok c.args.self.now.link c.step-taken.new.self.link c.args.piece.now c.step-taken.ensures.state (ap (λ (e : EndpointState). e.link.state.ended) (sym c.self.view_is) ∙ sym c.end.ensures ∙ c.in_default.is) (λ memory. absurd (let h : None ≡ Some ends.Memory = sym (ap (λ (e : EndpointState). e.link.state.ended) (sym c.self-2.view_is) ∙ sym c.end-2.ensures ∙ c.in_default-end.is) ∙ memory in cc)))

pub returns-in-Some-end-clause-state : goal.returns-in-Some-end-clause-state
returns-in-Some-end-clause-state c = λ other.
    step_ok c.args.self.now.link c.step-taken.new.self.link c.args.piece.now c.step-taken.ensures.state (ap (λ (e : EndpointState). e.link.state.ended) (sym c.self.view_is) ∙ sym c.end.ensures ∙ c.in_default.is) (λ memory. other (ap (λ (e : End). the_error e) (some_same (sym (ap (λ (e : EndpointState). e.link.state.ended) (sym c.self-2.view_is) ∙ sym c.end-2.ensures ∙ c.in-Some-end.is) ∙ memory))))

pub returns-in-Some-end-clause-stands : goal.returns-in-Some-end-clause-stands
returns-in-Some-end-clause-stands c = λ other.
    stands_on c.args.self.now.link (FeedOne c.args.piece.now) c.step-taken.new.self.link (step_ok c.args.self.now.link c.step-taken.new.self.link c.args.piece.now c.step-taken.ensures.state (ap (λ (e : EndpointState). e.link.state.ended) (sym c.self.view_is) ∙ sym c.end.ensures ∙ c.in_default.is) (λ memory. other (ap (λ (e : End). the_error e) (some_same (sym (ap (λ (e : EndpointState). e.link.state.ended) (sym c.self-2.view_is) ∙ sym c.end-2.ensures ∙ c.in-Some-end.is) ∙ memory)))))

pub returns-in-Some-end-clause-memory : goal.returns-in-Some-end-clause-memory
returns-in-Some-end-clause-memory c = λ memory.
    step_memory c.args.self.now.link c.step-taken.new.self.link c.args.piece.now c.step-taken.ensures.state (ap (λ (e : EndpointState). e.link.state.ended) (sym c.self.view_is) ∙ sym c.end.ensures ∙ c.in_default.is) ((ap (λ (e : EndpointState). e.link.state.ended) (sym c.self-2.view_is) ∙ sym c.end-2.ensures ∙ c.in-Some-end.is) ∙ ap (λ (e : End). Some e) (ap (λ (r : Result ℕ End). end_in r) memory))

pub returns-in-Some-end-clause-stands_memory : goal.returns-in-Some-end-clause-stands_memory
returns-in-Some-end-clause-stands_memory c = λ memory.
    stands_on c.args.self.now.link OutOfMemory c.step-taken.new.self.link (step_memory c.args.self.now.link c.step-taken.new.self.link c.args.piece.now c.step-taken.ensures.state (ap (λ (e : EndpointState). e.link.state.ended) (sym c.self.view_is) ∙ sym c.end.ensures ∙ c.in_default.is) ((ap (λ (e : EndpointState). e.link.state.ended) (sym c.self-2.view_is) ∙ sym c.end-2.ensures ∙ c.in-Some-end.is) ∙ ap (λ (e : End). Some e) (ap (λ (r : Result ℕ End). end_in r) memory)))

pub returns-in-Some-end-clause-frame : goal.returns-in-Some-end-clause-frame
returns-in-Some-end-clause-frame c = λ memory going.
    step_frame c.args.self.now.link c.step-taken.new.self.link c.args.piece.now c.step-taken.ensures.state (ap (λ (e : EndpointState). e.link.state.ended) (sym c.self.view_is) ∙ sym c.end.ensures ∙ c.in_default.is) ((ap (λ (e : EndpointState). e.link.state.ended) (sym c.self-2.view_is) ∙ sym c.end-2.ensures ∙ c.in-Some-end.is) ∙ ap (λ (e : End). Some e) (ap (λ (r : Result ℕ End). end_in r) memory))
