use Rattle.std.proofs.Common.{◌≡◌, ℕ, List, [], ◌∷◌, length, Some, None, Result, Ok, Err, refl, sym, ap, subst, ◌∙◌, arith}
use Rattle.std.proofs.lemmas.Grind.{common_steps}
use Rattle.nr_link.specs.declared.end.End.{End}
use Rattle.nr_link.specs.declared.end.End.TheVariants as ends
use Rattle.nr_endpoint.specs.EndpointState.{EndpointState}
use Rattle.nr_endpoint.specs.Calls.Call.{Feed}
use Rattle.nr_endpoint.proofs.Standing.{stands_on}
use Rattle.nr_endpoint.proofs.Pieces.{IsFedTo, fed_none, fed_on, fewer_left, fed_all, fed_memory, ended_all, ended_memory}
use Rattle.nr_endpoint.proofs.endpoint.Endpoint.feed.Goals as goal

pub loop-left-init : goal.loop-left-init
loop-left-init c = fed_none c.args.self.now c.args.piece.now c.facts.ensures.partial c.facts.ensures.ended c.requires

pub loop-left-smaller : goal.loop-left-smaller
loop-left-smaller c =
    fewer_left c.args.self.now c.loop-left.self c.advance-left.new.self c.args.piece.now c.loop-left.left.now c.advance-left.result.now c.loop-left.invariant (grind (arith, common_steps, c.is_empty.ensures, c.loop-left-test.true))
    (record { live = c.advance-left.ensures.live; ended = c.advance-left.ensures.ended; left_is = c.advance-left.ensures.left; staging = c.advance-left.ensures.staging; partial = c.advance-left.ensures.partial; ended_rest = c.advance-left.ensures.ended_rest; room = c.advance-left.ensures.room; outside = c.advance-left.ensures.outside })

pub loop-left-preserved : goal.loop-left-preserved
loop-left-preserved c =
    fed_on c.args.self.now c.loop-left.self c.advance-left.new.self c.args.piece.now c.loop-left.left.now c.advance-left.result.now c.loop-left.invariant (grind (arith, common_steps, c.is_empty.ensures, c.loop-left-test.true))
    (record { live = c.advance-left.ensures.live; ended = c.advance-left.ensures.ended; left_is = c.advance-left.ensures.left; staging = c.advance-left.ensures.staging; partial = c.advance-left.ensures.partial; ended_rest = c.advance-left.ensures.ended_rest; room = c.advance-left.ensures.room; outside = c.advance-left.ensures.outside })

no_bytes_lem : (left : List ℕ) → length left ≡ 0 → left ≡ []
no_bytes_lem [] h = refl
no_bytes_lem (byte ∷ left) h = absurd (omega (arith, h))

abbrev end_in : Result (Unit {0}) End → End
end_in (Ok n) = ends.NoBuffer 0
end_in (Err e) = e

some_same : {e f : End} → Some e ≡ Some f → e ≡ f
some_same is = cc

abbrev the_error : End → Result (Unit {0}) End
the_error e = Err e

pub returns-in-Some-end-clause-stands : goal.returns-in-Some-end-clause-stands
returns-in-Some-end-clause-stands c = λ other.
    let none : c.loop-left.left.now ≡ [] = no_bytes_lem c.loop-left.left.now (grind (arith, common_steps, c.is_empty.ensures, c.loop-left-test.false)) in
    let fed : IsFedTo c.args.self.now c.args.piece.now c.loop-left.self [] = subst (λ (x : List ℕ). IsFedTo c.args.self.now c.args.piece.now c.loop-left.self x) none c.loop-left.invariant in
    let ended : c.loop-left.self.link.state.ended ≡ Some c.in-Some-end.end = ap (λ (e : EndpointState). e.link.state.ended) (sym c.self-2.view_is) ∙ sym c.end-2.ensures ∙ c.in-Some-end.is in
    stands_on c.args.self.now.link (Feed c.args.piece.now) c.loop-left.self.link
    (fed_all c.args.self.now c.loop-left.self c.args.piece.now fed (λ memory. other (ap (λ (e : End). the_error e) (some_same (sym ended ∙ memory)))))

pub returns-in-Some-end-clause-memory : goal.returns-in-Some-end-clause-memory
returns-in-Some-end-clause-memory c = λ memory.
    let none : c.loop-left.left.now ≡ [] = no_bytes_lem c.loop-left.left.now (grind (arith, common_steps, c.is_empty.ensures, c.loop-left-test.false)) in
    let fed : IsFedTo c.args.self.now c.args.piece.now c.loop-left.self [] = subst (λ (x : List ℕ). IsFedTo c.args.self.now c.args.piece.now c.loop-left.self x) none c.loop-left.invariant in
    let ended : c.loop-left.self.link.state.ended ≡ Some c.in-Some-end.end = ap (λ (e : EndpointState). e.link.state.ended) (sym c.self-2.view_is) ∙ sym c.end-2.ensures ∙ c.in-Some-end.is in
    fed_memory c.args.self.now c.loop-left.self c.args.piece.now fed (ap (λ (e : EndpointState). e.link.state.ended) (sym c.self.view_is) ∙ sym c.end.ensures ∙ c.in_default.is) (ended ∙ ap (λ (e : End). Some e) (ap (λ (r : Result (Unit {0}) End). end_in r) memory))

pub returns-clause-stands : goal.returns-clause-stands
returns-clause-stands c = λ other.
    let none : c.loop-left.left.now ≡ [] = no_bytes_lem c.loop-left.left.now (grind (arith, common_steps, c.is_empty.ensures, c.loop-left-test.false)) in
    let fed : IsFedTo c.args.self.now c.args.piece.now c.loop-left.self [] = subst (λ (x : List ℕ). IsFedTo c.args.self.now c.args.piece.now c.loop-left.self x) none c.loop-left.invariant in
    let ended : c.loop-left.self.link.state.ended ≡ None = ap (λ (e : EndpointState). e.link.state.ended) (sym c.self-2.view_is) ∙ sym c.end-2.ensures ∙ c.in_default-end.is in
    stands_on c.args.self.now.link (Feed c.args.piece.now) c.loop-left.self.link
    (fed_all c.args.self.now c.loop-left.self c.args.piece.now fed (λ memory. absurd (let h : None ≡ Some ends.Memory = sym ended ∙ memory in cc)))

pub returns-in-Some-clause-state : goal.returns-in-Some-clause-state
returns-in-Some-clause-state c = λ other. ended_all c.args.self.now.link c.args.piece.now c.in-Some.end (ap (λ (e : EndpointState). e.link.state.ended) (sym c.self.view_is) ∙ sym c.end.ensures ∙ c.in-Some.is) c.facts.ensures.ended

pub returns-in-Some-clause-stands : goal.returns-in-Some-clause-stands
returns-in-Some-clause-stands c = λ other.
    stands_on c.args.self.now.link (Feed c.args.piece.now) c.args.self.now.link (ended_all c.args.self.now.link c.args.piece.now c.in-Some.end (ap (λ (e : EndpointState). e.link.state.ended) (sym c.self.view_is) ∙ sym c.end.ensures ∙ c.in-Some.is) c.facts.ensures.ended)

pub returns-in-Some-clause-memory : goal.returns-in-Some-clause-memory
returns-in-Some-clause-memory c = λ memory.
    ended_memory c.args.self.now.link c.args.piece.now ((ap (λ (e : EndpointState). e.link.state.ended) (sym c.self.view_is) ∙ sym c.end.ensures ∙ c.in-Some.is) ∙ ap (λ (e : End). Some e) (ap (λ (r : Result (Unit {0}) End). end_in r) memory)) c.facts.ensures.ended
