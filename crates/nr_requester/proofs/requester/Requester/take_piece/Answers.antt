use Rattle.std.proofs.Common.{◌≡◌, ltb, Option, Some, None, true, Result, Ok, Err, sym, ap, ◌∙◌}
use Rattle.std.specs.Prelude.{is_some}
use Rattle.nr_link.specs.declared.end.End.{End}
use Rattle.nr_link.specs.declared.end.End.TheVariants as ends
use Rattle.nr_requester.specs.RequesterState.{RequesterSide, feeding_of}
use Rattle.nr_requester.specs.CountedMarks.{marks_if}
use Rattle.nr_requester.specs.Views.{requester_view, side_view}
use Rattle.nr_requester.proofs.PieceLoop.{stands_fed, late_fed, fed_after, out_after}
use Rattle.nr_requester.proofs.requester.Requester.take_piece.Goals as goal

abbrev unit_error : End → Result (Unit {0}) End
unit_error e = Err e

abbrev error_in : Result (Unit {0}) End → End
error_in (Ok n) = ends.NoBuffer 0
error_in (Err e) = e

some_same : {e f : End} → Some e ≡ Some f → e ≡ f
some_same is = cc

-- ---- A side that had ended

pub returns-in-Some-clause-state : goal.returns-in-Some-clause-state
returns-in-Some-clause-state c = λ other.
    let e : is_some c.args.self.now.state.side.ended ≡ true = ap (λ (o : Option End). is_some o) (sym c.end.ensures ∙ c.in-Some.is) in
    late_fed c.args.self.now c.count_late.new.self c.in-Some.end c.args.piece.now e (c.facts.ensures.ended e) c.count_late.ensures (λ memory. other (ap unit_error memory))

pub returns-in-Some-clause-stands : goal.returns-in-Some-clause-stands
returns-in-Some-clause-stands c = λ other.
    let e : is_some c.args.self.now.state.side.ended ≡ true = ap (λ (o : Option End). is_some o) (sym c.end.ensures ∙ c.in-Some.is) in
    stands_fed c.args.self.now c.count_late.new.self c.args.piece.now (late_fed c.args.self.now c.count_late.new.self c.in-Some.end c.args.piece.now e (c.facts.ensures.ended e) c.count_late.ensures (λ memory. other (ap unit_error memory)))

-- ---- A side that hadn't

pub returns-in-Some-end-clause-stands : goal.returns-in-Some-end-clause-stands
returns-in-Some-end-clause-stands c = λ other.
    let i = c.self.inside in
    let new : RequesterSide = side_view i.endpoint.staging c.marks_if-self-inside.result (requester_view i.endpoint.link i.sent i.wished i.sends i.next_xid i.grant i.outstanding.items i.answered.items i.local_releases) in
    let ended : new.state.side.ended ≡ Some c.in-Some-end.end = sym c.end-2.ensures ∙ c.in-Some-end.is in
    stands_fed c.args.self.now new c.args.piece.now
    (fed_after c.args.self.now c.take_frames-taken.new.self new c.args.piece.now c.take_frames-taken.result (ap feeding_of c.self.view_is) c.take_frames-taken.ensures.taken (λ memory. other (ap unit_error (some_same (sym ended ∙ memory))))
    c.take_frames-taken.ensures.marks (c.marks_if-self-inside.ensures ∙ ap (λ (h : RequesterSide). marks_if (ltb 0 c.take_frames-taken.result) h.marks) c.self.view_is))

pub returns-in-Some-end-clause-memory : goal.returns-in-Some-end-clause-memory
returns-in-Some-end-clause-memory c = λ memory lives.
    let i = c.self.inside in
    let new : RequesterSide = side_view i.endpoint.staging c.marks_if-self-inside.result (requester_view i.endpoint.link i.sent i.wished i.sends i.next_xid i.grant i.outstanding.items i.answered.items i.local_releases) in
    let ended : new.state.side.ended ≡ Some c.in-Some-end.end = sym c.end-2.ensures ∙ c.in-Some-end.is in
    out_after c.args.self.now c.take_frames-taken.new.self new c.args.piece.now c.take_frames-taken.result (ap feeding_of c.self.view_is) c.take_frames-taken.ensures.taken
    (ended ∙ ap (λ (e : End). Some e) (ap (λ (r : Result (Unit {0}) End). error_in r) memory))
    c.take_frames-taken.ensures.marks (c.marks_if-self-inside.ensures ∙ ap (λ (h : RequesterSide). marks_if (ltb 0 c.take_frames-taken.result) h.marks) c.self.view_is)

pub returns-clause-stands : goal.returns-clause-stands
returns-clause-stands c = λ other.
    let i = c.self.inside in
    let new : RequesterSide = side_view i.endpoint.staging c.marks_if-self-inside.result (requester_view i.endpoint.link i.sent i.wished i.sends i.next_xid i.grant i.outstanding.items i.answered.items i.local_releases) in
    let ended : new.state.side.ended ≡ None = sym c.end-2.ensures ∙ c.in_default-end.is in
    stands_fed c.args.self.now new c.args.piece.now
    (fed_after c.args.self.now c.take_frames-taken.new.self new c.args.piece.now c.take_frames-taken.result (ap feeding_of c.self.view_is) c.take_frames-taken.ensures.taken (λ memory. absurd (let h : None ≡ Some ends.Memory = sym ended ∙ memory in cc))
    c.take_frames-taken.ensures.marks (c.marks_if-self-inside.ensures ∙ ap (λ (h : RequesterSide). marks_if (ltb 0 c.take_frames-taken.result) h.marks) c.self.view_is))
