use Rattle.std.proofs.Common.{◌≡◌, ℕ, ◌+◌, ◌-◌, List, length, take, drop, refl, inl, inr, arith}
use Rattle.std.proofs.lemmas.List.{length-drop, take_all}
use Rattle.std.proofs.lemmas.Grind.{common_steps}
use Rattle.nr_requester.specs.RequesterState.{feeding_of}
use Rattle.nr_requester.proofs.PieceLoop.{Stepped, fed_none, ran_out, out_bytes}
use Rattle.nr_requester.proofs.Staging.{TakenTo, taken_on, staged_on, unstaged}
use Rattle.nr_requester.proofs.requester.Requester.take_frames.Goals as goal

-- what is left of a piece
abbrev left_at : List ℕ → ℕ → List ℕ
left_at piece at = take (length piece - at) (drop at piece)

left_is : (piece : List ℕ) (at : ℕ) → left_at piece at ≡ drop at piece
left_is piece at = take_all (length piece - at) (drop at piece) (omega (arith, length-drop at piece))

pub pieces-init : goal.pieces-init
pieces-init c = record {
  fed = fed_none (feeding_of c.args.self.now) c.args.piece.now c.requires.live c.requires.partial c.requires.within;
  staging = unstaged c.args.self.now c.args.self.now c.args.piece.now refl;
  first = inl (refl, refl);
  marks = refl;
}

pub pieces-preserved : goal.pieces-preserved
pieces-preserved c =
    let s : Stepped (feeding_of c.pieces.self) (left_at c.args.piece.now c.pieces.at) (feeding_of c.step-taken.new.self) c.step-taken.result =
    record { step = c.step-taken.ensures.step; taken = c.step-taken.ensures.taken; partial = c.step-taken.ensures.partial; quiet = c.step-taken.ensures.quiet; ended = c.step-taken.ensures.ended; tickets = c.step-taken.ensures.tickets } in
    taken_on c.args.self.now c.pieces.self c.step-taken.new.self c.args.piece.now (left_at c.args.piece.now c.pieces.at) c.pieces.at c.step-taken.result c.pieces.invariant (grind (arith, common_steps, c.pieces-test.true)) (left_is c.args.piece.now c.pieces.at) s
    c.step-taken.ensures.staging c.step-taken.ensures.marks (grind (arith, common_steps, c.if-taken-eq0.false))

pub overflow_add-at : goal.overflow_add-at
overflow_add-at c =
    let s : Stepped (feeding_of c.pieces.self) (left_at c.args.piece.now c.pieces.at) (feeding_of c.step-taken.new.self) c.step-taken.result =
    record { step = c.step-taken.ensures.step; taken = c.step-taken.ensures.taken; partial = c.step-taken.ensures.partial; quiet = c.step-taken.ensures.quiet; ended = c.step-taken.ensures.ended; tickets = c.step-taken.ensures.tickets } in
    let t : TakenTo c.args.self.now c.args.piece.now c.step-taken.new.self (c.pieces.at + c.step-taken.result) =
    taken_on c.args.self.now c.pieces.self c.step-taken.new.self c.args.piece.now (left_at c.args.piece.now c.pieces.at) c.pieces.at c.step-taken.result c.pieces.invariant (grind (arith, common_steps, c.pieces-test.true)) (left_is c.args.piece.now c.pieces.at) s
    c.step-taken.ensures.staging c.step-taken.ensures.marks (grind (arith, common_steps, c.if-taken-eq0.false)) in
    let within = t.fed.within in
    let few = c.requires.within in
    omega (arith, within, few)

pub returns-then-taken-eq0-clause-taken : goal.returns-then-taken-eq0-clause-taken
returns-then-taken-eq0-clause-taken c =
    let s : Stepped (feeding_of c.pieces.self) (left_at c.args.piece.now c.pieces.at) (feeding_of c.step-taken.new.self) c.step-taken.result =
    record { step = c.step-taken.ensures.step; taken = c.step-taken.ensures.taken; partial = c.step-taken.ensures.partial; quiet = c.step-taken.ensures.quiet; ended = c.step-taken.ensures.ended; tickets = c.step-taken.ensures.tickets } in
    inr (ran_out (feeding_of c.args.self.now) (feeding_of c.pieces.self) (feeding_of c.step-taken.new.self) c.args.piece.now (left_at c.args.piece.now c.pieces.at) c.pieces.at c.step-taken.result c.pieces.invariant.fed (grind (arith, common_steps, c.pieces-test.true)) (left_is c.args.piece.now c.pieces.at) s (grind (arith, common_steps, c.if-taken-eq0.true)))

pub returns-then-taken-eq0-clause-staging : goal.returns-then-taken-eq0-clause-staging
returns-then-taken-eq0-clause-staging c =
    let s : Stepped (feeding_of c.pieces.self) (left_at c.args.piece.now c.pieces.at) (feeding_of c.step-taken.new.self) c.step-taken.result =
    record { step = c.step-taken.ensures.step; taken = c.step-taken.ensures.taken; partial = c.step-taken.ensures.partial; quiet = c.step-taken.ensures.quiet; ended = c.step-taken.ensures.ended; tickets = c.step-taken.ensures.tickets } in
    staged_on c.args.self.now c.pieces.self c.step-taken.new.self c.args.piece.now (left_at c.args.piece.now c.pieces.at) c.pieces.at c.step-taken.result c.pieces.invariant (grind (arith, common_steps, c.pieces-test.true)) (left_is c.args.piece.now c.pieces.at) s
    c.step-taken.ensures.staging c.step-taken.ensures.marks

pub returns-then-taken-eq0-clause-within : goal.returns-then-taken-eq0-clause-within
returns-then-taken-eq0-clause-within c =
    let s : Stepped (feeding_of c.pieces.self) (left_at c.args.piece.now c.pieces.at) (feeding_of c.step-taken.new.self) c.step-taken.result =
    record { step = c.step-taken.ensures.step; taken = c.step-taken.ensures.taken; partial = c.step-taken.ensures.partial; quiet = c.step-taken.ensures.quiet; ended = c.step-taken.ensures.ended; tickets = c.step-taken.ensures.tickets } in
    out_bytes (feeding_of c.args.self.now) (feeding_of c.pieces.self) (feeding_of c.step-taken.new.self) c.args.piece.now (left_at c.args.piece.now c.pieces.at) c.pieces.at c.step-taken.result c.pieces.invariant.fed (grind (arith, common_steps, c.pieces-test.true)) (left_is c.args.piece.now c.pieces.at) s (grind (arith, common_steps, c.if-taken-eq0.true))
