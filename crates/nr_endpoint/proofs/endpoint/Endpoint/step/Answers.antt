use Rattle.std.proofs.Common.{◌≡◌, ℕ, ◌+◌, ◌^◌, ◌≤◌, not, List, [], ◌++◌, length, take, None, true, false, inl, inr, refl, sym, ap, subst, ◌∙◌, arith}
use Rattle.nr_wire.specs.declared.stream.Awaited.TheVariants.{Fpdu}
use Rattle.nr_wire.specs.declared.stream.Awaited.{Awaited}
use Rattle.nr_wire.specs.Feeding.{bytes_taken}
use Rattle.nr_wire.specs.Stream.{IsPartial, IsFrame, is_whole, frame_len}
use Rattle.nr_wire.proofs.Frames.{partial_from, partial_nil, whole_from, IsFrame_take}
use Rattle.nr_wire.proofs.Feedings.{bytes_taken_whole}
use Rattle.nr_endpoint.specs.EndpointState.{EndpointState, LinkView}
use Rattle.nr_endpoint.proofs.OneStep.{living, stepped_whole, stepped_partial, out_of_memory, judged, not_judged, not_judged_queues, queues_whole, in_piece, not_in_piece, whole_is, partial_is, StagedFacts, staged_facts, keeps_partial, keeps_whole}
use Rattle.nr_endpoint.proofs.HelloFirst.{greeted_judged, greeted_out}
use Rattle.nr_endpoint.proofs.endpoint.Endpoint.step.Goals as goal

-- the rest is none if nothing is staged
none-staged : (old piece : List ℕ) (s : ℕ) → s ≡ 0 → take s old ++ piece ≡ piece
none-staged old piece s zero = ap (λ (n : ℕ). take n old ++ piece) zero

-- ---- A frame that lies completely in the piece

pub invariant_of-self : goal.invariant_of-self
invariant_of-self c =
    let found = in_piece c.self.inside.staged c.self.inside.awaited c.args.piece.now c.whole_in_piece.result c.in-Some.len c.whole_in_piece.ensures c.in-Some.is in
    record {
      len = c.self.invariant.len;
      within = c.self.invariant.within;
      partial = subst (λ (n : ℕ). IsPartial Fpdu (take n c.self.inside.staging.items)) (sym found.0) (partial_nil Fpdu);
      ended_empty = λ _. found.0;
      greeted = greeted_judged c.self.inside.awaited c.self.inside.link.state c.receive_frame.new.self.state c.split_at.result.0.now (subst (λ (e : EndpointState). e.link.state.ended ≡ None) (sym c.self.view_is) c.requires.live) c.self.invariant.greeted (judged c.receive_frame.result c.receive_frame.new.self.state _ _ (ap (λ (l : LinkView). l.state) c.receive_frame.ensures.state) c.if-receive_frame.true);
    }

taken-in-piece : (a : Awaited) (old piece : List ℕ) (s len : ℕ) → s ≡ 0 → is_whole a piece ≡ true → len ≡ frame_len a piece → len ≡ bytes_taken a (take s old) piece
taken-in-piece a old piece s len zero whole is =
    let all : is_whole a (take s old ++ piece) ≡ true = ap (is_whole a) (none-staged old piece s zero) ∙ whole in
    let none : length (take s old) ≡ 0 = ap (λ (n : ℕ). length (take n old)) zero in
    is ∙ omega (arith, none, ap (frame_len a) (none-staged old piece s zero), bytes_taken_whole a (take s old) piece all)

pub returns-then-receive_frame-clause-taken : goal.returns-then-receive_frame-clause-taken
returns-then-receive_frame-clause-taken c =
    let found = in_piece c.self.inside.staged c.self.inside.awaited c.args.piece.now c.whole_in_piece.result c.in-Some.len c.whole_in_piece.ensures c.in-Some.is in
    rw (← c.self.view_is) (taken-in-piece c.self.inside.awaited c.self.inside.staging.items c.args.piece.now c.self.inside.staged c.in-Some.len found.0 found.1.0 found.1.1)

pub returns-else-receive_frame-clause-taken : goal.returns-else-receive_frame-clause-taken
returns-else-receive_frame-clause-taken c =
    let found = in_piece c.self.inside.staged c.self.inside.awaited c.args.piece.now c.whole_in_piece.result c.in-Some.len c.whole_in_piece.ensures c.in-Some.is in
    rw (← c.self.view_is) (taken-in-piece c.self.inside.awaited c.self.inside.staging.items c.args.piece.now c.self.inside.staged c.in-Some.len found.0 found.1.0 found.1.1)

pub split_at-requires : goal.split_at-requires
split_at-requires c =
    let found = in_piece c.self.inside.staged c.self.inside.awaited c.args.piece.now c.whole_in_piece.result c.in-Some.len c.whole_in_piece.ensures c.in-Some.is in
    omega (arith, found.1.1, (whole_from c.self.inside.awaited c.args.piece.now found.1.0).frame)

pub receive_frame-requires-clause-frame : goal.receive_frame-requires-clause-frame
receive_frame-requires-clause-frame c =
    let found = in_piece c.self.inside.staged c.self.inside.awaited c.args.piece.now c.whole_in_piece.result c.in-Some.len c.whole_in_piece.ensures c.in-Some.is in
    subst (λ (x : List ℕ). IsFrame c.self.inside.awaited x) (sym (c.split_at.ensures.front ∙ ap (λ (n : ℕ). take n c.args.piece.now) found.1.1)) (IsFrame_take c.self.inside.awaited c.args.piece.now (whole_from c.self.inside.awaited c.args.piece.now found.1.0))

frame-in-piece : (a : Awaited) (old piece frame : List ℕ) (s len : ℕ) → s ≡ 0 → len ≡ frame_len a piece → frame ≡ take len piece → frame ≡ take (frame_len a (take s old ++ piece)) (take s old ++ piece)
frame-in-piece a old piece frame s len zero is front = front ∙ ap (λ (n : ℕ). take n piece) is ∙ (λ i. take (frame_len a (sym (none-staged old piece s zero) i)) (sym (none-staged old piece s zero) i))

pub returns-then-receive_frame-clause-state : goal.returns-then-receive_frame-clause-state
returns-then-receive_frame-clause-state c =
    let found = in_piece c.self.inside.staged c.self.inside.awaited c.args.piece.now c.whole_in_piece.result c.in-Some.len c.whole_in_piece.ensures c.in-Some.is in
    let none : take c.self.inside.staged c.self.inside.staging.items ≡ [] = ap (λ (n : ℕ). take n c.self.inside.staging.items) found.0 in
    rw (← c.self.view_is) (inl (ap (λ (rest : List ℕ). record { awaited = Fpdu; rest = rest; state = c.receive_frame.new.self.state }) none
    ∙ stepped_whole c.self.inside.link.state c.receive_frame.new.self.state c.self.inside.awaited (take c.self.inside.staged c.self.inside.staging.items) c.args.piece.now c.split_at.result.0.now (subst (λ (e : EndpointState). e.link.state.ended ≡ None) (sym c.self.view_is) c.requires.live) (ap (is_whole c.self.inside.awaited) (none-staged c.self.inside.staging.items c.args.piece.now c.self.inside.staged found.0) ∙ found.1.0)
    (frame-in-piece c.self.inside.awaited c.self.inside.staging.items c.args.piece.now c.split_at.result.0.now c.self.inside.staged c.in-Some.len found.0 found.1.1 c.split_at.ensures.front)
    (judged c.receive_frame.result c.receive_frame.new.self.state _ _ (ap (λ (l : LinkView). l.state) c.receive_frame.ensures.state) c.if-receive_frame.true)))

pub returns-else-receive_frame-clause-state : goal.returns-else-receive_frame-clause-state
returns-else-receive_frame-clause-state c =
    let found = in_piece c.self.inside.staged c.self.inside.awaited c.args.piece.now c.whole_in_piece.result c.in-Some.len c.whole_in_piece.ensures c.in-Some.is in
    let none : take c.self.inside.staged c.self.inside.staging.items ≡ [] = ap (λ (n : ℕ). take n c.self.inside.staging.items) found.0 in
    let whole : is_whole c.self.inside.awaited (take c.self.inside.staged c.self.inside.staging.items ++ c.args.piece.now) ≡ true =
    ap (is_whole c.self.inside.awaited) (none-staged c.self.inside.staging.items c.args.piece.now c.self.inside.staged found.0) ∙ found.1.0 in
    rw (← c.self.view_is) (inr (
      (ap (λ (rest : List ℕ). record { awaited = c.self.inside.awaited; rest = rest; state = c.receive_frame.new.self.state }) none
          ∙ out_of_memory c.self.inside.link.state c.receive_frame.new.self.state c.self.inside.awaited (take c.self.inside.staged c.self.inside.staging.items) (subst (λ (e : EndpointState). e.link.state.ended ≡ None) (sym c.self.view_is) c.requires.live) (not_judged c.receive_frame.result c.receive_frame.new.self.state _ _ (ap (λ (l : LinkView). l.state) c.receive_frame.ensures.state) c.if-receive_frame.false)),
      whole,
      queues_whole c.self.inside.link.state c.self.inside.awaited (take c.self.inside.staged c.self.inside.staging.items) c.args.piece.now c.split_at.result.0.now (subst (λ (e : EndpointState). e.link.state.ended ≡ None) (sym c.self.view_is) c.requires.live) whole
          (frame-in-piece c.self.inside.awaited c.self.inside.staging.items c.args.piece.now c.split_at.result.0.now c.self.inside.staged c.in-Some.len found.0 found.1.1 c.split_at.ensures.front)
          (not_judged_queues c.receive_frame.result _ c.receive_frame.ensures.queued c.if-receive_frame.false),
    ))

-- ---- A frame that is staged

pub split_at-requires-2 : goal.split_at-requires-2
split_at-requires-2 c =
    let facts : StagedFacts c.self.inside.awaited c.self.inside.staging.items c.stage_frame-taken.new.staging.items c.args.piece.now c.self.inside.staged c.stage_frame-taken.result = staged_facts c.self.inside.awaited c.self.inside.staging.items c.stage_frame-taken.new.staging.items c.args.piece.now c.self.inside.staged c.stage_frame-taken.result c.self.invariant.len c.stage_frame-taken.ensures.room c.self.invariant.partial c.stage_frame-taken.ensures.taken c.stage_frame-taken.ensures.bytes in
    omega (arith, facts.len, c.as_slice.ensures.len, ap (λ (x : List ℕ). length x) c.as_slice.ensures.value, c.stage_frame-taken.ensures.room)

pub invariant_of-self-then-is_none : goal.invariant_of-self-then-is_none
invariant_of-self-then-is_none c =
    let facts : StagedFacts c.self.inside.awaited c.self.inside.staging.items c.stage_frame-taken.new.staging.items c.args.piece.now c.self.inside.staged c.stage_frame-taken.result = staged_facts c.self.inside.awaited c.self.inside.staging.items c.stage_frame-taken.new.staging.items c.args.piece.now c.self.inside.staged c.stage_frame-taken.result c.self.invariant.len c.stage_frame-taken.ensures.room c.self.invariant.partial c.stage_frame-taken.ensures.taken c.stage_frame-taken.ensures.bytes in
    let staged : c.split_at-2.result.0.now ≡ take (c.self.inside.staged + c.stage_frame-taken.result) c.stage_frame-taken.new.staging.items = c.split_at-2.ensures.front ∙ ap (take (c.self.inside.staged + c.stage_frame-taken.result)) c.as_slice.ensures.value in
    let partial : is_whole c.self.inside.awaited (take (c.self.inside.staged + c.stage_frame-taken.result) c.stage_frame-taken.new.staging.items) ≡ false = ap (is_whole c.self.inside.awaited) (sym staged) ∙ partial_is (is_whole c.self.inside.awaited c.split_at-2.result.0.now) _ c.whole_frame.result c.whole_frame.ensures.exact (c.is_none.ensures ∙ ap not c.if-is_none.true) in
    record {
      len = facts.len;
      within = c.stage_frame-taken.ensures.room;
      partial = partial_from c.self.inside.awaited (take (c.self.inside.staged + c.stage_frame-taken.result) c.stage_frame-taken.new.staging.items) partial;
      ended_empty = λ e. absurd (let h : false ≡ true = sym (living c.self.inside.link.state (subst (λ (e : EndpointState). e.link.state.ended ≡ None) (sym c.self.view_is) c.requires.live)) ∙ e in cc);
      greeted = c.self.invariant.greeted;
    }

pub returns-then-is_none-clause-state : goal.returns-then-is_none-clause-state
returns-then-is_none-clause-state c =
    let facts : StagedFacts c.self.inside.awaited c.self.inside.staging.items c.stage_frame-taken.new.staging.items c.args.piece.now c.self.inside.staged c.stage_frame-taken.result = staged_facts c.self.inside.awaited c.self.inside.staging.items c.stage_frame-taken.new.staging.items c.args.piece.now c.self.inside.staged c.stage_frame-taken.result c.self.invariant.len c.stage_frame-taken.ensures.room c.self.invariant.partial c.stage_frame-taken.ensures.taken c.stage_frame-taken.ensures.bytes in
    let staged : c.split_at-2.result.0.now ≡ take (c.self.inside.staged + c.stage_frame-taken.result) c.stage_frame-taken.new.staging.items = c.split_at-2.ensures.front ∙ ap (take (c.self.inside.staged + c.stage_frame-taken.result)) c.as_slice.ensures.value in
    let partial : is_whole c.self.inside.awaited ((take c.self.inside.staged c.self.inside.staging.items) ++ c.args.piece.now) ≡ false = sym facts.whole ∙ ap (is_whole c.self.inside.awaited) (sym staged) ∙ partial_is (is_whole c.self.inside.awaited c.split_at-2.result.0.now) _ c.whole_frame.result c.whole_frame.ensures.exact (c.is_none.ensures ∙ ap not c.if-is_none.true) in
    rw (← c.self.view_is) (inl (stepped_partial c.self.inside.link.state c.self.inside.awaited (take c.self.inside.staged c.self.inside.staging.items) c.args.piece.now (take (c.self.inside.staged + c.stage_frame-taken.result) c.stage_frame-taken.new.staging.items) (subst (λ (e : EndpointState). e.link.state.ended ≡ None) (sym c.self.view_is) c.requires.live) partial (facts.all partial)))

pub returns-then-is_none-clause-staging : goal.returns-then-is_none-clause-staging
returns-then-is_none-clause-staging c =
    let facts : StagedFacts c.self.inside.awaited c.self.inside.staging.items c.stage_frame-taken.new.staging.items c.args.piece.now c.self.inside.staged c.stage_frame-taken.result = staged_facts c.self.inside.awaited c.self.inside.staging.items c.stage_frame-taken.new.staging.items c.args.piece.now c.self.inside.staged c.stage_frame-taken.result c.self.invariant.len c.stage_frame-taken.ensures.room c.self.invariant.partial c.stage_frame-taken.ensures.taken c.stage_frame-taken.ensures.bytes in
    rw (← c.self.view_is) (keeps_partial c.self.inside.awaited c.self.inside.link.state c.self.inside.staging.items c.stage_frame-taken.new.staging.items c.args.piece.now c.self.inside.staged c.stage_frame-taken.result facts c.self.invariant.len)

pub receive_frame-requires-2-clause-frame : goal.receive_frame-requires-2-clause-frame
receive_frame-requires-2-clause-frame c =
    let facts : StagedFacts c.self.inside.awaited c.self.inside.staging.items c.stage_frame-taken.new.staging.items c.args.piece.now c.self.inside.staged c.stage_frame-taken.result = staged_facts c.self.inside.awaited c.self.inside.staging.items c.stage_frame-taken.new.staging.items c.args.piece.now c.self.inside.staged c.stage_frame-taken.result c.self.invariant.len c.stage_frame-taken.ensures.room c.self.invariant.partial c.stage_frame-taken.ensures.taken c.stage_frame-taken.ensures.bytes in
    let staged : c.split_at-2.result.0.now ≡ take (c.self.inside.staged + c.stage_frame-taken.result) c.stage_frame-taken.new.staging.items = c.split_at-2.ensures.front ∙ ap (take (c.self.inside.staged + c.stage_frame-taken.result)) c.as_slice.ensures.value in
    let whole : is_whole c.self.inside.awaited ((take c.self.inside.staged c.self.inside.staging.items) ++ c.args.piece.now) ≡ true = sym facts.whole ∙ ap (is_whole c.self.inside.awaited) (sym staged) ∙ whole_is (is_whole c.self.inside.awaited c.split_at-2.result.0.now) _ c.whole_frame.result c.whole_frame.ensures.exact (c.is_none.ensures ∙ ap not c.if-is_none.false) in
    subst (λ (x : List ℕ). IsFrame c.self.inside.awaited x) (sym staged) (facts.frame whole).0

pub receive_frame-requires-2-clause-within : goal.receive_frame-requires-2-clause-within
receive_frame-requires-2-clause-within c =
    let facts : StagedFacts c.self.inside.awaited c.self.inside.staging.items c.stage_frame-taken.new.staging.items c.args.piece.now c.self.inside.staged c.stage_frame-taken.result = staged_facts c.self.inside.awaited c.self.inside.staging.items c.stage_frame-taken.new.staging.items c.args.piece.now c.self.inside.staged c.stage_frame-taken.result c.self.invariant.len c.stage_frame-taken.ensures.room c.self.invariant.partial c.stage_frame-taken.ensures.taken c.stage_frame-taken.ensures.bytes in
    let staged : c.split_at-2.result.0.now ≡ take (c.self.inside.staged + c.stage_frame-taken.result) c.stage_frame-taken.new.staging.items = c.split_at-2.ensures.front ∙ ap (take (c.self.inside.staged + c.stage_frame-taken.result)) c.as_slice.ensures.value in
    omega (arith, facts.bound, ap (λ (x : List ℕ). length x) staged, (subst (λ (e : EndpointState). e.link.state.place + length e.link.rest + length c.args.piece.now ≤ 2 ^ 62) (sym c.self.view_is) c.requires.within))

pub invariant_of-self-then-receive_frame-2 : goal.invariant_of-self-then-receive_frame-2
invariant_of-self-then-receive_frame-2 c =
    let facts : StagedFacts c.self.inside.awaited c.self.inside.staging.items c.stage_frame-taken.new.staging.items c.args.piece.now c.self.inside.staged c.stage_frame-taken.result = staged_facts c.self.inside.awaited c.self.inside.staging.items c.stage_frame-taken.new.staging.items c.args.piece.now c.self.inside.staged c.stage_frame-taken.result c.self.invariant.len c.stage_frame-taken.ensures.room c.self.invariant.partial c.stage_frame-taken.ensures.taken c.stage_frame-taken.ensures.bytes in
    record { len = facts.len; within = omega arith; partial = partial_nil Fpdu; ended_empty = λ _. refl; greeted = greeted_judged c.self.inside.awaited c.self.inside.link.state c.receive_frame-2.new.self.state c.split_at-2.result.0.now (subst (λ (e : EndpointState). e.link.state.ended ≡ None) (sym c.self.view_is) c.requires.live) c.self.invariant.greeted (judged c.receive_frame-2.result c.receive_frame-2.new.self.state _ _ (ap (λ (l : LinkView). l.state) c.receive_frame-2.ensures.state) c.if-receive_frame-2.true) }

pub invariant_of-self-else-receive_frame-2 : goal.invariant_of-self-else-receive_frame-2
invariant_of-self-else-receive_frame-2 c =
    let facts : StagedFacts c.self.inside.awaited c.self.inside.staging.items c.stage_frame-taken.new.staging.items c.args.piece.now c.self.inside.staged c.stage_frame-taken.result = staged_facts c.self.inside.awaited c.self.inside.staging.items c.stage_frame-taken.new.staging.items c.args.piece.now c.self.inside.staged c.stage_frame-taken.result c.self.invariant.len c.stage_frame-taken.ensures.room c.self.invariant.partial c.stage_frame-taken.ensures.taken c.stage_frame-taken.ensures.bytes in
    record { len = facts.len; within = omega arith; partial = partial_nil c.self.inside.awaited; ended_empty = λ _. refl; greeted = greeted_out c.self.inside.awaited c.self.inside.link.state c.receive_frame-2.new.self.state (not_judged c.receive_frame-2.result c.receive_frame-2.new.self.state _ _ (ap (λ (l : LinkView). l.state) c.receive_frame-2.ensures.state) c.if-receive_frame-2.false) }

pub returns-then-receive_frame-2-clause-state : goal.returns-then-receive_frame-2-clause-state
returns-then-receive_frame-2-clause-state c =
    let facts : StagedFacts c.self.inside.awaited c.self.inside.staging.items c.stage_frame-taken.new.staging.items c.args.piece.now c.self.inside.staged c.stage_frame-taken.result = staged_facts c.self.inside.awaited c.self.inside.staging.items c.stage_frame-taken.new.staging.items c.args.piece.now c.self.inside.staged c.stage_frame-taken.result c.self.invariant.len c.stage_frame-taken.ensures.room c.self.invariant.partial c.stage_frame-taken.ensures.taken c.stage_frame-taken.ensures.bytes in
    let staged : c.split_at-2.result.0.now ≡ take (c.self.inside.staged + c.stage_frame-taken.result) c.stage_frame-taken.new.staging.items = c.split_at-2.ensures.front ∙ ap (take (c.self.inside.staged + c.stage_frame-taken.result)) c.as_slice.ensures.value in
    let whole : is_whole c.self.inside.awaited ((take c.self.inside.staged c.self.inside.staging.items) ++ c.args.piece.now) ≡ true = sym facts.whole ∙ ap (is_whole c.self.inside.awaited) (sym staged) ∙ whole_is (is_whole c.self.inside.awaited c.split_at-2.result.0.now) _ c.whole_frame.result c.whole_frame.ensures.exact (c.is_none.ensures ∙ ap not c.if-is_none.false) in
    rw (← c.self.view_is) (inl (stepped_whole c.self.inside.link.state c.receive_frame-2.new.self.state c.self.inside.awaited (take c.self.inside.staged c.self.inside.staging.items) c.args.piece.now c.split_at-2.result.0.now (subst (λ (e : EndpointState). e.link.state.ended ≡ None) (sym c.self.view_is) c.requires.live) whole (staged ∙ (facts.frame whole).1)
    (judged c.receive_frame-2.result c.receive_frame-2.new.self.state _ _ (ap (λ (l : LinkView). l.state) c.receive_frame-2.ensures.state) c.if-receive_frame-2.true)))

pub returns-else-receive_frame-2-clause-state : goal.returns-else-receive_frame-2-clause-state
returns-else-receive_frame-2-clause-state c =
    let facts : StagedFacts c.self.inside.awaited c.self.inside.staging.items c.stage_frame-taken.new.staging.items c.args.piece.now c.self.inside.staged c.stage_frame-taken.result = staged_facts c.self.inside.awaited c.self.inside.staging.items c.stage_frame-taken.new.staging.items c.args.piece.now c.self.inside.staged c.stage_frame-taken.result c.self.invariant.len c.stage_frame-taken.ensures.room c.self.invariant.partial c.stage_frame-taken.ensures.taken c.stage_frame-taken.ensures.bytes in
    let staged : c.split_at-2.result.0.now ≡ take (c.self.inside.staged + c.stage_frame-taken.result) c.stage_frame-taken.new.staging.items = c.split_at-2.ensures.front ∙ ap (take (c.self.inside.staged + c.stage_frame-taken.result)) c.as_slice.ensures.value in
    let whole : is_whole c.self.inside.awaited ((take c.self.inside.staged c.self.inside.staging.items) ++ c.args.piece.now) ≡ true = sym facts.whole ∙ ap (is_whole c.self.inside.awaited) (sym staged) ∙ whole_is (is_whole c.self.inside.awaited c.split_at-2.result.0.now) _ c.whole_frame.result c.whole_frame.ensures.exact (c.is_none.ensures ∙ ap not c.if-is_none.false) in
    rw (← c.self.view_is) (inr (
      out_of_memory c.self.inside.link.state c.receive_frame-2.new.self.state c.self.inside.awaited (take c.self.inside.staged c.self.inside.staging.items) (subst (λ (e : EndpointState). e.link.state.ended ≡ None) (sym c.self.view_is) c.requires.live) (not_judged c.receive_frame-2.result c.receive_frame-2.new.self.state _ _ (ap (λ (l : LinkView). l.state) c.receive_frame-2.ensures.state) c.if-receive_frame-2.false),
      whole,
      queues_whole c.self.inside.link.state c.self.inside.awaited (take c.self.inside.staged c.self.inside.staging.items) c.args.piece.now c.split_at-2.result.0.now (subst (λ (e : EndpointState). e.link.state.ended ≡ None) (sym c.self.view_is) c.requires.live) whole
          (staged ∙ (facts.frame whole).1) (not_judged_queues c.receive_frame-2.result _ c.receive_frame-2.ensures.queued c.if-receive_frame-2.false),
    ))

pub returns-then-receive_frame-2-clause-staging : goal.returns-then-receive_frame-2-clause-staging
returns-then-receive_frame-2-clause-staging c =
    let facts : StagedFacts c.self.inside.awaited c.self.inside.staging.items c.stage_frame-taken.new.staging.items c.args.piece.now c.self.inside.staged c.stage_frame-taken.result = staged_facts c.self.inside.awaited c.self.inside.staging.items c.stage_frame-taken.new.staging.items c.args.piece.now c.self.inside.staged c.stage_frame-taken.result c.self.invariant.len c.stage_frame-taken.ensures.room c.self.invariant.partial c.stage_frame-taken.ensures.taken c.stage_frame-taken.ensures.bytes in
    let staged : c.split_at-2.result.0.now ≡ take (c.self.inside.staged + c.stage_frame-taken.result) c.stage_frame-taken.new.staging.items = c.split_at-2.ensures.front ∙ ap (take (c.self.inside.staged + c.stage_frame-taken.result)) c.as_slice.ensures.value in
    let whole : is_whole c.self.inside.awaited ((take c.self.inside.staged c.self.inside.staging.items) ++ c.args.piece.now) ≡ true = sym facts.whole ∙ ap (is_whole c.self.inside.awaited) (sym staged) ∙ whole_is (is_whole c.self.inside.awaited c.split_at-2.result.0.now) _ c.whole_frame.result c.whole_frame.ensures.exact (c.is_none.ensures ∙ ap not c.if-is_none.false) in
    rw (← c.self.view_is) (keeps_whole c.self.inside.awaited Fpdu c.self.inside.link.state c.receive_frame-2.new.self.state c.self.inside.staging.items c.stage_frame-taken.new.staging.items c.args.piece.now c.self.inside.staged c.stage_frame-taken.result facts c.self.invariant.len c.self.invariant.partial c.stage_frame-taken.ensures.taken whole
    (not_in_piece c.self.inside.staged c.self.inside.awaited c.args.piece.now c.whole_in_piece.result c.whole_in_piece.ensures c.in_default.is))

pub returns-else-receive_frame-2-clause-staging : goal.returns-else-receive_frame-2-clause-staging
returns-else-receive_frame-2-clause-staging c =
    let facts : StagedFacts c.self.inside.awaited c.self.inside.staging.items c.stage_frame-taken.new.staging.items c.args.piece.now c.self.inside.staged c.stage_frame-taken.result = staged_facts c.self.inside.awaited c.self.inside.staging.items c.stage_frame-taken.new.staging.items c.args.piece.now c.self.inside.staged c.stage_frame-taken.result c.self.invariant.len c.stage_frame-taken.ensures.room c.self.invariant.partial c.stage_frame-taken.ensures.taken c.stage_frame-taken.ensures.bytes in
    let staged : c.split_at-2.result.0.now ≡ take (c.self.inside.staged + c.stage_frame-taken.result) c.stage_frame-taken.new.staging.items = c.split_at-2.ensures.front ∙ ap (take (c.self.inside.staged + c.stage_frame-taken.result)) c.as_slice.ensures.value in
    let whole : is_whole c.self.inside.awaited ((take c.self.inside.staged c.self.inside.staging.items) ++ c.args.piece.now) ≡ true = sym facts.whole ∙ ap (is_whole c.self.inside.awaited) (sym staged) ∙ whole_is (is_whole c.self.inside.awaited c.split_at-2.result.0.now) _ c.whole_frame.result c.whole_frame.ensures.exact (c.is_none.ensures ∙ ap not c.if-is_none.false) in
    rw (← c.self.view_is) (keeps_whole c.self.inside.awaited c.self.inside.awaited c.self.inside.link.state c.receive_frame-2.new.self.state c.self.inside.staging.items c.stage_frame-taken.new.staging.items c.args.piece.now c.self.inside.staged c.stage_frame-taken.result facts c.self.invariant.len c.self.invariant.partial c.stage_frame-taken.ensures.taken whole
    (not_in_piece c.self.inside.staged c.self.inside.awaited c.args.piece.now c.whole_in_piece.result c.whole_in_piece.ensures c.in_default.is))
