use Rattle.std.proofs.Common.{◌≡◌, ◌≢◌, ℕ, ◌+◌, ◌≤◌, arith, List, [], length, take, refl, ap, sym, subst, ◌∙◌}
use Rattle.std.proofs.lemmas.Grind.{common_steps}
use Rattle.nr_world.specs.DrillLinkState.{DrillLinkState}
use Rattle.nr_world.specs.Views.{link_view}
use Rattle.nr_world.proofs.Standing.{on_ok}
use Rattle.nr_world.proofs.FedEnds.{not_out, is_nothing, is_something, within_more, fits_more}
use Rattle.nr_requester.specs.Resends.{KeepsPiece}
use Rattle.nr_world.proofs.FeedingDown.{down_nothing, fed_and_noted}
use Rattle.nr_world.proofs.OpenTickets.{kept_open}
use Rattle.nr_world.proofs.link.DrillLink.feed_down.Goals as goal

pub same-self : goal.same-self
same-self c = refl

pub same-self-then-piece-self : goal.same-self-then-piece-self
same-self-then-piece-self c = refl

pub same-self-in-Err : goal.same-self-in-Err
same-self-in-Err c = refl

pub same-bytes : goal.same-bytes
same-bytes c = refl

pub returns-then-is_empty : goal.returns-then-is_empty
returns-then-is_empty c =
    down_nothing c.args.self.now c.args.most c.args.marks.now
    (ap (λ (v : DrillLinkState). take c.args.most v.pipes.down) (sym c.self.view_is) ∙ sym c.peek-piece.ensures ∙ is_nothing c.peek-piece.result.now c.is_empty.result c.is_empty.ensures c.if-is_empty.true)

pub overflow_sub-self-inside : goal.overflow_sub-self-inside
overflow_sub-self-inside c = c.self.invariant.1.1.1.0

pub overflow_add-self : goal.overflow_add-self
overflow_add-self c =
    let cap = c.self.invariant.1.1.1.0 in let same : c.len.result ≡ length c.peek-piece.result.now = c.len.ensures ∙ ap (λ (xs : List ℕ). length xs) c.in-Ok.ensures in
    let room : c.self.inside.fed_down + c.len.result ≤ 4611686018427387904 = grind (arith, common_steps, c.if-piece-self.false, cap, same) in
    grind (arith, common_steps, room)

pub feed-requires : goal.feed-requires
feed-requires c =
    let cap = c.self.invariant.1.1.1.0 in let same : c.len.result ≡ length c.peek-piece.result.now = c.len.ensures ∙ ap (λ (xs : List ℕ). length xs) c.in-Ok.ensures in
    let room : c.self.inside.fed_down + c.len.result ≤ 4611686018427387904 = grind (arith, common_steps, c.if-piece-self.false, cap, same) in
    fits_more _ _ _ _ _ c.self.invariant.1.1.0 room (c.len.ensures ∙ sym (ap (λ (xs : List ℕ). length xs) c.as_slice.ensures))

pub invariant_of-self : goal.invariant_of-self
invariant_of-self c =
    let cap = c.self.invariant.1.1.1.0 in let same : c.len.result ≡ length c.peek-piece.result.now = c.len.ensures ∙ ap (λ (xs : List ℕ). length xs) c.in-Ok.ensures in
    let room : c.self.inside.fed_down + c.len.result ≤ 4611686018427387904 = grind (arith, common_steps, c.if-piece-self.false, cap, same) in
    (c.self.invariant.0, (c.self.invariant.1.0, (within_more _ _ _ _ _ c.feed.ensures.within c.self.invariant.1.1.0 (ap (λ (xs : List ℕ). length xs) c.as_slice.ensures ∙ sym c.len.ensures), (room, kept_open _ _ _ c.feed.ensures.tickets c.self.invariant.1.1.1.1))))

pub invariant_of-self-in-Ok-add_mark : goal.invariant_of-self-in-Ok-add_mark
invariant_of-self-in-Ok-add_mark c =
    let cap = c.self.invariant.1.1.1.0 in let same : c.len.result ≡ length c.peek-piece.result.now = c.len.ensures ∙ ap (λ (xs : List ℕ). length xs) c.in-Ok.ensures in
    let room : c.self.inside.fed_down + c.len.result ≤ 4611686018427387904 = grind (arith, common_steps, c.if-piece-self.false, cap, same) in
    (c.self.invariant.0, (c.self.invariant.1.0, (within_more _ _ _ _ _ c.feed.ensures.within c.self.invariant.1.1.0 (ap (λ (xs : List ℕ). length xs) c.as_slice.ensures ∙ sym c.len.ensures), (room, kept_open _ _ _ c.feed.ensures.tickets c.self.invariant.1.1.1.1))))

pub invariant_of-self-in-Err-add_mark : goal.invariant_of-self-in-Err-add_mark
invariant_of-self-in-Err-add_mark c =
    let cap = c.self.invariant.1.1.1.0 in let same : c.len.result ≡ length c.peek-piece.result.now = c.len.ensures ∙ ap (λ (xs : List ℕ). length xs) c.in-Ok.ensures in
    let room : c.self.inside.fed_down + c.len.result ≤ 4611686018427387904 = grind (arith, common_steps, c.if-piece-self.false, cap, same) in
    (c.self.invariant.0, (c.self.invariant.1.0, (within_more _ _ _ _ _ c.feed.ensures.within c.self.invariant.1.1.0 (ap (λ (xs : List ℕ). length xs) c.as_slice.ensures ∙ sym c.len.ensures), (room, kept_open _ _ _ c.feed.ensures.tickets c.self.invariant.1.1.1.1))))

pub returns-in-Ok-add_mark : goal.returns-in-Ok-add_mark
returns-in-Ok-add_mark c =
    let v : DrillLinkState = link_view c.self.inside.number c.self.inside.client c.self.inside.server.side c.self.inside.up c.self.inside.down c.self.inside.dropped c.self.inside.lines c.self.inside.awaited.items c.self.inside.held.items in
    let piece : c.in-Ok.bytes ≡ take c.args.most v.pipes.down = c.in-Ok.ensures ∙ c.peek-piece.ensures in
    let some : c.in-Ok.bytes ≢ [] = λ none. is_something c.peek-piece.result.now c.is_empty.result c.is_empty.ensures c.if-is_empty.false (sym c.in-Ok.ensures ∙ none) in
    let takes : KeepsPiece c.self.inside.client c.in-Ok.bytes c.feed.new.self =
    subst (λ (xs : List ℕ). KeepsPiece c.self.inside.client xs c.feed.new.self) c.as_slice.ensures (c.feed.ensures.keeps (c.ran_out.ensures c.if-ran_out.false)) in
    on_ok c.note_resends.result _ _
    (λ notes. fed_and_noted v c.args.self.now c.note_resends.new.self c.feed.new.self c.args.most c.in-Ok.bytes (record { up = v.pipes.up; down = c.skip.new.self.waiting }) c.args.marks.now c.add_mark.new.marks c.note_resends.new.marks c.self.view_is piece some takes
    (not_out c.feed.result _ c.feed.ensures.ended (c.ran_out.ensures c.if-ran_out.false)) (ap (λ (xs : List ℕ). record { up = v.pipes.up; down = xs }) c.skip.ensures) c.in-Ok-add_mark.ensures notes)
    c.note_resends.ensures
