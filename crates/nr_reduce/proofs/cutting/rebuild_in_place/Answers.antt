use Rattle.std.proofs.Common.{sym, ◌∙◌, arith, take}
use Rattle.nr_reduce.proofs.InPlace.{rebuilt_there, whole_there}
use Rattle.nr_reduce.proofs.Places.{item_inside}
use Rattle.nr_reduce.proofs.cutting.rebuild_in_place.Goals as goal

pub complete-requires-clause-place : goal.complete-requires-clause-place
complete-requires-clause-place c = item_inside c.args.of.now c.args.stream.now _ (λ i. omega (arith, c.type_inv.stream i)) (sym c.in-Some.is ∙ c.requires.item)

pub returns-clause-whole : goal.returns-clause-whole
returns-clause-whole c =
    whole_there c.args.of.now c.in-Some.item c.args.stream.now c.args.room.now (take c.complete.result c.complete.new.buffer) c.args.pos c.args.moved (sym c.requires.item ∙ c.in-Some.is)
    (omega (arith, c.if-item-pos.false)) c.requires.placed (let a = c.if-not-has_placed_length.ensures in let b = c.has_placed_length.ensures in let d = c.if-not-has_placed_length.false in cc)
    c.complete.ensures.payload

pub returns-clause-exact : goal.returns-clause-exact
returns-clause-exact c = (
  rebuilt_there c.args.of.now c.in-Some.item c.args.stream.now c.args.room.now (take c.complete.result c.complete.new.buffer) c.args.pos c.args.moved (sym c.requires.item ∙ c.in-Some.is)
      (omega (arith, c.if-item-pos.false)) c.requires.placed (let a = c.if-not-has_placed_length.ensures in let b = c.has_placed_length.ensures in let d = c.if-not-has_placed_length.false in cc)
      c.complete.ensures.payload,
  c.complete.ensures.within,
)
