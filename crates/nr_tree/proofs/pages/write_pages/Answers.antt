use Rattle.std.proofs.Common.{◌<◌, length, arith, refl}
use Rattle.std.proofs.lemmas.Bool.Decides.{nat_tests}
use Rattle.nr_tree.proofs.PageLemmas.{set_kept}
use Rattle.nr_tree.proofs.pages.write_pages.Goals as goal

pub returns-clause-set : goal.returns-clause-set
returns-clause-set c =
    let some : 0 < length c.args.piece.now = grind (arith, nat_tests, c.is_empty.ensures, c.if-is_empty.false) in
    set_kept _ _ _ _ _ c.args.offset c.args.piece.now c.make_room.ensures.bytes c.copy.ensures.over refl refl some c.requires.set c.copy.ensures.set
