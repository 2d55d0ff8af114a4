use Rattle.std.proofs.Common.{arith, ◌<◌, length, refl}
use Rattle.std.proofs.lemmas.Bool.Decides.{nat_tests}
use Rattle.nr_links.proofs.Held.{held_read}
use Rattle.nr_host.proofs.looked.LookedSource.read.Goals as goal

pub returns-in-Some-clause-handed : goal.returns-in-Some-clause-handed
returns-in-Some-clause-handed g c =
    let some : 0 < length c.args.buf.now = grind (arith, nat_tests, c.is_empty.ensures, c.if-is_empty.false) in
    held_read _ c.in-Some.byte _ _ _ _ c.args.buf.now c.in-Some.is refl refl some
