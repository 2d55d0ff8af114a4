use Rattle.nr_plain.proofs.Fits.{lacks_and_has}
use Rattle.nr_plain.proofs.changing.reply.Goals as goal

pub unreachable-requires : goal.unreachable-requires
unreachable-requires g c = lacks_and_has c.in-Err.ensures.room c.requires.room
