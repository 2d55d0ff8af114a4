use Rattle.std.proofs.Common.{ap}
use Rattle.nr_xdr.specs.Room.{Room}
use Rattle.nr_plain.proofs.encoding.accepted.Goals as goal

pub write_accepted-requires : goal.write_accepted-requires
write_accepted-requires g c = ap (λ (r : Room). r.bytes) c.new.ensures
