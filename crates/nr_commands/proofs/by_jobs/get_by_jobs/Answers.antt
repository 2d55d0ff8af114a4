use Rattle.std.proofs.Common.{refl}
use denote.Param.Send.{sendable}
use Rattle.nr_commands.proofs.by_jobs.get_by_jobs.Goals as goal

pub get_at-requires : goal.get_at-requires
get_at-requires g c = (search sendable depth 40, (search sendable depth 40, (search sendable depth 40, (search sendable depth 40, (refl, c.requires)))))
