use Rattle.nr_plain.specs.private.Code.{entry_of}
use Rattle.nr_plain.proofs.Serving.{mount_program_lem}
use Rattle.nr_plain.proofs.server.Server.program.Goals as goal

pub returns-then-prog-eq-MOUNT_PROGRAM-clause-kept : goal.returns-then-prog-eq-MOUNT_PROGRAM-clause-kept
returns-then-prog-eq-MOUNT_PROGRAM-clause-kept c = mount_program_lem c.mount.result c.args.self.now c.args.request.now.xid c.args.prog c.args.vers (entry_of c.args.request.now) c.if-prog-eq-MOUNT_PROGRAM.true
