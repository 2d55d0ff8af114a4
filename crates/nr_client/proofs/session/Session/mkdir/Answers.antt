use Rattle.std.proofs.Common.{sym}
use Rattle.nr_nfs_base.specs.Procedures.{nfs_program, nfs_version}
use Rattle.nr_client.proofs.Outcomes.{writable}
use Rattle.nr_client.proofs.session.Session.mkdir.Goals as goal

pub returns-clause-asks : goal.returns-clause-asks
returns-clause-asks g c = rw (sym c.self.view_is) (c.ask_nfs.ensures.asks _ c.mkdir_call.ensures)

pub ask_nfs-requires : goal.ask_nfs-requires
ask_nfs-requires g c = writable c.mkdir_call.result nfs_program nfs_version 9 c.self.inside.uid c.self.inside.gid _ c.mkdir_call.ensures
