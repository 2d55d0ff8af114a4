use Rattle.std.proofs.Common.{inl, inr, refl}
use Rattle.nr_nfs_base.specs.Procedures.{nfs_program, nfs_version}
use Rattle.nr_client.proofs.Outcomes.{writable}
use Rattle.nr_client.proofs.write_file.write_piece.Goals as goal

pub outcome_of-requires : goal.outcome_of-requires
outcome_of-requires g c = writable c.write_call.result nfs_program nfs_version 7 c.args.uid c.args.gid _ c.write_call.ensures

pub returns-in-Err-clause-err : goal.returns-in-Err-clause-err
returns-in-Err-clause-err g c = inl (c.in-Err.ensures.err _ c.write_call.ensures)

pub returns-in-Err-written_in-clause-err : goal.returns-in-Err-written_in-clause-err
returns-in-Err-written_in-clause-err g c = inr (c.in-Ok.outcome, (c.in-Ok.ensures.ok _ c.write_call.ensures, c.in-Err-written_in.ensures.gives))

pub returns-clause-ok : goal.returns-clause-ok
returns-clause-ok g c =
    record {
      outcome = c.in-Ok.outcome;
      count = c.in-Ok-written_in.written;
      answered = c.in-Ok.ensures.ok _ c.write_call.ensures;
      reads = c.in-Ok-written_in.ensures.gives;
      offset = refl;
    }
