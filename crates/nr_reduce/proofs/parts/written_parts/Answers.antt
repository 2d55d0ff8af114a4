use Rattle.std.proofs.Common.{refl}
use Rattle.nr_reduce.proofs.CallForms.{written_stand}
use Rattle.nr_reduce.proofs.parts.written_parts.Goals as goal

pub returns-clause-call : goal.returns-clause-call
returns-clause-call c = (
  written_stand c.args.target c.args.cred.now c.args.head.now c.args.args.now c.requires.cred
      (c.words_fit.ensures.xid, c.words_fit.ensures.prog, c.words_fit.ensures.vers, c.words_fit.ensures.proc, c.cred_fits.ensures) c.requires.head,
  refl,
)
