use Rattle.std.proofs.Common.{sym, ap, ◌∙◌, Some}
use Rattle.nr_xdr.specs.Reading.{Cursor}
use Rattle.nr_reduce.specs.Largest.{program_reply_max}
use Rattle.nr_reduce.specs.CallOutlines.{parts_payload}
use Rattle.nr_reduce.proofs.Places.{largest_by}
use Rattle.nr_reduce.proofs.parts.largest_reply_of.Goals as goal

pub returns : goal.returns
returns c =
    c.program_reply_max.ensures
    ∙ ap (λ (r : Cursor). program_reply_max c.args.parts.target.prog c.args.parts.target.vers c.args.parts.target.proc r) c.arguments.ensures
    ∙ largest_by (parts_payload c.args.parts) (Some c.args.parts.target) (sym c.requires.0)
