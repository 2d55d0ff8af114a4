use Rattle.std.proofs.Common.{sym, ap, ◌∙◌, Some}
use Rattle.nr_xdr.specs.Reading.{Cursor}
use Rattle.nr_reduce.specs.CallOutlines.{parts_payload}
use Rattle.nr_reduce.specs.Plans.{argument_offer}
use Rattle.nr_reduce.proofs.Places.{write_offer_by}
use Rattle.nr_reduce.proofs.parts.write_offer_of.Goals as goal

pub returns : goal.returns
returns c =
    c.argument_offer.ensures
    ∙ ap (λ (r : Cursor). argument_offer c.args.parts.target.prog c.args.parts.target.vers c.args.parts.target.proc r) c.arguments.ensures
    ∙ write_offer_by (parts_payload c.args.parts) (Some c.args.parts.target) (sym c.requires.0)
