use Rattle.std.proofs.Common.{[], refl, None}
use Rattle.nr_reduce.specs.declared.mark.LinkParameters.{LinkParameters}
use Rattle.nr_responder.proofs.responder.Responder.open_sized.Goals as goal
use Rattle.nr_link.specs.Agreement.{default_terms, terms_with}

pub invariant_of-result : goal.invariant_of-result
invariant_of-result c =
    let opened : LinkParameters = record { first_xid = 0; first_stag = 1; wished = 0; granted = c.args.credits; low = c.args.low; receives = c.args.credits; client = default_terms; server = terms_with c.args.units c.args.invalidates; resumed = []; agreed = None } in
    ((c.in_ok-open.ensures.sound, c.in_ok-open.ensures.windows), ((opened, (0, ([], c.in_ok-open.ensures.stands opened 0 (refl, refl, refl, refl)))), (c.in_ok-open.ensures.bounded, c.in_ok-open.ensures.staging)))
