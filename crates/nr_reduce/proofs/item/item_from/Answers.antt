use Rattle.std.proofs.Common.{sym, ap, ◌∙◌, arith, Some, None}
use Rattle.nr_xdr.specs.Reading.{Cursor}
use Rattle.nr_reduce.specs.declared.item.Of.TheVariants.{Reply}
use Rattle.nr_reduce.specs.Items.{result_item}
use Rattle.nr_reduce.proofs.Places.{results_behind, reply_item_by, item_inside}
use Rattle.nr_reduce.proofs.item.item_from.Goals as goal

pub reader_at-results-requires-clause-inside : goal.reader_at-results-requires-clause-inside
reader_at-results-requires-clause-inside c =
    (results_behind c.args.payload.now c.in-Some.at (λ i. omega (arith, c.type_inv.payload i)) (sym c.requires ∙ c.in-Some.is)).inside

pub reader_at-results-requires-clause-words : goal.reader_at-results-requires-clause-words
reader_at-results-requires-clause-words c =
    (results_behind c.args.payload.now c.in-Some.at (λ i. omega (arith, c.type_inv.payload i)) (sym c.requires ∙ c.in-Some.is)).words

pub returns-in-Some-clause-exact : goal.returns-in-Some-clause-exact
returns-in-Some-clause-exact c =
    c.result_item.ensures
    ∙ ap (λ (r : Cursor). result_item c.args.prog c.args.vers c.args.proc r) c.reader_at-results.ensures
    ∙ reply_item_by c.args.prog c.args.vers c.args.proc c.args.payload.now (Some c.in-Some.at) (sym c.in-Some.is ∙ c.requires)

pub returns-in-Some-clause-inside : goal.returns-in-Some-clause-inside
returns-in-Some-clause-inside c =
    item_inside (Reply c.args.prog c.args.vers c.args.proc) c.args.payload.now c.result_item.result (λ i. omega (arith, c.type_inv.payload i))
    (c.result_item.ensures
    ∙ ap (λ (r : Cursor). result_item c.args.prog c.args.vers c.args.proc r) c.reader_at-results.ensures
    ∙ reply_item_by c.args.prog c.args.vers c.args.proc c.args.payload.now (Some c.in-Some.at) (sym c.in-Some.is ∙ c.requires))

pub returns-in-None-clause-exact : goal.returns-in-None-clause-exact
returns-in-None-clause-exact c = reply_item_by c.args.prog c.args.vers c.args.proc c.args.payload.now None (sym c.in-None.is ∙ c.requires)
