use Rattle.std.proofs.Common.{◌++◌, sym, ap, ◌∙◌, arith, Some}
use Rattle.nr_xdr.specs.Reading.{Cursor}
use Rattle.nr_reduce.specs.declared.item.Of.TheVariants.{Call}
use Rattle.nr_reduce.specs.Items.{argument_item}
use Rattle.nr_reduce.proofs.CallForms.{joined_bytes}
use Rattle.nr_reduce.proofs.Places.{call_item_by, item_inside}
use Rattle.nr_reduce.proofs.parts.item_in.Goals as goal

pub returns-clause-exact : goal.returns-clause-exact
returns-clause-exact c =
    c.argument_item.ensures
    ∙ ap (λ (r : Cursor). argument_item c.args.target.prog c.args.target.vers c.args.target.proc r) c.arguments.ensures
    ∙ call_item_by (c.args.head.now ++ c.args.args.now) (Some c.args.target) (sym c.requires.call)

pub returns-clause-inside : goal.returns-clause-inside
returns-clause-inside c =
    item_inside Call (c.args.head.now ++ c.args.args.now) c.argument_item.result
    (joined_bytes c.args.head.now c.args.args.now (λ i. omega (arith, c.type_inv.head i)) (λ i. omega (arith, c.type_inv.args i)))
    (c.argument_item.ensures
    ∙ ap (λ (r : Cursor). argument_item c.args.target.prog c.args.target.vers c.args.target.proc r) c.arguments.ensures
    ∙ call_item_by (c.args.head.now ++ c.args.args.now) (Some c.args.target) (sym c.requires.call))
