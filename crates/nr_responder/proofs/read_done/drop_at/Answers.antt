use Rattle.std.proofs.Common.{List, map, sym, ap, ◌∙◌}
use Rattle.nr_responder.specs.declared.call.ReadEntry.{ReadEntry}
use Rattle.nr_responder.specs.Views.{read_view}
use Rattle.nr_responder.proofs.DroppedReads.{drops_there, left_from, stays_there}
use Rattle.nr_responder.proofs.read_done.drop_at.Goals as goal

pub returns-then-index-number-clause-left : goal.returns-then-index-number-clause-left
returns-then-index-number-clause-left c = stays_there c.args.number c.args.reads.now.items c.args.at c.index.result.now c.requires.at (λ e. c.if-index-number.true (ap (λ (r : ReadEntry). r.number) c.index.ensures ∙ e))

pub returns-clause-left : goal.returns-clause-left
returns-clause-left c =
    ap (λ (rs : List ReadEntry). left_from c.args.number c.args.at (map read_view rs)) c.remove.ensures.items
    ∙ drops_there c.args.number c.args.reads.now.items c.args.at c.index.result.now c.requires.at (sym (ap (λ (r : ReadEntry). r.number) c.index.ensures) ∙ c.if-index-number.false)
