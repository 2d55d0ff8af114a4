use Rattle.std.proofs.Common.{◌++◌, ◌∷◌, [], ℕ, List, ap, ◌∙◌}
use Rattle.nr_tree.proofs.Joined.{pushed_all}
use Rattle.nr_tree.proofs.order.push_block.Goals as goal

pub returns-clause-ok : goal.returns-clause-ok
returns-clause-ok c =
    (pushed_all c.args.blocks.now.items c.push-2.new.self.items c.push.new.self c.args.index c.in_ok-push-2.ensures.items
    (c.in_ok-push.ensures.ok ∙ ap (λ (l : List ℕ). l ++ c.args.index ∷ []) c.new-block.ensures) c.requires.full c.requires.joined).0

pub returns-clause-joined : goal.returns-clause-joined
returns-clause-joined c =
    (pushed_all c.args.blocks.now.items c.push-2.new.self.items c.push.new.self c.args.index c.in_ok-push-2.ensures.items
    (c.in_ok-push.ensures.ok ∙ ap (λ (l : List ℕ). l ++ c.args.index ∷ []) c.new-block.ensures) c.requires.full c.requires.joined).1
