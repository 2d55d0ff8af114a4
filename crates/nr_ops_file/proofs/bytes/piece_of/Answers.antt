use Rattle.std.proofs.Common.{ℕ, take, ap, ◌∙◌}
use Rattle.std.proofs.lemmas.List.{take_min}
use Rattle.nr_nfs_base.specs.Limits.{transfer_max}
use Rattle.nr_ops_file.proofs.bytes.piece_of.Goals as goal

pub returns-clause-value : goal.returns-clause-value
returns-clause-value c = c.split_at.ensures.front ∙ ap (λ (n : ℕ). take n c.args.bytes.now) c.min.ensures ∙ take_min transfer_max c.args.bytes.now
