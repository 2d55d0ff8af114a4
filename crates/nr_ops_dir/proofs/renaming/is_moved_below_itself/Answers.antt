use Rattle.std.proofs.Common.{◌≡◌, Bool, true, ◌&&◌, ap, sym, ◌∙◌}
use Rattle.nr_ops_dir.proofs.renaming.is_moved_below_itself.Goals as goal

both : (a b x : Bool) → a ≡ true → x ≡ b → x ≡ a && b
both a b x is same = same ∙ sym (ap (λ (y : Bool). y && b) is)

pub returns-then-is_dir_at : goal.returns-then-is_dir_at
returns-then-is_dir_at c = both _ _ _ (sym c.is_dir_at.ensures ∙ c.if-is_dir_at.true) c.is_within.ensures.walk
