use Rattle.std.proofs.Common.{List, ℕ, ap, ◌∙◌, refl}
use Rattle.nr_tree.specs.Bytes.{with_length}
use Rattle.nr_tree.proofs.FileLemmas.{sized}
use Rattle.nr_tree.proofs.file.File.set_len.Goals as goal

pub returns-then-self-len : goal.returns-then-self-len
returns-then-self-len c =
    sized c.self.inside.pages.entries c.self.inside.pages.entries c.self.inside.len c.args.len c.self.invariant (λ i lt. refl) ∙ ap (λ (b : List ℕ). with_length b c.args.len) c.self.view_is

pub returns : goal.returns
returns c =
    sized c.self.inside.pages.entries c.cut_pages.new.pages.entries c.self.inside.len c.args.len c.self.invariant c.cut_pages.ensures.below ∙ ap (λ (b : List ℕ). with_length b c.args.len) c.self.view_is
