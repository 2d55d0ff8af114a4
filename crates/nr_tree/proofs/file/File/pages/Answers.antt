use Rattle.std.proofs.Common.{ap, ◌∙◌}
use Rattle.nr_tree.specs.Pages.{pages_of}
use Rattle.nr_tree.proofs.PageCount.{pages_counted}
use Rattle.nr_tree.proofs.file.File.pages.Goals as goal

pub returns : goal.returns
returns c = c.len.ensures.len ∙ pages_counted c.self.inside.pages.entries c.self.inside.len c.self.invariant c.len.ensures.ordered ∙ ap pages_of c.self.view_is
