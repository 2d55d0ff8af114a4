use Rattle.std.proofs.Common.{ap, sym, ◌∙◌, length}
use Rattle.nr_tree.proofs.FileLemmas.{bytes_length}
use Rattle.nr_tree.proofs.file.File.len.Goals as goal

pub returns : goal.returns
returns c = sym (bytes_length c.self.inside.pages.entries c.self.inside.len) ∙ ap length c.self.view_is
