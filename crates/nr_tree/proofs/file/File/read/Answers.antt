use Rattle.std.proofs.Common.{List, ℕ, ◌-◌, ◌%◌, take, drop, ap, ◌∙◌, arith}
use Rattle.nr_tree.specs.Pages.{page_size}
use Rattle.nr_tree.proofs.FileLemmas.{drawn, drawn_none}
use Rattle.nr_tree.proofs.file.File.read.Goals as goal

pub returns-then-self-offset : goal.returns-then-self-offset
returns-then-self-offset c =
    drawn_none c.self.inside.pages.entries c.self.inside.len c.args.offset (page_size - c.args.offset % page_size) c.args.count c.if-self-offset.true
    ∙ ap (λ (b : List ℕ). take c.args.count (take (page_size - c.args.offset % page_size) (drop c.args.offset b))) c.self.view_is

pub returns : goal.returns
returns c =
    drawn c.self.inside.pages.entries c.self.inside.len c.args.offset (page_size - c.args.offset % page_size) c.args.count _ c.part_of_page.result.now (omega arith) c.part_of_page.ensures.len c.part_of_page.ensures.bytes
    ∙ ap (λ (b : List ℕ). take c.args.count (take (page_size - c.args.offset % page_size) (drop c.args.offset b))) c.self.view_is
