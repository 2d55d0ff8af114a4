use Rattle.std.proofs.Common.{List, ℕ, ap, ◌∙◌}
use Rattle.nr_tree.specs.Bytes.{with_bytes_at}
use Rattle.nr_tree.proofs.FileLemmas.{written}
use Rattle.nr_tree.proofs.file.File.write.Goals as goal

pub returns-clause-ok : goal.returns-clause-ok
returns-clause-ok c =
    written c.self.inside.pages.entries c.write_pages.new.pages.entries c.self.inside.len c.max-self-inside.result c.args.offset c.args.bytes.now c.self.invariant c.in_ok-write_pages.ensures.ok
    c.max-self-inside.ensures ∙ ap (λ (b : List ℕ). with_bytes_at b c.args.offset c.args.bytes.now) c.self.view_is
