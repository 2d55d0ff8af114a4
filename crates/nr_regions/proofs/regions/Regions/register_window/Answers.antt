use Rattle.nr_regions.specs.RegisteredMemory.{window_bytes}
use Rattle.nr_regions.proofs.Holding.{held_register, keeps_register}
use Rattle.nr_regions.proofs.regions.Regions.register_window.Goals as goal

pub returns-clause-held : goal.returns-clause-held
returns-clause-held c =
    held_register c.register_inner.result c.args.self.now.memory c.register_inner.new.self.memory c.args.right (window_bytes c.args.start c.args.len c.args.buf) c.register_inner.ensures.ok

pub returns-clause-keeps : goal.returns-clause-keeps
returns-clause-keeps c =
    keeps_register c.register_inner.result c.args.self.now.memory c.register_inner.new.self.memory c.args.right (window_bytes c.args.start c.args.len c.args.buf) c.register_inner.ensures.ok c.register_inner.ensures.err
