use Rattle.std.proofs.Common.{◌≡◌, length, ap, arith}
use Rattle.nr_regions.specs.RegisteredMemory.{window_bytes}
use Rattle.nr_regions.specs.Windows.{BufferParts}
use Rattle.nr_regions.proofs.Parts.{length_window}
use Rattle.nr_regions.proofs.window.Window.overwrite.Goals as goal

pub overflow_add-self-inside : goal.overflow_add-self-inside
overflow_add-self-inside c =
    let seen : length (window_bytes c.self.inside.start c.self.inside.len c.self.inside.buf) ≡ length c.args.self.now.bytes = ap (λ (w : BufferParts). length w.bytes) c.self.view_is in
    omega (arith, c.requires, seen, length_window c.self.inside.start c.self.inside.len c.self.inside.buf c.self.invariant, c.self.invariant, c.len-total.ensures, c.len-total.type_inv)
