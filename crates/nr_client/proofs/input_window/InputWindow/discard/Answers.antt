use Rattle.std.proofs.Common.{◌≡◌, ℕ, ◌+◌, ◌-◌, List, length, take, drop, ap, ◌∙◌, arith}
use Rattle.std.proofs.lemmas.List.{length-take}
use Rattle.std.specs.List.{copy_within}
use Rattle.nr_client.specs.private.InputWindows.{WindowState}
use Rattle.nr_client.proofs.InputWindows.{front_moved}
use Rattle.nr_client.proofs.input_window.InputWindow.discard.Goals as goal

pub returns : goal.returns
returns c =
    let room : List ℕ = c.self.inside.room.items in
    let left : ℕ = c.self.inside.len - c.args.count in
    let kept : take c.self.inside.len room ≡ c.args.self.now.kept = ap (λ (w : WindowState). w.kept) c.self.view_is in
    let ended : c.self.inside.ended ≡ c.args.self.now.ended = ap (λ (w : WindowState). w.ended) c.self.view_is in
    let len : length (take c.self.inside.len room) ≡ length c.args.self.now.kept = ap (λ (l : List ℕ). length l) kept in
    let all : c.args.count + left ≡ c.self.inside.len = omega (arith, length-take c.self.inside.len room) in
    let moved : c.copy_within.new.self.items ≡ copy_within room c.args.count (c.args.count + left) 0 = c.copy_within.ensures.items in
    let front : take left c.copy_within.new.self.items ≡ drop c.args.count c.args.self.now.kept =
    ap (take left) moved ∙ front_moved c.args.count left room (omega (arith, c.self.invariant)) ∙ ap (λ (n : ℕ). drop c.args.count (take n room)) all ∙ ap (drop c.args.count) kept in
    λ i. record { kept = front i; ended = ended i }
