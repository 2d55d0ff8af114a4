use Rattle.std.proofs.Common.{◌≡◌, ℕ, ◌+◌, ◌-◌, ◌≤◌, List, ◌++◌, length, take, drop, arith, ap, ap₂, subst, ◌∙◌}
use Rattle.std.specs.Io.KnownBytes.{Appends}
use Rattle.std.proofs.Math.Seq.{take-add}
use Rattle.std.proofs.lemmas.List.{length-drop, take_rest}
use Rattle.std.proofs.KnownBytes.{Appends-trans}
use Rattle.nr_outside.proofs.Pieces.{drop-both}
use Rattle.nr_outside.proofs.whole.write_whole_vectored.Goals as goal

pub loop-at-preserved : goal.loop-at-preserved
loop-at-preserved g c =
    let (within, taken, same) = c.loop-at.invariant in
    let at = c.loop-at.at in
    let n = c.in_ok-at.field-0 in
    let head = c.args.head.now in
    let body = c.args.body.now in
    let all : List ℕ = head ++ body in
    let of_head : ℕ = c.min-of_head.result in
    let pieces : List ℕ = take (length head - of_head) (drop of_head head) ++ take (length body - (at - of_head)) (drop (at - of_head) body) in
    let rest : pieces ≡ drop at all =
    ap₂ (λ (l r : List ℕ). l ++ r) (take_rest head of_head) (take_rest body (at - of_head))
    ∙ ap (λ (k : ℕ). drop k head ++ drop (at - k) body) c.min-of_head.ensures
    ∙ drop-both head body at in
    let write = c.in_ok-at.ensures in
    let bound : n ≤ length (drop at all) = subst (λ (l : List ℕ). n ≤ length l) rest write.bound in
    let took : Appends (g.K.Sink.taken c.loop-at.sink) (g.K.Sink.taken c.write_vectored.new.self) (take n (drop at all)) =
    subst (λ (l : List ℕ). Appends (g.K.Sink.taken c.loop-at.sink) (g.K.Sink.taken c.write_vectored.new.self) (take n l)) rest write.took in
    let fits : at + n ≤ length all = omega (arith, within, bound, length-drop at all) in (
      fits,
      rw (take-add at n all) (Appends-trans _ _ _ (take at all) (take n (drop at all)) taken took),
      write.counted ∙ same,
    )
