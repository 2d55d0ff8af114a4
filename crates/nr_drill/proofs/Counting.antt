-- Call lines are counted.
use Rattle.std.proofs.Common.{◌≡◌, ℕ, ◌+◌, ◌≤◌, ◌<◌, arith, Bool, true, false, List, length, take, get_or, sym, ◌∙◌}
use Rattle.std.specs.Prelude.{count_by}
use Rattle.std.proofs.lemmas.List.Sums.{count_by_more_yes, count_by_more_no}
use Rattle.nr_reduce.specs.declared.mark.Mark.{Mark}
use Rattle.nr_drill.specs.private.Drafts.{is_submit_of}

module _ (clients : List ℕ) (client i : ℕ) (all : List Mark) (d : Mark) (count new : ℕ) (test : Bool) (lt : i < length all) (is : test ≡ is_submit_of clients client (get_or all i d)) where
  pub counted : test ≡ true → new ≡ count + 1 → (count ≡ count_by (is_submit_of clients client) (take i all)) × (count ≤ i) → (new ≡ count_by (is_submit_of clients client) (take (i + 1) all)) × (new ≤ i + 1)
  counted passes more so_far =
      let step : count_by (is_submit_of clients client) (take (i + 1) all) ≡ count_by (is_submit_of clients client) (take i all) + 1 = count_by_more_yes (is_submit_of clients client) all i d lt (sym is ∙ passes) in
      (omega (arith, step), omega arith)

  pub not_counted : test ≡ false → new ≡ count → (count ≡ count_by (is_submit_of clients client) (take i all)) × (count ≤ i) → (new ≡ count_by (is_submit_of clients client) (take (i + 1) all)) × (new ≤ i + 1)
  not_counted fails same so_far =
      let step : count_by (is_submit_of clients client) (take (i + 1) all) ≡ count_by (is_submit_of clients client) (take i all) = count_by_more_no (is_submit_of clients client) all i d lt (sym is ∙ fails) in
      (omega (arith, step), omega arith)
