-- The sink at hand, by what the history tells of its link.
use Rattle.std.proofs.Common.{◌≡◌, ℕ, ◌≤◌, arith, Bool, true, false, List, ◌++◌, Option, Some, None, is_some, refl, sym, ap, subst, ◌∙◌}
use Rattle.std.specs.Io.KnownBytes.{Appends}
use Rattle.std.proofs.KnownBytes.{Appends-trans}
use Rattle.nr_outside.specs.Faults.{Rises}
use Rattle.nr_shared.specs.declared.entry.InitialSink.{InitialSink}
use Rattle.nr_shared.specs.Histories.{PresentLink}
use Rattle.nr_shared.specs.Standing.{KeepsSink, KeepsSinkIf, KeepsSinkOf}

module _ {O : Type 0} (link : O → ℕ) (taken : O → Option (List ℕ)) (faults : O → ℕ) where
  sink_by : (o : Option O) (i : Option InitialSink) (p q : PresentLink) → q.written ≡ p.written → q.write_failed ≡ p.write_failed → KeepsSinkIf link taken faults o i p → KeepsSinkIf link taken faults o i q
  sink_by (Some s) (Some i) p q written failed keeps = record {
    number = keeps.number;
    took = subst (Appends i.taken (taken s)) (sym written) keeps.took;
    never_falls = keeps.never_falls;
    failed = λ is. keeps.failed (sym failed ∙ is);
    counted = λ is. keeps.counted (sym failed ∙ is);
  }
  sink_by None None p q written failed keeps = tt
  sink_by (Some s) None p q written failed keeps = absurd keeps
  sink_by None (Some i) p q written failed keeps = absurd keeps

  -- nothing was written over the link
  pub sink_same : (o : Option O) (p q : PresentLink) → q.sink ≡ p.sink → q.written ≡ p.written → q.write_failed ≡ p.write_failed → KeepsSinkOf link taken faults o p → KeepsSinkOf link taken faults o q
  sink_same o p q sink written failed keeps = subst (λ (i : Option InitialSink). KeepsSinkIf link taken faults o i q) (sym sink) (sink_by o p.sink p q written failed keeps)

  -- the sink took these bytes
  pub sink_wrote : (s s' : O) (i : Option InitialSink) (p q : PresentLink) (bytes : List ℕ) → q.written ≡ p.written ++ bytes → link s' ≡ link s → Appends (taken s) (taken s') bytes → faults s ≤ faults s'
      → ((f : InitialSink) → KeepsSink link taken faults s f p → (q.write_failed ≡ true → Rises f.faults (faults s')) × (q.write_failed ≡ false → faults s' ≡ f.faults))
      → KeepsSinkIf link taken faults (Some s) i p → KeepsSinkIf link taken faults (Some s') i q
  sink_wrote s s' None p q bytes written number takes never counts keeps = absurd keeps
  sink_wrote s s' (Some i) p q bytes written number takes never counts keeps = record {
    number = number ∙ keeps.number;
    took = subst (Appends i.taken (taken s')) (sym written) (Appends-trans i.taken (taken s) (taken s') p.written bytes keeps.took takes);
    never_falls = (let f = keeps.never_falls in omega (arith, f, never));
    failed = (counts i keeps).0;
    counted = (counts i keeps).1;
  }

  -- there is a link
  pub some_sink : (o : Option O) (s : O) (i : Option InitialSink) (p : PresentLink) → o ≡ Some s → KeepsSinkIf link taken faults o i p → is_some i ≡ true
  some_sink (Some x) s (Some i) p is keeps = refl
  some_sink (Some x) s None p is keeps = absurd keeps
  some_sink None s i p is keeps = absurd cc
