-- An execution in a draft.
use Rattle.std.proofs.Common.{◌≡◌, ℕ, ◌-◌, Bool, List, ◌++◌, length, Option, None, Some, ◌∙◌}
use Rattle.std.specs.Prelude.{◌==◌, slice_get, slice_set, MatchOption}
use Rattle.nr_outside.specs.declared.moment.Moment.{Moment}
use Rattle.nr_drill.specs.declared.call_table.CallTable.{CallTable}
use Rattle.nr_drill.specs.declared.draft.Draft.{Draft}
use Rattle.nr_drill.specs.private.Drafts.{AddsPlace, Executed, entries_if}

-- its place is noted, and then its entry
pub executes : (client link xid place : ℕ) (moment : Moment) (payload reply : List ℕ) (old mid new : Draft) (is_new : Bool) → is_new ≡ (place == length old.journal.items)
    → MatchOption (slice_get old.tables.items (client - 1)) (Unit {0})
    (λ table. (changed : CallTable) × AddsPlace xid (record { link = link; place = place }) table changed × (mid.tables.items ≡ slice_set old.tables.items (client - 1) changed))
    → mid.calls.items ≡ old.calls.items → mid.journal.items ≡ old.journal.items
    → new.journal.items ≡ mid.journal.items ++ entries_if is_new moment payload reply → new.tables.items ≡ mid.tables.items → new.calls.items ≡ mid.calls.items
    → MatchOption (slice_get old.tables.items (client - 1)) (Unit {0}) (Executed client link xid place moment payload reply old new)
executes client link xid place moment payload reply old mid new is_new is h calls journal entries tables same = by (slice_get old.tables.items (client - 1)) h
  where
    by : (o : Option CallTable)
        → MatchOption o (Unit {0}) (λ table. (changed : CallTable) × AddsPlace xid (record { link = link; place = place }) table changed × (mid.tables.items ≡ slice_set old.tables.items (client - 1) changed))
        → MatchOption o (Unit {0}) (Executed client link xid place moment payload reply old new)
    by None h = tt
    by (Some table) h = record {
      changed = h.0;
      adds = h.1;
      tables = tables ∙ h.2;
      calls = same ∙ calls;
      journal = entries ∙ (λ i. journal i ++ entries_if (is i) moment payload reply);
    }
