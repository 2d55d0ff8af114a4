-- A link that was never left: its source gave all bytes that were fed, and its sink took all that were written.
use Rattle.std.proofs.Common.{◌≡◌, ℕ, suc, ◌≤◌, arith, Bool, List, [], ◌∷◌, ◌++◌, length, Option, None, Some, refl, sym, ap, subst, ◌∙◌, append_assoc, append-nil}
use Rattle.std.specs.Io.KnownBytes.{Appends}
use Rattle.std.proofs.lemmas.Option.{none-some}
use Rattle.nr_outside.specs.Content.{HandsOut}
use Rattle.nr_laws.proofs.Basics.{some_is_lem}
use Rattle.nr_shared.specs.declared.entry.Entry.{Entry}
use Rattle.nr_shared.specs.declared.entry.Entry.TheVariants as entries
use Rattle.nr_shared.specs.declared.entry.InitialSink.{InitialSink}
use Rattle.nr_shared.specs.declared.entry.InitialState.{InitialState}
use Rattle.nr_shared.specs.Chains.{ChainedFrom}
use Rattle.nr_shared.specs.Feeding.{InitialGiving, IsFirstGiving, KeepsSource, shared_giving}
use Rattle.nr_shared.specs.Histories.{FeedsInOrder, PastLink, PresentLink, bytes_fed, bytes_written, closes_of, initial_of, is_feeding, no_link, present, present_after, present_from, rejoins, sink_of}
use Rattle.nr_shared.specs.Opening.{GivesLink}
use Rattle.nr_shared.specs.Standing.{KeepsSink}
use Rattle.nr_shared.proofs.Histories.{from_grows}

-- these entries move bytes over the link at hand, and it stays
record MovesOver (p : PresentLink) (es : List Entry) : Type 0 where
  sink : (present_from p es).sink ≡ p.sink
  written : (present_from p es).written ≡ p.written ++ bytes_written es
  fed : (present_from p es).fed ≡ p.fed ++ bytes_fed es
  left : (present_from p es).left ≡ p.left

over_more : (n k : ℕ) (p : PresentLink) (es : List Entry) → ChainedFrom closes_of is_feeding n (Some k) es → length (present_from p es).left ≡ length p.left → MovesOver p es
over_more n k p [] chain same = record { sink = refl; written = sym (append-nil p.written); fed = sym (append-nil p.fed); left = refl }
over_more n k p (entries.Initial initial ∷ es) chain same = absurd (none-some k (chain.0 refl))
over_more n k p (entries.Submit call form xid ∷ es) chain same = let r = over_more (suc n) k p es chain.1 same in record { sink = r.sink; written = r.written; fed = r.fed; left = r.left }
over_more n k p (entries.Wrote bytes ∷ es) chain same =
    let r = over_more (suc n) k (present_after p (entries.Wrote bytes)) es chain.1 same in
    record { sink = r.sink; written = r.written ∙ append_assoc p.written bytes (bytes_written es); fed = r.fed; left = r.left }
over_more n k p (entries.Fed bytes previous ∷ es) chain same =
    let r = over_more (suc n) n (present_after p (entries.Fed bytes previous)) es chain.1 same in
    record { sink = r.sink; written = r.written; fed = r.fed ∙ append_assoc p.fed bytes (bytes_fed es); left = r.left }
over_more n k p (entries.Done xid outcome submit ∷ es) chain same = let r = over_more (suc n) k p es chain.1 same in record { sink = r.sink; written = r.written; fed = r.fed; left = r.left }
over_more n k p (entries.Lost xid submit ∷ es) chain same = let r = over_more (suc n) k p es chain.1 same in record { sink = r.sink; written = r.written; fed = r.fed; left = r.left }
over_more n k p (entries.Forget xid submit ∷ es) chain same = let r = over_more (suc n) k p es chain.1 same in record { sink = r.sink; written = r.written; fed = r.fed; left = r.left }
over_more n k p (entries.Revoke xid bytes submit ∷ es) chain same = let r = over_more (suc n) k p es chain.1 same in record { sink = r.sink; written = r.written; fed = r.fed; left = r.left }
over_more n k p (entries.WriteFailed ∷ es) chain same =
    let r = over_more (suc n) k (present_after p entries.WriteFailed) es chain.1 same in record { sink = r.sink; written = r.written; fed = r.fed; left = r.left }
over_more n k p (entries.Stopped cause previous ∷ es) chain same =
    let r = over_more (suc n) n (present_after p (entries.Stopped cause previous)) es chain.1 same in record { sink = r.sink; written = r.written; fed = r.fed; left = r.left }
over_more n k p (entries.OutOfMemory piece previous ∷ es) chain same =
    let r = over_more (suc n) n (present_after p (entries.OutOfMemory piece previous)) es chain.1 same in
    record { sink = r.sink; written = r.written; fed = r.fed ∙ append_assoc p.fed piece (bytes_fed es); left = r.left }
over_more n k p (entries.Rejoin sink previous ∷ es) chain same = let grows = from_grows (present_after p (entries.Rejoin sink previous)) es in absurd (too_few grows same) where
  too_few : suc (length p.left) ≤ length (present_from (present_after p (entries.Rejoin sink previous)) es).left → length (present_from (present_after p (entries.Rejoin sink previous)) es).left ≡ length p.left → ⊥
  too_few le is = omega (arith, le, is)

-- the link at hand of a complete history
record IsOver (initial : InitialState) (history : List Entry) : Type 0 where
  sink : sink_of history ≡ Some initial.sink
  written : (present history).written ≡ bytes_written history
  fed : (present history).fed ≡ bytes_fed history
  left : (present history).left ≡ []

is_over : (history : List Entry) (initial : InitialState) → initial_of history ≡ Some initial → FeedsInOrder history → rejoins history ≡ 0 → IsOver initial history
is_over [] initial is chain none = absurd (none-some initial is)
is_over (entries.Initial first ∷ es) initial is chain none =
    let r = over_more 1 0 (present_after no_link (entries.Initial first)) es chain.1 none in
    record { sink = r.sink ∙ ap (λ (i : InitialState). Some i.sink) (some_is_lem first initial is); written = r.written; fed = r.fed; left = r.left }
is_over (entries.Submit call form xid ∷ es) initial is chain none = absurd (none-some initial is)
is_over (entries.Wrote bytes ∷ es) initial is chain none = absurd (none-some initial is)
is_over (entries.Fed bytes previous ∷ es) initial is chain none = absurd (none-some initial is)
is_over (entries.Done xid outcome submit ∷ es) initial is chain none = absurd (none-some initial is)
is_over (entries.Lost xid submit ∷ es) initial is chain none = absurd (none-some initial is)
is_over (entries.Forget xid submit ∷ es) initial is chain none = absurd (none-some initial is)
is_over (entries.Revoke xid bytes submit ∷ es) initial is chain none = absurd (none-some initial is)
is_over (entries.WriteFailed ∷ es) initial is chain none = absurd (none-some initial is)
is_over (entries.Stopped cause previous ∷ es) initial is chain none = absurd (none-some initial is)
is_over (entries.OutOfMemory piece previous ∷ es) initial is chain none = absurd (none-some initial is)
is_over (entries.Rejoin sink previous ∷ es) initial is chain none = absurd (none-some initial is)

-- What the source gave, from what it had at first, and what the sink took since.
pub record MovedOver {I O : Type 0} (left given : I → Option (List ℕ)) (taken : O → Option (List ℕ)) (first source : I) (sink : O) (initial : InitialState) (history : List Entry) : Type 0 where
  pub gave : HandsOut (left first) (given first) (left source) (given source) (bytes_fed history)
  pub took : Appends initial.sink.taken (taken sink) (bytes_written history)

-- the source is the one that was shared
same_giving : (told : Bool) (shared first : InitialGiving) (past : List PastLink) (sink : InitialSink) → past ≡ [] → IsFirstGiving told shared past sink first → first ≡ shared
same_giving told shared first [] sink none is = is
same_giving told shared first (p ∷ past) sink none is = absurd cc

module _ {I O : Type 0} (source_link : I → ℕ) (left given : I → Option (List ℕ)) (source_faults : I → ℕ) (sink_link : O → ℕ) (taken : O → Option (List ℕ)) (sink_faults : O → ℕ) where
  both_moved : (numbered told : Bool) (first : I) (read : ℕ) (source : I) (sink : O) (history : List Entry) (initial : InitialState) → IsOver initial history
      → KeepsSink sink_link taken sink_faults sink initial.sink (present history)
      → KeepsSource source_link left given source_faults numbered told (shared_giving left given source_faults first) source initial.sink read (present history)
      → MovedOver left given taken first source sink initial history
  both_moved numbered told first read source sink history initial over kept gives =
      let same = same_giving told (shared_giving left given source_faults first) gives.first (present history).left initial.sink over.left gives.is_first in
      record {
        gave = subst (λ (l : List ℕ). HandsOut (left first) (given first) (left source) (given source) l) over.fed
            (subst (λ (g : InitialGiving). HandsOut g.left g.given (left source) (given source) (present history).fed) same gives.gave);
        took = subst (λ (l : List ℕ). Appends initial.sink.taken (taken sink) l) over.written kept.took;
      }

  pub moved_over_one : (numbered told : Bool) (first : I) (read : ℕ) (source : I) (sink : O) (history : List Entry) (initial : InitialState) → initial_of history ≡ Some initial → FeedsInOrder history → rejoins history ≡ 0
      → GivesLink source_link left given source_faults sink_link taken sink_faults numbered told (shared_giving left given source_faults first) read (Some (source, sink)) (sink_of history) history
      → MovedOver left given taken first source sink initial history
  moved_over_one numbered told first read source sink history initial is chain none back =
      let over = is_over history initial is chain none in
      let (kept, gives) = subst (λ (i : Option InitialSink). GivesLink source_link left given source_faults sink_link taken sink_faults numbered told (shared_giving left given source_faults first) read (Some (source, sink)) i history) over.sink back in
      both_moved numbered told first read source sink history initial over kept gives
