use Rattle.std.proofs.Common.{◌≡◌, ℕ, ◌+◌, List, ◌++◌, length, None}
use Rattle.nr_record.specs.RecordsState.{kept, RepresentsStream, KeepsWaiting}
use Rattle.nr_record.proofs.records.Records.feed_inner.Given as goal

abbrev pub invariant-loop-rest : goal.invariant-loop-rest
invariant-loop-rest l =
    (done : List ℕ)
    × (l.piece ≡ done ++ l.rest)
    × (l.self.fault ≡ None)
    × (l.self.count + length l.rest ≡ l.initial.self.count + length l.piece)
    × ((stream : List ℕ) (taken : ℕ) → RepresentsStream (kept l.initial.self) stream taken → RepresentsStream (kept l.self) (stream ++ done) taken)
    × KeepsWaiting (kept l.initial.self) (kept l.self)

abbrev pub decreases-loop-rest : goal.decreases-loop-rest
decreases-loop-rest l = length l.rest
