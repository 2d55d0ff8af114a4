-- What a step of a record connection makes of the calls so far, whatever answers them.
use Rattle.std.specs.Prelude.{◌≡◌, ◌≢◌, ℕ, ◌≤◌, List, [], ◌++◌, length, take, Option, None}
use Rattle.std.specs.List.{AllByRecursion}
use Rattle.nr_links.specs.Limits.{read_max}
use Rattle.nr_record.specs.Records.{Cut, Fits, contents, encodings}
use Rattle.nr_record.specs.declared.fault.RecordFault.{RecordFault}
use Rattle.nr_record.specs.declared.fault.RecordFault.TheVariants as faults
use Rattle.nr_record.specs.RecordsState.{RecordsState, RepresentsStream}
use Rattle.nr_record_loop.specs.Connections.{Exchange, IsServedBy, Loop, REASON_CALL, ServesBy, Unanswered, calls, loop_at, written}
use Rattle.nr_record_loop.specs.declared.answering.Stop.{Stop}
use Rattle.nr_record_loop.specs.declared.answering.Stop.TheVariants as stops
use Rattle.nr_record_loop.specs.declared.loop_end.LoopEnd.{LoopEnd}
use Rattle.nr_record_loop.specs.declared.loop_end.LoopEnd.TheVariants as ends

-- these calls are the first records of the stream, and the reader gave no others
pub record HasRead (k : RecordsState) (stream : List ℕ) (xs : List Exchange) : Type 0 where
  pub stands : RepresentsStream k stream (length xs)
  pub done : List Cut
  pub fit : AllByRecursion Fits done
  pub calls_are : contents done ≡ calls xs
  pub back : List ℕ
  pub stream_is : stream ≡ encodings done ++ back

-- The connection was served so far. `ahead` was read, and not fed to the reader.
pub record IsLive {S : Type 0} (Did : S → S → List Exchange → Option Unanswered → Type 0) (before now : Loop S) (k : RecordsState) (stream ahead : List ℕ) : Type 0 where
  pub exchanges : List Exchange
  pub read : HasRead k stream exchanges
  pub serves : ServesBy Did before now (stream ++ ahead) exchanges None (written exchanges)

-- and each complete record was answered
pub record IsAnswered {S : Type 0} (Did : S → S → List Exchange → Option Unanswered → Type 0) (before now : Loop S) (k : RecordsState) (stream : List ℕ) : Type 0 where
  pub live : IsLive Did before now k stream []
  pub all : length live.exchanges ≡ length live.read.stands.cuts

-- a connection was served so far, and this many bytes were read of it
pub record CarriesTo {S : Type 0} (Did : S → S → List Exchange → Option Unanswered → Type 0) (before now : Loop S) (k : RecordsState) (read : ℕ) : Type 0 where
  pub stream : List ℕ
  pub answered : IsAnswered Did before now k stream
  pub count : length stream ≡ read

module _ {S : Type 0} (Did : S → S → List Exchange → Option Unanswered → Type 0) where
  -- a step that reads nothing goes on from any calls to some more
  abbrev pub AnswersOn : (k k' : RecordsState) (taken taken' : Option (List ℕ)) (u u' : S) → Type 0
  AnswersOn k k' taken taken' u u' =
      (before : Loop S) (left given : Option (List ℕ)) (stream : List ℕ) → IsLive Did before (loop_at left given taken u) k stream [] →
      IsLive Did before (loop_at left given taken' u') k' stream []

  -- until all complete records are answered
  abbrev pub AnswersAll : (k k' : RecordsState) (taken taken' : Option (List ℕ)) (u u' : S) → Type 0
  AnswersAll k k' taken taken' u u' =
      (before : Loop S) (left given : Option (List ℕ)) (stream : List ℕ) → IsLive Did before (loop_at left given taken u) k stream [] →
      IsAnswered Did before (loop_at left given taken' u') k' stream

  -- or it ends the connection
  abbrev pub AnswerEnds : LoopEnd → (k : RecordsState) (taken taken' : Option (List ℕ)) (u u' : S) → Type 0
  AnswerEnds end k taken taken' u u' =
      (before : Loop S) (left given : Option (List ℕ)) (stream : List ℕ) → length stream ≤ read_max → IsLive Did before (loop_at left given taken u) k stream [] →
      IsServedBy Did before (loop_at left given taken' u') end

  -- a piece is fed, and all complete records are answered
  abbrev pub TakesIn : (piece : List ℕ) (k k' : RecordsState) (taken taken' : Option (List ℕ)) (u u' : S) → Type 0
  TakesIn piece k k' taken taken' u u' =
      (before : Loop S) (left given : Option (List ℕ)) (stream : List ℕ) → IsLive Did before (loop_at left given taken u) k stream piece →
      IsAnswered Did before (loop_at left given taken' u') k' (stream ++ piece)

  abbrev pub PieceEnds : LoopEnd → (piece : List ℕ) (k : RecordsState) (taken taken' : Option (List ℕ)) (u u' : S) → Type 0
  PieceEnds end piece k taken taken' u u' =
      (before : Loop S) (left given : Option (List ℕ)) (stream : List ℕ) → length (stream ++ piece) ≤ read_max →
      IsLive Did before (loop_at left given taken u) k stream piece → IsServedBy Did before (loop_at left given taken' u') end

-- the end that a stop at a record makes, which begins at this offset
abbrev pub end_at : Stop → ℕ → LoopEnd
end_at stops.NotCall at = ends.Bad at REASON_CALL
end_at stops.LinkWrite at = ends.LinkWrite
end_at stops.Memory at = ends.Memory
end_at stops.Other at = ends.Unanswered

-- the end that a fault of the reader makes
abbrev pub end_at_fault : RecordFault → LoopEnd
end_at_fault (faults.Bad at reason) = ends.Bad at reason
end_at_fault faults.Memory = ends.Memory

-- the offset of the record that the reader gives next
abbrev pub IsPlace : RecordsState → ℕ → Type 0
IsPlace k at = (stream : List ℕ) (taken : ℕ) (s : RepresentsStream k stream taken) → at ≡ length (encodings (take taken s.cuts))

-- the client ended its stream after this many bytes, of which the complete records are the first `at`
abbrev pub EndsStream : LoopEnd → (read at : ℕ) → Type 0
EndsStream ends.Closed read at = read ≡ at
EndsStream (ends.Cut n) read at = (n ≡ read) × (read ≢ at)
EndsStream end read at = ⊥
