-- Output that is due is written before more of the server's stream is fed, and in full. Bytes move until an end, and are fed while calls are
-- outstanding.
use Rattle.std.specs.Prelude.{◌≡◌, ◌≢◌, ⊤, ℕ, ◌+◌, ◌-◌, ◌<◌, Bool, true, false, List, [], ◌∷◌, ◌++◌, Option, None, Some, is_some}
use Rattle.nr_wire.specs.declared.hello.Side.TheVariants.{Initiator}
use Rattle.nr_reduce.specs.declared.mark.LinkParameters.{LinkParameters}
use Rattle.nr_reduce.specs.ClientState.{stag_after}
use Rattle.nr_reduce.specs.Limits.{numbers_end}
use Rattle.nr_reduce.specs.Reopening.{reopened}
use Rattle.nr_reduce.specs.Run.{HasWritten, client}
use Rattle.nr_reduce.specs.SubmitAnswer.{calls_counted}
use Rattle.nr_shared.specs.declared.entry.Stop.{Stop}
use Rattle.nr_shared.specs.declared.entry.Stop.TheVariants as causes
use Rattle.nr_shared.specs.declared.entry.Entry.{Entry}
use Rattle.nr_shared.specs.declared.entry.Entry.TheVariants as entries
use Rattle.nr_shared.specs.Histories.{has_write_failed, is_lost, rejoins, sink_of, stop_of, tries_of}
use Rattle.nr_shared.specs.LinkRuns.{OnLink}

-- All output that is due by this history over the link at hand is written, unless a write failed, memory ran out, or a dial failed, so that there is no link.
abbrev pub HasWrittenOutput : List Entry → Type 0
HasWrittenOutput history = has_write_failed history ≡ false → stop_of history ≢ Some causes.Memory → is_some (sink_of history) ≡ true → OnLink 0 history (λ opened link run. HasWritten opened link Initiator run)

-- a piece of the server's stream that was fed since the initial state
abbrev pub is_piece : Entry → Bool
is_piece (entries.Fed bytes previous) = true
is_piece (entries.OutOfMemory piece previous) = true
is_piece entry = false

-- Each such piece was fed after all output was written that was due by then.
abbrev pub OutputBeforeInput : List Entry → Type 0
OutputBeforeInput history = (before later : List Entry) (e : Entry) → history ≡ before ++ e ∷ later → is_piece e ≡ true → HasWrittenOutput before

-- whether the next entry is that a write failed
abbrev pub write_failed : Entry → Bool
write_failed entries.WriteFailed = true
write_failed entry = false

abbrev pub fails_next : List Entry → Bool
fails_next [] = false
fails_next (e ∷ later) = write_failed e

-- After each Wrote all output is written that is due by then, unless its write failed.
abbrev pub WritesInFull : List Entry → Type 0
WritesInFull history = (before later : List Entry) (bytes : List ℕ) → history ≡ before ++ entries.Wrote bytes ∷ later → fails_next later ≡ false →
    HasWrittenOutput (before ++ entries.Wrote bytes ∷ [])

-- By the run of this history a call is outstanding, or waits to be sent again.
abbrev pub IsCallOutstanding : List Entry → Type 0
IsCallOutstanding history = OnLink 0 history (λ opened link run. 0 < calls_counted (client opened link run).state)

-- Bytes are fed only while there is no cause for which no more are, and a call is outstanding.
abbrev pub MayFeed : List Entry → Type 0
MayFeed before = (stop_of before ≡ None) × IsCallOutstanding before

-- how often it was left is less than how often that may be
abbrev pub IsTryLeft : Option ℕ → (left : ℕ) → Type 0
IsTryLeft None left = ⊥
IsTryLeft (Some tries) left = left < tries

-- A lost link is left only while it may be dialled again, its client hasn't ended, and a call is outstanding.
pub record MayRejoin (before : List Entry) : Type 0 where
  pub lost : is_lost before ≡ true
  pub live : OnLink 0 before (λ opened link run. (client opened link run).ended ≡ None)
  pub try_left : IsTryLeft (tries_of before) (rejoins before)
  pub outstanding : IsCallOutstanding before

-- So many STags are left from this one on, and these calls need so many that are sent again.
abbrev pub LeavesStags : (left need : ℕ) → LinkParameters → Type 0
LeavesStags left need next = (left ≡ numbers_end - next.first_stag) × (stag_after next.first_stag next.resumed ≡ next.first_stag + need)

-- The client of the run is left with fewer STags than its calls need that are sent again.
abbrev pub SpendsStags : (left need : ℕ) → List Entry → Type 0
SpendsStags left need before = (left < need) × OnLink 0 before (λ opened link run. LeavesStags left need (reopened opened link run))

-- No more is fed over the link at hand: since a read failed, its stream ended, or the maximum was read, while more may be fed; or since a lost link can't be left.
abbrev pub MayStop : Stop → List Entry → Type 0
MayStop (causes.Spent left need) before = MayRejoin before × SpendsStags left need before
MayStop causes.NotReopened before = MayRejoin before
MayStop causes.Memory before = ⊥
MayStop causes.DialFault before = ⊥
MayStop cause before = MayFeed before

-- This entry may follow these: no bytes are written after a write failed, or a dial, and none are fed but as said.
abbrev pub MayFollow : (before : List Entry) → Entry → Type 0
MayFollow before (entries.Wrote bytes) = (has_write_failed before ≡ false) × (is_some (sink_of before) ≡ true)
MayFollow before entries.WriteFailed = has_write_failed before ≡ false
MayFollow before (entries.Fed bytes previous) = MayFeed before
MayFollow before (entries.OutOfMemory piece previous) = MayFeed before
MayFollow before (entries.Stopped cause previous) = MayStop cause before
MayFollow before (entries.Rejoin sink previous) = MayRejoin before
MayFollow before entry = ⊤

-- so may each of the history
abbrev pub EntriesMayFollow : List Entry → Type 0
EntriesMayFollow history = (before later : List Entry) (e : Entry) → history ≡ before ++ e ∷ later → MayFollow before e
