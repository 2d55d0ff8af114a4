-- The history of a shared requester: which entries close which, and what it says of the link at hand.
use Rattle.std.specs.Prelude.{◌≡◌, ⊤, ℕ, Bool, true, false, ◌==◌, ◌||◌, is_some, if◌then◌else◌, List, [], ◌∷◌, ◌++◌, length, Option, None, Some}
use Rattle.std.specs.List.{flat_map}
use mathlib.Core.Option.{some}
use lib.ListN.{get_elem?}
use Rattle.nr_reduce.specs.declared.call.Call.{Call}
use Rattle.nr_reduce.specs.declared.call.Form.{Form}
use Rattle.nr_reduce.specs.declared.call.Outcome.{Outcome}
use Rattle.nr_shared.specs.declared.entry.Stop.{Stop}
use Rattle.nr_shared.specs.declared.entry.Stop.TheVariants as causes
use Rattle.nr_shared.specs.declared.entry.Entry.{Entry}
use Rattle.nr_shared.specs.declared.entry.Entry.TheVariants as entries
use Rattle.nr_shared.specs.declared.entry.InitialSink.{InitialSink}
use Rattle.nr_shared.specs.declared.entry.InitialState.{InitialState}
use Rattle.nr_shared.specs.Chains.{Chained, last_place}

-- ---- What an entry closes

abbrev pub closes_of : Entry → Option ℕ
closes_of (entries.Fed bytes previous) = Some previous
closes_of (entries.Stopped cause previous) = Some previous
closes_of (entries.Rejoin sink previous) = Some previous
closes_of (entries.OutOfMemory piece previous) = Some previous
closes_of (entries.Done xid outcome submit) = Some submit
closes_of (entries.Lost xid submit) = Some submit
closes_of (entries.Forget xid submit) = Some submit
closes_of (entries.Revoke xid bytes submit) = Some submit
closes_of entry = None

-- nothing closes this place
abbrev pub IsUnclosed : List Entry → ℕ → Type 0
IsUnclosed history k = (n : ℕ) (e : Entry) → get_elem? history n ≡ some e → ¬ (closes_of e ≡ Some k)

-- ---- The entries of the pass that feeds: the initial state, what was fed since, that no more is, and that the next link was dialled

abbrev pub is_feeding : Entry → Bool
is_feeding (entries.Initial initial) = true
is_feeding (entries.Fed bytes previous) = true
is_feeding (entries.Stopped cause previous) = true
is_feeding (entries.Rejoin sink previous) = true
is_feeding (entries.OutOfMemory piece previous) = true
is_feeding entry = false

abbrev pub last_feeding : List Entry → Option ℕ
last_feeding history = last_place is_feeding history

-- each of them closes the one before it
abbrev pub FeedsInOrder : List Entry → Type 0
FeedsInOrder history = Chained closes_of is_feeding history

-- ---- The initial state, and what moved since

-- a history begins with the initial state
abbrev pub initial_of : List Entry → Option InitialState
initial_of (entries.Initial initial ∷ es) = Some initial
initial_of history = None

-- how often a lost link may be dialled again: never, if that isn't told
abbrev pub tries_in : Option InitialState → Option ℕ
tries_in None = None
tries_in (Some initial) = initial.tries

abbrev pub tries_of : List Entry → Option ℕ
tries_of history = tries_in (initial_of history)

abbrev pub written_by : Entry → List ℕ
written_by (entries.Wrote bytes) = bytes
written_by entry = []

abbrev pub fed_by : Entry → List ℕ
fed_by (entries.Fed bytes previous) = bytes
fed_by (entries.OutOfMemory piece previous) = piece
fed_by entry = []

-- the bytes that were written and fed over all links
abbrev pub bytes_written : List Entry → List ℕ
bytes_written history = flat_map written_by history

abbrev pub bytes_fed : List Entry → List ℕ
bytes_fed history = flat_map fed_by history

-- ---- The link at hand

-- a link that was left: its sink when its bytes began to move, the bytes that the sink took, and those that were fed over it
pub record PastLink : Type 0 where
  pub sink : Option InitialSink
  pub written : List ℕ
  pub fed : List ℕ

-- What the entries so far tell of it: its sink when its bytes began to move, or none if its dial failed; the bytes that its sink took, and those that were
-- fed over it; whether a write failed, and whether a read did; why no more is fed; and the links that were left before it, the last one first.
pub record PresentLink : Type 0 where
  pub sink : Option InitialSink
  pub written : List ℕ
  pub fed : List ℕ
  pub write_failed : Bool
  pub read_failed : Bool
  pub stopped : Option Stop
  pub left : List PastLink

abbrev pub stopped_by_dial : Option InitialSink → Option Stop
stopped_by_dial None = Some causes.DialFault
stopped_by_dial (Some sink) = None

abbrev pub is_read_fault : Stop → Bool
is_read_fault causes.LinkRead = true
is_read_fault cause = false

abbrev pub present_after : PresentLink → Entry → PresentLink
present_after l (entries.Initial initial) = record l { sink = Some initial.sink }
present_after l (entries.Wrote bytes) = record l { written = l.written ++ bytes }
present_after l (entries.Fed bytes previous) = record l { fed = l.fed ++ bytes }
present_after l entries.WriteFailed = record l { write_failed = true }
present_after l (entries.Stopped cause previous) = record l { read_failed = l.read_failed || is_read_fault cause; stopped = Some cause }
present_after l (entries.OutOfMemory piece previous) = record l { fed = l.fed ++ piece; stopped = Some causes.Memory }
present_after l (entries.Rejoin sink previous) = record { sink = sink; written = []; fed = []; write_failed = false; read_failed = false; stopped = stopped_by_dial sink; left = (record { sink = l.sink; written = l.written; fed = l.fed }) ∷ l.left }
present_after l entry = l

abbrev pub present_from : PresentLink → List Entry → PresentLink
present_from l [] = l
present_from l (e ∷ es) = present_from (present_after l e) es

abbrev pub no_link : PresentLink
no_link = record { sink = None; written = []; fed = []; write_failed = false; read_failed = false; stopped = None; left = [] }

abbrev pub present : List Entry → PresentLink
present history = present_from no_link history

-- the sink of the link at hand when its bytes began to move, unless its dial failed
abbrev pub sink_of : List Entry → Option InitialSink
sink_of history = (present history).sink

abbrev pub link_written : List Entry → List ℕ
link_written history = (present history).written

abbrev pub link_fed : List Entry → List ℕ
link_fed history = (present history).fed

-- how often a lost link was left
abbrev pub rejoins : List Entry → ℕ
rejoins history = length (present history).left

-- a write failed over the link at hand
abbrev pub has_write_failed : List Entry → Bool
has_write_failed history = (present history).write_failed

-- why no more is fed over the link at hand
abbrev pub stop_of : List Entry → Option Stop
stop_of history = (present history).stopped

-- A read or a write failed, or the server ended its stream, and there is no other cause for which no more is fed: the link is lost.
abbrev pub is_lost_by : (write_failed : Bool) → Option Stop → Bool
is_lost_by failed None = failed
is_lost_by failed (Some causes.LinkRead) = true
is_lost_by failed (Some causes.Closed) = true
is_lost_by failed (Some cause) = false

abbrev pub is_lost : List Entry → Bool
is_lost history = is_lost_by (has_write_failed history) (stop_of history)

-- ---- The calls

-- a call that an entry submits is one that callers may make
abbrev pub Allows : (Call → Form → Type 0) → Entry → Type 0
Allows allows (entries.Submit call form xid) = allows call form
Allows allows entry = ⊤

-- so is each call of the history
abbrev pub AreAllowed : (Call → Form → Type 0) → List Entry → Type 0
AreAllowed allows history = (k : ℕ) (e : Entry) → get_elem? history k ≡ some e → Allows allows e

-- the call that an entry submits under this xid
abbrev pub submitted_call : ℕ → Entry → Option Call
submitted_call xid (entries.Submit call form x) = if x == xid then Some call else None
submitted_call xid entry = None

abbrev pub submits_call : ℕ → Entry → Bool
submits_call xid entry = is_some (submitted_call xid entry)

-- this call stands at this place, under this xid
abbrev pub IsCallAt : List Entry → (xid k : ℕ) → Call → Type 0
IsCallAt history xid k call = (e : Entry) × (get_elem? history k ≡ some e) × (submitted_call xid e ≡ Some call)

-- a call of this xid stands at this place, and nothing closes it
abbrev pub HasUnclosedCall : List Entry → (xid k : ℕ) → Type 0
HasUnclosedCall history xid k = (call : Call) × IsCallAt history xid k call × IsUnclosed history k

-- An entry by which a call ends closes the place of a call of that xid, which nothing closed before.
abbrev pub ClosesCall : (before : List Entry) → Entry → Type 0
ClosesCall before (entries.Done xid outcome submit) = HasUnclosedCall before xid submit
ClosesCall before (entries.Lost xid submit) = HasUnclosedCall before xid submit
ClosesCall before (entries.Forget xid submit) = HasUnclosedCall before xid submit
ClosesCall before (entries.Revoke xid bytes submit) = HasUnclosedCall before xid submit
ClosesCall before entry = ⊤

-- so does each of the history
abbrev pub ClosesCalls : List Entry → Type 0
ClosesCalls history = (before later : List Entry) (e : Entry) → history ≡ before ++ e ∷ later → ClosesCall before e

-- the place of the last call of an xid
abbrev pub place_of : ℕ → List Entry → Option ℕ
place_of xid history = last_place (submits_call xid) history

-- the entries that close the last call of an xid
abbrev pub place_or_none : Option ℕ → ℕ
place_or_none None = 0
place_or_none (Some k) = k

abbrev pub done_by : List Entry → (xid : ℕ) → Outcome → Entry
done_by history xid outcome = entries.Done xid outcome (place_or_none (place_of xid history))

abbrev pub forget_by : List Entry → (xid : ℕ) → Entry
forget_by history xid = entries.Forget xid (place_or_none (place_of xid history))

abbrev pub revoke_by : List Entry → (xid : ℕ) → List ℕ → Entry
revoke_by history xid bytes = entries.Revoke xid bytes (place_or_none (place_of xid history))
