-- The one journal with the client and the xid of each entry, and what the server makes of a call by it: a client with a number has each change
-- executed once.
use Rattle.std.specs.Prelude.{◌≡◌, ◌≢◌, ℕ, ◌+◌, max, Bool, ◌==◌, ◌&&◌, nat_le, if◌then◌else◌, List, [], ◌∷◌, ◌++◌, length, map, fold, slice_get, Option, None, Some}
use Rattle.nr_outside.specs.declared.moment.Moment.{Moment}
use Rattle.nr_rpc.specs.declared.head.CallHead.TheVariants.{Version2}
use Rattle.nr_rpc.specs.Call.{call_encoding}
use Rattle.nr_nfs_base.specs.Procedures.{nfs_program, nfs_version}
use Rattle.nr_reduce.specs.declared.mark.Mark.{Mark}
use Rattle.nr_reduce.specs.declared.mark.Mark.TheVariants as marks
use Rattle.nr_reduce.specs.declared.mark.Told.TheVariants as told
use Rattle.nr_reduce.specs.declared.mark.Entry.{Entry}
use Rattle.nr_reduce.specs.declared.mark.TaggedEntry.{TaggedEntry}
use Rattle.nr_wire.specs.declared.hello.Side.TheVariants.{Initiator, Responder}
use Rattle.nr_link.specs.Agreement.{client_number}
use Rattle.nr_link.specs.Frames.{Frame, frames_of}
use Rattle.nr_reduce.specs.Hellos.{private_of}
use Rattle.nr_reduce.specs.History.{bytes_received}
use Rattle.nr_reduce.specs.Limits.{window}
use Rattle.nr_reduce.specs.PlainJournal.{PlainServer}
use Rattle.nr_reduce.specs.AtEachMark.{AtEachMark}

-- the entries alone: all that a reply depends on
abbrev pub entries_alone : List TaggedEntry → List Entry
entries_alone T = map (λ (t : TaggedEntry). t.entry) T

-- the entry of a call, with the number of its client and its xid, or 0 and 0 if the client has no number
abbrev pub tagged : (client xid : ℕ) → Entry → TaggedEntry
tagged client xid e = if client == 0 then record { entry = e; client = 0; xid = 0 } else record { entry = e; client = client; xid = xid }

-- ---- What a call of a client is by a journal: old, or kept at a place, or new

pub data Standing : Type 0 where
  Old : (top : ℕ) → Standing
  Kept : (place : ℕ) → Standing
  New : Standing

-- the largest xid of a client's entries, 0 without any
abbrev pub largest_xid : ℕ → ℕ → TaggedEntry → ℕ
largest_xid client top t = if t.client == client then max top t.xid else top

unfoldable pub top_of : List TaggedEntry → ℕ → ℕ
top_of T client = fold (largest_xid client) 0 T

-- the place of the entry of a call
abbrev pub is_entry_of : ℕ → ℕ → TaggedEntry → Bool
is_entry_of client xid t = t.client == client && t.xid == xid

abbrev pub place_from : ℕ → ℕ → ℕ → List TaggedEntry → Option ℕ
place_from at client xid [] = None
place_from at client xid (t ∷ T) = if is_entry_of client xid t then Some at else place_from (at + 1) client xid T

unfoldable pub place_of_entry : List TaggedEntry → ℕ → ℕ → Option ℕ
place_of_entry T client xid = place_from 0 client xid T

abbrev pub kept_or_new : Option ℕ → Standing
kept_or_new None = New
kept_or_new (Some place) = Kept place

unfoldable pub standing : List TaggedEntry → ℕ → ℕ → Standing
standing T client xid = if nat_le (xid + window) (top_of T client) then Old (top_of T client) else kept_or_new (place_of_entry T client xid)

-- as the server asks: a client without a number has nothing but new calls
abbrev pub standing_for : List TaggedEntry → ℕ → ℕ → Standing
standing_for T client xid = if client == 0 then New else standing T client xid

-- ---- The journal of a run: each Execute of a new call adds what its call adds. `number` gives the number of each link's client, as its server
-- heard it: that of the client's hello, or 0.

abbrev pub number_in_frames : List Frame → ℕ
number_in_frames [] = 0
number_in_frames (f ∷ frames) = client_number (private_of f)

unfoldable pub number_heard : List Mark → (link : ℕ) → ℕ
number_heard run link = number_in_frames (frames_of Initiator (bytes_received link Responder run))

abbrev pub added_by : Standing → List TaggedEntry → List TaggedEntry
added_by (Old top) entries = []
added_by (Kept place) entries = []
added_by New entries = entries

abbrev pub tagged_by : PlainServer → (ℕ → ℕ) → List TaggedEntry → Mark → List TaggedEntry
tagged_by plain number T (marks.Execute l xid moment payload place reply) =
    added_by (standing_for T (number l) xid) (map (tagged (number l) xid) (plain.adds moment payload reply))
tagged_by plain number T mark = []

abbrev pub tagged_from : PlainServer → (ℕ → ℕ) → List TaggedEntry → List Mark → List TaggedEntry
tagged_from plain number T [] = T
tagged_from plain number T (mark ∷ run) = tagged_from plain number (T ++ tagged_by plain number T mark) run

unfoldable pub tagged_journal : PlainServer → (ℕ → ℕ) → List Mark → List TaggedEntry
tagged_journal plain number run = tagged_from plain number [] run

-- ---- What each mark has to be by it

-- the call of an entry, as it was made
unfoldable pub call_of_entry : ℕ → Entry → List ℕ
call_of_entry xid e = call_encoding (Version2 xid nfs_program nfs_version e.proc e.cred 0) e.args

-- The reply of an entry: the one that its call had at its place.
pub record IsReplyOf (plain : PlainServer) (T : List TaggedEntry) (place : ℕ) (moment : Moment) (reply : List ℕ) : Type 0 where
  pub earlier : List TaggedEntry
  pub own : TaggedEntry
  pub later : List TaggedEntry
  pub is_cut : T ≡ earlier ++ own ∷ later
  pub is_place : place ≡ length earlier
  pub moment_is : moment ≡ own.entry.moment
  pub replied : plain.Replies (entries_alone earlier) moment (call_of_entry own.xid own.entry) reply

-- A new call is executed at the journal's end; a kept one has the place, the moment and the reply of its entry; an old one isn't executed.
abbrev pub IsExecutedBy : PlainServer → List TaggedEntry → Standing → Moment → List ℕ → ℕ → List ℕ → Type 0
IsExecutedBy plain T (Old top) moment payload place reply = ⊥
IsExecutedBy plain T (Kept at) moment payload place reply = (place ≡ at) × IsReplyOf plain T place moment reply
IsExecutedBy plain T New moment payload place reply = (place ≡ length T) × plain.Replies (entries_alone T) moment payload reply

abbrev pub IsOld : Standing → Type 0
IsOld (Old top) = Unit {0}
IsOld (Kept place) = ⊥
IsOld New = ⊥

abbrev pub NumberedMark : PlainServer → (ℕ → ℕ) → List Mark → Mark → Type 0
NumberedMark plain number before (marks.Execute l xid moment payload place reply) =
    IsExecutedBy plain (tagged_journal plain number before) (standing_for (tagged_journal plain number before) (number l) xid) moment payload place reply
NumberedMark plain number before (marks.Told l (told.Old xid at)) = IsOld (standing_for (tagged_journal plain number before) (number l) xid)
NumberedMark plain number before mark = Unit {0}

-- a run whose calls are executed so, and its journal
pub record JournaledByNumber (plain : PlainServer) (number : ℕ → ℕ) (T : List TaggedEntry) (run : List Mark) : Type 0 where
  pub is : tagged_journal plain number run ≡ T
  pub each : AtEachMark (NumberedMark plain number) [] run

-- no two entries are of one call of a client that has a number
abbrev pub HasNoEntryTwice : List TaggedEntry → Type 0
HasNoEntryTwice T = (place other : ℕ) (t u : TaggedEntry) → slice_get T place ≡ Some t → slice_get T other ≡ Some u →
    t.client ≢ 0 → t.client ≡ u.client → t.xid ≡ u.xid → place ≡ other
