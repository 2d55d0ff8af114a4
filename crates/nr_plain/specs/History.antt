-- The history of a server in a turnstile: what it was opened as, and then its journal. What a pass has seen of it, and
-- what a call under a turn makes of that.
use Rattle.std.specs.Prelude.{◌≡◌, ⊤, ℕ, suc, ◌+◌, ◌≤◌, List, [], ◌∷◌, ◌++◌, length, map, take, drop, Option, None, Some, unwrap_or}
use Rattle.std.specs.List.{flat_map}
use Rattle.std.specs.declared.snapshot.Snapshot.{Snapshot}
use Rattle.nr_xdr.specs.Item.{IsBytes}
use Rattle.nr_outside.specs.declared.moment.Moment.{Moment}
use Rattle.nr_rpc.specs.Reading.{call_of, xid_of_call}
use Rattle.nr_rpc.specs.declared.cred.Cred.TheVariants as creds
use Rattle.nr_reduce.specs.declared.mark.Entry.{Entry}
use Rattle.nr_plain.specs.Added.{entries_of_call}
use Rattle.nr_plain.specs.Replies.{plain_reply}
use Rattle.nr_plain.specs.Setup.{Setup}
use Rattle.nr_plain.specs.Stands.{PlainServerState}
use Rattle.nr_turnstile.specs.Rule.{Begins, places_from}
use Rattle.nr_turnstile.specs.Passes.{seen_by, mine_of}
use Rattle.nr_turnstile.specs.declared.turnstile.Pass.{Pass}
use Rattle.nr_plain.specs.declared.history_entry.HistoryEntry.{HistoryEntry}
use Rattle.nr_plain.specs.declared.history_entry.HistoryEntry.TheVariants.{Opened, Added}
use Rattle.nr_reduce.specs.declared.mark.TaggedEntry.{TaggedEntry}
use Rattle.nr_reduce.specs.NumberedJournal.{HasNoEntryTwice, tagged, entries_alone}

-- a server as it was opened, and its setup
abbrev pub Opening : Type 0
Opening = Snapshot PlainServerState

abbrev pub setup_of : PlainServerState → Setup
setup_of kept = record { tree = kept.tree; parameters = kept.parameters }

abbrev pub setup_in : Opening → Setup
setup_in first = setup_of first.value

-- ===== the history

-- a server that was opened so, and what was added to its journal since
abbrev pub additions : List TaggedEntry → List HistoryEntry
additions T = map (λ (t : TaggedEntry). Added t) T

abbrev pub history : Opening → List TaggedEntry → List HistoryEntry
history first T = Opened first ∷ additions T

-- the history of a server that was opened so and has this journal, whoever added its entries
pub record IsHistory (first : Opening) (J : List Entry) (h : List HistoryEntry) : Type 0 where
  pub entries : List TaggedEntry
  pub is : h ≡ history first entries
  pub journal : entries_alone entries ≡ J

-- no two entries of its journal are of one call of a client that has a number
abbrev pub HasNoCallTwice : List HistoryEntry → Type 0
HasNoCallTwice h = (first : Opening) (T : List TaggedEntry) → h ≡ history first T → HasNoEntryTwice T

-- The entry is that of a call after the journal J: the payload of the call is bytes, the plain server answers it at the
-- end of J, and it adds this entry alone.
pub record IsOfCall (s : Setup) (J : List Entry) (e : Entry) : Type 0 where
  pub moment : Moment
  pub payload : List ℕ
  pub reply : List ℕ
  pub bytes : IsBytes payload
  pub replied : plain_reply s J (length J) moment payload ≡ Some reply
  pub adds : entries_of_call moment payload reply ≡ e ∷ []

-- Each of these entries, which follow J in this order, is that of a call after those before it.
abbrev pub AreOfCalls : Setup → (J more : List Entry) → Type 0
AreOfCalls s J [] = ⊤
AreOfCalls s J (e ∷ more) = IsOfCall s J e × AreOfCalls s (J ++ e ∷ []) more

-- no entry closes a place
abbrev pub closes_none : HistoryEntry → Option ℕ
closes_none x = None

-- ===== what a call adds

abbrev pub xid_in : List ℕ → ℕ
xid_in payload = unwrap_or (xid_of_call (call_of payload)) 0

abbrev pub entries_added : (client : ℕ) → Moment → (payload reply : List ℕ) → List TaggedEntry
entries_added client m payload reply = map (tagged client (xid_in payload)) (entries_of_call m payload reply)

-- one entry, or none
abbrev pub AddsOne : Moment → (payload reply : List ℕ) → Type 0
AddsOne m payload reply = (e : Entry) × (entries_of_call m payload reply ≡ e ∷ [])

abbrev pub AddsNone : Moment → (payload reply : List ℕ) → Type 0
AddsNone m payload reply = entries_of_call m payload reply ≡ []

-- a call adds one entry to the journal, or none
abbrev pub CallsAddOneEntryAtMost : Type 0
CallsAddOneEntryAtMost = (m : Moment) (payload reply : List ℕ) → length (entries_of_call m payload reply) ≤ 1

-- the entry of the history, for a call that adds one
abbrev pub no_entry : HistoryEntry
no_entry = Added (record { entry = record { moment = record { seconds = 0; nanos = 0 }; cred = creds.None; proc = 0; args = [] }; client = 0; xid = 0 })

abbrev pub first_added : List TaggedEntry → HistoryEntry
first_added [] = no_entry
first_added (t ∷ T) = Added t

abbrev pub entry_to_append : (client : ℕ) → Moment → (payload reply : List ℕ) → HistoryEntry
entry_to_append client m payload reply = first_added (entries_added client m payload reply)

-- ===== what a pass sees

-- the view of a pass: the history that it has seen, and the places of its own entries in it
pub record PassView : Type 0 where
  pub seen : List HistoryEntry
  pub mine : List ℕ

abbrev pub pass_view : {M : Type 0} → Pass M HistoryEntry → PassView
pass_view p = record { seen = seen_by p; mine = mine_of p }

-- The pass has seen this server as it was opened, with an empty journal. Place 0 of the history, and no other, is its
-- own.
abbrev pub IsOpenedBy : PlainServerState → PassView → Type 0
IsOpenedBy kept view = (first : Opening) × (first.value ≡ kept) × (view ≡ record { seen = history first []; mine = 0 ∷ [] })

-- A pass had seen a server that was opened so and has this journal. It has seen the history again, and only others have
-- added to it, each time the entry of a call. No call of a client with a number has two entries then, whoever sent it.
pub record OthersAddedTo (first : Opening) (J : List Entry) (before after : PassView) : Type 0 where
  pub others : List Entry
  pub begins : Begins before.seen after.seen
  pub seen : IsHistory first (J ++ others) after.seen
  pub once : HasNoCallTwice after.seen
  pub of_calls : AreOfCalls (setup_in first) J others
  pub mine_is : after.mine ≡ before.mine

abbrev pub OnlyOthersAdded : (before after : PassView) → Type 0
OnlyOthersAdded before after = (first : Opening) (J : List Entry) → IsHistory first J before.seen → OthersAddedTo first J before after

-- A call was executed under one turn of a pass. Others may have added entries to the journal before it. The reply is
-- that of the plain server at the call's place, and the entry that the call adds, if any, is the last of the history,
-- and the pass's own. All entries that were added, by others and by this call, are those of calls, and no call of a
-- client with a number has two.
pub record ExecutesAt (first : Opening) (J : List Entry) (before after : PassView) (client : ℕ) (m : Moment) (payload reply : List ℕ) (place : ℕ) : Type 0 where
  pub others : List Entry
  pub found : List HistoryEntry
  pub begins : Begins before.seen found
  pub found_is : IsHistory first (J ++ others) found
  pub place_is : place ≡ length (J ++ others)
  pub replied : plain_reply (setup_in first) (J ++ others) place m payload ≡ Some reply
  pub seen : after.seen ≡ found ++ additions (entries_added client m payload reply)
  pub once : HasNoCallTwice after.seen
  pub of_calls : AreOfCalls (setup_in first) J (others ++ entries_of_call m payload reply)
  pub mine_is : after.mine ≡ before.mine ++ places_from (suc place) (length (entries_of_call m payload reply))

abbrev pub Executes : (before after : PassView) → (client : ℕ) → Moment → (payload reply : List ℕ) → (place : ℕ) → Type 0
Executes before after client m payload reply place =
    (first : Opening) (J : List Entry) → IsHistory first J before.seen → ExecutesAt first J before after client m payload reply place

-- ===== the calls of a pass, in order

-- a call that was answered: at this moment, at this place of the journal
pub record Answered : Type 0 where
  pub moment : Moment
  pub payload : List ℕ
  pub place : ℕ
  pub reply : List ℕ

-- what it added to the journal: one entry, or none
abbrev pub entries_in : Answered → List Entry
entries_in a = entries_of_call a.moment a.payload a.reply

-- Each of these calls was answered as the plain server answers at its place in the journal J, and the entry that it
-- added stands there. The places don't fall: the first is at least n, and each later one is after the entry of the call
-- before it.
abbrev pub AllPlaced : Setup → List Entry → ℕ → List Answered → Type 0
AllPlaced s J n [] = n ≤ length J
AllPlaced s J n (a ∷ calls) =
    (n ≤ a.place)
    × ((plain_reply s J a.place a.moment a.payload ≡ Some a.reply)
    × ((take (length (entries_in a)) (drop a.place J) ≡ entries_in a)
    × AllPlaced s J (a.place + length (entries_in a)) calls))

-- The places in the history of the entries that they added. The history begins with the server as it was opened, so the
-- entry at a place of the journal is at the next place of the history.
abbrev pub own_places_of : Answered → List ℕ
own_places_of a = places_from (suc a.place) (length (entries_in a))

unfoldable pub own_places : List Answered → List ℕ
own_places calls = flat_map own_places_of calls

-- A pass had seen a server that was opened so and has the journal J, and has now seen more. These calls were answered
-- in between, and what they added is the pass's own. All else that was added is of others. Each entry that was added is
-- that of a call, and no call of a client with a number has two, if none had two before.
pub record OverHistory (first : Opening) (J : List Entry) (before : PassView) (calls : List Answered) (after : PassView) : Type 0 where
  pub more : List Entry
  pub begins : Begins before.seen after.seen
  pub seen : IsHistory first (J ++ more) after.seen
  pub once : HasNoCallTwice before.seen → HasNoCallTwice after.seen
  pub of_calls : AreOfCalls (setup_in first) J more
  pub placed : AllPlaced (setup_in first) (J ++ more) (length J) calls
  pub mine_is : after.mine ≡ before.mine ++ own_places calls

abbrev pub Over : (before : PassView) → List Answered → (after : PassView) → Type 0
Over before calls after = (first : Opening) (J : List Entry) → IsHistory first J before.seen → OverHistory first J before calls after
