-- What contracts see of the plain server of a drill, and what it makes of a call.
use Rattle.std.specs.Prelude.{◌≡◌, refl, ℕ, ◌≤◌, Bool, true, false, List, [], ◌∷◌, ◌++◌, length, map, All}
use Rattle.std.specs.Coded.{Coded, code_by, coded_ℕ, coded_list, coded×}
use Rattle.nr_xdr.specs.Item.{IsBytes}
use Rattle.nr_outside.specs.declared.moment.Moment.{Moment}
use Rattle.nr_reduce.specs.declared.mark.TaggedEntry.{TaggedEntry}
use Rattle.nr_reduce.specs.NumberedJournal.{IsExecutedBy, IsOld, added_by, standing_for}
use Rattle.nr_reduce.specs.NumberedJournal.Standing.{New}
use Rattle.nr_plain.specs.Setup.{Setup}
use Rattle.nr_plain.specs.Stands.{PlainServerState, kept_code}
use Rattle.nr_plain.specs.History.{entries_added, xid_in}
use Rattle.nr_plain.specs.Numbered.{HasCall, RepresentsTagged}
use Rattle.nr_plain.specs.ReplyLaws.{plain_server}
use Rattle.nr_plain.specs.ReplySizes.{any_reply_max}
use Rattle.nr_world.specs.declared.server.Execution.{Execution}

-- the plain server, and the second of the clock at which each entry of its journal was made
pub record DrillServerState : Type 0 where
  pub server : PlainServerState
  pub seconds : List ℕ

abbrev pub drill_server_code : Coded DrillServerState
drill_server_code = code_by (PlainServerState × List ℕ) (coded× kept_code (coded_list coded_ℕ)) (λ k. (k.server, k.seconds)) (λ p. record { server = p.0; seconds = p.1 }) (λ _. refl)

-- the moment at which the clock shows this second
abbrev pub at_second : ℕ → Moment
at_second n = record { seconds = n; nanos = 0 }

-- one second more, or none
abbrev pub seconds_if : Bool → ℕ → List ℕ
seconds_if true now = now ∷ []
seconds_if false now = []

-- It stands for these entries, the calls of which can be encoded, and knows when each was made.
pub record StandsForEntries (setup : Setup) (T : List TaggedEntry) (kept : DrillServerState) : Type 0 where
  pub represents : RepresentsTagged setup T kept.server
  pub calls : All HasCall T
  pub moments : map (λ (t : TaggedEntry). t.entry.moment) T ≡ map at_second kept.seconds

-- A call of the client with this number, 0 if it has none, was executed after these entries: a new one at the second `now`; a kept one as its entry
-- says. Then the server stands for the entries with what the call added.
pub record ExecutesFor (setup : Setup) (T : List TaggedEntry) (client now : ℕ) (payload : List ℕ) (e : Execution) (after : DrillServerState) : Type 0 where
  pub executed : IsExecutedBy (plain_server setup) T (standing_for T client (xid_in payload)) (at_second e.second) payload e.place e.reply
  pub moment_is : standing_for T client (xid_in payload) ≡ New → e.second ≡ now
  pub stands : StandsForEntries setup (T ++ added_by (standing_for T client (xid_in payload)) (entries_added client (at_second now) payload e.reply)) after

abbrev pub ExecutesCall : (client now : ℕ) → (payload : List ℕ) → Execution → (before after : DrillServerState) → Type 0
ExecutesCall client now payload e before after =
    IsBytes e.reply × (length e.reply ≤ any_reply_max) × ((setup : Setup) (T : List TaggedEntry) → StandsForEntries setup T before → ExecutesFor setup T client now payload e after)

-- A call was found old: the server is as before.
abbrev pub FindsOld : (client : ℕ) → (payload : List ℕ) → (before after : DrillServerState) → Type 0
FindsOld client payload before after = (after ≡ before) × ((setup : Setup) (T : List TaggedEntry) → StandsForEntries setup T before → IsOld (standing_for T client (xid_in payload)))
