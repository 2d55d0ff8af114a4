-- A requester that is shared, and what is given back at the end.
use Rattle.std.specs.Prelude.{◌≡◌, ◌≢◌, ⊤, ℕ, ◌+◌, ◌≤◌, Bool, List, [], ◌∷◌, length, Option, None, Some, is_some}
use Rattle.nr_link.specs.declared.end.End.TheVariants as ends
use Rattle.nr_links.specs.Limits.{read_max}
use Rattle.nr_links.specs.Links.{LinkLog}
use Rattle.nr_reduce.specs.declared.call.Call.{Call}
use Rattle.nr_reduce.specs.declared.call.Form.{Form}
use Rattle.nr_requester.specs.RequesterState.{RequesterSide}
use Rattle.nr_requester.specs.Fed.{fed_bytes}
use Rattle.nr_turnstile.specs.Rule.{Begins, Earlier, IsOpen, Lies}
use Rattle.nr_shared.specs.declared.entry.Entry.{Entry}
use Rattle.nr_shared.specs.declared.entry.Entry.TheVariants as entries
use Rattle.nr_shared.specs.declared.entry.InitialSink.{InitialSink}
use Rattle.nr_shared.specs.declared.entry.InitialState.{InitialState}
use Rattle.nr_shared.specs.declared.entry.Stop.TheVariants as causes
use Rattle.nr_shared.specs.Histories.{AreAllowed, ClosesCalls, FeedsInOrder, IsUnclosed, bytes_fed, closes_of, initial_of, present, rejoins, sink_of, stop_of}
use Rattle.nr_shared.specs.Standing.{IsNumbered, KeepsCalls, KeepsSink, RejoinsWithin, RepresentsHistory, bytes_before}
use Rattle.nr_shared.specs.Feeding.{InitialGiving, KeepsDialer, KeepsSource, shared_giving}
use Rattle.nr_shared.specs.Output.{EntriesMayFollow, OutputBeforeInput, WritesInFull}

-- The history has the initial state of this requester and this sink, and nothing else; a lost link may be dialled again so often. The requester hasn't run out of
-- memory.
pub record IsInitialHistory {O : Type 0} (link : O → ℕ) (taken : O → Option (List ℕ)) (faults : O → ℕ) (r : RequesterSide) (sink : O) (tries : Option ℕ) (history : List Entry) : Type 0 where
  pub initial : InitialState
  pub history_is : history ≡ entries.Initial initial ∷ []
  pub requester_is : initial.requester ≡ r
  pub has_memory : r.state.side.ended ≢ Some ends.Memory
  pub fed : fed_bytes r ≤ bytes_before
  pub sink_link : initial.sink.link ≡ link sink
  pub sink_taken : initial.sink.taken ≡ taken sink
  pub sink_faults : initial.sink.faults ≡ faults sink
  pub tries_are : initial.tries ≡ tries
  pub numbered : IsNumbered tries r.state
  pub few : RejoinsWithin tries 0

-- a link that is given back; there is none only if the last dial failed
abbrev pub GivesLink : {I O : Type 0} → (source_link : I → ℕ) → (left given : I → Option (List ℕ)) → (source_faults : I → ℕ) → (sink_link : O → ℕ) → (taken : O → Option (List ℕ)) → (sink_faults : O → ℕ)
    → (numbered told : Bool) → (shared : InitialGiving) → (read : ℕ) → Option (I × O) → Option InitialSink → List Entry → Type 0
GivesLink source_link left given source_faults sink_link taken sink_faults numbered told shared read (Some (source, sink)) (Some initial) history =
    KeepsSink sink_link taken sink_faults sink initial (present history) × KeepsSource source_link left given source_faults numbered told shared source initial read (present history)
GivesLink source_link left given source_faults sink_link taken sink_faults numbered told shared read None None history = stop_of history ≡ Some causes.DialFault
GivesLink source_link left given source_faults sink_link taken sink_faults numbered told shared read link initial history = ⊥

-- What is given back, by a caller that has seen this history and has these places, stands for a history that begins so and has the places; those that
-- were open are so still. Each call of it is one that callers may make, and is closed once at most, under its xid. The requester represents it, and has
-- each call whose place isn't closed. There is a link unless the last dial failed: it is the one that was shared, or the last that was dialled; its sink took the bytes that the
-- history says were written over it, and its source gave those that were fed, with fault counts as the history says. With the `read_before` bytes that were read before, those fed over all
-- links are at most the maximum. The dialer hung up each link that was left, and dialled this address for each that followed; its count rose if and only if a dial
-- failed.
pub record GivesBack {I O D : Type 0} (source_link : I → ℕ) (left given : I → Option (List ℕ)) (source_faults : I → ℕ) (sink_link : O → ℕ) (taken : O → Option (List ℕ)) (sink_faults : O → ℕ) (asked : D → Option (List (List ℕ))) (ended : D → Option LinkLog) (dialer_faults : D → ℕ)
    (allows : Call → Form → Type 0) (seen : List Entry) (mine : List ℕ) (first : I) (first_dialer : D) (addr : List ℕ) (read_before : ℕ) (r : RequesterSide) (link : Option (I × O)) (dialer : D) : Type 0 where
  pub history : List Entry
  pub begins : Begins seen history
  pub lies : Lies history mine
  pub stays_open : (k : ℕ) → IsOpen closes_of seen mine k → IsUnclosed history k
  pub earlier : Earlier closes_of history
  pub initial : InitialState
  pub is_initial : initial_of history ≡ Some initial
  pub represents : RepresentsHistory initial r (stop_of history) history
  pub calls : KeepsCalls r.state history
  pub in_order : FeedsInOrder history
  pub allowed : AreAllowed allows history
  pub closes_calls : ClosesCalls history
  pub output : OutputBeforeInput history
  pub in_full : WritesInFull history
  pub may_follow : EntriesMayFollow history
  pub within_tries : RejoinsWithin initial.tries (rejoins history)
  pub fed : fed_bytes r ≤ fed_bytes initial.requester + length (bytes_fed history)
  pub read : read_before + length (bytes_fed history) ≤ read_max
  pub link_is : GivesLink source_link left given source_faults sink_link taken sink_faults (is_some initial.tries) (is_some (ended first_dialer)) (shared_giving left given source_faults first) (read_before + length (bytes_fed history)) link (sink_of history) history
  pub dialer_is : KeepsDialer asked ended dialer_faults addr (shared_giving left given source_faults first) first_dialer dialer (present history)
