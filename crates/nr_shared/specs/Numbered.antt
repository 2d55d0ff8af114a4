-- A requester with a number, which is shared over a link that is dialled.
use Rattle.std.specs.Prelude.{◌≡◌, ⊤, ℕ, ◌⊎◌, true, is_some, List, [], ◌∷◌, Option, None, Some}
use Rattle.nr_outside.specs.Faults.{Rises}
use Rattle.nr_links.specs.Asked.{Asks}
use Rattle.nr_links.specs.Links.{EndsLink, HasOpenLink, IsNewLink, IsTold, LinkLog, MakesLink, ended_link}
use Rattle.nr_reduce.specs.declared.call.Call.{Call}
use Rattle.nr_reduce.specs.declared.call.Form.{Form}
use Rattle.nr_requester.specs.RequesterState.{RequesterSide}
use Rattle.nr_turnstile.specs.Passes.{mine_of, seen_by}
use Rattle.nr_shared.specs.declared.entry.Entry.{Entry}
use Rattle.nr_shared.specs.declared.entry.Entry.TheVariants as entries
use Rattle.nr_shared.specs.declared.entry.InitialSink.{InitialSink}
use Rattle.nr_shared.specs.declared.entry.InitialState.{InitialState}
use Rattle.nr_shared.specs.declared.opening.NotShared.{NotShared}
use Rattle.nr_shared.specs.declared.opening.NotShared.TheVariants as not_shared
use Rattle.nr_shared.specs.declared.shared.Pass.{Pass}
use Rattle.nr_shared.specs.declared.source_reader.InitialSource.{InitialSource}
use Rattle.nr_shared.specs.Feeding.{address_of}
use Rattle.nr_shared.specs.Histories.{initial_of}
use Rattle.nr_shared.specs.Opening.{GivesBack}

-- A history of one entry, the initial state. If the link may be dialled again, its sink is of the link of this source, and fewer links were hung up than made.
pub record IsBegun {I D : Type 0} (source_link : I → ℕ) (ended : D → Option LinkLog) (history : List Entry) (source : I) (dialer : D) : Type 0 where
  pub initial : InitialState
  pub history_is : history ≡ entries.Initial initial ∷ []
  pub same : is_some initial.tries ≡ true → source_link source ≡ initial.sink.link
  pub link_made : is_some initial.tries ≡ true → HasOpenLink (ended dialer)

-- The history begins with the requester, the sink of a new link and the tries; the source is that of the link, and the dialer dialled it: once, to this address.
-- The next links are dialled to this address too.
pub record NumberedOpened {I O C D : Type 0} (source_link : I → ℕ) (left given : I → Option (List ℕ)) (source_faults : I → ℕ) (asked : D → Option (List (List ℕ))) (ended : D → Option LinkLog) (faults : D → ℕ)
    (r : RequesterSide) (dialer : D) (addr : List ℕ) (tries : ℕ) (pass : Pass I O C D) : Type 0 where
  pub sink : InitialSink
  pub seen : seen_by pass.main ≡ entries.Initial (record { requester = r; sink = sink; tries = Some tries }) ∷ []
  pub mine : mine_of pass.main ≡ []
  pub first : InitialSource I O C D
  pub source : seen_by pass.source ≡ first ∷ []
  pub same : source_link first.source.value ≡ sink.link
  pub new : IsNewLink (given first.source.value) sink.taken (source_faults first.source.value) sink.faults
  pub told : IsTold (ended first.dialer.value) (given first.source.value) (left first.source.value) sink.taken
  pub unread : first.read ≡ 0
  pub address : address_of first ≡ addr
  pub dialled : Asks (asked dialer) (asked first.dialer.value) addr
  pub made : MakesLink (ended dialer) (ended first.dialer.value)
  pub counted : faults first.dialer.value ≡ faults dialer

-- ---- It isn't shared

-- the link that came back, if there is one, was hung up
abbrev pub HangsUpBack : {I O D : Type 0} → (source_link : I → ℕ) → (left given : I → Option (List ℕ)) → (taken : O → Option (List ℕ)) → (asked : D → Option (List (List ℕ))) → (ended : D → Option LinkLog) → (faults : D → ℕ) → Option (I × O) → D → D → Type 0
HangsUpBack source_link left given taken asked ended faults None dialer dialer' = dialer' ≡ dialer
HangsUpBack source_link left given taken asked ended faults (Some (source, sink)) dialer dialer' =
    EndsLink (ended dialer) (ended dialer') (ended_link (source_link source) (given source) (left source) (taken sink)) × ((asked dialer' ≡ asked dialer) × (faults dialer' ≡ faults dialer))

-- Memory ran out after the dial. The requester comes back with its link and the dialer, as `close` gives them; then the link was hung up.
pub record GivesUpLink {I O D : Type 0} (source_link : I → ℕ) (left given : I → Option (List ℕ)) (source_faults : I → ℕ) (sink_link : O → ℕ) (taken : O → Option (List ℕ)) (sink_faults : O → ℕ) (asked : D → Option (List (List ℕ))) (ended : D → Option LinkLog) (faults : D → ℕ)
    (allows : Call → Form → Type 0) (history : List Entry) (first : I) (first_dialer : D) (addr : List ℕ) (r : RequesterSide) (dialer : D) : Type 0 where
  pub link : Option (I × O)
  pub between : D
  pub gives : GivesBack source_link left given source_faults sink_link taken sink_faults asked ended faults allows history [] first first_dialer addr 0 r link between
  pub hung_up : HangsUpBack source_link left given taken asked ended faults link between dialer

abbrev pub NumberedRefused : {I O D : Type 0} → (source_link : I → ℕ) → (left given : I → Option (List ℕ)) → (source_faults : I → ℕ) → (sink_link : O → ℕ) → (taken : O → Option (List ℕ)) → (sink_faults : O → ℕ) → (asked : D → Option (List (List ℕ))) → (ended : D → Option LinkLog) → (faults : D → ℕ)
    → (allows : Call → Form → Type 0) → List Entry → I → D → (addr : List ℕ) → NotShared D → Type 0
NumberedRefused source_link left given source_faults sink_link taken sink_faults asked ended faults allows history first first_dialer addr (not_shared.DialFault r dialer) = ⊥
NumberedRefused source_link left given source_faults sink_link taken sink_faults asked ended faults allows history first first_dialer addr (not_shared.Memory r dialer) =
    GivesUpLink source_link left given source_faults sink_link taken sink_faults asked ended faults allows history first first_dialer addr r dialer

-- The link was dialled once, to this address, and memory ran out then.
pub record GivesUpDialled {I O D : Type 0} (source_link : I → ℕ) (left given : I → Option (List ℕ)) (source_faults : I → ℕ) (sink_link : O → ℕ) (taken : O → Option (List ℕ)) (sink_faults : O → ℕ) (asked : D → Option (List (List ℕ))) (ended : D → Option LinkLog) (faults : D → ℕ)
    (allows : Call → Form → Type 0) (r : RequesterSide) (dialer : D) (addr : List ℕ) (tries : ℕ) (r' : RequesterSide) (dialer' : D) : Type 0 where
  pub sink : InitialSink
  pub source : I
  pub dialled : D
  pub same : source_link source ≡ sink.link
  pub new : IsNewLink (given source) sink.taken (source_faults source) sink.faults
  pub told : IsTold (ended dialled) (given source) (left source) sink.taken
  pub asks : Asks (asked dialer) (asked dialled) addr
  pub made : MakesLink (ended dialer) (ended dialled)
  pub counted : faults dialled ≡ faults dialer
  pub gives_up : GivesUpLink {O = O} source_link left given source_faults sink_link taken sink_faults asked ended faults allows (entries.Initial (record { requester = r; sink = sink; tries = Some tries }) ∷ []) source dialled addr r' dialer'

-- Why it isn't shared. If the first dial failed, the dialer's count rose, and nothing else changed. If memory ran out before the dial, nothing changed.
abbrev pub IsNotShared : {I O D : Type 0} → (source_link : I → ℕ) → (left given : I → Option (List ℕ)) → (source_faults : I → ℕ) → (sink_link : O → ℕ) → (taken : O → Option (List ℕ)) → (sink_faults : O → ℕ) → (asked : D → Option (List (List ℕ))) → (ended : D → Option LinkLog) → (faults : D → ℕ)
    → (allows : Call → Form → Type 0) → RequesterSide → D → (addr : List ℕ) → (tries : ℕ) → NotShared D → Type 0
IsNotShared source_link left given source_faults sink_link taken sink_faults asked ended faults allows r dialer addr tries (not_shared.DialFault r' dialer') =
    (r' ≡ r) × ((asked dialer' ≡ asked dialer) × ((ended dialer' ≡ ended dialer) × Rises (faults dialer) (faults dialer')))
IsNotShared source_link left given source_faults sink_link taken sink_faults asked ended faults allows r dialer addr tries (not_shared.Memory r' dialer') =
    ((r' ≡ r) × (dialer' ≡ dialer)) ⊎ GivesUpDialled source_link left given source_faults sink_link taken sink_faults asked ended faults allows r dialer addr tries r' dialer'
