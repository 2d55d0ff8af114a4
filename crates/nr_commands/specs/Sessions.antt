-- Parts of a command over a session: requests one after another, each by the results of those before it.
use Rattle.std.specs.Prelude.{◌≡◌, ℕ, ◌⊎◌, List, Option, Result, Ok, Err, MatchResult}
use Rattle.nr_outside.specs.Streams.{SinkAt, SourceAt, sink_at, source_at}
use Rattle.nr_reduce.specs.declared.call.Call.{Call}
use Rattle.nr_reduce.specs.declared.call.Outcome.{Outcome}
use Rattle.nr_requester.specs.RequesterState.{RequesterSide}
use Rattle.nr_client.specs.declared.client_end.ClientEnd.{ClientEnd}
use Rattle.nr_client.specs.declared.client_end.ClientEnd.TheVariants as client
use Rattle.nr_client.specs.Calls.{link_relations}
use Rattle.nr_client.specs.Following.{FollowsOver, Next}
use Rattle.nr_client.specs.Relations.{CallRelations}
use Rattle.nr_client.specs.Requests.{AsksOver, CountsFaultsOver, SinkFaults, SourceFaults}
use Rattle.nr_client.specs.Views.{LinkView, link_view}

-- A session at a moment: its link.
abbrev pub SessionAt : Type 0
SessionAt = LinkView

abbrev pub session_at : (left given taken : Option (List ℕ)) → ℕ → RequesterSide → (source_faults sink_faults : ℕ) → SessionAt
session_at left given taken read requester source_faults sink_faults = link_view left given taken read requester source_faults sink_faults

-- the source and the sink of its link
abbrev pub source_of : SessionAt → SourceAt
source_of s = source_at s.bytes.left s.bytes.given s.source_faults

abbrev pub sink_of : SessionAt → SinkAt
sink_of s = sink_at s.bytes.taken s.sink_faults

-- A part of a command: from what is known of a session's link at one moment to what is known at a later one, with a result.
abbrev pub PartOver : Type 0 → Type 0 → Type 1
PartOver V A = V → V → Result A ClientEnd → Type 0

-- a request of one call
abbrev pub RequestOver : {A V : Type 0} → CallRelations V → (Outcome → Result A ClientEnd) → Call → PartOver V A
RequestOver rel reads call s s' result = AsksOver rel reads call s s' result × CountsFaultsOver rel result s s'

-- a request of several calls
abbrev pub RequestsOver : {A V : Type 0} → CallRelations V → (List Outcome → Next A) → PartOver V A
RequestsOver rel request s s' result = FollowsOver rel request s s' result × CountsFaultsOver rel result s s'

-- a part, and then the part that follows from its value; an end of the first is the end of both
abbrev pub ThenOver : {A B V : Type 0} → PartOver V A → (A → PartOver V B) → PartOver V B
ThenOver {A} {B} {V} first next s s' result =
    ((value : A) × ((mid : V) × (first s mid (Ok value) × next value mid s' result)))
    ⊎ ((end : ClientEnd) × (first s s' (Err end) × (result ≡ Err end)))

-- nothing is asked, and this text is the result; memory may run out
abbrev pub TextOver : {V : Type 0} → List ℕ → PartOver V (List ℕ)
TextOver text s s' result = (s' ≡ s) × MatchResult result (λ t. t ≡ text) (λ end. end ≡ client.Memory)

-- nothing is asked, and this is the end
abbrev pub FailsOver : {A V : Type 0} → ClientEnd → PartOver V A
FailsOver end s s' result = (s' ≡ s) × (result ≡ Err end)

-- ---- Over a link that one caller has

abbrev pub Part : Type 0 → Type 1
Part A = PartOver SessionAt A

abbrev pub Request : {A : Type 0} → (Outcome → Result A ClientEnd) → Call → Part A
Request reads call = RequestOver link_relations reads call

abbrev pub Requests : {A : Type 0} → (List Outcome → Next A) → Part A
Requests request = RequestsOver link_relations request

abbrev pub Then : {A B : Type 0} → Part A → (A → Part B) → Part B
Then first next = ThenOver first next

abbrev pub Text : List ℕ → Part (List ℕ)
Text text = TextOver text

abbrev pub Fails : {A : Type 0} → ClientEnd → Part A
Fails end = FailsOver end

-- the fault counts of its source and its sink rise only if a call has no answer for that
abbrev pub CountsFaults : {A : Type 0} → Part A
CountsFaults s s' result = SourceFaults result s.source_faults s'.source_faults × SinkFaults result s.sink_faults s'.sink_faults
