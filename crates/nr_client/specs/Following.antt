-- Requests of several calls, each of which follows from the outcomes of the calls before.
use Rattle.std.specs.Prelude.{◌≡◌, ◌⊎◌, List, [], ◌∷◌, Result, Ok, Err}
use Rattle.nr_reduce.specs.declared.call.Call.{Call}
use Rattle.nr_reduce.specs.declared.call.Outcome.{Outcome}
use Rattle.nr_shared.specs.declared.call_end.CallEnd.{CallEnd}
use Rattle.nr_client.specs.declared.client_end.ClientEnd.{ClientEnd}
use Rattle.nr_client.specs.declared.client_end.ClientEnd.TheVariants as client
use Rattle.nr_client.specs.Calls.{link_relations}
use Rattle.nr_client.specs.Relations.{CallRelations}
use Rattle.nr_client.specs.Results.{Gives}
use Rattle.nr_client.specs.Views.{LinkView}

-- what a request does next: it makes this call, or it has this result
pub data Next (A : Type 0) : Type 0 where
  Calls : Call → Next A
  Returns : Result A ClientEnd → Next A

-- what follows from a value, or the end that there is in its place
abbrev pub go_on : {A B : Type 0} → Result B ClientEnd → (B → Next A) → Next A
go_on (Ok value) next = next value
go_on (Err end) next = Returns (Err end)

-- a call, and what follows from its outcome, which is read so
abbrev pub asking : {A B : Type 0} → Call → (Outcome → Result B ClientEnd) → (B → List Outcome → Next A) → List Outcome → Next A
asking call reads next [] = Calls call
asking call reads next (outcome ∷ later) = go_on (reads outcome) (λ value. next value later)

-- A request is a function from the outcomes of its calls so far to what it does next. Its first calls were made, one after another, and
-- answered with these outcomes.
abbrev pub MakesCallsOver : {A V : Type 0} → CallRelations V → (List Outcome → Next A) → List Outcome → (v w : V) → Type 0
MakesCallsOver rel request [] v w = w ≡ v
MakesCallsOver {A} {V} rel request (outcome ∷ outcomes) v w =
    (call : Call) × (mid : V) ×
    ((request [] ≡ Calls call) × (rel.answers v mid call outcome × MakesCallsOver rel (λ later. request (outcome ∷ later)) outcomes mid w))

-- A call has no answer, for this cause; or memory ran out before it was made, and nothing changed.
abbrev pub UnansweredOver : {V : Type 0} → CallRelations V → Call → (v w : V) → ClientEnd → Type 0
UnansweredOver rel call v w end =
    ((cause : CallEnd) × ((end ≡ client.Link cause) × rel.gives_up v w call cause))
    ⊎ ((end ≡ client.Memory) × (w ≡ v))

-- Then it ends: with its result, unless memory ran out; or its next call has no answer.
abbrev pub EndsWithOver : {A V : Type 0} → CallRelations V → Next A → (v w : V) → Result A ClientEnd → Type 0
EndsWithOver rel (Returns result) v w given = Gives given result × (w ≡ v)
EndsWithOver rel (Calls call) v w given = (end : ClientEnd) × ((given ≡ Err end) × UnansweredOver rel call v w end)

-- A request was made: its calls in order, and it ended so.
pub record FollowsOver {A V : Type 0} (rel : CallRelations V) (request : List Outcome → Next A) (v w : V) (given : Result A ClientEnd) : Type 0 where
  pub outcomes : List Outcome
  pub between : V
  pub made : MakesCallsOver rel request outcomes v between
  pub ends : EndsWithOver rel (request outcomes) between w given

-- ---- Over a link that one caller has

abbrev pub MakesCalls : {A : Type 0} → (List Outcome → Next A) → List Outcome → (v w : LinkView) → Type 0
MakesCalls request outcomes v w = MakesCallsOver link_relations request outcomes v w

abbrev pub Unanswered : Call → (v w : LinkView) → ClientEnd → Type 0
Unanswered call v w end = UnansweredOver link_relations call v w end

abbrev pub EndsWith : {A : Type 0} → Next A → (v w : LinkView) → Result A ClientEnd → Type 0
EndsWith next v w given = EndsWithOver link_relations next v w given

abbrev pub Follows : {A : Type 0} → (List Outcome → Next A) → (v w : LinkView) → Result A ClientEnd → Type 0
Follows request v w given = FollowsOver link_relations request v w given
