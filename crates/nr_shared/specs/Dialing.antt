-- A lost link is left: it is hung up, and the next one is dialled; or the requester can't be reopened, and the link stays.
use Rattle.std.specs.Prelude.{◌≡◌, ⊤, ℕ, List, Option, None, Some}
use Rattle.nr_outside.specs.Faults.{Rises}
use Rattle.nr_links.specs.Asked.{Asks}
use Rattle.nr_links.specs.Links.{EndsLink, HasOpenLink, IsNewLink, IsTold, LinkLog, MakesLink, ended_link}
use Rattle.nr_shared.specs.declared.entry.Stop.{Stop}
use Rattle.nr_shared.specs.declared.entry.Stop.TheVariants as causes

-- ---- The two halves of a link

-- There is a link that can be hung up: its halves have one number, and fewer links were hung up than made. Or there is none.
abbrev pub HasLink : {I O D : Type 0} → (source_link : I → ℕ) → (sink_link : O → ℕ) → (ended : D → Option LinkLog) → Option I → Option O → D → Type 0
HasLink source_link sink_link ended (Some source) (Some sink) dialer = (source_link source ≡ sink_link sink) × HasOpenLink (ended dialer)
HasLink source_link sink_link ended None None dialer = ⊤
HasLink source_link sink_link ended source sink dialer = ⊥

-- its end, if there is one
abbrev pub LinkHungUp : {I O : Type 0} → (source_link : I → ℕ) → (left given : I → Option (List ℕ)) → (taken : O → Option (List ℕ)) → Option I → Option O → (ended ended' : Option LinkLog) → Type 0
LinkHungUp source_link left given taken (Some source) (Some sink) ended ended' = EndsLink ended ended' (ended_link (source_link source) (given source) (left source) (taken sink))
LinkHungUp source_link left given taken source sink ended ended' = ended' ≡ ended

-- What became of a dial. The next link was made: it is new, its halves have one number, the address was asked for, and the dialer's count is as it was. Or there is none, and the count rose.
abbrev pub IsNext : {I O : Type 0} → (source_link : I → ℕ) → (left given : I → Option (List ℕ)) → (source_faults : I → ℕ) → (sink_link : O → ℕ) → (taken : O → Option (List ℕ)) → (sink_faults : O → ℕ) → Option I → Option O
    → (addr : List ℕ) → (asked asked' : Option (List (List ℕ))) → (ended ended' : Option LinkLog) → (faults faults' : ℕ) → Type 0
IsNext source_link left given source_faults sink_link taken sink_faults (Some source) (Some sink) addr asked asked' ended ended' faults faults' =
    (source_link source ≡ sink_link sink)
    × (IsNewLink (given source) (taken sink) (source_faults source) (sink_faults sink) × (Asks asked asked' addr × (MakesLink ended ended' × (IsTold ended' (given source) (left source) (taken sink) × (faults' ≡ faults)))))
IsNext source_link left given source_faults sink_link taken sink_faults None None addr asked asked' ended ended' faults faults' = (asked' ≡ asked) × ((ended' ≡ ended) × Rises faults faults')
IsNext source_link left given source_faults sink_link taken sink_faults source sink addr asked asked' ended ended' faults faults' = ⊥

-- The link that there is was hung up, and then this address was dialled once.
pub record DialsNext {I O D : Type 0} (source_link : I → ℕ) (left given : I → Option (List ℕ)) (source_faults : I → ℕ) (sink_link : O → ℕ) (taken : O → Option (List ℕ)) (sink_faults : O → ℕ) (asked : D → Option (List (List ℕ))) (ended : D → Option LinkLog) (faults : D → ℕ)
    (source source' : Option I) (sink sink' : Option O) (dialer dialer' : D) (addr : List ℕ) : Type 0 where
  pub log : Option LinkLog
  pub hung_up : LinkHungUp source_link left given taken source sink (ended dialer) log
  pub next : IsNext source_link left given source_faults sink_link taken sink_faults source' sink' addr (asked dialer) (asked dialer') log (ended dialer') (faults dialer) (faults dialer')

-- ---- A redial

-- the cause is that a lost link can't be left
abbrev pub CannotReopen : Stop → Type 0
CannotReopen (causes.Spent left need) = ⊤
CannotReopen causes.NotReopened = ⊤
CannotReopen cause = ⊥
