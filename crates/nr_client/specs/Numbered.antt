-- A link of a client with a number, which is dialled again if it is lost: how it is opened, and closed.
use Rattle.std.specs.Prelude.{◌≡◌, ⊤, ℕ, ◌⊎◌, List, [], ◌∷◌, Option, None, Some}
use Rattle.nr_outside.specs.Faults.{Rises}
use Rattle.nr_link.specs.declared.agreement.SideTerms.{SideTerms}
use Rattle.nr_links.specs.Links.{CountsLost, EndsLink, LinkLog, ended_link}
use Rattle.nr_requester.specs.AfterCalls.{opened_as}
use Rattle.nr_requester.specs.RequesterState.{RequesterSide}
use Rattle.nr_turnstile.specs.Passes.{mine_of, seen_by}
use Rattle.nr_shared.specs.declared.call_rule.AnyCall.{AnyCall}
use Rattle.nr_shared.specs.declared.shared.Pass.{Pass}
use Rattle.nr_shared.specs.declared.source_reader.InitialSource.{InitialSource}
use Rattle.nr_shared.specs.Feeding.{address_of}
use Rattle.nr_shared.specs.Numbered.{GivesUpDialled, NumberedOpened}
use Rattle.nr_shared.specs.Opening.{GivesBack}
use Rattle.nr_client.specs.declared.client_end.ClientEnd.{ClientEnd}
use Rattle.nr_client.specs.declared.client_end.ClientEnd.TheVariants as client
use Rattle.nr_client.specs.Dialing.{session_credits}
use Rattle.nr_client.specs.LinkParts.{RepresentsNewLink}

-- a requester as a session opens it with these terms: nothing has moved
pub record IsNewRequester (terms : SideTerms) (r : RequesterSide) : Type 0 where
  pub state : r ≡ opened_as 1 1 session_credits terms r.staging
  pub stands : RepresentsNewLink r session_credits terms

-- A new requester is shared over a link that the dialer made to this address. If the link is lost, the next one is dialled, so often at most. The pass has seen
-- the initial state alone.
pub record OpensNumbered {I O D : Type 0} (source_link : I → ℕ) (left given : I → Option (List ℕ)) (source_faults : I → ℕ) (asked : D → Option (List (List ℕ))) (ended : D → Option LinkLog) (faults : D → ℕ)
    (tries : ℕ) (terms : SideTerms) (addr : List ℕ) (dialer : D) (pass : Pass I O AnyCall D) : Type 0 where
  pub requester : RequesterSide
  pub new : IsNewRequester terms requester
  pub opened : NumberedOpened source_link left given source_faults asked ended faults requester dialer addr tries pass

-- It was not opened. The dialer failed: it made no link. Or memory ran out: before the dial; or after it, and the link was hung up.
abbrev pub NumberedFails : {I O D : Type 0} → (source_link : I → ℕ) → (left given : I → Option (List ℕ)) → (source_faults : I → ℕ) → (sink_link : O → ℕ) → (taken : O → Option (List ℕ)) → (sink_faults : O → ℕ) → (asked : D → Option (List (List ℕ))) → (ended : D → Option LinkLog) → (faults : D → ℕ)
    → (tries : ℕ) → SideTerms → (addr : List ℕ) → D → ClientEnd → D → Type 0
NumberedFails source_link left given source_faults sink_link taken sink_faults asked ended faults tries terms addr dialer client.DialFault dialer' =
    (asked dialer' ≡ asked dialer) × ((ended dialer' ≡ ended dialer) × Rises (faults dialer) (faults dialer'))
NumberedFails source_link left given source_faults sink_link taken sink_faults asked ended faults tries terms addr dialer client.Memory dialer' =
    (dialer' ≡ dialer)
    ⊎ ((r : RequesterSide) × (back : RequesterSide) × (IsNewRequester terms r
    × GivesUpDialled source_link left given source_faults sink_link taken sink_faults asked ended faults (λ call form. ⊤) r dialer addr tries back dialer'))
NumberedFails source_link left given source_faults sink_link taken sink_faults asked ended faults tries terms addr dialer end dialer' = ⊥

-- the link at hand is hung up, if there is one
abbrev pub HangsUpLast : {I O D : Type 0} → (source_link : I → ℕ) → (left given : I → Option (List ℕ)) → (source_faults : I → ℕ) → (taken : O → Option (List ℕ)) → (sink_faults : O → ℕ) → (asked : D → Option (List (List ℕ))) → (ended : D → Option LinkLog) → (lost faults : D → ℕ) → Option (I × O) → D → D → Type 0
HangsUpLast source_link left given source_faults taken sink_faults asked ended lost faults None dialer dialer' = dialer' ≡ dialer
HangsUpLast source_link left given source_faults taken sink_faults asked ended lost faults (Some (source, sink)) dialer dialer' =
    EndsLink (ended dialer) (ended dialer') (ended_link (source_link source) (given source) (left source) (taken sink))
    × (CountsLost (source_faults source) (sink_faults sink) (lost dialer) (lost dialer') × ((asked dialer' ≡ asked dialer) × (faults dialer' ≡ faults dialer)))

-- The requester, the link and the dialer were given back as the complete history says, of which the caller has seen a beginning; and the link was hung up.
pub record ClosesNumbered {I O D : Type 0} (source_link : I → ℕ) (left given : I → Option (List ℕ)) (source_faults : I → ℕ) (sink_link : O → ℕ) (taken : O → Option (List ℕ)) (sink_faults : O → ℕ) (asked : D → Option (List (List ℕ))) (ended : D → Option LinkLog) (lost faults : D → ℕ)
    (pass : Pass I O AnyCall D) (dialer : D) : Type 0 where
  pub first : InitialSource I O AnyCall D
  pub source : seen_by pass.source ≡ first ∷ []
  pub requester : RequesterSide
  pub link : Option (I × O)
  pub between : D
  pub back : GivesBack source_link left given source_faults sink_link taken sink_faults asked ended faults (λ call form. ⊤) (seen_by pass.main) (mine_of pass.main) first.source.value first.dialer.value (address_of first) first.read requester link between
  pub hung_up : HangsUpLast source_link left given source_faults taken sink_faults asked ended lost faults link between dialer
