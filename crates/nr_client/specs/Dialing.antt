-- What a dialer did if no session was opened.
use Rattle.std.specs.Prelude.{◌≡◌, ℕ, List, Option, IfSome}
use Rattle.nr_outside.specs.Faults.{Rises}
use Rattle.nr_links.specs.Asked.{Asks}
use Rattle.nr_links.specs.Links.{CountsLost, EndsLink, IsNewLink, IsTold, LinkLog, MakesLink, ended_link}
use Rattle.nr_client.specs.declared.client_end.ClientEnd.{ClientEnd}
use Rattle.nr_client.specs.declared.client_end.ClientEnd.TheVariants as client

-- what is known of a dialer: the addresses of its links, its links, and its counts
pub record DialerAt : Type 0 where
  pub asked : Option (List (List ℕ))
  pub ended : Option LinkLog
  pub lost : ℕ
  pub faults : ℕ

abbrev pub dialer_at : Option (List (List ℕ)) → Option LinkLog → (lost faults : ℕ) → DialerAt
dialer_at asked ended lost faults = record { asked = asked; ended = ended; lost = lost; faults = faults }

-- how many credits a session wishes for
abbrev pub session_credits : ℕ
session_credits = 16

-- It failed: it made no link.
pub record MakesNone (before after : DialerAt) : Type 0 where
  pub asked : after.asked ≡ before.asked
  pub ended : after.ended ≡ before.ended
  pub lost : after.lost ≡ before.lost
  pub failed : Rises before.faults after.faults

-- It made a link to this address, which was hung up as new as it was.
pub record HangsUpNew (addr : List ℕ) (before after : DialerAt) : Type 0 where
  pub asked : Asks before.asked after.asked addr
  pub log : Option LinkLog
  pub made : MakesLink before.ended log
  pub number : ℕ
  pub counts : IfSome before.ended (λ known. known.made ≡ number)
  pub given : Option (List ℕ)
  pub left : Option (List ℕ)
  pub taken : Option (List ℕ)
  pub source_faults : ℕ
  pub sink_faults : ℕ
  pub fresh : IsNewLink given taken source_faults sink_faults
  pub told : IsTold log given left taken
  pub ended : EndsLink log after.ended (ended_link number given left taken)
  pub lost : CountsLost source_faults sink_faults before.lost after.lost
  pub unfailing : after.faults ≡ before.faults

-- A session to this address was not opened: the dialer failed; or memory ran out, and the link was hung up.
abbrev pub OpenFails : ClientEnd → List ℕ → (before after : DialerAt) → Type 0
OpenFails client.DialFault addr before after = MakesNone before after
OpenFails client.Memory addr before after = HangsUpNew addr before after
OpenFails end addr before after = ⊥
