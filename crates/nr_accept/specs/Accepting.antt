-- Links that are taken one after another: of each a job is started, or it is served here.
use Rattle.std.specs.Prelude.{◌≡◌, ℕ, ◌+◌, ◌⊎◌, List, [], ◌∷◌, ◌++◌, Option, None, Some, IfSome}
use Rattle.nr_outside.specs.Faults.{Rises}
use Rattle.nr_links.specs.Links.{EndedLink, LinkLog, CountsLost, EndsLink, IsNewLink, IsTold, MakesLink}
use Rattle.nr_accept.specs.declared.fault.ServeFault.{ServeFault}
use Rattle.nr_accept.specs.declared.fault.ServeFault.TheVariants as faults

-- Between two links: what is known of the links of the acceptor, how many of them were lost, how many jobs were started,
-- and what is known of what makes the jobs.
pub record Between (V : Type 0) : Type 0 where
  pub ended : Option LinkLog
  pub lost : ℕ
  pub started : ℕ
  pub view : V

abbrev pub between : {V : Type 0} → Option LinkLog → (lost started : ℕ) → V → Between V
between ended lost started view = record { ended = ended; lost = lost; started = started; view = view }

-- A link was accepted, and the spawner counted one job of a link more as started. That it is the job of this link is no
-- clause: such a job owns the source and the sink of one link. `Makes` says what the making of a job leaves.
pub record StartsLink {V : Type 0} (Makes : V → V → Type 0) (before after : Between V) : Type 0 where
  pub made : MakesLink before.ended after.ended
  pub lost : after.lost ≡ before.lost
  pub started : after.started ≡ before.started + 1
  pub view : Makes before.view after.view

-- A link was accepted, served to its end, and hung up: its source, and the sink that has the same number. `opened` is the
-- link as it was accepted, `closed` as it was hung up. `Served` says how it was served, with the fault counts of its
-- source and of its sink, which were 0 at first.
pub record ServesLink {V E : Type 0} (Served : V → EndedLink → EndedLink → ℕ → ℕ → E → V → Type 0) (before after : Between V) (end : E) : Type 0 where
  pub opened : EndedLink
  pub closed : EndedLink
  pub log : Option LinkLog
  pub source_faults : ℕ
  pub sink_faults : ℕ
  pub fresh : IsNewLink opened.given opened.taken 0 0
  pub told : IsTold log opened.given opened.left opened.taken
  pub numbered : IfSome before.ended (λ log. log.made ≡ opened.number)
  pub same_number : closed.number ≡ opened.number
  pub served : Served before.view opened closed source_faults sink_faults end after.view
  pub made : MakesLink before.ended log
  pub hung_up : EndsLink log after.ended closed
  pub lost : CountsLost source_faults sink_faults before.lost after.lost
  pub started : after.started ≡ before.started

-- the ends of those that were served here, in order
abbrev pub end_of_link : {E : Type 0} → Option E → List E
end_of_link None = []
end_of_link (Some end) = end ∷ []

abbrev pub ends_of : {E : Type 0} → List (Option E) → List E
ends_of [] = []
ends_of (link ∷ links) = end_of_link link ++ ends_of links

module _ {V E : Type 0} (Makes : V → V → Type 0) (Served : V → EndedLink → EndedLink → ℕ → ℕ → E → V → Type 0) where
  -- one link
  abbrev pub TakesLink : Between V → Option E → Between V → Type 0
  TakesLink before None after = StartsLink Makes before after
  TakesLink before (Some end) after = ServesLink Served before after end

  -- links that were taken so, one after another
  abbrev pub ServesAll : Between V → List (Option E) → Between V → Type 0
  ServesAll before [] after = after ≡ before
  ServesAll before (link ∷ links) after = (mid : Between V) × (TakesLink before link mid × ServesAll mid links after)

-- links were taken so, and these are the ends of those that were served here
pub record Serves {V E : Type 0} (Makes : V → V → Type 0) (Served : V → EndedLink → EndedLink → ℕ → ℕ → E → V → Type 0) (before : Between V) (ends : List E) (after : Between V) : Type 0 where
  pub links : List (Option E)
  pub ends_are : ends_of links ≡ ends
  pub all : ServesAll Makes Served before links after

-- one link more was taken
pub record TakesOne {V E : Type 0} (Makes : V → V → Type 0) (Served : V → EndedLink → EndedLink → ℕ → ℕ → E → V → Type 0) (before : Between V) (ends ends' : List E) (after : Between V) : Type 0 where
  pub link : Option E
  pub ends_are : ends' ≡ ends ++ end_of_link link
  pub takes : TakesLink Makes Served before link after

-- the acceptor's fault count, if it stopped early
abbrev pub AcceptorCount : ServeFault → ℕ → ℕ → Type 0
AcceptorCount faults.AcceptFault before after = Rises before after
AcceptorCount faults.Memory before after = after ≡ before

-- the fault count of a spawner: it rises if and only if it hands the job back
abbrev pub HandsBack : {E : Type 0} → Option E → ℕ → ℕ → Type 0
HandsBack None before after = after ≡ before
HandsBack (Some end) before after = Rises before after

-- no job was handed back, or the count of the spawner rose
abbrev pub BackCount : {E : Type 0} → List E → ℕ → ℕ → Type 0
BackCount ends before after = (ends ≡ []) ⊎ Rises before after
