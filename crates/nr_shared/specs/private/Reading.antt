-- What the pass that feeds does with the source and the dialer of a link.
use Rattle.std.specs.Prelude.{◌≡◌, ⊤, ◌⊎◌, ℕ, false, List, [], ◌∷◌, ◌++◌, Option, None, Some}
use Rattle.nr_links.specs.Links.{LinkLog}
use Rattle.nr_reduce.specs.declared.call.Refused.{Refused}
use Rattle.nr_reduce.specs.declared.call.Refused.TheVariants as refusals
use Rattle.nr_shared.specs.declared.entry.Entry.{Entry}
use Rattle.nr_shared.specs.declared.entry.Stop.{Stop}
use Rattle.nr_shared.specs.declared.entry.Stop.TheVariants as causes
use Rattle.nr_shared.specs.Dialing.{CannotReopen, DialsNext, HasLink}
use Rattle.nr_shared.specs.Draining.{initial_sink, rejoined_after, stopped_after}
use Rattle.nr_shared.specs.Histories.{PresentLink, present}
use Rattle.nr_shared.specs.Output.{MayRejoin}
use Rattle.nr_shared.specs.Standing.{KeepsSinkOf}

-- why no more is read of a link: a read failed, the source is at its end, or the maximum was read
abbrev pub IsReadEnd : Stop → Type 0
IsReadEnd causes.LinkRead = ⊤
IsReadEnd causes.Closed = ⊤
IsReadEnd causes.Budget = ⊤
IsReadEnd cause = ⊥

-- the cause that stands for a refusal of a reopening
abbrev pub cause_of_refusal : Refused → Stop
cause_of_refusal (refusals.Spent left need) = causes.Spent left need
cause_of_refusal why = causes.NotReopened

-- what the history tells of the link at hand, but for what is written
abbrev pub read_part : PresentLink → PresentLink
read_part l = record l { written = []; write_failed = false }

-- both halves of a link, if they are there
abbrev pub both : {I O : Type 0} → Option I → Option O → Option (I × O)
both (Some source) (Some sink) = Some (source, sink)
both source sink = None

-- The history is the same, and the source and the dialer are as they were.
abbrev pub IsUnmoved : {I D : Type 0} → (h k : List Entry) → Option I → Option I → D → D → Type 0
IsUnmoved h k source source' dialer dialer' = (k ≡ h) × ((source' ≡ source) × (dialer' ≡ dialer))

-- The lost link was left: the Rejoin is added, with the sink of the next link. The link was hung up, and the next one was dialled. `was` is the sink that was left.
pub record Leaves {I O D : Type 0} (source_link : I → ℕ) (left given : I → Option (List ℕ)) (source_faults : I → ℕ) (sink_link : O → ℕ) (taken : O → Option (List ℕ)) (sink_faults : O → ℕ) (asked : D → Option (List (List ℕ))) (ended : D → Option LinkLog) (faults : D → ℕ)
    (h k : List Entry) (source source' : Option I) (dialer dialer' : D) (addr : List ℕ) : Type 0 where
  pub was : Option O
  pub sink : Option O
  pub stood : KeepsSinkOf sink_link taken sink_faults was (present h)
  pub seen : k ≡ h ++ rejoined_after h (initial_sink sink_link taken sink_faults sink) ∷ []
  pub dials : DialsNext source_link left given source_faults sink_link taken sink_faults asked ended faults source source' was sink dialer dialer' addr

-- The requester couldn't be reopened: why is added. The source and the dialer are as they were.
pub record StaysLost {I D : Type 0} (h k : List Entry) (source source' : Option I) (dialer dialer' : D) : Type 0 where
  pub cause : Stop
  pub cannot : CannotReopen cause
  pub seen : k ≡ h ++ stopped_after h cause ∷ []
  pub source_is : source' ≡ source
  pub dialer_is : dialer' ≡ dialer

-- a lost link was left; or it is the last one
pub record Redials {I O D : Type 0} (source_link : I → ℕ) (left given : I → Option (List ℕ)) (source_faults : I → ℕ) (sink_link : O → ℕ) (taken : O → Option (List ℕ)) (sink_faults : O → ℕ) (asked : D → Option (List (List ℕ))) (ended : D → Option LinkLog) (faults : D → ℕ)
    (h k : List Entry) (source source' : Option I) (dialer dialer' : D) (addr : List ℕ) : Type 0 where
  pub may : MayRejoin h
  pub does : Leaves source_link left given source_faults sink_link taken sink_faults asked ended faults h k source source' dialer dialer' addr ⊎ StaysLost h k source source' dialer dialer'

-- If a lost link is left, it can be hung up with the sink that the history stands for, whichever that is.
abbrev pub CanHangUp : {I O D : Type 0} → (source_link : I → ℕ) → (sink_link : O → ℕ) → (taken : O → Option (List ℕ)) → (sink_faults : O → ℕ) → (ended : D → Option LinkLog) → List Entry → Option I → D → Type 0
CanHangUp {O = O} source_link sink_link taken sink_faults ended h source dialer = MayRejoin h → (sink : Option O) → KeepsSinkOf sink_link taken sink_faults sink (present h) → HasLink source_link sink_link ended source sink dialer
