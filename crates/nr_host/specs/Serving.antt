-- Connections that a server serves, each beside the others or by itself.
use Rattle.std.specs.Prelude.{◌≡◌, ℕ, Bool, false, List, [], Option, IfSome}
use Rattle.nr_outside.specs.declared.moment.Moment.{Moment}
use Rattle.nr_links.specs.Links.{EndedLink, LinkLog}
use Rattle.nr_turnstile.specs.Rule.{Begins, in_order, longer}
use Rattle.nr_plain.specs.History.{PassView}
use Rattle.nr_accept.specs.Accepting as accept
use Rattle.nr_accept.specs.declared.fault.ServeFault.{ServeFault}
use Rattle.nr_host.specs.LinkServing.{IsLinkServed, LinkSinkCount, LinkSourceCount}
use Rattle.nr_host.specs.Steps.{outside, sink_state}
use Rattle.nr_host.specs.declared.connection_limits.ConnectionLimits.{ConnectionLimits}
use Rattle.nr_host.specs.declared.link_end.LinkEnd.{LinkEnd}

-- A server between two connections: what is known of the links of its acceptor, how many of them were lost, how many
-- jobs were started, and what its pass knows.
abbrev pub Between : Type 0
Between = accept.Between PassView

abbrev pub between : Option LinkLog → ℕ → ℕ → PassView → Between
between ended lost started view = accept.between ended lost started view

-- A job was made: the pass knows what it knew.
abbrev pub KeepsView : PassView → PassView → Type 0
KeepsView view view' = view' ≡ view

-- A link was accepted, and the spawner counted one job of a connection more as started. That it is the job of this link
-- is no clause: such a job owns a source and the sink of one link.
abbrev pub StartsLink : (before after : Between) → Type 0
StartsLink before after = accept.StartsLink KeepsView before after

-- what a pass that was split from another knows
abbrev pub split_off : PassView → PassView
split_off view = record { seen = view.seen; mine = [] }

-- a pass took in another one
pub record JoinsPass (view own view' : PassView) : Type 0 where
  pub seen : view'.seen ≡ longer view.seen own.seen
  pub begins : Begins view.seen view'.seen
  pub own_begins : Begins own.seen view'.seen
  pub mine : view'.mine ≡ in_order view.mine own.mine

-- A link was served to its end by a pass of its own, which the server's pass took in. `opened` is the link as it was
-- accepted, `closed` as it is hung up, with the fault counts of its source and its sink, which were 0. Its clock had given
-- nothing.
pub record ServesByPass (limits : ConnectionLimits) (records : Bool) (view : PassView) (opened closed : EndedLink) (source_faults sink_faults : ℕ) (end : LinkEnd) (view' : PassView) : Type 0 where
  pub gave : Option (List Moment)
  pub gave' : Option (List Moment)
  pub own : PassView
  pub new_clock : IfSome gave (λ given. given ≡ [])
  pub served : IsLinkServed limits records (outside opened.left opened.given (sink_state opened.taken 0 false) gave (split_off view))
      (outside closed.left closed.given (sink_state closed.taken sink_faults false) gave' own) end
  pub source_count : LinkSourceCount end 0 source_faults
  pub sink_count : LinkSinkCount end 0 sink_faults
  pub joins : JoinsPass view own view'

-- A link was accepted, served to its end by a pass of its own, and hung up: its source, and the sink that has the same
-- number.
abbrev pub ServesLink : (limits : ConnectionLimits) → (records : Bool) → (before after : Between) → (end : LinkEnd) → Type 0
ServesLink limits records before after end = accept.ServesLink (ServesByPass limits records) before after end

-- one link
abbrev pub TakesLink : (limits : ConnectionLimits) → (records : Bool) → Between → Option LinkEnd → Between → Type 0
TakesLink limits records before link after = accept.TakesLink KeepsView (ServesByPass limits records) before link after

-- links that were taken so, one after another
abbrev pub ServesAll : (limits : ConnectionLimits) → (records : Bool) → Between → List (Option LinkEnd) → Between → Type 0
ServesAll limits records before links after = accept.ServesAll KeepsView (ServesByPass limits records) before links after

-- links were taken so, and these are the ends of those that were served here
abbrev pub Serves : (limits : ConnectionLimits) → (records : Bool) → (before : Between) → (ends : List LinkEnd) → (after : Between) → Type 0
Serves limits records before ends after = accept.Serves KeepsView (ServesByPass limits records) before ends after

-- the acceptor's fault count, if the server stopped early
abbrev pub AcceptorCount : ServeFault → ℕ → ℕ → Type 0
AcceptorCount fault before after = accept.AcceptorCount fault before after

-- no job was handed back, or the count of the spawner rose
abbrev pub BackCount : List LinkEnd → ℕ → ℕ → Type 0
BackCount ends before after = accept.BackCount ends before after
