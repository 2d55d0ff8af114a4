-- A gateway that a configuration asks for.
use Rattle.std.specs.Prelude.{◌≡◌, ℕ, ◌+◌, ◌++◌, List, [], ◌∷◌, length, Option, None, codes, IfSome}
use Rattle.std.specs.Fmt.{decimal}
use Rattle.nr_links.specs.Asked.{Asks}
use Rattle.nr_links.specs.Links.{MakesLink}
use Rattle.nr_link.specs.Agreement.{default_terms}
use Rattle.nr_turnstile.specs.Passes.{mine_of, seen_by}
use Rattle.nr_turnstile.specs.declared.turnstile.Pass.{Pass}
use Rattle.nr_words.specs.declared.gate_settings.GateSettings.{GateSettings}
use Rattle.nr_words.specs.Lines.{Text}
use Rattle.nr_shared.specs.Callers.{KeepsLaw}
use Rattle.nr_shared.specs.declared.entry.Entry.{Entry}
use Rattle.nr_shared.specs.declared.entry.Entry.TheVariants as entries
use Rattle.nr_shared.specs.declared.entry.InitialState.{InitialState}
use Rattle.nr_shared.specs.declared.requester_with_sink.RequesterWithSink.{RequesterWithSink}
use Rattle.nr_accept.specs.Accepting as accept
use Rattle.nr_gate.specs.GateLinks.{GatesLinks}
use Rattle.nr_gate.specs.declared.gate_end.GateEnd.{GateEnd}
use Rattle.nr_client.specs.Dialing.{DialerAt}
use Rattle.nr_client.specs.LinkParts.{RepresentsNewLink}
use Rattle.nr_serve.specs.Serving.{AcceptorAt, SpawnerAt}

-- how many credits the requester of a gateway wishes for
abbrev pub gate_credits : ℕ
gate_credits = 16

-- what is known of all that a gateway uses, but for its input and its output
pub record Around : Type 0 where
  pub acceptor : AcceptorAt
  pub dialer : DialerAt
  pub spawner : SpawnerAt

abbrev pub around : AcceptorAt → DialerAt → SpawnerAt → Around
around acceptor dialer spawner = record { acceptor = acceptor; dialer = dialer; spawner = spawner }

-- the dialer made one link, to this address, and hung up none
pub record Dials (addr : List ℕ) (before after : DialerAt) : Type 0 where
  pub asked : Asks before.asked after.asked addr
  pub made : MakesLink before.ended after.ended
  pub lost : after.lost ≡ before.lost
  pub unfailing : after.faults ≡ before.faults

-- A requester was opened over a new link with these credits, with one unit and without Sends with Invalidate, and shared
-- before it moved a byte; the link isn't dialled again. This is the history that a pass has seen, of which nothing is its own.
pub record OpensRemote (history : List Entry) (mine : List ℕ) : Type 0 where
  pub initial : InitialState
  pub history_is : history ≡ entries.Initial initial ∷ []
  pub own : mine ≡ []
  pub stands : RepresentsNewLink initial.requester gate_credits default_terms
  pub nothing_taken : IfSome initial.sink.taken (λ bytes. bytes ≡ [])
  pub no_fault : initial.sink.faults ≡ 0
  pub once : initial.tries ≡ None

-- The acceptor listened at the address of the configuration, and the remote server was dialled once. Links were taken
-- then: of each a job was started, or its connection was served here, and these are the ends of those. All jobs that were
-- started have ended. `first` is the gateway's own pass as the requester was shared, `last` after the links: the marks of what it
-- has seen keep the law of the client's side.
pub record GatesWith (O C : Type 0) (settings : GateSettings Text) (before after : Around) (ends : List GateEnd) : Type 0 where
  pub first : Pass (RequesterWithSink O C) Entry
  pub last : Pass (RequesterWithSink O C) Entry
  pub listens : Asks before.acceptor.asked after.acceptor.asked settings.listen
  pub dials : Dials settings.remote before.dialer after.dialer
  pub opens : OpensRemote (seen_by first) (mine_of first)
  pub gates : GatesLinks (accept.between before.acceptor.ended before.acceptor.lost before.spawner.started first) ends (accept.between after.acceptor.ended after.acceptor.lost after.spawner.started last)
  pub law : KeepsLaw (seen_by last)
  pub waited : after.spawner.ended ≡ after.spawner.started

-- All connections that a configuration asks for were taken.
pub record GatesConnections (O C : Type 0) (settings : GateSettings Text) (before after : Around) : Type 0 where
  pub ends : List GateEnd
  pub gates : GatesWith O C settings before after ends
  pub all : after.spawner.started + length ends ≡ before.spawner.started + settings.connections
  pub back : accept.BackCount ends before.spawner.faults after.spawner.faults
  pub unfailing : after.acceptor.faults ≡ before.acceptor.faults

-- what is printed at the end: the number of connections
unfoldable pub gated_text : ℕ → List ℕ
gated_text connections = codes "gated " ++ decimal connections ++ codes "\n"
