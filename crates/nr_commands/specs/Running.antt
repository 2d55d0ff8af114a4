-- A command of a client, from its words to its end.
use Rattle.std.specs.Prelude.{◌≡◌, ℕ, List, IfSome, Result, Ok, Err}
use Rattle.nr_outside.specs.Streams.{SinkAt, SourceAt, Writes, WritesSome}
use Rattle.nr_links.specs.Asked.{Asks as AsksFor}
use Rattle.nr_links.specs.Links.{CountsLost, EndsLink, IsNewLink, IsTold, MakesLink, ended_link}
use Rattle.nr_link.specs.Agreement.{terms_with}
use Rattle.nr_link.specs.declared.agreement.SideTerms.{SideTerms}
use Rattle.nr_requester.specs.AfterCalls.{opened_as}
use Rattle.nr_words.specs.Lines.{Text}
use Rattle.nr_words.specs.declared.commands.Action.{Action}
use Rattle.nr_words.specs.declared.commands.Action.TheVariants as actions
use Rattle.nr_words.specs.declared.commands.Client.{Client}
use Rattle.nr_client.specs.declared.client_end.ClientEnd.{ClientEnd}
use Rattle.nr_client.specs.declared.client_end.ClientEnd.TheVariants as client
use Rattle.nr_client.specs.Calls.{link_relations}
use Rattle.nr_client.specs.Dialing.{DialerAt, OpenFails, session_credits}
use Rattle.nr_client.specs.LinkParts.{RepresentsNewLink}
use Rattle.nr_client.specs.Relations.{CallRelations}
use Rattle.nr_commands.specs.Commands.{GetsOver, ListsOver, MakesDirectoryOver, MakesSymlinkOver, MountsAndPrintsOver, PutsOver, ReadsLinkOver, RemovesOver, StatsOver}
use Rattle.nr_commands.specs.Sessions.{Part, PartOver, SessionAt, sink_of, source_of}

-- what the client of a command says of the Sends of its link
abbrev pub terms_of : Client Text → SideTerms
terms_of c = terms_with c.units c.invalidates

-- A session was opened over a new link to this address, of this number, on these terms. Its requester has made no marks.
pub record Opens (addr : List ℕ) (terms : SideTerms) (before after : DialerAt) (s : SessionAt) : Type 0 where
  pub asks : AsksFor before.asked after.asked addr
  pub makes : MakesLink before.ended after.ended
  pub number : ℕ
  pub counts : IfSome before.ended (λ log. log.made ≡ number)
  pub told : IsTold after.ended s.bytes.given s.bytes.left s.bytes.taken
  pub fresh : IsNewLink s.bytes.given s.bytes.taken s.source_faults s.sink_faults
  pub nothing_read : s.bytes.read ≡ 0
  pub requester : s.requester ≡ opened_as 1 1 session_credits terms s.requester.staging
  pub stands : RepresentsNewLink s.requester session_credits terms
  pub none_lost : after.lost ≡ before.lost
  pub unfailing : after.faults ≡ before.faults

-- The link of this number was hung up, with its source and its sink as they were then.
pub record HangsUp (number : ℕ) (source : SourceAt) (sink : SinkAt) (before after : DialerAt) : Type 0 where
  pub ends : EndsLink before.ended after.ended (ended_link number source.given source.left sink.taken)
  pub lost : CountsLost source.faults sink.faults before.lost after.lost
  pub asked : after.asked ≡ before.asked
  pub unfailing : after.faults ≡ before.faults

-- a session was closed: its link, of this number, was hung up
abbrev pub Closes : (number : ℕ) → SessionAt → (before after : DialerAt) → Type 0
Closes number s before after = HangsUp number (source_of s) (sink_of s) before after

-- the part of each command up to its text; `put` reads the input, and `get` writes to the output
abbrev pub text_of_over : {V : Type 0} → CallRelations V → (uid gid : ℕ) → List ℕ → Action Text → (input input' : SourceAt) → (out out' : SinkAt) → PartOver V (List ℕ)
text_of_over rel uid gid export actions.Mount input input' out out' s s' text = MountsAndPrintsOver rel uid gid export s s' text × ((input' ≡ input) × (out' ≡ out))
text_of_over rel uid gid export (actions.List path) input input' out out' s s' text = ListsOver rel uid gid export path s s' text × ((input' ≡ input) × (out' ≡ out))
text_of_over rel uid gid export (actions.Stat path) input input' out out' s s' text = StatsOver rel uid gid export path s s' text × ((input' ≡ input) × (out' ≡ out))
text_of_over rel uid gid export (actions.ReadLink path) input input' out out' s s' text = ReadsLinkOver rel uid gid export path s s' text × ((input' ≡ input) × (out' ≡ out))
text_of_over rel uid gid export (actions.MakeDirectory path) input input' out out' s s' text = MakesDirectoryOver rel uid gid export path s s' text × ((input' ≡ input) × (out' ≡ out))
text_of_over rel uid gid export (actions.Remove path) input input' out out' s s' text = RemovesOver rel uid gid export path s s' text × ((input' ≡ input) × (out' ≡ out))
text_of_over rel uid gid export (actions.Link path target) input input' out out' s s' text = MakesSymlinkOver rel uid gid export path target s s' text × ((input' ≡ input) × (out' ≡ out))
text_of_over rel uid gid export (actions.Put path) input input' out out' s s' text = PutsOver rel uid gid export path input input' s s' text × (out' ≡ out)
text_of_over rel uid gid export (actions.Get path) input input' out out' s s' text = GetsOver rel uid gid export path out out' s s' text × (input' ≡ input)

abbrev pub text_of : (uid gid : ℕ) → List ℕ → Action Text → (input input' : SourceAt) → (out out' : SinkAt) → Part (List ℕ)
text_of uid gid export action input input' out out' = text_of_over link_relations uid gid export action input input' out out'

-- A text is printed, completely or, if the output fails, a proper prefix of it. Without a text nothing is printed.
abbrev pub IsPrinted : Result (List ℕ) ClientEnd → Result (Unit {0}) ClientEnd → (out out' : SinkAt) → Type 0
IsPrinted (Ok text) (Ok done) out out' = Writes out out' text
IsPrinted (Ok text) (Err client.OutputFault) out out' = WritesSome out out' text
IsPrinted (Ok text) (Err end) out out' = ⊥
IsPrinted (Err why) (Ok done) out out' = ⊥
IsPrinted (Err why) (Err end) out out' = (end ≡ why) × (out' ≡ out)

-- a command was done over a session, up to its result, and then its text was printed
pub record Prints (c : Client Text) (s s' : SessionAt) (input input' : SourceAt) (out out' : SinkAt) (result : Result (Unit {0}) ClientEnd) : Type 0 where
  pub text : Result (List ℕ) ClientEnd
  pub written : SinkAt
  pub made : text_of c.uid c.gid c.export c.action input input' out written s s' text
  pub prints : IsPrinted text result written out'

-- A command was done, up to its result: no session was opened; or one was, its requests were made, and it was closed.
pub data Runs (c : Client Text) (before after : DialerAt) (input input' : SourceAt) (out out' : SinkAt) (result : Result (Unit {0}) ClientEnd) : Type 0 where
  NotOpened : (end : ClientEnd) → result ≡ Err end → OpenFails end c.addr before after → input' ≡ input → out' ≡ out → Runs c before after input input' out out' result
  Opened : (dialed : DialerAt) → (s s' : SessionAt) → (opens : Opens c.addr (terms_of c) before dialed s) → Prints c s s' input input' out out' result → Closes opens.number s' dialed after →
      Runs c before after input input' out out' result
