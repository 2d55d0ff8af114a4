-- A command of a client with a number, from its words to its end. Its link is dialled again if it is lost.
use Rattle.std.specs.Prelude.{◌≡◌, ⊤, ℕ, List, [], ◌∷◌, Option, Some, Result, Ok, Err}
use Rattle.nr_outside.specs.Streams.{SinkAt, SourceAt}
use Rattle.nr_links.specs.Asked.{Asks as AsksFor}
use Rattle.nr_links.specs.Links.{IsNewLink, IsTold, MakesLink}
use Rattle.nr_link.specs.declared.agreement.SideTerms.{SideTerms}
use Rattle.nr_requester.specs.AfterCalls.{numbered_terms}
use Rattle.nr_requester.specs.RequesterState.{RequesterSide}
use Rattle.nr_shared.specs.declared.entry.Entry.TheVariants as entries
use Rattle.nr_shared.specs.declared.entry.InitialSink.{InitialSink}
use Rattle.nr_shared.specs.Opening.{GivesBack}
use Rattle.nr_words.specs.Lines.{Text}
use Rattle.nr_words.specs.declared.commands.NumberedClient.{NumberedClient}
use Rattle.nr_client.specs.declared.client_end.ClientEnd.{ClientEnd}
use Rattle.nr_client.specs.CallerViews.{CallerView, shared_relations}
use Rattle.nr_client.specs.Dialing.{DialerAt}
use Rattle.nr_client.specs.Numbered.{HangsUpLast, IsNewRequester, NumberedFails}
use Rattle.nr_commands.specs.Running.{IsPrinted, text_of_over}

-- What is known of the source and of the sink of a link: the link's number, the bytes and the fault count.
pub record SourceView : Type 0 where
  pub link : ℕ
  pub left : Option (List ℕ)
  pub given : Option (List ℕ)
  pub faults : ℕ

pub record SinkView : Type 0 where
  pub link : ℕ
  pub taken : Option (List ℕ)
  pub faults : ℕ

-- what the client says in the hellos of its links: its number, and what it says of its Sends
abbrev pub hello_terms : NumberedClient Text → SideTerms
hello_terms c = numbered_terms c.number c.client.units c.client.invalidates

-- No session was opened. The dialer failed: it made no link. Or memory ran out: before the dial; or after it, and the link was hung up.
abbrev pub OpensNone : ClientEnd → NumberedClient Text → (before after : DialerAt) → Type 0
OpensNone end c before after =
    NumberedFails {I = SourceView} {O = SinkView} (λ s. s.link) (λ s. s.left) (λ s. s.given) (λ s. s.faults) (λ k. k.link) (λ k. k.taken) (λ k. k.faults) (λ d. d.asked) (λ d. d.ended) (λ d. d.faults)
    c.tries (hello_terms c) c.client.addr before end after

-- A session was opened over a new link to this address. The history that its caller has seen is the initial state of a new requester, with the sink
-- of that link and the tries; no entry is the caller's own.
pub record OpensFirst (c : NumberedClient Text) (before dialed : DialerAt) (source : SourceView) (v : CallerView) : Type 0 where
  pub requester : RequesterSide
  pub new : IsNewRequester (hello_terms c) requester
  pub sink : InitialSink
  pub seen : v.seen ≡ entries.Initial (record { requester = requester; sink = sink; tries = Some c.tries }) ∷ []
  pub mine : v.mine ≡ []
  pub same : source.link ≡ sink.link
  pub fresh : IsNewLink source.given sink.taken source.faults sink.faults
  pub told : IsTold dialed.ended source.given source.left sink.taken
  pub asks : AsksFor before.asked dialed.asked c.client.addr
  pub makes : MakesLink before.ended dialed.ended
  pub unfailing : dialed.faults ≡ before.faults

-- The session was closed. The complete history begins with what its caller had seen. By it each link that was left was hung up with its bytes, and the next one
-- dialled to the same address, at most as often as the tries say; the link at hand, if there is one, has the bytes of its own, and was hung up.
pub record ClosesLast (c : NumberedClient Text) (source : SourceView) (dialed : DialerAt) (v : CallerView) (after : DialerAt) : Type 0 where
  pub requester : RequesterSide
  pub link : Option (SourceView × SinkView)
  pub between : DialerAt
  pub back : GivesBack {I = SourceView} {O = SinkView} {D = DialerAt} (λ s. s.link) (λ s. s.left) (λ s. s.given) (λ s. s.faults) (λ k. k.link) (λ k. k.taken) (λ k. k.faults) (λ d. d.asked) (λ d. d.ended) (λ d. d.faults)
      (λ call form. ⊤) v.seen v.mine source dialed c.client.addr 0 requester link between
  pub hung_up : HangsUpLast {I = SourceView} {O = SinkView} {D = DialerAt} (λ s. s.link) (λ s. s.left) (λ s. s.given) (λ s. s.faults) (λ k. k.taken) (λ k. k.faults) (λ d. d.asked) (λ d. d.ended) (λ d. d.lost) (λ d. d.faults)
      link between after

-- a command was done over a shared link, up to its result, and then its text was printed
pub record PrintsShared (c : NumberedClient Text) (v v' : CallerView) (input input' : SourceAt) (out out' : SinkAt) (result : Result (Unit {0}) ClientEnd) : Type 0 where
  pub text : Result (List ℕ) ClientEnd
  pub written : SinkAt
  pub made : text_of_over shared_relations c.client.uid c.client.gid c.client.export c.client.action input input' out written v v' text
  pub prints : IsPrinted text result written out'

-- A command was done, up to its result: no session was opened; or one was, its requests were made, and it was closed.
pub data RunsNumbered (c : NumberedClient Text) (before after : DialerAt) (input input' : SourceAt) (out out' : SinkAt) (result : Result (Unit {0}) ClientEnd) : Type 0 where
  NoneOpened : (end : ClientEnd) → result ≡ Err end → OpensNone end c before after → input' ≡ input → out' ≡ out → RunsNumbered c before after input input' out out' result
  FirstOpened : (dialed : DialerAt) → (source : SourceView) → (v v' : CallerView) → OpensFirst c before dialed source v → PrintsShared c v v' input input' out out' result
      → ClosesLast c source dialed v' after → RunsNumbered c before after input input' out out' result
