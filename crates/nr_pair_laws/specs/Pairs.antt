-- A command and a connection of a server as the two sides of one link.
use Rattle.std.specs.Prelude.{◌≡◌, ⊤, ℕ, Bool, ◌+◌, ◌<◌, ◌≤◌, ◌^◌, ◌||◌, true, List, [], ◌∷◌, ◌++◌, length, Result, Err}
use Rattle.std.specs.List.{AllByRecursion}
use Rattle.nr_outside.specs.Streams.{SinkAt, SourceAt}
use Rattle.nr_outside.specs.declared.moment.Moment.{Moment}
use Rattle.nr_link.specs.declared.end.End.{End}
use Rattle.nr_reduce.specs.declared.call.Call.{Call}
use Rattle.nr_reduce.specs.declared.call.Outcome.{Outcome}
use Rattle.nr_reduce.specs.declared.call.Outcome.TheVariants as outcomes
use Rattle.nr_reduce.specs.declared.mark.Entry.{Entry}
use Rattle.nr_reduce.specs.declared.mark.LinkParameters.{LinkParameters}
use Rattle.nr_reduce.specs.declared.mark.Mark.{Mark}
use Rattle.nr_reduce.specs.ClientState.{call_payload}
use Rattle.nr_reduce.specs.Journal.{AtPlace}
use Rattle.nr_reduce.specs.Matched.{Matched}
use Rattle.nr_reduce.specs.NumberedJournal.{number_heard}
use Rattle.nr_reduce.specs.Served.{Served}
use Rattle.nr_laws.specs.PlainLinks.{AtPlacesOn}
use Rattle.nr_laws.specs.Typed.{IsTyped}
use Rattle.nr_tree.specs.Sane.{IsSane}
use Rattle.nr_plain.specs.Added.{entries_of_call}
use Rattle.nr_plain.specs.History.{AreOfCalls, IsHistory, Opening, OverHistory, setup_in}
use Rattle.nr_plain.specs.ReplyLaws.{plain_server}
use Rattle.nr_plain.specs.Setup.{Setup}
use Rattle.nr_byte_laws.specs.InBytes.{IsInBytes}
use Rattle.nr_words.specs.Lines.{Text}
use Rattle.nr_words.specs.declared.commands.Client.{Client}
use Rattle.nr_shared.specs.declared.call_end.CallEnd.TheVariants as calls
use Rattle.nr_client.specs.declared.client_end.ClientEnd.{ClientEnd}
use Rattle.nr_client.specs.declared.client_end.ClientEnd.TheVariants as client
use Rattle.nr_client.specs.Dialing.{DialerAt}
use Rattle.nr_commands.specs.Running.{Runs, terms_of}
use Rattle.nr_commands.specs.Running.Runs.{NotOpened, Opened}
use Rattle.nr_host.specs.Connections.{IsOpenedWith, Outside, answers_of}
use Rattle.nr_host.specs.Ending.{Ended}
use Rattle.nr_host.specs.Steps.{IsServed, with_failed}
use Rattle.nr_host.specs.declared.connection_limits.ConnectionLimits.{ConnectionLimits}
use Rattle.nr_host.specs.declared.conn_end.ConnEnd.{ConnEnd}
use Rattle.nr_host.specs.declared.conn_end.ConnEnd.TheVariants as ends
use Rattle.nr_host_laws.specs.OwnMarks.{is_own, own_marks}
use Rattle.nr_service_laws.specs.CommandRuns.{IsCommandRun}
use Rattle.nr_service_laws.specs.CompleteCommands.{IsServedPlainly, IsSession}
use Rattle.nr_service_laws.specs.Exchanges.{Exchange, tells_text}
use Rattle.nr_service_laws.specs.Exchanges.Exchange.{Answered, Forgotten, GivenUp, HandedOver, Submitted}
use Rattle.nr_service_laws.specs.ServedCommands.{client_marks, is_client_mark}
use Rattle.nr_service_laws.specs.TypedCommands.{IsOfBytes}

-- ===== the two sides

-- a mark of the client or of the server of this link
abbrev pub IsOfSide : ℕ → Mark → Type 0
IsOfSide link mark = (is_client_mark link mark || is_own link mark) ≡ true

-- A list has the marks of both sides of a link and no others: its client made these, its server made those, and what
-- each side received the other had sent before.
pub record AreSidesOf (link : ℕ) (client_run server_run both : List Mark) : Type 0 where
  pub client_side : client_marks link both ≡ client_run
  pub server_side : own_marks link both ≡ server_run
  pub no_others : AllByRecursion (IsOfSide link) both
  pub matched : Matched link both

-- One run of a link has all that a connection did. Its server was opened so, and its pass had seen this journal when the
-- connection began. Each Wrote writes all output that is due. If the hello that it heard says no number, each call was answered at
-- its place in a journal that goes on from J with the entries of this connection and of others.
pub record IsConnectionRun (limits : ConnectionLimits) (first : Opening) (J : List Entry) (opened : LinkParameters) (link : ℕ) (before after : Outside) (end : ConnEnd) : Type 0 where
  pub read : ℕ
  pub failed : Bool
  pub ended : Ended limits read link before (with_failed failed after) end
  pub served : Served opened link ended.run
  pub history : IsHistory first J before.view.seen
  pub over : number_heard ended.run link ≡ 0 → OverHistory first J before.view (answers_of ended.run) after.view

-- A connection that ends otherwise than out of memory has such a run.
abbrev pub ConnectionsHaveARun : Type 0
ConnectionsHaveARun =
    (limits : ConnectionLimits) (first : Opening) (J : List Entry) (opened : LinkParameters) (link : ℕ) (before after : Outside) (end : ConnEnd) →
    IsServed limits before after end → (end ≡ ends.Memory → ⊥) → IsOpenedWith limits opened → IsHistory first J before.view.seen →
    IsConnectionRun limits first J opened link before after end

-- ===== what a command's calls are answered with

-- The outcome of a call is the plain server's reply to it under some xid, at this place of a journal, and the entry that
-- the call adds, if it adds one, stands there.
pub record IsAnsweredAt (s : Setup) (J : List Entry) (call : Call) (o : Outcome) (place : ℕ) : Type 0 where
  pub xid : ℕ
  pub fits : xid < 2 ^ 32
  pub moment : Moment
  pub reply : List ℕ
  pub is : o ≡ outcomes.Reply reply
  pub at : AtPlace (plain_server s) J moment (call_payload xid call) place reply

-- the place after a call and what it added
abbrev pub place_after : (s : Setup) (J : List Entry) (call : Call) (o : Outcome) (place : ℕ) → IsAnsweredAt s J call o place → ℕ
place_after s J call o place a = place + length (entries_of_call a.moment (call_payload a.xid call) a.reply)

-- its place is at least `least`, and it and its entry are before `next`
abbrev pub IsAnsweredBetween : Setup → List Entry → Call → Outcome → (least next : ℕ) → Type 0
IsAnsweredBetween s J call o least next = (place : ℕ) × ((a : IsAnsweredAt s J call o place) × ((least ≤ place) × (place_after s J call o place a ≤ next)))

-- a call that was submitted and has no outcome yet, beside others, and the least place that it may have
pub record OpenCall : Type 0 where
  pub xid : ℕ
  pub call : Call
  pub least : ℕ

-- Each outcome that these exchanges hand over is the plain server's reply to its call at a place of this journal. That
-- place is at least `least`, and it comes after the entry of each call whose outcome was handed over before this call
-- was submitted. An outcome that is handed over by its xid is that of each call that waits under this xid.
abbrev pub AreAnsweredFrom : Setup → List Entry → (least : ℕ) → List OpenCall → List Exchange → Type 0
AreAnsweredFrom s J least waiting [] = least ≤ length J
AreAnsweredFrom s J least waiting (Answered call outcome ∷ made) =
    (place : ℕ) × ((a : IsAnsweredAt s J call outcome place) × ((least ≤ place) × AreAnsweredFrom s J (place_after s J call outcome place a) waiting made))
AreAnsweredFrom s J least waiting (Submitted xid call ∷ made) =
    AreAnsweredFrom s J least (record { xid = xid; call = call; least = least } ∷ waiting) made
AreAnsweredFrom s J least waiting (HandedOver xid outcome ∷ made) =
    (next : ℕ) × ((least ≤ next)
    × (AllByRecursion (λ (c : OpenCall). c.xid ≡ xid → IsAnsweredBetween s J c.call outcome c.least next) waiting
    × AreAnsweredFrom s J next waiting made))
AreAnsweredFrom s J least waiting (Forgotten call ∷ made) = AreAnsweredFrom s J least waiting made
AreAnsweredFrom s J least waiting (GivenUp xid ∷ made) = AreAnsweredFrom s J least waiting made

-- ===== a command that a connection serves

-- What follows for a command and a connection that are the sides of this list. The first two fields are the premises of
-- the laws of nr_service_laws, of nr_top_laws and of nr_laws on served commands.
pub record IsServedPair (s : Setup) (J more : List Entry) (opened : LinkParameters) (link : ℕ) (run : List Mark) (made : List Exchange) (result : Result (Unit {0}) ClientEnd) (end : ConnEnd) (both : List Mark) : Type 0 where
  pub served : IsServedPlainly s opened link run both
  pub at_places : AtPlacesOn (plain_server s) (J ++ more) link both
  pub answered : AreAnsweredFrom s (J ++ more) (length J) [] made
  -- the server's side ends for nothing that such a client sends, unless a write of it failed
  pub stays : (why : End) → end ≡ ends.Protocol why → result ≡ Err (client.Link calls.LinkWrite)

-- What is said of a command that opened a session, if its run and that of the connection are the sides of a list.
abbrev pub SaysOfPair : (limits : ConnectionLimits) (first : Opening) (J : List Entry) (opened : LinkParameters) (link : ℕ) (outside outside' : Outside) (end : ConnEnd) (connection : IsConnectionRun limits first J opened link outside outside' end)
    (Says : (run both : List Mark) → List Exchange → Type 0)
    (c : Client Text) (before after : DialerAt) (input input' : SourceAt) (out out' : SinkAt) (result : Result (Unit {0}) ClientEnd) → Runs c before after input input' out out' result → Type 0
SaysOfPair limits first J opened link outside outside' end connection Says c before after input input' out out' result (NotOpened why is fails same_input same_out) = ⊤
SaysOfPair limits first J opened link outside outside' end connection Says c before after input input' out out' result (Opened dialed s s' opens prints closes) =
    (ran : IsCommandRun opened link s s' dialed.ended after.ended result (tells_text c.uid c.gid c.export c.action input input' out prints.written s s' prints.text prints.made)) →
    (both : List Mark) → AreSidesOf link ran.run connection.ended.run both →
    Says ran.run both (tells_text c.uid c.gid c.export c.action input input' out prints.written s s' prints.text prints.made).made

-- A command and a connection that are the sides of a list of marks of their types (`IsTyped`), over a server with a sane
-- first tree. The server heard no number in the command's hello.
abbrev pub PairsAreServed : Type 0
PairsAreServed =
    (limits : ConnectionLimits) (first : Opening) (J : List Entry) (opened : LinkParameters) (link : ℕ) (outside outside' : Outside) (end : ConnEnd) (connection : IsConnectionRun limits first J opened link outside outside' end)
    (c : Client Text) (before after : DialerAt) (input input' : SourceAt) (out out' : SinkAt) (result : Result (Unit {0}) ClientEnd) (runs : Runs c before after input input' out out' result) →
    IsSession opened (terms_of c) → IsOpenedWith limits opened → IsSane (setup_in first).tree →
    SaysOfPair limits first J opened link outside outside' end connection
    (λ run both made. IsTyped both → (none : number_heard connection.ended.run link ≡ 0) × IsServedPair (setup_in first) J (connection.over none).more opened link run made result end both) c before after input input' out out' result runs

-- The marks are of their types if what the command names are bytes, with what a `put` reads, the first tree holds bytes,
-- and each entry of the journal is that of a call. Nothing is asked of the bytes of the link: what a side is fed the
-- other has sent.
abbrev pub PairsAreTyped : Type 0
PairsAreTyped =
    (limits : ConnectionLimits) (first : Opening) (J : List Entry) (opened : LinkParameters) (link : ℕ) (outside outside' : Outside) (end : ConnEnd) (connection : IsConnectionRun limits first J opened link outside outside' end)
    (c : Client Text) (before after : DialerAt) (input input' : SourceAt) (out out' : SinkAt) (result : Result (Unit {0}) ClientEnd) (runs : Runs c before after input input' out out' result) →
    IsOfBytes c input → IsInBytes (setup_in first).tree → AreOfCalls (setup_in first) [] J →
    SaysOfPair limits first J opened link outside outside' end connection (λ run both made. IsTyped both) c before after input input' out out' result runs

-- ===== one journal of several connections

-- What was answered at a place of a journal was answered at that place of each journal that goes on from it: so the calls
-- of two connections of a server, each over the journal that its pass has seen, are answered at places of the longer one.
abbrev pub AnsweredInLongerJournals : Type 0
AnsweredInLongerJournals =
    (s : Setup) (J more : List Entry) (call : Call) (o : Outcome) (place : ℕ) (a : IsAnsweredAt s J call o place) →
    (b : IsAnsweredAt s (J ++ more) call o place) × (place_after s (J ++ more) call o place b ≡ place_after s J call o place a)
