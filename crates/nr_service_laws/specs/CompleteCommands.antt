-- A command over a plain server that keeps its law is done, or ends for a cause that it has.
use Rattle.std.specs.Prelude.{◌≡◌, ⊤, ℕ, List, [], Option, Result, Ok, Err}
use Rattle.std.specs.Io.KnownBytes.{IsAtEnd}
use Rattle.nr_outside.specs.Faults.{Rises}
use Rattle.nr_outside.specs.Streams.{SinkAt, SourceAt}
use Rattle.nr_link.specs.declared.end.End.TheVariants as ends
use Rattle.nr_reduce.specs.declared.mark.LinkParameters.{LinkParameters}
use Rattle.nr_reduce.specs.declared.mark.Mark.{Mark}
use Rattle.nr_reduce.specs.Asked.{IsAll}
use Rattle.nr_reduce.specs.AtEachMark.{AtEachMark}
use Rattle.nr_reduce.specs.Matched.{Matched}
use Rattle.nr_link.specs.declared.agreement.SideTerms.{SideTerms}
use Rattle.nr_reduce.specs.Opening.{IsOpened, ClientOpened}
use Rattle.nr_reduce.specs.Served.{ServedMark}
use Rattle.nr_laws.specs.PlainLinks.{HasPlainReplies}
use Rattle.nr_laws.specs.Typed.{IsTyped}
use Rattle.nr_tree.specs.Sane.{IsSane}
use Rattle.nr_plain.specs.ReplyLaws.{plain_server}
use Rattle.nr_plain.specs.Setup.{Setup}
use Rattle.nr_words.specs.Lines.{Text}
use Rattle.nr_words.specs.declared.commands.Client.{Client}
use Rattle.nr_shared.specs.declared.call_end.CallEnd.TheVariants as calls
use Rattle.nr_client.specs.declared.client_end.ClientEnd.{ClientEnd}
use Rattle.nr_client.specs.declared.client_end.ClientEnd.TheVariants as client
use Rattle.nr_client.specs.Dialing.{DialerAt, session_credits}
use Rattle.nr_commands.specs.Running.{Runs, terms_of}
use Rattle.nr_commands.specs.Running.Runs.{NotOpened, Opened}
use Rattle.nr_commands.specs.Sessions.{SessionAt}
use Rattle.nr_service_laws.specs.CommandRuns.{IsCommandRun}
use Rattle.nr_service_laws.specs.Exchanges.{tells_text}
use Rattle.nr_service_laws.specs.ServedCommands.{client_marks}
use Rattle.nr_service_laws.specs.ServedLinks.{OwesNothing}

-- A run has both sides of a link, whose client has made these marks. The server keeps its law with each Wrote in full, the link is matched, and the
-- plain server that was opened with this setup answers its calls. Nothing is asked of what the client does.
pub record IsServedPlainly (setup : Setup) (opened : LinkParameters) (link : ℕ) (run both : List Mark) : Type 0 where
  pub client_side : client_marks link both ≡ run
  pub typed : IsTyped both
  pub served : AtEachMark (ServedMark IsAll opened link) [] both
  pub matched : Matched link both
  pub plain : HasPlainReplies (plain_server setup) link both

-- the client's side of the link is opened as a session on these terms opens it
pub record IsSession (opened : LinkParameters) (terms : SideTerms) : Type 0 where
  pub fine : IsOpened opened
  pub first_xid : opened.first_xid ≡ 1
  pub first_stag : opened.first_stag ≡ 1
  pub wished : ClientOpened opened session_credits terms

-- Each end that such a command may have, with its cause: a refusal by the server; a bad path; a limit; out of memory; a read or a write that
-- failed, whose fault count rose; or the server ended its stream.
abbrev pub EndsForCause : ClientEnd → (s s' : SessionAt) (input input' : SourceAt) (out out' : SinkAt) → Type 0
EndsForCause client.DialFault s s' input input' out out' = ⊥
EndsForCause (client.Link (calls.Ended end)) s s' input input' out out' = end ≡ ends.Memory
EndsForCause (client.Link calls.LinkRead) s s' input input' out out' = Rises s.source_faults s'.source_faults
EndsForCause (client.Link calls.LinkWrite) s s' input input' out out' = Rises s.sink_faults s'.sink_faults
EndsForCause (client.Link calls.Closed) s s' input input' out out' = IsAtEnd s'.bytes.left
EndsForCause (client.Link (calls.Tries n)) s s' input input' out out' = ⊥
EndsForCause (client.Link calls.DialFault) s s' input input' out out' = ⊥
EndsForCause (client.Link (calls.Spent left_over need)) s s' input input' out out' = ⊤
EndsForCause (client.Link (calls.TooLarge need room)) s s' input input' out out' = ⊤
EndsForCause (client.Link (calls.Budget count)) s s' input input' out out' = ⊤
EndsForCause (client.Link calls.Memory) s s' input input' out out' = ⊤
EndsForCause (client.Rpc kind code) s s' input input' out out' = ⊤
EndsForCause (client.Mount status) s s' input input' out out' = ⊤
EndsForCause (client.Nfs status) s s' input input' out out' = ⊤
EndsForCause client.Chunk s s' input input' out out' = ⊥
EndsForCause (client.Version low high) s s' input input' out out' = ⊥
EndsForCause (client.BadReply at reason) s s' input input' out out' = ⊥
EndsForCause (client.BadPath at) s s' input input' out out' = ⊤
EndsForCause client.InputFault s s' input input' out out' = Rises input.faults input'.faults
EndsForCause client.OutputFault s s' input input' out out' = Rises out.faults out'.faults
EndsForCause (client.Budget count) s s' input input' out out' = ⊤
EndsForCause client.Memory s s' input input' out out' = ⊤

abbrev pub ResultHasCause : Result (Unit {0}) ClientEnd → (s s' : SessionAt) (input input' : SourceAt) (out out' : SinkAt) → Type 0
ResultHasCause (Ok done) s s' input input' out out' = ⊤
ResultHasCause (Err end) s s' input input' out out' = EndsForCause end s s' input input' out out'

-- a session that was not opened: the dialer failed, and its count rose, or memory ran out
abbrev pub OpensForCause : ClientEnd → (before after : DialerAt) → Type 0
OpensForCause client.DialFault before after = Rises before.faults after.faults
OpensForCause client.Memory before after = ⊤
OpensForCause end before after = ⊥

abbrev pub CommandHasCause : (setup : Setup) (opened : LinkParameters) (link : ℕ) (c : Client Text) (before after : DialerAt) (input input' : SourceAt) (out out' : SinkAt) (result : Result (Unit {0}) ClientEnd)
    → (runs : Runs c before after input input' out out' result) → Type 0
CommandHasCause setup opened link c before after input input' out out' result (NotOpened end is fails same_input same_out) = OpensForCause end before after
CommandHasCause setup opened link c before after input input' out out' result (Opened dialed s s' opens prints closes) =
    (ran : IsCommandRun opened link s s' dialed.ended after.ended result (tells_text c.uid c.gid c.export c.action input input' out prints.written s s' prints.text prints.made)) →
    (both : List Mark) → IsServedPlainly setup opened link ran.run both → ResultHasCause result s s' input input' out out'

abbrev pub ServedCommandsHaveCauses : Type 0
ServedCommandsHaveCauses =
    (setup : Setup) (opened : LinkParameters) (link : ℕ) (c : Client Text) (before after : DialerAt) (input input' : SourceAt) (out out' : SinkAt) (result : Result (Unit {0}) ClientEnd)
    (runs : Runs c before after input input' out out' result) → IsSane setup.tree → IsSession opened (terms_of c) → CommandHasCause setup opened link c before after input input' out out' result runs

-- ---- If nothing fails

-- no fault count of the link, of the input or of the output rises
pub record IsUndisturbed (s s' : SessionAt) (input input' : SourceAt) (out out' : SinkAt) : Type 0 where
  pub source : Rises s.source_faults s'.source_faults → ⊥
  pub sink : Rises s.sink_faults s'.sink_faults → ⊥
  pub input_reads : Rises input.faults input'.faults → ⊥
  pub output_writes : Rises out.faults out'.faults → ⊥

-- The command is done; or the server refused a call, or its procedure failed; or a path is bad; or a limit was passed; or memory ran out; or the
-- server ended its stream, and no known byte of that is left.
abbrev pub IsComplete : Result (Unit {0}) ClientEnd → (left : Option (List ℕ)) → Type 0
IsComplete (Ok done) left = ⊤
IsComplete (Err (client.Rpc kind code)) left = ⊤
IsComplete (Err (client.Mount status)) left = ⊤
IsComplete (Err (client.Nfs status)) left = ⊤
IsComplete (Err (client.BadPath at)) left = ⊤
IsComplete (Err (client.Budget count)) left = ⊤
IsComplete (Err (client.Link (calls.Spent left_over need))) left = ⊤
IsComplete (Err (client.Link (calls.TooLarge need room))) left = ⊤
IsComplete (Err (client.Link (calls.Budget count))) left = ⊤
IsComplete (Err (client.Link (calls.Ended end))) left = end ≡ ends.Memory
IsComplete (Err (client.Link calls.Memory)) left = ⊤
IsComplete (Err client.Memory) left = ⊤
IsComplete (Err (client.Link calls.Closed)) left = IsAtEnd left
IsComplete (Err end) left = ⊥

abbrev pub CommandIsComplete : (setup : Setup) (opened : LinkParameters) (link : ℕ) (c : Client Text) (before after : DialerAt) (input input' : SourceAt) (out out' : SinkAt) (result : Result (Unit {0}) ClientEnd)
    → (runs : Runs c before after input input' out out' result) → Type 0
CommandIsComplete setup opened link c before after input input' out out' result (NotOpened end is fails same_input same_out) = (Rises before.faults after.faults → ⊥) → result ≡ Err client.Memory
CommandIsComplete setup opened link c before after input input' out out' result (Opened dialed s s' opens prints closes) =
    (ran : IsCommandRun opened link s s' dialed.ended after.ended result (tells_text c.uid c.gid c.export c.action input input' out prints.written s s' prints.text prints.made)) →
    (both : List Mark) → IsServedPlainly setup opened link ran.run both → IsUndisturbed s s' input input' out out' →
    IsComplete result s'.bytes.left × (OwesNothing opened link both → result ≡ Err (client.Link calls.Closed) → ⊥)

abbrev pub ServedCommandsComplete : Type 0
ServedCommandsComplete =
    (setup : Setup) (opened : LinkParameters) (link : ℕ) (c : Client Text) (before after : DialerAt) (input input' : SourceAt) (out out' : SinkAt) (result : Result (Unit {0}) ClientEnd)
    (runs : Runs c before after input input' out out' result) → IsSane setup.tree → IsSession opened (terms_of c) → CommandIsComplete setup opened link c before after input input' out out' result runs
