-- The status of a command of a client whose server is a plain one that keeps its law.
use Rattle.std.specs.Prelude.{◌≡◌, ℕ, ◌⊎◌, List, Option, Err}
use Rattle.std.specs.Io.KnownBytes.{IsAtEnd}
use Rattle.nr_outside.specs.Faults.{Rises}
use Rattle.nr_outside.specs.Streams.{SinkAt, SourceAt}
use Rattle.nr_reduce.specs.declared.mark.LinkParameters.{LinkParameters}
use Rattle.nr_reduce.specs.declared.mark.Mark.{Mark}
use Rattle.nr_tree.specs.Sane.{IsSane}
use Rattle.nr_plain.specs.Setup.{Setup}
use Rattle.nr_words.specs.Lines.{Text}
use Rattle.nr_words.specs.declared.commands.Client.{Client}
use Rattle.nr_client.specs.declared.client_end.ClientEnd.{ClientEnd}
use Rattle.nr_client.specs.Dialing.{DialerAt}
use Rattle.nr_commands.specs.Running.{Runs, terms_of}
use Rattle.nr_commands.specs.Running.Runs.{NotOpened, Opened}
use Rattle.nr_service_laws.specs.CommandRuns.{IsCommandRun}
use Rattle.nr_service_laws.specs.CompleteCommands.{IsServedPlainly, IsSession}
use Rattle.nr_service_laws.specs.Exchanges.{tells_text}
use Rattle.nr_service_laws.specs.ServedLinks.{OwesNothing}
use Rattle.nr_top.specs.Clients.{ClientEnds}
use Rattle.nr_top.specs.Clients.ClientEnds.{Done, NotDone}
use Rattle.nr_top.specs.Statuses as statuses

-- no count of what the command uses rises: of the dialer's faults and lost links, of the input, of the output, of what reports
pub record NoneRises (dialer dialer' : DialerAt) (input input' : SourceAt) (out out' err err' : SinkAt) : Type 0 where
  pub dials : Rises dialer.faults dialer'.faults → ⊥
  pub lost : Rises dialer.lost dialer'.lost → ⊥
  pub input_reads : Rises input.faults input'.faults → ⊥
  pub output_writes : Rises out.faults out'.faults → ⊥
  pub error_writes : Rises err.faults err'.faults → ⊥

-- 0: it was done. 2: memory ran out. 6 and 7: the server refused a call, or its procedure failed. 10: a path is bad. 11: a limit was passed.
abbrev pub IsAnsweredStatus : ℕ → Type 0
IsAnsweredStatus status =
    (status ≡ statuses.done)
    ⊎ ((status ≡ statuses.no_memory)
    ⊎ ((status ≡ statuses.refused)
    ⊎ ((status ≡ statuses.nfs_failed)
    ⊎ ((status ≡ statuses.bad_input)
    ⊎ (status ≡ statuses.over_budget)))))

-- Or 4: the server ended its stream, and no known byte of that is left.
abbrev pub IsCompleteStatus : ℕ → (left : Option (List ℕ)) → Type 0
IsCompleteStatus status left = IsAnsweredStatus status ⊎ ((status ≡ statuses.link_closed) × IsAtEnd left)

-- Of a command that was not done. The status is not 4 if the server owes nothing.
abbrev pub RunHasStatus : (setup : Setup) (opened : LinkParameters) (link : ℕ) (c : Client Text) (status : ℕ) (dialer dialer' : DialerAt) (input input' : SourceAt) (out out' err err' : SinkAt) (end : ClientEnd)
    → Runs c dialer dialer' input input' out out' (Err end) → Type 0
RunHasStatus setup opened link c status dialer dialer' input input' out out' err err' end (NotOpened why is fails same_input same_out) =
    NoneRises dialer dialer' input input' out out' err err' → status ≡ statuses.no_memory
RunHasStatus setup opened link c status dialer dialer' input input' out out' err err' end (Opened dialed s s' opens prints closes) =
    (ran : IsCommandRun opened link s s' dialed.ended dialer'.ended (Err end) (tells_text c.uid c.gid c.export c.action input input' out prints.written s s' prints.text prints.made)) →
    (both : List Mark) → IsServedPlainly setup opened link ran.run both → NoneRises dialer dialer' input input' out out' err err' →
    IsCompleteStatus status s'.bytes.left × (OwesNothing opened link both → IsAnsweredStatus status)

abbrev pub CommandHasStatus : (setup : Setup) (opened : LinkParameters) (link : ℕ) (c : Client Text) (status : ℕ) (dialer dialer' : DialerAt) (input input' : SourceAt) (out out' err err' : SinkAt)
    → ClientEnds c status dialer dialer' input input' out out' err err' → Type 0
CommandHasStatus setup opened link c status dialer dialer' input input' out out' err err' (Done is runs same) = status ≡ statuses.done
CommandHasStatus setup opened link c status dialer dialer' input input' out out' err err' (NotDone end runs reports) =
    RunHasStatus setup opened link c status dialer dialer' input input' out out' err err' end runs

abbrev pub ServedCommandsHaveStatuses : Type 0
ServedCommandsHaveStatuses =
    (setup : Setup) (opened : LinkParameters) (link : ℕ) (c : Client Text) (status : ℕ) (dialer dialer' : DialerAt) (input input' : SourceAt) (out out' err err' : SinkAt)
    (end : ClientEnds c status dialer dialer' input input' out out' err err') → IsSane setup.tree → IsSession opened (terms_of c) →
    CommandHasStatus setup opened link c status dialer dialer' input input' out out' err err' end
