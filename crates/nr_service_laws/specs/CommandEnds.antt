-- Ends that no command has, whatever its server does, and those that it hasn't if its calls have replies.
use Rattle.std.specs.Prelude.{◌≡◌, ⊤, List, [], ◌∷◌, Result, Ok, Err}
use Rattle.nr_outside.specs.Streams.{SinkAt, SourceAt}
use Rattle.nr_words.specs.Lines.{Text}
use Rattle.nr_words.specs.declared.commands.Client.{Client}
use Rattle.nr_reduce.specs.declared.call.Outcome.{Outcome}
use Rattle.nr_reduce.specs.declared.call.Outcome.TheVariants as outcomes
use Rattle.nr_client.specs.declared.client_end.ClientEnd.{ClientEnd}
use Rattle.nr_client.specs.declared.client_end.ClientEnd.TheVariants as client
use Rattle.nr_client.specs.Dialing.{DialerAt}
use Rattle.nr_commands.specs.Running.{Runs}
use Rattle.nr_commands.specs.Running.Runs.{NotOpened, Opened}
use Rattle.nr_commands.specs.Sessions.{CountsFaults}
use Rattle.nr_service_laws.specs.Exchanges.{outcomes_in, tells_text}

-- an outcome is a reply; each of these is
abbrev pub IsReplyOutcome : Outcome → Type 0
IsReplyOutcome (outcomes.Reply payload) = ⊤
IsReplyOutcome outcome = ⊥

abbrev pub AreReplies : List Outcome → Type 0
AreReplies [] = ⊤
AreReplies (outcome ∷ later) = IsReplyOutcome outcome × AreReplies later

-- no end of a command for ERR_CHUNK, for another version, or of a dialer
abbrev pub CanFollowReplies : ClientEnd → Type 0
CanFollowReplies client.DialFault = ⊥
CanFollowReplies client.Chunk = ⊥
CanFollowReplies (client.Version low high) = ⊥
CanFollowReplies end = ⊤

abbrev pub ResultCanFollowReplies : {A : Type 0} → Result A ClientEnd → Type 0
ResultCanFollowReplies (Ok value) = ⊤
ResultCanFollowReplies (Err end) = CanFollowReplies end

-- A command that opened a session doesn't end for its dialer, and the fault counts of its link rise only if a call has no answer for that. If all
-- outcomes that it handed over are replies, it ends by them.
abbrev pub ExcludesEnds : (c : Client Text) (before after : DialerAt) (input input' : SourceAt) (out out' : SinkAt) (result : Result (Unit {0}) ClientEnd)
    → Runs c before after input input' out out' result → Type 0
ExcludesEnds c before after input input' out out' result (NotOpened end is fails same_input same_out) = ⊤
ExcludesEnds c before after input input' out out' result (Opened dialed s s' opens prints closes) =
    CountsFaults s s' result × (result ≡ Err client.DialFault → ⊥)
    × (AreReplies (outcomes_in (tells_text c.uid c.gid c.export c.action input input' out prints.written s s' prints.text prints.made).made) → ResultCanFollowReplies result)

abbrev pub RepliesExcludeEnds : Type 0
RepliesExcludeEnds =
    (c : Client Text) (before after : DialerAt) (input input' : SourceAt) (out out' : SinkAt) (result : Result (Unit {0}) ClientEnd)
    (runs : Runs c before after input input' out out' result) → ExcludesEnds c before after input input' out out' result runs
