-- A client's stream that a server reads to its end, and the connection that served it.
use Rattle.std.specs.Prelude.{◌≡◌, ℕ, ◌<◌, List, [], ◌++◌, length, map, None, Some}
use Rattle.std.specs.Io.KnownBytes.{Appends}
use Rattle.nr_wire.specs.declared.hello.Side.TheVariants.{Initiator, Responder}
use Rattle.nr_link.specs.Input.{input_of}
use Rattle.nr_reduce.specs.declared.mark.Mark.{Mark}
use Rattle.nr_reduce.specs.declared.mark.Entry.{Entry}
use Rattle.nr_reduce.specs.declared.mark.TaggedEntry.{TaggedEntry}
use Rattle.nr_reduce.specs.NumberedJournal.{entries_alone, number_heard}
use Rattle.nr_reduce.specs.declared.mark.LinkParameters.{LinkParameters}
use Rattle.nr_reduce.specs.AtEachMark.{AtEachMark}
use Rattle.nr_reduce.specs.History.{bytes_sent, bytes_received}
use Rattle.nr_reduce.specs.Matched.{IsPrefixOf}
use Rattle.nr_reduce.specs.Run.{server}
use Rattle.nr_reduce.specs.Served.{Served, ServedSoFar}
use Rattle.nr_plain.specs.Setup.{Setup}
use Rattle.nr_plain.specs.History.{Opening, setup_in}
use Rattle.nr_links.specs.Limits.{read_max}
use Rattle.nr_host.specs.Connections.{Outside, IsOwn, QuietMark, WriteMark, FrameMark, GivesAll, handled_in, refusals_of, IsOpenedWith}
use Rattle.nr_host.specs.Ending.{IsIdle}
use Rattle.nr_host.specs.Turns.{AreTurns, TakenOver, Turn, given_for, handled_at}
use Rattle.nr_host.specs.declared.connection_limits.ConnectionLimits.{ConnectionLimits}

-- Marks that a connection may have made when it has read the first bytes of this stream, or all: it fed them frame by
-- frame, executed each call that was complete, and then wrote what was due, before the next frame. It took a turn for
-- each call, over a journal that begins with the entries J, of whatever clients, and goes on with its own and those of
-- others.
pub record MayHaveMade (s : Setup) (J : List Entry) (opened : LinkParameters) (link : ℕ) (stream : List ℕ) (run : List Mark) : Type 0 where
  pub own : AtEachMark (λ earlier mark. IsOwn link mark) [] run
  pub begins : IsPrefixOf (bytes_received link Responder run) stream
  pub served : ServedSoFar opened link run
  pub quiet : AtEachMark (QuietMark opened link) [] run
  pub writes : AtEachMark (WriteMark opened link) [] run
  pub frames : AtEachMark (FrameMark opened link) [] run
  pub entries : List TaggedEntry
  pub journal : entries_alone entries ≡ J
  pub more : List TaggedEntry
  pub turns : List Turn
  pub handled : map handled_at turns ≡ handled_in run
  pub mine : List ℕ
  pub turned : AreTurns s (number_heard run link) (entries ++ more) (length entries) turns mine

-- A client's stream that a server with these limits reads to its end, after the entries J, unless a call of it is old: it
-- has fewer bytes than the maximum, ends the server's side at none of them if no call is refused, and ends at no byte or
-- after complete frames, when each call that it asks for can be answered.
pub record IsCompleteStream (limits : ConnectionLimits) (s : Setup) (J : List Entry) (stream : List ℕ) : Type 0 where
  pub within : length stream < read_max
  pub frames : (input_of Initiator stream).rest ≡ []
  pub stays : (opened : LinkParameters) (link : ℕ) (run : List Mark) → IsOpenedWith limits opened →
      MayHaveMade s J opened link stream run → refusals_of run ≡ [] → (server opened link run).ended ≡ None
  pub answered : (opened : LinkParameters) (link : ℕ) (run : List Mark) → IsOpenedWith limits opened →
      MayHaveMade s J opened link stream run → bytes_received link Responder run ≡ stream → IsIdle opened link run →
      (server opened link run).state.calls ≡ []

-- A connection served such a stream: it read and fed all of it and nothing else, the sink took all that was written,
-- which is all that was due, and each call was answered, in a turn for which the clock gave a moment, over the one journal
-- that the pass has then seen. The law of a link's server holds in full: each Wrote writes all that is due.
pub record ServesStream (limits : ConnectionLimits) (first : Opening) (J : List Entry) (link : ℕ) (before after : Outside) (stream : List ℕ) : Type 0 where
  pub run : List Mark
  pub fed : bytes_received link Responder run ≡ stream
  pub left : after.left ≡ Some []
  pub given : Appends before.given after.given stream
  pub taken : Appends before.sink.taken after.sink.taken (bytes_sent link Responder run)
  pub turns : List Turn
  pub handled : map handled_at turns ≡ handled_in run
  pub gave : GivesAll before.gave after.gave (map given_for turns)
  pub entries : List TaggedEntry
  pub journal : entries_alone entries ≡ J
  pub over : TakenOver first entries (number_heard run link) before.view turns after.view
  pub made : (opened : LinkParameters) → IsOpenedWith limits opened → MayHaveMade (setup_in first) J opened link stream run
  pub served : (opened : LinkParameters) → IsOpenedWith limits opened → Served opened link run
  pub idle : (opened : LinkParameters) → IsOpenedWith limits opened → IsIdle opened link run
  pub answered : (opened : LinkParameters) → IsOpenedWith limits opened → (server opened link run).state.calls ≡ []
