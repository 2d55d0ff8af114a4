-- Laws of connections: those over a complete stream are served to their end; all but those that run out of memory keep
-- the law of a link's server.
use Rattle.std.specs.Prelude.{◌≡◌, ◌≢◌, ℕ, ◌⊎◌, List, [], length, Bool, Option, Some}
use Rattle.nr_xdr.specs.Item.{IsBytes}
use Rattle.nr_outside.specs.Faults.{Rises}
use Rattle.nr_outside.specs.declared.moment.Moment.{Moment}
use Rattle.nr_link.specs.Reasons.{REASON_OLD}
use Rattle.nr_link.specs.declared.end.End.{End}
use Rattle.nr_link.specs.declared.end.End.TheVariants as link_ends
use Rattle.nr_reduce.specs.declared.mark.Mark.{Mark}
use Rattle.nr_reduce.specs.KeepsReplyLimits.{KeepsReplyLimits}
use Rattle.nr_reduce.specs.Opening.{IsOpened}
use Rattle.nr_laws.specs.EndCauses.{HasNoOldCall, KeepLaws, AgreesAgain}
use Rattle.nr_laws.specs.PlainLinks.{HasPlainReplies, server_with}
use Rattle.nr_laws.specs.Stays.{AreConveyedOrRefused, HasNoRevoke}
use Rattle.nr_wire.specs.declared.hello.Side.TheVariants.{Initiator, Responder}
use Rattle.nr_link.specs.OutputItem.{is_send_item, items_written}
use Rattle.nr_link.specs.declared.agreement.SideTerms.{SideTerms}
use Rattle.nr_link.specs.Agreement.{initiator_private}
use Rattle.nr_link.specs.Output.{hello_with}
use Rattle.nr_reduce.specs.declared.mark.Entry.{Entry}
use Rattle.nr_reduce.specs.declared.mark.LinkParameters.{LinkParameters}
use Rattle.nr_reduce.specs.DueItems.{hello_due, items_due}
use Rattle.nr_reduce.specs.History.{bytes_sent}
use Rattle.nr_reduce.specs.NumberedJournal.{number_heard}
use Rattle.nr_reduce.specs.Run.{server}
use Rattle.nr_reduce.specs.Served.{Served}
use Rattle.nr_laws.specs.Typed.{IsTyped}
use Rattle.nr_plain.specs.Setup.{Setup}
use Rattle.nr_byte_laws.specs.InBytes.{EntriesInBytes, IsInBytes}
use Rattle.nr_plain.specs.History.{IsHistory, Opening, setup_in}
use Rattle.nr_host.specs.Connections.{Outside, IsOpenedWith, refusals_of}
use Rattle.nr_host.specs.Ending.{Ended, SinkCount, SourceCount}
use Rattle.nr_host.specs.Steps.{IsServed, with_failed}
use Rattle.nr_host.specs.declared.connection_limits.ConnectionLimits.{ConnectionLimits}
use Rattle.nr_host.specs.declared.conn_end.ConnEnd.{ConnEnd}
use Rattle.nr_host.specs.declared.conn_end.ConnEnd.TheVariants as ends
use Rattle.nr_host_laws.specs.OwnMarks.{other_marks, own_marks}
use Rattle.nr_host_laws.specs.Streams.{IsCompleteStream, ServesStream}
use Rattle.nr_host_laws.specs.TypedMarks.{IsOverBytes}

-- A call was old when its turn came, and the connection ended for that, for reason 28. Its client has a number.
pub record EndsForOldCall (limits : ConnectionLimits) (link : ℕ) (before after : Outside) (end : ConnEnd) : Type 0 where
  pub at : ℕ
  pub end_is : end ≡ ends.Protocol (link_ends.Bad at REASON_OLD)
  pub read : ℕ
  pub failed : Bool
  pub ended : Ended limits read link before (with_failed failed after) end
  pub numbered : number_heard ended.run link ≢ 0
  pub refused : refusals_of ended.run ≢ []

-- `Closed`, after all of the stream, whatever number the link has in the marks; or a call was old; or memory ran out
abbrev pub Completes : (limits : ConnectionLimits) → Opening → List Entry → (before after : Outside) → List ℕ → ConnEnd → Type 0
Completes limits first J before after stream end =
    (end ≡ ends.Memory) ⊎ (((end ≡ ends.Closed) × ((link : ℕ) → ServesStream limits first J link before after stream))
    ⊎ ((link : ℕ) → EndsForOldCall limits link before after end))

-- A connection that doesn't run out of memory has marks, as the clause `served` of `serve_connection` says, of which
-- the law of a link's server holds in full: each Wrote writes all that is due.
abbrev pub ConnectionsKeepTheLaw : Type 0
ConnectionsKeepTheLaw =
    (limits : ConnectionLimits) (before after : Outside) (end : ConnEnd) → (end ≡ ends.Memory → ⊥) → IsServed limits before after end → (link : ℕ) →
    (read : ℕ) × ((failed : Bool) × ((ended : Ended limits read link before (with_failed failed after) end)
    × ((opened : LinkParameters) → IsOpenedWith limits opened → Served opened link ended.run)))

-- A connection over a source with a complete stream, with the clauses of `serve_connection`. No fault count rises: that
-- of the source, or of the sink.
abbrev pub ConnectionsComplete : Type 0
ConnectionsComplete =
    (limits : ConnectionLimits) (before after : Outside) (end : ConnEnd) (source source' : ℕ) (first : Opening) (J : List Entry) (stream : List ℕ) →
    IsServed limits before after end → SourceCount end source source' → SinkCount end before.sink.faults after.sink.faults →
    (Rises source source' → ⊥) → (Rises before.sink.faults after.sink.faults → ⊥) →
    IsHistory first J before.view.seen → before.left ≡ Some stream → IsCompleteStream limits (setup_in first) J stream →
    Completes limits first J before after stream end

-- A client that sends nothing, or its hello alone, sends a complete stream, whatever the client's terms are, and whatever the server stands for.
abbrev pub StreamsWithoutCalls : Type 0
StreamsWithoutCalls = (limits : ConnectionLimits) (s : Setup) (J : List Entry) →
    IsCompleteStream limits s J [] × ((t : SideTerms) → IsCompleteStream limits s J (hello_with Initiator (initiator_private t)))

-- A connection that served a complete stream of bytes answered each Send of it: as many messages were completely
-- written as Sends were received, if the first tree of its server holds bytes, and the journal has entries in bytes.
abbrev pub SendsAreAnswered : Type 0
SendsAreAnswered =
    (limits : ConnectionLimits) (first : Opening) (J : List Entry) (link : ℕ) (before after : Outside) (stream : List ℕ) (served : ServesStream limits first J link before after stream) →
    (opened : LinkParameters) → IsOpenedWith limits opened → IsBytes stream → IsInBytes (setup_in first).tree → EntriesInBytes J →
    items_written is_send_item (length (hello_due opened link Responder served.run)) (length (bytes_sent link Responder served.run)) (items_due opened link Responder served.run)
    ≡ (server opened link served.run).state.received.sends

-- No marks of a connection that ends with `Protocol` are those of the server's side of a run that meets the premises
-- under which a matched link never ends: those of `MatchedLinksStayOpen` of nr_laws, on the server's replies too. That
-- the connection's own marks are of their types follows from what it read: a source of known bytes, over a server with
-- a tree in bytes, and entries in bytes; it is asked of the other marks alone. If the client has a number, none of its calls is old.
abbrev pub MatchedConnectionsStay : Type 0
MatchedConnectionsStay =
    (limits : ConnectionLimits) (before after : Outside) (why : End) (link read : ℕ) (failed : Bool)
    (ended : Ended limits read link before (with_failed failed after) (ends.Protocol why))
    (first : Opening) (J : List Entry) (left : List ℕ) (reply_to : List Entry → Moment → List ℕ → Option (List ℕ)) (adds : Moment → List ℕ → List ℕ → List Entry) (opened : LinkParameters) (run : List Mark) →
    IsOpenedWith limits opened → own_marks link run ≡ ended.run → IsOverBytes first J left before → IsTyped (other_marks link run) →
    IsOpened opened → AgreesAgain opened → KeepLaws opened link run → (opened.client.number ≢ 0 → HasNoOldCall link run) → HasNoRevoke link run → AreConveyedOrRefused opened link run →
    KeepsReplyLimits (server_with reply_to adds) → HasPlainReplies (server_with reply_to adds) link run → ⊥
