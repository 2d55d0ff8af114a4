-- The marks that a responder stands for.
use Rattle.std.specs.Prelude.{◌≡◌, ℕ, List, ◌++◌, length, map, None, ◌⊎◌}
use Rattle.nr_wire.specs.declared.hello.Side.TheVariants.{Responder}
use Rattle.nr_link.specs.Input.{InputState}
use Rattle.nr_reduce.specs.declared.mark.Mark.{Mark}
use Rattle.nr_reduce.specs.declared.mark.LinkParameters.{LinkParameters}
use Rattle.nr_reduce.specs.History.{bytes_sent, bytes_received}
use Rattle.nr_reduce.specs.Matched.{IsPrefixOf}
use Rattle.nr_reduce.specs.Run.{server, output_due}
use Rattle.nr_reduce.specs.EndRules.{EndState}
use Rattle.nr_reduce.specs.ServerState.{ServerState}
use Rattle.nr_reduce.specs.Standing.{ServerRepresents, ServerRunsOut}
use Rattle.nr_responder.specs.ResponderState.{ResponderSide, queue, end_of}
use Rattle.nr_responder.specs.Granting.{grant, grant_of}
use Rattle.nr_responder.specs.Heard.{KeepsHeard}
use Rattle.nr_responder.specs.HeldBytes.{KeptFits}
use Rattle.nr_responder.specs.Keeping.{KeepsAgreed, KeepsEnd}

-- Its state is that of the server after these marks, and its queue is the output that is due by them and isn't written. Until it has ended, it
-- knows where the last frame began and the number of its client.
pub record RepresentsServer (opened : LinkParameters) (link : ℕ) (run : List Mark) (v : ResponderSide) : Type 0 where
  pub end : EndState ServerState
  pub input : InputState
  pub stands : ServerRepresents opened link end input (queue v) run
  pub keeps : KeepsEnd opened end input v
  pub heard : end.ended ≡ None → KeepsHeard link run v.link.state

-- Or it ran out of memory while it was fed: what it wrote and its queue are the first bytes of what is due by these marks. When it
-- stopped, after the marks `stopped`, of which a prefix of what it received was fed to it, the server hadn't ended. All that these marks
-- make due is written or in its queue, and its calls, those that are ready, its credits and what is agreed are those of that server.
pub record ResponderRunsOut (opened : LinkParameters) (link : ℕ) (run : List Mark) (v : ResponderSide) : Type 0 where
  pub output : ServerRunsOut opened link (end_of v) (queue v) run
  pub stopped : List Mark
  pub received : IsPrefixOf (bytes_received link Responder stopped) (bytes_received link Responder run)
  pub live : (server opened link stopped).ended ≡ None
  pub queued : output_due opened link Responder stopped ≡ bytes_sent link Responder run ++ queue v
  pub calls : v.calls ≡ (server opened link stopped).state.calls
  pub ready : v.ready ≡ map (λ r. r.xid) (server opened link stopped).state.ready
  pub credits : grant v.credits ≡ grant_of (server opened link stopped).state
  pub agreed : KeepsAgreed (server opened link stopped).state v.link.state.agreed

abbrev pub ResponderRepresents : (opened : LinkParameters) (link : ℕ) (run : List Mark) (v : ResponderSide) → Type 0
ResponderRepresents opened link run v = RepresentsServer opened link run v ⊎ ResponderRunsOut opened link run v

-- n calls are pending by the marks that it stands for
abbrev pub CountsCalls : ResponderSide → (n : ℕ) → Type 0
CountsCalls v n = (opened : LinkParameters) (link : ℕ) (run : List Mark) → ResponderRepresents opened link run v → n ≡ length (server opened link run).state.calls

-- It stands for some marks.
abbrev pub RepresentsSome : ResponderSide → Type 0
RepresentsSome v = (opened : LinkParameters) × ((link : ℕ) × ((run : List Mark) × ResponderRepresents opened link run v))

-- If it stood for some marks and was within bounds, so it is after an answer.
pub record StaysBounded (before after : ResponderSide) : Type 0 where
  pub goes : (opened : LinkParameters) (link : ℕ) (run : List Mark) → ResponderRepresents opened link run before → KeptFits before → KeptFits after × RepresentsSome after
