-- The receives of a responder are those with which its link was opened.
use Rattle.std.proofs.Common.{◌≡◌, ℕ, Bool, true, false, cond, List, refl, ap, ◌∙◌, inl, inr}
use Rattle.nr_wire.specs.declared.hello.Side.TheVariants.{Responder}
use Rattle.nr_link.specs.Frames.{is_hello}
use Rattle.nr_reduce.specs.declared.mark.LinkParameters.{LinkParameters}
use Rattle.nr_reduce.specs.declared.mark.Mark.{Mark}
use Rattle.nr_reduce.specs.EndRules.{EndState}
use Rattle.nr_reduce.specs.Events.{RunEvent, events}
use Rattle.nr_reduce.specs.Events.RunEvent.{FrameReceived, CallSubmitted, MemoryRevoked, CallExecuted, QueueWritten, ServerTold}
use Rattle.nr_reduce.specs.Run.{server}
use Rattle.nr_reduce.specs.Server.{initial_server, server_rules, server_state_after, with_effect, with_own_hello}
use Rattle.nr_reduce.specs.ServerFrames.{frame_effect}
use Rattle.nr_reduce.specs.ServerState.{ServerState}
use Rattle.nr_reduce.proofs.OwnStags.{kept_after}
use Rattle.nr_responder.specs.Keeping.{KeepsEnd}
use Rattle.nr_responder.specs.ResponderState.{ResponderSide}
use Rattle.nr_responder.specs.Standing.{RepresentsServer, ResponderRepresents}

abbrev HasReceives : LinkParameters → ServerState → Type 0
HasReceives opened k = k.receives ≡ opened.receives

receives_event : (opened : LinkParameters) (k : ServerState) (e : RunEvent) → HasReceives opened k → HasReceives opened (server_state_after opened k e)
unfolding server_state_after
receives_event opened k (FrameReceived f) h = by (is_hello f)
  where
    by : (b : Bool) → HasReceives opened (cond b (with_own_hello opened k f) (with_effect k f (frame_effect k f)))
    by true = h
    by false = h
receives_event opened k (CallSubmitted place a) h = h
receives_event opened k (MemoryRevoked place xid) h = h
receives_event opened k (CallExecuted e) h = h
receives_event opened k (QueueWritten taken) h = h
receives_event opened k (ServerTold what) h = h

receives_of_run : (opened : LinkParameters) (link : ℕ) (run : List Mark) → HasReceives opened (server opened link run).state
unfolding server
receives_of_run opened link run = kept_after (server_rules opened) (HasReceives opened) (receives_event opened) (initial_server opened) (events link Responder run) refl

pub server_receives : (opened : LinkParameters) (link : ℕ) (run : List Mark) (v : ResponderSide) → RepresentsServer opened link run v → v.credits.receives ≡ opened.receives
server_receives opened link run v h = by h.keeps ∙ ap (λ (e : EndState ServerState). e.state.receives) h.stands.keeps ∙ receives_of_run opened link run
  where
    by : KeepsEnd opened h.end h.input v → v.credits.receives ≡ h.end.state.receives
    by (inl live) = ap (λ (g : ℕ × (ℕ × ℕ)). g.0) live.1.credits
    by (inr ended) = ap (λ (g : ℕ × (ℕ × ℕ)). g.0) ended.credits

pub opened_receives : (opened : LinkParameters) (link : ℕ) (run : List Mark) (v : ResponderSide) → ResponderRepresents opened link run v → v.credits.receives ≡ opened.receives
opened_receives opened link run v (inl h) = server_receives opened link run v h
opened_receives opened link run v (inr out) = ap (λ (g : ℕ × (ℕ × ℕ)). g.0) out.credits ∙ receives_of_run opened link out.stopped
