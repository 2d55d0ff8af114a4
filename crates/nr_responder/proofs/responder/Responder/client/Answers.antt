use Rattle.std.proofs.Common.{◌≡◌, ◌≢◌, ℕ, List, [], None, subst}
use Rattle.nr_link.specs.Frames.{frames_of}
use Rattle.nr_wire.specs.declared.hello.Side.TheVariants.{Initiator, Responder}
use Rattle.nr_reduce.specs.declared.mark.LinkParameters.{LinkParameters}
use Rattle.nr_reduce.specs.declared.mark.Mark.{Mark}
use Rattle.nr_reduce.specs.History.{bytes_received}
use Rattle.nr_reduce.specs.NumberedJournal.{number_heard}
use Rattle.nr_responder.specs.ResponderState.{ResponderState, end_of}
use Rattle.nr_responder.specs.Standing.{ResponderRepresents}
use Rattle.nr_responder.proofs.responder.Responder.client.Goals as goal

pub returns-clause-of_run : goal.returns-clause-of_run
returns-clause-of_run c =
    subst (λ (v : ResponderState). end_of v.side ≡ None → (opened : LinkParameters) (link : ℕ) (run : List Mark) → ResponderRepresents opened link run v.side → c.client.result ≡ number_heard run link) c.self.view_is c.client.ensures.of_run

pub returns-clause-heard : goal.returns-clause-heard
returns-clause-heard c =
    subst (λ (v : ResponderState). end_of v.side ≡ None → v.side.ready ≢ [] → (opened : LinkParameters) (link : ℕ) (run : List Mark) → ResponderRepresents opened link run v.side → frames_of Initiator (bytes_received link Responder run) ≢ [])
    c.self.view_is c.client.ensures.heard
