use Rattle.std.proofs.Common.{ℕ, Option, List, Some, ap, ◌∙◌, sym, subst}
use Rattle.std.specs.Prelude.{option_map}
use Rattle.nr_reduce.specs.Served.{IsExecuted}
use Rattle.nr_responder.specs.Sound.{state_of}
use Rattle.nr_responder.proofs.Answered.{payload_read_lem}
use Rattle.nr_responder.proofs.server_end.ServerEnd.payload.Goals as goal

pub returns-in-Some : goal.returns-in-Some
returns-in-Some c = record {
  exact = λ opened link run h.
      subst (λ (bytes : List ℕ). IsExecuted opened link run c.args.xid bytes) (sym c.as_slice.ensures) (payload_read_lem opened link run (state_of c.args.self.now) c.args.xid c.in-Some.payload.now h c.requires.live c.requires.next (c.first_payload.ensures ∙ ap (λ (o : Option (List ℕ)). Some o) (ap (option_map (λ p. p.now)) c.in-Some.is)));
}
