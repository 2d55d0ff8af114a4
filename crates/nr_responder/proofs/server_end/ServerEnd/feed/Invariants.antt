use Rattle.std.proofs.Common.{◌≡◌, ℕ, ◌+◌, ◌-◌, ◌≤◌, List, length, take, true}
use Rattle.std.specs.Prelude.{is_some}
use Rattle.nr_endpoint.specs.FedBytes.{fed_bytes}
use Rattle.nr_reduce.specs.declared.mark.LinkParameters.{LinkParameters}
use Rattle.nr_reduce.specs.declared.mark.Mark.{Mark}
use Rattle.nr_responder.specs.HeldBytes.{KeptFits}
use Rattle.nr_responder.specs.ResponderState.{KeepsStaging}
use Rattle.nr_responder.specs.Standing.{ResponderRepresents}
use Rattle.nr_responder.specs.Steps.{Fed}
use Rattle.nr_responder.specs.Sound.{state_of, with_staging, ServerEndInvariant, WindowsInvariant}
use Rattle.nr_responder.proofs.Staging.{IsFirst}
use Rattle.nr_responder.proofs.server_end.ServerEnd.feed.Given as goal

abbrev pub invariant-pieces : goal.invariant-pieces
invariant-pieces l = record {
  at : l.at ≤ length l.fn.piece;
  over : is_some l.self.endpoint.link.state.ended ≡ true → l.at ≡ length l.fn.piece;
  goes : Fed (state_of l.fn.self) (take l.at l.fn.piece) (state_of l.self);
  sound : ServerEndInvariant l.self;
  windows : WindowsInvariant l.self;
  within : fed_bytes l.self.endpoint.link ≤ fed_bytes l.fn.self.endpoint.link + l.at;
  staging : (opened : LinkParameters) (link : ℕ) (run : List Mark) → ResponderRepresents opened link run (state_of l.fn.self) → KeepsStaging (with_staging l.fn.self) (with_staging l.self) l.fn.piece;
  bounded : (opened : LinkParameters) (link : ℕ) (run : List Mark) → ResponderRepresents opened link run (state_of l.fn.self) → KeptFits (state_of l.fn.self) → KeptFits (state_of l.self);
  first : IsFirst (with_staging l.fn.self) (with_staging l.self) l.at l.fn.piece;
}

abbrev pub decreases-pieces : goal.decreases-pieces
decreases-pieces l = length l.fn.piece - l.at
