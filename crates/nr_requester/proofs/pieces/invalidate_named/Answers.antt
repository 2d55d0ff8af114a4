use Rattle.std.proofs.Common.{ℕ, Option, ap, sym, ◌∙◌}
use Rattle.nr_regions.specs.RegisteredMemory.{RegisteredMemory}
use Rattle.nr_requester.specs.AfterPiece.{dead_memory}
use Rattle.nr_requester.specs.Buffers.{with_memory}
use Rattle.nr_requester.proofs.DeadRegions.{none_dies, died_link}
use Rattle.nr_requester.proofs.pieces.invalidate_named.Goals as goal

pub returns-in-Ok-clause-link : goal.returns-in-Ok-clause-link
returns-in-Ok-clause-link c =
    c.in-Ok.ensures.state ∙ died_link c.args.endpoint.now.link c.in-Some.stag
    ∙ ap (λ (o : Option ℕ). with_memory (dead_memory o c.args.endpoint.now.link.state.memory) c.args.endpoint.now.link) (sym c.in-Some.is)

pub returns-in-Err-clause-link : goal.returns-in-Err-clause-link
returns-in-Err-clause-link c =
    c.in-Err.ensures.err
    ∙ ap (λ (m : RegisteredMemory). with_memory m c.args.endpoint.now.link) (sym (none_dies c.args.endpoint.now.link.state.memory c.in-Some.stag c.in-Err.field-0 (sym c.in-Err.ensures.exact)))
    ∙ ap (λ (o : Option ℕ). with_memory (dead_memory o c.args.endpoint.now.link.state.memory) c.args.endpoint.now.link) (sym c.in-Some.is)
