use Rattle.std.proofs.Common.{inl, ◌∙◌}
use Rattle.nr_requester.specs.AfterPiece.{dead_memory}
use Rattle.nr_requester.specs.Buffers.{with_memory}
use Rattle.nr_requester.proofs.OneMessage.{stop_memory}
use Rattle.nr_requester.proofs.pieces.stop.Goals as goal

pub returns-in_default-clause-link : goal.returns-in_default-clause-link
returns-in_default-clause-link c =
    let stopped = c.stop.ensures.state c.in_default.not-Memory in
    let memory = stop_memory c.args.endpoint.now.link c.stop.new.self.link c.args.reason c.requires.live (inl stopped) in
    inl (c.invalidate_named.ensures.link ∙ (λ i. with_memory (dead_memory c.args.own (memory i)) (stopped i)))
