use Rattle.std.proofs.Common.{List, ℕ, subst, sym}
use Rattle.nr_client.specs.private.OpenReads.{ReadSoFar}
use Rattle.nr_client.proofs.FileEnds.{all_read}
use Rattle.nr_client.proofs.read_file.read_pieces.Goals as goal

pub returns-clause-ends : goal.returns-clause-ends
returns-clause-ends g c first taken so_far =
    let (ahead, faults, outs, on) = c.pieces.invariant in
    all_read g.L.Calls.relations c.args.file.now.uid c.args.file.now.gid c.args.file.now.handle.now c.args.file.now.size c.pieces.at c.pieces.at c.pieces.tickets.items first taken (g.K.Sink.taken c.pieces.out)
    (g.L.Calls.at c.pieces.link) c.pieces-test.false
    (on first taken (subst (λ (l : List ℕ). ReadSoFar g.L.Calls.relations c.args.file.now.uid c.args.file.now.gid c.args.file.now.handle.now c.args.file.now.size first taken 0 0 l
    (g.L.Calls.at c.args.link.now) (g.K.Sink.taken c.args.out.now)) (sym c.requires) so_far))
