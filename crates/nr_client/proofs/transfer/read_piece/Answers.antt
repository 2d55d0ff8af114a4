use Rattle.std.proofs.Common.{◌+◌, ℕ, take, sym, ap, subst, inl, inr, refl}
use Rattle.nr_outside.specs.Content.{HandsOut}
use Rattle.nr_outside.proofs.Moves.{HandsOut_nil}
use Rattle.nr_client.proofs.Turns.{reads, reads_none, reads_out_at, reads_to}
use Rattle.nr_client.proofs.transfer.read_piece.Goals as goal

pub returns-then-room-eq0-clause-err : goal.returns-then-room-eq0-clause-err
returns-then-room-eq0-clause-err g c =
    let left = g.I.Source.left c.args.source.now in
    let given = g.I.Source.given c.args.source.now in
    reads_to _ left given left given c.args.read.now c.args.read.now c.args.requester.now c.args.requester.now c.requires.drained
    (reads_none left given left given c.args.read.now c.args.requester.now (HandsOut_nil left given))

pub returns-in-Err-clause-err : goal.returns-in-Err-clause-err
returns-in-Err-clause-err g c =
    let left = g.I.Source.left c.args.source.now in
    let given = g.I.Source.given c.args.source.now in
    let left' = g.I.Source.left c.read_part.new.source in
    let given' = g.I.Source.given c.read_part.new.source in
    reads_to _ left given left' given' c.args.read.now c.args.read.now c.args.requester.now c.args.requester.now c.requires.drained
    (reads_none left given left' given' c.args.read.now c.args.requester.now c.in-Err.ensures.err)

pub returns-then-n-eq0-clause-err : goal.returns-then-n-eq0-clause-err
returns-then-n-eq0-clause-err g c =
    let left = g.I.Source.left c.args.source.now in
    let given = g.I.Source.given c.args.source.now in
    let left' = g.I.Source.left c.read_part.new.source in
    let given' = g.I.Source.given c.read_part.new.source in
    let none = subst (λ (k : ℕ). HandsOut left given left' given' (take k c.read_part.new.buf)) c.if-n-eq0.true c.in-Ok.ensures.handed in
    reads_to _ left given left' given' c.args.read.now c.args.read.now c.args.requester.now c.args.requester.now c.requires.drained
    (reads_none left given left' given' c.args.read.now c.args.requester.now none)

pub returns-in-Ok-feed_piece-clause-ok : goal.returns-in-Ok-feed_piece-clause-ok
returns-in-Ok-feed_piece-clause-ok g c =
    let left = g.I.Source.left c.args.source.now in
    let given = g.I.Source.given c.args.source.now in
    let left' = g.I.Source.left c.read_part.new.source in
    let given' = g.I.Source.given c.read_part.new.source in
    let hands = subst (HandsOut left given left' given') (sym c.split_at.ensures.front) c.in-Ok.ensures.handed in
    reads left given left' given' c.args.read.now (c.args.read.now + c.in-Ok.n) c.split_at.result.0.now c.args.requester.now c.feed_piece.new.requester c.requires.drained hands
    (ap (λ (k : ℕ). c.args.read.now + k) c.split_at.ensures.front_len) c.in-Ok-feed_piece.ensures.ok

pub returns-in-Err-feed_piece-clause-err : goal.returns-in-Err-feed_piece-clause-err
returns-in-Err-feed_piece-clause-err g c =
    let left = g.I.Source.left c.args.source.now in
    let given = g.I.Source.given c.args.source.now in
    let left' = g.I.Source.left c.read_part.new.source in
    let given' = g.I.Source.given c.read_part.new.source in
    let hands = subst (HandsOut left given left' given') (sym c.split_at.ensures.front) c.in-Ok.ensures.handed in
    let (is, (out, ended)) = c.in-Err-feed_piece.ensures.err in
    reads_out_at c.in-Err-feed_piece.end is left given left' given' c.args.read.now (c.args.read.now + c.in-Ok.n) c.split_at.result.0.now c.args.requester.now c.feed_piece.new.requester c.requires.drained hands
    (ap (λ (k : ℕ). c.args.read.now + k) c.split_at.ensures.front_len) out

pub returns-then-room-eq0-clause-answers : goal.returns-then-room-eq0-clause-answers
returns-then-room-eq0-clause-answers g c = inr (λ xid. refl)

pub returns-in-Err-clause-answers : goal.returns-in-Err-clause-answers
returns-in-Err-clause-answers g c = inr (λ xid. refl)

pub returns-then-n-eq0-clause-answers : goal.returns-then-n-eq0-clause-answers
returns-then-n-eq0-clause-answers g c = inr (λ xid. refl)

pub returns-in-Err-feed_piece-clause-answers : goal.returns-in-Err-feed_piece-clause-answers
returns-in-Err-feed_piece-clause-answers g c = inl c.in-Err-feed_piece.ensures.err.0
