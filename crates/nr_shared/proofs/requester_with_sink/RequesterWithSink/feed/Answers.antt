use Rattle.std.proofs.Common.{Some, Err, refl, sym, ap, take, ◌∙◌}
use Rattle.nr_link.specs.declared.end.End.TheVariants as ends
use Rattle.nr_requester.specs.RequesterState.{RequesterState, feeding_of}
use Rattle.nr_shared.proofs.Calls.{none_some}
use Rattle.nr_shared.proofs.NextXid.{next_piece}
use Rattle.nr_shared.proofs.Pieces.{end_not_out, err_not_out, feeds, feeds_out, going, ok_not_out, was_live}
use Rattle.nr_shared.proofs.requester_with_sink.RequesterWithSink.feed.Goals as goal

pub returns-in-Ok-clause-fed : goal.returns-in-Ok-clause-fed
returns-in-Ok-clause-fed g c = let f = c.in-Ok.ensures in λ history last st is_last room out.
    feeds g.O.LinkSink.link g.O.Sink.taken g.O.Sink.faults g.C.CallRule.allows c.args.self.now _ c.args.piece.now c.feed.new.self.staging history last (record { sink = refl; tries = refl; rejoined = refl; failed = refl }) refl refl refl c.requires.goes c.requires.flushed (λ bad. none_some ends.Memory (f.ended ∙ bad)) (f.state ok_not_out) (f.keeps ok_not_out) f.tickets f.within c.requires.some room is_last out st

pub returns-in_default-clause-fed : goal.returns-in_default-clause-fed
returns-in_default-clause-fed g c = let f = c.in-Err.ensures in let differs = err_not_out c.in_default.not-Memory in λ history last st is_last room out.
    feeds g.O.LinkSink.link g.O.Sink.taken g.O.Sink.faults g.C.CallRule.allows c.args.self.now _ c.args.piece.now c.feed.new.self.staging history last (record { sink = refl; tries = refl; rejoined = refl; failed = refl }) refl refl refl c.requires.goes c.requires.flushed (end_not_out c.in-Err.end _ f.ended c.in_default.not-Memory) (f.state differs) (f.keeps differs) f.tickets f.within c.requires.some room is_last out st

pub returns-in-Memory-clause-fed : goal.returns-in-Memory-clause-fed
returns-in-Memory-clause-fed g c = let f = c.in-Err.ensures in let m = c.args.self.now in λ history last st is_last room out.
    (let memory = sym f.ended ∙ ap Some c.in-Memory.is in
    let live = was_live m.requester c.feed.new.self (going m.stopped st.initial m.requester history c.requires.goes st.represents).0 memory (λ some. (f.kept some).0) in
    let (n, (ran, (runs, stops))) = f.memory (ap Err c.in-Memory.is) live in
    feeds_out g.O.LinkSink.link g.O.Sink.taken g.O.Sink.faults g.C.CallRule.allows m _ c.args.piece.now n history last (record { sink = refl; tries = refl; rejoined = refl; failed = refl }) refl refl refl c.requires.goes c.requires.flushed memory ran.out stops f.tickets
    (ap (λ (x : RequesterState). x.next_xid) ran.out.same ∙ next_piece (feeding_of m.requester) (take n c.args.piece.now)) f.within c.requires.some room is_last out st)
