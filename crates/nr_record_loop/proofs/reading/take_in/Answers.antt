use Rattle.std.proofs.Common.{◌≡◌, Some, sym, subst, ◌∙◌}
use Rattle.nr_record.specs.RecordsState.{kept}
use Rattle.nr_record_loop.specs.private.Steps.{PieceEnds}
use Rattle.nr_record_loop.specs.declared.loop_end.LoopEnd.{LoopEnd}
use Rattle.nr_record_loop.proofs.Carries.{fault_kept, piece_ends, piece_fault, piece_taken}
use Rattle.nr_record_loop.proofs.reading.take_in.Goals as goal

pub returns-in-Err-clause-err : goal.returns-in-Err-clause-err
returns-in-Err-clause-err g c =
    piece_ends g.A.Answers.did (kept c.args.records.now) (kept c.feed-fed.new.self) c.args.piece.now (λ stream n s. c.feed-fed.ensures.stands stream n s)
    c.in-Err.end (g.O.Sink.taken c.args.sink.now) (g.O.Sink.taken c.answer_all.new.sink) c.args.answers.now c.answer_all.new.answers c.in-Err.ensures.err

pub returns-in-Err-fed-clause-err : goal.returns-in-Err-fed-clause-err
returns-in-Err-fed-clause-err g c =
    let bad : (kept c.answer_all.new.records).fault ≡ Some c.in-Err-fed.fault =
    c.answer_all.ensures.fault ∙ fault_kept g.A.Answers.did (kept c.feed-fed.new.self) c.feed-fed.result c.in-Err-fed.fault c.feed-fed.ensures.fault.1 c.in-Err-fed.is in
    subst (λ (e : LoopEnd). PieceEnds g.A.Answers.did e c.args.piece.now (kept c.args.records.now) (g.O.Sink.taken c.args.sink.now) (g.O.Sink.taken c.answer_all.new.sink) c.args.answers.now c.answer_all.new.answers) (sym c.end_of_fault.ensures.end)
    (piece_fault g.A.Answers.did (kept c.args.records.now) (kept c.feed-fed.new.self) c.args.piece.now (λ stream n s. c.feed-fed.ensures.stands stream n s)
    (kept c.answer_all.new.records) c.in-Err-fed.fault (g.O.Sink.taken c.args.sink.now) (g.O.Sink.taken c.answer_all.new.sink) c.args.answers.now c.answer_all.new.answers
    c.in-Ok.ensures.ok bad)

pub returns-in-Ok-fed-clause-ok : goal.returns-in-Ok-fed-clause-ok
returns-in-Ok-fed-clause-ok g c =
    piece_taken g.A.Answers.did (kept c.args.records.now) (kept c.feed-fed.new.self) c.args.piece.now (λ stream n s. c.feed-fed.ensures.stands stream n s)
    (kept c.answer_all.new.records) (g.O.Sink.taken c.args.sink.now) (g.O.Sink.taken c.answer_all.new.sink) c.args.answers.now c.answer_all.new.answers c.in-Ok.ensures.ok
