use Rattle.std.proofs.Common.{◌≡◌, sym, subst, ◌∙◌}
use Rattle.nr_turnstile.specs.declared.turnstile.Pass.{Pass}
use Rattle.nr_turnstile.specs.Passes.{seen_by}
use Rattle.nr_turnstile.specs.Turns.{pass_of}
use Rattle.nr_turnstile.proofs.Held.{same_value, written}
use Rattle.nr_shared.specs.declared.source_reader.InitialSource.{InitialSource}
use Rattle.nr_shared.specs.declared.source_reader.SourceReader.{SourceReader}
use Rattle.nr_shared.proofs.FeedsOn.{feeds_value}
use Rattle.nr_shared.proofs.Resting.{seen_one}
use Rattle.nr_shared.proofs.shared.SharedRequester.receive.Goals as goal

pub receive_piece-requires : goal.receive_piece-requires
receive_piece-requires g c = let t = c.take_turn-turn.ensures.got.1 in let (b, (one, home)) = c.requires.initial_source in
    let same = seen_one (seen_by c.args.source.now) (seen_by (pass_of c.take_turn-turn.result)) b t.2.0 one t.2.1 t.3 in
    (b, (feeds_value g.I.LinkSource.link g.I.Source.left g.I.Source.given g.I.Source.faults g.D.Dialer.asked g.D.Dialer.ended g.D.Dialer.faults b t.0 c.value-reader.result.now (seen_by (pass_of c.take_turn-turn.result)) (same ∙ one) t.2 (same_value _ t.0 c.value-reader.result.now t.1.1 c.value-reader.ensures.value), home))

pub put_back-requires : goal.put_back-requires
put_back-requires g c = let t = c.take_turn-turn.ensures.got.1 in let (b, (one, home)) = c.requires.initial_source in
    let same = seen_one (seen_by c.args.source.now) (seen_by (pass_of c.take_turn-turn.result)) b t.2.0 one t.2.1 t.3 in
    let f = feeds_value g.I.LinkSource.link g.I.Source.left g.I.Source.given g.I.Source.faults g.D.Dialer.asked g.D.Dialer.ended g.D.Dialer.faults b t.0 c.value-reader.result.now (seen_by (pass_of c.take_turn-turn.result)) (same ∙ one) t.2 (same_value _ t.0 c.value-reader.result.now t.1.1 c.value-reader.ensures.value) in
    (c.receive_piece.new.reader, (t.1.0, written _ _ c.receive_piece.new.reader c.value-reader.ensures.value, t.1.2), (b, same ∙ one, c.receive_piece.ensures b f home))

pub returns-clause-seen : goal.returns-clause-seen
returns-clause-seen g c = let t = c.take_turn-turn.ensures.got.1 in let (b, (one, home)) = c.requires.initial_source in
    subst (λ (z : Pass (SourceReader g.row.I.Denot g.row.O.Denot g.row.C.Denot g.row.D.Denot) (InitialSource g.row.I.Denot g.row.O.Denot g.row.C.Denot g.row.D.Denot)). seen_by z ≡ seen_by c.args.source.now) (sym (c.source-1.given.1 (sym c.take_turn-turn.ensures.borrow)))
    (c.put_back.ensures.1 ∙ seen_one (seen_by c.args.source.now) (seen_by (pass_of c.take_turn-turn.result)) b t.2.0 one t.2.1 t.3)
