use Rattle.std.proofs.Common.{[], ◌∷◌}
use Rattle.std.specs.String.{string_bytes}
use Rattle.nr_shared.proofs.Dialled.{back_dialled}
use Rattle.nr_shared.proofs.opening.share_dialled.Goals as goal

pub share-requires-clause-stands : goal.share-requires-clause-stands
share-requires-clause-stands g c = c.of_parts-with_sink.ensures (g.K.Appended.entry ∷ []) c.requires.initial.0

pub hang_up_back-requires : goal.hang_up_back-requires
hang_up_back-requires g c = back_dialled g.I.LinkSource.link g.I.Source.left g.I.Source.given g.I.Source.faults g.O.LinkSink.link g.O.Sink.taken g.O.Sink.faults g.D.Dialer.asked g.D.Dialer.ended g.D.Dialer.faults g.C.CallRule.allows
    c.args.tries c.args.requester c.args.sink (g.K.Appended.entry ∷ []) c.args.source c.args.dialer (string_bytes c.args.addr) 0 _ _ _ c.requires.initial.0 c.requires.begun c.in-Err.ensures.err

pub returns-in-Err-clause-err : goal.returns-in-Err-clause-err
returns-in-Err-clause-err g c = record { link = _; between = _; gives = c.in-Err.ensures.err; hung_up = c.hang_up_back.ensures }
