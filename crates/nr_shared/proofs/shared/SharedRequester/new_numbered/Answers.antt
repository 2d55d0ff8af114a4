use Rattle.std.proofs.Common.{inl, refl, sym, ◌∙◌}
use Rattle.nr_shared.proofs.Dialled.{begun_dialled, initial_dialled, not_dialled, opened_dialled}
use Rattle.nr_shared.proofs.shared.SharedRequester.new_numbered.Goals as goal

pub share_dialled-requires-clause-initial : goal.share_dialled-requires-clause-initial
share_dialled-requires-clause-initial g c = (initial_dialled g.O.LinkSink.link g.O.Sink.taken g.O.Sink.faults c.args.requester _ c.args.tries c.requires.memory c.requires.fed c.requires.number c.requires.tries, c.requires.tries)

pub share_dialled-requires-clause-begun : goal.share_dialled-requires-clause-begun
share_dialled-requires-clause-begun g c = let d = c.in-Ok-dial.ensures in
    begun_dialled g.I.LinkSource.link g.O.LinkSink.link g.O.Sink.taken g.O.Sink.faults g.D.Dialer.ended c.args.requester _ _ _ c.args.tries (d.numbered.source ∙ sym d.numbered.sink) d.made.1

pub returns-in-Ok-share_dialled-clause-opened : goal.returns-in-Ok-share_dialled-clause-opened
returns-in-Ok-share_dialled-clause-opened g c = let d = c.in-Ok-dial.ensures in let s = c.in-Ok-share_dialled.ensures in let (b, (at, (source, (dialer, (addr, unread))))) = s.source in
    opened_dialled g.I.LinkSource.link g.I.Source.left g.I.Source.given g.I.Source.faults g.O.LinkSink.link g.O.Sink.taken g.O.Sink.faults g.D.Dialer.asked g.D.Dialer.ended g.D.Dialer.faults
    c.args.requester c.args.dialer _ c.args.addr.now c.args.tries _ _ _ b s.seen.0 s.seen.1 at source dialer (addr ∙ c.in-Ok.ensures.ok) unread
    (d.numbered.source ∙ sym d.numbered.sink) d.fresh d.told d.asked d.made d.counted

pub returns-in_default-clause-err : goal.returns-in_default-clause-err
returns-in_default-clause-err g c = inl (refl, refl)

pub returns-in-Err-share_dialled-clause-err : goal.returns-in-Err-share_dialled-clause-err
returns-in-Err-share_dialled-clause-err g c = let d = c.in-Ok-dial.ensures in
    not_dialled g.I.LinkSource.link g.I.Source.left g.I.Source.given g.I.Source.faults g.O.LinkSink.link g.O.Sink.taken g.O.Sink.faults g.D.Dialer.asked g.D.Dialer.ended g.D.Dialer.faults g.C.CallRule.allows
    c.args.requester c.args.dialer _ c.args.addr.now _ c.args.tries _ _ _ c.in-Ok.ensures.ok (d.numbered.source ∙ sym d.numbered.sink) d.fresh d.told d.asked d.made d.counted c.in-Err-share_dialled.ensures.err
