use Rattle.std.proofs.Common.{sym, subst}
use Rattle.nr_shared.specs.Feeding.{FeedsFor}
use Rattle.nr_shared.proofs.opening.share_reader.Goals as goal

pub new_or_value-requires-clause-stands : goal.new_or_value-requires-clause-stands
new_or_value-requires-clause-stands g c = (record { source = c.args._source.now; dialer = c.args._dialer.now; addr = c.args._addr.now; pass = c.args._pass.now; read = c.args.reader.read }, sym c.requires.source_history, c.requires.feeds)

pub returns-in-Err-clause-err : goal.returns-in-Err-clause-err
returns-in-Err-clause-err g c = subst (FeedsFor g.I.LinkSource.link g.I.Source.left g.I.Source.given g.I.Source.faults g.D.Dialer.asked g.D.Dialer.ended g.D.Dialer.faults (record { source = c.args._source.now; dialer = c.args._dialer.now; addr = c.args._addr.now; pass = c.args._pass.now; read = c.args.reader.read })) (sym c.in-Err.ensures.err) c.requires.feeds
