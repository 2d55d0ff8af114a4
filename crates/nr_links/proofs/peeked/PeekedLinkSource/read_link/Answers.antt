use Rattle.std.proofs.Common.{arith, ◌<◌, length, sym, ap, ◌∙◌}
use Rattle.std.proofs.lemmas.Bool.Decides.{nat_tests}
use Rattle.nr_links.proofs.Held.{held_read}
use Rattle.nr_links.proofs.peeked.PeekedLinkSource.read_link.Goals as goal

pub returns-in-Some-clause-handed : goal.returns-in-Some-clause-handed
returns-in-Some-clause-handed g c =
    let some : 0 < length c.args.buf.now = grind (arith, nat_tests, c.is_empty.ensures, c.if-is_empty.false) in
    held_read _ c.in-Some.byte _ _ _ _ c.args.buf.now (sym (ap (λ p. p.held) c.self.view_is) ∙ c.in-Some.is)
    (sym (ap (λ p. g.S.Source.left p.inner) c.self.view_is)) (sym (ap (λ p. g.S.Source.given p.inner) c.self.view_is)) some
