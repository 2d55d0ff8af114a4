use Rattle.std.proofs.Common.{ℕ, ◌<◌, ◌∙◌, length, subst}
use Rattle.nr_wire.proofs.Frames.{needed_some, needed_less, needed_just}
use Rattle.nr_wire.proofs.stream.bytes_needed.Goals as goal

pub returns-clause-some : goal.returns-clause-some
returns-clause-some c = rw c.bytes_needed_inner.ensures.exact (needed_some c.args.awaited c.args.rest.now)

pub returns-clause-less : goal.returns-clause-less
returns-clause-less c = λ more lt.
    needed_less c.args.awaited c.args.rest.now more (subst (λ (n : ℕ). length more < n) c.bytes_needed_inner.ensures.exact lt)

pub returns-clause-just : goal.returns-clause-just
returns-clause-just c = λ le p more e.
    (needed_just c.args.awaited c.args.rest.now more p (e ∙ c.bytes_needed_inner.ensures.exact)).1 le

pub returns-clause-room : goal.returns-clause-room
returns-clause-room c = λ p.
    c.bytes_needed_inner.ensures.room (rw c.bytes_needed_inner.ensures.exact ((needed_some c.args.awaited c.args.rest.now).0 p))
