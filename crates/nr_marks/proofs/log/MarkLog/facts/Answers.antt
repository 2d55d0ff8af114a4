use Rattle.std.proofs.Common.{arith}
use Rattle.nr_marks.proofs.KeptMarks.{count_of}
use Rattle.nr_marks.proofs.log.MarkLog.facts.Goals as goal

pub returns : goal.returns
returns c =
    let count = count_of c.self.inside.stores c.self.inside.entries.items c.self.inside.waiting c.args.self.now c.self.view_is in
    let ok = c.self.inside.entries.ok in
    let small = c.self.inside.entries.small in
    omega (arith, count, ok, small)
