use Rattle.std.proofs.Common.{refl, arith, ◌+◌}
use Rattle.nr_plain.proofs.Histories.{entries_are, fits}
use Rattle.nr_plain.proofs.machine.ServerMachine.entries.Goals as goal

pub overflow_add-result : goal.overflow_add-result
overflow_add-result c =
    let (h, stands, room) = c.requires in
    let low = fits c.args.self.now h c.journal_len.result c.journal_len.ensures.len stands room in omega (arith, low)

pub returns : goal.returns
returns c h stands = entries_are c.args.self.now h c.journal_len.result (c.journal_len.result + 1) c.journal_len.ensures.len refl stands
