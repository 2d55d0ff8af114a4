use Rattle.std.proofs.Common.{refl, sym, ◌∙◌, length}
use Rattle.nr_plain.proofs.TurnAnswers.{adds_by, few_by}
use Rattle.nr_plain.proofs.server.Server.execute_once.Goals as goal

pub returns-clause-adds : goal.returns-clause-adds
returns-clause-adds c s T is =
    adds_by s T c.args.client c.args.now c.args.payload.now c.in-Ok.reply.payload c.args.self.now c.execute_for.new.self c.journal_len-before.result c.journal_len.result
    c.journal_len-before.ensures.len c.journal_len.ensures.len is (c.in-Ok.ensures.answered s T is).stands _ refl

pub returns-clause-room : goal.returns-clause-room
returns-clause-room c s T is = few_by s T c.args.self.now c.journal_len-before.result c.journal_len-before.ensures.len c.journal_len-before.ensures.below is
