use Rattle.std.proofs.Common.{[], refl}
use Rattle.nr_shared.proofs.Resting.{caller_on, rests_on}
use Rattle.nr_shared.proofs.shared.SharedRequester.has_credit.Goals as goal

pub returns-clause-rests : goal.returns-clause-rests
returns-clause-rests g c = let r = c.requires in
    rests_on c.args.self.now c.args.pass.now _ r c.credit_turn.ensures.rests r.source refl (caller_on c.args.pass.now.main c.credit_turn.new.main [] r.caller c.credit_turn.ensures.added tt) c.credit_turn.ensures.law

pub credit_turn-requires-clause-lies : goal.credit_turn-requires-clause-lies
credit_turn-requires-clause-lies g c = c.requires.caller.lies
