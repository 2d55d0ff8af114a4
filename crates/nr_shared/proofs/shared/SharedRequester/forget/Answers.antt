use Rattle.std.proofs.Common.{refl}
use Rattle.nr_shared.proofs.Polling.{caller_forgets}
use Rattle.nr_shared.proofs.Resting.{rests_on}
use Rattle.nr_shared.proofs.shared.SharedRequester.forget.Goals as goal

pub returns-clause-rests : goal.returns-clause-rests
returns-clause-rests g c = let r = c.requires.rests in
    rests_on c.args.self.now c.args.pass.now _ r c.forget_turn.ensures.rests r.source refl (caller_forgets c.args.pass.now.main c.forget_turn.new.main c.args.ticket r.caller c.requires.has_call c.forget_turn.ensures.forgotten) c.forget_turn.ensures.law
