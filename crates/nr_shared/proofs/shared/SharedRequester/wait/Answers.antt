use Rattle.std.proofs.Common.{refl}
use Rattle.nr_shared.proofs.Polling.{still_open_call}
use Rattle.nr_shared.proofs.Resting.{rests_on}
use Rattle.nr_shared.proofs.Submitting.{caller_writes, waits_after}
use Rattle.nr_shared.proofs.shared.SharedRequester.wait.Goals as goal

pub drain_turn-requires-clause-lies : goal.drain_turn-requires-clause-lies
drain_turn-requires-clause-lies g c = c.requires.rests.caller.lies

pub await_outcome-requires-clause-rests : goal.await_outcome-requires-clause-rests
await_outcome-requires-clause-rests g c = let r = c.requires.rests in
    rests_on c.args.self.now c.args.pass.now _ r c.drain_turn.ensures.rests r.source refl (caller_writes c.args.pass.now.main c.drain_turn.new.main r.caller c.drain_turn.ensures.wrote) c.drain_turn.ensures.law

pub await_outcome-requires-clause-has_call : goal.await_outcome-requires-clause-has_call
await_outcome-requires-clause-has_call g c = let w = c.drain_turn.ensures.wrote in
    still_open_call c.args.pass.now.main c.drain_turn.new.main c.args.ticket w.adds.seen w.keeps (caller_writes c.args.pass.now.main c.drain_turn.new.main c.requires.rests.caller w).lies c.requires.has_call

pub returns-clause-waited : goal.returns-clause-waited
returns-clause-waited g c = waits_after c.args.pass.now.main c.drain_turn.new.main c.await_outcome.new.pass.main c.args.ticket c.await_outcome.result c.drain_turn.ensures.wrote c.await_outcome.ensures.waited
