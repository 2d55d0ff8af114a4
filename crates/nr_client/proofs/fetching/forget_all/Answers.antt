use Rattle.std.proofs.Common.{◌≡◌, ◌<◌, ◌∷◌, length, arith, subst}
use Rattle.nr_turnstile.specs.Passes.{mine_of, seen_by}
use Rattle.nr_client.specs.private.JobReads.{AreAsked}
use Rattle.nr_client.proofs.AskedReads.{oldest_forgotten, oldest_open}
use Rattle.nr_client.proofs.JobCalls.{fetched_on}
use Rattle.nr_client.proofs.Tickets.{front}
use Rattle.nr_client.proofs.fetching.forget_all.Goals as goal

pub forget-requires-clause-has_call : goal.forget-requires-clause-has_call
forget-requires-clause-has_call g c =
    let p = c.pieces.job.pass.main in
    let some : 0 < length c.pieces.asked.items = grind (arith, c.pieces-test.true, c.len.ensures) in
    let is : c.pieces.asked.items ≡ c.remove-ticket.result ∷ c.remove-ticket.new.self.items = front c.pieces.asked.items c.remove-ticket.new.self.items c.remove-ticket.result some c.remove-ticket.ensures.value c.remove-ticket.ensures.items in
    let asked = subst (AreAsked c.args._file.now.uid c.args._file.now.gid c.args._file.now.handle.now c.args._file.now.size p) is c.pieces.invariant.1 in
    oldest_open c.args._file.now.uid c.args._file.now.gid c.args._file.now.handle.now c.args._file.now.size p c.remove-ticket.result c.remove-ticket.new.self.items c.pieces.invariant.0.0.caller.lies asked

pub pieces-preserved : goal.pieces-preserved
pieces-preserved g c =
    let p = c.pieces.job.pass.main in let q = c.forget.new.pass.main in
    let some : 0 < length c.pieces.asked.items = grind (arith, c.pieces-test.true, c.len.ensures) in
    let is : c.pieces.asked.items ≡ c.remove-ticket.result ∷ c.remove-ticket.new.self.items = front c.pieces.asked.items c.remove-ticket.new.self.items c.remove-ticket.result some c.remove-ticket.ensures.value c.remove-ticket.ensures.items in
    let asked = subst (AreAsked c.args._file.now.uid c.args._file.now.gid c.args._file.now.handle.now c.args._file.now.size p) is c.pieces.invariant.1 in
    let (others, step) = oldest_forgotten c.args._file.now.uid c.args._file.now.gid c.args._file.now.handle.now c.args._file.now.size p q c.remove-ticket.result c.remove-ticket.new.self.items c.forget.ensures.forgotten asked in
    ((c.forget.ensures.rests, fetched_on (seen_by p) (seen_by q) (mine_of p) (mine_of q) c.args._file.now.uid c.args._file.now.gid c.args._file.now.handle.now c.args._file.now.size c.pieces.job.fetched.items step.seen step.mine c.pieces.invariant.0.1), others)
