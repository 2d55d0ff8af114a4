use Rattle.std.proofs.Common.{◌≡◌, ◌<◌, ◌∷◌, length, arith, refl, sym, subst}
use Rattle.nr_turnstile.specs.Passes.{mine_of, seen_by}
use Rattle.nr_client.specs.private.JobReads.{AreAsked, AreFetched}
use Rattle.nr_client.proofs.AskedReads.{oldest_given_up, oldest_open, oldest_taken}
use Rattle.nr_client.proofs.JobCalls.{fetched_more, fetched_on}
use Rattle.nr_client.proofs.Tickets.{front}
use Rattle.nr_client.proofs.fetching.take_all.Goals as goal

pub wait-requires-clause-has_call : goal.wait-requires-clause-has_call
wait-requires-clause-has_call g c =
    let p = c.pieces.job.pass.main in
    let some : 0 < length c.pieces.asked.items = grind (arith, c.pieces-test.true, c.len.ensures) in
    let is : c.pieces.asked.items ≡ c.remove-at.result ∷ c.remove-at.new.self.items = front c.pieces.asked.items c.remove-at.new.self.items c.remove-at.result some c.remove-at.ensures.value c.remove-at.ensures.items in
    let asked = subst (AreAsked c.args._file.now.uid c.args._file.now.gid c.args._file.now.handle.now c.args._file.now.size p) is c.pieces.invariant.1 in
    oldest_open c.args._file.now.uid c.args._file.now.gid c.args._file.now.handle.now c.args._file.now.size p c.remove-at.result c.remove-at.new.self.items c.pieces.invariant.0.0.caller.lies asked

pub pieces-preserved : goal.pieces-preserved
pieces-preserved g c =
    let p = c.pieces.job.pass.main in let q = c.wait.new.pass.main in
    let some : 0 < length c.pieces.asked.items = grind (arith, c.pieces-test.true, c.len.ensures) in
    let is : c.pieces.asked.items ≡ c.remove-at.result ∷ c.remove-at.new.self.items = front c.pieces.asked.items c.remove-at.new.self.items c.remove-at.result some c.remove-at.ensures.value c.remove-at.ensures.items in
    let asked = subst (AreAsked c.args._file.now.uid c.args._file.now.gid c.args._file.now.handle.now c.args._file.now.size p) is c.pieces.invariant.1 in
    let (made, (others, step)) = oldest_taken c.args._file.now.uid c.args._file.now.gid c.args._file.now.handle.now c.args._file.now.size p q c.remove-at.result c.remove-at.new.self.items c.in-Ok.done c.in-Ok.ensures.waited asked in
    let kept = fetched_on (seen_by p) (seen_by q) (mine_of p) (mine_of q) c.args._file.now.uid c.args._file.now.gid c.args._file.now.handle.now c.args._file.now.size c.pieces.job.fetched.items step.seen step.mine c.pieces.invariant.0.1 in (
      (
        c.wait.ensures.rests,
        subst (AreFetched c.args._file.now.uid c.args._file.now.gid c.args._file.now.handle.now c.args._file.now.size (seen_by q) (mine_of q)) (sym c.in-Ok-push.ensures.items)
            (fetched_more (seen_by q) (mine_of q) c.args._file.now.uid c.args._file.now.gid c.args._file.now.handle.now c.args._file.now.size _ _ c.in-Ok.done.outcome c.pieces.job.fetched.items kept made refl),
      ),
      others,
    )

pub returns-in-Err-clause-done : goal.returns-in-Err-clause-done
returns-in-Err-clause-done g c =
    let p = c.pieces.job.pass.main in let q = c.wait.new.pass.main in
    let some : 0 < length c.pieces.asked.items = grind (arith, c.pieces-test.true, c.len.ensures) in
    let is : c.pieces.asked.items ≡ c.remove-at.result ∷ c.remove-at.new.self.items = front c.pieces.asked.items c.remove-at.new.self.items c.remove-at.result some c.remove-at.ensures.value c.remove-at.ensures.items in
    let asked = subst (AreAsked c.args._file.now.uid c.args._file.now.gid c.args._file.now.handle.now c.args._file.now.size p) is c.pieces.invariant.1 in
    let (others, step) = oldest_given_up c.args._file.now.uid c.args._file.now.gid c.args._file.now.handle.now c.args._file.now.size p q c.remove-at.result c.remove-at.new.self.items c.in-Err.field-0 c.in-Err.ensures.waited asked in
    (c.wait.ensures.rests, fetched_on (seen_by p) (seen_by q) (mine_of p) (mine_of q) c.args._file.now.uid c.args._file.now.gid c.args._file.now.handle.now c.args._file.now.size c.pieces.job.fetched.items step.seen step.mine c.pieces.invariant.0.1)

pub returns-in-Err-clause-asked : goal.returns-in-Err-clause-asked
returns-in-Err-clause-asked g c =
    let p = c.pieces.job.pass.main in let q = c.wait.new.pass.main in
    let some : 0 < length c.pieces.asked.items = grind (arith, c.pieces-test.true, c.len.ensures) in
    let is : c.pieces.asked.items ≡ c.remove-at.result ∷ c.remove-at.new.self.items = front c.pieces.asked.items c.remove-at.new.self.items c.remove-at.result some c.remove-at.ensures.value c.remove-at.ensures.items in
    let asked = subst (AreAsked c.args._file.now.uid c.args._file.now.gid c.args._file.now.handle.now c.args._file.now.size p) is c.pieces.invariant.1 in
    (oldest_given_up c.args._file.now.uid c.args._file.now.gid c.args._file.now.handle.now c.args._file.now.size p q c.remove-at.result c.remove-at.new.self.items c.in-Err.field-0 c.in-Err.ensures.waited asked).0

pub returns-in-Err-push-clause-done : goal.returns-in-Err-push-clause-done
returns-in-Err-push-clause-done g c =
    let p = c.pieces.job.pass.main in let q = c.wait.new.pass.main in
    let some : 0 < length c.pieces.asked.items = grind (arith, c.pieces-test.true, c.len.ensures) in
    let is : c.pieces.asked.items ≡ c.remove-at.result ∷ c.remove-at.new.self.items = front c.pieces.asked.items c.remove-at.new.self.items c.remove-at.result some c.remove-at.ensures.value c.remove-at.ensures.items in
    let asked = subst (AreAsked c.args._file.now.uid c.args._file.now.gid c.args._file.now.handle.now c.args._file.now.size p) is c.pieces.invariant.1 in
    let (made, (others, step)) = oldest_taken c.args._file.now.uid c.args._file.now.gid c.args._file.now.handle.now c.args._file.now.size p q c.remove-at.result c.remove-at.new.self.items c.in-Ok.done c.in-Ok.ensures.waited asked in
    let kept = fetched_on (seen_by p) (seen_by q) (mine_of p) (mine_of q) c.args._file.now.uid c.args._file.now.gid c.args._file.now.handle.now c.args._file.now.size c.pieces.job.fetched.items step.seen step.mine c.pieces.invariant.0.1 in
    (c.wait.ensures.rests, subst (AreFetched c.args._file.now.uid c.args._file.now.gid c.args._file.now.handle.now c.args._file.now.size (seen_by q) (mine_of q)) (sym c.in-Err-push.ensures.items) kept)

pub returns-in-Err-push-clause-asked : goal.returns-in-Err-push-clause-asked
returns-in-Err-push-clause-asked g c =
    let p = c.pieces.job.pass.main in let q = c.wait.new.pass.main in
    let some : 0 < length c.pieces.asked.items = grind (arith, c.pieces-test.true, c.len.ensures) in
    let is : c.pieces.asked.items ≡ c.remove-at.result ∷ c.remove-at.new.self.items = front c.pieces.asked.items c.remove-at.new.self.items c.remove-at.result some c.remove-at.ensures.value c.remove-at.ensures.items in
    let asked = subst (AreAsked c.args._file.now.uid c.args._file.now.gid c.args._file.now.handle.now c.args._file.now.size p) is c.pieces.invariant.1 in
    (oldest_taken c.args._file.now.uid c.args._file.now.gid c.args._file.now.handle.now c.args._file.now.size p q c.remove-at.result c.remove-at.new.self.items c.in-Ok.done c.in-Ok.ensures.waited asked).1.0
