use Rattle.std.proofs.Common.{◌≡◌, ◌<◌, ℕ, List, length, arith, refl, sym, ap, subst}
use Rattle.std.specs.List.{All, slice_index_or}
use Rattle.nr_turnstile.specs.Passes.{mine_of, seen_by}
use Rattle.nr_client.proofs.JobCalls.{fetched_on}
use Rattle.nr_client.proofs.fetching.ask_all.Goals as goal

-- a piece of the job begins before the size
below : {size n next : ℕ} {xs ys : List ℕ} → xs ≡ ys → n ≡ slice_index_or xs next n → All (λ (at : ℕ). at < size) ys → next < length xs → n < size
below {size} {n} {next} {xs} {ys} same is all lt =
    subst (λ (m : ℕ). m < size) (sym is) (subst (λ (l : List ℕ). All (λ (at : ℕ). at < size) l) (sym same) all next n lt)

pub ask-submitted-requires-clause-below : goal.ask-submitted-requires-clause-below
ask-submitted-requires-clause-below g c = below (ap (λ v. v.items) c.pieces.invariant.0) c.index-at.ensures c.requires.ready.1 (grind (arith, c.pieces-test.true, c.len.ensures))

pub pieces-init : goal.pieces-init
pieces-init g c = (refl, c.requires.ready.0, c.requires.asked)

pub pieces-preserved : goal.pieces-preserved
pieces-preserved g c =
    let (same, done, asked) = c.pieces.invariant in
    let p = c.pieces.job.pass.main in let q = c.ask-submitted.new.pass.main in let step = c.ask-submitted.ensures.grows in (
      same,
      (c.ask-submitted.ensures.rests, fetched_on (seen_by p) (seen_by q) (mine_of p) (mine_of q) c.args.file.now.uid c.args.file.now.gid c.args.file.now.handle.now c.args.file.now.size c.pieces.job.fetched.items step.seen step.mine done.1),
      c.ask-submitted.ensures.asked,
    )

pub returns-then-not-submitted-clause-done : goal.returns-then-not-submitted-clause-done
returns-then-not-submitted-clause-done g c =
    let (same, done, asked) = c.pieces.invariant in
    let p = c.pieces.job.pass.main in let q = c.ask-submitted.new.pass.main in let step = c.ask-submitted.ensures.grows in
    (c.ask-submitted.ensures.rests, fetched_on (seen_by p) (seen_by q) (mine_of p) (mine_of q) c.args.file.now.uid c.args.file.now.gid c.args.file.now.handle.now c.args.file.now.size c.pieces.job.fetched.items step.seen step.mine done.1)
