use Rattle.std.proofs.Common.{◌≡◌, ◌<◌, ◌∷◌, length, arith, refl, subst, ◌∙◌}
use Rattle.std.specs.List.{All}
use Rattle.nr_turnstile.specs.Passes.{mine_of, seen_by}
use Rattle.nr_shared.specs.Sharing.{SharedRests}
use Rattle.nr_client.specs.private.JobReads.{Grows, IsDone}
use Rattle.nr_client.proofs.JobCalls.{all_first, grows_none, grows_then, joined_fetched, joined_grows, lists_more}
use Rattle.nr_client.proofs.Tickets.{front}
use Rattle.nr_client.proofs.jobs.join_jobs.Goals as goal

pub jobs-init : goal.jobs-init
jobs-init g c = (
  c.requires.rests,
  c.requires.jobs,
  refl,
  grows_none c.args.pass.now.main c.args.pass.now.main refl refl,
  λ uid gid size file all. (all, λ k d lt. absurd (grind (arith, c.in_ok-lists.ensures.items, lt))),
)

pub jobs-preserved : goal.jobs-preserved
jobs-preserved g c =
    let (rests, owners, source, grows, got) = c.jobs.invariant in
    let p = c.jobs.pass.main in let o = c.remove-own.result.pass.main in let q = c.join.new.pass.main in
    let some : 0 < length c.jobs.made.items = grind (arith, c.jobs-test.true, c.len.ensures) in
    let is : c.jobs.made.items ≡ c.remove-own.result ∷ c.remove-own.new.self.items = front c.jobs.made.items c.remove-own.new.self.items c.remove-own.result some c.remove-own.ensures.value c.remove-own.ensures.items in
    let owner = all_first (λ j. SharedRests c.args.shared.now j.pass) c.remove-own.result c.remove-own.new.self.items (subst (All (λ j. SharedRests c.args.shared.now j.pass)) is owners) in
    let step : Grows p q = joined_grows p o q c.join.ensures.seen.0 c.join.ensures.mine in (
      c.join.ensures.rests,
      owner.1,
      c.join.ensures.source ∙ source,
      grows_then c.args.pass.now.main p q grows step,
      λ uid gid size file all.
          (let (done, lists) = got uid gid size file all in
          let one = all_first (IsDone c.args.shared.now uid gid file size) c.remove-own.result c.remove-own.new.self.items (subst (All (IsDone c.args.shared.now uid gid file size)) is done) in (
            one.1,
            lists_more uid gid file size (seen_by p) (seen_by q) (mine_of p) (mine_of q) c.jobs.lists.items _ c.remove-own.result.fetched step.seen step.mine lists
                (joined_fetched p o q uid gid file size c.remove-own.result.fetched.items c.join.ensures.seen.1 c.join.ensures.mine one.0.1) c.in_ok-push.ensures.items,
          )),
    )

pub join-requires : goal.join-requires
join-requires g c =
    let (rests, owners, source, grows, got) = c.jobs.invariant in
    let some : 0 < length c.jobs.made.items = grind (arith, c.jobs-test.true, c.len.ensures) in
    let is : c.jobs.made.items ≡ c.remove-own.result ∷ c.remove-own.new.self.items = front c.jobs.made.items c.remove-own.new.self.items c.remove-own.result some c.remove-own.ensures.value c.remove-own.ensures.items in
    (rests, (all_first (λ j. SharedRests c.args.shared.now j.pass) c.remove-own.result c.remove-own.new.self.items (subst (All (λ j. SharedRests c.args.shared.now j.pass)) is owners)).0)

pub returns-in_err-lists-clause-grows : goal.returns-in_err-lists-clause-grows
returns-in_err-lists-clause-grows g c = grows_none c.args.pass.now.main c.args.pass.now.main refl refl

pub returns-in_err-push-clause-grows : goal.returns-in_err-push-clause-grows
returns-in_err-push-clause-grows g c =
    let (rests, owners, source, grows, got) = c.jobs.invariant in
    grows_then c.args.pass.now.main c.jobs.pass.main c.join.new.pass.main grows (joined_grows c.jobs.pass.main c.remove-own.result.pass.main c.join.new.pass.main c.join.ensures.seen.0 c.join.ensures.mine)

pub returns-clause-ok : goal.returns-clause-ok
returns-clause-ok g c uid gid size file all = let (rests, owners, source, grows, got) = c.jobs.invariant in (got uid gid size file all).1
