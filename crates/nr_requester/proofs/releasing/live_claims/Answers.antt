use Rattle.std.proofs.Common.{arith}
use Rattle.nr_requester.proofs.DeadRegions.{count_claims}
use Rattle.nr_requester.proofs.releasing.live_claims.Goals as goal

pub returns-clause-count : goal.returns-clause-count
returns-clause-count c =
    let all = count_claims c.args.endpoint.now.link.state.memory c.args.claims.now in
    let read = c.live_one.ensures.count in
    let write = c.live_one-2.ensures.count in
    let reply = c.live_one-3.ensures.count in
    omega (arith, all, read, write, reply)
