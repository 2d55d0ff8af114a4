use Rattle.std.proofs.Common.{◌≡◌, true, length, ◌+◌, rules}
use Rattle.nr_endpoint.proofs.SendQueues.{written_both}
use Rattle.nr_endpoint.proofs.send_queue.write_queue.Goals as goal

pub returns-clause-written : goal.returns-clause-written
returns-clause-written g c =
    let hello = c.args.hello.now.items in
    let count = c.write_out.result.0 in
    let first = c.write_run-greeted.ensures in
    let second = c.write_out.ensures in
    let has : c.args.has_hello ≡ true = search rules in
    let whole : c.write_run-greeted.result.0 ≡ length hello = search rules in
    let (a, b, d, e, f, h) = written_both hello c.args.fpdus.now.items _ _ _ count _ _ _ c.write_out.result.1 whole second.count first.left second.left first.took second.took second.all in
    rw has (length hello + count, a, b, d, e, f, h)
