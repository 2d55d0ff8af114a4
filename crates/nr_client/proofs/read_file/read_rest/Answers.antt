use Rattle.nr_client.proofs.read_file.read_rest.Goals as goal

pub returns-in-Err-clause-err : goal.returns-in-Err-clause-err
returns-in-Err-clause-err g c from xids first taken so_far =
    let (piece, tickets, faults, outs, on) = c.rest.invariant in
    c.in-Err.ensures.err from xids first taken (on from xids first taken so_far)
