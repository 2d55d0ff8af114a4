use Rattle.std.proofs.Common.{sym, ap, Some, Err, ◌∙◌}
use Rattle.nr_shared.specs.declared.call_end.CallEnd.TheVariants as calls
use Rattle.nr_client.proofs.Refusals.{not_memory, ok_not_out, not_out}
use Rattle.nr_client.proofs.transfer.feed_piece.Goals as goal

pub returns-in-Ok-clause-ok : goal.returns-in-Ok-clause-ok
returns-in-Ok-clause-ok c = c.in-Ok.ensures.stands ok_not_out

pub returns-in-Ok-clause-memory : goal.returns-in-Ok-clause-memory
returns-in-Ok-clause-memory c same = absurd (cc (c.in-Ok.ensures.ended, same))

pub returns-in-Memory-clause-err : goal.returns-in-Memory-clause-err
returns-in-Memory-clause-err c =
    let (n, (ran, (out, stops))) = c.in-Err.ensures.memory (ap Err c.in-Memory.is) c.requires.live in
    (ap calls.Ended c.in-Memory.is, ((n, out), sym c.in-Err.ensures.ended ∙ ap Some c.in-Memory.is))

pub returns-in_default : goal.returns-in_default
returns-in_default c = record {
  ok = c.in-Err.ensures.stands (not_out c.in_default.not-Memory);
  memory = λ same. not_memory c.in_default.not-Memory (c.in-Err.ensures.ended ∙ same);
  err = tt;
  tickets = c.in-Err.ensures.tickets;
  fed = c.in-Err.ensures.within;
}
