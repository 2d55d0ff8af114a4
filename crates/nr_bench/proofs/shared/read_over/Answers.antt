use Rattle.std.proofs.Common.{sym, subst}
use Rattle.std.specs.List.{All}
use Rattle.nr_shared.specs.Sharing.{SharedRests}
use Rattle.nr_bench.proofs.FirstHistory.{is_initial_history}
use Rattle.nr_bench.proofs.shared.read_over.Goals as goal

pub read_all-requires-clause-rests : goal.read_all-requires-clause-rests
read_all-requires-clause-rests g c κs bounds = subst (All (λ r. SharedRests c.in_ok-shared.shared r.pass)) (sym c.as_mut_slice.ensures.value) c.in-Ok-readers_of.ensures.ok

pub share-requires : goal.share-requires
share-requires g c = is_initial_history g.O.LinkSink.link g.O.Sink.taken g.O.Sink.faults c.in-Ok.requester c.args.sink c.in-Ok.ensures.state c.in-Ok.ensures.fed
