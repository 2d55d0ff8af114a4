use Rattle.std.proofs.Common.{[], ◌∷◌, None, refl, sym, ap}
use Rattle.nr_shared.specs.declared.entry.Entry.{Entry}
use Rattle.nr_client.proofs.shared_calls.share.Goals as goal

pub new-requires-clause-initial : goal.new-requires-clause-initial
new-requires-clause-initial g c = record {
  initial = record { requester = c.args.requester; sink = record { link = g.O.LinkSink.link c.args.sink; faults = g.O.Sink.faults c.args.sink; taken = g.O.Sink.taken c.args.sink }; tries = None };
  history_is = ap (λ (e : Entry). e ∷ []) (sym c.requires.entry);
  requester_is = refl;
  has_memory = c.requires.has_memory;
  fed = c.requires.fed;
  sink_link = refl;
  sink_taken = refl;
  sink_faults = refl;
  tries_are = refl;
  numbered = tt;
  few = refl;
}
