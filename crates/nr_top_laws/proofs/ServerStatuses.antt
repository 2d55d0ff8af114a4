-- The status of a server whose configuration is right.
use Rattle.std.proofs.Common.{◌≡◌, ℕ, inl, inr, subst}
use Rattle.nr_outside.specs.Faults.{Rises}
use Rattle.nr_outside.specs.Streams.{SinkAt}
use Rattle.nr_serve.specs.declared.stop.ServeStop.{ServeStop}
use Rattle.nr_serve.specs.declared.stop.ServeStop.TheVariants as stops
use Rattle.nr_serve.proofs.Completing.{only_memory}
use Rattle.nr_top.specs.Ends.{memory_text}
use Rattle.nr_top.specs.Serving.{ReportsStop}
use Rattle.nr_top.specs.Serving.ServeEnds.{NotServed, Served}
use Rattle.nr_top.specs.Statuses as statuses
use Rattle.nr_top_laws.specs.ServerStatuses.{ServersHaveStatuses}
use Rattle.nr_top_laws.proofs.CommandStatuses.{reported_is}

pub memory_reported : (stop : ServeStop) (status : ℕ) (err err' : SinkAt) → stop ≡ stops.Memory → (Rises err.faults err'.faults → ⊥) → ReportsStop stop status err err' → status ≡ statuses.no_memory
memory_reported stop status err err' is calm reports =
    reported_is statuses.no_memory status memory_text err err' calm (subst (λ (s : ServeStop). ReportsStop s status err err') is reports)

pub servers_have_statuses_lem : ServersHaveStatuses
servers_have_statuses_lem status input input' out out' err err' before after spawner spawner' gave gave' configured calm (Served is done same) = inl is
servers_have_statuses_lem status input input' out out' err err' before after spawner spawner' gave gave' configured calm (NotServed stop stopped reports) =
    inr (memory_reported stop status err err' (only_memory stop configured.text configured.settings input input' out out' before after spawner spawner' gave gave' configured.whole configured.within configured.reads
    calm.input_reads calm.output_writes calm.accepts stopped) calm.error_writes reports)
