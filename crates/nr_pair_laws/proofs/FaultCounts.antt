-- The fault counts of a link's source and of its sink are what a session says of its link's counts.
use Rattle.std.proofs.Common.{◌≡◌, ℕ, Result, Ok, Err}
use Rattle.nr_client.specs.declared.client_end.ClientEnd.{ClientEnd}
use Rattle.nr_client.specs.declared.client_end.ClientEnd.TheVariants as client
use Rattle.nr_client.specs.Calls.{faults_of, link_relations}
use Rattle.nr_client.specs.Requests.{CountsFaultsOver, SinkFaults, SourceFaults}
use Rattle.nr_client.specs.Views.{LinkView}

both_same : (v w : LinkView) → w.source_faults ≡ v.source_faults → w.sink_faults ≡ v.sink_faults → faults_of w ≡ faults_of v
both_same v w source sink = λ i. record { source = source i; sink = sink i }

pub counts_of_both : {A : Type 0} (result : Result A ClientEnd) (v w : LinkView) → SourceFaults result v.source_faults w.source_faults → SinkFaults result v.sink_faults w.sink_faults
    → CountsFaultsOver link_relations result v w
counts_of_both (Ok value) v w source sink = both_same v w source sink
counts_of_both (Err (client.Link end)) v w source sink = (source, sink)
counts_of_both (Err client.DialFault) v w source sink = both_same v w source sink
counts_of_both (Err (client.Rpc kind code)) v w source sink = both_same v w source sink
counts_of_both (Err (client.Mount status)) v w source sink = both_same v w source sink
counts_of_both (Err (client.Nfs status)) v w source sink = both_same v w source sink
counts_of_both (Err client.Chunk) v w source sink = both_same v w source sink
counts_of_both (Err (client.Version low high)) v w source sink = both_same v w source sink
counts_of_both (Err (client.BadReply at reason)) v w source sink = both_same v w source sink
counts_of_both (Err (client.BadPath at)) v w source sink = both_same v w source sink
counts_of_both (Err client.InputFault) v w source sink = both_same v w source sink
counts_of_both (Err client.OutputFault) v w source sink = both_same v w source sink
counts_of_both (Err (client.Budget count)) v w source sink = both_same v w source sink
counts_of_both (Err client.Memory) v w source sink = both_same v w source sink
