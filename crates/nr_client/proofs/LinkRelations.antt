-- A call over a link that one caller has, by the relations of such a link.
use Rattle.std.proofs.Common.{◌≡◌, ℕ, Result, Ok, Err, IfOk, IfErr, OnOk, ap, inl, inr}
use Rattle.nr_reduce.specs.declared.call.Call.{Call}
use Rattle.nr_reduce.specs.declared.call.Outcome.{Outcome}
use Rattle.nr_requester.specs.OpenCalls.{OpensTicket}
use Rattle.nr_shared.specs.declared.call_end.CallEnd.{CallEnd}
use Rattle.nr_client.specs.declared.client_end.ClientEnd.{ClientEnd}
use Rattle.nr_client.specs.declared.client_end.ClientEnd.TheVariants as client
use Rattle.nr_client.specs.Calls.{Answers, Forgets, GivesUp, HasMemory, LinkFaults, RefusesToSubmit, faults_of, link_relations}
use Rattle.nr_client.specs.Ending.{IsCauseIn, LinkCause, SinkCount, SourceCount}
use Rattle.nr_client.specs.Relations.{CountsEnd, OpensTicketOver}
use Rattle.nr_client.specs.Requests.{Asks, CountsFaultsOver, SinkFaults, SourceFaults}
use Rattle.nr_client.specs.Views.{LinkView}
use Rattle.nr_client.proofs.Tickets.{opens_call}

pub answered : (result : Result Outcome CallEnd) (v w : LinkView) (call : Call) → IfOk result (λ outcome. Answers v w call outcome) → OnOk result (HasMemory w)
    → IfOk result (λ outcome. link_relations.answers v w call outcome)
answered (Ok outcome) v w call ok memory = (ok, memory)
answered (Err end) v w call ok memory = tt

pub given_up : (result : Result Outcome CallEnd) (v w : LinkView) (call : Call) → IfErr result (λ end. GivesUp v w call end) → IfErr result (λ end. IsCauseIn end w call)
    → IfErr result (λ end. link_relations.gives_up v w call end)
given_up (Ok outcome) v w call err cause = tt
given_up (Err end) v w call err cause = (err, cause)

pub refused : (result : Result ℕ CallEnd) (v w : LinkView) (call : Call) → IfErr result (λ end. RefusesToSubmit v w call end) → IfErr result (λ end. IsCauseIn end w call)
    → IfErr result (λ end. link_relations.refuses v w call end)
refused (Ok xid) v w call err cause = tt
refused (Err end) v w call err cause = (err, cause)

pub forgotten : (result : Result Outcome CallEnd) (v w : LinkView) (xid : ℕ) → IfErr result (λ end. Forgets xid end v w)
    → IfErr result (λ end. LinkCause end w.bytes.left w.bytes.read w.requester) → IfErr result (λ end. link_relations.forgets xid end v w)
forgotten (Ok outcome) v w xid err cause = tt
forgotten (Err end) v w xid err cause = (err, cause)

-- its fault counts
pub counted : {A : Type 0} (result : Result A CallEnd) (v w : LinkView) → SourceCount result v.source_faults w.source_faults → SinkCount result v.sink_faults w.sink_faults
    → CountsEnd link_relations result v w
counted (Ok value) v w source sink = λ i. record { source = source i; sink = sink i }
counted (Err end) v w source sink = (source, sink)

-- what it opens
pub opened : (result : Result ℕ CallEnd) (v w : LinkView) (call : Call) → IfOk result (λ xid. OpensTicket xid call v.requester.state w.requester.state)
    → IfOk result (λ xid. OpensTicketOver link_relations xid call v w)
opened (Ok xid) v w call opens = opens_call xid call v w opens
opened (Err end) v w call opens = tt

-- the counts of its source and of its sink
same_counts : (v w : LinkView) → faults_of w ≡ faults_of v → (w.source_faults ≡ v.source_faults) × (w.sink_faults ≡ v.sink_faults)
same_counts v w same = (ap (λ (f : LinkFaults). f.source) same, ap (λ (f : LinkFaults). f.sink) same)

pub both_counts : {A : Type 0} (result : Result A ClientEnd) (v w : LinkView) → CountsFaultsOver link_relations result v w
    → SourceFaults result v.source_faults w.source_faults × SinkFaults result v.sink_faults w.sink_faults
both_counts (Ok value) v w same = same_counts v w same
both_counts (Err (client.Link end)) v w counts = counts
both_counts (Err client.DialFault) v w same = same_counts v w same
both_counts (Err (client.Rpc kind code)) v w same = same_counts v w same
both_counts (Err (client.Mount status)) v w same = same_counts v w same
both_counts (Err (client.Nfs status)) v w same = same_counts v w same
both_counts (Err client.Chunk) v w same = same_counts v w same
both_counts (Err (client.Version low high)) v w same = same_counts v w same
both_counts (Err (client.BadReply at reason)) v w same = same_counts v w same
both_counts (Err (client.BadPath at)) v w same = same_counts v w same
both_counts (Err client.InputFault) v w same = same_counts v w same
both_counts (Err client.OutputFault) v w same = same_counts v w same
both_counts (Err (client.Budget count)) v w same = same_counts v w same
both_counts (Err client.Memory) v w same = same_counts v w same

-- memory didn't run out in a call that was answered
pub has_memory : {A : Type 0} (reads : Outcome → Result A ClientEnd) (call : Call) (v w : LinkView) (value : A) → Asks reads call v w (Ok value) → HasMemory w
has_memory reads call v w value (inl (outcome, (answered, gives))) = answered.1
has_memory reads call v w value (inr (inl (end, (is, rest)))) = absurd (let wrong : Ok value ≡ Err (client.Link end) = is in cc)
has_memory reads call v w value (inr (inr (is, rest))) = absurd (let wrong : Ok value ≡ Err client.Memory = is in cc)
