-- A command that has no answer to a call has the cause of that end when its link is hung up, whatever its server replies.
use Rattle.std.proofs.Common.{◌≡◌, ◌⊎◌, Option, None, Some, Result, Ok, Err, inl, inr, sym, ap, subst, ◌∙◌}
use Rattle.nr_outside.specs.Faults.{Rises}
use Rattle.nr_link.specs.declared.end.End.{End}
use Rattle.nr_link.specs.declared.end.End.TheVariants as ends
use Rattle.nr_requester.specs.RequesterState.{RequesterSide}
use Rattle.nr_shared.specs.declared.call_end.CallEnd.{CallEnd}
use Rattle.nr_shared.specs.declared.call_end.CallEnd.TheVariants as calls
use Rattle.nr_client.specs.declared.client_end.ClientEnd.{ClientEnd}
use Rattle.nr_client.specs.declared.client_end.ClientEnd.TheVariants as client
use Rattle.nr_commands.specs.Running.Runs.{NotOpened, Opened}
use Rattle.nr_service_laws.specs.EndCauses.{CauseAt, EndsHaveCauses, ServedCommandsEndForMemory}
use Rattle.nr_service_laws.specs.Exchanges.{tells_text}
use Rattle.nr_service_laws.proofs.AnyOutcomes.{PeerEnd, given_by_peer}
use Rattle.nr_service_laws.proofs.Judged.{Any}
use Rattle.nr_service_laws.proofs.JudgedParts.{GivenIs}
use Rattle.nr_service_laws.proofs.ServedLaws.{served_not_ended_lem}
use Rattle.nr_client.specs.Views.{LinkView}

-- ---- The causes

cause_of : (F : ClientEnd → Type 0) (result : Result (Unit {0}) ClientEnd) (b : LinkView) (end : CallEnd) → result ≡ Err (client.Link end) → GivenIs Any F result b → CauseAt end b
cause_of F result b end same is = subst (λ (r : Result (Unit {0}) ClientEnd). GivenIs Any F r b) same is

pub ends_have_causes_lem : EndsHaveCauses
ends_have_causes_lem c before after input input' out out' result (NotOpened end is fails same_input same_out) = tt
ends_have_causes_lem c before after input input' out out' result (Opened dialed s s' opens prints closes) = λ end is.
    cause_of (PeerEnd c input (tells_text c.uid c.gid c.export c.action input input' out prints.written s s' prints.text prints.made).made (Rises input.faults input'.faults) (Rises out.faults out'.faults)) result
    s' end is (given_by_peer c before dialed s s' input input' out out' result opens prints)

-- ---- On a link that stays open

some_is : (end : End) (o : Option End) → o ≡ None → o ≡ Some end → ⊥
some_is end o none some = absurd (let wrong = sym none ∙ some in cc)

end_in_link : End → Result (Unit {0}) ClientEnd → End
end_in_link other (Err (client.Link (calls.Ended end))) = end
end_in_link other (Err (client.Link calls.LinkRead)) = other
end_in_link other (Err (client.Link calls.LinkWrite)) = other
end_in_link other (Err (client.Link calls.Closed)) = other
end_in_link other (Err (client.Link (calls.Tries n))) = other
end_in_link other (Err (client.Link calls.DialFault)) = other
end_in_link other (Err (client.Link (calls.Spent left_over need))) = other
end_in_link other (Err (client.Link (calls.TooLarge need room))) = other
end_in_link other (Err (client.Link (calls.Budget count))) = other
end_in_link other (Err (client.Link calls.Memory)) = other
end_in_link other (Err client.DialFault) = other
end_in_link other (Err (client.Rpc kind code)) = other
end_in_link other (Err (client.Mount status)) = other
end_in_link other (Err (client.Nfs status)) = other
end_in_link other (Err client.Chunk) = other
end_in_link other (Err (client.Version low high)) = other
end_in_link other (Err (client.BadReply at reason)) = other
end_in_link other (Err (client.BadPath at)) = other
end_in_link other (Err client.InputFault) = other
end_in_link other (Err client.OutputFault) = other
end_in_link other (Err (client.Budget count)) = other
end_in_link other (Err client.Memory) = other
end_in_link other (Ok done) = other

for_memory : (result : Result (Unit {0}) ClientEnd) (h : RequesterSide) (end : End) → result ≡ Err (client.Link (calls.Ended end)) → (h.state.side.ended ≡ None) ⊎ (result ≡ Err (client.Link (calls.Ended ends.Memory)))
    → (end ≡ ends.Memory) ⊎ (h.state.side.ended ≡ Some end) → end ≡ ends.Memory
unfolding end_in_link
for_memory result h end is opens (inl memory) = memory
for_memory result h end is (inl stays) (inr ended) = absurd (some_is end h.state.side.ended stays ended)
for_memory result h end is (inr out) (inr ended) = ap (end_in_link ends.Memory) (sym is ∙ out)

not_failed : (result : Result (Unit {0}) ClientEnd) (h : RequesterSide) (end : End) → result ≡ Err (client.Link (calls.Ended end))
    → (h.state.side.ended ≡ None) ⊎ ((result ≡ Err (client.Link (calls.Ended ends.Memory))) ⊎ (result ≡ Err (client.Link calls.LinkWrite)))
    → (h.state.side.ended ≡ None) ⊎ (result ≡ Err (client.Link (calls.Ended ends.Memory)))
not_failed result h end is (inl stays) = inl stays
not_failed result h end is (inr (inl out)) = inr out
not_failed result h end is (inr (inr failed)) = absurd (let wrong = sym is ∙ failed in cc)

pub served_end_for_memory_lem : ServedCommandsEndForMemory
served_end_for_memory_lem opened link c before after input input' out out' result (NotOpened end is fails same_input same_out) = tt
served_end_for_memory_lem opened link c before after input input' out out' result (Opened dialed s s' opens prints closes) = λ ran reply_to adds both fine served end is.
    for_memory result s'.requester end is
    (not_failed result s'.requester end is
    (served_not_ended_lem opened link c before after input input' out out' result (Opened dialed s s' opens prints closes) ran reply_to adds both fine served))
    (ends_have_causes_lem c before after input input' out out' result (Opened dialed s s' opens prints closes) (calls.Ended end) is)
