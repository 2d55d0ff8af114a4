-- A call that was made again by its plan, whose message is held back: what is kept, as the definitions see it.
use Rattle.std.proofs.Common.{◌≡◌, ℕ, Bool, false, cond, List, [], ◌∷◌, ◌++◌, Option, None, Some, refl, sym, ap, ◌∙◌}
use Rattle.std.specs.Prelude.{is_some}
use Rattle.nr_link.specs.declared.end.End.{End}
use Rattle.nr_regions.specs.RegisteredMemory.{RegisteredMemory}
use Rattle.nr_endpoint.specs.declared.offering.Offered.{Offered}
use Rattle.nr_endpoint.specs.LinkState.{LinkState, LinkSide}
use Rattle.nr_endpoint.specs.SendQueue.{with_held}
use Rattle.nr_endpoint.specs.Calls.{with_state, after_calls}
use Rattle.nr_endpoint.specs.Offering.{after_hold, hold_calls, with_offered}
use Rattle.nr_endpoint.proofs.WholeCalls.{held_state}
use Rattle.nr_reduce.specs.declared.outline.Plan.{Plan}
use Rattle.nr_reduce.specs.Plans.{buffers, call_message}
use Rattle.nr_reduce.specs.KeptClient.{registered_all}
use Rattle.nr_requester.specs.Sending.{offered_of}
use Rattle.nr_requester.specs.private.Resuming.{with_held_call}
use Rattle.nr_requester.proofs.Sent.{registered_offered}

pub held_view : (link link2 : LinkSide) (xid credit : ℕ) (p : Plan) (message : List ℕ) (offered : Offered) → link.state.ended ≡ None → link2 ≡ after_calls link (hold_calls message offered) →
    message ≡ call_message xid credit link.state.memory.next p → offered ≡ offered_of p → link2 ≡ with_held_call xid credit p link
held_view link link2 xid credit p message offered lives is said are =
    let s : LinkState = link.state in
    let live_side : is_some s.ended ≡ false = ap (λ (x : Option End). is_some x) lives in
    is
    ∙ sym (held_state link (after_hold message offered s) message offered refl)
    ∙ (λ i. with_state (record s { memory = with_offered s.memory (are i); send_queue = cond (live_side i) s.send_queue (with_held (said i) s.send_queue) }) link)
    ∙ ap (λ (m : RegisteredMemory). with_state (record s { memory = m; send_queue = with_held (call_message xid credit s.memory.next p) s.send_queue }) link) (sym (registered_offered s.memory s.memory.next p))

-- its memory, also if it has ended
pub held_memory : (link link2 : LinkSide) (message : List ℕ) (offered : Offered) → link2 ≡ after_calls link (hold_calls message offered) → link2.state.memory ≡ with_offered link.state.memory offered
held_memory link link2 message offered is =
    ap (λ (l : LinkSide). l.state.memory) (is ∙ sym (held_state link (after_hold message offered link.state) message offered refl))
