-- The side of the link once an event was delivered, and then a Send was queued or the side stopped.
use Rattle.std.proofs.Common.{◌≡◌, ℕ, List, [], None, ap, ◌∙◌}
use Rattle.nr_wire.specs.declared.stream.Awaited.TheVariants.{Fpdu}
use Rattle.nr_link.specs.declared.end.End.TheVariants as ends
use Rattle.nr_endpoint.specs.ReceiveQueue.{delivered}
use Rattle.nr_endpoint.specs.LinkState.{LinkState, LinkSide}
use Rattle.nr_endpoint.specs.Judging.{with_end_of}
use Rattle.nr_endpoint.specs.Calls.{after_call}
use Rattle.nr_endpoint.specs.Calls.Call.{NextEvent, Stop, Send}
use Rattle.nr_endpoint.proofs.Standing.{live_state}
use Rattle.nr_responder.proofs.Executed.{with_message}

pub told_is_lem : (l : LinkSide) → l.awaited ≡ Fpdu → l.rest ≡ [] → after_call l NextEvent ≡ record { awaited = Fpdu; rest = []; state = record l.state { receive_queue = delivered l.state.receive_queue } }
unfolding after_call
told_is_lem l a r = λ i. record { awaited = a i; rest = r i; state = record l.state { receive_queue = delivered l.state.receive_queue } }

pub sent_is : (l : LinkSide) (s : LinkState) (message : List ℕ) → l ≡ record { awaited = Fpdu; rest = []; state = s } → s.ended ≡ None → after_call l (Send message) ≡ record { awaited = Fpdu; rest = []; state = with_message s message }
unfolding after_call
sent_is l s message is live =
    ap (λ (x : LinkSide). after_call x (Send message)) is
    ∙ ap (λ (t : LinkState). record { awaited = Fpdu; rest = []; state = t }) (live_state s (with_message s message) live)

pub stopped_is : (l : LinkSide) (s : LinkState) (reason : ℕ) → l ≡ record { awaited = Fpdu; rest = []; state = s } → s.ended ≡ None → after_call l (Stop reason) ≡ record { awaited = Fpdu; rest = []; state = with_end_of (ends.Bad s.last reason) s }
unfolding after_call
stopped_is l s reason is live =
    ap (λ (x : LinkSide). after_call x (Stop reason)) is
    ∙ ap (λ (t : LinkState). record { awaited = Fpdu; rest = []; state = t }) (live_state s (with_end_of (ends.Bad s.last reason) s) live)
