use Rattle.std.proofs.Common.{◌≡◌, ℕ, ◌+◌, ◌*◌, List, length, map, refl, ap, ◌∙◌, arith}
use Rattle.std.specs.Prelude.{sum_by}
use Rattle.std.proofs.lemmas.List.{length-map}
use Rattle.nr_regions.specs.RegisteredMemory.{outside_held}
use Rattle.nr_endpoint.specs.EndpointState.{bytes_of}
use Rattle.nr_responder.specs.ResponderState.{unsent}
use Rattle.nr_responder.specs.declared.call.Pending.{Pending}
use Rattle.nr_responder.specs.Sound.{around_of, payload_len, room_len, rooms_of, with_staging}
use Rattle.nr_responder.proofs.StepBounds.{held_bound}
use Rattle.nr_responder.specs.Views.{call_view}
use Rattle.nr_responder.proofs.Held.{held_sum, rooms_most}
use Rattle.nr_responder.proofs.HeldSinks.{outside_most}
use Rattle.nr_responder.proofs.Windows.{rooms_few}
use Rattle.nr_responder.proofs.KeptLists.{lists_fit}
use Rattle.nr_responder.proofs.server_end.ServerEnd.held.Goals as goal

pub returns-clause-is : goal.returns-clause-is
returns-clause-is c =
    let n : ℕ = c.args.self.now.endpoint.link.state.receive_queue.receive_length in
    let calls = c.args.self.now.calls.items in
    let outside : ℕ = outside_held c.args.self.now.endpoint.outside in
    let rooms : c.rooms_len.result + c.payloads_len.result + outside ≡ rooms_of calls c.args.self.now.ready.items c.args.self.now.endpoint.outside =
    (λ i. (c.rooms_len.ensures.sum ∙ ap (λ (cs : List Pending). sum_by (λ p. room_len p.room) cs) c.as_slice.ensures.value) i + c.payloads_len.ensures.sum i + outside) in
    let count : c.len.result + c.len-2.result ≡ length (map call_view calls) + unsent c.args.self.now.endpoint.link.state =
    (let same = c.requires.sound.0.unsent_is in omega (arith, c.len.ensures, c.len-2.ensures, same, length-map calls call_view)) in
    let receives : c.receives_len.result ≡ n * (length (map call_view calls) + unsent c.args.self.now.endpoint.link.state) = c.receives_len.ensures.is ∙ (λ i. c.receive_length-each.ensures.is i * count i) in
    held_sum _ c.held.result (length c.args.self.now.endpoint.staging) (bytes_of c.args.self.now.endpoint.link.state) outside
    c.receives_len.result (n * (length (map call_view calls) + unsent c.args.self.now.endpoint.link.state)) (c.rooms_len.result + c.payloads_len.result) c.lists_len.result refl c.held.ensures.is receives
    ∙ (λ i. length c.args.self.now.endpoint.staging + bytes_of c.args.self.now.endpoint.link.state + n * (length (map call_view calls) + unsent c.args.self.now.endpoint.link.state) + rooms i + c.lists_len.ensures.is i)

pub returns-clause-rooms : goal.returns-clause-rooms
returns-clause-rooms c =
    let e = c.args.self.now.endpoint in
    let calls = c.args.self.now.calls.items in
    let few = c.requires.sound.0.few in
    let same = length-map calls call_view in
    let ready = c.payloads_len.ensures.sum in
    let most = c.payloads_len.ensures.most in
    let of_calls = rooms_few e.outside c.args.self.now.sinks.items c.args.self.now.reads.items calls c.requires.sound.1.rooms in
    rooms_most (sum_by (λ p. room_len p.room) calls) (sum_by (λ q. payload_len q.payload) c.args.self.now.ready.items) (outside_held e.outside) (around_of calls) (length (map call_view calls)) (length c.args.self.now.ready.items) (omega (arith, of_calls, same)) (omega (arith, ready, most))
    (outside_most e (around_of calls) c.requires.sound.1.outside) (omega (arith, few, same))

pub returns-clause-bound : goal.returns-clause-bound
returns-clause-bound c =
    let unsent_is = c.requires.sound.0.unsent_is in
    let lent = c.requires.sound.0.lent in
    let same = length-map c.args.self.now.calls.items call_view in
    held_bound (with_staging c.args.self.now) _ (returns-clause-is c) c.requires.bounded (lists_fit c.args.self.now c.requires.sound c.requires.bounded.0 c.facts.ensures.receives) (returns-clause-rooms c) c.facts.ensures.receives (omega (arith, unsent_is, lent, same))

pub returns-clause-lists : goal.returns-clause-lists
returns-clause-lists c = lists_fit c.args.self.now c.requires.sound c.requires.bounded.0 c.facts.ensures.receives
