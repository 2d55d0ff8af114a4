-- What holds of a responder once reads opened and sinks closed.
use Rattle.std.proofs.Common.{◌≡◌, ℕ, ◌≤◌, List, [], ◌∷◌, map, refl, ap, ◌∙◌, arith, All}
use Rattle.nr_header.specs.Constants.{PAYLOAD_MAX}
use Rattle.nr_endpoint.specs.EndpointState.{EndpointState}
use Rattle.nr_endpoint.specs.LinkState.{LinkSide}
use Rattle.nr_endpoint.specs.SendQueue.{SendQueue, with_request}
use Rattle.nr_reduce.specs.ServerState.{PendingRead}
use Rattle.nr_responder.specs.Fetching.{SinkRegion}
use Rattle.nr_responder.specs.declared.call.Pending.{Pending}
use Rattle.nr_responder.specs.declared.call.Ready.{Ready}
use Rattle.nr_responder.specs.declared.call.ReadEntry.{ReadEntry}
use Rattle.nr_responder.specs.declared.call.OpenSink.{OpenSink}
use Rattle.nr_responder.specs.private.Reading.{left_sinks, with_opened, with_released, with_requests}
use Rattle.nr_responder.specs.Sound.{AreFetched, QueuesInvariant, HasOutside, KeepsOutside, around_of, claims_of}
use Rattle.nr_responder.specs.Views.{call_view, read_view, sink_view}
use Rattle.nr_regions.specs.RegisteredMemory.{RegisteredMemory, AreHeldFrom}
use Rattle.nr_responder.proofs.Windows.{keeps_as, keeps_on, rooms_closed, same_outside}
use Rattle.nr_responder.proofs.Sounds.{sound_as}

pub requests_ends : (reads : List PendingRead) (q : SendQueue) → (with_requests reads q).send_ends ≡ q.send_ends
requests_ends [] q = refl
requests_ends (r ∷ reads) q = requests_ends reads (with_request r.sink r.at r.size r.stag r.to q)

pub opened_closed_queues : (l m n : LinkSide) (opened : List PendingRead) (over : List SinkRegion) (calls : List Pending) (ready : List Ready) (used : List (List ℕ)) (a b c : ℕ) → m ≡ with_opened opened l → n ≡ with_released over m → QueuesInvariant 0 l.state calls ready used a b c → QueuesInvariant 0 n.state calls ready used a b c
opened_closed_queues l m n opened over calls ready used a b c link closed h =
    sound_as 0 0 l.state n.state calls ready used a b c (omega arith) (ap (λ (x : LinkSide). x.state.receive_queue.lent) closed ∙ ap (λ (x : LinkSide). x.state.receive_queue.lent) link)
    (ap (λ (x : LinkSide). x.state.receive_queue.receives) closed ∙ ap (λ (x : LinkSide). x.state.receive_queue.receives) link)
    (ap (λ (x : LinkSide). x.state.receive_queue.receive_length) closed ∙ ap (λ (x : LinkSide). x.state.receive_queue.receive_length) link)
    (ap (λ (x : LinkSide). x.state.send_queue.send_ends) closed ∙ ap (λ (x : LinkSide). x.state.send_queue.send_ends) link ∙ requests_ends opened l.state.send_queue) h

pub opened_closed_sound : (e f g : EndpointState) (opened : List PendingRead) (over : List SinkRegion) (calls : List Pending) (ready : List Ready) (used : List (List ℕ)) (reads : List ReadEntry) (sinks left : List OpenSink) (a b c : ℕ) → f.link ≡ with_opened opened e.link → f.outside ≡ e.outside →
    g.link ≡ with_released over f.link → AreHeldFrom g.link.state.memory 0 (claims_of left) → All (λ s. s.registration.len ≤ PAYLOAD_MAX) left → ((n : ℕ) → HasOutside f n → HasOutside g n) → KeepsOutside f g → map sink_view left ≡ left_sinks (map call_view calls) (map read_view reads) (map sink_view sinks) →
    QueuesInvariant 0 e.link.state calls ready used a b c × AreFetched e calls reads sinks → QueuesInvariant 0 g.link.state calls ready used a b c × AreFetched g calls reads left
opened_closed_sound e f g opened over calls ready used reads sinks left a b c link outside closed held short fewer keeps sinks_are h =
    let memory : f.link.state.memory ≡ e.link.state.memory = ap (λ (l : LinkSide). l.state.memory) link in (
      opened_closed_queues e.link f.link g.link opened over calls ready used a b c link closed h.0,
      record {
        held = held;
        short = short;
        rooms = rooms_closed e g calls reads sinks left (keeps_on e f g (keeps_as e f memory outside) keeps) sinks_are held h.1.rooms;
        outside = fewer (around_of calls) (same_outside e f (around_of calls) (ap (λ (m : RegisteredMemory). m.next) memory) outside h.1.outside);
      },
    )
