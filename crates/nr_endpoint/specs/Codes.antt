-- The codes of the values that contracts see, by which a proof distinguishes them.
use Rattle.std.specs.Prelude.{◌≡◌, ℕ, ◌==◌, Bool, if◌then◌else◌, List, Option, None, Some, refl}
use Rattle.std.specs.Ordering.{nat_cmp}
use Rattle.std.specs.FinMap.{FinMap, code}
use Rattle.std.specs.Coded.{Coded, code_by, coded×, coded_ℕ, coded_bool, coded_list, coded_option}
use Rattle.nr_wire.specs.declared.hello.Side.{Side}
use Rattle.nr_wire.specs.declared.hello.Side.TheVariants.{Initiator, Responder}
use Rattle.nr_wire.specs.declared.stream.Awaited.{Awaited}
use Rattle.nr_wire.specs.declared.stream.Awaited.TheVariants.{Hello as HelloFrom, Fpdu}
use Rattle.nr_regions.specs.declared.denied.Denied.{Denied}
use Rattle.nr_regions.specs.declared.denied.Denied.TheVariants.{NoStag, Bounds, Right}
use Rattle.nr_regions.specs.RegisteredMemory.{RegisteredMemory, Outside}
use Rattle.nr_regions.specs.Windows.{outside_code}
use Rattle.nr_regions.specs.Code.{memory_code}
use Rattle.nr_link.specs.declared.end.End.{End}
use Rattle.nr_link.specs.declared.end.End.TheVariants as ends
use Rattle.nr_link.specs.declared.agreement.SideTerms.{SideTerms}
use Rattle.nr_link.specs.declared.agreement.Agreement.{Agreement}
use Rattle.nr_link.specs.ReceiveState.{ReceiveState}
use Rattle.nr_link.specs.SegmentFaults.{ExpectedResponse}
use Rattle.nr_endpoint.specs.SendQueue.{SendQueue}
use Rattle.nr_endpoint.specs.ReceiveQueue.{DeliveredEvent, ReceiveQueue}
use Rattle.nr_endpoint.specs.ReceiveQueue.DeliveredEvent.{MessageReceived, ReadDone}
use Rattle.nr_endpoint.specs.LinkState.{LinkState, LinkSide}
use Rattle.nr_endpoint.specs.EndpointState.{EndpointState, LinkView}

abbrev pub side_number : Side → ℕ
side_number Initiator = 0
side_number Responder = 1

abbrev pub side_of : ℕ → Side
side_of n = if n == 0 then Initiator else Responder

pub side_of_number : (side : Side) → side_of (side_number side) ≡ side
side_of_number Initiator = refl
side_of_number Responder = refl

abbrev pub side_code : Coded Side
side_code = code_by ℕ coded_ℕ side_number side_of side_of_number

abbrev pub awaited_number : Awaited → ℕ
awaited_number (HelloFrom Initiator) = 0
awaited_number (HelloFrom Responder) = 1
awaited_number Fpdu = 2

abbrev pub awaited_of : ℕ → Awaited
awaited_of n = if n == 0 then HelloFrom Initiator else (if n == 1 then HelloFrom Responder else Fpdu)

pub awaited_of_number : (awaited : Awaited) → awaited_of (awaited_number awaited) ≡ awaited
awaited_of_number (HelloFrom Initiator) = refl
awaited_of_number (HelloFrom Responder) = refl
awaited_of_number Fpdu = refl

abbrev pub awaited_code : Coded Awaited
awaited_code = code_by ℕ coded_ℕ awaited_number awaited_of awaited_of_number

abbrev pub denied_number : Denied → ℕ
denied_number NoStag = 0
denied_number Bounds = 1
denied_number Right = 2

abbrev pub denied_of : ℕ → Denied
denied_of n = if n == 0 then NoStag else (if n == 1 then Bounds else Right)

abbrev pub end_numbers : End → ℕ × (ℕ × (ℕ × ℕ))
end_numbers (ends.Bad at reason) = (0, (at, (reason, 0)))
end_numbers (ends.Denied stag offset why) = (1, (stag, (offset, denied_number why)))
end_numbers (ends.NoBuffer msn) = (2, (msn, (0, 0)))
end_numbers (ends.Terminated reason) = (3, (reason, (0, 0)))
end_numbers ends.Memory = (4, (0, (0, 0)))

abbrev pub end_of : ℕ × (ℕ × (ℕ × ℕ)) → End
end_of p =
    if p.0 == 0 then ends.Bad p.1.0 p.1.1.0
    else (if p.0 == 1 then ends.Denied p.1.0 p.1.1.0 (denied_of p.1.1.1)
    else (if p.0 == 2 then ends.NoBuffer p.1.0
    else (if p.0 == 3 then ends.Terminated p.1.0
    else ends.Memory)))

pub end_of_numbers : (end : End) → end_of (end_numbers end) ≡ end
end_of_numbers (ends.Bad at reason) = refl
end_of_numbers (ends.Denied stag offset NoStag) = refl
end_of_numbers (ends.Denied stag offset Bounds) = refl
end_of_numbers (ends.Denied stag offset Right) = refl
end_of_numbers (ends.NoBuffer msn) = refl
end_of_numbers (ends.Terminated reason) = refl
end_of_numbers ends.Memory = refl

abbrev pub end_code : Coded End
end_code = code_by (ℕ × (ℕ × (ℕ × ℕ))) (coded× coded_ℕ (coded× coded_ℕ (coded× coded_ℕ coded_ℕ))) end_numbers end_of end_of_numbers

abbrev pub message_in : DeliveredEvent → Option (ℕ × (Option ℕ × List ℕ))
message_in (MessageReceived number invalidated bytes) = Some (number, (invalidated, bytes))
message_in ReadDone = None

abbrev pub delivery_of : Option (ℕ × (Option ℕ × List ℕ)) → DeliveredEvent
delivery_of (Some message) = MessageReceived message.0 message.1.0 message.1.1
delivery_of None = ReadDone

pub delivery_of_message : (delivery : DeliveredEvent) → delivery_of (message_in delivery) ≡ delivery
delivery_of_message (MessageReceived number invalidated bytes) = refl
delivery_of_message ReadDone = refl

abbrev pub delivery_code : Coded DeliveredEvent
delivery_code = code_by (Option (ℕ × (Option ℕ × List ℕ))) (coded_option (coded× coded_ℕ (coded× (coded_option coded_ℕ) (coded_list coded_ℕ)))) message_in delivery_of delivery_of_message

abbrev pub received_code : Coded ReceiveState
received_code =
    code_by (ℕ × (Option (List ℕ) × ℕ)) (coded× coded_ℕ (coded× (coded_option (coded_list coded_ℕ)) coded_ℕ)) (λ h. (h.sends, (h.begun, h.requests)))
    (λ p. record { sends = p.0; begun = p.1.0; requests = p.1.1 }) (λ _. refl)

abbrev pub receive_queue_code : Coded ReceiveQueue
receive_queue_code =
    code_by (ℕ × (ReceiveState × (ℕ × (ℕ × (List DeliveredEvent × ℕ))))) (coded× coded_ℕ (coded× received_code (coded× coded_ℕ (coded× coded_ℕ (coded× (coded_list delivery_code) coded_ℕ)))))
    (λ q. (q.receives, (q.received, (q.free, (q.lent, (q.deliveries, q.receive_length))))))
    (λ p. record { receives = p.0; received = p.1.0; free = p.1.1.0; lent = p.1.1.1.0; deliveries = p.1.1.1.1.0; receive_length = p.1.1.1.1.1 }) (λ _. refl)

abbrev pub send_queue_code : Coded SendQueue
send_queue_code =
    code_by (List ℕ × (List ℕ × (List ℕ × (List ℕ × (ℕ × (ℕ × (ℕ × List (List ℕ)))))))) (coded× (coded_list coded_ℕ) (coded× (coded_list coded_ℕ) (coded× (coded_list coded_ℕ) (coded× (coded_list coded_ℕ) (coded× coded_ℕ (coded× coded_ℕ (coded× coded_ℕ (coded_list (coded_list coded_ℕ)))))))))
    (λ q. (q.hello, (q.fpdus, (q.send_ends, (q.response_ends, (q.sends_left, (q.last_send, (q.last_request, q.held))))))))
    (λ p. record { hello = p.0; fpdus = p.1.0; send_ends = p.1.1.0; response_ends = p.1.1.1.0; sends_left = p.1.1.1.1.0; last_send = p.1.1.1.1.1.0; last_request = p.1.1.1.1.1.1.0; held = p.1.1.1.1.1.1.1 }) (λ _. refl)

abbrev pub read_code : Coded ExpectedResponse
read_code = code_by (ℕ × (ℕ × ℕ)) (coded× coded_ℕ (coded× coded_ℕ coded_ℕ)) (λ r. (r.sink, (r.at, r.left))) (λ p. record { sink = p.0; at = p.1.0; left = p.1.1 }) (λ _. refl)

abbrev pub terms_code : Coded SideTerms
terms_code = code_by (ℕ × (ℕ × Bool)) (coded× coded_ℕ (coded× coded_ℕ coded_bool)) (λ t. (t.units, (t.number, t.invalidates))) (λ p. record { units = p.0; number = p.1.0; invalidates = p.1.1 }) (λ _. refl)

abbrev pub agreement_code : Coded Agreement
agreement_code = code_by (ℕ × (ℕ × Bool)) (coded× coded_ℕ (coded× coded_ℕ coded_bool)) (λ a. (a.up, (a.down, a.invalidates))) (λ p. record { up = p.0; down = p.1.0; invalidates = p.1.1 }) (λ _. refl)

-- what a side says, and what is agreed
abbrev pub Said : Type 0
Said = SideTerms × (List ℕ × (Agreement × (ℕ × (ℕ × Option Agreement))))

abbrev pub said_code : Coded Said
said_code = coded× terms_code (coded× (coded_list coded_ℕ) (coded× agreement_code (coded× coded_ℕ (coded× coded_ℕ (coded_option agreement_code)))))

abbrev pub state_code : Coded LinkState
state_code =
    code_by (Side × (Bool × (ℕ × (ℕ × (Option End × (ReceiveQueue × (List ExpectedResponse × (RegisteredMemory × (SendQueue × Said)))))))))
    (coded× side_code (coded× coded_bool (coded× coded_ℕ (coded× coded_ℕ (coded× (coded_option end_code) (coded× receive_queue_code (coded× (coded_list read_code) (coded× memory_code (coded× send_queue_code said_code)))))))))
    (λ s. (s.side, (s.has_hello, (s.last, (s.place, (s.ended, (s.receive_queue, (s.reads, (s.memory, (s.send_queue, (s.terms, (s.private, (s.agreed, (s.message_max, (s.client, s.earlier)))))))))))))))
    (λ p. record { side = p.0; has_hello = p.1.0; last = p.1.1.0; place = p.1.1.1.0; ended = p.1.1.1.1.0; receive_queue = p.1.1.1.1.1.0; reads = p.1.1.1.1.1.1.0; memory = p.1.1.1.1.1.1.1.0; send_queue = p.1.1.1.1.1.1.1.1.0; terms = p.1.1.1.1.1.1.1.1.1.0; private = p.1.1.1.1.1.1.1.1.1.1.0; agreed = p.1.1.1.1.1.1.1.1.1.1.1.0; message_max = p.1.1.1.1.1.1.1.1.1.1.1.1.0; client = p.1.1.1.1.1.1.1.1.1.1.1.1.1.0; earlier = p.1.1.1.1.1.1.1.1.1.1.1.1.1.1 }) (λ _. refl)

abbrev pub link_code : Coded LinkSide
link_code =
    code_by (Awaited × (List ℕ × LinkState)) (coded× awaited_code (coded× (coded_list coded_ℕ) state_code)) (λ f. (f.awaited, (f.rest, f.state)))
    (λ p. record { awaited = p.0; rest = p.1.0; state = p.1.1 }) (λ _. refl)

abbrev pub endpoint_code : Coded EndpointState
endpoint_code =
    code_by (LinkSide × (List ℕ × (ℕ × FinMap nat_cmp Outside))) (coded× link_code (coded× (coded_list coded_ℕ) (coded× coded_ℕ (code coded_ℕ outside_code))))
    (λ e. (e.link, (e.staging, (e.room, e.outside)))) (λ p. record { link = p.0; staging = p.1.0; room = p.1.1.0; outside = p.1.1.1 }) (λ _. refl)

abbrev pub link_view_code : Coded LinkView
link_view_code =
    code_by (LinkState × (ℕ × FinMap nat_cmp Outside)) (coded× state_code (coded× coded_ℕ (code coded_ℕ outside_code)))
    (λ v. (v.state, (v.room, v.outside))) (λ p. record { state = p.0; room = p.1.0; outside = p.1.1 }) (λ _. refl)
