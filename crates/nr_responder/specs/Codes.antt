-- The code of what contracts see, by which a proof tells two values apart.
use Rattle.std.specs.Prelude.{ℕ, List, Option, refl}
use Rattle.std.specs.Coded.{Coded, code_by, coded×, coded_ℕ, coded_list, coded_option}
use Rattle.nr_header.specs.declared.header.RdmaSegment.{RdmaSegment}
use Rattle.nr_header.specs.declared.header.ReadSegment.{ReadSegment}
use Rattle.nr_header.specs.declared.header.ChunkLists.{ChunkLists}
use Rattle.nr_endpoint.specs.LinkState.{LinkSide}
use Rattle.nr_endpoint.specs.Codes.{link_code}
use Rattle.nr_reduce.specs.ServerState.{PendingCall, PendingRead}
use Rattle.nr_responder.specs.declared.granting.Credits.{Credits}
use Rattle.nr_responder.specs.Fetching.{SinkRegion, Fetching}
use Rattle.nr_responder.specs.ResponderState.{ResponderSide, ResponderState}

abbrev pub segment_code : Coded RdmaSegment
segment_code =
    code_by (ℕ × (ℕ × ℕ)) (coded× coded_ℕ (coded× coded_ℕ coded_ℕ)) (λ s. (s.handle, (s.length, s.offset)))
    (λ p. record { handle = p.0; length = p.1.0; offset = p.1.1 }) (λ _. refl)

abbrev pub entry_code : Coded ReadSegment
entry_code =
    code_by (ℕ × (ℕ × (ℕ × ℕ))) (coded× coded_ℕ (coded× coded_ℕ (coded× coded_ℕ coded_ℕ))) (λ r. (r.position, (r.handle, (r.length, r.offset))))
    (λ p. record { position = p.0; handle = p.1.0; length = p.1.1.0; offset = p.1.1.1 }) (λ _. refl)

abbrev pub lists_code : Coded ChunkLists
lists_code =
    code_by (List ReadSegment × (List (List RdmaSegment) × Option (List RdmaSegment)))
    (coded× (coded_list entry_code) (coded× (coded_list (coded_list segment_code)) (coded_option (coded_list segment_code))))
    (λ l. (l.read, (l.write, l.reply))) (λ p. record { read = p.0; write = p.1.0; reply = p.1.1 }) (λ _. refl)

abbrev pub call_code : Coded PendingCall
call_code =
    code_by (ℕ × (ℕ × (ChunkLists × Option (List ℕ)))) (coded× coded_ℕ (coded× coded_ℕ (coded× lists_code (coded_option (coded_list coded_ℕ)))))
    (λ c. (c.number, (c.xid, (c.lists, c.inline)))) (λ p. record { number = p.0; xid = p.1.0; lists = p.1.1.0; inline = p.1.1.1 }) (λ _. refl)

abbrev pub read_code : Coded PendingRead
read_code =
    code_by (ℕ × (ℕ × (ℕ × (ℕ × (ℕ × (ℕ × ℕ)))))) (coded× coded_ℕ (coded× coded_ℕ (coded× coded_ℕ (coded× coded_ℕ (coded× coded_ℕ (coded× coded_ℕ coded_ℕ))))))
    (λ r. (r.number, (r.position, (r.sink, (r.at, (r.size, (r.stag, r.to)))))))
    (λ p. record { number = p.0; position = p.1.0; sink = p.1.1.0; at = p.1.1.1.0; size = p.1.1.1.1.0; stag = p.1.1.1.1.1.0; to = p.1.1.1.1.1.1 }) (λ _. refl)

abbrev pub sink_code : Coded SinkRegion
sink_code =
    code_by (ℕ × (ℕ × (ℕ × ℕ))) (coded× coded_ℕ (coded× coded_ℕ (coded× coded_ℕ coded_ℕ))) (λ s. (s.number, (s.position, (s.stag, s.len))))
    (λ p. record { number = p.0; position = p.1.0; stag = p.1.1.0; len = p.1.1.1 }) (λ _. refl)

abbrev pub fetching_code : Coded Fetching
fetching_code =
    code_by (List PendingRead × (List SinkRegion × List (Option (List ℕ)))) (coded× (coded_list read_code) (coded× (coded_list sink_code) (coded_list (coded_option (coded_list coded_ℕ)))))
    (λ f. (f.reads, (f.sinks, f.payloads))) (λ p. record { reads = p.0; sinks = p.1.0; payloads = p.1.1 }) (λ _. refl)

abbrev pub credits_code : Coded Credits
credits_code =
    code_by (ℕ × (ℕ × (ℕ × ℕ))) (coded× coded_ℕ (coded× coded_ℕ (coded× coded_ℕ coded_ℕ))) (λ c. (c.receives, (c.granted, (c.low, c.word))))
    (λ p. record { receives = p.0; granted = p.1.0; low = p.1.1.0; word = p.1.1.1 }) (λ _. refl)

abbrev pub side_code : Coded ResponderSide
side_code =
    code_by (LinkSide × (List PendingCall × (List ℕ × (Credits × Fetching)))) (coded× link_code (coded× (coded_list call_code) (coded× (coded_list coded_ℕ) (coded× credits_code fetching_code))))
    (λ v. (v.link, (v.calls, (v.ready, (v.credits, v.fetching))))) (λ p. record { link = p.0; calls = p.1.0; ready = p.1.1.0; credits = p.1.1.1.0; fetching = p.1.1.1.1 }) (λ _. refl)

abbrev pub responder_code : Coded ResponderState
responder_code =
    code_by (ResponderSide × (List ℕ × ℕ)) (coded× side_code (coded× (coded_list coded_ℕ) coded_ℕ)) (λ v. (v.side, (v.staging, v.rooms)))
    (λ p. record { side = p.0; staging = p.1.0; rooms = p.1.1 }) (λ _. refl)
