-- The accesses of the peer and the events, by the bytes of its stream that came.
use Rattle.std.specs.Prelude.{ℕ, ◌<◌, ◌≤◌, List, length, All, Option}
use Rattle.nr_wire.specs.declared.hello.Side.{Side}
use Rattle.nr_regions.specs.Events.{tagged_segments}
use Rattle.nr_link.specs.declared.agreement.SideTerms.{SideTerms}
use Rattle.nr_link.specs.declared.agreement.Agreement.{Agreement}
use Rattle.nr_endpoint.specs.LinkState.{initial_link}
use Rattle.nr_endpoint.specs.Calls.{Call, after_calls}
use Rattle.nr_endpoint.specs.DeliveryLaws.{deliveries_made}
use Rattle.nr_endpoint.specs.Laws.{bytes_fed, memory_events}

-- The bytes that were fed by some calls, those of an incomplete frame among them, divide the tagged segments: each that these calls placed
-- ends within the bytes, and each that later calls place ends after them. So a grant that begins once these bytes came covers only the later
-- ones.
abbrev pub ReceivedBytes : Type 0
ReceivedBytes = (side : Side) (receives first_stag : ℕ) (terms : SideTerms) (earlier : Option Agreement) (before after : List Call) →
    let start = initial_link side receives first_stag terms earlier in
    let came = length (bytes_fed start before) in
    All (λ segment. segment.end ≤ came) (tagged_segments (memory_events start before))
    × All (λ segment. came < segment.end) (tagged_segments (memory_events (after_calls start before) after))

-- They divide the events likewise.
abbrev pub EventsOfReceivedBytes : Type 0
EventsOfReceivedBytes = (side : Side) (receives first_stag : ℕ) (terms : SideTerms) (earlier : Option Agreement) (before after : List Call) →
    let start = initial_link side receives first_stag terms earlier in
    let came = length (bytes_fed start before) in
    All (λ made. made.end ≤ came) (deliveries_made start before)
    × All (λ made. came < made.end) (deliveries_made (after_calls start before) after)
