-- Awaited calls, and their lines.
use Rattle.std.specs.List.{AllByRecursion}
use Rattle.std.proofs.Common.{◌≢◌, ℕ, List, [], ◌∷◌, map}
use Rattle.nr_requester.specs.RequesterState.{RequesterState}
use Rattle.nr_world.specs.declared.awaited.AwaitedCall.{AwaitedCall}
use Rattle.nr_world.specs.DrillLinkState.{AwaitedLine}
use Rattle.nr_world.specs.OpenTickets.{AreOpen, LinesOpen}
use Rattle.nr_world.specs.Views.{line_view}

lines_apart : (xid : ℕ) (calls : List AwaitedCall) → AllByRecursion (λ (other : AwaitedCall). other.ticket ≢ xid) calls → AllByRecursion (λ (other : AwaitedLine). other.xid ≢ xid) (map line_view calls)
lines_apart xid [] h = tt
lines_apart xid (call ∷ calls) h = (h.0, lines_apart xid calls h.1)

calls_apart : (xid : ℕ) (calls : List AwaitedCall) → AllByRecursion (λ (other : AwaitedLine). other.xid ≢ xid) (map line_view calls) → AllByRecursion (λ (other : AwaitedCall). other.ticket ≢ xid) calls
calls_apart xid [] h = tt
calls_apart xid (call ∷ calls) h = (h.0, calls_apart xid calls h.1)

pub lines_open : (r : RequesterState) (calls : List AwaitedCall) → AreOpen r calls → LinesOpen r (map line_view calls)
lines_open r [] h = tt
lines_open r (call ∷ calls) h = (h.all_open.0, (lines_apart call.ticket calls h.apart.0, lines_open r calls (record { all_open = h.all_open.1; apart = h.apart.1 })))

pub calls_open : (r : RequesterState) (calls : List AwaitedCall) → LinesOpen r (map line_view calls) → AreOpen r calls
calls_open r [] h = record { all_open = tt; apart = tt }
calls_open r (call ∷ calls) h =
    let rest : AreOpen r calls = calls_open r calls h.1.1 in
    record { all_open = (h.0, rest.all_open); apart = (calls_apart call.ticket calls h.1.0, rest.apart) }
