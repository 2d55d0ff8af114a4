-- How long the lists are that a side of a link keeps, beside its byte buffers. The bounds are own.
use Rattle.std.specs.Prelude.{◌≡◌, ℕ, ◌+◌, ◌≤◌, true, List, [], ◌∷◌, length, is_some, Option}
use Rattle.std.specs.FinMap.{len}
use Rattle.nr_wire.specs.declared.hello.Side.{Side}
use Rattle.nr_regions.specs.RegisteredMemory.{held_region}
use Rattle.nr_link.specs.Limits.{open_reads_max}
use Rattle.nr_link.specs.declared.agreement.SideTerms.{SideTerms}
use Rattle.nr_link.specs.declared.agreement.Agreement.{Agreement}
use Rattle.nr_endpoint.specs.ReceiveQueue.{messages_in}
use Rattle.nr_endpoint.specs.LinkState.{LinkState, LinkSide, initial_link}
use Rattle.nr_endpoint.specs.Calls.{Call, after_call, after_calls}
use Rattle.nr_endpoint.specs.Calls.Call.{Register, Release}

-- Of every side. Each receive that is free, and each message that wasn't delivered to the owner yet, is a receive with which the side was opened. No more
-- events wait than bytes came. At most eight Read Requests are open.
pub record ListsFit (s : LinkState) : Type 0 where
  pub receives : s.receive_queue.free + messages_in s.receive_queue.deliveries ≤ s.receive_queue.receives
  pub events : length s.receive_queue.deliveries ≤ s.place
  pub reads : length s.reads ≤ open_reads_max

-- ---- After any calls

-- At most as many Sends wait as there are bytes of FPDUs to write.
abbrev pub WaitingSendsHaveBytes : Type 0
WaitingSendsHaveBytes = (side : Side) (receives first_stag : ℕ) (terms : SideTerms) (earlier : Option Agreement) (calls : List Call) →
    let s = (after_calls (initial_link side receives first_stag terms earlier) calls).state in
    length s.send_queue.send_ends ≤ length s.send_queue.fpdus

-- whether a call registers a region, and whether it releases one, as a count
abbrev pub registered : Call → ℕ
registered (Register buf right) = 1
registered _ = 0

abbrev pub released : Call → ℕ
released (Release stag) = 1
released _ = 0

abbrev pub count_calls : (Call → ℕ) → List Call → ℕ
count_calls one [] = 0
count_calls one (call ∷ calls) = one call + count_calls one calls

-- what is released is held, as `release` requires
abbrev pub IsHeldRelease : LinkSide → Call → Type 0
IsHeldRelease link (Release stag) = is_some (held_region link.state.memory stag) ≡ true
IsHeldRelease link _ = Unit {0}

abbrev pub AreHeldReleases : LinkSide → List Call → Type 0
AreHeldReleases link [] = Unit {0}
AreHeldReleases link (call ∷ calls) = IsHeldRelease link call × AreHeldReleases (after_call link call) calls

-- The regions that are held are as many as were registered and not released.
abbrev pub HeldRegionsAreRegistered : Type 0
HeldRegionsAreRegistered = (side : Side) (receives first_stag : ℕ) (terms : SideTerms) (earlier : Option Agreement) (calls : List Call) → AreHeldReleases (initial_link side receives first_stag terms earlier) calls →
    let s = (after_calls (initial_link side receives first_stag terms earlier) calls).state in
    len s.memory.held + count_calls released calls ≡ count_calls registered calls
