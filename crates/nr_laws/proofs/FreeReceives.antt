-- On a matched link a Send that is received finds a receive, and no side has more Read Requests open than it may.
use Rattle.std.proofs.Common.{◌≡◌, ℕ, ◌≤◌, ◌<◌, Bool, true, false, cond, ltb, ◌||◌, List, ◌++◌, length, Option, None, Some, refl, ap, arith, lt-ltb}
use Rattle.std.proofs.lemmas.List.{length-take}
use Rattle.nr_reduce.specs.declared.mark.LinkParameters.{LinkParameters}
use Rattle.nr_link.specs.Limits.{open_reads_max}
use Rattle.nr_link.specs.SegmentFaults.{is_begun}
use Rattle.nr_reduce.specs.ClientState.{ClientState, responses_owed}
use Rattle.nr_reduce.specs.ServerState.{ServerState, receives_in_use}
use Rattle.nr_reduce.specs.Plans.{one_if}
use Rattle.nr_reduce.specs.ServerReads.{open_reads}
use Rattle.nr_laws.proofs.FrameContents.{total_of, sends_in, requests_in}
use Rattle.nr_laws.proofs.LinkInvariants.{Transit, TotalsAgree, WithinWindow}
use Rattle.nr_laws.proofs.Totals.{total_append}

said_some : (hello_bit : Bool) (n : ℕ) → cond hello_bit n 0 ≤ n
said_some true n = omega arith
said_some false n = omega arith

-- a Send that is in transit is begun, or the receives in use are fewer than the calls that are out
pub receives : (opened : LinkParameters) (k : ClientState) (s : ServerState) (w : Transit) → TotalsAgree k s w → WithinWindow opened k → 0 < total_of sends_in (w.up ++ w.queued_up) → (is_begun s.received.begun || ltb (receives_in_use s) opened.receives) ≡ true
unfolding receives_in_use
receives opened k s w c g some = by s.received.begun refl
  where
    by : (b : Option (List ℕ)) → s.received.begun ≡ b → (is_begun b || ltb (receives_in_use s) opened.receives) ≡ true
    by (Some bytes) is = refl
    by None is =
        let none : one_if (is_begun s.received.begun) ≡ 0 = ap (λ (b : Option (List ℕ)). one_if (is_begun b)) is in
        lt-ltb (receives_in_use s) opened.receives
        (omega (arith, none, c.calls_up, c.messages_down, c.messages, c.out, c.waiting, g.window, g.receives, some, total_append sends_in w.up w.queued_up, said_some k.has_hello k.sends))

-- a Read Request that is received finds fewer responses unwritten than there may be
pub requests : (opened : LinkParameters) (k : ClientState) (s : ServerState) (w : Transit) → TotalsAgree k s w → 0 < total_of requests_in w.down → responses_owed k < open_reads_max
requests opened k s w c some =
    let few : length (open_reads s) ≤ open_reads_max = omega (arith, length-take open_reads_max s.reads) in
    omega (arith, few, c.reads, c.responses, some)
