-- A server's STags are 32-bit numbers.
use Rattle.std.proofs.Common.{◌+◌, ◌≤◌, Bool, true, false, cond, List, length, arith, length-append}
use Rattle.nr_link.specs.Frames.{Frame, is_hello}
use Rattle.nr_reduce.specs.declared.mark.LinkParameters.{LinkParameters}
use Rattle.nr_reduce.specs.OfferedRegions.{Region}
use Rattle.nr_reduce.specs.Events.{RunEvent}
use Rattle.nr_reduce.specs.Events.RunEvent.{FrameReceived, CallSubmitted, MemoryRevoked, CallExecuted, QueueWritten, ServerTold}
use Rattle.nr_reduce.specs.EndRules.{end_state_after}
use Rattle.nr_reduce.specs.ServerState.{ServerState, next_stag}
use Rattle.nr_reduce.specs.ServerReads.{regions_of, chunks_of, is_over}
use Rattle.nr_reduce.specs.ServerFrames.{FrameEffect, frame_effect}
use Rattle.nr_reduce.specs.Server.{server_rules, server_state_after, initial_server, with_effect, with_own_hello}
use Rattle.nr_reduce.proofs.OwnStags.{kept_after, closed_length}
use Rattle.nr_laws.proofs.ServerInvariant.{length_from}
use Rattle.nr_laws.proofs.WritableOffers.{verdict_few}
use Rattle.nr_laws.proofs.EachEffect.{each_effect, held_messages, held_responses}

abbrev AreFew : List Region → Type 0
AreFew regions = 1 + length regions ≤ 4294967296

few_effect : (k : ServerState) (f : Frame) → AreFew k.regions → AreFew (frame_effect k f).regions
few_effect k f h =
    each_effect k (λ m. Unit {0}) (λ s. AreFew s.regions)
    (held_messages k (λ m. Unit {0}) (λ calls reads regions. AreFew regions) h
    (λ place message c good is. let a = length-append k.regions (regions_of k place c) in let b = length_from c.number place (next_stag k) c.lists (chunks_of c.lists) in let d = verdict_few k message c is in omega (arith, a, b, d)))
    (held_responses k (λ calls reads regions. AreFew regions) h (λ c s g. g) (λ r reads is. h)) f (λ s m is e. tt)

few_after : (opened : LinkParameters) (k : ServerState) (event : RunEvent) → AreFew k.regions → AreFew (server_state_after opened k event).regions
unfolding server_state_after
few_after opened k (FrameReceived f) h = by (is_hello f)
  where
    e : FrameEffect
    e = frame_effect k f

    by : (b : Bool) → AreFew (cond b (with_own_hello opened k f) (with_effect k f e)).regions
    by true = h
    by false = (let l = closed_length (is_over e.calls e.reads) f.end e.regions in let g = few_effect k f h in omega (arith, l, g))
few_after opened k (CallSubmitted place a) h = h
few_after opened k (MemoryRevoked place xid) h = h
few_after opened k (CallExecuted call) h = h
few_after opened k (QueueWritten taken) h = h
few_after opened k (ServerTold what) h = h

pub few_regions : (opened : LinkParameters) (es : List RunEvent) → 1 + length (end_state_after (server_rules opened) (initial_server opened) es).state.regions ≤ 4294967296
few_regions opened es = kept_after (server_rules opened) (λ (k : ServerState). AreFew k.regions) (few_after opened) (initial_server opened) es (omega arith)
