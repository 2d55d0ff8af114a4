use Rattle.nr_endpoint.proofs.MemoryLaws.{memory_follows_events, places_are_allowed, open_region_holds, released_buffer_holds, released_stays_dead}
use Rattle.nr_endpoint.proofs.ClaimLaws.{invalidated_stays_closed}
use Rattle.nr_endpoint.proofs.ReadLaws.{reads_are_allowed_lem, nothing_else_is_read, other_frames_queue_nothing}
use Rattle.nr_endpoint.proofs.PlaceOrder.{places_are_in_order, arrivals_rise}
use Rattle.nr_endpoint.proofs.laws.memory_follows_accesses.Goals as goal

pub returns-clause-follows : goal.returns-clause-follows
returns-clause-follows c = memory_follows_events

pub returns-clause-places : goal.returns-clause-places
returns-clause-places c = places_are_allowed

pub returns-clause-reads : goal.returns-clause-reads
returns-clause-reads c = reads_are_allowed_lem

pub returns-clause-nothing_else : goal.returns-clause-nothing_else
returns-clause-nothing_else c = nothing_else_is_read

pub returns-clause-others : goal.returns-clause-others
returns-clause-others c = other_frames_queue_nothing

pub returns-clause-while_open : goal.returns-clause-while_open
returns-clause-while_open c = open_region_holds

pub returns-clause-released : goal.returns-clause-released
returns-clause-released c = released_buffer_holds

pub returns-clause-dead : goal.returns-clause-dead
returns-clause-dead c = released_stays_dead

pub returns-clause-invalidated : goal.returns-clause-invalidated
returns-clause-invalidated c = invalidated_stays_closed

pub returns-clause-order : goal.returns-clause-order
returns-clause-order c = places_are_in_order

pub returns-clause-rise : goal.returns-clause-rise
returns-clause-rise c = arrivals_rise
