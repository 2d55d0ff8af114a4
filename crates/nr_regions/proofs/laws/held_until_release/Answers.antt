use Rattle.nr_regions.proofs.Holding.{held_after_register, held_after_event, live_invalidate_other, live_release_here}
use Rattle.nr_regions.proofs.Contents.{dead_until_released, next_after_events, stays_closed}
use Rattle.nr_regions.proofs.laws.held_until_release.Goals as goal

pub returns-clause-begins : goal.returns-clause-begins
returns-clause-begins c = held_after_register

pub returns-clause-lasts : goal.returns-clause-lasts
returns-clause-lasts c = held_after_event

pub returns-clause-dead : goal.returns-clause-dead
returns-clause-dead c = live_release_here

pub returns-clause-invalidated : goal.returns-clause-invalidated
returns-clause-invalidated c = dead_until_released

pub returns-clause-invalidates_one : goal.returns-clause-invalidates_one
returns-clause-invalidates_one c = λ m stag other ne. live_invalidate_other m stag other ne

pub returns-clause-stays_closed : goal.returns-clause-stays_closed
returns-clause-stays_closed c = λ m stag events lt none. stays_closed events m stag lt none

pub returns-clause-rises : goal.returns-clause-rises
returns-clause-rises c = λ m events. next_after_events events m
