use Rattle.nr_laws.proofs.CompletedChanges.{completed_changes_have_entries, changes_take_effect_once}
use Rattle.nr_laws.proofs.EntriesApart.{no_entry_twice}
use Rattle.nr_laws.proofs.LaterOutcomes.{no_outcome_twice}
use Rattle.nr_laws.proofs.OldCalls.{no_call_is_old}
use Rattle.nr_laws.proofs.NumberedChanges.{numbered_changes_are_answered}
use Rattle.nr_laws.proofs.NumberedPlaces.{numbered_links_are_at_places}
use Rattle.nr_laws.proofs.NumbersHeard.{numbers_are_heard}
use Rattle.nr_laws.proofs.PlacesUntilLeft.{links_are_at_places_until_left}
use Rattle.nr_laws.proofs.PlacesByNumber.{places_follow_by_number}
use Rattle.nr_laws.proofs.laws.once_each.Goals as goal

pub returns-clause-entries : goal.returns-clause-entries
returns-clause-entries c = no_entry_twice

pub returns-clause-heard : goal.returns-clause-heard
returns-clause-heard c = numbers_are_heard

pub returns-clause-completed : goal.returns-clause-completed
returns-clause-completed c = completed_changes_have_entries

pub returns-clause-plain : goal.returns-clause-plain
returns-clause-plain c = numbered_links_are_at_places

pub returns-clause-places : goal.returns-clause-places
returns-clause-places c = places_follow_by_number

pub returns-clause-outcomes : goal.returns-clause-outcomes
returns-clause-outcomes c = no_outcome_twice

pub returns-clause-old : goal.returns-clause-old
returns-clause-old c = no_call_is_old

pub returns-clause-answered : goal.returns-clause-answered
returns-clause-answered c = numbered_changes_are_answered

pub returns-clause-each : goal.returns-clause-each
returns-clause-each c = changes_take_effect_once

pub returns-clause-until_left : goal.returns-clause-until_left
returns-clause-until_left c = links_are_at_places_until_left
