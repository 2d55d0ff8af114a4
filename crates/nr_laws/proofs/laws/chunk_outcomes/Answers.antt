use Rattle.nr_laws.proofs.ChunkCauses.{chunk_has_cause, others_have_no_cause}
use Rattle.nr_laws.proofs.CausedCalls.{caused_calls_complete}
use Rattle.nr_laws.proofs.PlannedOffers.{offers_are_planned}
use Rattle.nr_laws.proofs.OwnMessages.{no_own_plan_is_refused}
use Rattle.nr_laws.proofs.AutoReplies.{auto_has_replies}
use Rattle.nr_laws.proofs.AnsweredChanges.{changes_are_answered, chunk_adds_nothing}
use Rattle.nr_laws.proofs.Completed.{no_other_version}
use Rattle.nr_laws.proofs.laws.chunk_outcomes.Goals as goal

pub returns-clause-causes : goal.returns-clause-causes
returns-clause-causes c = chunk_has_cause

pub returns-clause-others : goal.returns-clause-others
returns-clause-others c = others_have_no_cause

pub returns-clause-completed : goal.returns-clause-completed
returns-clause-completed c = caused_calls_complete

pub returns-clause-offers : goal.returns-clause-offers
returns-clause-offers c = offers_are_planned

pub returns-clause-own_plans : goal.returns-clause-own_plans
returns-clause-own_plans c = no_own_plan_is_refused

pub returns-clause-auto : goal.returns-clause-auto
returns-clause-auto c = auto_has_replies

pub returns-clause-changes : goal.returns-clause-changes
returns-clause-changes c = changes_are_answered

pub returns-clause-nothing_added : goal.returns-clause-nothing_added
returns-clause-nothing_added c = chunk_adds_nothing

pub returns-clause-version : goal.returns-clause-version
returns-clause-version c = no_other_version
