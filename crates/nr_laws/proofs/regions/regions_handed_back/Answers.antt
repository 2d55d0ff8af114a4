use Rattle.nr_laws.proofs.HandedBack.{closed_regions_stand, ended_regions_stand, closed_regions_hold_what_stood, lost_hands_back}
use Rattle.nr_laws.proofs.DoneBack.{done_hands_back}
use Rattle.nr_laws.proofs.regions.regions_handed_back.Goals as goal

pub returns-clause-closed : goal.returns-clause-closed
returns-clause-closed c = closed_regions_stand

pub returns-clause-ended : goal.returns-clause-ended
returns-clause-ended c = ended_regions_stand

pub returns-clause-messages : goal.returns-clause-messages
returns-clause-messages c = closed_regions_hold_what_stood

pub returns-clause-done : goal.returns-clause-done
returns-clause-done c = done_hands_back

pub returns-clause-lost : goal.returns-clause-lost
returns-clause-lost c = lost_hands_back
