use Rattle.nr_shared_laws.proofs.BothSides.{session_changes_take_effect_once}
use Rattle.nr_shared_laws.proofs.laws.session_changes_take_effect_once.Goals as goal

pub returns : goal.returns
returns c = session_changes_take_effect_once
