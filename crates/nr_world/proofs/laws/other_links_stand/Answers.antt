use Rattle.nr_world.proofs.Apart.{other_links_stand}
use Rattle.nr_world.proofs.laws.other_links_stand.Goals as goal

pub returns : goal.returns
returns c = other_links_stand
